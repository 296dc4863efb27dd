-- What a new setting leaves, by the paper's conditions on it and by the box: one state. Assumes nothing.
use Prim.Native.Nat.{ℕ, zero, suc, ◌≤◌, ◌<◌}
use mathlib.Core.Path.{◌≡◌, refl, sym, ◌∙◌}
use mathlib.Core.List.{List}
use mathlib.Core.Logic.{⊎_elim}
use mathlib.Core.Bool.{true, false}
use lib.Dec.{ltb, eqb}
use lib.ListN.{length, get_or, replicate, length-replicate}
use borrow.Author.Tests.{eq-eqb, ltb-true, ltb-false}
use Rattle.base_laws.specs.Lists.{part}
use Rattle.base_laws.proofs.Everywhere.{pair_is}
use Rattle.base_laws.proofs.Meanings.{same_is}
use Rattle.base_laws.proofs.OnFirst.{changes}
use Rattle.base_laws.proofs.Tests.{known}
use Rattle.base_period.specs.Periods.{hold_of}
use Rattle.state_settings.specs.Settings.{Settings, slots}
use Rattle.loss_session.specs.Session.{cleared_session}
use Rattle.state_view.specs.State.{State}
use Rattle.state_view.specs.Changed.{put, next, with_slots}
use Rattle.call_setting.specs.Start.{start_of, zero_state}
use Rattle.paper_said.specs.Started.{Fresh, NoSettings, AllZero}

-- two lists of one length that hold the same at each place
pub alike : (l m : List ℕ) (n : ℕ) → length l ≡ n → length m ≡ n → ((i : ℕ) → i < n → get_or l i 0 ≡ get_or m i 0) → l ≡ m
alike l m n a b e = (same_is l m).0 ((pair_is eqb l m 0 0).1 (a ∙ sym b, λ i h. eq-eqb (get_or l i 0) (get_or m i 0) (e i (rw a at h))))

-- past the end too a list of zeros holds 0
zeros : (n k : ℕ) → ◌≡◌ {A = ℕ} (get_or (replicate n 0) k 0) 0
zeros zero k = refl
zeros (suc n) zero = refl
zeros (suc n) (suc k) = zeros n k

-- a state in which nothing runs, is counted or is measured, but for peers' timers and the next CCM
record Bare (s : State) : Type 0 where
  rdi : s.rdi ≡ replicate slots 0
  mismerge : s.mismerge ≡ 0
  level : s.unexpected_level ≡ 0
  mep : s.unexpected_mep ≡ 0
  period : s.unexpected_period ≡ 0
  ais : s.ais ≡ 0
  lck : s.lck ≡ 0
  sent : s.sent ≡ 0
  received : s.received ≡ 0
  session : s.session ≡ cleared_session

abbrev bare_state : Settings → List ℕ → ℕ → State
bare_state t timers n = put next n (with_slots timers (replicate slots 0) (start_of t))

bare-is : (s : State) → Bare s → s ≡ bare_state s.settings s.timers s.next
bare-is s b =
    let e : put next s.next s ≡ bare_state s.settings s.timers s.next =
    rw (b.rdi, b.mismerge, b.level, b.mep, b.period, b.ais, b.lck, b.sent, b.received, b.session) in
    e

module _ (t : Settings) where
  long : length (start_of t).timers ≡ slots
  long = changes.long (λ x. hold_of t.period) t.count (replicate {A = ℕ} slots 0) ∙ length-replicate {A = ℕ} slots 0

  used : (k : ℕ) → k < slots → k < t.count → get_or (start_of t).timers k 0 ≡ hold_of t.period
  used k there h =
      changes.done (λ x. hold_of t.period) t.count (replicate slots 0) 0 k h (rw (length-replicate {A = ℕ} slots 0) there)

  unused : (k : ℕ) → t.count ≤ k → get_or (start_of t).timers k 0 ≡ 0
  unused k h = changes.rest (λ x. hold_of t.period) t.count (replicate slots 0) 0 k h ∙ zeros slots k

  pub fresh_own : Fresh t (start_of t)
  fresh_own = search (used, unused, long)

  pub fresh_is : (s : State) → Fresh t s → start_of t ≡ s
  fresh_is s f =
      let timers = alike (start_of t).timers s.timers slots long f.slots_timers (λ k there.
      ⊎_elim
      (λ (e : ltb k t.count ≡ true). let h = ltb-true k t.count e in used k there h ∙ sym (f.peers k there h))
      (λ (e : ltb k t.count ≡ false). let h = ltb-false k t.count e in unused k h ∙ sym (f.no_peer k there h))
      (known (ltb k t.count))) in
      let b : Bare s = search in
      sym (bare-is s b ∙ rw (f.settings, ← timers, f.next))

-- ── the all-zero state ──

-- settings from their fields
abbrev again : Settings → Settings
again t = record {
  level = t.level;
  mep = t.mep;
  period = t.period;
  count = t.count;
  own = t.own;
  losspeer = t.losspeer;
  meg = t.meg;
  ids = t.ids;
}

no-settings : (t : Settings) → NoSettings t → zero_state.settings ≡ t
unfolding part
no-settings t z =
    let e : zero_state.settings ≡ again t = rw (z.level, z.mep, z.period, z.count, z.own, z.losspeer, z.meg, z.ids) in
    e

pub zero_own : AllZero zero_state
unfolding part
zero_own = search

pub zero_is : (s : State) → AllZero s → zero_state ≡ s
zero_is s z =
    let b : Bare s = search in
    sym (bare-is s b ∙ rw (← no-settings s.settings z.settings, z.timers, z.next))
