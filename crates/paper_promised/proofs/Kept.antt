-- What a frame changes leaves a well-formed state well formed: a word within its bound, a peer heard, a reading taken. Assumes nothing.
use Prim.Native.Nat.{ℕ, ◌≤◌, ◌<◌}
use mathlib.Core.Path.{◌≡◌, ◌∙◌}
use mathlib.Core.Bool.{true, false}
use mathlib.Core.List.{List}
use mathlib.Core.Logic.{⊎_elim}
use native.Mathlib.Omega.{arith}
use lib.Dec.{eqb, ltb}
use lib.ListN.{length, get_or, set}
use lib.Seq.{get_or-set_same, get_or-set_other, set_out}
use borrow.Author.Tests.{eqb-true, eqb-false, ltb-true, ltb-false, ne_eqb}
use Rattle.base_laws.specs.Tests.{choose}
use Rattle.base_laws.proofs.Tests.{known}
use Rattle.base_period.specs.Periods.{ticks_of}
use Rattle.loss_session.specs.Session.{most_intervals}
use Rattle.loss_session.specs.declared.Readings.{Readings}
use Rattle.loss_session.specs.declared.LossSession.{LossSession}
use Rattle.loss_session.specs.Session as Session
use Rattle.loss_reading.specs.Reading.{after_reading}
use Rattle.loss_reading.proofs.Refusals.{sessions}
use Rattle.state_view.specs.State.{State}
use Rattle.state_view.specs.Changed.{Word, place_of, anew, put, heard}
use Rattle.state_view.specs.WellFormed.{own_most, alarm_most, WellFormed}
use Rattle.paper_said.specs.Made.{kept_first, measured}

-- ── a word ──

fits : (x : Word) (v i old most : ℕ) → (place_of x ≡ i → v ≤ most) → old ≤ most → anew x v i old ≤ most
fits x v i old most h k =
    ⊎_elim
    (λ (t : eqb (place_of x) i ≡ true). rw t (h (eqb-true (place_of x) i t)))
    (λ (t : eqb (place_of x) i ≡ false). rw t k)
    (known (eqb (place_of x) i))

least : (x : Word) (v i old : ℕ) → (place_of x ≡ i → 1 ≤ v) → 1 ≤ old → 1 ≤ anew x v i old
least x v i old h k =
    ⊎_elim
    (λ (t : eqb (place_of x) i ≡ true). rw t (h (eqb-true (place_of x) i t)))
    (λ (t : eqb (place_of x) i ≡ false). rw t k)
    (known (eqb (place_of x) i))

-- v may stand at the word x: within the own hold time, within that of an alarm, from 1 to the period
pub record Within (s : State) (x : Word) (v : ℕ) : Type 0 where
  pub own : place_of x < 4 → v ≤ own_most s
  pub alarm : 4 ≤ place_of x → place_of x < 6 → v ≤ alarm_most
  pub some : place_of x ≡ 6 → 1 ≤ v
  pub next : place_of x ≡ 6 → v ≤ ticks_of s.settings.period

pub put-well : (s : State) (x : Word) (v : ℕ) → Within s x v → WellFormed s → WellFormed (put x v s)
put-well s x v b w = record {
  settings = w.settings;
  timers = w.timers;
  mismerge = fits x v 0 s.mismerge (own_most s) (λ e. b.own (omega (arith, e))) w.mismerge;
  unexpected_level = fits x v 1 s.unexpected_level (own_most s) (λ e. b.own (omega (arith, e))) w.unexpected_level;
  unexpected_mep = fits x v 2 s.unexpected_mep (own_most s) (λ e. b.own (omega (arith, e))) w.unexpected_mep;
  unexpected_period = fits x v 3 s.unexpected_period (own_most s) (λ e. b.own (omega (arith, e))) w.unexpected_period;
  ais = fits x v 4 s.ais alarm_most (λ e. b.alarm (omega (arith, e)) (omega (arith, e))) w.ais;
  lck = fits x v 5 s.lck alarm_most (λ e. b.alarm (omega (arith, e)) (omega (arith, e))) w.lck;
  some_tick = least x v 6 s.next b.some w.some_tick;
  next = fits x v 6 s.next (ticks_of s.settings.period) b.next w.next;
  rdi = w.rdi;
  no_timer = w.no_timer;
  no_rdi = w.no_rdi;
  session = w.session;
}

-- ── a peer ──

set-within : (l : List ℕ) (k v i most : ℕ) → v ≤ most → get_or l i 0 ≤ most → get_or (set l k v) i 0 ≤ most
set-within l k v i most h g =
    ⊎_elim
    (λ (t : eqb i k ≡ true).
    let e = eqb-true i k t in
    ⊎_elim
    (λ (u : ltb k (length l) ≡ true). rw (e, get_or-set_same l k v 0 (ltb-true k (length l) u)) h)
    (λ (u : ltb k (length l) ≡ false). rw (set_out l k v (ltb-false k (length l) u)) g)
    (known (ltb k (length l))))
    (λ (t : eqb i k ≡ false). rw (get_or-set_other l k i v 0 (eqb-false i k t)) g)
    (known (eqb i k))

set-behind : (l : List ℕ) (k v i count : ℕ) → k < count → count ≤ i → get_or l i 0 ≡ 0 → get_or (set l k v) i 0 ≡ 0
set-behind l k v i count h c e = get_or-set_other l k i v 0 (λ x. omega (arith, h, c, x)) ∙ e

pub heard-well : (s : State) (k v flag : ℕ) → k < s.settings.count → v ≤ own_most s → flag ≤ 1 → WellFormed s
    → WellFormed (heard k v flag s)
heard-well s k v flag used h f w = record {
  settings = w.settings;
  timers = λ i. set-within s.timers k v i (own_most s) h (w.timers i);
  mismerge = w.mismerge;
  unexpected_level = w.unexpected_level;
  unexpected_mep = w.unexpected_mep;
  unexpected_period = w.unexpected_period;
  ais = w.ais;
  lck = w.lck;
  some_tick = w.some_tick;
  next = w.next;
  rdi = λ i. set-within s.rdi k flag i 1 f (w.rdi i);
  no_timer = λ i c. set-behind s.timers k v i s.settings.count used c (w.no_timer i c);
  no_rdi = λ i c. set-behind s.rdi k flag i s.settings.count used c (w.no_rdi i c);
  session = w.session;
}

-- ── a session ──

module _ (x : LossSession) (r : Readings) (v : Session.WellFormed x) where
  first-is : x.kept ≡ 0 → (after_reading x r).session ≡ kept_first x r
  unfolding after_reading choose
  first-is k = rw ((sessions.well x).1 v, k)

  pub first-well : x.kept ≡ 0 → Session.WellFormed (kept_first x r)
  first-well k = rw (← first-is k) (sessions.stays x r v)

  later-is : x.kept ≡ 1 → x.intervals < most_intervals → (after_reading x r).session ≡ measured x r
  unfolding after_reading choose
  later-is k n = rw ((sessions.well x).1 v, ne_eqb x.kept 0 (λ z. omega arith), ne_eqb x.intervals most_intervals (λ z. omega arith))

  pub later-well : x.kept ≡ 1 → x.intervals < most_intervals → Session.WellFormed (measured x r)
  later-well k n = rw (← later-is k n) (sessions.stays x r v)
