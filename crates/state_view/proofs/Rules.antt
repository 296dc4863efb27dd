-- The statement of specs/WellFormed.antt: the test holds exactly where the rules do. Assumes nothing.
use Prim.Native.Nat.{ℕ, ◌+◌, ◌-◌, ◌≤◌, zero-le}
use mathlib.Core.Path.{◌≡◌, ap, ◌∙◌}
use mathlib.Core.List.{List}
use mathlib.Core.Bool.{true, ◌&&◌}
use native.Mathlib.Omega.{arith}
use lib.Dec.{leb}
use lib.ListN.{get_or, drop}
use lib.Seq.{get_or-drop}
use borrow.Author.Tests.{le-leb, leb-true}
use Rattle.base_laws.specs.Lists.{every}
use Rattle.base_laws.proofs.Tests.{split, join}
use Rattle.base_laws.proofs.Everywhere.{every_is, every_anywhere}
use Rattle.base_words.specs.Words.{within}
use Rattle.base_period.specs.Periods.{ticks_of}
use Rattle.state_settings.specs.Valid.{valid}
use Rattle.state_settings.proofs.Rules as Settings
use Rattle.loss_session.specs.declared.LossSession.{LossSession}
use Rattle.loss_session.specs.Session as Session
use Rattle.loss_session.proofs.Laws as Sessions
use Rattle.state_view.specs.State.{State}
use Rattle.state_view.specs.Changed.{with_session}
use Rattle.state_view.specs.WellFormed.{own_most, alarm_most, WellFormed, timers_good, next_good, slots_good, well_formed, WellFormedIs}

-- ── runs of words ──

module _ (most : ℕ) (l : List ℕ) where
  within-to : every (within most) l ≡ true → (i : ℕ) → get_or l i 0 ≤ most
  within-to h i = leb-true (get_or l i 0) most (every_anywhere (within most) l 0 h (le-leb 0 most zero-le) i)

  within-from : ((i : ℕ) → get_or l i 0 ≤ most) → every (within most) l ≡ true
  within-from h = (every_is (within most) l 0).1 (λ i k. le-leb (get_or l i 0) most (h i))

-- nothing but 0 from a place on
module _ (n : ℕ) (l : List ℕ) where
  none-to : every (within 0) (drop n l) ≡ true → (i : ℕ) → n ≤ i → get_or l i 0 ≡ 0
  none-to h i k =
      let m : n + (i - n) ≡ i = omega arith in
      let e : get_or (drop n l) (i - n) 0 ≡ get_or l i 0 = get_or-drop n l (i - n) 0 ∙ ap (λ (j : ℕ). get_or l j 0) m in
      omega (arith, e, within-to 0 (drop n l) h (i - n))

  none_from : ((i : ℕ) → n ≤ i → get_or l i 0 ≡ 0) → every (within 0) (drop n l) ≡ true
  none_from h = within-from 0 (drop n l) (λ i. omega (arith, get_or-drop n l i 0, h (n + i) (omega arith)))

-- ── the whole state ──

module _ (s : State) where
  to : well_formed s ≡ true → WellFormed s
  unfolding well_formed
  to h =
      let hold = own_most s in
      let n = s.settings.count in
      let a = split (valid s.settings) _ h in
      let b = split (timers_good s hold) _ a.1 in
      let c = split (next_good s.next (ticks_of s.settings.period)) _ b.1 in
      let d = split (slots_good s.timers s.rdi n hold) (Session.well_formed s.session) c.1 in
      let t5 = split _ (leb s.lck alarm_most) b.0 in
      let t4 = split _ (leb s.ais alarm_most) t5.0 in
      let t3 = split _ (leb s.unexpected_period hold) t4.0 in
      let t2 = split _ (leb s.unexpected_mep hold) t3.0 in
      let t1 = split (leb s.mismerge hold) (leb s.unexpected_level hold) t2.0 in
      let x = split (leb 1 s.next) (leb s.next (ticks_of s.settings.period)) c.0 in
      let p = split (every (within hold) s.timers && every (within 0) (drop n s.timers))
      (every (within 1) s.rdi && every (within 0) (drop n s.rdi)) d.0 in
      let q = split (every (within hold) s.timers) (every (within 0) (drop n s.timers)) p.0 in
      let r = split (every (within 1) s.rdi) (every (within 0) (drop n s.rdi)) p.1 in
      record {
        settings = ((Settings.valid_is).valid_is s.settings).0 a.0;
        timers = within-to hold s.timers q.0;
        mismerge = leb-true s.mismerge hold t1.0;
        unexpected_level = leb-true s.unexpected_level hold t1.1;
        unexpected_mep = leb-true s.unexpected_mep hold t2.1;
        unexpected_period = leb-true s.unexpected_period hold t3.1;
        ais = leb-true s.ais alarm_most t4.1;
        lck = leb-true s.lck alarm_most t5.1;
        some_tick = leb-true 1 s.next x.0;
        next = leb-true s.next (ticks_of s.settings.period) x.1;
        rdi = within-to 1 s.rdi r.0;
        no_timer = none-to n s.timers q.1;
        no_rdi = none-to n s.rdi r.1;
        session = (Sessions.well s.session).0 d.1;
      }

  from : WellFormed s → well_formed s ≡ true
  unfolding well_formed
  from w =
      let hold = own_most s in
      let n = s.settings.count in
      let t1 = join (leb s.mismerge hold) (leb s.unexpected_level hold) (le-leb s.mismerge hold w.mismerge)
      (le-leb s.unexpected_level hold w.unexpected_level) in
      let t2 = join _ (leb s.unexpected_mep hold) t1 (le-leb s.unexpected_mep hold w.unexpected_mep) in
      let t3 = join _ (leb s.unexpected_period hold) t2 (le-leb s.unexpected_period hold w.unexpected_period) in
      let t4 = join _ (leb s.ais alarm_most) t3 (le-leb s.ais alarm_most w.ais) in
      let t5 = join _ (leb s.lck alarm_most) t4 (le-leb s.lck alarm_most w.lck) in
      let x = join (leb 1 s.next) (leb s.next (ticks_of s.settings.period)) (le-leb 1 s.next w.some_tick)
      (le-leb s.next (ticks_of s.settings.period) w.next) in
      let q = join (every (within hold) s.timers) (every (within 0) (drop n s.timers)) (within-from hold s.timers w.timers)
      (none_from n s.timers w.no_timer) in
      let r = join (every (within 1) s.rdi) (every (within 0) (drop n s.rdi)) (within-from 1 s.rdi w.rdi)
      (none_from n s.rdi w.no_rdi) in
      join (valid s.settings) _ (((Settings.valid_is).valid_is s.settings).1 w.settings)
      (join (timers_good s hold) _ t5
      (join (next_good s.next (ticks_of s.settings.period)) _ x
      (join (slots_good s.timers s.rdi n hold) (Session.well_formed s.session) (join _ _ q r)
      ((Sessions.well s.session).1 w.session))))

-- a well-formed session put into a well-formed state leaves it so
pub session-put : (s : State) (x : LossSession) → Session.WellFormed x → WellFormed s → WellFormed (with_session x s)
session-put s x v w = record {
  settings = w.settings;
  timers = w.timers;
  mismerge = w.mismerge;
  unexpected_level = w.unexpected_level;
  unexpected_mep = w.unexpected_mep;
  unexpected_period = w.unexpected_period;
  ais = w.ais;
  lck = w.lck;
  some_tick = w.some_tick;
  next = w.next;
  rdi = w.rdi;
  no_timer = w.no_timer;
  no_rdi = w.no_rdi;
  session = v;
}

pub well_formed_is : WellFormedIs
well_formed_is = record { well_formed_is = λ s. (to s, from s) }
