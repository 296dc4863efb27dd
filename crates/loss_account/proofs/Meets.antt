-- Our step meets demand 3, each direction by itself. Assumes nothing.
use Prim.Native.Nat.{ℕ, ◌+◌, ◌%◌, ◌^◌, ◌≤◌, ◌<◌}
use mathlib.Core.Path.{◌≡◌, refl, sym, ap, ap₂, ◌∙◌}
use mathlib.Core.List.{List, [], ◌∷◌, map}
use native.Mathlib.Omega.{arith}
use lib.IntN.{ℤ, pos, sub_ℕ, ◌+ℤ◌}
use lib.ListN.{length}
use Rattle.base_clock.specs.Run.{after}
use Rattle.loss_session.specs.declared.Readings.{Readings}
use Rattle.loss_session.specs.declared.LossSession.{LossSession}
use Rattle.loss_reading.specs.declared.Updated.{Updated}
use Rattle.loss_session.specs.Session.{LossEnd, near, far, sent_of, received_of, total_of, cleared_session, most_intervals, most_readings}
use Rattle.loss_reading.specs.Reading.{loss_on, first_of, measured_of, after_reading}
use Rattle.loss_reading.proofs.Laws.{measured-total}
use Rattle.loss_account.specs.Account.{Truth, Grows, GoesOn, Sound, lost, losses, newest, total}
use Rattle.loss_account.specs.Demand3.{answers, leaves, kept, loss, seen, accounted, Shows, Agrees, Demand3}
use Rattle.loss_account.proofs.Intervals.{Reach, measures, more, starts, started, intervals, later}
use Rattle.loss_account.proofs.TrueLosses.{grown, Before, plain, adds, none-lost}

-- a reading shows a direction's true counts
record Shown (d : LossEnd) (r : Readings) (t : Truth) : Type 0 where
  pub sent : sent_of d r ≡ t.sent % 2 ^ 32
  pub received : received_of d r ≡ t.received % 2 ^ 32

rises : (t u : Truth) → Grows t.sent u.sent → Grows t.received u.received → Before t u
rises t u g h = record { sent = g.rises; received = h.rises }

-- an interval's loss by readings is that of the account
side-is : (d : LossEnd) (e r : Readings) (t u : Truth) → Shown d e t → Shown d r u → Grows t.sent u.sent
    → Grows t.received u.received
    → loss_on d e r ≡ lost t u
side-is d e r t u a b g h =
    rw (a.sent, a.received, b.sent, b.received)
    (ap₂ sub_ℕ (grown t.sent u.sent g) (grown t.received u.received h) ∙ sym (plain t u (rises t u g h)))

measured-seen : (d : LossEnd) (s : LossSession) (r : Readings) → seen d (measured_of s r).answer ≡ loss (loss_on d s.last r)
measured-seen near s r = refl
measured-seen far s r = refl

first-seen : (d : LossEnd) (r : Readings) → seen d (first_of cleared_session r).answer ≡ kept
first-seen near r = refl
first-seen far r = refl

first-total : (d : LossEnd) (r : Readings) → total_of d (first_of cleared_session r).session ≡ pos 0
first-total near r = refl
first-total far r = refl

cleared-total : (d : LossEnd) → total_of d cleared_session ≡ pos 0
cleared-total near = refl
cleared-total far = refl

-- a session in which one direction agrees: o at the first reading, t at the last
record Agreed (d : LossEnd) (n : ℕ) (o t : Truth) (s : LossSession) : Type 0 where
  pub reach : Reach n s
  pub shown : Shown d s.last t
  pub before : Before o t
  pub totals : total_of d s ≡ lost o t

module _ (d : LossEnd) (n : ℕ) (o t u : Truth) (s : LossSession) (h : Agreed d n o t s) (r : Readings) (few : n < most_intervals)
    (show : Shown d r u) (g : Grows t.sent u.sent) (k : Grows t.received u.received) where
  measured : after_reading s r ≡ measured_of s r
  measured = measures n s h.reach r few

  next-seen : seen d (after_reading s r).answer ≡ loss (lost t u)
  next-seen =
      ap (λ (x : Updated). seen d x.answer) measured ∙ measured-seen d s r ∙ ap loss (side-is d s.last r t u h.shown show g k)

  next_agreed : Agreed d (n + 1) o u (after_reading s r).session
  next_agreed = record {
    reach = more n s h.reach r few;
    shown = rw measured show;
    before = record { sent = omega (arith, h.before.sent, g.rises); received = omega (arith, h.before.received, k.rises) };
    totals = ap (λ (x : Updated). total_of d x.session) measured
        ∙ measured-total d s r
        ∙ ap₂ (λ (x y : ℤ). x +ℤ y) h.totals (side-is d s.last r t u h.shown show g k)
        ∙ adds o t u h.before (rises t u g k);
  }

record From (d : LossEnd) (o t : Truth) (s : LossSession) (rs : List Readings) (us : List Truth) : Type 0 where
  pub results : map (seen d) (answers after_reading s rs) ≡ map loss (losses t us)
  pub totals : total_of d (leaves after_reading s rs) ≡ lost o (newest t us)

from : (us : List Truth) (rs : List Readings) (d : LossEnd) (n : ℕ) (o t : Truth) (s : LossSession) → Agreed d n o t s
    → n + length rs ≤ most_intervals
    → Shows d rs us → GoesOn t us → From d o t s rs us
unfolding answers after losses newest
from [] [] d n o t s h few shows goes = record { results = refl; totals = h.totals }
from [] (r ∷ rs) d n o t s h few shows goes = absurd shows
from (u ∷ us) [] d n o t s h few shows goes = absurd shows
from (u ∷ us) (r ∷ rs) d n o t s h few shows goes =
    let show : Shown d r u = record { sent = shows.0; received = shows.1 } in
    let next = next_agreed d n o t u s h r (omega arith) show goes.0 goes.1 in
    let rest = from us rs d (n + 1) o u (after_reading s r).session next (omega arith) shows.2 goes.2 in
    record { results = ap₂ ◌∷◌ (next-seen d n o t u s h r (omega arith) show goes.0 goes.1) rest.results; totals = rest.totals }

side : (d : LossEnd) (rs : List Readings) (ts : List Truth) → length rs ≤ most_readings → Shows d rs ts → Sound ts
    → Agrees after_reading d rs ts
unfolding answers after accounted total
side d [] [] few shows sound = record { results = refl; totals = cleared-total d }
side d [] (t ∷ ts) few shows sound = absurd shows
side d (r ∷ rs) [] few shows sound = absurd shows
side d (r ∷ rs) (t ∷ ts) few shows sound =
    let e = starts r in
    let h : Agreed d 0 t t (after_reading cleared_session r).session = record {
      reach = started r;
      shown = rw e (record { sent = shows.0; received = shows.1 });
      before = record { sent = omega arith; received = omega arith };
      totals = ap (λ (x : Updated). total_of d x.session) e ∙ first-total d r ∙ sym (none-lost t);
    } in
    let rest = from ts rs d 0 t t (after_reading cleared_session r).session h (omega arith) shows.2 sound in
    record { results = ap₂ ◌∷◌ (ap (λ (x : Updated). seen d x.answer) e ∙ first-seen d r) rest.results; totals = rest.totals }

pub meets : Demand3 after_reading
meets = record { side = side; intervals = intervals; later = later }
