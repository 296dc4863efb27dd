-- The wrong steps of specs/Wrong.antt do not meet demand 3: each by readings that are written out. Assumes nothing.
use Prim.Native.Nat.{ℕ, ◌+◌, ◌-◌, ◌≤◌}
use mathlib.Core.Path.{◌≡◌, refl, sym, ap, ◌∙◌}
use mathlib.Core.List.{List, [], ◌∷◌}
use native.Mathlib.Omega.{arith}
use lib.IntN.{ℤ, pos, negsuc}
use lib.ListN.{length, replicate, length-replicate}
use borrow.Author.Tests.{eq-eqb}
use Rattle.base_clock.specs.Run.{after}
use Rattle.base_laws.specs.Tests.{choose}
use Rattle.base_laws.proofs.Tests.{differ}
use Rattle.loss_session.specs.declared.Readings.{Readings}
use Rattle.loss_session.specs.declared.LossSession.{LossSession}
use Rattle.loss_reading.specs.declared.Updated.{Updated}
use Rattle.loss_session.specs.Session.{near, cleared_session, well_formed, most_intervals, most_readings}
use Rattle.loss_reading.specs.Reading.{after_reading}
use Rattle.loss_account.specs.Account.{Truth, Grows, losses, newest, total}
use Rattle.loss_account.specs.Demand3.{answers, leaves, Seen, refused, kept, loss, accounted, Demand3}
use Rattle.loss_account.specs.Wrong.{idle, repeats, invents, signless, wrapless, crossed, forgetful, renewing, ShutOut}

-- a reading whose far counts stay the same
abbrev reading : ℕ → ℕ → Readings
reading sent received = record { txf = 0; rxf = 0; txb = sent; ours = received }

abbrev truth : ℕ → ℕ → Truth
truth sent received = record { sent = sent; received = received }

-- a loss as a number, 0 for one below 0; then that of the last thing seen
abbrev number : ℤ → ℕ
number (pos n) = n
number (negsuc n) = 0

abbrev loss_number : Seen → ℕ
loss_number (refused n) = 0
loss_number kept = 0
loss_number (loss z) = number z

abbrev last_number : List Seen → ℕ
last_number [] = 0
last_number (x ∷ []) = loss_number x
last_number (x ∷ y ∷ xs) = last_number (y ∷ xs)

pub grows : (a b : ℕ) → a ≤ b → b - a ≤ 4294967295 → Grows a b
grows a b h k = record { rises = h; small = omega arith }

still : (a : ℕ) → Grows a a
still a = grows a a (omega arith) (omega arith)

step : (a : ℕ) → Grows a (a + 1)
step a = grows a (a + 1) (omega arith) (omega arith)

-- two readings of four zeros: one interval
idle_out : Demand3 idle → ⊥
unfolding after
idle_out d = differ 1 0 0 (ap (λ (n : ℕ). 1 - n) (d.intervals (reading 0 0 ∷ reading 0 0 ∷ []) (omega arith))) refl

-- one reading: no interval
invents_out : Demand3 invents → ⊥
unfolding after after_reading choose well_formed
invents_out d = differ 7 0 6 (d.intervals (reading 0 0 ∷ []) (omega arith)) refl

-- sent 0, 1, 1, received 0, 0, 0: the second interval lost none
repeats_out : Demand3 repeats → ⊥
unfolding answers after_reading choose well_formed accounted losses
repeats_out d =
    let a = d.side near (reading 0 0 ∷ reading 1 0 ∷ reading 1 0 ∷ []) (truth 0 0 ∷ truth 1 0 ∷ truth 1 0 ∷ []) (omega arith)
    (refl, refl, (refl, refl, (refl, refl, tt))) (step 0, still 0, (still 1, still 0, tt)) in
    differ 1 0 0 (ap last_number a.results) refl

-- sent 0, 0, received 0, 1: the interval's loss is -1 and not 4,294,967,295
signless_out : Demand3 signless → ⊥
unfolding answers after_reading choose well_formed accounted losses
signless_out d =
    let a = d.side near (reading 0 0 ∷ reading 0 1 ∷ []) (truth 0 0 ∷ truth 0 1 ∷ []) (omega arith) (refl, refl, (refl, refl, tt))
    (still 0, step 0, tt) in
    differ 4294967295 0 4294967294 (ap last_number a.results) refl

-- sent 4,294,967,295, 4,294,967,296, received 0, 0: the interval's loss is 1
wrapless_out : Demand3 wrapless → ⊥
unfolding answers after_reading choose well_formed accounted losses
wrapless_out d =
    let a = d.side near (reading 4294967295 0 ∷ reading 0 0 ∷ []) (truth 4294967295 0 ∷ truth 4294967296 0 ∷ []) (omega arith)
    (refl, refl, (refl, refl, tt)) (step 4294967295, still 0, tt) in
    differ 1 0 0 (sym (ap last_number a.results)) refl

-- sent 0, 1, received 0, 0 for near, far the same: the near loss is 1
crossed_out : Demand3 crossed → ⊥
unfolding answers after_reading choose well_formed accounted losses
crossed_out d =
    let a = d.side near (reading 0 0 ∷ reading 1 0 ∷ []) (truth 0 0 ∷ truth 1 0 ∷ []) (omega arith) (refl, refl, (refl, refl, tt))
    (step 0, still 0, tt) in
    differ 1 0 0 (sym (ap last_number a.results)) refl

-- sent 0, 1, 1, received 0, 0, 0: the total is 1
forgetful_out : Demand3 forgetful → ⊥
unfolding answers after after_reading choose well_formed total newest
forgetful_out d =
    let a = d.side near (reading 0 0 ∷ reading 1 0 ∷ reading 1 0 ∷ []) (truth 0 0 ∷ truth 1 0 ∷ truth 1 0 ∷ []) (omega arith)
    (refl, refl, (refl, refl, (refl, refl, tt))) (step 0, still 0, (still 1, still 0, tt)) in
    differ 1 0 0 (sym (ap number a.totals)) refl

-- 1,000,000,001 readings and then one more, which it keeps, whatever it is. What the run of them leaves is taken from the demand itself
renews : (s : LossSession) (r : Readings) → s.intervals ≡ most_intervals → (renewing s r).session.last ≡ r
renews s r e = rw (eq-eqb s.intervals most_intervals e)

keeps-any : Demand3 renewing → (rs : List Readings) → length rs ≡ most_readings → (r : Readings)
    → (leaves renewing cleared_session rs).last ≡ r
keeps-any d rs l r =
    let e : (leaves renewing cleared_session rs).intervals ≡ most_intervals = omega (arith, d.intervals rs (omega arith)) in
    sym (ap (λ (u : Updated). u.session.last) (d.later rs r (omega arith))) ∙ renews (leaves renewing cleared_session rs) r e

renewing-no : (rs : List Readings) → length rs ≡ most_readings → Demand3 renewing → ⊥
renewing-no rs l d =
    differ 1 0 0 (ap (λ (r : Readings). r.txb) (sym (keeps-any d rs l (reading 1 0)) ∙ keeps-any d rs l (reading 0 0))) refl

renewing_out : Demand3 renewing → ⊥
renewing_out = renewing-no (replicate most_readings (reading 0 0)) (length-replicate most_readings (reading 0 0))

pub shut_out : ShutOut
shut_out = record {
  idle_out = idle_out;
  repeats_out = repeats_out;
  invents_out = invents_out;
  signless_out = signless_out;
  wrapless_out = wrapless_out;
  crossed_out = crossed_out;
  forgetful_out = forgetful_out;
  renewing_out = renewing_out;
}
