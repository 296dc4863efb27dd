-- Steps that get it wrong, each as a box has done or could do. proofs/Refuted.antt shows of each, by readings that are written out, that it
-- does not meet demand 3. Definitions and the statement only.
use Rattle.loss_reading.specs.Losses.{losses_of}
use Rattle.std.specs.Prelude.{ℕ, ◌+◌, ◌-◌, cond, eqb, ℤ, pos, negsuc, ◌-ℤ◌, Result, Ok, Err, Option, Some, None}
use Rattle.loss_session.specs.Session.{most_intervals}
use Rattle.loss_session.specs.declared.Readings.{Readings}
use Rattle.loss_session.specs.declared.LossSession.{LossSession}
use Rattle.loss_reading.specs.declared.LossRefusal.{LossRefusal}
use Rattle.loss_reading.specs.declared.Losses.{Losses}
use Rattle.loss_reading.specs.declared.LossRefusal.TheVariants.{NotWellFormed, Full}
use Rattle.loss_reading.specs.Reading.{after_reading}
use Rattle.loss_account.specs.Demand3.{Step, Demand3}

-- changes nothing
abbrev pub idle : Step
idle s r = record { answer = Ok None; session = s }

-- measures the first interval and then says its result again
abbrev pub repeats : Step
repeats s r =
    cond (eqb s.intervals 0) (after_reading s r)
    (record { answer = Ok (Some (losses_of s.near s.far)); session = record { kept = s.kept; intervals = s.intervals + 1; last = r; near = s.near; far = s.far } })

-- answers right, and invents the number of intervals
abbrev pub invents : Step
invents s r =
    let u = after_reading s r in
    record { answer = u.answer; session = record { kept = u.session.kept; intervals = 7; last = u.session.last; near = u.session.near; far = u.session.far } }

-- what a step answers, changed in each measured pair
abbrev retold : (ℤ → ℤ) → (ℤ → ℤ) → Result (Option Losses) LossRefusal → Result (Option Losses) LossRefusal
retold n f (Err NotWellFormed) = Err NotWellFormed
retold n f (Err Full) = Err Full
retold n f (Ok None) = Ok None
retold n f (Ok (Some l)) = Ok (Some (losses_of (n l.near) (f l.far)))

abbrev answering : (LossSession → Readings → Result (Option Losses) LossRefusal → Result (Option Losses) LossRefusal) → Step
answering change s r = record { answer = change s r (after_reading s r).answer; session = (after_reading s r).session }

-- keeps a loss without its sign, in 32 bits: -1 is 4,294,967,295
abbrev unsigned : ℤ → ℤ
unsigned (pos n) = pos n
unsigned (negsuc n) = pos (4294967295 - n)

abbrev pub signless : Step
signless = answering (λ s r a. retold unsigned unsigned a)

-- subtracts counts without the wrap
abbrev plain : ℕ → ℕ → ℕ → ℕ → ℤ
plain sent sent-now received received-now = (pos sent-now -ℤ pos sent) -ℤ (pos received-now -ℤ pos received)

abbrev pub wrapless : Step
wrapless =
    answering
    (λ s r a.
    retold (λ x. plain s.last.txb r.txb s.last.ours r.ours) (λ y. plain s.last.txf r.txf s.last.rxf r.rxf) a)

-- near and far exchanged
abbrev swapped : Result (Option Losses) LossRefusal → Result (Option Losses) LossRefusal
swapped (Err NotWellFormed) = Err NotWellFormed
swapped (Err Full) = Err Full
swapped (Ok None) = Ok None
swapped (Ok (Some l)) = Ok (Some (losses_of l.far l.near))

abbrev pub crossed : Step
crossed = answering (λ s r a. swapped a)

-- takes the last interval's loss for a total
abbrev last_only : Result (Option Losses) LossRefusal → LossSession → LossSession
last_only (Err NotWellFormed) s = s
last_only (Err Full) s = s
last_only (Ok None) s = s
last_only (Ok (Some l)) s = record { kept = s.kept; intervals = s.intervals; last = s.last; near = l.near; far = l.far }

abbrev pub forgetful : Step
forgetful s r = record { answer = (after_reading s r).answer; session = last_only (after_reading s r).answer (after_reading s r).session }

-- refuses the readings past the last interval with 5, but keeps them
abbrev pub renewing : Step
renewing s r =
    cond (eqb s.intervals most_intervals)
    (record { answer = Err Full; session = record { kept = s.kept; intervals = s.intervals; last = r; near = s.near; far = s.far } })
    (after_reading s r)

-- eight wrong steps do not meet the demand, each by readings that are written out: among them one that measures the first interval and
-- then repeats itself, one that invents the intervals, one that changes nothing, one that drops the sign, one that forgets the wrap, and
-- totals since the last reading
pub record ShutOut : Type 0 where
  pub idle_out : Demand3 idle → ⊥
  pub repeats_out : Demand3 repeats → ⊥
  pub invents_out : Demand3 invents → ⊥
  pub signless_out : Demand3 signless → ⊥
  pub wrapless_out : Demand3 wrapless → ⊥
  pub crossed_out : Demand3 crossed → ⊥
  pub forgetful_out : Demand3 forgetful → ⊥
  pub renewing_out : Demand3 renewing → ⊥
