-- A chunk of replies worked through into a buffer, and chunks one after another. The order, demand 1: a refused call leaves everything as
-- it was. So a call that has taken replies before one that it cannot take is not refused: it halted. Definitions only.
use Rattle.std.specs.Prelude.{ℕ, ◌+◌, ◌-◌, ◌/◌, List, [], ◌∷◌, not, cond, ltb, eqb, length, Result, Ok, Err}
use Rattle.base_laws.specs.Tests.{choose}
use Rattle.base_laws.specs.Lists.{laid}
use Rattle.base_laws.specs.Ended.{Wrote, wrote}
use Rattle.loss_session.specs.declared.LossSession.{LossSession}
use Rattle.loss_session.specs.Session.{well_formed, most_readings}
use Rattle.stored_replies.specs.declared.Recounted.{Recounted}
use Rattle.stored_replies.specs.declared.RecountRefusal.{RecountRefusal}
use Rattle.stored_replies.specs.declared.RecountRefusal.TheVariants.{NotWellFormed, NoRoom}
use Rattle.stored_replies.specs.Replies.{replies, Worked, behind, worked}

-- an answer in the paper's numbers: the refusal, or 0; 5 where it halted, or 0; the replies taken, and so the records written; the session
pub record RecountTold : Type 0 where
  pub refusal : ℕ
  pub halted : ℕ
  pub taken : ℕ
  pub session : LossSession

-- the numbers of an answer
abbrev pub answered : ℕ → ℕ → ℕ → LossSession → RecountTold
answered refusal halted taken s = record { refusal = refusal; halted = halted; taken = taken; session = s }

-- refused: nothing is taken, and the session is the one that was passed in
abbrev pub refused_with : ℕ → LossSession → RecountTold
refused_with n s = answered n 0 0 s

-- worked through, to the end or to a halt
abbrev pub worked_answer : Worked → RecountTold
worked_answer w = answered 0 w.halted w.taken w.session

-- what an answer says in these numbers: a refused call has taken nothing, and the session is the one that was passed in
unfoldable pub recount_told : LossSession → Result Recounted RecountRefusal → RecountTold
recount_told s (Err NotWellFormed) = refused_with 2 s
recount_told s (Err NoRoom) = refused_with 3 s
recount_told s (Ok r) = answered 0 (cond r.halted 5 0) r.taken r.session

-- in the paper's order: a session that is not well formed; too little room for a record of each reply; else the records, laid over the
-- buffer's first octets
unfoldable pub recount_into : LossSession → List ℕ → List ℕ → Wrote RecountTold
recount_into s octets buffer =
    choose (
    (not (well_formed s), wrote (refused_with 2 s) buffer)
    ∷ (ltb (length buffer / 24) (length octets / 16), wrote (refused_with 3 s) buffer)
    ∷ [])
    (wrote (worked_answer (worked s (replies octets))) (laid 0 (worked s (replies octets)).records buffer))

-- a first part worked through, and what the rest gives from the session that it left, if it did not halt
abbrev pub and_then : Worked → (LossSession → Worked) → Worked
and_then w rest = cond (eqb w.halted 0) (behind w.records w.taken (rest w.session)) w

-- how many replies a session still takes: one that is only kept, where none is, and one for each interval up to 1,000,000,000
abbrev pub still_takes : LossSession → ℕ
still_takes s = most_readings - (s.kept + s.intervals)
