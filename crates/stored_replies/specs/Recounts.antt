-- What is said of every chunk of replies: what is written, when a call is refused, and when it halts. The statement only.
use Rattle.std.specs.Prelude.{ℕ, ◌*◌, ◌/◌, ◌<◌, ◌≤◌, ◌≡◌, List, ◌++◌, ◌↔◌, ◌⊎◌, length, take}
use Rattle.base_laws.specs.Ended.{Wrote, wrote}
use Rattle.loss_session.specs.declared.LossSession.{LossSession}
use Rattle.loss_session.specs.Session.{WellFormed, most_intervals}
use Rattle.stored_replies.specs.Replies.{replies, worked}
use Rattle.stored_replies.specs.Recount.{RecountTold, answered, refused_with, recount_into, and_then, still_takes}

-- what a call is answered
abbrev pub answer_to : LossSession → List ℕ → List ℕ → RecountTold
answer_to s octets buffer = (recount_into s octets buffer).answer

-- the same, but halted with 5
abbrev pub but_halted : Wrote RecountTold → Wrote RecountTold
but_halted o = wrote (answered o.answer.refusal 5 o.answer.taken o.answer.session) o.buffer

-- a record of 24 octets for each reply taken; chunks of whole replies, one after another, give what the whole gives; refused with 2
-- exactly where the session is not well formed, then with 3 exactly where there is too little room, and a refusal changes nothing; halted
-- with 5 exactly where there are more replies than the session still takes, and then the call leaves what a call on the replies before it
-- leaves; never both; a well-formed session stays so
pub record Recounts : Type 0 where
  -- a record of 24 octets for each reply taken, and never more replies than there are
  pub long : (s : LossSession) (octets : List ℕ) → length (worked s (replies octets)).records ≡ (worked s (replies octets)).taken * 24
  pub most : (s : LossSession) (octets : List ℕ) → (worked s (replies octets)).taken ≤ length octets / 16
  -- chunks of whole replies, one after another, give what the whole gives
  pub chunks : (s : LossSession) (first rest : List ℕ) (k : ℕ) → length first ≡ k * 16
      → worked s (replies (first ++ rest)) ≡ and_then (worked s (replies first)) (λ t. worked t (replies rest))
  -- refused with 2 exactly where the session is not well formed, then with 3 exactly where there is too little room
  pub refuses_2 : (s : LossSession) (octets buffer : List ℕ) → ((answer_to s octets buffer).refusal ≡ 2) ↔ (WellFormed s → ⊥)
  pub refuses_3 : (s : LossSession) (octets buffer : List ℕ)
      → ((answer_to s octets buffer).refusal ≡ 3) ↔ (WellFormed s × (length buffer / 24 < length octets / 16))
  -- and with no other number; a refused call leaves session and buffer as they were, takes nothing, and is not halted
  pub refused : (s : LossSession) (octets buffer : List ℕ) (n : ℕ) → (n ≡ 0 → ⊥) → (answer_to s octets buffer).refusal ≡ n
      → ((n ≡ 2) ⊎ (n ≡ 3)) × (recount_into s octets buffer ≡ wrote (refused_with n s) buffer)
  -- halted with 5 exactly where nothing is refused and a reply is not taken, which is where there are more than the session still takes
  pub halts_5 : (s : LossSession) (octets buffer : List ℕ) → ((answer_to s octets buffer).halted ≡ 5)
      ↔ (((answer_to s octets buffer).refusal ≡ 0) × ((answer_to s octets buffer).taken < length octets / 16))
  pub too_many : (s : LossSession) (octets buffer : List ℕ)
      → ((answer_to s octets buffer).halted ≡ 5) ↔ (((answer_to s octets buffer).refusal ≡ 0) × (still_takes s < length octets / 16))
  -- else halted is 0; and no call is both refused and halted
  pub or_0 : (s : LossSession) (octets buffer : List ℕ) → ((answer_to s octets buffer).halted ≡ 0) ⊎ ((answer_to s octets buffer).halted ≡ 5)
  pub not_both : (s : LossSession) (octets buffer : List ℕ)
      → ((answer_to s octets buffer).refusal ≡ 0) ⊎ ((answer_to s octets buffer).halted ≡ 0)
  -- a call that halts took all that the session still takes, and leaves it with a reading kept and no interval left
  pub none_left : (s : LossSession) (octets buffer : List ℕ) → (answer_to s octets buffer).halted ≡ 5
      → ((answer_to s octets buffer).taken ≡ still_takes s)
      × ((answer_to s octets buffer).session.kept ≡ 1) × ((answer_to s octets buffer).session.intervals ≡ most_intervals)
  -- and its session and its records are those that a call on the replies before the halt leaves
  pub before : (s : LossSession) (octets buffer : List ℕ) → (answer_to s octets buffer).halted ≡ 5
      → recount_into s octets buffer ≡ but_halted (recount_into s (take ((answer_to s octets buffer).taken * 16) octets) buffer)
  -- a well-formed session is left well formed
  pub stays : (s : LossSession) (octets buffer : List ℕ) → WellFormed s → WellFormed (answer_to s octets buffer).session
