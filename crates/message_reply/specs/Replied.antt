-- What a request is answered, and what is left in the buffer. The paper, "Refusals": 3 where the buffer is shorter than the message, and
-- nothing changes. The caller has judged the frame; only that its fixed part is there is tested again, D5, so that nothing is needed of
-- the caller. A good request never gets it (`message_readback`). Definitions and the statement only.
use Rattle.std.specs.Prelude.{ℕ, ◌+◌, ◌≡◌, Bool, cond, List, [], ◌∷◌, ltb, length, Result, Ok, Err}
use Rattle.base_laws.specs.Tests.{choose}
use Rattle.frame_head.specs.Head.{behind_head}
use Rattle.message_parts.specs.Buffer.{no_room, buffer_of}
use Rattle.message_reply.specs.declared.ReplyRefusal.{ReplyRefusal}
use Rattle.message_reply.specs.declared.ReplyRefusal.TheVariants.{CutOff, NoRoom}

-- the request ends before its fixed part of so many octets does
abbrev pub cut_off : ℕ → List ℕ → Bool
cut_off fixed request = ltb (length request) (behind_head 4 + fixed)

abbrev pub replied_of : ℕ → List ℕ → List ℕ → List ℕ → Result ℕ ReplyRefusal
replied_of fixed request reply buffer = choose ((cut_off fixed request, Err CutOff) ∷ (no_room reply buffer, Err NoRoom) ∷ []) (Ok (length reply))

-- the reply laid over the buffer's first octets, or the buffer as it was
abbrev pub left_of : ℕ → List ℕ → List ℕ → List ℕ → List ℕ
left_of fixed request reply buffer = cond (cut_off fixed request) buffer (buffer_of reply buffer)

-- ── in the paper's numbers ──

-- the refusal, or 0; the drop, or 0; and the reply's length
pub record RepliedTold : Type 0 where
  pub refusal : ℕ
  pub drop : ℕ
  pub length : ℕ

abbrev pub tell_replied : ℕ → ℕ → ℕ → RepliedTold
tell_replied refusal drop length = record { refusal = refusal; drop = drop; length = length }

unfoldable pub replied_told : Result ℕ ReplyRefusal → RepliedTold
replied_told (Err CutOff) = tell_replied 0 5 0
replied_told (Err NoRoom) = tell_replied 3 0 0
replied_told (Ok n) = tell_replied 0 0 n

abbrev pub replied_numbers : ℕ → List ℕ → List ℕ → List ℕ → RepliedTold
replied_numbers fixed request reply buffer =
    choose ((cut_off fixed request, tell_replied 0 5 0) ∷ (no_room reply buffer, tell_replied 3 0 0) ∷ []) (tell_replied 0 0 (length reply))

-- an answer has the paper's numbers, and no two have the same
pub record RepliedNumbers : Type 0 where
  pub agree : (fixed : ℕ) (request reply buffer : List ℕ) → replied_told (replied_of fixed request reply buffer) ≡ replied_numbers fixed request reply buffer
  pub apart : (a b : Result ℕ ReplyRefusal) → replied_told a ≡ replied_told b → a ≡ b
