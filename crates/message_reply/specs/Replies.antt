-- The octets that every reply has. The paper, rule 6: the request with the source as destination, our address as source, and opcode 2, 42
-- or 46; all other octets and the length are kept. Definitions only.
use Rattle.std.specs.Prelude.{ℕ, cond, ◌||◌, List, [], ◌∷◌, ltb, length}
use Rattle.base_laws.specs.Lists.{laid}
use Rattle.frame_head.specs.Head.{source_of, behind_head}

-- the request's source over its destination, our address over its source, the reply's opcode over its own
unfoldable pub reply_octets : List ℕ → ℕ → List ℕ → List ℕ
reply_octets own opcode request = laid (behind_head 1) (opcode ∷ []) (laid 6 own (laid 0 (source_of request) request))

-- these octets laid over the buffer's first ones; a request without an opcode, or longer than the buffer, leaves the buffer as it was
abbrev pub reply_into : List ℕ → ℕ → List ℕ → List ℕ → List ℕ
reply_into own opcode request buffer =
    cond (ltb (length request) (behind_head 4) || ltb (length buffer) (length request)) buffer (laid 0 (reply_octets own opcode request) buffer)
