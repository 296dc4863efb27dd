-- An address as a part of a frame. The paper, "Numbers": destination 6, source 6; a frame has 14 octets or more, and what is shorter has
-- none. Definitions only.
use Rattle.std.specs.Prelude.{ℕ, cond, List, [], ltb, length}
use Rattle.frame_head.specs.Head.{head_length}

-- the octets, of a frame that is not shorter than its head
abbrev pub in_head : List ℕ → List ℕ → List ℕ
in_head octets f = cond (ltb (length f) head_length) [] octets
