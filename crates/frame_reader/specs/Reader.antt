-- What a frame reads as, asked for a TLV type: what the search finds, as the caller is given it. Definitions only.
use Rattle.std.specs.Prelude.{Bool, false, true, ℕ, ◌+◌, List, [], Result, Ok, Err, Option, Some, None}
use Rattle.frame_seek.specs.declared.Span.{Span}
use Rattle.frame_reader_answer.specs.declared.Bad.{Bad}
use Rattle.base_laws.specs.Lists.{part}
use Rattle.frame_seek.specs.Seek.{seek_of}

-- the value's octets; none where there is no such TLV or the frame is bad
abbrev pub part_of : List ℕ → Result (Option Span) Bad → List ℕ
part_of f (Ok (Some value)) = part value.start value.len f
part_of f (Ok None) = []
part_of f (Err b) = []

unfoldable pub value_of : List ℕ → ℕ → List ℕ
value_of f kind = part_of f (seek_of f kind)

-- where they are: in the frame's own memory, at the value's start; where there is no such TLV or the frame is bad, at the frame's start
abbrev pub place_at : ℕ × ℕ → Result (Option Span) Bad → ℕ × ℕ
place_at p (Ok (Some value)) = (p.0, value.start + p.1)
place_at p (Ok None) = p
place_at p (Err b) = p

unfoldable pub place_of : ℕ × ℕ → List ℕ → ℕ → ℕ × ℕ
place_of p f kind = place_at p (seek_of f kind)

-- the call beside it: a value, even an empty one; no such TLV; or the reason
abbrev pub answer_at : Result (Option Span) Bad → Result Bool Bad
answer_at (Ok (Some value)) = Ok true
answer_at (Ok None) = Ok false
answer_at (Err b) = Err b

unfoldable pub answer_of : List ℕ → ℕ → Result Bool Bad
answer_of f kind = answer_at (seek_of f kind)
