-- Where in a frame the first TLV of a type stands. The paper, "What is in a PDU": the reader takes a frame alone and tests 1, D1, D3, D4
-- and D5, in this order; a service frame is D3. Definitions only.
use Rattle.std.specs.Prelude.{ℕ, ◌+◌, ◌≤◌, List, cond, length, Result, Ok, Err, Option, Some, None}
use Rattle.frame_seek.specs.declared.Span.{Span}
use Rattle.frame_reader_answer.specs.declared.Bad.{Bad}
use Rattle.frame_reader_answer.specs.declared.Bad.TheVariants.{CutOff}
use Rattle.frame_tlvs.specs.declared.Place.{Place}
use Rattle.frame_tlvs.specs.declared.Place.TheVariants as place
use Rattle.frame_head.specs.Head.{behind_head, pdu_of}
use Rattle.frame_judge.specs.Judge.{judge_pdu, judge}
use Rattle.frame_tlvs.specs.Tlvs.{walk_from, is_cut}

-- where a value stands: its first octet and how many it has
abbrev pub span : ℕ → ℕ → Span
span start len = record { start = start; len = len }

-- a cut anywhere makes the frame bad, also behind the wanted TLV: the walk for the end decides first
abbrev pub wanted : Place → Option Span
wanted (place.Found start len) = Some (span start len)
wanted (place.End at) = None
wanted (place.Cut at) = None

abbrev pub whole : Place → Place → Result (Option Span) Bad
whole ending w = cond (is_cut ending) (Err CutOff) (Ok (wanted w))

abbrev pub seek_at : ℕ → List ℕ → Result ℕ Bad → Result (Option Span) Bad
seek_at kind p (Err b) = Err b
seek_at kind p (Ok start) = whole (walk_from 0 start p) (walk_from kind start p)

-- of a PDU alone: D1, D3, D4 or D5, no such TLV, or where in the PDU its value is
unfoldable pub seek_in : List ℕ → ℕ → Result (Option Span) Bad
seek_in p kind = seek_at kind p (judge_pdu p)

-- what is found in the PDU, by its place in the frame
abbrev pub in_frame : Result (Option Span) Bad → Result (Option Span) Bad
in_frame (Ok (Some value)) = Ok (Some (span (behind_head value.start) value.len))
in_frame (Ok None) = Ok None
in_frame (Err b) = Err b

-- a bad frame's reason, no such TLV, or where in the frame its value is
unfoldable pub seek_of : List ℕ → ℕ → Result (Option Span) Bad
seek_of f kind = in_frame (seek_at kind (pdu_of f) (judge f))

-- a value that is found is in the frame
abbrev pub Within : List ℕ → Result (Option Span) Bad → Type 0
Within f (Ok (Some value)) = value.start + value.len ≤ length f
Within f (Ok None) = Unit
Within f (Err b) = Unit
