-- The reader follows the paper: a law for each line, then a clause for each. Assumes nothing.
use Prim.Native.Nat.{ℕ, ◌≤◌, ◌<◌}
use mathlib.Core.Path.{◌≡◌, refl, sym, ap, ◌∙◌}
use mathlib.Core.List.{List}
use mathlib.Core.Bool.{true, false}
use mathlib.Core.Option.{Option as Maybe, some, none}
use mathlib.Core.Logic.{⊎_elim}
use native.Mathlib.Omega.{arith}
use lib.Dec.{leb}
use lib.Seq.{drop-drop}
use lib.ListN.{length, take, length-drop}
use borrow.Author.Tests.{leb-true, le-leb, eq-eqb, ne_eqb}
use Rattle.std.specs.Prelude.{Result, Ok, Err, Option}
use Rattle.frame_seek.specs.declared.Span.{Span}
use Rattle.base_laws.specs.Lists.{part}
use Rattle.base_laws.proofs.Tests.{known as if-known, both_true}
use Rattle.base_octets.specs.Octets.{Octets}
use Rattle.frame_tlvs.specs.declared.Place.{Place}
use Rattle.frame_tlvs.specs.declared.Place.TheVariants as place
use Rattle.frame_tlvs.specs.Tlvs.{first_of, walk_from, value_at}
use Rattle.frame_tlvs.proofs.Agrees.{walk-agrees}
use Rattle.frame_reader_answer.specs.declared.Bad.{Bad}
use Rattle.frame_reader_answer.specs.declared.Bad.TheVariants.{Length, Short, Opcode, Offset}
use Rattle.frame_head.specs.Head.{ether_type_of, length_good, pdu_of, opcode_of, offset_of, start_of}
use Rattle.frame_judge.specs.Judge.{judge_pdu}
use Rattle.frame_seek.specs.Seek.{wanted, whole, in_frame, seek_of}
use Rattle.frame_reader.specs.Reader.{answer_at, part_of, answer_of, value_of}
use Rattle.frame_judge.proofs.Judged.{pdu-short, pdu-opcode, pdu-offset, pdu-tlvs}
use Rattle.frame_seek.proofs.Seeks.{whole_cut, whole_uncut, in_bad, in_tlvs, of_length, of-service, of-pdu}
use Rattle.paper_said.proofs.Messages.{run_ends, no-run_cuts, behind}
use Rattle.paper_beside.specs.Reader.{Long, OamFrame, InTable, Offered, TlvsOf, ReaderTells, refused, dropped, value, no_such}
use Rattle.paper_beside.specs.Reader.{ReaderSaid, reader_1, service_d3, reader_d1, reader_d3, reader_d4, reader_d5, reader_value}
use Rattle.paper_beside.specs.Reader.{reader_none, bad_tells, reader_tells, our_reader}
use Rattle.paper_beside.proofs.Table.{table-least, table-known, not_in_table}

-- ── what ours tells ──

-- of what a search has found
seek_tells : List ℕ → Result (Option Span) Bad → ReaderTells
seek_tells f s = reader_tells (answer_at s) (part_of f s)

module _ (f : List ℕ) (kind : ℕ) where
  -- a reason that the search gives
  bad : (b : Bad) → seek_of f kind ≡ Err b → our_reader f kind ≡ bad_tells b
  unfolding answer_of value_of seek_tells
  bad b e = ap (seek_tells f) e

  -- a reason that stands before the TLVs of its PDU
  bad-pdu : (b : Bad) → length_good f ≡ true → ether_type_of f ≡ 0x8902 → judge_pdu (pdu_of f) ≡ Err b → our_reader f kind ≡ bad_tells b
  bad-pdu b g e j = bad b (of-pdu f kind g (eq-eqb (ether_type_of f) 0x8902 e) ∙ ap in_frame (in_bad (pdu_of f) kind b j))

-- what is told of a value, or of none
option_tells : Maybe (List ℕ) → ReaderTells
option_tells (some v) = value v
option_tells none = no_such

-- a value that is found in the PDU is that part of the frame
place-told : (f : List ℕ) (w : Place) → seek_tells f (in_frame (Ok (wanted w))) ≡ option_tells (value_at (pdu_of f) w)
unfolding seek_tells option_tells part
place-told f (place.Found start len) = ap (λ (l : List ℕ). value (take len l)) (sym (drop-drop start 14 f))
place-told f (place.End at) = refl
place-told f (place.Cut at) = refl

module _ (f : List ℕ) (kind : ℕ) where
  -- ── each line ──

  told_1 : (Long f → ⊥) → our_reader f kind ≡ refused 1
  told_1 n =
      ⊎_elim
      (λ (t : length_good f ≡ true).
      let p = (both_true (leb 14 (length f)) (leb (length f) 1514)).0 t in
      absurd (n (record { least = leb-true 14 (length f) p.0; most = leb-true (length f) 1514 p.1 })))
      (λ (t : length_good f ≡ false). bad f kind Length (of_length f kind t))
      (if-known (length_good f))

  module _ (l : Long f) where
    good : length_good f ≡ true
    good = (both_true (leb 14 (length f)) (leb (length f) 1514)).1 (le-leb 14 (length f) l.least, le-leb (length f) 1514 l.most)

    told-service : (ether_type_of f ≡ 0x8902 → ⊥) → our_reader f kind ≡ dropped 3
    told-service n = bad f kind Opcode (of-service f kind good (ne_eqb (ether_type_of f) 0x8902 n))

    told_d1 : ether_type_of f ≡ 0x8902 → length f < 18 → our_reader f kind ≡ dropped 1
    told_d1 e h = bad-pdu f kind Short good e (pdu-short (pdu_of f) (rw (length-drop 14 f) (omega (arith, l.least, h))))

  module _ (o : OamFrame f) where
    four : 4 ≤ length (pdu_of f)
    four = rw (length-drop 14 f) (omega (arith, o.head))

    told_d3 : ((least : ℕ) → InTable (opcode_of (pdu_of f)) least → ⊥) → our_reader f kind ≡ dropped 3
    told_d3 n = bad-pdu f kind Opcode (good o.long) o.ether (pdu-opcode (pdu_of f) four (not_in_table (opcode_of (pdu_of f)) n))

    told-d4 : (least : ℕ) → InTable (opcode_of (pdu_of f)) least → offset_of (pdu_of f) < least → our_reader f kind ≡ dropped 4
    told-d4 least t h =
        bad-pdu f kind Offset (good o.long) o.ether (pdu-offset (pdu_of f) four (table-known t) (rw (table-least t) h))

  module _ (o : Offered f) where
    -- the search starts at the frame's own offset
    started : seek_of f kind ≡ in_frame (whole (walk_from 0 (start_of (pdu_of f)) (pdu_of f)) (walk_from kind (start_of (pdu_of f)) (pdu_of f)))
    started =
        of-pdu f kind (good o.oam.long) (eq-eqb (ether_type_of f) 0x8902 o.oam.ether)
        ∙ ap in_frame (in_tlvs (pdu_of f) kind (start_of (pdu_of f))
        (pdu-tlvs (pdu_of f) (four o.oam) (table-known o.opcode) (rw (table-least o.opcode) o.offset)))

    told-d5 : Octets f → ((ts : List (ℕ × List ℕ)) → TlvsOf f ts → ⊥) → our_reader f kind ≡ dropped 5
    unfolding answer_of value_of seek_tells
    told-d5 w n =
        ap (seek_tells f) (started ∙ ap in_frame (whole_cut (walk_from 0 (start_of (pdu_of f)) (pdu_of f))
        (walk_from kind (start_of (pdu_of f)) (pdu_of f)) (no-run_cuts (pdu_of f) (start_of (pdu_of f)) (behind f 14 w) n)))

    told_found : (ts : List (ℕ × List ℕ)) → TlvsOf f ts → our_reader f kind ≡ option_tells (first_of kind ts)
    unfolding answer_of value_of seek_tells
    told_found ts t =
        ap (seek_tells f) (started ∙ ap in_frame (whole_uncut (walk_from 0 (start_of (pdu_of f)) (pdu_of f))
        (walk_from kind (start_of (pdu_of f)) (pdu_of f)) (run_ends (pdu_of f) (start_of (pdu_of f)) ts t)))
        ∙ place-told f (walk_from kind (start_of (pdu_of f)) (pdu_of f))
        ∙ ap option_tells (walk-agrees.finds kind (pdu_of f) (start_of (pdu_of f)) ts t)

pub follows : (f : List ℕ) (kind : ℕ) (r : ReaderTells) → Octets f → ReaderSaid f kind r → our_reader f kind ≡ r
unfolding option_tells
follows f kind r w (reader_1 n) = told_1 f kind n
follows f kind r w (service_d3 l n) = told-service f kind l n
follows f kind r w (reader_d1 l e h) = told_d1 f kind l e h
follows f kind r w (reader_d3 o n) = told_d3 f kind o n
follows f kind r w (reader_d4 least o t h) = told-d4 f kind o least t h
follows f kind r w (reader_d5 o n) = told-d5 f kind o w n
follows f kind r w (reader_value ts v o t e) = told_found f kind o ts t ∙ ap option_tells e
follows f kind r w (reader_none ts o t e) = told_found f kind o ts t ∙ ap option_tells e
