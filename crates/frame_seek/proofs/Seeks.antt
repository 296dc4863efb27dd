-- What a search for a TLV finds, case by case. Assumes nothing.
use Prim.Native.Nat.{ℕ, ◌+◌, ◌-◌, ◌≤◌}
use mathlib.Core.Path.{◌≡◌, ap, ap₂, ◌∙◌}
use mathlib.Core.Bool.{true, false}
use mathlib.Core.List.{List}
use native.Mathlib.Omega.{arith}
use lib.ListN.{length, drop, length-drop}
use borrow.Author.Tests.{not-true, not-false}
use Rattle.std.specs.Prelude.{Result, Ok, Err, Option, Some, None}
use Rattle.frame_seek.specs.declared.Span.{Span}
use Rattle.frame_reader_answer.specs.declared.Bad.{Bad}
use Rattle.frame_reader_answer.specs.declared.Bad.TheVariants.{Length, Opcode, CutOff}
use Rattle.frame_tlvs.specs.declared.Place.{Place}
use Rattle.frame_tlvs.specs.declared.Place.TheVariants as place
use Rattle.frame_head.specs.Head.{head_length, is_oam, length_good, pdu_of}
use Rattle.frame_tlvs.specs.Tlvs.{walk_from, is_cut, tlvs_whole}
use Rattle.frame_tlvs.proofs.Follows.{follows}
use Rattle.frame_judge.specs.Judge.{judge_pdu}
use Rattle.frame_judge.proofs.Judged.{frame-length, frame-service, frame-oam}
use Rattle.frame_seek.specs.Seek.{span, wanted, whole, in_frame, seek_at, seek_in, seek_of, Within}

-- ── in a PDU ──

pub whole_cut : (ending w : Place) → is_cut ending ≡ true → whole ending w ≡ Err CutOff
whole_cut ending w h = rw h

pub whole_uncut : (ending w : Place) → is_cut ending ≡ false → whole ending w ≡ Ok (wanted w)
whole_uncut ending w h = rw h

module _ (p : List ℕ) (kind : ℕ) where
  pub in_bad : (b : Bad) → judge_pdu p ≡ Err b → seek_in p kind ≡ Err b
  unfolding seek_in
  in_bad b e = ap (seek_at kind p) e

  module _ (start : ℕ) (e : judge_pdu p ≡ Ok start) where
    pub in_tlvs : seek_in p kind ≡ whole (walk_from 0 start p) (walk_from kind start p)
    unfolding seek_in
    in_tlvs = ap (seek_at kind p) e

    -- by where the walk for the type stops: the walk for the end goes the same way
    pub in_cut : (at : ℕ) → walk_from kind start p ≡ place.Cut at → seek_in p kind ≡ Err CutOff
    in_cut at w = in_tlvs ∙ ap₂ whole (rw w at (follows p kind start)) w

    pub in_none : (at : ℕ) → walk_from kind start p ≡ place.End at → seek_in p kind ≡ Ok None
    in_none at w = in_tlvs ∙ ap₂ whole (rw w at (follows p kind start)) w

    module _ (at len : ℕ) (w : walk_from kind start p ≡ place.Found at len) where
      found : seek_in p kind ≡ whole (walk_from 0 (at + len) p) (place.Found at len)
      found = in_tlvs ∙ ap₂ whole (rw w at (follows p kind start)) w

      pub cut_behind : tlvs_whole (at + len) p ≡ false → seek_in p kind ≡ Err CutOff
      cut_behind h = found ∙ whole_cut (walk_from 0 (at + len) p) (place.Found at len) (not-false (is_cut (walk_from 0 (at + len) p)) h)

      pub in_value : tlvs_whole (at + len) p ≡ true → seek_in p kind ≡ Ok (Some (span at len))
      in_value h = found ∙ whole_uncut (walk_from 0 (at + len) p) (place.Found at len) (not-true (is_cut (walk_from 0 (at + len) p)) h)

-- ── in a frame ──

module _ (f : List ℕ) (kind : ℕ) where
  pub of_length : length_good f ≡ false → seek_of f kind ≡ Err Length
  unfolding seek_of
  of_length h = ap (λ (j : Result ℕ Bad). in_frame (seek_at kind (pdu_of f) j)) (frame-length f h)

  module _ (good : length_good f ≡ true) where
    pub of-service : is_oam f ≡ false → seek_of f kind ≡ Err Opcode
    unfolding seek_of
    of-service n = ap (λ (j : Result ℕ Bad). in_frame (seek_at kind (pdu_of f) j)) (frame-service f good n)

    pub of-pdu : is_oam f ≡ true → seek_of f kind ≡ in_frame (seek_in (pdu_of f) kind)
    unfolding seek_of seek_in
    of-pdu e = ap (λ (j : Result ℕ Bad). in_frame (seek_at kind (pdu_of f) j)) (frame-oam f good e)

-- a value that lies in the PDU lies in the frame
pub within : (f : List ℕ) (s : Result (Option Span) Bad) → head_length ≤ length f → Within (pdu_of f) s → Within f (in_frame s)
within f (Ok (Some value)) h w = let e : length (drop 14 f) ≡ length f - 14 = length-drop 14 f in omega arith
within f (Ok None) h w = tt
within f (Err b) h w = tt
