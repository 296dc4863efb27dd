-- The search for a TLV as one chain of reasons: whatever is told of a search can be read off it. Assumes nothing.
use Prim.Native.Nat.{ℕ}
use mathlib.Core.Path.{◌≡◌, ap, ◌∙◌}
use mathlib.Core.Bool.{cond, not}
use mathlib.Core.List.{List, [], ◌∷◌}
use lib.Dec.{ltb}
use lib.ListN.{length}
use Rattle.std.specs.Prelude.{Result, Ok, Err, Option}
use Rattle.frame_seek.specs.declared.Span.{Span}
use Rattle.base_laws.specs.Tests.{choose}
use Rattle.base_laws.proofs.Tests.{choose-map}
use Rattle.frame_opcodes.specs.Opcodes.{rule_of}
use Rattle.frame_reader_answer.specs.declared.Bad.{Bad}
use Rattle.frame_reader_answer.specs.declared.Bad.TheVariants.{Length, Short, Opcode, Offset}
use Rattle.frame_head.specs.Head.{is_oam, length_good, pdu_of, opcode_of, offset_of, start_of}
use Rattle.frame_tlvs.specs.Tlvs.{walk_from}
use Rattle.frame_judge.specs.Judge.{judge, judge_pdu}
use Rattle.frame_seek.specs.Seek.{whole, in_frame, seek_at, seek_of}

-- the reasons in order, as the reader finds them, and what the TLVs say behind them
unfoldable pub chained : {A : Type 0} → (Bad → A) → List ℕ → A → A
chained bad f last =
    choose ((not (length_good f), bad Length) ∷ (not (is_oam f), bad Opcode) ∷ [])
    (choose
    ((ltb (length (pdu_of f)) 4, bad Short)
    ∷ (not (rule_of (opcode_of (pdu_of f))).known, bad Opcode)
    ∷ (ltb (offset_of (pdu_of f)) (rule_of (opcode_of (pdu_of f))).least, bad Offset)
    ∷ [])
    last)

-- anything told of a search is told of the chain's reasons and of its last word
pub through : {A : Type 0} (t : Result (Option Span) Bad → A) (f : List ℕ) (kind : ℕ)
    → t (seek_of f kind) ≡ chained (λ b. t (Err b)) f
    (t (in_frame (whole (walk_from 0 (start_of (pdu_of f)) (pdu_of f)) (walk_from kind (start_of (pdu_of f)) (pdu_of f)))))
unfolding seek_of judge judge_pdu chained choose
through {A} t f kind =
    let p = pdu_of f in
    let u : Result ℕ Bad → A = λ h. t (in_frame (seek_at kind p h)) in
    choose-map u ((not (length_good f), Err Length) ∷ (not (is_oam f), Err Opcode) ∷ []) (judge_pdu p)
    ∙ ap (λ (x : A). cond (not (length_good f)) (t (Err Length)) (cond (not (is_oam f)) (t (Err Opcode)) x))
    (choose-map u
    ((ltb (length p) 4, Err Short)
    ∷ (not (rule_of (opcode_of p)).known, Err Opcode)
    ∷ (ltb (offset_of p) (rule_of (opcode_of p)).least, Err Offset)
    ∷ [])
    (Ok (start_of p)))
