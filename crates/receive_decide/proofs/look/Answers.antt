-- Test by test, as the definition has them. Assumes nothing.
use mathlib.Core.Path.{◌≡◌, sym, ap, ap₂, ◌∙◌}
use mathlib.Core.Bool.{Bool, true, false}
use native.Mathlib.Omega.{arith}
use Prim.Native.Nat.{ℕ, ◌≤◌, ◌<◌}
use mathlib.Core.List.{List}
use lib.Dec.{ltb}
use lib.ListN.{length, get_or, length-drop}
use borrow.Author.Tests.{lt-ltb, le-ltb, le-leb, lt-leb, not-true, not-false}
use Rattle.std.specs.Prelude.{Result, Ok, Err}
use Rattle.state_settings.specs.Settings.{own_named, losspeer_named}
use Rattle.frame_opcodes.specs.declared.Rule.{Rule}
use Rattle.frame_opcodes.specs.Opcodes.{rule_of}
use Rattle.frame_head.specs.Head.{length_good, pdu_of, opcode_of, flags_of, offset_of, start_of}
use Rattle.frame_tlvs.specs.Tlvs.{tlvs_whole}
use Rattle.frame_message.specs.Message.{period_code, code_good}
use Rattle.receive_answer.specs.declared.Drop.{Drop}
use Rattle.receive_answer.specs.declared.Drop.TheVariants as drop
use Rattle.receive_decide.specs.Decide.{is_ours}
use Rattle.receive_decide.specs.OneLook.{look_at}
use Rattle.receive_decide.proofs.Looks.{not-handled, too_long, low-offset, cut, not_ours, bad-code, all-good}
use Rattle.receive_decide.proofs.look.Goals as goal

-- ── what came in, and what each test found ──

module _ (names f : List ℕ) (rule : Rule) (long : 18 ≤ length f) (row-is : rule ≡ rule_of (opcode_of (pdu_of f))) where
  abbrev row : Rule
  row = rule_of (opcode_of (pdu_of f))

  -- what the definition finds
  abbrev Finds : Result Unit Drop → Type 0
  Finds l = l ≡ look_at (own_named names) (losspeer_named names) f

  -- a column of the row that was given
  column : {A : Type 0} (g : Rule → A) → g row ≡ g rule
  column g = ap g (sym row-is)

  unhandled : rule.handled ≡ false → Finds (Err drop.Opcode)
  unhandled n = sym (not-handled (own_named names) (losspeer_named names) f (column (λ r. r.handled) ∙ n))

  module _ (h : rule.handled ≡ true) where
    handled : row.handled ≡ true
    handled = column (λ r. r.handled) ∙ h

    longer : 1514 < length f → Finds (Err drop.Short)
    longer k =
        sym (too_long (own_named names) (losspeer_named names) f handled (rw (le-leb 14 (length f) (omega arith), lt-leb (length f) 1514 k)))

    -- the PDU that was found is the frame's
    module _ (short : length f ≤ 1514) (p : List ℕ) (pdu : p ≡ pdu_of f) where
      good : length_good f ≡ true
      good = rw (le-leb 14 (length f) (omega arith), le-leb (length f) 1514 short)

      low : get_or p 3 0 < rule.least → Finds (Err drop.Offset)
      low k =
          sym (low-offset (own_named names) (losspeer_named names) f handled good (lt-ltb (offset_of (pdu_of f)) row.least
          (omega (arith, k, column (λ r. r.least), ap offset_of pdu))))

      module _ (k : rule.least ≤ get_or p 3 0) {whole-found : Bool} (w : whole-found ≡ tlvs_whole (start_of p) p) where
        large : ltb (offset_of (pdu_of f)) row.least ≡ false
        large = le-ltb (offset_of (pdu_of f)) row.least (omega (arith, k, column (λ r. r.least), ap offset_of pdu))

        walked : tlvs_whole (start_of (pdu_of f)) (pdu_of f) ≡ whole-found
        walked = sym (w ∙ ap (λ (p : List ℕ). tlvs_whole (start_of p) p) pdu)

        cuts : whole-found ≡ false → Finds (Err drop.CutOff)
        cuts e = sym (cut (own_named names) (losspeer_named names) f handled good large (walked ∙ e))

        module _ (whole : whole-found ≡ true) {ours-found : Bool} (u : ours-found ≡ is_ours (own_named names) (losspeer_named names) f) where
          others : ours-found ≡ false → Finds (Err drop.Destination)
          others e = sym (not_ours (own_named names) (losspeer_named names) f handled good large (walked ∙ whole) (sym u ∙ e))

          module _ (ours : ours-found ≡ true) {code-found : Bool} {code : ℕ} (g : code-found ≡ code_good rule code)
              (v : code ≡ period_code (flags_of p)) where
            coded : code_good row (period_code (flags_of (pdu_of f))) ≡ code-found
            coded = sym (g ∙ ap₂ code_good row-is (v ∙ ap (λ (p : List ℕ). period_code (flags_of p)) pdu))

            bad : code-found ≡ false → Finds (Err drop.Value)
            bad e = sym (bad-code (own_named names) (losspeer_named names) f handled good large (walked ∙ whole) (sym u ∙ ours) (coded ∙ e))

            all : code-found ≡ true → Finds (Ok tt)
            all e = sym (all-good (own_named names) (losspeer_named names) f handled good large (walked ∙ whole) (sym u ∙ ours) (coded ∙ e))

-- the PDU has its head
four : (f p : List ℕ) → 18 ≤ length f → p ≡ pdu_of f → 4 ≤ length p
four f p long pdu = rw (pdu, length-drop 14 f) (omega arith)

-- ── case by case ──

pub returns-then-not-rule : goal.returns-then-not-rule
returns-then-not-rule c =
    unhandled c.args.names.now c.args.frame.now c.args.rule c.requires.behind_head_in_bounds c.requires.rule_value
    (not-true _ c.if-not-rule.true)

pub returns-then-frame-gt-LONGEST : goal.returns-then-frame-gt-LONGEST
returns-then-frame-gt-LONGEST c =
    longer c.args.names.now c.args.frame.now c.args.rule c.requires.behind_head_in_bounds c.requires.rule_value
    (not-false _ c.if-not-rule.false)
    c.if-frame-gt-LONGEST.true

pub bounds-pdu-3 : goal.bounds-pdu-3
bounds-pdu-3 c = omega (arith, four c.args.frame.now _ c.requires.behind_head_in_bounds c.pdu_of-pdu.ensures.0)

pub returns-then-offset-rule : goal.returns-then-offset-rule
returns-then-offset-rule c =
    low c.args.names.now c.args.frame.now c.args.rule c.requires.behind_head_in_bounds c.requires.rule_value
    (not-false _ c.if-not-rule.false)
    c.if-frame-gt-LONGEST.false
    _ c.pdu_of-pdu.ensures.0
    c.if-offset-rule.true

pub returns-then-not-tlvs_whole : goal.returns-then-not-tlvs_whole
returns-then-not-tlvs_whole c =
    cuts c.args.names.now c.args.frame.now c.args.rule c.requires.behind_head_in_bounds c.requires.rule_value
    (not-false _ c.if-not-rule.false)
    c.if-frame-gt-LONGEST.false
    _ c.pdu_of-pdu.ensures.0
    c.if-offset-rule.false
    c.tlvs_whole.ensures
    c.if-not-tlvs_whole.true

pub returns-then-not-for_us : goal.returns-then-not-for_us
returns-then-not-for_us c =
    others c.args.names.now c.args.frame.now c.args.rule c.requires.behind_head_in_bounds c.requires.rule_value
    (not-false _ c.if-not-rule.false)
    c.if-frame-gt-LONGEST.false
    _ c.pdu_of-pdu.ensures.0
    c.if-offset-rule.false
    c.tlvs_whole.ensures
    c.if-not-tlvs_whole.false
    c.for_us.ensures
    c.if-not-for_us.true

pub bounds-pdu-2 : goal.bounds-pdu-2
bounds-pdu-2 c = omega (arith, four c.args.frame.now _ c.requires.behind_head_in_bounds c.pdu_of-pdu.ensures.0)

pub returns-then-not-code_good : goal.returns-then-not-code_good
returns-then-not-code_good c =
    bad c.args.names.now c.args.frame.now c.args.rule c.requires.behind_head_in_bounds c.requires.rule_value
    (not-false _ c.if-not-rule.false)
    c.if-frame-gt-LONGEST.false
    _ c.pdu_of-pdu.ensures.0
    c.if-offset-rule.false
    c.tlvs_whole.ensures
    c.if-not-tlvs_whole.false
    c.for_us.ensures
    c.if-not-for_us.false
    c.code_good.ensures
    c.period_code_of.ensures
    c.if-not-code_good.true

pub returns : goal.returns
returns c =
    all c.args.names.now c.args.frame.now c.args.rule c.requires.behind_head_in_bounds c.requires.rule_value
    (not-false _ c.if-not-rule.false)
    c.if-frame-gt-LONGEST.false
    _ c.pdu_of-pdu.ensures.0
    c.if-offset-rule.false
    c.tlvs_whole.ensures
    c.if-not-tlvs_whole.false
    c.for_us.ensures
    c.if-not-for_us.false
    c.code_good.ensures
    c.period_code_of.ensures
    c.if-not-code_good.false
