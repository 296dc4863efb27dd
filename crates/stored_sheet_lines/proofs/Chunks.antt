-- How writing the text of a chunk ends, and the statement of specs/Chunk.antt. Assumes nothing.
use Prim.Native.Nat.{ℕ, ◌≤◌, ◌<◌}
use mathlib.Core.Path.{◌≡◌, refl, sym, ap, ◌∙◌}
use mathlib.Core.List.{List}
use mathlib.Core.Bool.{true, false}
use mathlib.Core.Logic.{◌⊎◌, inl, inr, ⊎_elim}
use native.Mathlib.Omega.{arith}
use lib.Dec.{ltb}
use lib.ListN.{length}
use borrow.Author.Tests.{ltb-true, ltb-false, lt-ltb, le-ltb, eqb-false}
use Rattle.base_laws.specs.Ended.{Wrote, wrote}
use Rattle.base_laws.proofs.Ended.{answer-is, buffer-is}
use Rattle.base_laws.specs.Tests.{choose}
use Rattle.base_laws.specs.Lists.{laid}
use Rattle.base_laws.proofs.Tests.{known}
use Rattle.std.specs.Prelude.{Result, Ok, Err}
use Rattle.stored_sheet_lines.specs.declared.SheetRefusal.{SheetRefusal}
use Rattle.stored_sheet_lines.specs.declared.SheetRefusal.TheVariants.{NoRoom}
use Rattle.stored_sheet_lines.specs.declared.Printed.{Printed}
use Rattle.stored_sheet_lines.specs.declared.Printed.TheVariants.{All, Stopped}
use Rattle.stored_sheet.specs.Sheet.{text_of, all_good}
use Rattle.stored_sheet_lines.specs.Chunk.{room, write_lines, Chunks}
use Rattle.stored_sheet.proofs.Text.{text-long}

module _ (octets buffer : List ℕ) where
  abbrev o : Wrote (Result Printed SheetRefusal)
  o = write_lines octets buffer

  abbrev text : List ℕ
  text = text_of octets

  -- ── one law for each way ──

  pub ends-no-room : length buffer < room octets → wrote (Err NoRoom) buffer ≡ o
  unfolding write_lines choose
  ends-no-room h = rw (lt-ltb (length buffer) (room octets) h)

  module _ (h : room octets ≤ length buffer) where
    pub ends-all : {n : ℕ} {after : List ℕ} → all_good octets ≡ true → n ≡ length text → after ≡ laid 0 text buffer
        → wrote (Ok (All n)) after ≡ o
    unfolding write_lines choose
    ends-all g e f = rw (le-ltb (length buffer) (room octets) h, g, e, f)

    pub ends-stopped : {n : ℕ} {after : List ℕ} → all_good octets ≡ false → n ≡ length text → after ≡ laid 0 text buffer
        → wrote (Ok (Stopped n)) after ≡ o
    unfolding write_lines choose
    ends-stopped g e f = rw (le-ltb (length buffer) (room octets) h, g, e, f)

    -- ── the statement ──

    all : all_good octets ≡ true → o.answer ≡ Ok (All (length text))
    all g = answer-is (sym (ends-all g refl refl))

    stopped : all_good octets ≡ false → o.answer ≡ Ok (Stopped (length text))
    stopped g = answer-is (sym (ends-stopped g refl refl))

    written : o.buffer ≡ laid 0 text buffer
    written =
        ⊎_elim (λ g. buffer-is (sym (ends-all g refl refl))) (λ g. buffer-is (sym (ends-stopped g refl refl))) (known (all_good octets))

  -- a number for each kind of answer, to tell them apart
  numbered : Result Printed SheetRefusal → ℕ
  numbered (Err e) = 0
  numbered (Ok p) = 1

  only-short : o.answer ≡ Err NoRoom → length buffer < room octets
  unfolding numbered
  only-short e =
      ⊎_elim (ltb-true _ _) (λ f. absurd (full (ltb-false _ _ f) (known (all_good octets)))) (known (ltb (length buffer) (room octets)))
    where
      full : room octets ≤ length buffer → (all_good octets ≡ true) ⊎ (all_good octets ≡ false) → ⊥
      full h (inl g) = eqb-false 0 1 refl (ap numbered (sym e ∙ all h g))
      full h (inr g) = eqb-false 0 1 refl (ap numbered (sym e ∙ stopped h g))

pub chunks : Chunks
chunks = record {
  fits = λ octets. text-long (length octets) octets (omega arith);
  no_room = λ octets buffer. (only-short octets buffer, λ h. answer-is (sym (ends-no-room octets buffer h)));
  untouched = λ octets buffer h. buffer-is (sym (ends-no-room octets buffer h));
  written = written;
  all = all;
  stopped = stopped;
}
