-- How reading a loss line ends, and what it means: the reader's part of specs/LineCalls.antt. Assumes nothing.
use Prim.Native.Nat.{ℕ, ◌≤◌}
use mathlib.Core.Path.{◌≡◌, refl, sym, ap, ◌∙◌}
use mathlib.Core.List.{List, ◌++◌}
use mathlib.Core.Bool.{Bool, true, false, not, true≢false}
use mathlib.Core.Logic.{◌⊎◌, inl, inr, ⊎_elim}
use native.Mathlib.Omega.{arith}
use lib.ListN.{length}
use borrow.Author.Tests.{eqb-false, not-true, not-false}
use Rattle.std.specs.Prelude.{Option, Some, None}
use Rattle.base_laws.specs.Tests.{choose}
use Rattle.base_laws.specs.Lists.{part}
use Rattle.base_laws.proofs.Tests.{failed, known, choose-map}
use Rattle.base_laws.proofs.Apart.{part-front}
use Rattle.base_octets.specs.Octets.{Octets}
use Rattle.stored_record.specs.Record.{record_of, is_record, IsRecord, NoRecord}
use Rattle.stored_record.proofs.RecordTest.{record_to, record_from}
use Rattle.stored_record.proofs.Laws.{records}
use Rattle.stored_line.specs.declared.LossLine.{LossLine}
use Rattle.stored_line.specs.Line.{KeepsRules, keeps_rules, line_body, line_record, line_in}
use Rattle.stored_line.specs.LineCalls.{read_line, line_told, line_numbers}
use Rattle.stored_line.proofs.Laws.{rules, body_long, line-back, body_again}

-- ── reading: one law for each way ──

module _ (octets : List ℕ) where
  at_head : is_record 2 20 octets ≡ false → read_line octets ≡ None
  unfolding read_line choose
  at_head h = rw h

  at-rule : is_record 2 20 octets ≡ true → keeps_rules (line_in octets) ≡ false → read_line octets ≡ None
  unfolding read_line choose
  at-rule h k = rw (h, k)

  pub at-line : is_record 2 20 octets ≡ true → keeps_rules (line_in octets) ≡ true → read_line octets ≡ Some (line_in octets)
  unfolding read_line choose
  at-line h k = rw (h, k)

  pub agree : line_told (read_line octets) ≡ line_numbers octets
  unfolding read_line line_told line_numbers
  agree = choose-map line_told _ _

  -- ── the same from what the code knows ──

  -- r is the answer, and is told by its numbers
  abbrev pub Answered : Option LossLine → Type 0
  Answered r = (r ≡ read_line octets) × (line_told r ≡ line_numbers octets)

  told_so : {r : Option LossLine} → r ≡ read_line octets → Answered r
  told_so e = (e, ap line_told e ∙ agree)

  pub ends-head : {b : Bool} → b ≡ is_record 2 20 octets → not b ≡ true → Answered None
  ends-head {b} e h = told_so (sym (at_head (sym e ∙ not-true b h)))

  pub long-enough : {b : Bool} → b ≡ is_record 2 20 octets → not b ≡ false → 24 ≤ length octets
  long-enough {b} e h = omega (arith, (record_to 2 20 octets (sym e ∙ not-false b h)).whole)

  module _ {b d : Bool} {line : LossLine} (e : b ≡ is_record 2 20 octets) (h : not b ≡ false) (l : line ≡ line_in octets)
      (f : d ≡ keeps_rules line) where
    pub ends-rule : not d ≡ true → Answered None
    ends-rule k = told_so (sym (at-rule (sym e ∙ not-false b h) (ap keeps_rules (sym l) ∙ sym f ∙ not-true d k)))

    pub ends-line : not d ≡ false → Answered (Some line)
    ends-line k = told_so (ap Some l ∙ sym (at-line (sym e ∙ not-false b h) (ap keeps_rules (sym l) ∙ sym f ∙ not-false d k)))

-- ── reading: the statement ──

refused-not : {line : LossLine} → None ≡ Some line → ⊥
unfolding line_told
refused-not {line} e = eqb-false 7 0 refl (ap (λ (r : Option LossLine). (line_told r).refusal) e)

-- the line of an answer
line_of : Option LossLine → LossLine → LossLine
line_of None other = other
line_of (Some line) other = line

same_line : {x y : LossLine} → Some x ≡ Some y → x ≡ y
unfolding line_of
same_line {x} {y} e = ap (λ (r : Option LossLine). line_of r x) e

module _ (octets : List ℕ) where
  -- how reading may end, with what is known then
  pub data Way : Type 0 where
    no_record : is_record 2 20 octets ≡ false → Way
    no-rule : is_record 2 20 octets ≡ true → keeps_rules (line_in octets) ≡ false → Way
    a_line : is_record 2 20 octets ≡ true → keeps_rules (line_in octets) ≡ true → Way

  pub way : Way
  way = ⊎_elim (λ h. ⊎_elim (a_line h) (no-rule h) (known (keeps_rules (line_in octets)))) no_record (known (is_record 2 20 octets))

  pub seven-to : Way → read_line octets ≡ None → NoRecord 2 20 octets ⊎ (KeepsRules (line_in octets) → ⊥)
  seven-to (no_record h) e = inl ((records.is_not 2 20 octets).0 h)
  seven-to (no-rule h k) e = inr (failed (rules (line_in octets)) k)
  seven-to (a_line h k) e = absurd (refused-not (sym e ∙ at-line octets h k))

  pub seven-from : Way → NoRecord 2 20 octets ⊎ (KeepsRules (line_in octets) → ⊥) → read_line octets ≡ None
  seven-from (no_record h) w = at_head octets h
  seven-from (no-rule h k) w = at-rule octets h k
  seven-from (a_line h k) w =
      absurd (⊎_elim (λ n. true≢false (sym h ∙ (records.is_not 2 20 octets).1 n)) (λ n. n ((rules (line_in octets)).0 k)) w)

  -- what is known of a line that was read
  record Found (line : LossLine) : Type 0 where
    is-record : IsRecord 2 20 octets
    is-line : line_in octets ≡ line
    is_kept : KeepsRules line

  found : Way → (line : LossLine) → read_line octets ≡ Some line → Found line
  found (no_record h) line e = absurd (refused-not (sym (at_head octets h) ∙ e))
  found (no-rule h k) line e = absurd (refused-not (sym (at-rule octets h k) ∙ e))
  found (a_line h k) line e =
      let l : line_in octets ≡ line = same_line (sym (at-line octets h k) ∙ e) in
      record { is-record = record_to 2 20 octets h; is-line = l; is_kept = (rules line).0 (ap keeps_rules (sym l) ∙ k) }

  pub kept : (line : LossLine) → read_line octets ≡ Some line → KeepsRules line
  kept line e = (found way line e).is_kept

  pub again : (line : LossLine) → Octets octets → read_line octets ≡ Some line → part 0 24 octets ≡ line_record line
  again line all e =
      let f = found way line e in
      records.again 2 20 octets all f.is-record
      ∙ ap (record_of 2) (body_again octets all (omega (arith, f.is-record.whole)) ∙ ap line_body f.is-line)

  pub alone : (rest : List ℕ) → 24 ≤ length octets → read_line (octets ++ rest) ≡ read_line octets
  unfolding read_line line_in
  alone rest h =
      rw (
        records.front_alone 2 20 octets rest h,
        part-front 4 8 octets rest (omega arith),
        part-front 12 8 octets rest (omega arith),
        part-front 20 4 octets rest (omega arith),
      )

pub written_back : (line : LossLine) (rest : List ℕ) → KeepsRules line → read_line (line_record line ++ rest) ≡ Some line
written_back line rest k =
    let octets = line_record line ++ rest in
    let long = body_long line in
    let w = records.written 2 (line_body line) rest (omega arith) (omega (arith, long)) in
    let is : IsRecord 2 20 octets = rw long at w.0 in
    let here : part 4 20 octets ≡ line_body line = rw long at w.1 in
    let back = line-back line octets (omega (arith, is.whole)) here k in
    at-line octets (record_from 2 20 octets is) (ap keeps_rules back ∙ (rules line).1 k) ∙ ap Some back
