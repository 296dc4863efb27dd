-- How writing a loss line ends, and the statement of specs/LineCalls.antt. Assumes nothing.
use Prim.Native.Nat.{ℕ, ◌+◌, ◌≤◌, ◌<◌}
use mathlib.Core.Path.{◌≡◌, sym, ap, ◌∙◌}
use mathlib.Core.List.{List}
use mathlib.Core.Bool.{Bool}
use mathlib.Core.Logic.{inl, ⊎_elim}
use native.Mathlib.Omega.{arith}
use lib.ListN.{length}
use Rattle.std.specs.Prelude.{Ok, Err, None}
use Rattle.base_laws.specs.Ended.{wrote}
use Rattle.base_laws.specs.Lists.{laid}
use Rattle.base_laws.proofs.Tests.{fails, failed}
use Rattle.base_octets.specs.Octets.{Octets}
use Rattle.stored_record.specs.declared.RecordRefusal.TheVariants as stored
use Rattle.stored_record.specs.Writing.{write_record}
use Rattle.stored_record.specs.Writing as writing
use Rattle.stored_record.proofs.Writing.{writing}
use Rattle.stored_line.specs.declared.LossLine.{LossLine}
use Rattle.stored_line.specs.Line.{KeepsRules, keeps_rules, line_body, line_record}
use Rattle.stored_line.specs.LineCalls.{read_line, write_line, seven, line_told, line_numbers, LossRecords}
use Rattle.stored_line.proofs.Laws.{rules, body_long}
use Rattle.stored_line.proofs.LineReads.{agree, way, seven-to, seven-from, kept, again, alone, written_back}

module _ (line : LossLine) (buffer : List ℕ) where
  four_to : (write_line line buffer).answer ≡ Err stored.BreaksRule → KeepsRules line → ⊥
  unfolding write_line
  four_to e =
      ⊎_elim (failed (rules line)) (λ n. absurd (omega (arith, n, body_long line)))
      (((writing).refuses_4 (keeps_rules line) 2 (line_body line) buffer).0 e)

  four_from : (KeepsRules line → ⊥) → (write_line line buffer).answer ≡ Err stored.BreaksRule
  unfolding write_line
  four_from n = ((writing).refuses_4 (keeps_rules line) 2 (line_body line) buffer).1 (inl (fails (rules line) n))

  three_to : (write_line line buffer).answer ≡ Err stored.NoRoom → KeepsRules line × (length buffer < 24)
  unfolding write_line
  three_to e =
      let w = ((writing).refuses_3 (keeps_rules line) 2 (line_body line) buffer).0 e in
      ((rules line).0 w.0, omega (arith, w.2, body_long line))

  three_from : KeepsRules line × (length buffer < 24) → (write_line line buffer).answer ≡ Err stored.NoRoom
  unfolding write_line
  three_from h =
      ((writing).refuses_3 (keeps_rules line) 2 (line_body line) buffer).1
      ((rules line).1 h.0, omega (arith, body_long line), omega (arith, h.1, body_long line))

  untouched : ((writing.record_told (write_line line buffer).answer).refusal ≡ 0 → ⊥) → (write_line line buffer).buffer ≡ buffer
  unfolding write_line
  untouched n = (writing).refused (keeps_rules line) 2 (line_body line) buffer n

  writes : KeepsRules line → 24 ≤ length buffer → write_line line buffer ≡ wrote (Ok 24) (laid 0 (line_record line) buffer)
  unfolding write_line
  writes k h =
      let long = body_long line in
      ap (λ (good : Bool). write_record good 2 (line_body line) buffer) ((rules line).1 k)
      ∙ (writing).writes 2 (line_body line) buffer (omega (arith, long)) (omega (arith, long))
      ∙ ap (λ (n : ℕ). wrote (Ok (4 + n)) (laid 0 (line_record line) buffer)) long

zeros : (octets : List ℕ) → read_line octets ≡ None → line_numbers octets ≡ seven
unfolding line_told
zeros octets e = sym (agree octets) ∙ ap line_told e

pub loss-records : LossRecords
loss-records = record {
  rules = rules;
  refuses_7 = λ octets. (seven-to octets (way octets), seven-from octets (way octets));
  zeros = zeros;
  agree = agree;
  written = written_back;
  kept = kept;
  again = again;
  front_alone = alone;
  refuses_4 = λ line buffer. (four_to line buffer, four_from line buffer);
  refuses_3 = λ line buffer. (three_to line buffer, three_from line buffer);
  refused = untouched;
  writes = writes;
}
