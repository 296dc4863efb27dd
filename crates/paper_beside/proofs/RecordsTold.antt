-- Records follow the paper: a clause for each line. Assumes nothing.
use Prim.Native.Nat.{ℕ, ◌<◌}
use mathlib.Core.Path.{◌≡◌, ap, ap₂}
use mathlib.Core.List.{List, []}
use mathlib.Core.Logic.{inl, inr}
use native.Mathlib.Omega.{arith}
use Rattle.std.specs.Prelude.{Result, Err, Option}
use Rattle.base_laws.specs.Ended.{Wrote}
use Rattle.stored_record.specs.declared.RecordRefusal.{RecordRefusal}
use Rattle.stored_record.specs.declared.RecordRefusal.TheVariants as stored
use Rattle.stored_record.specs.Writing.{record_told}
use Rattle.stored_record.proofs.Laws.{records}
use Rattle.stored_settings.specs.SettingsRecord.{read_settings, write_settings}
use Rattle.stored_settings.proofs.SettingsRecords.{settings-records}
use Rattle.stored_line.specs.declared.LossLine.{LossLine}
use Rattle.stored_line.specs.Line.{line_in}
use Rattle.stored_line.specs.LineCalls.{write_line}
use Rattle.stored_line.proofs.LineRecords.{loss-records}
use Rattle.stored_line.proofs.LineReads.{at-line}
use Rattle.paper_beside.specs.Records.{RecordCall, read-settings, refused, RecordLeft, leaving, Handed, RecordSaid, settings_7_record}
use Rattle.paper_beside.specs.Records.{settings_7_rule, settings_given, settings_4, settings_3, settings_written, line_7_record}
use Rattle.paper_beside.specs.Records.{line_7_rule, line_given, line_4, line_3, line_written, write_tells, line_tells, our_records}

-- what a write leaves, from its answer and its buffer
wrote : (e : Wrote (Result ℕ RecordRefusal)) (r : Result ℕ RecordRefusal) (b : List ℕ) → e.answer ≡ r → e.buffer ≡ b
    → leaving (write_tells e.answer) e.buffer ≡ leaving (write_tells r) b
wrote e r b f g = ap₂ (λ (x : Result ℕ RecordRefusal) (l : List ℕ). leaving (write_tells x) l) f g

-- a refusal has a number
has_number : (r : Result ℕ RecordRefusal) (n : ℕ) → (record_told r).refusal ≡ n → 0 < n → (record_told r).refusal ≡ 0 → ⊥
has_number r n e h z = omega (arith, e, z)

seven : (octets : List ℕ) → (read_settings octets).refusal ≡ 7 → our_records (read-settings octets) ≡ leaving (refused 7) []
seven octets e = rw e

pub follows : (c : RecordCall) (o : RecordLeft) → Handed c → RecordSaid c o → our_records c ≡ o
unfolding record_told
follows c o h (settings_7_record octets n) = seven octets ((settings-records.refuses_7 octets).1 (inl n))
follows c o h (settings_7_rule octets n) = seven octets ((settings-records.refuses_7 octets).1 (inr n))
follows c o h (settings_given octets r v) = let g = settings-records.gives octets r v in rw (g.0, g.1)
follows c o h (settings_4 s b n) =
    let e = (settings-records.refuses_4 s b h).1 n in
    wrote (write_settings s b) (Err stored.BreaksRule) b e
    (settings-records.refused s b (has_number (write_settings s b).answer 4 (ap (λ (r : Result ℕ RecordRefusal). (record_told r).refusal) e)
    (omega arith)))
follows c o h (settings_3 s b v l) =
    let e = (settings-records.refuses_3 s b h).1 (v, l) in
    wrote (write_settings s b) (Err stored.NoRoom) b e (settings-records.refused s b
    (has_number (write_settings s b).answer 3 (ap (λ (r : Result ℕ RecordRefusal). (record_told r).refusal) e) (omega arith)))
follows c o h (settings_written s b v l) =
    ap (λ (e : Wrote (Result ℕ RecordRefusal)). leaving (write_tells e.answer) e.buffer) (settings-records.writes s b v h l)
follows c o h (line_7_record octets n) = ap (λ (r : Option LossLine). leaving (line_tells r) []) ((loss-records.refuses_7 octets).1 (inl n))
follows c o h (line_7_rule octets n) = ap (λ (r : Option LossLine). leaving (line_tells r) []) ((loss-records.refuses_7 octets).1 (inr n))
follows c o h (line_given octets r k) =
    ap (λ (a : Option LossLine). leaving (line_tells a) [])
    (at-line octets ((records.is 2 20 octets).1 r) ((loss-records.rules (line_in octets)).1 k))
follows c o h (line_4 l b n) =
    let e = (loss-records.refuses_4 l b).1 n in
    wrote (write_line l b) (Err stored.BreaksRule) b e (loss-records.refused l b
    (has_number (write_line l b).answer 4 (ap (λ (r : Result ℕ RecordRefusal). (record_told r).refusal) e) (omega arith)))
follows c o h (line_3 l b k m) =
    let e = (loss-records.refuses_3 l b).1 (k, m) in
    wrote (write_line l b) (Err stored.NoRoom) b e (loss-records.refused l b
    (has_number (write_line l b).answer 3 (ap (λ (r : Result ℕ RecordRefusal). (record_told r).refusal) e) (omega arith)))
follows c o h (line_written l b k m) =
    ap (λ (e : Wrote (Result ℕ RecordRefusal)). leaving (write_tells e.answer) e.buffer) (loss-records.writes l b k m)
