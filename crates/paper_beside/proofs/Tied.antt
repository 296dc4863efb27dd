-- What the contract of each function on records, and of the reader's two, allows, as the check reads it off the source, is what the paper
-- says of the call. Assumes nothing.
use mathlib.Core.Path.{◌≡◌, ap, ap₂, ◌∙◌}
use mathlib.Core.List.{[]}
use mathlib.Core.Bool.{cond}
use lib.Dec.{eqb}
use Rattle.std.specs.Prelude.{ℕ, Result, Option}
use Rattle.base_laws.specs.Ended.{Wrote}
use Rattle.base_octets.specs.Octets.{Octets}
use Rattle.state_settings.specs.Settings.{settings_of}
use Rattle.stored_settings_body.specs.declared.SettingsRead.{SettingsRead}
use Rattle.stored_settings.specs.SettingsRecord.{settings_read}
use Rattle.stored_settings.proofs.read_settings.Reads as read_settings
use Rattle.stored_settings.proofs.write_settings.Reads as write_settings
use Rattle.stored_line.specs.declared.LossLine.{LossLine}
use Rattle.stored_line_calls.proofs.read_line.Reads as read_line
use Rattle.stored_line_calls.proofs.write_line.Reads as write_line
use Rattle.frame_reader.specs.Reader.{value_of}
use Rattle.frame_reader.proofs.tlv_answer.Reads as tlv_answer
use Rattle.frame_reader.proofs.tlv_value.Reads as tlv_value
use Rattle.paper_beside.specs.Records as call
use Rattle.paper_beside.specs.Records.{refused, settings, RecordLeft, leaving, RecordSaid, write_tells, line_tells}
use Rattle.paper_beside.proofs.Records.{records_follow}
use Rattle.paper_beside.specs.Reader.{ReaderTells, ReaderSaid, reader_tells}
use Rattle.paper_beside.proofs.Reader.{reader-follows}
use Rattle.stored_record.specs.declared.RecordRefusal.{RecordRefusal}

-- ── stored records ──

pub read_settings-follows : (κs : _) (a : _) (r : _) (s : _) → read_settings.Post κs a r s → (o : RecordLeft)
    → RecordSaid (call.read-settings a.0.now) o
    → leaving (cond (eqb r.refusal 0) (settings (settings_read r)) (refused r.refusal)) [] ≡ o
read_settings-follows κs a r s p o q =
    ap (λ (t : SettingsRead). leaving (cond (eqb t.refusal 0) (settings (settings_read t)) (refused t.refusal)) []) p
    ∙ records_follow.ours.follows _ o tt q

pub write_settings-follows : (κs : _) (a : _) (r : _) (s : _) → write_settings.Post κs a r s → (o : RecordLeft)
    → RecordSaid (call.write-settings (settings_of a.1.0.now a.1.1.0.now a.1.1.1.0.now) a.0.now) o
    → leaving (write_tells r) s.0.now ≡ o
write_settings-follows κs a r s p o q =
    ap (λ (e : Wrote (Result ℕ RecordRefusal)). leaving (write_tells e.answer) e.buffer) p.0.0 ∙ records_follow.ours.follows _ o p.1 q

pub read_line-follows : (κs : _) (a : _) (r : _) (s : _) → read_line.Post κs a r s → (o : RecordLeft)
    → RecordSaid (call.read-line a.0.now) o → leaving (line_tells r) [] ≡ o
read_line-follows κs a r s p o q = ap (λ (t : Option LossLine). leaving (line_tells t) []) p.0 ∙ records_follow.ours.follows _ o tt q

pub write_line-follows : (κs : _) (a : _) (r : _) (s : _) → write_line.Post κs a r s → (o : RecordLeft)
    → RecordSaid (call.write-line a.1.0 a.0.now) o
    → leaving (write_tells r) s.0.now ≡ o
write_line-follows κs a r s p o q =
    ap (λ (e : Wrote (Result ℕ RecordRefusal)). leaving (write_tells e.answer) e.buffer) p.0 ∙ records_follow.ours.follows _ o tt q

-- ── the reader of TLVs ──

-- the answer and the value, of one frame and one type
pub reader-tells : (κs : _) (a : _) (r : _) (s : _) (κt : _) (b : _) (v : _) (t : _) → tlv_answer.Post κs a r s → tlv_value.Post κt b v t
    → b.0.now ≡ a.0.now → b.1.0 ≡ a.1.0
    → (o : ReaderTells) → Octets a.0.now → ReaderSaid a.0.now a.1.0 o → reader_tells r v.now ≡ o
reader-tells κs a r s κt b v t p q f k o w said =
    ap₂ reader_tells p.0 (q.0 ∙ ap₂ value_of f k) ∙ reader-follows.ours.follows _ _ o w said
