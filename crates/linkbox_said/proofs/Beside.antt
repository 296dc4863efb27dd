-- The statement of specs/Shipped.antt on the calls beside a box: each contract gives what our definitions say, and these follow the paper.
-- Assumes nothing.
use mathlib.Core.Path.{◌≡◌, refl, sym, ap, ap₂, subst, ◌∙◌}
use mathlib.Core.Bool.{true, false}
use mathlib.Core.Logic.{⊎_elim}
use native.Mathlib.Omega.{arith}
use Rattle.std.specs.Prelude.{Result, Ok, Err, Option, Some, None}
use Rattle.frame_seek.specs.declared.Span.{Span}
use Rattle.base_laws.proofs.Ended.{answer-is, buffer-is}
use Rattle.base_laws.specs.Tests.{choose}
use Rattle.base_laws.proofs.Tests.{known}
use Rattle.state_settings.specs.Valid.{valid}
use Rattle.loss_lent.proofs.Said.{lent-follows}
use mathlib.Core.List.{List, []}
use Prim.Native.Nat.{ℕ}
use Rattle.stored_settings_body.specs.declared.SettingsRead.{SettingsRead}
use Rattle.stored_line.proofs.LineRecords.{loss-records}
use Rattle.stored_settings.specs.SettingsRecord.{body_size, settings_at, refused_read, read_settings, write_settings}
use Rattle.stored_record.specs.Record.{is_record}
use Rattle.stored_record.specs.declared.RecordRefusal.{RecordRefusal}
use Rattle.stored_record.specs.declared.RecordRefusal.TheVariants as stored
use Rattle.stored_record.specs.Writing as Writing
use Rattle.stored_line.specs.declared.LossLine.{LossLine}
use Rattle.stored_line.specs.LineCalls as Line
use Rattle.stored_line.specs.LineCalls.{write_line}
use Rattle.linkbox_reader.specs.declared.TlvAt.{TlvAt}
use Rattle.frame_seek.specs.Seek.{span, seek_of}
use Rattle.frame_reader_answer.specs.declared.Bad.{Bad}
use Rattle.frame_reader_answer.specs.declared.Bad.TheVariants as bad
use Rattle.frame_reader_answer.specs.Told as Reasons
use Rattle.linkbox_reader.specs.Tlvs.{tlv_at}
use Rattle.frame_reader.specs.Reader.{part_of, answer_at, answer_of, value_of}
use Rattle.paper_beside.specs.Records.{RecordTells, RecordLeft, leaving, write_tells, line_tells}
use Rattle.paper_beside.proofs.Records.{records_follow}
use Rattle.paper_beside.specs.Reader.{reader_tells}
use Rattle.paper_beside.proofs.Reader.{reader-follows}
use Rattle.linkbox_said.specs.Heard.{settings_says, write_says, line_says, tlv_says, write_heard, line_heard, tlv_heard}
use Rattle.linkbox_said.specs.Shipped.{ShippedBeside}
use Rattle.linkbox_line.proofs.Lines.{loss-lines}
use Rattle.linkbox_said.proofs.Heard.{write-says, line-says, tlv-says}

-- the numbers of our answers are those of the paper's
write_is : (x : Result ℕ RecordRefusal) → Writing.record_told x ≡ write_heard (write_tells x)
unfolding Writing.record_told
write_is (Err stored.BreaksRule) = refl
write_is (Err stored.NoRoom) = refl
write_is (Ok n) = refl

line-is : (x : Option LossLine) → Line.line_told x ≡ line_heard (line_tells x)
unfolding Line.line_told
line-is None = refl
line-is (Some l) = refl

bad-is : (f : List ℕ) (b : Bad) → Reasons.tlv_told (answer_at (Err b)) ≡ tlv_heard
    (reader_tells (answer_at (Err b)) (part_of f (Err b)))
unfolding Reasons.tlv_told Reasons.bad_of
bad-is f bad.Length = refl
bad-is f bad.Short = refl
bad-is f bad.Opcode = refl
bad-is f bad.Offset = refl
bad-is f bad.CutOff = refl

tlv-is : (f : List ℕ) (s : Result (Option Span) Bad) → Reasons.tlv_told (answer_at s) ≡ tlv_heard (reader_tells (answer_at s) (part_of f s))
unfolding Reasons.tlv_told
tlv-is f (Ok (Some value)) = refl
tlv-is f (Ok None) = refl
tlv-is f (Err b) = bad-is f b

-- no value, no place
no_place : (s : Result (Option Span) Bad) → (tlv_at s).value ≡ 0 → ((tlv_at s).start ≡ 0) × ((tlv_at s).length ≡ 0)
unfolding Reasons.tlv_told
no_place (Ok (Some value)) e = absurd (omega (arith, e))
no_place (Ok None) e = (refl, refl)
no_place (Err b) e = (refl, refl)

-- settings that are not read are zeros
unread : (octets : List ℕ) (r : SettingsRead) → r ≡ read_settings octets → (r.refusal ≡ 0 → ⊥) → r ≡ refused_read
unfolding read_settings choose
unread octets r e n =
    ⊎_elim
    (λ (a : is_record 1 body_size octets ≡ true).
    ⊎_elim
    (λ (b : valid (settings_at octets) ≡ true). absurd (n (ap (λ (x : SettingsRead). x.refusal) e ∙ rw (a, b) refl)))
    (λ (b : valid (settings_at octets) ≡ false). e ∙ rw (a, b) refl)
    (known (valid (settings_at octets))))
    (λ (a : is_record 1 body_size octets ≡ false). e ∙ rw a refl)
    (known (is_record 1 body_size octets))

pub shipped_beside : ShippedBeside
unfolding write_settings write_line answer_of value_of
shipped_beside = record {
  measure = lent-follows.ours;
  read_settings = λ κs a r s p o q.
      (ap (λ (t : SettingsRead). leaving (settings_says t) []) p ∙ records_follow.ours.follows _ o tt q, unread a.0.now r p);
  write_settings = λ κs a r s p o q.
      let e = answer-is p.0 in
      let f = records_follow.ours.follows _ o p.1 q in (
        ap₂ (λ (x : RecordTells) (b : List ℕ). leaving x b) (ap write_says e ∙ write-says _) (buffer-is p.0) ∙ f,
        e ∙ write_is _
            ∙ ap (λ (x : RecordLeft). write_heard x.answer) f,
      );
  read_line = λ κs a r s p o q.
      let e = p ∙ sym (loss-records.agree _) in
      let f = records_follow.ours.follows _ o tt q in (
        ap (λ (x : RecordTells). leaving x []) (ap line_says e ∙ line-says _) ∙ f,
        e ∙ line-is _
            ∙ ap (λ (x : RecordLeft). line_heard x.answer) f,
      );
  write_line = λ κs a r s p o q.
      let e = answer-is p in
      let f = records_follow.ours.follows _ o tt q in (
        ap₂ (λ (x : RecordTells) (b : List ℕ). leaving x b) (ap write_says e ∙ write-says _) (buffer-is p) ∙ f,
        e ∙ write_is _
            ∙ ap (λ (x : RecordLeft). write_heard x.answer) f,
      );
  tlv = λ κs a r s p w o q.
      let found = seek_of a.0.now a.1.0 in
      let f = reader-follows.ours.follows _ _ o w q in (
        ap (λ (t : TlvAt). tlv_says t a.0.now) p ∙ tlv-says a.0.now found ∙ f,
        ap (λ (t : TlvAt). record { refusal = t.refusal; drop = t.drop; value = t.value }) p ∙ tlv-is a.0.now found ∙ ap tlv_heard f,
        subst (λ (t : TlvAt). t.value ≡ 0 → (t.start ≡ 0) × (t.length ≡ 0)) (sym p) (no_place found),
      );
  loss_line_2 = λ κs a r s p n. let e = p ∙ loss-lines.refuses_2 _ _ n in (answer-is e, buffer-is e);
  loss_line = λ κs a r s p w o q.
      let e = p ∙ loss-lines.is-written _ _ w in
      let f = records_follow.ours.follows _ o tt q in (
        ap₂ (λ (x : RecordTells) (b : List ℕ). leaving x b) (ap write_says (answer-is e) ∙ write-says _) (buffer-is e) ∙ f,
        answer-is e ∙ write_is _
            ∙ ap (λ (x : RecordLeft). write_heard x.answer) f,
      );
}
