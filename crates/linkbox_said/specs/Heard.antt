-- How a program in C reads what it is answered: the paper's answer from the numbers of each struct. And the other way, where an answer
-- leaves no choice: the numbers of each answer, every other value being 0. The paper, "Refusals". Definitions only.
use Rattle.std.specs.Prelude.{ℕ, cond, not, List, [], ◌∷◌, eqb, pos}
use Rattle.base_laws.specs.Tests.{choose}
use Rattle.base_laws.specs.Lists.{part}
use Rattle.receive_answer.specs.declared.FrameTold.{FrameTold}
use Rattle.message_parts.specs.declared.parts.WrittenTold.{WrittenTold}
use Rattle.stored_record.specs.declared.RecordTold.{RecordTold}
use Rattle.stored_settings_body.specs.declared.SettingsRead.{SettingsRead}
use Rattle.stored_settings.specs.SettingsRecord.{settings_read}
use Rattle.stored_line.specs.declared.LineTold.{LineTold}
use Rattle.frame_reader_answer.specs.declared.TlvTold.{TlvTold}
use Rattle.linkbox_reader.specs.declared.TlvAt.{TlvAt}
use Rattle.paper_said.specs.Calls.{Answer, refused, dropped, passed, taken, written, loss, delay, delays, done}
use Rattle.paper_beside.specs.Records as stored
use Rattle.paper_beside.specs.Records.{RecordTells}
use Rattle.paper_beside.specs.Reader as reader
use Rattle.paper_beside.specs.Reader.{ReaderTells}

-- a setting, a clear: the refusal, or 0
abbrev pub plain_says : ℕ → Answer
plain_says refusal = cond (eqb refusal 0) done (refused refusal)

-- a frame: the refusal, the drop, or what was done, 1 to 7
abbrev pub frame_says : FrameTold → Answer
frame_says t =
    choose (
    (not (eqb t.refusal 0), refused t.refusal)
    ∷ (not (eqb t.drop 0), dropped t.drop)
    ∷ (eqb t.done 1, passed)
    ∷ (eqb t.done 2, taken)
    ∷ (eqb t.done 3, written t.length)
    ∷ (eqb t.done 4, loss t.near t.far)
    ∷ (eqb t.done 5, loss t.near t.far)
    ∷ (eqb t.done 6, delay t.twoway)
    ∷ [])
    (delays t.twoway t.onewayfar t.onewaynear)

-- a tick: the refusal, or a CCM of so many octets, or none was due
abbrev pub tick_says : WrittenTold → Answer
tick_says t = choose ((not (eqb t.refusal 0), refused t.refusal) ∷ (eqb t.length 0, done) ∷ []) (written t.length)

-- an LMM, a DMM: the refusal, or the message's length
abbrev pub send_says : WrittenTold → Answer
send_says t = cond (eqb t.refusal 0) (written t.length) (refused t.refusal)

-- settings that are read; a record that is written; a loss line that is read
abbrev pub settings_says : SettingsRead → RecordTells
settings_says t = cond (eqb t.refusal 0) (stored.settings (settings_read t)) (stored.refused t.refusal)

abbrev pub write_says : RecordTold → RecordTells
write_says t = cond (eqb t.refusal 0) (stored.written t.length) (stored.refused t.refusal)

abbrev pub line_says : LineTold → RecordTells
line_says t =
    cond (eqb t.refusal 0)
    (stored.line (record { near = t.near; far = t.far; intervals = t.intervals }))
    (stored.refused t.refusal)

-- a TLV: the refusal, the drop, a value, which is that part of the frame, or none
abbrev pub tlv_says : TlvAt → List ℕ → ReaderTells
tlv_says t f =
    choose (
    (not (eqb t.refusal 0), reader.refused t.refusal)
    ∷ (not (eqb t.drop 0), reader.dropped t.drop)
    ∷ (eqb t.value 1, reader.value (part t.start t.length f))
    ∷ [])
    reader.no_such

-- ── the numbers of an answer ──

-- a record that is written, a loss line that is read
abbrev pub write_heard : RecordTells → RecordTold
write_heard (stored.refused n) = record { refusal = n; length = 0 }
write_heard (stored.settings s) = record { refusal = 0; length = 0 }
write_heard (stored.line l) = record { refusal = 0; length = 0 }
write_heard (stored.written n) = record { refusal = 0; length = n }

abbrev pub line_heard : RecordTells → LineTold
line_heard (stored.refused n) = record { refusal = n; intervals = 0; near = pos 0; far = pos 0 }
line_heard (stored.settings s) = record { refusal = 0; intervals = 0; near = pos 0; far = pos 0 }
line_heard (stored.line l) = record { refusal = 0; intervals = l.intervals; near = l.near; far = l.far }
line_heard (stored.written n) = record { refusal = 0; intervals = 0; near = pos 0; far = pos 0 }

-- a TLV: its refusal, its drop, whether there is a value; and how long that is
abbrev pub tlv_heard : ReaderTells → TlvTold
tlv_heard (reader.refused n) = record { refusal = n; drop = 0; value = 0 }
tlv_heard (reader.dropped n) = record { refusal = 0; drop = n; value = 0 }
tlv_heard (reader.value v) = record { refusal = 0; drop = 0; value = 1 }
tlv_heard reader.no_such = record { refusal = 0; drop = 0; value = 0 }
