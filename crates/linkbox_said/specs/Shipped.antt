-- What ships is what the paper says: for each function that C calls, whatever its contract allows, as the check reads it off the source
-- (`Reads.Post`: the arguments a, the result r, the memory s afterwards), is the paper's outcome. Statements only.
use Rattle.std.specs.Prelude.{ℕ, ◌≡◌, List, []}
use Rattle.base_octets.specs.Octets.{Octets}
use Rattle.state_settings.specs.Settings.{settings_of}
use Rattle.loss_lent.specs.Lent.{Lent}
use Rattle.loss_lent.specs.Said.{FollowsLent}
use Rattle.state_view.specs.State.{State, shown}
use Rattle.state_view.specs.Arguments.{reads, writes_session, writes_tick, writes_all, behind}
use Rattle.state_view.specs.WellFormed.{WellFormed}
use Rattle.stored_record.specs.Writing.{tell_record}
use Rattle.call_conditions.specs.Conditions.{no_conditions}
use Rattle.stored_settings.specs.SettingsRecord.{refused_read}
use Rattle.paper_said.specs.Calls as call
use Rattle.paper_said.specs.Calls.{Answer, HandedOut, nothing, Outcome}
use Rattle.paper_said.specs.Said.{Said}
use Rattle.paper_said.specs.Words.{taken_over, conditions_answer}
use Rattle.paper_said.specs.Told.{Numbers, counted, answer_numbers, frame_as_numbers}
use Rattle.paper_beside.specs.Records as stored
use Rattle.paper_beside.specs.Records.{RecordLeft, leaving, RecordSaid}
use Rattle.paper_beside.specs.Reader.{ReaderTells, ReaderSaid}
use Rattle.linkbox_state.proofs.linkbox_raw_new_setting.Reads as new_setting
use Rattle.linkbox_state.proofs.linkbox_raw_clear.Reads as clear
use Rattle.linkbox_state.proofs.linkbox_raw_conditions.Reads as conditions
use Rattle.linkbox_frame.proofs.linkbox_raw_frame.Reads as frame
use Rattle.linkbox_send.proofs.linkbox_raw_tick.Reads as tick
use Rattle.linkbox_send.proofs.linkbox_raw_send_lmm.Reads as send_lmm
use Rattle.linkbox_send.proofs.linkbox_raw_send_dmm.Reads as send_dmm
use Rattle.linkbox_records.proofs.linkbox_read_settings.Reads as read_settings
use Rattle.linkbox_records.proofs.linkbox_raw_write_settings.Reads as write_settings
use Rattle.linkbox_records.proofs.linkbox_read_line.Reads as read_line
use Rattle.linkbox_records.proofs.linkbox_write_line.Reads as write_line
use Rattle.linkbox_reader.proofs.linkbox_tlv.Reads as tlv
use Rattle.linkbox_line.specs.Line.{line_of}
use Rattle.linkbox_line.proofs.linkbox_raw_loss_line.Reads as loss_line
use Rattle.linkbox_said.specs.Heard.{plain_says, frame_says, tick_says, send_says, settings_says, write_says, line_says, tlv_says, write_heard, line_heard, tlv_heard}
use Rattle.linkbox_said.specs.Lying.{state_in, left_by_frame, left_by_tick, left_by_clear, arrival_in}

-- the answer that C reads from its numbers is the paper's, and the numbers are those of that answer, all others 0; the state that C then
-- holds, its buffer, and what is returned to it are the paper's too
pub record Tells (x : Answer) (n : Numbers) (s : State) (b : List ℕ) (h : HandedOut) (o : Outcome) : Type 0 where
  pub answer : x ≡ o.answer
  pub numbers : n ≡ answer_numbers o.answer
  pub state : s ≡ o.state
  pub buffer : b ≡ o.buffer
  pub out : h ≡ o.out

-- ── the calls on a box ──

-- for each function that C calls on a box, whatever its contract allows is the paper's outcome: the answer read from the numbers, the
-- state in memory then, the buffer
pub record Shipped : Type 1 where
  -- a new setting: the caller takes over what is returned, unless it is refused
  pub new_setting : (κs : _) (a : _) (r : _) (s : _) → new_setting.Post κs a r s → Octets a.1.0.now → (before : State) (o : Outcome)
      → Said before (call.new_setting (settings_of a.0.now a.1.0.now a.1.1.0.now)) o
      → Tells (plain_says r.refusal) (counted r.refusal 0 0) (taken_over before r.refusal (shown r.state)) []
      (call.a_state (shown r.state)) o
  pub frame : (κs : _) (a : _) (r : _) (s : _) → frame.Post κs a r s → Octets (behind a).1.0.now → (o : Outcome)
      → Said (state_in writes_all a) (call.frame (arrival_in (behind a))) o
      → Tells (frame_says r) (frame_as_numbers r) (left_by_frame a s) (behind s).1.1.1.1.0.now nothing o
  pub tick : (κs : _) (a : _) (r : _) (s : _) → tick.Post κs a r s → (o : Outcome) → Said (state_in writes_tick a) (call.tick (behind a).0.now) o
      → Tells (tick_says r) (counted r.refusal 0 r.length) (left_by_tick a s) (behind s).0.now nothing o
  pub clear : (κs : _) (a : _) (r : _) (s : _) → clear.Post κs a r s → (o : Outcome) → Said (state_in writes_session a) call.clear o
      → Tells (plain_says r) (counted r 0 0) (left_by_clear a s) [] nothing o
  pub send_lmm : (κs : _) (a : _) (r : _) (s : _) → send_lmm.Post κs a r s → (o : Outcome)
      → Said (state_in reads a) (call.send_LMM (behind a).0.now) o
      → Tells (send_says r) (counted r.refusal 0 r.length) (state_in reads a) (behind s).0.now nothing o
  pub send_dmm : (κs : _) (a : _) (r : _) (s : _) → send_dmm.Post κs a r s → (o : Outcome)
      → Said (state_in reads a) (call.send_DMM (behind a).0 (behind a).1.0.now) o
      → Tells (send_says r) (counted r.refusal 0 r.length) (state_in reads a) (behind s).1.0.now nothing o
  pub conditions : (κs : _) (a : _) (r : _) (s : _) → conditions.Post κs a r s → (o : Outcome) → Said (state_in reads a) call.conditions o
      → Tells (conditions_answer r) (counted r.refusal 0 0) (state_in reads a) [] nothing o
      × ((r.refusal ≡ 0 → ⊥) → r.conditions ≡ no_conditions)

-- ── the calls beside a box ──

-- the same of the lent session (`loss_lent.LentSaid`), stored records (`paper_beside.RecordSaid`), a box's own loss line among them, and
-- the reader of TLVs (`paper_beside.ReaderSaid`)
pub record ShippedBeside : Type 1 where
  -- the lent session's function, by its clause `Lent`
  pub measure : FollowsLent Lent
  -- settings that are read, zeros beside 7
  pub read_settings : (κs : _) (a : _) (r : _) (s : _) → read_settings.Post κs a r s → (o : RecordLeft)
      → RecordSaid (stored.read-settings a.0.now) o → (leaving (settings_says r) [] ≡ o) × ((r.refusal ≡ 0 → ⊥) → r ≡ refused_read)
  pub write_settings : (κs : _) (a : _) (r : _) (s : _) → write_settings.Post κs a r s → (o : RecordLeft)
      → RecordSaid (stored.write-settings (settings_of a.1.0.now a.1.1.0.now a.1.1.1.0.now) a.0.now) o
      → (leaving (write_says r) s.0.now ≡ o) × (r ≡ write_heard o.answer)
  pub read_line : (κs : _) (a : _) (r : _) (s : _) → read_line.Post κs a r s → (o : RecordLeft)
      → RecordSaid (stored.read-line a.0.now) o → (leaving (line_says r) [] ≡ o) × (r ≡ line_heard o.answer)
  pub write_line : (κs : _) (a : _) (r : _) (s : _) → write_line.Post κs a r s → (o : RecordLeft)
      → RecordSaid (stored.write-line a.1.0 a.0.now) o → (leaving (write_says r) s.0.now ≡ o) × (r ≡ write_heard o.answer)
  -- a TLV, its place and length 0 where there is no value
  pub tlv : (κs : _) (a : _) (r : _) (s : _) → tlv.Post κs a r s → Octets a.0.now → (o : ReaderTells)
      → ReaderSaid a.0.now a.1.0 o
      → (tlv_says r a.0.now ≡ o)
      × (record { refusal = r.refusal; drop = r.drop; value = r.value } ≡ tlv_heard o)
      × (r.value ≡ 0 → (r.start ≡ 0) × (r.length ≡ 0))
  -- a box's own loss line: 2 where the state is not well formed, and the buffer stays; else what is said of writing the session's line
  pub loss_line_2 : (κs : _) (a : _) (r : _) (s : _) → loss_line.Post κs a r s → (WellFormed (state_in reads a) → ⊥)
      → (r ≡ tell_record 2 0) × ((behind s).0.now ≡ (behind a).0.now)
  pub loss_line : (κs : _) (a : _) (r : _) (s : _) → loss_line.Post κs a r s → WellFormed (state_in reads a) → (o : RecordLeft)
      → RecordSaid (stored.write-line (line_of (state_in reads a).session) (behind a).0.now) o
      → (leaving (write_says r) (behind s).0.now ≡ o) × (r ≡ write_heard o.answer)
