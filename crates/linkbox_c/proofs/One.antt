-- Two outcomes that a contract of the archive allows are equal: one answer in numbers, one buffer, and one content of each array. Stated
-- over `Reads.Post`, which the check reads off the source's own clauses. Assumes nothing.
use mathlib.Core.Path.{◌≡◌}
use Rattle.state_view.specs.Arguments.{behind, fifth, left, left_session, left_tick}
use Rattle.linkbox_state.proofs.One as state
use Rattle.linkbox_frame.proofs.One as frames
use Rattle.linkbox_send.proofs.One as sends
use Rattle.linkbox_line.proofs.One as lines
use Rattle.linkbox_records.proofs.One as records
use Rattle.linkbox_session.proofs.One as session
use Rattle.linkbox_reader.proofs.One as reader
use Rattle.linkbox_c.proofs.linkbox_abi.Reads as abi
use Rattle.linkbox_c.proofs.linkbox_raw_new_setting.Reads as new_setting
use Rattle.linkbox_c.proofs.linkbox_raw_frame.Reads as frame
use Rattle.linkbox_c.proofs.linkbox_raw_tick.Reads as tick
use Rattle.linkbox_c.proofs.linkbox_raw_ticks_to_next.Reads as ticks_to_next
use Rattle.linkbox_c.proofs.linkbox_raw_clear.Reads as clear
use Rattle.linkbox_c.proofs.linkbox_raw_send_lmm.Reads as send_lmm
use Rattle.linkbox_c.proofs.linkbox_raw_send_dmm.Reads as send_dmm
use Rattle.linkbox_c.proofs.linkbox_raw_conditions.Reads as conditions
use Rattle.linkbox_c.proofs.linkbox_raw_loss_line.Reads as loss_line
use Rattle.linkbox_c.proofs.linkbox_raw_write_settings.Reads as write_settings
use Rattle.linkbox_c.proofs.linkbox_read_settings.Reads as read_settings
use Rattle.linkbox_c.proofs.linkbox_read_line.Reads as read_line
use Rattle.linkbox_c.proofs.linkbox_write_line.Reads as write_line
use Rattle.linkbox_c.proofs.linkbox_measure.Reads as measure
use Rattle.linkbox_c.proofs.linkbox_tlv.Reads as tlv

pub linkbox_abi_one : (κs : _) (a : _) (r r' : _) (s s' : _) → abi.Post κs a r s → abi.Post κs a r' s' → r ≡ r'
linkbox_abi_one = state.linkbox_abi_one

pub linkbox_raw_new_setting_one : (κs : _) (a : _) (r r' : _) (s s' : _) → new_setting.Post κs a r s → new_setting.Post κs a r' s' → r ≡ r'
linkbox_raw_new_setting_one = state.linkbox_raw_new_setting_one

pub linkbox_raw_frame_one : (κs : _) (a : _) (r r' : _) (s s' : _) → frame.Post κs a r s → frame.Post κs a r' s'
    → (r ≡ r') × (left a s ≡ left a s') × ((fifth (behind s)).now ≡ (fifth (behind s')).now)
linkbox_raw_frame_one = frames.linkbox_raw_frame_one

pub linkbox_raw_tick_one : (κs : _) (a : _) (r r' : _) (s s' : _) → tick.Post κs a r s → tick.Post κs a r' s'
    → (r ≡ r') × (left_tick a s ≡ left_tick a s') × ((behind s).0.now ≡ (behind s').0.now)
linkbox_raw_tick_one = sends.linkbox_raw_tick_one

pub linkbox_raw_ticks_to_next_one : (κs : _) (a : _) (r r' : _) (s s' : _) → ticks_to_next.Post κs a r s → ticks_to_next.Post κs a r' s'
    → r ≡ r'
linkbox_raw_ticks_to_next_one = sends.linkbox_raw_ticks_to_next_one

pub linkbox_raw_clear_one : (κs : _) (a : _) (r r' : _) (s s' : _) → clear.Post κs a r s → clear.Post κs a r' s'
    → (r ≡ r') × (left_session a s ≡ left_session a s')
linkbox_raw_clear_one = state.linkbox_raw_clear_one

pub linkbox_raw_send_lmm_one : (κs : _) (a : _) (r r' : _) (s s' : _) → send_lmm.Post κs a r s → send_lmm.Post κs a r' s'
    → (r ≡ r') × ((behind s).0.now ≡ (behind s').0.now)
linkbox_raw_send_lmm_one = sends.linkbox_raw_send_lmm_one

pub linkbox_raw_send_dmm_one : (κs : _) (a : _) (r r' : _) (s s' : _) → send_dmm.Post κs a r s → send_dmm.Post κs a r' s'
    → (r ≡ r') × ((behind s).1.0.now ≡ (behind s').1.0.now)
linkbox_raw_send_dmm_one = sends.linkbox_raw_send_dmm_one

pub linkbox_raw_conditions_one : (κs : _) (a : _) (r r' : _) (s s' : _) → conditions.Post κs a r s → conditions.Post κs a r' s' → r ≡ r'
linkbox_raw_conditions_one = state.linkbox_raw_conditions_one

pub linkbox_raw_loss_line_one : (κs : _) (a : _) (r r' : _) (s s' : _) → loss_line.Post κs a r s → loss_line.Post κs a r' s'
    → (r ≡ r') × ((behind s).0.now ≡ (behind s').0.now)
linkbox_raw_loss_line_one = lines.linkbox_raw_loss_line_one

pub linkbox_raw_write_settings_one : (κs : _) (a : _) (r r' : _) (s s' : _) → write_settings.Post κs a r s → write_settings.Post κs a r' s'
    → (r ≡ r') × (s.0.now ≡ s'.0.now)
linkbox_raw_write_settings_one = records.linkbox_raw_write_settings_one

pub linkbox_read_settings_one : (κs : _) (a : _) (r r' : _) (s s' : _) → read_settings.Post κs a r s → read_settings.Post κs a r' s'
    → r ≡ r'
linkbox_read_settings_one = records.linkbox_read_settings_one

pub linkbox_read_line_one : (κs : _) (a : _) (r r' : _) (s s' : _) → read_line.Post κs a r s → read_line.Post κs a r' s' → r ≡ r'
linkbox_read_line_one = records.linkbox_read_line_one

pub linkbox_write_line_one : (κs : _) (a : _) (r r' : _) (s s' : _) → write_line.Post κs a r s → write_line.Post κs a r' s'
    → (r ≡ r') × (s.0.now ≡ s'.0.now)
linkbox_write_line_one = records.linkbox_write_line_one

pub linkbox_measure_one : (κs : _) (a : _) (r r' : _) (s s' : _) → measure.Post κs a r s → measure.Post κs a r' s'
    → (r ≡ r') × (s.0.now ≡ s'.0.now)
linkbox_measure_one = session.linkbox_measure_leaves_one

pub linkbox_tlv_one : (κs : _) (a : _) (r r' : _) (s s' : _) → tlv.Post κs a r s → tlv.Post κs a r' s' → r ≡ r'
linkbox_tlv_one = reader.linkbox_tlv_one
