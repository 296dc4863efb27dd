-- What the contract of a function of the archive allows, that of the library's function of the same name allows: so all that is proved of
-- any outcome of the library's function is proved of what C is answered. And the archive asks of a caller no more than the library asks.
-- Stated over `Reads.Pre` and `Reads.Post`, which the check reads off the source's own clauses. Assumes nothing.
use Rattle.linkbox_state.proofs.linkbox_abi.Reads as own_abi
use Rattle.linkbox_state.proofs.linkbox_raw_new_setting.Reads as own_new_setting
use Rattle.linkbox_frame.proofs.linkbox_raw_frame.Reads as own_frame
use Rattle.linkbox_send.proofs.linkbox_raw_tick.Reads as own_tick
use Rattle.linkbox_send.proofs.linkbox_raw_ticks_to_next.Reads as own_ticks_to_next
use Rattle.linkbox_state.proofs.linkbox_raw_clear.Reads as own_clear
use Rattle.linkbox_send.proofs.linkbox_raw_send_lmm.Reads as own_send_lmm
use Rattle.linkbox_send.proofs.linkbox_raw_send_dmm.Reads as own_send_dmm
use Rattle.linkbox_state.proofs.linkbox_raw_conditions.Reads as own_conditions
use Rattle.linkbox_line.proofs.linkbox_raw_loss_line.Reads as own_loss_line
use Rattle.linkbox_records.proofs.linkbox_raw_write_settings.Reads as own_write_settings
use Rattle.linkbox_records.proofs.linkbox_read_settings.Reads as own_read_settings
use Rattle.linkbox_records.proofs.linkbox_read_line.Reads as own_read_line
use Rattle.linkbox_records.proofs.linkbox_write_line.Reads as own_write_line
use Rattle.linkbox_session.proofs.linkbox_measure.Reads as own_measure
use Rattle.linkbox_reader.proofs.linkbox_tlv.Reads as own_tlv
use Rattle.linkbox_c.proofs.linkbox_abi.Reads as abi
use Rattle.linkbox_c.proofs.linkbox_raw_new_setting.Reads as new_setting
use Rattle.linkbox_c.proofs.linkbox_raw_frame.Reads as frame
use Rattle.linkbox_c.proofs.linkbox_raw_tick.Reads as tick
use Rattle.linkbox_c.proofs.linkbox_raw_ticks_to_next.Reads as ticks_to_next
use Rattle.linkbox_c.proofs.linkbox_raw_clear.Reads as clear
use Rattle.linkbox_c.proofs.linkbox_raw_send_lmm.Reads as send_lmm
use Rattle.linkbox_c.proofs.linkbox_raw_send_dmm.Reads as send_dmm
use Rattle.linkbox_c.proofs.linkbox_raw_conditions.Reads as conditions
use Rattle.linkbox_c.proofs.linkbox_raw_loss_line.Reads as loss_line
use Rattle.linkbox_c.proofs.linkbox_raw_write_settings.Reads as write_settings
use Rattle.linkbox_c.proofs.linkbox_read_settings.Reads as read_settings
use Rattle.linkbox_c.proofs.linkbox_read_line.Reads as read_line
use Rattle.linkbox_c.proofs.linkbox_write_line.Reads as write_line
use Rattle.linkbox_c.proofs.linkbox_measure.Reads as measure
use Rattle.linkbox_c.proofs.linkbox_tlv.Reads as tlv

pub linkbox_abi_same : (κs : _) (a : _) (r : _) (s : _) → abi.Post κs a r s → own_abi.Post κs a r s
linkbox_abi_same κs a r s p = p

pub linkbox_abi_asks : (κs : _) (a : _) → own_abi.Pre κs a → abi.Pre κs a
linkbox_abi_asks κs a p = p

pub linkbox_raw_new_setting_same : (κs : _) (a : _) (r : _) (s : _) → new_setting.Post κs a r s → own_new_setting.Post κs a r s
linkbox_raw_new_setting_same κs a r s p = p

pub linkbox_raw_new_setting_asks : (κs : _) (a : _) → own_new_setting.Pre κs a → new_setting.Pre κs a
linkbox_raw_new_setting_asks κs a p = p

pub linkbox_raw_frame_same : (κs : _) (a : _) (r : _) (s : _) → frame.Post κs a r s → own_frame.Post κs a r s
linkbox_raw_frame_same κs a r s p = p

pub linkbox_raw_frame_asks : (κs : _) (a : _) → own_frame.Pre κs a → frame.Pre κs a
linkbox_raw_frame_asks κs a p = p

pub linkbox_raw_tick_same : (κs : _) (a : _) (r : _) (s : _) → tick.Post κs a r s → own_tick.Post κs a r s
linkbox_raw_tick_same κs a r s p = p

pub linkbox_raw_tick_asks : (κs : _) (a : _) → own_tick.Pre κs a → tick.Pre κs a
linkbox_raw_tick_asks κs a p = p

pub linkbox_raw_ticks_to_next_same : (κs : _) (a : _) (r : _) (s : _) → ticks_to_next.Post κs a r s → own_ticks_to_next.Post κs a r s
linkbox_raw_ticks_to_next_same κs a r s p = p

pub linkbox_raw_ticks_to_next_asks : (κs : _) (a : _) → own_ticks_to_next.Pre κs a → ticks_to_next.Pre κs a
linkbox_raw_ticks_to_next_asks κs a p = p

pub linkbox_raw_clear_same : (κs : _) (a : _) (r : _) (s : _) → clear.Post κs a r s → own_clear.Post κs a r s
linkbox_raw_clear_same κs a r s p = p

pub linkbox_raw_clear_asks : (κs : _) (a : _) → own_clear.Pre κs a → clear.Pre κs a
linkbox_raw_clear_asks κs a p = p

pub linkbox_raw_send_lmm_same : (κs : _) (a : _) (r : _) (s : _) → send_lmm.Post κs a r s → own_send_lmm.Post κs a r s
linkbox_raw_send_lmm_same κs a r s p = p

pub linkbox_raw_send_lmm_asks : (κs : _) (a : _) → own_send_lmm.Pre κs a → send_lmm.Pre κs a
linkbox_raw_send_lmm_asks κs a p = p

pub linkbox_raw_send_dmm_same : (κs : _) (a : _) (r : _) (s : _) → send_dmm.Post κs a r s → own_send_dmm.Post κs a r s
linkbox_raw_send_dmm_same κs a r s p = p

pub linkbox_raw_send_dmm_asks : (κs : _) (a : _) → own_send_dmm.Pre κs a → send_dmm.Pre κs a
linkbox_raw_send_dmm_asks κs a p = p

pub linkbox_raw_conditions_same : (κs : _) (a : _) (r : _) (s : _) → conditions.Post κs a r s → own_conditions.Post κs a r s
linkbox_raw_conditions_same κs a r s p = p

pub linkbox_raw_conditions_asks : (κs : _) (a : _) → own_conditions.Pre κs a → conditions.Pre κs a
linkbox_raw_conditions_asks κs a p = p

pub linkbox_raw_loss_line_same : (κs : _) (a : _) (r : _) (s : _) → loss_line.Post κs a r s → own_loss_line.Post κs a r s
linkbox_raw_loss_line_same κs a r s p = p

pub linkbox_raw_loss_line_asks : (κs : _) (a : _) → own_loss_line.Pre κs a → loss_line.Pre κs a
linkbox_raw_loss_line_asks κs a p = p

pub linkbox_raw_write_settings_same : (κs : _) (a : _) (r : _) (s : _) → write_settings.Post κs a r s → own_write_settings.Post κs a r s
linkbox_raw_write_settings_same κs a r s p = p

pub linkbox_raw_write_settings_asks : (κs : _) (a : _) → own_write_settings.Pre κs a → write_settings.Pre κs a
linkbox_raw_write_settings_asks κs a p = p

pub linkbox_read_settings_same : (κs : _) (a : _) (r : _) (s : _) → read_settings.Post κs a r s → own_read_settings.Post κs a r s
linkbox_read_settings_same κs a r s p = p

pub linkbox_read_settings_asks : (κs : _) (a : _) → own_read_settings.Pre κs a → read_settings.Pre κs a
linkbox_read_settings_asks κs a p = p

pub linkbox_read_line_same : (κs : _) (a : _) (r : _) (s : _) → read_line.Post κs a r s → own_read_line.Post κs a r s
linkbox_read_line_same κs a r s p = p

pub linkbox_read_line_asks : (κs : _) (a : _) → own_read_line.Pre κs a → read_line.Pre κs a
linkbox_read_line_asks κs a p = p

pub linkbox_write_line_same : (κs : _) (a : _) (r : _) (s : _) → write_line.Post κs a r s → own_write_line.Post κs a r s
linkbox_write_line_same κs a r s p = p

pub linkbox_write_line_asks : (κs : _) (a : _) → own_write_line.Pre κs a → write_line.Pre κs a
linkbox_write_line_asks κs a p = p

pub linkbox_measure_same : (κs : _) (a : _) (r : _) (s : _) → measure.Post κs a r s → own_measure.Post κs a r s
linkbox_measure_same κs a r s p = p

pub linkbox_measure_asks : (κs : _) (a : _) → own_measure.Pre κs a → measure.Pre κs a
linkbox_measure_asks κs a p = p

pub linkbox_tlv_same : (κs : _) (a : _) (r : _) (s : _) → tlv.Post κs a r s → own_tlv.Post κs a r s
linkbox_tlv_same κs a r s p = p

pub linkbox_tlv_asks : (κs : _) (a : _) → own_tlv.Pre κs a → tlv.Pre κs a
linkbox_tlv_asks κs a p = p
