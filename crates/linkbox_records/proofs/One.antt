-- Two outcomes that a contract allows are equal: one answer in numbers, and one buffer. Stated over `Reads.Post`, which the check reads off
-- the source's own clauses. Assumes nothing.
use mathlib.Core.Path.{◌≡◌, sym, ◌∙◌}
use Rattle.base_laws.proofs.Ended.{answer-is, buffer-is}
use Rattle.linkbox_records.proofs.linkbox_read_settings.Reads as read_settings
use Rattle.linkbox_records.proofs.linkbox_raw_write_settings.Reads as write_settings
use Rattle.linkbox_records.proofs.linkbox_read_line.Reads as read_line
use Rattle.linkbox_records.proofs.linkbox_write_line.Reads as write_line

pub linkbox_read_settings_one : (κs : _) (a : _) (r r' : _) (s s' : _) → read_settings.Post κs a r s → read_settings.Post κs a r' s'
    → r ≡ r'
linkbox_read_settings_one κs a r r' s s' p q = p ∙ sym q

pub linkbox_raw_write_settings_one : (κs : _) (a : _) (r r' : _) (s s' : _) → write_settings.Post κs a r s → write_settings.Post κs a r' s'
    → (r ≡ r') × (s.0.now ≡ s'.0.now)
linkbox_raw_write_settings_one κs a r r' s s' p q = let e = p.0 ∙ sym q.0 in (answer-is e, buffer-is e)

pub linkbox_read_line_one : (κs : _) (a : _) (r r' : _) (s s' : _) → read_line.Post κs a r s → read_line.Post κs a r' s' → r ≡ r'
linkbox_read_line_one κs a r r' s s' p q = p ∙ sym q

pub linkbox_write_line_one : (κs : _) (a : _) (r r' : _) (s s' : _) → write_line.Post κs a r s → write_line.Post κs a r' s'
    → (r ≡ r') × (s.0.now ≡ s'.0.now)
linkbox_write_line_one κs a r r' s s' p q = let e = p ∙ sym q in (answer-is e, buffer-is e)
