-- Two outcomes that a contract allows are equal: one result, and one content of the buffer. Stated over `Reads.Post`, which the check
-- reads off the source's own clauses. Assumes nothing.
use mathlib.Core.Path.{◌≡◌, sym, ◌∙◌}
use Rattle.base_laws.proofs.Ended.{answer-is, buffer-is}
use Rattle.stored_settings.proofs.read_settings.Reads as read_settings
use Rattle.stored_settings.proofs.write_settings.Reads as write_settings

pub read_settings_one : (κs : _) (a : _) (r r' : _) (s s' : _) → read_settings.Post κs a r s → read_settings.Post κs a r' s' → r ≡ r'
read_settings_one κs a r r' s s' p q = p ∙ sym q

pub write_settings_one : (κs : _) (a : _) (r r' : _) (s s' : _) → write_settings.Post κs a r s → write_settings.Post κs a r' s' → (r ≡ r')
    × (s.0.now ≡ s'.0.now)
write_settings_one κs a r r' s s' p q = (answer-is (p.0.0 ∙ sym q.0.0), buffer-is (p.0.0 ∙ sym q.0.0))
