-- Two outcomes that a contract allows are equal: one answer and one state. Nothing that is lent is written. Stated over `Reads.Post`, which
-- the check reads off the source's own clauses. Assumes nothing.
use mathlib.Core.Path.{◌≡◌, sym, ◌∙◌}
use Rattle.call_setting.proofs.new_box.Reads as new_box
use Rattle.call_setting.proofs.new_setting.Reads as new_setting
use Rattle.call_setting.proofs.tell.Reads as tell

pub new_box_one : (κs : _) (a : _) (r r' : _) (s s' : _) → new_box.Post κs a r s → new_box.Post κs a r' s' → r ≡ r'
new_box_one κs a r r' s s' p q = p.0 ∙ sym q.0

pub new_setting_one : (κs : _) (a : _) (r r' : _) (s s' : _) → new_setting.Post κs a r s → new_setting.Post κs a r' s' → r ≡ r'
new_setting_one κs a r r' s s' p q = p.0 ∙ sym q.0

pub tell_one : (κs : _) (a : _) (r r' : _) (s s' : _) → tell.Post κs a r s → tell.Post κs a r' s' → r ≡ r'
tell_one κs a r r' s s' p q = p ∙ sym q
