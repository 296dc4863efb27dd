-- Two outcomes that a contract allows are equal: one answer in numbers, and one content of each array. Stated over `Reads.Post`, which the
-- check reads off the source's own clauses. Assumes nothing.
use mathlib.Core.Path.{◌≡◌, sym, ◌∙◌}
use Rattle.state_view.specs.Arguments.{held, left_session, writes_session}
use Rattle.state_places.proofs.Stores.{ends-once}
use Rattle.linkbox_state.proofs.linkbox_raw_new_setting.Reads as new_setting
use Rattle.linkbox_state.proofs.linkbox_raw_clear.Reads as clear
use Rattle.linkbox_state.proofs.linkbox_raw_conditions.Reads as conditions
use Rattle.linkbox_state.proofs.linkbox_abi.Reads as abi

pub linkbox_raw_new_setting_one : (κs : _) (a : _) (r r' : _) (s s' : _) → new_setting.Post κs a r s → new_setting.Post κs a r' s' → r ≡ r'
linkbox_raw_new_setting_one κs a r r' s s' p q = p.0 ∙ sym q.0

pub linkbox_raw_clear_one : (κs : _) (a : _) (r r' : _) (s s' : _) → clear.Post κs a r s → clear.Post κs a r' s'
    → (r ≡ r') × (left_session a s ≡ left_session a s')
linkbox_raw_clear_one κs a r r' s s' p q =
    let o = ends-once (held writes_session a) (left_session a s) (left_session a s') p.1 q.1 (p.0 ∙ sym q.0) in
    (o.0, o.1)

pub linkbox_raw_conditions_one : (κs : _) (a : _) (r r' : _) (s s' : _) → conditions.Post κs a r s → conditions.Post κs a r' s' → r ≡ r'
linkbox_raw_conditions_one κs a r r' s s' p q = p ∙ sym q

pub linkbox_abi_one : (κs : _) (a : _) (r r' : _) (s s' : _) → abi.Post κs a r s → abi.Post κs a r' s' → r ≡ r'
linkbox_abi_one κs a r r' s s' p q = p ∙ sym q
