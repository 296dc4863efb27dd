-- Two outcomes that a contract allows are equal: one answer in numbers, one buffer, and one content of each array. Stated over
-- `Reads.Post`, which the check reads off the source's own clauses. Assumes nothing.
use mathlib.Core.Path.{◌≡◌, sym, ◌∙◌}
use Rattle.base_laws.proofs.Ended.{answer-is, buffer-is}
use Rattle.state_view.specs.Arguments.{held, behind, left_tick, writes_tick}
use Rattle.state_places.proofs.Stores.{ends-once}
use Rattle.linkbox_send.proofs.linkbox_raw_tick.Reads as tick
use Rattle.linkbox_send.proofs.linkbox_raw_send_lmm.Reads as send_lmm
use Rattle.linkbox_send.proofs.linkbox_raw_send_dmm.Reads as send_dmm
use Rattle.linkbox_send.proofs.linkbox_raw_ticks_to_next.Reads as ticks_to_next

pub linkbox_raw_tick_one : (κs : _) (a : _) (r r' : _) (s s' : _) → tick.Post κs a r s → tick.Post κs a r' s'
    → (r ≡ r') × (left_tick a s ≡ left_tick a s') × ((behind s).0.now ≡ (behind s').0.now)
linkbox_raw_tick_one κs a r r' s s' p q = ends-once (held writes_tick a) (left_tick a s) (left_tick a s') p.1 q.1 (p.0 ∙ sym q.0)

pub linkbox_raw_send_lmm_one : (κs : _) (a : _) (r r' : _) (s s' : _) → send_lmm.Post κs a r s → send_lmm.Post κs a r' s'
    → (r ≡ r') × ((behind s).0.now ≡ (behind s').0.now)
linkbox_raw_send_lmm_one κs a r r' s s' p q = let e = p ∙ sym q in (answer-is e, buffer-is e)

pub linkbox_raw_send_dmm_one : (κs : _) (a : _) (r r' : _) (s s' : _) → send_dmm.Post κs a r s → send_dmm.Post κs a r' s'
    → (r ≡ r') × ((behind s).1.0.now ≡ (behind s').1.0.now)
linkbox_raw_send_dmm_one κs a r r' s s' p q = let e = p.0 ∙ sym q.0 in (answer-is e, buffer-is e)

pub linkbox_raw_ticks_to_next_one : (κs : _) (a : _) (r r' : _) (s s' : _) → ticks_to_next.Post κs a r s → ticks_to_next.Post κs a r' s'
    → r ≡ r'
linkbox_raw_ticks_to_next_one κs a r r' s s' p q = p ∙ sym q
