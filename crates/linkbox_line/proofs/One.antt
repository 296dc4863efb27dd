-- Two outcomes that the contract allows are equal: one answer in numbers, and one buffer. Stated over `Reads.Post`, which the check reads
-- off the source's own clauses. Assumes nothing.
use mathlib.Core.Path.{◌≡◌, sym, ◌∙◌}
use Rattle.base_laws.proofs.Ended.{answer-is, buffer-is}
use Rattle.state_view.specs.Arguments.{behind}
use Rattle.linkbox_line.proofs.linkbox_raw_loss_line.Reads as loss_line

pub linkbox_raw_loss_line_one : (κs : _) (a : _) (r r' : _) (s s' : _) → loss_line.Post κs a r s → loss_line.Post κs a r' s'
    → (r ≡ r') × ((behind s).0.now ≡ (behind s').0.now)
linkbox_raw_loss_line_one κs a r r' s s' p q = let e = p ∙ sym q in (answer-is e, buffer-is e)
