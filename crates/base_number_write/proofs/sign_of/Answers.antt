-- `base_number_write::sign_of` meets its contract: the sign is one octet, and none where there is no sign.
use Rattle.base_number_write.proofs.Sign.{sign_below, sign_above}
use Rattle.base_number_write.proofs.sign_of.Goals as goal

pub returns-then-value-lt0 : goal.returns-then-value-lt0
returns-then-value-lt0 c = let s = c in sign_below s.args.value c.ranges.value c.if-value-lt0.true

pub returns-else-value-lt0 : goal.returns-else-value-lt0
returns-else-value-lt0 c = let s = c in sign_above s.args.value c.ranges.value c.if-value-lt0.false
