-- Two results that a contract allows are equal. Stated over `Reads.Post`, which the check reads off the source's own clauses. Assumes
-- nothing.
use mathlib.Core.Path.{◌≡◌, sym, ◌∙◌}
use Rattle.frame_loopback_alarm.proofs.transaction.Reads as transaction
use Rattle.frame_loopback_alarm.proofs.alarm_period.Reads as alarm_period

pub transaction_one : (κs : _) (a : _) (r r' : _) (s s' : _) → transaction.Post κs a r s → transaction.Post κs a r' s' → r ≡ r'
transaction_one κs a r r' s s' p q = p ∙ sym q

pub alarm_period_one : (κs : _) (a : _) (r r' : _) (s s' : _) → alarm_period.Post κs a r s → alarm_period.Post κs a r' s' → r ≡ r'
alarm_period_one κs a r r' s s' p q = p ∙ sym q
