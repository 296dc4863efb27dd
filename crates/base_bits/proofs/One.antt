-- Two results that a contract allows are equal. Stated over `Reads.Post`, which the check reads off the source's own clauses. Assumes
-- nothing.
use mathlib.Core.Path.{◌≡◌, sym, ◌∙◌}
use Rattle.base_bits.proofs.level_of.Reads as level_of
use Rattle.base_bits.proofs.version_of.Reads as version_of
use Rattle.base_bits.proofs.first_octet.Reads as first_octet
use Rattle.base_bits.proofs.period_code_of.Reads as period_code_of
use Rattle.base_bits.proofs.rdi_of.Reads as rdi_of
use Rattle.base_bits.proofs.ccm_flags.Reads as ccm_flags
use Rattle.base_bits.proofs.mep_id_of.Reads as mep_id_of

pub level_of_one : (κs : _) (a : _) (r r' : _) (s s' : _) → level_of.Post κs a r s → level_of.Post κs a r' s' → r ≡ r'
level_of_one κs a r r' s s' p q = p.0 ∙ sym q.0

pub version_of_one : (κs : _) (a : _) (r r' : _) (s s' : _) → version_of.Post κs a r s → version_of.Post κs a r' s' → r ≡ r'
version_of_one κs a r r' s s' p q = p ∙ sym q

pub first_octet_one : (κs : _) (a : _) (r r' : _) (s s' : _) → first_octet.Post κs a r s → first_octet.Post κs a r' s' → r ≡ r'
first_octet_one κs a r r' s s' p q = p ∙ sym q

pub period_code_of_one : (κs : _) (a : _) (r r' : _) (s s' : _) → period_code_of.Post κs a r s → period_code_of.Post κs a r' s' → r ≡ r'
period_code_of_one κs a r r' s s' p q = p ∙ sym q

pub rdi_of_one : (κs : _) (a : _) (r r' : _) (s s' : _) → rdi_of.Post κs a r s → rdi_of.Post κs a r' s' → r ≡ r'
rdi_of_one κs a r r' s s' p q = p.0 ∙ sym q.0

pub ccm_flags_one : (κs : _) (a : _) (r r' : _) (s s' : _) → ccm_flags.Post κs a r s → ccm_flags.Post κs a r' s' → r ≡ r'
ccm_flags_one κs a r r' s s' p q = p ∙ sym q

pub mep_id_of_one : (κs : _) (a : _) (r r' : _) (s s' : _) → mep_id_of.Post κs a r s → mep_id_of.Post κs a r' s' → r ≡ r'
mep_id_of_one κs a r r' s s' p q = p ∙ sym q
