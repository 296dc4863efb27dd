-- The CCM that a state sends. The paper, "A tick": 89 octets, to our level's multicast address, sequence, counts and reserved zero; RDI
-- where any condition stands other than a peer's RDI. Definitions and the statement only.
use Rattle.std.specs.Prelude.{ℕ, ◌≡◌, List, length}
use Rattle.state_view.specs.State.{State}
use Rattle.state_standing.specs.Standing.{Stands, standing}
use Rattle.state_standing.specs.Flag.{flag, Shows}
use Rattle.message_ccm.specs.declared.CcmValues.{CcmValues}
use Rattle.message_ccm.specs.Continuity.{ccm_octets}

-- what a state says of itself: any condition that is active sets RDI; sequence and counts are zero
abbrev pub said_of : State → CcmValues
said_of s = record {
  level = s.settings.level;
  rdi = flag (standing s);
  period = s.settings.period;
  sequence = 0;
  mep = s.settings.mep;
  txfcf = 0;
  rxfcb = 0;
  txfcb = 0;
}

unfoldable pub ccm_of : State → List ℕ
ccm_of s = ccm_octets s.settings.own s.settings.meg (said_of s)

-- a CCM's RDI is 1 exactly where a condition is active; it has 89 octets
pub record CcmSays : Type 0 where
  -- its RDI is 1 exactly where a condition is active
  pub rdi : (s : State) → Shows (said_of s).rdi (Stands s)
  -- it is 89 octets long, an address being 6 and a MEG ID 48
  pub long : (s : State) → length s.settings.own ≡ 6 → length s.settings.meg ≡ 48 → length (ccm_of s) ≡ 89
