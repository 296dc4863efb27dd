-- The CCM of a state: what is written, and how long it is. Assumes nothing.
use Prim.Native.Nat.{ℕ}
use mathlib.Core.Path.{◌≡◌, ap, ◌∙◌}
use mathlib.Core.Bool.{Bool}
use mathlib.Core.List.{List}
use lib.ListN.{length}
use Rattle.state_view.specs.State.{State}
use Rattle.state_standing.specs.Standing.{standing}
use Rattle.state_standing.specs.Flag.{flag}
use Rattle.state_standing.proofs.Rules.{standing_is}
use Rattle.state_standing.proofs.Flags.{shows}
use Rattle.message_ccm.specs.declared.CcmValues.{CcmValues}
use Rattle.message_ccm.specs.Continuity.{ccm_octets}
use Rattle.message_ccm.proofs.Laid.{ccm-long}
use Rattle.call_tick_ccm.specs.Ccm.{said_of, ccm_of, CcmSays}

module _ (s : State) where
  -- the state's values with another RDI
  abbrev said_with : ℕ → CcmValues
  said_with rdi = record {
    level = s.settings.level;
    rdi = rdi;
    period = s.settings.period;
    sequence = 0;
    mep = s.settings.mep;
    txfcf = 0;
    rxfcb = 0;
    txfcb = 0;
  }

  -- what was written with the state's own parts is the state's CCM
  pub said : (own meg : List ℕ) (rdi : ℕ) (stands : Bool) → own ≡ s.settings.own → meg ≡ s.settings.meg → rdi ≡ flag stands
      → stands ≡ standing s
      → ccm_octets own meg (said_with rdi) ≡ ccm_of s
  unfolding ccm_of
  said own meg rdi stands h k m n = rw (h, k, m ∙ ap flag n)

  pub long : length s.settings.own ≡ 6 → length s.settings.meg ≡ 48 → length (ccm_of s) ≡ 89
  unfolding ccm_of
  long h k = ccm-long s.settings.own s.settings.meg (said_of s) h k

pub ccm-says : CcmSays
ccm-says = record { rdi = λ s. shows (standing s) (standing_is.standing_is s).0 (standing_is.standing_is s).1; long = long }
