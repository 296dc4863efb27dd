-- What a CCM says. The paper, rule 5: a MEG ID that is not ours; else a MEP ID that is no peer's, our own included; else the peer, with a
-- period code unlike ours or our own. The MEG ID is compared over all 48 octets. Definitions only.
use Rattle.std.specs.Prelude.{ℕ, not, List, [], ◌∷◌, leb, eqb, length, take}
use Rattle.base_laws.specs.Tests.{choose}
use Rattle.base_laws.specs.Lists.{same, place_of}
use Rattle.state_settings.specs.Settings.{Settings}
use Rattle.frame_ccm.specs.Ccm.{ccm_in, meg_in}
use Rattle.receive_signals.specs.declared.Signal.{Signal}
use Rattle.receive_signals.specs.declared.Signal.TheVariants.{Mismerge, UnexpectedMep, Heard, UnexpectedPeriod}

-- the peers' MEP IDs, those of the used slots
abbrev pub used_peers : Settings → List ℕ
used_peers t = take t.count t.ids

-- the slot of a peer; as many as there are peers where the MEP ID is no peer's
abbrev pub slot_of : Settings → List ℕ → ℕ
slot_of t p = place_of (ccm_in p).mep (used_peers t)

unfoldable pub ccm_signal : Settings → List ℕ → Signal
ccm_signal t p =
    choose (
    (not (same (meg_in p) t.meg), Mismerge)
    ∷ (leb (length (used_peers t)) (slot_of t p), UnexpectedMep)
    ∷ (not (eqb (ccm_in p).period t.period), UnexpectedPeriod (slot_of t p) (ccm_in p).rdi)
    ∷ [])
    (Heard (slot_of t p) (ccm_in p).rdi)
