-- A setting that is written out, for boxes that are refuted by it. Assumes nothing.
use mathlib.Core.Path.{refl}
use mathlib.Core.List.{[], ◌∷◌}
use lib.ListN.{replicate}
use Rattle.base_laws.specs.Lists.{every, every_pair, distinct}
use Rattle.base_octets.proofs.Written.{octets-of}
use Rattle.state_settings.specs.Settings.{Settings}
use Rattle.state_settings.specs.Valid.{Valid, valid}
use Rattle.state_peer_ids.specs.Ids.{peers_good}
use Rattle.state_settings.proofs.Rules.{valid_is}
use Rattle.state_view.specs.State.{State}
use Rattle.state_view.specs.WellFormed.{WellFormed}
use Rattle.call_setting.specs.Start.{start_of}
use Rattle.call_setting.proofs.Starts.{starts}
use Rattle.paper_said.specs.Started.{Settable}

-- level 4, MEP ID 9, period code 1 (2 ticks), one peer
abbrev pub setting : Settings
setting = record {
  level = 4;
  mep = 9;
  period = 1;
  count = 1;
  own = 2 ∷ 0 ∷ 0 ∷ 0 ∷ 0 ∷ 1 ∷ [];
  losspeer = 2 ∷ 0 ∷ 0 ∷ 0 ∷ 0 ∷ 2 ∷ [];
  meg = replicate 48 0;
  ids = 7 ∷ 0 ∷ 0 ∷ 0 ∷ 0 ∷ 0 ∷ 0 ∷ 0 ∷ [];
}

pub good : Valid setting
unfolding valid peers_good every every_pair distinct
good = (valid_is.valid_is setting).0 refl

pub settable : Settable setting
unfolding every
settable = record {
  handed = record {
    shape = record { own = refl; losspeer = refl; meg = refl; ids = refl };
    own = octets-of setting.own refl;
    losspeer = octets-of setting.losspeer refl;
    meg = octets-of setting.meg refl;
  };
  valid = good;
}

-- the state that it starts with
abbrev pub start : State
start = start_of setting

pub well : WellFormed start
well = starts.well setting good
