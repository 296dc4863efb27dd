-- `stored_settings_body::names_of` meets its contract: three pieces, each laid behind the one before it.
use mathlib.Core.Path.{refl}
use lib.ListN.{replicate}
use Rattle.base_laws.specs.Lists.{part}
use Rattle.state_settings.specs.Settings.{slots, name_octets}
use Rattle.stored_settings_body.proofs.Laid.{names-laid}
use Rattle.stored_settings_body.proofs.names_of.Goals as goal

pub returns : goal.returns
unfolding part
returns c =
    let s = c in
    names-laid slots s.args.body.now (replicate name_octets 0) s.requires refl
    c.copy_octets.ensures
    c.copy_octets-2.ensures
    c.copy_octets-3.ensures
