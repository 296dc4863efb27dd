-- `stored_settings_body_write::put_fields` meets its contract: seven pieces, each laid behind the one before it.
use mathlib.Core.Path.{◌≡◌}
use mathlib.Core.List.{[]}
use lib.ListN.{length}
use Rattle.base_laws.specs.Lists.{part}
use Rattle.state_settings.specs.Settings.{settings_of, name_octets}
use Rattle.state_settings.proofs.Shape.{lying-shaped}
use Rattle.stored_settings_body.proofs.Laid.{fields_laid}
use borrow.Author.Rules.{rules}
use Rattle.stored_settings_body_write.proofs.put_fields.Goals as goal

pub returns : goal.returns
unfolding part
returns c =
    let a = c.args in
    let h : length a.names.now ≡ name_octets = search rules in
    fields_laid 0 (settings_of a.set.now a.names.now []) a.into.now (lying-shaped a.set.now a.names.now [] h)
    c.requires
    c.write_little.ensures
    c.write_little-2.ensures
    c.copy_octets.ensures
    c.write_little-3.ensures
    c.copy_octets-2.ensures
    c.copy_octets-3.ensures
    c.write_little-4.ensures
