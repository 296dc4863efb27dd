-- `stored_settings_body_write::body_of` meets its contract: the fields, and the IDs behind them.
use mathlib.Core.Path.{◌≡◌, refl}
use lib.ListN.{length, replicate}
use Rattle.state_settings.specs.Settings.{slots, settings_of, Shaped, name_octets}
use Rattle.stored_settings_body.specs.Body.{fields_before}
use Rattle.state_settings.proofs.Shape.{lying-shaped}
use Rattle.stored_settings_body.proofs.Laid.{body_laid}
use borrow.Author.Rules.{rules}
use Rattle.stored_settings_body_write.proofs.body_of.Goals as goal

pub returns : goal.returns
unfolding fields_before
returns c =
    let a = c.args in
    let hn : length a.names.now ≡ name_octets = search rules in
    let hi : length a.ids.now ≡ slots = search rules in
    let s = settings_of a.set.now a.names.now a.ids.now in
    let w : Shaped slots s = rw hi at (lying-shaped a.set.now a.names.now a.ids.now hn) in
    body_laid slots s (replicate 81 0) w refl c.put_fields.ensures c.write_ids.ensures
