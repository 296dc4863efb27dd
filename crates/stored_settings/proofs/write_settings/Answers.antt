-- `stored_settings::write_settings` meets its contract: the body, and whether the settings are valid, handed to the writer of records.
use Rattle.state_settings.specs.Settings.{settings_of}
use Rattle.state_settings.proofs.Shape.{handed-shaped}
use Rattle.stored_settings.proofs.SettingsRecords.{ends_write}
use borrow.Author.Rules.{rules}
use Rattle.stored_settings.proofs.write_settings.Goals as goal

pub returns : goal.returns
returns c = let w = c in
    let a = c.args in record {
      into_after = ends_write (settings_of a.set.now a.names.now a.ids.now) a.into.now
          c.is_valid-good.ensures
          c.body_of-body.ensures
          w.write_record.ensures;
      shaped = handed-shaped a.set.now a.names.now a.ids.now (search rules) (search rules);
    }
