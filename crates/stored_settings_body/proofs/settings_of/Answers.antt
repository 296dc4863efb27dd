-- `stored_settings_body::settings_of` meets its contract: each number from its field, the names, the IDs.
use Rattle.base_laws.proofs.Loops.{part-rest}
use Rattle.stored_settings_body.proofs.settings_of.Goals as goal

pub returns : goal.returns
returns c =
    rw (
      c.read_little.ensures.is,
      c.read_little-2.ensures.is,
      c.read_little-3.ensures.is,
      c.read_little-4.ensures.is,
      c.names_of-names.ensures,
      c.read_ids.ensures,
      part-rest c.args.body.now 65,
    )
