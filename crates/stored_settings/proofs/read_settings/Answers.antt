-- `stored_settings::read_settings` meets its contract: the body is copied as it stands, and there is one law for each way that it ends.
use mathlib.Core.Bool.{not}
use mathlib.Core.Path.{ap, ◌∙◌}
use Rattle.base_laws.specs.Lists.{part}
use Rattle.stored_settings.proofs.SettingsWays.{ends-head, long-enough, copied, ends-rule, ends-given}
use Rattle.stored_settings.proofs.read_settings.Goals as goal

pub returns-then-not-is_record : goal.returns-then-not-is_record
returns-then-not-is_record c = let w = c in
    let a = c.args in
    c.none.ensures ∙ ends-head a.from.now w.is_record.ensures (ap not c.if-not-is_record.true)

pub slice_bounds-copy_octets-end-2 : goal.slice_bounds-copy_octets-end-2
slice_bounds-copy_octets-end-2 c = long-enough c.args.from.now c.is_record.ensures (ap not c.if-not-is_record.false)

pub returns-then-not-is_valid : goal.returns-then-not-is_valid
unfolding part
returns-then-not-is_valid c = let w = c in
    let k = c in
    let from = c.args.from.now in
    c.none-then-not-is_valid.ensures
    ∙ ends-rule from w.is_record.ensures (ap not w.if-not-is_record.false) k.settings_of-read.ensures
    (copied from w.is_record.ensures (ap not w.if-not-is_record.false) c.copy_octets.ensures)
    c.is_valid.ensures (ap not c.if-not-is_valid.true)

pub returns : goal.returns
unfolding part
returns c = let w = c in
    let k = c in
    let from = c.args.from.now in
    ends-given from w.is_record.ensures (ap not w.if-not-is_record.false) k.settings_of-read.ensures
    (copied from w.is_record.ensures (ap not w.if-not-is_record.false) c.copy_octets.ensures)
    c.is_valid.ensures (ap not c.if-not-is_valid.false)
