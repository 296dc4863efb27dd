-- How many octets a box has in memory. Definitions only.
use Rattle.std.specs.Prelude.{ℕ, ◌+◌, ◌*◌}
use Rattle.state_settings.specs.Settings.{slots, set_words, name_octets}
use Rattle.state_view.specs.State.{run_words, loss_totals}

-- words of four octets, names, totals of eight
abbrev pub box_octets : ℕ
box_octets = 4 * (set_words + 3 * slots + run_words) + name_octets + 8 * loss_totals
