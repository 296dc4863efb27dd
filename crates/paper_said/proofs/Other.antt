-- Whether a call is a new setting can be told. Assumes nothing.
use mathlib.Core.Path.{◌≡◌, sym, ap, ◌∙◌}
use mathlib.Core.Bool.{Bool, true, false, true≢false}
use Rattle.paper_said.specs.Calls.{Call, new_setting, frame, tick, clear, send_LMM, send_DMM, conditions, NoSetting}

unfoldable pub is_setting : Call → Bool
is_setting (new_setting t) = true
is_setting (frame a) = false
is_setting (tick b) = false
is_setting clear = false
is_setting (send_LMM b) = false
is_setting (send_DMM t b) = false
is_setting conditions = false

pub other : (c : Call) → is_setting c ≡ false → NoSetting c
unfolding is_setting
other c e t is = true≢false (ap is_setting (sym is) ∙ e)
