-- A message that has its fixed part is handled: its handler finds the octets that it cannot do without. Assumes nothing.
use Prim.Native.Nat.{ℕ, ◌+◌, ◌≤◌}
use mathlib.Core.Path.{◌≡◌, refl}
use mathlib.Core.List.{List}
use native.Mathlib.Omega.{arith}
use lib.Dec.{leb}
use lib.ListN.{length}
use borrow.Author.Tests.{leb-true, le-ltb}
use Rattle.base_laws.specs.Tests.{choose}
use Rattle.base_laws.specs.Lists.{every_below}
use Rattle.state_settings.specs.Settings.{Settings}
use Rattle.base_stamp.specs.declared.Stamp.{Stamp}
use Rattle.frame_opcodes.specs.declared.Handler.{Handler}
use Rattle.frame_opcodes.specs.Opcodes.{rule_of}
use Rattle.frame_opcodes.proofs.Rules.{every-row}
use Rattle.receive_handle.specs.Handle.{handle_of, needed_by, handled_of}

-- each row's offset tells of a fixed part in which they stand
pub room : (op : ℕ) → needed_by (rule_of op).handler ≤ 4 + (rule_of op).least
unfolding needed_by rule_of choose every_below
room op = leb-true (needed_by (rule_of op).handler) (4 + (rule_of op).least)
    (every-row (λ x. leb (needed_by x.handler) (4 + x.least)) refl refl op)

module _ (t : Settings) (p : List ℕ) (receive : Stamp) where
  pub handled-with : (h : Handler) → needed_by h ≤ length p → handled_of t p receive h ≡ handle_of t p receive h
  handled-with h k = rw (le-ltb (length p) (needed_by h) k)

  pub handled-whole : (op : ℕ) → 4 + (rule_of op).least ≤ length p
      → handled_of t p receive (rule_of op).handler ≡ handle_of t p receive (rule_of op).handler
  handled-whole op k = handled-with (rule_of op).handler (omega (arith, k, room op))
