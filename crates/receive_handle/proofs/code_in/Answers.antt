-- The low three bits of the flags; nothing where there are none. Assumes nothing.
use Prim.Native.Nat.{ℕ, ◌<◌}
use mathlib.Core.Path.{◌≡◌, refl, sym, ap}
use mathlib.Core.List.{List, [], ◌∷◌}
use native.Mathlib.Omega.{arith}
use lib.ListN.{length}
use Rattle.frame_head.specs.Head.{flags_of}
use Rattle.frame_message.specs.Message.{period_code}
use Rattle.receive_handle.proofs.code_in.Goals as goal

none : (p : List ℕ) → length p < 3 → flags_of p ≡ 0
none [] h = refl
none (x ∷ []) h = refl
none (x ∷ y ∷ []) h = refl
none (x ∷ y ∷ z ∷ p) h = absurd (omega arith)

pub returns-then-pdu-lt3 : goal.returns-then-pdu-lt3
returns-then-pdu-lt3 c = sym (ap period_code (none c.args.pdu.now c.if-pdu-lt3.true))
