-- What is known of a request that is answered, from the message that it is. Assumes nothing.
use Prim.Native.Nat.{ℕ, ◌+◌, ◌<◌}
use mathlib.Core.Path.{◌≡◌, sym, ap, ◌∙◌}
use mathlib.Core.List.{List}
use native.Mathlib.Omega.{arith}
use lib.ListN.{length, length-drop}
use Rattle.std.specs.Prelude.{Ok}
use Rattle.frame_opcodes.specs.Opcodes.{rule_of}
use Rattle.frame_head.specs.Head.{pdu_of, opcode_of}
use Rattle.frame_message_answer.specs.declared.MessageTold.{MessageTold}
use Rattle.frame_message.specs.Good.{Good}
use Rattle.frame_message.specs.Message.{message_of}
use Rattle.frame_message_answer.specs.Told.{message_told}
use Rattle.frame_message.specs.Told.{good_opcode}
use Rattle.frame_message.proofs.Goods.{good_frames}
use Rattle.frame_message.proofs.Numbers.{agree, only}

-- what is known of a request: it is good, its opcode is k, and its fixed part of n octets is there
pub record Request (f : List ℕ) (k n : ℕ) : Type 0 where
  pub told_is : good_opcode f ≡ k
  pub good : Good f
  pub least : (rule_of (opcode_of (pdu_of f))).least ≡ n
  pub long : 18 + n < length f

pub requested : (f : List ℕ) (k n : ℕ) → message_of f ≡ Ok k → 0 < k → (rule_of k).least ≡ n → Request f k n
unfolding message_told
requested f k n e p l =
    let t : good_opcode f ≡ k = ap (λ (t : MessageTold). t.opcode) (sym (agree f) ∙ ap message_told e) in
    let m = only f (λ z. let y : k ≡ 0 = sym t ∙ z in omega arith) in
    let o : (rule_of (opcode_of (pdu_of f))).least ≡ n = ap (λ (op : ℕ). (rule_of op).least) (sym m.1 ∙ t) ∙ l in
    record { told_is = t; good = m.0; least = o; long = omega (arith, o, good_frames.fixed f m.0, length-drop 14 f) }
