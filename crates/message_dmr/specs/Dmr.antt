-- The octets of a delay reply. The paper, rule 6: the reply with opcode 46, with the caller's two stamps. Definitions and
-- the statement only.
use Rattle.std.specs.Prelude.{ℕ, ◌≤◌, ◌≡◌, List, length}
use Rattle.base_laws.specs.Lists.{laid}
use Rattle.base_stamp.specs.declared.Stamp.{Stamp}
use Rattle.frame_head.specs.Head.{behind_head}
use Rattle.message_parts.specs.Messages.{stamp_octets}
use Rattle.message_reply.specs.Replies.{reply_octets}

-- RxTimeStampf is the receive stamp, TxTimeStampb the transmit stamp; one that is not given is written as zeros
unfoldable pub dmr_octets : List ℕ → Stamp → Stamp → List ℕ → List ℕ
dmr_octets own receive transmit request =
    laid (behind_head 20) (stamp_octets transmit) (laid (behind_head 12) (stamp_octets receive) (reply_octets own 46 request))

-- a delay reply is as long as its request
pub record Lengths : Type 0 where
  pub dmr : (own request : List ℕ) (receive transmit : Stamp) → length own ≡ 6 → behind_head 36 ≤ length request
      → length (dmr_octets own receive transmit request) ≡ length request
