-- The octets of a loss reply. The paper, rule 6: the reply with opcode 42, with our received and sent counts in RxFCf and TxFCb.
-- Definitions and the statement only.
use Rattle.std.specs.Prelude.{ℕ, ◌≤◌, ◌≡◌, List, length}
use Rattle.base_laws.specs.Lists.{laid}
use Rattle.frame_head.specs.Head.{behind_head}
use Rattle.message_parts.specs.Messages.{count}
use Rattle.message_reply.specs.Replies.{reply_octets}

-- RxFCf is ours received, TxFCb ours sent
unfoldable pub lmr_octets : List ℕ → ℕ → ℕ → List ℕ → List ℕ
lmr_octets own received sent request = laid (behind_head 12) (count sent) (laid (behind_head 8) (count received) (reply_octets own 42 request))

-- a loss reply is as long as its request
pub record Lengths : Type 0 where
  pub lmr : (own request : List ℕ) (received sent : ℕ) → length own ≡ 6 → behind_head 16 ≤ length request
      → length (lmr_octets own received sent request) ≡ length request
