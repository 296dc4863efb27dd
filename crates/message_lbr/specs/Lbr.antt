-- The octets of a loopback reply. The paper, rule 6: the request with the source as destination, our address as source, and opcode 2; all
-- other octets and the length are kept. Definitions and the statement only.
use Rattle.std.specs.Prelude.{ℕ, ◌≤◌, ◌≡◌, List, length}
use Rattle.frame_head.specs.Head.{behind_head}
use Rattle.message_reply.specs.Replies.{reply_octets}

abbrev pub lbr_octets : List ℕ → List ℕ → List ℕ
lbr_octets own request = reply_octets own 2 request

-- a loopback reply is as long as its request
pub record Lengths : Type 0 where
  pub lbr : (own request : List ℕ) → length own ≡ 6 → behind_head 4 ≤ length request → length (lbr_octets own request) ≡ length request
