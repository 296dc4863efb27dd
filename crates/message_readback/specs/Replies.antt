-- A reply reads back as the request with what differs: LBR, LMR, DMR. The paper, rule 6; the order, demand 2, second sentence. Definitions
-- and statements only.
use Rattle.std.specs.Prelude.{ℕ, ◌≡◌, false, List, length, Ok}
use Rattle.base_laws.specs.Lists.{part}
use Rattle.base_stamp.specs.declared.Stamp.{Stamp}
use Rattle.base_stamp.specs.Stamps.{Wire}
use Rattle.frame_head.specs.Head.{source_of, pdu_of, level_of, version_of, flags_of, offset_of}
use Rattle.frame_reader.specs.Reader.{answer_of, value_of}
use Rattle.frame_message.specs.Good.{tlvs_of}
use Rattle.frame_message.specs.Message.{message_of}
use Rattle.frame_loopback_alarm.specs.Fixed.{transaction_of}
use Rattle.frame_measures.specs.Measures.{loss_of, delay_of}
use Rattle.message_lbr.specs.Lbr.{lbr_octets}
use Rattle.message_lmr.specs.Lmr.{lmr_octets}
use Rattle.message_dmr.specs.Dmr.{dmr_octets}
use Rattle.message_reply.specs.Replied.{cut_off}
use Rattle.message_readback.specs.Heads.{Says, Word}

-- what every reply keeps: the length, level, version, flags and offset, and every TLV with all that is behind it. It goes to the
-- request's source, comes from our address, and is the message that answers it
pub record Answers (own request : List ℕ) (opcode : ℕ) (f : List ℕ) : Type 0 where
  pub long : length f ≡ length request
  pub head : Says f (source_of request) own (level_of (pdu_of request)) (version_of (pdu_of request)) opcode (flags_of (pdu_of request)) (offset_of (pdu_of request))
  pub message : message_of f ≡ Ok opcode
  pub tlvs : tlvs_of f ≡ tlvs_of request
  pub answers : (kind : ℕ) → answer_of f kind ≡ answer_of request kind
  pub values : (kind : ℕ) → value_of f kind ≡ value_of request kind

-- an LBR, LMR or DMR to any good request, of any offset, reads back as the request with what differs
pub record RepliesBack : Type 0 where
  -- such a request is never cut off, so of the answers to it D5 is none
  pub whole : (request : List ℕ)
      → (message_of request ≡ Ok 3 → cut_off 4 request ≡ false)
      × (message_of request ≡ Ok 43 → cut_off 12 request ≡ false)
      × (message_of request ≡ Ok 47 → cut_off 32 request ≡ false)
  pub lbr : (own request : List ℕ) → length own ≡ 6 → message_of request ≡ Ok 3
      → Answers own request 2 (lbr_octets own request) × (transaction_of (lbr_octets own request) ≡ transaction_of request)
  -- TxFCf is the request's
  pub lmr : (own request : List ℕ) (received sent : ℕ) → length own ≡ 6 → Word received → Word sent → message_of request ≡ Ok 43
      → Answers own request 42 (lmr_octets own received sent request)
      × (loss_of (lmr_octets own received sent request) ≡ record { txfcf = (loss_of request).txfcf; rxfcf = received; txfcb = sent })
  -- TxTimeStampf is the request's, and so are the eight reserved octets
  pub dmr : (own request : List ℕ) (receive transmit : Stamp) → length own ≡ 6 → Wire receive → Wire transmit → message_of request ≡ Ok 47
      → Answers own request 46 (dmr_octets own receive transmit request)
      × (delay_of (dmr_octets own receive transmit request) ≡ record { txtimestampf = (delay_of request).txtimestampf; rxtimestampf = receive; txtimestampb = transmit })
      × (part 28 8 (pdu_of (dmr_octets own receive transmit request)) ≡ part 28 8 (pdu_of request))
