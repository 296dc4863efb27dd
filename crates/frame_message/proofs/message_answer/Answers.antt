-- `frame_message::message_answer` meets its contract: the frame's length and EtherType, then which message its PDU is.
use mathlib.Core.Path.{◌≡◌, sym, ap, ◌∙◌}
use mathlib.Core.Bool.{true}
use Rattle.frame_head.specs.Head.{length_good}
use Rattle.frame_head.proofs.Heads.{oam-is}
use Rattle.frame_message.specs.Message.{message_in}
use Rattle.frame_message.proofs.InPdu.{frame-length, frame-service, frame-pdu}
use Rattle.frame_message.proofs.Numbers.{numbered}
use Rattle.frame_message.proofs.message_answer.Goals as goal

-- past the first test the length is good

pub returns-then-not-length_good : goal.returns-then-not-length_good
returns-then-not-length_good c = numbered _ _ (sym (frame-length _ (sym c.length_good.ensures ∙ c.if-not-length_good.true)))

pub returns-then-not-is_oam : goal.returns-then-not-is_oam
returns-then-not-is_oam c =
    let good : length_good c.args.frame.now ≡ true = sym c.length_good.ensures ∙ c.if-not-length_good.false in
    let f = c.args.frame.now in
    numbered f _ (sym (frame-service f good (sym (oam-is f good) ∙ sym c.is_oam.ensures
    ∙ c.if-not-is_oam.true)))

pub returns : goal.returns
returns c =
    let good : length_good c.args.frame.now ≡ true = sym c.length_good.ensures ∙ c.if-not-length_good.false in
    let f = c.args.frame.now in
    let oam = sym (oam-is f good) ∙ sym c.is_oam.ensures ∙ c.if-not-is_oam.false in
    numbered f _ (c.message_in.ensures ∙ ap message_in c.pdu_of.ensures.0 ∙ sym (frame-pdu f good oam))
