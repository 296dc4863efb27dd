-- The statement of specs/Lbr.antt: a reply is as long as its request. Assumes nothing.
use Rattle.message_reply.proofs.Laid.{reply-long}
use Rattle.message_lbr.specs.Lbr.{Lengths}

pub lengths : Lengths
lengths = record { lbr = λ own request h k. reply-long own request h 2 k }
