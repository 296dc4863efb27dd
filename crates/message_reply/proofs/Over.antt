-- Any reply: the request with other addresses and another opcode, and octets laid over it at their places. How long it is, and what its
-- writer answers and leaves in each of the three cases. Assumes nothing.
use Prim.Native.Nat.{ℕ, ◌+◌, ◌≤◌, ◌<◌}
use mathlib.Core.Path.{◌≡◌, ap, ◌∙◌}
use mathlib.Core.List.{List}
use native.Mathlib.Omega.{arith}
use lib.ListN.{length}
use Rattle.std.specs.Prelude.{Ok, Err}
use Rattle.message_reply.specs.declared.ReplyRefusal.TheVariants.{CutOff, NoRoom}
use Rattle.message_reply.specs.Replies.{reply_octets, reply_into}
use Rattle.message_reply.proofs.Laid.{over, Within, over-long, over-laid, reply-long}
use Rattle.message_reply.proofs.Room.{into_room}
use Rattle.message_reply.proofs.Numbers as case
use Rattle.message_reply.proofs.Numbers.{Answered}

module _ (own request : List ℕ) (six : length own ≡ 6) (opcode fixed : ℕ) (pieces : List (ℕ × List ℕ))
    (fits : Within (18 + fixed) pieces) where
  abbrev reply : List ℕ
  reply = over pieces (reply_octets own opcode request)

  pub as_long : 18 + fixed ≤ length request → length reply ≡ length request
  as_long whole =
      let long = reply-long own request six opcode (omega arith) in
      over-long pieces (reply_octets own opcode request) fits (omega arith) ∙ long

  module _ (l : List ℕ) where
    pub cut_off_lem : length request < 18 + fixed → Answered fixed request reply l (Err CutOff) l
    cut_off_lem = case.cut_off_lem fixed request reply l

    module _ (whole : 18 + fixed ≤ length request) where
      pub no_room_lem : length l < length request → Answered fixed request reply l (Err NoRoom) l
      no_room_lem = case.no_room_lem fixed request reply l whole (as_long whole)

      pub written : {x z : List ℕ} → length request ≤ length l → x ≡ reply_into own opcode request l → z ≡ over pieces x
          → Answered fixed request reply l (Ok (length request)) z
      written {z = z} room e f =
          let long = reply-long own request six opcode (omega arith) in
          let all = over-laid pieces (reply_octets own opcode request) l fits (omega arith) (omega arith) in
          case.room fixed request reply l whole (as_long whole) z room
          (f ∙ ap (over pieces) (e ∙ into_room own opcode request l (omega arith) room) ∙ all)
