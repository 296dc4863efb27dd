-- A request with an opcode and a buffer with room for it: the reply is laid. Else the buffer stays. Assumes nothing.
use Prim.Native.Nat.{ℕ, ◌≤◌, ◌<◌}
use mathlib.Core.Path.{◌≡◌}
use mathlib.Core.List.{List}
use lib.ListN.{length}
use borrow.Author.Tests.{lt-ltb, le-ltb}
use Rattle.base_laws.specs.Lists.{laid}
use Rattle.message_reply.specs.Replies.{reply_octets, reply_into}

module _ (own : List ℕ) (opcode : ℕ) (request l : List ℕ) where
  pub no-opcode : length request < 18 → l ≡ reply_into own opcode request l
  no-opcode h = rw (lt-ltb (length request) 18 h)

  module _ (h : 18 ≤ length request) where
    pub no_room_lem : length l < length request → l ≡ reply_into own opcode request l
    no_room_lem k = rw (le-ltb (length request) 18 h, lt-ltb (length l) (length request) k)

    pub into_room : length request ≤ length l → reply_into own opcode request l ≡ laid 0 (reply_octets own opcode request) l
    into_room k = rw (le-ltb (length request) 18 h, le-ltb (length l) (length request) k)
