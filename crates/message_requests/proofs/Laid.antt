-- A request laid over the buffer piece by piece, each right behind the one before it: one law for a message that is a head, octets and
-- zeros, the last of them the End TLV. Assumes nothing.
use Prim.Native.Nat.{ℕ, ◌+◌, ◌≤◌, ◌<◌}
use mathlib.Core.Path.{◌≡◌, ◌∙◌}
use mathlib.Core.List.{List, ◌++◌}
use native.Mathlib.Omega.{arith}
use lib.ListN.{length, replicate, length-append, length-replicate}
use Rattle.std.specs.Prelude.{Result, Ok, Err}
use Rattle.base_laws.specs.Lists.{laid}
use Rattle.base_laws.proofs.Pieces.{first, more}
use Rattle.base_numbers.specs.Numbers.{in_octets, big_endian}
use Rattle.base_numbers.proofs.Laws.{length-octets}
use Rattle.base_bits.specs.Fields.{first_octet}
use Rattle.base_stamp.specs.declared.Stamp.{Stamp}
use Rattle.state_settings.proofs.Shape.{own_long, peer-long}
use Rattle.state_settings.specs.Settings.{address_at, name_octets}
use Rattle.message_parts.specs.Messages.{count, stamp_octets, after_destination}
use Rattle.message_parts.specs.declared.parts.WriteRefusal.{WriteRefusal}
use Rattle.message_parts.specs.declared.parts.WriteRefusal.TheVariants.{NoRoom}
use Rattle.message_parts.specs.Buffer.{written_of, buffer_of, written_told, written_numbers}
use Rattle.message_parts.proofs.Laid.{count_long, stamp-long, after-long, zeros}
use Rattle.message_parts.proofs.Numbers.{no_room_lem, room}
use Rattle.message_requests.specs.Requests.{lmm_octets, dmm_octets, Lengths}

-- ── any request: a destination, the head, n octets, k zeros ──

module _ (destination source : List ℕ) (head opcode offset : ℕ) (value : List ℕ) (n k : ℕ) where
  abbrev request_octets : List ℕ
  request_octets = destination ++ after_destination source head opcode 0 offset ++ value ++ replicate k 0

  module _ (hd : length destination ≡ 6) (hs : length source ≡ 6) (hv : length value ≡ n) where
    request_long : length request_octets ≡ 18 + n + k
    request_long =
        let a = after-long source head opcode 0 offset hs in
        simp (length-append, length-replicate) (omega arith)

    request_laid : (l : List ℕ) {x y z r : List ℕ} → 18 + n + k ≤ length l
        → x ≡ laid 0 destination l
        → y ≡ laid 6 (after_destination source head opcode 0 offset) x
        → z ≡ laid 18 value y
        → r ≡ laid (0 + (18 + n)) (in_octets big_endian k 0) z
        → r ≡ laid 0 request_octets l
    request_laid l h e1 e2 e3 e4 =
        let p1 = first 0 6 destination l e1 hd in
        let p2 = more 12 (after_destination source head opcode 0 offset) p1 e2 (after-long source head opcode 0 offset hs) (omega arith) in
        let p3 = more n value p2 e3 hv (omega arith) in
        let p4 = more k (in_octets big_endian k 0) p3 e4 (length-octets big_endian k 0) (omega arith) in
        p4.is ∙ rw (zeros k)

-- ── one from our own address to the loss peer's, as a writer's contract says it ──

module _ (names : List ℕ) (whole : length names ≡ name_octets) (level opcode offset : ℕ) (value : List ℕ) (n k : ℕ)
    (hv : length value ≡ n) (l : List ℕ) where
  abbrev peer : List ℕ
  peer = address_at 6 names

  abbrev own : List ℕ
  own = address_at 0 names

  abbrev message : List ℕ
  message = request_octets peer own (first_octet level 1) opcode offset value n k

  -- the answer and its numbers; what the buffer then has, and the length
  abbrev Wrote : Result ℕ WriteRefusal → List ℕ → Type 0
  Wrote r x =
      ((r ≡ written_of message l) × (written_told r ≡ written_numbers message l)) × ((x ≡ buffer_of message l) × (length message ≡ 18 + n + k))

  long : length message ≡ 18 + n + k
  long = request_long peer own (first_octet level 1) opcode offset value n k (peer-long names whole) (own_long names whole) hv

  pub short : length l < 18 + n + k → Wrote (Err NoRoom) l
  short h = let w = no_room_lem message l (18 + n + k) long h in (w.0, (w.1, long))

  pub written : {x y z r : List ℕ} (head : ℕ) → 18 + n + k ≤ length l → head ≡ first_octet level 1
      → x ≡ laid 0 peer l
      → y ≡ laid 6 (after_destination own head opcode 0 offset) x
      → z ≡ laid 18 value y
      → r ≡ laid (0 + (18 + n)) (in_octets big_endian k 0) z
      → Wrote (Ok (18 + n + k)) r
  written {r = r} head h eh e1 e2 e3 e4 =
      let all = request_laid peer own head opcode offset value n k (peer-long names whole) (own_long names whole) hv l h e1 e2 e3 e4 in
      let w = room message l (18 + n + k) long r h (all ∙ rw eh) in
      (w.0, (w.1, long))

-- ── how long an LMM and a DMM are ──

pub lmm-long : (destination source : List ℕ) (level sent : ℕ) → length destination ≡ 6 → length source ≡ 6
    → length (lmm_octets destination source level sent) ≡ 31
unfolding lmm_octets
lmm-long destination source level sent hd hs =
    request_long destination source (first_octet level 1) 43 12 (count sent) 4 9 hd hs (count_long sent)

pub dmm-long : (destination source : List ℕ) (level : ℕ) (stamp : Stamp) → length destination ≡ 6 → length source ≡ 6
    → length (dmm_octets destination source level stamp) ≡ 51
unfolding dmm_octets
dmm-long destination source level stamp hd hs =
    request_long destination source (first_octet level 1) 47 32 (stamp_octets stamp) 8 25 hd hs (stamp-long stamp)

pub lengths : Lengths
lengths = record { lmm = lmm-long; dmm = dmm-long }
