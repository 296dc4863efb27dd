-- Octets laid over others, each at its place, and over the front of a buffer; a reply is the request with three pieces laid over it so.
-- Assumes nothing.
use Prim.Native.Nat.{ℕ, ◌+◌, ◌≤◌}
use mathlib.Core.Path.{◌≡◌, refl, ap, ◌∙◌}
use mathlib.Core.List.{List, [], ◌∷◌}
use native.Mathlib.Omega.{arith}
use lib.ListN.{length, set, take, drop}
use Rattle.base_laws.specs.Lists.{part, laid}
use Rattle.base_laws.proofs.Parts.{length_part}
use Rattle.base_laws.proofs.Overlaid.{laid-inside, laid_one, length-laid}
use Rattle.frame_head.specs.Head.{source_of}
use Rattle.message_reply.specs.Replies.{reply_octets}

-- octets laid over r, each at its place
unfoldable pub over : List (ℕ × List ℕ) → List ℕ → List ℕ
over [] r = r
over (piece ∷ pieces) r = over pieces (laid piece.0 piece.1 r)

-- each of them ends within n octets
unfoldable pub Within : ℕ → List (ℕ × List ℕ) → Type 0
Within n [] = Unit
Within n (piece ∷ pieces) = (piece.0 + length piece.1 ≤ n) × Within n pieces

pub over-long : {n : ℕ} (pieces : List (ℕ × List ℕ)) (r : List ℕ) → Within n pieces → n ≤ length r → length (over pieces r) ≡ length r
unfolding over Within
over-long [] r w h = refl
over-long (piece ∷ pieces) r w h =
    let fits = w.0 in
    let one = length-laid piece.0 piece.1 r (omega arith) in
    over-long pieces (laid piece.0 piece.1 r) w.1 (omega (arith, one)) ∙ one

-- laid over the front of a buffer, or over what is laid there: the same
pub over-laid : {n : ℕ} (pieces : List (ℕ × List ℕ)) (r l : List ℕ) → Within n pieces → n ≤ length r → length r ≤ length l
    → over pieces (laid 0 r l) ≡ laid 0 (over pieces r) l
unfolding over Within
over-laid [] r l w h k = refl
over-laid (piece ∷ pieces) r l w h k =
    let fits = w.0 in
    let one = length-laid piece.0 piece.1 r (omega arith) in
    ap (over pieces) (laid-inside piece.0 piece.1 r l (omega arith) k)
    ∙ over-laid pieces (laid piece.0 piece.1 r) l w.1 (omega (arith, one)) (omega (arith, one))

-- ── a reply ──

module _ (own request : List ℕ) (h : length own ≡ 6) (opcode : ℕ) (k : 18 ≤ length request) where
  -- the request's source, our address, the opcode
  abbrev pieces : List (ℕ × List ℕ)
  pieces = (0, source_of request) ∷ (6, own) ∷ (15, opcode ∷ []) ∷ []

  within : Within 18 pieces
  unfolding Within
  within = (omega (arith, length_part 6 6 request (omega arith)), (omega arith, (omega arith, tt)))

  pub reply-long : length (reply_octets own opcode request) ≡ length request
  unfolding reply_octets over
  reply-long = over-long pieces request within k

  pub reply-laid : (l : List ℕ) {x y z : List ℕ} → length request ≤ length l
      → x ≡ laid 0 request l → y ≡ laid 0 (take 6 (drop 6 request)) x → z ≡ laid 6 own y
      → set z 15 opcode ≡ laid 0 (reply_octets own opcode request) l
  unfolding part reply_octets over Within within
  reply-laid l {x} {y} {z} room e1 e2 e3 =
      let to = source_of request in
      let addresses : z ≡ laid 6 own (laid 0 to (laid 0 request l)) = e3 ∙ ap (laid 6 own) (e2 ∙ ap (laid 0 to) e1) in
      let whole = length-laid 0 request l (omega arith) in
      let long = over-long ((0, to) ∷ (6, own) ∷ []) (laid 0 request l) (within.0, (within.1.0, tt)) (omega (arith, whole)) in
      laid_one 15 z opcode (omega (arith, ap length addresses ∙ long ∙ whole))
      ∙ ap (laid 15 (opcode ∷ [])) addresses
      ∙ over-laid pieces request l within k room
