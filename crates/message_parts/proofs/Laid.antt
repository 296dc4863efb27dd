-- A message laid over the buffer piece by piece, each right behind the one before it. Assumes nothing.
use Prim.Native.Nat.{ℕ, zero, suc, ◌+◌, ◌%◌, ◌^◌, ◌≤◌}
use mathlib.Core.Path.{◌≡◌, refl, sym, ap, ◌∙◌}
use mathlib.Core.List.{List, [], ◌∷◌, ◌++◌, append_assoc}
use native.Mathlib.Nat.{zero-div}
use native.Mathlib.Numerals.{add-one}
use native.Mathlib.Omega.{arith}
use lib.ListN.{length, set, replicate, length-append}
use Rattle.base_laws.specs.Lists.{laid}
use Rattle.base_laws.proofs.Pieces.{first, more, stored}
use Rattle.base_numbers.specs.Numbers.{in_octets, octets_lowest_first, big_endian}
use Rattle.base_numbers.proofs.Laws.{length-octets, big_next}
use Rattle.base_stamp.specs.declared.Stamp.{Stamp}
use Rattle.message_parts.specs.Messages.{count, stamp_octets, after_destination}

-- ── how long they are ──

pub count_long : (v : ℕ) → length (count v) ≡ 4
count_long v = length-octets big_endian 4 v

pub stamp-long : (s : Stamp) → length (stamp_octets s) ≡ 8
stamp-long s = simp (length-append, length-octets)

pub after-long : (source : List ℕ) (first opcode flags offset : ℕ) → length source ≡ 6
    → length (after_destination source first opcode flags offset) ≡ 12
unfolding after_destination
after-long source first opcode flags offset h = simp (length-append, length-octets) (omega arith)

-- ── a stamp, a head, zeros ──

pub stamp-laid : (at : ℕ) (stamp : Stamp) (l : List ℕ) {x y : List ℕ} → at + 8 ≤ length l
    → x ≡ laid at (count stamp.seconds) l → y ≡ laid (at + 4) (count stamp.nanoseconds) x
    → y ≡ laid at (stamp_octets stamp) l
stamp-laid at stamp l h e f =
    let seconds = first at 4 (count stamp.seconds) l e (count_long stamp.seconds) in
    (more 4 (count stamp.nanoseconds) seconds f (count_long stamp.nanoseconds) (omega arith)).is

four : (p : List ℕ) (a b c d : ℕ) → p ++ (a ∷ []) ++ (b ∷ []) ++ (c ∷ []) ++ (d ∷ []) ≡ p ++ (a ∷ b ∷ c ∷ d ∷ [])
four p a b c d = simp append_assoc

pub head-laid : (source : List ℕ) (a b c d : ℕ) (l : List ℕ) {x y : List ℕ} → length source ≡ 6 → 18 ≤ length l
    → x ≡ laid 6 source l → y ≡ laid 12 (in_octets big_endian 2 0x8902) x
    → set (set (set (set y 14 a) 15 b) 16 c) 17 d ≡ laid 6 (after_destination source a b c d) l
unfolding after_destination
head-laid source a b c d l hs h e f =
    let type = more 2 (in_octets big_endian 2 0x8902) (first 6 6 source l e hs) f (length-octets big_endian 2 0x8902) (omega arith) in
    let last = stored d (stored c (stored b (stored a type (omega arith)) (omega arith)) (omega arith)) (omega arith) in
    last.is ∙ ap (λ (xs : List ℕ). laid 6 xs l) (four (source ++ in_octets big_endian 2 0x8902) a b c d)

-- zeros, as they are written and as they are meant
pub zeros : (n : ℕ) → in_octets big_endian n 0 ≡ replicate n 0
unfolding in_octets octets_lowest_first
zeros zero = refl
zeros (suc n) =
    ap (λ (k : ℕ). in_octets big_endian k 0) (sym (add-one n))
    ∙ big_next n 0
    ∙ ap (λ (k : ℕ). k % 256 ∷ in_octets big_endian n 0) (zero-div (256 ^ n))
    ∙ ap (λ (xs : List ℕ). 0 ∷ xs) (zeros n)
