-- What a loop that tests each element of a list has shown after i turns: with a way out, with none, and from its end down. Assumes nothing.
use Prim.Native.Nat.{ℕ, ◌+◌, ◌-◌, ◌≤◌, ◌<◌, zero-le}
use mathlib.Core.Path.{◌≡◌, refl, sym, ap, ◌∙◌}
use mathlib.Core.List.{List}
use mathlib.Core.Bool.{Bool, true, false, ◌&&◌, and-true, and_assoc, and_comm}
use mathlib.Core.Logic.{◌⊎◌, inl, inr, ⊎_elim}
use native.Mathlib.Omega.{arith}
use native.Mathlib.Numerals.{add-one}
use lib.ListN.{length, get_or, take, drop, drop_of_length-le, length-drop}
use lib.Seq.{drop-cons, take_all}
use Rattle.base_laws.specs.Lists.{every}

-- the part `&l[n..]` of a slice
pub part-rest : {A : Type 0} (l : List A) (n : ℕ) → take (length l - n) (drop n l) ≡ drop n l
part-rest l n = take_all (length l - n) (drop n l) (simp length-drop (omega arith))

-- ── every element tested, and out at the first that fails ──

pub record Tested {A : Type 0} (test : A → Bool) (l : List A) (i : ℕ) : Type 0 where
  pub low : i ≤ length l
  pub rest : every test l ≡ every test (drop i l)

every_turn : {A : Type 0} (test : A → Bool) (l : List A) (i : ℕ) (d : A) → i < length l
    → every test (drop i l) ≡ (test (get_or l i d) && every test (drop (i + 1) l))
unfolding every
every_turn test l i d h = rw (add-one, drop-cons l i d h)

module _ {A : Type 0} {test : A → Bool} {l : List A} where
  pub tested_start : Tested test l 0
  tested_start = record { low = zero-le; rest = refl }

  module _ {i : ℕ} (v : Tested test l i) where
    pub tested_next : (d : A) → i < length l → test (get_or l i d) ≡ true → Tested test l (i + 1)
    tested_next d h e = record { low = omega arith; rest = v.rest ∙ every_turn test l i d h ∙ rw e }

    pub tested_fails : (d : A) → i < length l → test (get_or l i d) ≡ false → false ≡ every test l
    tested_fails d h e = sym (v.rest ∙ every_turn test l i d h ∙ rw e)

    pub tested_all : length l ≤ i → true ≡ every test l
    unfolding every
    tested_all h = sym (v.rest ∙ rw (drop_of_length-le l h))

-- ── the same with no way out: `good = good & test`, for loops of a fixed length ──

pub record Joined {A : Type 0} (test : A → Bool) (l : List A) (good : Bool) (i : ℕ) : Type 0 where
  pub low : i ≤ length l
  pub rest : every test l ≡ (good && every test (drop i l))

module _ {A : Type 0} {test : A → Bool} {l : List A} where
  pub joined-start : Joined test l true 0
  joined-start = record { low = zero-le; rest = refl }

  module _ {good : Bool} {i : ℕ} (v : Joined test l good i) where
    pub joined-next : (d : A) → i < length l → Joined test l (good && test (get_or l i d)) (i + 1)
    joined-next d h = record {
      low = omega arith;
      rest = v.rest ∙ rw (every_turn test l i d h) (sym (and_assoc good (test (get_or l i d)) (every test (drop (i + 1) l))));
    }

    pub joined-all : length l ≤ i → good ≡ every test l
    unfolding every
    joined-all h = sym (v.rest ∙ rw (drop_of_length-le l h) (and-true good))

-- ── the same from the last element down to place n, what stands before it not looked at ──

pub record JoinedDown {A : Type 0} (test : A → Bool) (n : ℕ) (l : List A) (good : Bool) (i : ℕ) : Type 0 where
  pub high : i ≤ length l
  -- where there is nothing from place n on, nothing is looked at
  pub down : (n ≤ i) ⊎ (i ≡ length l)
  pub done : good ≡ every test (drop i l)

module _ {A : Type 0} {test : A → Bool} {n : ℕ} {l : List A} where
  pub down-start : JoinedDown test n l true (length l)
  unfolding every
  down-start =
      let h : length l ≤ length l = omega arith in
      record { high = h; down = inr refl; done = rw (drop_of_length-le l h) }

  module _ {good : Bool} {i : ℕ} (v : JoinedDown test n l good i) (h : n < i) where
    pub down-next : (d : A) → JoinedDown test n l (good && test (get_or l (i - 1) d)) (i - 1)
    down-next d =
        let k : i - 1 + 1 ≡ i = omega arith in
        let x = test (get_or l (i - 1) d) in
        record {
          high = omega (arith, v.high);
          down = inl (omega arith);
          done = ap (λ (b : Bool). b && x) v.done ∙ and_comm (every test (drop i l)) x
              ∙ ap (λ (j : ℕ). x && every test (drop j l)) (sym k) ∙ sym (every_turn test l (i - 1) d (omega (arith, v.high)));
        }

  pub down-all : {good : Bool} {i : ℕ} → JoinedDown test n l good i → i ≤ n → good ≡ every test (drop n l)
  unfolding every
  down-all {i = i} v h =
      v.done ∙ ⊎_elim
      (λ (k : n ≤ i). let e : i ≡ n = omega arith in ap (λ (j : ℕ). every test (drop j l)) e)
      (λ (k : i ≡ length l). let a : length l ≤ i = omega arith in let b : length l ≤ n = omega arith in
      ap (every test) (drop_of_length-le l a ∙ sym (drop_of_length-le l b)))
      v.down
