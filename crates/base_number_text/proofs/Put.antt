-- The statements of specs/Put.antt. Assumes nothing.
use Prim.Native.Nat.{ℕ, ◌+◌, ◌≤◌, ◌<◌}
use mathlib.Core.Path.{◌≡◌, sym, ◌∙◌}
use mathlib.Core.List.{List, ◌++◌}
use mathlib.Core.Logic.{◌⊎◌, inl, inr, ⊎_elim}
use native.Mathlib.Omega.{arith}
use lib.ListN.{length, get_or, length-append}
use borrow.Author.Tests.{le-leb, lt-leb, leb-true, leb-false}
use Rattle.base_laws.specs.Lists.{part, laid}
use Rattle.base_laws.proofs.Overlaid.{laid-back, length-laid, laid-others, laid-append}
use Rattle.base_laws.proofs.Tests.{known}
use Rattle.base_number_text.specs.Put.{fits, put_at, behind, Puts}

module _ (at : ℕ) (text s : List ℕ) where
  module _ (h : at + length text ≤ length s) where
    pub put-laid : put_at at text s ≡ laid at text s
    unfolding put_at
    put-laid = rw (le-leb _ _ h)

    pub put-place : behind at text s ≡ at + length text
    unfolding behind
    put-place = rw (le-leb _ _ h)

    pub put_back : part at (length text) (put_at at text s) ≡ text
    put_back = rw put-laid (laid-back at text s h)

  module _ (h : length s < at + length text) where
    pub put-untouched : put_at at text s ≡ s
    unfolding put_at
    put-untouched = rw (lt-leb _ _ h)

    pub put-stays : behind at text s ≡ at
    unfolding behind
    put-stays = rw (lt-leb _ _ h)

  -- the two as a contract has them
  pub put_all : (after : List ℕ) (n : ℕ) → at + n ≤ length s → n ≡ length text → after ≡ laid at text s
      → (after ≡ put_at at text s) × (at + n ≡ behind at text s)
  put_all after n h l e =
      let room : at + length text ≤ length s = omega arith in
      (e ∙ sym (put-laid room), rw (put-place room) (omega arith))

  pub put-nothing : length s < at + length text → (s ≡ put_at at text s) × (at ≡ behind at text s)
  put-nothing h = (sym (put-untouched h), sym (put-stays h))

  -- it fits, or it does not
  cases : (at + length text ≤ length s) ⊎ (length s < at + length text)
  cases = ⊎_elim (λ t. inl (leb-true _ _ t)) (λ t. inr (leb-false _ _ t)) (known (fits at text s))

  pub put-long : length (put_at at text s) ≡ length s
  put-long = ⊎_elim (λ h. rw (put-laid h) (length-laid at text s h)) (λ h. rw (put-untouched h)) cases

  pub put_others : (i : ℕ) → (i < at) ⊎ (at + length text ≤ i) → get_or (put_at at text s) i 0 ≡ get_or s i 0
  put_others i w = ⊎_elim (λ h. rw (put-laid h) (laid-others at text s h 0 i w)) (λ h. rw (put-untouched h)) cases

module _ (at : ℕ) (text more s : List ℕ) (h : at + length (text ++ more) ≤ length s) where
  all : at + length text + length more ≤ length s
  all = omega (arith, length-append text more)

  first : at + length text ≤ length s
  first = omega (arith, all)

  then : at + length text + length more ≤ length (put_at at text s)
  then = rw (put-long at text s) all

  pub put-joined : put_at (behind at text s) more (put_at at text s) ≡ put_at at (text ++ more) s
  put-joined =
      rw (put-place at text s first, put-laid _ more (put_at at text s) then, put-laid at text s first, put-laid at (text ++ more) s h)
      (laid-append at text more s all)

  pub put-joined_place : behind (behind at text s) more (put_at at text s) ≡ behind at (text ++ more) s
  put-joined_place =
      rw (put-place at text s first, put-place _ more (put_at at text s) then, put-place at (text ++ more) s h)
      (omega (arith, length-append text more))

pub puts : Puts
puts = record {
  laid_there = put-laid;
  back = put_back;
  place = put-place;
  untouched = put-untouched;
  stays = put-stays;
  long = put-long;
  others = put_others;
  joined = put-joined;
  joined_place = put-joined_place;
}
