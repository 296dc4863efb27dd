-- `frame_value::zero_pattern` meets its contract: zeros alone, and the pattern type among them.
use Rattle.std.proofs.Common.{◌≡◌, ◌∙◌, List, ◌&&◌, ℕ, ◌<◌, refl, length, rules, tests, arith}
use Rattle.std.specs.List.{list_all}
use Rattle.std.proofs.lemmas.Iterator.{YieldsList-from_slice}
use Rattle.std.proofs.lemmas.Iterator.Search.{all_from_yields_List}
use Rattle.std.proofs.lemmas.List.Recursion.{same_from_clauses}
use Rattle.std.proofs.lemmas.Bool.Decides.{nat_tests}
use borrow.Author.Tests.{lt-ltb}
use Rattle.base_laws.specs.Lists.{every}
use Rattle.frame_value.specs.Values.{is_zero}
use Rattle.frame_value.proofs.zero_pattern.Goals as goal

-- what `all` gives
every_is : (l : List ℕ) → list_all is_zero l ≡ every is_zero l
unfolding every
every_is l = same_from_clauses (list_all is_zero) (every is_zero) (λ x b. is_zero x && b) refl (λ x m. refl) (λ x m. refl) l

pub returns-then-not-is_empty : goal.returns-then-not-is_empty
returns-then-not-is_empty c =
    let v = c.args.value.now in
    let zeros : c.all.result ≡ list_all is_zero v = all_from_yields_List is_zero _ _ c.all.result c.all.ensures.ran
    (YieldsList-from_slice v c.iter.ensures.rest) (λ x b q k. search (rules, tests)) in
    let some : 0 < length v = grind (arith, nat_tests) in
    rw (lt-ltb 0 (length v) some) (zeros ∙ every_is v)
