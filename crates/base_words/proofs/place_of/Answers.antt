-- `base_words::place_of` meets its contract. What `position` gives is the first place, or none.
use Rattle.std.proofs.Common.{◌≡◌, ap, ◌∙◌, length, Option, position, rules, tests, ℕ}
use Rattle.std.specs.Option.{unwrap_or}
use Rattle.std.proofs.lemmas.Iterator.{YieldsList-from_slice}
use Rattle.std.proofs.lemmas.Iterator.Search.{position_from_yields_List}
use lib.Dec.{eqb}
use Rattle.base_words.proofs.Places.{place_given}
use Rattle.base_words.proofs.place_of.Goals as goal

pub returns : goal.returns
returns c =
    let w = c.args.words.now in
    let x = c.args.x in
    let found : c.position.result ≡ position (λ y. eqb y x) w = position_from_yields_List (λ y. eqb y x) _ _ c.position.result
    c.position.ensures.ran (YieldsList-from_slice w c.iter.ensures.rest) (λ y b q k. search (rules, tests)) in
    c.unwrap_or.ensures ∙ ap (λ (o : Option ℕ). unwrap_or o (length w)) found ∙ place_given x w
