-- The test on the MEP IDs of the peers. The paper, "Numbers": MEP ID 1 to 8,191; peers distinct, none equal to the own ID; used peer slots
-- come first, unused ones hold 0. Definitions only: what they mean is said in `state_settings`, with all rules on settings.
use Rattle.std.specs.Prelude.{ℕ, List, Bool, ◌&&◌, not, leb, eqb, length, take, drop}
use Rattle.base_laws.specs.Lists.{every, distinct}
use Rattle.base_words.specs.Words.{within}

-- a MEP ID
abbrev pub mep_good : ℕ → Bool
mep_good id = leb 1 id && leb id 8191

-- beside our own
abbrev pub id_good : ℕ → ℕ → Bool
id_good mep id = mep_good id && not (eqb id mep)

-- as many used slots as there are peers, each with an ID of its own, and the others empty
unfoldable pub peers_good : ℕ → ℕ → List ℕ → Bool
peers_good count mep ids = leb count (length ids) && (every (id_good mep) (take count ids) && distinct (take count ids) && every (within 0) (drop count ids))
