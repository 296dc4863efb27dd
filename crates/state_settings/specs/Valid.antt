-- When settings are valid. The paper, "Numbers": level 0 to 7; MEP ID 1 to 8,191; peers 1 to 8, distinct, none equal to the own ID; the own
-- address and the loss peer's address have no group bit and differ; used peer slots come first, unused ones hold 0; period codes 1 to 7.
-- Definitions and the statement only.
use Rattle.std.specs.Prelude.{ℕ, ◌%◌, ◌≤◌, ◌<◌, ◌≡◌, List, Bool, true, ◌&&◌, not, ◌↔◌, leb, eqb, length, get_or}
use Rattle.base_laws.specs.Lists.{same}
use Rattle.state_peer_ids.specs.Ids.{mep_good, peers_good}
use Rattle.state_settings.specs.Settings.{slots, Settings, Shaped}

-- ── what is meant ──

pub record IsMepId (id : ℕ) : Type 0 where
  pub least : 1 ≤ id
  pub most : id ≤ 8191

-- the lowest bit of the first octet
abbrev pub group_bit : List ℕ → ℕ
group_bit address = get_or address 0 0 % 2

pub record Valid (t : Settings) : Type 0 where
  pub level : t.level ≤ 7
  pub mep : IsMepId t.mep
  pub some_period : 1 ≤ t.period
  pub period : t.period ≤ 7
  -- at least one peer, and a slot for each: the array has eight
  pub some_peer : 1 ≤ t.count
  pub slots : t.count ≤ length t.ids
  pub own : group_bit t.own ≡ 0
  pub losspeer : group_bit t.losspeer ≡ 0
  pub differ : t.own ≡ t.losspeer → ⊥
  -- a used slot holds a MEP ID other than ours, and no other slot holds the same; an unused one holds 0
  pub used : (i : ℕ) → i < t.count → IsMepId (get_or t.ids i 0)
  pub others : (i : ℕ) → i < t.count → get_or t.ids i 0 ≡ t.mep → ⊥
  pub distinct : (i j : ℕ) → i < j → j < t.count → get_or t.ids i 0 ≡ get_or t.ids j 0 → ⊥
  pub unused : (i : ℕ) → t.count ≤ i → get_or t.ids i 0 ≡ 0

-- ── what is tested ──

-- level, MEP ID, period code, peer count
abbrev pub numbers_good : ℕ → ℕ → ℕ → ℕ → Bool
numbers_good level mep period count = leb level 7 && mep_good mep && (leb 1 period && leb period 7) && leb 1 count

abbrev pub addresses_good : List ℕ → List ℕ → Bool
addresses_good own losspeer = eqb (group_bit own) 0 && eqb (group_bit losspeer) 0 && not (same own losspeer)

unfoldable pub valid : Settings → Bool
valid t = numbers_good t.level t.mep t.period t.count && (addresses_good t.own t.losspeer && peers_good t.count t.mep t.ids)

-- the test holds exactly where the paper's rules on settings do, one field a rule (`state_settings.Valid`); of valid settings, as they
-- are passed in, the peers are 1 to 8
pub record ValidIs : Type 0 where
  pub valid_is : (t : Settings) → (valid t ≡ true) ↔ Valid t
  pub peers : (t : Settings) → Shaped slots t → Valid t → (1 ≤ t.count) × (t.count ≤ 8)
