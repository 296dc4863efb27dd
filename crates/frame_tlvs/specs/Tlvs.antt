-- TLVs: what a run of them is, and where a walk over them stops. The paper, "What is in a PDU": the TLV of type 0 ends them and has no
-- length; any other has a two-octet length and a value; octets after the End TLV are padding. Definitions and statements only.
use Rattle.std.specs.Prelude.{ℕ, zero, suc, ◌+◌, ◌≤◌, ◌<◌, ◌≡◌, List, [], ◌∷◌, ◌++◌, Bool, true, false, cond, not, ltb, eqb, length, drop}
use Rattle.std.proofs.Math.Option.{Option, some, none}
use Rattle.base_laws.specs.Lists.{part}
use Rattle.base_octets.specs.Octets.{Octets}
use Rattle.base_numbers.specs.Numbers.{number, in_octets, big_endian}
use Rattle.frame_tlvs.specs.declared.Place.{Place}
use Rattle.frame_tlvs.specs.declared.Place.TheVariants.{End, Found, Cut}

-- ── what is meant ──

-- the octets xs are the TLVs ts, each a type and a value, with the End TLV and padding behind them
pub data Tlvs : List ℕ → List (ℕ × List ℕ) → Type 0 where
  end : {padding : List ℕ} → Tlvs (0 ∷ padding) []
  one : {t : ℕ} {v rest : List ℕ} {ts : List (ℕ × List ℕ)} → (t ≡ 0 → ⊥) → length v < 65536 → Tlvs rest ts
      → Tlvs (t ∷ (in_octets big_endian 2 (length v) ++ v ++ rest)) ((t, v) ∷ ts)

-- the value of the first TLV of a type
abbrev pub first_of : ℕ → List (ℕ × List ℕ) → Option (List ℕ)
first_of kind [] = none
first_of kind (tlv ∷ ts) = cond (eqb tlv.0 kind) (some tlv.1) (first_of kind ts)

-- ── what is done ──

-- the length of a value, from the two octets before it
abbrev pub length_of : List ℕ → ℕ
length_of xs = number big_endian (part 0 2 xs)

-- where a walk over the octets xs, which are at place `at`, stops; the first `left` of xs still belong to the TLV before. Type 0 is the
-- end. Any other has two octets of length and a value behind it: where these are not all there, it is cut; else it is the wanted one, whose
-- value's start and length are given, or it is passed over
unfoldable pub walk : ℕ → ℕ → List ℕ → ℕ → Place
walk kind left [] at = Cut at
walk kind (suc left) (x ∷ xs) at = walk kind left xs (at + 1)
walk kind zero (t ∷ xs) at =
    cond (eqb t 0) (End at)
    (cond (ltb (length xs) (2 + length_of xs)) (Cut at)
    (cond (eqb t kind) (Found (at + 3) (length_of xs))
    (walk kind (2 + length_of xs) xs (at + 1))))

-- the walk from place `at` of a PDU on
abbrev pub walk_from : ℕ → ℕ → List ℕ → Place
walk_from kind at p = walk kind 0 (drop at p) at

-- the TLVs stop before their end: one is not all there, or the End TLV is missing
abbrev pub is_cut : Place → Bool
is_cut (Cut at) = true
is_cut (End at) = false
is_cut (Found start len) = false

-- not D5: from place `at` of a PDU on, every TLV is all there and the End TLV comes
abbrev pub tlvs_whole : ℕ → List ℕ → Bool
tlvs_whole at p = not (is_cut (walk_from 0 at p))

-- a value that is found is in the PDU
abbrev pub Inside : List ℕ → Place → Type 0
Inside p (Found start len) = start + len ≤ length p
Inside p (End at) = Unit
Inside p (Cut at) = Unit

abbrev pub value_at : List ℕ → Place → Option (List ℕ)
value_at p (Found start len) = some (part start len p)
value_at p (End at) = none
value_at p (Cut at) = none

-- ── that the two agree ──

-- the walk over TLVs finds the first of each type that their grammar has, and ends exactly where there are TLVs
pub record WalkAgrees : Type 0 where
  -- where there is a run of TLVs, the walk finds the first of each type, and none of type 0
  pub finds : (kind : ℕ) (p : List ℕ) (at : ℕ) (ts : List (ℕ × List ℕ)) → Tlvs (drop at p) ts → value_at p (walk_from kind at p) ≡ first_of kind ts
  -- where the walk for the end ends, there is a run of TLVs; so a PDU where it does not has none
  pub stands : (p : List ℕ) (at e : ℕ) → Octets p → walk_from 0 at p ≡ End e → (ts : List (ℕ × List ℕ)) × Tlvs (drop at p) ts
  pub ends : (p : List ℕ) (at : ℕ) (ts : List (ℕ × List ℕ)) → Tlvs (drop at p) ts → (e : ℕ) × (walk_from 0 at p ≡ End e)
