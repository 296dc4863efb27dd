-- Arrays of settings have the lengths of what lies in them. Assumes nothing.
use Prim.Native.Nat.{ℕ}
use mathlib.Core.Path.{◌≡◌, refl, sym}
use mathlib.Core.List.{List}
use native.Mathlib.Omega.{arith}
use lib.ListN.{length, take}
use lib.Seq.{length-take-le}
use Rattle.base_laws.proofs.Parts.{length_part}
use Rattle.state_settings.specs.Settings.{slots, settings_of, Shaped, name_octets, address_octets, meg_octets, own_from, losspeer_from}
use Rattle.state_settings.specs.Settings.{meg_from, address_at, meg_named}

-- what lies among names of their length
module _ (names : List ℕ) (whole : length names ≡ name_octets) where
  pub own_long : length (address_at own_from names) ≡ address_octets
  own_long = length_part own_from address_octets names (omega arith)

  pub peer-long : length (address_at losspeer_from names) ≡ address_octets
  peer-long = length_part losspeer_from address_octets names (omega arith)

  pub meg-long : length (meg_named names) ≡ meg_octets
  meg-long = length_part meg_from meg_octets names (omega arith)

  -- our own address is what stands before the loss peer's
  pub own_first : losspeer_from ≡ length (take losspeer_from names)
  own_first = sym (length-take-le losspeer_from names (omega arith))

-- names of their length give addresses and MEG ID theirs
pub lying-shaped : (set names ids : List ℕ) → length names ≡ name_octets → Shaped (length ids) (settings_of set names ids)
lying-shaped set names ids h = record {
  own = own_long names h;
  losspeer = peer-long names h;
  meg = meg-long names h;
  ids = refl;
}

-- and as many IDs as there are slots
pub handed-shaped : (set names ids : List ℕ) → length names ≡ name_octets → length ids ≡ slots → Shaped slots (settings_of set names ids)
handed-shaped set names ids h k = record {
  own = (lying-shaped set names ids h).own;
  losspeer = (lying-shaped set names ids h).losspeer;
  meg = (lying-shaped set names ids h).meg;
  ids = k;
}
