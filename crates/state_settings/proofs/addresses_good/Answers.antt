-- `state_settings::addresses_good` meets its contract: the group bits in place, and both addresses compared.
use Prim.Native.Nat.{ℕ, ◌%◌}
use mathlib.Core.Path.{◌≡◌, sym}
use mathlib.Core.Bool.{Bool, ◌&&◌, not}
use mathlib.Core.List.{List}
use native.Mathlib.Omega.{arith}
use lib.Dec.{eqb}
use lib.ListN.{length, get_or, take, drop}
use lib.Seq.{length-take-le}
use Rattle.base_laws.specs.Lists.{part, same}
use Rattle.base_laws.proofs.Parts.{get_d_part}
use Rattle.state_settings.specs.Settings.{name_octets, address_octets, own_from, losspeer_from, own_named, losspeer_named}
use Rattle.state_settings.specs.Valid.{addresses_good}
use borrow.Author.Rules.{rules}
use Rattle.state_settings.proofs.addresses_good.Goals as goal

-- the first octet of each address stands where the code looks

addresses : (f : List ℕ) (r : Bool) → r ≡ same (take address_octets f) (take address_octets (drop losspeer_from f))
    → (eqb (get_or f own_from 0 % 2) 0 && eqb (get_or f losspeer_from 0 % 2) 0 && not r) ≡ addresses_good (own_named f) (losspeer_named f)
unfolding part
addresses f r e =
    rw (
      e,
      sym (get_d_part own_from address_octets f 0 0 (omega arith)),
      sym (get_d_part losspeer_from address_octets f 0 0 (omega arith)),
    )

pub slice_bounds-same_octets-end : goal.slice_bounds-same_octets-end
slice_bounds-same_octets-end c = let f = c.args.names.now in
    let h : length f ≡ name_octets = search rules in
    sym (length-take-le address_octets f (omega arith))

pub returns : goal.returns
returns c = addresses c.args.names.now _ c.same_octets-same.ensures
