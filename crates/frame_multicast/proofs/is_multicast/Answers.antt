-- `frame_multicast::is_multicast` meets its contract: six octets, the prefix in front and the level's octet behind it.
use native.Mathlib.Omega.{arith}
use Prim.Native.Nat.{ℕ}
use mathlib.Core.Path.{sym, ap, ◌∙◌}
use mathlib.Core.Bool.{Bool, ◌&&◌}
use mathlib.Core.List.{[], ◌∷◌, ◌++◌}
use lib.Dec.{eqb}
use lib.ListN.{get_or}
use lib.Seq.{length-take-le}
use Rattle.base_laws.specs.Lists.{same}
use Rattle.base_laws.proofs.Meanings.{same-last}
use Rattle.base_laws.proofs.Compared.{pair_lengths}
use Rattle.frame_multicast.specs.Multicast.{prefix, multicast_of}
use Rattle.frame_multicast.proofs.is_multicast.Goals as goal

pub returns-then-address-ne6 : goal.returns-then-address-ne6
returns-then-address-ne6 c = let a = c.args in
    sym (pair_lengths eqb a.address.now (multicast_of a.level) c.if-address-ne6.true)

pub slice_bounds-same_octets-end : goal.slice_bounds-same_octets-end
slice_bounds-same_octets-end c = sym (length-take-le _ c.args.address.now (omega arith))

pub returns : goal.returns
returns c = let a = c.args in
    let l = a.address.now in
    ap (λ (b : Bool). b && eqb (get_or l 5 0) c.last_of.result) c.same_octets.ensures
    ∙ sym (same-last l prefix c.last_of.result (omega arith))
    ∙ ap (λ (x : ℕ). same l (prefix ++ (x ∷ []))) c.last_of.ensures
