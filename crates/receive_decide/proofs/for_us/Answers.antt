-- The addresses and the level stand in the frame's head. Assumes nothing.
use mathlib.Core.Path.{◌≡◌, sym, ◌∙◌}
use native.Mathlib.Omega.{arith}
use lib.ListN.{length}
use borrow.Author.Tests.{le-ltb}
use Prim.Native.Nat.{ℕ, ◌≤◌}
use mathlib.Core.List.{List}
use lib.ListN.{take, drop}
use lib.Seq.{length-take-le}
use Rattle.base_laws.specs.Lists.{part}
use Rattle.frame_head.specs.Head.{destination_of, source_of, pdu_of, level_of, opcode_of}
use Rattle.frame_head.specs.Addresses.{in_head}
use Rattle.state_settings.specs.Settings.{name_octets, address_octets, losspeer_from, own_named, losspeer_named}
use Rattle.frame_opcodes.specs.declared.Rule.{Rule}
use Rattle.frame_opcodes.specs.Opcodes.{rule_of}
use Rattle.receive_for_us.specs.Ours.{for_us}
use Rattle.receive_decide.specs.Decide.{is_ours}
use borrow.Author.Rules.{rules}
use Rattle.receive_decide.proofs.for_us.Goals as goal

-- what was found is what the definition looks at

ours-is : (names f to from : List ℕ) (row : Rule) (l : ℕ) → row ≡ rule_of (opcode_of (pdu_of f)) → to ≡ in_head (destination_of f) f
    → from ≡ in_head (source_of f) f → l ≡ level_of (pdu_of f) → 14 ≤ length f
    → for_us (take address_octets names) (take address_octets (drop losspeer_from names)) row l to from
    ≡ is_ours (own_named names) (losspeer_named names) f
unfolding part
ours-is names f to from row l e h k n long = rw (e, h, k, n, le-ltb (length f) 14 long)

pub slice_bounds-is_for_us-end : goal.slice_bounds-is_for_us-end
slice_bounds-is_for_us-end c = let f = c.args.names.now in
    let h : length f ≡ name_octets = search rules in
    sym (length-take-le address_octets f (omega arith))

pub returns : goal.returns
returns c = let a = c.args in
    c.is_for_us.ensures
    ∙ ours-is a.names.now a.frame.now _ _ _ _ c.requires.rule_value
    c.destination-to.ensures.0 c.source-from.ensures.0
    c.level.ensures (omega arith)
