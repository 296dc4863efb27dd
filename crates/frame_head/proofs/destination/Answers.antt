-- `frame_head::destination` meets its contract: those six octets with their place; of a shorter frame nothing.
use Prim.Native.Nat.{◌+◌}
use mathlib.Core.Path.{sym, ap}
use mathlib.Core.Bool.{Bool, cond}
use mathlib.Core.List.{[]}
use native.Mathlib.Omega.{arith}
use lib.ListN.{length}
use borrow.Author.Tests.{lt-ltb, le-ltb}
use Rattle.base_laws.specs.Lists.{part}
use Rattle.frame_head.specs.Head.{destination_of}
use Rattle.frame_head.proofs.destination.Goals as goal

pub returns-then-frame-lt-HEAD_LENGTH : goal.returns-then-frame-lt-HEAD_LENGTH
returns-then-frame-lt-HEAD_LENGTH c = let a = c.args.frame in
    let e = sym (lt-ltb (length a.now) 14 (omega arith)) in
    (ap (λ (t : Bool). cond t [] (destination_of a.now)) e, ap (λ (t : Bool). cond t a.ref_ptr (a.ref_ptr.0, 0 + a.ref_ptr.1)) e)

pub returns : goal.returns
unfolding part
returns c = let a = c.args.frame in
    let e = sym (le-ltb (length a.now) 14 (omega arith)) in
    (ap (λ (t : Bool). cond t [] (destination_of a.now)) e, ap (λ (t : Bool). cond t a.ref_ptr (a.ref_ptr.0, 0 + a.ref_ptr.1)) e)
