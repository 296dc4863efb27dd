-- `stored_replies::put_record` meets its contract: the record of the session's line, copied to its place.
use Prim.Native.Nat.{ℕ}
use mathlib.Core.Path.{refl, ap, ◌∙◌}
use mathlib.Core.List.{List}
use lib.ListN.{replicate}
use Rattle.base_laws.proofs.Stored.{back}
use Rattle.stored_line.proofs.Laws.{near_fits, far-fits}
use Rattle.base_laws.specs.Lists.{laid}
use Rattle.stored_replies.specs.Replies.{line_of}
use Rattle.stored_replies.proofs.Laws.{record_is}
use Rattle.stored_replies.proofs.put_record.Goals as goal

pub returns : goal.returns
returns c = let copied = c in
    let wrote = c in
    let s = c in
    let a = s.args in
    let line = line_of a.s in
    let near = back line.near (near_fits line s.requires.1) in
    let far = back line.far (far-fits line s.requires.1) in
    copied.copy_octets.ensures
    ∙ ap (λ (l : List ℕ). laid a.at l a.into.now)
    (record_is line (replicate 24 0) refl s.requires.1 near far wrote.write_line-written.ensures.0)
