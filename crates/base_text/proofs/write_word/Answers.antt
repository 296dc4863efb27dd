-- `base_text::write_word` meets its contract: where the word fits it is copied, all at once.
use mathlib.Core.Path.{refl}
use native.Mathlib.Omega.{arith}
use Rattle.base_number_text.proofs.Put.{put_all, put-nothing}
use Rattle.base_text.proofs.write_word.Goals as goal

pub returns-then-all-at : goal.returns-then-all-at
returns-then-all-at c = let a = c.args in
    put-nothing a.at a.word.now a.into.now (omega arith)

pub returns-then-all-at-2 : goal.returns-then-all-at-2
returns-then-all-at-2 c = let a = c.args in
    put-nothing a.at a.word.now a.into.now (omega arith)

pub returns : goal.returns
returns c = let a = c.args in
    put_all a.at a.word.now a.into.now _ _ (omega arith) refl c.copy_octets.ensures
