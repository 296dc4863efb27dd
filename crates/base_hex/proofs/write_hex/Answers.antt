-- `base_hex::write_hex` meets its contract: no octets are a word, others are written where all their digits fit.
use mathlib.Core.Path.{sym}
use native.Mathlib.Omega.{arith}
use Rattle.base_number_text.proofs.Put.{put_all, put-nothing}
use Rattle.base_hex.specs.Hex.{hex_text}
use Rattle.base_hex.proofs.Hex.{text-none, text-some, text-long}
use Rattle.base_hex.proofs.write_hex.Goals as goal

pub returns-then-octets-eq0 : goal.returns-then-octets-eq0
returns-then-octets-eq0 c =
    let w = c in
    let a = c.args in
    rw (text-none a.octets.now c.if-octets-eq0.true) w.write_word.ensures

pub returns-then-all-at : goal.returns-then-all-at
returns-then-all-at c = let a = c.args in
    put-nothing a.at (hex_text a.octets.now) a.into.now (omega arith)

pub returns-then-all-at-2 : goal.returns-then-all-at-2
returns-then-all-at-2 c = let a = c.args in
    put-nothing a.at (hex_text a.octets.now) a.into.now
    (omega (arith, text-long a.octets.now c.if-octets-eq0.false))

pub returns : goal.returns
returns c =
    let w = c in
    let a = c.args in
    let some = c.if-octets-eq0.false in
    let long = text-long a.octets.now some in
    put_all a.at (hex_text a.octets.now) a.into.now _ _ (omega (arith, long)) (sym long)
    (rw (text-some a.octets.now some) w.write_pairs.ensures)
