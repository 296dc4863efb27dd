-- The pieces of a body and of the names, laid behind one another over as many octets. Assumes nothing.
use Prim.Native.Nat.{ℕ, ◌*◌, ◌≤◌}
use mathlib.Core.Path.{◌≡◌, ap, ◌∙◌}
use mathlib.Core.List.{List}
use native.Mathlib.Omega.{arith}
use lib.ListN.{length, length-append}
use Rattle.base_laws.specs.Lists.{part, laid}
use Rattle.base_laws.proofs.Parts.{length_part}
use Rattle.base_laws.proofs.Apart.{laid-whole}
use Rattle.base_laws.proofs.Pieces.{first, more}
use Rattle.base_numbers.specs.Numbers.{little_endian}
use Rattle.base_numbers.proofs.Laws.{length-octets}
use Rattle.state_settings.specs.Settings.{Settings, Shaped, name_octets, address_octets, meg_octets, own_from, losspeer_from, meg_from}
use Rattle.stored_settings_body.specs.Body.{field, fields_before, ids_octets, settings_body, body_length, settings_in}
use Rattle.stored_settings_body.specs.Lying.{names_of}
use Rattle.stored_settings_body.proofs.Ids.{ids-long}

-- how many octets the fields in front of the IDs have
pub fields-long : (n : ℕ) (s : Settings) → Shaped n s → length (fields_before s) ≡ 65
unfolding fields_before
fields-long n s w = simp (length-append, length-octets) (omega arith)

-- the names of a body: own address, loss peer, MEG ID
pub names-laid : (n : ℕ) (body l : List ℕ) {x y r : List ℕ} → body_length n ≤ length body → length l ≡ name_octets
    → x ≡ laid own_from (part 3 address_octets body) l
    → y ≡ laid losspeer_from (part 58 address_octets body) x
    → r ≡ laid meg_from (part 10 meg_octets body) y
    → r ≡ names_of (settings_in n body)
names-laid n body l h k e1 e2 e3 =
    let p1 = first own_from address_octets (part 3 address_octets body) l e1 (length_part 3 address_octets body (omega arith)) in
    let p2 = more address_octets (part 58 address_octets body) p1 e2 (length_part 58 address_octets body (omega arith)) (omega arith) in
    let p3 = more meg_octets (part 10 meg_octets body) p2 e3 (length_part 10 meg_octets body (omega arith)) (omega arith) in
    p3.is ∙ laid-whole l (names_of (settings_in n body)) name_octets k p3.long

-- the fields in front of the IDs, in the paper's order
pub fields_laid : (n : ℕ) (s : Settings) (l : List ℕ) {x y z u v w r : List ℕ} → Shaped n s → 65 ≤ length l
    → x ≡ laid 0 (field 1 s.level) l
    → y ≡ laid 1 (field 2 s.mep) x
    → z ≡ laid 3 s.own y
    → u ≡ laid 9 (field 1 s.period) z
    → v ≡ laid 10 s.meg u
    → w ≡ laid 58 s.losspeer v
    → r ≡ laid 64 (field 1 s.count) w
    → r ≡ laid 0 (fields_before s) l
unfolding fields_before
fields_laid n s l k h e1 e2 e3 e4 e5 e6 e7 =
    let p1 = first 0 1 (field 1 s.level) l e1 (length-octets little_endian 1 s.level) in
    let p2 = more 2 (field 2 s.mep) p1 e2 (length-octets little_endian 2 s.mep) (omega arith) in
    let p3 = more 6 s.own p2 e3 k.own (omega arith) in
    let p4 = more 1 (field 1 s.period) p3 e4 (length-octets little_endian 1 s.period) (omega arith) in
    let p5 = more 48 s.meg p4 e5 k.meg (omega arith) in
    let p6 = more 6 s.losspeer p5 e6 k.losspeer (omega arith) in
    (more 1 (field 1 s.count) p6 e7 (length-octets little_endian 1 s.count) (omega arith)).is

-- and the IDs behind them: nothing is left of what they are laid over
pub body_laid : (n : ℕ) (s : Settings) (l : List ℕ) {x r : List ℕ} → Shaped n s → length l ≡ body_length n
    → x ≡ laid 0 (fields_before s) l → r ≡ laid 65 (ids_octets s.ids) x → r ≡ settings_body s
unfolding settings_body
body_laid n s l k h e1 e2 =
    let p1 = first 0 65 (fields_before s) l e1 (fields-long n s k) in
    let p2 = more (2 * n) (ids_octets s.ids) p1 e2 (ids-long s.ids ∙ ap (λ (m : ℕ). 2 * m) k.ids) (omega arith) in
    p2.is ∙ laid-whole l (settings_body s) (body_length n) h p2.long
