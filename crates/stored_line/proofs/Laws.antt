-- A loss line in octets, there and back, and its rules as a test. Assumes nothing.
use Prim.Native.Nat.{ℕ, ◌+◌, ◌*◌, ◌^◌, ◌≤◌, ◌<◌}
use mathlib.Core.Path.{◌≡◌, refl, sym, ap, ◌∙◌}
use mathlib.Core.List.{List, [], ◌++◌, append_assoc, append-nil}
use mathlib.Core.Bool.{true}
use mathlib.Core.Logic.{◌↔◌}
use native.Mathlib.Omega.{arith}
use lib.IntN.{ℤ, nat_abs}
use lib.ListN.{length, length-append}
use mir.Syntax.{w64}
use mir.Val.{to_z, of_z, SFits}
use Rattle.base_laws.specs.Lists.{part, laid}
use Rattle.base_laws.proofs.Parts.{part-append, part-here}
use Rattle.base_laws.proofs.Apart.{part-part, laid-whole}
use Rattle.base_laws.proofs.Pieces.{first, more}
use Rattle.base_laws.proofs.Stored.{fits-size}
use Rattle.base_octets.specs.Octets.{Octets}
use Rattle.base_numbers.specs.Numbers.{little_endian, number, in_octets}
use Rattle.base_numbers.proofs.Laws.{length-octets, number-back, read_again}
use Rattle.base_signed.proofs.Laws.{signed-octets, signed_again}
use Rattle.loss_session.specs.Session.{LossEnd, near, far, total_of, WellFormed}
use Rattle.loss_session.proofs.Laws.{well}
use Rattle.stored_record.proofs.Laws.{record_long}
use Rattle.stored_line.specs.declared.LossLine.{LossLine}
use Rattle.stored_line.specs.Line.{KeepsRules, session_of, keeps_rules, signed_octets, line_body, line_record, signed_at, line_in}

-- ── its rules ──

module _ (line : LossLine) where
  rules-to : WellFormed (session_of line) → KeepsRules line
  rules-to w = record { few = w.few; near = w.total near; far = w.total far }

  rules-from : KeepsRules line → WellFormed (session_of line)
  rules-from k = record { flag = omega arith; few = k.few; nothing = λ e. absurd (omega (arith, e)); total = total }
    where
      total : (d : LossEnd) → nat_abs (total_of d (session_of line)) ≤ line.intervals * 4294967295
      total near = k.near
      total far = k.far

  pub rules : (keeps_rules line ≡ true) ↔ KeepsRules line
  rules = (λ t. rules-to ((well (session_of line)).0 t), λ k. (well (session_of line)).1 (rules-from k))

  -- a line that keeps them fits in its octets
  module _ (k : KeepsRules line) where
    pub near_fits : SFits w64 line.near
    near_fits = fits-size line.near (omega (arith, k.near, k.few))

    pub far-fits : SFits w64 line.far
    far-fits = fits-size line.far (omega (arith, k.far, k.few))

    pub few_fit : line.intervals < 256 ^ 4
    few_fit = omega (arith, k.few)

-- ── its body ──

pub body_long : (line : LossLine) → length (line_body line) ≡ 20
unfolding line_body
body_long line = simp (length-append, length-octets)

pub line-long : (line : LossLine) → length (line_record line) ≡ 24
line-long line = record_long 2 (line_body line) ∙ ap (λ (n : ℕ). 4 + n) (body_long line)

-- near, far and intervals, laid one behind the other over twenty octets, are the body
pub body_laid : (line : LossLine) (l : List ℕ) {x y z : List ℕ} {n f : ℤ} → length l ≡ 20 → n ≡ line.near → f ≡ line.far
    → x ≡ laid 0 (signed_octets n) l → y ≡ laid 8 (signed_octets f) x → z ≡ laid 16 (in_octets little_endian 4 line.intervals) y
    → z ≡ line_body line
unfolding line_body
body_laid line l {x} {y} {z} {n} {f} h a b e d g =
    let near-laid : x ≡ laid 0 (signed_octets line.near) l = e ∙ ap (λ (v : ℤ). laid 0 (signed_octets v) l) a in
    let far-laid : y ≡ laid 8 (signed_octets line.far) x = d ∙ ap (λ (v : ℤ). laid 8 (signed_octets v) x) b in
    let one = first 0 8 (signed_octets line.near) l near-laid (length-octets little_endian 8 (of_z w64 line.near)) in
    let two = more 8 (signed_octets line.far) one far-laid (length-octets little_endian 8 (of_z w64 line.far)) (omega arith) in
    let three = more 4 (in_octets little_endian 4 line.intervals) two g (length-octets little_endian 4 line.intervals) (omega arith) in
    three.is ∙ laid-whole l (line_body line) 20 h (body_long line)

-- ── there and back ──

module _ (line : LossLine) (octets : List ℕ) (long : 24 ≤ length octets) (here : part 4 20 octets ≡ line_body line) where
  abbrev n : List ℕ
  n = signed_octets line.near

  abbrev f : List ℕ
  f = signed_octets line.far

  abbrev i : List ℕ
  i = in_octets little_endian 4 line.intervals

  -- a field of the body, in the record
  field : (k m : ℕ) → k + m ≤ 20 → part (4 + k) m octets ≡ part k m (line_body line)
  field k m h = sym (part-part 4 20 k m octets (omega arith) h) ∙ ap (part k m) here

  near-is : part 4 8 octets ≡ n
  unfolding line_body
  near-is =
      field 0 8 (omega arith) ∙ ap (part 0 8) (append_assoc n f i)
      ∙ part-here [] n (f ++ i) 0 8 refl (length-octets little_endian 8 (of_z w64 line.near))

  far-is : part 12 8 octets ≡ f
  unfolding line_body
  far-is =
      field 8 8 (omega arith) ∙ part-here n f i 8 8 (length-octets little_endian 8 (of_z w64 line.near))
      (length-octets little_endian 8 (of_z w64 line.far))

  intervals-is : part 20 4 octets ≡ i
  unfolding line_body
  intervals-is =
      field 16 4 (omega arith) ∙ ap (part 16 4) (sym (append-nil (n ++ f ++ i)))
      ∙ part-here (n ++ f) i [] 16 4 (simp (length-append, length-octets)) (length-octets little_endian 4 line.intervals)

  -- the line comes back from its body
  pub line-back : KeepsRules line → line_in octets ≡ line
  unfolding line_in
  line-back k =
      let a : signed_at 4 octets ≡ line.near = ap (λ (l : List ℕ). to_z w64 (number little_endian l)) near-is
      ∙ signed-octets line.near (near_fits line k) in
      let b : signed_at 12 octets ≡ line.far = ap (λ (l : List ℕ). to_z w64 (number little_endian l)) far-is
      ∙ signed-octets line.far (far-fits line k) in
      let c : number little_endian (part 20 4 octets) ≡ line.intervals = ap (number little_endian) intervals-is
      ∙ number-back little_endian 4 line.intervals (few_fit line k) in
      rw (a, b, c)

-- three parts side by side, part by part
side_by_side : {a b c x y z : List ℕ} → a ≡ x → b ≡ y → c ≡ z → a ++ b ++ c ≡ x ++ y ++ z
side_by_side e1 e2 e3 = rw (e1, e2, e3)

-- and the body from the line
pub body_again : (octets : List ℕ) → Octets octets → 24 ≤ length octets → part 4 20 octets ≡ line_body (line_in octets)
unfolding line_in line_body
body_again octets all h =
    part-append 4 16 4 octets
    ∙ ap (λ (l : List ℕ). l ++ part 20 4 octets) (part-append 4 8 8 octets)
    ∙ side_by_side
    (sym (signed_again 4 octets (omega arith) all))
    (sym (signed_again 12 octets (omega arith) all))
    (sym (read_again little_endian 4 20 octets (omega arith) all))
