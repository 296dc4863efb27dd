-- `loss_session::well_formed` meets its contract: the first rule that fails decides, and each size is that of the field.
use Prim.Native.Nat.{◌*◌, ◌≤◌, ◌<◌}
use mathlib.Core.Path.{◌≡◌, refl, sym, ap, ◌∙◌}
use mathlib.Core.Bool.{Bool, true, false, ◌&&◌, ◌||◌, and-true, and-false}
use native.Mathlib.Omega.{arith}
use lib.Dec.{eqb, leb}
use lib.IntN.{ℤ, nat_abs}
use mir.Syntax.{w64}
use mir.Val.{SFits}
use borrow.Author.Tests.{le-leb, lt-leb}
use borrow.Author.Rules.{rules}
use Rattle.base_laws.proofs.Stored.{back}
use Rattle.loss_session.specs.declared.LossSession.{LossSession}
use Rattle.loss_session.specs.Session.{all_zero, well_formed, most_intervals}
use Rattle.loss_session.proofs.well_formed.Goals as goal

-- ── the rules one by one: where one fails, and where the bounds hold ──

middle : (a b c : Bool) → b ≡ false → false ≡ (a && b && c)
middle true b c h = rw h
middle false b c h = refl

module _ (s : LossSession) where
  abbrev none : Bool
  none = eqb s.intervals 0 && all_zero s.last

  abbrev front : Bool
  front = leb s.kept 1 && leb s.intervals most_intervals && (eqb s.kept 1 || none)

  abbrev within : ℤ → Bool
  within total = leb (nat_abs total) (s.intervals * 4294967295)

  many : most_intervals < s.intervals → false ≡ well_formed s
  unfolding well_formed
  many h = ap (λ (t : Bool). t && within s.near && within s.far)
      (middle (leb s.kept 1) (leb s.intervals most_intervals) (eqb s.kept 1 || none) (lt-leb s.intervals most_intervals h))

  near_large : s.intervals * 4294967295 < nat_abs s.near → false ≡ well_formed s
  unfolding well_formed
  near_large h = middle front (within s.near) (within s.far) (lt-leb (nat_abs s.near) (s.intervals * 4294967295) h)

  far_large : s.intervals * 4294967295 < nat_abs s.far → false ≡ well_formed s
  unfolding well_formed
  far_large h = rw (lt-leb (nat_abs s.far) (s.intervals * 4294967295) h) (sym (and-false (front && within s.near)))

  flag_large : 1 < s.kept → false ≡ well_formed s
  unfolding well_formed
  flag_large h = rw (lt-leb s.kept 1 h)

  module _ (few : s.intervals ≤ most_intervals) (near : nat_abs s.near ≤ s.intervals * 4294967295)
      (far : nat_abs s.far ≤ s.intervals * 4294967295) where
    bounds : well_formed s ≡ (leb s.kept 1 && (eqb s.kept 1 || none))
    unfolding well_formed
    bounds =
        rw (
          le-leb s.intervals most_intervals few,
          le-leb (nat_abs s.near) (s.intervals * 4294967295) near,
          le-leb (nat_abs s.far) (s.intervals * 4294967295) far,
          and-true (leb s.kept 1),
        ) (and-true (leb s.kept 1 && (eqb s.kept 1 || none) && true) ∙ and-true (leb s.kept 1 && (eqb s.kept 1 || none)))

    reading-kept : s.kept ≡ 1 → true ≡ well_formed s
    reading-kept k = sym (bounds ∙ rw k)

    none_kept : s.kept ≡ 0 → none ≡ well_formed s
    none_kept k = sym (bounds ∙ rw k)

-- ── what the two sizes are ──

pub returns-then-s-gt-MOST_INTERVALS : goal.returns-then-s-gt-MOST_INTERVALS
returns-then-s-gt-MOST_INTERVALS c =
    let session : LossSession = c.args.s in
    many session (omega (arith, c.if-s-gt-MOST_INTERVALS.true))

pub returns-then-most-unsigned_abs : goal.returns-then-most-unsigned_abs
returns-then-most-unsigned_abs c =
    let session : LossSession = c.args.s in
    let near-is : c.unsigned_abs.result ≡ nat_abs session.near = let fits : SFits w64 session.near = search rules in
    c.unsigned_abs.ensures.value ∙ ap nat_abs (back session.near fits) in
    near_large session (omega (arith, near-is, c.if-most-unsigned_abs.true))

pub returns-then-most-unsigned_abs-2 : goal.returns-then-most-unsigned_abs-2
returns-then-most-unsigned_abs-2 c =
    let session : LossSession = c.args.s in
    let far-is : c.unsigned_abs-2.result ≡ nat_abs session.far = let fits : SFits w64 session.far = search rules in
    c.unsigned_abs-2.ensures.value ∙ ap nat_abs (back session.far fits) in
    far_large session (omega (arith, far-is, c.if-most-unsigned_abs-2.true))

pub returns-then-s-eq1 : goal.returns-then-s-eq1
returns-then-s-eq1 c =
    let session : LossSession = c.args.s in
    let few-held : session.intervals ≤ most_intervals = omega (arith, c.if-s-gt-MOST_INTERVALS.false) in
    let near-is : c.unsigned_abs.result ≡ nat_abs session.near = let fits : SFits w64 session.near = search rules in
    c.unsigned_abs.ensures.value ∙ ap nat_abs (back session.near fits) in
    let near-held : nat_abs session.near ≤ session.intervals * 4294967295 = omega (arith, near-is, c.if-most-unsigned_abs.false) in
    let far-is : c.unsigned_abs-2.result ≡ nat_abs session.far = let fits : SFits w64 session.far = search rules in
    c.unsigned_abs-2.ensures.value ∙ ap nat_abs (back session.far fits) in
    let far-held : nat_abs session.far ≤ session.intervals * 4294967295 = omega (arith, far-is, c.if-most-unsigned_abs-2.false) in
    reading-kept session few-held near-held far-held (omega arith)

pub returns-then-s-gt1 : goal.returns-then-s-gt1
returns-then-s-gt1 c =
    let session : LossSession = c.args.s in
    flag_large session (omega arith)

pub returns : goal.returns
returns c =
    let session : LossSession = c.args.s in
    let few-held : session.intervals ≤ most_intervals = omega (arith, c.if-s-gt-MOST_INTERVALS.false) in
    let near-is : c.unsigned_abs.result ≡ nat_abs session.near = let fits : SFits w64 session.near = search rules in
    c.unsigned_abs.ensures.value ∙ ap nat_abs (back session.near fits) in
    let near-held : nat_abs session.near ≤ session.intervals * 4294967295 = omega (arith, near-is, c.if-most-unsigned_abs.false) in
    let far-is : c.unsigned_abs-2.result ≡ nat_abs session.far = let fits : SFits w64 session.far = search rules in
    c.unsigned_abs-2.ensures.value ∙ ap nat_abs (back session.far fits) in
    let far-held : nat_abs session.far ≤ session.intervals * 4294967295 = omega (arith, far-is, c.if-most-unsigned_abs-2.false) in
    let s = session in
    let none : s.kept ≡ 0 = omega (arith, c.if-s-eq1.false, c.if-s-gt1.false) in
    ap (λ (z : Bool). eqb s.intervals 0 && z) c.all_zero.ensures
    ∙ none_kept s few-held near-held far-held none
