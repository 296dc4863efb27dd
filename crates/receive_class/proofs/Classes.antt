-- What each class means: the tests before it fail, its own holds. Assumes nothing.
use Prim.Native.Nat.{ℕ, ◌≤◌, ◌<◌}
use mathlib.Core.Path.{◌≡◌, refl, ap, ◌∙◌}
use mathlib.Core.Bool.{Bool, true, false, cond}
use mathlib.Core.List.{List}
use mathlib.Core.Logic.{⊎_elim}
use native.Mathlib.Omega.{arith}
use lib.Dec.{ltb}
use lib.ListN.{length}
use borrow.Author.Tests.{lt-ltb, le-ltb, le-leb, eq-eqb, ne_eqb, ltb-false}
use Rattle.base_laws.specs.Tests.{choose}
use Rattle.base_laws.proofs.Tests.{known}
use Rattle.frame_head.specs.Head.{ether_type_of, oam_frame, pdu_of, level_of}
use Rattle.receive_class.specs.declared.Side.{Side}
use Rattle.receive_class.specs.declared.Side.TheVariants.{Active, Passive}
use Rattle.receive_class.specs.declared.Class.{Class}
use Rattle.receive_class.specs.declared.Class.TheVariants.{Service, Short, Above, Inside, Below, Own}
use Rattle.receive_class.specs.Class.{counted, by_side, class_of, Classes}

module _ (ours : ℕ) (side : Side) (f : List ℕ) where
  oam : ether_type_of f ≡ 0x8902 → 14 ≤ length f → oam_frame f ≡ true
  oam e h = rw (le-leb 14 (length f) h, eq-eqb (ether_type_of f) 0x8902 e)

  not-oam : (ether_type_of f ≡ 0x8902 → ⊥) → 14 ≤ length f → oam_frame f ≡ false
  not-oam n h = rw (le-leb 14 (length f) h, ne_eqb (ether_type_of f) 0x8902 n)

  -- an OAM frame with its head: what the levels and the side make it
  headed : ether_type_of f ≡ 0x8902 → 18 ≤ length f → class_of ours side f ≡ cond (ltb ours (level_of (pdu_of f))) Above
      (by_side ours side (level_of (pdu_of f)))
  unfolding class_of choose
  headed e h = rw (oam e (omega arith), le-ltb (length f) 18 h)

  service : 14 ≤ length f → (ether_type_of f ≡ 0x8902 → ⊥) → class_of ours side f ≡ Service
  unfolding class_of choose
  service h n = rw (not-oam n h)

  short : 14 ≤ length f → ether_type_of f ≡ 0x8902 → length f < 18 → class_of ours side f ≡ Short
  unfolding class_of choose
  short h e k = rw (oam e h, lt-ltb (length f) 18 k)

  above : ether_type_of f ≡ 0x8902 → 18 ≤ length f → ours < level_of (pdu_of f) → class_of ours side f ≡ Above
  above e h k = headed e h ∙ rw (lt-ltb ours (level_of (pdu_of f)) k)

  -- not above: the side decides
  sided : ether_type_of f ≡ 0x8902 → 18 ≤ length f → level_of (pdu_of f) ≤ ours → class_of ours side f ≡ by_side ours side (level_of (pdu_of f))
  sided e h k = headed e h ∙ rw (le-ltb ours (level_of (pdu_of f)) k)

passive : (ours theirs : ℕ) → by_side ours Passive theirs ≡ Inside
unfolding by_side
passive ours theirs = refl

lower : (ours theirs : ℕ) → theirs < ours → by_side ours Active theirs ≡ Below
unfolding by_side
lower ours theirs h = rw (lt-ltb theirs ours h)

equal : (ours theirs : ℕ) → theirs ≡ ours → by_side ours Active theirs ≡ Own
unfolding by_side
equal ours theirs h = rw (le-ltb theirs ours (omega arith))

-- a frame that is no OAM frame, or is short, or above, is none of those that are looked at further
abbrev Long : List ℕ → Class → Type 0
Long f Service = Unit
Long f Short = Unit
Long f Above = Unit
Long f Inside = 18 ≤ length f
Long f Below = 18 ≤ length f
Long f Own = 18 ≤ length f

side-long : (f : List ℕ) (ours : ℕ) (side : Side) (theirs : ℕ) → 18 ≤ length f → Long f (by_side ours side theirs)
unfolding by_side
side-long f ours Passive theirs h = h
side-long f ours Active theirs h = go (ltb theirs ours) where
  go : (b : Bool) → Long f (cond b Below Own)
  go true = h
  go false = h

long : (ours : ℕ) (side : Side) (f : List ℕ) → Long f (class_of ours side f)
unfolding class_of choose
long ours side f = go (counted ours side f) (ltb (length f) 18) refl (ltb ours (level_of (pdu_of f))) where
  go : (a b : Bool) → ltb (length f) 18 ≡ b → (d : Bool)
      → Long f (cond a Service (cond b Short (cond d Above (by_side ours side (level_of (pdu_of f))))))
  go true b e d = tt
  go false true e d = tt
  go false false e true = tt
  go false false e false = side-long f ours side (level_of (pdu_of f)) (ltb-false (length f) 18 e)

-- and only an OAM frame is
only-oam : (ours : ℕ) (side : Side) (f : List ℕ) → class_of ours side f ≡ Own → oam_frame f ≡ true
unfolding class_of choose
only-oam ours side f e =
    ⊎_elim
    (λ (t : oam_frame f ≡ true). t)
    (λ (t : oam_frame f ≡ false). absurd (let g = rw t at e in let z : ◌≡◌ {A = ℕ} 0 1 = cc in omega arith))
    (known (oam_frame f))

pub classes : (ours : ℕ) (side : Side) (f : List ℕ) → Classes ours side f
classes ours side f = record {
  service = service ours side f;
  short = short ours side f;
  above = above ours side f;
  inside = λ e h k p. sided ours side f e h k ∙ ap (λ (d : Side). by_side ours d (level_of (pdu_of f))) p ∙ passive ours (level_of (pdu_of f));
  below = λ e h k p. sided ours side f e h (omega arith) ∙ ap (λ (d : Side). by_side ours d (level_of (pdu_of f))) p
      ∙ lower ours (level_of (pdu_of f)) k;
  own = λ e h k p. sided ours side f e h (omega arith) ∙ ap (λ (d : Side). by_side ours d (level_of (pdu_of f))) p
      ∙ equal ours (level_of (pdu_of f)) k;
  below_long = λ e. rw e at (long ours side f);
  own_long = λ e. rw e at (long ours side f);
  own_oam = only-oam ours side f;
}
