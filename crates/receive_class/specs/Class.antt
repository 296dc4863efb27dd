-- What a frame is to a box of a level. The paper, rules 1 to 4: service frames, D1, levels above ours, the passive side, lower levels, our
-- own. Definitions and the statement only.
use Rattle.std.specs.Prelude.{ℕ, ◌≤◌, ◌<◌, ◌≡◌, Bool, true, not, cond, List, [], ◌∷◌, ltb, length}
use Rattle.base_laws.specs.Tests.{choose}
use Rattle.frame_head.specs.Head.{behind_head, ether_type_of, oam_frame, pdu_of, level_of}
use Rattle.receive_class.specs.declared.Side.{Side}
use Rattle.receive_class.specs.declared.Side.TheVariants.{Active, Passive}
use Rattle.receive_class.specs.declared.Class.{Class}
use Rattle.receive_class.specs.declared.Class.TheVariants.{Service, Short, Above, Inside, Below, Own}

-- rule 1: which frames are counted, of a box of this level, from this side: every service frame, and never an OAM frame
abbrev pub counted : ℕ → Side → List ℕ → Bool
counted ours side f = not (oam_frame f)

-- rules 2 and 3: of a frame not above our level, what the side makes it
unfoldable pub by_side : ℕ → Side → ℕ → Class
by_side ours Passive theirs = Inside
by_side ours Active theirs = cond (ltb theirs ours) Below Own

unfoldable pub class_of : ℕ → Side → List ℕ → Class
class_of ours side f =
    choose (
    (counted ours side f, Service)
    ∷ (ltb (length f) (behind_head 4), Short)
    ∷ (ltb ours (level_of (pdu_of f)), Above)
    ∷ [])
    (by_side ours side (level_of (pdu_of f)))

-- what each class means, of any frame from 14 octets on; what is looked at further has 18
pub record Classes (ours : ℕ) (side : Side) (f : List ℕ) : Type 0 where
  pub service : 14 ≤ length f → (ether_type_of f ≡ 0x8902 → ⊥) → class_of ours side f ≡ Service
  pub short : 14 ≤ length f → ether_type_of f ≡ 0x8902 → length f < 18 → class_of ours side f ≡ Short
  pub above : ether_type_of f ≡ 0x8902 → 18 ≤ length f → ours < level_of (pdu_of f) → class_of ours side f ≡ Above
  pub inside : ether_type_of f ≡ 0x8902 → 18 ≤ length f → level_of (pdu_of f) ≤ ours → side ≡ Passive → class_of ours side f ≡ Inside
  pub below : ether_type_of f ≡ 0x8902 → 18 ≤ length f → level_of (pdu_of f) < ours → side ≡ Active → class_of ours side f ≡ Below
  pub own : ether_type_of f ≡ 0x8902 → 18 ≤ length f → level_of (pdu_of f) ≡ ours → side ≡ Active → class_of ours side f ≡ Own
  -- what is looked at further has the four octets before a fixed part
  pub below_long : class_of ours side f ≡ Below → 18 ≤ length f
  pub own_long : class_of ours side f ≡ Own → 18 ≤ length f
  -- and is an OAM frame
  pub own_oam : class_of ours side f ≡ Own → oam_frame f ≡ true
