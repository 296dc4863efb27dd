-- Our box follows the paper where it refuses a frame: a law for each refusal before rule 1. Assumes nothing.
use mathlib.Core.Path.{◌≡◌, refl, ap}
use mathlib.Core.Bool.{Bool, true, false, ◌&&◌}
use lib.Dec.{leb}
use lib.ListN.{length}
use borrow.Author.Tests.{le-leb, leb-true}
use Rattle.base_laws.proofs.Tests.{join, split}
use Rattle.base_stamp.specs.Stamps.{good}
use Rattle.state_view.specs.State.{State}
use Rattle.state_view.specs.WellFormed.{WellFormed, well_formed}
use Rattle.state_view.proofs.Rules.{well_formed_is}
use Rattle.frame_head.specs.Head.{length_good}
use Rattle.receive_frame.proofs.Stages.{refused_2, refused_1, refused_6}
use Rattle.paper_said.specs.Calls as call
use Rattle.paper_said.specs.Calls.{Arrival, leaves, refused}
use Rattle.paper_said.specs.Cases.{LengthGood}
use Rattle.paper_said.specs.Words.{side_of, frame_answer}
use Rattle.paper_said.specs.Ours.{in_words, ours}
use Rattle.paper_said.proofs.Stamps.{untrue}

-- the test of a state, as the rules decide it
pub well : (s : State) → WellFormed s → well_formed s ≡ true
well s w = (well_formed_is.well_formed_is s).1 w

pub not_well : (s : State) → (WellFormed s → ⊥) → well_formed s ≡ false
not_well s n = untrue (well_formed s) (λ e. n ((well_formed_is.well_formed_is s).0 e))

pub long : (a : Arrival) → LengthGood a → length_good a.octets ≡ true
long a h =
    join (leb 14 (length a.octets)) (leb (length a.octets) 1514) (le-leb 14 (length a.octets) h.least)
    (le-leb (length a.octets) 1514 h.most)

not-long : (a : Arrival) → (LengthGood a → ⊥) → length_good a.octets ≡ false
not-long a n =
    untrue (length_good a.octets)
    (λ e. let p = split (leb 14 (length a.octets)) (leb (length a.octets) 1514) e in
    n (record { least = leb-true 14 (length a.octets) p.0; most = leb-true (length a.octets) 1514 p.1 }))

module _ (s : State) (a : Arrival) where
  -- ── refusals before the frame rules ──

  pub frame_2 : (WellFormed s → ⊥) → ours s (call.frame a) ≡ leaves (refused 2) s a.buffer
  frame_2 n = ap (in_words frame_answer) (refused_2 s (side_of a.side) a.octets a.receive a.transmit a.buffer (not_well s n))

  pub frame_1 : WellFormed s → (LengthGood a → ⊥) → ours s (call.frame a) ≡ leaves (refused 1) s a.buffer
  frame_1 w n =
      ap (in_words frame_answer) (refused_1 s (side_of a.side) a.octets a.receive a.transmit a.buffer (well s w) (not-long a n))

  pub frame_6 : WellFormed s → LengthGood a → (good a.receive && good a.transmit) ≡ false
      → ours s (call.frame a) ≡ leaves (refused 6) s a.buffer
  frame_6 w l g =
      ap (in_words frame_answer) (refused_6 s (side_of a.side) a.octets a.receive a.transmit a.buffer (well s w) (long a l) g)

  pub second-bad : (x y : Bool) → y ≡ false → (x && y) ≡ false
  second-bad true y e = e
  second-bad false y e = refl

  pub first-bad : (x y : Bool) → x ≡ false → (x && y) ≡ false
  first-bad x y e = rw e
