-- The stages of a frame, each a law: a refusal where its test holds and no earlier one does, else what is decided. Assumes nothing.
use Prim.Native.Nat.{ℕ}
use mathlib.Core.Path.{◌≡◌, ◌∙◌, refl}
use mathlib.Core.Bool.{Bool, true, false, ◌&&◌, ◌||◌, not}
use mathlib.Core.List.{List}
use mathlib.Core.Logic.{⊎_elim}
use lib.Dec.{ltb, leb}
use lib.ListN.{length}
use borrow.Author.Tests.{lt-leb, le-leb, ltb-true, ltb-false}
use Rattle.std.specs.Prelude.{Err}
use Rattle.base_laws.specs.Ended.{ended}
use Rattle.base_laws.specs.Tests.{choose}
use Rattle.base_laws.proofs.Tests.{known}
use Rattle.base_stamp.specs.declared.Stamp.{Stamp}
use Rattle.base_stamp.specs.Stamps.{good}
use Rattle.frame_head.specs.Head.{length_good}
use Rattle.state_view.specs.State.{State}
use Rattle.state_view.specs.WellFormed.{well_formed}
use Rattle.receive_answer.specs.declared.FrameRefusal.TheVariants.{NotWellFormed, BadLength, BadStamp}
use Rattle.receive_class.specs.declared.Side.{Side}
use Rattle.receive_decide.specs.Decide.{decide_of}
use Rattle.receive_carry_out.specs.CarryOut.{carried_out}
use Rattle.receive_frame.specs.Frame.{frame_of}

-- not too short and not too long
not-less : (a b : ℕ) → not (ltb a b) ≡ leb b a
not-less a b =
    ⊎_elim
    (λ (t : ltb a b ≡ true). rw (t, lt-leb b a (ltb-true a b t)))
    (λ (t : ltb a b ≡ false). rw (t, le-leb b a (ltb-false a b t)))
    (known (ltb a b))

inside : (p q : Bool) → (p || q) ≡ not (not p && not q)
inside true q = refl
inside false true = refl
inside false false = refl

pub outside : (f : List ℕ) → (ltb (length f) 14 || ltb 1514 (length f)) ≡ not (length_good f)
outside f = inside (ltb (length f) 14) (ltb 1514 (length f)) ∙ rw (not-less (length f) 14, not-less 1514 (length f))

module _ (s : State) (side : Side) (f : List ℕ) (receive transmit : Stamp) (buffer : List ℕ) where
  pub refused_2 : well_formed s ≡ false → frame_of s side f receive transmit buffer ≡ ended (Err NotWellFormed) s buffer
  unfolding frame_of choose
  refused_2 w = rw w

  pub refused_1 : well_formed s ≡ true → length_good f ≡ false → frame_of s side f receive transmit buffer ≡ ended (Err BadLength) s buffer
  unfolding frame_of choose
  refused_1 w l = rw (w, l)

  pub refused_6 : well_formed s ≡ true → length_good f ≡ true → (good receive && good transmit) ≡ false
      → frame_of s side f receive transmit buffer ≡ ended (Err BadStamp) s buffer
  unfolding frame_of choose
  refused_6 w l g = rw (w, l, g)

  pub heeded : well_formed s ≡ true → length_good f ≡ true → (good receive && good transmit) ≡ true
      → frame_of s side f receive transmit buffer ≡ carried_out s f receive transmit buffer (decide_of s.settings side f receive)
  unfolding frame_of choose
  heeded w l g = rw (w, l, g)
