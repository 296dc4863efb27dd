-- What is said of every answer, case by case. Assumes nothing.
use Prim.Native.Nat.{ℕ}
use mathlib.Core.Path.{◌≡◌, refl, ap, sym, ◌∙◌}
use mathlib.Core.List.{[], ◌∷◌}
use lib.ListN.{get_or}
use lib.Dec.{eqb}
use mathlib.Core.Bool.{cond}
use Rattle.std.specs.Prelude.{Result, Ok, Err}
use Rattle.receive_answer.specs.declared.FrameTold.{FrameTold}
use Rattle.receive_answer.specs.declared.Drop.{Drop}
use Rattle.receive_answer.specs.declared.Drop.TheVariants.{Short, Level, Opcode, Offset, CutOff, Destination, Value, TooLarge}
use Rattle.receive_answer.specs.declared.FrameRefusal.{FrameRefusal}
use Rattle.receive_answer.specs.declared.FrameDone.{FrameDone}
use Rattle.receive_answer.specs.declared.FrameRefusal.TheVariants.{NotWellFormed, BadLength, BadStamp, NoRoom, Full}
use Rattle.receive_answer.specs.declared.FrameDone.TheVariants.{Dropped, Passed}
use Rattle.receive_answer.specs.declared.FrameDone.TheVariants.{Taken, Replied, First, Measured, TwoWay, AllWays}
use Rattle.receive_answer.specs.Told.{drop_of, refused, dropped, frame_told, FrameNumbers}

-- the drop of a number
drop_at : ℕ → Drop
drop_at n = get_or (Short ∷ Short ∷ Level ∷ Opcode ∷ Offset ∷ CutOff ∷ Destination ∷ Value ∷ TooLarge ∷ []) n Short

at : (d : Drop) → drop_at (drop_of d) ≡ d
unfolding drop_at drop_of
at Short = refl
at Level = refl
at Opcode = refl
at Offset = refl
at CutOff = refl
at Destination = refl
at Value = refl
at TooLarge = refl

-- the answer that was told
answer_at : FrameTold → Result FrameDone FrameRefusal
answer_at t =
    cond (eqb t.refusal 2) (Err NotWellFormed)
    (cond (eqb t.refusal 1) (Err BadLength)
    (cond (eqb t.refusal 6) (Err BadStamp)
    (cond (eqb t.refusal 3) (Err NoRoom)
    (cond (eqb t.refusal 5) (Err Full)
    (cond (eqb t.done 1) (Ok Passed)
    (cond (eqb t.done 2) (Ok Taken)
    (cond (eqb t.done 3) (Ok (Replied t.length))
    (cond (eqb t.done 4) (Ok First)
    (cond (eqb t.done 5) (Ok (Measured t.near t.far))
    (cond (eqb t.done 6) (Ok (TwoWay t.twoway))
    (cond (eqb t.done 7) (Ok (AllWays t.twoway t.onewayfar t.onewaynear))
    (Ok (Dropped (drop_at t.drop))))))))))))))

told_at : (a : Result FrameDone FrameRefusal) → answer_at (frame_told a) ≡ a
unfolding answer_at frame_told
told_at (Err NotWellFormed) = refl
told_at (Err BadLength) = refl
told_at (Err BadStamp) = refl
told_at (Err NoRoom) = refl
told_at (Err Full) = refl
told_at (Ok (Dropped drop)) = ap (λ (d : Drop). Ok (Dropped d)) (at drop)
told_at (Ok Passed) = refl
told_at (Ok Taken) = refl
told_at (Ok (Replied n)) = refl
told_at (Ok First) = refl
told_at (Ok (Measured near far)) = refl
told_at (Ok (TwoWay twoway)) = refl
told_at (Ok (AllWays twoway far near)) = refl

bare_refusal : (a : Result FrameDone FrameRefusal) → ((frame_told a).refusal ≡ 0 → ⊥) → frame_told a ≡ refused (frame_told a).refusal
unfolding frame_told
bare_refusal (Err NotWellFormed) h = refl
bare_refusal (Err BadLength) h = refl
bare_refusal (Err BadStamp) h = refl
bare_refusal (Err NoRoom) h = refl
bare_refusal (Err Full) h = refl
bare_refusal (Ok (Dropped drop)) h = absurd (h refl)
bare_refusal (Ok Passed) h = absurd (h refl)
bare_refusal (Ok Taken) h = absurd (h refl)
bare_refusal (Ok (Replied n)) h = absurd (h refl)
bare_refusal (Ok First) h = absurd (h refl)
bare_refusal (Ok (Measured near far)) h = absurd (h refl)
bare_refusal (Ok (TwoWay twoway)) h = absurd (h refl)
bare_refusal (Ok (AllWays twoway far near)) h = absurd (h refl)

bare_drop : (a : Result FrameDone FrameRefusal) → ((frame_told a).drop ≡ 0 → ⊥) → frame_told a ≡ dropped (frame_told a).drop
unfolding frame_told
bare_drop (Err NotWellFormed) h = absurd (h refl)
bare_drop (Err BadLength) h = absurd (h refl)
bare_drop (Err BadStamp) h = absurd (h refl)
bare_drop (Err NoRoom) h = absurd (h refl)
bare_drop (Err Full) h = absurd (h refl)
bare_drop (Ok (Dropped drop)) h = refl
bare_drop (Ok Passed) h = absurd (h refl)
bare_drop (Ok Taken) h = absurd (h refl)
bare_drop (Ok (Replied n)) h = absurd (h refl)
bare_drop (Ok First) h = absurd (h refl)
bare_drop (Ok (Measured near far)) h = absurd (h refl)
bare_drop (Ok (TwoWay twoway)) h = absurd (h refl)
bare_drop (Ok (AllWays twoway far near)) h = absurd (h refl)

pub frame-numbers : FrameNumbers
frame-numbers = record {
  apart = λ a b h. sym (told_at a) ∙ ap answer_at h ∙ told_at b;
  bare_refusal = bare_refusal;
  bare_drop = bare_drop;
}
