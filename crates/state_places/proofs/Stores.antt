-- The laws of stored words: running words and totals are spelled, as many as there are, and each law then holds by computing.
use Prim.Native.Nat.{ℕ, ◌-◌}
use mathlib.Core.Path.{◌≡◌, refl, ap, sym, ◌∙◌}
use mathlib.Core.List.{List, map}
use lib.IntN.{ℤ, pos}
use lib.ListN.{length, set}
use Rattle.base_laws.specs.Ended.{ended}
use Rattle.base_laws.specs.Lists.{on_first}
use Rattle.base_laws.proofs.Ended.{answer-is, state-is, buffer-is}
use Rattle.base_laws.proofs.Spelled.{spelled, by_elements}
use Rattle.loss_session.specs.declared.LossSession.{LossSession}
use Rattle.state_view.specs.declared.StateArrays.{StateArrays}
use Rattle.state_view.specs.State.{run_words, loss_totals, State, view_of, shown, run_of, totals_of}
use Rattle.state_view.specs.Arguments.{anew}
use Rattle.state_view.specs.Changed.{Word, mismerge, unexpected_level, unexpected_mep, unexpected_period, ais, lck, next, sent, received}
use Rattle.state_view.specs.Changed.{place_of, put, with_session, lowered}
use Rattle.state_places.specs.Stored.{Whole, Stores}

-- what holds of running words that are spelled holds of any, and so of totals
by-words : (P : List ℕ → Type 0) (run : List ℕ) → length run ≡ run_words → P (spelled 0 run_words run) → P run
by-words = by_elements 0 run_words

by-totals : (P : List ℤ → Type 0) (totals : List ℤ) → length totals ≡ loss_totals
    → P (spelled (pos 0) loss_totals totals) → P totals
by-totals = by_elements (pos 0) loss_totals

module _ (st names ids timers rdi : List ℕ) where
  module _ (totals : List ℤ) where
    module _ (v : ℕ) where
      abbrev Put : Word → List ℕ → Type 0
      Put w run = view_of st names ids timers rdi (set run (place_of w) v) totals ≡ put w v (view_of st names ids timers rdi run totals)

      put_in : (w : Word) (run : List ℕ) → Put w (spelled 0 run_words run)
      put_in mismerge run = refl
      put_in unexpected_level run = refl
      put_in unexpected_mep run = refl
      put_in unexpected_period run = refl
      put_in ais run = refl
      put_in lck run = refl
      put_in next run = refl
      put_in sent run = refl
      put_in received run = refl

      pub word : (w : Word) (run : List ℕ) → length run ≡ run_words → Put w run
      word w run h = by-words (Put w) run h (put_in w run)

    abbrev Lower : List ℕ → Type 0
    Lower run =
        view_of st names ids (map (λ t. t - 1) timers) rdi (on_first (λ t. t - 1) 6 run) totals
        ≡ lowered (view_of st names ids timers rdi run totals)

    pub lower : (run : List ℕ) → length run ≡ run_words → Lower run
    unfolding on_first
    lower run h = by-words Lower run h refl

    -- the running words are those that the state shows
    pub words_back : (run : List ℕ) → length run ≡ run_words → run_of (view_of st names ids timers rdi run totals) ≡ run
    words_back run h = by-words (λ r. run_of (view_of st names ids timers rdi r totals) ≡ r) run h refl

  module _ (run : List ℕ) (totals : List ℤ) where
    -- and so are the totals
    pub totals-back : length totals ≡ loss_totals → totals_of (view_of st names ids timers rdi run totals) ≡ totals
    totals-back h = by-totals (λ z. totals_of (view_of st names ids timers rdi run z) ≡ z) totals h refl

  -- a session's words and totals stored one after another
  module _ (x : LossSession) where
    abbrev words-in : List ℕ → List ℕ
    words-in run =
        set (set (set (set (set (set run 9 x.kept) 10 x.last.txf) 11 x.last.rxf) 12 x.last.txb) 13 x.last.ours) 14
        x.intervals

    abbrev Stored : List ℕ → List ℤ → Type 0
    Stored run totals =
        view_of st names ids timers rdi (words-in run) (set (set totals 0 x.near) 1 x.far)
        ≡ with_session x (view_of st names ids timers rdi run totals)

    pub session : (run : List ℕ) (totals : List ℤ) → length run ≡ run_words → length totals ≡ loss_totals → Stored run totals
    session run totals h k = by-words (λ r. Stored r totals) run h (by-totals (Stored (spelled 0 run_words run)) totals k refl)

pub stores : (st names ids : List ℕ) → Stores st names ids
stores st names ids = record {
  word = λ timers rdi run totals w v h. word st names ids timers rdi totals v w run h;
  lower = λ timers rdi run totals h. lower st names ids timers rdi totals run h;
  one = λ timers rdi run totals timers' rdi' run' totals' w w' e. (
    ap (λ (s : State). s.timers) e,
    ap (λ (s : State). s.rdi) e,
    sym (words_back st names ids timers rdi totals run w.words)
        ∙ ap run_of e
        ∙ words_back st names ids timers' rdi' totals' run' w'.words,
    sym (totals-back st names ids timers rdi run totals w.both)
        ∙ ap totals_of e
        ∙ totals-back st names ids timers' rdi' run' totals' w'.both,
  );
}

-- The law `one` on the arrays held together: those of h as x has them anew, and as y has. Two outcomes with one state leave one content of
-- each array.
module _ (h x y : StateArrays) where
  abbrev with : StateArrays → StateArrays
  with z = anew h z.timers z.rdi z.run z.totals

  pub lies-once : Whole x.run x.totals → Whole y.run y.totals → shown (with x) ≡ shown (with y) → with x ≡ with y
  lies-once w w' e =
      let o = (stores h.set h.names h.ids).one
      x.timers x.rdi x.run x.totals y.timers y.rdi y.run y.totals w w' e in
      λ i. anew h (o.0 i) (o.1 i) (o.2 i) (o.3 i)

  pub ends-once : {A : Type 0} {r r' : A} {b b' : List ℕ} → Whole x.run x.totals → Whole y.run y.totals
      → ended r (shown (with x)) b ≡ ended r' (shown (with y)) b' → (r ≡ r') × (with x ≡ with y) × (b ≡ b')
  ends-once w w' e = (answer-is e, lies-once w w' (state-is e), buffer-is e)
