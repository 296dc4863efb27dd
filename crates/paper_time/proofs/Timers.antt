-- Where each timer lies in a state, and what a change of the state does to it. Assumes nothing.
use Prim.Native.Nat.{ℕ, zero, suc, ◌-◌, ◌<◌}
use mathlib.Core.Path.{◌≡◌, refl, sym, ap, ◌∙◌}
use mathlib.Core.Bool.{Bool, true, false, cond}
use mathlib.Core.List.{List, [], ◌∷◌, map}
use mathlib.Core.Logic.{⊎_elim, ◌⊎◌, inl, inr}
use native.Mathlib.Omega.{arith}
use lib.Dec.{eqb}
use lib.ListN.{length, get_or}
use lib.Seq.{get_or-set_same, get_or-set_other}
use borrow.Author.Tests.{eqb-true, eqb-false, ne_eqb}
use Rattle.base_laws.proofs.Tests.{known}
use Rattle.loss_session.specs.declared.LossSession.{LossSession}
use Rattle.state_view.specs.State.{State}
use Rattle.state_view.specs.Changed.{Word, place_of, anew, put, heard, with_session, lowered}
use Rattle.state_view.specs.Changed as word
use Rattle.paper_time.specs.Timers.{Condition, mismerge, unexpected_level, unexpected_mep, unexpected_period, ais, lck, Timer, peer}
use Rattle.paper_time.specs.Timers.{of}

-- the word of a condition
abbrev pub word_of : Condition → Word
word_of mismerge = word.mismerge
word_of unexpected_level = word.unexpected_level
word_of unexpected_mep = word.unexpected_mep
word_of unexpected_period = word.unexpected_period
word_of ais = word.ais
word_of lck = word.lck

abbrev pub timer_of : Timer → State → ℕ
timer_of (peer k) s = get_or s.timers k 0
timer_of (of mismerge) s = s.mismerge
timer_of (of unexpected_level) s = s.unexpected_level
timer_of (of unexpected_mep) s = s.unexpected_mep
timer_of (of unexpected_period) s = s.unexpected_period
timer_of (of ais) s = s.ais
timer_of (of lck) s = s.lck

-- ── places ──

abbrev condition_at : ℕ → Condition
condition_at i = get_or (mismerge ∷ unexpected_level ∷ unexpected_mep ∷ unexpected_period ∷ ais ∷ lck ∷ []) i mismerge

at_place : (c : Condition) → condition_at (place_of (word_of c)) ≡ c
at_place mismerge = refl
at_place unexpected_level = refl
at_place unexpected_mep = refl
at_place unexpected_period = refl
at_place ais = refl
at_place lck = refl

one_place : (c d : Condition) → place_of (word_of c) ≡ place_of (word_of d) → c ≡ d
one_place c d e = sym (at_place c) ∙ ap condition_at e ∙ at_place d

place-low : (c : Condition) → place_of (word_of c) < 6
place-low mismerge = omega arith
place-low unexpected_level = omega arith
place-low unexpected_mep = omega arith
place-low unexpected_period = omega arith
place-low ais = omega arith
place-low lck = omega arith

-- ── a word is put ──

put-at : (c : Condition) (w : Word) (v : ℕ) (s : State) → timer_of (of c) (put w v s) ≡ anew w v (place_of (word_of c)) (timer_of (of c) s)
put-at mismerge w v s = refl
put-at unexpected_level w v s = refl
put-at unexpected_mep w v s = refl
put-at unexpected_period w v s = refl
put-at ais w v s = refl
put-at lck w v s = refl

-- a condition's word: another timer stays
pub put-either : (c d : Condition) (v : ℕ) (s : State) → (d ≡ c) ⊎ (timer_of (of d) (put (word_of c) v s) ≡ timer_of (of d) s)
put-either c d v s =
    ⊎_elim
    (λ (t : eqb (place_of (word_of c)) (place_of (word_of d)) ≡ true). inl (sym (one_place c d (eqb-true _ _ t))))
    (λ (t : eqb (place_of (word_of c)) (place_of (word_of d)) ≡ false). inr
    (put-at d (word_of c) v s ∙ ap (λ (b : Bool). cond b v (timer_of (of d) s)) t))
    (known (eqb (place_of (word_of c)) (place_of (word_of d))))

-- any other word: every timer stays
pub put-behind : (x : Timer) (w : Word) (v : ℕ) (s : State) → 5 < place_of w → timer_of x (put w v s) ≡ timer_of x s
put-behind (peer k) w v s h = refl
put-behind (of c) w v s h =
    put-at c w v s ∙ ap (λ (b : Bool). cond b v (timer_of (of c) s))
    (ne_eqb (place_of w) (place_of (word_of c)) (λ e. omega (arith, place-low c, h, e)))

-- ── a peer is heard, a session is put, a tick ──

pub heard-of : (c : Condition) (k v flag : ℕ) (s : State) → timer_of (of c) (heard k v flag s) ≡ timer_of (of c) s
heard-of mismerge k v flag s = refl
heard-of unexpected_level k v flag s = refl
heard-of unexpected_mep k v flag s = refl
heard-of unexpected_period k v flag s = refl
heard-of ais k v flag s = refl
heard-of lck k v flag s = refl

pub heard-own : (k v flag : ℕ) (s : State) → k < length s.timers → timer_of (peer k) (heard k v flag s) ≡ v
heard-own k v flag s h = get_or-set_same s.timers k v 0 h

pub heard-either : (k j v flag : ℕ) (s : State) → (j ≡ k) ⊎ (timer_of (peer j) (heard k v flag s) ≡ timer_of (peer j) s)
heard-either k j v flag s =
    ⊎_elim
    (λ (t : eqb j k ≡ true). inl (eqb-true j k t))
    (λ (t : eqb j k ≡ false). inr (get_or-set_other s.timers k j v 0 (eqb-false j k t)))
    (known (eqb j k))

pub session_stays : (x : Timer) (y : LossSession) (s : State) → timer_of x (with_session y s) ≡ timer_of x s
session_stays (peer k) y s = refl
session_stays (of mismerge) y s = refl
session_stays (of unexpected_level) y s = refl
session_stays (of unexpected_mep) y s = refl
session_stays (of unexpected_period) y s = refl
session_stays (of ais) y s = refl
session_stays (of lck) y s = refl

get_d_lowered : (l : List ℕ) (k : ℕ) → get_or (map (λ t. t - 1) l) k 0 ≡ get_or l k 0 - 1
get_d_lowered [] k = refl
get_d_lowered (x ∷ l) zero = refl
get_d_lowered (x ∷ l) (suc k) = get_d_lowered l k

pub tick_lowers : (x : Timer) (v : ℕ) (s : State) → timer_of x (put word.next v (lowered s)) ≡ timer_of x s - 1
tick_lowers (peer k) v s = get_d_lowered s.timers k
tick_lowers (of mismerge) v s = refl
tick_lowers (of unexpected_level) v s = refl
tick_lowers (of unexpected_mep) v s = refl
tick_lowers (of unexpected_period) v s = refl
tick_lowers (of ais) v s = refl
tick_lowers (of lck) v s = refl
