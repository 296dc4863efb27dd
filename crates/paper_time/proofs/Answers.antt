-- What a tick and the conditions answer, as the timers and the counter stand. Assumes nothing.
use Prim.Native.Nat.{ℕ, ◌≤◌, ◌<◌}
use mathlib.Core.Path.{◌≡◌}
use mathlib.Core.Bool.{true, false}
use mathlib.Core.Logic.{◌↔◌, ⊎_elim}
use native.Mathlib.Omega.{arith}
use lib.Dec.{leb}
use borrow.Author.Tests.{leb-true, leb-false}
use Rattle.base_laws.proofs.Tests.{known}
use Rattle.state_settings.specs.Settings.{Settings}
use Rattle.state_view.specs.State.{State}
use Rattle.paper_said.specs.Calls as call
use Rattle.paper_said.specs.Calls.{Answer, Raised, Outcome}
use Rattle.paper_said.specs.Standing.{Flag, on, off, Lost, Shows}
use Rattle.paper_said.specs.Said as said
use Rattle.paper_said.specs.Called as calling
use Rattle.paper_said.specs.Said.{Said}
use Rattle.paper_time.specs.Timers.{mismerge, unexpected_level, unexpected_mep, unexpected_period, ais, lck, Timer, peer, of, Used}
use Rattle.paper_time.specs.Time.{Beat, sends, quiet, shown, Told, told, Stands}
use Rattle.paper_time.proofs.Timers.{timer_of}
use Rattle.paper_time.proofs.Changes.{Holds}

flag-to : {P Q : Type 0} {n : ℕ} → (P → Q) → (Q → P) → Flag P n → Flag Q n
flag-to f g (on p) = on (f p)
flag-to f g (off n) = off (λ q. n (g q))

pub beat_to : {P Q : Type 0} {r : Answer} → P ↔ Q → Beat P r → Beat Q r
beat_to e (sends p) = sends (e.0 p)
beat_to e (quiet n) = quiet (λ q. n (e.1 q))

-- what the timer must be for its condition to stand
abbrev pub Runs : Timer → ℕ → Type 0
Runs (peer k) y = y ≡ 0
Runs (of c) y = 0 < y

pub runs-stands : (x : Timer) (y h n : ℕ) → (y ≡ 0) ↔ (h ≤ n) → Runs x y ↔ Stands x h n
runs-stands (peer k) y h n e = e
runs-stands (of c) y h n e =
    ⊎_elim
    (λ (q : leb h n ≡ true).
    let z : h ≤ n = leb-true h n q in
    let w : y ≡ 0 = e.1 z in
    ((λ (l : 0 < y). absurd (omega (arith, l, w))), (λ l. absurd (omega (arith, l, z)))))
    (λ (q : leb h n ≡ false).
    let z : n < h = leb-false h n q in
    ((λ (l : 0 < y). omega (arith, z)), (λ l. positive y (λ w. omega (arith, z, e.0 w)))))
    (known (leb h n))
  where
    positive : (y : ℕ) → (y ≡ 0 → ⊥) → 0 < y
    positive y f =
        ⊎_elim
        (λ (q : leb 1 y ≡ true). leb-true 1 y q)
        (λ (q : leb 1 y ≡ false). absurd (f (omega (arith, leb-false 1 y q))))
        (known (leb 1 y))

module _ {t : Settings} {s : State} (H : Holds t s) where
  shown-flag : (x : Timer) {r : Raised} → Used t x → Shows s r → Flag (Runs x (timer_of x s)) (shown x r)
  shown-flag (peer k) u w = flag-to (λ (l : Lost s k). l.ended) (λ e. record { used = rw H.same u.1; ended = e }) (w.lost k u.0)
  shown-flag (of mismerge) u w = w.mismerge
  shown-flag (of unexpected_level) u w = w.unexpected_level
  shown-flag (of unexpected_mep) u w = w.unexpected_mep
  shown-flag (of unexpected_period) u w = w.unexpected_period
  shown-flag (of ais) u w = w.ais
  shown-flag (of lck) u w = w.lck

  pub told_line : (x : Timer) {P : Type 0} → Used t x → Runs x (timer_of x s) ↔ P → {o : Outcome} → Said s call.conditions o
      → Told x P o.answer
  told_line x u e (said.by_call (calling.conditions_2 n)) = absurd (n H.well)
  told_line x u e (said.by_call (calling.conditions_show r w h)) = told r (flag-to e.0 e.1 (shown-flag x u h))
