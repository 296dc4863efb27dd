-- The counter of a period of p ticks: c ticks are left to the next beat. The paper, "Frames, rule by rule", last paragraph: every period's
-- last tick sends a CCM; a new setting has a full period to run. Definitions and statements only.
use Rattle.std.specs.Prelude.{ℕ, suc, ◌+◌, ◌-◌, ◌≤◌, ◌≡◌, cond, List, [], ◌∷◌, ◌↔◌, leb}
use Rattle.std.specs.Int.{◌∣◌}
use Rattle.base_clock.specs.Run.{after}
use Rattle.base_clock.specs.Timer.{Event, tick, set_to, other, ticks}

-- a tick at 1 beats and a full period is to run again; any other tick lowers the counter
abbrev pub next_count : ℕ → ℕ → ℕ
next_count p c = cond (leb c 1) p (c - 1)

-- what a call does to the counter: only a tick moves it
abbrev pub counted : ℕ → ℕ → Event → ℕ
counted p c tick = next_count p c
counted p c (set_to h) = c
counted p c other = c

-- the counter after a run, c before it
abbrev pub counter_after : ℕ → ℕ → List Event → ℕ
counter_after p = after (counted p)

-- a period beats exactly on its last tick, from any count that is left
pub record Beats : Type 0 where
  -- the counter itself: down by one, and from 1 back to the full period
  pub lowers : (p c : ℕ) → 2 ≤ c → counter_after p c (tick ∷ []) ≡ c - 1
  pub again : (p : ℕ) → counter_after p 1 (tick ∷ []) ≡ p
  -- with a full period to run, the tick after a run beats exactly when p divides the ticks, it included
  pub full : (p : ℕ) (es : List Event) → 1 ≤ p → (counter_after p p es ≤ 1) ↔ (p ∣ suc (ticks es))
  -- with c ticks left, exactly when p divides them and the p - c that had passed before
  pub from_count : (p c : ℕ) (es : List Event) → 1 ≤ c → c ≤ p → (counter_after p c es ≤ 1) ↔ (p ∣ (suc (ticks es) + (p - c)))
  -- the counter stays from 1 to the period
  pub low : (p c : ℕ) (es : List Event) → 1 ≤ c → c ≤ p → 1 ≤ counter_after p c es
  pub high : (p c : ℕ) (es : List Event) → 1 ≤ c → c ≤ p → counter_after p c es ≤ p
