-- How a tick ends, one law for each way. Assumes nothing.
use Prim.Native.Nat.{ℕ, ◌-◌, ◌≤◌, ◌<◌}
use mathlib.Core.Path.{◌≡◌, sym, ap, ap₂, ◌∙◌}
use mathlib.Core.Bool.{Bool, true, false, not}
use mathlib.Core.List.{List}
use native.Mathlib.Omega.{arith}
use lib.ListN.{length}
use borrow.Author.Tests.{lt-ltb, le-ltb, not-true, not-false}
use Rattle.std.specs.Prelude.{Result, Ok, Err, Option, Some, None}
use Rattle.base_laws.specs.Ended.{Ended, ended}
use Rattle.base_laws.specs.Tests.{choose}
use Rattle.base_laws.specs.Lists.{laid}
use Rattle.base_laws.proofs.Tests.{choose-map}
use Rattle.base_period.specs.Periods.{ticks_of}
use Rattle.state_view.specs.State.{State}
use Rattle.state_view.specs.WellFormed.{well_formed}
use Rattle.state_view.specs.Changed.{next, put, lowered}
use Rattle.message_parts.specs.Buffer.{buffer_of}
use Rattle.message_ccm.specs.Continuity.{ccm_length}
use Rattle.call_tick_ccm.specs.Ccm.{ccm_of}
use Rattle.call_send_answer.specs.declared.SendRefusal.{SendRefusal}
use Rattle.call_send_answer.specs.declared.SendRefusal.TheVariants.{NotWellFormed, NoRoom}
use Rattle.call_tick.specs.Tick.{ticked_of, tick_of, tick_numbers}
use Rattle.call_send_answer.specs.Told.{tick_told}

-- an answer is told as the paper numbers it
pub agree : (s : State) (buffer : List ℕ) → tick_told (tick_of s buffer).answer ≡ tick_numbers s buffer
unfolding tick_of tick_told tick_numbers
agree s buffer = choose-map (λ (t : Ended State (Result (Option ℕ) SendRefusal)). tick_told t.answer) _ _

-- there is room for the message, so it is laid
room : (message buffer : List ℕ) → length message ≡ 89 → 89 ≤ length buffer → buffer_of message buffer ≡ laid 0 message buffer
room message buffer h k = rw (le-ltb (length buffer) (length message) (omega arith))

-- the test that the code makes first
pub good : (s : State) {b : Bool} → b ≡ well_formed s → not b ≡ false → well_formed s ≡ true
good s {b} e h = sym e ∙ not-false b h

pub bad : (s : State) {b : Bool} → b ≡ well_formed s → not b ≡ true → well_formed s ≡ false
bad s {b} e h = sym e ∙ not-true b h

module _ (s : State) (buffer : List ℕ) where
  -- r, x and y are the outcome, and r is told by its number
  abbrev pub Outcome : Result (Option ℕ) SendRefusal → State → List ℕ → Type 0
  Outcome r x y = (ended r x y ≡ tick_of s buffer) × (tick_told r ≡ tick_numbers s buffer)

  numbered : {r : Result (Option ℕ) SendRefusal} {x : State} {y : List ℕ} → tick_of s buffer ≡ ended r x y → Outcome r x y
  numbered e = (sym e, ap (λ (t : Ended State (Result (Option ℕ) SendRefusal)). tick_told t.answer) (sym e) ∙ agree s buffer)

  pub at_2 : well_formed s ≡ false → tick_of s buffer ≡ ended (Err NotWellFormed) s buffer
  unfolding tick_of choose
  at_2 w = rw w

  module _ (w : well_formed s ≡ true) where
    pub at-quiet : 1 < s.next → tick_of s buffer ≡ ended (Ok None) (ticked_of s) buffer
    unfolding tick_of choose
    at-quiet h = rw (w, lt-ltb 1 s.next h)

    module _ (h : s.next ≤ 1) where
      pub at_3 : length buffer < 89 → tick_of s buffer ≡ ended (Err NoRoom) s buffer
      unfolding tick_of choose
      at_3 k = rw (w, le-ltb 1 s.next h, lt-ltb (length buffer) 89 k)

      pub at-sent : 89 ≤ length buffer → tick_of s buffer ≡ ended (Ok (Some ccm_length)) (ticked_of s) (laid 0 (ccm_of (ticked_of s)) buffer)
      unfolding tick_of choose
      at-sent k = rw (w, le-ltb 1 s.next h, le-ltb (length buffer) 89 k)

  -- ── the same from what the code knows ──

  pub ends_2 : well_formed s ≡ false → Outcome (Err NotWellFormed) s buffer
  ends_2 w = numbered (at_2 w)

  next-quiet : 1 < s.next → put next (s.next - 1) (lowered s) ≡ ticked_of s
  next-quiet h = rw (lt-ltb 1 s.next h)

  next_last : s.next ≤ 1 → put next (ticks_of s.settings.period) (lowered s) ≡ ticked_of s
  next_last h = rw (le-ltb 1 s.next h)

  pub ends-quiet : {x : State} → well_formed s ≡ true → 1 < s.next → x ≡ put next (s.next - 1) (lowered s) → Outcome (Ok None) x buffer
  ends-quiet w h e = numbered (at-quiet w h ∙ ap (λ (t : State). ended (Ok None) t buffer) (sym (e ∙ next-quiet h)))

  pub ends_3 : well_formed s ≡ true → s.next ≤ 1 → length buffer < 89 → Outcome (Err NoRoom) s buffer
  ends_3 w h k = numbered (at_3 w h k)

  pub ends-sent : {v : ℕ} {x : State} {y : List ℕ} → well_formed s ≡ true → s.next ≤ 1 → 89 ≤ length buffer
      → v ≡ ticks_of s.settings.period
      → x ≡ put next v (lowered s) → y ≡ buffer_of (ccm_of x) buffer → length (ccm_of x) ≡ 89 → Outcome (Ok (Some ccm_length)) x y
  ends-sent {x = x} w h k v e f n =
      let t = e ∙ ap (λ (u : ℕ). put next u (lowered s)) v ∙ next_last h in
      let written = f ∙ room (ccm_of x) buffer n k ∙ ap (λ (u : State). laid 0 (ccm_of u) buffer) t in
      numbered (at-sent w h k ∙ ap₂ (λ (u : State) (l : List ℕ). ended (Ok (Some ccm_length)) u l) (sym t) (sym written))
