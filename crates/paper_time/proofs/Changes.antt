-- What may change of the timers and the counter at a call that is no tick: nothing, a count, one condition, a peer. Assumes nothing.
use Prim.Native.Nat.{ℕ, ◌<◌}
use mathlib.Core.Path.{◌≡◌, refl, sym, ◌∙◌}
use mathlib.Core.Logic.{⊎_elim, ◌⊎◌, inl, inr}
use native.Mathlib.Omega.{arith}
use lib.ListN.{length, length-set}
use Rattle.loss_session.specs.declared.LossSession.{LossSession}
use Rattle.base_period.specs.Periods.{hold_of}
use Rattle.state_settings.specs.Settings.{Settings, slots}
use Rattle.state_settings.specs.Valid.{Valid}
use Rattle.frame_ccm.specs.Ccm.{ccm_in}
use Rattle.state_view.specs.State.{State}
use Rattle.state_view.specs.Changed.{Word, place_of, put, heard, with_session}
use Rattle.state_view.specs.Changed as word
use Rattle.state_view.specs.WellFormed.{WellFormed}
use Rattle.call_setting.proofs.Starts.{starts}
use Rattle.paper_said.specs.Calls as call
use Rattle.paper_said.specs.Calls.{Arrival, Call}
use Rattle.paper_said.specs.Cases.{pdu, hold}
use Rattle.paper_said.specs.Drops.{code}
use Rattle.paper_said.specs.Taken.{FromPeer}
use Rattle.paper_time.specs.Timers.{Condition, unexpected_period, Timer, peer, of, asked, Sets}
use Rattle.paper_time.specs.Timers as sets
use Rattle.paper_time.proofs.Asked.{from_moves}
use Rattle.paper_time.proofs.Timers.{word_of, timer_of, put-either, put-behind, heard-of, heard-either, session_stays}

-- a state of these settings, with all its slots
pub record Holds (t : Settings) (s : State) : Type 0 where
  pub same : s.settings ≡ t
  pub well : WellFormed s
  pub eight : length s.timers ≡ slots

-- what a call that is no tick leaves: each timer is as it was, or the call sets it
pub record Change (t : Settings) (s : State) (c : Call) (z : State) : Type 0 where
  pub settings : z.settings ≡ s.settings
  pub slots : length z.timers ≡ length s.timers
  pub next : z.next ≡ s.next
  pub timers : (x : Timer) → ((h : ℕ) × Sets t x c h) ⊎ (timer_of x z ≡ timer_of x s)

module _ {t : Settings} (s : State) where
  -- one condition is set
  on-timer : {c : Call} (d : Condition) (n h : ℕ) → Sets t (of d) c h → (x : Timer)
      → ((h : ℕ) × Sets t x c h) ⊎ (timer_of x (put (word_of d) n s) ≡ timer_of x s)
  on-timer d n h p (peer k) = inr refl
  on-timer {c} d n h p (of e) =
      ⊎_elim
      (λ (q : e ≡ d). inl (h, rw q p))
      (λ (q : timer_of (of e) (put (word_of d) n s) ≡ timer_of (of e) s). inr q)
      (put-either d e n s)

  -- a peer is heard
  on-peer : {c : Call} (k n flag h : ℕ) → Sets t (peer k) c h → (x : Timer)
      → ((h : ℕ) × Sets t x c h) ⊎ (timer_of x (heard k n flag s) ≡ timer_of x s)
  on-peer k n flag h p (peer j) =
      ⊎_elim
      (λ (q : j ≡ k). inl (h, rw q p))
      (λ (q : timer_of (peer j) (heard k n flag s) ≡ timer_of (peer j) s). inr q)
      (heard-either k j n flag s)
  on-peer k n flag h p (of c) = inr (heard-of c k n flag s)

module _ {t : Settings} {s : State} where
  pub idle : {c : Call} → Change t s c s
  idle = record { settings = refl; slots = refl; next = refl; timers = λ x. inr refl }

  pub counts : {c : Call} (w : Word) (n : ℕ) → 6 < place_of w → s.next ≡ (put w n s).next → Change t s c (put w n s)
  counts w n h e = record { settings = refl; slots = refl; next = sym e; timers = λ x. inr (put-behind x w n s (omega (arith, h))) }

  pub session : {c : Call} (y : LossSession) → Change t s c (with_session y s)
  session y = record { settings = refl; slots = refl; next = refl; timers = λ x. inr (session_stays x y s) }

  pub condition : {c : Call} (d : Condition) (n h : ℕ) → (put (word_of d) n s).next ≡ s.next → Sets t (of d) c h
      → Change t s c (put (word_of d) n s)
  condition d n h e p = record { settings = refl; slots = refl; next = e; timers = on-timer s d n h p }

  pub hears : {c : Call} (k n flag h : ℕ) → Sets t (peer k) c h → Change t s c (heard k n flag s)
  hears k n flag h p = record { settings = refl; slots = length-set s.timers k n; next = refl; timers = on-peer s k n flag h p }

-- and the rules asked of the settings
pub good : {t : Settings} → Valid t → WellFormed (asked t)
good {t} v = starts.well t v

module _ {t : Settings} {s : State} (v : Valid t) (H : Holds t s) where
  -- a peer of another period: two timers
  period-timers : (a : Arrival) (k flag : ℕ) → FromPeer s a k → (code a ≡ s.settings.period → ⊥) → (x : Timer)
      → ((h : ℕ) × Sets t x (call.frame a) h) ⊎ (timer_of x (put word.unexpected_period (hold s) (heard k (hold s) flag s)) ≡ timer_of x s)
  period-timers a k flag p e (peer j) = on-peer s k (hold s) flag _ (sets.from_peer a k (from_moves H.same (good v) p)) (peer j)
  period-timers a k flag p e (of c) =
      ⊎_elim
      (λ (q : c ≡ unexpected_period).
      let set = sets.other_period a k (from_moves H.same (good v) p) (λ z. e (rw H.same z)) in
      inl (hold_of t.period, rw q set))
      (λ (q : timer_of (of c) (put word.unexpected_period (hold s) (heard k (hold s) flag s)) ≡ timer_of (of c) (heard k (hold s) flag s)).
      inr (q ∙ heard-of c k (hold s) flag s))
      (put-either unexpected_period c (hold s) (heard k (hold s) flag s))

  pub period-line : (a : Arrival) (k : ℕ) → FromPeer s a k → (code a ≡ s.settings.period → ⊥)
      → Change t s (call.frame a) (put word.unexpected_period (hold s) (heard k (hold s) (ccm_in (pdu a)).rdi s))
  period-line a k p e =
      record {
        settings = refl;
        slots = length-set s.timers k (hold s);
        next = refl;
        timers = period-timers a k (ccm_in (pdu a)).rdi p e;
      }
