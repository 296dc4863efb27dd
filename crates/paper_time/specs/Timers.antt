-- The timers of the conditions, and which call sets which of them: the paper's frame rules 3 and 5, read from the settings and the call
-- alone, and from no box and no state that a box left. Definitions only.
use Rattle.std.specs.Prelude.{ℕ, ◌<◌, ◌≡◌, [], ◌∷◌}
use Rattle.base_period.specs.Periods.{hold_of}
use Rattle.state_settings.specs.Settings.{Settings, slots}
use Rattle.state_view.specs.State.{State}
use Rattle.call_setting.specs.Start.{start_of}
use Rattle.frame_ccm.specs.Ccm.{ccm_in, meg_in}
use Rattle.paper_said.specs.Calls.{active, Arrival, Call, frame}
use Rattle.paper_said.specs.Cases.{pdu, opcode, level, OneOf, Oam, OwnLevel}
use Rattle.paper_said.specs.Drops.{Sound, code, GoodCcm}
use Rattle.paper_said.specs.Taken.{PeerAt, OwnCcm, FromPeer}

-- the six conditions that are active while their timer runs
pub data Condition : Type 0 where
  mismerge : Condition
  unexpected_level : Condition
  unexpected_mep : Condition
  unexpected_period : Condition
  ais : Condition
  lck : Condition

-- every timer: of the peer in a slot, and of each condition
pub data Timer : Type 0 where
  peer : ℕ → Timer
  of : Condition → Timer

-- a slot's timer is one only where the slot is used
abbrev pub Used : Settings → Timer → Type 0
Used t (peer k) = (k < slots) × (k < t.count)
Used t (of c) = Unit

-- what the setting itself sets a timer to ("Frames, rule by rule", last paragraph): peers at the hold time, the others at 0
abbrev pub at_start : Settings → Timer → ℕ
at_start t (peer k) = hold_of t.period
at_start t (of c) = 0

-- the frame rules read nothing of a state but its settings, and whether it is well formed: they are asked of the state that the setting
-- starts with, which the paper gives
abbrev pub asked : Settings → State
asked = start_of

-- `Sets t x c h`: with these settings, the call c sets the timer x to h ticks
pub data Sets (t : Settings) : Timer → Call → ℕ → Type 0 where
  -- rule 3: a CCM of a lower level from outside that nothing else speaks against
  lower_ccm : (a : Arrival) → Oam (asked t) a → a.side ≡ active → level a < t.level → GoodCcm (asked t) a
      → Sets t (of unexpected_level) (frame a) (hold_of t.period)
  -- rule 5: a CCM of another MEG
  other_meg : (a : Arrival) → OwnCcm (asked t) a → (meg_in (pdu a) ≡ t.meg → ⊥)
      → Sets t (of mismerge) (frame a) (hold_of t.period)
  -- of our MEG, from no peer
  no_peer : (a : Arrival) → OwnCcm (asked t) a → meg_in (pdu a) ≡ t.meg → ((k : ℕ) → PeerAt (asked t) k (ccm_in (pdu a)).mep → ⊥)
      → Sets t (of unexpected_mep) (frame a) (hold_of t.period)
  -- from the peer in slot k, of any period
  from_peer : (a : Arrival) (k : ℕ) → FromPeer (asked t) a k
      → Sets t (peer k) (frame a) (hold_of t.period)
  -- and of a period unlike ours
  other_period : (a : Arrival) (k : ℕ) → FromPeer (asked t) a k → (code a ≡ t.period → ⊥)
      → Sets t (of unexpected_period) (frame a) (hold_of t.period)
  -- AIS and LCK of a second or a minute: for 3.5 of the period in the frame
  alarm : (a : Arrival) → OwnLevel (asked t) a → Sound (asked t) a → opcode a ≡ 33 → OneOf (code a) (4 ∷ 6 ∷ [])
      → Sets t (of ais) (frame a) (hold_of (code a))
  locked : (a : Arrival) → OwnLevel (asked t) a → Sound (asked t) a → opcode a ≡ 35 → OneOf (code a) (4 ∷ 6 ∷ [])
      → Sets t (of lck) (frame a) (hold_of (code a))

-- the call c does not set the timer x
abbrev pub Unset : Settings → Timer → Call → Type 0
Unset t x c = (h : ℕ) → Sets t x c h → ⊥
