-- Our box follows the paper where a message says how a peer or the link is: a law for each sentence of rule 5. Assumes nothing.
use Prim.Native.Nat.{ℕ}
use mathlib.Core.Path.{◌≡◌, ap, ◌∙◌}
use mathlib.Core.List.{[], ◌∷◌}
use Rattle.base_laws.specs.Tests.{choose}
use Rattle.base_period.specs.Periods.{hold_of}
use Rattle.base_stamp.specs.Stamps.{good}
use Rattle.state_view.specs.State.{State}
use Rattle.state_view.specs.Changed.{put, heard}
use Rattle.state_view.specs.Changed as word
use Rattle.frame_opcodes.specs.Opcodes.{rule_of}
use Rattle.frame_head.specs.Head.{flags_of}
use Rattle.frame_message.specs.Message.{period_code}
use Rattle.frame_ccm.specs.Ccm.{ccm_in, meg_in}
use Rattle.receive_signals.specs.declared.Signal.{Signal}
use Rattle.receive_signals.specs.Signals.{signalled}
use Rattle.receive_peer.specs.Peers.{ccm_signal}
use Rattle.receive_change.specs.declared.Change.TheVariants as change
use Rattle.receive_change.specs.Change.{taken, applied}
use Rattle.receive_handle.specs.declared.Decision.TheVariants.{Changes}
use Rattle.receive_handle.specs.Handle.{handle_of}
use Rattle.receive_carry_out.specs.CarryOut.{carried_out}
use Rattle.paper_said.specs.Calls as call
use Rattle.paper_said.specs.Calls.{Arrival, leaves}
use Rattle.paper_said.specs.Cases.{pdu, opcode, hold, OneOf, OwnLevel}
use Rattle.paper_said.specs.Drops.{Sound, code}
use Rattle.paper_said.specs.Taken.{PeerAt, OwnCcm, FromPeer}
use Rattle.paper_said.specs.Taken as taken
use Rattle.paper_said.specs.Ours.{ours}
use Rattle.paper_said.proofs.Frames.{left, handles}
use Rattle.paper_said.proofs.Codes as Codes
use Rattle.paper_said.proofs.Peers as Peers

module _ (s : State) (a : Arrival) where
  -- ── rule 5 ──

  tells : (w : OwnLevel s a) (q : Sound s a) (x : Signal)
      → handle_of s.settings (pdu a) a.receive (rule_of 1).handler ≡ Changes (change.Told x) → opcode a ≡ 1
      → (period_code (flags_of (pdu a)) ≡ 0 → ⊥)
      → ours s (call.frame a) ≡ leaves call.taken (signalled s x) a.buffer
  unfolding carried_out applied
  tells w q x e op n = left s a w _ (handles s a w q 1 (Codes.ccm-good (flags_of (pdu a)) op n) ∙ e)

  signals : (c : OwnCcm s a) (x : Signal) → ccm_signal s.settings (pdu a) ≡ x
      → ours s (call.frame a) ≡ leaves call.taken (signalled s x) a.buffer
  unfolding handle_of rule_of choose
  signals c x e = tells c.own c.good.sound x (ap (λ (y : Signal). Changes (change.Told y)) e) c.good.ccm c.good.period

  pub mismerge : OwnCcm s a → (meg_in (pdu a) ≡ s.settings.meg → ⊥)
      → ours s (call.frame a) ≡ leaves call.taken (put word.mismerge (hold s) s) a.buffer
  unfolding signalled
  mismerge c n = signals c _ (Peers.signal_mismerge s c.own.oam.heeded.well.settings (pdu a) n)

  pub unexpected_mep : OwnCcm s a → meg_in (pdu a) ≡ s.settings.meg → ((k : ℕ) → PeerAt s k (ccm_in (pdu a)).mep → ⊥)
      → ours s (call.frame a) ≡ leaves call.taken (put word.unexpected_mep (hold s) s) a.buffer
  unfolding signalled
  unexpected_mep c m n = signals c _ (Peers.signal_mep s c.own.oam.heeded.well.settings (pdu a) m n)

  pub peer : (k : ℕ) → FromPeer s a k → (ccm_in (pdu a)).period ≡ s.settings.period
      → ours s (call.frame a) ≡ leaves call.taken (heard k (hold s) (ccm_in (pdu a)).rdi s) a.buffer
  unfolding signalled
  peer k p e = signals p.ccm _ (Peers.signal_peer s p.ccm.own.oam.heeded.well.settings (pdu a) p.meg k p.peer e)

  pub unexpected_period : (k : ℕ) → FromPeer s a k → ((ccm_in (pdu a)).period ≡ s.settings.period → ⊥)
      → ours s (call.frame a) ≡ leaves call.taken (put word.unexpected_period (hold s) (heard k (hold s) (ccm_in (pdu a)).rdi s))
      a.buffer
  unfolding signalled
  unexpected_period k p n =
      signals p.ccm _ (Peers.signal_period s p.ccm.own.oam.heeded.well.settings (pdu a) p.meg k p.peer n)

  pub alarm : (w : OwnLevel s a) (q : Sound s a) → opcode a ≡ 33 → OneOf (code a) (4 ∷ 6 ∷ [])
      → ours s (call.frame a) ≡ leaves call.taken (put word.ais (hold_of (code a)) s) a.buffer
  unfolding handle_of rule_of choose carried_out applied signalled
  alarm w q op o = left s a w _ (handles s a w q 33 (Codes.ais-good (flags_of (pdu a)) op o))

  pub lock : (w : OwnLevel s a) (q : Sound s a) → opcode a ≡ 35 → OneOf (code a) (4 ∷ 6 ∷ [])
      → ours s (call.frame a) ≡ leaves call.taken (put word.lck (hold_of (code a)) s) a.buffer
  unfolding handle_of rule_of choose carried_out applied signalled
  lock w q op o = left s a w _ (handles s a w q 35 (Codes.lck-good (flags_of (pdu a)) op o))
