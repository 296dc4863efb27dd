-- Our box follows the paper where it sends a request, is cleared, or takes a new setting: a law for each sentence. Assumes nothing.
use Prim.Native.Nat.{ℕ, ◌≤◌, ◌<◌}
use mathlib.Core.Path.{◌≡◌, ap}
use mathlib.Core.List.{List, []}
use lib.ListN.{length}
use borrow.Author.Tests.{le-ltb, lt-ltb}
use Rattle.base_laws.specs.Tests.{choose}
use Rattle.base_laws.specs.Lists.{laid}
use Rattle.state_settings.specs.Settings.{Settings}
use Rattle.state_settings.specs.Valid.{Valid, valid}
use Rattle.state_settings.proofs.Rules.{valid_is}
use Rattle.loss_session.specs.Session.{cleared_session}
use Rattle.base_stamp.specs.declared.Stamp.{Stamp}
use Rattle.state_view.specs.State.{State}
use Rattle.state_view.specs.Changed.{with_session}
use Rattle.state_view.specs.WellFormed.{WellFormed}
use Rattle.call_clear.specs.Clear.{clear_of}
use Rattle.call_send_lmm.specs.Lmm.{lmm_of, send_lmm}
use Rattle.call_send_dmm.specs.Dmm.{dmm_of, send_dmm}
use Rattle.paper_said.specs.Calls as call
use Rattle.paper_said.specs.Calls.{leaves, hands_out, refused, done, written}
use Rattle.paper_said.specs.Cases.{StampGood}
use Rattle.paper_said.specs.Started.{Fresh, AllZero}
use Rattle.paper_said.specs.Made.{lmm_from, dmm_from}
use Rattle.paper_said.specs.Ours.{ours}
use Rattle.paper_said.proofs.Stamps.{untrue, good-yes, good-no}
use Rattle.paper_said.proofs.MeetsRefused.{well, not_well}
use Rattle.paper_said.proofs.Started.{fresh_is, zero_is}

module _ (s : State) (b : List ℕ) where
  -- ── the senders ──

  pub lmm_2 : (WellFormed s → ⊥) → ours s (call.send_LMM b) ≡ leaves (refused 2) s b
  unfolding send_lmm choose
  lmm_2 n = rw (not_well s n)

  pub lmm_3 : WellFormed s → length b < 31 → ours s (call.send_LMM b) ≡ leaves (refused 3) s b
  unfolding send_lmm choose
  lmm_3 w h = rw (well s w, lt-ltb (length b) 31 h)

  pub lmm_sends : WellFormed s → 31 ≤ length b → ours s (call.send_LMM b) ≡ leaves (written 31) s (laid 0 (lmm_from s) b)
  unfolding send_lmm choose lmm_of
  lmm_sends w h = rw (well s w, le-ltb (length b) 31 h)

  module _ (t : Stamp) where
    pub dmm_2 : (WellFormed s → ⊥) → ours s (call.send_DMM t b) ≡ leaves (refused 2) s b
    unfolding send_dmm choose
    dmm_2 n = rw (not_well s n)

    pub dmm_6 : WellFormed s → (StampGood t → ⊥) → ours s (call.send_DMM t b) ≡ leaves (refused 6) s b
    unfolding send_dmm choose
    dmm_6 w n = rw (well s w, good-no t n)

    pub dmm_3 : WellFormed s → StampGood t → length b < 51 → ours s (call.send_DMM t b) ≡ leaves (refused 3) s b
    unfolding send_dmm choose
    dmm_3 w g h = rw (well s w, good-yes t g, lt-ltb (length b) 51 h)

    pub dmm_sends : WellFormed s → StampGood t → 51 ≤ length b → ours s (call.send_DMM t b) ≡ leaves (written 51) s (laid 0 (dmm_from s t) b)
    unfolding send_dmm choose dmm_of
    dmm_sends w g h = rw (well s w, good-yes t g, le-ltb (length b) 51 h)

module _ (s : State) where
  -- ── clear, a new setting ──

  pub clear_2 : (WellFormed s → ⊥) → ours s call.clear ≡ leaves (refused 2) s []
  unfolding clear_of
  clear_2 n = rw (not_well s n)

  pub clears : WellFormed s → ours s call.clear ≡ leaves done (with_session cleared_session s) []
  unfolding clear_of
  clears w = rw (well s w)

  pub setting_starts : (t : Settings) (fresh : State) → Valid t → Fresh t fresh → ours s (call.new_setting t) ≡ hands_out done fresh fresh
  setting_starts t fresh v f = rw ((valid_is.valid_is t).1 v) (ap (λ (x : State). hands_out done x x) (fresh_is t fresh f))

  pub setting_4 : (t : Settings) (empty : State) → (Valid t → ⊥) → AllZero empty
      → ours s (call.new_setting t) ≡ hands_out (refused 4) s empty
  setting_4 t empty n z =
      rw (untrue (valid t) (λ e. n ((valid_is.valid_is t).0 e))) (ap (λ (x : State). hands_out (refused 4) s x) (zero_is empty z))
