-- The paper says something of every call: one tree of tests, in the paper's order, with a sentence at each leaf. Assumes nothing.
use Prim.Native.Nat.{ℕ}
use mathlib.Core.Path.{◌≡◌}
use mathlib.Core.List.{List}
use native.Mathlib.Omega.{arith}
use lib.Dec.{ltb}
use lib.ListN.{length}
use borrow.Author.Tests.{ltb-true, ltb-false}
use Rattle.state_settings.specs.Settings.{Settings}
use Rattle.state_settings.specs.Valid.{valid}
use Rattle.state_settings.proofs.Rules.{valid_is}
use Rattle.base_stamp.specs.declared.Stamp.{Stamp}
use Rattle.base_stamp.specs.Stamps.{good}
use Rattle.state_view.specs.State.{State}
use Rattle.state_view.specs.Changed.{lowered}
use Rattle.state_view.specs.WellFormed.{WellFormed, well_formed}
use Rattle.state_view.proofs.Rules.{well_formed_is}
use Rattle.state_standing.specs.Standing.{standing}
use Rattle.call_conditions.specs.Conditions.{shown_of}
use Rattle.state_standing.proofs.Rules as Rules
use Rattle.paper_said.specs.Calls as call
use Rattle.paper_said.specs.Calls.{Call, Outcome, OnWire}
use Rattle.paper_said.specs.Standing.{on, off}
use Rattle.paper_said.specs.Said as said
use Rattle.paper_said.specs.Called as calling
use Rattle.paper_said.specs.Said.{Said}
use Rattle.paper_said.specs.Words.{raised}
use Rattle.call_setting.specs.Start.{start_of as fresh_of, zero_state}
use Rattle.paper_said.proofs.Started.{fresh_own, zero_own}
use Rattle.paper_said.proofs.Stamps.{good-yes, good-only}
use Rattle.paper_said.proofs.MeetsTicks.{stands-to, stands_from}
use Rattle.paper_said.proofs.MeetsConditions.{shows_own}
use Rattle.paper_said.proofs.Something.{Something, split, clash}
use Rattle.paper_said.proofs.EveryFrame.{frames}

module _ (s : State) where
  -- with a state that is well formed, or not
  by_state : {X : Type 0} → (WellFormed s → X) → ((WellFormed s → ⊥) → X) → X
  by_state then otherwise =
      split (well_formed s) (λ v. then ((well_formed_is.well_formed_is s).0 v))
      (λ v. otherwise (λ k. clash ((well_formed_is.well_formed_is s).1 k) v))

  settings : (t : Settings) → Something s (call.new_setting t)
  settings t =
      split (valid t) (λ v. (_, said.by_call (calling.setting_starts t (fresh_of t) ((valid_is.valid_is t).0 v) (fresh_own t))))
      (λ v. (_, said.by_call (calling.setting_4 t zero_state (λ k. clash ((valid_is.valid_is t).1 k) v) zero_own)))

  ticks : (b : List ℕ) → Something s (call.tick b)
  ticks b =
      by_state
      (λ w.
      split (ltb 1 s.next)
      (λ t. (_, said.by_call (calling.tick_lowers b w (ltb-true 1 s.next t))))
      (λ t.
      let most = ltb-false 1 s.next t in
      let one : s.next ≡ 1 = omega (arith, most, w.some_tick) in
      split (ltb (length b) 89)
      (λ k. (_, said.by_call (calling.tick_3 b w one (ltb-true (length b) 89 k))))
      (λ k.
      split (standing (lowered s))
      (λ x. (
        _,
        said.by_call (calling.tick_sends b 1 w one (ltb-false (length b) 89 k)
            (on (stands_from (lowered s) (((Rules.standing_is).standing_is (lowered s)).0 x)))),
      ))
      (λ x. (
        _,
        said.by_call (calling.tick_sends b 0 w one (ltb-false (length b) 89 k)
            (off (λ p. clash (((Rules.standing_is).standing_is (lowered s)).1 (stands-to (lowered s) p)) x))),
      )))))
      (λ n. (_, said.by_call (calling.tick_2 b n)))

  lmms : (b : List ℕ) → Something s (call.send_LMM b)
  lmms b =
      by_state
      (λ w. split (ltb (length b) 31) (λ k. (_, said.by_call (calling.lmm_3 b w (ltb-true (length b) 31 k))))
      (λ k. (_, said.by_call (calling.lmm_sends b w (ltb-false (length b) 31 k)))))
      (λ n. (_, said.by_call (calling.lmm_2 b n)))

  dmms : (t : Stamp) (b : List ℕ) → Something s (call.send_DMM t b)
  dmms t b =
      by_state
      (λ w.
      split (good t)
      (λ g. split (ltb (length b) 51) (λ k. (_, said.by_call (calling.dmm_3 t b w (good-only t g) (ltb-true (length b) 51 k))))
      (λ k. (_, said.by_call (calling.dmm_sends t b w (good-only t g) (ltb-false (length b) 51 k)))))
      (λ g. (_, said.by_call (calling.dmm_6 t b w (λ x. clash (good-yes t x) g)))))
      (λ n. (_, said.by_call (calling.dmm_2 t b n)))

pub every_call : (s : State) (c : Call) → OnWire c → (o : Outcome) × Said s c o
every_call s (call.new_setting t) w = settings s t
every_call s (call.frame a) w = frames s a w.octets
every_call s (call.tick b) w = ticks s b
every_call s call.clear w = by_state s (λ v. (_, said.by_call (calling.clears v))) (λ n. (_, said.by_call (calling.clear_2 n)))
every_call s (call.send_LMM b) w = lmms s b
every_call s (call.send_DMM t b) w = dmms s t b
every_call s call.conditions w =
    by_state s (λ v. (_, said.by_call (calling.conditions_show (raised (shown_of s)) v (shows_own s))))
    (λ n. (_, said.by_call (calling.conditions_2 n)))
