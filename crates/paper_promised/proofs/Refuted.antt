-- Three boxes that do not follow the paper, by a setting that is written out and the state that it starts with. Assumes nothing.
use Prim.Native.Nat.{ℕ}
use native.Mathlib.Omega.{arith}
use mathlib.Core.Path.{◌≡◌, refl, sym, ap, ◌∙◌}
use mathlib.Core.Bool.{false≢true, true≢false}
use mathlib.Core.List.{List, []}
use lib.ListN.{replicate}
use Rattle.base_period.specs.Periods.{ticks_of}
use Rattle.state_view.specs.State.{State}
use Rattle.paper_said.specs.Calls as call
use Rattle.paper_said.specs.Calls.{written, done, Outcome, Box}
use Rattle.paper_said.specs.Said as said
use Rattle.paper_said.specs.Called as calling
use Rattle.paper_said.specs.Ours.{Follows}
use Rattle.paper_said.proofs.Other.{is_setting, other}
use Rattle.paper_promised.specs.Promised.{ShutOut}
use Rattle.paper_promised.proofs.Apart.{code_of, is_refused, is_done}
use Rattle.paper_promised.proofs.Example.{start, well}

abbrev room : List ℕ
room = replicate 31 0

due : start.next ≡ 2
unfolding ticks_of
due = refl

-- the state that the setting starts with: a clear of it is done, and a tick lowers its timers
module _ (B : Box) (F : Follows B) where
  cleared : (B start call.clear).answer ≡ done
  cleared = ap (λ (o : Outcome). o.answer) (F.follows start call.clear _ tt (said.by_call (calling.clears well)))

  -- and an LMM is written where there is room for it
  asked : (B start (call.send_LMM room)).answer ≡ written 31
  asked =
      ap (λ (o : Outcome). o.answer) (F.follows start (call.send_LMM room) _ tt
      (said.by_call (calling.lmm_sends room well (omega arith))))

  ticked : (B start (call.tick [])).state.next ≡ 1
  unfolding ticks_of
  ticked =
      ap (λ (o : Outcome). o.state.next) (F.follows start (call.tick []) _ tt (said.by_call (calling.tick_lowers [] well (omega arith))))

pub shut_out : ShutOut
unfolding code_of is_setting
shut_out = record {
  refuses_all = λ B F all. let x = all start call.clear well (other call.clear refl) in
      false≢true (ap is_refused (sym (cleared B F) ∙ x.1));
  fixed = λ B x F all.
      let e = all start call.clear well (other call.clear refl)
      ∙ sym (all start (call.send_LMM room) well (other (call.send_LMM room) refl)) in
      true≢false (ap is_done (sym (cleared B F) ∙ e ∙ asked B F));
  touches_nothing = λ B F all.
      let e = ap (λ (s : State). s.next) (all start (call.tick []) well (other (call.tick []) refl)) in
      let x = ticked B F in
      omega (arith, e, x, due);
}
