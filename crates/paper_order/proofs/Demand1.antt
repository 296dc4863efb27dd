-- Demand 1, of every box that follows the paper, by citation of the table of refusals. Assumes nothing.
use Prim.Native.Nat.{ℕ}
use mathlib.Core.Path.{◌≡◌, refl, sym}
use mathlib.Core.List.{List, [], ◌∷◌}
use native.Mathlib.Omega.{arith}
use Rattle.base_clock.specs.Run.{after}
use Rattle.state_settings.specs.Settings.{Settings}
use Rattle.loss_reading.proofs.Refusals.{sessions}
use Rattle.loss_lent.proofs.Lends.{lends}
use Rattle.frame_reader.proofs.Numbers.{reader-numbers}
use Rattle.stored_settings.proofs.SettingsRecords.{settings-records}
use Rattle.stored_line.proofs.LineRecords.{loss-records}
use Rattle.state_view.specs.State.{State}
use Rattle.state_view.specs.WellFormed.{WellFormed}
use Rattle.paper_said.specs.Calls.{Call, new_setting, frame, tick, clear, send_LMM, send_DMM, conditions, Answer, refused, HandedOut}
use Rattle.paper_said.specs.Calls.{nothing, Outcome, leaves, OnWire, NoSetting, Box}
use Rattle.paper_said.specs.Started.{Settable}
use Rattle.paper_said.specs.Ours.{Follows}
use Rattle.paper_promised.specs.Refusals.{Refusal, frame_2, frame_1, frame_6, frame_3, frame_5, tick_2, tick_3, clear_2, lmm_2, lmm_3}
use Rattle.paper_promised.specs.Refusals.{dmm_2, dmm_6, dmm_3, setting_4, conditions_2, handed}
use Rattle.paper_promised.specs.Promised.{Promised}
use Rattle.paper_promised.proofs.Promised.{promises}
use Rattle.paper_loss.specs.Runs.{run, Each}
use Rattle.paper_loss.proofs.Meets.{meets}
use Rattle.paper_time.specs.Runs.{since}
use Rattle.paper_order.specs.Demand1.{Demand1, Beside}

-- ── the table ──

-- 2 is given to a state that is not well formed alone
two : {s : State} {c : Call} {n : ℕ} → Refusal s c n → n ≡ 2 → WellFormed s → ⊥
two (frame_2 a h) e w = h w
two (frame_1 a v h) e w = omega (arith, e)
two (frame_6 a v l h) e w = omega (arith, e)
two (frame_3 a reply o d r h) e w = omega (arith, e)
two (frame_5 a l k i) e w = omega (arith, e)
two (tick_2 b h) e w = h w
two (tick_3 b v x h) e w = omega (arith, e)
two (clear_2 h) e w = h w
two (lmm_2 b h) e w = h w
two (lmm_3 b v h) e w = omega (arith, e)
two (dmm_2 t b h) e w = h w
two (dmm_6 t b v h) e w = omega (arith, e)
two (dmm_3 t b v g h) e w = omega (arith, e)
two (setting_4 t h) e w = omega (arith, e)
two (conditions_2 h) e w = h w

-- and to every call that is given one
gets_2 : (s : State) (c : Call) → NoSetting c → (WellFormed s → ⊥) → Refusal s c 2
gets_2 s (new_setting t) none h = absurd (none t refl)
gets_2 s (frame a) none h = frame_2 a h
gets_2 s (tick b) none h = tick_2 b h
gets_2 s clear none h = clear_2 h
gets_2 s (send_LMM b) none h = lmm_2 b h
gets_2 s (send_DMM t b) none h = dmm_2 t b h
gets_2 s conditions none h = conditions_2 h

-- an outcome from its parts
outcome : (o : Outcome) (x : Answer) (s : State) (b : List ℕ) → o.answer ≡ x → o.state ≡ s → o.buffer ≡ b → o.out ≡ nothing
    → o ≡ leaves x s b
outcome o x s b e f g h = made (sym e) (sym f) (sym g) (sym h)
  where
    made : {x : Answer} {s : State} {b : List ℕ} {h : HandedOut} → x ≡ o.answer → s ≡ o.state → b ≡ o.buffer → h ≡ o.out
        → o ≡ record { answer = x; state = s; buffer = b; out = h }
    made e f g h = rw (e, f, g, h)

-- ── a box that follows ──

module _ (B : Box) (f : Follows B) where
  kept : Promised B
  kept = promises.kept B f

  not_well : (s : State) (c : Call) → OnWire c → NoSetting c → (WellFormed s → ⊥) → B s c ≡ leaves (refused 2) s (handed c)
  not_well s c wire none h =
      let e = (kept.refuses s c 2 wire).1 (gets_2 s c none h) in
      let l = kept.left s c 2 wire e in
      outcome (B s c) (refused 2) s (handed c) e l.0 l.1 (kept.hands_nothing s c wire none)

  run-well : (cs : List Call) (s : State) → WellFormed s → Each OnWire cs → WellFormed (run B s cs)
  unfolding after Each
  run-well [] s w wire = w
  run-well (c ∷ cs) s w wire = run-well cs (B s c).state (kept.stays s c wire.0 w) wire.1

  stays : (s : State) (t : Settings) (cs : List Call) → Settable t → Each OnWire cs → WellFormed (since B s t cs)
  stays s t cs g wire = run-well cs (B s (new_setting t)).state ((meets.meets B f).after-setting s t g).0.well wire

  pub demand_1 : Demand1 B
  demand_1 = record {
    not_well = not_well;
    refuses = kept.refuses;
    same = kept.left;
    hands_nothing = kept.hands_nothing;
    zeros = kept.zeros;
    stays = stays;
    never_2 = λ s t cs c g wire w e. two ((kept.refuses (since B s t cs) c 2 w).0 e) refl (stays s t cs g wire);
  }

pub beside : Beside
beside = record { settings = settings-records; lines = loss-records; reader = reader-numbers; session = sessions; lent = lends }
