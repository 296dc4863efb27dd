-- Along every run since a setting a state lies in memory, whatever settings are typed in between. Assumes nothing.
use mathlib.Core.Path.{◌≡◌, refl, sym, ap, ◌∙◌}
use mathlib.Core.Bool.{true, false, true≢false}
use mathlib.Core.List.{List, [], ◌∷◌}
use mathlib.Core.Logic.{⊎_elim}
use native.Mathlib.Nat.{mod-eq_of_lt}
use native.Mathlib.Omega.{arith}
use Rattle.base_laws.proofs.Tests.{known}
use Rattle.base_clock.specs.Run.{after}
use Rattle.state_settings.specs.Settings.{Settings}
use Rattle.state_settings.specs.Valid.{valid}
use Rattle.state_settings.proofs.Rules.{valid_is}
use Rattle.state_view.specs.State.{State}
use Rattle.state_view.specs.WellFormed.{WellFormed}
use Rattle.paper_said.specs.Calls.{Call, new_setting, frame, tick, clear, send_LMM, send_DMM, conditions, Outcome, OnWire, NoSetting, Box}
use Rattle.paper_said.specs.Started.{Settable}
use Rattle.paper_said.specs.Ours.{Follows}
use Rattle.paper_said.proofs.Other.{is_setting, other}
use Rattle.paper_promised.proofs.Promised.{promises}
use Rattle.paper_loss.specs.Runs.{run, Each}
use Rattle.paper_loss.proofs.Meets.{meets}
use Rattle.paper_loss.proofs.Whole.{whole}
use Rattle.paper_time.specs.Runs.{since}
use Rattle.paper_order.specs.Demand2.{InMemory}

module _ (B : Box) (f : Follows B) where
  -- a call that is no setting leaves the settings, and keeps both counts modulo 2^32
  other_in_memory : (s : State) (c : Call) → WellFormed s → OnWire c → NoSetting c → InMemory s → InMemory (B s c).state
  unfolding Each after
  other_in_memory s c w wire none m =
      let d = meets.meets B f in
      let es = whole.all s (c ∷ []) (wire, tt) (none, tt) in
      let n = d.counts s.received s.sent s (c ∷ []) es.0 (sym (mod-eq_of_lt m.received)) (sym (mod-eq_of_lt m.sent))
      (wire, tt) (none, tt) es.1 in
      record {
        settings = rw (d.keeps s (c ∷ []) w (wire, tt) (none, tt)).1 m.settings;
        sent = rw n.1 (omega arith);
        received = rw n.0 (omega arith);
      }

  -- a setting that is taken brings its own, with both counts 0; one that is refused leaves all
  setting_in_memory : (s : State) (t : Settings) → OnWire (new_setting t) → InMemory s → InMemory (B s (new_setting t)).state
  setting_in_memory s t wire m =
      ⊎_elim
      (λ (v : valid t ≡ true).
      let b = (meets.meets B f).after-setting s t (record { handed = wire; valid = (valid_is.valid_is t).0 v }) in
      record { settings = rw b.0.settings wire.shape; sent = rw b.2 (omega arith); received = rw b.1 (omega arith) })
      (λ (v : valid t ≡ false).
      let z = (promises.kept B f).zeros s t wire (λ k. true≢false (sym ((valid_is.valid_is t).1 k) ∙ v)) in
      rw (ap (λ (o : Outcome). o.state) z.2) m)
      (known (valid t))

  call_in_memory : (s : State) (c : Call) → WellFormed s → OnWire c → InMemory s → InMemory (B s c).state
  unfolding is_setting
  call_in_memory s (new_setting t) w wire m = setting_in_memory s t wire m
  call_in_memory s (frame a) w wire m = other_in_memory s (frame a) w wire (other (frame a) refl) m
  call_in_memory s (tick b) w wire m = other_in_memory s (tick b) w wire (other (tick b) refl) m
  call_in_memory s clear w wire m = other_in_memory s clear w wire (other clear refl) m
  call_in_memory s (send_LMM b) w wire m = other_in_memory s (send_LMM b) w wire (other (send_LMM b) refl) m
  call_in_memory s (send_DMM t b) w wire m = other_in_memory s (send_DMM t b) w wire (other (send_DMM t b) refl) m
  call_in_memory s conditions w wire m = other_in_memory s conditions w wire (other conditions refl) m

  run_in_memory : (cs : List Call) (s : State) → WellFormed s → Each OnWire cs → InMemory s → InMemory (run B s cs)
  unfolding after Each
  run_in_memory [] s w wire m = m
  run_in_memory (c ∷ cs) s w wire m =
      run_in_memory cs (B s c).state ((promises.kept B f).stays s c wire.0 w) wire.1 (call_in_memory s c w wire.0 m)

  pub in_memory : (s : State) (t : Settings) (cs : List Call) → Settable t → Each OnWire cs → InMemory (since B s t cs)
  in_memory s t cs g wire =
      let b = (meets.meets B f).after-setting s t g in
      run_in_memory cs (B s (new_setting t)).state b.0.well wire
      (record { settings = rw b.0.settings g.handed.shape; sent = rw b.2 (omega arith); received = rw b.1 (omega arith) })
