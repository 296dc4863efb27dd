-- When one more reading is refused, and the statement of specs/Reading.antt. Assumes nothing.
use Prim.Native.Nat.{ℕ}
use mathlib.Core.Path.{◌≡◌, sym, ap, ◌∙◌}
use mathlib.Core.Logic.{◌↔◌}
use native.Mathlib.Omega.{arith}
use Rattle.std.specs.Prelude.{Result, Ok, Err, Option, Some, None}
use Rattle.loss_reading.specs.Losses.{losses_of}
use Rattle.loss_session.specs.declared.Readings.{Readings}
use Rattle.loss_session.specs.declared.LossSession.{LossSession}
use Rattle.loss_session.specs.Session.{WellFormed, most_intervals}
use Rattle.loss_session.proofs.Laws.{well, cleared_well}
use Rattle.loss_reading.specs.declared.LossRefusal.{LossRefusal}
use Rattle.loss_reading.specs.declared.Losses.{Losses}
use Rattle.loss_reading.specs.declared.LossRefusal.TheVariants.{NotWellFormed, Full}
use Rattle.loss_reading.specs.declared.Updated.{Updated}
use Rattle.loss_reading.specs.Reading.{unchanged, after_reading, Sessions}
use Rattle.loss_reading.proofs.Laws.{Case, bad, begins, stops, measures, cases, stays}

-- the refusal of an answer, and 1 for each answer that is none
numbered : Result (Option Losses) LossRefusal → ℕ
numbered (Err NotWellFormed) = 2
numbered (Err Full) = 5
numbered (Ok None) = 1
numbered (Ok (Some l)) = 1

module _ (s : LossSession) (r : Readings) where
  is_2 : Case s r → (after_reading s r).answer ≡ Err NotWellFormed → WellFormed s → ⊥
  unfolding numbered
  is_2 (bad n e) a w = n w
  is_2 (begins v k e) a w = let z : ◌≡◌ {A = ℕ} 1 2 = ap (λ (u : Updated). numbered u.answer) (sym e) ∙ ap numbered a in omega arith
  is_2 (stops v k i e) a w = let z : ◌≡◌ {A = ℕ} 5 2 = ap (λ (u : Updated). numbered u.answer) (sym e) ∙ ap numbered a in omega arith
  is_2 (measures v k i e) a w = let z : ◌≡◌ {A = ℕ} 1 2 = ap (λ (u : Updated). numbered u.answer) (sym e) ∙ ap numbered a in omega arith

  from_2 : Case s r → (WellFormed s → ⊥) → after_reading s r ≡ unchanged (Err NotWellFormed) s
  from_2 (bad n e) w = e
  from_2 (begins v k e) w = absurd (w v)
  from_2 (stops v k i e) w = absurd (w v)
  from_2 (measures v k i e) w = absurd (w v)

  is_5 : Case s r → (after_reading s r).answer ≡ Err Full → WellFormed s × (s.kept ≡ 1) × (s.intervals ≡ most_intervals)
  unfolding numbered
  is_5 (bad n e) a = absurd (let z : ◌≡◌ {A = ℕ} 2 5 = ap (λ (u : Updated). numbered u.answer) (sym e) ∙ ap numbered a in omega arith)
  is_5 (begins v k e) a =
      absurd (let z : ◌≡◌ {A = ℕ} 1 5 = ap (λ (u : Updated). numbered u.answer) (sym e) ∙ ap numbered a in omega arith)
  is_5 (stops v k i e) a = (v, k, i)
  is_5 (measures v k i e) a =
      absurd (let z : ◌≡◌ {A = ℕ} 1 5 = ap (λ (u : Updated). numbered u.answer) (sym e) ∙ ap numbered a in omega arith)

  from_5 : Case s r → WellFormed s → s.kept ≡ 1 → s.intervals ≡ most_intervals → after_reading s r ≡ unchanged (Err Full) s
  from_5 (bad n e) w k i = absurd (n w)
  from_5 (begins v z e) w k i = absurd (omega arith)
  from_5 (stops v z j e) w k i = e
  from_5 (measures v z j e) w k i = absurd (omega arith)

  pub refuses_2 : ((after_reading s r).answer ≡ Err NotWellFormed) ↔ (WellFormed s → ⊥)
  refuses_2 = (is_2 (cases s r), λ n. ap (λ (u : Updated). u.answer) (from_2 (cases s r) n))

  pub refused_2 : (WellFormed s → ⊥) → (after_reading s r).session ≡ s
  refused_2 n = ap (λ (u : Updated). u.session) (from_2 (cases s r) n)

  pub refuses_5 : ((after_reading s r).answer ≡ Err Full) ↔ (WellFormed s × (s.kept ≡ 1) × (s.intervals ≡ most_intervals))
  refuses_5 = (is_5 (cases s r), λ h. ap (λ (u : Updated). u.answer) (from_5 (cases s r) h.0 h.1 h.2))

  pub refused_5 : (after_reading s r).answer ≡ Err Full → (after_reading s r).session ≡ s
  refused_5 a = let h = refuses_5.0 a in ap (λ (u : Updated). u.session) (from_5 (cases s r) h.0 h.1 h.2)

pub sessions : Sessions
sessions = record {
  well = well;
  cleared_well = cleared_well;
  stays = stays;
  refuses_2 = refuses_2;
  refuses_5 = refuses_5;
  refused_2 = refused_2;
  refused_5 = refused_5;
}
