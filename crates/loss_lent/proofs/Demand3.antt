-- The statement of specs/Demand3.antt: a lent run is a run of the rule, which meets demand 3. Assumes nothing.
use Prim.Native.Nat.{◌≤◌}
use mathlib.Core.Path.{◌≡◌, refl, sym, ap, ◌∙◌, subst}
use mathlib.Core.List.{List, map}
use native.Mathlib.Omega.{arith}
use lib.ListN.{length, length-map}
use Rattle.loss_session.specs.declared.Readings.{Readings}
use Rattle.loss_session.specs.declared.LossSession.{LossSession}
use Rattle.loss_session.specs.Session.{total_of, cleared_session, most_readings}
use Rattle.loss_reading.specs.declared.LossTold.{LossTold}
use Rattle.loss_reading.specs.declared.Updated.{Updated}
use Rattle.loss_reading.specs.Reading.{after_reading}
use Rattle.loss_reading.specs.Told.{loss_told, refused}
use Rattle.loss_reading.proofs.Numbers.{told-numbers}
use Rattle.loss_account.specs.Demand3.{leaves, Counts, shown, Steady, Small}
use Rattle.loss_account.proofs.Meets.{meets}
use Rattle.loss_account.proofs.Both as both
use Rattle.loss_account.proofs.Tight.{shown-by-all}
use Rattle.loss_lent.specs.Lent.{reading_of, Lent, Lending, LentRun}
use Rattle.loss_lent.specs.Demand3.{LentAgrees, LentDemand3, LentAlike, LentMeets}
use Rattle.loss_lent.proofs.Lends.{runs}

agrees : (ts : List Counts) (said : List LossTold) (e : LossSession) → length ts ≤ most_readings → Steady ts
    → LentRun Lent cleared_session (map shown ts) said e → LentAgrees ts said e
agrees ts said e few steady run =
    let r = runs run in
    let b = both.ours ts few steady in
    record {
      results = r.0 ∙ ap (map loss_told) b.results;
      totals = λ d. ap (total_of d) r.1 ∙ b.totals d;
      intervals = ap (λ (s : LossSession). s.intervals) r.1 ∙ b.intervals;
    }

later : (rs : List Readings) (said : List LossTold) (s : LossSession) (r : Readings) (t : LossTold) (e : LossSession)
    → most_readings ≤ length rs → LentRun Lent cleared_session rs said s → Lent s r t e → (t ≡ refused 5) × (e ≡ s)
unfolding loss_told
later rs said s r t e many run p =
    let here : s ≡ leaves after_reading cleared_session rs = (runs run).1 in
    let full = ap (λ (x : LossSession). after_reading x r) here ∙ meets.later rs r many in (
      p.0 ∙ sym (told-numbers s r) ∙ ap (λ (u : Updated). loss_told u.answer) full,
      p.1 ∙ ap (λ (u : Updated). u.session) full
          ∙ sym here,
    )

ours : LentDemand3 Lent
ours = record {
  answered = λ s r. ((reading_of s r).told, (reading_of s r).session, (refl, refl));
  agrees = agrees;
  later = later;
}

-- any readings of 32 bits are those of some true counts, and the account of these is what each was told
tight : (L M : Lending) → LentDemand3 L → LentDemand3 M → (rs : List Readings) (said said' : List LossTold) (e e' : LossSession)
    → length rs ≤ most_readings → Small rs → LentRun L cleared_session rs said e → LentRun M cleared_session rs said' e'
    → LentAlike said said' e e'
tight L M l m rs said said' e e' few small p q =
    let behind = shown-by-all rs small in
    let ts = behind.0 in
    let count : length ts ≤ most_readings = omega (arith, few, sym (length-map ts shown) ∙ ap length behind.1) in
    let are = sym behind.1 in
    let a = l.agrees ts said e count behind.2 (subst (λ (x : List Readings). LentRun L cleared_session x said e) are p) in
    let b = m.agrees ts said' e' count behind.2 (subst (λ (x : List Readings). LentRun M cleared_session x said' e') are q) in
    record {
      results = a.results ∙ sym b.results;
      totals = λ d. a.totals d ∙ sym (b.totals d);
      intervals = a.intervals ∙ sym b.intervals;
    }

pub lent-meets : LentMeets
lent-meets = record { ours = ours; tight = tight }
