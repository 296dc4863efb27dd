-- What a tick leaves: the statement of specs/Tick.antt. Assumes nothing.
use Prim.Native.Nat.{ℕ, ◌≤◌}
use mathlib.Core.Path.{◌≡◌, refl, sym, ap, ◌∙◌, subst}
use mathlib.Core.List.{List}
use lib.ListN.{length}
use Rattle.std.specs.Prelude.{Result, Ok, Err, Option, Some, None}
use Rattle.base_laws.specs.Ended.{Ended}
use Rattle.base_laws.proofs.Ended.{answer-is, buffer-is, state-is}
use Rattle.base_laws.proofs.Tests.{fails}
use Rattle.state_view.specs.State.{State}
use Rattle.state_view.specs.WellFormed.{WellFormed}
use Rattle.state_view.proofs.Rules.{well_formed_is}
use Rattle.message_ccm.specs.Continuity.{ccm_length}
use Rattle.call_send_answer.specs.declared.SendRefusal.{SendRefusal}
use Rattle.call_send_answer.specs.declared.SendRefusal.TheVariants.{NotWellFormed, NoRoom}
use Rattle.call_tick.specs.Tick.{ticked_of, tick_of, Ticks}
use Rattle.call_send_answer.specs.Told.{tick_told}
use Rattle.call_tick.proofs.Ended.{agree, at_2, at-quiet, at_3, at-sent}
use Rattle.call_tick.proofs.TickedWell.{ticked_well}
use Rattle.call_tick.proofs.TickCases.{Case, bad, goes_on, short, sends, most, not_both, not_zero, cases, numbered, is_2, is_3}
use Rattle.call_tick.proofs.TickCases.{is-quiet, is_sent, writes}

module _ (s : State) (buffer : List ℕ) where
  abbrev o : Ended State (Result (Option ℕ) SendRefusal)
  o = tick_of s buffer

  stays : Case s buffer → WellFormed s → WellFormed o.state
  stays (bad n e) w = absurd (n w)
  stays (goes_on v h e) w = rw e (ticked_well s w)
  stays (short v h k e) w = rw e w
  stays (sends v h k e) w = rw e (ticked_well s w)

  -- the refusal, by an equation for the whole outcome
  refusal-of : {x : Ended State (Result (Option ℕ) SendRefusal)} → o ≡ x → (tick_told o.answer).refusal ≡ (tick_told x.answer).refusal
  refusal-of e = ap (λ (t : Ended State (Result (Option ℕ) SendRefusal)). (tick_told t.answer).refusal) e

  refused : Case s buffer → ((tick_told o.answer).refusal ≡ 0 → ⊥) → (o.state ≡ s) × (o.buffer ≡ buffer)
  unfolding tick_told
  refused (bad n e) r = (state-is e, buffer-is e)
  refused (goes_on v h e) r = absurd (r (refusal-of e))
  refused (short v h k e) r = (state-is e, buffer-is e)
  refused (sends v h k e) r = absurd (r (refusal-of e))

  enough : Case s buffer → WellFormed s → 89 ≤ length buffer → (tick_told o.answer).refusal ≡ 0
  unfolding tick_told
  enough (bad n e) w l = absurd (n w)
  enough (goes_on v h e) w l = refusal-of e
  enough (short v h k e) w l = absurd (not_both k l)
  enough (sends v h k e) w l = refusal-of e

  passes : Case s buffer → (tick_told o.answer).refusal ≡ 0 → o.state ≡ ticked_of s
  unfolding tick_told
  passes (bad n e) r = absurd (not_zero (refusal-of e) r)
  passes (goes_on v h e) r = state-is e
  passes (short v h k e) r = absurd (not_zero (refusal-of e) r)
  passes (sends v h k e) r = state-is e

  writes_none : Case s buffer → (o.answer ≡ Ok (Some ccm_length) → ⊥) → o.buffer ≡ buffer
  writes_none (bad n e) a = buffer-is e
  writes_none (goes_on v h e) a = buffer-is e
  writes_none (short v h k e) a = buffer-is e
  writes_none (sends v h k e) a = absurd (a (answer-is e))

  -- a part that neither lowering nor the next CCM touches
  untouched : {A : Type 0} (part : State → A) → part (ticked_of s) ≡ part s → Case s buffer → part o.state ≡ part s
  untouched part h (bad n e) = ap (λ (t : Ended State (Result (Option ℕ) SendRefusal)). part t.state) e
  untouched part h (goes_on v i e) = ap (λ (t : Ended State (Result (Option ℕ) SendRefusal)). part t.state) e ∙ h
  untouched part h (short v i k e) = ap (λ (t : Ended State (Result (Option ℕ) SendRefusal)). part t.state) e
  untouched part h (sends v i k e) = ap (λ (t : Ended State (Result (Option ℕ) SendRefusal)). part t.state) e ∙ h

-- a tick has four answers and no other, so what holds of the four holds of each
module _ (P : Result (Option ℕ) SendRefusal → Type 0) (p2 : P (Err NotWellFormed)) (quiet : P (Ok None)) (p3 : P (Err NoRoom)) (sent : P (Ok (Some ccm_length))) (s : State)
    (buffer : List ℕ) where
  holds : Case s buffer → P (tick_of s buffer).answer
  holds (bad n e) = subst P (sym (answer-is e)) p2
  holds (goes_on v h e) = subst P (sym (answer-is e)) quiet
  holds (short v h k e) = subst P (sym (answer-is e)) p3
  holds (sends v h k e) = subst P (sym (answer-is e)) sent

  pub of_four : P (tick_of s buffer).answer
  of_four = holds (cases s buffer)

pub ticks : Ticks
unfolding numbered
ticks = record {
  stays = λ s b. stays s b (cases s b);
  refuses_2 = λ s b. (λ a. is_2 s b (cases s b) (ap numbered a), λ n. answer-is (at_2 s b (fails (well_formed_is.well_formed_is s) n)));
  refuses_3 = λ s b. (
    λ a. is_3 s b (cases s b) (ap numbered a),
    λ h. answer-is (at_3 s b ((well_formed_is.well_formed_is s).1 h.0) (most h.1) h.2),
  );
  quiet = λ s b. (
    λ a. is-quiet s b (cases s b) (ap numbered a),
    λ h. answer-is (at-quiet s b ((well_formed_is.well_formed_is s).1 h.0) h.1),
  );
  sends = λ s b. (
    λ a. is_sent s b (cases s b) (ap numbered a),
    λ h. answer-is (at-sent s b ((well_formed_is.well_formed_is s).1 h.0) (most h.1) h.2),
  );
  refused = λ s b. refused s b (cases s b);
  enough = λ s b. enough s b (cases s b);
  passes = λ s b. passes s b (cases s b);
  writes = λ s b a. writes s b (cases s b) (ap numbered a);
  writes_none = λ s b. writes_none s b (cases s b);
  settings_stay = λ s b. untouched s b (λ (x : State). x.settings) refl (cases s b);
  rdi_stays = λ s b. untouched s b (λ (x : State). x.rdi) refl (cases s b);
  sent_stays = λ s b. untouched s b (λ (x : State). x.sent) refl (cases s b);
  received_stays = λ s b. untouched s b (λ (x : State). x.received) refl (cases s b);
  session_stays = λ s b. untouched s b (λ (x : State). x.session) refl (cases s b);
  agree = agree;
}
