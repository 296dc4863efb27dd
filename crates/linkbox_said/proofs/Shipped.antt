-- The statement of specs/Shipped.antt on the calls on a box. One law for all: what tells the outcome of our box tells the paper's.
-- Assumes nothing.
use Prim.Native.Nat.{ℕ}
use mathlib.Core.Path.{◌≡◌, refl, sym, ap, ap₂, subst, ◌∙◌}
use mathlib.Core.Bool.{Bool, true, false, cond}
use mathlib.Core.List.{List, []}
use mathlib.Core.Logic.{⊎_elim}
use lib.Dec.{eqb}
use borrow.Author.Tests.{eqb-true}
use Rattle.std.specs.Prelude.{Result}
use Rattle.base_laws.specs.Ended.{Ended, ended, told_by}
use Rattle.base_laws.proofs.Ended.{answer-is, state-is, buffer-is}
use Rattle.receive_answer.specs.Told.{frame_told}
use Rattle.base_laws.proofs.Tests.{known}
use Rattle.state_settings.specs.Settings.{Settings, settings_of}
use Rattle.state_view.specs.State.{State, shown}
use Rattle.state_view.specs.Arguments.{behind, writes_all}
use Rattle.state_view.specs.WellFormed.{well_formed}
use Rattle.receive_answer.specs.declared.FrameTold.{FrameTold}
use Rattle.receive_class.specs.declared.Side.{Side}
use Rattle.receive_class.specs.declared.Side.TheVariants as side
use Rattle.call_conditions.specs.declared.ConditionsTold.{ConditionsTold}
use Rattle.call_conditions.specs.Conditions.{no_conditions, conditions_of}
use Rattle.call_setting.specs.Start.{after_setting, answer_of, setting_numbers}
use Rattle.call_setting.proofs.Starts.{starts}
use Rattle.call_setting.specs.declared.SettingTold.{SettingTold}
use Rattle.call_setting.specs.Told as Setting
use Rattle.message_parts.specs.declared.parts.WrittenTold.{WrittenTold}
use Rattle.receive_frame.specs.Frame.{frame_of}
use Rattle.linkbox_frame.specs.Sides as C
use Rattle.call_setting.specs.declared.NewBox.{NewBox}
use Rattle.linkbox_state.specs.NewBox.{new_box}
use Rattle.paper_said.specs.Calls as call
use Rattle.paper_said.specs.Calls.{Call, Arrival, Answer, HandedOut, Outcome, OnWire}
use Rattle.paper_said.specs.Said.{Said}
use Rattle.paper_said.specs.Words.{side_of, taken_over, frame_answer, conditions_answer}
use Rattle.paper_said.specs.Ours.{ours}
use Rattle.paper_said.proofs.Follows.{ours-follows}
use Rattle.paper_said.specs.Told as Told
use Rattle.paper_said.specs.Told.{Numbers, counted, frame_as_numbers}
use Rattle.paper_said.proofs.Told.{told-alike}
use Rattle.paper_said.proofs.Tied.{from_arrays, taken-over}
use Rattle.linkbox_said.specs.Heard.{plain_says, frame_says, tick_says, send_says}
use Rattle.linkbox_said.specs.Lying.{state_in, side_by, arrival_in}
use Rattle.linkbox_said.specs.Shipped.{Tells, Shipped}
use Rattle.linkbox_said.proofs.Heard.{setting-says, clear-says, frame-says, tick-says, lmm-says, dmm-says}
use Rattle.receive_answer.specs.declared.FrameRefusal.{FrameRefusal}
use Rattle.receive_answer.specs.declared.FrameDone.{FrameDone}

-- what tells the outcome of our box tells the paper's
tied : {x : Answer} {n : Numbers} {z : State} {b : List ℕ} {h : HandedOut} (s : State) (c : Call) (o : Outcome) → OnWire c → Said s c o
    → Tells x n z b h (ours s c) → Tells x n z b h o
tied {x} {n} {z} {b} {h} s c o w q t = subst (Tells x n z b h) (ours-follows.box.follows s c o w q) t

-- ── a frame ──

side-is : (b : Bool) → side_of (cond b call.active call.passive) ≡ cond b side.Active side.Passive
side-is true = refl
side-is false = refl

module _ (s : State) (n : ℕ) (x : Arrival) (by : x.side ≡ side_by n) where
  abbrev from : Side → Ended State (Result FrameDone FrameRefusal)
  from d = frame_of s d x.octets x.receive x.transmit x.buffer

  frame-tells : (r : FrameTold) (z : State) (b : List ℕ) → ended r z b ≡ told_by frame_told (from (C.side_of n))
      → Tells (frame_says r) (frame_as_numbers r) z b call.nothing (ours s (call.frame x))
  frame-tells r z b e =
      let d : C.side_of n ≡ side_of x.side = sym (ap side_of by ∙ side-is (eqb n 0)) in
      record {
        answer = ap frame_says (answer-is e) ∙ frame-says _ ∙ ap (λ (y : Side). frame_answer (from y).answer) d;
        numbers = ap frame_as_numbers (answer-is e)
            ∙ told-alike.frame (from (C.side_of n)).answer
            ∙ ap (λ (y : Side). Told.answer_numbers (frame_answer (from y).answer)) d;
        state = state-is e ∙ ap (λ (y : Side). (from y).state) d;
        buffer = buffer-is e ∙ ap (λ (y : Side). (from y).buffer) d;
        out = refl;
      }

-- ── a new setting ──

module _ (words names ids : List ℕ) (before : State) (r : NewBox) (e : r ≡ new_box words names ids) where
  abbrev t : Settings
  t = settings_of words names ids

  told_is : r.refusal ≡ (setting_numbers t).refusal
  told_is = ap (λ (x : NewBox). x.refusal) e

  refusal_is : r.refusal ≡ (Setting.setting_told (answer_of t)).refusal
  refusal_is = told_is ∙ ap (λ (x : SettingTold). x.refusal) (sym (starts.agree t))

  out-is : shown r.state ≡ after_setting t
  out-is = ap (λ (x : NewBox). shown x.state) e ∙ starts.hands_out words names ids

  setting-tells : Tells (plain_says r.refusal) (counted r.refusal 0 0) (taken_over before r.refusal (shown r.state)) []
      (call.a_state (shown r.state)) (ours before (call.new_setting t))
  setting-tells = record {
    answer = ap plain_says refusal_is ∙ setting-says (answer_of t);
    numbers = ap (λ (n : ℕ). counted n 0 0) refusal_is ∙ told-alike.setting (answer_of t);
    state = ap₂ (λ (n : ℕ) (x : State). taken_over before n x) told_is out-is ∙ taken-over before t;
    buffer = refl;
    out = ap call.a_state out-is;
  }

-- ── conditions ──

refused-is : (t : ConditionsTold) → counted t.refusal 0 0 ≡ Told.answer_numbers (conditions_answer t)
refused-is t =
    ⊎_elim
    (λ (e : eqb t.refusal 0 ≡ true). rw e (ap (λ (n : ℕ). counted n 0 0) (eqb-true t.refusal 0 e)))
    (λ (e : eqb t.refusal 0 ≡ false). rw e refl)
    (known (eqb t.refusal 0))

bare : (s : State) (r : ConditionsTold) → r ≡ conditions_of s → (r.refusal ≡ 0 → ⊥) → r.conditions ≡ no_conditions
unfolding conditions_of
bare s r e n =
    ⊎_elim
    (λ (w : well_formed s ≡ true). absurd (n (ap (λ (x : ConditionsTold). x.refusal) e ∙ rw w refl)))
    (λ (w : well_formed s ≡ false). ap (λ (x : ConditionsTold). x.conditions) e ∙ rw w refl)
    (known (well_formed s))

-- ── all of them ──

pub shipped : Shipped
shipped = record {
  new_setting = λ κs a r s p w before o q.
      tied before _ o (from_arrays a.0.now a.1.0.now a.1.1.0.now p.1 w) q (setting-tells _ _ _ before r p.0);
  frame = λ κs a r s p w o q.
      let (is, (_, (receive, transmit))) = p in
      tied _ _ o (record { octets = w; receive = receive; transmit = transmit }) q
      (frame-tells (state_in writes_all a) (behind a).0 (arrival_in (behind a)) refl r _ _ is);
  tick = λ κs a r s p o q.
      let e = p.0 in
      tied _ _ o tt q (record {
        answer = ap tick_says (answer-is e) ∙ tick-says _ _;
        numbers = ap (λ (x : WrittenTold). counted x.refusal 0 x.length) (answer-is e) ∙ told-alike.tick _;
        state = state-is e;
        buffer = buffer-is e;
        out = refl;
      });
  clear = λ κs a r s p o q.
      let e = p.0 in
      tied _ _ o tt q (record {
        answer = ap plain_says (answer-is e) ∙ clear-says _;
        numbers = ap (λ (n : ℕ). counted n 0 0) (answer-is e) ∙ told-alike.clear _;
        state = state-is e;
        buffer = buffer-is e;
        out = refl;
      });
  send_lmm = λ κs a r s p o q.
      let e = p in
      tied _ _ o tt q (record {
        answer = ap send_says (answer-is e) ∙ lmm-says _;
        numbers = ap (λ (x : WrittenTold). counted x.refusal 0 x.length) (answer-is e) ∙ told-alike.lmm _;
        state = state-is e;
        buffer = buffer-is e;
        out = refl;
      });
  send_dmm = λ κs a r s p o q.
      let e = p.0 in
      tied _ _ o p.1 q (record {
        answer = ap send_says (answer-is e) ∙ dmm-says _;
        numbers = ap (λ (x : WrittenTold). counted x.refusal 0 x.length) (answer-is e) ∙ told-alike.dmm _;
        state = state-is e;
        buffer = buffer-is e;
        out = refl;
      });
  conditions = λ κs a r s p o q. (
    tied _ _ o tt q (record {
      answer = ap conditions_answer p;
      numbers = refused-is r ∙ ap (λ (x : ConditionsTold). Told.answer_numbers (conditions_answer x)) p;
      state = refl;
      buffer = refl;
      out = refl;
    }),
    bare _ r p,
  );
}
