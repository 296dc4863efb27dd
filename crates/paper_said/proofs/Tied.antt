-- What the contract of each function allows, as the check reads it off the source, is what the paper says of the call. Assumes nothing.
use Prim.Native.Nat.{ℕ}
use mathlib.Core.Path.{◌≡◌, refl, sym, ap, ap₂, ◌∙◌}
use mathlib.Core.Bool.{Bool, true, false, cond}
use mathlib.Core.List.{List, []}
use Rattle.std.specs.Prelude.{Result}
use Rattle.std.specs.Borrow.{Bor, MutBor}
use Rattle.base_octets.specs.Octets.{Octets}
use Rattle.base_octets.proofs.Octets.{part-octets}
use Rattle.state_settings.specs.Settings.{slots, Settings, settings_of, Shaped, address_octets, meg_octets, own_from, losspeer_from, meg_from}
use Rattle.state_settings.specs.Valid.{valid}
use Rattle.base_stamp.specs.declared.Stamp.{Stamp}
use Rattle.state_view.specs.State.{State, shown, state_lent}
use Rattle.state_view.specs.Arguments.{writes_session, writes_tick, writes_all, fifth}
use Rattle.state_view.specs.Arguments.{held_lent, left_tick_lent, left_session_lent, left_frame_lent}
use Rattle.receive_class.specs.declared.Side.{Side}
use Rattle.receive_class.specs.declared.Side.TheVariants as side
use Rattle.call_setting.specs.declared.SettingRefusal.{SettingRefusal}
use Rattle.call_setting.specs.declared.SettingTold.{SettingTold}
use Rattle.call_setting.specs.Told.{setting_told}
use Rattle.call_setting.specs.declared.Started.{Started}
use Rattle.call_setting.specs.Start.{start_of, zero_state, after_setting, answer_of, setting_numbers}
use Rattle.call_setting.proofs.Starts.{starts}
use Rattle.call_setting.proofs.new_setting.Reads as new_setting
use Rattle.receive_frame.specs.Frame.{frame_of}
use Rattle.receive_frame.proofs.on_frame.Reads as on_frame
use Rattle.call_tick.proofs.tick.Reads as tick
use Rattle.call_clear.proofs.clear.Reads as clear
use Rattle.call_send_lmm.proofs.send_lmm.Reads as send_lmm
use Rattle.call_send_dmm.proofs.send_dmm.Reads as send_dmm
use Rattle.call_conditions.specs.declared.ConditionsTold.{ConditionsTold}
use Rattle.call_conditions.proofs.conditions.Reads as conditions
use Rattle.paper_said.specs.Calls as call
use Rattle.paper_said.specs.Calls.{Arrival, Outcome, leaves, hands_out, FromArrays}
use Rattle.paper_said.specs.Said.{Said}
use Rattle.paper_said.specs.Words.{side_of, setting_answer, taken_over, frame_answer, clear_answer, tick_answer, lmm_answer, dmm_answer}
use Rattle.paper_said.specs.Words.{conditions_answer}
use Rattle.paper_said.specs.Ours.{in_words}
use Rattle.paper_said.proofs.Follows.{ours-follows}

-- the side of a call, from the function's
abbrev pub side_in : Side → call.ArrivalSide
side_in side.Active = call.active
side_in side.Passive = call.passive

side-back : (d : Side) → side_of (side_in d) ≡ d
side-back side.Active = refl
side-back side.Passive = refl

-- a frame as it is handed over behind settings and arrays: its side, its octets, two stamps, the buffer
abbrev Framed : Type 0 → Type 0
Framed X = Side × (Bor (List ℕ) × (Stamp × (Stamp × (MutBor (List ℕ) × X))))

abbrev arrival : {X : Type 0} → Framed X → Arrival
arrival b =
    let (d, (octets, (receive, (transmit, (buffer, _))))) = b in
    record { side = side_in d; octets = octets.now; receive = receive; transmit = transmit; buffer = buffer.now }

-- what our box does with it, from whichever side
abbrev on_side : State → Arrival → Side → Outcome
on_side s x d = in_words frame_answer (frame_of s d x.octets x.receive x.transmit x.buffer)

-- what is handed over behind settings and four arrays
abbrev behind_four : {A B C D E X : Type 0} → A × (B × (C × (D × (E × X)))) → X
behind_four a = let (_, (_, (_, (_, (_, x))))) = a in x

pub on-frame-follows : (κs : _) (a : _) (r : _) (s : _) → on_frame.Post κs a r s → (o : Outcome)
    → Octets (arrival (behind_four a)).octets → Said (shown (held_lent writes_all a)) (call.frame (arrival (behind_four a))) o
    → leaves (frame_answer r) (shown (left_frame_lent a s)) (fifth (behind_four s)).now ≡ o
on-frame-follows κs a r s p o w q =
    let (is, (_, (_, (receive, transmit)))) = p in
    ap (in_words frame_answer) is
    ∙ ap (on_side (shown (held_lent writes_all a)) (arrival (behind_four a))) (sym (side-back (behind_four a).0))
    ∙ ours-follows.box.follows _ _ o (record { octets = w; receive = receive; transmit = transmit }) q

pub tick-follows : (κs : _) (a : _) (r : _) (s : _) → tick.Post κs a r s → (o : Outcome)
    → Said (shown (held_lent writes_tick a)) (call.tick a.1.1.1.1.1.0.now) o
    → leaves (tick_answer r) (shown (left_tick_lent a s)) s.1.1.1.1.1.0.now ≡ o
tick-follows κs a r s p o q = ap (in_words tick_answer) p.0.0 ∙ ours-follows.box.follows _ _ o tt q

pub clear-follows : (κs : _) (a : _) (r : _) (s : _) → clear.Post κs a r s → (o : Outcome)
    → Said (shown (held_lent writes_session a)) call.clear o → leaves (clear_answer r) (shown (left_session_lent a s)) [] ≡ o
clear-follows κs a r s p o q = ap (in_words clear_answer) p.0.0 ∙ ours-follows.box.follows _ _ o tt q

pub send_lmm-follows : (κs : _) (a : _) (r : _) (s : _) → send_lmm.Post κs a r s → (o : Outcome)
    → Said (state_lent a.0) (call.send_LMM a.1.0.now) o → leaves (lmm_answer r) (state_lent a.0) s.1.0.now ≡ o
send_lmm-follows κs a r s p o q = ap (in_words lmm_answer) p.0 ∙ ours-follows.box.follows _ _ o tt q

pub send_dmm-follows : (κs : _) (a : _) (r : _) (s : _) → send_dmm.Post κs a r s → (o : Outcome)
    → Said (state_lent a.0) (call.send_DMM a.1.0 a.1.1.0.now) o → leaves (dmm_answer r) (state_lent a.0) s.1.1.0.now ≡ o
send_dmm-follows κs a r s p o q = ap (in_words dmm_answer) p.0.0 ∙ ours-follows.box.follows _ _ o p.1 q

pub conditions-follows : (κs : _) (a : _) (r : _) (s : _) → conditions.Post κs a r s → (o : Outcome)
    → Said (state_lent a.0) call.conditions o → leaves (conditions_answer r) (state_lent a.0) [] ≡ o
conditions-follows κs a r s p o q =
    ap (λ (t : ConditionsTold). leaves (conditions_answer t) (state_lent a.0) []) p ∙ ours-follows.box.follows _ _ o tt q

-- settings that lie in arrays have their lengths, and their octets are the names'
pub from_arrays : (words names ids : List ℕ) → Shaped slots (settings_of words names ids) → Octets names
    → FromArrays (settings_of words names ids)
from_arrays words names ids h w = record {
  shape = h;
  own = part-octets own_from address_octets names w;
  losspeer = part-octets losspeer_from address_octets names w;
  meg = part-octets meg_from meg_octets names w;
}

-- what our box leaves of a new setting is what a caller holds who takes over what is handed out
pub taken-over : (before : State) (t : Settings)
    → taken_over before (setting_numbers t).refusal (after_setting t) ≡ cond (valid t) (start_of t) before
taken-over before t = by (valid t)
  where
    by : (b : Bool)
        → taken_over before (cond {A = SettingTold} b (record { refusal = 0 }) (record { refusal = 4 })).refusal
        (cond b (start_of t) zero_state)
        ≡ cond b (start_of t) before
    by true = refl
    by false = refl

-- a new setting takes no old state: whatever state is asked of
pub new_setting-follows : (κs : _) (a : _) (r : _) (s : _) → new_setting.Post κs a r s → Octets a.1.0.now
    → (before : State) (o : Outcome)
    → Said before (call.new_setting (settings_of a.0.now a.1.0.now a.1.1.0.now)) o
    → hands_out (setting_answer r.answer) (taken_over before (setting_told r.answer).refusal (shown r.state)) (shown r.state) ≡ o
new_setting-follows κs a r s p w before o q =
    let (set, (names, (ids, _))) = a in
    let t = settings_of set.now names.now ids.now in
    let answer = ap (λ (x : Started). x.answer) p.0 ∙ starts.answers _ _ _ in
    let number = ap (λ (x : SettingTold). x.refusal) p.1.0 in
    let out = ap (λ (x : Started). shown x.state) p.0 ∙ starts.hands_out _ _ _ in
    ap₂ (λ (x : Result Unit SettingRefusal) (y : State). hands_out (setting_answer x) (taken_over before (setting_told r.answer).refusal y) y) answer
    out
    ∙ ap (λ (n : ℕ). hands_out (setting_answer (answer_of t)) (taken_over before n (after_setting t)) (after_setting t)) number
    ∙ ap (λ (x : State). hands_out (setting_answer (answer_of t)) x (after_setting t)) (taken-over before t)
    ∙ ours-follows.box.follows before _ o (from_arrays set.now names.now ids.now p.1.1 w) q
