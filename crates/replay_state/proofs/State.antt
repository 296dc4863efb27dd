-- The statement of specs/State.antt, and the pieces of a state laid behind one another. Assumes nothing.
use Prim.Native.Nat.{ℕ, ◌+◌, ◌*◌, ◌≤◌}
use mathlib.Core.Path.{◌≡◌, refl, ap, ◌∙◌}
use mathlib.Core.List.{List, [], ◌∷◌, ◌++◌, append-nil}
use native.Mathlib.Nat.{add-zero}
use native.Mathlib.Omega.{arith}
use lib.ListN.{length, drop, length-append, length-drop}
use lib.Seq.{get_or-drop}
use Rattle.base_laws.specs.Lists.{part, laid}
use Rattle.base_laws.proofs.Parts.{part-append, part-next, part-whole, part-drop, length_part}
use Rattle.base_laws.proofs.Apart.{laid-whole}
use Rattle.base_laws.proofs.Pieces.{first, more}
use Rattle.base_octets.specs.Octets.{Octets}
use Rattle.base_numbers.specs.Numbers.{little_endian}
use Rattle.base_octets.proofs.Octets.{part-octets}
use Rattle.base_numbers.proofs.Laws.{read_again}
use Rattle.state_settings.specs.Settings.{slots, Shaped}
use Rattle.state_view.specs.State.{State, shown}
use Rattle.stored_settings_body.specs.Body.{settings_body, settings_in}
use Rattle.stored_settings_body.proofs.Bodies.{long, again, shaped}
use Rattle.stored_settings_body.proofs.Lying.{lying}
use Rattle.replay_session.specs.Session.{field, field_at, session_octets, session_at}
use Rattle.replay_session.proofs.Session as session
use Rattle.replay_state.specs.Words.{words_octets, words_in}
use Rattle.replay_state.specs.State.{running_octets, state_octets, state_at, arrays_of, StatesInOctets}
use Rattle.replay_state.proofs.Words.{words_long, words-again}

-- ── how long ──

-- what stands between settings and session
running_long : (counts timers rdi others : List ℕ) → length counts ≡ 2 → length timers ≡ slots → length rdi ≡ slots → length others ≡ 7
    → length (running_octets counts timers rdi others) ≡ 76
unfolding running_octets
running_long counts timers rdi others c t r o = simp (length-append, words_long, c, t, r, o)

pub state-long : (s : State) → Shaped slots s.settings → length s.timers ≡ slots → length s.rdi ≡ slots
    → length (state_octets s) ≡ 194
unfolding state_octets
state-long s w t r =
    let counts = s.sent ∷ s.received ∷ [] in
    let others = s.mismerge ∷ s.unexpected_mep ∷ s.unexpected_period ∷ s.unexpected_level ∷ s.ais ∷ s.lck ∷ s.next ∷ [] in
    rw (
      length-append (settings_body s.settings ++ running_octets counts s.timers s.rdi others),
      length-append (settings_body s.settings),
      long slots s.settings w,
      running_long counts s.timers s.rdi others refl t r refl,
      session.session-long s.session,
    )

-- ── the pieces laid ──

pub running_laid : (counts timers rdi others l : List ℕ) {b c d r : List ℕ} → length counts ≡ 2 → length timers ≡ slots → length rdi ≡ slots
    → length others ≡ 7
    → 157 ≤ length l
    → b ≡ laid 81 (words_octets 4 counts) l
    → c ≡ laid 89 (words_octets 4 timers) b
    → d ≡ laid 121 (words_octets 1 rdi) c
    → r ≡ laid 129 (words_octets 4 others) d
    → r ≡ laid 81 (running_octets counts timers rdi others) l
unfolding running_octets
running_laid counts timers rdi others l n t i o h e1 e2 e3 e4 =
    let p1 = first 81 8 (words_octets 4 counts) l e1 (words_long 4 counts ∙ ap (λ (k : ℕ). 4 * k) n) in
    let p2 = more 32 (words_octets 4 timers) p1 e2 (words_long 4 timers ∙ ap (λ (k : ℕ). 4 * k) t) (omega arith) in
    let p3 = more 8 (words_octets 1 rdi) p2 e3 (words_long 1 rdi ∙ ap (λ (k : ℕ). 1 * k) i) (omega arith) in
    (more 28 (words_octets 4 others) p3 e4 (words_long 4 others ∙ ap (λ (k : ℕ). 4 * k) o) (omega arith)).is

pub state-laid : (s : State) (l : List ℕ) {a e r : List ℕ} → Shaped slots s.settings → length s.timers ≡ slots
    → length s.rdi ≡ slots → length l ≡ 194
    → a ≡ laid 0 (settings_body s.settings) l
    → e ≡ laid 81 (running_octets (s.sent ∷ s.received ∷ []) s.timers s.rdi
    (s.mismerge ∷ s.unexpected_mep ∷ s.unexpected_period ∷ s.unexpected_level ∷ s.ais ∷ s.lck ∷ s.next ∷ [])) a
    → r ≡ laid 157 (session_octets s.session) e
    → r ≡ state_octets s
unfolding state_octets
state-laid s l w t i h e1 e2 e3 =
    let counts = s.sent ∷ s.received ∷ [] in
    let others = s.mismerge ∷ s.unexpected_mep ∷ s.unexpected_period ∷ s.unexpected_level ∷ s.ais ∷ s.lck ∷ s.next ∷ [] in
    let p1 = first 0 81 (settings_body s.settings) l e1 (long slots s.settings w) in
    let p2 = more 76 (running_octets counts s.timers s.rdi others) p1 e2
    (running_long counts s.timers s.rdi others refl t i refl) (omega arith) in
    let p3 = more 37 (session_octets s.session) p2 e3 (session.session-long s.session) (omega arith) in
    p3.is ∙ laid-whole l (state_octets s) 194 h p3.long

-- ── what is put is shown ──

module _ (octets : List ℕ) where
  pub lies : 194 ≤ length octets → shown (arrays_of (state_at octets)) ≡ state_at octets
  lies h =
      let w : Shaped slots (settings_in slots (part 0 81 octets)) =
      shaped slots (part 0 81 octets) (rw (length_part 0 81 octets (omega arith)) (omega arith)) in
      rw (lying.back slots (settings_in slots (part 0 81 octets)) w)

  module _ (l : length octets ≡ 194) (h : Octets octets) where
    field-again : (at : ℕ) → at + 4 ≤ 194 → field 4 (field_at at 4 octets) ≡ part at 4 octets
    field-again at fits = read_again little_endian 4 at octets (omega arith) h

    settings-again : settings_body (settings_in slots (part 0 81 octets)) ≡ part 0 81 octets
    settings-again = again slots (part 0 81 octets) (length_part 0 81 octets (omega arith)) (part-octets 0 81 octets h)

    counts-again : words_octets 4 (field_at 81 4 octets ∷ field_at 85 4 octets ∷ []) ≡ part 81 8 octets
    unfolding words_octets
    counts-again =
        rw (field-again 81 (omega arith), field-again 85 (omega arith), append-nil (part 85 4 octets), ← part-append 81 4 4 octets)

    words-here : (n k at : ℕ) → at + n * k ≤ 194 → words_octets n (words_in n k (drop at octets)) ≡ part at (n * k) octets
    words-here n k at fits =
        words-again n k (drop at octets) (rw length-drop (omega arith)) (λ i. rw (get_or-drop at octets i 0) (h (at + i)))
        ∙ part-drop at 0 (n * k) octets
        ∙ ap (λ (m : ℕ). part m (n * k) octets) (add-zero at)

    others-again : words_octets 4
        (field_at 129 4 octets ∷ field_at 133 4 octets ∷ field_at 137 4 octets ∷ field_at 141 4 octets ∷ field_at 145 4 octets ∷ field_at 149 4
        octets ∷ field_at 153 4 octets ∷ [])
        ≡ part 129 28 octets
    unfolding words_octets
    others-again =
        rw (
          field-again 129 (omega arith),
          field-again 133 (omega arith),
          field-again 137 (omega arith),
          field-again 141 (omega arith),
          field-again 145 (omega arith),
          field-again 149 (omega arith),
          field-again 153 (omega arith),
          append-nil (part 153 4 octets),
          ← part-append 149 4 4 octets,
          ← part-append 145 4 8 octets,
          ← part-append 141 4 12 octets,
          ← part-append 137 4 16 octets,
          ← part-append 133 4 20 octets,
          ← part-append 129 4 24 octets,
        )

    session-again : session_octets (session_at (part 157 37 octets)) ≡ part 157 37 octets
    session-again = session.again (part 157 37 octets) (length_part 157 37 octets (omega arith)) (part-octets 157 37 octets h)

    running_again : running_octets (field_at 81 4 octets ∷ field_at 85 4 octets ∷ []) (words_in 4 slots (drop 89 octets))
        (words_in 1 slots (drop 121 octets))
        (field_at 129 4 octets ∷ field_at 133 4 octets ∷ field_at 137 4 octets ∷ field_at 141 4 octets ∷ field_at 145 4 octets ∷ field_at 149 4
        octets ∷ field_at 153 4 octets ∷ [])
        ≡ part 81 76 octets
    unfolding running_octets
    running_again =
        let p1 = part-next octets 81 8 32 counts-again (words-here 4 8 89 (omega arith)) in
        let p2 = part-next octets 81 40 8 p1 (words-here 1 8 121 (omega arith)) in
        part-next octets 81 48 28 p2 others-again

    -- the parts side by side are all the octets
    state-again : state_octets (state_at octets) ≡ octets
    unfolding state_octets
    state-again = part-next octets 0 157 37 (part-next octets 0 81 76 settings-again running_again) session-again ∙ part-whole 194 octets l

    pub put-shown : state_octets (shown (arrays_of (state_at octets))) ≡ octets
    put-shown = ap state_octets (lies (omega arith)) ∙ state-again

pub states_in_octets : StatesInOctets
states_in_octets = record { long = state-long; lies = lies; again = put-shown }
