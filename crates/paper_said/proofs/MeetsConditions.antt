-- Our box follows the paper where it is asked for its conditions. Assumes nothing.
use Prim.Native.Nat.{ℕ, ◌<◌}
use mathlib.Core.Path.{◌≡◌, refl, sym, ap, ◌∙◌}
use mathlib.Core.Bool.{Bool, true, false, ◌&&◌, true≢false}
use mathlib.Core.List.{List, []}
use lib.Dec.{ltb, eqb}
use lib.ListN.{get_or}
use borrow.Author.Tests.{lt-ltb, ltb-true, eq-eqb, eqb-true}
use Rattle.base_laws.proofs.Tests.{split, join}
use Rattle.state_settings.specs.Settings.{slots}
use Rattle.state_view.specs.State.{State}
use Rattle.state_view.specs.WellFormed.{WellFormed}
use Rattle.state_standing.specs.Standing as box
use Rattle.state_standing.specs.Standing.{standing}
use Rattle.state_standing.specs.Flag.{flag}
use Rattle.call_conditions.specs.Conditions.{table, lost_at, shown_of, conditions_of}
use Rattle.call_conditions.proofs.Table.{table-length, table_at}
use Rattle.paper_said.specs.Calls as call
use Rattle.paper_said.specs.Calls.{leaves, refused, Raised}
use Rattle.paper_said.specs.Standing.{Flag, on, off, Lost}
use Rattle.paper_said.specs.Standing as standing
use Rattle.paper_said.specs.Words.{raised}
use Rattle.paper_said.specs.Ours.{ours}
use Rattle.paper_said.proofs.MeetsRefused.{well, not_well}
use Rattle.paper_said.proofs.Started.{alike}
use Rattle.paper_said.proofs.MeetsTicks.{flagged}

-- ── conditions ──

made : (r : Raised) {lost rdi : List ℕ} {a b c d e f : ℕ} → lost ≡ r.lost → rdi ≡ r.rdi → a ≡ r.mismerge → b ≡ r.unexpected_mep
    → c ≡ r.unexpected_period → d ≡ r.unexpected_level → e ≡ r.ais → f ≡ r.lck
    → record { lost = lost; rdi = rdi; mismerge = a; unexpected_mep = b; unexpected_period = c; unexpected_level = d; ais = e; lck = f } ≡ r
made r g h i j k l m n = rw (g, h, i, j, k, l, m, n)

-- a timer's flag
timed : {x v : ℕ} → Flag (0 < x) v → flag (box.runs x) ≡ v
timed {x} f = flagged (ltb 0 x) (ltb-true 0 x) (lt-ltb 0 x) f

lost-flag : (s : State) (k v : ℕ) → Flag (Lost s k) v → lost_at s.settings.count s.timers k ≡ v
lost-flag s k v f =
    flagged (ltb k s.settings.count && eqb (get_or s.timers k 0) 0)
    (λ e. let p = split (ltb k s.settings.count) (eqb (get_or s.timers k 0) 0) e in
    record { used = ltb-true k s.settings.count p.0; ended = eqb-true (get_or s.timers k 0) 0 p.1 })
    (λ l. join (ltb k s.settings.count) (eqb (get_or s.timers k 0) 0) (lt-ltb k s.settings.count l.used)
    (eq-eqb (get_or s.timers k 0) 0 l.ended))
    f

module _ (s : State) where
  shown : (r : Raised) → standing.Shows s r → raised (shown_of s) ≡ r
  shown r h =
      let f = lost_at s.settings.count s.timers in
      made r
      (alike (table f slots) r.lost slots (table-length f slots) h.slots_lost
      (λ i k. table_at f slots i k ∙ lost-flag s i (get_or r.lost i 0) (h.lost i k)))
      (sym h.rdi)
      (timed h.mismerge)
      (timed h.unexpected_mep)
      (timed h.unexpected_period)
      (timed h.unexpected_level)
      (timed h.ais)
      (timed h.lck)

  pub conditions_2 : (WellFormed s → ⊥) → ours s call.conditions ≡ leaves (refused 2) s []
  unfolding conditions_of
  conditions_2 n = rw (not_well s n)

  conditions-all : WellFormed s → ours s call.conditions ≡ leaves (call.standing (raised (shown_of s))) s []
  unfolding conditions_of
  conditions-all w = rw (well s w)

  pub conditions_show : (r : Raised) → WellFormed s → standing.Shows s r → ours s call.conditions ≡ leaves (call.standing r) s []
  conditions_show r w h = conditions-all w ∙ ap (λ (x : Raised). leaves (call.standing x) s []) (shown r h)

  -- what the box shows is what the paper does
  own-flag : (b : Bool) {P : Type 0} → (b ≡ true → P) → (P → b ≡ true) → Flag P (flag b)
  own-flag true to from = on (to refl)
  own-flag false to from = off (λ p. true≢false (sym (from p)))

  own-timer : (x : ℕ) → Flag (0 < x) (flag (box.runs x))
  own-timer x = own-flag (ltb 0 x) (ltb-true 0 x) (lt-ltb 0 x)

  own-lost : (k : ℕ) → Flag (Lost s k) (lost_at s.settings.count s.timers k)
  own-lost k =
      own-flag (ltb k s.settings.count && eqb (get_or s.timers k 0) 0)
      (λ e. let p = split (ltb k s.settings.count) (eqb (get_or s.timers k 0) 0) e in
      record { used = ltb-true k s.settings.count p.0; ended = eqb-true (get_or s.timers k 0) 0 p.1 })
      (λ l. join (ltb k s.settings.count) (eqb (get_or s.timers k 0) 0) (lt-ltb k s.settings.count l.used)
      (eq-eqb (get_or s.timers k 0) 0 l.ended))

  pub shows_own : standing.Shows s (raised (shown_of s))
  shows_own =
      let f = lost_at s.settings.count s.timers in
      record {
        lost = λ k h. rw (table_at f slots k h) (own-lost k);
        slots_lost = table-length f slots;
        rdi = refl;
        mismerge = own-timer s.mismerge;
        unexpected_mep = own-timer s.unexpected_mep;
        unexpected_period = own-timer s.unexpected_period;
        unexpected_level = own-timer s.unexpected_level;
        ais = own-timer s.ais;
        lck = own-timer s.lck;
      }
