-- One call of a box that follows the paper sets a timer just as the paper says that it is set. Assumes nothing.
use Prim.Native.Nat.{ℕ}
use mathlib.Core.Path.{◌≡◌, sym, ap, ◌∙◌}
use mathlib.Core.Bool.{true, false}
use mathlib.Core.Logic.{⊎_elim}
use lib.Dec.{eqb}
use borrow.Author.Tests.{eqb-true, eqb-false}
use Rattle.base_laws.proofs.Tests.{known}
use Rattle.base_period.specs.Periods.{hold_of}
use Rattle.state_settings.specs.Settings.{Settings}
use Rattle.state_settings.specs.Valid.{Valid}
use Rattle.state_view.specs.State.{State}
use Rattle.paper_said.specs.Calls.{Call, Outcome, OnWire, Box}
use Rattle.frame_ccm.specs.Ccm.{ccm_in}
use Rattle.paper_said.specs.Cases.{pdu, hold}
use Rattle.paper_said.specs.Drops.{code}
use Rattle.paper_said.specs.Said as said
use Rattle.paper_said.specs.Judged as judging
use Rattle.paper_said.specs.Handling as handling
use Rattle.paper_said.specs.Said.{Said}
use Rattle.paper_said.specs.Ours.{Follows}
use Rattle.paper_time.specs.Timers.{Timer, peer, of, Used, asked, Sets}
use Rattle.paper_time.specs.Timers as sets
use Rattle.paper_time.proofs.Asked.{peer_moves, sound_moves, good_moves, oam_moves, own_moves, ccm_moves, from_moves}
use Rattle.paper_time.proofs.Timers.{timer_of, heard-own}
use Rattle.paper_time.proofs.Changes.{Holds}
use Rattle.paper_time.proofs.Ticked.{Good}

module _ {B : Box} (F : Follows B) where
  module _ {t : Settings} {s : State} (v : Valid t) (H : Holds t s) where
    -- ── a timer is set ──

    back : (asked t).settings ≡ s.settings
    back = sym H.same

    own : hold s ≡ hold_of t.period
    own = ap (λ (u : Settings). hold_of u.period) H.same

    left : (x : Timer) (c : Call) (o : Outcome) → OnWire c → Said s c o → timer_of x (B s c).state ≡ timer_of x o.state
    left x c o u p = ap (λ (z : Outcome). timer_of x z.state) (F.follows s c o u p)

    pub set_to : {x : Timer} {c : Call} {h : ℕ} → Good s c → Used t x → Sets t x c h → timer_of x (B s c).state ≡ h
    set_to f u (sets.lower_ccm a o e k g) =
        left (of sets.unexpected_level) _ _ f (said.by_rules_1_to_4
        (judging.rule_3_ccm a (oam_moves back H.well o) e (rw H.same k) (good_moves back g))) ∙ own
    set_to f u (sets.other_meg a k m) =
        left (of sets.mismerge) _ _ f (said.by_rules_5_to_8
        (handling.rule_5_mismerge a (ccm_moves back H.well k) (λ e. m (rw H.same at e)))) ∙ own
    set_to f u (sets.no_peer a k m n) =
        left (of sets.unexpected_mep) _ _ f (said.by_rules_5_to_8
        (handling.rule_5_mep a (ccm_moves back H.well k) (rw H.same m) (λ i p. n i (peer_moves H.same p)))) ∙ own
    set_to f u (sets.from_peer a k p) =
        ⊎_elim
        (λ (e : eqb (code a) s.settings.period ≡ true).
        left (peer k) _ _ f (said.by_rules_5_to_8 (handling.rule_5_peer a k (from_moves back H.well p) (eqb-true _ _ e)))
        ∙ heard-own k (hold s) (ccm_in (pdu a)).rdi s (rw H.eight u.0) ∙ own)
        (λ (e : eqb (code a) s.settings.period ≡ false).
        left (peer k) _ _ f (said.by_rules_5_to_8 (handling.rule_5_period a k (from_moves back H.well p) (eqb-false _ _ e)))
        ∙ heard-own k (hold s) (ccm_in (pdu a)).rdi s (rw H.eight u.0) ∙ own)
        (known (eqb (code a) s.settings.period))
    set_to f u (sets.other_period a k p n) =
        left (of sets.unexpected_period) _ _ f (said.by_rules_5_to_8
        (handling.rule_5_period a k (from_moves back H.well p) (λ e. n (rw H.same at e)))) ∙ own
    set_to f u (sets.alarm a l q e o) =
        left (of sets.ais) _ _ f (said.by_rules_5_to_8 (handling.rule_5_ais a (own_moves back H.well l) (sound_moves back q) e o))
    set_to f u (sets.locked a l q e o) =
        left (of sets.lck) _ _ f (said.by_rules_5_to_8 (handling.rule_5_lck a (own_moves back H.well l) (sound_moves back q) e o))
