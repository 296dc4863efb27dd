-- A box that drops the sign of a loss, refuted by a reply, a service frame and a reply. Assumes nothing.
use Prim.Native.Nat.{ℕ}
use mathlib.Core.Path.{◌≡◌, refl, sym, ap, ◌∙◌}
use mathlib.Core.List.{List, [], ◌∷◌}
use native.Mathlib.Omega.{arith}
use lib.IntN.{ℤ, pos, negsuc}
use Rattle.base_laws.specs.Lists.{part}
use Rattle.base_numbers.specs.Numbers.{number, number_lowest_first}
use Rattle.loss_session.specs.Session.{near}
use Rattle.loss_account.specs.Account.{Truth, losses}
use Rattle.state_view.specs.State.{State}
use Rattle.state_view.specs.Changed.{put}
use Rattle.state_view.specs.Changed as word
use Rattle.state_view.specs.WellFormed.{WellFormed}
use Rattle.paper_said.specs.Calls.{frame, Outcome}
use Rattle.paper_said.specs.Said as said
use Rattle.paper_said.specs.Handling as handling
use Rattle.paper_said.proofs.Follows.{ours-follows}
use Rattle.paper_promised.proofs.Kept.{put-well}
use Rattle.paper_promised.proofs.Example.{start, well}
use Rattle.paper_loss.specs.Runs.{answers, Each, received, is_received, none, next}
use Rattle.paper_loss.specs.Replies.{replies_in, to_replies, Seen, refused, loss, silence, seen, SinceClear}
use Rattle.paper_loss.specs.Demand3.{Demand3}
use Rattle.paper_wrong_boxes.specs.Wrong.{signed_off, signless}
use Rattle.paper_loss.proofs.Same.{reply-to}
use Rattle.paper_wrong_boxes.proofs.Frames.{lmr, service, lmr-wire, service-wire, lmr-good, service-counted, replies, lmr-is}
use Rattle.paper_wrong_boxes.proofs.Frames.{frame-no_setting, frame-no_clear}
use Rattle.base_laws.proofs.Tests.{differ}
use Rattle.loss_account.proofs.Refuted.{grows}
use Rattle.paper_wrong_boxes.proofs.Replies.{kept, kept-well, first-reply}
use Rattle.paper_wrong_boxes.proofs.Counts.{service-left}

-- ── a reply, a service frame, a reply ──

-- the state behind the frame
abbrev later : State
later = put word.received 1 kept

later-well : WellFormed later
later-well =
    put-well kept word.received 1 (record {
      own = λ h. absurd (omega arith);
      alarm = λ h k. absurd (omega arith);
      some = λ e. absurd (omega arith);
      next = λ e. absurd (omega arith);
    }) kept-well

signless-first : (signless start (frame lmr)).state ≡ kept
signless-first = ap (λ (o : Outcome). (signed_off o).state) first-reply

signless_then : (signless kept (frame service)).state ≡ later
signless_then = ap (λ (o : Outcome). (signed_off o).state) (service-left kept kept-well refl)

-- a loss as a number, 0 for one below 0; then that of the second thing seen
abbrev natural : ℤ → ℕ
natural (pos n) = n
natural (negsuc n) = 0

abbrev loss_number : Seen → ℕ
loss_number (refused n) = 0
loss_number (loss z) = natural z
loss_number silence = 0

abbrev second_number : List Seen → ℕ
second_number [] = 0
second_number (x ∷ []) = 0
second_number (x ∷ y ∷ ys) = loss_number y

signless-last : loss_number (seen near (signless later (frame lmr)).answer) ≡ 4294967295
unfolding number number_lowest_first part
signless-last = ap (λ (o : Outcome). loss_number (seen near (signed_off o).answer))
    (ours-follows.box.follows later (frame lmr) _ lmr-wire
    (said.by_rules_5_to_8 (handling.rule_7_later lmr (reply-to start later lmr later-well refl lmr-good) refl (omega arith))))

three_calls : SinceClear 0 start (frame lmr ∷ frame service ∷ frame lmr ∷ []) (replies ∷ received ∷ replies ∷ [])
unfolding Each
three_calls = record {
  well = well;
  cleared = refl;
  count = refl;
  wire = (lmr-wire, (service-wire, (lmr-wire, tt)));
  no_setting = (frame-no_setting lmr, (frame-no_setting service, (frame-no_setting lmr, tt)));
  no_clear = (frame-no_clear lmr, (frame-no_clear service, (frame-no_clear lmr, tt)));
  events = next _ _ _ _ lmr-is (next _ _ _ _ (is_received service service-counted) (next _ _ _ _ lmr-is none));
}

abbrev truth : ℕ → ℕ → Truth
truth x y = record { sent = x; received = y }

-- nothing sent, one received: the loss is -1, and it says 4,294,967,295
pub signless_out : Demand3 signless → ⊥
unfolding answers to_replies replies_in losses
signless_out d =
    let a = d.side near 0 start (frame lmr ∷ frame service ∷ frame lmr ∷ []) (replies ∷ received ∷ replies ∷ [])
    (truth 0 0 ∷ truth 0 1 ∷ []) three_calls
    (refl, refl, (refl, refl, tt)) (grows 0 0 (omega arith) (omega arith), grows 0 1 (omega arith) (omega arith), tt) in
    let e : loss_number (seen near (signless (signless (signless start (frame lmr)).state (frame service)).state (frame lmr)).answer)
    ≡ 0 = ap second_number a.results in
    let f : loss_number (seen near (signless (signless (signless start (frame lmr)).state (frame service)).state (frame lmr)).answer)
    ≡ 4294967295 =
    ap (λ (y : State). loss_number (seen near (signless (signless y (frame service)).state (frame lmr)).answer)) signless-first
    ∙ ap (λ (y : State). loss_number (seen near (signless y (frame lmr)).answer)) signless_then
    ∙ signless-last in
    differ 4294967295 0 4294967294 (sym f ∙ e) refl
