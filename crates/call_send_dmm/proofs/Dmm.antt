-- The statement of specs/Dmm.antt: what is said of every call that sends, for its refusals and its octets. Assumes nothing.
use Prim.Native.Nat.{ℕ, ◌≤◌, ◌<◌}
use mathlib.Core.Path.{◌≡◌, refl, ap}
use mathlib.Core.Bool.{not}
use mathlib.Core.List.{List, [], ◌∷◌}
use lib.Dec.{ltb}
use lib.ListN.{length}
use borrow.Author.Tests.{leb-true, leb-false, le-leb, lt-leb, not-true, not-false}
use Rattle.std.specs.Prelude.{Result, Ok, Err}
use Rattle.base_laws.specs.Ended.{Ended}
use Rattle.base_laws.proofs.Tests.{choose-map}
use Rattle.state_view.specs.State.{State}
use Rattle.state_view.specs.WellFormed.{well_formed}
use Rattle.base_stamp.specs.declared.Stamp.{Stamp}
use Rattle.base_stamp.specs.Stamps.{good, not_given}
use Rattle.message_requests.proofs.Laid.{dmm-long}
use Rattle.message_requests.specs.Requests.{dmm_length}
use Rattle.call_send_answer.specs.declared.DmmRefusal.{DmmRefusal}
use Rattle.call_send_answer.specs.declared.DmmRefusal.TheVariants.{NotWellFormed, BadStamp, NoRoom}
use Rattle.call_send_answer.specs.Told.{dmm_told}
use Rattle.call_send_answer.proofs.Lines.{Line, apart, first, later, last, room, well, flat}
use Rattle.call_send_answer.proofs.Said.{Sending, said, refused, writes, keeps}
use Rattle.call_send_dmm.specs.Dmm.{dmm_of, send_dmm, dmm_numbers, SendsDmm}

abbrev call : State → Stamp → List ℕ → Sending State (Result ℕ DmmRefusal)
call s stamp buffer = record {
  refusals = (not (well_formed s), Err NotWellFormed) ∷ (not (good stamp), Err BadStamp) ∷ (ltb (length buffer) dmm_length, Err NoRoom) ∷ [];
  sent = Ok dmm_length;
  state = s;
  message = dmm_of s stamp;
  buffer = buffer;
}

-- the line of refusal 6
stamped : (stamp : Stamp) → Line (not (good stamp)) (999999999 < stamp.nanoseconds) (stamp.nanoseconds ≤ 999999999)
stamped stamp =
    let n = stamp.nanoseconds in
    record {
      yes = (λ h. leb-false n 999999999 (not-true (good stamp) h), λ k. ap not (lt-leb n 999999999 k));
      no = (λ h. leb-true n 999999999 (not-false (good stamp) h), λ k. ap not (le-leb n 999999999 k));
    }

pub agree : (s : State) (stamp : Stamp) (buffer : List ℕ) → dmm_told (send_dmm s stamp buffer).answer ≡ dmm_numbers s stamp buffer
unfolding send_dmm dmm_told dmm_numbers
agree s stamp buffer = choose-map (λ (t : Ended State (Result ℕ DmmRefusal)). dmm_told t.answer) _ _

pub dmm-of-long : (s : State) (stamp : Stamp) → length s.settings.losspeer ≡ 6 → length s.settings.own ≡ 6
    → length (dmm_of s stamp) ≡ dmm_length
unfolding dmm_of
dmm-of-long s stamp h k = dmm-long _ _ _ _ h k

pub sends-dmm : SendsDmm
unfolding send_dmm dmm_told apart
sends-dmm = record {
  refuses_2 = λ s p b. said dmm_told (call s p b) (first (well s) refl);
  refuses_6 = λ s p b. said dmm_told (call s p b) (later (well s) refl (first (stamped p) refl));
  refuses_3 = λ s p b. flat (said dmm_told (call s p b) (later (well s) refl (later (stamped p) refl (first (room b dmm_length) refl))));
  sends = λ s p b. flat (said dmm_told (call s p b) (later (well s) refl (later (stamped p) refl (last (room b dmm_length) refl))));
  sends_zero = λ s b w l.
      (said dmm_told (call s not_given b) (later (well s) refl (later (stamped not_given) refl (last (room b dmm_length) refl)))).1
      (w, (leb-true 0 999999999 refl, l));
  refused = λ s p b. refused dmm_told (call s p b) refl;
  writes = λ s p b. writes dmm_told (call s p b) refl;
  keeps = λ s p b. keeps dmm_told (call s p b);
  long = dmm-of-long;
  agree = agree;
}
