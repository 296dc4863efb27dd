-- The statement of specs/Lmm.antt: what is said of every call that sends, for its refusals and its octets. Assumes nothing.
use Prim.Native.Nat.{ℕ}
use mathlib.Core.Path.{◌≡◌, refl}
use mathlib.Core.Bool.{not}
use mathlib.Core.List.{List, [], ◌∷◌}
use lib.Dec.{ltb}
use lib.ListN.{length}
use Rattle.std.specs.Prelude.{Result, Ok, Err}
use Rattle.base_laws.specs.Ended.{Ended}
use Rattle.base_laws.proofs.Tests.{choose-map}
use Rattle.state_view.specs.State.{State}
use Rattle.state_view.specs.WellFormed.{well_formed}
use Rattle.message_requests.proofs.Laid.{lmm-long}
use Rattle.message_requests.specs.Requests.{lmm_length}
use Rattle.call_send_answer.specs.declared.SendRefusal.{SendRefusal}
use Rattle.call_send_answer.specs.declared.SendRefusal.TheVariants.{NotWellFormed, NoRoom}
use Rattle.call_send_answer.specs.Told.{lmm_told}
use Rattle.call_send_answer.proofs.Lines.{apart, first, later, last, room, well}
use Rattle.call_send_answer.proofs.Said.{Sending, said, refused, writes, keeps}
use Rattle.call_send_lmm.specs.Lmm.{lmm_of, send_lmm, lmm_numbers, SendsLmm}

abbrev call : State → List ℕ → Sending State (Result ℕ SendRefusal)
call s buffer = record {
  refusals = (not (well_formed s), Err NotWellFormed) ∷ (ltb (length buffer) lmm_length, Err NoRoom) ∷ [];
  sent = Ok lmm_length;
  state = s;
  message = lmm_of s;
  buffer = buffer;
}

pub agree : (s : State) (buffer : List ℕ) → lmm_told (send_lmm s buffer).answer ≡ lmm_numbers s buffer
unfolding send_lmm lmm_told lmm_numbers
agree s buffer = choose-map (λ (t : Ended State (Result ℕ SendRefusal)). lmm_told t.answer) _ _

pub lmm-of-long : (s : State) → length s.settings.losspeer ≡ 6 → length s.settings.own ≡ 6 → length (lmm_of s) ≡ lmm_length
unfolding lmm_of
lmm-of-long s h k = lmm-long _ _ _ _ h k

pub sends-lmm : SendsLmm
unfolding send_lmm lmm_told apart
sends-lmm = record {
  refuses_2 = λ s b. said lmm_told (call s b) (first (well s) refl);
  refuses_3 = λ s b. said lmm_told (call s b) (later (well s) refl (first (room b lmm_length) refl));
  sends = λ s b. said lmm_told (call s b) (later (well s) refl (last (room b lmm_length) refl));
  refused = λ s b. refused lmm_told (call s b) refl;
  writes = λ s b. writes lmm_told (call s b) refl;
  keeps = λ s b. keeps lmm_told (call s b);
  long = lmm-of-long;
  agree = agree;
}
