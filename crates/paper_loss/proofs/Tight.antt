-- Any readings of a run are the readings of some true counts, so demand 3 leaves no choice. Assumes nothing.
use Prim.Native.Nat.{ℕ, zero, suc, ◌+◌, ◌-◌, ◌%◌, ◌^◌, ◌≤◌, ◌<◌}
use mathlib.Core.Path.{◌≡◌, sym, ap, ap₂, ◌∙◌}
use mathlib.Core.List.{List, [], ◌∷◌}
use native.Mathlib.Omega.{arith}
use native.Mathlib.Nat.{pow-le-pow_right}
use lib.ListN.{length, take, drop}
use Rattle.base_laws.specs.Lists.{every, part}
use Rattle.base_octets.specs.Octets.{Octets}
use Rattle.base_numbers.specs.Numbers.{number, big_endian}
use Rattle.base_octets.proofs.Octets.{part-octets}
use Rattle.base_numbers.proofs.Laws.{number-below}
use Rattle.loss_session.specs.declared.Readings.{Readings}
use Rattle.loss_session.specs.Session.{LossEnd, near, far, readings, sent_of, received_of, total_of}
use Rattle.loss_account.specs.Account.{Truth}
use Rattle.loss_account.specs.Demand3.{Small}
use Rattle.loss_account.proofs.Tight.{shown_by}
use Rattle.state_view.specs.State.{State}
use Rattle.paper_said.specs.Calls.{Call, OnWire}
use Rattle.paper_said.specs.Cases.{pdu}
use Rattle.paper_said.proofs.Messages.{behind}
use Rattle.paper_loss.specs.Runs.{run, Each, Event, reply, received, sent, other, Is, is_reply, Events, none, next}
use Rattle.paper_loss.specs.Replies.{most, replies_in, accepted, accounted}
use Rattle.paper_loss.specs.Demand3.{said, Agrees}
use Rattle.paper_loss.specs.Meets.{Tight}
use Rattle.paper_loss.proofs.Joined.{heard, pairs, pairs-seen, all-heard}

-- ── readings have 32 bits ──

take_short : (k : ℕ) (xs : List ℕ) → length (take k xs) ≤ k
take_short zero xs = omega arith
take_short (suc k) [] = omega arith
take_short (suc k) (x ∷ xs) = omega (arith, take_short k xs)

part-short : (at : ℕ) (p : List ℕ) → length (part at 4 p) ≤ 4
unfolding part
part-short at p = take_short 4 (drop at p)

powers : (n : ℕ) → n ≤ 4 → 256 ^ n ≤ 2 ^ 32
powers n h = let some : 0 < 256 = omega arith in pow-le-pow_right some h

word_small : (p : List ℕ) (at : ℕ) → Octets p → number big_endian (part at 4 p) < 2 ^ 32
word_small p at o =
    omega (arith, number-below big_endian (part at 4 p) (part-octets at 4 p o), powers (length (part at 4 p)) (part-short at p))

abbrev Fits : Readings → Type 0
Fits r = (d : LossEnd) → (sent_of d r < 2 ^ 32) × (received_of d r < 2 ^ 32)

reply-small : {s : State} {c : Call} {txf rxf txb : ℕ} → Is s c (reply txf rxf txb) → OnWire c → (n : ℕ)
    → Fits (readings txf rxf txb (n % 2 ^ 32))
reply-small (is_reply a l) u n near = (word_small (pdu a) 12 (behind a.octets 14 u.octets), omega arith)
reply-small (is_reply a l) u n far =
    (word_small (pdu a) 4 (behind a.octets 14 u.octets), word_small (pdu a) 8 (behind a.octets 14 u.octets))

small : (s : State) (k : ℕ) (cs : List Call) (es : List Event) → Events s cs es → Each OnWire cs → (n : ℕ) → Small (take k (replies_in n es))
unfolding Each replies_in
small s zero cs es v u n = tt
small s (suc k) cs es none u n = tt
small s (suc k) cs es (next c (reply txf rxf txb) ds fs i rest) u n = (reply-small i u.0 n, small s k ds fs rest u.1 n)
small s (suc k) cs es (next c received ds fs i rest) u n = small s (suc k) ds fs rest u.1 (n + 1)
small s (suc k) cs es (next c sent ds fs i rest) u n = small s (suc k) ds fs rest u.1 n
small s (suc k) cs es (next c other ds fs i rest) u n = small s (suc k) ds fs rest u.1 n

-- ── no choice is left ──

pub tight : Tight
tight B C f g n s cs es c =
    let w = small s most cs es c.events c.wire n in
    let x = shown_by near (accepted n es) w in
    let y = shown_by far (accepted n es) w in
    let bn = f.side near n s cs es x.0 c x.1 x.2 in
    let bf = f.side far n s cs es y.0 c y.1 y.2 in
    let cn = g.side near n s cs es x.0 c x.1 x.2 in
    let cf = g.side far n s cs es y.0 c y.1 y.2 in
    let k = length (replies_in n es) - most in
    record {
      results =
          sym (pairs-seen (said B s cs es) (ap (every heard) bn.results ∙ all-heard (accounted x.0) k))
          ∙ ap₂ pairs (bn.results ∙ sym cn.results) (bf.results ∙ sym cf.results)
          ∙ pairs-seen (said C s cs es) (ap (every heard) cn.results ∙ all-heard (accounted x.0) k);
      totals = totals bn bf cn cf;
      intervals = f.intervals n s cs es c ∙ sym (g.intervals n s cs es c);
    }
  where
    totals : {ts us : List Truth} → Agrees B near n s cs es ts → Agrees B far n s cs es us → Agrees C near n s cs es ts
        → Agrees C far n s cs es us
        → (d : LossEnd) → total_of d (run B s cs).session ≡ total_of d (run C s cs).session
    totals a b p q near = a.totals ∙ sym p.totals
    totals a b p q far = b.totals ∙ sym q.totals
