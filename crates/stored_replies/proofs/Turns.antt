-- One turn of the loop over a chunk's replies, and how it ends. Assumes nothing.
use Prim.Native.Nat.{ℕ, ◌+◌, ◌*◌, ◌/◌, ◌≤◌, ◌<◌}
use mathlib.Core.Path.{◌≡◌, refl, sym, ap, ap₂, ◌∙◌}
use mathlib.Core.Bool.{true, false}
use mathlib.Core.List.{List, [], ◌∷◌, ◌++◌, append-nil}
use native.Mathlib.Omega.{arith}
use lib.ListN.{length, length-append}
use lib.Seq.{drop_at}
use borrow.Author.Tests.{lt-ltb, le-ltb}
use Rattle.base_laws.specs.Ended.{wrote}
use Rattle.base_laws.specs.Tests.{choose}
use Rattle.base_laws.specs.Lists.{laid}
use Rattle.base_laws.proofs.Overlaid.{laid_none, length-laid}
use Rattle.base_laws.proofs.Pieces.{first, more}
use Rattle.loss_session.specs.declared.Readings.{Readings}
use Rattle.loss_session.specs.declared.LossSession.{LossSession}
use Rattle.loss_session.specs.Session.{well_formed}
use Rattle.loss_reading.specs.Reading.{after_reading}
use Rattle.loss_reading.specs.Told.{loss_numbers}
use Rattle.loss_lent.specs.declared.Answered.{Answered}
use Rattle.loss_lent.specs.Lent.{reading_of}
use Rattle.stored_line.specs.Line.{KeepsRules, line_record}
use Rattle.stored_line.proofs.Laws.{line-long}
use Rattle.stored_replies.specs.Replies.{readings_in, replies_in, replies, line_of, Worked, behind, worked}
use Rattle.stored_replies.specs.Recount.{answered, refused_with, worked_answer, recount_into}
use Rattle.stored_replies.proofs.Laws.{replies-front, replies-both, taken-kept, worked-taken, worked-refused, worked-none, behind-both}

-- ── how it ends ──

module _ (s : LossSession) (octets buffer : List ℕ) where
  pub ends-not_well : well_formed s ≡ false → wrote (refused_with 2 s) buffer ≡ recount_into s octets buffer
  unfolding recount_into choose
  ends-not_well g = rw g

  pub ends-no-room : well_formed s ≡ true → length buffer / 24 < length octets / 16
      → wrote (refused_with 3 s) buffer ≡ recount_into s octets buffer
  unfolding recount_into choose
  ends-no-room g h = rw (g, lt-ltb (length buffer / 24) (length octets / 16) h)

  pub ends-worked : (w : Worked) {after : List ℕ} → well_formed s ≡ true → length octets / 16 ≤ length buffer / 24
      → worked s (replies octets) ≡ w
      → after ≡ laid 0 w.records buffer → wrote (worked_answer w) after ≡ recount_into s octets buffer
  unfolding recount_into choose
  ends-worked w g h e f = rw (g, le-ltb (length buffer / 24) (length octets / 16) h, e, f)

-- ── a turn ──

-- the records of the first i replies stand in the buffer; what is still to come is what the replies left give from the session now
pub record SoFar (start : LossSession) (from before into left : List ℕ) (i : ℕ) (s : LossSession) : Type 0 where
  pub records : List ℕ
  pub long : length records ≡ i * 24
  pub is : into ≡ laid 0 records before
  pub rest : worked start (replies from) ≡ behind records i (worked s (replies left))
  pub count : i + length left / 16 ≡ length from / 16
  pub same : length into ≡ length before

-- nothing in front of it
pub from-here : (w : Worked) → w ≡ behind [] 0 w
from-here w =
    let same : w.taken ≡ 0 + w.taken = omega arith in
    ap (λ (n : ℕ). record { records = w.records; halted = w.halted; taken = n; session = w.session }) same

pub at-start : (s : LossSession) (from before : List ℕ) → SoFar s from before before from 0 s
at-start s from before = record {
  records = [];
  long = refl;
  is = sym (laid_none 0 before);
  rest = from-here (worked s (replies from));
  count = omega arith;
  same = refl;
}

-- a reply is cut off, and the others are left
next_reply : (front rest : List ℕ) → length front ≡ 16 → replies (front ++ rest) ≡ readings_in front ∷ replies rest
unfolding replies_in
next_reply front rest h =
    let more : length (front ++ rest) / 16 ≡ 1 + length rest / 16 = simp length-append (omega (arith, h)) in
    ap (λ (n : ℕ). replies_in n (front ++ rest)) more ∙ replies-both 1 (length rest / 16) (front ++ rest)
    ∙ ap₂ (λ (a b : List Readings). a ++ b) (replies-front 1 front rest (omega arith))
    (ap (replies_in (length rest / 16)) (drop_at front rest 16 h))

module _ {start s : LossSession} {from before into left : List ℕ} {i : ℕ} (t : SoFar start from before into left i s)
    (g : well_formed start ≡ true) (h : length from / 16 ≤ length before / 24) where
  -- nothing is left
  pub at-end : {n : ℕ} → n ≡ 16 → length left < n → wrote (answered 0 0 (length from / 16) s) into ≡ recount_into start from before
  unfolding replies_in
  at-end each k =
      let none : length left / 16 ≡ 0 = omega (arith, k) in
      let all : i + 0 ≡ length from / 16 = omega (arith, k, t.count) in
      let w : worked start (replies from) ≡ record { records = t.records; halted = 0; taken = length from / 16; session = s } =
      t.rest ∙ ap (λ (n : ℕ). behind t.records i (worked s (replies_in n left))) none ∙ ap (behind t.records i) (worked-none s)
      ∙ rw (append-nil t.records, all) in
      ends-worked start from before (record { records = t.records; halted = 0; taken = length from / 16; session = s }) g h w t.is

  -- one more reply is answered
  module _ (front rest : List ℕ) {n : ℕ} (each : n ≡ 16) (cut : left ≡ front ++ rest) (size : length front ≡ n)
      {a : Answered} (f : a ≡ reading_of s (readings_in front)) where
    abbrev r : Readings
    r = readings_in front

    next : replies left ≡ r ∷ replies rest
    next = ap replies cut ∙ next_reply front rest (size ∙ each)

    counted : i + 1 + length rest / 16 ≡ length from / 16
    counted = omega (arith, t.count, ap length cut ∙ length-append front rest)

    refusal_is : a.told.refusal ≡ (loss_numbers s r).refusal
    refusal_is = ap (λ (x : Answered). x.told.refusal) f

    session-is : a.session ≡ (after_reading s r).session
    session-is = ap (λ (x : Answered). x.session) f

    pub turn_halts : (a.told.refusal ≡ 0 → ⊥) → wrote (answered 0 a.told.refusal i s) into ≡ recount_into start from before
    turn_halts n =
        let same : i + 0 ≡ i = omega arith in
        let w : worked start (replies from) ≡ record { records = t.records; halted = a.told.refusal; taken = i; session = s } =
        t.rest
        ∙ ap (λ (rs : List Readings). behind t.records i (worked s rs)) next
        ∙ ap (behind t.records i) (worked-refused s r (replies rest) (λ z. n (refusal_is ∙ z)))
        ∙ rw (append-nil t.records, same, sym refusal_is) in
        ends-worked start from before (record { records = t.records; halted = a.told.refusal; taken = i; session = s }) g h w t.is

    pub turn_room : i * 24 + 24 ≤ length into
    turn_room = omega (arith, counted, h, t.same)

    module _ (z : a.told.refusal ≡ 0) where
      pub turn_kept : KeepsRules (line_of a.session)
      turn_kept = rw session-is (taken-kept s r (sym refusal_is ∙ z))

      pub turn_goes : {after : List ℕ} → after ≡ laid (i * 24) (line_record (line_of a.session)) into
          → SoFar start from before after rest (i + 1) a.session
      turn_goes {after} put-there =
          let line = line_record (line_of a.session) in
          let size = line-long (line_of a.session) in
          let here : i * 24 ≡ 0 + length t.records = omega (arith, t.long) in
          let fits : 0 + length t.records + length line ≤ length before = omega (arith, size, t.long, turn_room, t.same) in
          let put = more (length line) line (first 0 (length t.records) t.records before t.is refl)
          (put-there ∙ ap (λ (n : ℕ). laid n line into) here) refl fits in
          record {
            records = t.records ++ line;
            long = put.long ∙ omega (arith, size, t.long);
            is = put.is;
            rest = t.rest
                ∙ ap (λ (rs : List Readings). behind t.records i (worked s rs)) next
                ∙ ap (behind t.records i) (worked-taken s r (replies rest) (sym refusal_is ∙ z))
                ∙ ap (λ (x : LossSession). behind t.records i (behind (line_record (line_of x)) 1 (worked x (replies rest)))) (sym session-is)
                ∙ behind-both t.records line i 1 (worked a.session (replies rest));
            count = counted;
            same = ap length put-there ∙ length-laid (i * 24) line into (omega (arith, size, turn_room)) ∙ t.same;
          }
