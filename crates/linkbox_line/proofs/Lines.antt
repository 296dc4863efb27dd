-- The statement of specs/Line.antt, and how the call ends from what the code knows. Assumes nothing.
use Prim.Native.Nat.{ℕ, ◌≤◌, ◌<◌}
use mathlib.Core.Path.{◌≡◌, sym, ap, ap₂, ◌∙◌}
use mathlib.Core.List.{List}
use mathlib.Core.Bool.{Bool, true, false}
use mathlib.Core.Logic.{⊎_elim}
use native.Mathlib.Omega.{arith}
use lib.Dec.{ltb}
use lib.ListN.{length}
use borrow.Author.Tests.{ltb-true, lt-ltb, ltb-false, le-ltb}
use Rattle.std.specs.Prelude.{Result}
use Rattle.base_laws.specs.Tests.{choose}
use Rattle.base_laws.specs.Lists.{laid}
use Rattle.base_laws.specs.Ended.{Wrote, wrote, told_by}
use Rattle.base_laws.proofs.Ended.{told-by}
use Rattle.base_laws.proofs.Tests.{known, fails}
use Rattle.loss_session.specs.Session.{near, far}
use Rattle.state_view.specs.State.{State}
use Rattle.state_view.specs.WellFormed.{WellFormed, well_formed}
use Rattle.state_view.proofs.Rules.{well_formed_is}
use Rattle.stored_record.specs.declared.RecordRefusal.{RecordRefusal}
use Rattle.stored_record.specs.declared.RecordTold.{RecordTold}
use Rattle.stored_record.specs.Writing.{tell_record, record_told}
use Rattle.stored_line.specs.declared.LossLine.{LossLine}
use Rattle.stored_line.specs.Line.{KeepsRules, line_record}
use Rattle.stored_line.specs.LineCalls.{write_line}
use Rattle.stored_line.proofs.LineRecords.{loss-records}
use Rattle.linkbox_line.specs.Line.{line_of, loss_line_of, LossLines}

module _ (s : State) where
  keeps : WellFormed s → KeepsRules (line_of s.session)
  keeps w = record { few = w.session.few; near = w.session.total near; far = w.session.total far }

  good : WellFormed s → well_formed s ≡ true
  good w = (well_formed_is.well_formed_is s).1 w

module _ (s : State) (buffer : List ℕ) where
  pub at_2 : well_formed s ≡ false → loss_line_of s buffer ≡ wrote (tell_record 2 0) buffer
  unfolding loss_line_of choose
  at_2 f = rw f

  at_3 : well_formed s ≡ true → ltb (length buffer) 24 ≡ true → loss_line_of s buffer ≡ wrote (tell_record 3 0) buffer
  unfolding loss_line_of choose
  at_3 t h = rw (t, h)

  at-line : well_formed s ≡ true → ltb (length buffer) 24 ≡ false
      → loss_line_of s buffer ≡ wrote (tell_record 0 24) (laid 0 (line_record (line_of s.session)) buffer)
  unfolding loss_line_of choose
  at-line t h = rw (t, h)

  -- the writer's own outcome, told
  abbrev told : Wrote RecordTold
  told = told_by record_told (write_line (line_of s.session) buffer)

  no_room : WellFormed s → length buffer < 24 → told ≡ wrote (tell_record 3 0) buffer
  unfolding record_told
  no_room w h =
      let line = line_of s.session in
      let three = (loss-records.refuses_3 line buffer).1 (keeps s w, h) in
      let refused : (record_told (write_line line buffer).answer).refusal ≡ 3 = ap (λ (x : Result ℕ RecordRefusal). (record_told x).refusal) three in
      let stays = loss-records.refused line buffer (λ e. absurd (omega (arith, e, refused))) in
      ap₂ (λ (x : Result ℕ RecordRefusal) (b : List ℕ). wrote (record_told x) b) three stays

  room : WellFormed s → 24 ≤ length buffer → told ≡ wrote (tell_record 0 24) (laid 0 (line_record (line_of s.session)) buffer)
  unfolding record_told
  room w h = ap (told_by record_told) (loss-records.writes (line_of s.session) buffer (keeps s w) h)

  pub is-written : WellFormed s → loss_line_of s buffer ≡ told
  is-written w =
      ⊎_elim
      (λ (h : ltb (length buffer) 24 ≡ true). at_3 (good s w) h ∙ sym (no_room w (ltb-true (length buffer) 24 h)))
      (λ (h : ltb (length buffer) 24 ≡ false). at-line (good s w) h ∙ sym (room w (ltb-false (length buffer) 24 h)))
      (known (ltb (length buffer) 24))

  -- ── the same from what the code knows ──

  pub ends_2 : {b : Bool} → b ≡ well_formed s → b ≡ false → wrote (tell_record 2 0) buffer ≡ loss_line_of s buffer
  ends_2 {b} e h = sym (at_2 (sym e ∙ h))

  pub ends-written : {b : Bool} {r : Result ℕ RecordRefusal} {n : RecordTold} {after : List ℕ} {line : LossLine} → b ≡ well_formed s → b ≡ true
      → wrote r after ≡ write_line line buffer → line ≡ line_of s.session → n ≡ record_told r → wrote n after ≡ loss_line_of s buffer
  ends-written {b} e h written is tells =
      told-by record_told tells (written ∙ ap (λ (line : LossLine). write_line line buffer) is)
      ∙ sym (is-written ((well_formed_is.well_formed_is s).0 (sym e ∙ h)))

pub loss-lines : LossLines
loss-lines = record {
  refuses_2 = λ s buffer n. at_2 s buffer (fails (well_formed_is.well_formed_is s) n);
  refuses_3 = λ s buffer w h. at_3 s buffer (good s w) (lt-ltb (length buffer) 24 h);
  writes = λ s buffer w h. at-line s buffer (good s w) (le-ltb (length buffer) 24 h);
  keeps = keeps;
  reads_back = λ s rest w. loss-records.written (line_of s.session) rest (keeps s w);
  is-written = is-written;
}
