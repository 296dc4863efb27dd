-- The paper says something of every frame that the reader is asked of, and what does not follow it is shut out. Assumes nothing.
use Prim.Native.Nat.{ℕ}
use mathlib.Core.Path.{◌≡◌, refl, sym, ◌∙◌}
use mathlib.Core.List.{List, [], ◌∷◌}
use mathlib.Core.Bool.{true, false, true≢false}
use mathlib.Core.Option.{Option, some, none}
use mathlib.Core.Logic.{◌⊎◌, inl, inr, ⊎_elim}
use native.Mathlib.Omega.{arith}
use lib.Dec.{ltb, eqb}
use lib.ListN.{length}
use borrow.Author.Tests.{ltb-true, ltb-false, eqb-true, eqb-false}
use Rattle.base_laws.specs.Lists.{part, every}
use Rattle.base_laws.proofs.Tests.{known as if-known}
use Rattle.base_octets.specs.Octets.{Octets}
use Rattle.base_numbers.specs.Numbers.{number, in_octets, number_lowest_first, octets_lowest_first}
use Rattle.frame_opcodes.specs.Opcodes.{rule_of}
use Rattle.frame_tlvs.specs.Tlvs.{end, one, first_of, walk_from, is_cut}
use Rattle.frame_head.specs.Head.{ether_type_of, pdu_of, opcode_of, offset_of, start_of}
use Rattle.paper_said.specs.Drops.{ais}
use Rattle.paper_said.proofs.Messages.{run_ends, ends-run, behind}
use Rattle.base_octets.proofs.Written.{octets-of}
use Rattle.paper_beside.specs.Reader.{Long, OamFrame, handled as in-box, Offered, TlvsOf, ReaderTells, refused, dropped, value}
use Rattle.paper_beside.specs.Reader.{no_such, ReaderSaid, reader_1, service_d3, reader_d1, reader_d3, reader_d4, reader_d5}
use Rattle.paper_beside.specs.Reader.{reader_value, reader_none, our_reader, ReaderFollows}
use Rattle.paper_beside.proofs.Table.{table-known, in_table}
use Rattle.paper_beside.proofs.ReaderTold.{follows}

-- ── of every frame ──

long-or-not : (f : List ℕ) → Long f ⊎ (Long f → ⊥)
long-or-not f =
    ⊎_elim
    (λ (t : ltb (length f) 14 ≡ true). inr (λ (l : Long f). let s = ltb-true (length f) 14 t in omega (arith, s, l.least)))
    (λ (t : ltb (length f) 14 ≡ false).
    ⊎_elim
    (λ (u : ltb 1514 (length f) ≡ true). inr (λ (l : Long f). let s = ltb-true 1514 (length f) u in omega (arith, s, l.most)))
    (λ (u : ltb 1514 (length f) ≡ false). inl (record { least = ltb-false (length f) 14 t; most = ltb-false 1514 (length f) u }))
    (if-known (ltb 1514 (length f))))
    (if-known (ltb (length f) 14))

module _ (f : List ℕ) (kind : ℕ) (w : Octets f) where
  -- past its offset: a run of TLVs, with or without the type, or none
  every_offered : Offered f → (r : ReaderTells) × ReaderSaid f kind r
  every_offered o =
      ⊎_elim
      (λ (t : is_cut (walk_from 0 (start_of (pdu_of f)) (pdu_of f)) ≡ true).
      (dropped 5, reader_d5 o (λ ts run. true≢false (sym t ∙ run_ends (pdu_of f) (start_of (pdu_of f)) ts run))))
      (λ (t : is_cut (walk_from 0 (start_of (pdu_of f)) (pdu_of f)) ≡ false).
      let e = ends-run (pdu_of f) (start_of (pdu_of f)) (behind f 14 w) t in
      by e.0 e.1 (first_of kind e.0) refl)
      (if-known (is_cut (walk_from 0 (start_of (pdu_of f)) (pdu_of f))))
    where
      by : (ts : List (ℕ × List ℕ)) → TlvsOf f ts → (x : Option (List ℕ)) → first_of kind ts ≡ x → (r : ReaderTells) × ReaderSaid f kind r
      by ts t (some v) e = (value v, reader_value ts v o t e)
      by ts t none e = (no_such, reader_none ts o t e)

  every-oam : OamFrame f → (r : ReaderTells) × ReaderSaid f kind r
  every-oam o =
      ⊎_elim
      (λ (t : (rule_of (opcode_of (pdu_of f))).known ≡ true).
      let r = in_table (opcode_of (pdu_of f)) t in
      ⊎_elim
      (λ (u : ltb (offset_of (pdu_of f)) r.0 ≡ true). (dropped 4, reader_d4 r.0 o r.1 (ltb-true (offset_of (pdu_of f)) r.0 u)))
      (λ (u : ltb (offset_of (pdu_of f)) r.0 ≡ false). every_offered
      (record { oam = o; least = r.0; opcode = r.1; offset = ltb-false (offset_of (pdu_of f)) r.0 u }))
      (if-known (ltb (offset_of (pdu_of f)) r.0)))
      (λ (t : (rule_of (opcode_of (pdu_of f))).known ≡ false). (dropped 3, reader_d3 o (λ least i. true≢false (sym (table-known i) ∙ t))))
      (if-known (rule_of (opcode_of (pdu_of f))).known)

  every-long : Long f → (r : ReaderTells) × ReaderSaid f kind r
  every-long l =
      ⊎_elim
      (λ (t : eqb (ether_type_of f) 0x8902 ≡ true).
      let e = eqb-true (ether_type_of f) 0x8902 t in
      ⊎_elim
      (λ (u : ltb (length f) 18 ≡ true). (dropped 1, reader_d1 l e (ltb-true (length f) 18 u)))
      (λ (u : ltb (length f) 18 ≡ false). every-oam (record { long = l; ether = e; head = ltb-false (length f) 18 u }))
      (if-known (ltb (length f) 18)))
      (λ (t : eqb (ether_type_of f) 0x8902 ≡ false). (dropped 3, service_d3 l (eqb-false (ether_type_of f) 0x8902 t)))
      (if-known (eqb (ether_type_of f) 0x8902))

  said_of : (r : ReaderTells) × ReaderSaid f kind r
  said_of = ⊎_elim every-long (λ (n : Long f → ⊥). (refused 1, reader_1 n)) (long-or-not f)

says : (f : List ℕ) (kind : ℕ) → Octets f → ReaderSaid f kind (our_reader f kind)
says f kind w = let e = said_of f kind w in rw (follows f kind e.0 w e.1) e.1

-- ── what does not follow ──

-- an AIS whose one TLV, of type 3, holds the octet 7
alarm : List ℕ
alarm = 0 ∷ 0 ∷ 0 ∷ 0 ∷ 0 ∷ 0 ∷ 0 ∷ 0 ∷ 0 ∷ 0 ∷ 0 ∷ 0 ∷ 0x89 ∷ 0x02 ∷ 0 ∷ 33 ∷ 0 ∷ 0 ∷ 3 ∷ 0 ∷ 1 ∷ 7 ∷ 0 ∷ []

alarm-said : ReaderSaid alarm 3 (value (7 ∷ []))
unfolding alarm number number_lowest_first in_octets octets_lowest_first part
alarm-said =
    reader_value ((3, 7 ∷ []) ∷ []) (7 ∷ [])
    (record {
      oam = record { long = record { least = omega arith; most = omega arith }; ether = refl; head = omega arith };
      least = 0;
      opcode = in-box ais;
      offset = omega arith;
    })
    (one {t = 3} {v = 7 ∷ []} {rest = 0 ∷ []} {ts = []} (λ e. omega (arith, e)) (omega arith) (end {padding = []}))
    refl

alarm-octets : Octets alarm
unfolding alarm every
alarm-octets = octets-of alarm refl

pub reader-follows : ReaderFollows
reader-follows = record {
  ours = record { follows = follows };
  says = says;
  agrees = λ f kind r q w x y. sym (follows f kind r w x) ∙ follows f kind q w y;
  same = λ R Q g h f kind w. g.follows f kind (our_reader f kind) w (says f kind w)
      ∙ sym (h.follows f kind (our_reader f kind) w (says f kind w));
  finds_nothing = λ R g all. all alarm 3 (7 ∷ []) (g.follows alarm 3 (value (7 ∷ [])) alarm-octets alarm-said);
}
