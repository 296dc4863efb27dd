-- A record as it is laid, written and read: the statement of specs/Record.antt. Assumes nothing.
use Prim.Native.Nat.{ℕ, ◌+◌, ◌^◌, ◌≤◌, ◌<◌}
use mathlib.Core.Path.{◌≡◌, refl, sym, ap, ◌∙◌}
use mathlib.Core.List.{List, [], ◌++◌, append_assoc}
use mathlib.Core.Logic.{⊎_elim}
use native.Mathlib.Omega.{arith}
use lib.ListN.{length, length-append}
use Rattle.base_laws.specs.Lists.{part, laid}
use Rattle.base_laws.proofs.Tests.{known}
use Rattle.base_laws.proofs.Parts.{part-append, part-here, length_part}
use Rattle.base_laws.proofs.Apart.{part-front}
use Rattle.base_laws.proofs.Pieces.{first, more}
use Rattle.base_octets.specs.Octets.{Octets}
use Rattle.base_numbers.specs.Numbers.{little_endian, number, in_octets}
use Rattle.base_numbers.proofs.Laws.{length-octets, number-back, read_again}
use Rattle.stored_record.specs.Record.{head_of, record_of, length_field, kind_field, IsRecord, NoRecord, no_head, wrong_length}
use Rattle.stored_record.specs.Record.{wrong_kind, cut_short, is_record, Records}
use Rattle.stored_record.proofs.RecordTest.{record_to, record_from, none-to, none_from}

-- ── how long it is ──

pub head-long : (kind body : ℕ) → length (head_of kind body) ≡ 4
unfolding head_of
head-long kind body = simp (length-append, length-octets)

pub record_long : (kind : ℕ) (body : List ℕ) → length (record_of kind body) ≡ 4 + length body
unfolding record_of
record_long kind body = length-append (head_of kind (length body)) body ∙ ap (λ (n : ℕ). n + length body) (head-long kind (length body))

-- length, kind and body, laid one behind the other, are the record
pub record_laid : (kind : ℕ) (body l : List ℕ) {x y z : List ℕ} → 4 + length body ≤ length l
    → x ≡ laid 0 (in_octets little_endian 2 (length body + 2)) l → y ≡ laid 2 (in_octets little_endian 2 kind) x → z ≡ laid 4 body y
    → z ≡ laid 0 (record_of kind body) l
unfolding head_of record_of
record_laid kind body l h e f g =
    let same : length body + 2 ≡ 2 + length body = omega arith in
    let one = first 0 2 (in_octets little_endian 2 (2 + length body)) l (e ∙ ap (λ (n : ℕ). laid 0 (in_octets little_endian 2 n) l) same)
    (length-octets little_endian 2 (2 + length body)) in
    let two = more 2 (in_octets little_endian 2 kind) one f (length-octets little_endian 2 kind) (omega arith) in
    (more (length body) body two g refl (omega arith)).is

-- ── written and read ──

module _ (kind : ℕ) (body rest : List ℕ) (few : kind < 2 ^ 16) (short : 2 + length body < 2 ^ 16) where
  abbrev size : List ℕ
  size = in_octets little_endian 2 (2 + length body)

  abbrev sort : List ℕ
  sort = in_octets little_endian 2 kind

  -- the record's pieces side by side
  shape : record_of kind body ++ rest ≡ size ++ (sort ++ (body ++ rest))
  unfolding head_of record_of
  shape = simp append_assoc

  size_back : length_field (record_of kind body ++ rest) ≡ 2 + length body
  size_back =
      ap (number little_endian) (ap (part 0 2) shape
      ∙ part-here [] size (sort ++ (body ++ rest)) 0 2 refl (length-octets little_endian 2 (2 + length body)))
      ∙ number-back little_endian 2 (2 + length body) short

  kind_back : kind_field (record_of kind body ++ rest) ≡ kind
  kind_back =
      ap (number little_endian)
      (ap (part 2 2) (shape ∙ sym (append_assoc size sort (body ++ rest)))
      ∙ part-here size sort (body ++ rest) 2 2 (length-octets little_endian 2 (2 + length body)) (length-octets little_endian 2 kind))
      ∙ number-back little_endian 2 kind few

  pub body_back : part 4 (length body) (record_of kind body ++ rest) ≡ body
  unfolding record_of
  body_back = part-here (head_of kind (length body)) body rest 4 (length body) (head-long kind (length body)) refl

  pub is-written : IsRecord kind (length body) (record_of kind body ++ rest)
  is-written =
      let long : length (record_of kind body ++ rest) ≡ 4 + length body + length rest = length-append (record_of kind body) rest
      ∙ ap (λ (n : ℕ). n + length rest) (record_long kind body) in
      record { head = omega (arith, long); length_is = size_back; kind_is = kind_back; whole = omega (arith, long) }

module _ (kind body : ℕ) (octets : List ℕ) where
  pub record_again : Octets octets → IsRecord kind body octets → part 0 (4 + body) octets ≡ record_of kind (part 4 body octets)
  unfolding head_of record_of
  record_again all r =
      let long : length (part 4 body octets) ≡ body = length_part 4 body octets (omega (arith, r.whole)) in
      let size : part 0 2 octets ≡ in_octets little_endian 2 (2 + length (part 4 body octets)) =
      sym (read_again little_endian 2 0 octets (omega (arith, r.head)) all)
      ∙ ap (in_octets little_endian 2) (r.length_is ∙ ap (λ (n : ℕ). 2 + n) (sym long)) in
      let sort : part 2 2 octets ≡ in_octets little_endian 2 kind =
      sym (read_again little_endian 2 2 octets (omega (arith, r.head)) all) ∙ ap (in_octets little_endian 2) r.kind_is in
      part-append 0 4 body octets
      ∙ ap (λ (l : List ℕ). l ++ part 4 body octets)
      (part-append 0 2 2 octets ∙ ap (λ (l : List ℕ). l ++ part 2 2 octets) size
      ∙ ap (λ (l : List ℕ). in_octets little_endian 2 (2 + length (part 4 body octets)) ++ l) sort)

  pub front_alone : (rest : List ℕ) → 4 + body ≤ length octets → is_record kind body (octets ++ rest) ≡ is_record kind body octets
  front_alone rest h = ⊎_elim
      (λ t. record_from kind body (octets ++ rest) (longer (record_to kind body octets t)) ∙ sym t)
      (λ f. none_from kind body (octets ++ rest) (less (none-to kind body octets f)) ∙ sym f)
      (known (is_record kind body octets))
    where
      long : length (octets ++ rest) ≡ length octets + length rest
      long = length-append octets rest

      size : length_field (octets ++ rest) ≡ length_field octets
      size = ap (number little_endian) (part-front 0 2 octets rest (omega arith))

      sort : kind_field (octets ++ rest) ≡ kind_field octets
      sort = ap (number little_endian) (part-front 2 2 octets rest (omega arith))

      longer : IsRecord kind body octets → IsRecord kind body (octets ++ rest)
      longer r =
          record { head = omega (arith, long); length_is = size ∙ r.length_is; kind_is = sort ∙ r.kind_is; whole = omega (arith, long) }

      less : NoRecord kind body octets → NoRecord kind body (octets ++ rest)
      less (no_head n) = absurd (omega (arith, n))
      less (wrong_length n) = wrong_length (λ e. n (sym size ∙ e))
      less (wrong_kind n) = wrong_kind (λ e. n (sym sort ∙ e))
      less (cut_short n) = absurd (omega (arith, n))

pub records : Records
records = record {
  is = λ kind body octets. (record_to kind body octets, record_from kind body octets);
  is_not = λ kind body octets. (none-to kind body octets, none_from kind body octets);
  written = λ kind body rest few short. (is-written kind body rest few short, body_back kind body rest few short);
  again = record_again;
  front_alone = front_alone;
}
