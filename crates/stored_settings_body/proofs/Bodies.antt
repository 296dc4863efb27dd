-- The statement of specs/Body.antt: settings there and back. Assumes nothing.
use Prim.Native.Nat.{ℕ, ◌+◌, ◌*◌, ◌^◌, ◌≤◌, ◌<◌}
use mathlib.Core.Path.{◌≡◌, refl, sym, ap, ap₂, ◌∙◌}
use mathlib.Core.List.{List, [], ◌++◌, append_assoc}
use native.Mathlib.Omega.{arith}
use lib.ListN.{length, drop, length-append, length-drop}
use lib.Seq.{drop_at, get_or-drop}
use Rattle.base_laws.specs.Lists.{part}
use Rattle.base_laws.proofs.Parts.{part_among, part-next, part-whole, drop-part, length_part}
use Rattle.base_octets.specs.Octets.{Octets}
use Rattle.base_numbers.specs.Numbers.{little_endian}
use Rattle.base_numbers.proofs.Laws.{length-octets, number_among, read_again}
use Rattle.state_settings.specs.Settings.{Settings, Shaped}
use Rattle.stored_settings_body.specs.Body.{field, field_at, fields_before, ids_octets, ids_in, settings_body, body_length, settings_in}
use Rattle.stored_settings_body.specs.Body.{FieldsHold, Bodies}
use Rattle.stored_settings_body.proofs.Ids.{ids-long, read-long, ids_at, ids_back, ids_again}
use Rattle.stored_settings_body.proofs.Laid.{fields-long}

-- ── settings from their body ──

pub long : (n : ℕ) (s : Settings) → Shaped n s → length (settings_body s) ≡ body_length n
unfolding settings_body
long n s w = rw (length-append, fields-long n s w) (omega (arith, ids-long s.ids))

-- each field where it stands: what is before it is as long as its place says
module _ (n : ℕ) (s : Settings) (w : Shaped n s) where
  abbrev level : List ℕ
  level = field 1 s.level

  abbrev mep : List ℕ
  mep = field 2 s.mep

  abbrev period : List ℕ
  period = field 1 s.period

  abbrev count : List ℕ
  count = field 1 s.count

  abbrev ids : List ℕ
  ids = ids_octets s.ids

  level-here : s.level < 256 → field_at 0 1 (settings_body s) ≡ s.level
  unfolding fields_before settings_body
  level-here h =
      number_among little_endian 1 s.level [] (mep ++ s.own ++ period ++ s.meg ++ s.losspeer ++ count ++ ids) 0
      (simp append_assoc) refl h

  mep-here : s.mep < 2 ^ 16 → field_at 1 2 (settings_body s) ≡ s.mep
  unfolding fields_before settings_body
  mep-here h =
      number_among little_endian 2 s.mep level (s.own ++ period ++ s.meg ++ s.losspeer ++ count ++ ids) 1 (simp append_assoc)
      (simp length-octets) h

  own-here : part 3 6 (settings_body s) ≡ s.own
  unfolding fields_before settings_body
  own-here =
      part_among (level ++ mep) s.own (period ++ s.meg ++ s.losspeer ++ count ++ ids) 3 6 (simp append_assoc)
      (simp (length-append, length-octets)) w.own

  period-here : s.period < 256 → field_at 9 1 (settings_body s) ≡ s.period
  unfolding fields_before settings_body
  period-here h =
      number_among little_endian 1 s.period (level ++ mep ++ s.own) (s.meg ++ s.losspeer ++ count ++ ids) 9 (simp append_assoc)
      (simp (length-append, length-octets) (omega arith)) h

  meg-here : part 10 48 (settings_body s) ≡ s.meg
  unfolding fields_before settings_body
  meg-here =
      part_among (level ++ mep ++ s.own ++ period) s.meg (s.losspeer ++ count ++ ids) 10 48 (simp append_assoc)
      (simp (length-append, length-octets) (omega arith)) w.meg

  losspeer-here : part 58 6 (settings_body s) ≡ s.losspeer
  unfolding fields_before settings_body
  losspeer-here =
      part_among (level ++ mep ++ s.own ++ period ++ s.meg) s.losspeer (count ++ ids) 58 6 (simp append_assoc)
      (simp (length-append, length-octets) (omega arith)) w.losspeer

  count-here : s.count < 256 → field_at 64 1 (settings_body s) ≡ s.count
  unfolding fields_before settings_body
  count-here h =
      number_among little_endian 1 s.count (level ++ mep ++ s.own ++ period ++ s.meg ++ s.losspeer) ids 64 refl
      (simp (length-append, length-octets) (omega arith)) h

  ids-here : drop 65 (settings_body s) ≡ ids_octets s.ids
  unfolding settings_body
  ids-here = drop_at (fields_before s) (ids_octets s.ids) 65 (fields-long n s w)

pub back : (n : ℕ) (s : Settings) → Shaped n s → FieldsHold s → settings_in n (settings_body s) ≡ s
back n s w k =
    let same : ids_in n (ids_octets s.ids) ≡ s.ids = ap (λ (m : ℕ). ids_in m (ids_octets s.ids)) (sym w.ids)
    ∙ ids_back s.ids k.ids in
    rw (
      level-here n s w k.level,
      mep-here n s w k.mep,
      period-here n s w k.period,
      count-here n s w k.count,
      own-here n s w,
      losspeer-here n s w,
      meg-here n s w,
      ids-here n s w,
      same,
    )

-- ── a body from its settings ──

-- each field spelled again is the part that it was read from; side by side, with what stands behind them, they are the body
pub again : (n : ℕ) (body : List ℕ) → length body ≡ body_length n → Octets body → settings_body (settings_in n body) ≡ body
unfolding fields_before settings_body
again n body l h =
    let rest = drop 65 body in
    let few : length rest ≡ 2 * n = length-drop 65 body ∙ omega arith in
    let last : ids_octets (ids_in n rest) ≡ rest =
    ids_again n rest (omega arith) (λ k. rw (get_or-drop 65 body k 0) (h (65 + k))) ∙ part-whole (2 * n) rest few in
    let field-again : (k at : ℕ) → at + k ≤ 65 → field k (field_at at k body) ≡ part at k body =
    λ k at fits. read_again little_endian k at body (omega arith) h in
    let p1 = part-next body 0 1 2 (field-again 1 0 (omega arith)) (field-again 2 1 (omega arith)) in
    let p2 = part-next body 0 3 6 p1 refl in
    let p3 = part-next body 0 9 1 p2 (field-again 1 9 (omega arith)) in
    let p4 = part-next body 0 10 48 p3 refl in
    let p5 = part-next body 0 58 6 p4 refl in
    let p6 = part-next body 0 64 1 p5 (field-again 1 64 (omega arith)) in
    ap₂ ◌++◌ p6 last ∙ sym (drop-part 0 65 body)

pub shaped : (n : ℕ) (body : List ℕ) → body_length n ≤ length body → Shaped n (settings_in n body)
shaped n body h = record {
  own = length_part 3 6 body (omega arith);
  losspeer = length_part 58 6 body (omega arith);
  meg = length_part 10 48 body (omega arith);
  ids = read-long n (drop 65 body);
}

pub bodies : Bodies
bodies = record {
  ids_at = ids_at;
  ids_back = ids_back;
  ids_again = ids_again;
  back = back;
  again = again;
  long = long;
  shaped = shaped;
}
