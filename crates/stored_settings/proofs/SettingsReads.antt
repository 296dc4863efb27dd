-- What reading settings means: the reader's part of specs/SettingsRecord.antt. Assumes nothing.
use Prim.Native.Nat.{ℕ, ◌≤◌}
use mathlib.Core.Path.{◌≡◌, sym, ap, ◌∙◌}
use mathlib.Core.List.{List, ◌++◌}
use mathlib.Core.Bool.{true, false, true≢false}
use mathlib.Core.Logic.{◌⊎◌, inl, inr, ⊎_elim}
use native.Mathlib.Omega.{arith}
use lib.Dec.{ltb}
use lib.ListN.{length}
use borrow.Author.Tests.{ltb-true, ltb-false}
use Rattle.base_laws.specs.Lists.{part}
use Rattle.base_laws.proofs.Tests.{failed, known}
use Rattle.base_laws.proofs.Parts.{length_part}
use Rattle.base_laws.proofs.Apart.{part-front}
use Rattle.base_octets.specs.Octets.{Octets}
use Rattle.base_octets.proofs.Octets.{part-octets}
use Rattle.state_settings.specs.Settings.{Settings, slots, Shaped}
use Rattle.state_settings.proofs.Rules.{valid_is}
use Rattle.state_settings.specs.Valid.{Valid, valid}
use Rattle.stored_record.specs.Record.{record_of, is_record, IsRecord, NoRecord}
use Rattle.stored_record.proofs.Laws.{records}
use Rattle.stored_settings_body.specs.declared.SettingsRead.{SettingsRead}
use Rattle.stored_settings_body.specs.Body.{settings_body, settings_in, FieldsHold}
use Rattle.stored_settings.specs.SettingsRecord.{body_size, record_size, settings_record, settings_at, refused_read, settings_read}
use Rattle.stored_settings.specs.SettingsRecord.{read_settings}
use Rattle.stored_settings_body.proofs.Bodies.{bodies}
use Rattle.stored_settings.proofs.SettingsWays.{keeps, passes, at_head, at-rule, at-given, long, lies}

pub fits : (s : Settings) → Valid s → Shaped slots s → FieldsHold s
fits s v w = record {
  level = omega (arith, v.level);
  mep = omega (arith, v.mep.most);
  period = omega (arith, v.period);
  count = omega (arith, v.slots, w.ids);
  ids = λ i.
      ⊎_elim
      (λ t. omega (arith, (v.used i (ltb-true i s.count t)).most))
      (λ t. omega (arith, v.unused i (ltb-false i s.count t)))
      (known (ltb i s.count));
}

module _ (octets : List ℕ) where
  abbrev t : Settings
  t = settings_at octets

  -- how reading may end, with what is known then
  pub data Way : Type 0 where
    no_record : is_record 1 body_size octets ≡ false → Way
    no-rule : is_record 1 body_size octets ≡ true → valid t ≡ false → Way
    all-good : is_record 1 body_size octets ≡ true → valid t ≡ true → Way

  pub way : Way
  way = ⊎_elim (λ h. ⊎_elim (all-good h) (no-rule h) (known (valid t))) no_record (known (is_record 1 body_size octets))

  refusal_is : {r : SettingsRead} → read_settings octets ≡ r → (read_settings octets).refusal ≡ r.refusal
  refusal_is e = ap (λ (x : SettingsRead). x.refusal) e

  pub seven-to : Way → (read_settings octets).refusal ≡ 7 → NoRecord 1 body_size octets ⊎ (Valid t → ⊥)
  seven-to (no_record h) e = inl ((records.is_not 1 body_size octets).0 h)
  seven-to (no-rule h k) e = inr (failed (valid_is.valid_is t) k)
  seven-to (all-good h k) e = absurd (omega (arith, refusal_is (at-given octets h k)))

  pub seven-from : Way → NoRecord 1 body_size octets ⊎ (Valid t → ⊥) → (read_settings octets).refusal ≡ 7
  seven-from (no_record h) w = refusal_is (at_head octets h)
  seven-from (no-rule h k) w = refusal_is (at-rule octets h k)
  seven-from (all-good h k) w =
      absurd (⊎_elim (λ n. true≢false (sym h ∙ (records.is_not 1 body_size octets).1 n)) (λ n. n (keeps t k)) w)

  pub zeros : Way → (read_settings octets).refusal ≡ 7 → read_settings octets ≡ refused_read
  zeros (no_record h) e = at_head octets h
  zeros (no-rule h k) e = at-rule octets h k
  zeros (all-good h k) e = absurd (omega (arith, refusal_is (at-given octets h k)))

  -- what is known of settings that were read
  record Found : Type 0 where
    is-record : is_record 1 body_size octets ≡ true
    is-valid : valid t ≡ true
    is_read : settings_read (read_settings octets) ≡ t

  good : is_record 1 body_size octets ≡ true → valid t ≡ true → Found
  good h k = record { is-record = h; is-valid = k; is_read = ap settings_read (at-given octets h k) ∙ lies octets h }

  found : Way → (read_settings octets).refusal ≡ 0 → Found
  found (no_record h) e = absurd (omega (arith, refusal_is (at_head octets h)))
  found (no-rule h k) e = absurd (omega (arith, refusal_is (at-rule octets h k)))
  found (all-good h k) e = good h k

  pub gives : IsRecord 1 body_size octets → Valid t → ((read_settings octets).refusal ≡ 0) × (settings_read (read_settings octets) ≡ t)
  gives r v =
      let h = (records.is 1 body_size octets).1 r in
      let k = passes t v in
      (refusal_is (at-given octets h k), (good h k).is_read)

  pub kept : (read_settings octets).refusal ≡ 0 → Valid (settings_read (read_settings octets))
  kept e =
      let f = found way e in
      keeps (settings_read (read_settings octets)) (ap valid f.is_read ∙ f.is-valid)

  pub again : Octets octets → (read_settings octets).refusal ≡ 0
      → part 0 record_size octets ≡ settings_record (settings_read (read_settings octets))
  again all e =
      let f = found way e in
      let body = part 4 body_size octets in
      let size : length body ≡ body_size = length_part 4 body_size octets (long octets f.is-record) in
      records.again 1 body_size octets all ((records.is 1 body_size octets).0 f.is-record)
      ∙ ap (record_of 1) (sym (bodies.again slots body size (part-octets 4 body_size octets all)))
      ∙ ap settings_record (sym f.is_read)

  pub alone : (rest : List ℕ) → record_size ≤ length octets → read_settings (octets ++ rest) ≡ read_settings octets
  unfolding read_settings
  alone rest h = rw (records.front_alone 1 body_size octets rest h, part-front 4 body_size octets rest h)

pub written : (s : Settings) (rest : List ℕ) → Valid s → Shaped slots s
    → ((read_settings (settings_record s ++ rest)).refusal ≡ 0) × (settings_read (read_settings (settings_record s ++ rest)) ≡ s)
written s rest v w =
    let octets = settings_record s ++ rest in
    let size = bodies.long slots s w in
    let r = records.written 1 (settings_body s) rest (omega arith) (omega (arith, size)) in
    let is : IsRecord 1 body_size octets = rw size at r.0 in
    let here : part 4 body_size octets ≡ settings_body s = rw size at r.1 in
    let same : settings_at octets ≡ s = ap (settings_in slots) here ∙ bodies.back slots s w (fits s v w) in
    let g = gives octets is (keeps (settings_at octets) (ap valid same ∙ passes s v)) in
    (g.0, g.1 ∙ same)
