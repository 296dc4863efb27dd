-- How writing settings ends, and the statement of specs/SettingsRecord.antt. Assumes nothing.
use Prim.Native.Nat.{ℕ, ◌+◌, ◌≤◌, ◌<◌}
use mathlib.Core.Path.{◌≡◌, refl, ap, ◌∙◌}
use mathlib.Core.List.{List}
use mathlib.Core.Bool.{Bool}
use mathlib.Core.Logic.{inl, ⊎_elim}
use native.Mathlib.Omega.{arith}
use lib.ListN.{length, drop}
use Rattle.std.specs.Prelude.{Result, Ok, Err}
use Rattle.base_laws.specs.Ended.{Wrote, wrote}
use Rattle.base_laws.specs.Lists.{laid}
use Rattle.base_octets.specs.Octets.{Octets}
use Rattle.state_settings.specs.Settings.{Settings, slots, Shaped}
use Rattle.base_laws.proofs.Tests.{fails, failed}
use Rattle.state_settings.proofs.Rules.{valid_is}
use Rattle.state_settings.specs.Valid.{Valid, valid}
use Rattle.stored_record.specs.declared.RecordRefusal.TheVariants as stored
use Rattle.stored_record.specs.declared.RecordTold.{RecordTold}
use Rattle.stored_record.specs.Writing.{write_record, record_told, record_numbers}
use Rattle.stored_record.proofs.Writing.{writing}
use Rattle.stored_settings_body.specs.Body.{settings_body}
use Rattle.stored_settings.specs.SettingsRecord.{body_size, record_size, settings_record, settings_read, read_settings, write_settings}
use Rattle.stored_settings.specs.SettingsRecord.{SettingsRecords}
use Rattle.stored_settings_body.proofs.Bodies.{bodies}
use Rattle.stored_record.specs.declared.RecordRefusal.{RecordRefusal}
use Rattle.stored_settings.proofs.SettingsWays.{keeps, passes, taken}
use Rattle.stored_settings.proofs.SettingsReads.{fits, way, seven-to, seven-from, zeros, gives, kept, again, alone, written}

-- from what the code knows: the record of this body, with this test
pub ends_write : (s : Settings) (buffer : List ℕ) {good : Bool} {body : List ℕ} {o : Wrote (Result ℕ RecordRefusal)} {t : RecordTold} → good ≡ valid s
    → body ≡ settings_body s
    → (o ≡ write_record good 1 body buffer) × (t ≡ record_numbers good body buffer)
    → (o ≡ write_settings s buffer) × (t ≡ record_numbers (valid s) (settings_body s) buffer)
unfolding write_settings
ends_write s buffer g b e = (e.0 ∙ rw (g, b), e.1 ∙ rw (g, b))

module _ (s : Settings) (buffer : List ℕ) where
  untouched : ((record_told (write_settings s buffer).answer).refusal ≡ 0 → ⊥) → (write_settings s buffer).buffer ≡ buffer
  unfolding write_settings
  untouched n = writing.refused (valid s) 1 (settings_body s) buffer n

  module _ (w : Shaped slots s) where
    size : length (settings_body s) ≡ body_size
    size = bodies.long slots s w

    four_to : (write_settings s buffer).answer ≡ Err stored.BreaksRule → Valid s → ⊥
    unfolding write_settings
    four_to e =
        ⊎_elim (failed (valid_is.valid_is s)) (λ n. absurd (omega (arith, n, size)))
        ((writing.refuses_4 (valid s) 1 (settings_body s) buffer).0 e)

    four_from : (Valid s → ⊥) → (write_settings s buffer).answer ≡ Err stored.BreaksRule
    unfolding write_settings
    four_from n = (writing.refuses_4 (valid s) 1 (settings_body s) buffer).1 (inl (fails (valid_is.valid_is s) n))

    three_to : (write_settings s buffer).answer ≡ Err stored.NoRoom → Valid s × (length buffer < record_size)
    unfolding write_settings
    three_to e =
        let r = (writing.refuses_3 (valid s) 1 (settings_body s) buffer).0 e in
        (keeps s r.0, omega (arith, r.2, size))

    three_from : Valid s × (length buffer < record_size) → (write_settings s buffer).answer ≡ Err stored.NoRoom
    unfolding write_settings
    three_from h =
        (writing.refuses_3 (valid s) 1 (settings_body s) buffer).1 (passes s h.0, omega (arith, size), omega (arith, h.1, size))

    writes : Valid s → record_size ≤ length buffer → write_settings s buffer ≡ wrote (Ok record_size)
        (laid 0 (settings_record s) buffer)
    unfolding write_settings
    writes v h =
        ap (λ (keep : Bool). write_record keep 1 (settings_body s) buffer) (passes s v)
        ∙ writing.writes 1 (settings_body s) buffer (omega (arith, size)) (omega (arith, size))
        ∙ ap (λ (n : ℕ). wrote (Ok (4 + n)) (laid 0 (settings_record s) buffer)) size

-- a record laid over a buffer stands in front of what is left of it
back : (s : Settings) (buffer : List ℕ) → Valid s → Shaped slots s → record_size ≤ length buffer
    → settings_read (read_settings (write_settings s buffer).buffer) ≡ s
unfolding laid
back s buffer v w h =
    let rest = drop (0 + length (settings_record s)) buffer in
    ap (λ (x : Wrote (Result ℕ RecordRefusal)). settings_read (read_settings x.buffer)) (writes s buffer w v h) ∙ (written s rest v w).1

pub settings-records : SettingsRecords
settings-records = record {
  length_is = refl;
  fits = fits;
  taken = taken;
  refuses_7 = λ octets. (seven-to octets (way octets), seven-from octets (way octets));
  zeros = λ octets. zeros octets (way octets);
  gives = gives;
  written = written;
  back = back;
  kept = kept;
  again = again;
  front_alone = alone;
  refuses_4 = λ s buffer w. (four_to s buffer w, four_from s buffer w);
  refuses_3 = λ s buffer w. (three_to s buffer w, three_from s buffer w);
  refused = untouched;
  writes = λ s buffer v w. writes s buffer w v;
}
