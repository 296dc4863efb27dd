-- How reading settings ends: one law for each way, and the same from what the code knows. Assumes nothing.
use Prim.Native.Nat.{ℕ, ◌≤◌}
use mathlib.Core.Path.{◌≡◌, refl, sym, ap, ◌∙◌}
use mathlib.Core.List.{List}
use mathlib.Core.Bool.{Bool, true, false, not}
use native.Mathlib.Omega.{arith}
use lib.ListN.{length, replicate}
use borrow.Author.Tests.{not-true, not-false}
use Rattle.base_laws.specs.Tests.{choose}
use Rattle.base_laws.specs.Lists.{part, laid}
use Rattle.base_laws.proofs.Parts.{length_part}
use Rattle.base_laws.proofs.Apart.{laid-whole}
use Rattle.state_settings.specs.Settings.{Settings, slots}
use Rattle.state_settings.specs.Valid.{Valid, valid}
use Rattle.state_settings.proofs.Rules.{valid_is}
use Rattle.stored_record.specs.Record.{is_record}
use Rattle.stored_record.proofs.Laws.{records}
use Rattle.stored_settings_body.specs.declared.SettingsRead.{SettingsRead}
use Rattle.stored_settings_body.specs.Body.{settings_in}
use Rattle.stored_settings.specs.SettingsRecord.{body_size, record_size, settings_at, refused_read, settings_read, read_settings}
use Rattle.stored_settings_body.proofs.Bodies.{bodies}
use Rattle.stored_settings_body.specs.Lying.{given}
use Rattle.stored_settings_body.proofs.Lying.{lying-back}

-- the test and the rules
pub keeps : (s : Settings) → valid s ≡ true → Valid s
keeps s = (valid_is.valid_is s).0

pub passes : (s : Settings) → Valid s → valid s ≡ true
passes s = (valid_is.valid_is s).1

-- what a body holds is read off its arrays
pub taken : (body : List ℕ) → body_size ≤ length body → settings_read (given (settings_in slots body)) ≡ settings_in slots body
taken body h = lying-back slots (settings_in slots body) (bodies.shaped slots body h)

-- ── reading: one law for each way ──

module _ (octets : List ℕ) where
  abbrev s : Settings
  s = settings_at octets

  pub at_head : is_record 1 body_size octets ≡ false → read_settings octets ≡ refused_read
  unfolding read_settings choose
  at_head h = rw h

  pub at-rule : is_record 1 body_size octets ≡ true → valid s ≡ false → read_settings octets ≡ refused_read
  unfolding read_settings choose
  at-rule h k = rw (h, k)

  pub at-given : is_record 1 body_size octets ≡ true → valid s ≡ true → read_settings octets ≡ given s
  unfolding read_settings choose
  at-given h k = rw (h, k)

  -- the settings of a record lie in their arrays
  pub long : is_record 1 body_size octets ≡ true → record_size ≤ length octets
  long h = omega (arith, ((records.is 1 body_size octets).0 h).whole)

  pub lies : is_record 1 body_size octets ≡ true → settings_read (given s) ≡ s
  lies h = taken (part 4 body_size octets) (omega (arith, length_part 4 body_size octets (long h)))

  -- the same from what the code knows
  pub ends-head : {b : Bool} → b ≡ is_record 1 body_size octets → not b ≡ true → refused_read ≡ read_settings octets
  ends-head {b} e h = sym (at_head (sym e ∙ not-true b h))

  module _ {b : Bool} (e : b ≡ is_record 1 body_size octets) (h : not b ≡ false) where
    is : is_record 1 body_size octets ≡ true
    is = sym e ∙ not-false b h

    pub long-enough : record_size ≤ length octets
    long-enough = long is

    -- a body that was copied whole is the record's
    pub copied : {body : List ℕ} → body ≡ laid 0 (part 4 body_size octets) (replicate body_size 0) → body ≡ part 4 body_size octets
    copied laid-over =
        laid-over ∙ laid-whole (replicate body_size 0) (part 4 body_size octets) body_size refl (length_part 4 body_size octets long-enough)

    module _ {body : List ℕ} {d : Bool} {r : SettingsRead} (l : r ≡ given (settings_in slots body)) (stands : body ≡ part 4 body_size octets)
        (f : d ≡ valid (settings_read r)) where
      lain : r ≡ given s
      lain = l ∙ ap (λ (x : List ℕ). given (settings_in slots x)) stands

      same : valid s ≡ d
      same = ap valid (sym (lies is)) ∙ ap (λ (x : SettingsRead). valid (settings_read x)) (sym lain) ∙ sym f

      pub ends-rule : not d ≡ true → refused_read ≡ read_settings octets
      ends-rule k = sym (at-rule is (same ∙ not-true d k))

      pub ends-given : not d ≡ false → r ≡ read_settings octets
      ends-given k = lain ∙ sym (at-given is (same ∙ not-false d k))
