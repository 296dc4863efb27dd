-- The paper says something of every call on records, and what does not follow it is shut out. Assumes nothing.
use Prim.Native.Nat.{ℕ, ◌≤◌, ◌<◌}
use mathlib.Core.Path.{◌≡◌, refl, sym, ap, ◌∙◌}
use mathlib.Core.List.{List}
use mathlib.Core.Bool.{Bool, true, true≢false}
use mathlib.Core.Logic.{◌⊎◌, inl, inr, ⊎_elim}
use native.Mathlib.Omega.{arith}
use lib.Dec.{ltb}
use lib.IntN.{pos}
use lib.ListN.{length, get_or, replicate}
use borrow.Author.Tests.{ltb-true, ltb-false}
use Rattle.base_laws.specs.Lists.{laid}
use Rattle.base_laws.proofs.Tests.{known}
use Rattle.state_settings.specs.Settings.{Settings}
use Rattle.state_settings.specs.Valid.{Valid, valid}
use Rattle.state_settings.proofs.Rules.{valid_is}
use Rattle.base_numbers.specs.Numbers.{in_octets, octets_lowest_first}
use Rattle.stored_record.specs.Record.{head_of, record_of, IsRecord, NoRecord, is_record}
use Rattle.stored_record.proofs.Laws.{records}
use Rattle.stored_settings.specs.SettingsRecord.{settings_at}
use Rattle.stored_line.specs.declared.LossLine.{LossLine}
use Rattle.stored_line.specs.Line.{KeepsRules, keeps_rules, line_body, line_record, line_in}
use Rattle.stored_line.proofs.LineRecords.{loss-records}
use Rattle.paper_beside.specs.Records.{RecordCall, read-settings, write-settings, read-line, write-line, RecordTells, refused}
use Rattle.paper_beside.specs.Records.{settings, line, written, RecordLeft, leaving, Handed, RecordSaid, settings_7_record}
use Rattle.paper_beside.specs.Records.{settings_7_rule, settings_given, settings_4, settings_3, settings_written, line_7_record}
use Rattle.paper_beside.specs.Records.{line_7_rule, line_given, line_4, line_3, line_written, our_records, FollowsRecords}
use Rattle.paper_beside.specs.Records.{RecordsFollow}
use Rattle.paper_beside.proofs.RecordsTold.{follows}

-- ── of every call ──

-- a test decides
either : (P : Type 0) (b : Bool) → (b ≡ true → P) → (P → b ≡ true) → P ⊎ (P → ⊥)
either P b to from = ⊎_elim (λ t. inl (to t)) (λ f. inr (λ p. true≢false (sym (from p) ∙ f))) (known b)

recorded : (kind body : ℕ) (octets : List ℕ) → IsRecord kind body octets ⊎ NoRecord kind body octets
recorded kind body octets =
    ⊎_elim (λ t. inl ((records.is kind body octets).0 t)) (λ f. inr ((records.is_not kind body octets).0 f))
    (known (is_record kind body octets))

-- is there room for n octets?
room : (b : List ℕ) (n : ℕ) → (n ≤ length b) ⊎ (length b < n)
room b n = ⊎_elim (λ t. inr (ltb-true (length b) n t)) (λ f. inl (ltb-false (length b) n f)) (known (ltb (length b) n))

is-settings : (s : Settings) → Valid s ⊎ (Valid s → ⊥)
is-settings s = either (Valid s) (valid s) (valid_is.valid_is s).0 (valid_is.valid_is s).1

is-line : (l : LossLine) → KeepsRules l ⊎ (KeepsRules l → ⊥)
is-line l = either (KeepsRules l) (keeps_rules l) (loss-records.rules l).0 (loss-records.rules l).1

-- one of three sentences speaks, by two tests in turn: the first fails, the second does, or neither
in_turn : {P Q N M : Type 0} {c : RecordCall} {x y z : RecordLeft} → P ⊎ N → Q ⊎ M
    → (N → RecordSaid c x) → (P → M → RecordSaid c y) → (P → Q → RecordSaid c z) → (o : RecordLeft) × RecordSaid c o
in_turn (inr n) q f g h = (_, f n)
in_turn (inl p) (inr m) f g h = (_, g p m)
in_turn (inl p) (inl q) f g h = (_, h p q)

every : (c : RecordCall) → Handed c → (o : RecordLeft) × RecordSaid c o
every (read-settings octets) h =
    in_turn (recorded 1 81 octets) (is-settings (settings_at octets))
    (settings_7_record octets) (λ r. settings_7_rule octets) (settings_given octets)
every (write-settings s b) h = in_turn (is-settings s) (room b 85) (settings_4 s b) (settings_3 s b) (settings_written s b)
every (read-line octets) h =
    in_turn (recorded 2 20 octets) (is-line (line_in octets)) (line_7_record octets) (λ r. line_7_rule octets) (line_given octets)
every (write-line l b) h = in_turn (is-line l) (room b 24) (line_4 l b) (line_3 l b) (line_written l b)

says : (c : RecordCall) → Handed c → RecordSaid c (our_records c)
says c h = let e = every c h in rw (follows c e.0 h e.1) e.1

-- ── what does not follow ──

-- a line of no interval, and 24 octets of zeros to write it into
nothing : LossLine
nothing = record { near = pos 0; far = pos 0; intervals = 0 }

zeros : List ℕ
zeros = replicate 24 0

nothing_written : RecordSaid (write-line nothing zeros) (leaving (written 24) (laid 0 (line_record nothing) zeros))
unfolding nothing zeros
nothing_written =
    line_written (record { near = pos 0; far = pos 0; intervals = 0 }) (replicate 24 0)
    (record { few = omega arith; near = omega arith; far = omega arith }) (omega arith)

-- an answer that is no refusal
is_written : RecordTells → ℕ
is_written (refused n) = 0
is_written (settings s) = 0
is_written (line l) = 0
is_written (written n) = 1

refuses_all : (R : RecordCall → RecordLeft) → FollowsRecords R → ((c : RecordCall) → (n : ℕ) × ((R c).answer ≡ refused n)) → ⊥
unfolding is_written
refuses_all R f all =
    let e = f.follows (write-line nothing zeros) _ tt nothing_written in
    let w = all (write-line nothing zeros) in
    omega (arith, ap is_written (sym (ap (λ (o : RecordLeft). o.answer) e) ∙ w.1))

-- the record's first octet is 22, and not 0
first-octet : get_or (laid 0 (line_record nothing) zeros) 0 0 ≡ 22
unfolding nothing zeros laid head_of record_of line_body in_octets octets_lowest_first
first-octet = refl

writes_nothing : (R : RecordCall → RecordLeft) → FollowsRecords R → ((l : LossLine) (b : List ℕ) → (R (write-line l b)).buffer ≡ b) → ⊥
unfolding zeros
writes_nothing R f all =
    let e = f.follows (write-line nothing zeros) _ tt nothing_written in
    let same : laid 0 (line_record nothing) zeros ≡ zeros = sym (ap (λ (o : RecordLeft). o.buffer) e) ∙ all nothing zeros in
    let zero : get_or zeros 0 0 ≡ 0 = refl in
    omega (arith, first-octet, ap (λ (l : List ℕ). get_or l 0 0) same, zero)

agrees : (c : RecordCall) (o p : RecordLeft) → Handed c → RecordSaid c o → RecordSaid c p → o ≡ p
agrees c o p h x y = sym (follows c o h x) ∙ follows c p h y

pub records_follow : RecordsFollow
records_follow = record {
  ours = record { follows = follows };
  says = says;
  agrees = agrees;
  same = λ R Q f g c h. f.follows c (our_records c) h (says c h) ∙ sym (g.follows c (our_records c) h (says c h));
  refuses_all = refuses_all;
  writes_nothing = writes_nothing;
}
