-- The edges that the paper marks P, in its order: each row is a sentence, and `Edges` says that every row holds. Rows of crates that are
-- still to come are added with them. Definitions and the statement only.
use Rattle.std.specs.Prelude.{ℕ, ◌/◌, ◌%◌, ◌^◌, ◌≤◌, ◌<◌, ◌≡◌, true, List, [], ◌∷◌, ◌++◌, map, ℤ, pos, negsuc, length, get_or, replicate, Ok}
use Rattle.base_laws.specs.Lists.{part}
use Rattle.base_clock.specs.Run.{after}
use Rattle.state_settings.specs.Settings.{Settings, slots}
use Rattle.state_settings.specs.Valid.{Valid}
use Rattle.call_setting.specs.Start.{start_of}
use Rattle.call_conditions.specs.Conditions.{conditions_of}
use Rattle.call_tick.specs.Tick.{tick_of}
use Rattle.base_bits.specs.Fields.{first_octet, mep_id}
use Rattle.base_numbers.specs.Numbers.{number, big_endian}
use Rattle.loss_session.specs.declared.Readings.{Readings}
use Rattle.loss_growth.specs.Growth.{growth}
use Rattle.loss_session.specs.Session.{readings, cleared_session}
use Rattle.loss_reading.specs.Reading.{after_reading}
use Rattle.loss_reading.specs.Told.{loss_told}
use Rattle.loss_reading.specs.Told as Loss
use Rattle.loss_account.specs.Demand3.{answers}
use Rattle.base_stamp.specs.declared.Stamp.{Stamp}
use Rattle.base_stamp.specs.Stamps.{not_given}
use Rattle.receive_delay.specs.Told as Delay
use Rattle.frame_head.specs.Head.{level_of, version_of}
use Rattle.frame_reader.specs.Reader.{answer_of, value_of}
use Rattle.frame_reader.specs.Numbers as Reader
use Rattle.frame_reader_answer.specs.Told as Reasons
use Rattle.frame_message.specs.Message.{message_of}
use Rattle.frame_ccm.specs.Ccm.{is_ccm, ccm_of, meg_of}
use Rattle.frame_tlvs.specs.Tlvs.{Tlvs}

-- ── the words of the rows ──

-- a PDU's first octet says this level and this version, whatever is behind it
abbrev pub says : ℕ → ℕ → ℕ → Type 0
says first level version = (rest : List ℕ) → (level_of (first ∷ rest) ≡ level) × (version_of (first ∷ rest) ≡ version)

-- a count's growth from one reading to a later one
abbrev pub grows : ℕ → ℕ → ℕ → Type 0
grows earlier later by = growth (2 ^ 32) earlier later ≡ by

-- a cleared session is given two readings: it keeps the first, and is answered these losses at the second
abbrev pub Loses : Readings → Readings → ℤ → ℤ → Type 0
Loses first second far near = map loss_told (answers after_reading cleared_session (first ∷ second ∷ [])) ≡ Loss.results (pos 0) (pos 0) ∷ Loss.results near far ∷ []

-- seconds and nanoseconds
abbrev pub at : ℕ → ℕ → Stamp
at seconds nanoseconds = record { seconds = seconds; nanoseconds = nanoseconds }

-- TxTimeStampf, RxTimeStampf, TxTimeStampb and the receive stamp give these delays
abbrev pub takes : Stamp → Stamp → Stamp → Stamp → ℤ → ℤ → ℤ → Type 0
takes txf rxf txb here twoway far near = Delay.delay_numbers txf rxf txb here ≡ Delay.results twoway far near

-- a new setting of period code 1, no CCM, and so many ticks with room for ours: conditions are not refused, and answer this of each peer's
-- loss of continuity
abbrev pub Silent : ℕ → ℕ → Type 0
Silent ticks loss_told = (t : Settings) (buffer : List ℕ) (slot : ℕ) → Valid t → t.period ≡ 1 → 89 ≤ length buffer → slot < t.count → slot < slots
    → ((conditions_of (after (λ s b. (tick_of s b).state) (start_of t) (replicate ticks buffer))).refusal ≡ 0)
    × (get_or (conditions_of (after (λ s b. (tick_of s b).state) (start_of t) (replicate ticks buffer))).conditions.lost slot 0 ≡ loss_told)

-- a CCM's frame: addresses, 89-02, level and version, opcode 1, flags, TLV offset, and the octets behind it
abbrev pub ccm_frame : List ℕ → ℕ → ℕ → ℕ → List ℕ → List ℕ
ccm_frame addresses first flags offset behind = addresses ++ (0x89 ∷ 0x02 ∷ first ∷ 1 ∷ flags ∷ offset ∷ behind)

-- two frames are the same message with the same fields and the same TLVs
pub record SameMessage (f g : List ℕ) : Type 0 where
  pub message : message_of f ≡ message_of g
  pub fields : ccm_of f ≡ ccm_of g
  pub meg : meg_of f ≡ meg_of g
  pub answers : (kind : ℕ) → answer_of f kind ≡ answer_of g kind
  pub values : (kind : ℕ) → value_of f kind ≡ value_of g kind

-- a CCM's fields are what its flags and the first 70 octets behind its offset say
pub record ReadsFirst (flags : ℕ) (fixed f : List ℕ) : Type 0 where
  pub fields : is_ccm f ≡ true → ccm_of f ≡ record {
    sequence = number big_endian (part 0 4 fixed);
    mep = mep_id (number big_endian (part 4 2 fixed));
    txfcf = number big_endian (part 54 4 fixed);
    rxfcb = number big_endian (part 58 4 fixed);
    txfcb = number big_endian (part 62 4 fixed);
    period = flags % 8;
    rdi = flags / 128;
  }
  pub meg : is_ccm f ≡ true → meg_of f ≡ part 6 48 fixed

-- a CCM of version 1 with offset 74 reads as the first 70 octets behind it say, and as the one with offset 70, for any 70 octets, any four
-- after them and any TLVs; the level, the flags and the first octet of the other are free too
abbrev pub FourMore : Type 0
FourMore = (addresses fixed extra tlvs : List ℕ) (level first flags : ℕ) → length addresses ≡ 12 → length fixed ≡ 70 → length extra ≡ 4 → length tlvs ≤ 1422
    → SameMessage (ccm_frame addresses (first_octet level 1) flags 74 (fixed ++ extra ++ tlvs)) (ccm_frame addresses first flags 70 (fixed ++ tlvs))
    × ReadsFirst flags fixed (ccm_frame addresses (first_octet level 1) flags 74 (fixed ++ extra ++ tlvs))

-- and it is read as a CCM, where it has a period and its TLVs have their end
abbrev pub IsRead : Type 0
IsRead = (addresses fixed extra tlvs : List ℕ) (level flags : ℕ) (ts : List (ℕ × List ℕ)) → length addresses ≡ 12 → length fixed ≡ 70
    → length extra ≡ 4 → length tlvs ≤ 1422 → Tlvs tlvs ts → (flags % 8 ≡ 0 → ⊥)
    → (message_of (ccm_frame addresses (first_octet level 1) flags 74 (fixed ++ extra ++ tlvs)) ≡ Ok 1)
    × (is_ccm (ccm_frame addresses (first_octet level 1) flags 74 (fixed ++ extra ++ tlvs)) ≡ true)

-- one with offset 69 is D4, whatever else it holds
abbrev pub OneLess : Type 0
OneLess = (addresses behind : List ℕ) (first flags kind : ℕ) → length addresses ≡ 12 → length behind ≤ 1496
    → Reader.tlv_numbers (ccm_frame addresses first flags 69 behind) kind ≡ Reasons.tell_tlv 0 4 0

-- ── the table; `negsuc n` is -(n + 1) ──

abbrev pub table : List (Type 0)
table =
    says 160 5 0
    ∷ says 225 7 1
    ∷ grows 4294967290 10 16
    ∷ grows 5 5 0
    ∷ Loses (readings 100 100 50 50) (readings 200 198 60 61) (pos 2) (negsuc 0)
    ∷ ((still : ℕ) → still < 2 ^ 32 → Loses (readings 0 0 still 0) (readings 0 0 still 4294967295) (pos 0) (negsuc 4294967294))
    ∷ Silent 6 0
    ∷ Silent 7 1
    ∷ takes (at 10 0) (at 10 400) (at 10 900) (at 10 1200) (pos 700) (pos 400) (pos 300)
    ∷ takes (at 10 0) not_given not_given (at 10 1200) (pos 1200) (pos 0) (pos 0)
    ∷ takes (at 10 0) not_given not_given (at 9 999999999) (negsuc 0) (pos 0) (pos 0)
    ∷ FourMore
    ∷ IsRead
    ∷ OneLess
    ∷ []

abbrev pub AllHold : List (Type 0) → Type 0
AllHold [] = Unit {0}
AllHold (row ∷ rows) = row × AllHold rows

-- the paper's worked edges of the first octet, growth, loss, a lost peer, delay, and a CCM's offset, with which it is still read as a
-- CCM: one table
abbrev pub Edges : Type 0
Edges = AllHold table
