-- What the paper says of a frame until it is known to be ours: the refusals that come before its rules, then rules 1 to 4. A line for each
-- sentence that decides something, in the paper's order; docs/TRACE.md has the sentence for each line. Each holds its whole condition, so
-- none leans on the line before it, and its whole outcome: the answer, the state and the buffer. Definitions only.
use Rattle.std.specs.Prelude.{ℕ, ◌≤◌, ◌<◌, ◌^◌, ◌+◌, ◌%◌, ◌≡◌, [], ◌∷◌, length}
use Rattle.state_view.specs.Changed as word
use Rattle.state_view.specs.Changed.{put}
use Rattle.state_view.specs.State.{State}
use Rattle.state_view.specs.WellFormed.{WellFormed}
use Rattle.frame_head.specs.Head.{ether_type_of, offset_of}
use Rattle.paper_said.specs.Calls.{active, Arrival, passive, refused, dropped, passed, Outcome, leaves}
use Rattle.paper_said.specs.Cases.{pdu, opcode, level, hold, OneOf, LengthGood, StampGood, Heeded, Counted, Oam, OwnLevel}
use Rattle.paper_said.specs.Drops.{Handled, D4, D5, D6, Sound, code, GoodCcm}
use Rattle.paper_said.specs.Taken.{DelayReply, BadDelay}

-- `Judged s a o`: to this frame in state s, the paper's outcome is o
pub data Judged (s : State) : Arrival → Outcome → Type 0 where
  -- ── a frame: refusals that come before its rules, in their order; each leaves state and buffer ──
  -- 2: the state
  frame_2 : (a : Arrival) → (WellFormed s → ⊥) → Judged s a (leaves (refused 2) s a.buffer)
  -- 1: the frame's length
  frame_1 : (a : Arrival) → WellFormed s → (LengthGood a → ⊥) → Judged s a (leaves (refused 1) s a.buffer)
  -- 6: one of the caller's stamps
  frame_6_receive : (a : Arrival) → WellFormed s → LengthGood a → (StampGood a.receive → ⊥) → Judged s a (leaves (refused 6) s a.buffer)
  frame_6_transmit : (a : Arrival) → WellFormed s → LengthGood a → (StampGood a.transmit → ⊥) → Judged s a (leaves (refused 6) s a.buffer)
  -- ── rule 1: what is counted passes, and steps the count of its side, modulo 2^32 ──
  rule_1_received : (a : Arrival) → Heeded s a → Counted a → a.side ≡ active
      → Judged s a (leaves passed (put word.received ((s.received + 1) % 2 ^ 32) s) a.buffer)
  rule_1_sent : (a : Arrival) → Heeded s a → Counted a → a.side ≡ passive
      → Judged s a (leaves passed (put word.sent ((s.sent + 1) % 2 ^ 32) s) a.buffer)
  -- ── rule 2 ──
  -- D1: too short for an OAM frame
  rule_2_d1 : (a : Arrival) → Heeded s a → ether_type_of a.octets ≡ 0x8902 → length a.octets < 18 → Judged s a (leaves (dropped 1) s a.buffer)
  -- above our level: it passes, from either side
  rule_2_above : (a : Arrival) → Oam s a → s.settings.level < level a → Judged s a (leaves passed s a.buffer)
  -- D2: our level or a lower one, from inside
  rule_2_passive : (a : Arrival) → Oam s a → a.side ≡ passive → level a ≤ s.settings.level → Judged s a (leaves (dropped 2) s a.buffer)
  -- ── rule 3: a lower level from outside is D2; where nothing else speaks against it, a CCM is remembered ──
  rule_3_ccm : (a : Arrival) → Oam s a → a.side ≡ active → level a < s.settings.level → GoodCcm s a
      → Judged s a (leaves (dropped 2) (put word.unexpected_level (hold s) s) a.buffer)
  rule_3_other : (a : Arrival) → Oam s a → a.side ≡ active → level a < s.settings.level → (GoodCcm s a → ⊥)
      → Judged s a (leaves (dropped 2) s a.buffer)
  -- ── rule 4: our own level, from outside; D3 to D7, the first that holds ──
  rule_4_d3 : (a : Arrival) → OwnLevel s a → ((least : ℕ) → Handled (opcode a) least → ⊥) → Judged s a (leaves (dropped 3) s a.buffer)
  rule_4_d4 : (a : Arrival) → OwnLevel s a → D4 a → Judged s a (leaves (dropped 4) s a.buffer)
  rule_4_d5 : (a : Arrival) (least : ℕ) → OwnLevel s a → Handled (opcode a) least → least ≤ offset_of (pdu a) → D5 a
      → Judged s a (leaves (dropped 5) s a.buffer)
  rule_4_d6 : (a : Arrival) (least : ℕ) → OwnLevel s a → Handled (opcode a) least → least ≤ offset_of (pdu a) → (D5 a → ⊥) → D6 s a
      → Judged s a (leaves (dropped 6) s a.buffer)
  -- D7: a CCM without a period
  rule_4_d7_ccm : (a : Arrival) → OwnLevel s a → Sound s a → opcode a ≡ 1 → code a ≡ 0 → Judged s a (leaves (dropped 7) s a.buffer)
  -- D7: an AIS or LCK of a period that is neither a second nor a minute
  rule_4_d7_alarm : (a : Arrival) → OwnLevel s a → Sound s a → OneOf (opcode a) (33 ∷ 35 ∷ []) → (OneOf (code a) (4 ∷ 6 ∷ []) → ⊥)
      → Judged s a (leaves (dropped 7) s a.buffer)
  -- D7: a DMR with a stamp that cannot be used
  rule_4_d7_delay : (a : Arrival) → DelayReply s a → BadDelay a → Judged s a (leaves (dropped 7) s a.buffer)
