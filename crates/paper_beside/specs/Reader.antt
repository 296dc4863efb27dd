-- The reader of TLVs, as the paper's lines: "What is in a PDU". It is given a frame alone and the TLV type that is asked for, and tests 1,
-- D1, D3, D4 and D5. Each line holds its whole condition and its whole outcome. Definitions and the statement only.
use Rattle.std.specs.Prelude.{Bool, false, true, ℕ, ◌≤◌, ◌<◌, ◌≡◌, List, length, drop, Result, Ok, Err}
use Rattle.std.proofs.Math.Option.{some, none}
use Rattle.base_octets.specs.Octets.{Octets}
use Rattle.frame_reader_answer.specs.declared.Bad.{Bad}
use Rattle.frame_reader_answer.specs.declared.Bad.TheVariants.{Length, Short, Opcode, Offset, CutOff}
use Rattle.frame_head.specs.Head.{ether_type_of, pdu_of, opcode_of, offset_of, start_of}
use Rattle.frame_reader.specs.Reader.{answer_of, value_of}
use Rattle.frame_tlvs.specs.Tlvs.{Tlvs, first_of}
use Rattle.paper_said.specs.Drops.{Handled}

-- ── how far a frame gets ──

-- 14 to 1,514 octets; refusal 1 is due where this does not hold
pub record Long (f : List ℕ) : Type 0 where
  pub least : 14 ≤ length f
  pub most : length f ≤ 1514

-- an OAM frame that has all four octets before a fixed part
pub record OamFrame (f : List ℕ) : Type 0 where
  pub long : Long f
  pub ether : ether_type_of f ≡ 0x8902
  pub head : 18 ≤ length f

-- the nine opcodes of the paper's table, each with its offset: those that a box handles, and the loopback reply
pub data InTable : ℕ → ℕ → Type 0 where
  handled : {op least : ℕ} → Handled op least → InTable op least
  lbr : InTable 2 4

-- past D1, D3 and D4: an offset of at least what the table gives the opcode
pub record Offered (f : List ℕ) : Type 0 where
  pub oam : OamFrame f
  pub least : ℕ
  pub opcode : InTable (opcode_of (pdu_of f)) least
  pub offset : least ≤ offset_of (pdu_of f)

-- these are its TLVs, from its own offset on, with the End TLV behind them
abbrev pub TlvsOf : List ℕ → List (ℕ × List ℕ) → Type 0
TlvsOf f ts = Tlvs (drop (start_of (pdu_of f)) (pdu_of f)) ts

-- ── what the reader answers ──
pub data ReaderTells : Type 0 where
  refused : ℕ → ReaderTells
  dropped : ℕ → ReaderTells
  value : List ℕ → ReaderTells
  no_such : ReaderTells

-- `ReaderSaid f kind r`: of this frame, asked for the TLV of this type, the paper's reader answers r
pub data ReaderSaid (f : List ℕ) (kind : ℕ) : ReaderTells → Type 0 where
  -- 1: the frame's length
  reader_1 : (Long f → ⊥) → ReaderSaid f kind (refused 1)
  -- D3: a service frame
  service_d3 : Long f → (ether_type_of f ≡ 0x8902 → ⊥) → ReaderSaid f kind (dropped 3)
  -- D1: too short for an OAM frame
  reader_d1 : Long f → ether_type_of f ≡ 0x8902 → length f < 18 → ReaderSaid f kind (dropped 1)
  -- D3: an opcode that is not in the table
  reader_d3 : OamFrame f → ((least : ℕ) → InTable (opcode_of (pdu_of f)) least → ⊥) → ReaderSaid f kind (dropped 3)
  -- D4: an offset below the opcode's
  reader_d4 : (least : ℕ) → OamFrame f → InTable (opcode_of (pdu_of f)) least → offset_of (pdu_of f) < least → ReaderSaid f kind (dropped 4)
  -- D5: from the frame's own offset on there is no run of TLVs with an end, whatever is before the cut
  reader_d5 : Offered f → ((ts : List (ℕ × List ℕ)) → TlvsOf f ts → ⊥) → ReaderSaid f kind (dropped 5)
  -- the first TLV of the type, whose value may be empty; or none of it
  reader_value : (ts : List (ℕ × List ℕ)) (v : List ℕ) → Offered f → TlvsOf f ts → first_of kind ts ≡ some v → ReaderSaid f kind (value v)
  reader_none : (ts : List (ℕ × List ℕ)) → Offered f → TlvsOf f ts → first_of kind ts ≡ none → ReaderSaid f kind no_such

-- ── ours, made of the definitions that the contracts name ──

abbrev pub bad_tells : Bad → ReaderTells
bad_tells Length = refused 1
bad_tells Short = dropped 1
bad_tells Opcode = dropped 3
bad_tells Offset = dropped 4
bad_tells CutOff = dropped 5

abbrev pub reader_tells : Result Bool Bad → List ℕ → ReaderTells
reader_tells (Ok true) v = value v
reader_tells (Ok false) v = no_such
reader_tells (Err b) v = bad_tells b

abbrev pub our_reader : List ℕ → ℕ → ReaderTells
our_reader f kind = reader_tells (answer_of f kind) (value_of f kind)

-- whatever the paper says of a frame, R answers
pub record FollowsReader (R : List ℕ → ℕ → ReaderTells) : Type 0 where
  pub follows : (f : List ℕ) (kind : ℕ) (r : ReaderTells) → Octets f → ReaderSaid f kind r → R f kind ≡ r

-- our reader answers what the paper's lines say of a frame, which is something of every frame and never two things; so any two that
-- follow them answer the same, and one that finds nothing does not follow them
pub record ReaderFollows : Type 0 where
  pub ours : FollowsReader our_reader
  -- it says something of every frame, and never two things; so any two that follow it answer the same
  pub says : (f : List ℕ) (kind : ℕ) → Octets f → ReaderSaid f kind (our_reader f kind)
  pub agrees : (f : List ℕ) (kind : ℕ) (r q : ReaderTells) → Octets f → ReaderSaid f kind r → ReaderSaid f kind q → r ≡ q
  pub same : (R Q : List ℕ → ℕ → ReaderTells) → FollowsReader R → FollowsReader Q → (f : List ℕ) (kind : ℕ) → Octets f → R f kind ≡ Q f kind
  -- one that finds no value does not follow it
  pub finds_nothing : (R : List ℕ → ℕ → ReaderTells) → FollowsReader R → ((f : List ℕ) (kind : ℕ) (v : List ℕ) → R f kind ≡ value v → ⊥) → ⊥
