-- How far a frame gets in our box, stage by stage: the paper's stages (specs/Cases.antt) are the box's. Assumes nothing.
use Prim.Native.Nat.{ℕ, ◌≤◌, ◌<◌}
use mathlib.Core.Path.{◌≡◌, ap, ◌∙◌}
use mathlib.Core.Bool.{true, false}
use mathlib.Core.Logic.{⊎_elim}
use lib.Dec.{leb}
use lib.ListN.{length, drop}
use borrow.Author.Tests.{le-leb}
use Rattle.std.specs.Prelude.{Ok, Err}
use Rattle.frame_message_answer.specs.declared.NoMessage.TheVariants.{PeriodCode}
use Rattle.base_laws.proofs.Tests.{join, known as if-known}
use Rattle.base_octets.specs.Octets.{Octets}
use Rattle.base_stamp.specs.Stamps.{good}
use Rattle.frame_opcodes.specs.Opcodes.{rule_of}
use Rattle.frame_reader_answer.specs.declared.Bad.TheVariants.{Offset, CutOff}
use Rattle.frame_head.specs.Head.{pdu_of, opcode_of, offset_of, flags_of, start_of}
use Rattle.frame_tlvs.specs.Tlvs.{walk_from, is_cut}
use Rattle.frame_message.specs.Message.{period_code, code_good, judged_of, message_of}
use Rattle.state_view.specs.State.{State}
use Rattle.state_view.proofs.Rules.{well_formed_is}
use Rattle.receive_answer.specs.declared.Drop.TheVariants as drop
use Rattle.receive_class.specs.declared.Class.{Class}
use Rattle.receive_class.specs.declared.Class.TheVariants as class
use Rattle.receive_class.specs.Class.{class_of}
use Rattle.receive_class.proofs.Classes.{classes}
use Rattle.receive_handle.specs.declared.Decision.{Decision}
use Rattle.receive_handle.specs.declared.Decision.TheVariants.{Drops}
use Rattle.receive_handle.specs.Handle.{handle_of}
use Rattle.receive_decide.specs.Decide.{drop_for, by_class, own_of, decide_of}
use Rattle.receive_decide.proofs.Own.{not-handled, found_bad, found_code, found_message}
use Rattle.receive_carry_out.specs.CarryOut.{carried_out}
use Rattle.receive_frame.proofs.Stages.{heeded}
use Rattle.paper_said.specs.Calls as call
use Rattle.paper_said.specs.Calls.{Arrival, Outcome}
use Rattle.paper_said.specs.Cases.{pdu, opcode, Heeded, OwnLevel}
use Rattle.paper_said.specs.Drops.{Handled, D5, D6, Sound}
use Rattle.paper_said.specs.Words.{side_of, frame_answer}
use Rattle.paper_said.specs.Ours.{in_words, ours}
use Rattle.paper_said.proofs.Messages.{offset-bad, cut_off, judged, no-run_cuts, uncut, behind}
use Rattle.paper_said.proofs.Rows.{row-least, row-handled, row-known, no_row}
use Rattle.paper_said.proofs.Sixth.{ours-yes, ours-no}

-- what a decision leaves of a frame
abbrev pub decided : State → Arrival → Decision → Outcome
decided s a d = in_words frame_answer (carried_out s a.octets a.receive a.transmit a.buffer d)

abbrev pub decision : State → Arrival → Decision
decision s a = decide_of s.settings (side_of a.side) a.octets a.receive

module _ (s : State) (a : Arrival) where
  -- no refusal stands before the frame rules
  pub reached : Heeded s a → (d : Decision) → decision s a ≡ d → ours s (call.frame a) ≡ decided s a d
  reached h d e =
      ap (in_words frame_answer)
      (heeded s (side_of a.side) a.octets a.receive a.transmit a.buffer
      ((well_formed_is.well_formed_is s).1 h.well)
      (join (leb 14 (length a.octets)) (leb (length a.octets) 1514) (le-leb 14 (length a.octets) h.long.least)
      (le-leb (length a.octets) 1514 h.long.most))
      (join (good a.receive) (good a.transmit) (le-leb a.receive.nanoseconds 999999999 h.receive)
      (le-leb a.transmit.nanoseconds 999999999 h.transmit)))
      ∙ ap (decided s a) e

  -- a frame's class decides
  pub by : (k : Class) → class_of s.settings.level (side_of a.side) a.octets ≡ k
      → decision s a ≡ by_class s.settings (side_of a.side) a.octets a.receive k
  unfolding decide_of
  by k e = rw e

  module _ (w : OwnLevel s a) where
    own_class : class_of s.settings.level (side_of a.side) a.octets ≡ class.Own
    own_class =
        (classes s.settings.level (side_of a.side) a.octets).own w.oam.ether w.oam.head w.level (ap side_of w.side)

    own_decides : decision s a ≡ own_of s.settings a.octets a.receive
    unfolding by_class
    own_decides = by class.Own own_class

    -- what is decided about a frame of our level is what is left
    pub left : (d : Decision) → own_of s.settings a.octets a.receive ≡ d → ours s (call.frame a) ≡ decided s a d
    left d e = reached w.oam.heeded d (own_decides ∙ e)

    pub third : ((least : ℕ) → Handled (opcode a) least → ⊥) → own_of s.settings a.octets a.receive ≡ Drops drop.Opcode
    third n = not-handled s.settings a.octets a.receive (no_row (opcode a) n)

    module _ {least : ℕ} (h : Handled (opcode a) least) where
      pub fourth : offset_of (pdu a) < least → own_of s.settings a.octets a.receive ≡ Drops drop.Offset
      unfolding drop_for
      fourth k = found_bad s.settings a.octets a.receive Offset (row-handled h)
          (offset-bad a.octets w.oam.heeded.long.least w.oam.heeded.long.most w.oam.ether w.oam.head (row-known h)
          (rw (row-least h) k))

      module _ (k : least ≤ offset_of (pdu a)) where
        enough : (rule_of (opcode_of (pdu_of a.octets))).least ≤ offset_of (pdu_of a.octets)
        enough = rw (row-least h) k

        pub fifth : Octets a.octets → D5 a → own_of s.settings a.octets a.receive ≡ Drops drop.CutOff
        unfolding drop_for
        fifth o n = found_bad s.settings a.octets a.receive CutOff (row-handled h)
            (cut_off a.octets w.oam.heeded.long.least w.oam.heeded.long.most w.oam.ether w.oam.head
            (row-known h) enough (no-run_cuts (pdu a) (start_of (pdu a)) (behind a.octets 14 o) n))

        -- the frame is a whole message: what it is, by opcode and flags
        whole-message : is_cut (walk_from 0 (start_of (pdu a)) (pdu a)) ≡ false → message_of a.octets ≡ judged_of (opcode a) (flags_of (pdu a))
        whole-message c =
            judged a.octets w.oam.heeded.long.least w.oam.heeded.long.most w.oam.ether w.oam.head
            (row-known h) enough c

        pub sixth : (D5 a → ⊥) → D6 s a → own_of s.settings a.octets a.receive ≡ Drops drop.Destination
        unfolding judged_of
        sixth n d =
            let m = whole-message (uncut (pdu a) (start_of (pdu a)) n) in
            let no = ours-no s a d in
            ⊎_elim
            (λ (t : code_good (rule_of (opcode a)) (period_code (flags_of (pdu a))) ≡ true).
            found_message s.settings a.octets a.receive (opcode a) (row-handled h) (m ∙ rw t) ∙ rw no)
            (λ (t : code_good (rule_of (opcode a)) (period_code (flags_of (pdu a))) ≡ false).
            found_code s.settings a.octets a.receive (row-handled h) (m ∙ rw t) ∙ rw no)
            (if-known (code_good (rule_of (opcode a)) (period_code (flags_of (pdu a)))))

    -- ── a sound message of our level ──
    module _ (q : Sound s a) where
      sound-message : message_of a.octets ≡ judged_of (opcode a) (flags_of (pdu a))
      sound-message = whole-message q.handled q.offset (uncut (pdu a) (start_of (pdu a)) q.tlvs)

      pub seventh : judged_of (opcode a) (flags_of (pdu a)) ≡ Err PeriodCode → own_of s.settings a.octets a.receive ≡ Drops drop.Value
      seventh e =
          found_code s.settings a.octets a.receive (row-handled q.handled) (sound-message ∙ e)
          ∙ rw (ours-yes s a q.destination)

      pub handles : (k : ℕ) → judged_of (opcode a) (flags_of (pdu a)) ≡ Ok k
          → own_of s.settings a.octets a.receive ≡ handle_of s.settings (pdu a) a.receive (rule_of k).handler
      handles k e =
          found_message s.settings a.octets a.receive k (row-handled q.handled) (sound-message ∙ e)
          ∙ rw (ours-yes s a q.destination)
