-- Rule 3: a lower-level frame is remembered exactly where it is a CCM that passes D4 to D7. Assumes nothing.
use Prim.Native.Nat.{ℕ}
use mathlib.Core.Path.{◌≡◌, sym, ◌∙◌}
use mathlib.Core.Bool.{true, ◌&&◌, false≢true}
use native.Mathlib.Omega.{arith}
use lib.Dec.{eqb}
use borrow.Author.Tests.{eq-eqb, ne_eqb, eqb-true}
use Rattle.base_laws.specs.Tests.{choose}
use Rattle.base_laws.proofs.Tests.{join, split}
use Rattle.base_octets.specs.Octets.{Octets}
use Rattle.frame_opcodes.specs.Opcodes.{rule_of}
use Rattle.frame_head.specs.Head.{flags_of, start_of}
use Rattle.frame_message.specs.Good.{Good}
use Rattle.frame_message.specs.Message.{period_code, code_good}
use Rattle.frame_message.specs.Told.{good_opcode}
use Rattle.frame_message.proofs.Numbers.{message-numbers}
use Rattle.state_view.specs.State.{State}
use Rattle.receive_answer.specs.declared.Drop.TheVariants as drop
use Rattle.receive_change.specs.declared.Change.TheVariants as change
use Rattle.receive_handle.specs.declared.Decision.TheVariants.{Drops, Changes}
use Rattle.receive_decide.specs.Decide.{is_ours, below_of}
use Rattle.paper_said.specs.Calls.{Arrival}
use Rattle.paper_said.specs.Cases.{pdu, opcode, Oam}
use Rattle.paper_said.specs.Drops.{Handled, ccm, Sound, GoodCcm}
use Rattle.paper_said.proofs.Messages.{headed, uncut, ends-run, behind}
use Rattle.paper_said.proofs.Rows.{row-least, row-known}
use Rattle.paper_said.proofs.Sixth.{ours-yes, ours_then}
use Rattle.paper_said.proofs.Stamps.{untrue}

-- a sound message is a good frame
pub sound-good : (s : State) (a : Arrival) → Oam s a → Sound s a → Good a.octets
sound-good s a o q = record {
  headed = headed a.octets o.heeded.long.least o.heeded.long.most o.ether o.head (row-known q.handled)
      (rw (row-least q.handled) q.offset);
  ends = uncut (pdu a) (start_of (pdu a)) q.tlvs;
}

-- the code of a CCM
coded : (op code : ℕ) → op ≡ 1 → (code ≡ 0 → ⊥) → code_good (rule_of op) code ≡ true
unfolding rule_of choose
coded op code e n = rw (e, ne_eqb code 0 n)

coded_only : (op code : ℕ) → op ≡ 1 → code_good (rule_of op) code ≡ true → code ≡ 0 → ⊥
unfolding rule_of choose
coded_only op code e t z = false≢true (rw (e, eq-eqb code 0 z) at t)

as_ccm : (op : ℕ) → op ≡ 1 → Handled op 70
as_ccm op e = rw e ccm

least-ccm : (op : ℕ) → op ≡ 1 → (rule_of op).least ≡ 70
unfolding rule_of choose
least-ccm op e = rw e

module _ (s : State) (a : Arrival) (o : Oam s a) where
  -- such a CCM passes the box's test
  pub ccm_test : GoodCcm s a → (eqb (good_opcode a.octets) 1 && is_ours s.settings.own s.settings.losspeer a.octets) ≡ true
  ccm_test g =
      let op = message-numbers.opcode a.octets (sound-good s a o g.sound)
      (coded (opcode a) (period_code (flags_of (pdu a))) g.ccm g.period) in
      join (eqb (good_opcode a.octets) 1) (is_ours s.settings.own s.settings.losspeer a.octets)
      (eq-eqb (good_opcode a.octets) 1 (op ∙ g.ccm)) (ours-yes s a g.sound.destination)

  pub remembered : GoodCcm s a → below_of s.settings.own s.settings.losspeer a.octets ≡ Changes change.UnexpectedLevel
  unfolding below_of
  remembered g = rw (ccm_test g)

  -- what the box remembers is such a CCM
  pub is-ccm : Octets a.octets → (eqb (good_opcode a.octets) 1 && is_ours s.settings.own s.settings.losspeer a.octets) ≡ true
      → GoodCcm s a
  is-ccm w e =
      let p = split (eqb (good_opcode a.octets) 1) (is_ours s.settings.own s.settings.losspeer a.octets) e in
      let one : good_opcode a.octets ≡ 1 = eqb-true (good_opcode a.octets) 1 p.0 in
      let g = message-numbers.only a.octets (λ z. let x : ◌≡◌ {A = ℕ} 1 0 = sym one ∙ z in omega arith) in
      let op : opcode a ≡ 1 = sym g.1 ∙ one in
      record {
        sound = record {
          least = 70;
          handled = as_ccm (opcode a) op;
          offset = omega (arith, g.0.headed.offset, least-ccm (opcode a) op);
          tlvs = λ n. let r = ends-run (pdu a) (start_of (pdu a)) (behind a.octets 14 w) g.0.ends in n r.0 r.1;
          destination = ours_then s a p.1;
        };
        ccm = op;
        period = coded_only (opcode a) (period_code (flags_of (pdu a))) op g.2;
      }

  pub not_remembered : Octets a.octets → (GoodCcm s a → ⊥)
      → below_of s.settings.own s.settings.losspeer a.octets ≡ Drops drop.Level
  unfolding below_of
  not_remembered w n =
      rw (untrue (eqb (good_opcode a.octets) 1 && is_ours s.settings.own s.settings.losspeer a.octets) (λ e. n (is-ccm w e)))
