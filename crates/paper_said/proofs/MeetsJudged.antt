-- Our box follows the paper where it judges a frame: a law for each sentence of rules 1 to 4. Assumes nothing.
use Prim.Native.Nat.{ℕ, ◌+◌, ◌≤◌, ◌<◌, ◌%◌, ◌^◌}
use mathlib.Core.Path.{◌≡◌, ap, ◌∙◌}
use lib.ListN.{length}
use Rattle.std.specs.Prelude.{Err}
use Rattle.frame_message_answer.specs.declared.NoMessage.TheVariants.{PeriodCode}
use Rattle.base_octets.specs.Octets.{Octets}
use Rattle.state_view.specs.State.{State}
use Rattle.state_view.specs.Changed.{put}
use Rattle.state_view.specs.Changed as word
use Rattle.frame_head.specs.Head.{ether_type_of, offset_of, flags_of}
use Rattle.frame_message.specs.Message.{judged_of}
use Rattle.receive_answer.specs.Told.{drop_of}
use Rattle.receive_change.specs.Change.{applied}
use Rattle.receive_class.specs.declared.Class.TheVariants as class
use Rattle.receive_class.proofs.Classes.{classes}
use Rattle.receive_handle.specs.declared.Decision.TheVariants.{Changes}
use Rattle.receive_decide.specs.Decide.{count_of, below_of, by_class}
use Rattle.receive_carry_out.specs.CarryOut.{carried_out}
use Rattle.paper_said.specs.Calls as call
use Rattle.paper_said.specs.Calls.{Arrival, leaves, dropped, passed}
use Rattle.paper_said.specs.Cases.{pdu, opcode, level, hold, Heeded, Oam, OwnLevel}
use Rattle.paper_said.specs.Drops.{Handled, D4, D5, D6, Sound, GoodCcm}
use Rattle.paper_said.specs.Words.{side_of}
use Rattle.paper_said.specs.Ours.{ours}
use Rattle.paper_said.proofs.Frames.{decided, reached, by, left, third, fourth, fifth, sixth, seventh}
use Rattle.paper_said.proofs.Lower.{remembered, not_remembered}

module _ (s : State) (a : Arrival) where
  -- ── rules 1 to 3 ──

  service : Heeded s a → (ether_type_of a.octets ≡ 0x8902 → ⊥) → ours s (call.frame a) ≡ decided s a (Changes (count_of (side_of a.side)))
  unfolding by_class
  service h n =
      reached s a h _ (by s a class.Service ((classes s.settings.level (side_of a.side) a.octets).service h.long.least n))

  pub received : Heeded s a → (ether_type_of a.octets ≡ 0x8902 → ⊥) → a.side ≡ call.active
      → ours s (call.frame a) ≡ leaves passed (put word.received ((s.received + 1) % 2 ^ 32) s) a.buffer
  unfolding count_of carried_out applied
  received h n e = service h n ∙ ap (λ (x : call.ArrivalSide). decided s a (Changes (count_of (side_of x)))) e

  pub sent : Heeded s a → (ether_type_of a.octets ≡ 0x8902 → ⊥) → a.side ≡ call.passive
      → ours s (call.frame a) ≡ leaves passed (put word.sent ((s.sent + 1) % 2 ^ 32) s) a.buffer
  unfolding count_of carried_out applied
  sent h n e = service h n ∙ ap (λ (x : call.ArrivalSide). decided s a (Changes (count_of (side_of x)))) e

  pub short : Heeded s a → ether_type_of a.octets ≡ 0x8902 → length a.octets < 18
      → ours s (call.frame a) ≡ leaves (dropped 1) s a.buffer
  unfolding by_class carried_out drop_of
  short h e k =
      reached s a h _ (by s a class.Short ((classes s.settings.level (side_of a.side) a.octets).short h.long.least e k))

  pub above : Oam s a → s.settings.level < level a → ours s (call.frame a) ≡ leaves passed s a.buffer
  unfolding by_class carried_out
  above o k =
      reached s a o.heeded _ (by s a class.Above
      ((classes s.settings.level (side_of a.side) a.octets).above o.ether o.head k))

  pub inside : Oam s a → a.side ≡ call.passive → level a ≤ s.settings.level → ours s (call.frame a) ≡ leaves (dropped 2) s a.buffer
  unfolding by_class carried_out drop_of
  inside o e k =
      reached s a o.heeded _ (by s a class.Inside
      ((classes s.settings.level (side_of a.side) a.octets).inside o.ether o.head k (ap side_of e)))

  lower : Oam s a → a.side ≡ call.active → level a < s.settings.level
      → ours s (call.frame a) ≡ decided s a (below_of s.settings.own s.settings.losspeer a.octets)
  unfolding by_class
  lower o e k =
      reached s a o.heeded _ (by s a class.Below
      ((classes s.settings.level (side_of a.side) a.octets).below o.ether o.head k (ap side_of e)))

  pub lower_ccm : Oam s a → a.side ≡ call.active → level a < s.settings.level → GoodCcm s a
      → ours s (call.frame a) ≡ leaves (dropped 2) (put word.unexpected_level (hold s) s) a.buffer
  unfolding carried_out applied drop_of
  lower_ccm o e k g = lower o e k ∙ ap (decided s a) (remembered s a o g)

  pub lower-other : Octets a.octets → Oam s a → a.side ≡ call.active → level a < s.settings.level → (GoodCcm s a → ⊥)
      → ours s (call.frame a) ≡ leaves (dropped 2) s a.buffer
  unfolding carried_out drop_of
  lower-other w o e k n = lower o e k ∙ ap (decided s a) (not_remembered s a o w n)

  -- ── rule 4 ──

  pub drop_3 : (w : OwnLevel s a) → ((least : ℕ) → Handled (opcode a) least → ⊥) → ours s (call.frame a) ≡ leaves (dropped 3) s a.buffer
  unfolding carried_out drop_of
  drop_3 w n = left s a w _ (third s a w n)

  pub drop_4 : (w : OwnLevel s a) → D4 a → ours s (call.frame a) ≡ leaves (dropped 4) s a.buffer
  unfolding carried_out drop_of
  drop_4 w d = left s a w _ (fourth s a w d.handled d.below)

  pub drop_5 : Octets a.octets → (least : ℕ) (w : OwnLevel s a) → Handled (opcode a) least → least ≤ offset_of (pdu a) → D5 a
      → ours s (call.frame a) ≡ leaves (dropped 5) s a.buffer
  unfolding carried_out drop_of
  drop_5 o least w h k d = left s a w _ (fifth s a w h k o d)

  pub drop_6 : (least : ℕ) (w : OwnLevel s a) → Handled (opcode a) least → least ≤ offset_of (pdu a) → (D5 a → ⊥) → D6 s a
      → ours s (call.frame a) ≡ leaves (dropped 6) s a.buffer
  unfolding carried_out drop_of
  drop_6 least w h k n d = left s a w _ (sixth s a w h k n d)

  pub drop_7 : (w : OwnLevel s a) (q : Sound s a) → judged_of (opcode a) (flags_of (pdu a)) ≡ Err PeriodCode
      → ours s (call.frame a) ≡ leaves (dropped 7) s a.buffer
  unfolding carried_out drop_of
  drop_7 w q e = left s a w _ (seventh s a w q e)
