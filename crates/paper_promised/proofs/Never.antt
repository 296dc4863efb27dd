-- D8 is never given. Assumes nothing.
use Prim.Native.Nat.{ℕ, ◌+◌, ◌≤◌, ◌<◌, ◌^◌}
use mathlib.Core.Path.{◌≡◌, ap}
use mathlib.Core.Bool.{false≢true}
use mathlib.Core.List.{List}
use native.Mathlib.Omega.{arith}
use lib.ListN.{length}
use Rattle.std.specs.Prelude.{Err}
use Rattle.base_laws.specs.Tests.{choose}
use Rattle.base_laws.specs.Lists.{part}
use Rattle.base_laws.proofs.Parts.{length_part}
use Rattle.base_octets.specs.Octets.{Octets}
use Rattle.base_numbers.specs.Numbers.{number, big_endian}
use Rattle.base_octets.proofs.Octets.{part-octets}
use Rattle.base_numbers.proofs.Laws.{numbers}
use Rattle.base_stamp.specs.Stamps.{good, Wire}
use Rattle.receive_delay.specs.declared.NoDelay.TheVariants.{TooLarge}
use Rattle.receive_delay.proofs.Laws.{delay_laws}
use Rattle.frame_opcodes.specs.Opcodes.{rule_of}
use Rattle.frame_message.proofs.GoodTests.{fixed}
use Rattle.frame_measures.specs.Measures.{stamp}
use Rattle.state_view.specs.State.{State}
use Rattle.paper_said.specs.Calls as call
use Rattle.paper_said.specs.Calls.{Arrival, dropped, taken, Outcome}
use Rattle.paper_said.specs.Cases.{pdu, opcode}
use Rattle.paper_said.specs.Taken.{txf, rxf, txb}
use Rattle.paper_said.specs.Said as said
use Rattle.paper_said.specs.Judged as judging
use Rattle.paper_said.specs.Handling as handling
use Rattle.paper_said.specs.Taken as taken
use Rattle.paper_said.specs.Said.{Said}
use Rattle.paper_said.proofs.Delays as Delays
use Rattle.paper_said.proofs.Lower.{sound-good}
use Rattle.paper_said.proofs.Messages.{behind}
use Rattle.paper_promised.proofs.Apart.{code_of, number_in, is_dropped}

-- four octets are a number of 32 bits
word_below : (p : List ℕ) (at : ℕ) → Octets p → at + 4 ≤ length p → number big_endian (part at 4 p) < 2 ^ 32
word_below p at o h = rw (length_part at 4 p h) at (numbers.below big_endian (part at 4 p) (part-octets at 4 p o))

stamp-wire : (p : List ℕ) (at : ℕ) → Octets p → at + 8 ≤ length p → Wire (stamp at p)
stamp-wire p at o h = record { seconds = word_below p at o (omega arith); nanoseconds = word_below p (at + 4) o (omega arith) }

-- the three stamps of a delay reply are there
stamps_there : (s : State) (a : Arrival) → taken.DelayReply s a → 28 ≤ length (pdu a)
unfolding rule_of choose
stamps_there s a r =
    let f = fixed a.octets (sound-good s a r.own.oam r.sound) in
    let e : (rule_of (opcode a)).least ≡ 32 = ap (λ (x : ℕ). (rule_of x).least) r.dmr in
    omega (arith, f, e)

too_large : (s : State) (a : Arrival) → Octets a.octets → Wire a.receive → taken.DelayReply s a → Delays.measured a ≡ Err TooLarge → ⊥
too_large s a u w r e =
    let o = behind a.octets 14 u in
    let h = stamps_there s a r in
    delay_laws.never_d8 (txf a) (rxf a) (txb a) a.receive (stamp-wire (pdu a) 4 o (omega (arith, h)))
    (stamp-wire (pdu a) 12 o (omega (arith, h))) (stamp-wire (pdu a) 20 o (omega (arith, h))) w e

pub never_d8 : {s : State} {a : Arrival} {o : Outcome} → Octets a.octets → Wire a.receive → Said s (call.frame a) o
    → o.answer ≡ dropped 8 → ⊥
unfolding code_of
never_d8 {s} U W (said.by_rules_1_to_4 (judging.frame_2 a v)) E = false≢true (ap is_dropped E)
never_d8 {s} U W (said.by_rules_1_to_4 (judging.frame_1 a v n)) E = false≢true (ap is_dropped E)
never_d8 {s} U W (said.by_rules_1_to_4 (judging.frame_6_receive a v l g)) E = false≢true (ap is_dropped E)
never_d8 {s} U W (said.by_rules_1_to_4 (judging.frame_6_transmit a v l g)) E = false≢true (ap is_dropped E)
never_d8 {s} U W (said.by_rules_1_to_4 (judging.rule_1_received a h k e)) E = false≢true (ap is_dropped E)
never_d8 {s} U W (said.by_rules_1_to_4 (judging.rule_1_sent a h k e)) E = false≢true (ap is_dropped E)
never_d8 {s} U W (said.by_rules_1_to_4 (judging.rule_2_d1 a h e k)) E = let z : ◌≡◌ {A = ℕ} 1 8 = ap number_in E in omega (arith, z)
never_d8 {s} U W (said.by_rules_1_to_4 (judging.rule_2_above a o k)) E = false≢true (ap is_dropped E)
never_d8 {s} U W (said.by_rules_1_to_4 (judging.rule_2_passive a o e k)) E = let z : ◌≡◌ {A = ℕ} 2 8 = ap number_in E in omega (arith, z)
never_d8 {s} U W (said.by_rules_1_to_4 (judging.rule_3_ccm a o e k g)) E = let z : ◌≡◌ {A = ℕ} 2 8 = ap number_in E in omega (arith, z)
never_d8 {s} U W (said.by_rules_1_to_4 (judging.rule_3_other a o e k g)) E = let z : ◌≡◌ {A = ℕ} 2 8 = ap number_in E in omega (arith, z)
never_d8 {s} U W (said.by_rules_1_to_4 (judging.rule_4_d3 a l k)) E = let z : ◌≡◌ {A = ℕ} 3 8 = ap number_in E in omega (arith, z)
never_d8 {s} U W (said.by_rules_1_to_4 (judging.rule_4_d4 a l k)) E = let z : ◌≡◌ {A = ℕ} 4 8 = ap number_in E in omega (arith, z)
never_d8 {s} U W (said.by_rules_1_to_4 (judging.rule_4_d5 a least l h k d)) E = let z : ◌≡◌ {A = ℕ} 5 8 = ap number_in E in omega (arith, z)
never_d8 {s} U W (said.by_rules_1_to_4 (judging.rule_4_d6 a least l h k u d)) E = let z : ◌≡◌ {A = ℕ} 6 8 = ap number_in E in
    omega (arith, z)
never_d8 {s} U W (said.by_rules_1_to_4 (judging.rule_4_d7_ccm a l q e z)) E = let z : ◌≡◌ {A = ℕ} 7 8 = ap number_in E in omega (arith, z)
never_d8 {s} U W (said.by_rules_1_to_4 (judging.rule_4_d7_alarm a l q e z)) E = let z : ◌≡◌ {A = ℕ} 7 8 = ap number_in E in omega (arith, z)
never_d8 {s} U W (said.by_rules_1_to_4 (judging.rule_4_d7_delay a l k)) E = let z : ◌≡◌ {A = ℕ} 7 8 = ap number_in E in omega (arith, z)
never_d8 {s} U W (said.by_rules_5_to_8 (handling.rule_5_mismerge a k m)) E = false≢true (ap is_dropped E)
never_d8 {s} U W (said.by_rules_5_to_8 (handling.rule_5_mep a k m u)) E = false≢true (ap is_dropped E)
never_d8 {s} U W (said.by_rules_5_to_8 (handling.rule_5_peer a k p e)) E = false≢true (ap is_dropped E)
never_d8 {s} U W (said.by_rules_5_to_8 (handling.rule_5_period a k p e)) E = false≢true (ap is_dropped E)
never_d8 {s} U W (said.by_rules_5_to_8 (handling.rule_5_ais a l q e o)) E = false≢true (ap is_dropped E)
never_d8 {s} U W (said.by_rules_5_to_8 (handling.rule_5_lck a l q e o)) E = false≢true (ap is_dropped E)
never_d8 {s} U W (said.by_rules_5_to_8 (handling.rule_6 a reply l q r h)) E = false≢true (ap is_dropped E)
never_d8 {s} U W (said.by_rules_5_to_8 (handling.frame_3 a reply l q r h)) E = false≢true (ap is_dropped E)
never_d8 {s} U W (said.by_rules_5_to_8 (handling.rule_7_first a l k)) E = false≢true (ap is_dropped E)
never_d8 {s} U W (said.by_rules_5_to_8 (handling.rule_7_later a l k m)) E = false≢true (ap is_dropped E)
never_d8 {s} U W (said.by_rules_5_to_8 (handling.frame_5 a l k m)) E = false≢true (ap is_dropped E)
never_d8 {s} U W (said.by_rules_5_to_8 (handling.rule_8_two_way a g p h)) E = false≢true (ap is_dropped E)
never_d8 {s} U W (said.by_rules_5_to_8 (handling.rule_8_all_ways a g p x y z)) E = false≢true (ap is_dropped E)
never_d8 {s} U W (said.by_rules_5_to_8 (handling.rule_8_d8_two_way a g p h)) E =
    too_large s a U W g.reply (Delays.delay-two_d8 a g.good p h)
never_d8 {s} U W (said.by_rules_5_to_8 (handling.rule_8_d8_all_ways a g p h)) E =
    too_large s a U W g.reply (Delays.delay-all_d8 a g.good p h)
never_d8 {s = s} {a = a} {o = o} U W (said.by_call x4) E = elim x4 [ ]
