-- The table of opcodes. The paper, "What is in a PDU": opcode and offset; rule 4: which are handled, which may go to the multicast address,
-- which are requests, which come from the loss peer alone, which period codes are good. Definitions and statements only.
use Rattle.std.specs.Prelude.{ℕ, ◌≡◌, [], ◌∷◌, Bool, true, false, not, eqb}
use Rattle.base_laws.specs.Tests.{choose}
use Rattle.base_laws.specs.Lists.{absent}
use Rattle.frame_opcodes.specs.declared.Handler.{Handler}
use Rattle.frame_opcodes.specs.declared.Handler.TheVariants.{Nobody, ReaderOnly, Continuity, Loopback, Alarm, Lock, LossReply, LossRequest, DelayReply, DelayRequest}
use Rattle.frame_opcodes.specs.declared.Rule.{Rule}

abbrev pub rule : Handler → ℕ → Bool → Bool → Bool → Bool → Bool → Bool → Bool → Rule
rule handler least known handled multicast request losspeer period alarm =
    record { handler = handler; least = least; known = known; handled = handled; multicast = multicast; request = request; losspeer = losspeer; period = period; alarm = alarm }

-- an opcode that the paper's table does not have
abbrev pub no_rule : Rule
no_rule = rule Nobody 0 false false false false false false false

-- opcode: handler, least offset; known, handled; multicast, request, losspeer; period, alarm
unfoldable pub rule_of : ℕ → Rule
rule_of op =
    choose (
    (eqb op 1, rule Continuity 70 true true true false false true false)
    ∷ (eqb op 2, rule ReaderOnly 4 true false false false false false false)
    ∷ (eqb op 3, rule Loopback 4 true true true true false false false)
    ∷ (eqb op 33, rule Alarm 0 true true true false false false true)
    ∷ (eqb op 35, rule Lock 0 true true true false false false true)
    ∷ (eqb op 42, rule LossReply 12 true true false false true false false)
    ∷ (eqb op 43, rule LossRequest 12 true true true true false false false)
    ∷ (eqb op 46, rule DelayReply 32 true true false false false false false)
    ∷ (eqb op 47, rule DelayRequest 32 true true true true false false false)
    ∷ [])
    no_rule

-- the paper's lists of opcodes, those read, handled, good to the multicast address, requests, from the loss peer alone, and with a period
-- code that is tested, are those of the one table
pub record OpcodeLists : Type 0 where
  pub read : (op : ℕ) → (rule_of op).known ≡ not (absent op (1 ∷ 2 ∷ 3 ∷ 33 ∷ 35 ∷ 42 ∷ 43 ∷ 46 ∷ 47 ∷ []))
  pub handles : (op : ℕ) → (rule_of op).handled ≡ not (absent op (1 ∷ 3 ∷ 33 ∷ 35 ∷ 42 ∷ 43 ∷ 46 ∷ 47 ∷ []))
  pub multicasts : (op : ℕ) → (rule_of op).multicast ≡ not (absent op (1 ∷ 3 ∷ 33 ∷ 35 ∷ 43 ∷ 47 ∷ []))
  pub requests : (op : ℕ) → (rule_of op).request ≡ not (absent op (3 ∷ 43 ∷ 47 ∷ []))
  -- an LMR comes from the loss peer
  pub losspeers : (op : ℕ) → (rule_of op).losspeer ≡ not (absent op (42 ∷ []))
  -- a CCM of period code 0 is D7, an AIS or LCK of a code but 4 and 6
  pub periods : (op : ℕ) → (rule_of op).period ≡ not (absent op (1 ∷ []))
  pub alarms : (op : ℕ) → (rule_of op).alarm ≡ not (absent op (33 ∷ 35 ∷ []))
