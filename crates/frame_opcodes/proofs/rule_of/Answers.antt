-- `frame_opcodes::rule_of` meets its contract: each arm is its row of `rule_of`, and any other opcode is nobody's.
use mathlib.Core.Path.{sym, ap}
use Rattle.base_laws.specs.Tests.{choose}
use Rattle.frame_opcodes.specs.Opcodes.{rule_of}
use Rattle.frame_opcodes.proofs.Rules.{rule-none}
use Rattle.frame_opcodes.proofs.rule_of.Goals as goal

pub returns-in-1 : goal.returns-in-1
unfolding rule_of choose
returns-in-1 c = ap rule_of (sym c.in-1.is)

pub returns-in-2 : goal.returns-in-2
unfolding rule_of choose
returns-in-2 c = ap rule_of (sym c.in-2.is)

pub returns-in-3 : goal.returns-in-3
unfolding rule_of choose
returns-in-3 c = ap rule_of (sym c.in-3.is)

pub returns-in-33 : goal.returns-in-33
unfolding rule_of choose
returns-in-33 c = ap rule_of (sym c.in-33.is)

pub returns-in-35 : goal.returns-in-35
unfolding rule_of choose
returns-in-35 c = ap rule_of (sym c.in-35.is)

pub returns-in-42 : goal.returns-in-42
unfolding rule_of choose
returns-in-42 c = ap rule_of (sym c.in-42.is)

pub returns-in-43 : goal.returns-in-43
unfolding rule_of choose
returns-in-43 c = ap rule_of (sym c.in-43.is)

pub returns-in-46 : goal.returns-in-46
unfolding rule_of choose
returns-in-46 c = ap rule_of (sym c.in-46.is)

pub returns-in-47 : goal.returns-in-47
unfolding rule_of choose
returns-in-47 c = ap rule_of (sym c.in-47.is)

pub returns-in_default : goal.returns-in_default
returns-in_default c = sym (search rule-none)
