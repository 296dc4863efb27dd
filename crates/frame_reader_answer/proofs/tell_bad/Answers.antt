-- `frame_reader_answer::tell_bad` meets its contract: each arm is its line of `bad_of`.
use mathlib.Core.Path.{sym, ap}
use Rattle.frame_reader_answer.specs.Told.{bad_of}
use Rattle.frame_reader_answer.proofs.tell_bad.Goals as goal

pub returns-in-Length : goal.returns-in-Length
unfolding bad_of
returns-in-Length c = sym (ap bad_of c.in-Length.is)

pub returns-in-Short : goal.returns-in-Short
unfolding bad_of
returns-in-Short c = sym (ap bad_of c.in-Short.is)

pub returns-in-Opcode : goal.returns-in-Opcode
unfolding bad_of
returns-in-Opcode c = sym (ap bad_of c.in-Opcode.is)

pub returns-in-Offset : goal.returns-in-Offset
unfolding bad_of
returns-in-Offset c = sym (ap bad_of c.in-Offset.is)

pub returns-in-CutOff : goal.returns-in-CutOff
unfolding bad_of
returns-in-CutOff c = sym (ap bad_of c.in-CutOff.is)
