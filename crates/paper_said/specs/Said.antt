-- What the paper says of every call: the answer and all that is left after it. Three pages, each a list of lines in the paper's order: a
-- frame until it is known to be ours, a frame that is handled, and every other call. Definitions only.
use Rattle.state_view.specs.State.{State}
use Rattle.paper_said.specs.Calls.{Arrival, Call, frame, Outcome}
use Rattle.paper_said.specs.Judged.{Judged}
use Rattle.paper_said.specs.Handling.{Handling}
use Rattle.paper_said.specs.Called.{Called}

-- `Said s call o`: to this call in state s, the paper's outcome is o
pub data Said (s : State) : Call → Outcome → Type 0 where
  by_rules_1_to_4 : {a : Arrival} {o : Outcome} → Judged s a o → Said s (frame a) o
  by_rules_5_to_8 : {a : Arrival} {o : Outcome} → Handling s a o → Said s (frame a) o
  by_call : {c : Call} {o : Outcome} → Called s c o → Said s c o
