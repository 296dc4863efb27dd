-- A run of calls of any box, and what each call of it is to the service counts and to the loss session: by the settings that the run starts
-- with and the call alone, never by what the box brings or answers. Definitions only.
use Rattle.std.specs.Prelude.{ℕ, suc, ◌≡◌, List, [], ◌∷◌}
use Rattle.base_clock.specs.Run.{after}
use Rattle.state_view.specs.State.{State}
use Rattle.frame_measures.specs.Measures.{loss_in}
use Rattle.paper_said.specs.Calls.{ArrivalSide, active, passive, Arrival, Call, frame, clear, Answer, Box}
use Rattle.paper_said.specs.Cases.{pdu, Heeded, Counted}
use Rattle.paper_said.specs.Taken.{LossReply}

-- ── a run ──

-- the order, demand 3: each call is given the state that the last one left
abbrev pub run : Box → State → List Call → State
run B = after (λ s c. (B s c).state)

-- the answers beside it, one for each call
unfoldable pub answers : Box → State → List Call → List Answer
answers B s [] = []
answers B s (c ∷ cs) = (B s c).answer ∷ answers B (B s c).state cs

-- all of a list's
unfoldable pub Each : {A : Type 0} → (A → Type 0) → List A → Type 0
Each P [] = Unit {0}
Each P (x ∷ xs) = P x × Each P xs

abbrev pub NoClear : Call → Type 0
NoClear c = c ≡ clear → ⊥

-- ── what a call is ──

-- the paper, rule 1: a service frame from this side, in a call that is not refused with 2, 1 or 6
pub record CountedFrom (d : ArrivalSide) (s : State) (a : Arrival) : Type 0 where
  pub heeded : Heeded s a
  pub service : Counted a
  pub from : a.side ≡ d

pub data Event : Type 0 where
  -- a good loss reply, with TxFCf, RxFCf and TxFCb
  reply : ℕ → ℕ → ℕ → Event
  -- a service frame from the active side is counted as received, one from the passive side as sent
  received : Event
  sent : Event
  -- any other call
  other : Event

-- none of the three
pub record Neither (s : State) (a : Arrival) : Type 0 where
  pub reply : LossReply s a → ⊥
  pub received : CountedFrom active s a → ⊥
  pub sent : CountedFrom passive s a → ⊥

-- s is the state that the run starts with. Of it these read the settings, and whether it is well formed. A good loss reply is an LMR that
-- refusals 2, 1 and 6 and rules 1 to 4 let through
pub data Is (s : State) : Call → Event → Type 0 where
  is_reply : (a : Arrival) → LossReply s a → Is s (frame a) (reply (loss_in (pdu a)).txfcf (loss_in (pdu a)).rxfcf (loss_in (pdu a)).txfcb)
  is_received : (a : Arrival) → CountedFrom active s a → Is s (frame a) received
  is_sent : (a : Arrival) → CountedFrom passive s a → Is s (frame a) sent
  is_other : (c : Call) → ((a : Arrival) → c ≡ frame a → Neither s a) → Is s c other

-- the events of a run, one for each call
pub data Events (s : State) : List Call → List Event → Type 0 where
  none : Events s [] []
  next : (c : Call) (e : Event) (cs : List Call) (es : List Event) → Is s c e → Events s cs es → Events s (c ∷ cs) (e ∷ es)

-- ── what the events come to ──

-- how many frames are counted as received, and as sent
unfoldable pub received_in : List Event → ℕ
received_in [] = 0
received_in (reply txf rxf txb ∷ es) = received_in es
received_in (received ∷ es) = suc (received_in es)
received_in (sent ∷ es) = received_in es
received_in (other ∷ es) = received_in es

unfoldable pub sent_in : List Event → ℕ
sent_in [] = 0
sent_in (reply txf rxf txb ∷ es) = sent_in es
sent_in (received ∷ es) = sent_in es
sent_in (sent ∷ es) = suc (sent_in es)
sent_in (other ∷ es) = sent_in es
