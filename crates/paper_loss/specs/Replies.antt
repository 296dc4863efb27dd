-- The readings of a run's loss replies, and the answers to them. `Seen`, `seen` and `accounted` are of a box; those of loss_account, with
-- the same names, are of a session alone (Demand3.antt, beside this, says how they differ). Definitions only.
use Rattle.std.specs.Prelude.{ℕ, ◌+◌, ◌%◌, ◌^◌, ◌≡◌, List, [], ◌∷◌, ℤ, pos, take}
use Rattle.loss_session.specs.declared.Readings.{Readings}
use Rattle.loss_session.specs.Session.{LossEnd, near, far, readings, cleared_session}
use Rattle.loss_account.specs.Account.{Truth, losses}
use Rattle.state_view.specs.State.{State}
use Rattle.state_view.specs.WellFormed.{WellFormed}
use Rattle.paper_said.specs.Calls.{Call, Answer, OnWire, NoSetting}
use Rattle.paper_said.specs.Calls as told
use Rattle.paper_loss.specs.Runs.{Each, NoClear, Event, reply, received, sent, other, Events}

-- demand 3: since the clear at most so many loss replies are accepted
abbrev pub most : ℕ
most = 1000000001

-- ── four readings at each reply ──

-- our received count at each good reply, without limit: n at the start of the run, and the frames counted before the reply
unfoldable pub ours_at : ℕ → List Event → List ℕ
ours_at n [] = []
ours_at n (reply txf rxf txb ∷ es) = n ∷ ours_at n es
ours_at n (received ∷ es) = ours_at (n + 1) es
ours_at n (sent ∷ es) = ours_at n es
ours_at n (other ∷ es) = ours_at n es

-- the three counts in each good reply, and that count modulo 2^32
unfoldable pub replies_in : ℕ → List Event → List Readings
replies_in n [] = []
replies_in n (reply txf rxf txb ∷ es) = readings txf rxf txb (n % 2 ^ 32) ∷ replies_in n es
replies_in n (received ∷ es) = replies_in (n + 1) es
replies_in n (sent ∷ es) = replies_in n es
replies_in n (other ∷ es) = replies_in n es

-- a good reply is accepted while fewer than 1,000,000,001 were accepted before it
abbrev pub accepted : ℕ → List Event → List Readings
accepted n es = take most (replies_in n es)

-- ── the answers to them ──

-- the answers to the good replies, out of the answers to all calls
abbrev pub kept_for : Event → Answer → List Answer → List Answer
kept_for (reply txf rxf txb) x xs = x ∷ xs
kept_for received x xs = xs
kept_for sent x xs = xs
kept_for other x xs = xs

unfoldable pub to_replies : List Event → List Answer → List Answer
to_replies [] xs = []
to_replies (e ∷ es) [] = []
to_replies (e ∷ es) (x ∷ xs) = kept_for e x (to_replies es xs)

-- what an answer says of one direction; what is neither a refusal nor a loss is silence
pub data Seen : Type 0 where
  refused : ℕ → Seen
  loss : ℤ → Seen
  silence : Seen

abbrev pub seen : LossEnd → Answer → Seen
seen d (told.refused n) = refused n
seen near (told.loss n f) = loss n
seen far (told.loss n f) = loss f
seen d (told.dropped n) = silence
seen d told.passed = silence
seen d told.taken = silence
seen d (told.written n) = silence
seen d (told.delay t) = silence
seen d (told.delays t f n) = silence
seen d told.done = silence
seen d (told.standing r) = silence

-- what the account says: rule 7 answers 0 at the first reply, which has nothing to measure against; then the loss of each interval
abbrev pub accounted : List Truth → List ℤ
accounted [] = []
accounted (t ∷ ts) = pos 0 ∷ losses t ts

-- ── the runs that demand 3 is about ──

-- since a session was cleared: a well-formed state s with a cleared session, our true received count being n, of any size, which s shows
-- modulo 2^32; any calls cs, any number of them, but no new setting and no clear; es what each of them is
pub record SinceClear (n : ℕ) (s : State) (cs : List Call) (es : List Event) : Type 0 where
  pub well : WellFormed s
  pub cleared : s.session ≡ cleared_session
  pub count : s.received ≡ n % 2 ^ 32
  pub wire : Each OnWire cs
  pub no_setting : Each NoSetting cs
  pub no_clear : Each NoClear cs
  pub events : Events s cs es
