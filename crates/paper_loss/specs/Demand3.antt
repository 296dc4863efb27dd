-- Demand 3 of the order, of any box, over runs of any calls and any length. Its premises are on the calls alone. Definitions and statements
-- only.
--
-- The letters are the same in every line below. Of a run:
--   B   any box
--   s   the state that the run starts with
--   cs  its calls, first to last; `run B s cs` is the state that the box leaves after them
--   es  what each of them is, one event for each call: a good loss reply with its three counts, a service frame counted as received, one
--       counted as sent, or any other call (`Event`, in Runs.antt); the box has no say in it
--   n   our true received count where the run starts, of any size; the state shows it modulo 2^32; m is the sent count likewise
--   t   settings; a is a frame that arrives; s', cs', es' and n' are those of a second run
-- and of the account:
--   d   a direction: near is to us, far is from us
--   ts  the true counts of that direction, of any size: what was sent and what was received, a pair for each accepted reply
--   xs  the peer's true sent counts alone, one for each accepted reply
-- `SinceClear n s cs es` (in Replies.antt) says that they belong together: s is well formed, its session is cleared and its received count
-- is n modulo 2^32; the calls have the widths of the wire, and none of them is a new setting or a clear; es are the events of these calls.
--
-- `Demand3`, `Agrees`, `Seen`, `seen`, `accounted`, `answers` and `side` are names of loss_account too. There they are about a session
-- alone, which is given a list of readings. Here they are about a box, which is given calls: the readings are found in its calls, the first
-- reply is answered with losses of 0 and 0 and not with "kept", an answer that is neither a loss nor a refusal is silence, and replies
-- after the 1,000,000,001st are in the list of results. There are two because the lent session and a month worked again have no box; the
-- proof of this one uses that one.
use Rattle.std.specs.Prelude.{ℕ, ◌+◌, ◌-◌, ◌%◌, ◌^◌, ◌≤◌, ◌≡◌, List, ◌++◌, map, ℤ, length, take, replicate}
use Rattle.state_settings.specs.Settings.{Settings}
use Rattle.loss_session.specs.Session.{LossEnd, near, total_of, cleared_session}
use Rattle.loss_account.specs.Account.{Truth, Grows, Sound, total}
use Rattle.loss_account.specs.Demand3.{Shows}
use Rattle.state_view.specs.State.{State}
use Rattle.state_view.specs.WellFormed.{WellFormed}
use Rattle.paper_said.specs.Calls.{Arrival, Call, new_setting, frame, clear, Answer, leaves, OnWire, NoSetting, Box}
use Rattle.paper_said.specs.Calls as told
use Rattle.paper_said.specs.Taken.{LossReply}
use Rattle.paper_said.specs.Started.{Settable}
use Rattle.paper_loss.specs.Runs.{run, answers, Each, Event, Events, received_in, sent_in}
use Rattle.paper_loss.specs.Own.{Neighbours, PeerSent, beside, FewCounted}
use Rattle.paper_loss.specs.Replies.{most, ours_at, replies_in, accepted, to_replies, refused, loss, seen, accounted, SinceClear}

-- what a box says to the good replies of a run
abbrev pub said : Box → State → List Call → List Event → List Answer
said B s cs es = to_replies es (answers B s cs)

-- an answer with two losses: no refusal, no drop, no silence
pub data Measured : Answer → Type 0 where
  measured : (near far : ℤ) → Measured (told.loss near far)

-- one direction of a run agrees with the account of the true counts ts: the results are 0 at the first accepted reply and then the loss of
-- each interval, every further reply is refused with 5, and the total is the loss since the first accepted reply
pub record Agrees (B : Box) (d : LossEnd) (n : ℕ) (s : State) (cs : List Call) (es : List Event) (ts : List Truth) : Type 0 where
  pub results : map (seen d) (said B s cs es) ≡ map loss (accounted ts) ++ replicate (length (replies_in n es) - most) (refused 5)
  pub totals : total_of d (run B s cs).session ≡ total ts

-- what such a run begins with: these settings, a well-formed state, its session cleared
pub record Begins (t : Settings) (s : State) : Type 0 where
  pub settings : s.settings ≡ t
  pub well : WellFormed s
  pub cleared : s.session ≡ cleared_session

-- ── the demand ──

pub record Demand3 (B : Box) : Type 0 where
  -- a clear of any well-formed state begins such a run, with the settings that there were; so does a setting that is taken, with both
  -- counts 0
  pub after_clear : (s : State) → WellFormed s → Begins s.settings (B s clear).state
  pub after-setting : (s : State) (t : Settings) → Settable t
      → Begins t (B s (new_setting t)).state × ((B s (new_setting t)).state.received ≡ 0) × ((B s (new_setting t)).state.sent ≡ 0)
  -- and every call but a new setting leaves a well-formed state well formed, and its settings as they were. (A setting that is refused
  -- leaves the whole state, by demand 1, so a run goes on after it; the runs below have none in them)
  pub keeps : (s : State) (cs : List Call) → WellFormed s → Each OnWire cs → Each NoSetting cs
      → WellFormed (run B s cs) × ((run B s cs).settings ≡ s.settings)
  -- near and far, each by itself: its results and its total agree with the account. Take a run since a clear and any true counts ts, a pair
  -- for each accepted reply. If the readings show them modulo 2^32 (`Shows`), and none of them falls or grows by 2^32 or more from one
  -- accepted reply to the next (`Sound`), then the box agrees with them (`Agrees`). Nothing is assumed of the other direction's counts
  pub side : (d : LossEnd) (n : ℕ) (s : State) (cs : List Call) (es : List Event) (ts : List Truth) → SinceClear n s cs es
      → Shows d (accepted n es) ts → Sound ts → Agrees B d n s cs es ts
  -- whatever the readings, each accepted reply is answered
  pub answered : (n : ℕ) (s : State) (cs : List Call) (es : List Event) → SinceClear n s cs es → Each Measured (take most (said B s cs es))
  -- the intervals are one fewer than the accepted replies, or 0
  pub intervals : (n : ℕ) (s : State) (cs : List Call) (es : List Event) → SinceClear n s cs es
      → (run B s cs).session.intervals ≡ length (accepted n es) - 1
  -- after 1,000,000,001 a good reply is refused with 5 and changes nothing
  pub later : (n : ℕ) (s : State) (cs : List Call) (es : List Event) (a : Arrival) → SinceClear n s cs es → most ≤ length (replies_in n es)
      → OnWire (frame a) → LossReply s a → B (run B s cs) (frame a) ≡ leaves (told.refused 5) (run B s cs) a.buffer
  -- other calls change results and session only through our received count: two runs with the same accepted readings give the same
  pub same : (n n' : ℕ) (s s' : State) (cs cs' : List Call) (es es' : List Event) → SinceClear n s cs es → SinceClear n' s' cs' es'
      → accepted n es ≡ accepted n' es'
      → (take most (said B s cs es) ≡ take most (said B s' cs' es')) × ((run B s cs).session ≡ (run B s' cs').session)
  -- our two counts are tied to the frames, in any run without a new setting, whatever the state: the count before and the frames counted
  pub counts : (n m : ℕ) (s : State) (cs : List Call) (es : List Event) → s.received ≡ n % 2 ^ 32 → s.sent ≡ m % 2 ^ 32
      → Each OnWire cs → Each NoSetting cs → Events s cs es
      → ((run B s cs).received ≡ (n + received_in es) % 2 ^ 32) × ((run B s cs).sent ≡ (m + sent_in es) % 2 ^ 32)
  -- near once more, our own count being what was counted: of it nothing is assumed but that fewer than 2^32 frames come in an
  -- interval; of the peer's, as before, that it neither falls nor grows by 2^32 or more
  pub tied : (n : ℕ) (s : State) (cs : List Call) (es : List Event) (xs : List ℕ) → SinceClear n s cs es
      → PeerSent (accepted n es) xs → Neighbours Grows xs → Neighbours FewCounted (take most (ours_at n es))
      → Agrees B near n s cs es (beside xs (take most (ours_at n es)))
