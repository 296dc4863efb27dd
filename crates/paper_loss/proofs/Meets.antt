-- Every box that follows the paper meets demand 3 over runs of calls. Assumes nothing.
use Prim.Native.Nat.{ℕ, ◌-◌, ◌≤◌}
use mathlib.Core.Path.{◌≡◌, refl, sym, ap, ap₂, ◌∙◌}
use mathlib.Core.List.{List, ◌++◌, map, map-append}
use lib.ListN.{length, take, replicate}
use Rattle.std.specs.Prelude.{Result, Err, Option}
use Rattle.loss_session.specs.declared.Readings.{Readings}
use Rattle.loss_session.specs.declared.LossSession.{LossSession}
use Rattle.loss_reading.specs.declared.LossRefusal.{LossRefusal}
use Rattle.loss_reading.specs.declared.Losses.{Losses}
use Rattle.loss_reading.specs.declared.LossRefusal.TheVariants as answer
use Rattle.loss_reading.specs.declared.Updated.{Updated}
use Rattle.loss_session.specs.Session.{LossEnd, near, total_of, cleared_session}
use Rattle.loss_reading.specs.Reading.{after_reading}
use Rattle.loss_session.proofs.Laws.{cleared_well}
use Rattle.loss_account.specs.Account.{Truth, Sound}
use Rattle.loss_account.specs.Demand3 as account
use Rattle.loss_account.specs.Demand3.{Shows}
use Rattle.loss_account.proofs.Meets as Account
use Rattle.state_view.specs.State.{State}
use Rattle.state_view.specs.Changed.{with_session}
use Rattle.state_view.specs.WellFormed.{WellFormed}
use Rattle.state_view.proofs.Rules.{session-put}
use Rattle.state_settings.specs.Settings.{Settings}
use Rattle.call_setting.specs.Start.{start_of}
use Rattle.call_setting.proofs.Starts.{starts}
use Rattle.paper_said.proofs.Started.{fresh_own}
use Rattle.paper_said.specs.Calls.{Arrival, Call, new_setting, frame, clear, leaves, OnWire, NoSetting, Box}
use Rattle.paper_said.specs.Calls as told
use Rattle.paper_said.specs.Said as paper
use Rattle.paper_said.specs.Called as calling
use Rattle.paper_said.specs.Made as made
use Rattle.paper_said.specs.Started.{Settable}
use Rattle.paper_said.specs.Taken.{LossReply}
use Rattle.paper_said.specs.Ours.{ours, Follows}
use Rattle.paper_said.proofs.Follows.{ours-follows}
use Rattle.paper_loss.specs.Runs.{run, answers, Each, Event}
use Rattle.paper_loss.specs.Replies.{most, ours_at, replies_in, accepted, refused, seen, SinceClear}
use Rattle.paper_loss.specs.Own.{beside}
use Rattle.paper_loss.specs.Demand3.{said, Agrees, Begins, Demand3}
use Rattle.paper_loss.specs.Meets.{Meets}
use Rattle.paper_loss.proofs.Same.{reply-to}
use Rattle.paper_loss.proofs.Step.{told_of, reply-said}
use Rattle.paper_loss.proofs.Lift.{keeps-to, Lift, lift}
use Rattle.paper_loss.proofs.Whole.{whole}
use Rattle.paper_loss.proofs.AnyLength.{answers-take, Cut, cut}
use Rattle.paper_loss.proofs.Counts.{counts}
use Rattle.paper_loss.proofs.Answered.{answered}
use Rattle.paper_loss.proofs.Tied.{shown, rising, sound}
use Rattle.paper_loss.proofs.Seen.{in_box, all_seen, all-accounted, all-full, take-map, each_of}

module _ (B : Box) (F : Follows B) where
  module _ (n : ℕ) (s : State) (cs : List Call) (es : List Event) (c : SinceClear n s cs es) where
    -- ── a box that follows ──

    abbrev rs : List Readings
    rs = replies_in n es

    lifted : Lift B F s n s cs es
    lifted =
        lift B F s cs es c.events c.wire c.no_setting c.no_clear n s
        (record { start = c.well; well = c.well; settings = refl }) c.count

    answers_are : said B s cs es ≡ map told_of (account.answers after_reading cleared_session rs)
    answers_are = lifted.said ∙ ap (λ (x : LossSession). map told_of (account.answers after_reading x rs)) c.cleared

    session-is : (run B s cs).session ≡ account.leaves after_reading cleared_session rs
    session-is = lifted.left ∙ ap (λ (x : LossSession). account.leaves after_reading x rs) c.cleared

    cuts : Cut after_reading rs
    cuts = cut after_reading Account.meets rs

    first-answers : take most (said B s cs es) ≡ map told_of (account.answers after_reading cleared_session (take most rs))
    first-answers =
        ap (take most) answers_are ∙ take-map told_of most (account.answers after_reading cleared_session rs)
        ∙ ap (map told_of) (answers-take after_reading most rs cleared_session)

    first-session : (run B s cs).session ≡ account.leaves after_reading cleared_session (take most rs)
    first-session = session-is ∙ cuts.left

    agrees : (d : LossEnd) (ts : List Truth) → Shows d (take most rs) ts → Sound ts → Agrees B d n s cs es ts
    agrees d ts shows fine =
        let a = (Account.meets).side d (take most rs) ts cuts.few shows fine in
        let k = length rs - most in
        let xs = account.answers after_reading cleared_session (take most rs) in
        record {
          results =
              ap (map (seen d)) answers_are
              ∙ all_seen d (account.answers after_reading cleared_session rs)
              ∙ ap (λ (l : List (Result (Option Losses) LossRefusal)). map in_box (map (account.seen d) l)) cuts.said
              ∙ ap (map in_box) (map-append (account.seen d) xs (replicate k (Err answer.Full)))
              ∙ map-append in_box (map (account.seen d) xs) (map (account.seen d) (replicate k (Err answer.Full)))
              ∙ ap₂ ◌++◌ (ap (map in_box) a.results ∙ all-accounted ts) (all-full d k);
          totals = ap (total_of d) first-session ∙ a.totals;
        }

    intervals_are : (run B s cs).session.intervals ≡ length (take most rs) - 1
    intervals_are = ap (λ (x : LossSession). x.intervals) first-session ∙ (Account.meets).intervals (take most rs) cuts.few

    later-refused : (a : Arrival) → most ≤ length rs → OnWire (frame a) → LossReply s a
        → B (run B s cs) (frame a) ≡ leaves (told.refused 5) (run B s cs) a.buffer
    later-refused a many u l =
        let y = run B s cs in
        let w = lifted.end in
        let e = F.follows y (frame a) _ u (reply-said y a (reply-to s y a w.well (sym w.settings) l)) in
        let full : after_reading y.session (made.reading y a) ≡ record { answer = Err answer.Full; session = y.session } =
        rw session-is ((Account.meets).later rs (made.reading y a) many) in
        e ∙ ap (λ (x : Updated). leaves (told_of x.answer) (with_session x.session y) a.buffer) full

  cleared : (s : State) → WellFormed s → Begins s.settings (B s clear).state
  cleared s w =
      let e = F.follows s clear _ tt (paper.by_call (calling.clears w)) in
      record { settings = rw e refl; well = rw e (session-put s cleared_session cleared_well w); cleared = rw e refl }

  set : (s : State) (t : Settings) → Settable t → Begins t (B s (new_setting t)).state × ((B s (new_setting t)).state.received ≡ 0)
      × ((B s (new_setting t)).state.sent ≡ 0)
  set s t g =
      let e = F.follows s (new_setting t) _ g.handed (paper.by_call (calling.setting_starts t (start_of t) g.valid (fresh_own t))) in
      (record { settings = rw e refl; well = rw e (starts.well t g.valid); cleared = rw e refl }, rw e refl, rw e refl)

  kept : (s : State) (cs : List Call) → WellFormed s → Each OnWire cs → Each NoSetting cs → WellFormed (run B s cs)
      × ((run B s cs).settings ≡ s.settings)
  kept s cs w u k =
      let e = whole.all s cs u k in
      let h = keeps-to B F s cs e.0 e.1 u k s (record { start = w; well = w; settings = refl }) in
      (h.well, h.settings)

  pub demand : Demand3 B
  demand = record {
    after_clear = cleared;
    after-setting = set;
    keeps = kept;
    side = λ d n s cs es ts c shows fine. agrees n s cs es c d ts shows fine;
    answered = λ n s cs es c. each_of _ _ (first-answers n s cs es c) (answered (accepted n es) (cuts n s cs es c).few);
    intervals = λ n s cs es c. intervals_are n s cs es c;
    later = λ n s cs es a c many u l. later-refused n s cs es c a many u l;
    same = λ n n' s s' cs cs' es es' c c' e. (
      first-answers n s cs es c ∙ ap (λ (l : List Readings). map told_of (account.answers after_reading cleared_session l)) e
          ∙ sym (first-answers n' s' cs' es' c'),
      first-session n s cs es c ∙ ap (account.leaves after_reading cleared_session) e ∙ sym (first-session n' s' cs' es' c'),
    );
    counts = counts B F;
    tied = λ n s cs es xs c p g h.
        agrees n s cs es c near (beside xs (take most (ours_at n es))) (shown most es n xs p)
        (sound xs (take most (ours_at n es)) g (rising most es n) h);
  }

pub meets : Meets
meets = record { meets = demand; ours_meets = demand ours ours-follows.box }
