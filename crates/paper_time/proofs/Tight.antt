-- Two boxes in time answer alike: what a box is to answer is settled by the calls. Assumes nothing.
use Prim.Native.Nat.{ℕ}
use mathlib.Core.Path.{◌≡◌, refl}
use mathlib.Core.List.{List}
use Rattle.state_settings.specs.Settings.{Settings}
use Rattle.state_view.specs.State.{State}
use Rattle.paper_said.specs.Calls as call
use Rattle.paper_said.specs.Calls.{Call, Answer, Box}
use Rattle.paper_said.specs.Standing.{Flag, on, off}
use Rattle.paper_said.specs.Started.{Settable}
use Rattle.paper_time.specs.Runs.{Fits, since}
use Rattle.paper_time.specs.Timers.{Timer, Used}
use Rattle.paper_time.specs.Time.{Beat, sends, quiet, Told, told, Time, LastSet, unset, split, Alike, alike, Tight}
use Rattle.paper_time.proofs.Runs.{wires}
use Rattle.paper_time.proofs.Timely.{timely}

one_beat : {P : Type 0} {r q : Answer} → Beat P r → Beat P q → r ≡ q
one_beat (sends p) (sends o) = refl
one_beat (sends p) (quiet n) = absurd (n p)
one_beat (quiet n) (sends p) = absurd (n p)
one_beat (quiet n) (quiet m) = refl

one-flag : {P : Type 0} {n m : ℕ} → Flag P n → Flag P m → n ≡ m
one-flag (on p) (on q) = refl
one-flag (on p) (off n) = absurd (n p)
one-flag (off n) (on p) = absurd (n p)
one-flag (off n) (off m) = refl

one_told : {x : Timer} {P : Type 0} {r q : Answer} → Told x P r → Told x P q → Alike x r q
one_told (told r f) (told q g) = alike r q (one-flag f g)

module _ {B C : Box} (T : Time B) (U : Time C) (s z : State) (t : Settings) (x : Timer) (g : Settable t) (u : Used t x) where
  told-alike : {cs : List Call} → LastSet t x cs → Fits t 0 cs
      → Alike x (B (since B s t cs) call.conditions).answer (C (since C z t cs) call.conditions).answer
  told-alike (unset cs n) f = one_told (T.never s t x cs g f u n) (U.never z t x cs g f u n)
  told-alike (split before c h cs p n) f = one_told (T.last s t x before c h cs g f u p n) (U.last z t x before c h cs g f u p n)

pub tight : Tight
tight = record {
  ticks = λ B C T U s z t cs b g f room. one_beat (T.beats s t cs b g f room) (U.beats z t cs b g f room);
  told = λ B C T U s z t x cs g f u. told-alike T U s z t x g u (timely.all t x cs g.valid (wires t 0 cs f) u) f;
}
