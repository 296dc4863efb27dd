-- Each arm is its line of `handle_of`. Assumes nothing.
use Prim.Native.Nat.{ℕ}
use mathlib.Core.List.{List}
use mathlib.Core.Path.{◌≡◌, refl, sym, ap, ◌∙◌}
use native.Mathlib.Omega.{arith}
use Rattle.state_settings.specs.Settings.{Settings, settings_of}
use Rattle.base_stamp.specs.declared.Stamp.{Stamp}
use Rattle.frame_opcodes.specs.declared.Handler.{Handler}
use Rattle.frame_opcodes.specs.declared.Handler.TheVariants.{Nobody, ReaderOnly, Continuity, Loopback, Alarm, Lock, LossRequest}
use Rattle.frame_opcodes.specs.declared.Handler.TheVariants.{DelayRequest}
use Rattle.receive_signals.specs.declared.Signal.{Signal}
use Rattle.receive_signals.specs.declared.Signal.TheVariants as signal
use Rattle.receive_change.specs.declared.Change.TheVariants as change
use Rattle.receive_handle.specs.declared.Decision.TheVariants.{Changes}
use Rattle.receive_handle.specs.Handle.{handle_of, needed_by, handled_of}
use Rattle.receive_handle.proofs.Handled.{handled-with}
use Rattle.receive_handle.proofs.handle_message.Goals as goal

-- what is done, by the handler that was given
module _ (t : Settings) (p : List ℕ) (receive : Stamp) {handler : Handler} where
  -- by its name
  named : (h : Handler) → handler ≡ h → handled_of t p receive h ≡ handled_of t p receive handler
  named h e = ap (handled_of t p receive) (sym e)

  -- a handler that can do without any octet
  free : (h : Handler) → handler ≡ h → needed_by h ≡ 0 → handle_of t p receive h ≡ handled_of t p receive handler
  free h e z = sym (handled-with t p receive h (omega (arith, z))) ∙ named h e

pub returns-in-Nobody : goal.returns-in-Nobody
unfolding handle_of needed_by
returns-in-Nobody c =
    let a = c.args in
    let t = settings_of a.set.now a.names.now a.ids.now in
    free t a.pdu.now a.receive Nobody c.in-Nobody.is refl

pub returns-in-ReaderOnly : goal.returns-in-ReaderOnly
unfolding handle_of needed_by
returns-in-ReaderOnly c =
    let a = c.args in
    let t = settings_of a.set.now a.names.now a.ids.now in
    free t a.pdu.now a.receive ReaderOnly c.in-ReaderOnly.is refl

pub returns-in-Continuity : goal.returns-in-Continuity
unfolding handle_of needed_by
returns-in-Continuity c =
    let a = c.args in
    let t = settings_of a.set.now a.names.now a.ids.now in
    ap (λ (x : Signal). Changes (change.Told x)) c.ccm_signal.ensures
    ∙ free t a.pdu.now a.receive Continuity c.in-Continuity.is refl

pub returns-in-Loopback : goal.returns-in-Loopback
unfolding handle_of needed_by
returns-in-Loopback c =
    let a = c.args in
    let t = settings_of a.set.now a.names.now a.ids.now in
    free t a.pdu.now a.receive Loopback c.in-Loopback.is refl

pub returns-in-Alarm : goal.returns-in-Alarm
unfolding handle_of needed_by
returns-in-Alarm c =
    let a = c.args in
    let t = settings_of a.set.now a.names.now a.ids.now in
    ap (λ (x : ℕ). Changes (change.Told (signal.Alarm x))) c.code_in.ensures
    ∙ free t a.pdu.now a.receive Alarm c.in-Alarm.is refl

pub returns-in-Lock : goal.returns-in-Lock
unfolding handle_of needed_by
returns-in-Lock c =
    let a = c.args in
    let t = settings_of a.set.now a.names.now a.ids.now in
    ap (λ (x : ℕ). Changes (change.Told (signal.Lock x))) c.code_in-in-Lock.ensures
    ∙ free t a.pdu.now a.receive Lock c.in-Lock.is refl

pub returns-in-LossReply : goal.returns-in-LossReply
unfolding handle_of needed_by
returns-in-LossReply c =
    let a = c.args in
    let t = settings_of a.set.now a.names.now a.ids.now in
    c.reading_in.ensures ∙ named t a.pdu.now a.receive _ c.in-LossReply.is

pub returns-in-LossRequest : goal.returns-in-LossRequest
unfolding handle_of needed_by
returns-in-LossRequest c =
    let a = c.args in
    let t = settings_of a.set.now a.names.now a.ids.now in
    free t a.pdu.now a.receive LossRequest c.in-LossRequest.is refl

pub returns-in-DelayReply : goal.returns-in-DelayReply
unfolding handle_of needed_by
returns-in-DelayReply c =
    let a = c.args in
    let t = settings_of a.set.now a.names.now a.ids.now in
    c.delays_in.ensures ∙ named t a.pdu.now a.receive _ c.in-DelayReply.is

pub returns-in-DelayRequest : goal.returns-in-DelayRequest
unfolding handle_of needed_by
returns-in-DelayRequest c =
    let a = c.args in
    let t = settings_of a.set.now a.names.now a.ids.now in
    free t a.pdu.now a.receive DelayRequest c.in-DelayRequest.is refl
