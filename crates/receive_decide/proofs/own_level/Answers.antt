-- The row of the opcode, the one look, then what it makes of the frame. Assumes nothing.
use mathlib.Core.Path.{◌≡◌, sym, ap, ◌∙◌}
use native.Mathlib.Omega.{arith}
use Prim.Native.Nat.{ℕ, ◌≤◌}
use mathlib.Core.Bool.{true}
use mathlib.Core.List.{List}
use lib.ListN.{length, length-drop}
use Rattle.std.specs.Prelude.{Result, Ok}
use Rattle.state_settings.specs.Settings.{Settings, settings_of}
use Rattle.base_stamp.specs.declared.Stamp.{Stamp}
use Rattle.frame_opcodes.specs.declared.Rule.{Rule}
use Rattle.frame_opcodes.specs.Opcodes.{rule_of}
use Rattle.frame_head.specs.Head.{oam_frame, pdu_of, opcode_of}
use Rattle.receive_handle.specs.Handle.{handled_of}
use Rattle.receive_handle.proofs.Handled.{handled-whole}
use Rattle.receive_handle.specs.declared.Decision.{Decision}
use Rattle.receive_answer.specs.declared.Drop.{Drop}
use Rattle.receive_decide.specs.Decide.{own_of}
use Rattle.receive_decide.specs.OneLook.{look_at, by_look}
use Rattle.receive_decide.proofs.OneLook.{one_look}
use Rattle.receive_decide.proofs.own_level.Goals as goal

-- ── what came in, and what each call found ──

module _ (settings : Settings) (frame : List ℕ) (receive : Stamp) (long : 18 ≤ length frame) (pdu : List ℕ) (is : pdu ≡ pdu_of frame) where
  four : 4 ≤ length pdu
  four = rw (is, length-drop 14 frame) (omega arith)

  row : {r : Rule} → r ≡ rule_of (opcode_of pdu) → r ≡ rule_of (opcode_of (pdu_of frame))
  row e = e ∙ ap (λ (p : List ℕ). rule_of (opcode_of p)) is

  module _ (oam : oam_frame frame ≡ true) {found : Result Unit Drop} (look : found ≡ look_at settings.own settings.losspeer frame) where
    -- what the look found decides
    decides : {l : Result Unit Drop} → found ≡ l → by_look settings frame receive l ≡ own_of settings frame receive
    decides e = ap (by_look settings frame receive) (sym e ∙ look) ∙ sym (one_look.agrees settings frame receive oam long)

    -- a good frame is handled by its row
    handles : {r : Rule} {d : Decision} → found ≡ Ok tt → r ≡ rule_of (opcode_of pdu) → d ≡ handled_of settings pdu receive r.handler
        → d ≡ own_of settings frame receive
    unfolding by_look
    handles {r = r} good e f =
        let p = pdu_of frame in
        f
        ∙ ap (λ (q : List ℕ). handled_of settings q receive r.handler) is
        ∙ ap (λ (r : Rule). handled_of settings p receive r.handler) (row e)
        ∙ handled-whole settings p receive (opcode_of p) (one_look.whole _ _ frame (sym look ∙ good))
        ∙ decides good

-- ── case by case ──

pub bounds-pdu-1 : goal.bounds-pdu-1
bounds-pdu-1 c =
    let a = c.args in
    omega (arith, four (settings_of a.set.now a.names.now a.ids.now) a.frame.now a.receive c.requires.behind_head_in_bounds _ c.pdu_of-pdu.ensures.0)

pub look-requires : goal.look-requires
look-requires c =
    let a = c.args in
    let t = settings_of a.set.now a.names.now a.ids.now in
    record {
      behind_head_in_bounds = c.requires.behind_head_in_bounds;
      rule_value = row t a.frame.now a.receive c.requires.behind_head_in_bounds _ c.pdu_of-pdu.ensures.0 c.rule_of-rule.ensures;
    }

pub returns-in-Err : goal.returns-in-Err
unfolding by_look
returns-in-Err c =
    let a = c.args in
    let t = settings_of a.set.now a.names.now a.ids.now in
    decides t a.frame.now a.receive c.requires.behind_head_in_bounds _ c.pdu_of-pdu.ensures.0 c.requires.frame_value c.look.ensures c.in-Err.is

pub returns-in-Ok : goal.returns-in-Ok
returns-in-Ok c =
    let a = c.args in
    let t = settings_of a.set.now a.names.now a.ids.now in
    handles t a.frame.now a.receive c.requires.behind_head_in_bounds _ c.pdu_of-pdu.ensures.0 c.requires.frame_value c.look.ensures c.in-Ok.is
    c.rule_of-rule.ensures c.handle_message.ensures
