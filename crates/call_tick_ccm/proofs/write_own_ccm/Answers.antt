-- `call_tick_ccm::write_own_ccm` meets its contract: the state's own address and MEG ID from the copy, its values, and the conditions that
-- stand.
use Prim.Native.Nat.{ℕ}
use mathlib.Core.Path.{refl, sym, ap, ◌∙◌}
use mathlib.Core.List.{List}
use lib.ListN.{length}
use Rattle.state_settings.specs.Settings.{address_at, meg_named}
use Rattle.state_view.specs.State.{state_lent}
use Rattle.message_parts.specs.Buffer.{written_of, buffer_of, written_numbers}
use Rattle.call_tick_ccm.proofs.Said.{said}
use Rattle.call_tick_ccm.proofs.write_own_ccm.Goals as goal

pub returns : goal.returns
returns c =
    let a = c.args in
    let f = a.state.settings.names.now in
    let o = a.out.now in
    let s = state_lent a.state in
    let flag = c.flag_of in
    let stands = c.any_stands-stands in
    let e = said s (address_at 0 f) (meg_named f) flag.result stands.result refl refl flag.ensures stands.ensures in
    let w = c.write_ccm.ensures in record { value = (w.value.0 ∙ ap (λ (m : List ℕ). written_of m o) e, w.value.1 ∙ ap (λ (m : List ℕ). written_numbers m o) e); out_after = (w.into_after.0 ∙ ap (λ (m : List ℕ). buffer_of m o) e, sym (ap length e) ∙ w.into_after.1) }
