-- `message_ccm::write_ccm` meets its contract: address, head and fixed part, each laid behind the one before it.
use mathlib.Core.Path.{◌≡◌, ap, ◌∙◌}
use mathlib.Core.List.{List}
use Prim.Native.Nat.{ℕ}
use native.Mathlib.Omega.{arith}
use lib.ListN.{length}
use Rattle.base_laws.specs.Lists.{part, laid}
use Rattle.state_settings.specs.Settings.{address_at, name_octets, meg_named}
use Rattle.message_parts.proofs.Numbers.{no_room_lem, room}
use Rattle.message_ccm.specs.Continuity.{ccm_octets}
use Rattle.message_ccm.proofs.Laid.{ccm-laid, ccm-long}
use Rattle.state_settings.proofs.Shape.{own_long, meg-long, own_first}
use borrow.Author.Rules.{rules}
use Rattle.message_ccm.proofs.write_ccm.Goals as goal

pub returns-then-into-lt-CCM_LENGTH : goal.returns-then-into-lt-CCM_LENGTH
returns-then-into-lt-CCM_LENGTH c =
    let a = c.args in
    let f = a.names.now in
    let h : length f ≡ name_octets = search rules in
    let long = ccm-long (address_at 0 f) (meg_named f) a.ccm (own_long f h) (meg-long f h) in
    let w = no_room_lem (ccm_octets (address_at 0 f) (meg_named f) a.ccm) a.into.now 89 long (omega arith) in
    record { value = w.0; into_after = (w.1, long) }

pub slice_bounds-write_head-end : goal.slice_bounds-write_head-end
slice_bounds-write_head-end c = own_first c.args.names.now (search rules)

pub write_head-requires : goal.write_head-requires
unfolding part
write_head-requires c = (search rules, own_long c.args.names.now (search rules))

pub returns : goal.returns
unfolding part
returns c =
    let fixed = c in
    let head = c in
    let flags = c.ccm_flags in
    let octet = c.first_octet in
    let address = c in
    let group = c in
    let test = c.if-into-lt-CCM_LENGTH in
    let a = c.args in
    let f = a.names.now in
    let h : length f ≡ name_octets = search rules in
    let l = a.into.now in
    let long = ccm-long (address_at 0 f) (meg_named f) a.ccm (own_long f h) (meg-long f h) in
    let laid-all = ccm-laid (address_at 0 f) (meg_named f) a.ccm octet.result flags.result l (own_long f h) (meg-long f h)
    test.false
    octet.ensures
    flags.ensures
    (address.copy_octets.ensures ∙ ap (λ (xs : List ℕ). laid 0 xs l) group.multicast_of-group.ensures)
    head.write_head.ensures
    fixed.write_ccm_fixed.ensures in
    let w = room (ccm_octets (address_at 0 f) (meg_named f) a.ccm) l 89 long fixed.write_ccm_fixed.new.into test.false laid-all in
    record { value = w.0; into_after = (w.1, long) }
