-- `message_lmm::write_lmm` meets its contract: destination, head, what is sent and zeros, each laid behind the one before it.
use mathlib.Core.Path.{◌≡◌}
use lib.ListN.{length}
use Rattle.base_laws.specs.Lists.{part}
use Rattle.state_settings.specs.Settings.{name_octets}
use Rattle.message_parts.specs.Messages.{count}
use Rattle.message_parts.proofs.Laid.{count_long}
use Rattle.message_requests.specs.Requests.{lmm_octets}
use Rattle.message_requests.proofs.Laid.{short, written}
use Rattle.state_settings.proofs.Shape.{own_long, own_first}
use borrow.Author.Rules.{rules}
use Rattle.message_lmm.proofs.write_lmm.Goals as goal

pub returns-then-into-lt-LMM_LENGTH : goal.returns-then-into-lt-LMM_LENGTH
unfolding lmm_octets
returns-then-into-lt-LMM_LENGTH c =
    let a = c.args in
    let f = a.names.now in
    let h : length f ≡ name_octets = search rules in
    let both = short f h a.level 43 12 (count a.sent) 4 9 (count_long a.sent) a.into.now c.if-into-lt-LMM_LENGTH.true in
    record { value = both.0; into_after = both.1 }

pub slice_bounds-write_head-end : goal.slice_bounds-write_head-end
slice_bounds-write_head-end c = own_first c.args.names.now (search rules)

pub write_head-requires : goal.write_head-requires
unfolding part
write_head-requires c = (search rules, own_long c.args.names.now (search rules))

pub returns : goal.returns
unfolding part lmm_octets
returns c =
    let zeros = c in
    let value = c in
    let head = c in
    let octet = head in
    let address = c in
    let test = c in
    let a = c.args in
    let f = a.names.now in
    let h : length f ≡ name_octets = search rules in
    let both = written f h a.level 43 12 (count a.sent) 4 9 (count_long a.sent) a.into.now
    octet.first_octet.result test.if-into-lt-LMM_LENGTH.false
    octet.first_octet.ensures
    address.copy_octets.ensures
    head.write_head.ensures
    value.write_big.ensures
    zeros.write_big-2.ensures in
    record { value = both.0; into_after = both.1 }
