-- `message_ccm::write_ccm_fixed` meets its contract: seven pieces, each laid behind the one before it.
use Rattle.message_ccm.proofs.Laid.{fixed-laid}
use Rattle.message_ccm.proofs.write_ccm_fixed.Goals as goal

pub returns : goal.returns
returns c = let p7 = c in
    let p6 = c in
    let p5 = c in
    let p4 = c in
    let p3 = c in
    let p2 = c in
    let p1 = c in
    let s = c in
    let a = s.args in
    fixed-laid a.meg.now a.ccm p2.mep_id_of.result a.into.now s.requires.1 s.requires.0
    p2.mep_id_of.ensures
    p1.write_big.ensures
    p2.write_big-2.ensures
    p3.copy_octets.ensures
    p4.write_big-3.ensures
    p5.write_big-4.ensures
    p6.write_big-5.ensures
    p7.write_big-6.ensures
