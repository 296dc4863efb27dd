-- The MEG ID, then the slot, then the period code (Cases). Assumes nothing.
use mathlib.Core.Path.{◌≡◌, refl}
use native.Mathlib.Omega.{arith}
use lib.ListN.{length}
use Prim.Native.Nat.{ℕ, ◌<◌}
use mathlib.Core.Bool.{Bool, false}
use mathlib.Core.List.{List}
use lib.Dec.{eqb}
use lib.ListN.{take, drop, length-drop, length-take}
use lib.Seq.{length-take-le}
use Rattle.base_laws.specs.Lists.{part, same}
use Rattle.base_laws.proofs.Compared.{pair_lengths}
use Rattle.state_settings.specs.Settings.{settings_of, meg_octets, meg_from, name_octets, meg_named}
use Rattle.receive_peer.proofs.Cases.{mismerge, unknown, other_period, peer}
use borrow.Author.Rules.{rules}
use Rattle.receive_peer.proofs.ccm_signal.Goals as goal

-- our MEG ID stands behind the two addresses

meg_found : (names p : List ℕ) (found : Bool) → found ≡ same (take meg_octets (drop 10 p)) (take meg_octets (drop meg_from names))
    → found ≡ same (take meg_octets (drop 10 p)) (meg_named names)
unfolding part
meg_found names p found e = e

-- too few octets are not all those of ours

too_short : (names p : List ℕ) → length names ≡ name_octets → length p < 58 → same (take meg_octets (drop 10 p)) (meg_named names) ≡ false
unfolding part
too_short names p n h =
    let ours : length (take meg_octets (drop meg_from names)) ≡ meg_octets =
    length-take-le meg_octets (drop meg_from names) (rw (length-drop meg_from names) (omega (arith, n))) in
    let theirs = length-take meg_octets (drop 10 p) in
    pair_lengths eqb (take meg_octets (drop 10 p)) (take meg_octets (drop meg_from names))
    (λ e. omega (arith, ours, theirs, length-drop 10 p, e, h))

pub returns-then-pdu-lt58 : goal.returns-then-pdu-lt58
returns-then-pdu-lt58 c = let a = c.args in
    let t = settings_of a.set.now a.names.now a.ids.now in
    let p = a.pdu.now in
    let long : length a.names.now ≡ name_octets = search rules in
    mismerge t p (same (take meg_octets (drop 10 p)) t.meg) refl (too_short a.names.now p long c.if-pdu-lt58.true)

pub returns-then-not-same_octets : goal.returns-then-not-same_octets
returns-then-not-same_octets c = let a = c.args in
    let t = settings_of a.set.now a.names.now a.ids.now in
    let p = a.pdu.now in
    mismerge t p _ (meg_found a.names.now p _ c.same_octets.ensures) (c.if-not-same_octets.true)

pub returns-then-peers-slot : goal.returns-then-peers-slot
returns-then-peers-slot c = let a = c.args in
    let t = settings_of a.set.now a.names.now a.ids.now in
    let p = a.pdu.now in
    unknown t p _ (meg_found a.names.now p _ c.same_octets.ensures) _ _ _ _
    c.front-peers.ensures.0 c.read_big.ensures.is
    c.mep_id_of.ensures c.place_of-slot.ensures (c.if-not-same_octets.false)
    c.if-peers-slot.true

pub returns-then-period_code_of-set : goal.returns-then-period_code_of-set
returns-then-period_code_of-set c = let a = c.args in
    let t = settings_of a.set.now a.names.now a.ids.now in
    let p = a.pdu.now in
    other_period t p _ (meg_found a.names.now p _ c.same_octets.ensures) _ _ _ _
    c.front-peers.ensures.0 c.read_big.ensures.is
    c.mep_id_of.ensures c.place_of-slot.ensures
    (c.if-not-same_octets.false) _ _ c.period_code_of.ensures
    c.rdi_of-rdi.ensures.0 (omega arith) c.if-period_code_of-set.true

pub returns : goal.returns
returns c = let a = c.args in
    let t = settings_of a.set.now a.names.now a.ids.now in
    let p = a.pdu.now in
    peer t p _ (meg_found a.names.now p _ c.same_octets.ensures) _ _ _ _
    c.front-peers.ensures.0 c.read_big.ensures.is
    c.mep_id_of.ensures c.place_of-slot.ensures
    (c.if-not-same_octets.false) _ _ c.period_code_of.ensures
    c.rdi_of-rdi.ensures.0 (omega arith) c.if-period_code_of-set.false
