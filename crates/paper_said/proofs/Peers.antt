-- Whose CCM it is: the box's look-up finds the slot of the paper's peer. Assumes nothing.
use Prim.Native.Nat.{ℕ, ◌≤◌, ◌<◌}
use mathlib.Core.Path.{◌≡◌, sym, ap, ◌∙◌}
use mathlib.Core.Bool.{true, false}
use mathlib.Core.List.{List}
use mathlib.Core.Logic.{⊎_elim}
use native.Mathlib.Omega.{arith}
use lib.Dec.{ltb}
use lib.ListN.{length, get_or}
use lib.Seq.{length-take-le, get_or-take}
use borrow.Author.Tests.{le-leb, lt-leb, eq-eqb, ne_eqb, ltb-true, ltb-false}
use Rattle.base_laws.specs.Tests.{choose}
use Rattle.base_laws.specs.Lists.{absent, place_of, same}
use Rattle.base_laws.proofs.Meanings.{same_is, absent_is, place_holds, place_first, place_absent}
use Rattle.base_laws.proofs.Tests.{known as if-known}
use Rattle.state_settings.specs.Valid.{Valid}
use Rattle.frame_ccm.specs.Ccm.{ccm_in, meg_in}
use Rattle.state_view.specs.State.{State}
use Rattle.receive_signals.specs.declared.Signal.TheVariants.{Mismerge, UnexpectedMep, Heard, UnexpectedPeriod}
use Rattle.receive_peer.specs.Peers.{used_peers, slot_of, ccm_signal}
use Rattle.paper_said.specs.Taken.{PeerAt}

unequal : (l m : List ℕ) → (l ≡ m → ⊥) → same l m ≡ false
unequal l m n =
    ⊎_elim
    (λ (t : same l m ≡ true). absurd (n ((same_is l m).0 t)))
    (λ (t : same l m ≡ false). t)
    (if-known (same l m))

module _ (s : State) (v : Valid s.settings) where
  pub used-long : length (used_peers s.settings) ≡ s.settings.count
  used-long = length-take-le s.settings.count s.settings.ids v.slots

  pub used-at : (i : ℕ) → i < s.settings.count → get_or (used_peers s.settings) i 0 ≡ get_or s.settings.ids i 0
  used-at i h = get_or-take s.settings.count s.settings.ids i 0 h

  -- the first place of a peer's ID is its slot: no other used slot holds it
  pub found : (id k : ℕ) → PeerAt s k id → place_of id (used_peers s.settings) ≡ k
  found id k p =
      let u = used_peers s.settings in
      let j = place_of id u in
      let here : get_or u k 0 ≡ id = used-at k p.used ∙ p.same in
      let late : j ≤ k = ⊎_elim (λ (t : ltb k j ≡ true). absurd (place_first id u k (ltb-true k j t) here))
      (λ (t : ltb k j ≡ false). ltb-false k j t) (if-known (ltb k j)) in
      ⊎_elim
      (λ (t : ltb j k ≡ true).
      let less : j < k = ltb-true j k t in
      let there : get_or u j 0 ≡ id = place_holds id u (omega (arith, less, used-long, p.used)) in
      absurd (v.distinct j k less p.used (sym (used-at j (omega (arith, less, p.used))) ∙ there ∙ sym p.same)))
      (λ (t : ltb j k ≡ false). let more : k ≤ j = ltb-false j k t in omega (arith, late, more))
      (if-known (ltb j k))

  -- where no slot holds the ID, none is found
  not_found : (id : ℕ) → ((k : ℕ) → PeerAt s k id → ⊥) → length (used_peers s.settings) ≤ place_of id (used_peers s.settings)
  not_found id n =
      let u = used_peers s.settings in
      let none : absent id u ≡ true = (absent_is id u).1
      (λ i h e. let c : i < s.settings.count = omega (arith, h, used-long) in n i (record { used = c; same = sym (used-at i c) ∙ e }))
      in
      let e : place_of id u ≡ length u = (place_absent id u).1 none in
      omega (arith, e)

  module _ (p : List ℕ) where
    pub signal_mismerge : (meg_in p ≡ s.settings.meg → ⊥) → ccm_signal s.settings p ≡ Mismerge
    unfolding ccm_signal choose
    signal_mismerge n = rw (unequal (meg_in p) s.settings.meg n)

    module _ (m : meg_in p ≡ s.settings.meg) where
      pub signal_mep : ((k : ℕ) → PeerAt s k (ccm_in p).mep → ⊥) → ccm_signal s.settings p ≡ UnexpectedMep
      unfolding ccm_signal choose
      signal_mep n =
          rw (
            (same_is (meg_in p) s.settings.meg).1 m,
            le-leb (length (used_peers s.settings)) (slot_of s.settings p) (not_found (ccm_in p).mep n),
          )

      module _ (k : ℕ) (at : PeerAt s k (ccm_in p).mep) where
        slot_is : slot_of s.settings p ≡ k
        slot_is = found (ccm_in p).mep k at

        inside : slot_of s.settings p < length (used_peers s.settings)
        inside = omega (arith, slot_is, used-long, at.used)

        pub signal_peer : (ccm_in p).period ≡ s.settings.period → ccm_signal s.settings p ≡ Heard k (ccm_in p).rdi
        unfolding ccm_signal choose
        signal_peer e =
            rw (
              (same_is (meg_in p) s.settings.meg).1 m,
              lt-leb (length (used_peers s.settings)) (slot_of s.settings p) inside,
              eq-eqb (ccm_in p).period s.settings.period e,
            ) (ap (λ (j : ℕ). Heard j (ccm_in p).rdi) slot_is)

        pub signal_period : ((ccm_in p).period ≡ s.settings.period → ⊥) → ccm_signal s.settings p ≡ UnexpectedPeriod k (ccm_in p).rdi
        unfolding ccm_signal choose
        signal_period e =
            rw (
              (same_is (meg_in p) s.settings.meg).1 m,
              lt-leb (length (used_peers s.settings)) (slot_of s.settings p) inside,
              ne_eqb (ccm_in p).period s.settings.period e,
            ) (ap (λ (j : ℕ). UnexpectedPeriod j (ccm_in p).rdi) slot_is)
