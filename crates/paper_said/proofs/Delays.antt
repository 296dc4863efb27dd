-- The delays of a reply, from the paper's conditions on its stamps. Assumes nothing.
use Prim.Native.Nat.{◌^◌}
use mathlib.Core.Path.{◌≡◌, sym, ◌∙◌}
use mathlib.Core.Bool.{Bool, true, false, not, ◌&&◌, ◌||◌, true≢false}
use mathlib.Core.Logic.{⊎_elim}
use lib.Dec.{ltb}
use lib.IntN.{◌-ℤ◌}
use lib.Signed.{mag}
use borrow.Author.Tests.{lt-ltb, ltb-true}
use Rattle.std.specs.Prelude.{Result, Ok, Err}
use Rattle.base_laws.specs.Tests.{choose}
use Rattle.base_laws.specs.Lists.{every}
use Rattle.base_laws.proofs.Tests.{known as if-known, split, join}
use Rattle.base_stamp.specs.declared.Stamp.{Stamp}
use Rattle.receive_delay.specs.declared.NoDelay.{NoDelay}
use Rattle.receive_delay.specs.declared.DelayValues.{DelayValues}
use Rattle.receive_delay.specs.declared.NoDelay.TheVariants.{BadStamp, TooLarge}
use Rattle.receive_delay.specs.declared.DelayValues.TheVariants.{TwoWay, AllWays}
use Rattle.base_stamp.specs.Stamps.{good, given}
use Rattle.receive_delay.specs.Used.{paired, usable, between}
use Rattle.receive_delay.specs.Delays.{formed, held, delays_of}
use Rattle.paper_said.specs.Calls.{Arrival}
use Rattle.paper_said.specs.Cases.{StampGood}
use Rattle.paper_said.specs.Taken.{txf, rxf, txb, Paired, BadDelay, bad_txf, bad_rxf, bad_txb, no_receipt, Held}
use Rattle.paper_said.proofs.Stamps.{untrue, unfalse, good-yes, good-only, given-no, given-only, given_yes, paired_yes, paired-only}
use Rattle.paper_said.proofs.Stamps.{paired_no}

module _ (a : Arrival) where
  abbrev middle : Bool
  middle = not (paired (rxf a) (txb a)) || good (rxf a) && good (txb a)

  abbrev useful : Bool
  useful = usable (txf a) (rxf a) (txb a) a.receive

  middle-good : middle ≡ true → Paired a → (StampGood (rxf a)) × (StampGood (txb a))
  middle-good e p =
      let m : (good (rxf a) && good (txb a)) ≡ true = rw (paired_yes a p) at e in
      let g = split (good (rxf a)) (good (txb a)) m in
      (good-only (rxf a) g.0, good-only (txb a) g.1)

  middle-yes : (Paired a → StampGood (rxf a)) → (Paired a → StampGood (txb a)) → middle ≡ true
  middle-yes r t =
      ⊎_elim
      (λ (e : paired (rxf a) (txb a) ≡ true).
      let p = paired-only a e in
      rw (e, good-yes (rxf a) (r p), good-yes (txb a) (t p)))
      (λ (e : paired (rxf a) (txb a) ≡ false). rw e)
      (if-known (paired (rxf a) (txb a)))

  pub bad-not-useful : BadDelay a → useful ≡ false
  bad-not-useful b = untrue useful (λ e. held_back b e) where
    held_back : BadDelay a → useful ≡ true → ⊥
    held_back (bad_txf n) e =
        n (good-only (txf a) (split (good (txf a)) middle (split (good (txf a) && middle) (given a.receive) e).0).0)
    held_back (bad_rxf p n) e =
        n (middle-good (split (good (txf a)) middle (split (good (txf a) && middle) (given a.receive) e).0).1 p).0
    held_back (bad_txb p n) e =
        n (middle-good (split (good (txf a)) middle (split (good (txf a) && middle) (given a.receive) e).0).1 p).1
    held_back (no_receipt n) e = true≢false (sym (split (good (txf a) && middle) (given a.receive) e).1 ∙ given-no a.receive n)

  stamp-good : (t : Stamp) → ((StampGood t → ⊥) → BadDelay a) → (BadDelay a → ⊥) → StampGood t
  stamp-good t make n = good-only t (unfalse (good t) (λ e. n (make (λ g. true≢false (sym (good-yes t g) ∙ e)))))

  pub not-bad-useful : (BadDelay a → ⊥) → useful ≡ true
  not-bad-useful n =
      join (good (txf a) && middle) (given a.receive)
      (join (good (txf a)) middle
      (good-yes (txf a) (stamp-good (txf a) bad_txf n))
      (middle-yes (λ p. stamp-good (rxf a) (bad_rxf p) n) (λ p. stamp-good (txb a) (bad_txb p) n)))
      (given_yes a.receive (λ g. n (no_receipt g)))

  pub useful-not-bad : useful ≡ true → BadDelay a → ⊥
  useful-not-bad e b = true≢false (sym e ∙ bad-not-useful b)

  middle-bad : middle ≡ false → BadDelay a
  middle-bad e =
      ⊎_elim
      (λ (p : paired (rxf a) (txb a) ≡ true).
      let both : (good (rxf a) && good (txb a)) ≡ false = rw p at e in
      ⊎_elim
      (λ (g : good (rxf a) ≡ true). bad_txb (paired-only a p) (λ h. true≢false (sym (good-yes (txb a) h) ∙ rw g at both)))
      (λ (g : good (rxf a) ≡ false). bad_rxf (paired-only a p) (λ h. true≢false (sym (good-yes (rxf a) h) ∙ g)))
      (if-known (good (rxf a))))
      (λ (p : paired (rxf a) (txb a) ≡ false). let t : ◌≡◌ {A = Bool} true false = rw p at e in absurd (true≢false t))
      (if-known (paired (rxf a) (txb a)))

  pub not-useful-bad : useful ≡ false → BadDelay a
  not-useful-bad e =
      ⊎_elim
      (λ (g : good (txf a) ≡ true).
      ⊎_elim
      (λ (m : middle ≡ true). no_receipt (given-only a.receive (rw (g, m) at e)))
      middle-bad
      (if-known middle))
      (λ (g : good (txf a) ≡ false). bad_txf (λ h. true≢false (sym (good-yes (txf a) h) ∙ g)))
      (if-known (good (txf a)))

  -- ── the answers ──

  abbrev pub measured : Result DelayValues NoDelay
  measured = delays_of (txf a) (rxf a) (txb a) a.receive

  pub delay_d7 : BadDelay a → measured ≡ Err BadStamp
  unfolding delays_of choose
  delay_d7 b = rw (bad-not-useful b)

  module _ (n : BadDelay a → ⊥) where
    pub delay-two : (Paired a → ⊥) → Held (between (txf a) a.receive) → measured ≡ Ok (TwoWay (between (txf a) a.receive))
    unfolding delays_of choose every
    delay-two p h = rw (not-bad-useful n, paired_no a p, lt-ltb (mag (between (txf a) a.receive)) (2 ^ 63) h)

    pub delay-two_d8 : (Paired a → ⊥) → (Held (between (txf a) a.receive) → ⊥) → measured ≡ Err TooLarge
    unfolding delays_of choose every
    delay-two_d8 p h =
        rw (not-bad-useful n, paired_no a p, untrue (ltb (mag (between (txf a) a.receive)) (2 ^ 63)) (λ e. h (ltb-true _ _ e)))

    module _ (p : Paired a) where
      pub delay-all : Held (between (txf a) a.receive -ℤ between (rxf a) (txb a)) → Held (between (txf a) (rxf a))
          → Held (between (txb a) a.receive)
          → measured ≡ Ok (AllWays (between (txf a) a.receive -ℤ between (rxf a) (txb a)) (between (txf a) (rxf a))
          (between (txb a) a.receive))
      unfolding delays_of choose every
      delay-all x y z = rw (not-bad-useful n, paired_yes a p, lt-ltb _ _ x, lt-ltb _ _ y, lt-ltb _ _ z)

      pub all_held : every held (formed (txf a) (rxf a) (txb a) a.receive) ≡ true
          → (Held (between (txf a) a.receive -ℤ between (rxf a) (txb a))) × (Held (between (txf a) (rxf a)))
          × (Held (between (txb a) a.receive))
      unfolding every
      all_held e =
          let x : (held (between (txf a) a.receive -ℤ between (rxf a) (txb a)) &&
          (held (between (txf a) (rxf a)) && (held (between (txb a) a.receive) && true))) ≡ true = rw (paired_yes a p) at e in
          let u = split _ _ x in
          let v = split _ _ u.1 in
          let w = split _ _ v.1 in
          (ltb-true _ _ u.0, ltb-true _ _ v.0, ltb-true _ _ w.0)

      pub held_all : Held (between (txf a) a.receive -ℤ between (rxf a) (txb a)) → Held (between (txf a) (rxf a))
          → Held (between (txb a) a.receive)
          → every held (formed (txf a) (rxf a) (txb a) a.receive) ≡ true
      unfolding every
      held_all x y z = rw (paired_yes a p, lt-ltb _ _ x, lt-ltb _ _ y, lt-ltb _ _ z)

      pub delay-all_d8 : (Held (between (txf a) a.receive -ℤ between (rxf a) (txb a)) → Held (between (txf a) (rxf a))
          → Held (between (txb a) a.receive) → ⊥) → measured ≡ Err TooLarge
      unfolding delays_of choose
      delay-all_d8 h =
          rw (
            not-bad-useful n,
            untrue (every held (formed (txf a) (rxf a) (txb a) a.receive)) (λ e. let t = all_held e in h t.0 t.1 t.2),
          )
