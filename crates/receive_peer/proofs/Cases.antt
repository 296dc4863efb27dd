-- The cases of a CCM, from what the code finds: the MEG ID compared, the slot looked up, the flags. Assumes nothing.
use Prim.Native.Nat.{ℕ, ◌≤◌, ◌<◌}
use mathlib.Core.Path.{◌≡◌, sym, ◌∙◌}
use mathlib.Core.Bool.{Bool, true, false}
use mathlib.Core.List.{List}
use lib.ListN.{length, take, drop}
use borrow.Author.Tests.{le-leb, lt-leb, eq-eqb, ne_eqb}
use Rattle.base_laws.specs.Tests.{choose}
use Rattle.base_laws.specs.Lists.{part, same, place_of}
use Rattle.base_numbers.specs.Numbers.{number, big_endian}
use Rattle.base_bits.specs.Fields.{mep_id}
use Rattle.state_settings.specs.Settings.{Settings}
use Rattle.frame_ccm.specs.Ccm.{ccm_in}
use Rattle.receive_signals.specs.declared.Signal.TheVariants as signal
use Rattle.receive_peer.specs.Peers.{used_peers, slot_of, ccm_signal}

module _ (t : Settings) (p : List ℕ) (same-found : Bool) (m : same-found ≡ same (take 48 (drop 10 p)) t.meg) where
  pub mismerge : same-found ≡ false → signal.Mismerge ≡ ccm_signal t p
  unfolding ccm_signal choose part
  mismerge e = rw (sym m ∙ e)

  module _ (peers : List ℕ) (field id slot : ℕ) (u : peers ≡ used_peers t) (f : field ≡ number big_endian (part 8 2 p)) (i : id ≡ mep_id field)
      (s : slot ≡ place_of id peers) (e : same-found ≡ true) where
    at : slot ≡ slot_of t p
    at = rw (s, u, i, f)

    pub unknown : length peers ≤ slot → signal.UnexpectedMep ≡ ccm_signal t p
    unfolding ccm_signal choose part
    unknown h = rw (sym m ∙ e, le-leb (length (used_peers t)) (slot_of t p) (rw (← at, ← u) h))

    module _ (code flag : ℕ) (c : code ≡ (ccm_in p).period) (g : flag ≡ (ccm_in p).rdi) (h : slot < length peers) where
      pub other_period : (code ≡ t.period → ⊥) → signal.UnexpectedPeriod slot flag ≡ ccm_signal t p
      unfolding ccm_signal choose part
      other_period n =
          rw (
            sym m ∙ e,
            lt-leb (length (used_peers t)) (slot_of t p) (rw (← at, ← u) h),
            ne_eqb (ccm_in p).period t.period (λ k. n (c ∙ k)),
            at,
            g,
          )

      pub peer : code ≡ t.period → signal.Heard slot flag ≡ ccm_signal t p
      unfolding ccm_signal choose part
      peer n =
          rw (
            sym m ∙ e,
            lt-leb (length (used_peers t)) (slot_of t p) (rw (← at, ← u) h),
            eq-eqb (ccm_in p).period t.period (sym c ∙ n),
            at,
            g,
          )
