-- Our box follows the paper at a tick, and its RDI tells whether a condition stands. Assumes nothing.
use Prim.Native.Nat.{ℕ, ◌-◌, ◌≤◌, ◌<◌}
use mathlib.Core.Path.{◌≡◌, refl, ap, ◌∙◌}
use mathlib.Core.Bool.{Bool, true}
use mathlib.Core.List.{List}
use native.Mathlib.Omega.{arith}
use lib.ListN.{length}
use borrow.Author.Tests.{le-ltb, lt-ltb}
use Rattle.base_laws.specs.Tests.{choose}
use Rattle.base_laws.specs.Lists.{laid}
use Rattle.base_period.specs.Periods.{ticks_of}
use Rattle.state_view.specs.State.{State}
use Rattle.state_view.specs.Changed.{put, lowered}
use Rattle.state_view.specs.Changed as word
use Rattle.state_view.specs.WellFormed.{WellFormed}
use Rattle.state_standing.specs.Standing as box
use Rattle.state_standing.specs.Standing.{standing}
use Rattle.state_standing.specs.Flag.{flag}
use Rattle.state_standing.proofs.Rules as Rules
use Rattle.call_tick_ccm.specs.Ccm.{ccm_of}
use Rattle.call_tick.specs.Tick.{tick_of}
use Rattle.paper_said.specs.Calls as call
use Rattle.paper_said.specs.Calls.{leaves, refused, done, written}
use Rattle.paper_said.specs.Standing.{Flag, on, off, Stands}
use Rattle.paper_said.specs.Standing as standing
use Rattle.paper_said.specs.Made.{ccm_from}
use Rattle.paper_said.specs.Ours.{ours}
use Rattle.paper_said.proofs.Stamps.{untrue}
use Rattle.paper_said.proofs.MeetsRefused.{well, not_well}

-- ── a tick ──

-- what stands by the paper is what stands by the box, and the ticks to the next CCM are no part of it
pub stands-to : (s : State) → Stands s → box.Stands s
stands-to s (standing.lost k h l) = box.lost k l.used h l.ended
stands-to s (standing.mismerge h) = box.mismerge h
stands-to s (standing.unexpected_mep h) = box.unexpected_mep h
stands-to s (standing.unexpected_period h) = box.unexpected_period h
stands-to s (standing.unexpected_level h) = box.unexpected_level h
stands-to s (standing.ais h) = box.ais h
stands-to s (standing.lck h) = box.lck h

pub stands_from : (s : State) → box.Stands s → Stands s
stands_from s (box.lost k u h e) = standing.lost k h (record { used = u; ended = e })
stands_from s (box.mismerge h) = standing.mismerge h
stands_from s (box.unexpected_mep h) = standing.unexpected_mep h
stands_from s (box.unexpected_period h) = standing.unexpected_period h
stands_from s (box.unexpected_level h) = standing.unexpected_level h
stands_from s (box.ais h) = standing.ais h
stands_from s (box.lck h) = standing.lck h

next-apart : (s : State) (v : ℕ) → standing (put word.next v s) ≡ standing s
unfolding standing
next-apart s v = refl

-- a flag is the test's, where the test decides
pub flagged : (b : Bool) {P : Type 0} {v : ℕ} → (b ≡ true → P) → (P → b ≡ true) → Flag P v → flag b ≡ v
flagged b to from (on p) = ap flag (from p)
flagged b to from (off n) = ap flag (untrue b (λ e. n (to e)))

rdi-is : (s : State) (v rdi : ℕ) → Flag (Stands s) rdi → flag (standing (put word.next v s)) ≡ rdi
rdi-is s v rdi f =
    ap flag (next-apart s v)
    ∙ flagged (standing s) (λ e. stands_from s (((Rules.standing_is).standing_is s).0 e))
    (λ p. ((Rules.standing_is).standing_is s).1 (stands-to s p)) f

module _ (s : State) (b : List ℕ) where
  pub tick_2 : (WellFormed s → ⊥) → ours s (call.tick b) ≡ leaves (refused 2) s b
  unfolding tick_of choose
  tick_2 n = rw (not_well s n)

  pub tick_lowers : WellFormed s → 1 < s.next → ours s (call.tick b) ≡ leaves done (put word.next (s.next - 1) (lowered s)) b
  unfolding tick_of choose
  tick_lowers w h = rw (well s w, lt-ltb 1 s.next h)

  pub tick_3 : WellFormed s → s.next ≡ 1 → length b < 89 → ours s (call.tick b) ≡ leaves (refused 3) s b
  unfolding tick_of choose
  tick_3 w e h = rw (well s w, le-ltb 1 s.next (omega arith), lt-ltb (length b) 89 h)

  last-tick : WellFormed s → s.next ≡ 1 → 89 ≤ length b
      → ours s (call.tick b) ≡ leaves (written 89) (put word.next (ticks_of s.settings.period) (lowered s))
      (laid 0 (ccm_of (put word.next (ticks_of s.settings.period) (lowered s))) b)
  unfolding tick_of choose
  last-tick w e h = rw (well s w, le-ltb 1 s.next (omega arith), le-ltb (length b) 89 h)

  ccm-is : (v rdi : ℕ) → Flag (Stands (lowered s)) rdi → ccm_of (put word.next v (lowered s)) ≡ ccm_from s rdi
  unfolding ccm_of
  ccm-is v rdi f = ap (ccm_from s) (rdi-is (lowered s) v rdi f)

  pub tick_sends : (rdi : ℕ) → WellFormed s → s.next ≡ 1 → 89 ≤ length b → Flag (Stands (lowered s)) rdi
      → ours s (call.tick b) ≡ leaves (written 89) (put word.next (ticks_of s.settings.period) (lowered s)) (laid 0 (ccm_from s rdi) b)
  tick_sends rdi w e h f =
      last-tick w e h
      ∙ ap (λ (m : List ℕ). leaves (written 89) (put word.next (ticks_of s.settings.period) (lowered s)) (laid 0 m b))
      (ccm-is (ticks_of s.settings.period) rdi f)
