-- Our two counts are tied to the frames, in any run without a new setting, from any state. Assumes nothing.
use Prim.Native.Nat.{ℕ, suc, ◌+◌, ◌%◌, ◌^◌}
use mathlib.Core.Path.{◌≡◌, refl, sym, ap, ◌∙◌}
use mathlib.Core.List.{List, [], ◌∷◌}
use mathlib.Core.Bool.{true, false, true≢false}
use mathlib.Core.Logic.{⊎_elim}
use native.Mathlib.Omega.{arith}
use native.Mathlib.Nat.{mod-add-mod}
use Rattle.base_laws.proofs.Tests.{known}
use Rattle.base_clock.specs.Run.{after}
use Rattle.state_view.specs.State.{State}
use Rattle.state_view.specs.WellFormed.{WellFormed, well_formed}
use Rattle.state_view.proofs.Rules.{well_formed_is}
use Rattle.paper_said.specs.Calls as call
use Rattle.paper_said.specs.Calls.{Call, OnWire, NoSetting, Box}
use Rattle.paper_said.specs.Ours.{Follows}
use Rattle.paper_promised.specs.Refusals as table
use Rattle.paper_promised.specs.Refusals.{Refusal}
use Rattle.paper_promised.proofs.Promised.{promises}
use Rattle.paper_loss.specs.Runs.{run, Each, Event, reply, received, sent, other, Is, Events, none, next, received_in, sent_in}
use Rattle.paper_loss.specs.Runs as event
use Rattle.paper_loss.proofs.Lift.{Within, here, onward}

plus_zero : (n : ℕ) → n ≡ n + 0
plus_zero n = omega arith

plus_suc : (n m : ℕ) → n + 1 + m ≡ n + suc m
plus_suc n m = omega arith

abbrev Tied : Box → ℕ → ℕ → State → List Call → List Event → Type 0
Tied B n m y cs es = ((run B y cs).received ≡ (n + received_in es) % 2 ^ 32) × ((run B y cs).sent ≡ (m + sent_in es) % 2 ^ 32)

module _ (B : Box) (F : Follows B) (s : State) where
  -- from a well-formed state
  counts-well : (cs : List Call) (es : List Event) → Events s cs es → Each OnWire cs → Each NoSetting cs
      → (n m : ℕ) (y : State) → Within s y → y.received ≡ n % 2 ^ 32 → y.sent ≡ m % 2 ^ 32 → Tied B n m y cs es
  unfolding after Each received_in sent_in
  counts-well cs es none u k n m y w h g = (h ∙ ap (λ (x : ℕ). x % 2 ^ 32) (plus_zero n), g ∙ ap (λ (x : ℕ). x % 2 ^ 32) (plus_zero m))
  counts-well cs es (next c (reply txf rxf txb) ds fs i rest) u k n m y w h g =
      let x = here B F s y c (reply txf rxf txb) w u.0 k.0 i in
      counts-well ds fs rest u.1 k.1 n m (B y c).state (onward B F s y c (reply txf rxf txb) w u.0 k.0 i) (x.received ∙ h)
      (x.sent ∙ g)
  counts-well cs es (next c received ds fs i rest) u k n m y w h g =
      let x = here B F s y c received w u.0 k.0 i in
      let r = counts-well ds fs rest u.1 k.1 (n + 1) m (B y c).state (onward B F s y c received w u.0 k.0 i)
      (x.received ∙ ap (λ (q : ℕ). (q + 1) % 2 ^ 32) h ∙ mod-add-mod n (2 ^ 32) 1) (x.sent ∙ g) in
      (r.0 ∙ ap (λ (q : ℕ). q % 2 ^ 32) (plus_suc n (received_in fs)), r.1)
  counts-well cs es (next c sent ds fs i rest) u k n m y w h g =
      let x = here B F s y c sent w u.0 k.0 i in
      let r = counts-well ds fs rest u.1 k.1 n (m + 1) (B y c).state (onward B F s y c sent w u.0 k.0 i)
      (x.received ∙ h) (x.sent ∙ ap (λ (q : ℕ). (q + 1) % 2 ^ 32) g ∙ mod-add-mod m (2 ^ 32) 1) in
      (r.0, r.1 ∙ ap (λ (q : ℕ). q % 2 ^ 32) (plus_suc m (sent_in fs)))
  counts-well cs es (next c other ds fs i rest) u k n m y w h g =
      let x = here B F s y c other w u.0 k.0 i in
      counts-well ds fs rest u.1 k.1 n m (B y c).state (onward B F s y c other w u.0 k.0 i) (x.received ∙ h) (x.sent ∙ g)

-- a state that is not well formed is refused with 2, and left
module _ (B : Box) (F : Follows B) (s : State) (bad : WellFormed s → ⊥) where
  second : (c : Call) → NoSetting c → Refusal s c 2
  second (call.new_setting t) k = absurd (k t refl)
  second (call.frame a) k = table.frame_2 a bad
  second (call.tick b) k = table.tick_2 b bad
  second call.clear k = table.clear_2 bad
  second (call.send_LMM b) k = table.lmm_2 b bad
  second (call.send_DMM t b) k = table.dmm_2 t b bad
  second call.conditions k = table.conditions_2 bad

  left : (c : Call) → OnWire c → NoSetting c → (B s c).state ≡ s
  left c u k = let p = promises.kept B F in (p.left s c 2 u ((p.refuses s c 2 u).1 (second c k))).0

  run-left : (cs : List Call) → Each OnWire cs → Each NoSetting cs → run B s cs ≡ s
  unfolding after Each
  run-left [] u k = refl
  run-left (c ∷ cs) u k = ap (λ (y : State). run B y cs) (left c u.0 k.0) ∙ run-left cs u.1 k.1

  -- and nothing is counted
  nothing : (cs : List Call) (es : List Event) → Events s cs es → (received_in es ≡ 0) × (sent_in es ≡ 0)
  unfolding received_in sent_in
  nothing cs es none = (refl, refl)
  nothing cs es (next c e ds fs i rest) = go i (nothing ds fs rest)
    where
      go : {x : Call} {e : Event} → Is s x e → (received_in fs ≡ 0) × (sent_in fs ≡ 0) → (received_in (e ∷ fs) ≡ 0) × (sent_in (e ∷ fs) ≡ 0)
      go (event.is_reply a l) r = r
      go (event.is_received a h) r = absurd (bad h.heeded.well)
      go (event.is_sent a h) r = absurd (bad h.heeded.well)
      go (event.is_other x n) r = r

  counts-bad : (cs : List Call) (es : List Event) → Events s cs es → Each OnWire cs → Each NoSetting cs
      → (n m : ℕ) → s.received ≡ n % 2 ^ 32 → s.sent ≡ m % 2 ^ 32 → Tied B n m s cs es
  counts-bad cs es v u k n m h g =
      let r = run-left cs u k in
      let z = nothing cs es v in (
        ap (λ (y : State). y.received) r ∙ h ∙ ap (λ (x : ℕ). x % 2 ^ 32) (plus_zero n ∙ ap (λ (x : ℕ). n + x) (sym z.0)),
        ap (λ (y : State). y.sent) r ∙ g ∙ ap (λ (x : ℕ). x % 2 ^ 32) (plus_zero m ∙ ap (λ (x : ℕ). m + x) (sym z.1)),
      )

pub counts : (B : Box) → Follows B → (n m : ℕ) (s : State) (cs : List Call) (es : List Event) → s.received ≡ n % 2 ^ 32
    → s.sent ≡ m % 2 ^ 32
    → Each OnWire cs → Each NoSetting cs → Events s cs es → Tied B n m s cs es
counts B F n m s cs es h g u k v =
    ⊎_elim
    (λ (t : well_formed s ≡ true).
    let w = (well_formed_is.well_formed_is s).0 t in
    counts-well B F s cs es v u k n m s (record { start = w; well = w; settings = refl }) h g)
    (λ (t : well_formed s ≡ false). counts-bad B F s (λ w. true≢false (sym ((well_formed_is.well_formed_is s).1 w) ∙ t)) cs es v u k n m h g)
    (known (well_formed s))
