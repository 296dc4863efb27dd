-- Any readings are the readings of some true counts, so demand 3 leaves no choice. Assumes nothing.
use Prim.Native.Nat.{ℕ, ◌+◌, ◌-◌, ◌%◌, ◌^◌, ◌≤◌, ◌<◌}
use mathlib.Core.Path.{◌≡◌, refl, sym, ap, ap₂, ◌∙◌}
use mathlib.Core.List.{List, [], ◌∷◌, map}
use native.Mathlib.Omega.{arith}
use lib.ListN.{length}
use Rattle.loss_session.specs.declared.Readings.{Readings}
use Rattle.loss_session.specs.Session.{LossEnd, near, far, sent_of, received_of, cleared_session, most_readings}
use Rattle.loss_account.specs.Account.{Truth, Grows, GoesOn, Sound}
use Rattle.loss_account.specs.Demand3.{Step, answers, Shows, Agrees, Demand3, Counts, truth_of, shown, Steady, Small, Tight}
use Rattle.loss_account.proofs.Both.{pairs, pairs-seen}

-- the least true count from a on that is read as b
abbrev on_to : ℕ → ℕ → ℕ
on_to a b = a + (b + (4294967296 - a % 4294967296)) % 4294967296

on_to-read : (a b : ℕ) → b < 2 ^ 32 → b ≡ on_to a b % 2 ^ 32
on_to-read a b h = omega arith

on_to-grows : (a b : ℕ) → Grows a (on_to a b)
on_to-grows a b = record { rises = omega arith; small = omega arith }

-- true counts that the readings show, built up from t
abbrev next : LossEnd → Truth → Readings → Truth
next d t r = record { sent = on_to t.sent (sent_of d r); received = on_to t.received (received_of d r) }

unfoldable build : LossEnd → Truth → List Readings → List Truth
build d t [] = []
build d t (r ∷ rs) = next d t r ∷ build d (next d t r) rs

build_shows : (d : LossEnd) (t : Truth) (rs : List Readings) → Small rs → Shows d rs (build d t rs)
unfolding build
build_shows d t [] h = tt
build_shows d t (r ∷ rs) h = (
  on_to-read t.sent (sent_of d r) (h.0 d).0,
  on_to-read t.received (received_of d r) (h.0 d).1,
  build_shows d (next d t r) rs h.1,
)

build_goes : (d : LossEnd) (t : Truth) (rs : List Readings) → GoesOn t (build d t rs)
unfolding build
build_goes d t [] = tt
build_goes d t (r ∷ rs) = (on_to-grows t.sent (sent_of d r), on_to-grows t.received (received_of d r), build_goes d (next d t r) rs)

abbrev origin : Truth
origin = record { sent = 0; received = 0 }

sound : (d : LossEnd) (rs : List Readings) → Sound (build d origin rs)
unfolding build
sound d [] = tt
sound d (r ∷ rs) = build_goes d (next d origin r) rs

-- so any readings of 32 bits show true counts that neither fall nor grow too far
pub shown_by : (d : LossEnd) (rs : List Readings) → Small rs → (ts : List Truth) × (Shows d rs ts) × (Sound ts)
shown_by d rs small = (build d origin rs, build_shows d origin rs small, sound d rs)

-- and of all four counts at once
abbrev onward : Counts → Readings → Counts
onward t r = record {
  txf = on_to t.txf r.txf;
  rxf = on_to t.rxf r.rxf;
  txb = on_to t.txb r.txb;
  ours = on_to t.ours r.ours;
}

onward-read : (t : Counts) (r : Readings) → ((d : LossEnd) → (sent_of d r < 2 ^ 32) × (received_of d r < 2 ^ 32)) → shown (onward t r) ≡ r
onward-read t r k =
    rw (
      sym (on_to-read t.txf r.txf (k far).0),
      sym (on_to-read t.rxf r.rxf (k far).1),
      sym (on_to-read t.txb r.txb (k near).0),
      sym (on_to-read t.ours r.ours (k near).1),
    )

unfoldable counts_from : Counts → List Readings → List Counts
counts_from t [] = []
counts_from t (r ∷ rs) = onward t r ∷ counts_from (onward t r) rs

counts_sides : (d : LossEnd) (t : Counts) (rs : List Readings) → map (truth_of d) (counts_from t rs) ≡ build d (truth_of d t) rs
unfolding build counts_from
counts_sides d t [] = refl
counts_sides near t (r ∷ rs) = ap (λ (l : List Truth). next near (truth_of near t) r ∷ l) (counts_sides near (onward t r) rs)
counts_sides far t (r ∷ rs) = ap (λ (l : List Truth). next far (truth_of far t) r ∷ l) (counts_sides far (onward t r) rs)

counts-shown : (t : Counts) (rs : List Readings) → Small rs → map shown (counts_from t rs) ≡ rs
unfolding counts_from
counts-shown t [] h = refl
counts-shown t (r ∷ rs) h = ap₂ ◌∷◌ (onward-read t r h.0) (counts-shown (onward t r) rs h.1)

abbrev nothing : Counts
nothing = record { txf = 0; rxf = 0; txb = 0; ours = 0 }

pub shown-by-all : (rs : List Readings) → Small rs → (ts : List Counts) × (map shown ts ≡ rs) × Steady ts
shown-by-all rs small = (counts_from nothing rs, counts-shown nothing rs small, steady)
  where
    steady : (d : LossEnd) → Sound (map (truth_of d) (counts_from nothing rs))
    steady near = rw (counts_sides near nothing rs) (sound near rs)
    steady far = rw (counts_sides far nothing rs) (sound far rs)

agrees : (f : Step) → Demand3 f → (rs : List Readings) → length rs ≤ most_readings → Small rs → (d : LossEnd)
    → Agrees f d rs (build d origin rs)
agrees f m rs few small d = m.side d rs (build d origin rs) few (build_shows d origin rs small) (sound d rs)

pub tight : Tight
tight f g m k rs few small =
    let a = agrees f m rs few small in
    let b = agrees g k rs few small in
    record {
      results = sym (pairs-seen (answers f cleared_session rs))
          ∙ ap₂ pairs ((a near).results ∙ sym (b near).results) ((a far).results ∙ sym (b far).results)
          ∙ pairs-seen (answers g cleared_session rs);
      totals = λ d. (a d).totals ∙ sym (b d).totals;
      intervals = m.intervals rs few ∙ sym (k.intervals rs few);
    }
