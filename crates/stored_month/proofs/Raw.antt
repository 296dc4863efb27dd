-- Raw replies read back as the readings they were made of. Assumes nothing.
use Prim.Native.Nat.{ℕ, ◌*◌, ◌/◌, ◌^◌, ◌<◌}
use mathlib.Core.Path.{◌≡◌, refl, ap, ap₂, ◌∙◌}
use mathlib.Core.List.{List, [], ◌∷◌, ◌++◌, map, append_assoc}
use native.Mathlib.Omega.{arith}
use lib.ListN.{length, length-append}
use lib.Seq.{drop_at}
use Rattle.base_numbers.specs.Numbers.{little_endian, in_octets}
use Rattle.base_numbers.proofs.Laws.{length-octets, number_among}
use Rattle.loss_session.specs.declared.Readings.{Readings}
use Rattle.loss_session.specs.Session.{LossEnd, readings, near, far, sent_of, received_of}
use Rattle.stored_sheet.specs.Sheet.{joined}
use Rattle.loss_account.specs.Demand3.{Counts, shown, Small}
use Rattle.stored_replies.specs.Replies.{readings_in, replies_in, replies}
use Rattle.stored_month.specs.Month.{raw_reply, raw_replies}

-- readings made of their four counts
made : (r : Readings) {txf rxf txb ours : ℕ} → txf ≡ r.txf → rxf ≡ r.rxf → txb ≡ r.txb → ours ≡ r.ours → readings txf rxf txb ours ≡ r
made r e1 e2 e3 e4 = rw (e1, e2, e3, e4)

module _ (r : Readings) (rest : List ℕ) where
  abbrev a : List ℕ
  a = in_octets little_endian 4 r.txf

  abbrev b : List ℕ
  b = in_octets little_endian 4 r.rxf

  abbrev c : List ℕ
  c = in_octets little_endian 4 r.txb

  abbrev d : List ℕ
  d = in_octets little_endian 4 r.ours

  pub raw_long : length (raw_reply r) ≡ 16
  unfolding raw_reply
  raw_long = simp (length-append, length-octets)

  pub reply-back : ((side : LossEnd) → (sent_of side r < 2 ^ 32) × (received_of side r < 2 ^ 32)) → readings_in (raw_reply r ++ rest) ≡ r
  unfolding raw_reply
  reply-back small =
      made r
      (number_among little_endian 4 r.txf [] (b ++ c ++ d ++ rest) 0 (simp append_assoc) refl (small far).0)
      (number_among little_endian 4 r.rxf a (c ++ d ++ rest) 4 (simp append_assoc) (length-octets little_endian 4 r.txf) (small far).1)
      (number_among little_endian 4 r.txb (a ++ b) (d ++ rest) 8 (simp append_assoc) (simp (length-append, length-octets))
      (small near).0)
      (number_among little_endian 4 r.ours (a ++ b ++ c) rest 12 refl (simp (length-append, length-octets)) (small near).1)

raws_long : (rs : List Readings) → length (raw_replies rs) ≡ length rs * 16
unfolding joined
raws_long [] = refl
raws_long (r ∷ rs) = length-append (raw_reply r) (raw_replies rs) ∙ omega (arith, raw_long r [], raws_long rs)

back-within : (rs : List Readings) → Small rs → replies_in (length rs) (raw_replies rs) ≡ rs
unfolding joined replies_in
back-within [] small = refl
back-within (r ∷ rs) small =
    ap₂ (λ (x : Readings) (xs : List Readings). x ∷ xs) (reply-back r (raw_replies rs) small.0)
    (ap (replies_in (length rs)) (drop_at (raw_reply r) (raw_replies rs) 16 (raw_long r [])) ∙ back-within rs small.1)

pub raw_back : (rs : List Readings) → Small rs → replies (raw_replies rs) ≡ rs
raw_back rs small =
    let count : length (raw_replies rs) / 16 ≡ length rs = omega (arith, raws_long rs) in
    ap (λ (n : ℕ). replies_in n (raw_replies rs)) count ∙ back-within rs small

-- what is shown of true counts is small
pub shown-small : (ts : List Counts) → Small (map shown ts)
shown-small [] = tt
shown-small (t ∷ ts) = (each, shown-small ts)
  where
    each : (side : LossEnd) → (sent_of side (shown t) < 2 ^ 32) × (received_of side (shown t) < 2 ^ 32)
    each near = (omega arith, omega arith)
    each far = (omega arith, omega arith)
