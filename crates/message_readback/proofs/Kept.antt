-- What a frame that answers a request keeps of it: the head but for addresses and opcode, and all behind the fixed part. Assumes nothing.
use Prim.Native.Nat.{ℕ, ◌+◌, ◌≤◌}
use mathlib.Core.Path.{◌≡◌, sym, ap, ◌∙◌}
use mathlib.Core.List.{List, [], ◌∷◌}
use mathlib.Core.Logic.{inl, inr}
use native.Mathlib.Omega.{arith}
use lib.ListN.{length, get_or, drop}
use Rattle.base_laws.specs.Lists.{part, laid}
use Rattle.base_laws.proofs.Apart.{part-before, part-after, drop-after}
use Rattle.base_laws.proofs.Parts.{length_part, get_d_part}
use Rattle.base_laws.proofs.Overlaid.{length-laid, laid-back, laid-others}
use Rattle.frame_head.specs.Head.{source_of}
use Rattle.message_reply.specs.Replies.{reply_octets}

-- the addresses and the opcode of a reply, and the other octets of the request's head
pub record Head (own request : List ℕ) (op : ℕ) (f : List ℕ) : Type 0 where
  pub long : length f ≡ length request
  pub to : part 0 6 f ≡ source_of request
  pub from : part 6 6 f ≡ own
  pub oam : part 12 2 f ≡ part 12 2 request
  pub first : get_or f 14 0 ≡ get_or request 14 0
  pub code : get_or f 15 0 ≡ op
  pub flags : get_or f 16 0 ≡ get_or request 16 0
  pub offset : get_or f 17 0 ≡ get_or request 17 0

module _ (own request : List ℕ) (op : ℕ) (o : length own ≡ 6) (l : 18 ≤ length request) where
  abbrev a0 : List ℕ
  a0 = laid 0 (source_of request) request

  abbrev a6 : List ℕ
  a6 = laid 6 own a0

  size : length (source_of request) ≡ 6
  size = length_part 6 6 request (omega arith)

  fit0 : 0 + length (source_of request) ≤ length request
  fit0 = omega (arith, size)

  long0 : length a0 ≡ length request
  long0 = length-laid 0 (source_of request) request fit0

  fit6 : 6 + length own ≤ length a0
  fit6 = omega (arith, long0)

  long6 : length a6 ≡ length request
  long6 = length-laid 6 own a0 fit6 ∙ long0

  fit15 : 15 + 1 ≤ length a6
  fit15 = omega (arith, long6)

  -- an octet behind the addresses
  octet6 : (i : ℕ) → 12 ≤ i → get_or a6 i 0 ≡ get_or request i 0
  octet6 i h =
      laid-others 6 own a0 fit6 0 i (inr (omega arith)) ∙ laid-others 0 (source_of request) request fit0 0 i (inr (omega (arith, size)))

  pub reply-head : Head own request op (reply_octets own op request)
  unfolding reply_octets
  reply-head = record {
    long = length-laid 15 (op ∷ []) a6 fit15 ∙ long6;
    to =
        part-before 0 15 (op ∷ []) a6 fit15 0 6 (omega arith)
        ∙ part-before 0 6 own a0 fit6 0 6 (omega arith)
        ∙ ap (λ (n : ℕ). part 0 n a0) (sym size)
        ∙ laid-back 0 (source_of request) request fit0;
    from =
        part-before 0 15 (op ∷ []) a6 fit15 6 6 (omega arith)
        ∙ ap (λ (n : ℕ). part 6 n a6) (sym o)
        ∙ laid-back 6 own a0 fit6;
    oam =
        part-before 0 15 (op ∷ []) a6 fit15 12 2 (omega arith)
        ∙ part-after 0 6 own a0 fit6 12 2 (omega arith)
        ∙ part-after 0 0 (source_of request) request fit0 12 2 (omega (arith, size));
    first = laid-others 15 (op ∷ []) a6 fit15 0 14 (inl (omega arith)) ∙ octet6 14 (omega arith);
    code = sym (get_d_part 15 1 (laid 15 (op ∷ []) a6) 0 0 (omega arith))
        ∙ ap (λ (xs : List ℕ). get_or xs 0 0) (laid-back 15 (op ∷ []) a6 fit15);
    flags = laid-others 15 (op ∷ []) a6 fit15 0 16 (inr (omega arith)) ∙ octet6 16 (omega arith);
    offset = laid-others 15 (op ∷ []) a6 fit15 0 17 (inr (omega arith)) ∙ octet6 17 (omega arith);
  }

  -- behind the opcode all is the request's
  pub reply_tail : (k : ℕ) → 16 ≤ k → drop k (reply_octets own op request) ≡ drop k request
  unfolding reply_octets
  reply_tail k h =
      drop-after 0 15 (op ∷ []) a6 fit15 k (omega arith)
      ∙ drop-after 0 6 own a0 fit6 k (omega arith)
      ∙ drop-after 0 0 (source_of request) request fit0 k (omega (arith, size))

-- what is laid over the fixed part leaves the head
pub over : {own request : List ℕ} {op : ℕ} (at : ℕ) (xs f : List ℕ) → 18 ≤ at → at + length xs ≤ length f → Head own request op f
    → Head own request op (laid at xs f)
over at xs f h fits w = record {
  long = length-laid at xs f fits ∙ w.long;
  to = part-before 0 at xs f fits 0 6 (omega arith) ∙ w.to;
  from = part-before 0 at xs f fits 6 6 (omega arith) ∙ w.from;
  oam = part-before 0 at xs f fits 12 2 (omega arith) ∙ w.oam;
  first = laid-others at xs f fits 0 14 (inl (omega arith)) ∙ w.first;
  code = laid-others at xs f fits 0 15 (inl (omega arith)) ∙ w.code;
  flags = laid-others at xs f fits 0 16 (inl (omega arith)) ∙ w.flags;
  offset = laid-others at xs f fits 0 17 (inl (omega arith)) ∙ w.offset;
}
