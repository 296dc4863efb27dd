-- A frame put together from its parts: addresses, 89-02, four octets, and what is behind them. Assumes nothing.
use Prim.Native.Nat.{ℕ, ◌+◌, ◌≤◌}
use mathlib.Core.Path.{◌≡◌, refl, ap, ◌∙◌}
use mathlib.Core.Bool.{true}
use mathlib.Core.List.{List, [], ◌∷◌, ◌++◌, append_assoc}
use native.Mathlib.Omega.{arith}
use lib.ListN.{length, drop, length-append}
use lib.Seq.{drop_at}
use Rattle.base_laws.specs.Lists.{part}
use Rattle.base_laws.proofs.Parts.{part-here}
use Rattle.base_numbers.specs.Numbers.{number, number_lowest_first, big_endian}
use Rattle.frame_opcodes.specs.Opcodes.{rule_of}
use Rattle.frame_head.specs.Head.{ether_type_of, pdu_of, opcode_of, offset_of}
use Rattle.frame_message.specs.Good.{Headed}

-- addresses, 89-02, and the PDU
abbrev pub framed : List ℕ → List ℕ → List ℕ
framed addresses pdu = addresses ++ (0x89 ∷ 0x02 ∷ pdu)

module _ (addresses pdu : List ℕ) (a : length addresses ≡ 12) where
  split : framed addresses pdu ≡ addresses ++ (0x89 ∷ 0x02 ∷ []) ++ pdu
  split = simp append_assoc

  pub pdu-is : pdu_of (framed addresses pdu) ≡ pdu
  pdu-is =
      let e : length (addresses ++ (0x89 ∷ 0x02 ∷ [])) ≡ 14 = rw length-append (omega arith) in
      ap (drop 14) split ∙ drop_at (addresses ++ (0x89 ∷ 0x02 ∷ [])) pdu 14 e

  pub ether-is : ether_type_of (framed addresses pdu) ≡ 0x8902
  unfolding number number_lowest_first
  ether-is =
      ap (λ (l : List ℕ). number big_endian (part 12 2 l)) split
      ∙ ap (number big_endian) (part-here addresses (0x89 ∷ 0x02 ∷ []) pdu 12 2 a refl)

  pub framed-long : length (framed addresses pdu) ≡ 14 + length pdu
  framed-long = rw length-append (omega arith)

-- nothing before the TLVs is wrong with a known opcode, a large enough offset and not too many octets
pub headed : (addresses rest : List ℕ) (first op flags offset : ℕ) → length addresses ≡ 12 → (rule_of op).known ≡ true
    → (rule_of op).least ≤ offset
    → 18 + length rest ≤ 1514 → Headed (framed addresses (first ∷ op ∷ flags ∷ offset ∷ rest))
headed addresses rest first op flags offset a k o l =
    let pdu : List ℕ = first ∷ op ∷ flags ∷ offset ∷ rest in
    let f = framed addresses pdu in
    let p : pdu_of f ≡ pdu = pdu-is addresses pdu a in
    let n : length f ≡ 14 + length pdu = framed-long addresses pdu a in
    record {
      shortest = omega (arith, n);
      longest = omega (arith, n);
      oam = ether-is addresses pdu a;
      head = omega (arith, ap length p);
      opcode = ap (λ (x : List ℕ). (rule_of (opcode_of x)).known) p ∙ k;
      offset = omega (arith, o, ap (λ (x : List ℕ). (rule_of (opcode_of x)).least) p, ap offset_of p);
    }
