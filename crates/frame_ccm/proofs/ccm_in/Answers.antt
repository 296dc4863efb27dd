-- `frame_ccm::ccm_in` meets its contract: seven fields, at their places.
use mathlib.Core.Path.{◌≡◌, ap, ◌∙◌}
use mathlib.Core.List.{List}
use Prim.Native.Nat.{ℕ, ◌/◌}
use Rattle.base_bits.specs.Fields.{mep_id}
use Rattle.base_laws.specs.Lists.{part}
use Rattle.base_numbers.specs.Numbers.{number, big_endian}
use Rattle.frame_head.specs.Head.{flags_of, word}
use Rattle.frame_message.specs.Message.{period_code}
use Rattle.frame_ccm.specs.Ccm.{ccm_in}
use Rattle.frame_ccm.proofs.ccm_in.Goals as goal

-- seven fields that were read are the definition's

made : (p : List ℕ) (a b c d e g h : ℕ) → a ≡ word 4 p → b ≡ mep_id (number big_endian (part 8 2 p)) → c ≡ word 58 p → d ≡ word 62 p
    → e ≡ word 66 p
    → g ≡ period_code (flags_of p) → h ≡ flags_of p / 128
    → record { sequence = a; mep = b; txfcf = c; rxfcb = d; txfcb = e; period = g; rdi = h } ≡ ccm_in p
made p a b c d e g h i j k l m n o = cc

pub returns : goal.returns
returns c =
    made _ _ _ _ _ _ _ _ c.read_big.ensures.is (c.mep_id_of.ensures
    ∙ ap mep_id c.read_big-2.ensures.is) c.read_big-3.ensures.is
    c.read_big-4.ensures.is c.read_big-5.ensures.is
    c.period_code_of.ensures c.rdi_of.ensures.0
