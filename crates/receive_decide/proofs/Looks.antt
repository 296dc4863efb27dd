-- What the one look finds, case by case. Assumes nothing.
use Prim.Native.Nat.{ℕ}
use mathlib.Core.Path.{◌≡◌}
use mathlib.Core.Bool.{true, false}
use mathlib.Core.List.{List}
use lib.Dec.{ltb}
use Rattle.std.specs.Prelude.{Ok, Err}
use Rattle.base_laws.specs.Tests.{choose}
use Rattle.frame_opcodes.specs.declared.Rule.{Rule}
use Rattle.frame_opcodes.specs.Opcodes.{rule_of}
use Rattle.frame_head.specs.Head.{length_good, pdu_of, opcode_of, flags_of, offset_of, start_of}
use Rattle.frame_tlvs.specs.Tlvs.{tlvs_whole}
use Rattle.frame_message.specs.Message.{period_code, code_good}
use Rattle.receive_answer.specs.declared.Drop.TheVariants as drop
use Rattle.receive_decide.specs.Decide.{is_ours}
use Rattle.receive_decide.specs.OneLook.{look_at}

module _ (own losspeer f : List ℕ) where
  abbrev row : Rule
  row = rule_of (opcode_of (pdu_of f))

  pub not-handled : row.handled ≡ false → look_at own losspeer f ≡ Err drop.Opcode
  unfolding look_at choose
  not-handled h = rw h

  module _ (h : row.handled ≡ true) where
    pub too_long : length_good f ≡ false → look_at own losspeer f ≡ Err drop.Short
    unfolding look_at choose
    too_long g = rw (h, g)

    module _ (g : length_good f ≡ true) where
      pub low-offset : ltb (offset_of (pdu_of f)) row.least ≡ true → look_at own losspeer f ≡ Err drop.Offset
      unfolding look_at choose
      low-offset o = rw (h, g, o)

      module _ (o : ltb (offset_of (pdu_of f)) row.least ≡ false) where
        pub cut : tlvs_whole (start_of (pdu_of f)) (pdu_of f) ≡ false → look_at own losspeer f ≡ Err drop.CutOff
        unfolding look_at choose
        cut w = rw (h, g, o, w)

        module _ (w : tlvs_whole (start_of (pdu_of f)) (pdu_of f) ≡ true) where
          pub not_ours : is_ours own losspeer f ≡ false → look_at own losspeer f ≡ Err drop.Destination
          unfolding look_at choose
          not_ours u = rw (u, h, g, o, w)

          module _ (u : is_ours own losspeer f ≡ true) where
            pub bad-code : code_good row (period_code (flags_of (pdu_of f))) ≡ false → look_at own losspeer f ≡ Err drop.Value
            unfolding look_at choose
            bad-code e = rw (e, u, h, g, o, w)

            pub all-good : code_good row (period_code (flags_of (pdu_of f))) ≡ true → look_at own losspeer f ≡ Ok tt
            unfolding look_at choose
            all-good e = rw (e, u, h, g, o, w)
