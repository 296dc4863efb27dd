-- Two frames that are written out, an LMR and a service frame, each good where it arrives. Assumes nothing.
use Prim.Native.Nat.{ℕ}
use mathlib.Core.Path.{◌≡◌, refl, sym}
use mathlib.Core.Bool.{true≢false}
use mathlib.Core.List.{List, [], ◌∷◌}
use native.Mathlib.Omega.{arith}
use Rattle.base_laws.specs.Lists.{every, part}
use Rattle.base_numbers.specs.Numbers.{number, number_lowest_first}
use Rattle.base_octets.proofs.Written.{octets-of}
use Rattle.base_stamp.specs.declared.Stamp.{Stamp}
use Rattle.base_stamp.specs.Stamps.{Wire}
use Rattle.base_laws.specs.Tests.{choose}
use Rattle.frame_opcodes.specs.Opcodes.{rule_of}
use Rattle.frame_tlvs.specs.Tlvs.{end}
use Rattle.paper_said.specs.Calls.{active, Arrival, frame, OnWire, NoSetting}
use Rattle.paper_said.specs.Drops as drops
use Rattle.paper_said.specs.Drops.{D6}
use Rattle.paper_said.specs.Taken.{LossReply}
use Rattle.paper_said.proofs.Other.{is_setting, other}
use Rattle.paper_said.proofs.Rows.{request_yes}
use Rattle.paper_promised.proofs.Example.{start, well}
use Rattle.paper_loss.specs.Runs.{NoClear, CountedFrom, Event, reply, Is, is_reply}

-- ── two frames ──

abbrev no_stamp : Stamp
no_stamp = record { seconds = 0; nanoseconds = 0 }

abbrev arrival : List ℕ → Arrival
arrival octets = record { side = active; octets = octets; receive = no_stamp; transmit = no_stamp; buffer = [] }

-- an LMR from the loss peer to us: level 4, opcode 42, offset 12, three counts of 0, the end
abbrev pub lmr : Arrival
lmr =
    arrival
    (2 ∷ 0 ∷ 0 ∷ 0 ∷ 0 ∷ 1 ∷ 2 ∷ 0 ∷ 0 ∷ 0 ∷ 0 ∷ 2 ∷ 0x89 ∷ 0x02 ∷ 128 ∷ 42 ∷ 0 ∷ 12
    ∷ 0 ∷ 0 ∷ 0 ∷ 0 ∷ 0 ∷ 0 ∷ 0 ∷ 0 ∷ 0 ∷ 0 ∷ 0 ∷ 0 ∷ 0 ∷ [])

-- a service frame: 14 octets, EtherType 08-00
abbrev pub service : Arrival
service = arrival (2 ∷ 0 ∷ 0 ∷ 0 ∷ 0 ∷ 1 ∷ 2 ∷ 0 ∷ 0 ∷ 0 ∷ 0 ∷ 2 ∷ 0x08 ∷ 0x00 ∷ [])

no-stamp : Wire no_stamp
no-stamp = record { seconds = omega arith; nanoseconds = omega arith }

pub lmr-wire : OnWire (frame lmr)
unfolding every
lmr-wire = record { octets = octets-of lmr.octets refl; receive = no-stamp; transmit = no-stamp }

pub service-wire : OnWire (frame service)
unfolding every
service-wire = record { octets = octets-of service.octets refl; receive = no-stamp; transmit = no-stamp }

not_sixth : D6 start lmr → ⊥
unfolding part rule_of choose
not_sixth (drops.destination n) = n (drops.own refl)
not_sixth (drops.group_source o g) = true≢false (sym (request_yes 42 o))
not_sixth (drops.stranger o n) = n refl

pub lmr-good : LossReply start lmr
unfolding number number_lowest_first part
lmr-good = record {
  own = record {
    oam = record {
      heeded = record {
        well = well;
        long = record { least = omega arith; most = omega arith };
        receive = omega arith;
        transmit = omega arith;
      };
      ether = refl;
      head = omega arith;
    };
    side = refl;
    level = refl;
  };
  sound = record { least = 12; handled = drops.lmr; offset = omega arith; tlvs = λ n. n [] end; destination = not_sixth };
  lmr = refl;
}

pub service-counted : CountedFrom active start service
unfolding number number_lowest_first part
service-counted = record {
  heeded = record { well = well; long = record { least = omega arith; most = omega arith }; receive = omega arith; transmit = omega arith };
  service = λ e. let k : ◌≡◌ {A = ℕ} 2048 35074 = e in omega (arith, k);
  from = refl;
}

-- ── the runs ──

abbrev pub replies : Event
replies = reply 0 0 0

pub lmr-is : Is start (frame lmr) replies
unfolding number number_lowest_first part
lmr-is = is_reply lmr lmr-good

pub frame-no_setting : (a : Arrival) → NoSetting (frame a)
unfolding is_setting
frame-no_setting a = other (frame a) refl

pub frame-no_clear : (a : Arrival) → NoClear (frame a)
frame-no_clear a e = let z : ◌≡◌ {A = ℕ} 0 1 = cc in omega arith
