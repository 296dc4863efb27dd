-- Whether a frame is for us. The paper, rule 4: good destinations are the own address, and for 1, 3, 33, 35, 43 and 47 also the multicast
-- address of the frame's level; D6 also holds a request (3, 43, 47) whose source has the group bit, and an LMR not from the loss peer.
-- Definitions only.
use Rattle.std.specs.Prelude.{ℕ, ◌%◌, Bool, ◌&&◌, ◌||◌, not, List, eqb, get_or}
use Rattle.base_laws.specs.Lists.{same}
use Rattle.frame_opcodes.specs.declared.Rule.{Rule}
use Rattle.frame_multicast.specs.Multicast.{multicast_of}

abbrev pub has_group_bit : List ℕ → Bool
has_group_bit address = eqb (get_or address 0 0 % 2) 1

abbrev pub good_destination : List ℕ → Bool → ℕ → List ℕ → Bool
good_destination own multicast level destination = same destination own || (multicast && same destination (multicast_of level))

abbrev pub good_source : List ℕ → Bool → Bool → List ℕ → Bool
good_source losspeer only request source = not (request && has_group_bit source) && not (only && not (same source losspeer))

-- not D6, of a frame whose opcode has this row
unfoldable pub for_us : List ℕ → List ℕ → Rule → ℕ → List ℕ → List ℕ → Bool
for_us own losspeer row level destination source =
    good_destination own row.multicast level destination && good_source losspeer row.losspeer row.request source
