-- Every row of the table holds. Assumes nothing.
use Prim.Native.Nat.{ℕ, ◌^◌, ◌<◌}
use mathlib.Core.Path.{◌≡◌, refl}
use native.Mathlib.Omega.{arith}
use Rattle.base_laws.specs.Tests.{choose}
use Rattle.base_laws.specs.Lists.{every}
use Rattle.loss_growth.specs.Growth.{growth}
use Rattle.loss_session.specs.Session.{readings, well_formed}
use Rattle.loss_reading.specs.Reading.{after_reading}
use Rattle.loss_reading.specs.Told.{loss_told}
use Rattle.loss_account.specs.Demand3.{answers}
use Rattle.receive_delay.specs.Told.{delay_numbers}
use Rattle.paper_edges.specs.Table.{Loses, Edges}
use Rattle.paper_edges.proofs.Offsets.{four-more, one_less}
use Rattle.paper_edges.proofs.Read.{is_read}
use Rattle.paper_edges.proofs.Silence.{six, seven}
use lib.IntN.{pos, negsuc}

still_row : (still : ℕ) → still < 2 ^ 32 → Loses (readings 0 0 still 0) (readings 0 0 still 4294967295) (pos 0) (negsuc 4294967294)
unfolding answers after_reading choose well_formed loss_told
still_row still h =
    let none : growth (2 ^ 32) still still ≡ 0 = omega arith in
    rw none

pub edges : Edges
unfolding answers after_reading choose well_formed loss_told delay_numbers every
edges = (
  λ rest. (refl, refl),
  (
    λ rest. (refl, refl),
    (
      refl,
      (refl, (refl, (still_row, (six, (seven, (refl, (refl, (refl, (four-more, (is_read, (one_less, tt))))))))))),
    ),
  ),
)
