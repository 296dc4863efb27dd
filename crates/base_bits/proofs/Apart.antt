-- The statement of specs/Fields.antt. Assumes nothing.
use native.Mathlib.Omega.{arith}
use Rattle.base_bits.specs.Fields.{Fields}

pub fields : Fields
fields = record {
  level_back = λ level version h k. omega arith;
  version_back = λ level version h k. omega arith;
  rdi_back = λ rdi code h k. omega arith;
  code_back = λ rdi code h k. omega arith;
}
