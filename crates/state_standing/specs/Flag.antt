-- A flag: 1 where something holds, else 0. Definitions only.
use Rattle.std.specs.Prelude.{ℕ, ◌≤◌, ◌≡◌, Bool, cond, ◌↔◌}

-- 1 where it holds, else 0
abbrev pub flag : Bool → ℕ
flag holds = cond holds 1 0

-- 0 or 1, and 1 exactly where P holds
pub record Shows (value : ℕ) (P : Type 0) : Type 0 where
  pub bit : value ≤ 1
  pub one : (value ≡ 1) ↔ P
