-- What a list of octets is. Definitions only.
use Rattle.std.specs.Prelude.{ℕ, ◌<◌, List, get_or}

-- every element is an octet; past the end `get_or` gives 0, which is one
abbrev pub Octets : List ℕ → Type 0
Octets xs = (i : ℕ) → get_or xs i 0 < 256
