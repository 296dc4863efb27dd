-- What a message is answered, where the buffer has room for it and where not, and the answer in the paper's numbers. Assumes nothing.
use Prim.Native.Nat.{ℕ, ◌≤◌, ◌<◌}
use mathlib.Core.Path.{◌≡◌, refl, sym, ap, ◌∙◌}
use mathlib.Core.Bool.{Bool, true, false, cond}
use mathlib.Core.List.{List}
use native.Mathlib.Omega.{arith}
use lib.Dec.{eqb}
use lib.ListN.{length}
use borrow.Author.Tests.{lt-ltb, le-ltb}
use Rattle.std.specs.Prelude.{Result, Ok, Err}
use Rattle.base_laws.specs.Lists.{laid}
use Rattle.message_parts.specs.declared.parts.WriteRefusal.{WriteRefusal}
use Rattle.message_parts.specs.declared.parts.WriteRefusal.TheVariants.{NoRoom}
use Rattle.message_parts.specs.declared.parts.WrittenTold.{WrittenTold}
use Rattle.message_parts.specs.Buffer.{no_room, written_of, buffer_of, tell_written, written_told, written_numbers, WrittenNumbers}

-- ── numbers ──

tells : (b : Bool) (n : ℕ) → written_told (cond b (Err NoRoom) (Ok n)) ≡ cond b (tell_written 3 0) (tell_written 0 n)
unfolding written_told
tells true n = refl
tells false n = refl

agree : (message buffer : List ℕ) → written_told (written_of message buffer) ≡ written_numbers message buffer
agree message buffer = tells (no_room message buffer) (length message)

-- the answer that is meant by its numbers
back : WrittenTold → Result ℕ WriteRefusal
back t = cond (eqb t.refusal 3) (Err NoRoom) (Ok t.length)

back-told : (a : Result ℕ WriteRefusal) → back (written_told a) ≡ a
unfolding back written_told
back-told (Err NoRoom) = refl
back-told (Ok n) = refl

pub written-numbers : WrittenNumbers
written-numbers = record { agree = agree; apart = λ a b e. sym (back-told a) ∙ ap back e ∙ back-told b }

-- ── answers ──

-- r is the answer of the definition and of the numbers, and x the buffer's content
abbrev pub Answered : List ℕ → List ℕ → Result ℕ WriteRefusal → List ℕ → Type 0
Answered message l r x = ((r ≡ written_of message l) × (written_told r ≡ written_numbers message l)) × (x ≡ buffer_of message l)

module _ (message l : List ℕ) (n : ℕ) (long : length message ≡ n) where
  pub no_room_lem : length l < n → Answered message l (Err NoRoom) l
  no_room_lem h =
      let t : no_room message l ≡ true = lt-ltb (length l) (length message) (omega arith) in
      let e : (Err NoRoom) ≡ written_of message l = rw t in
      ((e, ap written_told e ∙ agree message l), rw t)

  pub room : (x : List ℕ) → n ≤ length l → x ≡ laid 0 message l → Answered message l (Ok n) x
  room x h f =
      let t : no_room message l ≡ false = le-ltb (length l) (length message) (omega arith) in
      let e : Ok n ≡ written_of message l = rw (t, long) in
      ((e, ap written_told e ∙ agree message l), rw t f)
