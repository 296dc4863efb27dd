-- What a request is answered in each of its three cases, and the answer in the paper's numbers. Assumes nothing.
use Prim.Native.Nat.{ℕ, ◌+◌, ◌≤◌, ◌<◌}
use mathlib.Core.Path.{◌≡◌, refl, sym, ap, ◌∙◌}
use mathlib.Core.Bool.{true, false, cond}
use mathlib.Core.List.{List, [], ◌∷◌}
use native.Mathlib.Omega.{arith}
use lib.Dec.{eqb}
use lib.ListN.{length}
use borrow.Author.Tests.{lt-ltb, le-ltb}
use Rattle.std.specs.Prelude.{Result, Ok, Err}
use Rattle.base_laws.specs.Tests.{choose}
use Rattle.base_laws.specs.Lists.{laid}
use Rattle.base_laws.proofs.Tests.{choose-map}
use Rattle.message_parts.specs.Buffer.{no_room}
use Rattle.message_reply.specs.declared.ReplyRefusal.{ReplyRefusal}
use Rattle.message_reply.specs.declared.ReplyRefusal.TheVariants.{CutOff, NoRoom}
use Rattle.message_reply.specs.Replied.{cut_off, replied_of, left_of, RepliedTold, replied_told, replied_numbers, RepliedNumbers}

-- ── numbers ──

agree : (fixed : ℕ) (request reply buffer : List ℕ)
    → replied_told (replied_of fixed request reply buffer) ≡ replied_numbers fixed request reply buffer
unfolding replied_told
agree fixed request reply buffer =
    choose-map replied_told ((cut_off fixed request, Err CutOff) ∷ (no_room reply buffer, Err NoRoom) ∷ []) (Ok (length reply))

-- the answer that is meant by its numbers
back : RepliedTold → Result ℕ ReplyRefusal
back t = cond (eqb t.drop 5) (Err CutOff) (cond (eqb t.refusal 3) (Err NoRoom) (Ok t.length))

back-told : (a : Result ℕ ReplyRefusal) → back (replied_told a) ≡ a
unfolding back replied_told
back-told (Err CutOff) = refl
back-told (Err NoRoom) = refl
back-told (Ok n) = refl

pub replied-numbers : RepliedNumbers
replied-numbers = record { agree = agree; apart = λ a b e. sym (back-told a) ∙ ap back e ∙ back-told b }

-- ── answers ──

-- r is the answer of the definition and of the numbers, and x the buffer's content
abbrev pub Answered : ℕ → List ℕ → List ℕ → List ℕ → Result ℕ ReplyRefusal → List ℕ → Type 0
Answered fixed request reply l r x =
    ((r ≡ replied_of fixed request reply l) × (replied_told r ≡ replied_numbers fixed request reply l)) × (x ≡ left_of fixed request reply l)

module _ (fixed : ℕ) (request reply l : List ℕ) where
  -- two tests, and what they lead to
  cut : cut_off fixed request ≡ true → Answered fixed request reply l (Err CutOff) l
  unfolding choose
  cut t =
      let e : (Err CutOff) ≡ replied_of fixed request reply l = rw t in
      ((e, ap replied_told e ∙ agree fixed request reply l), rw t)

  pub cut_off_lem : length request < 18 + fixed → Answered fixed request reply l (Err CutOff) l
  cut_off_lem h = cut (lt-ltb (length request) (18 + fixed) h)

  module _ (whole : 18 + fixed ≤ length request) (long : length reply ≡ length request) where
    pub no_room_lem : length l < length request → Answered fixed request reply l (Err NoRoom) l
    unfolding choose
    no_room_lem h =
        let s : cut_off fixed request ≡ false = le-ltb (length request) (18 + fixed) whole in
        let t : no_room reply l ≡ true = lt-ltb (length l) (length reply) (omega arith) in
        let e : (Err NoRoom) ≡ replied_of fixed request reply l = rw (s, t) in
        ((e, ap replied_told e ∙ agree fixed request reply l), rw (s, t))

    pub room : (x : List ℕ) → length request ≤ length l → x ≡ laid 0 reply l → Answered fixed request reply l (Ok (length request)) x
    unfolding choose
    room x h f =
        let s : cut_off fixed request ≡ false = le-ltb (length request) (18 + fixed) whole in
        let t : no_room reply l ≡ false = le-ltb (length l) (length reply) (omega arith) in
        let e : Ok (length request) ≡ replied_of fixed request reply l = rw (s, t, long) in
        ((e, ap replied_told e ∙ agree fixed request reply l), rw (s, t) f)
