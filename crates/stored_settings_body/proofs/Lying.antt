-- The statement of specs/Lying.antt. Assumes nothing.
use Prim.Native.Nat.{ℕ}
use mathlib.Core.Path.{◌≡◌, refl, sym, ap, ◌∙◌}
use mathlib.Core.List.{List, [], ◌++◌, append_assoc, append-nil}
use native.Mathlib.Omega.{arith}
use lib.ListN.{length, length-append}
use Rattle.base_laws.proofs.Parts.{part-append, part-here, part-whole}
use Rattle.base_laws.proofs.Spelled.{by_elements}
use Rattle.state_settings.specs.Settings.{Settings, settings_of, Shaped, set_words, meg_octets, meg_from, name_octets, address_octets, own_from}
use Rattle.state_settings.specs.Settings.{losspeer_from, own_named, losspeer_named, meg_named}
use Rattle.state_settings.proofs.Shape.{lying-shaped}
use Rattle.stored_settings_body.specs.Lying.{set_of, names_of, Lying}

pub lying-back : (n : ℕ) (s : Settings) → Shaped n s → settings_of (set_of s) (names_of s) s.ids ≡ s
lying-back n s w =
    let own : own_named (names_of s) ≡ s.own =
    ap own_named (append_assoc s.own s.losspeer s.meg)
    ∙ part-here [] s.own (s.losspeer ++ s.meg) own_from address_octets refl w.own in
    let losspeer : losspeer_named (names_of s) ≡ s.losspeer =
    part-here s.own s.losspeer s.meg losspeer_from address_octets w.own w.losspeer in
    let meg : meg_named (names_of s) ≡ s.meg =
    ap meg_named (sym (append-nil (names_of s))) ∙ part-here (s.own ++ s.losspeer) s.meg [] meg_from meg_octets
    (rw length-append (omega (arith, w.own, w.losspeer))) w.meg in
    rw (own, losspeer, meg)

-- the words are those that the settings show, as many as there are
words_back : (set names ids : List ℕ) → length set ≡ set_words → set_of (settings_of set names ids) ≡ set
words_back set names ids h = by_elements 0 set_words (λ l. set_of (settings_of l names ids) ≡ l) set h refl

lying-again : (set names ids : List ℕ) → length set ≡ set_words → length names ≡ name_octets
    → (set_of (settings_of set names ids) ≡ set) × (names_of (settings_of set names ids) ≡ names)
lying-again set names ids hs hn = (
  words_back set names ids hs,
  ap (λ (l : List ℕ). l ++ meg_named names) (sym (part-append own_from address_octets address_octets names))
      ∙ sym (part-append own_from meg_from meg_octets names) ∙ part-whole _ names hn,
)

pub lying : Lying
lying = record { back = lying-back; again = lying-again; shaped = lying-shaped }
