-- What the slots tell of a line.
use Rattle.std.proofs.Common.{◌≡◌, ◌≢◌, ℕ, ◌*◌, ◌<◌, Bool, true, false, ◌||◌, ◌==◌, List, [], ◌∷◌, find, refl, sym, ◌∙◌, ap, Option, Some, None, option_and_then, ℤ, nat_abs, arith}
use Rattle.std.specs.List.{list_any}
use Rattle.std.proofs.lemmas.Bool.Decides.{nat_tests}
use Rattle.gcode_words.specs.declared.Word.{Word}
use Rattle.code_table.specs.Tables.{value_of}
use Rattle.line_words.specs.Codes.{rows_of, has, key_of, is_key, group_of, is_of_group, is_code, code_in}
use Rattle.line_words.specs.Index.{IsIndex, group_slot, is_number, key_held}
use Rattle.line_words.specs.Slots.{value_in, is_filled}
use Rattle.line_words.specs.declared.slots.Slots.{Slots}
use Rattle.line_words.proofs.Tests.{is_same}
use Rattle.line_words.proofs.Rows.{has_row}

-- a command stands where its group's slot has its value
pub has_is : (slots : Slots) (ws : List Word) (letter key group slot : ℕ) (held : Option ℤ) → IsIndex slots ws ws → value_of key (rows_of letter) ≡ Some group
    → slot ≡ group_slot group → held ≡ value_in slots ws slot → is_number (key * 100000) held ≡ has letter key ws
has_is slots ws letter key group slot held index row at told =
    ap (is_number (key * 100000)) (told ∙ ap (value_in slots ws) at) ∙ sym (index.commands letter key group row)

other_number : (held : Option ℤ) (key other : ℕ) → is_number (other * 100000) held ≡ true → key ≢ other → is_number (key * 100000) held ≡ false
other_number None key other e differ = absurd cc
other_number (Some z) key other e differ = grind (arith, nat_tests)

pub alone_is : (slots : Slots) (ws : List Word) (letter key other group slot : ℕ) (held : Option ℤ) → IsIndex slots ws ws → value_of key (rows_of letter) ≡ Some group
    → slot ≡ group_slot group → held ≡ value_in slots ws slot → is_number (other * 100000) held ≡ true → key ≢ other → has letter key ws ≡ false
alone_is slots ws letter key other group slot held index row at told e differ =
    sym (has_is slots ws letter key group slot held index row at told) ∙ other_number held key other e differ

none_in : (slots : Slots) (ws : List Word) (slot : ℕ) → is_filled slots slot ≡ false → value_in slots ws slot ≡ None
unfolding value_in
none_in slots ws slot e = rw e refl

-- where the slot of a group is not filled, no command of the group stands
pub none_is : (slots : Slots) (ws : List Word) (letter key group slot : ℕ) → IsIndex slots ws ws → value_of key (rows_of letter) ≡ Some group
    → slot ≡ group_slot group → is_filled slots slot ≡ false → has letter key ws ≡ false
none_is slots ws letter key group slot index row at e =
    index.commands letter key group row ∙ ap (is_number (key * 100000)) (none_in slots ws (group_slot group) (ap (is_filled slots) (sym at) ∙ e))

-- the first word of a group, or none
pub data FirstOf (group : ℕ) (ws : List Word) : Type 0 where
  nowhere : find (is_of_group group) ws ≡ None → list_any (is_of_group group) ws ≡ false → FirstOf group ws
  here : (w : Word) (key : ℕ) → find (is_of_group group) ws ≡ Some w → key_of w.value ≡ Some key → value_of key (rows_of w.letter) ≡ Some group
      → has w.letter key ws ≡ true → FirstOf group ws

same_number : (n : ℕ) → (n == n) ≡ true
same_number n = grind (arith, nat_tests)

or_true : (b : Bool) → (b || true) ≡ true
or_true true = refl
or_true false = refl

grouped : (group : ℕ) (o : Option ℕ) → is_key group o ≡ true → o ≡ Some group
grouped group None e = absurd cc
grouped group (Some other) e = ap Some (is_same other group e)

behind : (group : ℕ) (w : Word) (ws : List Word) → is_of_group group w ≡ false → FirstOf group ws → FirstOf group (w ∷ ws)
behind group w ws e (nowhere a b) = nowhere (rw e a) (rw e b)
behind group w ws e (here v key a b c d) = here v key (rw e a) b c (rw d (or_true (is_code v.letter key w)))

pub first_of : (group : ℕ) (ws : List Word) → FirstOf group ws
first_of group [] = nowhere refl refl
first_of group (w ∷ ws) = by_test (is_of_group group w) refl (first_of group ws)
  where
    by_test : (b : Bool) → is_of_group group w ≡ b → FirstOf group ws → FirstOf group (w ∷ ws)
    by_test true e rest =
        let row = has_row w group (grouped group (group_of w) e) in
        here w row.key (rw e refl) row.is_key row.row (rw (same_number w.letter, row.is_key, same_number row.key) refl)
    by_test false e rest = behind group w ws e rest

held_key : (held : Option ℤ) (key : ℕ) → is_number (key * 100000) held ≡ true → key_held held ≡ Some key
held_key None key e = absurd cc
held_key (Some z) key e = ap Some (let same = is_same (nat_abs z) (key * 100000) e in omega (arith, same))

-- the slot of a group tells the key of the line's code in it
pub code_is : (slots : Slots) (ws : List Word) (group slot : ℕ) (held : Option ℤ) → IsIndex slots ws ws → group < 23
    → slot ≡ group_slot group → held ≡ value_in slots ws slot → key_held held ≡ code_in group ws
unfolding code_in
code_is slots ws group slot held index small at told = by_first (first_of group ws)
  where
    is_held : held ≡ value_in slots ws (group_slot group)
    is_held = told ∙ ap (value_in slots ws) at

    by_first : FirstOf group ws → key_held held ≡ option_and_then (λ w. key_of w.value) (find (is_of_group group) ws)
    by_first (nowhere a b) = rw (is_held, none_in slots ws (group_slot group) (index.groups group small ∙ b), a) refl
    by_first (here w key a b c d) =
        rw a (held_key held key (ap (is_number (key * 100000)) is_held ∙ sym (index.commands w.letter key group c) ∙ d) ∙ sym b)
