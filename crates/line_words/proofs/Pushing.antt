-- One more word that passes.
use Rattle.std.proofs.Common.{◌≡◌, ◌≢◌, ℕ, ◌*◌, ◌<◌, ◌≤◌, Bool, true, false, List, [], ◌∷◌, ◌++◌, ◌||◌, ◌&&◌, not, ◌==◌, refl, sym, ◌∙◌, ap, arith, Some, None, option_map, IfSome, ℤ, pos, negsuc, nat_abs, int_lt}
use Rattle.std.specs.List.{list_any}
use Rattle.std.proofs.lemmas.Bool.Decides.{nat_tests}
use Rattle.units.specs.declared.Decimal.{Decimal}
use Rattle.gcode_words.specs.declared.Word.{Word}
use Rattle.gcode_words.specs.Words.{IsSmallWord}
use Rattle.code_table.specs.Tables.{value_of}
use Rattle.line_words.specs.Letters.{G, M}
use Rattle.line_words.specs.Codes.{is_command_letter, rows_of, group_of, key_of, is_key, is_of_group, is_code, has}
use Rattle.line_words.specs.Given.{is_value_letter, stands, given, IsSoundValue}
use Rattle.line_words.specs.WordRefusals.{word_refusal, word_rows, unsupported_command, is_command, is_axis_command, tool_out_of_range, repeated_word, negative_value, modal_group_violation}
use Rattle.line_words.specs.Index.{IsIndex, value_slot, group_slot, is_number}
use Rattle.line_words.specs.Slots.{is_filled, value_in}
use Rattle.line_words.specs.declared.slots.Slots.{Slots}
use Rattle.line_words.proofs.Tests.{and_true, or_false, is_same, row_passes}
use Rattle.line_words.proofs.Letters.{value_letter_range, value_or_command}
use Rattle.line_words.proofs.Rows.{HasRow, has_row, one_some, same_letter, command_letter}
use Rattle.line_words.proofs.Pushes.{any_push, any_push_true, any_push_first, given_push_other, given_push_first}

-- a slot is filled by a word with this value, and the others stay
pub record Fills (old new : Slots) (all : List Word) (slot : ℕ) (micro : ℤ) : Type 0 where
  pub filled : is_filled new slot ≡ true
  pub others_filled : (other : ℕ) → other ≢ slot → is_filled new other ≡ is_filled old other
  pub value : value_in new all slot ≡ Some micro
  pub others : (other : ℕ) → other ≢ slot → value_in new all other ≡ value_in old all other

-- what passing a word says
pub record Passes (before : List Word) (w : Word) : Type 0 where
  pub supported : unsupported_command w ≡ false
  pub new_group : modal_group_violation before w ≡ false
  pub tool : tool_out_of_range w ≡ false
  pub new_letter : repeated_word before w ≡ false
  pub sign : negative_value w ≡ false

pub passes : (before : List Word) (w : Word) → word_refusal before w ≡ None → Passes before w
unfolding word_refusal
passes before w e = record {
  supported = row_passes (word_rows before w) 1 (0, false) e (omega arith);
  new_group = row_passes (word_rows before w) 3 (0, false) e (omega arith);
  tool = row_passes (word_rows before w) 4 (0, false) e (omega arith);
  new_letter = row_passes (word_rows before w) 5 (0, false) e (omega arith);
  sign = row_passes (word_rows before w) 6 (0, false) e (omega arith);
}

small_tool : (z : ℤ) → int_lt z (pos 0) ≡ false → int_lt (pos 255000000) z ≡ false → nat_abs z ≤ 255000000
small_tool (pos n) sign small = grind (arith, nat_tests, small)
small_tool (negsuc n) sign small = absurd cc

sound_value : (before : List Word) (w : Word) → IsSmallWord w → Passes before w → IsSoundValue w.letter w.value
sound_value before w small pass = record {
  small = small;
  sign = λ h. rw h at pass.sign;
  tool = λ e. small_tool w.value.micro (rw e at pass.sign) (rw e at pass.tool);
}

not_standing : (b : Bool) (rest : Bool) → b ≡ false → (not b && rest) ≡ false → rest ≡ false
not_standing b rest e h = rw e at h

same_number : (n : ℕ) → (n == n) ≡ true
same_number n = grind (arith, nat_tests)

-- a case for each answer of a test
by_test : {A : Type 0} (b : Bool) → (b ≡ true → A) → (b ≡ false → A) → A
by_test true held failed = held refl
by_test false held failed = failed refl

slots_differ : (letter other : ℕ) → is_value_letter letter ≡ true → is_value_letter other ≡ true → (other == letter) ≡ false → value_slot letter ≢ value_slot other
slots_differ letter other h k e = λ same.
    let low = value_letter_range letter h in
    let high = value_letter_range other k in
    let equal : other ≡ letter = omega (arith, low, high, same) in
    let test : (other == letter) ≡ true = rw equal (same_number letter) in
    cc

no_command_of : (letter key : ℕ) (w : Word) → (w.letter == letter) ≡ false → is_code letter key w ≡ false
no_command_of letter key w e = rw e refl

-- a value
pub pushed_value : (old new : Slots) (all ws : List Word) (w : Word) → IsIndex old all ws → word_refusal ws w ≡ None
    → is_value_letter w.letter ≡ true → group_of w ≡ None → IsSmallWord w
    → Fills old new all (value_slot w.letter) w.value.micro
    → IsIndex new all (ws ++ w ∷ [])
pushed_value old new all ws w index pass is_value no_group small fills = record {
  letters = λ letter h. by_test (w.letter == letter)
      (λ e. rw (← is_same w.letter letter e) (fills.filled ∙ sym (any_push_true (λ (v : Word). v.letter == w.letter) ws w (same_number w.letter))))
      (λ e. fills.others_filled (value_slot letter) (slots_differ letter w.letter h is_value e) ∙ index.letters letter h ∙ sym (any_push (λ (v : Word). v.letter == letter) ws w e));
  values = λ letter h. by_test (w.letter == letter)
      (λ e. here letter (is_same w.letter letter e) e)
      (λ e. fills.others (value_slot letter) (slots_differ letter w.letter h is_value e) ∙ index.values letter h ∙ sym (ap (option_map (λ (v : Decimal). v.micro)) (given_push_other letter ws w e)));
  sound = λ letter h. by_test (w.letter == letter)
      (λ e. heard letter (is_same w.letter letter e) e)
      (λ e. rw (given_push_other letter ws w e) (index.sound letter h));
  no_other_letter = λ letter h k. by_test (w.letter == letter)
      (λ e. let wrong = rw (is_same w.letter letter e) at is_value in absurd cc)
      (λ e. any_push (λ (v : Word). v.letter == letter) ws w e ∙ index.no_other_letter letter h k);
  groups = λ group h. fills.others_filled (group_slot group) (behind group) ∙ index.groups group h ∙ sym (any_push (is_of_group group) ws w (rw no_group refl));
  commands = λ letter key group h. any_push (is_code letter key) ws w (no_command_of letter key w (no_letter letter (command_letter letter key group h)))
      ∙ index.commands letter key group h ∙ sym (ap (is_number (key * 100000)) (fills.others (group_slot group) (behind group)));
}
  where
    pass_of : Passes ws w
    pass_of = passes ws w pass

    first : stands w.letter ws ≡ false
    first = not_standing (is_command w) (stands w.letter ws) (value_or_command w.letter is_value) pass_of.new_letter

    here : (letter : ℕ) → w.letter ≡ letter → (w.letter == letter) ≡ true → value_in new all (value_slot letter) ≡ option_map (λ (v : Decimal). v.micro) (given letter (ws ++ w ∷ []))
    here letter e test = rw (← e) (fills.value ∙ sym (ap (option_map (λ (v : Decimal). v.micro)) (given_push_first w.letter ws w (same_number w.letter) first)))

    heard : (letter : ℕ) → w.letter ≡ letter → (w.letter == letter) ≡ true → IfSome (given letter (ws ++ w ∷ [])) (IsSoundValue letter)
    heard letter e test = rw (← e) (rw (given_push_first w.letter ws w (same_number w.letter) first) (sound_value ws w small pass_of))

    behind : (group : ℕ) → group_slot group ≢ value_slot w.letter
    behind group = λ e. let range = value_letter_range w.letter is_value in omega (arith, range, e)

    no_letter : (letter : ℕ) → is_command_letter letter ≡ true → (w.letter == letter) ≡ false
    no_letter letter h = by_test (w.letter == letter)
        (λ e. let wrong = rw (is_same w.letter letter e) at (value_or_command w.letter is_value) in absurd cc)
        (λ e. e)

nothing_in : (slots : Slots) (all : List Word) (slot : ℕ) → is_filled slots slot ≡ false → value_in slots all slot ≡ None
unfolding value_in
nothing_in slots all slot e = rw e refl

row_at : (letter letter' key key' group : ℕ) → letter ≡ letter' → key ≡ key' → value_of key (rows_of letter) ≡ Some group → value_of key' (rows_of letter') ≡ Some group
row_at letter letter' key key' group e f h = rw (← e, ← f) h

times_same : (a b : ℕ) → (a == b) ≡ (a * 100000 == b * 100000)
times_same a b = grind (arith, nat_tests)

-- a command
pub pushed_command : (old new : Slots) (all ws : List Word) (w : Word) (group : ℕ) → IsIndex old all ws → word_refusal ws w ≡ None → group_of w ≡ Some group → group < 23
    → Fills old new all (group_slot group) w.value.micro
    → IsIndex new all (ws ++ w ∷ [])
pushed_command old new all ws w of index pass grouped small fills = record {
  letters = λ letter h. fills.others_filled (value_slot letter) (before_group letter h) ∙ index.letters letter h ∙ sym (any_push (λ (v : Word). v.letter == letter) ws w (no_value letter h));
  values = λ letter h. fills.others (value_slot letter) (before_group letter h) ∙ index.values letter h ∙ sym (ap (option_map (λ (v : Decimal). v.micro)) (given_push_other letter ws w (no_value letter h)));
  sound = λ letter h. rw (given_push_other letter ws w (no_value letter h)) (index.sound letter h);
  no_other_letter = λ letter h k. any_push (λ (v : Word). v.letter == letter) ws w (no_letter letter k) ∙ index.no_other_letter letter h k;
  groups = λ group h. by_test (of == group)
      (λ e. here group (is_same of group e))
      (λ e. fills.others_filled (group_slot group) (differ group e) ∙ index.groups group h ∙ sym (any_push (is_of_group group) ws w (rw grouped e)));
  commands = λ letter key group h. by_test (of == group)
      (λ e. spoken letter key group h (is_same of group e))
      (λ e. any_push (is_code letter key) ws w (not_spoken letter key group h e) ∙ index.commands letter key group h ∙ sym (ap (is_number (key * 100000)) (fills.others (group_slot group) (differ group e))));
}
  where
    row : HasRow w of
    row = has_row w of grouped

    lettered : is_command_letter w.letter ≡ true
    lettered = command_letter w.letter row.key of row.row

    free : value_in old all (group_slot of) ≡ None
    free = nothing_in old all (group_slot of) (index.groups of small ∙ rw grouped at (passes ws w pass).new_group)

    here : (group : ℕ) → of ≡ group → is_filled new (group_slot group) ≡ list_any (is_of_group group) (ws ++ w ∷ [])
    here group e = rw (← e) (fills.filled ∙ sym (any_push_true (is_of_group of) ws w (rw grouped (same_number of))))

    differ : (group : ℕ) → (of == group) ≡ false → group_slot group ≢ group_slot of
    differ group e = λ equal.
        let one : of ≡ group = omega (arith, equal) in
        let test : (of == group) ≡ true = rw one (same_number group) in
        cc

    spoken : (letter key group : ℕ) → value_of key (rows_of letter) ≡ Some group → of ≡ group → has letter key (ws ++ w ∷ []) ≡ is_number (key * 100000) (value_in new all (group_slot group))
    spoken letter key group h e =
        let h' : value_of key (rows_of letter) ≡ Some of = rw e h in
        let before : has letter key ws ≡ false = index.commands letter key of h' ∙ ap (is_number (key * 100000)) free in
        let lettered : (w.letter == letter) ≡ true = rw (same_letter w.letter letter row.key key of row.row h') (same_number letter) in
        let one : is_code letter key w ≡ is_number (key * 100000) (Some w.value.micro) = rw (lettered, row.is_key, row.value) (times_same row.key key) in
        let filled : value_in new all (group_slot group) ≡ Some w.value.micro = rw (← e) fills.value in
        any_push_first (is_code letter key) ws w before ∙ one ∙ sym (ap (is_number (key * 100000)) filled)

    not_spoken : (letter key group : ℕ) → value_of key (rows_of letter) ≡ Some group → (of == group) ≡ false → is_code letter key w ≡ false
    not_spoken letter key group h e = by_test (is_code letter key w)
        (λ t. absurd (wrong (and_true (w.letter == letter) (is_key key (key_of w.value)) t)))
        (λ t. t)
      where
        wrong : ((w.letter == letter) ≡ true) × (is_key key (key_of w.value) ≡ true) → ⊥
        wrong both =
            let one = is_same w.letter letter both.0 in
            let two = is_same row.key key (rw row.is_key at both.1) in
            let group_is = row_at w.letter letter row.key key of one two row.row in
            let test : (of == group) ≡ true = rw (one_some of group (sym group_is ∙ h)) (same_number group) in
            cc

    no_value : (letter : ℕ) → is_value_letter letter ≡ true → (w.letter == letter) ≡ false
    no_value letter h = by_test (w.letter == letter)
        (λ e. let wrong = rw (is_same w.letter letter e) at lettered in let right = value_or_command letter h in absurd cc)
        (λ e. e)

    no_letter : (letter : ℕ) → is_command_letter letter ≡ false → (w.letter == letter) ≡ false
    no_letter letter h = by_test (w.letter == letter)
        (λ e. let wrong = rw (is_same w.letter letter e) at lettered in absurd cc)
        (λ e. e)

    before_group : (letter : ℕ) → is_value_letter letter ≡ true → value_slot letter ≢ group_slot of
    before_group letter h = λ e. let range = value_letter_range letter h in omega (arith, range, e)

-- a value takes no axis words
pub value_takes_no_axis : (ws : List Word) (w : Word) → is_value_letter w.letter ≡ true → list_any is_axis_command (ws ++ w ∷ []) ≡ list_any is_axis_command ws
value_takes_no_axis ws w h =
    let other = (or_false (w.letter == G) (w.letter == M) (value_or_command w.letter h)).0 in
    any_push is_axis_command ws w (rw other refl)

-- a word that passes and is no command is a value
pub value_has_letter : (ws : List Word) (w : Word) → group_of w ≡ None → is_value_letter w.letter ≡ false → word_refusal ws w ≡ None → ⊥
value_has_letter ws w no_group other pass = unknown (is_command w) (rw (no_group, other) at (passes ws w pass).supported)
  where
    unknown : (b : Bool) → ((b && true) || not (b || false)) ≡ false → ⊥
    unknown true e = cc
    unknown false e = cc
