-- How long the lines of records are.
use Rattle.std.proofs.Common.{◌≡◌, ℕ, ◌≤◌, ◌+◌, ap, ◌∙◌, lit≤, lit<, Bool, true, false, cond, nat_eq, ℤ, pos, negsuc, [], ◌∷◌, length, decimal, length-append, refl, arith}
use Rattle.itoa.proofs.Decimal.{length_two, length_pair, length_four}
use Rattle.step_line.specs.declared.Bits.{Bits}
use Rattle.step_line.specs.declared.Head.{Head}
use Rattle.step_line.specs.declared.Mark.{Mark}
use Rattle.step_line.specs.declared.Mark.TheVariants.{Dwell, Spindle, Coolant, Cut, Reset}
use Rattle.step_line.specs.declared.SpindleCode.TheVariants.{M3, M4, M5}
use Rattle.step_line.specs.declared.Record.{Record}
use Rattle.step_line.specs.declared.Record.TheVariants as kinds
use Rattle.step_line.specs.Events.{IsEvent}
use Rattle.step_line.specs.Records.{IsRecord, IsHead, IsMark}
use Rattle.step_record.specs.Texts.{axis_text, event_text, head_text, mark_text, record_text}
use Rattle.step_record.proofs.Appended.{short32, short64}

two_at_most : (b : Bool) (letter : ℕ) → length (cond b [] (letter ∷ 43 ∷ [])) ≤ 2
two_at_most true letter = lit≤ tt
two_at_most false letter = lit≤ tt

axis_within : (letter : ℕ) (d : ℤ) → length (axis_text letter d) ≤ 2
axis_within letter (pos n) = two_at_most (nat_eq n 0) letter
axis_within letter (negsuc n) = lit≤ tt

pub event_within : (b : Bits) → IsEvent b → length (event_text b) ≤ 7
unfolding event_text
event_within b is = simp length-append (omega (arith, axis_within 88 b.x, axis_within 89 b.y, axis_within 90 b.z))

head_within : (h : Head) → IsHead h → length (head_text h) ≤ 66
unfolding head_text
head_within h is = simp length-append (omega (arith, short32 h.line is.line.1, short32 h.n is.n.1, short64 h.w is.w, short64 h.cycles is.cycles))

mark_within : (m : Mark) → IsMark m → length (mark_text m) ≤ 66
unfolding mark_text
mark_within (Dwell ms) is = simp length-append (omega (arith, short64 ms is))
mark_within (Spindle M3 speed) is = simp length-append (omega (arith, short32 speed is))
mark_within (Spindle M4 speed) is = simp length-append (omega (arith, short32 speed is))
mark_within (Spindle M5 speed) is = lit≤ tt
mark_within (Coolant true) is = lit≤ tt
mark_within (Coolant false) is = lit≤ tt
mark_within (Cut line) is = simp length-append (omega (arith, short32 line is))
mark_within (Reset line) is = simp length-append (omega (arith, short32 line is))

pub line_within : (r : Record) → IsRecord r → length (record_text r) ≤ 66
line_within (kinds.Head h) is = head_within h is
line_within (kinds.Event b) is = let short = event_within b is in omega arith
line_within (kinds.Mark m) is = mark_within m is
line_within kinds.End is = lit≤ tt

-- the longest head, and an event that steps all axes
ten : length (decimal 4294967295) ≡ 10
ten = length_four 4294967295 (lit≤ tt) (lit< tt) ∙ ap (λ n. n + 4) (length_four 429496 (lit≤ tt) (lit< tt) ∙ ap (λ n. n + 4) (length_two 42 (lit≤ tt) (lit< tt)))

twenty : length (decimal 18446744073709551615) ≡ 20
twenty =
    let two = length_pair 1844 (lit≤ tt) (lit< tt) ∙ ap (λ n. n + 2) (length_two 18 (lit≤ tt) (lit< tt)) in
    let more = length_four 18446744 (lit≤ tt) (lit< tt) ∙ ap (λ n. n + 4) two in
    let most = length_four 184467440737 (lit≤ tt) (lit< tt) ∙ ap (λ n. n + 4) more in
    let nearly = length_four 1844674407370955 (lit≤ tt) (lit< tt) ∙ ap (λ n. n + 4) most in
    length_four 18446744073709551615 (lit≤ tt) (lit< tt) ∙ ap (λ n. n + 4) nearly

abbrev largest : Head
largest = record { line = 4294967295; n = 4294967295; w = 18446744073709551615; cycles = 18446744073709551615 }

largest_is : IsHead largest
largest_is = record { line = (lit≤ tt, lit< tt); n = (lit≤ tt, lit< tt); w = lit< tt; cycles = lit< tt }

largest_reaches : length (head_text largest) ≡ 66
unfolding head_text
largest_reaches = simp length-append (omega (arith, ten, twenty))

pub some_line : (r : Record) × IsRecord r × (length (record_text r) ≡ 66)
some_line = (kinds.Head largest, largest_is, largest_reaches)

abbrev all_axes : Bits
all_axes = record { x = pos 1; y = pos 1; z = pos 1 }

all_step : IsEvent all_axes
all_step = record { x = lit≤ tt; y = lit≤ tt; z = lit≤ tt; some = lit< tt }

all_reach : length (event_text all_axes) ≡ 7
unfolding event_text
all_reach = refl

pub some_event : (b : Bits) × IsEvent b × (length (event_text b) ≡ 7)
some_event = (all_axes, all_step, all_reach)
