-- A status report that a board can give is read from its text.
use Rattle.std.specs.Prelude.{codes, decimal, if◌then◌else◌}
use Rattle.std.proofs.Common.{◌≡◌, ◌↔◌, ℕ, suc, length, drop, option_copied, ◌+◌, ◌-◌, ◌*◌, ◌/◌, ◌%◌, ◌^◌, ◌<◌, ◌≤◌, Bool, true, false, nat_eq, nat_le, ℤ, pos, negsuc, ◌-ℤ◌, ◌+ℤ◌, nat_abs, List, [], ◌∷◌, ◌++◌, append_assoc, append-nil, length-append, Some, None, refl, sym, ap, ◌∙◌, arith, rules}
use Rattle.std.proofs.lemmas.Fmt.{length-decimal-le}
use Rattle.std.proofs.lemmas.Int.{ints}
use Rattle.status_report.proofs.Short.{fixed_short}
use Rattle.std.specs.declared.option.Option.{Option}
use Rattle.std.specs.Char.{is_ascii_digit}
use Rattle.std.proofs.lemmas.Bool.{lt-ltb}
use Rattle.std.proofs.lemmas.Bool.Decides.{nat_tests}
use Rattle.units.specs.Fixed.{fixed3, three_digits}
use Rattle.units.specs.Lengths.{minus}
use Rattle.units.specs.declared.Nm3.{Nm3}
use Rattle.modal_state.specs.Modes.{IsWithin}
use Rattle.overrides.specs.declared.Overrides.{Overrides}
use Rattle.status_report.specs.Places.{listed, place_text}
use Rattle.status_report.specs.Replies.{reply_text}
use Rattle.status_report.specs.Reports.{state_name, position_name, position_shown, position_field, speeds_field, offset_field, overrides_field, report_text, farthest_told, IsReport, HasBytes, HasWidths}
use Rattle.status_report.specs.declared.Reply.TheVariants.{Report as Reporting}
use Rattle.status_report.specs.declared.reports.Report.{Report}
use Rattle.status_report.specs.declared.reports.State.{State}
use Rattle.status_report.specs.declared.reports.State.TheVariants.{Idle, Run, Hold0, Hold1, Jog, Alarm}
use Rattle.std.specs.Borrow.{Bor}
use Rattle.std.specs.Option.{is_some}
use Rattle.std.proofs.lemmas.List.{drop_at}
use Rattle.std.proofs.lemmas.Option.{none-some, some_pair_parts}
use Rattle.step_record.specs.Reading.{seen, behind_name, number_at}
use Rattle.step_record.proofs.Fields.{after_again, after_takes, number_again}
use Rattle.audit_readers.specs.Reports.{most_mm, byte_at, fraction_at, magnitude_at, negative_at, fixed_at, place_at, state_at, machine_at, free_at, buffer_at, speeds_at, offset_at, overrides_at, machine_place, report_at}

-- ---- numbers

byte_again : (n end : ℕ) (rest : List ℕ) → n < 2 ^ 8 → is_ascii_digit end ≡ false → byte_at (decimal n ++ end ∷ rest) end ≡ Some (n, rest)
unfolding byte_at
byte_again n end rest small stops =
    let fits : n < 256 = omega (arith, small) in
    rw (number_again n end rest (omega (arith, small)) stops, lt-ltb n 256 fits) refl

digit_is : (d : ℕ) → d < 10 → is_ascii_digit (48 + d) ≡ true
digit_is d small = search (rules, nat_tests)

same_byte : (e : ℕ) → nat_eq e e ≡ true
same_byte e = search (rules, nat_tests)

fraction_again : (n end : ℕ) (rest : List ℕ) → fraction_at (three_digits n ++ end ∷ rest) end ≡ Some (n % 1000, rest)
unfolding fraction_at
fraction_again n end rest =
    let value : (48 + n / 100 % 10 - 48) * 100 + (48 + n / 10 % 10 - 48) * 10 + (48 + n % 10 - 48) ≡ n % 1000 = omega arith in
    rw (digit_is (n / 100 % 10) (omega arith), digit_is (n / 10 % 10) (omega arith), digit_is (n % 10) (omega arith), same_byte end) (ap (λ (v : ℕ). Some (v, rest)) value)

few_mm : (n : ℕ) → n ≤ 2000000000000 → nat_le (n / 1000) most_mm ≡ true
few_mm n small = let less : n / 1000 ≤ 2000000000 = omega (arith, small) in grind (arith, nat_tests)

magnitude_again : (n end : ℕ) (rest : List ℕ) → n ≤ 2000000000000 → magnitude_at (decimal (n / 1000) ++ 46 ∷ (three_digits n ++ end ∷ rest)) end ≡ Some (n, rest)
unfolding magnitude_at
magnitude_again n end rest small =
    let value : n / 1000 * 1000 + n % 1000 ≡ n = omega arith in
    rw (number_again (n / 1000) 46 (three_digits n ++ end ∷ rest) (omega (arith, small)) refl, fraction_again n end rest, few_mm n small) (ap (λ (v : ℕ). Some (v, rest)) value)

no_number : (rest : List ℕ) (end : ℕ) → number_at (45 ∷ rest) end ≡ None
unfolding number_at
no_number rest end = refl

no_magnitude : (rest : List ℕ) (end : ℕ) → magnitude_at (45 ∷ rest) end ≡ None
unfolding magnitude_at
no_magnitude rest end = rw (no_number rest 46) refl

minus_is : (m : ℕ) → pos 0 -ℤ pos (suc m) ≡ negsuc m
minus_is m = omega (arith, ints)

fixed_again : (v : ℤ) (end : ℕ) (rest : List ℕ) → nat_abs v ≤ 2000000000000 → fixed_at (fixed3 v ++ end ∷ rest) end ≡ Some (v, rest)
unfolding fixed_at negative_at fixed3
fixed_again (pos n) end rest small =
    let whole : (decimal (n / 1000) ++ 46 ∷ three_digits n) ++ end ∷ rest ≡ decimal (n / 1000) ++ 46 ∷ (three_digits n ++ end ∷ rest) = append_assoc (decimal (n / 1000)) (46 ∷ three_digits n) (end ∷ rest) in
    rw (whole, magnitude_again n end rest small) refl
fixed_again (negsuc m) end rest small =
    let whole : ((45 ∷ decimal (suc m / 1000)) ++ 46 ∷ three_digits (suc m)) ++ end ∷ rest ≡ 45 ∷ (decimal (suc m / 1000) ++ 46 ∷ (three_digits (suc m) ++ end ∷ rest)) =
    append_assoc (45 ∷ decimal (suc m / 1000)) (46 ∷ three_digits (suc m)) (end ∷ rest) in
    rw (whole, no_magnitude (decimal (suc m / 1000) ++ 46 ∷ (three_digits (suc m) ++ end ∷ rest)) end, magnitude_again (suc m) end rest small) (ap (λ (v : ℤ). Some (v, rest)) (minus_is m))

-- ---- fields

record IsFar (at : Nm3) : Type 0 where
  pub x : nat_abs at.x ≤ 2000000000000
  pub y : nat_abs at.y ≤ 2000000000000
  pub z : nat_abs at.z ≤ 2000000000000

place_again : (at : Nm3) (end : ℕ) (rest : List ℕ) → IsFar at → place_at (place_text at ++ end ∷ rest) end ≡ Some (at, rest)
unfolding place_at
place_again at end rest far =
    let whole : place_text at ++ end ∷ rest ≡ fixed3 at.x ++ 44 ∷ (fixed3 at.y ++ 44 ∷ (fixed3 at.z ++ end ∷ rest)) = simp append_assoc refl in
    rw (whole, fixed_again at.x 44 (fixed3 at.y ++ 44 ∷ (fixed3 at.z ++ end ∷ rest)) far.x, fixed_again at.y 44 (fixed3 at.z ++ end ∷ rest) far.y, fixed_again at.z end rest far.z) refl

state_again : (s : State) (rest : List ℕ) → state_at (60 ∷ (state_name s ++ 124 ∷ rest)) ≡ Some (s, rest)
unfolding state_at
state_again Idle rest = refl
state_again Run rest = refl
state_again Hold0 rest = refl
state_again Hold1 rest = refl
state_again Jog rest = refl
state_again Alarm rest = refl

machine_again : (m : Bool) (rest : List ℕ) → machine_at (position_name m ++ rest) ≡ Some (m, rest)
unfolding machine_at
machine_again true rest = refl
machine_again false rest = refl

-- the text of a report from each field on
speeds_text : ℕ → ℕ → List ℕ → List ℕ
speeds_text f s rest = codes "FS:" ++ (decimal f ++ 44 ∷ (decimal s ++ 124 ∷ rest))

buffer_text : Option (ℕ × ℕ) → List ℕ → List ℕ
buffer_text None rest = rest
buffer_text (Some free) rest = codes "Bf:" ++ (decimal free.0 ++ 44 ∷ (decimal free.1 ++ 124 ∷ rest))

offset_text : Nm3 → List ℕ → List ℕ
offset_text wco rest = codes "WCO:" ++ (place_text wco ++ 124 ∷ rest)

overrides_text : Overrides → List ℕ → List ℕ
overrides_text ov rest = codes "Ov:" ++ (decimal ov.feed ++ 44 ∷ (decimal ov.rapid ++ 44 ∷ (decimal ov.spindle ++ 62 ∷ rest)))

buffer_again : (b : Option (ℕ × ℕ)) (f s : ℕ) (rest : List ℕ) → HasBytes b → buffer_at (buffer_text b (speeds_text f s rest)) ≡ Some (b, speeds_text f s rest)
unfolding buffer_at free_at buffer_text speeds_text
buffer_again None f s rest bytes = refl
buffer_again (Some free) f s rest bytes =
    rw (byte_again free.0 44 (decimal free.1 ++ 124 ∷ (codes "FS:" ++ (decimal f ++ 44 ∷ (decimal s ++ 124 ∷ rest)))) bytes.0 refl, byte_again free.1 124 (codes "FS:" ++ (decimal f ++ 44 ∷ (decimal s ++ 124 ∷ rest))) bytes.1 refl) refl

speeds_again : (f s : ℕ) (rest : List ℕ) → f < 2 ^ 64 → s < 2 ^ 64 → speeds_at (speeds_text f s rest) ≡ Some ((f, s), rest)
unfolding speeds_at speeds_text
speeds_again f s rest f_fits s_fits = rw (number_again f 44 (decimal s ++ 124 ∷ rest) f_fits refl, number_again s 124 rest s_fits refl) refl

offset_again : (wco : Nm3) (rest : List ℕ) → IsFar wco → offset_at (offset_text wco rest) ≡ Some (wco, rest)
unfolding offset_at offset_text
offset_again wco rest far = place_again wco 124 rest far

overrides_again : (ov : Overrides) (rest : List ℕ) → ov.feed < 2 ^ 8 → ov.rapid < 2 ^ 8 → ov.spindle < 2 ^ 8 → overrides_at (overrides_text ov rest) ≡ Some (ov, rest)
unfolding overrides_at overrides_text
overrides_again ov rest feed rapid spindle =
    rw (byte_again ov.feed 44 (decimal ov.rapid ++ 44 ∷ (decimal ov.spindle ++ 62 ∷ rest)) feed refl, byte_again ov.rapid 44 (decimal ov.spindle ++ 62 ∷ rest) rapid refl, byte_again ov.spindle 62 rest spindle refl) refl

-- ---- a report

near_far : (at : Nm3) → IsWithin farthest_told at → IsFar at
near_far at near = record { x = omega (arith, near.x); y = omega (arith, near.y); z = omega (arith, near.z) }

difference_far : (a b : ℤ) → nat_abs a ≤ farthest_told → nat_abs b ≤ farthest_told → nat_abs (a -ℤ b) ≤ 2000000000000
difference_far a b a_near b_near = omega (arith, ints)

shown_far : (m : Bool) (at wco : Nm3) → IsWithin farthest_told at → IsWithin farthest_told wco → IsFar (if m then at else minus at wco)
shown_far true at wco at_near wco_near = near_far at at_near
shown_far false at wco at_near wco_near = record {
  x = difference_far at.x wco.x at_near.x wco_near.x;
  y = difference_far at.y wco.y at_near.y wco_near.y;
  z = difference_far at.z wco.z at_near.z wco_near.z;
}

back : (a b : ℤ) → (a -ℤ b) +ℤ b ≡ a
back a b = omega (arith, ints)

place_back : (m : Bool) (at wco : Nm3) → machine_place m (if m then at else minus at wco) wco ≡ at
place_back true at wco = refl
place_back false at wco =
    ap (λ (v : ℤ). record { x = v; y = (at.y -ℤ wco.y) +ℤ wco.y; z = (at.z -ℤ wco.z) +ℤ wco.z }) (back at.x wco.x)
    ∙ ap (λ (v : ℤ). record { x = at.x; y = v; z = (at.z -ℤ wco.z) +ℤ wco.z }) (back at.y wco.y)
    ∙ ap (λ (v : ℤ). record { x = at.x; y = at.y; z = v }) (back at.z wco.z)

-- from each field on
whole_text : Report → List ℕ → List ℕ
whole_text r rest =
    60 ∷ (state_name r.state ++ 124 ∷ (position_name r.machine ++ (place_text (position_shown r) ++ 124 ∷ buffer_text r.buffer (speeds_text r.f r.s (offset_text r.wco (overrides_text r.ov rest))))))

together : (name at speeds wco ov rest : List ℕ) → (((60 ∷ []) ++ name ++ ((124 ∷ at) ++ ((124 ∷ speeds) ++ ((124 ∷ wco) ++ ((124 ∷ ov) ++ []))))) ++ 62 ∷ []) ++ 13 ∷ 10 ∷ [] ++ rest
    ≡ 60 ∷ (name ++ 124 ∷ (at ++ 124 ∷ (speeds ++ 124 ∷ (wco ++ 124 ∷ (ov ++ 62 ∷ 13 ∷ 10 ∷ rest)))))
together name at speeds wco ov rest = simp append_assoc

together_free : (name at free speeds wco ov rest : List ℕ) → (((60 ∷ []) ++ name ++ ((124 ∷ at) ++ ((124 ∷ free) ++ ((124 ∷ speeds) ++ ((124 ∷ wco) ++ ((124 ∷ ov) ++ [])))))) ++ 62 ∷ []) ++ 13 ∷ 10 ∷ [] ++ rest
    ≡ 60 ∷ (name ++ 124 ∷ (at ++ 124 ∷ (free ++ 124 ∷ (speeds ++ 124 ∷ (wco ++ 124 ∷ (ov ++ 62 ∷ 13 ∷ 10 ∷ rest))))))
together_free name at free speeds wco ov rest = simp append_assoc

speeds_is : (f s : ℕ) (rest : List ℕ) → speeds_field f s ++ 124 ∷ rest ≡ speeds_text f s rest
unfolding speeds_text
speeds_is f s rest = ap (λ (t : List ℕ). codes "FS:" ++ t) (append_assoc (decimal f) (44 ∷ decimal s) (124 ∷ rest))

free_is : (free : ℕ × ℕ) (rest : List ℕ) → (codes "Bf:" ++ listed (decimal free.0 ∷ decimal free.1 ∷ [])) ++ 124 ∷ rest ≡ buffer_text (Some free) rest
unfolding buffer_text
free_is free rest = ap (λ (t : List ℕ). codes "Bf:" ++ t) (append_assoc (decimal free.0) (44 ∷ decimal free.1) (124 ∷ rest))

offset_is : (wco : Nm3) (rest : List ℕ) → offset_field wco ++ 124 ∷ rest ≡ offset_text wco rest
unfolding offset_text
offset_is wco rest = refl

overrides_is : (ov : Overrides) (rest : List ℕ) → overrides_field ov ++ 62 ∷ rest ≡ overrides_text ov rest
unfolding overrides_text
overrides_is ov rest =
    ap (λ (t : List ℕ). codes "Ov:" ++ t)
    (append_assoc (decimal ov.feed) (44 ∷ (decimal ov.rapid ++ 44 ∷ decimal ov.spindle)) (62 ∷ rest) ∙ ap (λ (t : List ℕ). decimal ov.feed ++ 44 ∷ t) (append_assoc (decimal ov.rapid) (44 ∷ decimal ov.spindle) (62 ∷ rest)))

position_is : (m : Bool) (at : Nm3) (rest : List ℕ) → (position_name m ++ place_text at) ++ 124 ∷ rest ≡ position_name m ++ (place_text at ++ 124 ∷ rest)
position_is m at rest = append_assoc (position_name m) (place_text at) (124 ∷ rest)

ends_are : (r : Report) (rest : List ℕ) → speeds_field r.f r.s ++ 124 ∷ (offset_field r.wco ++ 124 ∷ (overrides_field r.ov ++ 62 ∷ rest)) ≡ speeds_text r.f r.s (offset_text r.wco (overrides_text r.ov rest))
ends_are r rest =
    ap (λ (t : List ℕ). speeds_field r.f r.s ++ 124 ∷ (offset_field r.wco ++ 124 ∷ t)) (overrides_is r.ov rest)
    ∙ ap (λ (t : List ℕ). speeds_field r.f r.s ++ 124 ∷ t) (offset_is r.wco (overrides_text r.ov rest))
    ∙ speeds_is r.f r.s (offset_text r.wco (overrides_text r.ov rest))

text_by : (r : Report) (b : Option (ℕ × ℕ)) (rest : List ℕ) → r.buffer ≡ b → reply_text (Reporting r) ++ rest
    ≡ 60 ∷ (state_name r.state ++ 124 ∷ (position_name r.machine ++ (place_text (position_shown r) ++ 124 ∷ buffer_text b (speeds_text r.f r.s (offset_text r.wco (overrides_text r.ov (13 ∷ 10 ∷ rest)))))))
unfolding reply_text report_text buffer_text
text_by r None rest e =
    rw e (together (state_name r.state) (position_field r) (speeds_field r.f r.s) (offset_field r.wco) (overrides_field r.ov) rest)
    ∙ ap (λ (t : List ℕ). 60 ∷ (state_name r.state ++ 124 ∷ (position_field r ++ 124 ∷ t))) (ends_are r (13 ∷ 10 ∷ rest))
    ∙ ap (λ (t : List ℕ). 60 ∷ (state_name r.state ++ 124 ∷ t)) (position_is r.machine (position_shown r) (speeds_text r.f r.s (offset_text r.wco (overrides_text r.ov (13 ∷ 10 ∷ rest)))))
text_by r (Some free) rest e =
    let ends = speeds_text r.f r.s (offset_text r.wco (overrides_text r.ov (13 ∷ 10 ∷ rest))) in
    rw e (together_free (state_name r.state) (position_field r) (codes "Bf:" ++ listed (decimal free.0 ∷ decimal free.1 ∷ [])) (speeds_field r.f r.s) (offset_field r.wco) (overrides_field r.ov) rest)
    ∙ ap (λ (t : List ℕ). 60 ∷ (state_name r.state ++ 124 ∷ (position_field r ++ 124 ∷ ((codes "Bf:" ++ listed (decimal free.0 ∷ decimal free.1 ∷ [])) ++ 124 ∷ t)))) (ends_are r (13 ∷ 10 ∷ rest))
    ∙ ap (λ (t : List ℕ). 60 ∷ (state_name r.state ++ 124 ∷ (position_field r ++ 124 ∷ t))) (free_is free ends)
    ∙ ap (λ (t : List ℕ). 60 ∷ (state_name r.state ++ 124 ∷ t)) (position_is r.machine (position_shown r) (buffer_text (Some free) ends))

text_is : (r : Report) (rest : List ℕ) → reply_text (Reporting r) ++ rest ≡ whole_text r (13 ∷ 10 ∷ rest)
unfolding whole_text
text_is r rest = text_by r r.buffer rest refl

abbrev report_of : State → Bool → Nm3 → Option (ℕ × ℕ) → ℕ → ℕ → Nm3 → Overrides → Report
report_of state machine at buffer f s wco ov = record { state = state; machine = machine; at = at; buffer = buffer; f = f; s = s; wco = wco; ov = ov }

pub report_again : (r : Report) (rest : List ℕ) → IsReport r → HasWidths r → report_at (reply_text (Reporting r) ++ rest) ≡ Some (r, 13 ∷ 10 ∷ rest)
unfolding report_at whole_text
report_again r rest is widths =
    let ending = 13 ∷ 10 ∷ rest in
    let ov = overrides_text r.ov ending in
    let wco = offset_text r.wco ov in
    let speeds = speeds_text r.f r.s wco in
    let buffer = buffer_text r.buffer speeds in
    let shown = place_text (position_shown r) ++ 124 ∷ buffer in
    let machine = position_name r.machine ++ shown in
    rw (
      text_is r rest,
      state_again r.state machine,
      machine_again r.machine shown,
      place_again (position_shown r) 124 buffer (shown_far r.machine r.at r.wco is.at is.wco),
      buffer_again r.buffer r.f r.s wco widths.buffer,
      speeds_again r.f r.s wco widths.f widths.s,
      offset_again r.wco ov (near_far r.wco is.wco),
      overrides_again r.ov ending widths.feed widths.rapid widths.spindle,
    ) (ap (λ (at : Nm3). Some (report_of r.state r.machine at r.buffer r.f r.s r.wco r.ov, ending)) (place_back r.machine r.at r.wco))

-- what is read of a text that begins with a report
pub read_again : (text : List ℕ) (o : Option (Report × Bor (List ℕ))) → seen o ≡ report_at text → (r : Report) (rest : List ℕ) → IsReport r → HasWidths r → text ≡ reply_text (Reporting r) ++ rest
    → (p : Report × Bor (List ℕ)) × (o ≡ Some p) × (p.0 ≡ r)
read_again text None e r rest is widths begins = absurd (none-some (r, 13 ∷ 10 ∷ rest) (e ∙ ap report_at begins ∙ report_again r rest is widths))
read_again text (Some p) e r rest is widths begins = (p, refl, (some_pair_parts p.0 r p.1.now (13 ∷ 10 ∷ rest) (e ∙ ap report_at begins ∙ report_again r rest is widths)).0)

-- a name begins a text exactly if something follows it
pub named_tells : (name text : List ℕ) (o : Option (Bor (List ℕ))) → option_copied o ≡ behind_name name text → (is_some o ≡ true) ↔ (text ≡ name ++ drop (length name) text)
named_tells name text None e = (λ f. absurd cc, λ f. absurd (none-some (drop (length name) text) (e ∙ ap (behind_name name) f ∙ after_again name (drop (length name) text))))
named_tells name text (Some p) e =
    let found : behind_name name text ≡ Some p.now = sym e in
    let takes = after_takes name text p.now found in
    let rest : drop (length name) text ≡ p.now = ap (drop (length name)) takes ∙ drop_at name p.now (length name) refl in
    (λ f. takes ∙ ap (λ (t : List ℕ). name ++ t) (sym rest), λ f. refl)

pub read_same : (text : List ℕ) (o : Option (Report × Bor (List ℕ))) (q : Report) (s : Bor (List ℕ)) → seen o ≡ report_at text → o ≡ Some (q, s) → (r : Report) (rest : List ℕ) → IsReport r → HasWidths r → text ≡ reply_text (Reporting r) ++ rest → q ≡ r
read_same text o q s e f r rest is widths begins =
    let both : Some (q, s.now) ≡ Some (r, 13 ∷ 10 ∷ rest) = sym (ap seen f) ∙ e ∙ ap report_at begins ∙ report_again r rest is widths in
    (some_pair_parts q r s.now (13 ∷ 10 ∷ rest) both).0

-- ---- how long a report is

small_short : (n : ℕ) → n < 2 ^ 8 → length (decimal n) ≤ 3
small_short n small = length-decimal-le 3 n (omega arith) (omega arith) (omega (arith, small))

large_short : (n : ℕ) → n < 2 ^ 64 → length (decimal n) ≤ 20
large_short n small = length-decimal-le 20 n (omega arith) (omega arith) (omega (arith, small))

name_short : (s : State) → length (state_name s) ≤ 6
name_short Idle = omega arith
name_short Run = omega arith
name_short Hold0 = omega arith
name_short Hold1 = omega arith
name_short Jog = omega arith
name_short Alarm = omega arith

position_short : (m : Bool) → length (position_name m) ≤ 5
position_short true = omega arith
position_short false = omega arith

buffer_short : (b : Option (ℕ × ℕ)) (rest : List ℕ) → HasBytes b → length (buffer_text b rest) ≤ 11 + length rest
unfolding buffer_text
buffer_short None rest bytes = omega arith
buffer_short (Some free) rest bytes = simp length-append (omega (arith, small_short free.0 bytes.0, small_short free.1 bytes.1))

ends_short : (r : Report) (rest : List ℕ) → IsReport r → HasWidths r → length (speeds_text r.f r.s (offset_text r.wco (overrides_text r.ov rest))) ≤ 112 + length rest
unfolding speeds_text offset_text overrides_text
ends_short r rest is widths =
    let far = near_far r.wco is.wco in
    simp length-append
    (omega (arith, large_short r.f widths.f, large_short r.s widths.s, fixed_short r.wco.x far.x, fixed_short r.wco.y far.y, fixed_short r.wco.z far.z, small_short r.ov.feed widths.feed, small_short r.ov.rapid widths.rapid, small_short r.ov.spindle widths.spindle))

pub report_short : (r : Report) → IsReport r → HasWidths r → length (reply_text (Reporting r)) ≤ 192
unfolding whole_text
report_short r is widths =
    let ends = speeds_text r.f r.s (offset_text r.wco (overrides_text r.ov (13 ∷ 10 ∷ []))) in
    let shown = position_shown r in
    let far = shown_far r.machine r.at r.wco is.at is.wco in
    let whole : length (reply_text (Reporting r)) ≡ length (whole_text r (13 ∷ 10 ∷ [])) = ap length (sym (append-nil (reply_text (Reporting r))) ∙ text_is r []) in
    let sum : length (whole_text r (13 ∷ 10 ∷ [])) ≤ 1 + 6 + 1 + 5 + 47 + 1 + (11 + (112 + 2)) = simp length-append
    (omega (arith, name_short r.state, position_short r.machine, fixed_short shown.x far.x, fixed_short shown.y far.y, fixed_short shown.z far.z, buffer_short r.buffer ends widths.buffer, ends_short r (13 ∷ 10 ∷ []) is widths)) in
    omega (arith, whole, sum)
