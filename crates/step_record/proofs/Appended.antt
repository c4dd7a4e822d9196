-- Lines that are appended part by part.
use Rattle.std.specs.Prelude.{codes}
use Rattle.std.proofs.Common.{◌≡◌, ℕ, ◌^◌, ◌+◌, ◌-◌, ◌≤◌, ◌<◌, ℤ, List, [], ◌∷◌, ◌++◌, length, drop, set, length-set, decimal, append_assoc, refl, sym, ap, ◌∙◌, arith}
use Rattle.std.proofs.Math.ListN.{drop_of_length-le}
use Rattle.std.proofs.lemmas.List.{drop-set}
use Rattle.std.proofs.lemmas.Fmt.{decimal_digit, length-decimal-le}
use Rattle.step_line.specs.declared.Bits.{Bits}
use Rattle.step_line.specs.declared.Head.{Head}
use Rattle.step_record.specs.Texts.{axis_text, event_text, head_text}
use Rattle.step_record.specs.Forms.{run_text}

pub short32 : (n : ℕ) → n < 2 ^ 32 → length (decimal n) ≤ 10
short32 n h = length-decimal-le 10 n (omega arith) (omega arith) (omega arith)

pub short64 : (n : ℕ) → n < 2 ^ 64 → length (decimal n) ≤ 20
short64 n h = length-decimal-le 20 n (omega arith) (omega arith) h

-- the axes of an event, and the end of its line
pub event_parts : (b : Bits) (o o1 o2 o3 o4 : List ℕ) (x y z : ℤ) → x ≡ b.x → y ≡ b.y → z ≡ b.z
    → o1 ≡ o ++ axis_text 88 x → o2 ≡ o1 ++ axis_text 89 y → o3 ≡ o2 ++ axis_text 90 z → o4 ≡ o3 ++ 10 ∷ [] → o4 ≡ o ++ event_text b
unfolding event_text
event_parts b o o1 o2 o3 o4 x y z x-is y-is z-is first second third last =
    rw (last, third, second, first, x-is, y-is, z-is) (simp append_assoc)

-- the numbers of a head, each with the byte that ends it
head_whole : (h : Head) → 115 ∷ 32 ∷ (decimal h.line ++ 32 ∷ (decimal h.n ++ 32 ∷ (decimal h.w ++ 32 ∷ (decimal h.cycles ++ 10 ∷ [])))) ≡ head_text h
unfolding head_text
head_whole h = simp append_assoc

pub head_behind : (h : Head) (empty cycles_line w_line n_line line : List ℕ) (cycles w n at : ℕ) → length empty ≡ 66
    → drop cycles cycles_line ≡ decimal h.cycles ++ 10 ∷ drop 66 empty → drop w w_line ≡ decimal h.w ++ 32 ∷ drop cycles cycles_line
    → drop n n_line ≡ decimal h.n ++ 32 ∷ drop w w_line → drop at line ≡ decimal h.line ++ 32 ∷ drop n n_line
    → drop at line ≡ decimal h.line ++ 32 ∷ (decimal h.n ++ 32 ∷ (decimal h.w ++ 32 ∷ (decimal h.cycles ++ 10 ∷ [])))
head_behind h empty cycles_line w_line n_line line cycles w n at long cycles_is w_is n_is line_is =
    let none : drop 66 empty ≡ [] = drop_of_length-le empty {i = 66} (omega (arith, long)) in
    rw (line_is, n_is, w_is, cycles_is, none) refl

-- and the letter in front of them
pub head_line : (h : Head) (line : List ℕ) (at : ℕ) → 2 ≤ at → at ≤ length line
    → drop at line ≡ decimal h.line ++ 32 ∷ (decimal h.n ++ 32 ∷ (decimal h.w ++ 32 ∷ (decimal h.cycles ++ 10 ∷ [])))
    → drop (at - 2) (set (set line (at - 1) 32) (at - 2) 115) ≡ head_text h
head_line h line at low within numbers =
    let one : at - 2 + 1 ≡ at - 1 = omega (arith, low) in
    let two : at - 1 + 1 ≡ at = omega (arith, low) in
    let long = length-set line (at - 1) 32 in
    drop-set (set line (at - 1) 32) (at - 2) 115 (omega (arith, long, low, within))
    ∙ ap (λ (k : ℕ). 115 ∷ drop k (set line (at - 1) 32)) one
    ∙ ap (λ (xs : List ℕ). 115 ∷ xs) (drop-set line (at - 1) 32 (omega (arith, low, within)) ∙ ap (λ (k : ℕ). 32 ∷ drop k line) two ∙ ap (λ (xs : List ℕ). 32 ∷ xs) numbers)
    ∙ head_whole h

-- ---- a number behind what stands before

pub number_behind : (o m w digits shown : List ℕ) (end : ℕ) → m ≡ o ++ shown → shown ≡ digits → w ≡ m ++ end ∷ [] → w ≡ o ++ (digits ++ end ∷ [])
number_behind o m w digits shown end em es ew = rw (ew, em, es) (append_assoc o digits (end ∷ []))

pub named_behind : (o m w name digits : List ℕ) (end : ℕ) → m ≡ o ++ name → w ≡ m ++ (digits ++ end ∷ []) → w ≡ o ++ ((name ++ digits) ++ end ∷ [])
named_behind o m w name digits end em ew =
    rw (ew, em) (append_assoc o name (digits ++ end ∷ []) ∙ ap (λ (xs : List ℕ). o ++ xs) (sym (append_assoc name digits (end ∷ []))))

-- ---- so many equal events

pub run_behind : (o m w x : List ℕ) (n : ℕ) (b : Bits) → m ≡ o ++ codes "R " → w ≡ m ++ (decimal n ++ 32 ∷ []) → x ≡ w ++ event_text b → x ≡ o ++ run_text n b
unfolding run_text
run_behind o m w x n b name number event = rw (event, number, name) (simp append_assoc)

-- a digit and a blank behind what stands before
pub digit_behind : (o m w : List ℕ) (n digit : ℕ) → n < 10 → digit ≡ 48 + n → m ≡ o ++ digit ∷ [] → w ≡ m ++ 32 ∷ [] → w ≡ o ++ (decimal n ++ 32 ∷ [])
digit_behind o m w n digit small is first second = rw (second, first, is, decimal_digit n small) (append_assoc o ((48 + n) ∷ []) (32 ∷ []))
