-- Lines of a text, and those that are sent.
use Rattle.std.proofs.Common.{◌≡◌, ℕ, ◌+◌, ◌≤◌, Bool, true, false, not, cond, ◌||◌, List, [], ◌∷◌, ◌++◌, length, map, nat_eq, nat_lt, refl, sym, ap, ◌∙◌, arith, append-nil, append_assoc, length-append}
use Rattle.std.specs.List.{AllByRecursion, list_any, take_while}
use Rattle.std.proofs.lemmas.List.Sums.{take_while-cons}
use Rattle.std.proofs.lemmas.List.Folds.{list_any-append}
use Rattle.run_rules.specs.Lines.{CutsInto, HasNoLf, ended, lines_of, whole_lines, onto_line, onto_first}
use Rattle.run_rules.proofs.Cutting.{lines_on, wholes_on, lines_are, some_bytes}
use Rattle.host_journal.specs.declared.Reading.{Reading}
use Rattle.host_journal.specs.declared.Reading.TheVariants.{Ended, Failed, Large, Stopped}
use Rattle.host_journal.specs.Links.{on_link}
use Rattle.host_journal.specs.Jobs.{sent_text, ends_sending, is_sent, lines_read, lines_to_send}
use Rattle.stream_host.proofs.Links.{all_no_lf, few_sent}
use Rattle.stream_host.proofs.Texts.{none_long, long_on}

abbrev pub IsSendable : List ℕ → Type 0
IsSendable line = ends_sending line ≡ false

-- ---- one line

pub none_ends : ends_sending [] ≡ false
none_ends = none_long

-- neither of two holds
pub neither : (a b : Bool) → (a || b) ≡ false → (a ≡ false) × (b ≡ false)
neither true b h = absurd cc
neither false b h = (refl, h)

pub ends_on : (raw more : List ℕ) → ends_sending raw ≡ true → ends_sending (raw ++ more) ≡ true
ends_on raw more h = long_on raw more h

-- ---- lists of lines

abbrev pub sent_front : List (List ℕ) → List (List ℕ)
sent_front lines = take_while is_sent lines

pub front_first : (l : List ℕ) (ls : List (List ℕ)) → IsSendable l → sent_front (l ∷ ls) ≡ l ∷ sent_front ls
front_first l ls h = take_while-cons is_sent l ls ∙ ap (λ b. cond (not b) (l ∷ sent_front ls) []) h

pub front_ends : (l : List ℕ) (ls : List (List ℕ)) → ends_sending l ≡ true → sent_front (l ∷ ls) ≡ []
front_ends l ls h = take_while-cons is_sent l ls ∙ ap (λ b. cond (not b) (l ∷ sent_front ls) []) h

pub front_on : (lines more : List (List ℕ)) → AllByRecursion IsSendable lines → sent_front (lines ++ more) ≡ lines ++ sent_front more
front_on [] more h = refl
front_on (l ∷ ls) more h = front_first l (ls ++ more) h.0 ∙ ap (λ (r : List (List ℕ)). l ∷ r) (front_on ls more h.1)

pub none_any : (p : List ℕ → Bool) (lines : List (List ℕ)) → AllByRecursion (λ l. p l ≡ false) lines → list_any p lines ≡ false
none_any p [] h = refl
none_any p (l ∷ ls) h = rw h.0 (none_any p ls h.1)

-- ---- a text that begins with lines

pub read_on : (r : Reading) (lines : List (List ℕ)) (xs : List ℕ) → AllByRecursion HasNoLf lines → lines_read r (ended lines ++ xs) ≡ lines ++ lines_read r xs
read_on Ended lines xs h = lines_on lines xs h
read_on Failed lines xs h = wholes_on lines xs h
read_on Large lines xs h = wholes_on lines xs h
read_on Stopped lines xs h = wholes_on lines xs h

-- what is sent of a text whose front is cut into lines that are sent
pub sends_on : (r : Reading) (text : List ℕ) (lines : List (List ℕ)) (raw left : List ℕ) → CutsInto text lines raw → AllByRecursion IsSendable lines
    → lines_to_send r (text ++ left) ≡ lines ++ lines_to_send r (raw ++ left)
sends_on r text lines raw left is short =
    ap (λ (t : List ℕ). lines_to_send r (t ++ left)) is.whole
    ∙ ap (lines_to_send r) (append_assoc (ended lines) raw left)
    ∙ ap sent_front (read_on r lines (raw ++ left) is.each)
    ∙ front_on lines (lines_read r (raw ++ left)) short

-- where the sending ends in no line, all are sent
pub all_are_sent : (r : Reading) (job : List ℕ) → AllByRecursion IsSendable (lines_read r job) → lines_to_send r job ≡ lines_read r job
all_are_sent r job all = ap sent_front (sym (append-nil (lines_read r job))) ∙ front_on (lines_read r job) [] all ∙ append-nil (lines_read r job)

-- lines come back from the link as what is sent of them
pub lines_back : (lines : List (List ℕ)) → whole_lines (on_link lines) ≡ map sent_text lines
lines_back lines = ap whole_lines (sym (append-nil (on_link lines))) ∙ wholes_on (map sent_text lines) [] (all_no_lf lines) ∙ append-nil (map sent_text lines)

-- ---- a line in which the sending ends

-- the first line of a text that begins with this front
pub data Starts (raw : List ℕ) (lines : List (List ℕ)) : Type 0 where
  no_line : lines ≡ [] → Starts raw lines
  a_line : (more : List ℕ) (rest : List (List ℕ)) → lines ≡ (raw ++ more) ∷ rest → Starts raw lines

whole_starts : (raw left : List ℕ) → HasNoLf raw → Starts raw (whole_lines (raw ++ left))
whole_starts [] left h = by_lines (whole_lines left) refl
  where
    by_lines : (ls : List (List ℕ)) → whole_lines left ≡ ls → Starts [] (whole_lines left)
    by_lines [] e = no_line e
    by_lines (l ∷ ls) e = a_line l ls e
whole_starts (c ∷ cs) left h = by_starts (whole_lines (cs ++ left)) (whole_starts cs left h.1)
  where
    by_starts : (ls : List (List ℕ)) → Starts cs ls → Starts (c ∷ cs) (cond (nat_eq c 10) ([] ∷ ls) (onto_line c ls))
    by_starts ls (no_line e) = no_line (rw (h.0, e) refl)
    by_starts ls (a_line more rest e) = a_line more rest (rw (h.0, e) refl)

record FirstLine (raw : List ℕ) (lines : List (List ℕ)) : Type 0 where
  more : List ℕ
  rest : List (List ℕ)
  is : lines ≡ (raw ++ more) ∷ rest

first_line : (c : ℕ) (cs left : List ℕ) → HasNoLf (c ∷ cs) → FirstLine (c ∷ cs) (lines_of ((c ∷ cs) ++ left))
first_line c [] left h = by_lines (lines_of left)
  where
    by_lines : (ls : List (List ℕ)) → FirstLine (c ∷ []) (cond (nat_eq c 10) ([] ∷ ls) (onto_first c ls))
    by_lines [] = record { more = []; rest = []; is = rw h.0 refl }
    by_lines (l ∷ ls) = record { more = l; rest = ls; is = rw h.0 refl }
first_line c (d ∷ ds) left h =
    let f = first_line d ds left h.1 in
    record { more = f.more; rest = f.rest; is = rw h.0 (ap (onto_first c) f.is) }

lines_start : (raw left : List ℕ) → HasNoLf raw → Starts raw (lines_of (raw ++ left))
lines_start [] left h = by_lines (lines_of left) refl
  where
    by_lines : (ls : List (List ℕ)) → lines_of left ≡ ls → Starts [] (lines_of left)
    by_lines [] e = no_line e
    by_lines (l ∷ ls) e = a_line l ls e
lines_start (c ∷ cs) left h = let f = first_line c cs left h in a_line f.more f.rest f.is

none_behind : (raw : List ℕ) (lines : List (List ℕ)) → ends_sending raw ≡ true → Starts raw lines → sent_front lines ≡ []
none_behind raw lines h (no_line e) = ap sent_front e
none_behind raw lines h (a_line more rest e) = ap sent_front e ∙ front_ends (raw ++ more) rest (ends_on raw more h)

pub read_starts : (r : Reading) (raw left : List ℕ) → HasNoLf raw → Starts raw (lines_read r (raw ++ left))
read_starts Ended raw left h = lines_start raw left h
read_starts Failed raw left h = whole_starts raw left h
read_starts Large raw left h = whole_starts raw left h
read_starts Stopped raw left h = whole_starts raw left h

pub sends_none : (r : Reading) (raw left : List ℕ) → HasNoLf raw → ends_sending raw ≡ true → lines_to_send r (raw ++ left) ≡ []
sends_none r raw left none h = none_behind raw (lines_read r (raw ++ left)) h (read_starts r raw left none)

pub no_whole : (xs : List ℕ) → HasNoLf xs → whole_lines xs ≡ []
no_whole [] h = refl
no_whole (c ∷ cs) h = rw h.0 (ap (onto_line c) (no_whole cs h.1))

-- ---- whether a line of a text passes a test

-- a test that no line of a text passes which LF ends is passed in it just where the rest passes
pub any_is : (p : List ℕ → Bool) → p [] ≡ false → (text : List ℕ) (lines : List (List ℕ)) (raw : List ℕ) → CutsInto text lines raw → AllByRecursion (λ l. p l ≡ false) lines → list_any p (lines_of text) ≡ p raw
any_is p none text lines raw is all =
    ap (list_any p) (lines_are text lines raw is)
    ∙ list_any-append p lines (cond (nat_lt 0 (length raw)) (raw ∷ []) [])
    ∙ ap (λ b. b || list_any p (cond (nat_lt 0 (length raw)) (raw ∷ []) [])) (none_any p lines all)
    ∙ last_is raw
  where
    or_none : (b : Bool) → (b || false) ≡ b
    or_none true = refl
    or_none false = refl

    last_is : (raw : List ℕ) → list_any p (cond (nat_lt 0 (length raw)) (raw ∷ []) []) ≡ p raw
    last_is [] = sym none
    last_is (c ∷ cs) = ap (λ b. list_any p (cond b ((c ∷ cs) ∷ []) [])) (some_bytes c cs) ∙ or_none (p (c ∷ cs))

-- ---- how many

few_lines : (text : List ℕ) → length (lines_of text) ≤ length text
few_lines [] = omega arith
few_lines (c ∷ cs) = by_test (nat_eq c 10) (lines_of cs) (few_lines cs)
  where
    by_test : (t : Bool) (ls : List (List ℕ)) → length ls ≤ length cs → length (cond t ([] ∷ ls) (onto_first c ls)) ≤ length (c ∷ cs)
    by_test true ls h = omega arith
    by_test false [] h = omega arith
    by_test false (l ∷ ls) h = omega arith

few_ended : (text : List ℕ) → length (ended (lines_of text)) ≤ length text + 1
few_ended [] = omega arith
few_ended (c ∷ cs) = by_test (nat_eq c 10) (lines_of cs) (few_ended cs)
  where
    by_test : (t : Bool) (ls : List (List ℕ)) → length (ended ls) ≤ length cs + 1 → length (ended (cond t ([] ∷ ls) (onto_first c ls))) ≤ length (c ∷ cs) + 1
    by_test true ls h = omega arith
    by_test false [] h = omega arith
    by_test false (l ∷ ls) h = omega arith

few_linked : (lines : List (List ℕ)) → length (on_link lines) ≤ length (ended lines)
few_linked [] = omega arith
few_linked (l ∷ ls) =
    let m = few_linked ls in let p = few_sent l in
    let a = length-append (sent_text l ++ 10 ∷ []) (on_link ls) in let b = length-append (l ++ 10 ∷ []) (ended ls) in
    let c = length-append (sent_text l) (10 ∷ []) in let d = length-append l (10 ∷ []) in
    omega arith

-- the lines of a text are at most as many as its bytes, and take one byte more on the link at most
pub few_cut : (text : List ℕ) (lines : List (List ℕ)) → lines_of text ≡ lines → (length lines ≤ length text) × (length (on_link lines) ≤ length text + 1)
few_cut text lines e = (
  let f = few_lines text in let l = ap length e in omega arith,
  let f = few_ended text in let l = ap (λ (ls : List (List ℕ)). length (ended ls)) e in let m = few_linked lines in omega arith,
)

pub few_whole : (text : List ℕ) (lines : List (List ℕ)) (raw : List ℕ) → CutsInto text lines raw → (length lines ≤ length text) × (length (on_link lines) ≤ length text + 1)
few_whole text lines raw is =
    let l : length text ≡ length (ended lines) + length raw = ap length is.whole ∙ length-append (ended lines) raw in
    (let m = few_ends lines in omega arith, let m = few_linked lines in omega arith)
  where
    few_ends : (lines : List (List ℕ)) → length lines ≤ length (ended lines)
    few_ends [] = omega arith
    few_ends (l ∷ ls) = let m = few_ends ls in let a = length-append (l ++ 10 ∷ []) (ended ls) in let b = length-append l (10 ∷ []) in omega arith
