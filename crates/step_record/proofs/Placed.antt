-- A line of either form that is read is one that was written, and back.
use Rattle.std.specs.Prelude.{codes, decimal}
use Rattle.std.proofs.Common.{◌≡◌, ℕ, zero, suc, ◌^◌, ◌+◌, ◌-◌, ◌/◌, ◌%◌, ◌<◌, ◌≤◌, Bool, true, false, cond, pos, lit<, All, List, [], ◌∷◌, ◌++◌, length, replicate, drop, Some, None, refl, sym, ap, subst, ◌∙◌, append_assoc, nat_lt, nat_eq, arith, inl, inr}
use Rattle.std.specs.List.{flat_map, AllByRecursion}
use Rattle.std.proofs.Math.Nat.{mod-lt}
use Rattle.std.proofs.lemmas.Bool.{cases_lt, ltb-true, lt-ltb}
use Rattle.std.proofs.lemmas.Bool.Decides.{nat_tests}
use Rattle.std.proofs.lemmas.List.Elements.{All-append, All-cons, All-nil, All-replicate, recursion_from_All}
use Rattle.std.proofs.lemmas.List.{append_cancel_left, nil_from_length, append-nil, length-append, length-drop, drop-drop, drop_at}
use Rattle.std.proofs.lemmas.List.Concat.{flat_map-cons}
use Rattle.std.proofs.lemmas.Fmt.{decimal_digit}
use Rattle.std.proofs.lemmas.Option.{cond_some, some_pair_parts, none-some}
use Rattle.step_line.specs.declared.Bits.{Bits}
use Rattle.step_line.specs.declared.Record.{Record}
use Rattle.step_line.specs.declared.Record.TheVariants as kinds
use Rattle.step_line.specs.Events.{IsEvent}
use Rattle.step_line.specs.Records.{IsRecord}
use Rattle.step_record.specs.declared.forms.Form.TheVariants.{One, Two}
use Rattle.step_record.specs.declared.forms.Line.{Line}
use Rattle.step_record.specs.declared.forms.Line.TheVariants as lines
use Rattle.step_record.specs.Texts.{event_text, head_text, record_text}
use Rattle.step_record.specs.Forms.{Run, full_run, run_text, line_text, IsLine, StandsFrom, records_of, stand_together, in_front, runs, lines_of_few, lines_by, lines_of_run, lines_of, text_in}
use Rattle.step_record.specs.Reading.{Read, ◌>>=◌, behind_name, short_number_at, event_at, axis_at, head_at, mark_at, dwell_at, turn_at, plain_at, cut_at, reset_at, record_at, run_at, version_line, version_at, as_line, line_at}
use Rattle.step_record.proofs.Fields.{bound, after_takes, short_takes, short_again}
use Rattle.step_record.proofs.Events.{event_takes, event_again}
use Rattle.step_record.proofs.Lines.{either, record_takes, record_again}
use Rattle.step_record.proofs.Runs.{stand_for}

-- a line that is read from the front of a text at a place
abbrev pub IsLineAt : List ℕ → ℕ → Line → List ℕ → Type 0
IsLineAt text at l rest = (text ≡ line_text l ++ rest) × IsLine l at

run_joined : (n : ℕ) (b : Bits) (text t1 t2 rest : List ℕ) → text ≡ codes "R " ++ t1 → t1 ≡ decimal n ++ 32 ∷ t2 → t2 ≡ event_text b ++ rest → text ≡ run_text n b ++ rest
unfolding run_text
run_joined n b text t1 t2 rest name number event = rw (name, number, event) (simp append_assoc)

run_takes : (text : List ℕ) (at : ℕ) (l : Line) (rest : List ℕ) → run_at text ≡ Some (l, rest) → IsLineAt text at l rest
unfolding run_at
run_takes text at l rest e =
    let name = bound (behind_name (codes "R ") text) (λ t. short_number_at t 32 >>= λ n. event_at n.1 >>= λ event. cond (nat_lt 1 n.0) (Some (lines.Run n.0 event.0, event.1)) None) (l, rest) e in
    let n = bound (short_number_at name.0 32) (λ n. event_at n.1 >>= λ event. cond (nat_lt 1 n.0) (Some (lines.Run n.0 event.0, event.1)) None) (l, rest) name.2 in
    let event = bound (event_at n.0.1) (λ event. cond (nat_lt 1 n.0.0) (Some (lines.Run n.0.0 event.0, event.1)) None) (l, rest) n.2 in
    let some = cond_some (nat_lt 1 n.0.0) (lines.Run n.0.0 event.0.0, event.0.1) (l, rest) event.2 in
    let n-takes = short_takes name.0 32 n.0.0 n.0.1 n.1 in
    let event-takes = event_takes n.0.1 event.0.0 event.0.1 event.1 in
    let many : 1 < n.0.0 = ltb-true _ _ some.0 in
    subst (λ (r : Line × List ℕ). IsLineAt text at r.0 r.1) {x = (lines.Run n.0.0 event.0.0, event.0.1)} some.1 (
      run_joined n.0.0 event.0.0 text name.0 n.0.1 event.0.1 (after_takes (codes "R ") text name.0 name.1) n-takes.0 event-takes.0,
      (omega arith, at_most n.0.0 n-takes.1, event-takes.1),
    )
  where
    at_most : (n : ℕ) → n < 2 ^ 32 → n ≤ full_run
    at_most n small = omega arith

run_again : (n : ℕ) (b : Bits) (rest : List ℕ) → 2 ≤ n → n ≤ full_run → IsEvent b → run_at (run_text n b ++ rest) ≡ Some (lines.Run n b, rest)
unfolding run_at
run_again n b rest many room is =
    let t2 = event_text b ++ rest in
    let t1 = decimal n ++ 32 ∷ t2 in
    let whole : run_text n b ++ rest ≡ codes "R " ++ t1 = sym (run_joined n b (codes "R " ++ t1) t1 t2 rest refl refl refl) in
    let small : n < 2 ^ 32 = omega arith in
    let two : 1 < n = omega arith in
    ap run_at whole ∙ rw (short_again n 32 t2 small refl, event_again b rest is, lt-ltb 1 n two) refl

version_takes : (text : List ℕ) (at : ℕ) (l : Line) (rest : List ℕ) → version_at text at ≡ Some (l, rest) → IsLineAt text at l rest
unfolding version_at
version_takes text at l rest e = by_test (nat_eq at 0) refl e
  where
    by_test : (t : Bool) → nat_eq at 0 ≡ t → cond t (version_line text) None ≡ Some (l, rest) → IsLineAt text at l rest
    by_test true first e =
        let behind = bound (behind_name (codes "V 2\n") text) (λ t. Some (lines.Version, t)) (l, rest) e in
        let parts = some_pair_parts lines.Version l behind.0 rest behind.2 in
        let place : at ≡ 0 = grind (arith, nat_tests) in
        subst (λ (t : List ℕ). IsLineAt text at l t) parts.1 (subst (λ (k : Line). IsLineAt text at k behind.0) parts.0 (after_takes (codes "V 2\n") text behind.0 behind.1, place))
    by_test false first e = absurd cc

line_of_record : (o : Read Record) (text : List ℕ) (at : ℕ) (l : Line) (rest : List ℕ) → ((r : Record) (t : List ℕ) → o ≡ Some (r, t) → IsLineAt text at (lines.One r) t)
    → as_line o ≡ Some (l, rest) → IsLineAt text at l rest
line_of_record None text at l rest takes e = absurd cc
line_of_record (Some x) text at l rest takes e =
    let parts = some_pair_parts (lines.One x.0) l x.1 rest e in
    subst (λ (t : List ℕ). IsLineAt text at l t) parts.1 (subst (λ (k : Line). IsLineAt text at k x.1) parts.0 (takes x.0 x.1 refl))

pub line_takes : (text : List ℕ) (at : ℕ) (l : Line) (rest : List ℕ) → line_at text at ≡ Some (l, rest) → IsLineAt text at l rest
unfolding line_at
line_takes text at l rest =
    either _ _ (l, rest)
    (either _ _ (l, rest)
    (line_of_record (record_at text) text at l rest (record_takes text))
    (run_takes text at l rest))
    (version_takes text at l rest)

no_record_run : (n : ℕ) (b : Bits) (rest : List ℕ) → record_at (run_text n b ++ rest) ≡ None
unfolding run_text record_at event_at axis_at head_at mark_at dwell_at turn_at plain_at cut_at reset_at
no_record_run n b rest = refl

no_record_version : (rest : List ℕ) → record_at (codes "V 2\n" ++ rest) ≡ None
unfolding record_at event_at axis_at head_at mark_at dwell_at turn_at plain_at cut_at reset_at
no_record_version rest = refl

no_run_version : (rest : List ℕ) → run_at (codes "V 2\n" ++ rest) ≡ None
unfolding run_at
no_run_version rest = refl

version_again : (at : ℕ) (rest : List ℕ) → at ≡ 0 → version_at (codes "V 2\n" ++ rest) at ≡ Some (lines.Version, rest)
unfolding version_at
version_again at rest first = rw first refl

pub line_again : (l : Line) (at : ℕ) (rest : List ℕ) → IsLine l at → line_at (line_text l ++ rest) at ≡ Some (l, rest)
unfolding line_at
line_again (lines.One r) at rest is = rw (record_again r rest is) refl
line_again (lines.Run n b) at rest is = rw (no_record_run n b rest, run_again n b rest is.0 is.1 is.2) refl
line_again lines.Version at rest is = rw (no_record_version rest, no_run_version rest, version_again at rest is) refl

-- ---- one reading

none_at_end : (at : ℕ) → line_at [] at ≡ None
unfolding line_at record_at event_at axis_at head_at mark_at dwell_at turn_at plain_at cut_at reset_at run_at version_at
none_at_end at = by_test (nat_eq at 0)
  where
    none : Read Line
    none = None

    by_test : (t : Bool) → cond t none none ≡ none
    by_test true = refl
    by_test false = refl

pub first_line : (l m : Line) (at : ℕ) (x y : List ℕ) → IsLine l at → IsLine m at → line_text l ++ x ≡ line_text m ++ y → (l ≡ m) × (x ≡ y)
first_line l m at x y l-is m-is e = some_pair_parts l m x y (sym (line_again l at x l-is) ∙ ap (λ (t : List ℕ). line_at t at) e ∙ line_again m at y m-is)

no_line : (l : Line) (at : ℕ) (x : List ℕ) → IsLine l at → line_text l ++ x ≡ [] → ⊥
no_line l at x is e = none-some (l, x) (sym (none_at_end at) ∙ ap (λ (t : List ℕ). line_at t at) (sym e) ∙ line_again l at x is)

pub line_some : (l : Line) (at : ℕ) → IsLine l at → 0 < length (line_text l)
line_some l at is =
    elim (cases_lt 0 (length (line_text l))) [
      | inl some ↦ some
      | inr none ↦ absurd (no_line l at [] is (append-nil (line_text l) ∙ nil_from_length (line_text l) (omega arith)))
    ]

-- ---- lines that begin at a place of a text

line_len : (text rest : List ℕ) (at : ℕ) (l : Line) → at ≤ length text → drop at text ≡ line_text l ++ rest → at + length (line_text l) + length rest ≡ length text
line_len text rest at l within line = omega (arith, length-drop at text, simp length-append at (ap length line))

-- a line that is read stands from its place to the place behind it
pub stands_from : (text rest : List ℕ) (at : ℕ) (l : Line) → at ≤ length text → line_at (drop at text) at ≡ Some (l, rest) → StandsFrom l text at (length text - length rest)
stands_from text rest at l within e =
    let takes = line_takes (drop at text) at l rest e in
    let len = line_len text rest at l within takes.0 in
    let place : length text - length rest ≡ at + length (line_text l) = omega arith in
    let behind : drop (length text - length rest) text ≡ rest =
    ap (λ (k : ℕ). drop k text) place ∙ sym (drop-drop (length (line_text l)) at text)
    ∙ ap (drop (length (line_text l))) takes.0 ∙ drop_at (line_text l) rest (length (line_text l)) refl in
    record { is = takes.1; line = takes.0 ∙ ap (λ (t : List ℕ). line_text l ++ t) (sym behind); place = place }

pub place_behind_line : (text rest : List ℕ) (at : ℕ) (l : Line) → at ≤ length text → line_at (drop at text) at ≡ Some (l, rest)
    → (length rest ≤ length text) × (at < length text - length rest) × (length text - length rest ≤ length text)
place_behind_line text rest at l within e =
    let takes = line_takes (drop at text) at l rest e in
    let len = line_len text rest at l within takes.0 in
    let some = line_some l at takes.1 in
    (omega arith, omega arith, omega arith)

-- each line that begins there is the one that is read
pub same_line_at : (text rest t : List ℕ) (at : ℕ) (l m : Line) → at ≤ length text → line_at (drop at text) at ≡ Some (l, rest) → IsLine m at → drop at text ≡ line_text m ++ t
    → (l ≡ m) × (length text - length rest ≡ at + length (line_text m))
same_line_at text rest t at l m within e is line =
    let same = some_pair_parts l m rest t (sym e ∙ ap (λ (s : List ℕ). line_at s at) line ∙ line_again m at t is) in
    let len = line_len text t at m within line in
    (same.0, omega (arith, ap length same.1))

-- and none is where none is read
pub no_line_at : (text t : List ℕ) (at : ℕ) (l : Line) → line_at (drop at text) at ≡ None → IsLine l at → drop at text ≡ line_text l ++ t → ⊥
no_line_at text t at l e is line = none-some (l, t) (sym e ∙ ap (λ (s : List ℕ). line_at s at) line ∙ line_again l at t is)

pub no_line_at_end : (text t : List ℕ) (at : ℕ) (l : Line) → length (drop at text) ≡ 0 → IsLine l at → drop at text ≡ line_text l ++ t → ⊥
no_line_at_end text t at l empty is line = no_line l at t is (sym line ∙ nil_from_length (drop at text) empty)

-- ---- texts of form 2

-- the lines of one run
few_are_lines : (n at : ℕ) (b : Bits) → n ≤ full_run → IsEvent b → All (λ l. IsLine l at) (lines_of_few n b)
few_are_lines zero at b room is = All-nil (λ l. IsLine l at)
few_are_lines (suc zero) at b room is = All-cons (λ l. IsLine l at) (lines.One (kinds.Event b)) [] is (All-nil (λ l. IsLine l at))
few_are_lines (suc (suc n)) at b room is = All-cons (λ l. IsLine l at) (lines.Run (suc (suc n)) b) [] (omega arith, room, is) (All-nil (λ l. IsLine l at))

run_is_lines : (n at : ℕ) (r : Record) → IsRecord r → All (λ l. IsLine l at) (lines_by n r)
run_is_lines n at (kinds.Head h) is = All-cons (λ l. IsLine l at) (lines.One (kinds.Head h)) [] is (All-nil (λ l. IsLine l at))
run_is_lines n at (kinds.Event b) is =
    let small : n % full_run < full_run = mod-lt n {m = full_run} (omega arith) in
    let room : n % full_run ≤ full_run = omega (arith, small) in
    let full : IsLine (lines.Run full_run b) at = (omega arith, omega arith, is) in
    All-append (λ l. IsLine l at) (replicate (n / full_run) (lines.Run full_run b)) (lines_of_few (n % full_run) b)
    (All-replicate (λ l. IsLine l at) (n / full_run) (lines.Run full_run b) full) (few_are_lines (n % full_run) at b room is)
run_is_lines n at (kinds.Mark m) is = All-cons (λ l. IsLine l at) (lines.One (kinds.Mark m)) [] is (All-nil (λ l. IsLine l at))
run_is_lines n at kinds.End is = All-cons (λ l. IsLine l at) (lines.One kinds.End) [] is (All-nil (λ l. IsLine l at))

abbrev AreRuns : List Run → Type 0
AreRuns [] = Unit {0}
AreRuns (run ∷ later) = IsRecord run.of × AreRuns later

more_runs : (r : Record) (all : List Run) → IsRecord r → AreRuns all → AreRuns (in_front r all)
more_runs r [] is are = (is, tt)
more_runs r (first ∷ later) is are = by_test (stand_together r first.of)
  where
    by_test : (t : Bool) → AreRuns (cond t (record { count = first.count + 1; of = r } ∷ later) (record { count = 1; of = r } ∷ first ∷ later))
    by_test true = (is, are.1)
    by_test false = (is, are)

are_runs : (rs : List Record) → AllByRecursion IsRecord rs → AreRuns (runs rs)
unfolding runs
are_runs [] each = tt
are_runs (r ∷ rs) each = more_runs r (runs rs) each.0 (are_runs rs each.1)

runs_are_lines : (at : ℕ) (all : List Run) → AreRuns all → All (λ l. IsLine l at) (flat_map lines_of_run all)
runs_are_lines at [] are = All-nil (λ l. IsLine l at)
runs_are_lines at (run ∷ later) are =
    rw (flat_map-cons lines_of_run run later)
    (All-append (λ l. IsLine l at) (lines_of_run run) (flat_map lines_of_run later) (run_is_lines run.count at run.of are.0) (runs_are_lines at later are.1))

pub are_lines : (rs : List Record) (at : ℕ) → All IsRecord rs → All (λ l. IsLine l at) (lines_of rs)
unfolding lines_of
are_lines rs at each = runs_are_lines at (runs rs) (are_runs rs (recursion_from_All IsRecord rs each))

lines_one : (ls ms : List Line) → AllByRecursion (λ l. IsLine l 1) ls → AllByRecursion (λ l. IsLine l 1) ms → flat_map line_text ls ≡ flat_map line_text ms → ls ≡ ms
lines_one [] [] l-is m-is e = refl
lines_one [] (m ∷ ms) l-is m-is e = absurd (no_line m 1 (flat_map line_text ms) m-is.0 (sym (e ∙ flat_map-cons line_text m ms)))
lines_one (l ∷ ls) [] l-is m-is e = absurd (no_line l 1 (flat_map line_text ls) l-is.0 (sym (flat_map-cons line_text l ls) ∙ e))
lines_one (l ∷ ls) (m ∷ ms) l-is m-is e =
    let parts = first_line l m 1 (flat_map line_text ls) (flat_map line_text ms) l-is.0 m-is.0 (sym (flat_map-cons line_text l ls) ∙ e ∙ flat_map-cons line_text m ms) in
    let others = lines_one ls ms l-is.1 m-is.1 parts.1 in
    ap (λ (x : Line). x ∷ ls) parts.0 ∙ ap (λ (xs : List Line). m ∷ xs) others

-- a text of form 2 is that of at most one list of records
pub one_text_two : (rs ss : List Record) → All IsRecord rs → All IsRecord ss → text_in Two rs ≡ text_in Two ss → rs ≡ ss
one_text_two rs ss r-is s-is e =
    let same = append_cancel_left (codes "V 2\n") (flat_map line_text (lines_of rs)) (flat_map line_text (lines_of ss)) e in
    let lines = lines_one (lines_of rs) (lines_of ss) (recursion_from_All (λ l. IsLine l 1) (lines_of rs) (are_lines rs 1 r-is)) (recursion_from_All (λ l. IsLine l 1) (lines_of ss) (are_lines ss 1 s-is)) same in
    sym (stand_for rs) ∙ ap (flat_map records_of) lines ∙ stand_for ss

-- and no text of form 1
pub forms_apart : (rs ss : List Record) → All IsRecord rs → text_in One rs ≡ text_in Two ss → ⊥
forms_apart rs ss each = by_first rs (recursion_from_All IsRecord rs each)
  where
    rest : List ℕ
    rest = flat_map line_text (lines_of ss)

    by_first : (all : List Record) → AllByRecursion IsRecord all → flat_map record_text all ≡ codes "V 2\n" ++ rest → ⊥
    by_first [] is e = absurd cc
    by_first (r ∷ more) is e =
        none-some (r, flat_map record_text more)
        (sym (no_record_version rest) ∙ ap record_at (sym e ∙ flat_map-cons record_text r more) ∙ record_again r (flat_map record_text more) is.0)

-- ---- a worked text

abbrev step : Record
step = kinds.Event (record { x = pos 1; y = pos 0; z = pos 0 })

pub worked : text_in Two (kinds.Head (record { line = 1; n = 3; w = 0; cycles = 5 }) ∷ step ∷ step ∷ step ∷ kinds.End ∷ []) ≡ codes "V 2\ns 1 3 0 5\nR 3 X+\nE\n"
unfolding lines_of runs run_text head_text event_text
worked = rw (decimal_digit 1 (lit< tt), decimal_digit 3 (lit< tt), decimal_digit 0 (lit< tt), decimal_digit 5 (lit< tt)) refl
