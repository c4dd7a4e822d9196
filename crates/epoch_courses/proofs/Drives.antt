-- Part by part, what the course asks for is what the planner was given.
use Rattle.std.proofs.Common.{◌≡◌, ℕ, Bool, true, false, ◌||◌, List, [], ◌∷◌, ◌++◌, map, reverse, refl, sym, ap, ◌∙◌, subst, append_assoc, append-nil, cond, not, ◌≤◌}
use Rattle.std.proofs.lemmas.List.{map-append, reverse-append}
use Rattle.std.proofs.lemmas.List.Folds.{list_any-append}
use Rattle.std.specs.List.{flat_map, list_any}
use Rattle.flight.specs.Places.{end_from, moved_by}
use Rattle.flight.proofs.Places.{moved_both}
use Rattle.planner_runs.specs.Runs.{Plans, IsStart, IsAtRest, NeverClears, fresh_plan, all_asked, ticks_left}
use Rattle.planner_runs.proofs.Legal.{heads_are_legal, closed_heads_are_legal}
use Rattle.planner_runs.proofs.Runs.{keeps_on, grows_by_reset}
use Rattle.run_rules.specs.Cuts.{LosesJogsAlone}
use Rattle.run_rules.specs.Outcomes.{either}
use Rattle.run_rules.specs.Reports.{raises_alarm}
use Rattle.run_rules.specs.Told.{asked_in}
use Rattle.run_rules.specs.Work.{Outcome, asks, is_limit}
use Rattle.run_texts.specs.Courses.{Passed, Reset}
use Rattle.run_texts.specs.Courses.Passed.{a_line, a_broken, a_cut, a_reset}
use Rattle.run_texts.specs.Parts.{Ending, Part, parts_of, onto_first, lines_counted}
use Rattle.run_texts.specs.Parts.Ending.{by_cut, by_reset, by_end}
use Rattle.run_texts.specs.Recorded.{ticks_for_all}
use Rattle.step_line.specs.Asking.{ticks_of_all}
use Rattle.step_line.specs.Finishing.{ticks_together}
use Rattle.step_line.specs.Pieces.{ticks_of}
use Rattle.step_line.specs.declared.Mark.TheVariants as marks
use Rattle.step_line.specs.declared.Piece.{Piece}
use Rattle.step_line.specs.declared.Piece.TheVariants as pieces
use Rattle.units.specs.declared.Steps3.{Steps3}
use Rattle.board_rules.specs.Conduct.{Conducted, IsFinished}
use Rattle.board_rules.specs.Cuts.{part_outcomes, part_actions, part_given, part_start, part_plan, part_of}
use Rattle.board_rules.specs.Cuts.{parts_of as board_parts}
use Rattle.board_journal.specs.Openings.{Opening}
use Rattle.board_rules.specs.Parts.{Part as CutPart, DropsLast, IsAlarmedPart}
use Rattle.board_journal.specs.Steps.{known_of, Journal, given_of, left_of, has_limited}
use Rattle.board_journal.specs.Steps.Step.{at_port, began, did, made_end, cut}
use Rattle.board_rules.proofs.Alarms.{calm_plan, free_halted}
use Rattle.board_rules.proofs.Closing.{spent}
use Rattle.board_rules.proofs.Halts.{halted_part}
use Rattle.board_rules.proofs.Keeping.{never_clears}
use Rattle.board_rules.proofs.Numbers.{parts_are}
use Rattle.board_rules.proofs.Parting.{asked_is, open_part, part_ticks, last_part}
use Rattle.epoch_courses.specs.Course.{is_made, is_unanswered, passed_by}
use Rattle.epoch_courses.specs.Drives.{Driven, AreDriven, IsDrivenBy, EndsBy, IsTakenAway, IsOver, IsRunOut, GoesOn, is_pending, driven_by_cut, driven_since}
use Rattle.epoch_courses.proofs.Broken.{IsUncut, was_unanswered}
use Rattle.epoch_courses.proofs.Epoch.{less_known}
use Rattle.epoch_courses.proofs.Heads.{front_marked}
use Rattle.epoch_courses.proofs.Made.{AllMade, made_before_line, made_before_cut}

-- ---- the parts of a course

abbrev pub part : List Outcome → List Outcome → Ending → Part
part lines begun ending = record { lines = lines; begun = begun; ending = ending }

pub parts_cut : (os : List Outcome) (k : ℕ) (at : Steps3) (rest : List Passed) → parts_of (map a_line os ++ a_cut k at ∷ rest) ≡ part os [] (by_cut k at) ∷ parts_of rest
parts_cut [] k at rest = refl
parts_cut (o ∷ os) k at rest = ap (onto_first o) (parts_cut os k at rest)

pub parts_reset : (os : List Outcome) (r : Reset) (rest : List Passed) → parts_of (map a_line os ++ a_reset r ∷ rest) ≡ part os [] (by_reset r) ∷ parts_of rest
parts_reset [] r rest = refl
parts_reset (o ∷ os) r rest = ap (onto_first o) (parts_reset os r rest)

pub parts_end : (os : List Outcome) → parts_of (map a_line os ++ []) ≡ part os [] by_end ∷ []
parts_end [] = refl
parts_end (o ∷ os) = ap (onto_first o) (parts_end os)

pub parts_broken : (os : List Outcome) (o : Outcome) (r : Reset) (rest : List Passed) → parts_of (map a_line os ++ a_broken o ∷ a_reset r ∷ rest) ≡ part os (o ∷ []) (by_reset r) ∷ parts_of rest
parts_broken [] o r rest = refl
parts_broken (x ∷ os) o r rest = ap (onto_first x) (parts_broken os o r rest)

pub parts_broken_end : (os : List Outcome) (o : Outcome) → parts_of (map a_line os ++ a_broken o ∷ []) ≡ part os (o ∷ []) by_end ∷ []
parts_broken_end [] o = refl
parts_broken_end (x ∷ os) o = ap (onto_first x) (parts_broken_end os o)

-- ---- where a part begins

-- where the last cut was, or the epoch began
abbrev pub part_place : Opening → Journal → Steps3
part_place first [] = first.place
part_place first (cut k ∷ h) = end_from first.place (given_of h)
part_place first (_ ∷ h) = part_place first h

pieces_on : (place from : Steps3) (given part ps : List Piece) → end_from place given ≡ end_from from part → end_from place (given ++ ps) ≡ end_from from (part ++ ps)
pieces_on place from given part ps same = moved_both place given ps ∙ ap (λ (at : Steps3). moved_by at (flat_map ticks_of ps)) same ∙ sym (moved_both from part ps)

-- what was given since leads from there to where all pieces lead
pub part_leads : (first : Opening) (h : Journal) → end_from first.place (given_of h) ≡ end_from (part_place first h) (part_given h)
part_leads first [] = refl
part_leads first (did a ps ∷ h) = pieces_on first.place (part_place first h) (given_of h) (part_given h) ps (part_leads first h)
part_leads first (made_end ∷ h) = moved_both first.place (given_of h) (pieces.End ∷ []) ∙ part_leads first h
part_leads first (cut k ∷ h) = moved_both first.place (given_of h) (pieces.Mark (marks.Cut k) ∷ [])
part_leads first (_ ∷ h) = part_leads first h

-- ---- parts that are driven

-- What was done of the lines begun since the last cut: a planner run that may go on, or end.
pub record Runs (blocks : ℕ) (h : Journal) (d : Driven) : Type 0 where
  pub joined : d.start ≡ part_start h
  pub starts : IsStart d.start
  pub run : Plans blocks d.start d.actions d.given d.plan
  pub never : NeverClears d.actions
  pub asks : asked_in (part_outcomes h) ≡ all_asked d.actions ++ d.left
  pub ticks : ticks_for_all (part_outcomes h) ≡ flat_map ticks_of d.given ++ (ticks_left d.plan ++ ticks_of_all d.left)

pub runs_since : (first : Opening) (h : Journal) → Conducted first h → Runs first.blocks h (driven_since first h)
runs_since first h c =
    let run = open_part first h c in
    record { joined = refl; starts = run.starts; run = run.run; never = never_clears first h c; asks = asked_is first h c; ticks = part_ticks first h c }

-- and so was what was done before a cut
pub runs_cut : (first : Opening) (h : Journal) (k : ℕ) → Conducted first (cut k ∷ h) → Runs first.blocks h (driven_by_cut (part_of first k h))
runs_cut first h k c =
    let q = (parts_are first (cut k ∷ h) c).0 in
    record { joined = refl; starts = q.starts; run = q.run; never = never_clears first h c.1; asks = q.asks; ticks = q.ticks }

-- it drives a part that counts these lines
pub driven_there : (blocks : ℕ) (over : Bool) (place : Steps3) (h : Journal) (d : Driven) (p : Part) → Runs blocks h d → lines_counted p ≡ part_outcomes h → EndsBy blocks over place p d p.ending → IsDrivenBy blocks over place (part_start h) p d
driven_there blocks over place h d p r counted ends = record {
  joined = r.joined;
  starts = r.starts;
  run = r.run;
  never = r.never;
  asks = ap asked_in counted ∙ r.asks;
  ticks = ap ticks_for_all counted ∙ r.ticks;
  ends = ends;
}

pub goes_there : (blocks : ℕ) (h : Journal) (d : Driven) → Runs blocks h d → GoesOn d
goes_there blocks h d r = heads_are_legal blocks d.start d.plan d.actions d.given r.starts r.never r.run

pub taken_there : (blocks : ℕ) (h : Journal) (d : Driven) (k : ℕ) → Runs blocks h d → IsTakenAway blocks k d
taken_there blocks h d k r = record {
  run = grows_by_reset blocks d.start d.plan d.actions d.given (keeps_on d.actions r.never) r.run;
  heads = λ out begins. front_marked blocks d.start d.plan d.actions d.given out k r.starts r.never r.run begins;
}

-- a part that a cut has ended
cut_there : (over : Bool) (first : Opening) (h : Journal) (k : ℕ) → Conducted first (cut k ∷ h)
    → IsDrivenBy first.blocks over (part_place first h) (part_start h) (part (part_outcomes h) [] (by_cut k (end_from first.place (given_of h)))) (driven_by_cut (part_of first k h))
cut_there over first h k c =
    let q = (parts_are first (cut k ∷ h) c).0 in
    driven_there first.blocks over (part_place first h) h (driven_by_cut (part_of first k h)) (part (part_outcomes h) [] (by_cut k (end_from first.place (given_of h)))) (runs_cut first h k c) (append-nil (part_outcomes h))
    (record {
      stops = q.stops;
      heads = q.heads;
      stands = part_leads first h;
      last = subst (λ (os : List Outcome). DropsLast (asks (left_of first h)) os) (sym (append-nil (part_outcomes h))) q.last;
      jogs = subst (λ (os : List Outcome). LosesJogsAlone (ticks_together (part_given h)) os) (sym (append-nil (part_outcomes h))) q.jogs;
    })

-- ---- the parts of an epoch

-- parts that cuts have ended, with one more
with_cut : (q : CutPart) (qs : List CutPart) (ds : List Driven) → map driven_by_cut (reverse (q ∷ qs)) ++ ds ≡ map driven_by_cut (reverse qs) ++ driven_by_cut q ∷ ds
with_cut q qs ds =
    ap (λ (all : List CutPart). map driven_by_cut all ++ ds) (reverse-append (q ∷ []) qs) ∙ ap (λ (all : List Driven). all ++ ds) (map-append driven_by_cut (reverse qs) (q ∷ []))
    ∙ append_assoc (map driven_by_cut (reverse qs)) (driven_by_cut q ∷ []) ds

-- all that the board has parted by cuts
abbrev all_cut : Opening → Journal → List Driven → List Driven
all_cut first h ds = map driven_by_cut (reverse (board_parts first h)) ++ ds

-- What comes behind the lines begun since the last cut is driven from there on: so all of it is, from the beginning of the epoch on.
pub epoch_driven : (over : Bool) (made : ℕ) (first : Opening) (h : Journal) (rest : List Passed) (ds : List Driven) → Conducted first h → AllMade made h
    → AreDriven first.blocks over (part_place first h) (part_start h) (parts_of (map a_line (part_outcomes h) ++ rest)) ds
    → AreDriven first.blocks over first.place fresh_plan (parts_of (passed_by false made first h ++ rest)) (all_cut first h ds)
epoch_driven over made first [] rest ds c all is = is
epoch_driven over made first (began o ∷ h) rest ds c all is =
    subst (λ (ps : List Passed). AreDriven first.blocks over first.place fresh_plan (parts_of ps) (all_cut first h ds)) (sym (append_assoc (passed_by false made first h) (a_line o ∷ []) rest))
    (epoch_driven over made first h (a_line o ∷ rest) ds c.1 all
    (subst (λ (ps : List Passed). AreDriven first.blocks over (part_place first h) (part_start h) (parts_of ps) ds)
    (ap (λ (ps : List Passed). ps ++ rest) (map-append a_line (part_outcomes h) (o ∷ [])) ∙ append_assoc (map a_line (part_outcomes h)) (a_line o ∷ []) rest) is))
epoch_driven over made first (cut k ∷ h) rest ds c all is =
    let at = end_from first.place (given_of h) in
    let q = part_of first k h in
    let same : (passed_by false made first h ++ cond (is_made made h) (a_cut k at ∷ []) []) ++ rest ≡ passed_by false made first h ++ a_cut k at ∷ rest =
    ap (λ (t : Bool). (passed_by false made first h ++ cond t (a_cut k at ∷ []) []) ++ rest) all.0 ∙ append_assoc (passed_by false made first h) (a_cut k at ∷ []) rest in
    subst (λ (xs : List Driven). AreDriven first.blocks over first.place fresh_plan (parts_of (passed_by false made first (cut k ∷ h) ++ rest)) xs) (sym (with_cut q (board_parts first h) ds))
    (subst (λ (ps : List Passed). AreDriven first.blocks over first.place fresh_plan (parts_of ps) (all_cut first h (driven_by_cut q ∷ ds))) (sym same)
    (epoch_driven over made first h (a_cut k at ∷ rest) (driven_by_cut q ∷ ds) c.1 all.1
    (subst (λ (ps : List Part). AreDriven first.blocks over (part_place first h) (part_start h) ps (driven_by_cut q ∷ ds)) (sym (parts_cut (part_outcomes h) k at rest)) (cut_there over first h k c, is))))
epoch_driven over made first (_ ∷ h) rest ds c all is = epoch_driven over made first h rest ds c.1 all is

-- The same with a last line that a reset keeps from its answer.
pub record BrokenLast (made : ℕ) (first : Opening) (h : Journal) : Type 0 where
  pub early : List Outcome
  pub o : Outcome
  pub outcomes : early ++ o ∷ [] ≡ part_outcomes h
  pub driven : (over : Bool) (rest : List Passed) (ds : List Driven) → AreDriven first.blocks over (part_place first h) (part_start h) (parts_of (map a_line early ++ a_broken o ∷ rest)) ds
      → AreDriven first.blocks over first.place fresh_plan (parts_of (passed_by true made first h ++ rest)) (all_cut first h ds)

broken_driven : (made : ℕ) (first : Opening) (h : Journal) (o : Outcome) → Conducted first (began o ∷ h) → AllMade made h → (over : Bool) (rest : List Passed) (ds : List Driven)
    → AreDriven first.blocks over (part_place first h) (part_start h) (parts_of (map a_line (part_outcomes h) ++ a_broken o ∷ rest)) ds
    → AreDriven first.blocks over first.place fresh_plan (parts_of ((passed_by false made first h ++ a_broken o ∷ []) ++ rest)) (all_cut first h ds)
broken_driven made first h o c all over rest ds is =
    subst (λ (ps : List Passed). AreDriven first.blocks over first.place fresh_plan (parts_of ps) (all_cut first h ds)) (sym (append_assoc (passed_by false made first h) (a_broken o ∷ []) rest))
    (epoch_driven over made first h (a_broken o ∷ rest) ds c.1 all is)

pub broken_last : (made : ℕ) (first : Opening) (h : Journal) → Conducted first h → is_unanswered h ≡ true → IsUncut h → AllMade made h → BrokenLast made first h
broken_last made first [] c one uncut all = absurd uncut
broken_last made first (began o ∷ h) c one uncut all = record { early = part_outcomes h; o = o; outcomes = refl; driven = broken_driven made first h o c all }
broken_last made first (cut k ∷ h) c one uncut all = absurd uncut
broken_last made first (at_port e ∷ h) c one uncut all =
    let b = broken_last made first h c.1 (was_unanswered e (is_unanswered h) one) uncut all in record { early = b.early; o = b.o; outcomes = b.outcomes; driven = b.driven }
broken_last made first (_ ∷ h) c one uncut all = let b = broken_last made first h c.1 one uncut all in record { early = b.early; o = b.o; outcomes = b.outcomes; driven = b.driven }

-- ---- a last cut that is not made

pub uncut_made : (made : ℕ) (h : Journal) → IsUncut h → is_pending made h ≡ false
uncut_made made [] uncut = absurd uncut
uncut_made made (began o ∷ h) uncut = refl
uncut_made made (cut k ∷ h) uncut = absurd uncut
uncut_made made (_ ∷ h) uncut = uncut_made made h uncut

no_not : (t : Bool) → not t ≡ false → t ≡ true
no_not true none = refl
no_not false none = absurd cc

no_true : (t : Bool) → not t ≡ true → t ≡ false
no_true true is = absurd cc
no_true false is = refl

-- all are made but for that
pub others_made : (made : ℕ) (first : Opening) (h : Journal) → Conducted first h → known_of h ≤ made → is_pending made h ≡ false → AllMade made h
others_made made first [] c known none = tt
others_made made first (began o ∷ h) c known none = made_before_line made first h o c known
others_made made first (cut k ∷ h) c known none = (no_not (is_made made h) none, made_before_cut made first h k c known)
others_made made first (at_port e ∷ h) c known none = others_made made first h c.1 (less_known first e h made c known) none
others_made made first (_ ∷ h) c known none = others_made made first h c.1 known none

-- a cut that is not made comes behind all lines and all other cuts
pub record Pends (made : ℕ) (first : Opening) (h : Journal) : Type 0 where
  pub before : Journal
  pub k : ℕ
  pub conducted : Conducted first (cut k ∷ before)
  pub all : AllMade made before
  pub unmade : is_made made before ≡ false
  pub known : known_of before ≤ made
  pub passed : passed_by false made first h ≡ passed_by false made first before
  pub parts : board_parts first h ≡ part_of first k before ∷ board_parts first before

pub pends_there : (made : ℕ) (first : Opening) (h : Journal) → Conducted first h → known_of h ≤ made → is_pending made h ≡ true → Pends made first h
pends_there made first [] c known one = absurd cc
pends_there made first (began o ∷ h) c known one = absurd cc
pends_there made first (cut k ∷ h) c known one = record {
  before = h;
  k = k;
  conducted = c;
  all = made_before_cut made first h k c known;
  unmade = no_true (is_made made h) one;
  known = known;
  passed = ap (λ (t : Bool). passed_by false made first h ++ cond t (a_cut k (end_from first.place (given_of h)) ∷ []) []) (no_true (is_made made h) one) ∙ append-nil (passed_by false made first h);
  parts = refl;
}
pends_there made first (at_port e ∷ h) c known one =
    let p = pends_there made first h c.1 (less_known first e h made c known) one in record { before = p.before; k = p.k; conducted = p.conducted; all = p.all; unmade = p.unmade; known = p.known; passed = p.passed; parts = p.parts }
pends_there made first (_ ∷ h) c known one =
    let p = pends_there made first h c.1 known one in record { before = p.before; k = p.k; conducted = p.conducted; all = p.all; unmade = p.unmade; known = p.known; passed = p.passed; parts = p.parts }

-- ---- the last part of a run that is done

last_alarm : (a b : Bool) → a ≡ false → (a || (b || false)) ≡ b
last_alarm true b none = absurd (let e = none in cc)
last_alarm false true none = refl
last_alarm false false none = refl

-- a line since the last cut has raised an alarm if any has
alarm_among : (first : Opening) (h : Journal) → Conducted first h → list_any raises_alarm (part_outcomes h) ≡ has_limited h
alarm_among first [] c = refl
alarm_among first (began o ∷ h) c =
    list_any-append raises_alarm (part_outcomes h) (o ∷ []) ∙ last_alarm (list_any raises_alarm (part_outcomes h)) (is_limit o.answer) (alarm_among first h c.1 ∙ c.0.calm)
alarm_among first (cut k ∷ h) c = sym c.0.calm
alarm_among first (_ ∷ h) c = alarm_among first h c.1

run_out : (first : Opening) (h : Journal) (p : Part) → Conducted first h → IsFinished first h → lines_counted p ≡ part_outcomes h → has_limited h ≡ false → IsRunOut p (driven_since first h)
run_out first h p c over counted calm =
    let run = open_part first h c in
    let free : asks (left_of first h) ≡ [] = ap asks over.left in
    let rests : IsAtRest (part_plan h) = subst IsAtRest (sym (calm_plan first h c calm)) (spent first h c over).plan in
    record {
      asked = free;
      rests = rests;
      ticks = ap ticks_for_all counted ∙ last_part first h c free rests.blocks;
      heads = closed_heads_are_legal first.blocks (part_start h) (part_plan h) (part_actions h) (part_given h) run.starts (never_clears first h c) run.run rests.blocks;
    }

pub over_there : (first : Opening) (h : Journal) (p : Part) → Conducted first h → IsFinished first h → p.lines ≡ part_outcomes h → lines_counted p ≡ part_outcomes h → IsOver first.blocks p (driven_since first h)
over_there first h p c over lines counted = by_alarm (has_limited h) refl
  where
    alarm_so : (t : Bool) → has_limited h ≡ t → list_any raises_alarm p.lines ≡ t
    alarm_so t is = ap (list_any raises_alarm) lines ∙ alarm_among first h c ∙ is

    by_alarm : (t : Bool) → has_limited h ≡ t → IsOver first.blocks p (driven_since first h)
    by_alarm true is =
        let alarmed = subst (λ (os : List Outcome). IsAlarmedPart first.blocks os (part_start h) (part_actions h) (part_given h) (part_plan h)) (sym lines) (halted_part first h c (free_halted first h c is over.left)) in
        subst (λ (t : Bool). either t (IsAlarmedPart first.blocks p.lines (part_start h) (part_actions h) (part_given h) (part_plan h)) (IsRunOut p (driven_since first h))) (sym (alarm_so true is)) alarmed
    by_alarm false is =
        subst (λ (t : Bool). either t (IsAlarmedPart first.blocks p.lines (part_start h) (part_actions h) (part_given h) (part_plan h)) (IsRunOut p (driven_since first h))) (sym (alarm_so false is)) (run_out first h p c over counted is)
