-- Texts with no cut, no reset and no alarm have all ticks of their lines.
use Rattle.std.proofs.Common.{◌≡◌, ◌≤◌, inl, inr, List, [], ◌∷◌, ◌++◌, append-nil, true, false, Bool, ◌||◌, sym, refl, ap, ◌∙◌, subst, arith}
use Rattle.std.specs.List.{list_any, filter}
use Rattle.units.specs.declared.Steps3.{Steps3}
use Rattle.flight.specs.Places.{origin}
use Rattle.status_report.specs.Answering.{is_plain, without_reports}
use Rattle.status_report.specs.declared.Reply.{Reply}
use Rattle.step_line.specs.Asking.{ticks_among}
use Rattle.step_line.specs.declared.Record.{Record}
use Rattle.step_line.specs.declared.Record.TheVariants as kinds
use Rattle.run_rules.specs.declared.State.{State}
use Rattle.run_rules.specs.Outcomes.{Before}
use Rattle.run_rules.specs.Reports.{raises_alarm}
use Rattle.run_rules.specs.Work.{Outcome, tells, is_limit}
use Rattle.run_rules.proofs.Answering.{AnswersOrHalts, no_alarm}
use Rattle.run_rules.proofs.Determined.{one_opening}
use Rattle.run_texts.specs.Courses.{Passed, Follows, behind_cut, behind_the_reset, cuts_in, lines_in}
use Rattle.run_texts.specs.Courses.Passed.{a_line, a_broken, a_cut, a_reset}
use Rattle.run_texts.specs.Fits.{FitsTexts}
use Rattle.run_texts.specs.Parts.{Part, parts_of, onto_first}
use Rattle.run_texts.specs.Parts.Ending.{by_end}
use Rattle.run_texts.specs.Points.{Point, behind_line, behind_broken, opening}
use Rattle.run_texts.specs.Recorded.{AreRecorded, ticks_for_all}
use Rattle.run_texts.specs.Sent.{Sent, has_reset, behind_reset}
use Rattle.run_texts.specs.Sent.Sent.{a_text, a_stop}
use Rattle.run_texts.specs.Told.{told_at_reset, told_in, has_alarm}
use Rattle.run_texts.proofs.Determined.{line_answers, agree, same_told}
use Rattle.run_texts.proofs.Events.{whole_ticks}
use Rattle.run_texts.proofs.Stops.{stops_of}

-- ---- alarms

or_first : (a b : Bool) → (a || b) ≡ false → a ≡ false
or_first true b e = absurd cc
or_first false b e = refl

pub or_second : (a b : Bool) → (a || b) ≡ false → b ≡ false
or_second true b e = absurd cc
or_second false b e = e

or_both : (a b : Bool) → a ≡ false → b ≡ false → (a || b) ≡ false
or_both true b e f = e
or_both false b e f = f

pub any_first : (xs ys : List Reply) → has_alarm (xs ++ ys) ≡ false → has_alarm xs ≡ false
any_first [] ys e = refl
any_first (x ∷ xs) ys e = or_both (is_limit x) (has_alarm xs) (or_first (is_limit x) (has_alarm (xs ++ ys)) e) (any_first xs ys (or_second (is_limit x) (has_alarm (xs ++ ys)) e))

pub any_second : (xs ys : List Reply) → has_alarm (xs ++ ys) ≡ false → has_alarm ys ≡ false
any_second [] ys e = e
any_second (x ∷ xs) ys e = any_second xs ys (or_second (is_limit x) (has_alarm (xs ++ ys)) e)

kept_none : (keeps : Bool) (x : Reply) (xs rest : List Reply) → filter is_plain (x ∷ xs) ≡ rest → is_plain x ≡ keeps → has_alarm (filter is_plain xs) ≡ false → is_limit x ≡ false → has_alarm (filter is_plain (x ∷ xs)) ≡ false
kept_none true x xs rest e is none one = rw is (or_both (is_limit x) (has_alarm (filter is_plain xs)) one none)
kept_none false x xs rest e is none one = rw is none

pub none_without_reports : (xs : List Reply) → has_alarm xs ≡ false → has_alarm (without_reports xs) ≡ false
none_without_reports [] e = refl
none_without_reports (x ∷ xs) e =
    kept_none (is_plain x) x xs (filter is_plain (x ∷ xs)) refl refl (none_without_reports xs (or_second (is_limit x) (has_alarm xs) e)) (or_first (is_limit x) (has_alarm xs) e)

pub line_calm : (b : Before) (o : Outcome) → AnswersOrHalts b o → has_alarm (tells o.work) ≡ false → is_limit o.answer ≡ false
line_calm b o (inl once) none = no_alarm o.answer once.one
line_calm b o (inr is) none = absurd (let e : true ≡ false = subst (λ (x : Outcome). has_alarm (tells x.work) ≡ false) is none in cc)

pub lines_calm : (p last : Point) (sent : List Sent) (ps : List Passed) → Follows p sent ps last → has_alarm (told_in ps) ≡ false → list_any raises_alarm (lines_in ps) ≡ false
lines_calm p last sent [] f none = refl
lines_calm p last sent (a_cut k at ∷ ps) f none = lines_calm (behind_cut at p) last sent ps f.1 none
lines_calm p last sent (a_reset r ∷ ps) f none = lines_calm (behind_the_reset r p) last (behind_reset sent) ps f.1 (any_second (told_at_reset r) (told_in ps) none)
lines_calm p last [] (a_line o ∷ ps) f none = absurd f
lines_calm p last (a_stop ∷ sent) (a_line o ∷ ps) f none = absurd f
lines_calm p last (a_text line ∷ sent) (a_line o ∷ ps) f none =
    or_both (is_limit o.answer) (list_any raises_alarm (lines_in ps)) (line_calm p.before o (line_answers true p line o f.0.becomes) (any_first (tells o.work) (told_in ps) none))
    (lines_calm (behind_line p line o) last sent ps f.1 (any_second (tells o.work) (told_in ps) none))
lines_calm p last [] (a_broken o ∷ ps) f none = absurd f
lines_calm p last (a_stop ∷ sent) (a_broken o ∷ ps) f none = absurd f
lines_calm p last (a_text line ∷ sent) (a_broken o ∷ ps) f none = lines_calm (behind_broken p o) last sent ps f.1 none

-- ---- one part

pub no_stops : (p last : Point) (sent : List Sent) (ps : List Passed) → Follows p sent ps last → has_reset sent ≡ false → cuts_in ps ≤ 0 → stops_of ps ≡ []
no_stops p last sent [] f none few = refl
no_stops p last sent (a_cut k at ∷ ps) f none few = absurd (omega (arith, few))
no_stops p last sent (a_reset r ∷ ps) f none few = absurd (let e = sym f.0.comes ∙ none in cc)
no_stops p last [] (a_line o ∷ ps) f none few = absurd f
no_stops p last (a_stop ∷ sent) (a_line o ∷ ps) f none few = absurd f
no_stops p last (a_text line ∷ sent) (a_line o ∷ ps) f none few = no_stops (behind_line p line o) last sent ps f.1 none few
no_stops p last [] (a_broken o ∷ ps) f none few = absurd f
no_stops p last (a_stop ∷ sent) (a_broken o ∷ ps) f none few = absurd f
no_stops p last (a_text line ∷ sent) (a_broken o ∷ ps) f none few = no_stops (behind_broken p o) last sent ps f.1 none few

-- behind a line that is not answered a cut or a reset comes
pub broken_stops : {A : Type 0} (p last : Point) (sent : List Sent) (ps : List Passed) → Follows p sent ps last → p.unanswered ≡ true → stops_of ps ≡ [] → A
broken_stops p last sent [] f begun e = absurd (let g = sym f.1.answered ∙ begun in cc)
broken_stops p last sent (a_cut k at ∷ ps) f begun e = absurd cc
broken_stops p last sent (a_reset r ∷ ps) f begun e = absurd cc
broken_stops p last [] (a_line o ∷ ps) f begun e = absurd f
broken_stops p last (a_stop ∷ sent) (a_line o ∷ ps) f begun e = absurd f
broken_stops p last (a_text line ∷ sent) (a_line o ∷ ps) f begun e = absurd (let g = sym f.0.answered ∙ begun in cc)
broken_stops p last [] (a_broken o ∷ ps) f begun e = absurd f
broken_stops p last (a_stop ∷ sent) (a_broken o ∷ ps) f begun e = absurd f
broken_stops p last (a_text line ∷ sent) (a_broken o ∷ ps) f begun e = absurd (let g = sym f.0.answered ∙ begun in cc)

abbrev only : List Outcome → List Part
only lines = record { lines = lines; begun = []; ending = by_end } ∷ []

one_part : (p last : Point) (sent : List Sent) (ps : List Passed) → Follows p sent ps last → stops_of ps ≡ [] → parts_of ps ≡ only (lines_in ps)
one_part p last sent [] f e = refl
one_part p last sent (a_cut k at ∷ ps) f e = absurd cc
one_part p last sent (a_reset r ∷ ps) f e = absurd cc
one_part p last [] (a_line o ∷ ps) f e = absurd f
one_part p last (a_stop ∷ sent) (a_line o ∷ ps) f e = absurd f
one_part p last (a_text line ∷ sent) (a_line o ∷ ps) f e = ap (onto_first o) (one_part (behind_line p line o) last sent ps f.1 e)
one_part p last [] (a_broken o ∷ ps) f e = absurd f
one_part p last (a_stop ∷ sent) (a_broken o ∷ ps) f e = absurd f
one_part p last (a_text line ∷ sent) (a_broken o ∷ ps) f e = broken_stops (behind_broken p o) last sent ps f.1 refl e

ticks_before_end : (rs : List Record) → ticks_among (rs ++ kinds.End ∷ []) ≡ ticks_among rs
ticks_before_end [] = refl
ticks_before_end (kinds.Head h ∷ rs) = ticks_before_end rs
ticks_before_end (kinds.Event b ∷ rs) = ap (λ (xs : List Record). kinds.Event b ∷ xs) (ticks_before_end rs)
ticks_before_end (kinds.Mark m ∷ rs) = ap (λ (xs : List Record). kinds.Mark m ∷ xs) (ticks_before_end rs)
ticks_before_end (kinds.End ∷ rs) = ticks_before_end rs

only_ticks : (place : Steps3) (lines : List Outcome) (records : List Record) → list_any raises_alarm lines ≡ false → AreRecorded place (only lines) records → ticks_among records ≡ ticks_for_all lines
only_ticks place lines records none all =
    ap ticks_among (all.2 ∙ ap (λ (rest : List Record). all.0 ++ kinds.End ∷ rest) all.4) ∙ ticks_before_end all.0 ∙ whole_ticks (record { lines = lines; begun = []; ending = by_end }) by_end (ticks_among all.0) refl none all.3.ticks ∙ ap ticks_for_all (append-nil lines)

pub all_ticks : (sent : List Sent) (replies : List Reply) (records : List Record) (f : FitsTexts sent 0 replies records)
    → has_reset sent ≡ false → has_alarm replies ≡ false → ticks_among records ≡ ticks_for_all (lines_in f.course)
all_ticks sent replies records f none calm =
    let behind : has_alarm f.told.behind ≡ false = or_second false (has_alarm f.told.behind) (ap has_alarm (sym f.told.begins) ∙ calm) in
    let told : has_alarm (told_in f.course) ≡ false = ap has_alarm (sym f.told.told) ∙ none_without_reports f.told.behind behind in
    let part = one_part (opening f.first) f.last sent f.course f.follows (no_stops (opening f.first) f.last sent f.course f.follows none f.few) in
    only_ticks origin (lines_in f.course) records (lines_calm (opening f.first) f.last sent f.course f.follows told) (subst (λ (ps : List Part). AreRecorded origin ps records) part f.recorded)

-- the job and the console say which
pub same_ticks : (sent : List Sent) (replies : List Reply) (records others : List Record) (a : FitsTexts sent 0 replies records) (b : FitsTexts sent 0 replies others)
    → has_reset sent ≡ false → has_alarm replies ≡ false → ticks_among records ≡ ticks_among others
same_ticks sent replies records others a b none calm =
    let first : a.first ≡ b.first = one_opening a.first b.first a.opens b.opens in
    let stops : stops_of a.course ≡ stops_of b.course =
    no_stops (opening a.first) a.last sent a.course a.follows none a.few ∙ sym (no_stops (opening b.first) b.last sent b.course b.follows none b.few) in
    let course = agree (opening a.first) a.last b.last sent a.course b.course a.follows (subst (λ (x : State). Follows (opening x) sent b.course b.last) (sym first) b.follows)
    (same_told a.course b.course replies a.told b.told) stops in
    all_ticks sent replies records a none calm ∙ ap (λ (ps : List Passed). ticks_for_all (lines_in ps)) course.0 ∙ sym (all_ticks sent replies others b none calm)
