-- The reports of an epoch fit its lines and the ticks made in it.
use Rattle.std.proofs.Common.{◌≡◌, ℕ, ◌+◌, ◌≤◌, ◌⊎◌, inl, inr, Bool, true, false, cond, List, [], ◌∷◌, ◌++◌, length, take, drop, reverse, refl, sym, ap, ◌∙◌, subst, arith}
use Rattle.std.proofs.lemmas.List.{length-append, length-take, take-append-le, take-append-drop, take_all}
use Rattle.std.specs.List.{flat_map, sum}
use Rattle.flight.specs.Places.{moved_by}
use Rattle.run_rules.specs.Reports.{Course, FitsReport, IsAhead, Reported, Shows, place_at, state_behind, settled_to, fewest}
use Rattle.run_rules.specs.Work.{Outcome}
use Rattle.status_report.specs.Answering.{answers_in}
use Rattle.status_report.specs.declared.Reply.{Reply}
use Rattle.status_report.specs.declared.Reply.TheVariants as replies
use Rattle.status_report.specs.declared.reports.Report.{Report}
use Rattle.step_line.specs.Pieces.{ticks_of}
use Rattle.step_line.specs.declared.Record.{Record}
use Rattle.units.specs.declared.Steps3.{Steps3}
use Rattle.board_rules.specs.Conduct.{Conducted, ticks_given}
use Rattle.board_rules.specs.Cuts.{counts_of, has_halted}
use Rattle.board_journal.specs.Openings.{Opening}
use Rattle.board_journal.specs.Ports.{has_held_in, has_changed_in}
use Rattle.board_journal.specs.Steps.{Journal, port_log, outcomes_of, answered_of, published_of, known_of, has_limited}
use Rattle.board_rules.specs.Turns.{is_limited}
use Rattle.board_rules.specs.Whole.{course_of}
use Rattle.board_rules.proofs.Alarms.{halted_alarmed}
use Rattle.board_rules.proofs.Calming.{settled_ticks, settled_is_known, standing}
use Rattle.board_rules.proofs.Given.{known_within}
use Rattle.board_rules.proofs.Owing.{owes_few}
use Rattle.board_rules.proofs.Phases.{count_is, done_of, phase_is}
use Rattle.board_rules.proofs.Reporting.{reported_is}
use Rattle.board_rules.proofs.Tellable.{all_can_be_told}
use Rattle.epoch_courses.specs.Course.{passed_by}
use Rattle.epoch_courses.specs.Drives.{is_pending}
use Rattle.epoch_effects.specs.Effects.{is_alarmed}
use Rattle.epoch_effects.specs.Effects.Stop.{runs_on, is_halted, is_cut}
use Rattle.epoch_effects.specs.Over.{effects_with}
use Rattle.epoch_effects.specs.Reports.{HasReported, report_course}
use Rattle.epoch_effects.proofs.Counts.{Counted, lines_begun}

-- ---- of any course

-- a report that shows no more ticks than a front of them fits that front, too
fits_fewer : (c : Course) (front rest : List Record) (k d : ℕ) (r : Report) → c.ticks ≡ front ++ rest → d ≤ length front → FitsReport c k d r → FitsReport (record c { ticks = front }) k d r
fits_fewer c front rest k d r is made f = record {
  lines = f.lines;
  of_lines = f.of_lines;
  begun = f.begun;
  answered = f.answered;
  made = made;
  low = f.low;
  high = f.high;
  shows = subst (λ (at : Steps3). Shows at (state_behind c.first (take f.lines c.outcomes)) r) same f.shows;
  speed = f.speed;
  ahead = by_ahead f.ahead;
  state = f.state;
  holds = f.holds;
  alarm = f.alarm;
  overrides = f.overrides;
}
  where
    same : place_at c.place c.ticks d ≡ place_at c.place front d
    same = ap (λ (rs : List Record). moved_by c.place (take d rs)) is ∙ ap (moved_by c.place) (take-append-le d front rest made)

    by_ahead : (r.f ≡ 0) ⊎ IsAhead c k d → (r.f ≡ 0) ⊎ IsAhead (record c { ticks = front }) k d
    by_ahead (inl none) = inl none
    by_ahead (inr a) = inr (record { given = a.given; below = a.below; asked = a.asked; whole = a.whole })

-- so do all reports of replies that show no more
reported_fewer : (c : Course) (front rest : List Record) (rs : List Reply) (top : ℕ) → c.ticks ≡ front ++ rest → top ≤ length front → Reported c rs top → Reported (record c { ticks = front }) rs top
reported_fewer c front rest [] top is within rep = tt
reported_fewer c front rest (replies.Report r ∷ earlier) top is within rep =
    let few : rep.0 ≤ length front = (let a = rep.1 in omega (arith, a, within)) in
    (rep.0, rep.1, fits_fewer c front rest (answers_in earlier) rep.0 r is few rep.2, reported_fewer c front rest earlier rep.0 is few rep.3)
reported_fewer c front rest (_ ∷ earlier) top is within rep = reported_fewer c front rest earlier top is within rep

-- ---- of an epoch

-- what its reports are judged by, with these lists
abbrev course_with : Opening → Journal → List Outcome → List ℕ → List Record → ℕ → Course
course_with first h outcomes counts ticks given = record {
  first = first.state;
  place = first.place;
  locked = is_limited first.motion;
  outcomes = outcomes;
  counts = counts;
  ticks = ticks;
  given = given;
  held = has_held_in (port_log h);
  changed = has_changed_in (port_log h);
}

reports_fit : (broken : Bool) (made : ℕ) (first : Opening) (h : Journal) → Conducted first h → known_of h ≤ made → Counted broken made first h
    → Reported (report_course (effects_with (passed_by broken made first h) made first h)) (reverse (answered_of h)) (known_of h)
reports_fit broken made first h c known n =
    let ticks = flat_map ticks_of (published_of h) in
    let front = take made ticks in
    let rs = reverse (answered_of h) in
    let within : known_of h ≤ length front = (let e = length-take made ticks in let low = known_within first h c in omega (arith, e, low, known)) in
    let was : Reported (course_with first h (outcomes_of h) (counts_of first h) front (ticks_given h)) rs (known_of h) =
    reported_fewer (course_of first h) front (drop made ticks) rs (known_of h) (sym (take-append-drop made ticks)) within (reported_is first h c) in
    let begun = sym (lines_begun broken made first h) in
    subst (λ (os : List Outcome). Reported (course_with first h os (report_course (effects_with (passed_by broken made first h) made first h)).counts front (report_course (effects_with (passed_by broken made first h) made first h)).given) rs (known_of h)) begun
    (subst (λ (ns : List ℕ). Reported (course_with first h (outcomes_of h) ns front (report_course (effects_with (passed_by broken made first h) made first h)).given) rs (known_of h)) (sym n.counts)
    (subst (λ (g : ℕ). Reported (course_with first h (outcomes_of h) (counts_of first h) front g) rs (known_of h)) (sym n.given) was))

-- all lines but the last are answered
but_one : (first : Opening) (h : Journal) → Conducted first h → length (outcomes_of h) ≤ answers_in (answered_of h) + 1
but_one first h c =
    let x = standing first h (phase_is first h c) in
    let e = ap (λ (os : List Outcome). length os) x.begun ∙ length-append (done_of h) x.more in
    let few = x.few in
    let count = count_is first h c in
    omega (arith, e, few, count)

-- the ticks of the lines up to the last answered one that settles were found done
least_known : (first : Opening) (h : Journal) → Conducted first h → fewest (answers_in (answered_of h)) (outcomes_of h) (counts_of first h) ≤ known_of h
least_known first h c =
    let x = standing first h (phase_is first h c) in
    let k = length (done_of h) in
    let front : take k (outcomes_of h) ≡ done_of h = ap (take k) x.begun ∙ take-append-le k (done_of h) x.more (omega arith) ∙ take_all k (done_of h) (omega arith) in
    let settled : fewest k (outcomes_of h) (counts_of first h) ≡ settled_ticks first h = ap (λ (os : List Outcome). sum (take (settled_to os) (counts_of first h))) front in
    let answered = ap (λ (n : ℕ). fewest n (outcomes_of h) (counts_of first h)) (count_is first h c) in
    let known = settled_is_known first h c in
    omega (arith, settled, answered, known)

by_stop : (t s : Bool) → cond t is_cut (cond s is_halted runs_on) ≡ is_halted → s ≡ true
by_stop true s is = absurd cc
by_stop false true is = refl
by_stop false false is = absurd cc

pub has_reported : (broken : Bool) (made : ℕ) (first : Opening) (h : Journal) → Conducted first h → known_of h ≤ made → Counted broken made first h → has_limited h ≡ is_alarmed (passed_by broken made first h)
    → HasReported (effects_with (passed_by broken made first h) made first h)
has_reported broken made first h c known n alarmed =
    let begun = lines_begun broken made first h in
    record {
      valid = all_can_be_told first h c;
      fit = reports_fit broken made first h c known n;
      few = (let f = owes_few first h c in omega (arith, f));
      made = known;
      one = subst (λ (os : List Outcome). length os ≤ answers_in (answered_of h) + 1) (sym begun) (but_one first h c);
      least = subst (λ (os : List Outcome). fewest (answers_in (answered_of h)) os (report_course (effects_with (passed_by broken made first h) made first h)).counts ≤ known_of h) (sym begun)
          (subst (λ (ns : List ℕ). fewest (answers_in (answered_of h)) (outcomes_of h) ns ≤ known_of h) (sym n.counts) (least_known first h c));
      halts = λ is. sym alarmed ∙ halted_alarmed first h c (by_stop (is_pending made h) (has_halted h) is);
    }
