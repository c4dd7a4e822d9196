-- A cut, a reset or the end ends a part.
use Rattle.std.proofs.Common.{◌≡◌, ◌≤◌, ℕ, ◌+◌, Bool, true, false, cond, not, ◌&&◌, ◌||◌, List, [], ◌∷◌, ◌++◌, length, map, append-nil, append_assoc, length-append, refl, sym, ap, ◌∙◌, subst, arith}
use Rattle.std.specs.List.{AllByRecursion, list_any}
use Rattle.std.proofs.lemmas.List.Elements.{filter-append}
use Rattle.flight.specs.Places.{origin}
use Rattle.flight.proofs.Places.{moved_on}
use Rattle.units.specs.declared.Steps3.{Steps3}
use Rattle.legal_heads.specs.Speeds.{MayStop}
use Rattle.legal_heads.specs.Whole.{events_among, is_event}
use Rattle.status_report.specs.declared.Reply.{Reply}
use Rattle.step_line.specs.Asking.{ticks_of_all, moves_of, ticks_among}
use Rattle.step_line.specs.declared.Mark.TheVariants.{Reset as ResetMark}
use Rattle.step_line.specs.declared.Record.{Record}
use Rattle.step_line.specs.declared.Record.TheVariants as kinds
use Rattle.modal_state.specs.Modes.{rebased}
use Rattle.run_rules.specs.declared.State.{State}
use Rattle.run_rules.specs.Cuts.{LosesJogsAlone}
use Rattle.run_rules.specs.Outcomes.{at_place, either}
use Rattle.run_rules.specs.Reports.{settles, raises_alarm}
use Rattle.run_rules.proofs.Answering.{telling_tells}
use Rattle.run_rules.specs.Work.{Task, Outcome, tells, asks, telling, has_moves, accepted_code, accepted_jog}
use Rattle.line_interpreter.specs.Desks.{kind_told}
use Rattle.line_interpreter.specs.Interpreting.{Interpreting}
use Rattle.line_interpreter.specs.Lefts.{greeting}
use Rattle.part_making.specs.Judging.{Known, nothing_known, making}
use Rattle.run_texts.specs.Courses.{Reset, IsCut, IsReset, behind_cut, behind_the_reset, reset_state}
use Rattle.run_texts.specs.Left.{part_of}
use Rattle.run_texts.specs.Making.{IsMade, nothing_yet}
use Rattle.run_texts.specs.Parts.{ending_record}
use Rattle.run_texts.specs.Parts.Ending.{by_cut, by_reset, by_end}
use Rattle.run_texts.specs.Points.{Point, opening}
use Rattle.run_texts.specs.Recorded.{IsRecorded, settled_ticks}
use Rattle.run_texts.specs.Sent.{Sent, waiting_in, has_reset, behind_reset}
use Rattle.run_texts.specs.Sent.Sent.{a_text, a_stop}
use Rattle.run_texts.specs.SoFar.{Reaches}
use Rattle.run_texts.specs.Told.{told_at_reset}
use Rattle.run_texts.proofs.Making.{begins, finishes}
use Rattle.run_texts.proofs.Reaching.{reaches_cut, reaches_reset}
use Rattle.audit_course.specs.declared.Progress.{Progress}
use Rattle.audit_course.specs.declared.judge.CourseJudge.{CourseJudge}
use Rattle.audit_course.specs.declared.ticks.Ticks.TheVariants as standing
use Rattle.audit_course.specs.Progressing.{has_ticks, has_halt, ends_none, is_code, ticks_to, fresh}
use Rattle.audit_course.specs.SoFar.{GoesTo, HasJudged, IsBare, IsClosed, IsOver, AddsReset, OfLine, KnowsTicks, AreSo, MayCut, MayReset, MayEnd, left_to_tell, opened_at}
use Rattle.audit_course.proofs.Going.{by_a_cut, by_a_reset, at_end}
use Rattle.audit_course.proofs.Forced.{forced_cut, forced_reset, reset_begins}
use Rattle.audit_course.proofs.Counting.{cuts_at_cut, cuts_at_reset, lines_sent, texts_on}
use Rattle.audit_course.proofs.Outcomes.{telling_halts, telling_marks}
use Rattle.audit_course.proofs.Parting.{idle_owes}
use Rattle.audit_course.proofs.Standing.{settled_is, to_jogs, whole_has}

-- ---- an end

-- where no line is at hand, it is known how the ticks of all stand
pub closed_lines : (j : CourseJudge) (since hand : List Outcome) (made : List Record) (k : KnowsTicks j since hand made) → hand ≡ [] → k.before ≡ since
closed_lines j since hand made k none = sym (k.split ∙ ap (λ (os : List Outcome). k.before ++ os) none ∙ append-nil k.before)

-- so what a part may lose is known
pub code_is : (j : CourseJudge) (since hand : List Outcome) (made : List Record) → KnowsTicks j since hand made → hand ≡ [] → AreSo j.code (ticks_to is_code since) j.part j.lost made
code_is j since hand made k none = subst (λ (os : List Outcome). AreSo j.code (ticks_to is_code os) j.part j.lost made) (closed_lines j since hand made k none) k.code

pub settled_are : (j : CourseJudge) (since hand : List Outcome) (made : List Record) → KnowsTicks j since hand made → hand ≡ [] → AreSo j.settled (settled_ticks since) j.part j.lost made
settled_are j since hand made k none =
    subst (λ (n : ℕ). AreSo j.settled n j.part j.lost made) (sym (settled_is since)) (subst (λ (os : List Outcome). AreSo j.settled (ticks_to settles os) j.part j.lost made) (closed_lines j since hand made k none) k.settled)

pub to_tell : (j : CourseJudge) → j.work.left ≡ [] → left_to_tell j ≡ []
to_tell j done = ap (λ (ts : List Task). cond j.unanswered [] (tells ts)) done ∙ by j.unanswered where
  by : (u : Bool) → cond u [] (tells []) ≡ []
  by true = refl
  by false = refl

pub calm_point : (j : CourseJudge) (p : Point) (hand : List Outcome) → OfLine j p hand → j.work.left ≡ [] → (not j.unanswered && j.line.halts) ≡ false → p.before.alarmed ≡ false
calm_point j p hand o done calm =
    let limit : o.limit ≡ j.line.halts = sym o.halts ∙ ap (λ (ts : List Task). j.line.halts || has_halt ts) done ∙ or_none j.line.halts in
    o.alarmed ∙ ap (λ (t : Bool). not j.unanswered && t) limit ∙ calm where
      or_none : (b : Bool) → (b || false) ≡ b
      or_none true = refl
      or_none false = refl

pub calm_line : (j : CourseJudge) (p : Point) (hand : List Outcome) → OfLine j p hand → j.work.left ≡ [] → p.before.alarmed ≡ false → (not j.unanswered && j.line.halts) ≡ false
calm_line j p hand o done free =
    let limit : o.limit ≡ j.line.halts = sym o.halts ∙ ap (λ (ts : List Task). j.line.halts || has_halt ts) done ∙ or_none j.line.halts in
    sym (ap (λ (t : Bool). not j.unanswered && t) limit) ∙ sym o.alarmed ∙ free where
      or_none : (b : Bool) → (b || false) ≡ b
      or_none true = refl
      or_none false = refl

mark_events : (records : List Record) (r : Record) → is_event r ≡ false → length (events_among (records ++ r ∷ [])) ≡ length (events_among records)
mark_events records r e =
    let both : length (events_among (records ++ r ∷ [])) ≡ length (events_among records) + length (events_among (r ∷ [])) = ap length (filter-append is_event records (r ∷ [])) ∙ length-append (events_among records) (events_among (r ∷ [])) in
    let none : ◌≡◌ {A = ℕ} (length (events_among (r ∷ []))) 0 = ap (λ (b : Bool). length (cond b (r ∷ []) [])) e in
    omega (arith, both, none)

-- ---- a cut

-- what is made of the answered lines, where no record is of another one
bare_by : (j : CourseJudge) (first : State) (sent : List Sent) (replies : List Reply) (records : List Record) (s : HasJudged j first sent replies records) (u : Bool) → j.unanswered ≡ u → (j.unanswered ≡ true → j.touched ≡ false)
    → IsBare s.since s.made j.part.latest
bare_by j first sent replies records s true u untouched = s.untouched u (untouched u)
bare_by j first sent replies records s false u untouched = record {
  making = making j.part s.ticks s.moves;
  is = subst (λ (os : List Outcome). IsMade os s.made (making j.part s.ticks s.moves)) (ap (λ (os : List Outcome). s.since ++ os) (s.none_begun u) ∙ append-nil s.since) s.is_made;
  out = refl;
  head = refl;
}

-- the line that is over says behind it what it said
pub line_cut : (j : CourseJudge) (w : Interpreting) (state : State) (part : Known) (at : Steps3) (p : Point) (hand : List Outcome) → OfLine j p hand → j.in_hand ≡ false → w.left ≡ j.work.left
    → OfLine (record j { work = w; state = state; part = part; cuts = j.cuts + 1; has_line = false; lost = false; answered = standing.Whole; code = standing.Whole; settled = standing.Whole }) (behind_cut at p) []
line_cut j w state part at p hand o closed same_left = record {
  work = o.work;
  limit = o.limit;
  moves = ap (λ (ts : List Task). j.line.moves || has_moves ts) same_left ∙ o.moves;
  ticks = ap (λ (ts : List Task). j.line.asks || has_ticks ts) same_left ∙ o.ticks;
  halts = ap (λ (ts : List Task). j.line.halts || has_halt ts) same_left ∙ o.halts;
  marks = subst (AllByRecursion (λ (t : Task). ends_none t ≡ true)) (sym same_left) o.marks;
  moved = o.moved;
  jog_moved = o.jog_moved;
  jogged = o.jogged;
  alarmed = o.alarmed;
  unheld = λ e. refl;
  none = λ e. let n = o.none closed in record { none = refl; settles = n.settles; code = n.code; jog = n.jog };
  held = λ e. absurd (let f : false ≡ true = sym closed ∙ e in cc);
  are = tt;
}

pub part_cut : (j : CourseJudge) (k : ℕ) (w : Interpreting) (state : State) (first : State) (sent : List Sent) (replies : List Reply) (records : List Record) (s : HasJudged j first sent replies records)
    → MayCut j k → state ≡ (at_place j.place (record s.point.before { state = j.state })).state
    → w.left ≡ j.work.left → w.number ≡ j.work.number → (j.unanswered ≡ false → w.state ≡ state)
    → HasJudged (record j { work = w; state = state; part = nothing_known; cuts = j.cuts + 1; has_line = false; lost = false; answered = standing.Whole; code = standing.Whole; settled = standing.Whole }) first sent replies (records ++ ending_record (by_cut k j.place) ∷ [])
part_cut j k w state first sent replies records s may state_is same_left number_is work_is = record {
  point = behind_cut j.place s.point;
  number = s.number ∙ sym number_is;
  state = ap (λ (x : State). (at_place j.place (record s.point.before { state = x })).state) s.state ∙ sym state_is;
  same_state = λ e. sym (work_is e);
  locked = s.locked;
  has_line = refl;
  unanswered = s.unanswered;
  hand = [];
  line = line_cut j w state nothing_known j.place s.point s.hand s.line may.ends.closed same_left;
  since = [];
  begun = [];
  none_begun = λ e. refl;
  from = j.place;
  made = [];
  stands = refl;
  ticks = [];
  moves = [];
  asked = λ e. (sym (ap (λ (ts : List Task). ticks_of_all (asks ts)) left), sym (ap (λ (ts : List Task). moves_of (asks ts)) left));
  loses_some = λ e. absurd cc;
  is_made = begins;
  untouched = λ u e. record { making = nothing_yet; is = begins; out = refl; head = refl };
  owes_behind = λ u e. absurd cc;
  touched = λ u e. absurd (let f : true ≡ false = sym e ∙ may.untouched u in cc);
  knows = record { before = []; split = refl; answered = omega arith; code = omega arith; settled = omega arith };
  calm = λ e. refl;
  at_hand = λ e. ap has_halt left;
  alarm = λ e. absurd (let f : true ≡ false = sym e ∙ calm_point j s.point s.hand s.line may.ends.done may.calm in cc);
  events = s.events ∙ sym (mark_events records (ending_record (by_cut k j.place)) refl);
  counted = ap (λ (c : ℕ). c + 1) s.counted ∙ sym (cuts_at_cut records k);
  numbered = number_is ∙ s.numbered;
  whole = s.whole ∙ sym (moved_on origin records (ending_record (by_cut k j.place) ∷ []));
  reached =
      subst (λ (rs : List Reply). Reaches first sent (replies ++ rs) (records ++ ending_record (by_cut k j.place) ∷ []) (behind_cut j.place s.point) [] [] j.place []) (to_tell j may.ends.done ∙ sym left_none)
      (reaches_cut first sent (replies ++ left_to_tell j) records s.point s.since s.begun s.from s.made k j.place s.reached is_cut recorded);
  back = λ n more told rest last g.
      let before = s.back (n + 1) more told (ending_record (by_cut k j.place) ∷ rest) last
      (by_a_cut s.point last s.since s.begun s.from n k j.place more told s.made rest is_cut recorded g) in
      subst (λ (rs : List Record). GoesTo (opening first) [] [] origin (n + (j.cuts + 1)) (sent ++ more) (replies ++ (cond j.unanswered [] (tells w.left) ++ told)) rs last) (sym (append_assoc records (ending_record (by_cut k j.place) ∷ []) rest))
      (subst (λ (c : ℕ). GoesTo (opening first) [] [] origin c (sent ++ more) (replies ++ (cond j.unanswered [] (tells w.left) ++ told)) (records ++ ending_record (by_cut k j.place) ∷ rest) last) (sums n j.cuts)
      (subst (λ (rs : List Reply). GoesTo (opening first) [] [] origin ((n + 1) + j.cuts) (sent ++ more) (replies ++ (rs ++ told)) (records ++ ending_record (by_cut k j.place) ∷ rest) last) (to_tell j may.ends.done ∙ sym left_none) before));
  forth = λ n more told rest last follow g.
      let few : j.work.number ≤ k + 1 = (let e = may.number in omega (arith, e)) in
      let here : GoesTo (opening first) [] [] origin ((n + 1) + j.cuts) (sent ++ more) (replies ++ (left_to_tell j ++ told)) (records ++ ending_record (by_cut k j.place) ∷ rest) last =
      subst (λ (rs : List Reply). GoesTo (opening first) [] [] origin ((n + 1) + j.cuts) (sent ++ more) (replies ++ (rs ++ told)) (records ++ ending_record (by_cut k j.place) ∷ rest) last) (left_none ∙ sym (to_tell j may.ends.done))
      (subst (λ (c : ℕ). GoesTo (opening first) [] [] origin c (sent ++ more) (replies ++ (cond j.unanswered [] (tells w.left) ++ told)) (records ++ ending_record (by_cut k j.place) ∷ rest) last) (sym (sums n j.cuts))
      (subst (λ (rs : List Record). GoesTo (opening first) [] [] origin (n + (j.cuts + 1)) (sent ++ more) (replies ++ (cond j.unanswered [] (tells w.left) ++ told)) rs last) (append_assoc records (ending_record (by_cut k j.place) ∷ []) rest) g)) in
      subst (λ (x : Steps3). GoesTo (behind_cut x s.point) [] [] x n more told rest last) (sym s.stands)
      (forced_cut s.point last s.since s.begun s.from n k more told s.made rest s.is_made.inside (s.number ∙ may.number)
      (s.forth (n + 1) more told (ending_record (by_cut k j.place) ∷ rest) last (record { late = few; resets = follow.resets }) here));
} where
  left : w.left ≡ []
  left = same_left ∙ may.ends.done

  left_none : cond j.unanswered [] (tells w.left) ≡ []
  left_none = ap (λ (ts : List Task). cond j.unanswered [] (tells ts)) same_left ∙ to_tell j may.ends.done

  sums : (n c : ℕ) → (n + 1) + c ≡ n + (c + 1)
  sums n c = omega arith

  is_cut : IsCut s.point k
  is_cut = record { free = calm_point j s.point s.hand s.line may.ends.done may.calm; number = s.number ∙ may.number; has_line = s.has_line ∙ may.has_line }

  bare : IsBare s.since s.made j.part.latest
  bare = bare_by j first sent replies records s j.unanswered refl may.untouched

  recorded : IsRecorded s.from (part_of s.since s.begun (by_cut k j.place)) s.made
  recorded = finishes s.from (part_of s.since s.begun (by_cut k j.place)) s.made (record {
    making = bare.making;
    is = subst (λ (os : List Outcome). IsMade os s.made bare.making) (sym (append-nil s.since)) bare.is;
    may = (
      bare.out ∙ may.out,
      subst MayStop (sym bare.head) may.may,
      subst (λ (os : List Outcome). LosesJogsAlone (length (ticks_among s.made)) os) (sym (append-nil s.since))
          (to_jogs s.since (length (ticks_among s.made)) (whole_has j.code (ticks_to is_code s.since) j.part j.lost s.made (code_is j s.since s.hand s.made s.knows (s.line.none may.ends.closed).none) may.code)),
      s.stands,
    );
  })

-- ---- a reset

pub waits_so : (lines : List (List ℕ)) (more : List Sent) → waiting_in (map a_text lines ++ a_stop ∷ more) ≡ lines
waits_so [] more = refl
waits_so (l ∷ ls) more = ap (λ (xs : List (List ℕ)). l ∷ xs) (waits_so ls more)

resets_so : (lines : List (List ℕ)) (more : List Sent) → has_reset (map a_text lines ++ a_stop ∷ more) ≡ true
resets_so [] more = refl
resets_so (l ∷ ls) more = resets_so ls more

pub behind_so : (lines : List (List ℕ)) (more : List Sent) → behind_reset (map a_text lines ++ a_stop ∷ more) ≡ more
behind_so [] more = refl
behind_so (l ∷ ls) more = behind_so ls more

telling_asks : (rs : List Reply) → asks (telling rs) ≡ []
telling_asks [] = refl
telling_asks (r ∷ rs) = telling_asks rs

-- where no line is at hand, so much has moved
pub moved_before : (settles of_kind moves before : Bool) → settles ≡ false → of_kind ≡ false → (not settles && (of_kind && moves || before)) ≡ before
moved_before settles of_kind moves before s k = ap (λ (x : Bool). not x && (of_kind && moves || before)) s ∙ ap (λ (x : Bool). x && moves || before) k

pub moved_closed : (j : CourseJudge) (p : Point) (hand : List Outcome) → OfLine j p hand → j.in_hand ≡ false → (p.before.moved ≡ j.moved) × (p.before.jog_moved ≡ j.jog_moved)
moved_closed j p hand o closed =
    let n = o.none closed in (
      o.moved ∙ moved_before j.line.settles (accepted_code (kind_told j.line.accepted)) (has_moves o.work) j.moved n.settles n.code,
      o.jog_moved ∙ moved_before j.line.settles (accepted_jog (kind_told j.line.accepted)) (has_moves o.work) j.jog_moved n.settles n.jog,
    )

-- so something has moved or not
pub any_moved : (j : CourseJudge) (p : Point) (hand : List Outcome) → OfLine j p hand → j.in_hand ≡ false → (p.before.moved || p.before.jog_moved) ≡ (j.moved || j.jog_moved)
any_moved j p hand o closed = let m = moved_closed j p hand o closed in ap (λ (b : Bool). b || p.before.jog_moved) m.0 ∙ ap (λ (b : Bool). j.moved || b) m.1

-- behind a reset no line is at hand, and what greets is to be told
pub opened_line : (k : CourseJudge) (r : Reset) (p : Point) (rs : List Reply) → k.work.left ≡ telling rs → k.line ≡ fresh false → k.moved ≡ false → k.jog_moved ≡ false → k.jogged ≡ false → k.unanswered ≡ false → k.in_hand ≡ false → OfLine k (behind_the_reset r p) []
opened_line k r p rs left new moved jog_moved jogged answered closed = record {
  work = telling rs;
  limit = false;
  moves = ap (λ (l : Progress). l.moves || has_moves k.work.left) new ∙ ap has_moves left;
  ticks = ap (λ (l : Progress). l.asks || has_ticks k.work.left) new ∙ ap has_ticks left;
  halts = ap (λ (l : Progress). l.halts || has_halt k.work.left) new ∙ ap has_halt left ∙ telling_halts rs;
  marks = subst (AllByRecursion (λ (t : Task). ends_none t ≡ true)) (sym left) (telling_marks rs);
  moved = sym (moved_before k.line.settles (accepted_code (kind_told k.line.accepted)) (has_moves (telling rs)) k.moved (ap (λ (l : Progress). l.settles) new) (ap (λ (l : Progress). accepted_code (kind_told l.accepted)) new) ∙ moved);
  jog_moved = sym (moved_before k.line.settles (accepted_jog (kind_told k.line.accepted)) (has_moves (telling rs)) k.jog_moved (ap (λ (l : Progress). l.settles) new) (ap (λ (l : Progress). accepted_jog (kind_told l.accepted)) new) ∙ jog_moved);
  jogged = sym jogged;
  alarmed = ap (λ (u : Bool). not u && false) (sym answered);
  unheld = λ e. refl;
  none = λ e. record { none = refl; settles = ap (λ (l : Progress). l.settles) new; code = ap (λ (l : Progress). accepted_code (kind_told l.accepted)) new; jog = ap (λ (l : Progress). accepted_jog (kind_told l.accepted)) new };
  held = λ e. absurd (let f : false ≡ true = sym closed ∙ e in cc);
  are = tt;
}

-- a reset comes behind some lines that it drops
pub reset_may_come : (j : CourseJudge) (p : Point) (hand : List Outcome) (r : Reset) (lines : List (List ℕ)) (more : List Sent) → OfLine j p hand → p.locked ≡ j.locked → IsClosed j → (not j.unanswered && j.line.halts) ≡ false
    → r.number + 1 ≡ p.before.number → r.dropped ≡ length lines → (r.alarm ≡ true → (j.moved || j.jog_moved) ≡ true) → r.locked ≡ (r.alarm || j.locked) → IsReset p (map a_text lines ++ a_stop ∷ more) r
reset_may_come j p hand r lines more o locked ends calm number count cause locked_is = record {
  free = calm_point j p hand o ends.done calm;
  comes = resets_so lines more;
  number = number;
  dropped = count ∙ ap length (sym (waits_so lines more));
  cause = λ e. any_moved j p hand o ends.closed ∙ cause e;
  locked = locked_is ∙ ap (λ (b : Bool). r.alarm || b) (sym locked);
}

abbrev pub reset_here : CourseJudge → ℕ → ℕ → Bool → Bool → Reset
reset_here j k dropped alarm locked = record { number = k; dropped = dropped; alarm = alarm; locked = locked; at = j.place }

pub part_reset : (j : CourseJudge) (k dropped : ℕ) (alarm locked : Bool) (lines : List (List ℕ)) (w : Interpreting) (state : State) (first : State) (sent : List Sent) (replies : List Reply) (records : List Record)
    (s : HasJudged j first sent replies records) → MayReset j k alarm → dropped ≡ length lines → locked ≡ (alarm || j.locked) → state ≡ reset_state j.place j.state
    → w ≡ record { state = state; number = k + dropped + 1; left = telling (greeting alarm locked) }
    → HasJudged (record j { work = w; state = state; part = nothing_known; locked = locked; has_line = false; unanswered = false; lost = false; answered = standing.Whole; code = standing.Whole; settled = standing.Whole; moved = false; jog_moved = false; jogged = false; line = fresh false })
    first (sent ++ (map a_text lines ++ a_stop ∷ [])) replies (records ++ kinds.Mark (ResetMark k) ∷ [])
part_reset j k dropped alarm locked lines w state first sent replies records s may count locked_is state_is is = record {
  point = behind_the_reset (reset_here j k dropped alarm locked) s.point;
  number = sym (ap (λ (i : Interpreting). i.number) is);
  state = ap (reset_state j.place) s.state ∙ sym state_is;
  same_state = λ e. sym (ap (λ (i : Interpreting). i.state) is);
  locked = refl;
  has_line = refl;
  unanswered = refl;
  hand = [];
  line = opened_line _ (reset_here j k dropped alarm locked) s.point (greeting alarm locked) left refl refl refl refl refl may.ends.closed;
  since = [];
  begun = [];
  none_begun = λ e. refl;
  from = j.place;
  made = [];
  stands = refl;
  ticks = [];
  moves = [];
  asked = λ e. (
    sym (ap (λ (ts : List Task). ticks_of_all (asks ts)) left ∙ ap ticks_of_all (telling_asks (greeting alarm locked))),
    sym (ap (λ (ts : List Task). moves_of (asks ts)) left ∙ ap moves_of (telling_asks (greeting alarm locked))),
  );
  loses_some = λ e. absurd cc;
  is_made = begins;
  untouched = λ u e. absurd cc;
  owes_behind = λ u. absurd cc;
  touched = λ u. absurd cc;
  knows = record { before = []; split = refl; answered = omega arith; code = omega arith; settled = omega arith };
  alarm = λ e. absurd cc;
  calm = λ e. refl;
  at_hand = λ e. ap has_halt left ∙ telling_halts (greeting alarm locked);
  events = s.events ∙ sym (mark_events records (kinds.Mark (ResetMark k)) refl);
  counted = s.counted ∙ sym (cuts_at_reset records k);
  numbered = (let here : w.number ≡ k + dropped + 1 = ap (λ (i : Interpreting). i.number) is in
      let both = texts_on sent (map a_text lines ++ a_stop ∷ []) in
      let some = lines_sent lines in
      let last = may.number in
      let before = s.numbered in
      omega (arith, here, both, some, last, before, count));
  whole = s.whole ∙ sym (moved_on origin records (kinds.Mark (ResetMark k) ∷ []));
  reached =
      let r = reset_here j k dropped alarm locked in
      let lines_and_stop = map a_text lines ++ a_stop ∷ [] in
      subst (λ (rs : List Reply). Reaches first (sent ++ lines_and_stop) rs (records ++ kinds.Mark (ResetMark k) ∷ []) (behind_the_reset r s.point) [] [] j.place [])
      (ap (λ (rs : List Reply). (replies ++ rs) ++ told_at_reset r) (to_tell j may.ends.done) ∙ ap (λ (rs : List Reply). rs ++ told_at_reset r) (append-nil replies) ∙ ap (λ (rs : List Reply). replies ++ rs) (sym greets))
      (reaches_reset first sent lines_and_stop (replies ++ left_to_tell j) records s.point s.since s.begun s.from s.made r s.reached (is_reset []) (behind_so lines []) recorded);
  back = λ n more told rest last g.
      let on : GoesTo (behind_the_reset (reset_here j k dropped alarm locked) s.point) [] [] j.place n (behind_reset (map a_text lines ++ a_stop ∷ more)) told rest last =
      subst (λ (ss : List Sent). GoesTo (behind_the_reset (reset_here j k dropped alarm locked) s.point) [] [] j.place n ss told rest last) (sym (behind_so lines more)) g in
      let before = s.back n (map a_text lines ++ a_stop ∷ more) (told_at_reset (reset_here j k dropped alarm locked) ++ told) (kinds.Mark (ResetMark k) ∷ rest) last
      (by_a_reset s.point last s.since s.begun s.from n (reset_here j k dropped alarm locked) (map a_text lines ++ a_stop ∷ more) told s.made rest (is_reset more) recorded on) in
      subst (λ (rs : List Record). GoesTo (opening first) [] [] origin (n + j.cuts) ((sent ++ (map a_text lines ++ a_stop ∷ [])) ++ more) (replies ++ (tells w.left ++ told)) rs last) (sym (append_assoc records (kinds.Mark (ResetMark k) ∷ []) rest))
      (subst (λ (ss : List Sent). GoesTo (opening first) [] [] origin (n + j.cuts) ss (replies ++ (tells w.left ++ told)) (records ++ kinds.Mark (ResetMark k) ∷ rest) last)
      (ap (λ (ss : List Sent). sent ++ ss) (sym (append_assoc (map a_text lines) (a_stop ∷ []) more)) ∙ sym (append_assoc sent (map a_text lines ++ a_stop ∷ []) more))
      (subst (λ (rs : List Reply). GoesTo (opening first) [] [] origin (n + j.cuts) (sent ++ (map a_text lines ++ a_stop ∷ more)) (replies ++ rs) (records ++ kinds.Mark (ResetMark k) ∷ rest) last)
      (ap (λ (rs : List Reply). rs ++ (told_at_reset (reset_here j k dropped alarm locked) ++ told)) (to_tell j may.ends.done) ∙ ap (λ (rs : List Reply). rs ++ told) (sym greets)) before));
  forth = λ n more told rest last follow g.
      let r = reset_here j k dropped alarm locked in
      let few : j.work.number ≤ k + 1 = (let e = may.number in omega (arith, e)) in
      let here : GoesTo (opening first) [] [] origin (n + j.cuts) (sent ++ (map a_text lines ++ a_stop ∷ more)) (replies ++ (left_to_tell j ++ (told_at_reset r ++ told))) (records ++ kinds.Mark (ResetMark k) ∷ rest) last =
      subst (λ (rs : List Reply). GoesTo (opening first) [] [] origin (n + j.cuts) (sent ++ (map a_text lines ++ a_stop ∷ more)) (replies ++ rs) (records ++ kinds.Mark (ResetMark k) ∷ rest) last)
      (sym (ap (λ (rs : List Reply). rs ++ (told_at_reset r ++ told)) (to_tell j may.ends.done) ∙ ap (λ (rs : List Reply). rs ++ told) (sym greets)))
      (subst (λ (ss : List Sent). GoesTo (opening first) [] [] origin (n + j.cuts) ss (replies ++ (tells w.left ++ told)) (records ++ kinds.Mark (ResetMark k) ∷ rest) last)
      (sym (ap (λ (ss : List Sent). sent ++ ss) (sym (append_assoc (map a_text lines) (a_stop ∷ []) more)) ∙ sym (append_assoc sent (map a_text lines ++ a_stop ∷ []) more)))
      (subst (λ (rs : List Record). GoesTo (opening first) [] [] origin (n + j.cuts) ((sent ++ (map a_text lines ++ a_stop ∷ [])) ++ more) (replies ++ (tells w.left ++ told)) rs last) (append_assoc records (kinds.Mark (ResetMark k) ∷ []) rest) g)) in
      subst (λ (ss : List Sent). GoesTo (behind_the_reset r s.point) [] [] j.place n ss told rest last) (behind_so lines more)
      (forced_reset s.point last s.since s.begun s.from n r (map a_text lines ++ a_stop ∷ more) told s.made rest s.is_made.inside (is_reset more) s.stands
      (s.forth n (map a_text lines ++ a_stop ∷ more) (told_at_reset r ++ told) (kinds.Mark (ResetMark k) ∷ rest) last (record { late = few; resets = λ u. reset_begins alarm _ told }) here));
} where
  left : w.left ≡ telling (greeting alarm locked)
  left = ap (λ (i : Interpreting). i.left) is

  greets : tells w.left ≡ told_at_reset (reset_here j k dropped alarm locked)
  greets = ap tells left ∙ telling_tells (greeting alarm locked)

  is_reset : (more : List Sent) → IsReset s.point (map a_text lines ++ a_stop ∷ more) (reset_here j k dropped alarm locked)
  is_reset more = reset_may_come j s.point s.hand (reset_here j k dropped alarm locked) lines more s.line s.locked may.ends may.calm (may.number ∙ sym s.number) count may.cause locked_is

  recorded : IsRecorded s.from (part_of s.since s.begun (by_reset (reset_here j k dropped alarm locked))) s.made
  recorded = finishes s.from (part_of s.since s.begun (by_reset (reset_here j k dropped alarm locked))) s.made (record {
    making = making j.part s.ticks s.moves;
    is = s.is_made;
    may = (whole_has j.settled (settled_ticks s.since) j.part j.lost s.made (settled_are j s.since s.hand s.made s.knows (s.line.none may.ends.closed).none) may.settled, s.stands);
  })

-- ---- the end

pub point_halts : (j : CourseJudge) (p : Point) (hand : List Outcome) → OfLine j p hand → j.work.left ≡ [] → j.unanswered ≡ false → p.before.alarmed ≡ j.line.halts
point_halts j p hand o done answered =
    o.alarmed ∙ ap (λ (u : Bool). not u && o.limit) answered ∙ sym o.halts ∙ ap (λ (ts : List Task). j.line.halts || has_halt ts) done ∙ or_none j.line.halts where
      or_none : (b : Bool) → (b || false) ≡ b
      or_none true = refl
      or_none false = refl

either_way : (t h : Bool) (A B : Type 0) → A → (h ≡ false → B) → (h ≡ true → t ≡ true) → either t A B
either_way true h A B a b f = a
either_way false true A B a b f = absurd (let e = f refl in cc)
either_way false false A B a b f = b refl

left_so : (b : Bool) → either b (behind_reset [] ≡ []) (◌≡◌ {A = List Sent} [] [])
left_so true = refl
left_so false = refl

pub course_over : (j : CourseJudge) (first : State) (sent : List Sent) (replies : List Reply) (records : List Record) (s : HasJudged j first sent replies records) → MayEnd j → IsOver j first sent replies records
course_over j first sent replies records s may = record {
  last = s.point;
  number = s.number;
  alarmed = point_halts j s.point s.hand s.line may.ends.done may.answered;
  fits = λ n.
      let at = at_end s.point s.since [] s.from n s.made (record { answered = s.unanswered ∙ may.answered; rest = left_so s.point.before.alarmed }) recorded in
      let before = s.back n [] [] (kinds.End ∷ []) s.point (subst (λ (os : List Outcome). GoesTo s.point s.since os s.from n [] [] (s.made ++ kinds.End ∷ []) s.point) (sym none) at) in
      subst (λ (ss : List Sent). GoesTo (opening first) [] [] origin (n + j.cuts) ss replies (records ++ kinds.End ∷ []) s.point) (append-nil sent)
      (subst (λ (rs : List Reply). GoesTo (opening first) [] [] origin (n + j.cuts) (sent ++ []) rs (records ++ kinds.End ∷ []) s.point)
      (ap (λ (rs : List Reply). replies ++ (rs ++ [])) (to_tell j may.ends.done) ∙ append-nil replies) before);
} where
  none : s.begun ≡ []
  none = s.none_begun may.answered

  recorded : IsRecorded s.from (part_of s.since [] by_end) s.made
  recorded = finishes s.from (part_of s.since [] by_end) s.made (record {
    making = making j.part s.ticks s.moves;
    is = subst (λ (os : List Outcome). IsMade (s.since ++ os) s.made (making j.part s.ticks s.moves)) none s.is_made;
    may = (
      may.out,
      may.may,
      either_way (list_any raises_alarm s.since) j.line.halts (settled_ticks s.since ≤ length (ticks_among s.made)) ((making j.part s.ticks s.moves).owed ≡ [])
          (whole_has j.settled (settled_ticks s.since) j.part j.lost s.made (settled_are j s.since s.hand s.made s.knows (s.line.none may.ends.closed).none) may.settled)
          (λ e. idle_owes j first sent replies records s (may.none e))
          (λ e. s.alarm (point_halts j s.point s.hand s.line may.ends.done may.answered ∙ e)),
    );
  })

-- ---- as the code has it

pub cut_made : (j : CourseJudge) (k : ℕ) (w : Interpreting) (state : State) (part : Known) (first : State) (sent : List Sent) (replies : List Reply) (records : List Record)
    → HasJudged j first sent replies records → MayCut j k → state ≡ record j.state { parser = rebased j.state.parser j.place j.state.settings.limits.per_mm }
    → w ≡ record j.work { state = record j.work.state { parser = rebased j.work.state.parser j.place j.work.state.settings.limits.per_mm } } → part ≡ nothing_known
    → HasJudged (record j { work = w; state = state; part = part; cuts = j.cuts + 1; has_line = false; lost = false; answered = standing.Whole; code = standing.Whole; settled = standing.Whole }) first sent replies (records ++ ending_record (by_cut k j.place) ∷ [])
cut_made j k w state part first sent replies records s may state_is work part_is =
    subst (λ (x : Known). HasJudged (record j { work = w; state = state; part = x; cuts = j.cuts + 1; has_line = false; lost = false; answered = standing.Whole; code = standing.Whole; settled = standing.Whole }) first sent replies (records ++ ending_record (by_cut k j.place) ∷ [])) (sym part_is)
    (part_cut j k w state first sent replies records s may state_is (ap (λ (i : Interpreting). i.left) work) (ap (λ (i : Interpreting). i.number) work)
    (λ e. ap (λ (i : Interpreting). i.state) work ∙ ap (λ (x : State). record x { parser = rebased x.parser j.place x.settings.limits.per_mm }) (sym (s.same_state e)) ∙ sym state_is))

pub reset_made : (j : CourseJudge) (k dropped : ℕ) (alarm : Bool) → MayReset j k alarm → AddsReset j (opened_at j.place dropped alarm j) k dropped
reset_made j k dropped alarm may lines count first sent replies records s =
    let number : j.work.number + dropped ≡ k + dropped + 1 = (let n = may.number in omega (arith, n)) in
    part_reset j k dropped alarm (alarm || j.locked) lines (opened_at j.place dropped alarm j).work (reset_state j.place j.state) first sent replies records s may count refl refl
    (ap (λ (n : ℕ). record { state = reset_state j.place j.state; number = n; left = telling (greeting alarm (alarm || j.locked)) }) number)
