-- A judge takes records, and ends a part.
use Rattle.std.proofs.Common.{◌≡◌, ◌≤◌, ℕ, ◌+◌, Bool, true, false, cond, not, ◌&&◌, ◌||◌, List, [], ◌∷◌, ◌++◌, length, append-nil, append_assoc, length-append, refl, sym, ap, ◌∙◌, subst, IsTrue, arith}
use Rattle.std.specs.List.{AllByRecursion}
use Rattle.std.proofs.lemmas.List.Elements.{filter-append}
use Rattle.units.specs.declared.Steps3.{Steps3}
use Rattle.flight.specs.Places.{moved_by, origin}
use Rattle.flight.proofs.Places.{moved_on}
use Rattle.legal_heads.specs.Whole.{events_among}
use Rattle.status_report.specs.declared.Reply.{Reply}
use Rattle.step_line.specs.Asking.{ticks_of_all, ticks_among}
use Rattle.step_line.specs.Records.{is_tick}
use Rattle.legal_heads.specs.Whole.{is_event}
use Rattle.step_line.specs.declared.Record.{Record}
use Rattle.step_line.specs.declared.Record.TheVariants as kinds
use Rattle.run_rules.specs.declared.State.{State}
use Rattle.run_rules.specs.Work.{Task, Outcome, asks, has_moves, accepted_code, accepted_jog}
use Rattle.line_interpreter.specs.Desks.{kind_told}
use Rattle.line_interpreter.specs.Interpreting.{Interpreting}
use Rattle.part_making.specs.Judging.{Known, Goes, making, rest_of, all_ticks, owed_of}
use Rattle.run_rules.specs.Reports.{settles}
use Rattle.run_texts.specs.Making.{IsMade}
use Rattle.run_texts.specs.Recorded.{ticks_for_all}
use Rattle.run_texts.specs.Parts.{is_ending}
use Rattle.run_texts.specs.Points.{Point, opening}
use Rattle.run_texts.specs.Sent.{Sent}
use Rattle.run_texts.proofs.Reaching.{reaches_record}
use Rattle.part_making.proofs.Refused.{made_on}
use Rattle.audit_course.proofs.Counting.{cuts_behind}
use Rattle.audit_course.proofs.Forced.{behind_made}
use Rattle.audit_course.proofs.Standing.{made_counted, are_taken, taken_more, ticks_closed, whole_has}
use Rattle.audit_course.specs.declared.Progress.{Progress}
use Rattle.audit_course.specs.declared.judge.CourseJudge.{CourseJudge}
use Rattle.audit_course.specs.declared.ticks.Ticks.{Ticks}
use Rattle.audit_course.specs.declared.ticks.Ticks.TheVariants as standing
use Rattle.audit_course.specs.Progressing.{has_ticks, has_halt, ends_none, is_code, is_whole, behind_record, ticks_to, moved_now, fresh}
use Rattle.audit_course.specs.Here.{StandsAlike}
use Rattle.audit_course.specs.SoFar.{GoesTo, HasJudged, KnowsTicks, AreSo, AreNow, OfLine, IsNoLine, OwesBehind, IsIdle, has_moved, left_to_tell}

-- ---- a record

more_ticks : (made : List Record) (r : Record) → length (ticks_among made) ≤ length (ticks_among (made ++ r ∷ []))
more_ticks made r =
    let both : ticks_among (made ++ r ∷ []) ≡ ticks_among made ++ ticks_among (r ∷ []) = filter-append is_tick made (r ∷ []) in
    let long = ap length both ∙ length-append (ticks_among made) (ticks_among (r ∷ [])) in
    omega (arith, long)

or_none : (b : Bool) → (b || false) ≡ b
or_none true = refl
or_none false = refl

-- It does not change what the line says; a judge that differs in these fields alone.
pub same_line : (j k : CourseJudge) (p : Point) (hand : List Outcome) → OfLine j p hand → k.work ≡ j.work → k.line ≡ j.line → k.moved ≡ j.moved → k.jog_moved ≡ j.jog_moved → k.jogged ≡ j.jogged → k.unanswered ≡ j.unanswered → k.in_hand ≡ j.in_hand → OfLine k p hand
same_line j k p hand o work line moved jog_moved jogged unanswered in_hand = record {
  work = o.work;
  limit = o.limit;
  moves = ap (λ (l : Progress). l.moves || has_moves k.work.left) line ∙ ap (λ (i : Interpreting). j.line.moves || has_moves i.left) work ∙ o.moves;
  ticks = ap (λ (l : Progress). l.asks || has_ticks k.work.left) line ∙ ap (λ (i : Interpreting). j.line.asks || has_ticks i.left) work ∙ o.ticks;
  halts = ap (λ (l : Progress). l.halts || has_halt k.work.left) line ∙ ap (λ (i : Interpreting). j.line.halts || has_halt i.left) work ∙ o.halts;
  marks = subst (λ (i : Interpreting). AllByRecursion (λ (t : Task). ends_none t ≡ true) i.left) (sym work) o.marks;
  moved = o.moved ∙ sym (ap (λ (l : Progress). not l.settles && (accepted_code (kind_told l.accepted) && has_moves o.work || k.moved)) line
      ∙ ap (λ (b : Bool). not j.line.settles && (accepted_code (kind_told j.line.accepted) && has_moves o.work || b)) moved);
  jog_moved = o.jog_moved ∙ sym (ap (λ (l : Progress). not l.settles && (accepted_jog (kind_told l.accepted) && has_moves o.work || k.jog_moved)) line
      ∙ ap (λ (b : Bool). not j.line.settles && (accepted_jog (kind_told j.line.accepted) && has_moves o.work || b)) jog_moved);
  jogged = o.jogged ∙ sym jogged;
  alarmed = o.alarmed ∙ ap (λ (b : Bool). not b && o.limit) (sym unanswered);
  unheld = λ e. o.unheld (sym unanswered ∙ e);
  held = λ e u. o.held (sym in_hand ∙ e) (sym unanswered ∙ u);
  none = λ e. subst (λ (l : Progress). IsNoLine l hand) (sym line) (o.none (sym in_hand ∙ e));
  are = subst (λ (l : Progress). AllByRecursion (λ (x : Outcome). (x.work ≡ o.work) × (x.settles ≡ l.settles) × (x.kind ≡ kind_told l.accepted)) hand) (sym line) o.are;
}

pub was_no : (b : Bool) → not b ≡ true → b ≡ false
was_no true e = absurd cc
was_no false e = refl

pub was_yes : (b : Bool) → not b ≡ false → IsTrue b
was_yes true e = refl
was_yes false e = absurd cc

goes_inside : (k now : Known) (r : Record) → Goes k r now → is_ending r ≡ false
goes_inside k now (kinds.Event b) g = refl
goes_inside k now (kinds.Head h) g = refl
goes_inside k now (kinds.Mark m) g = (g [] []).inside
goes_inside k now kinds.End g = absurd (g [] [])

pub record_taken : (j : CourseJudge) (r : Record) (part : Known) (place : Steps3) (events : ℕ) (touched idle : Bool) (answered code settled : Ticks) (first : State) (sent : List Sent) (replies : List Reply) (records : List Record) → HasJudged j first sent replies records
    → Goes j.part r part → place ≡ moved_by j.place (r ∷ []) → events ≡ j.events + length (events_among (r ∷ []))
    → (idle ≡ true → owed_of part ≡ []) → (idle ≡ false → owed_of part ≡ [] → ⊥) → touched ≡ (j.touched || is_whole j.answered)
    → answered ≡ behind_record idle j.answered → code ≡ behind_record idle j.code → settled ≡ behind_record idle j.settled
    → HasJudged (record j { part = part; place = place; events = events; touched = touched; answered = answered; code = code; settled = settled }) first sent replies (records ++ r ∷ [])
record_taken j r part place events touched idle answered code settled first sent replies records s goes here count none some touched_is answered_is code_is settled_is = record {
  point = s.point;
  number = s.number;
  state = s.state;
  same_state = s.same_state;
  locked = s.locked;
  has_line = s.has_line;
  unanswered = s.unanswered;
  hand = s.hand;
  line = same_line j (record j { part = part; place = place; events = events; touched = touched; answered = answered; code = code; settled = settled }) s.point s.hand s.line refl refl refl refl refl refl refl;
  since = s.since;
  begun = s.begun;
  none_begun = s.none_begun;
  from = s.from;
  made = s.made ++ r ∷ [];
  stands = here ∙ ap (λ (x : Steps3). moved_by x (r ∷ [])) s.stands ∙ sym (moved_on s.from s.made (r ∷ []));
  ticks = s.ticks;
  moves = s.moves;
  asked = s.asked;
  loses_some = s.loses_some;
  is_made = made_on (s.since ++ s.begun) s.made j.part part s.ticks s.moves r s.is_made goes;
  untouched = λ u e.
      let o = both_no j.touched (is_whole j.answered) (sym touched_is ∙ e) in
      let b = behind u o.1 in
      record { making = making part b.ticks b.moves; is = b.is; out = refl; head = refl };
  owes_behind = λ u e. behind u (still j.answered idle (sym (ap is_whole answered_is) ∙ e));
  touched = λ u e. let all = before_all u e in record { all = omega (arith, all, more); behind = λ out. let one = taken_more j.part part s.made r goes out in omega (arith, all, one) };
  knows = record {
    before = s.knows.before;
    split = s.knows.split;
    answered = subst (λ (t : Ticks). AreSo t (length (ticks_for_all s.knows.before)) part j.lost (s.made ++ r ∷ [])) (sym answered_is) (are_taken j.answered (length (ticks_for_all s.knows.before)) j.part part j.lost s.made r idle s.knows.answered none some more sum);
    code = subst (λ (t : Ticks). AreSo t (ticks_to is_code s.knows.before) part j.lost (s.made ++ r ∷ [])) (sym code_is) (are_taken j.code (ticks_to is_code s.knows.before) j.part part j.lost s.made r idle s.knows.code none some more sum);
    settled = subst (λ (t : Ticks). AreSo t (ticks_to settles s.knows.before) part j.lost (s.made ++ r ∷ [])) (sym settled_is) (are_taken j.settled (ticks_to settles s.knows.before) j.part part j.lost s.made r idle s.knows.settled none some more sum);
  };
  alarm = s.alarm;
  calm = s.calm;
  at_hand = s.at_hand;
  events = (let before = s.events in
      let both : length (events_among (records ++ r ∷ [])) ≡ length (events_among records) + length (events_among (r ∷ [])) = ap length (filter-append is_event records (r ∷ [])) ∙ length-append (events_among records) (events_among (r ∷ [])) in
      omega (arith, before, both, count));
  counted = s.counted ∙ sym (cuts_behind records r (goes_inside j.part part r goes));
  numbered = s.numbered;
  whole = here ∙ ap (λ (x : Steps3). moved_by x (r ∷ [])) s.whole ∙ sym (moved_on origin records (r ∷ []));
  reached = reaches_record first sent (replies ++ left_to_tell j) records s.point s.since s.begun s.from s.made r s.reached;
  back = λ n more told rest last g.
      subst (λ (rs : List Record). GoesTo (opening first) [] [] origin (n + j.cuts) (sent ++ more) (replies ++ (left_to_tell j ++ told)) rs last) (sym (append_assoc records (r ∷ []) rest))
      (s.back n more told (r ∷ rest) last (subst (λ (rs : List Record). GoesTo s.point s.since s.begun s.from n more told rs last) (append_assoc s.made (r ∷ []) rest) g));
  forth = λ n more told rest last may g.
      subst (λ (rs : List Record). GoesTo s.point s.since s.begun s.from n more told rs last) (sym (append_assoc s.made (r ∷ []) rest))
      (s.forth n more told (r ∷ rest) last (record { late = behind_made j.work.number (r ∷ []) rest (goes_inside j.part part r goes, tt) may.late; resets = may.resets })
      (subst (λ (rs : List Record). GoesTo (opening first) [] [] origin (n + j.cuts) (sent ++ more) (replies ++ (left_to_tell j ++ told)) rs last) (append_assoc records (r ∷ []) rest) g));
} where
  more : length (ticks_among s.made) ≤ length (ticks_among (s.made ++ r ∷ []))
  more = more_ticks s.made r

  is_made_now : IsMade (s.since ++ s.begun) (s.made ++ r ∷ []) (making part s.ticks s.moves)
  is_made_now = made_on (s.since ++ s.begun) s.made j.part part s.ticks s.moves r s.is_made goes

  sum : length (ticks_among (s.made ++ r ∷ [])) + length (owed_of part) ≡ length (ticks_among s.made) + length (owed_of j.part)
  sum =
      let before = made_counted (s.since ++ s.begun) s.made j.part s.ticks s.moves s.is_made in
      let behind = made_counted (s.since ++ s.begun) (s.made ++ r ∷ []) part s.ticks s.moves is_made_now in
      omega (arith, before, behind)

  both_no : (a b : Bool) → (a || b) ≡ false → (a ≡ false) × (b ≡ false)
  both_no true b e = absurd cc
  both_no false b e = (refl, e)

  still : (t : Ticks) (idle : Bool) → is_whole (behind_record idle t) ≡ false → is_whole t ≡ false
  still standing.Whole true e = absurd cc
  still standing.Whole false e = absurd cc
  still standing.Owed idle e = refl
  still standing.Lost idle e = refl

  -- what the part owes is of the answered lines
  behind : j.unanswered ≡ true → is_whole j.answered ≡ false → OwesBehind s.since (s.made ++ r ∷ []) part
  behind u e = let b = s.owes_behind u e in record { ticks = b.ticks; moves = b.moves; is = made_on s.since s.made j.part part b.ticks b.moves r b.is goes }

  answered_all : j.unanswered ≡ true → s.knows.before ≡ s.since
  answered_all u = sym (s.knows.split ∙ ap (λ (os : List Outcome). s.knows.before ++ os) (s.line.unheld u) ∙ append-nil s.knows.before)

  -- and once a record is of another line, they have all of theirs
  before_all : j.unanswered ≡ true → touched ≡ true → length (ticks_for_all s.since) ≤ length (ticks_among s.made)
  before_all u e = by (is_whole j.answered) refl where
    by : (w : Bool) → is_whole j.answered ≡ w → length (ticks_for_all s.since) ≤ length (ticks_among s.made)
    by true w = subst (λ (os : List Outcome). length (ticks_for_all os) ≤ length (ticks_among s.made)) (answered_all u) (whole_has j.answered (length (ticks_for_all s.knows.before)) j.part j.lost s.made s.knows.answered w)
    by false w = (s.touched u (sym (or_none j.touched) ∙ ap (λ (b : Bool). j.touched || b) (sym w) ∙ sym touched_is ∙ e)).all

-- ---- the line at hand is over

-- what it says is kept of it
pub closed_line : (j : CourseJudge) (l : Progress) (moved jog_moved : Bool) (answered code settled : Ticks) (p : Point) (hand : List Outcome) → OfLine j p hand → j.work.left ≡ [] → l ≡ fresh j.line.halts
    → moved ≡ moved_now (accepted_code (kind_told j.line.accepted)) j.line j.moved → jog_moved ≡ moved_now (accepted_jog (kind_told j.line.accepted)) j.line j.jog_moved
    → OfLine (record j { line = l; in_hand = false; moved = moved; jog_moved = jog_moved; answered = answered; code = code; settled = settled }) p []
closed_line j l moved jog_moved answered code settled p hand o done new is_moved is_jog = record {
  work = [];
  limit = o.limit;
  moves = ap (λ (p : Progress). p.moves || has_moves j.work.left) new ∙ ap has_moves done;
  ticks = ap (λ (p : Progress). p.asks || has_ticks j.work.left) new ∙ ap has_ticks done;
  halts = ap (λ (p : Progress). p.halts || has_halt j.work.left) new ∙ o.halts;
  marks = o.marks;
  moved = o.moved ∙ ap (λ (b : Bool). not j.line.settles && (accepted_code (kind_told j.line.accepted) && b || j.moved)) moves_done ∙ sym is_moved
      ∙ sym (ap (λ (p : Progress). not p.settles && (accepted_code (kind_told p.accepted) && has_moves [] || moved)) new);
  jog_moved = o.jog_moved ∙ ap (λ (b : Bool). not j.line.settles && (accepted_jog (kind_told j.line.accepted) && b || j.jog_moved)) moves_done ∙ sym is_jog
      ∙ sym (ap (λ (p : Progress). not p.settles && (accepted_jog (kind_told p.accepted) && has_moves [] || jog_moved)) new);
  jogged = o.jogged;
  alarmed = o.alarmed;
  unheld = λ e. refl;
  none = λ e. subst (λ (p : Progress). IsNoLine p []) (sym new) (record { none = refl; settles = refl; code = refl; jog = refl });
  held = λ e. absurd cc;
  are = tt;
} where
  moves_done : has_moves o.work ≡ j.line.moves
  moves_done = sym o.moves ∙ ap (λ (ts : List Task). j.line.moves || has_moves ts) done ∙ or_none j.line.moves

-- that goes on behind a line that is over, with what is known of the ticks of all lines
pub line_closed : (j : CourseJudge) (l : Progress) (moved jog_moved : Bool) (answered code settled : Ticks) (first : State) (sent : List Sent) (replies : List Reply) (records : List Record) (s : HasJudged j first sent replies records)
    → j.work.left ≡ [] → l ≡ fresh j.line.halts
    → moved ≡ moved_now (accepted_code (kind_told j.line.accepted)) j.line j.moved → jog_moved ≡ moved_now (accepted_jog (kind_told j.line.accepted)) j.line j.jog_moved
    → (j.unanswered ≡ true → is_whole answered ≡ false → OwesBehind s.since s.made j.part) → KnowsTicks (record j { answered = answered; code = code; settled = settled }) s.since [] s.made
    → HasJudged (record j { line = l; in_hand = false; moved = moved; jog_moved = jog_moved; answered = answered; code = code; settled = settled }) first sent replies records
line_closed j l moved jog_moved answered code settled first sent replies records s done new is_moved is_jog behind knows = record {
  point = s.point;
  number = s.number;
  state = s.state;
  same_state = s.same_state;
  locked = s.locked;
  has_line = s.has_line;
  unanswered = s.unanswered;
  hand = [];
  line = closed_line j l moved jog_moved answered code settled s.point s.hand s.line done new is_moved is_jog;
  since = s.since;
  begun = s.begun;
  none_begun = s.none_begun;
  from = s.from;
  made = s.made;
  stands = s.stands;
  ticks = s.ticks;
  moves = s.moves;
  asked = s.asked;
  loses_some = s.loses_some;
  is_made = s.is_made;
  untouched = s.untouched;
  owes_behind = behind;
  touched = s.touched;
  knows = record { before = knows.before; split = knows.split; answered = knows.answered; code = knows.code; settled = knows.settled };
  alarm = s.alarm;
  calm = s.calm;
  at_hand = λ e. ap has_halt done;
  events = s.events;
  counted = s.counted;
  numbered = s.numbered;
  whole = s.whole;
  reached = s.reached;
  back = s.back;
  forth = λ n more told rest last may. s.forth n more told rest last (record { late = may.late; resets = may.resets });
}

-- where the line at hand is done, that is what has moved
pub moved_here : (j : CourseJudge) (p : Point) (hand : List Outcome) → OfLine j p hand → j.work.left ≡ []
    → (p.before.moved || p.before.jog_moved) ≡ has_moved j
moved_here j p hand o done =
    ap (λ (b : Bool). b || p.before.jog_moved) (o.moved ∙ ap (λ (b : Bool). not j.line.settles && (accepted_code (kind_told j.line.accepted) && b || j.moved)) all)
    ∙ ap (λ (b : Bool). moved_now (accepted_code (kind_told j.line.accepted)) j.line j.moved || b)
    (o.jog_moved ∙ ap (λ (b : Bool). not j.line.settles && (accepted_jog (kind_told j.line.accepted) && b || j.jog_moved)) all) where
      all : has_moves o.work ≡ j.line.moves
      all = sym o.moves ∙ ap (λ (ts : List Task). j.line.moves || has_moves ts) done ∙ or_none j.line.moves

pub none_of : (xs ys : List Record) → xs ++ ys ≡ [] → (xs ≡ []) × (ys ≡ [])
none_of [] ys e = (refl, e)
none_of (x ∷ xs) ys e = absurd cc

pub idle_owes : (j : CourseJudge) (first : State) (sent : List Sent) (replies : List Reply) (records : List Record) (s : HasJudged j first sent replies records) → IsIdle j → (making j.part s.ticks s.moves).owed ≡ []
idle_owes j first sent replies records s i =
    let a = s.asked i.kept in
    let ticks : s.ticks ≡ [] = a.0 ∙ ap (λ (ts : List Task). ticks_of_all (asks ts)) i.done in
    let n = none_of (rest_of j.part.latest) (all_ticks j.part.next) i.none in
    ap (λ (rs : List Record). rs ++ (all_ticks j.part.next ++ s.ticks)) n.0 ∙ ap (λ (rs : List Record). rs ++ s.ticks) n.1 ∙ ticks

-- ---- as the code has it

pub closes : (j : CourseJudge) (now : Ticks) (l : Progress) (moved jog_moved : Bool) (answered code settled : Ticks) (first : State) (sent : List Sent) (replies : List Reply) (records : List Record) (s : HasJudged j first sent replies records)
    → j.work.left ≡ [] → AreNow now j → l ≡ fresh j.line.halts
    → answered ≡ cond ((j.in_hand && not j.unanswered) && true) now j.answered
    → code ≡ cond ((j.in_hand && not j.unanswered) && (not (accepted_jog (kind_told j.line.accepted)) && j.line.asks)) now j.code
    → settled ≡ cond ((j.in_hand && not j.unanswered) && j.line.settles) now j.settled
    → moved ≡ moved_now (accepted_code (kind_told j.line.accepted)) j.line j.moved → jog_moved ≡ moved_now (accepted_jog (kind_told j.line.accepted)) j.line j.jog_moved
    → StandsAlike j (record j { line = l; in_hand = false; moved = moved; jog_moved = jog_moved; answered = answered; code = code; settled = settled }) first sent replies records s
unfolding line_closed
closes j now l moved jog_moved answered code settled first sent replies records s done stands new answered_is code_is settled_is moved_is jog_is = record {
  there =
      line_closed j l moved jog_moved answered code settled first sent replies records s done new moved_is jog_is
      (λ u e. s.owes_behind u (sym (ap is_whole (answered_is ∙ ap (λ (b : Bool). cond b now j.answered) (not_here j.in_hand j.unanswered u))) ∙ e))
      (subst (λ (x : Ticks). KnowsTicks (record j { answered = x; code = code; settled = settled }) s.since [] s.made) (sym answered_is)
      (subst (λ (x : Ticks). KnowsTicks (record j { answered = cond ((j.in_hand && not j.unanswered) && true) now j.answered; code = x; settled = settled }) s.since [] s.made) (sym code_is)
      (subst (λ (x : Ticks). KnowsTicks (record j {
        answered = cond ((j.in_hand && not j.unanswered) && true) now j.answered;
        code = cond ((j.in_hand && not j.unanswered) && (not (accepted_jog (kind_told j.line.accepted)) && j.line.asks)) now j.code;
        settled = x;
      }) s.since [] s.made) (sym settled_is)
      (ticks_closed j now first sent replies records s done stands j.in_hand j.unanswered refl refl))));
  point = refl;
  since = refl;
  begun = refl;
  from = refl;
  made = refl;
} where
  not_here : (b u : Bool) → u ≡ true → ((b && not u) && true) ≡ false
  not_here true true e = refl
  not_here true false e = absurd cc
  not_here false u e = refl
