-- A line is begun.
use Rattle.std.proofs.Common.{◌≡◌, ◌≤◌, ℕ, ◌+◌, Bool, true, false, cond, not, ◌&&◌, ◌||◌, List, [], ◌∷◌, ◌++◌, length, append-nil, append_assoc, refl, sym, ap, ◌∙◌, subst, arith}
use Rattle.std.specs.List.{AllByRecursion, list_any}
use Rattle.flight.specs.Places.{origin}
use Rattle.status_report.specs.declared.Reply.{Reply}
use Rattle.step_line.specs.Asking.{ticks_of_all, moves_of}
use Rattle.step_line.specs.declared.Record.{Record}
use Rattle.step_line.specs.declared.planned_move.PlannedMove.{PlannedMove}
use Rattle.system_lines.specs.Commands.{kind_of}
use Rattle.run_rules.specs.declared.State.{State}
use Rattle.run_rules.specs.Cuts.{ticks_for}
use Rattle.run_rules.specs.Locking.{is_unlock}
use Rattle.run_rules.specs.declared.machine.Machine.{Machine}
use Rattle.run_rules.specs.declared.machine.Machine.TheVariants.{Stands, Locked}
use Rattle.run_rules.specs.Finding.{Found}
use Rattle.run_rules.specs.Outcomes.{Before, jogged_behind, either}
use Rattle.run_rules.proofs.Finding.{becomes_still, becomes_locked}
use Rattle.run_rules.specs.Reports.{raises_alarm, settles}
use Rattle.run_rules.specs.Work.{Task, Outcome, tells, asks, has_moves, is_limit, accepted_code, accepted_jog}
use Rattle.line_interpreter.specs.Desks.{kind_told}
use Rattle.line_interpreter.specs.Interpreting.{Interpreting, stands_before}
use Rattle.line_interpreter.specs.Since.{Since, before_line}
use Rattle.run_rules.proofs.Each.{by_either}
use Rattle.line_interpreter.specs.declared.desk.Accepted.{Accepted}
use Rattle.line_interpreter.specs.declared.desk.Accepted.TheVariants.{Code}
use Rattle.part_making.specs.Judging.{Known, making, rest_of, all_ticks, all_moves}
use Rattle.run_texts.specs.Making.{Making, IsMade, with_line}
use Rattle.run_texts.specs.Recorded.{ticks_for_all}
use Rattle.run_texts.specs.Points.{Point, BecomesAt, behind_line, behind_broken, opening}
use Rattle.run_texts.specs.Sent.{Sent}
use Rattle.run_texts.specs.Sent.Sent.{a_text}
use Rattle.run_texts.specs.SoFar.{Reaches}
use Rattle.run_texts.proofs.Making.{line_made}
use Rattle.run_texts.proofs.Reaching.{reaches_broken, reaches_line}
use Rattle.run_texts.proofs.Tasks.{short_work}
use Rattle.audit_course.specs.declared.Progress.{Progress}
use Rattle.audit_course.specs.declared.judge.CourseJudge.{CourseJudge}
use Rattle.audit_course.specs.declared.ticks.Ticks.{Ticks}
use Rattle.audit_course.specs.Progressing.{has_ticks, has_halt, ends_none, is_code, ticks_to, IsNew}
use Rattle.audit_course.specs.SoFar.{GoesTo, HasJudged, KnowsTicks, AreSo, OfLine, IsBare, OwesBehind, EndsLate, MayBegin, Knows, FindsRight, FindsStill, HasWorkOf, left_to_tell, texts_among}
use Rattle.audit_course.specs.Heard.{KnowsPoint, TellsFound}
use Rattle.audit_course.proofs.Counting.{texts_on}
use Rattle.audit_course.proofs.Going.{by_line, by_broken}
use Rattle.audit_course.proofs.Parting.{none_of}
use Rattle.audit_course.proofs.Passing.{same_moved}
use Rattle.audit_course.proofs.Ending.{moved_closed}
use Rattle.audit_course.proofs.Forced.{comes_before, behind_made, forced_line, forced_broken}
use Rattle.audit_course.proofs.Finding.{still_may}
use Rattle.audit_course.proofs.Outcomes.{SaysOf, becomes_says, locked_says}

-- what a line is judged to become, from a point
pub record IsJudged (j : CourseJudge) (p : Point) (runs : Bool) (kept : List ℕ) (o : Outcome) (w : Interpreting) (l : Progress) : Type 0 where
  pub becomes : BecomesAt runs p kept o
  pub says : SaysOf o
  pub work : w ≡ record { state = o.next; number = j.work.number + 1; left = o.work }
  pub is_new : IsNew l

pub no_alarm : (j : CourseJudge) (p : Point) (hand : List Outcome) → OfLine j p hand → MayBegin j → p.before.alarmed ≡ false
no_alarm j p hand o b =
    let none : (j.line.halts || has_halt j.work.left) ≡ false = ap (λ (t : Bool). t || has_halt j.work.left) b.calm ∙ ap has_halt b.done in
    o.alarmed ∙ ap (λ (u : Bool). not u && o.limit) b.answered ∙ (sym o.halts ∙ none)

pub none_to_tell : (j : CourseJudge) → MayBegin j → left_to_tell j ≡ []
none_to_tell j b = ap (λ (ts : List Task). cond j.unanswered [] (tells ts)) b.done ∙ by j.unanswered where
  by : (u : Bool) → cond u [] (tells []) ≡ []
  by true = refl
  by false = refl

-- what is asked for behind what was
making_more : (k : Known) (ticks more : List Record) (moves others : List PlannedMove) → (o : Outcome) → more ≡ ticks_for o → others ≡ moves_of (asks o.work)
    → with_line o (making k ticks moves) ≡ making k (ticks ++ more) (moves ++ others)
making_more k ticks more moves others o e f =
    let one : (rest_of k.latest ++ (all_ticks k.next ++ ticks)) ++ ticks_for o ≡ rest_of k.latest ++ (all_ticks k.next ++ (ticks ++ more)) =
    ap (λ (rs : List Record). (rest_of k.latest ++ (all_ticks k.next ++ ticks)) ++ rs) (sym e) ∙ append_assoc (rest_of k.latest) (all_ticks k.next ++ ticks) more
    ∙ ap (λ (rs : List Record). rest_of k.latest ++ rs) (append_assoc (all_ticks k.next) ticks more) in
    let two : (all_moves k.next ++ moves) ++ moves_of (asks o.work) ≡ all_moves k.next ++ (moves ++ others) =
    ap (λ (ms : List PlannedMove). (all_moves k.next ++ moves) ++ ms) (sym f) ∙ append_assoc (all_moves k.next) moves others in
    ap (λ (rs : List Record). record (making k ticks moves) { owed = rs; left = (all_moves k.next ++ moves) ++ moves_of (asks o.work) }) one
    ∙ ap (λ (ms : List PlannedMove). record (making k ticks moves) { owed = rest_of k.latest ++ (all_ticks k.next ++ (ticks ++ more)); left = ms }) two

asked_more : (j : CourseJudge) (first : State) (sent : List Sent) (replies : List Reply) (records : List Record) (s : HasJudged j first sent replies records) → j.work.left ≡ [] → j.lost ≡ false → (s.ticks ≡ []) × (s.moves ≡ [])
asked_more j first sent replies records s done kept = let a = s.asked kept in (a.0 ∙ ap (λ (ts : List Task). ticks_of_all (asks ts)) done, a.1 ∙ ap (λ (ts : List Task). moves_of (asks ts)) done)

pub or_true : (a b : Bool) → b ≡ true → (a || b) ≡ true
or_true true b e = refl
or_true false b e = e

-- what has moved behind a line
cond_not : (s a : Bool) → cond s false a ≡ (not s && a)
cond_not true a = refl
cond_not false a = refl

moved_line : (settles of_kind moves before s k now was : Bool) → settles ≡ s → of_kind ≡ k → before ≡ was → now ≡ was → cond settles false (of_kind && moves || before) ≡ (not s && (k && moves || now))
moved_line settles of_kind moves before s k now was es ek eb en = cond_not settles (of_kind && moves || before) ∙ same_moved settles s of_kind k moves before now es ek (eb ∙ sym en)

-- what is known of the ticks of the lines before it stays
knows_same : (j k : CourseJudge) (before since hand : List Outcome) (made : List Record) → since ≡ before ++ hand → k.part ≡ j.part → k.lost ≡ j.lost → k.answered ≡ j.answered → k.code ≡ j.code → k.settled ≡ j.settled
    → AreSo j.answered (length (ticks_for_all before)) j.part j.lost made → AreSo j.code (ticks_to is_code before) j.part j.lost made → AreSo j.settled (ticks_to settles before) j.part j.lost made → KnowsTicks k since hand made
knows_same j k before since hand made split part lost answered_is code_is settled_is answered code settled =
    let same : (t u : Ticks) (n : ℕ) → u ≡ t → AreSo t n j.part j.lost made → AreSo u n k.part k.lost made = λ t u n e s.
    subst (λ (x : Ticks). AreSo x n k.part k.lost made) (sym e) (subst (λ (x : Known). AreSo t n x k.lost made) (sym part) (subst (λ (x : Bool). AreSo t n j.part x made) (sym lost) s)) in
    record {
      before = before;
      split = split;
      answered = same j.answered k.answered (length (ticks_for_all before)) answered_is answered;
      code = same j.code k.code (ticks_to is_code before) code_is code;
      settled = same j.settled k.settled (ticks_to settles before) settled_is settled;
    }

-- ---- a line that is answered

pub line_of : (j k : CourseJudge) (p : Point) (hand : List Outcome) (kept : List ℕ) (o : Outcome) (w : Interpreting) → OfLine j p hand → MayBegin j → IsJudged j p true kept o w k.line → k.work ≡ w → kind_told k.line.accepted ≡ o.kind → k.line.settles ≡ o.settles
    → k.moved ≡ j.moved → k.jog_moved ≡ j.jog_moved → k.unanswered ≡ false → k.in_hand ≡ true → k.jogged ≡ jogged_behind o.kind j.jogged → OfLine k (behind_line p kept o) (o ∷ [])
line_of j k p hand kept o w was b judged work kind settles moved jog_moved answered in_hand jogged = record {
  work = o.work;
  limit = is_limit o.answer;
  moves = ap (λ (t : Bool). t || has_moves k.work.left) judged.is_new.moves ∙ ap has_moves left;
  ticks = ap (λ (t : Bool). t || has_ticks k.work.left) judged.is_new.asks ∙ ap has_ticks left;
  halts = ap (λ (t : Bool). t || has_halt k.work.left) judged.is_new.halts ∙ ap has_halt left ∙ judged.says.halts;
  marks = subst (AllByRecursion (λ (x : Task). ends_none x ≡ true)) (sym left) judged.says.marks;
  moved = moved_line o.settles (accepted_code o.kind) (has_moves o.work) p.before.moved k.line.settles (accepted_code (kind_told k.line.accepted)) k.moved j.moved (sym settles) (ap accepted_code (sym kind)) was_moved.0 moved;
  jog_moved = moved_line o.settles (accepted_jog o.kind) (has_moves o.work) p.before.jog_moved k.line.settles (accepted_jog (kind_told k.line.accepted)) k.jog_moved j.jog_moved (sym settles) (ap accepted_jog (sym kind)) was_moved.1 jog_moved;
  jogged = ap (jogged_behind o.kind) was.jogged ∙ sym jogged;
  alarmed = ap (λ (u : Bool). not u && is_limit o.answer) (sym answered);
  unheld = λ e. absurd (let f : false ≡ true = sym answered ∙ e in cc);
  none = λ e. absurd (let f : true ≡ false = sym in_hand ∙ e in cc);
  held = λ e u. (o, refl);
  are = ((refl, sym settles, sym kind), tt);
} where
  left : k.work.left ≡ o.work
  left = ap (λ (i : Interpreting). i.left) (work ∙ judged.work)

  was_moved : (p.before.moved ≡ j.moved) × (p.before.jog_moved ≡ j.jog_moved)
  was_moved = moved_closed j p hand was b.closed

any_last : (os : List Outcome) (o : Outcome) → raises_alarm o ≡ true → list_any raises_alarm (os ++ o ∷ []) ≡ true
any_last [] o e = or_true' (raises_alarm o) e where
  or_true' : (t : Bool) → t ≡ true → (t || false) ≡ true
  or_true' true f = refl
  or_true' false f = f
any_last (x ∷ os) o e = or_true (raises_alarm x) (list_any raises_alarm (os ++ o ∷ [])) (any_last os o e)

none_last : (os : List Outcome) (o : Outcome) → list_any raises_alarm os ≡ false → raises_alarm o ≡ false → list_any raises_alarm (os ++ o ∷ []) ≡ false
none_last [] o none e = ap (λ (t : Bool). t || false) e
none_last (x ∷ os) o none e = both (raises_alarm x) (list_any raises_alarm os) (list_any raises_alarm (os ++ o ∷ [])) none (none_last os o) e where
  both : (a c d : Bool) → (a || c) ≡ false → (c ≡ false → raises_alarm o ≡ false → d ≡ false) → raises_alarm o ≡ false → (a || d) ≡ false
  both true c d n f e = absurd cc
  both false c d n f e = f n e

pub line_begun : (j k : CourseJudge) (kept : List ℕ) (o : Outcome) (w : Interpreting) (first : State) (sent : List Sent) (replies : List Reply) (records : List Record) (s : HasJudged j first sent replies records)
    → MayBegin j → IsJudged j s.point true kept o w k.line → kind_told k.line.accepted ≡ o.kind → k.line.settles ≡ o.settles
    → k.jogged ≡ jogged_behind o.kind j.jogged → k.locked ≡ (j.locked && not (is_unlock (kind_of kept)))
    → k ≡ record j { work = w; state = o.next; locked = k.locked; has_line = true; in_hand = true; jogged = k.jogged; line = k.line }
    → HasJudged k first (sent ++ a_text kept ∷ []) replies records
line_begun j k kept o w first sent replies records s b judged kind settles jogged locked is = record {
  point = behind_line s.point kept o;
  number = ap (λ (n : ℕ). n + 1) s.number ∙ sym (ap (λ (i : Interpreting). i.number) work);
  state = sym (ap (λ (x : CourseJudge). x.state) is);
  same_state = λ e. ap (λ (x : CourseJudge). x.state) is ∙ sym (ap (λ (i : Interpreting). i.state) work);
  locked = ap (λ (t : Bool). t && not (is_unlock (kind_of kept))) s.locked ∙ sym locked;
  has_line = sym (ap (λ (x : CourseJudge). x.has_line) is);
  unanswered = sym answered;
  hand = o ∷ [];
  line = line_of j k s.point s.hand kept o w s.line b judged (ap (λ (x : CourseJudge). x.work) is) kind settles (ap (λ (x : CourseJudge). x.moved) is) (ap (λ (x : CourseJudge). x.jog_moved) is) answered (ap (λ (x : CourseJudge). x.in_hand) is) jogged;
  since = s.since ++ o ∷ [];
  begun = s.begun;
  none_begun = λ e. s.none_begun b.answered;
  from = s.from;
  made = s.made;
  stands = ap (λ (x : CourseJudge). x.place) is ∙ s.stands;
  ticks = s.ticks ++ ticks_for o;
  moves = s.moves ++ moves_of (asks o.work);
  asked = λ e.
      let a = asked_more j first sent replies records s b.done (sym (ap (λ (x : CourseJudge). x.lost) is) ∙ e) in
      (ap (λ (rs : List Record). rs ++ ticks_for o) a.0 ∙ ap (λ (ts : List Task). ticks_of_all (asks ts)) (sym left), ap (λ (ms : List PlannedMove). ms ++ moves_of (asks o.work)) a.1 ∙ ap (λ (ts : List Task). moves_of (asks ts)) (sym left));
  loses_some = λ e none. s.loses_some (sym (ap (λ (x : CourseJudge). x.lost) is) ∙ e) (none_of s.ticks (ticks_for o) none).0;
  is_made = is_made;
  untouched = λ u t. absurd (let f : false ≡ true = sym answered ∙ u in cc);
  owes_behind = λ u. absurd (let f : false ≡ true = sym answered ∙ u in cc);
  touched = λ u. absurd (let f : false ≡ true = sym answered ∙ u in cc);
  knows = knows_same j k s.knows.before (s.since ++ o ∷ []) (o ∷ []) s.made (ap (λ (os : List Outcome). os ++ o ∷ []) (s.knows.split ∙ ap (λ (os : List Outcome). s.knows.before ++ os) (s.line.none b.closed).none ∙ append-nil s.knows.before))
      (ap (λ (x : CourseJudge). x.part) is) (ap (λ (x : CourseJudge). x.lost) is) (ap (λ (x : CourseJudge). x.answered) is) (ap (λ (x : CourseJudge). x.code) is) (ap (λ (x : CourseJudge). x.settled) is) s.knows.answered s.knows.code s.knows.settled;
  alarm = λ e. any_last s.since o e;
  calm = λ e. none_last s.since o (s.calm (no_alarm j s.point s.hand s.line b)) e;
  at_hand = λ e. absurd (let f : true ≡ false = sym (ap (λ (x : CourseJudge). x.in_hand) is) ∙ e in cc);
  events = ap (λ (x : CourseJudge). x.events) is ∙ s.events;
  counted = ap (λ (x : CourseJudge). x.cuts) is ∙ s.counted;
  numbered = (let one : texts_among (sent ++ a_text kept ∷ []) ≡ texts_among sent + 1 = texts_on sent (a_text kept ∷ []) in
      let here : k.work.number ≡ j.work.number + 1 = ap (λ (i : Interpreting). i.number) work in
      let before = s.numbered in
      omega (arith, one, here, before));
  whole = ap (λ (x : CourseJudge). x.place) is ∙ s.whole;
  reached =
      subst (λ (rs : List Reply). Reaches first (sent ++ a_text kept ∷ []) rs records (behind_line s.point kept o) (s.since ++ o ∷ []) s.begun s.from s.made)
      (ap (λ (rs : List Reply). rs ++ tells o.work) none_before ∙ ap (λ (rs : List Reply). replies ++ rs) (sym tell))
      (reaches_line first sent (replies ++ left_to_tell j) records s.point s.since s.begun s.from s.made kept o s.reached (record { free = no_alarm j s.point s.hand s.line b; answered = s.unanswered ∙ b.answered; becomes = judged.becomes }));
  back = λ n more told rest last g.
      let cuts : k.cuts ≡ j.cuts = ap (λ (x : CourseJudge). x.cuts) is in
      let before = s.back n (a_text kept ∷ more) (tells o.work ++ told) rest last (by_line s.point last s.since s.begun s.from n kept o more told (s.made ++ rest) (record { free = no_alarm j s.point s.hand s.line b; answered = s.unanswered ∙ b.answered; becomes = judged.becomes }) g) in
      subst (λ (c : ℕ). GoesTo (opening first) [] [] origin (n + c) ((sent ++ a_text kept ∷ []) ++ more) (replies ++ (left_to_tell k ++ told)) (records ++ rest) last) (sym cuts)
      (subst (λ (ss : List Sent). GoesTo (opening first) [] [] origin (n + j.cuts) ss (replies ++ (left_to_tell k ++ told)) (records ++ rest) last) (sym (append_assoc sent (a_text kept ∷ []) more))
      (subst (λ (rs : List Reply). GoesTo (opening first) [] [] origin (n + j.cuts) (sent ++ a_text kept ∷ more) (replies ++ rs) (records ++ rest) last)
      (ap (λ (rs : List Reply). rs ++ (tells o.work ++ told)) (none_to_tell j b) ∙ ap (λ (rs : List Reply). rs ++ told) (sym tell)) before));
  forth = λ n more told rest last may g.
      let cuts : k.cuts ≡ j.cuts = ap (λ (x : CourseJudge). x.cuts) is in
      let late : EndsLate (j.work.number + 1) rest = subst (λ (m : ℕ). EndsLate m rest) (ap (λ (i : Interpreting). i.number) work) may.late in
      forced_line s.point last s.since s.begun s.from n kept o more told (s.made ++ rest) (no_alarm j s.point s.hand s.line b) judged.becomes
      (behind_made (s.point.before.number + 1) s.made rest s.is_made.inside (subst (λ (m : ℕ). EndsLate (m + 1) rest) (sym s.number) late))
      (s.forth n (a_text kept ∷ more) (tells o.work ++ told) rest last
      (record { late = comes_before j.work.number (j.work.number + 1) rest (omega arith) late; resets = λ u. absurd (let f : false ≡ true = sym b.answered ∙ u in cc) })
      (subst (λ (rs : List Reply). GoesTo (opening first) [] [] origin (n + j.cuts) (sent ++ a_text kept ∷ more) (replies ++ rs) (records ++ rest) last)
      (sym (ap (λ (rs : List Reply). rs ++ (tells o.work ++ told)) (none_to_tell j b) ∙ ap (λ (rs : List Reply). rs ++ told) (sym tell)))
      (subst (λ (ss : List Sent). GoesTo (opening first) [] [] origin (n + j.cuts) ss (replies ++ (left_to_tell k ++ told)) (records ++ rest) last) (append_assoc sent (a_text kept ∷ []) more)
      (subst (λ (c : ℕ). GoesTo (opening first) [] [] origin (n + c) ((sent ++ a_text kept ∷ []) ++ more) (replies ++ (left_to_tell k ++ told)) (records ++ rest) last) cuts g))));
} where
  work : k.work ≡ record { state = o.next; number = j.work.number + 1; left = o.work }
  work = ap (λ (x : CourseJudge). x.work) is ∙ judged.work

  left : k.work.left ≡ o.work
  left = ap (λ (i : Interpreting). i.left) work

  answered : k.unanswered ≡ false
  answered = ap (λ (x : CourseJudge). x.unanswered) is ∙ b.answered

  tell : left_to_tell k ≡ tells o.work
  tell = ap (λ (u : Bool). cond u [] (tells k.work.left)) answered ∙ ap tells left

  none_before : replies ++ left_to_tell j ≡ replies
  none_before = ap (λ (rs : List Reply). replies ++ rs) (none_to_tell j b) ∙ append-nil replies

  is_made : IsMade ((s.since ++ o ∷ []) ++ s.begun) s.made (making k.part (s.ticks ++ ticks_for o) (s.moves ++ moves_of (asks o.work)))
  is_made =
      let none : s.begun ≡ [] = s.none_begun b.answered in
      let bare : IsMade s.since s.made (making j.part s.ticks s.moves) = subst (λ (os : List Outcome). IsMade os s.made (making j.part s.ticks s.moves)) (ap (λ (os : List Outcome). s.since ++ os) none ∙ append-nil s.since) s.is_made in
      let more : IsMade (s.since ++ o ∷ []) s.made (with_line o (making j.part s.ticks s.moves)) = line_made s.since s.made (making j.part s.ticks s.moves) o bare in
      let same : with_line o (making j.part s.ticks s.moves) ≡ making k.part (s.ticks ++ ticks_for o) (s.moves ++ moves_of (asks o.work)) =
      making_more j.part s.ticks (ticks_for o) s.moves (moves_of (asks o.work)) o refl refl ∙ ap (λ (x : Known). making x (s.ticks ++ ticks_for o) (s.moves ++ moves_of (asks o.work))) (sym (ap (λ (x : CourseJudge). x.part) is)) in
      subst (λ (os : List Outcome). IsMade os s.made (making k.part (s.ticks ++ ticks_for o) (s.moves ++ moves_of (asks o.work)))) (sym (ap (λ (os : List Outcome). (s.since ++ o ∷ []) ++ os) none ∙ append-nil (s.since ++ o ∷ [])))
      (subst (λ (m : Making). IsMade (s.since ++ o ∷ []) s.made m) same more)

-- ---- a line that a reset keeps from its answer

bare_made : (j : CourseJudge) (first : State) (sent : List Sent) (replies : List Reply) (records : List Record) (s : HasJudged j first sent replies records) → j.unanswered ≡ false → IsMade s.since s.made (making j.part s.ticks s.moves)
bare_made j first sent replies records s answered =
    subst (λ (os : List Outcome). IsMade os s.made (making j.part s.ticks s.moves)) (ap (λ (os : List Outcome). s.since ++ os) (s.none_begun answered) ∙ append-nil s.since) s.is_made

pub broken_of : (j k : CourseJudge) (p : Point) (hand : List Outcome) (kept : List ℕ) (o : Outcome) (w : Interpreting) → OfLine j p hand → MayBegin j → IsJudged j p false kept o w k.line → k.work ≡ w → kind_told k.line.accepted ≡ kind_told Code → k.line.settles ≡ false
    → k.moved ≡ j.moved → k.jog_moved ≡ j.jog_moved → k.unanswered ≡ true → k.in_hand ≡ true → k.jogged ≡ j.jogged → OfLine k (behind_broken p o) []
broken_of j k p hand kept o w was b judged work kind settles moved jog_moved broken in_hand jogged = record {
  work = o.work;
  limit = has_halt o.work;
  moves = ap (λ (t : Bool). t || has_moves k.work.left) judged.is_new.moves ∙ ap has_moves left;
  ticks = ap (λ (t : Bool). t || has_ticks k.work.left) judged.is_new.asks ∙ ap has_ticks left;
  halts = ap (λ (t : Bool). t || has_halt k.work.left) judged.is_new.halts ∙ ap has_halt left;
  marks = subst (AllByRecursion (λ (x : Task). ends_none x ≡ true)) (sym left) judged.says.marks;
  moved = moved_line false true (has_moves o.work) p.before.moved k.line.settles (accepted_code (kind_told k.line.accepted)) k.moved j.moved (sym settles) (ap accepted_code (sym kind)) was_moved.0 moved;
  jog_moved = moved_line false false (has_moves o.work) p.before.jog_moved k.line.settles (accepted_jog (kind_told k.line.accepted)) k.jog_moved j.jog_moved (sym settles) (ap accepted_jog (sym kind)) was_moved.1 jog_moved;
  jogged = was.jogged ∙ sym jogged;
  alarmed = no_alarm j p hand was b ∙ ap (λ (u : Bool). not u && has_halt o.work) (sym broken);
  unheld = λ e. refl;
  none = λ e. absurd (let f : true ≡ false = sym in_hand ∙ e in cc);
  held = λ e u. absurd (let f : true ≡ false = sym broken ∙ u in cc);
  are = tt;
} where
  left : k.work.left ≡ o.work
  left = ap (λ (i : Interpreting). i.left) (work ∙ judged.work)

  was_moved : (p.before.moved ≡ j.moved) × (p.before.jog_moved ≡ j.jog_moved)
  was_moved = moved_closed j p hand was b.closed

pub line_broken : (j k : CourseJudge) (kept : List ℕ) (o : Outcome) (w : Interpreting) (first : State) (sent : List Sent) (replies : List Reply) (records : List Record) (s : HasJudged j first sent replies records)
    → MayBegin j → IsJudged j s.point false kept o w k.line → kind_told k.line.accepted ≡ kind_told Code → k.line.settles ≡ false
    → k ≡ record j { work = w; has_line = true; unanswered = true; touched = false; in_hand = true; line = k.line }
    → HasJudged k first (sent ++ a_text kept ∷ []) replies records
line_broken j k kept o w first sent replies records s b judged kind settles is = record {
  point = behind_broken s.point o;
  number = ap (λ (n : ℕ). n + 1) s.number ∙ sym (ap (λ (i : Interpreting). i.number) work);
  state = s.state ∙ sym (ap (λ (x : CourseJudge). x.state) is);
  same_state = λ e. absurd (let f : true ≡ false = sym broken ∙ e in cc);
  locked = s.locked ∙ sym (ap (λ (x : CourseJudge). x.locked) is);
  has_line = sym (ap (λ (x : CourseJudge). x.has_line) is);
  unanswered = sym broken;
  hand = [];
  line = broken_of j k s.point s.hand kept o w s.line b judged (ap (λ (x : CourseJudge). x.work) is) kind settles (ap (λ (x : CourseJudge). x.moved) is) (ap (λ (x : CourseJudge). x.jog_moved) is) broken (ap (λ (x : CourseJudge). x.in_hand) is) (ap (λ (x : CourseJudge). x.jogged) is);
  since = s.since;
  begun = s.begun ++ o ∷ [];
  none_begun = λ e. absurd (let f : true ≡ false = sym broken ∙ e in cc);
  from = s.from;
  made = s.made;
  stands = ap (λ (x : CourseJudge). x.place) is ∙ s.stands;
  ticks = s.ticks ++ ticks_for o;
  moves = s.moves ++ moves_of (asks o.work);
  asked = λ e.
      let a = asked_more j first sent replies records s b.done (sym (ap (λ (x : CourseJudge). x.lost) is) ∙ e) in
      (ap (λ (rs : List Record). rs ++ ticks_for o) a.0 ∙ ap (λ (ts : List Task). ticks_of_all (asks ts)) (sym left), ap (λ (ms : List PlannedMove). ms ++ moves_of (asks o.work)) a.1 ∙ ap (λ (ts : List Task). moves_of (asks ts)) (sym left));
  loses_some = λ e none. s.loses_some (sym (ap (λ (x : CourseJudge). x.lost) is) ∙ e) (none_of s.ticks (ticks_for o) none).0;
  is_made = subst (λ (os : List Outcome). IsMade os s.made (making k.part (s.ticks ++ ticks_for o) (s.moves ++ moves_of (asks o.work)))) (append_assoc s.since s.begun (o ∷ []))
      (subst (λ (m : Making). IsMade ((s.since ++ s.begun) ++ o ∷ []) s.made m) same (line_made (s.since ++ s.begun) s.made (making j.part s.ticks s.moves) o s.is_made));
  untouched = λ u t. subst (λ (x : Known). IsBare s.since s.made x.latest) (sym (ap (λ (x : CourseJudge). x.part) is))
      (record { making = making j.part s.ticks s.moves; is = bare_made j first sent replies records s b.answered; out = refl; head = refl });
  owes_behind = λ u e. subst (OwesBehind s.since s.made) (sym (ap (λ (x : CourseJudge). x.part) is)) (record { ticks = s.ticks; moves = s.moves; is = bare_made j first sent replies records s b.answered });
  touched = λ u e. absurd (let f : false ≡ true = sym (ap (λ (x : CourseJudge). x.touched) is) ∙ e in cc);
  knows = knows_same j k s.knows.before s.since [] s.made (s.knows.split ∙ ap (λ (os : List Outcome). s.knows.before ++ os) (s.line.none b.closed).none)
      (ap (λ (x : CourseJudge). x.part) is) (ap (λ (x : CourseJudge). x.lost) is) (ap (λ (x : CourseJudge). x.answered) is) (ap (λ (x : CourseJudge). x.code) is) (ap (λ (x : CourseJudge). x.settled) is) s.knows.answered s.knows.code s.knows.settled;
  alarm = s.alarm;
  calm = s.calm;
  at_hand = λ e. absurd (let f : true ≡ false = sym (ap (λ (x : CourseJudge). x.in_hand) is) ∙ e in cc);
  events = ap (λ (x : CourseJudge). x.events) is ∙ s.events;
  counted = ap (λ (x : CourseJudge). x.cuts) is ∙ s.counted;
  numbered = (let one : texts_among (sent ++ a_text kept ∷ []) ≡ texts_among sent + 1 = texts_on sent (a_text kept ∷ []) in
      let here : k.work.number ≡ j.work.number + 1 = ap (λ (i : Interpreting). i.number) work in
      let before = s.numbered in
      omega (arith, one, here, before));
  whole = ap (λ (x : CourseJudge). x.place) is ∙ s.whole;
  reached =
      subst (λ (rs : List Reply). Reaches first (sent ++ a_text kept ∷ []) (replies ++ rs) records (behind_broken s.point o) s.since (s.begun ++ o ∷ []) s.from s.made) (none_to_tell j b ∙ sym tell)
      (reaches_broken first sent (replies ++ left_to_tell j) records s.point s.since s.begun s.from s.made kept o s.reached (record { free = no_alarm j s.point s.hand s.line b; answered = s.unanswered ∙ b.answered; becomes = judged.becomes }));
  back = λ n more told rest last g.
      let cuts : k.cuts ≡ j.cuts = ap (λ (x : CourseJudge). x.cuts) is in
      let before = s.back n (a_text kept ∷ more) told rest last (by_broken s.point last s.since s.begun s.from n kept o more told (s.made ++ rest) (record { free = no_alarm j s.point s.hand s.line b; answered = s.unanswered ∙ b.answered; becomes = judged.becomes }) g) in
      subst (λ (c : ℕ). GoesTo (opening first) [] [] origin (n + c) ((sent ++ a_text kept ∷ []) ++ more) (replies ++ (left_to_tell k ++ told)) (records ++ rest) last) (sym cuts)
      (subst (λ (ss : List Sent). GoesTo (opening first) [] [] origin (n + j.cuts) ss (replies ++ (left_to_tell k ++ told)) (records ++ rest) last) (sym (append_assoc sent (a_text kept ∷ []) more))
      (subst (λ (rs : List Reply). GoesTo (opening first) [] [] origin (n + j.cuts) (sent ++ a_text kept ∷ more) (replies ++ (rs ++ told)) (records ++ rest) last)
      (none_to_tell j b ∙ sym tell) before));
  forth = λ n more told rest last may g.
      let cuts : k.cuts ≡ j.cuts = ap (λ (x : CourseJudge). x.cuts) is in
      let late : EndsLate (j.work.number + 1) rest = subst (λ (m : ℕ). EndsLate m rest) (ap (λ (i : Interpreting). i.number) work) may.late in
      forced_broken s.point last s.since s.begun s.from n kept o more told (s.made ++ rest) (no_alarm j s.point s.hand s.line b) judged.becomes
      (behind_made (s.point.before.number + 1) s.made rest s.is_made.inside (subst (λ (m : ℕ). EndsLate (m + 1) rest) (sym s.number) late)) (may.resets broken)
      (s.forth n (a_text kept ∷ more) told rest last
      (record { late = comes_before j.work.number (j.work.number + 1) rest (omega arith) late; resets = λ u. absurd (let f : false ≡ true = sym b.answered ∙ u in cc) })
      (subst (λ (rs : List Reply). GoesTo (opening first) [] [] origin (n + j.cuts) (sent ++ a_text kept ∷ more) (replies ++ (rs ++ told)) (records ++ rest) last)
      (tell ∙ sym (none_to_tell j b))
      (subst (λ (ss : List Sent). GoesTo (opening first) [] [] origin (n + j.cuts) ss (replies ++ (left_to_tell k ++ told)) (records ++ rest) last) (append_assoc sent (a_text kept ∷ []) more)
      (subst (λ (c : ℕ). GoesTo (opening first) [] [] origin (n + c) ((sent ++ a_text kept ∷ []) ++ more) (replies ++ (left_to_tell k ++ told)) (records ++ rest) last) cuts g))));
} where
  work : k.work ≡ record { state = o.next; number = j.work.number + 1; left = o.work }
  work = ap (λ (x : CourseJudge). x.work) is ∙ judged.work

  left : k.work.left ≡ o.work
  left = ap (λ (i : Interpreting). i.left) work

  broken : k.unanswered ≡ true
  broken = ap (λ (x : CourseJudge). x.unanswered) is

  tell : left_to_tell k ≡ []
  tell = ap (λ (u : Bool). cond u [] (tells k.work.left)) broken

  same : with_line o (making j.part s.ticks s.moves) ≡ making k.part (s.ticks ++ ticks_for o) (s.moves ++ moves_of (asks o.work))
  same = making_more j.part s.ticks (ticks_for o) s.moves (moves_of (asks o.work)) o refl refl ∙ ap (λ (x : Known). making x (s.ticks ++ ticks_for o) (s.moves ++ moves_of (asks o.work))) (sym (ap (λ (x : CourseJudge). x.part) is))

-- ---- as it is found

pub says_at : (p : Point) (kept : List ℕ) (o : Outcome) → BecomesAt true p kept o → SaysOf o
says_at p kept o is = by_either p.locked _ _ _ (λ e. locked_says p.before kept o) (λ e. becomes_says p.before kept o) is

pub says_still : (p : Point) (kept : List ℕ) (o : Outcome) → BecomesAt false p kept o → SaysOf o
says_still p kept o is = by_either p.locked _ _ _ (λ e. locked_says p.before kept o) (λ e still. becomes_says p.before kept o (still_may p.before kept o still)) is

-- what is known of where the course stands, whatever is known of its records
pub judged_point : (j : CourseJudge) (first : State) (sent : List Sent) (replies : List Reply) (records : List Record) (s : HasJudged j first sent replies records) → KnowsPoint j s.point s.hand
judged_point j first sent replies records s = record { number = s.number; state = s.state; same_state = s.same_state; locked = s.locked; unanswered = s.unanswered; line = s.line; at_hand = s.at_hand }

pub known_at : (j : CourseJudge) (p : Point) (hand : List Outcome) → KnowsPoint j p hand → MayBegin j → Knows j p
known_at j p hand is b =
    let m = moved_closed j p hand is.line b.closed in
    record { locked = is.locked; moved = m.0; jog_moved = m.1; jogged = is.line.jogged }

-- what stands before the line is what the interpreter has, with what the lines before have moved
pub since_at : Point → Since
since_at p = record { moved = p.before.moved; jog_moved = p.before.jog_moved; jogged = p.before.jogged; alarmed = p.before.alarmed }

pub stands_there : (j : CourseJudge) (p : Point) (hand : List Outcome) → KnowsPoint j p hand → MayBegin j → stands_before j.work (since_at p) ≡ p.before
unfolding since_at
stands_there j p hand is b =
    ap (λ (n : ℕ). before_line n j.work.state (since_at p)) (sym is.number)
    ∙ ap (λ (x : State). before_line p.before.number x (since_at p)) (sym (is.state ∙ is.same_state b.answered))

pub taken_true : (t : Bool) (A B : Type 0) → t ≡ true → A → either t A B
taken_true true A B e a = a
taken_true false A B e a = absurd cc

pub taken_false : (t : Bool) (A B : Type 0) → t ≡ false → B → either t A B
taken_false true A B e b = absurd cc
taken_false false A B e b = b

-- ---- as the code has it

-- a line becomes what it is judged to become
abbrev pub IsFound : CourseJudge → Machine → List ℕ → Interpreting → Since → Outcome → Type 0
IsFound j machine kept w since o = Found machine (stands_before j.work since) kept o × (w ≡ record { state = o.next; number = j.work.number + 1; left = o.work })

found_at : (j : CourseJudge) (p : Point) (hand : List Outcome) (machine : Machine) (w : Interpreting) (kept : List ℕ) (o : Outcome) → KnowsPoint j p hand → MayBegin j → IsFound j machine kept w (since_at p) o → Found machine p.before kept o
found_at j p hand machine w kept o is b f = subst (λ (x : Before). Found machine x kept o) (stands_there j p hand is b) f.0

pub judged_line : (j : CourseJudge) (p : Point) (hand : List Outcome) (machine : Machine) (w : Interpreting) (l : Progress) (kept : List ℕ) (o : Outcome) → KnowsPoint j p hand → MayBegin j → IsFound j machine kept w (since_at p) o → FindsRight j machine kept → IsNew l → IsJudged j p true kept o w l
judged_line j p hand machine w l kept o is b f finds new =
    let becomes = finds p (known_at j p hand is b) o (found_at j p hand machine w kept o is b f) in
    record { becomes = becomes; says = says_at p kept o becomes; work = f.1; is_new = new }

pub judged_still : (j : CourseJudge) (p : Point) (hand : List Outcome) (machine : Machine) (w : Interpreting) (l : Progress) (kept : List ℕ) (o : Outcome) → KnowsPoint j p hand → MayBegin j → IsFound j machine kept w (since_at p) o → FindsStill j machine kept → IsNew l → IsJudged j p false kept o w l
judged_still j p hand machine w l kept o is b f finds new =
    let becomes = finds p (known_at j p hand is b) o (found_at j p hand machine w kept o is b f) in
    record { becomes = becomes; says = says_still p kept o becomes; work = f.1; is_new = new }

pub line_answered : (j : CourseJudge) (machine : Machine) (w : Interpreting) (state : State) (locked jogged : Bool) (l : Progress) (accepted : Accepted) (settles : Bool) (kept : List ℕ) (first : State) (sent : List Sent) (replies : List Reply) (records : List Record)
    → HasJudged j first sent replies records → MayBegin j
    → ((since : Since) → (o : Outcome) × Found machine (stands_before j.work since) kept o × (w ≡ record { state = o.next; number = j.work.number + 1; left = o.work }) × (kind_told accepted ≡ o.kind) × (settles ≡ o.settles))
    → FindsRight j machine kept → state ≡ w.state → IsNew l → l.accepted ≡ accepted → l.settles ≡ settles → jogged ≡ jogged_behind (kind_told accepted) j.jogged → locked ≡ (j.locked && not (is_unlock (kind_of kept)))
    → HasJudged (record j { work = w; state = state; locked = locked; has_line = true; in_hand = true; jogged = jogged; line = l }) first (sent ++ a_text kept ∷ []) replies records
line_answered j machine w state locked jogged l accepted settles kept first sent replies records s b judged finds state_is new accepted_is settles_is jogged_is locked_is =
    let o = judged (since_at s.point) in
    let here = judged_line j s.point s.hand machine w l kept o.0 (judged_point j first sent replies records s) b (o.1, o.2) finds new in
    let kind : kind_told l.accepted ≡ o.0.kind = ap kind_told accepted_is ∙ o.3 in
    let next : state ≡ o.0.next = state_is ∙ ap (λ (i : Interpreting). i.state) o.2 in
    line_begun j (record j { work = w; state = state; locked = locked; has_line = true; in_hand = true; jogged = jogged; line = l }) kept o.0 w first sent replies records s b here kind (settles_is ∙ o.4)
    (jogged_is ∙ ap (λ k. jogged_behind k j.jogged) o.3) locked_is
    (ap (λ (x : State). record j { work = w; state = x; locked = locked; has_line = true; in_hand = true; jogged = jogged; line = l }) next)

pub line_unanswered : (j : CourseJudge) (machine : Machine) (w : Interpreting) (l : Progress) (accepted : Accepted) (kept : List ℕ) (first : State) (sent : List Sent) (replies : List Reply) (records : List Record)
    → HasJudged j first sent replies records → MayBegin j
    → ((since : Since) → (o : Outcome) × Found machine (stands_before j.work since) kept o × (w ≡ record { state = o.next; number = j.work.number + 1; left = o.work }) × (kind_told accepted ≡ o.kind))
    → FindsStill j machine kept → IsNew l → l.accepted ≡ Code → l.settles ≡ false
    → HasJudged (record j { work = w; has_line = true; unanswered = true; touched = false; in_hand = true; line = l }) first (sent ++ a_text kept ∷ []) replies records
line_unanswered j machine w l accepted kept first sent replies records s b judged finds new code settles =
    let o = judged (since_at s.point) in
    let here = judged_still j s.point s.hand machine w l kept o.0 (judged_point j first sent replies records s) b (o.1, o.2) finds new in
    line_broken j (record j { work = w; has_line = true; unanswered = true; touched = false; in_hand = true; line = l }) kept o.0 w first sent replies records s b here (ap kind_told code) settles refl

pub line_tells : (j k : CourseJudge) (machine : Machine) (w : Interpreting) (accepted : Accepted) (settles : Bool) (kept : List ℕ) → MayBegin j
    → ((since : Since) → (o : Outcome) × Found machine (stands_before j.work since) kept o × (w ≡ record { state = o.next; number = j.work.number + 1; left = o.work }) × (kind_told accepted ≡ o.kind) × (settles ≡ o.settles))
    → k.work ≡ w → k.unanswered ≡ j.unanswered → TellsFound j k machine kept
line_tells j k machine w accepted settles kept b judged work unanswered p hand at =
    let o = judged (since_at p) in (
      o.0,
      found_at j p hand machine w kept o.0 at b (o.1, o.2),
      ap (λ (u : Bool). cond u [] (tells k.work.left)) (unanswered ∙ b.answered) ∙ ap (λ (i : Interpreting). tells i.left) (work ∙ o.2),
      ap (λ (i : Interpreting). i.left) (work ∙ o.2),
    )

pub line_work : (j k : CourseJudge) (machine : Machine) (w : Interpreting) (accepted : Accepted) (settles : Bool) (kept : List ℕ) → MayBegin j
    → ((since : Since) → (o : Outcome) × Found machine (stands_before j.work since) kept o × (w ≡ record { state = o.next; number = j.work.number + 1; left = o.work }) × (kind_told accepted ≡ o.kind) × (settles ≡ o.settles))
    → FindsRight j machine kept → k.work ≡ w → HasWorkOf j k true kept
line_work j k machine w accepted settles kept b judged finds work first sent replies records s =
    let o = judged (since_at s.point) in
    let at = judged_point j first sent replies records s in
    (s.point, o.0, finds s.point (known_at j s.point s.hand at b) o.0 (found_at j s.point s.hand machine w kept o.0 at b (o.1, o.2)), ap (λ (i : Interpreting). i.left) (work ∙ o.2))

pub broken_work : (j k : CourseJudge) (machine : Machine) (w : Interpreting) (accepted : Accepted) (kept : List ℕ) → MayBegin j
    → ((since : Since) → (o : Outcome) × Found machine (stands_before j.work since) kept o × (w ≡ record { state = o.next; number = j.work.number + 1; left = o.work }) × (kind_told accepted ≡ o.kind))
    → FindsStill j machine kept → k.work ≡ w → HasWorkOf j k false kept
broken_work j k machine w accepted kept b judged finds work first sent replies records s =
    let o = judged (since_at s.point) in
    let at = judged_point j first sent replies records s in
    (s.point, o.0, finds s.point (known_at j s.point s.hand at b) o.0 (found_at j s.point s.hand machine w kept o.0 at b (o.1, o.2)), ap (λ (i : Interpreting). i.left) (work ∙ o.2))

-- and it is short, whatever was told before: a point can be that of which a judge knows this
pub short_found : (j : CourseJudge) (runs : Bool) (machine : Machine) (w : Interpreting) (kept : List ℕ) → ((since : Since) → (o : Outcome) × Found machine (stands_before j.work since) kept o × (w.left ≡ o.work))
    → ((p : Point) → Knows j p → (o : Outcome) → Found machine p.before kept o → BecomesAt runs p kept o) → length w.left ≤ 64
short_found j runs machine w kept judged finds =
    let since : Since = record { moved = j.moved; jog_moved = j.jog_moved; jogged = j.jogged; alarmed = false } in
    let p : Point = record { before = stands_before j.work since; locked = j.locked; has_line = false; unanswered = false } in
    let knows : Knows j p = record { locked = refl; moved = refl; jog_moved = refl; jogged = refl } in
    let o = judged since in
    subst (λ (ts : List Task). length ts ≤ 64) (sym o.2) (short_work runs p kept o.0 (finds p knows o.0 o.1))

-- ---- how the machine is found

pub locked_still : (j : CourseJudge) (kept : List ℕ) → j.locked ≡ true → FindsStill j Locked kept
locked_still j kept e p knows o found = taken_true p.locked _ _ (knows.locked ∙ e) (becomes_locked p.before kept o found)

pub stands_still : (j : CourseJudge) (kept : List ℕ) → j.locked ≡ false → FindsStill j Stands kept
stands_still j kept e p knows o found = taken_false p.locked _ _ (knows.locked ∙ e) (becomes_still p.before kept o found)
