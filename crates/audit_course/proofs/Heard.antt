-- What is heard behind the first record that breaks a rule, step by step.
use Rattle.std.proofs.Common.{◌≡◌, ◌≤◌, ℕ, ◌+◌, ◌-◌, Bool, true, false, cond, not, ◌&&◌, ◌||◌, List, [], ◌∷◌, ◌++◌, drop, map, append-nil, append_assoc, refl, sym, ap, ◌∙◌, subst, arith}
use Rattle.std.proofs.lemmas.Grind.{flat_map-append}
use Rattle.units.specs.declared.Steps3.{Steps3}
use Rattle.status_report.specs.declared.Reply.{Reply}
use Rattle.step_line.specs.Asking.{ticks_of_all}
use Rattle.step_line.specs.declared.Record.{Record}
use Rattle.modal_state.specs.Modes.{rebased}
use Rattle.system_lines.specs.Commands.{kind_of}
use Rattle.run_rules.specs.declared.State.{State}
use Rattle.run_rules.specs.declared.machine.Machine.{Machine}
use Rattle.run_rules.specs.Finding.{Found}
use Rattle.run_rules.specs.Locking.{is_unlock}
use Rattle.run_rules.specs.Outcomes.{jogged_behind}
use Rattle.run_rules.specs.Work.{Task, Outcome, tells, asked_by_task, accepted_code, accepted_jog}
use Rattle.run_rules.specs.Work.Task.{tell}
use Rattle.run_rules.proofs.Answering.{telling_tells}
use Rattle.line_interpreter.specs.Desks.{kind_told}
use Rattle.line_interpreter.specs.Interpreting.{Interpreting, stands_before}
use Rattle.line_interpreter.specs.Lefts.{IsNextOf, greeting}
use Rattle.line_interpreter.specs.Since.{Since}
use Rattle.line_interpreter.specs.declared.desk.Accepted.{Accepted}
use Rattle.line_interpreter.specs.declared.desk.Accepted.TheVariants.{Code}
use Rattle.part_making.specs.Judging.{Known, IsItem}
use Rattle.part_making.specs.declared.Item.{Item}
use Rattle.run_texts.specs.Courses.{Passed, Reset, behind_the_reset, reset_state}
use Rattle.run_texts.specs.Courses.Passed.{a_line, a_broken, a_cut, a_reset}
use Rattle.run_texts.specs.Points.{Point, behind_line, behind_broken}
use Rattle.run_texts.specs.Sent.{Sent, behind_reset}
use Rattle.run_texts.specs.Sent.Sent.{a_text, a_stop}
use Rattle.run_texts.specs.SoFar.{LeadsTo, RebasesNothing}
use Rattle.run_texts.specs.Told.{told_in, told_of, told_at_reset}
use Rattle.run_texts.proofs.Going.{behind_on, reset_on}
use Rattle.audit_course.specs.declared.MotionError.{MotionError}
use Rattle.audit_course.specs.declared.Progress.{Progress}
use Rattle.audit_course.specs.declared.judge.CourseJudge.{CourseJudge}
use Rattle.audit_course.specs.declared.ticks.Ticks.{Ticks}
use Rattle.audit_course.specs.declared.ticks.Ticks.TheVariants as standing
use Rattle.audit_course.specs.Heard.{KnowsPoint, KeepsPoint, CutsPoint, HasHeard, StaysHeard, HearsSent, HearsReply, HearsReset, MayTellReset, TellsFound, HearsAlone, HearsLine, HearsNoLine, HearsNoReset}
use Rattle.audit_course.specs.Progressing.{asks_ticks, has_some, has_halt, is_halt, moved_now, fresh, Counts, IsNew, IsUnseen, IsItemOf}
use Rattle.audit_course.specs.SoFar.{HasJudged, IsClosed, FindsRight, FindsStill, FindsAlone, MayBegin, left_to_tell, opened_at, texts_among}
use Rattle.audit_course.proofs.Beginning.{broken_of, judged_line, judged_still, known_at, line_of, no_alarm, none_to_tell, since_at}
use Rattle.audit_course.proofs.Counting.{lines_sent, texts_on}
use Rattle.audit_course.proofs.Ending.{any_moved, behind_so, calm_line, line_cut, opened_line, reset_may_come, to_tell}
use Rattle.audit_course.proofs.Outcomes.{telling_halts}
use Rattle.audit_course.proofs.Parting.{closed_line, same_line}
use Rattle.audit_course.proofs.Passing.{ask_told, counted, first_told, item_counts, none_later, quiet_told}
use Rattle.audit_course.proofs.Refused.{none_begins_at}

-- ---- courses

-- a course that rebases nothing goes on by one that rebases nothing
pub goes_further : (p between last : Point) (sent more : List Sent) (ps qs : List Passed) → LeadsTo p sent ps between [] → RebasesNothing p sent ps → LeadsTo between more qs last [] → RebasesNothing between more qs
    → LeadsTo p (sent ++ more) (ps ++ qs) last [] × RebasesNothing p (sent ++ more) (ps ++ qs)
goes_further p between last sent more [] qs f r g s =
    subst (λ (ss : List Sent). LeadsTo p (ss ++ more) qs last [] × RebasesNothing p (ss ++ more) qs) f.1 (subst (λ (x : Point). LeadsTo x more qs last [] × RebasesNothing x more qs) f.0 (g, s))
goes_further p between last sent more (a_cut k at ∷ ps) qs f r g s = absurd r
goes_further p between last sent more (a_reset u ∷ ps) qs f r g s =
    let q = behind_the_reset u p in
    let on = subst (λ (ss : List Sent). LeadsTo q ss (ps ++ qs) last [] × RebasesNothing q ss (ps ++ qs)) (sym (behind_on sent more f.0.comes)) (goes_further q between last (behind_reset sent) more ps qs f.1 r.1 g s) in
    ((reset_on p sent more u f.0, on.0), (r.0, on.1))
goes_further p between last [] more (a_line o ∷ ps) qs f r g s = absurd f
goes_further p between last (a_stop ∷ sent) more (a_line o ∷ ps) qs f r g s = absurd f
goes_further p between last (a_text line ∷ sent) more (a_line o ∷ ps) qs f r g s = let on = goes_further (behind_line p line o) between last sent more ps qs f.1 r g s in ((f.0, on.0), on.1)
goes_further p between last [] more (a_broken o ∷ ps) qs f r g s = absurd f
goes_further p between last (a_stop ∷ sent) more (a_broken o ∷ ps) qs f r g s = absurd f
goes_further p between last (a_text line ∷ sent) more (a_broken o ∷ ps) qs f r g s = let on = goes_further (behind_broken p o) between last sent more ps qs f.1 r g s in ((f.0, on.0), on.1)

-- ---- what is heard goes on

heard_point : (j : CourseJudge) (p : Point) (before : List Reply) (sent : List Sent) (replies : List Reply) (h : HasHeard j p before sent replies) → KnowsPoint j h.point h.hand
heard_point j p before sent replies h = record { number = h.number; state = h.state; same_state = h.same_state; locked = h.locked; unanswered = h.unanswered; line = h.line; at_hand = h.at_hand }

-- by what the course passes next
heard_on : (j k : CourseJudge) (p : Point) (before : List Reply) (sent more : List Sent) (replies now : List Reply) (h : HasHeard j p before sent replies) (q : Point) (hand : List Outcome) (qs : List Passed)
    → KnowsPoint k q hand → LeadsTo h.point more qs q [] → RebasesNothing h.point more qs → k.work.number ≡ j.work.number + texts_among more → left_to_tell j ++ told_in qs ≡ now ++ left_to_tell k
    → HasHeard k p before (sent ++ more) (replies ++ now)
heard_on j k p before sent more replies now h q hand qs is leads rebases number told =
    let on = goes_further p h.point q sent more h.course qs h.leads h.rebases leads rebases in
    let texts = texts_on sent more in
    let numbered = h.numbered in
    record {
      point = q;
      number = is.number;
      state = is.state;
      same_state = is.same_state;
      locked = is.locked;
      unanswered = is.unanswered;
      hand = hand;
      line = is.line;
      at_hand = is.at_hand;
      some = h.some;
      numbered = omega (arith, texts, numbered, number);
      course = h.course ++ qs;
      leads = on.0;
      rebases = on.1;
      tells = ap (λ (rs : List Reply). before ++ rs) (flat_map-append told_of h.course qs) ∙ sym (append_assoc before (told_in h.course) (told_in qs)) ∙ ap (λ (rs : List Reply). rs ++ told_in qs) h.tells
          ∙ append_assoc replies (left_to_tell j) (told_in qs) ∙ ap (λ (rs : List Reply). replies ++ rs) told ∙ sym (append_assoc replies now (left_to_tell k));
    }

-- from a point on a course passes all of this, and tells what is left to tell of it alone
record GoesBy (j k : CourseJudge) (p : Point) (more : List Sent) : Type 0 where
  pub point : Point
  pub hand : List Outcome
  pub course : List Passed
  pub is : KnowsPoint k point hand
  pub leads : LeadsTo p more course point []
  pub rebases : RebasesNothing p more course
  pub number : k.work.number ≡ j.work.number + texts_among more
  pub tells : left_to_tell j ++ told_in course ≡ left_to_tell k

hears_sent : (j k : CourseJudge) (more : List Sent) → ((p : Point) (hand : List Outcome) → KnowsPoint j p hand → 1 ≤ p.before.number → GoesBy j k p more) → HearsSent j k more
hears_sent j k more step p before sent replies h =
    let first = h.some in
    let here = h.number in
    let all = h.numbered in
    let s = step h.point h.hand (heard_point j p before sent replies h) (omega (arith, first, here, all)) in
    subst (λ (rs : List Reply). HasHeard k p before (sent ++ more) rs) (append-nil replies) (heard_on j k p before sent more replies [] h s.point s.hand s.course s.is s.leads s.rebases s.number s.tells)

-- where nothing is sent
heard_here : (j k : CourseJudge) (now : List Reply) → KeepsPoint j k → k.work.number ≡ j.work.number → left_to_tell j ≡ now ++ left_to_tell k
    → (p : Point) (before : List Reply) (sent : List Sent) (replies : List Reply) → HasHeard j p before sent replies → HasHeard k p before sent (replies ++ now)
heard_here j k now keeps number told p before sent replies h =
    let is = keeps h.point h.hand (heard_point j p before sent replies h) in
    subst (λ (ss : List Sent). HasHeard k p before ss (replies ++ now)) (append-nil sent)
    (heard_on j k p before sent [] replies now h h.point is.0 [] is.1 (refl, refl) tt (omega (arith, number)) (append-nil (left_to_tell j) ∙ told))

stays_heard : (j k : CourseJudge) → KeepsPoint j k → k.work.number ≡ j.work.number → left_to_tell j ≡ left_to_tell k → StaysHeard j k
stays_heard j k keeps number told p before sent replies h =
    subst (λ (rs : List Reply). HasHeard k p before sent rs) (append-nil replies) (heard_here j k [] keeps number told p before sent replies h)

-- from a course so far on: the first record that breaks a rule was found there
pub heard_from_here : (j : CourseJudge) (first : State) (sent : List Sent) (replies : List Reply) (records : List Record) (s : HasJudged j first sent replies records) → HasHeard j s.point (replies ++ left_to_tell j) [] replies
heard_from_here j first sent replies records s =
    let number = s.number in
    let numbered = s.numbered in
    record {
      point = s.point;
      number = s.number;
      state = s.state;
      same_state = s.same_state;
      locked = s.locked;
      unanswered = s.unanswered;
      hand = s.hand;
      line = s.line;
      at_hand = s.at_hand;
      some = omega (arith, number, numbered);
      numbered = omega (arith, number);
      course = [];
      leads = (refl, refl);
      rebases = tt;
      tells = append-nil (replies ++ left_to_tell j);
    }

-- ---- the line at hand

-- a record that comes or is refused is not heard
pub same_heard : (j : CourseJudge) (part : Known) (place : Steps3) (events : ℕ) (touched : Bool) (answered code settled : Ticks) → StaysHeard j (record j { part = part; place = place; events = events; touched = touched; answered = answered; code = code; settled = settled })
same_heard j part place events touched answered code settled =
    let k = record j { part = part; place = place; events = events; touched = touched; answered = answered; code = code; settled = settled } in
    stays_heard j k
    (λ p hand is. (hand, record { number = is.number; state = is.state; same_state = is.same_state; locked = is.locked; unanswered = is.unanswered; line = same_line j k p hand is.line refl refl refl refl refl refl refl; at_hand = is.at_hand }))
    refl refl

-- a task of it is done
task_kept : (j : CourseJudge) (t : Task) (w : Interpreting) (l : Progress) (part : Known) (lost : Bool) → IsNextOf t j.work.left → w ≡ record j.work { left = drop 1 j.work.left } → Counts j.line l t → has_some (ticks_of_all (asked_by_task t)) ≡ asks_ticks t
    → KeepsPoint j (record j { work = w; line = l; part = part; lost = lost })
task_kept j t w l part lost next is counts some p hand at =
    let left : w.left ≡ drop 1 j.work.left = ap (λ (i : Interpreting). i.left) is in (
      hand,
      record {
        number = at.number ∙ sym (ap (λ (i : Interpreting). i.number) is);
        state = at.state;
        same_state = λ e. at.same_state e ∙ sym (ap (λ (i : Interpreting). i.state) is);
        locked = at.locked;
        unanswered = at.unanswered;
        line = counted j (record j { work = w; line = l; part = part; lost = lost }) p hand t at.line next left counts some refl refl refl refl refl;
        at_hand = λ e. ap has_halt left ∙ none_later (is_halt t) (has_halt (drop 1 j.work.left)) (sym (ap has_halt next) ∙ at.at_hand e);
      },
    )

-- a reply is told
pub reply_heard : (j : CourseJudge) (r : Reply) (w : Interpreting) (l : Progress) → IsNextOf (tell r) j.work.left → j.unanswered ≡ false → w ≡ record j.work { left = drop 1 j.work.left } → Counts j.line l (tell r)
    → HearsReply j (record j { work = w; line = l }) r
reply_heard j r w l next answered is counts =
    heard_here j (record j { work = w; line = l }) (r ∷ []) (task_kept j (tell r) w l j.part j.lost next is counts refl) (ap (λ (i : Interpreting). i.number) is)
    (ap (λ (ts : List Task). cond j.unanswered [] (tells ts)) next ∙ first_told j.unanswered r (tells (drop 1 j.work.left)) answered
    ∙ ap (λ (i : Interpreting). r ∷ cond j.unanswered [] (tells i.left)) (sym is))

-- or nothing
pub quiet_heard : (j : CourseJudge) (t : Task) (w : Interpreting) (l : Progress) → IsNextOf t j.work.left → IsUnseen j.unanswered t → w ≡ record j.work { left = drop 1 j.work.left } → Counts j.line l t → StaysHeard j (record j { work = w; line = l })
quiet_heard j t w l next quiet is counts =
    stays_heard j (record j { work = w; line = l }) (task_kept j t w l j.part j.lost next is counts (ap has_some quiet.ticks ∙ sym quiet.none)) (ap (λ (i : Interpreting). i.number) is)
    (ap (λ (ts : List Task). cond j.unanswered [] (tells ts)) next ∙ quiet_told j.unanswered t (drop 1 j.work.left) quiet.told ∙ ap (λ (i : Interpreting). cond j.unanswered [] (tells i.left)) (sym is))

-- an item is asked for, or lost
pub item_heard : (j : CourseJudge) (t : Task) (item : Item) (w : Interpreting) (l : Progress) (part : Known) (lost : Bool) → IsNextOf t j.work.left → IsItem item → IsItemOf t item → w ≡ record j.work { left = drop 1 j.work.left } → Counts j.line l t
    → StaysHeard j (record j { work = w; line = l; part = part; lost = lost })
item_heard j t item w l part lost next valid of is counts =
    stays_heard j (record j { work = w; line = l; part = part; lost = lost }) (task_kept j t w l part lost next is counts (item_counts t item valid of)) (ap (λ (i : Interpreting). i.number) is)
    (ap (λ (ts : List Task). cond j.unanswered [] (tells ts)) next ∙ ask_told j.unanswered t (drop 1 j.work.left) of.told ∙ ap (λ (i : Interpreting). cond j.unanswered [] (tells i.left)) (sym is))

-- it is over
pub close_kept : (j : CourseJudge) (l : Progress) (moved jog_moved : Bool) (answered code settled : Ticks) → j.work.left ≡ [] → l ≡ fresh j.line.halts
    → moved ≡ moved_now (accepted_code (kind_told j.line.accepted)) j.line j.moved → jog_moved ≡ moved_now (accepted_jog (kind_told j.line.accepted)) j.line j.jog_moved
    → KeepsPoint j (record j { line = l; in_hand = false; moved = moved; jog_moved = jog_moved; answered = answered; code = code; settled = settled })
close_kept j l moved jog_moved answered code settled done new is_moved is_jog p hand at = (
  [],
  record {
    number = at.number;
    state = at.state;
    same_state = at.same_state;
    locked = at.locked;
    unanswered = at.unanswered;
    line = closed_line j l moved jog_moved answered code settled p hand at.line done new is_moved is_jog;
    at_hand = λ e. ap has_halt done;
  },
)

pub close_heard : (j : CourseJudge) (l : Progress) (moved jog_moved : Bool) (answered code settled : Ticks) → j.work.left ≡ [] → l ≡ fresh j.line.halts
    → moved ≡ moved_now (accepted_code (kind_told j.line.accepted)) j.line j.moved → jog_moved ≡ moved_now (accepted_jog (kind_told j.line.accepted)) j.line j.jog_moved
    → StaysHeard j (record j { line = l; in_hand = false; moved = moved; jog_moved = jog_moved; answered = answered; code = code; settled = settled })
close_heard j l moved jog_moved answered code settled done new is_moved is_jog =
    stays_heard j (record j { line = l; in_hand = false; moved = moved; jog_moved = jog_moved; answered = answered; code = code; settled = settled }) (close_kept j l moved jog_moved answered code settled done new is_moved is_jog) refl refl

-- ---- a line is begun

one_more : (kept : List ℕ) (n m : ℕ) → m ≡ n + 1 → m ≡ n + texts_among (a_text kept ∷ [])
one_more kept n m e = let one : texts_among (a_text kept ∷ []) ≡ 1 = omega arith in omega (arith, e, one)

pub line_heard : (j : CourseJudge) (machine : Machine) (w : Interpreting) (state : State) (locked jogged : Bool) (l : Progress) (accepted : Accepted) (settles : Bool) (kept : List ℕ) → MayBegin j
    → ((since : Since) → (o : Outcome) × Found machine (stands_before j.work since) kept o × (w ≡ record { state = o.next; number = j.work.number + 1; left = o.work }) × (kind_told accepted ≡ o.kind) × (settles ≡ o.settles))
    → FindsRight j machine kept → state ≡ w.state → IsNew l → l.accepted ≡ accepted → l.settles ≡ settles → jogged ≡ jogged_behind (kind_told accepted) j.jogged → locked ≡ (j.locked && not (is_unlock (kind_of kept)))
    → HearsSent j (record j { work = w; state = state; locked = locked; has_line = true; in_hand = true; jogged = jogged; line = l }) (a_text kept ∷ [])
line_heard j machine w state locked jogged l accepted settles kept b judged finds state_is new accepted_is settles_is jogged_is locked_is =
    hears_sent j (record j { work = w; state = state; locked = locked; has_line = true; in_hand = true; jogged = jogged; line = l }) (a_text kept ∷ []) step where
      step : (p : Point) (hand : List Outcome) → KnowsPoint j p hand → 1 ≤ p.before.number → GoesBy j (record j { work = w; state = state; locked = locked; has_line = true; in_hand = true; jogged = jogged; line = l }) p (a_text kept ∷ [])
      step p hand at some =
          let o = judged (since_at p) in
          let here = judged_line j p hand machine w l kept o.0 at b (o.1, o.2) finds new in
          let kind : kind_told l.accepted ≡ o.0.kind = ap kind_told accepted_is ∙ o.3 in
          record {
            point = behind_line p kept o.0;
            hand = o.0 ∷ [];
            course = a_line o.0 ∷ [];
            is = record {
              number = ap (λ (n : ℕ). n + 1) at.number ∙ sym (ap (λ (i : Interpreting). i.number) o.2);
              state = sym (state_is ∙ ap (λ (i : Interpreting). i.state) o.2);
              same_state = λ e. state_is;
              locked = ap (λ (t : Bool). t && not (is_unlock (kind_of kept))) at.locked ∙ sym locked_is;
              unanswered = sym b.answered;
              line = line_of j (record j { work = w; state = state; locked = locked; has_line = true; in_hand = true; jogged = jogged; line = l }) p hand kept o.0 w at.line b here refl kind (settles_is ∙ o.4) refl refl b.answered refl (jogged_is ∙ ap (λ a. jogged_behind a j.jogged) o.3);
              at_hand = λ e. absurd cc;
            };
            leads = (record { free = no_alarm j p hand at.line b; answered = at.unanswered ∙ b.answered; becomes = here.becomes }, (refl, refl));
            rebases = tt;
            number = one_more kept j.work.number w.number (ap (λ (i : Interpreting). i.number) o.2);
            tells = ap (λ (rs : List Reply). rs ++ (tells o.0.work ++ [])) (none_to_tell j b) ∙ append-nil (tells o.0.work)
                ∙ sym (ap (λ (u : Bool). cond u [] (tells w.left)) b.answered ∙ ap (λ (i : Interpreting). tells i.left) o.2);
          }

-- and a reset keeps it from its answer
pub broken_heard : (j : CourseJudge) (machine : Machine) (w : Interpreting) (l : Progress) (accepted : Accepted) (kept : List ℕ) → MayBegin j
    → ((since : Since) → (o : Outcome) × Found machine (stands_before j.work since) kept o × (w ≡ record { state = o.next; number = j.work.number + 1; left = o.work }) × (kind_told accepted ≡ o.kind))
    → FindsStill j machine kept → IsNew l → l.accepted ≡ Code → l.settles ≡ false
    → HearsSent j (record j { work = w; has_line = true; unanswered = true; touched = false; in_hand = true; line = l }) (a_text kept ∷ [])
broken_heard j machine w l accepted kept b judged finds new code settles =
    hears_sent j (record j { work = w; has_line = true; unanswered = true; touched = false; in_hand = true; line = l }) (a_text kept ∷ []) step where
      step : (p : Point) (hand : List Outcome) → KnowsPoint j p hand → 1 ≤ p.before.number → GoesBy j (record j { work = w; has_line = true; unanswered = true; touched = false; in_hand = true; line = l }) p (a_text kept ∷ [])
      step p hand at some =
          let o = judged (since_at p) in
          let here = judged_still j p hand machine w l kept o.0 at b (o.1, o.2) finds new in
          record {
            point = behind_broken p o.0;
            hand = [];
            course = a_broken o.0 ∷ [];
            is = record {
              number = ap (λ (n : ℕ). n + 1) at.number ∙ sym (ap (λ (i : Interpreting). i.number) o.2);
              state = at.state;
              same_state = λ e. absurd cc;
              locked = at.locked;
              unanswered = refl;
              line = broken_of j (record j { work = w; has_line = true; unanswered = true; touched = false; in_hand = true; line = l }) p hand kept o.0 w at.line b here refl (ap kind_told code) settles refl refl refl refl refl;
              at_hand = λ e. absurd cc;
            };
            leads = (record { free = no_alarm j p hand at.line b; answered = at.unanswered ∙ b.answered; becomes = here.becomes }, (refl, refl));
            rebases = tt;
            number = one_more kept j.work.number w.number (ap (λ (i : Interpreting). i.number) o.2);
            tells = append-nil (left_to_tell j) ∙ none_to_tell j b;
          }

-- it becomes nothing else that tells first a reply that fits the error
pub hears_alone : (old mid new : CourseJudge) (error : MotionError) (machine : Machine) (kept : List ℕ) → MayBegin mid → KeepsPoint old mid → FindsAlone mid error machine kept → TellsFound mid new machine kept → HearsAlone old new error kept
hears_alone old mid new error machine kept may keeps alone tells_found p before sent replies h u is r xs ys told fits =
    let at = keeps h.point h.hand (heard_point old p before sent replies h) in
    let o = tells_found h.point at.0 at.1 in
    o.2 ∙ ap (λ (x : Outcome). tells x.work) (sym (alone h.point (known_at mid h.point at.0 at.1 may) o.0 u o.1 is r xs ys told fits))

-- and all that it becomes is left to do
pub hears_line : (old mid new : CourseJudge) (error : MotionError) (machine : Machine) (kept : List ℕ) → MayBegin mid → KeepsPoint old mid → FindsRight mid machine kept → FindsAlone mid error machine kept → TellsFound mid new machine kept → HearsLine old new error kept
hears_line old mid new error machine kept may keeps right alone tells_found p before sent replies h =
    let at = keeps h.point h.hand (heard_point old p before sent replies h) in
    let knows = known_at mid h.point at.0 at.1 may in
    let o = tells_found h.point at.0 at.1 in
    (o.0, right h.point knows o.0 o.1, o.3, λ u is. alone h.point knows o.0 u o.1 is)

-- none may be begun where the last has no answer, or has raised an alarm
pub none_heard : (j : CourseJudge) → j.work.left ≡ [] → (j.unanswered ≡ false → j.line.halts ≡ true) → HearsNoLine j
none_heard j done halts p before sent replies h kept o = none_begins_at j h.point h.hand h.line h.unanswered done halts kept o

-- ---- a cut

-- it stands where it stood, and the next line is judged from where the machine is
pub cut_kept : (j : CourseJudge) (w : Interpreting) (state : State) (part : Known) → IsClosed j → state ≡ record j.state { parser = rebased j.state.parser j.place j.state.settings.limits.per_mm }
    → w ≡ record j.work { state = record j.work.state { parser = rebased j.work.state.parser j.place j.work.state.settings.limits.per_mm } }
    → CutsPoint j (record j { work = w; state = state; part = part; cuts = j.cuts + 1; has_line = false; lost = false; answered = standing.Whole; code = standing.Whole; settled = standing.Whole })
cut_kept j w state part closed state_is work p hand at =
    let here : State → State = λ (x : State). record x { parser = rebased x.parser j.place x.settings.limits.per_mm } in
    let left : w.left ≡ j.work.left = ap (λ (i : Interpreting). i.left) work in (
      j.place,
      [],
      record {
        number = at.number ∙ sym (ap (λ (i : Interpreting). i.number) work);
        state = ap here at.state ∙ sym state_is;
        same_state = λ e. state_is ∙ ap here (at.same_state e) ∙ sym (ap (λ (i : Interpreting). i.state) work);
        locked = at.locked;
        unanswered = at.unanswered;
        line = line_cut j w state part j.place p hand at.line closed.closed left;
        at_hand = λ e. ap has_halt (left ∙ closed.done);
      },
    )

-- ---- a reset

pub reset_heard : (j : CourseJudge) (dropped : ℕ) (alarm : Bool) → MayTellReset j alarm → HearsReset j (opened_at j.state.parser.pos_steps dropped alarm j) dropped
reset_heard j dropped alarm may lines count =
    hears_sent j (opened_at j.state.parser.pos_steps dropped alarm j) (map a_text lines ++ a_stop ∷ []) step where
      step : (p : Point) (hand : List Outcome) → KnowsPoint j p hand → 1 ≤ p.before.number → GoesBy j (opened_at j.state.parser.pos_steps dropped alarm j) p (map a_text lines ++ a_stop ∷ [])
      step p hand at some =
          let here = at.number in
          let sent = lines_sent lines in
          let r : Reset = record { number = j.work.number - 1; dropped = dropped; alarm = alarm; locked = alarm || j.locked; at = j.state.parser.pos_steps } in
          record {
            point = behind_the_reset r p;
            hand = [];
            course = a_reset r ∷ [];
            is = record {
              number = omega (arith, some, here);
              state = ap (reset_state j.state.parser.pos_steps) at.state;
              same_state = λ e. refl;
              locked = refl;
              unanswered = refl;
              line = opened_line (opened_at j.state.parser.pos_steps dropped alarm j) r p (greeting alarm (alarm || j.locked)) refl refl refl refl refl refl may.ends.closed;
              at_hand = λ e. telling_halts (greeting alarm (alarm || j.locked));
            };
            leads = (reset_may_come j p hand r lines [] at.line at.locked may.ends may.calm (omega (arith, some, here)) count may.cause refl, (refl, sym (behind_so lines [])));
            rebases = (ap (λ (x : State). x.parser.pos_steps) (sym at.state), tt);
            number = omega (arith, sent, count);
            tells = ap (λ (rs : List Reply). rs ++ (told_at_reset r ++ [])) (to_tell j may.ends.done) ∙ append-nil (told_at_reset r) ∙ sym (telling_tells (greeting alarm (alarm || j.locked)));
          }

-- none may be told where it is refused
pub no_reset_heard : (old mid : CourseJudge) (alarm : Bool) → KeepsPoint old mid → IsClosed mid → (MayTellReset mid alarm → ⊥) → HearsNoReset old alarm
no_reset_heard old mid alarm keeps closed not_so p before sent replies h more r same is =
    let at = (keeps h.point h.hand (heard_point old p before sent replies h)).1 in
    let hand = (keeps h.point h.hand (heard_point old p before sent replies h)).0 in
    not_so (record {
      ends = closed;
      calm = calm_line mid h.point hand at.line closed.done is.free;
      cause = λ has. sym (any_moved mid h.point hand at.line closed.closed) ∙ is.cause (same ∙ has);
    })
