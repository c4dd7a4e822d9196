-- Texts that fit and end with an alarm: the console stands up to the line that raises it.
use Rattle.std.proofs.Common.{◌≡◌, inl, inr, ℕ, ◌+◌, List, [], ◌∷◌, ◌++◌, append-nil, true, false, Bool, sym, refl, ap, ◌∙◌, subst, arith}
use Rattle.std.proofs.lemmas.List.Concat.{flat_map-append}
use Rattle.units.specs.declared.Steps3.{Steps3}
use Rattle.flight.specs.Places.{moved_by, origin}
use Rattle.status_report.specs.declared.Reply.{Reply}
use Rattle.status_report.specs.declared.Reply.TheVariants.{Alarm, Message}
use Rattle.status_report.specs.declared.Message.TheVariants.{ResetToContinue}
use Rattle.step_line.specs.Asking.{Asked, ticks_of_all, moves_of}
use Rattle.step_line.specs.declared.Record.{Record}
use Rattle.step_line.specs.declared.Record.TheVariants as kinds
use Rattle.run_rules.specs.Outcomes.{Before, limited}
use Rattle.run_rules.specs.Reports.{raises_alarm}
use Rattle.run_rules.specs.Told.{asked_in, replies_text}
use Rattle.run_rules.specs.Work.{Outcome, asks, tells, is_limit, soft_limit}
use Rattle.run_rules.specs.States.{IsOpening}
use Rattle.run_rules.specs.declared.State.{State}
use Rattle.run_rules.proofs.Answering.{AnswersOrHalts, no_alarm}
use Rattle.run_texts.specs.Courses.{Passed, behind_cut, behind_the_reset}
use Rattle.run_texts.specs.Courses.Passed.{a_line, a_broken, a_cut, a_reset}
use Rattle.run_texts.specs.Left.{behind_lines}
use Rattle.run_texts.specs.Making.{Making, IsMade}
use Rattle.run_texts.specs.Parts.{Part, parts_of}
use Rattle.run_texts.specs.Parts.Ending.{by_cut, by_reset}
use Rattle.run_texts.specs.Points.{Point, IsPassed, behind_line, behind_broken, opening}
use Rattle.run_texts.specs.Recorded.{AreRecorded}
use Rattle.run_texts.specs.Sent.{Sent, behind_reset}
use Rattle.run_texts.specs.Sent.Sent.{a_text, a_stop}
use Rattle.run_texts.specs.SoFar.{LeadsTo, AreMadeSoFar}
use Rattle.run_texts.specs.Told.{told_in, told_of}
use Rattle.run_texts.proofs.Determined.{line_answers}
use Rattle.run_texts.proofs.Leading.{onto_none, onto_more, onto_begun}
use Rattle.run_texts.proofs.SoFar.{parts_end, made_so_far}
use Rattle.audit_rules.specs.Consoles.{Tells, GoesOnWith}
use Rattle.audit_rules.specs.Findings.{FitsWith}
use Rattle.audit_rules.specs.Scanned.{sent_in}
use Rattle.audit_rules.specs.Standing.{StandTo}
use Rattle.audit_rules.specs.StepTexts.{records_of}
use Rattle.audit_rules.specs.Telling.{StandsUpTo, HasAlarm}
use Rattle.audit_rules.proofs.Fitted.{fitted, whole, records_end}
use Rattle.audit_rules.proofs.Fronts.{some_part, closed, close}
use Rattle.audit_rules.proofs.Replies.{in_turn, comes_next}

-- ---- the line that raises it

-- it is the last that is passed
pub record AlarmAtEnd (p last : Point) (sent : List Sent) (course : List Passed) : Type 0 where
  pub front : List Passed
  pub outcome : Outcome
  pub split : course ≡ front ++ a_line outcome ∷ []
  pub point : Point
  pub line : List ℕ
  pub left : List Sent
  pub leads : LeadsTo p sent front point (a_text line ∷ left)
  pub passed : IsPassed point line outcome
  pub raises : raises_alarm outcome ≡ true
  pub number : last.before.number ≡ point.before.number + 1

differ : {A : Type 0} (b : Bool) → b ≡ true → b ≡ false → A
differ true e f = absurd cc
differ false e f = absurd cc

-- behind an alarm nothing is passed
pub record NothingPassed (p last : Point) (course : List Passed) : Type 0 where
  pub none : course ≡ []
  pub same : last ≡ p

pub nothing_passed : (p last : Point) (sent rest : List Sent) (course : List Passed) → LeadsTo p sent course last rest → p.before.alarmed ≡ true → NothingPassed p last course
nothing_passed p last sent rest [] f e = record { none = refl; same = f.0 }
nothing_passed p last sent rest (a_cut k at ∷ ps) f e = differ p.before.alarmed e f.0.free
nothing_passed p last sent rest (a_reset r ∷ ps) f e = differ p.before.alarmed e f.0.free
nothing_passed p last [] rest (a_line o ∷ ps) f e = absurd f
nothing_passed p last (a_stop ∷ sent) rest (a_line o ∷ ps) f e = absurd f
nothing_passed p last (a_text line ∷ sent) rest (a_line o ∷ ps) f e = differ p.before.alarmed e f.0.free
nothing_passed p last [] rest (a_broken o ∷ ps) f e = absurd f
nothing_passed p last (a_stop ∷ sent) rest (a_broken o ∷ ps) f e = absurd f
nothing_passed p last (a_text line ∷ sent) rest (a_broken o ∷ ps) f e = differ p.before.alarmed e f.0.free

-- one item more comes before it
one_before : (p q last : Point) (sent rest : List Sent) (x : Passed) (ps : List Passed)
    → ((front : List Passed) (point : Point) (left : List Sent) → LeadsTo q rest front point left → LeadsTo p sent (x ∷ front) point left)
    → AlarmAtEnd q last rest ps → AlarmAtEnd p last sent (x ∷ ps)
one_before p q last sent rest x ps on a = record {
  front = x ∷ a.front;
  outcome = a.outcome;
  split = ap (λ (qs : List Passed). x ∷ qs) a.split;
  point = a.point;
  line = a.line;
  left = a.left;
  leads = on a.front a.point (a_text a.line ∷ a.left) a.leads;
  passed = a.passed;
  raises = a.raises;
  number = a.number;
}

alarm_here : (p last : Point) (line : List ℕ) (sent : List Sent) (o : Outcome) (ps : List Passed) → IsPassed p line o → is_limit o.answer ≡ true → NothingPassed (behind_line p line o) last ps
    → AlarmAtEnd p last (a_text line ∷ sent) (a_line o ∷ ps)
alarm_here p last line sent o ps passed raises n = record {
  front = [];
  outcome = o;
  split = ap (λ (qs : List Passed). a_line o ∷ qs) n.none;
  point = p;
  line = line;
  left = sent;
  leads = (refl, refl);
  passed = passed;
  raises = raises;
  number = ap (λ (q : Point). q.before.number) n.same;
}

pub alarm_at_end : (p last : Point) (sent rest : List Sent) (course : List Passed) → LeadsTo p sent course last rest → p.before.alarmed ≡ false → last.before.alarmed ≡ true → AlarmAtEnd p last sent course
alarm_at_end p last sent rest [] f none some = differ last.before.alarmed some (ap (λ (q : Point). q.before.alarmed) f.0 ∙ none)
alarm_at_end p last sent rest (a_cut k at ∷ ps) f none some =
    one_before p (behind_cut at p) last sent sent (a_cut k at) ps (λ front point left g. (f.0, g)) (alarm_at_end (behind_cut at p) last sent rest ps f.1 none some)
alarm_at_end p last sent rest (a_reset r ∷ ps) f none some =
    one_before p (behind_the_reset r p) last sent (behind_reset sent) (a_reset r) ps (λ front point left g. (f.0, g)) (alarm_at_end (behind_the_reset r p) last (behind_reset sent) rest ps f.1 refl some)
alarm_at_end p last [] rest (a_line o ∷ ps) f none some = absurd f
alarm_at_end p last (a_stop ∷ sent) rest (a_line o ∷ ps) f none some = absurd f
alarm_at_end p last (a_text line ∷ sent) rest (a_line o ∷ ps) f none some =
    by_alarm (is_limit o.answer) refl (λ e. alarm_at_end (behind_line p line o) last sent rest ps f.1 e some) where
      by_alarm : (b : Bool) → is_limit o.answer ≡ b → (is_limit o.answer ≡ false → AlarmAtEnd (behind_line p line o) last sent ps) → AlarmAtEnd p last (a_text line ∷ sent) (a_line o ∷ ps)
      by_alarm true e on = alarm_here p last line sent o ps f.0 e (nothing_passed (behind_line p line o) last sent rest ps f.1 e)
      by_alarm false e on = one_before p (behind_line p line o) last (a_text line ∷ sent) sent (a_line o) ps (λ front point left g. (f.0, g)) (on e)
alarm_at_end p last [] rest (a_broken o ∷ ps) f none some = absurd f
alarm_at_end p last (a_stop ∷ sent) rest (a_broken o ∷ ps) f none some = absurd f
alarm_at_end p last (a_text line ∷ sent) rest (a_broken o ∷ ps) f none some =
    one_before p (behind_broken p o) last (a_text line ∷ sent) sent (a_broken o) ps (λ front point left g. (f.0, g)) (alarm_at_end (behind_broken p o) last sent rest ps f.1 none some)

-- ---- it asks for nothing

pub limits : (b : Before) (o : Outcome) → AnswersOrHalts b o → is_limit o.answer ≡ true → o ≡ limited b
limits b o (inl once) one = differ (is_limit o.answer) one (no_alarm o.answer once.one)
limits b o (inr is) one = is

asks_nothing : (before begun : List Outcome) (o : Outcome) → asks o.work ≡ [] → asked_in ((before ++ o ∷ []) ++ begun) ≡ asked_in ((before ++ []) ++ begun)
asks_nothing before begun o none =
    flat_map-append (λ (x : Outcome). asks x.work) (before ++ o ∷ []) begun
    ∙ ap (λ (xs : List Asked). xs ++ asked_in begun) (flat_map-append (λ (x : Outcome). asks x.work) before (o ∷ []) ∙ ap (λ (xs : List Asked). asked_in before ++ (xs ++ [])) none ∙ sym (flat_map-append (λ (x : Outcome). asks x.work) before []))
    ∙ sym (flat_map-append (λ (x : Outcome). asks x.work) (before ++ []) begun)

-- what is made of some lines depends on what they ask for
same_made : (lines others : List Outcome) (made : List Record) (m : Making) → asked_in lines ≡ asked_in others → IsMade lines made m → IsMade others made m
same_made lines others made m same is = record {
  inside = is.inside;
  ticks = ap (λ (xs : List Asked). ticks_of_all xs) (sym same) ∙ is.ticks;
  told = is.told;
  recorded = is.recorded;
  each = is.each;
  in_order = ap (λ (xs : List Asked). moves_of xs) (sym same) ∙ is.in_order;
  legal = is.legal;
  latest = is.latest;
  due = is.due;
}

-- so what is made with it is made without it
without_last : (course : List Passed) (o : Outcome) (since begun : List Outcome) (place : Steps3) (records : List Record) → asks o.work ≡ []
    → AreMadeSoFar place (behind_lines since begun (parts_of (course ++ a_line o ∷ []))) records → AreMadeSoFar place (behind_lines since begun (parts_of course)) records
without_last [] o since begun place records none made = (made.0, same_made ((since ++ o ∷ []) ++ (begun ++ [])) ((since ++ []) ++ (begun ++ [])) records made.0 (asks_nothing since (begun ++ []) o none) made.1)
without_last (a_line x ∷ ps) o since begun place records none made =
    subst (λ (qs : List Part). AreMadeSoFar place qs records) (sym (onto_more since begun x (parts_of ps)))
    (without_last ps o (since ++ x ∷ []) begun place records none
    (subst (λ (qs : List Part). AreMadeSoFar place qs records) (onto_more since begun x (parts_of (ps ++ a_line o ∷ []))) made))
without_last (a_broken x ∷ ps) o since begun place records none made =
    subst (λ (qs : List Part). AreMadeSoFar place qs records) (sym (onto_begun since begun x (parts_of ps)))
    (without_last ps o since (begun ++ x ∷ []) place records none
    (subst (λ (qs : List Part). AreMadeSoFar place qs records) (onto_begun since begun x (parts_of (ps ++ a_line o ∷ []))) made))
without_last (a_cut k at ∷ ps) o since begun place records none made =
    let p : Part = record { lines = since ++ []; begun = begun ++ []; ending = by_cut k at } in
    let c = closed place p (parts_of (ps ++ a_line o ∷ [])) records (some_part (ps ++ a_line o ∷ [])) made in
    let on = without_last ps o [] [] (moved_by place c.mine) c.rest none (subst (λ (qs : List Part). AreMadeSoFar (moved_by place c.mine) qs c.rest) (sym (onto_none (parts_of (ps ++ a_line o ∷ [])))) c.on) in
    close place p (parts_of ps) records (some_part ps)
    (record { mine = c.mine; rest = c.rest; split = c.split; are = c.are; on = subst (λ (qs : List Part). AreMadeSoFar (moved_by place c.mine) qs c.rest) (onto_none (parts_of ps)) on })
without_last (a_reset r ∷ ps) o since begun place records none made =
    let p : Part = record { lines = since ++ []; begun = begun ++ []; ending = by_reset r } in
    let c = closed place p (parts_of (ps ++ a_line o ∷ [])) records (some_part (ps ++ a_line o ∷ [])) made in
    let on = without_last ps o [] [] (moved_by place c.mine) c.rest none (subst (λ (qs : List Part). AreMadeSoFar (moved_by place c.mine) qs c.rest) (sym (onto_none (parts_of (ps ++ a_line o ∷ [])))) c.on) in
    close place p (parts_of ps) records (some_part ps)
    (record { mine = c.mine; rest = c.rest; split = c.split; are = c.are; on = subst (λ (qs : List Part). AreMadeSoFar (moved_by place c.mine) qs c.rest) (onto_none (parts_of ps)) on })

-- ---- the console goes on with it

pub record ToAlarm (console : List ℕ) (front : List Passed) : Type 0 where
  pub rest : List ℕ
  pub told : Tells console (told_in front) rest
  pub goes_on : GoesOnWith rest (Alarm soft_limit)

pub to_alarm : (console : List ℕ) (front : List Passed) (b : Before) (o : Outcome) (rest : List ℕ) → o ≡ limited b → Tells console (told_in (front ++ a_line o ∷ [])) rest → ToAlarm console front
to_alarm console front b o rest is told =
    let alarm : told_in (a_line o ∷ []) ≡ Alarm soft_limit ∷ Message ResetToContinue ∷ [] = ap (λ (x : Outcome). tells x.work ++ []) is in
    let two : told_in (front ++ a_line o ∷ []) ≡ told_in front ++ (Alarm soft_limit ∷ Message ResetToContinue ∷ []) =
    flat_map-append told_of front (a_line o ∷ []) ∙ ap (λ (rs : List Reply). told_in front ++ rs) alarm in
    let t = in_turn console (told_in front) (Alarm soft_limit ∷ Message ResetToContinue ∷ []) rest (subst (λ (rs : List Reply). Tells console rs rest) two told) in
    record { rest = replies_text t.back ++ rest; told = t.tells; goes_on = comes_next t.back (Alarm soft_limit) (Message ResetToContinue ∷ []) rest t.is t.each }

-- ---- the alarm

-- the course that ends with it makes all records of the lines that stand
pub alarm_by_course : (sent : List Sent) (console steps : List ℕ) (z : StandTo sent console steps) (first : State) → IsOpening first → (course : List Passed) (last : Point) (left : List Sent) (rest : List ℕ)
    → LeadsTo (opening first) sent course last left → AreMadeSoFar origin (parts_of course) (records_of z.done) → Tells console (told_in course) rest
    → last.before.alarmed ≡ true → (k : ℕ) → last.before.number ≡ k + 1 → HasAlarm sent console steps k
alarm_by_course sent console steps z first opens course last left rest leads all told alarmed k number =
    let done = records_of z.done in
    let a = alarm_at_end (opening first) last sent left course leads refl alarmed in
    let is = limits a.point.before a.outcome (line_answers true a.point a.line a.outcome a.passed.becomes) a.raises in
    let none : asks a.outcome.work ≡ [] = ap (λ (x : Outcome). asks x.work) is in
    let with_last : AreMadeSoFar origin (behind_lines [] [] (parts_of (a.front ++ a_line a.outcome ∷ []))) done =
    subst (λ (ps : List Passed). AreMadeSoFar origin (behind_lines [] [] (parts_of ps)) done) a.split (subst (λ (qs : List Part). AreMadeSoFar origin qs done) (sym (onto_none (parts_of course))) all) in
    let made : AreMadeSoFar origin (parts_of a.front) done = subst (λ (qs : List Part). AreMadeSoFar origin qs done) (onto_none (parts_of a.front)) (without_last a.front a.outcome [] [] origin done none with_last) in
    let t = to_alarm console a.front a.point.before a.outcome rest is (subst (λ (ps : List Passed). Tells console (told_in ps) rest) a.split told) in
    let stands : StandsUpTo sent console done a.point (a_text a.line ∷ a.left) t.rest = record {
      first = first;
      opens = opens;
      course = a.front;
      between = a.point;
      waiting = a_text a.line ∷ a.left;
      leads = a.leads;
      made = made;
      others = [];
      goes_on = (refl, refl);
      rebases = tt;
      told = subst (λ (ps : List Passed). Tells console (told_in ps) t.rest) (sym (append-nil a.front)) t.told;
      waits = λ unanswered. differ a.point.unanswered unanswered a.passed.answered;
    } in
    let behind = a.number in
    record {
      steps_stand = z;
      point = a.point;
      line = a.line;
      left = a.left;
      rest = t.rest;
      stands = stands;
      outcome = a.outcome;
      passed = a.passed;
      raises = a.raises;
      tells = t.goes_on;
      number = (let e : a.point.before.number + 1 ≡ k + 1 = sym behind ∙ number in omega (arith, e));
    }

pub alarm_of : (job console steps : List ℕ) (events : ℕ) (f : FitsWith job console steps events) → f.fit.fits.last.before.alarmed ≡ true → (k : ℕ) → f.fit.fits.last.before.number ≡ k + 1 → HasAlarm (sent_in job) console steps k
alarm_of job console steps events f alarmed k number =
    let fits = f.fit.fits in
    let g = fitted job console steps events f in
    let done = records_of g.steps_stand.done in
    let w = whole job console (records_of f.lines) f.fit in
    let records : records_of f.lines ≡ done ++ kinds.End ∷ [] = ap records_of g.lines_are ∙ records_end g.steps_stand.done in
    let all : AreMadeSoFar origin (parts_of fits.course) done = made_so_far (parts_of fits.course) origin done (parts_end fits.course) (subst (λ (rs : List Record). AreRecorded origin (parts_of fits.course) rs) records fits.recorded) in
    alarm_by_course (sent_in job) console steps g.steps_stand fits.first fits.opens fits.course fits.last w.left [] w.leads all w.told alarmed k number
