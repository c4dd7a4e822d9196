-- A console with an error in place of an answer.
use Rattle.std.proofs.Common.{◌≡◌, ℕ, List, [], ◌∷◌, ◌++◌, length, append_assoc, append-nil, map, true, codes, sym, refl, ap, ◌∙◌, subst, arith, inl, inr}
use Rattle.std.specs.Fmt.{digits}
use Rattle.std.proofs.lemmas.List.{append_cancel_left}
use Rattle.flight.specs.Places.{origin}
use Rattle.gcode_words.specs.Comments.{cut_within}
use Rattle.status_report.specs.Answering.{without_reports}
use Rattle.status_report.specs.Replies.{reply_text}
use Rattle.status_report.specs.Reports.{report_text}
use Rattle.status_report.specs.declared.Reply.{Reply}
use Rattle.status_report.specs.declared.Reply.TheVariants.{Banner, Ok, Error, Alarm, Message, Setting, Modes, Offset, Report, Bye}
use Rattle.status_report.specs.declared.reports.Report.{Report as AnyReport}
use Rattle.step_line.specs.Events.{events_after}
use Rattle.step_line.specs.declared.Head.{Head}
use Rattle.step_line.specs.declared.Record.{Record}
use Rattle.step_line.specs.declared.Record.TheVariants as kinds
use Rattle.step_record.specs.Texts.{head_text}
use Rattle.run_rules.specs.Told.{replies_text}
use Rattle.run_rules.specs.Work.{Outcome, tells}
use Rattle.run_texts.specs.Courses.{Passed}
use Rattle.run_texts.specs.Courses.Passed.{a_line, a_broken, a_cut, a_reset}
use Rattle.run_texts.specs.Making.{Making, MadeBefore, nothing_yet}
use Rattle.run_texts.specs.Parts.{parts_of}
use Rattle.run_texts.specs.Parts.Ending.{by_cut}
use Rattle.run_texts.specs.Points.{Point, IsPassed, opening}
use Rattle.run_texts.specs.Rows.{head_of}
use Rattle.run_texts.specs.Sent.{Sent, has_reset, kept_of}
use Rattle.run_texts.specs.Sent.Sent.{a_text}
use Rattle.run_texts.specs.SoFar.{LeadsTo, AreMadeSoFar}
use Rattle.run_texts.specs.Told.{told_in}
use Rattle.run_texts.proofs.Making.{begins, before_record}
use Rattle.run_texts.proofs.Worked.{first, opens}
use Rattle.audit_rules.specs.Consoles.{Tells}
use Rattle.audit_rules.specs.Findings.{IsTooLong}
use Rattle.audit_rules.specs.Rows.{one_step, refused, banner, head, OtherAnswer}
use Rattle.audit_rules.specs.Scanned.{sent_in}
use Rattle.audit_rules.specs.Standing.{MayWait, Stand, StandTo}
use Rattle.audit_rules.specs.StepTexts.{IsLineOf, records_of}
use Rattle.step_record.specs.declared.forms.Line.{Line}
use Rattle.step_record.specs.Forms.{line_text}
use Rattle.step_record.specs.declared.forms.Form.TheVariants.{One}
use Rattle.step_record.specs.declared.forms.Line.TheVariants as line_kinds
use Rattle.audit_rules.specs.Telling.{StandsUpTo, StandsNoFurther, ConsoleStands, RebasesNothing, IsAwaited}
use Rattle.audit_rules.specs.Telling.HasBadReply.{behind as bad_behind}
use Rattle.audit_rules.specs.Telling.IsLineAtFault.{at_line as fault_here}
use Rattle.audit_rules.proofs.Fronts.{closed, some_part}
use Rattle.audit_rules.proofs.Lines.{one_line_here}
use Rattle.audit_rules.proofs.Places.{one_place}
use Rattle.audit_rules.proofs.Refuted.{differ, none_closed, one_line_course, accepted_only, step_tells, sent_is}
use Rattle.audit_rules.proofs.Worked.{head_right, short, not_foreign}

abbrev pub wrong : List ℕ
wrong = codes "error:20\r\n"

-- ---- what the console tells

banner_is : reply_text Banner ≡ banner
unfolding reply_text
banner_is = refl

behind_banner : (replies : List Reply) (rest t : List ℕ) → banner ++ t ≡ replies_text (Banner ∷ replies) ++ rest → t ≡ replies_text replies ++ rest
behind_banner replies rest t e =
    append_cancel_left banner t (replies_text replies ++ rest)
    (e ∙ append_assoc (reply_text Banner) (replies_text replies) rest ∙ ap (λ (b : List ℕ). b ++ (replies_text replies ++ rest)) banner_is)

abbrev first_byte : List ℕ → ℕ
first_byte [] = 0
first_byte (c ∷ cs) = c

no_report : {A : Type 0} (r : AnyReport) (x t : List ℕ) → 101 ∷ t ≡ reply_text (Report r) ++ x → A
unfolding reply_text report_text
no_report r x t e = absurd (let f : 101 ≡ 60 = ap first_byte e in omega (arith, f))

no_ok : {A : Type 0} (x t : List ℕ) → 101 ∷ t ≡ reply_text Ok ++ x → A
unfolding reply_text
no_ok x t e = absurd (let f : 101 ≡ 111 = ap first_byte e in omega (arith, f))

-- nothing is told
tells_nothing : (replies : List Reply) (rest t : List ℕ) → 101 ∷ t ≡ replies_text replies ++ rest → without_reports replies ≡ [] → rest ≡ 101 ∷ t
tells_nothing [] rest t e none = sym e
tells_nothing (Report r ∷ rs) rest t e none = no_report r (replies_text rs ++ rest) t (e ∙ append_assoc (reply_text (Report r)) (replies_text rs) rest)
tells_nothing (Banner ∷ rs) rest t e none = absurd cc
tells_nothing (Ok ∷ rs) rest t e none = absurd cc
tells_nothing (Error n ∷ rs) rest t e none = absurd cc
tells_nothing (Alarm n ∷ rs) rest t e none = absurd cc
tells_nothing (Message m ∷ rs) rest t e none = absurd cc
tells_nothing (Setting n v ∷ rs) rest t e none = absurd cc
tells_nothing (Modes m ∷ rs) rest t e none = absurd cc
tells_nothing (Offset row at ∷ rs) rest t e none = absurd cc
tells_nothing (Bye ∷ rs) rest t e none = absurd cc

-- an `ok` is not
tells_no_ok : {A : Type 0} (replies more : List Reply) (rest t : List ℕ) → 101 ∷ t ≡ replies_text replies ++ rest → without_reports replies ≡ Ok ∷ more → A
tells_no_ok [] more rest t e told = absurd cc
tells_no_ok (Report r ∷ rs) more rest t e told = no_report r (replies_text rs ++ rest) t (e ∙ append_assoc (reply_text (Report r)) (replies_text rs) rest)
tells_no_ok (Ok ∷ rs) more rest t e told = no_ok (replies_text rs ++ rest) t (e ∙ append_assoc (reply_text Ok) (replies_text rs) rest)
tells_no_ok (Banner ∷ rs) more rest t e told = absurd (let f : ◌≡◌ {A = Reply} Banner Ok = cc in cc)
tells_no_ok (Error n ∷ rs) more rest t e told = absurd (let f : ◌≡◌ {A = Reply} (Error n) Ok = cc in cc)
tells_no_ok (Alarm n ∷ rs) more rest t e told = absurd (let f : ◌≡◌ {A = Reply} (Alarm n) Ok = cc in cc)
tells_no_ok (Message m ∷ rs) more rest t e told = absurd (let f : ◌≡◌ {A = Reply} (Message m) Ok = cc in cc)
tells_no_ok (Setting n v ∷ rs) more rest t e told = absurd (let f : ◌≡◌ {A = Reply} (Setting n v) Ok = cc in cc)
tells_no_ok (Modes m ∷ rs) more rest t e told = absurd (let f : ◌≡◌ {A = Reply} (Modes m) Ok = cc in cc)
tells_no_ok (Offset row at ∷ rs) more rest t e told = absurd (let f : ◌≡◌ {A = Reply} (Offset row at) Ok = cc in cc)
tells_no_ok (Bye ∷ rs) more rest t e told = absurd (let f : ◌≡◌ {A = Reply} Bye Ok = cc in cc)

-- the line is not answered
not_answered : {A : Type 0} (told more : List Reply) (rest : List ℕ) → Tells refused told rest → told ≡ Ok ∷ more → A
not_answered told more rest t e = tells_no_ok t.behind more rest (codes "rror:20\r\n") (behind_banner t.behind rest wrong t.text) (t.are ∙ e)

rest_is : (told : List Reply) (rest : List ℕ) → Tells refused told rest → told ≡ [] → rest ≡ wrong
rest_is told rest t e = tells_nothing t.behind rest (codes "rror:20\r\n") (behind_banner t.behind rest wrong t.text) (t.are ∙ e)

-- ---- no record stands

no_events : {A : Type 0} (m n : Making) → MadeBefore [] [] (kinds.Head (head_of 1 1)) n → A
no_events m n b = by_count b.comes.0.head.n (ap (λ (h : Head). h.n) b.comes.1) b.comes.2.due.is where
  by_count : {A : Type 0} (k : ℕ) → k ≡ 1 → b.before.owed ≡ map kinds.Event (events_after b.comes.0.planned.mv b.comes.0.first k) ++ b.comes.2.due.rest → A
  by_count k is e =
      let none : ◌≡◌ {A = List Record} [] b.before.owed = b.is.ticks in
      let some : b.before.owed ≡ map kinds.Event (events_after b.comes.0.planned.mv b.comes.0.first 1) ++ b.comes.2.due.rest =
      e ∙ ap (λ (j : ℕ). map kinds.Event (events_after b.comes.0.planned.mv b.comes.0.first j) ++ b.comes.2.due.rest) is in
      absurd (let f = none ∙ some in cc)

head_stands_not : Stand (sent_in one_step) refused (kinds.Head (head_of 1 1) ∷ []) → ⊥
head_stands_not s =
    one_line_course (opening s.first) s.point (kept_of one_step) s.left s.course s.rest (kinds.Head (head_of 1 1) ∷ [])
    (subst (λ (ss : List Sent). LeadsTo (opening s.first) ss s.course s.point s.left) sent_is s.leads) s.waits s.made (refl, tt)
    (λ e. by_none (subst (λ (ps : List Passed). AreMadeSoFar origin (parts_of ps) (kinds.Head (head_of 1 1) ∷ [])) e s.made))
    (λ o e is. not_answered (told_in s.course) [] s.rest s.told
    (ap told_in e ∙ append-nil (tells o.work) ∙ ap (λ (x : Outcome). tells x.work) (accepted_only s.first o s.opens is) ∙ step_tells)) where
      by_none : AreMadeSoFar origin (parts_of []) (kinds.Head (head_of 1 1) ∷ []) → ⊥
      by_none made = no_events made.0 made.0 (before_record [] [] (kinds.Head (head_of 1 1)) made.0 made.1)

abbrev pub steps : List ℕ
steps = head ++ codes "X+\nE\n"

pub nothing_stands : StandTo (sent_in one_step) refused steps
unfolding reply_text head_text digits
nothing_stands = record {
  done = [];
  rest = steps;
  text = refl;
  are = record { each = tt; apart = tt };
  stand = record {
    first = first;
    opens = opens;
    course = [];
    point = opening first;
    left = sent_in one_step;
    leads = (refl, refl);
    rest = wrong;
    told = record { behind = []; text = refl; each = tt; are = refl };
    waits = λ unanswered. differ (sym unanswered);
    made = (nothing_yet, begins);
  };
  furthest = λ line more is are stand. head_first line more are.each.0 is stand;
} where
  head_first : (line : Line) (more : List ℕ) → IsLineOf One line → steps ≡ line_text line ++ more → Stand (sent_in one_step) refused (records_of (line ∷ [])) → ⊥
  head_first line more is e stand =
      let same = one_line_here One (line_kinds.One (kinds.Head (head_of 1 1))) line (codes "X+\nE\n") more head_right is e in
      head_stands_not (subst (λ (l : Line). Stand (sent_in one_step) refused (records_of (l ∷ []))) (sym same.line) stand)

-- ---- nothing more is told

-- what a course may tell at all: nothing, or an `ok` first
others_tell : {A : Type 0} (p point : Point) (kept : List ℕ) (waiting : List Sent) (others : List Passed) (rest : List ℕ)
    → LeadsTo p (a_text kept ∷ []) others point waiting → RebasesNothing p (a_text kept ∷ []) others → MayWait point waiting rest
    → (told_in others ≡ [] → A) → ((o : Outcome) (ps : List Passed) → others ≡ a_line o ∷ ps → IsPassed p kept o → A) → A
others_tell p point kept waiting [] rest f rebases waits none with_line = none refl
others_tell p point kept waiting (a_cut k at ∷ ps) rest f rebases waits none with_line = absurd rebases
others_tell p point kept waiting (a_reset r ∷ ps) rest f rebases waits none with_line = differ (sym f.0.comes)
others_tell p point kept waiting (a_line o ∷ ps) rest f rebases waits none with_line = with_line o ps refl f.0
others_tell p point kept waiting (a_broken o ∷ []) rest f rebases waits none with_line =
    let w = waits (ap (λ (x : Point). x.unanswered) f.1.0) in
    differ (sym (subst (λ (ss : List Sent). has_reset ss ≡ true) f.1.1 w.is.comes))
others_tell p point kept waiting (a_broken o ∷ a_cut k at ∷ ps) rest f rebases waits none with_line = absurd rebases
others_tell p point kept waiting (a_broken o ∷ a_reset r ∷ ps) rest f rebases waits none with_line = differ (sym f.1.0.comes)
others_tell p point kept waiting (a_broken o ∷ a_line x ∷ ps) rest f rebases waits none with_line = absurd f.1
others_tell p point kept waiting (a_broken o ∷ a_broken x ∷ ps) rest f rebases waits none with_line = absurd f.1

-- a line that is passed tells `ok`, which stands not
passed_not : {A : Type 0} (point : Point) (waiting : List Sent) (more : List ℕ) (s : StandsUpTo (sent_in one_step) refused [] point waiting more) (o : Outcome) (ps : List Passed)
    → s.course ++ s.others ≡ a_line o ∷ ps → IsPassed (opening s.first) (kept_of one_step) o → A
passed_not point waiting more s o ps e is =
    let tells_ok : tells o.work ≡ Ok ∷ [] = ap (λ (x : Outcome). tells x.work) (accepted_only s.first o s.opens is) ∙ step_tells in
    not_answered (told_in (s.course ++ s.others)) (told_in ps) more s.told (ap told_in e ∙ ap (λ (rs : List Reply). rs ++ told_in ps) tells_ok)

no_records_course : {A : Type 0} (point : Point) (waiting : List Sent) (more : List ℕ) (s : StandsUpTo (sent_in one_step) refused [] point waiting more) (course : List Passed)
    → s.course ≡ course → LeadsTo (opening s.first) (a_text (kept_of one_step) ∷ []) course s.between s.waiting → AreMadeSoFar origin (parts_of course) [] → (more ≡ wrong → A) → A
no_records_course point waiting more s [] e f made then =
    let on : LeadsTo (opening s.first) (a_text (kept_of one_step) ∷ []) s.others point waiting =
    subst (λ (ss : List Sent). LeadsTo (opening s.first) ss s.others point waiting) f.1 (subst (λ (x : Point). LeadsTo x s.waiting s.others point waiting) f.0 s.goes_on) in
    let rebases : RebasesNothing (opening s.first) (a_text (kept_of one_step) ∷ []) s.others =
    subst (λ (ss : List Sent). RebasesNothing (opening s.first) ss s.others) f.1 (subst (λ (x : Point). RebasesNothing x s.waiting s.others) f.0 s.rebases) in
    others_tell (opening s.first) point (kept_of one_step) waiting s.others more on rebases s.waits
    (λ none. then (rest_is (told_in (s.course ++ s.others)) more s.told (ap (λ (ps : List Passed). told_in (ps ++ s.others)) e ∙ none)))
    (λ o ps is passed. passed_not point waiting more s o ps (ap (λ (qs : List Passed). qs ++ s.others) e ∙ is) passed)
no_records_course point waiting more s (a_cut k at ∷ ps) e f made then =
    none_closed (record { lines = []; begun = []; ending = by_cut k at }) (parts_of ps) [] refl tt (closed origin (record { lines = []; begun = []; ending = by_cut k at }) (parts_of ps) [] (some_part ps) made)
no_records_course point waiting more s (a_reset r ∷ ps) e f made then = differ (sym f.0.comes)
no_records_course point waiting more s (a_line o ∷ ps) e f made then = passed_not point waiting more s o (ps ++ s.others) (ap (λ (qs : List Passed). qs ++ s.others) e) f.0
no_records_course point waiting more s (a_broken o ∷ []) e f made then = by_others s.others s.goes_on s.rebases where
  by_others : {B : Type 0} (others : List Passed) → LeadsTo s.between s.waiting others point waiting → RebasesNothing s.between s.waiting others → B
  by_others [] g rebases =
      let unanswered : point.unanswered ≡ true = ap (λ (x : Point). x.unanswered) (g.0 ∙ f.1.0) in
      let w = s.waits unanswered in
      differ (sym (subst (λ (ss : List Sent). has_reset ss ≡ true) (g.1 ∙ f.1.1) w.is.comes))
  by_others (a_cut k at ∷ ps) g rebases = absurd rebases
  by_others (a_reset r ∷ ps) g rebases = differ (sym (subst (λ (ss : List Sent). has_reset ss ≡ true) f.1.1 g.0.comes))
  by_others (a_line x ∷ ps) g rebases = absurd (subst (λ (ss : List Sent). LeadsTo s.between ss (a_line x ∷ ps) point waiting) f.1.1 g)
  by_others (a_broken x ∷ ps) g rebases = absurd (subst (λ (ss : List Sent). LeadsTo s.between ss (a_broken x ∷ ps) point waiting) f.1.1 g)
no_records_course point waiting more s (a_broken o ∷ a_cut k at ∷ ps) e f made then =
    none_closed (record { lines = []; begun = o ∷ []; ending = by_cut k at }) (parts_of ps) [] refl tt (closed origin (record { lines = []; begun = o ∷ []; ending = by_cut k at }) (parts_of ps) [] (some_part ps) made)
no_records_course point waiting more s (a_broken o ∷ a_reset r ∷ ps) e f made then = differ (sym f.1.0.comes)
no_records_course point waiting more s (a_broken o ∷ a_line x ∷ ps) e f made then = absurd f.1
no_records_course point waiting more s (a_broken o ∷ a_broken x ∷ ps) e f made then = absurd f.1

only_wrong : (point : Point) (waiting : List Sent) (more : List ℕ) → StandsUpTo (sent_in one_step) refused [] point waiting more → more ≡ wrong
only_wrong point waiting more s =
    no_records_course point waiting more s s.course refl (subst (λ (ss : List Sent). LeadsTo (opening s.first) ss s.course s.between s.waiting) sent_is s.leads) s.made (λ e. e)

stands_not : ConsoleStands (sent_in one_step) refused steps → ⊥
unfolding nothing_stands
stands_not c =
    let same = one_place (sent_in one_step) refused steps c.steps_stand nothing_stands in
    let e : [] ≡ wrong = only_wrong c.point c.left [] (subst (λ (ls : List Line). StandsUpTo (sent_in one_step) refused (records_of ls) c.point c.left []) same.done c.stands) in
    absurd cc

stands_here : StandsUpTo (sent_in one_step) refused [] (opening first) (sent_in one_step) wrong
unfolding reply_text
stands_here = record {
  first = first;
  opens = opens;
  course = [];
  between = opening first;
  waiting = sent_in one_step;
  leads = (refl, refl);
  made = (nothing_yet, begins);
  others = [];
  goes_on = (refl, refl);
  rebases = tt;
  told = record { behind = []; text = refl; each = tt; are = refl };
  waits = λ unanswered. differ (sym unanswered);
}

awaited : IsAwaited (sent_in one_step) wrong
unfolding cut_within
awaited = λ comes anew. differ (sym comes)

no_further : StandsNoFurther (sent_in one_step) refused steps 1
unfolding nothing_stands stands_here
no_further = record {
  bad = stands_not;
  steps_stand = nothing_stands;
  point = opening first;
  left = sent_in one_step;
  rest = wrong;
  stands = stands_here;
  answered = refl;
  furthest = λ point waiting more s. omega (arith, ap length (only_wrong point waiting more s));
  is = fault_here refl awaited refl;
}

not_either : IsTooLong refused steps → ⊥
not_either (inl long) = short refused 38 refl (omega arith) long
not_either (inr long) = short steps 20 refl (omega arith) long

pub answer_found : OtherAnswer
answer_found = (not_either, not_foreign refused steps, bad_behind no_further)
