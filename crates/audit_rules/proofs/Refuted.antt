-- Worked texts that do not fit.
use Rattle.std.proofs.Common.{◌≡◌, ℕ, ◌⊎◌, inl, inr, List, [], ◌∷◌, ◌++◌, true, false, ℤ, pos, negsuc, codes, sym, refl, ap, ◌∙◌, subst, arith}
use Rattle.std.specs.Fmt.{digits}
use Rattle.std.specs.List.{AllByRecursion}
use Rattle.units.specs.Counting.{count, events_of}
use Rattle.units.specs.Reading.{decimal_from}
use Rattle.units.specs.Decimals.{front_number, digits_say}
use Rattle.units.specs.Rounding.{rounded_quotient}
use Rattle.gcode_words.specs.Comments.{cut_within}
use Rattle.gcode_words.specs.Words.{first_word, words_within}
use Rattle.line_words.specs.Codes.{group_of, code_in}
use Rattle.line_words.specs.Targets.{target, targets}
use Rattle.line_words.specs.WordRefusals.{word_refusal, refusal_at, words_refusal}
use Rattle.gcode_check.specs.Conditions.{line_refusal}
use Rattle.gcode_check.specs.NewOffsets.{new_system_offset, new_g92}
use Rattle.gcode_check.specs.Effects.{offsets_after, parser_moved, parser_after}
use Rattle.gcode_check.specs.Items.{items_of}
use Rattle.gcode_check.specs.Verdicts.{verdict}
use Rattle.flight.specs.Places.{origin}
use Rattle.step_line.specs.Events.{event_of, steps_at}
use Rattle.step_line.specs.declared.Bits.{Bits}
use Rattle.step_line.specs.declared.Record.{Record}
use Rattle.step_line.specs.declared.Record.TheVariants as kinds
use Rattle.step_record.specs.Texts.{event_text, head_text}
use Rattle.run_rules.proofs.Determined.{one_opening}
use Rattle.run_rules.specs.Outcomes.{IsLockedOut, start}
use Rattle.run_rules.specs.States.{IsOpening}
use Rattle.run_rules.specs.Work.{Outcome, tells}
use Rattle.run_rules.specs.declared.State.{State}
use Rattle.run_texts.specs.Courses.{Passed}
use Rattle.run_texts.specs.Courses.Passed.{a_line, a_broken, a_cut, a_reset}
use Rattle.run_texts.specs.Making.{Making, IsMade}
use Rattle.run_texts.specs.Parts.{Part, parts_of, is_ending, ending_record}
use Rattle.run_texts.specs.Parts.Ending.{by_cut, by_end}
use Rattle.run_texts.specs.Points.{Point, IsPassed, opening, behind_line}
use Rattle.run_texts.specs.Recorded.{ticks_for_all}
use Rattle.run_texts.specs.Rows.{right, left, head_of, steps_of}
use Rattle.run_texts.specs.Sent.{Sent, has_reset, kept_of}
use Rattle.run_texts.specs.Sent.Sent.{a_text}
use Rattle.run_texts.specs.SoFar.{LeadsTo, AreMadeSoFar}
use Rattle.status_report.specs.declared.Reply.TheVariants as replies
use Rattle.run_texts.proofs.Worked.{first, opens, coded, one_step_fits}
use Rattle.audit_rules.specs.Rows.{one_step, accepted}
use Rattle.audit_rules.specs.Scanned.{sent_in}
use Rattle.audit_rules.specs.Standing.{MayWait, Stand, StandTo}
use Rattle.audit_rules.specs.StepTexts.{IsLineOf, records_of}
use Rattle.step_record.specs.declared.forms.Line.{Line}
use Rattle.step_record.specs.Forms.{line_text}
use Rattle.step_record.specs.declared.forms.Form.TheVariants.{One}
use Rattle.step_record.specs.declared.forms.Line.TheVariants as line_kinds
use Rattle.audit_rules.specs.Rows.{head, OtherStep}
use Rattle.audit_rules.proofs.Lines.{one_line_here}
use Rattle.audit_rules.proofs.Stands.{stand_front}
use Rattle.audit_rules.proofs.Worked.{head_right, stand_done, not_long, not_foreign}
use Rattle.run_texts.proofs.Making.{before_record, finished}
use Rattle.run_texts.specs.Recorded.{IsRecorded}
use Rattle.status_report.specs.Replies.{reply_text}
use Rattle.audit_rules.specs.Telling.{StandsUpTo, IsOver}
use Rattle.audit_rules.specs.Findings.BreaksAt.{at_line}
use Rattle.audit_rules.proofs.Fronts.{Closed, closed, some_part}
use Rattle.audit_rules.proofs.Replies.{all_second}

-- ---- a job of one line, with no reset

abbrev pub Inside : List Record → Type 0
Inside records = AllByRecursion (λ r. is_ending r ≡ false) records

pub differ : {A : Type 0} → true ≡ false → A
differ e = absurd cc

-- no part is ended among records that end none
pub none_closed : {A : Type 0} (p : Part) (ps : List Part) (records : List Record) → is_ending (ending_record p.ending) ≡ true → Inside records → Closed origin p ps records → A
none_closed p ps records ends inside c =
    let here = (all_second (λ r. is_ending r ≡ false) c.mine (ending_record p.ending ∷ c.rest) (subst (λ (rs : List Record). Inside rs) c.split inside)).0 in
    differ (sym ends ∙ here)

-- a course whose records end no part has the line, or has none
pub one_line_course : {A : Type 0} (p point : Point) (kept : List ℕ) (waiting : List Sent) (course : List Passed) (rest : List ℕ) (records : List Record)
    → LeadsTo p (a_text kept ∷ []) course point waiting → MayWait point waiting rest → AreMadeSoFar origin (parts_of course) records → Inside records
    → (course ≡ [] → A) → ((o : Outcome) → course ≡ a_line o ∷ [] → IsPassed p kept o → A) → A
one_line_course p point kept waiting [] rest records f waits made inside none with_line = none refl
one_line_course p point kept waiting (a_cut k at ∷ ps) rest records f waits made inside none with_line =
    none_closed (record { lines = []; begun = []; ending = by_cut k at }) (parts_of ps) records refl inside (closed origin (record { lines = []; begun = []; ending = by_cut k at }) (parts_of ps) records (some_part ps) made)
one_line_course p point kept waiting (a_reset r ∷ ps) rest records f waits made inside none with_line = differ (sym f.0.comes)
one_line_course p point kept waiting (a_broken o ∷ []) rest records f waits made inside none with_line =
    let w = waits (ap (λ (x : Point). x.unanswered) f.1.0) in
    differ (sym (subst (λ (ss : List Sent). has_reset ss ≡ true) f.1.1 w.is.comes))
one_line_course p point kept waiting (a_broken o ∷ a_cut k at ∷ ps) rest records f waits made inside none with_line =
    none_closed (record { lines = []; begun = o ∷ []; ending = by_cut k at }) (parts_of ps) records refl inside (closed origin (record { lines = []; begun = o ∷ []; ending = by_cut k at }) (parts_of ps) records (some_part ps) made)
one_line_course p point kept waiting (a_broken o ∷ a_reset r ∷ ps) rest records f waits made inside none with_line = differ (sym f.1.0.comes)
one_line_course p point kept waiting (a_broken o ∷ a_line x ∷ ps) rest records f waits made inside none with_line = absurd f.1
one_line_course p point kept waiting (a_broken o ∷ a_broken x ∷ ps) rest records f waits made inside none with_line = absurd f.1
one_line_course p point kept waiting (a_line o ∷ []) rest records f waits made inside none with_line = with_line o refl f.0
one_line_course p point kept waiting (a_line o ∷ a_cut k at ∷ ps) rest records f waits made inside none with_line =
    none_closed (record { lines = o ∷ []; begun = []; ending = by_cut k at }) (parts_of ps) records refl inside (closed origin (record { lines = o ∷ []; begun = []; ending = by_cut k at }) (parts_of ps) records (some_part ps) made)
one_line_course p point kept waiting (a_line o ∷ a_reset r ∷ ps) rest records f waits made inside none with_line = differ (sym f.1.0.comes)
one_line_course p point kept waiting (a_line o ∷ a_line x ∷ ps) rest records f waits made inside none with_line = absurd f.1
one_line_course p point kept waiting (a_line o ∷ a_broken x ∷ ps) rest records f waits made inside none with_line = absurd f.1

-- ---- the line is accepted

abbrev pub step_made : Outcome
step_made = coded (start first) one_step

by_choice : (o : Outcome) → IsLockedOut true (start first) o ⊎ (o ≡ step_made) → o ≡ step_made
by_choice o (inl locked) = differ (sym locked.cause)
by_choice o (inr e) = e

accepted_first : (o : Outcome) → IsPassed (opening first) (kept_of one_step) o → o ≡ step_made
unfolding cut_within words_within first_word decimal_from front_number digits_say verdict words_refusal refusal_at word_refusal group_of code_in target targets line_refusal new_system_offset new_g92 offsets_after parser_moved parser_after items_of rounded_quotient events_of event_of steps_at count
accepted_first o is = by_choice o is.becomes

pub accepted_only : (s : State) (o : Outcome) → IsOpening s → IsPassed (opening s) (kept_of one_step) o → o ≡ step_made
accepted_only s o opening_state is = accepted_first o (subst (λ (t : State). IsPassed (opening t) (kept_of one_step) o) (one_opening s first opening_state opens) is)

step_ticks : ticks_for_all (step_made ∷ []) ≡ kinds.Event right ∷ []
unfolding cut_within words_within first_word decimal_from front_number digits_say verdict words_refusal refusal_at word_refusal group_of code_in target targets line_refusal new_system_offset new_g92 offsets_after parser_moved parser_after items_of rounded_quotient events_of event_of steps_at count
step_ticks = refl

pub step_tells : tells step_made.work ≡ replies.Ok ∷ []
unfolding cut_within words_within first_word decimal_from front_number digits_say verdict words_refusal refusal_at word_refusal group_of code_in target targets line_refusal new_system_offset new_g92 offsets_after parser_moved parser_after items_of rounded_quotient events_of event_of steps_at count
step_tells = refl

pub sent_is : sent_in one_step ≡ a_text (kept_of one_step) ∷ []
unfolding cut_within
sent_is = refl

-- ---- a step the other way

abbrev pub other_records : List Record
other_records = kinds.Head (head_of 1 1) ∷ kinds.Event left ∷ []

right_left : {A : Type 0} (xs ys : List Record) → ◌≡◌ {A = List Record} (kinds.Event right ∷ xs) (kinds.Event left ∷ ys) → A
right_left xs ys e = absurd (let same : right ≡ left = cc in let way : ◌≡◌ {A = ℤ} (pos 1) (negsuc 0) = ap (λ (b : Bits). b.x) same in cc)

not_of_none : {A : Type 0} (m : Making) → IsMade [] other_records m → A
not_of_none m is = absurd (let e : ◌≡◌ {A = List Record} [] (kinds.Event left ∷ m.owed) = is.ticks in cc)

not_of_step : {A : Type 0} (m : Making) → IsMade (step_made ∷ []) other_records m → A
not_of_step m is = right_left [] m.owed (sym step_ticks ∙ is.ticks)

pub other_stands_not : (console : List ℕ) → Stand (sent_in one_step) console other_records → ⊥
other_stands_not console s =
    one_line_course (opening s.first) s.point (kept_of one_step) s.left s.course s.rest other_records
    (subst (λ (ss : List Sent). LeadsTo (opening s.first) ss s.course s.point s.left) sent_is s.leads) s.waits s.made (refl, (refl, tt))
    (λ e. by_none (subst (λ (ps : List Passed). AreMadeSoFar origin (parts_of ps) other_records) e s.made))
    (λ o e is. by_line o (accepted_only s.first o s.opens is) (subst (λ (ps : List Passed). AreMadeSoFar origin (parts_of ps) other_records) e s.made)) where
      by_none : AreMadeSoFar origin (parts_of []) other_records → ⊥
      by_none made = not_of_none made.0 made.1

      by_line : (o : Outcome) → o ≡ step_made → AreMadeSoFar origin (parts_of (a_line o ∷ [])) other_records → ⊥
      by_line o same made = not_of_step made.0 (subst (λ (x : Outcome). IsMade (x ∷ []) other_records made.0) same made.1)

left_line : IsLineOf One (line_kinds.One (kinds.Event left))
left_line = record { x = omega arith; y = omega arith; z = omega arith; some = omega arith }

abbrev pub head_line : List Line
head_line = line_kinds.One (kinds.Head (head_of 1 1)) ∷ []

other_stands : StandTo (sent_in one_step) accepted (head ++ codes "X-\nE\n")
unfolding head_text event_text digits
other_stands = record {
  done = head_line;
  rest = codes "X-\nE\n";
  text = refl;
  are = record { each = (head_right, tt); apart = tt };
  stand = stand_front (sent_in one_step) accepted (records_of head_line) (kinds.Event right ∷ []) stand_done;
  furthest = λ line more is are stand. behind line more (all_second (IsLineOf One) head_line (line ∷ []) are.each).0 is stand;
} where
  behind : (line : Line) (more : List ℕ) → IsLineOf One line → codes "X-\nE\n" ≡ line_text line ++ more → Stand (sent_in one_step) accepted (records_of (head_line ++ line ∷ [])) → ⊥
  behind line more is e stand =
      let same = one_line_here One (line_kinds.One (kinds.Event left)) line (codes "E\n") more left_line is e in
      other_stands_not accepted (subst (λ (l : Line). Stand (sent_in one_step) accepted (records_of (head_line ++ l ∷ []))) (sym same.line) stand)

-- the console stands with the head alone
abbrev pub course_of_step : List Passed
course_of_step = a_line step_made ∷ []

abbrev pub part_of_step : Part
part_of_step = record { lines = step_made ∷ []; begun = []; ending = by_end }

step_recorded : IsRecorded origin part_of_step (steps_of 1 1 right)
unfolding cut_within words_within first_word decimal_from front_number digits_say verdict words_refusal refusal_at word_refusal group_of code_in target targets line_refusal new_system_offset new_g92 offsets_after parser_moved parser_after items_of rounded_quotient events_of event_of steps_at count one_step_fits
step_recorded = one_step_fits.recorded.3

head_made : AreMadeSoFar origin (parts_of course_of_step) (records_of head_line)
head_made = let f = finished origin part_of_step (steps_of 1 1 right) step_recorded in let b = before_record (step_made ∷ []) (records_of head_line) (kinds.Event right) f.making f.is in (b.before, b.is)

abbrev pub behind_step : Point
behind_step = behind_line (opening first) (kept_of one_step) step_made

step_passed : IsPassed (opening first) (kept_of one_step) step_made
unfolding cut_within words_within first_word decimal_from front_number digits_say verdict words_refusal refusal_at word_refusal group_of code_in target targets line_refusal new_system_offset new_g92 offsets_after parser_moved parser_after items_of rounded_quotient events_of event_of steps_at count one_step_fits
step_passed = one_step_fits.follows.0

head_stands : StandsUpTo (sent_in one_step) accepted (records_of head_line) behind_step [] []
unfolding cut_within words_within first_word decimal_from front_number digits_say verdict words_refusal refusal_at word_refusal group_of code_in target targets line_refusal new_system_offset new_g92 offsets_after parser_moved parser_after items_of rounded_quotient events_of event_of steps_at count one_step_fits reply_text
head_stands = record {
  first = first;
  opens = opens;
  course = course_of_step;
  between = behind_step;
  waiting = [];
  leads = (step_passed, (refl, refl));
  made = head_made;
  others = [];
  goes_on = (refl, refl);
  rebases = tt;
  told = record { behind = replies.Ok ∷ []; text = refl; each = (tt, tt); are = refl };
  waits = λ unanswered. differ (sym unanswered);
}

step_over : IsOver behind_step []
unfolding cut_within words_within first_word decimal_from front_number digits_say verdict words_refusal refusal_at word_refusal group_of code_in target targets line_refusal new_system_offset new_g92 offsets_after parser_moved parser_after items_of rounded_quotient events_of event_of steps_at count one_step_fits
step_over = record { answered = refl; rest = refl }

not_the_end : {A : Type 0} (more : List ℕ) → codes "X-\nE\n" ≡ codes "E\n" ++ more → A
not_the_end more e = absurd cc

pub other_found : OtherStep
unfolding other_stands head_text digits event_text
other_found = (
  not_long (head ++ codes "X-\nE\n") 20 refl (omega arith),
  not_foreign accepted (head ++ codes "X-\nE\n"),
  record { steps_stand = other_stands; point = behind_step; left = []; stands = head_stands; over = step_over },
  at_line other_stands (λ more e may. not_the_end more e) refl,
)
