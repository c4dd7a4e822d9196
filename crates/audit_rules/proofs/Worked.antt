-- Worked texts that fit.
use Rattle.std.proofs.Common.{◌≡◌, ◌≢◌, ℕ, ◌≤◌, ◌<◌, ◌^◌, inl, inr, List, [], ◌∷◌, ◌++◌, length, append-nil, true, codes, sym, refl, ap, ◌∙◌, subst, arith}
use Rattle.std.specs.Fmt.{digits}
use Rattle.units.specs.Counting.{count, events_of}
use Rattle.units.specs.Reading.{decimal_from}
use Rattle.units.specs.Decimals.{front_number, digits_say}
use Rattle.units.specs.Rounding.{rounded_quotient}
use Rattle.gcode_words.specs.Comments.{cut_within}
use Rattle.gcode_words.specs.Words.{first_word, words_within}
use Rattle.line_words.specs.Codes.{group_of, code_in}
use Rattle.line_words.specs.Targets.{target, targets}
use Rattle.line_words.specs.WordRefusals.{word_refusal, refusal_at, words_refusal}
use Rattle.gcode_check.specs.Conditions.{line_refusal}
use Rattle.gcode_check.specs.NewOffsets.{new_system_offset, new_g92}
use Rattle.gcode_check.specs.Effects.{offsets_after, parser_moved, parser_after}
use Rattle.gcode_check.specs.Items.{items_of}
use Rattle.gcode_check.specs.Verdicts.{verdict}
use Rattle.status_report.specs.Replies.{reply_text}
use Rattle.status_report.specs.declared.Reply.TheVariants as replies
use Rattle.step_line.specs.Events.{event_of, steps_at}
use Rattle.step_line.specs.Records.{IsRecord}
use Rattle.step_line.specs.declared.Record.TheVariants as kinds
use Rattle.step_record.specs.Texts.{event_text, head_text}
use Rattle.run_texts.specs.Rows.{right, head_of}
use Rattle.run_texts.specs.Sent.{Sent, kept_of, behind_reset}
use Rattle.run_texts.specs.Sent.Sent.{a_text, a_stop}
use Rattle.run_texts.proofs.Worked.{one_step_fits, first, opens}
use Rattle.audit_rules.specs.Findings.{TextsFit, FitsWith, HasForeign, is_foreign, IsTooLong}
use Rattle.audit_rules.specs.Rows.{accepted, banner, one_step, head, OneStepFits, CompactFits, NoEnd, MoreBehindEnd, NothingFits, HomingIsForeign}
use Rattle.audit_rules.specs.Scanned.{scanned, sent_in}
use Rattle.audit_rules.specs.StepTexts.{IsLineOf, records_of, lines_text}
use Rattle.step_record.specs.declared.forms.Line.{Line}
use Rattle.step_record.specs.Forms.{line_text}
use Rattle.step_record.specs.declared.forms.Form.TheVariants.{One}
use Rattle.audit_rules.specs.Standing.{Stand, StandTo}
use Rattle.audit_rules.proofs.Fitted.{StandsWhole, whole_by, stand_by}
use Rattle.audit_rules.specs.Findings.BreaksAt.{at_line, behind_end}
use Rattle.audit_rules.proofs.Lines.{line_is_some, one_line_here}
use Rattle.audit_rules.proofs.Replies.{all_second}
use Rattle.audit_rules.proofs.Fitting.{no_end}
use Rattle.audit_rules.specs.Telling.{HasAlarm}
use Rattle.run_texts.specs.Courses.{Passed, behind_cut, behind_the_reset}
use Rattle.run_texts.specs.Courses.Passed.{a_line, a_broken, a_cut, a_reset}
use Rattle.run_texts.specs.Points.{Point, opening, behind_line, behind_broken}
use Rattle.run_texts.specs.SoFar.{LeadsTo}
use Rattle.step_record.specs.declared.forms.Line.TheVariants as line_kinds

abbrev pub done : List Line
done = line_kinds.One (kinds.Head (head_of 1 1)) ∷ line_kinds.One (kinds.Event right) ∷ []

abbrev pub step_lines : List Line
step_lines = done ++ line_kinds.One kinds.End ∷ []

pub head_is : head_text (head_of 1 1) ≡ head
unfolding head_text digits
head_is = refl

pub right_is : event_text right ≡ codes "X+\n"
unfolding event_text
right_is = refl

pub scanned_is : scanned one_step ≡ record { lines = one_step ∷ []; rest = [] }
unfolding cut_within
scanned_is = refl

pub step_fits : TextsFit one_step accepted (records_of step_lines)
unfolding cut_within words_within first_word decimal_from front_number digits_say verdict words_refusal refusal_at word_refusal group_of code_in target targets line_refusal new_system_offset new_g92 offsets_after parser_moved parser_after items_of rounded_quotient events_of event_of steps_at count reply_text one_step_fits
step_fits = record {
  behind = replies.Ok ∷ [];
  text = refl;
  each = (tt, tt);
  sent = sent_in one_step;
  later = [];
  split = sym (append-nil (sent_in one_step));
  cancels = 0;
  fits = one_step_fits;
  counted = refl;
  over = refl;
}

step_text : (heading : List ℕ) → heading ++ (line_text (line_kinds.One (kinds.Head (head_of 1 1))) ++ (line_text (line_kinds.One (kinds.Event right)) ++ (line_text (line_kinds.One kinds.End) ++ []))) ≡ heading ++ (head ++ codes "X+\nE\n")
step_text heading = ap (λ (t : List ℕ). heading ++ (t ++ (event_text right ++ codes "E\n"))) head_is ∙ ap (λ (t : List ℕ). heading ++ (head ++ (t ++ codes "E\n"))) right_is

-- ---- which lines are not audited

pub not_foreign : (console steps : List ℕ) → HasForeign one_step console steps → ⊥
unfolding cut_within words_within first_word decimal_from front_number digits_say
not_foreign console steps f = by_split f.1.before f.1.here f.1.behind (sym scanned_lines ∙ f.1.split) f.1.is where
  scanned_lines : (scanned one_step).lines ≡ one_step ∷ []
  scanned_lines = ap (λ s. s.lines) scanned_is

  by_split : (before : List (List ℕ)) (here : List ℕ) (behind : List (List ℕ)) → one_step ∷ [] ≡ before ++ here ∷ behind → is_foreign (kept_of here) ≡ true → ⊥
  by_split [] here behind e is = absurd (let same : one_step ≡ here = cc in let f : is_foreign (kept_of one_step) ≡ true = ap (λ (l : List ℕ). is_foreign (kept_of l)) same ∙ is in cc)
  by_split (x ∷ []) here behind e is = absurd cc
  by_split (x ∷ y ∷ xs) here behind e is = absurd cc

pub short : (text : List ℕ) (n : ℕ) → length text ≡ n → n < 2 ^ 63 → 2 ^ 63 ≤ length text → ⊥
short text n e few long = absurd (omega (arith, e, few, long))

pub head_right : IsRecord (kinds.Head (head_of 1 1))
head_right = record { line = (omega arith, omega arith); n = (omega arith, omega arith); w = omega arith; cycles = omega arith }

pub event_right : IsRecord (kinds.Event right)
event_right = record { x = omega arith; y = omega arith; z = omega arith; some = omega arith }

step_count : FitsWith one_step accepted (head ++ codes "X+\nE\n") 1
step_count = record {
  lines = step_lines;
  steps_are = record { are = record { each = (head_right, (event_right, (tt, tt))); apart = (tt, (tt, tt)) }; body = sym (step_text []) };
  fit = step_fits;
  count = refl;
}

compact_count : FitsWith one_step accepted (codes "V 2\n" ++ head ++ codes "X+\nE\n") 1
compact_count = record {
  lines = step_lines;
  steps_are = record { are = record { each = (head_right, (event_right, (tt, tt))); apart = ((λ b e f. absurd cc), ((λ b e f. absurd cc), tt)) }; body = sym (step_text []) };
  fit = step_fits;
  count = refl;
}

pub not_long : (steps : List ℕ) (n : ℕ) → length steps ≡ n → n < 2 ^ 63 → IsTooLong accepted steps → ⊥
not_long steps n e few (inl long) = short accepted 32 refl (omega arith) long
not_long steps n e few (inr long) = short steps n e few long

pub one_step_found : OneStepFits
one_step_found = (not_long (head ++ codes "X+\nE\n") 20 refl (omega arith), not_foreign accepted (head ++ codes "X+\nE\n"), step_count)

pub compact_found : CompactFits
compact_found = (not_long (codes "V 2\n" ++ head ++ codes "X+\nE\n") 24 refl (omega arith), not_foreign accepted (codes "V 2\n" ++ head ++ codes "X+\nE\n"), compact_count)

-- ---- the end is missing, or something follows it

-- the lines before the end stand in any text that they begin
pub stand_done : Stand (sent_in one_step) accepted (records_of done)
stand_done = stand_by one_step accepted (records_of done) (records_of step_lines) step_fits refl

no_end_stands : StandTo (sent_in one_step) accepted (head ++ codes "X+\n")
no_end_stands = record {
  done = done;
  rest = [];
  text = sym (ap (λ (t : List ℕ). t ++ (event_text right ++ [])) head_is ∙ ap (λ (t : List ℕ). head ++ (t ++ [])) right_is) ∙ sym (append-nil (lines_text done));
  are = record { each = (head_right, (event_right, tt)); apart = (tt, tt) };
  stand = stand_done;
  furthest = λ line more is are stand. nothing line more (all_second (IsLineOf One) done (line ∷ []) are.each).0 is;
} where
  nothing : (line : Line) (more : List ℕ) → IsLineOf One line → ◌≡◌ {A = List ℕ} [] (line_text line ++ more) → ⊥
  nothing line more is e = line_is_some One line more is e

whole : StandsWhole one_step accepted (records_of done)
whole = whole_by one_step accepted (records_of done) (records_of step_lines) step_fits refl

ends_not : {A : Type 0} (more : List ℕ) → ◌≡◌ {A = List ℕ} [] (codes "E\n" ++ more) → A
ends_not more e = absurd cc

pub no_end_found : NoEnd
unfolding no_end_stands head_text digits event_text
no_end_found = (
  not_long (head ++ codes "X+\n") 18 refl (omega arith),
  not_foreign accepted (head ++ codes "X+\n"),
  record { steps_stand = no_end_stands; point = whole.point; left = whole.left; stands = whole.stands; over = whole.over },
  at_line no_end_stands (λ more e may. ends_not more e) refl,
)

-- ---- something follows the end

more_stands : StandTo (sent_in one_step) accepted (head ++ codes "X+\nE\nE\n")
unfolding head_text event_text digits
more_stands = record {
  done = done;
  rest = codes "E\nE\n";
  text = refl;
  are = record { each = (head_right, (event_right, tt)); apart = (tt, tt) };
  stand = stand_done;
  furthest = λ line more is are stand. ends line more (all_second (IsLineOf One) done (line ∷ []) are.each).0 is stand;
} where
  ends : (line : Line) (more : List ℕ) → IsLineOf One line → codes "E\nE\n" ≡ line_text line ++ more → Stand (sent_in one_step) accepted (records_of (done ++ line ∷ [])) → ⊥
  ends line more is e stand =
      let same = one_line_here One (line_kinds.One kinds.End) line (codes "E\n") more tt is e in
      no_end (sent_in one_step) accepted (records_of done) (subst (λ (l : Line). Stand (sent_in one_step) accepted (records_of (done ++ l ∷ []))) (sym same.line) stand)

some_more : codes "E\n" ≢ []
some_more e = absurd cc

pub more_found : MoreBehindEnd
unfolding more_stands head_text digits event_text
more_found = (
  not_long (head ++ codes "X+\nE\nE\n") 22 refl (omega arith),
  not_foreign accepted (head ++ codes "X+\nE\nE\n"),
  record { steps_stand = more_stands; point = whole.point; left = whole.left; stands = whole.stands; over = whole.over },
  behind_end more_stands (codes "E\n") refl step_fits some_more refl,
)

-- ---- homing

number_stays : (p last : Point) (sent rest : List Sent) (course : List Passed) → LeadsTo p sent course last rest → 1 ≤ p.before.number → 1 ≤ last.before.number
number_stays p last sent rest [] f some = subst (λ (x : Point). 1 ≤ x.before.number) (sym f.0) some
number_stays p last sent rest (a_cut k at ∷ ps) f some = number_stays (behind_cut at p) last sent rest ps f.1 some
number_stays p last sent rest (a_reset r ∷ ps) f some = number_stays (behind_the_reset r p) last (behind_reset sent) rest ps f.1 (omega arith)
number_stays p last [] rest (a_line o ∷ ps) f some = absurd f
number_stays p last (a_stop ∷ sent) rest (a_line o ∷ ps) f some = absurd f
number_stays p last (a_text line ∷ sent) rest (a_line o ∷ ps) f some = number_stays (behind_line p line o) last sent rest ps f.1 (omega arith)
number_stays p last [] rest (a_broken o ∷ ps) f some = absurd f
number_stays p last (a_stop ∷ sent) rest (a_broken o ∷ ps) f some = absurd f
number_stays p last (a_text line ∷ sent) rest (a_broken o ∷ ps) f some = number_stays (behind_broken p o) last sent rest ps f.1 (omega arith)

-- no alarm comes before line 1
no_alarm : (sent : List Sent) (console steps : List ℕ) (k : ℕ) → k < 1 → HasAlarm sent console steps k → ⊥
no_alarm sent console steps k few a =
    let some = number_stays a.stands.between a.point a.stands.waiting (a_text a.line ∷ a.left) a.stands.others a.stands.goes_on
    (number_stays (opening a.stands.first) a.stands.between sent a.stands.waiting a.stands.course a.stands.leads (omega arith)) in
    let number = a.number in
    absurd (omega (arith, few, some, number))

abbrev pub homing : List ℕ
homing = codes "$H"

homing_scanned : (scanned homing).lines ≡ homing ∷ []
unfolding cut_within
homing_scanned = refl

homing_foreign : is_foreign (kept_of homing) ≡ true
unfolding cut_within
homing_foreign = refl

pub homing_found : HomingIsForeign
homing_found console steps few small = (
  not_either,
  record {
    before = [];
    here = homing;
    behind = [];
    split = homing_scanned;
    number = refl;
    first = refl;
    is = homing_foreign;
    sent = no_alarm (sent_in homing) console steps;
  },
) where
  not_either : IsTooLong console steps → ⊥
  not_either (inl long) = absurd (omega (arith, few, long))
  not_either (inr long) = absurd (omega (arith, small, long))

-- ---- an empty job

nothing_fits : TextsFit [] banner (kinds.End ∷ [])
unfolding reply_text cut_within
nothing_fits = record {
  behind = [];
  text = refl;
  each = tt;
  sent = [];
  later = [];
  split = refl;
  cancels = 0;
  fits = record {
    first = first;
    opens = opens;
    course = [];
    last = opening first;
    follows = (refl, record { answered = refl; rest = refl });
    told = record { behind = []; begins = refl; told = refl };
    recorded = (
      [],
      [],
      refl,
      record {
        inside = tt;
        ticks = refl;
        heads = record { told = []; missing = []; recorded = refl; each = tt; rest = []; in_order = refl; legal = tt; ends = (tt, refl); due = record { rest = []; is = refl } };
        stands = tt;
      },
      refl,
    );
    few = omega arith;
  };
  counted = refl;
  over = refl;
}

nothing_foreign : HasForeign [] banner (codes "E\n") → ⊥
nothing_foreign f = by_split f.1.before f.1.here f.1.behind f.1.split where
  by_split : (before : List (List ℕ)) (here : List ℕ) (behind : List (List ℕ)) → ◌≡◌ {A = List (List ℕ)} [] (before ++ here ∷ behind) → ⊥
  by_split [] here behind e = absurd cc
  by_split (x ∷ xs) here behind e = absurd cc

pub nothing_found : NothingFits
nothing_found = (
  not_either,
  nothing_foreign,
  record {
    lines = line_kinds.One kinds.End ∷ [];
    steps_are = record { are = record { each = (tt, tt); apart = tt }; body = refl };
    fit = nothing_fits;
    count = refl;
  },
) where
  not_either : IsTooLong banner (codes "E\n") → ⊥
  not_either (inl long) = short banner 28 refl (omega arith) long
  not_either (inr long) = short (codes "E\n") 2 refl (omega arith) long
