-- Before the first line.
use Rattle.std.proofs.Common.{◌≡◌, ℕ, ◌+◌, pos, Bool, true, false, ◌||◌, List, [], ◌++◌, refl, sym, ap, ◌∙◌, subst, arith}
use Rattle.std.specs.List.{AllByRecursion}
use Rattle.flight.specs.Places.{origin}
use Rattle.status_report.specs.declared.Reply.{Reply}
use Rattle.step_line.specs.Asking.{ticks_of_all, moves_of}
use Rattle.run_rules.specs.States.{IsOpening}
use Rattle.run_rules.proofs.Determined.{one_opening}
use Rattle.run_rules.specs.declared.State.{State}
use Rattle.run_rules.specs.Work.{Task, tells, asks, has_moves, accepted_code, accepted_jog}
use Rattle.line_interpreter.specs.Desks.{kind_told}
use Rattle.line_interpreter.specs.Interpreting.{Interpreting}
use Rattle.line_interpreter.specs.declared.desk.Accepted.TheVariants.{Neither}
use Rattle.part_making.specs.Judging.{Known, nothing_known, making}
use Rattle.run_texts.specs.Making.{IsMade}
use Rattle.run_texts.specs.Points.{opening}
use Rattle.run_texts.specs.SoFar.{Reaches}
use Rattle.run_texts.proofs.Making.{begins}
use Rattle.run_texts.proofs.Reaching.{reaches_opening}
use Rattle.audit_course.specs.declared.Progress.{Progress}
use Rattle.audit_course.specs.declared.judge.CourseJudge.{CourseJudge}
use Rattle.audit_course.specs.declared.ticks.Ticks.TheVariants as standing
use Rattle.audit_course.specs.Progressing.{has_ticks, has_halt, ends_none, IsNew}
use Rattle.audit_course.specs.SoFar.{GoesTo, HasJudged}
use Rattle.audit_course.proofs.Ending.{moved_before}

-- what a judge knows then
abbrev pub opened : Interpreting → State → Known → Progress → CourseJudge
opened w state part line = record {
  work = w;
  state = state;
  part = part;
  place = record { x = pos 0; y = pos 0; z = pos 0 };
  events = 0;
  cuts = 0;
  locked = false;
  has_line = false;
  unanswered = false;
  touched = false;
  lost = false;
  in_hand = false;
  answered = standing.Whole;
  code = standing.Whole;
  settled = standing.Whole;
  moved = false;
  jog_moved = false;
  jogged = false;
  line = line;
}

pub opens_so_far : (first : State) (w : Interpreting) (state : State) (part : Known) (line : Progress) → state ≡ first → w.state ≡ first → w.number ≡ 1 → w.left ≡ [] → part ≡ nothing_known → IsNew line → line.settles ≡ false → line.accepted ≡ Neither
    → HasJudged (opened w state part line) first [] [] []
opens_so_far first w state part line state_is work number left part_is new settles accepted = record {
  point = opening first;
  number = sym number;
  state = sym state_is;
  same_state = λ e. state_is ∙ sym work;
  locked = refl;
  has_line = refl;
  unanswered = refl;
  hand = [];
  line = record {
    work = [];
    limit = false;
    moves = ap (λ (b : Bool). b || has_moves w.left) new.moves ∙ ap has_moves left;
    ticks = ap (λ (b : Bool). b || has_ticks w.left) new.asks ∙ ap has_ticks left;
    halts = ap (λ (b : Bool). b || has_halt w.left) new.halts ∙ ap has_halt left;
    marks = subst (AllByRecursion (λ (t : Task). ends_none t ≡ true)) (sym left) tt;
    moved = sym (moved_before line.settles (accepted_code (kind_told line.accepted)) (has_moves []) false settles code);
    jog_moved = sym (moved_before line.settles (accepted_jog (kind_told line.accepted)) (has_moves []) false settles jog);
    jogged = refl;
    alarmed = refl;
    unheld = λ e. refl;
    none = λ e. record { none = refl; settles = settles; code = code; jog = jog };
    held = λ e. absurd cc;
    are = tt;
  };
  since = [];
  begun = [];
  none_begun = λ e. refl;
  from = origin;
  made = [];
  stands = refl;
  ticks = [];
  moves = [];
  asked = λ e. (sym (ap (λ (ts : List Task). ticks_of_all (asks ts)) left), sym (ap (λ (ts : List Task). moves_of (asks ts)) left));
  loses_some = λ e. absurd cc;
  is_made = subst (λ (k : Known). IsMade [] [] (making k [] [])) (sym part_is) begins;
  untouched = λ u t. absurd cc;
  owes_behind = λ u. absurd cc;
  touched = λ u. absurd cc;
  knows = record { before = []; split = refl; answered = omega arith; code = omega arith; settled = omega arith };
  alarm = λ e. absurd cc;
  calm = λ e. refl;
  at_hand = λ e. ap has_halt left;
  events = refl;
  counted = refl;
  numbered = number;
  whole = refl;
  reached = subst (λ (rs : List Reply). Reaches first [] rs [] (opening first) [] [] origin []) (sym (ap tells left)) (reaches_opening first);
  back = λ n more told rest last g.
      subst (λ (rs : List Reply). GoesTo (opening first) [] [] origin (n + 0) more (rs ++ told) rest last) (sym (ap tells left))
      (subst (λ (c : ℕ). GoesTo (opening first) [] [] origin c more told rest last) (plus_none n) g);
  forth = λ n more told rest last may g.
      subst (λ (c : ℕ). GoesTo (opening first) [] [] origin c more told rest last) (sym (plus_none n))
      (subst (λ (rs : List Reply). GoesTo (opening first) [] [] origin (n + 0) more (rs ++ told) rest last) (ap tells left) g);
} where
  code : accepted_code (kind_told line.accepted) ≡ false
  code = ap (λ a. accepted_code (kind_told a)) accepted

  jog : accepted_jog (kind_told line.accepted) ≡ false
  jog = ap (λ a. accepted_jog (kind_told a)) accepted

  plus_none : (n : ℕ) → n ≡ n + 0
  plus_none n = omega arith

pub opened_so_far : (w : Interpreting) (state : State) (part : Known) (line : Progress) → IsOpening w.state → IsOpening state → w.number ≡ 1 → w.left ≡ [] → part ≡ nothing_known → IsNew line → line.settles ≡ false → line.accepted ≡ Neither
    → (first : State) × IsOpening first × HasJudged (opened w state part line) first [] [] []
opened_so_far w state part line here there number left part_is new settles accepted =
    (w.state, here, opens_so_far w.state w state part line (one_opening state w.state there here) refl number left part_is new settles accepted)
