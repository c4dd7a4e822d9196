-- The alarm of a soft limit is told exactly where a line has raised it.
use Rattle.std.proofs.Common.{◌≡◌, ℕ, Bool, true, false, ◌||◌, List, [], ◌∷◌, ◌++◌, refl, sym, ap, ◌∙◌, subst}
use Rattle.system_lines.specs.Commands.{kind_of, command_of}
use Rattle.system_lines.specs.declared.Kind.{Kind as DollarKind}
use Rattle.system_lines.specs.declared.Kind.TheVariants as kinds
use Rattle.status_report.specs.declared.Message.TheVariants as messages
use Rattle.status_report.specs.declared.Reply.TheVariants as replies
use Rattle.run_rules.specs.Locking.{ByLockedDollar, ByLockedKept, BecomesLocked}
use Rattle.run_rules.specs.Outcomes.{Before, either, refused}
use Rattle.run_rules.specs.Work.{Outcome, tells}
use Rattle.run_texts.specs.Courses.{Passed, Reset, behind_cut, behind_the_reset}
use Rattle.run_texts.specs.Courses.Passed.{a_line, a_broken, a_cut, a_reset}
use Rattle.run_texts.specs.Points.{Point, BecomesAt, behind_line, behind_broken}
use Rattle.run_texts.specs.Sent.{Sent, behind_reset}
use Rattle.run_texts.specs.Sent.Sent.{a_text, a_stop}
use Rattle.run_texts.specs.SoFar.{LeadsTo}
use Rattle.run_texts.specs.Told.{told_in, told_at_reset, has_alarm}
use Rattle.run_law.proofs.Alarming.{TellsSo, any_on, told_so, command_so, tells_so}

-- ---- of a line, also while the machine is locked

by_either : (c : Bool) (A B C : Type 0) → (A → C) → (B → C) → either c A B → C
by_either true A B C first second is = first is
by_either false A B C first second is = second is

refused_so : (b : Before) (n : ℕ) (o : Outcome) → o ≡ refused b n → TellsSo o
refused_so b n o is = subst TellsSo (sym is) refl

locked_dollar : (b : Before) (kept : List ℕ) (kind : DollarKind) (o : Outcome) → ByLockedDollar b kept kind o → TellsSo o
locked_dollar b kept kinds.Unlock o is = subst TellsSo (sym is) (told_so b.state (replies.Message messages.Unlocked ∷ []) refl)
locked_dollar b kept kinds.Jog o is = refused_so b 8 o is
locked_dollar b kept kinds.BareJog o is = refused_so b 8 o is
locked_dollar b kept kinds.ListSettings o is = command_so b (command_of kept) o is
locked_dollar b kept kinds.ListModes o is = command_so b (command_of kept) o is
locked_dollar b kept kinds.ListOffsets o is = command_so b (command_of kept) o is
locked_dollar b kept kinds.Setting o is = command_so b (command_of kept) o is
locked_dollar b kept kinds.Other o is = command_so b (command_of kept) o is

locked_kept : (b : Before) (kept : List ℕ) (o : Outcome) → ByLockedKept b kept o → TellsSo o
locked_kept b [] o is = subst TellsSo (sym is) (told_so b.state [] refl)
locked_kept b (c ∷ cs) o is = by_either _ _ _ (TellsSo o) (locked_dollar b (c ∷ cs) (kind_of (c ∷ cs)) o) (refused_so b 9 o) is

locked_so : (b : Before) (kept : List ℕ) (o : Outcome) → BecomesLocked b kept o → TellsSo o
locked_so b kept o is = by_either _ _ _ (TellsSo o) (refused_so b 11 o) (locked_kept b kept o) is

pub line_so : (runs : Bool) (p : Point) (kept : List ℕ) (o : Outcome) → BecomesAt runs p kept o → TellsSo o
line_so runs p kept o is = by_either p.locked _ _ (TellsSo o) (locked_so p.before kept o) (tells_so runs p.before kept o) is

-- ---- of a course

reset_calm : (r : Reset) (alarm locked : Bool) → r.alarm ≡ alarm → r.locked ≡ locked → has_alarm (told_at_reset r) ≡ false
reset_calm r true true a l = rw (a, l) refl
reset_calm r true false a l = rw (a, l) refl
reset_calm r false true a l = rw (a, l) refl
reset_calm r false false a l = rw (a, l) refl

-- behind what leads to a point an alarm is told exactly where the point says so
pub course_so : (p last : Point) (sent left : List Sent) (ps : List Passed) → LeadsTo p sent ps last left → (p.before.alarmed || has_alarm (told_in ps)) ≡ last.before.alarmed
course_so p last sent left [] f = by_test p.before.alarmed ∙ ap (λ (x : Point). x.before.alarmed) (sym f.0)
  where
    by_test : (t : Bool) → (t || false) ≡ t
    by_test true = refl
    by_test false = refl
course_so p last sent left (a_cut k at ∷ ps) f = course_so (behind_cut at p) last sent left ps f.1
course_so p last sent left (a_reset r ∷ ps) f =
    ap (λ t. t || has_alarm (told_at_reset r ++ told_in ps)) f.0.free ∙ any_on (told_at_reset r) (told_in ps)
    ∙ ap (λ t. t || has_alarm (told_in ps)) (reset_calm r r.alarm r.locked refl refl) ∙ course_so (behind_the_reset r p) last (behind_reset sent) left ps f.1
course_so p last [] left (a_line o ∷ ps) f = absurd f
course_so p last (a_stop ∷ sent) left (a_line o ∷ ps) f = absurd f
course_so p last (a_text line ∷ sent) left (a_line o ∷ ps) f =
    ap (λ t. t || has_alarm (tells o.work ++ told_in ps)) f.0.free ∙ any_on (tells o.work) (told_in ps)
    ∙ ap (λ t. t || has_alarm (told_in ps)) (line_so true p line o f.0.becomes) ∙ course_so (behind_line p line o) last sent left ps f.1
course_so p last [] left (a_broken o ∷ ps) f = absurd f
course_so p last (a_stop ∷ sent) left (a_broken o ∷ ps) f = absurd f
course_so p last (a_text line ∷ sent) left (a_broken o ∷ ps) f = course_so (behind_broken p o) last sent left ps f.1
