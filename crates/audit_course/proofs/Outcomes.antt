-- What becomes of a line, and what its tasks say of it.
use Rattle.std.proofs.Common.{◌≡◌, ℕ, true, false, List, [], ◌∷◌, ◌++◌, length, nat_eq, nat_lt, refl, sym, subst}
use Rattle.std.specs.List.{AllByRecursion}
use Rattle.gcode_check.specs.declared.Accept.{Accept as Accepted}
use Rattle.status_report.specs.declared.Message.TheVariants.{Unlocked}
use Rattle.status_report.specs.declared.Reply.{Reply}
use Rattle.status_report.specs.declared.Reply.TheVariants as replies
use Rattle.system_lines.specs.Commands.{kind_of, command_of}
use Rattle.system_lines.specs.declared.Kind.{Kind as DollarKind}
use Rattle.system_lines.specs.declared.Kind.TheVariants as kinds
use Rattle.step_line.specs.Asking.{Asked}
use Rattle.step_line.specs.Asking.Asked.{a_move, a_mark, a_rest}
use Rattle.step_line.specs.declared.Mark.TheVariants as marks
use Rattle.run_rules.specs.declared.State.{State}
use Rattle.run_rules.specs.Asks.{planned}
use Rattle.run_rules.specs.Locking.{ByLockedDollar, ByLockedKept, BecomesLocked}
use Rattle.run_rules.specs.Outcomes.{Before, Becomes, ByCommand, refused, told, executed, most_kept}
use Rattle.run_rules.specs.Work.{Outcome, telling, is_limit}
use Rattle.run_rules.specs.Work.Task.{ask, tell}
use Rattle.run_rules.proofs.Each.{holds_of_each, holds_of_commands, by_either}
use Rattle.run_rules.proofs.Items.{PassesTasks, IsOfItem, holds_of_work, holds_of_move}
use Rattle.audit_course.specs.Progressing.{has_halt, ends_none}

pub record SaysOf (o : Outcome) : Type 0 where
  pub halts : has_halt o.work ≡ is_limit o.answer
  pub marks : AllByRecursion (λ t. ends_none t ≡ true) o.work

-- ---- halts

pub telling_halts : (rs : List Reply) → has_halt (telling rs) ≡ false
telling_halts [] = refl
telling_halts (r ∷ rs) = telling_halts rs

passes_halts : PassesTasks (λ ts. has_halt ts ≡ false)
passes_halts = record { asks = λ a ts is q. q; pauses = λ ts q. q; normals = λ ts q. q; ends = λ ts q. q }

-- ---- marks

pub telling_marks : (rs : List Reply) → AllByRecursion (λ t. ends_none t ≡ true) (telling rs)
telling_marks [] = tt
telling_marks (r ∷ rs) = (refl, telling_marks rs)

item_ends_none : (a : Asked) → IsOfItem a → ends_none (ask a) ≡ true
item_ends_none (a_move m) is = refl
item_ends_none a_rest is = refl
item_ends_none (a_mark (marks.Dwell ms)) is = refl
item_ends_none (a_mark (marks.Spindle code speed)) is = refl
item_ends_none (a_mark (marks.Coolant on)) is = refl
item_ends_none (a_mark (marks.Cut k)) is = absurd is
item_ends_none (a_mark (marks.Reset k)) is = absurd is

passes_marks : PassesTasks (AllByRecursion (λ t. ends_none t ≡ true))
passes_marks = record { asks = λ a ts is q. (item_ends_none a is, q); pauses = λ ts q. (refl, q); normals = λ ts q. (refl, q); ends = λ ts q. (refl, q) }

-- ---- each outcome

told_says : (next : State) (body : List Reply) → SaysOf (told next body)
told_says next body = record { halts = telling_halts (body ++ replies.Ok ∷ []); marks = telling_marks (body ++ replies.Ok ∷ []) }

refused_says : (b : Before) (n : ℕ) → SaysOf (refused b n)
refused_says b n = record { halts = refl; marks = (refl, tt) }

executed_says : (b : Before) (a : Accepted) → SaysOf (executed b a)
executed_says b a = record {
  halts = holds_of_work (λ ts. has_halt ts ≡ false) passes_halts b.number b.state.settings b.state.parser.modal.spindle b.state.parser.modal.flood a.items.items (tell replies.Ok ∷ []) refl;
  marks = holds_of_work (AllByRecursion (λ t. ends_none t ≡ true)) passes_marks b.number b.state.settings b.state.parser.modal.spindle b.state.parser.modal.flood a.items.items (tell replies.Ok ∷ []) (refl, tt);
}

pub becomes_says : (b : Before) (kept : List ℕ) (o : Outcome) → Becomes true b kept o → SaysOf o
becomes_says b kept o is = holds_of_each true b SaysOf (record {
  refuses = refused_says b;
  tells = λ next body listing. told_says next body;
  executes = executed_says b;
  jogs = λ jog. record {
    halts = holds_of_move (λ ts. has_halt ts ≡ false) passes_halts (planned b.number b.state.settings jog.mv jog.rate) (tell replies.Ok ∷ []) refl;
    marks = holds_of_move (AllByRecursion (λ t. ends_none t ≡ true)) passes_marks (planned b.number b.state.settings jog.mv jog.rate) (tell replies.Ok ∷ []) (refl, tt);
  };
  limits = record { halts = refl; marks = (refl, (refl, (refl, tt))) };
}) kept o is

-- ---- of a locked machine

by_command : (b : Before) (kept : List ℕ) (o : Outcome) → ByCommand b (command_of kept) o → SaysOf o
by_command b kept o = holds_of_commands b SaysOf (command_of kept) o (λ code e. refused_says b code.0) (λ n value code e. refused_says b code.0) (λ next body same listing. told_says next body)

locked_dollar : (b : Before) (kept : List ℕ) (kind : DollarKind) (o : Outcome) → ByLockedDollar b kept kind o → SaysOf o
locked_dollar b kept kinds.Unlock o is = subst SaysOf (sym is) (told_says b.state (replies.Message Unlocked ∷ []))
locked_dollar b kept kinds.Jog o is = subst SaysOf (sym is) (refused_says b 8)
locked_dollar b kept kinds.BareJog o is = subst SaysOf (sym is) (refused_says b 8)
locked_dollar b kept kinds.ListSettings o is = by_command b kept o is
locked_dollar b kept kinds.ListModes o is = by_command b kept o is
locked_dollar b kept kinds.ListOffsets o is = by_command b kept o is
locked_dollar b kept kinds.Setting o is = by_command b kept o is
locked_dollar b kept kinds.Other o is = by_command b kept o is

locked_kept : (b : Before) (kept : List ℕ) (o : Outcome) → ByLockedKept b kept o → SaysOf o
locked_kept b [] o is = subst SaysOf (sym is) (told_says b.state [])
locked_kept b (c ∷ cs) o is = by_either (nat_eq c 36) _ _ _ (λ dollar. locked_dollar b (c ∷ cs) (kind_of (c ∷ cs)) o) (λ other here. subst SaysOf (sym here) (refused_says b 9)) is

pub locked_says : (b : Before) (kept : List ℕ) (o : Outcome) → BecomesLocked b kept o → SaysOf o
locked_says b kept o is = by_either (nat_lt most_kept (length kept)) _ _ _ (λ long here. subst SaysOf (sym here) (refused_says b 11)) (λ short. locked_kept b kept o) is
