-- What is told of a line that raises no alarm has no alarm of a soft limit in it.
use Rattle.std.proofs.Common.{◌≡◌, ℕ, List, [], ◌∷◌, ◌++◌, map, true, false, Bool, sym, refl, subst}
use Rattle.std.specs.List.{AllByRecursion, enumerate_from}
use Rattle.units.specs.declared.Nm3.{Nm3}
use Rattle.modal_state.specs.declared.Offsets.{Offsets}
use Rattle.settings.specs.declared.Settings.{Settings}
use Rattle.settings.specs.Numbers.{values}
use Rattle.system_lines.specs.Commands.{kind_of, command_of}
use Rattle.system_lines.specs.declared.Kind.{Kind as DollarKind}
use Rattle.system_lines.specs.declared.Kind.TheVariants as kinds
use Rattle.status_report.specs.Lists.{setting_replies, offset_replies, row_places}
use Rattle.status_report.specs.declared.Message.TheVariants as messages
use Rattle.status_report.specs.declared.Reply.{Reply}
use Rattle.status_report.specs.declared.Reply.TheVariants as replies
use Rattle.run_rules.specs.declared.State.{State}
use Rattle.run_rules.specs.Outcomes.{Before, ByCommand, told, refused, either}
use Rattle.run_rules.specs.Work.{Task, Outcome, is_limit, tells}
use Rattle.run_rules.specs.Work.Task.{tell}
use Rattle.run_rules.proofs.Answering.{telling_tells}
use Rattle.run_rules.proofs.Each.{IsListing, HoldsOfEach, holds_of_bodies, holds_of_commands, holds_of_each}
use Rattle.run_rules.proofs.Items.{PassesTasks, holds_of_move, holds_of_work}
use Rattle.run_texts.specs.Points.{Point, BecomesLocked, ByLockedKept, ByLockedDollar, BecomesAt}

abbrev pub NoLimits : List Reply → Type 0
NoLimits rs = AllByRecursion (λ r. is_limit r ≡ false) rs

pub no_limits_on : (xs ys : List Reply) → NoLimits xs → NoLimits ys → NoLimits (xs ++ ys)
no_limits_on [] ys a b = b
no_limits_on (x ∷ xs) ys a b = (a.0, no_limits_on xs ys a.1 b)

-- ---- lists

settings_told : (rows : List (ℕ × ℕ)) → NoLimits (map (λ row. replies.Setting row.0 row.1) rows)
settings_told [] = tt
settings_told (row ∷ rows) = (refl, settings_told rows)

offsets_told : (rows : List (ℕ × Nm3)) → NoLimits (map (λ row. replies.Offset row.0 row.1) rows)
offsets_told [] = tt
offsets_told (row ∷ rows) = (refl, offsets_told rows)

settings_calm : (s : Settings) → NoLimits (setting_replies s)
unfolding setting_replies
settings_calm s = settings_told (values s)

offsets_calm : (at : Offsets) → NoLimits (offset_replies at)
unfolding offset_replies
offsets_calm at = offsets_told (enumerate_from 0 (row_places at))

listing_calm : (body : List Reply) → IsListing body → NoLimits body
listing_calm body is = holds_of_bodies NoLimits tt settings_calm (λ p. (refl, tt)) offsets_calm body is

-- ---- outcomes

-- a line tells none, unless it raises it
abbrev TellsCalmly : Outcome → Type 0
TellsCalmly o = is_limit o.answer ≡ false → NoLimits (tells o.work)

refused_calm : (b : Before) (n : ℕ) → TellsCalmly (refused b n)
refused_calm b n none = (refl, tt)

told_calm : (next : State) (body : List Reply) → NoLimits body → TellsCalmly (told next body)
told_calm next body calm none = subst NoLimits (sym (telling_tells (body ++ replies.Ok ∷ []))) (no_limits_on body (replies.Ok ∷ []) calm (refl, tt))

abbrev Silent : List Task → Type 0
Silent ts = NoLimits (tells ts)

tasks_pass : PassesTasks Silent
tasks_pass = record { asks = λ a ts is calm. calm; pauses = λ ts calm. calm; normals = λ ts calm. calm; ends = λ ts calm. (refl, calm) }

each_calm : (b : Before) → HoldsOfEach b TellsCalmly
each_calm b = record {
  refuses = λ n. refused_calm b n;
  tells = λ next body kind. told_calm next body (listing_calm body kind);
  executes = λ a none. holds_of_work Silent tasks_pass b.number b.state.settings b.state.parser.modal.spindle b.state.parser.modal.flood a.items.items (tell replies.Ok ∷ []) (refl, tt);
  jogs = λ jog none. holds_of_move Silent tasks_pass _ (tell replies.Ok ∷ []) (refl, tt);
  limits = λ none. absurd cc;
}

-- ---- while the machine is locked

command_calm : (b : Before) (kept : List ℕ) (o : Outcome) → ByCommand b (command_of kept) o → TellsCalmly o
command_calm b kept o is = holds_of_commands b TellsCalmly (command_of kept) o (λ code e. refused_calm b code.0) (λ n value code e. refused_calm b code.0)
    (λ next body same kind. told_calm next body (listing_calm body kind)) is

refused_so : (b : Before) (n : ℕ) (o : Outcome) → o ≡ refused b n → TellsCalmly o
refused_so b n o is = subst TellsCalmly (sym is) (refused_calm b n)

dollar_calm : (b : Before) (kept : List ℕ) (kind : DollarKind) (o : Outcome) → ByLockedDollar b kept kind o → TellsCalmly o
dollar_calm b kept kinds.Unlock o is = subst TellsCalmly (sym is) (told_calm b.state (replies.Message messages.Unlocked ∷ []) (refl, tt))
dollar_calm b kept kinds.Jog o is = refused_so b 8 o is
dollar_calm b kept kinds.BareJog o is = refused_so b 8 o is
dollar_calm b kept _ o is = command_calm b kept o is

by_either : (c : Bool) (A B C : Type 0) → (A → C) → (B → C) → either c A B → C
by_either true A B C first second is = first is
by_either false A B C first second is = second is

kept_calm : (b : Before) (kept : List ℕ) (o : Outcome) → ByLockedKept b kept o → TellsCalmly o
kept_calm b [] o is = subst TellsCalmly (sym is) (told_calm b.state [] tt)
kept_calm b (c ∷ cs) o is = by_either _ _ _ (TellsCalmly o) (dollar_calm b (c ∷ cs) (kind_of (c ∷ cs)) o) (refused_so b 9 o) is

locked_calm : (b : Before) (kept : List ℕ) (o : Outcome) → BecomesLocked b kept o → TellsCalmly o
locked_calm b kept o is = by_either _ _ _ (TellsCalmly o) (refused_so b 11 o) (kept_calm b kept o) is

pub line_tells_calmly : (runs : Bool) (p : Point) (kept : List ℕ) (o : Outcome) → BecomesAt runs p kept o → is_limit o.answer ≡ false → NoLimits (tells o.work)
line_tells_calmly runs p kept o is = by_either p.locked _ _ (TellsCalmly o) (locked_calm p.before kept o) (holds_of_each runs p.before TellsCalmly (each_calm p.before) kept o) is
