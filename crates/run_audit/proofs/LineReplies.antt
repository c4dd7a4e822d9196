-- No reply of a line is told at a reset.
use Rattle.std.proofs.Common.{◌≡◌, ℕ, Bool, List, [], ◌∷◌, ◌++◌, map, length, nat_eq, nat_lt, false, refl, sym, subst}
use Rattle.std.specs.List.{AllByRecursion, enumerate_from}
use Rattle.units.specs.declared.Nm3.{Nm3}
use Rattle.modal_state.specs.declared.Offsets.{Offsets}
use Rattle.settings.specs.declared.Settings.{Settings}
use Rattle.settings.specs.Numbers.{values}
use Rattle.system_lines.specs.Commands.{command_of, kind_of}
use Rattle.system_lines.specs.declared.Kind.{Kind as DollarKind}
use Rattle.system_lines.specs.declared.Kind.TheVariants as kinds
use Rattle.status_report.specs.Lists.{setting_replies, offset_replies, row_places}
use Rattle.status_report.specs.declared.Message.TheVariants as messages
use Rattle.status_report.specs.declared.Reply.{Reply}
use Rattle.status_report.specs.declared.Reply.TheVariants as replies
use Rattle.run_rules.specs.declared.State.{State}
use Rattle.run_rules.specs.Outcomes.{Before, Becomes, most_kept, refused, told}
use Rattle.run_rules.specs.Work.{Outcome, Task, tells}
use Rattle.run_rules.specs.Work.Task.{tell}
use Rattle.run_rules.proofs.Answering.{telling_tells}
use Rattle.run_rules.proofs.Each.{HoldsOfEach, IsListing, by_either, holds_of_bodies, holds_of_commands, holds_of_each}
use Rattle.run_rules.proofs.Items.{PassesTasks, holds_of_move, holds_of_work}
use Rattle.run_rules.specs.Asks.{planned}
use Rattle.run_texts.specs.Points.{BecomesAt, BecomesLocked, ByLockedDollar, ByLockedKept, Point}
use Rattle.run_audit.specs.Finding.{is_greeting}

abbrev pub GreetsNot : List Reply → Type 0
GreetsNot rs = AllByRecursion (λ r. is_greeting r ≡ false) rs

abbrev Plain : List Task → Type 0
Plain ts = GreetsNot (tells ts)

-- ---- what only tells

settings_told : (rows : List (ℕ × ℕ)) → GreetsNot (map (λ row. replies.Setting row.0 row.1) rows)
settings_told [] = tt
settings_told (row ∷ rows) = (refl, settings_told rows)

offsets_told : (rows : List (ℕ × Nm3)) → GreetsNot (map (λ row. replies.Offset row.0 row.1) rows)
offsets_told [] = tt
offsets_told (row ∷ rows) = (refl, offsets_told rows)

settings_plain : (s : Settings) → GreetsNot (setting_replies s)
unfolding setting_replies
settings_plain s = settings_told (values s)

offsets_plain : (at : Offsets) → GreetsNot (offset_replies at)
unfolding offset_replies
offsets_plain at = offsets_told (enumerate_from 0 (row_places at))

listing_plain : (body : List Reply) → IsListing body → GreetsNot body
listing_plain body is = holds_of_bodies GreetsNot tt settings_plain (λ p. (refl, tt)) offsets_plain body is

answered_plain : (body : List Reply) → GreetsNot body → GreetsNot (body ++ replies.Ok ∷ [])
answered_plain [] plain = (refl, tt)
answered_plain (r ∷ rs) plain = (plain.0, answered_plain rs plain.1)

-- ---- outcomes

abbrev TellsPlainly : Outcome → Type 0
TellsPlainly o = Plain o.work

told_plain : (next : State) (body : List Reply) → GreetsNot body → TellsPlainly (told next body)
told_plain next body plain = subst GreetsNot (sym (telling_tells (body ++ replies.Ok ∷ []))) (answered_plain body plain)

passes : PassesTasks Plain
passes = record { asks = λ a ts is plain. plain; pauses = λ ts plain. plain; normals = λ ts plain. plain; ends = λ ts plain. (refl, plain) }

becomes_plain : (runs : Bool) (b : Before) (kept : List ℕ) (o : Outcome) → Becomes runs b kept o → TellsPlainly o
becomes_plain runs b kept o is =
    let modal = b.state.parser.modal in
    let each : HoldsOfEach b TellsPlainly = record {
      refuses = λ n. (refl, tt);
      tells = λ next body kind. told_plain next body (listing_plain body kind);
      executes = λ a. holds_of_work Plain passes b.number b.state.settings modal.spindle modal.flood a.items.items (tell replies.Ok ∷ []) (refl, tt);
      jogs = λ jog. holds_of_move Plain passes (planned b.number b.state.settings jog.mv jog.rate) (tell replies.Ok ∷ []) (refl, tt);
      limits = (refl, (refl, tt));
    } in
    holds_of_each runs b TellsPlainly each kept o is

-- ---- while the machine is locked

refused_plain : (b : Before) (n : ℕ) (o : Outcome) → o ≡ refused b n → TellsPlainly o
refused_plain b n o is = subst TellsPlainly (sym is) (refl, tt)

locked_dollar : (b : Before) (kept : List ℕ) (kind : DollarKind) (o : Outcome) → ByLockedDollar b kept kind o → TellsPlainly o
locked_dollar b kept kinds.Unlock o is = subst TellsPlainly (sym is) (told_plain b.state (replies.Message messages.Unlocked ∷ []) (refl, tt))
locked_dollar b kept kinds.Jog o is = refused_plain b 8 o is
locked_dollar b kept kinds.BareJog o is = refused_plain b 8 o is
locked_dollar b kept _ o is =
    holds_of_commands b TellsPlainly (command_of kept) o (λ code e. (refl, tt)) (λ n value code e. (refl, tt)) (λ next body same kind. told_plain next body (listing_plain body kind)) is

locked_kept : (b : Before) (kept : List ℕ) (o : Outcome) → ByLockedKept b kept o → TellsPlainly o
locked_kept b [] o is = subst TellsPlainly (sym is) (told_plain b.state [] tt)
locked_kept b (c ∷ cs) o is = by_either (nat_eq c 36) _ _ (TellsPlainly o) (λ e. locked_dollar b (c ∷ cs) (kind_of (c ∷ cs)) o) (λ e. refused_plain b 9 o) is

locked_plain : (b : Before) (kept : List ℕ) (o : Outcome) → BecomesLocked b kept o → TellsPlainly o
locked_plain b kept o is = by_either (nat_lt most_kept (length kept)) _ _ (TellsPlainly o) (λ e. refused_plain b 11 o) (λ e. locked_kept b kept o) is

pub line_tells_plainly : (runs : Bool) (p : Point) (kept : List ℕ) (o : Outcome) → BecomesAt runs p kept o → GreetsNot (tells o.work)
line_tells_plainly runs p kept o is = by_either p.locked _ _ (TellsPlainly o) (λ e. locked_plain p.before kept o) (λ e. becomes_plain runs p.before kept o) is
