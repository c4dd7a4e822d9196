-- An alarm is told exactly where a line has raised one.
use Rattle.std.proofs.Common.{◌≡◌, ℕ, List, [], ◌∷◌, ◌++◌, map, false, Bool, ◌||◌, refl, ap, ◌∙◌}
use Rattle.std.specs.List.{enumerate_from, list_any}
use Rattle.std.specs.declared.result.Result.{Result}
use Rattle.std.proofs.lemmas.List.Folds.{list_any-append}
use Rattle.code_table.specs.declared.Code.{Code}
use Rattle.system_lines.specs.declared.Command.{Command}
use Rattle.units.specs.declared.Nm3.{Nm3}
use Rattle.modal_state.specs.declared.Offsets.{Offsets}
use Rattle.settings.specs.declared.Settings.{Settings}
use Rattle.settings.specs.Numbers.{values}
use Rattle.status_report.specs.Answering.{without_reports}
use Rattle.status_report.specs.Lists.{setting_replies, offset_replies, row_places}
use Rattle.status_report.specs.declared.Reply.{Reply}
use Rattle.status_report.specs.declared.Reply.TheVariants as replies
use Rattle.run_rules.specs.declared.State.{State}
use Rattle.run_rules.specs.Outcomes.{Before, Becomes, ByCommand, told}
use Rattle.run_rules.specs.Asks.{planned}
use Rattle.run_rules.specs.Work.{Task, Outcome, is_limit, tells}
use Rattle.run_rules.specs.Work.Task.{tell}
use Rattle.run_rules.proofs.Answering.{telling_tells}
use Rattle.run_rules.proofs.Each.{HoldsOfEach, holds_of_bodies, holds_of_each, holds_of_commands}
use Rattle.run_rules.proofs.Items.{PassesTasks, holds_of_move, holds_of_work}

abbrev pub NoAlarms : List Reply → Type 0
NoAlarms rs = list_any is_limit rs ≡ false

pub any_on : (xs ys : List Reply) → list_any is_limit (xs ++ ys) ≡ (list_any is_limit xs || list_any is_limit ys)
any_on xs ys = list_any-append is_limit xs ys

pub none_on : (xs ys : List Reply) → NoAlarms xs → NoAlarms ys → NoAlarms (xs ++ ys)
none_on xs ys a b = any_on xs ys ∙ ap (λ t. t || list_any is_limit ys) a ∙ b

abbrev Calm : List Task → Type 0
Calm ts = NoAlarms (tells ts)

each_calm : PassesTasks Calm
each_calm = record { asks = λ a ts is none. none; pauses = λ ts none. none; normals = λ ts none. none; ends = λ ts none. none }

settings_calm : (rows : List (ℕ × ℕ)) → NoAlarms (map (λ row. replies.Setting row.0 row.1) rows)
settings_calm [] = refl
settings_calm (row ∷ rows) = settings_calm rows

offsets_calm : (rows : List (ℕ × Nm3)) → NoAlarms (map (λ row. replies.Offset row.0 row.1) rows)
offsets_calm [] = refl
offsets_calm (row ∷ rows) = offsets_calm rows

settings_told : (s : Settings) → NoAlarms (setting_replies s)
unfolding setting_replies
settings_told s = settings_calm (values s)

offsets_told : (offsets : Offsets) → NoAlarms (offset_replies offsets)
unfolding offset_replies
offsets_told offsets = offsets_calm (enumerate_from 0 (row_places offsets))

abbrev pub TellsSo : Outcome → Type 0
TellsSo o = list_any is_limit (tells o.work) ≡ is_limit o.answer

pub told_so : (next : State) (body : List Reply) → NoAlarms body → TellsSo (told next body)
told_so next body none = ap (list_any is_limit) (telling_tells (body ++ replies.Ok ∷ [])) ∙ none_on body (replies.Ok ∷ []) none refl

pub tells_so : (runs : Bool) (b : Before) (kept : List ℕ) (o : Outcome) → Becomes runs b kept o → TellsSo o
tells_so runs b kept o is =
    let modal = b.state.parser.modal in
    let each : HoldsOfEach b TellsSo = record {
      refuses = λ n. refl;
      tells = λ next body kind. told_so next body (holds_of_bodies NoAlarms refl settings_told (λ p. refl) offsets_told body kind);
      executes = λ a. holds_of_work Calm each_calm b.number b.state.settings modal.spindle modal.flood a.items.items (tell replies.Ok ∷ []) refl;
      jogs = λ jog. holds_of_move Calm each_calm (planned b.number b.state.settings jog.mv jog.rate) (tell replies.Ok ∷ []) refl;
      limits = refl;
    } in
    holds_of_each runs b TellsSo each kept o is

-- of a line that begins with `$` and is no jog
pub command_so : (b : Before) (r : Result Command Code) (o : Outcome) → ByCommand b r o → TellsSo o
command_so b r o is =
    holds_of_commands b TellsSo r o (λ code e. refl) (λ n value code e. refl)
    (λ next body same kind. told_so next body (holds_of_bodies NoAlarms refl settings_told (λ p. refl) offsets_told body kind)) is

-- a report is no alarm
pub plain_alarms : (rs : List Reply) → list_any is_limit (without_reports rs) ≡ list_any is_limit rs
plain_alarms [] = refl
plain_alarms (replies.Report r ∷ rs) = plain_alarms rs
plain_alarms (r ∷ rs) = ap (λ t. is_limit r || t) (plain_alarms rs)
