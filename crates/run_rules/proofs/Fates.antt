-- Of which kind an accepted line is, by how the machine is found.
use Rattle.std.proofs.Common.{◌≡◌, ℕ, ◌==◌, Bool, true, false, if◌then◌else◌, List, [], ◌∷◌, ◌++◌, length, nat_eq, nat_lt, inl, inr, refl, sym, ap, ◌∙◌, Ok, Err, Some, None}
use Rattle.std.specs.declared.option.Option.{Option}
use Rattle.std.specs.declared.result.Result.{Result}
use Rattle.units.specs.declared.Decimal.{Decimal}
use Rattle.code_table.specs.declared.Code.{Code}
use Rattle.gcode_check.specs.Verdicts.{verdict}
use Rattle.gcode_check.specs.declared.Verdict.{Verdict}
use Rattle.gcode_check.specs.declared.Verdict.TheVariants.{Accept, Refuse, Limit}
use Rattle.gcode_words.specs.Words.{words_of}
use Rattle.gcode_words.specs.declared.Word.{Word}
use Rattle.gcode_words.specs.declared.WordFault.{WordFault}
use Rattle.jog.specs.declared.JogMove.{JogMove}
use Rattle.jog.specs.Jogs.{jog_of}
use Rattle.step_line.specs.Counting.{events_of}
use Rattle.step_line.specs.Asking.Asked.{a_move}
use Rattle.step_line.specs.declared.planned_move.PlannedMove.{PlannedMove}
use Rattle.status_report.specs.declared.Reply.{Reply}
use Rattle.status_report.specs.declared.Reply.TheVariants as replies
use Rattle.status_report.specs.Lists.{setting_replies, modes_replies, offset_replies}
use Rattle.system_lines.specs.Commands.{command_of, kind_of, jog_words, is_jog, refused_in_run}
use Rattle.settings.specs.Numbers.{set_refusal}
use Rattle.system_lines.specs.declared.Kind.{Kind as DollarKind}
use Rattle.system_lines.specs.declared.Kind.TheVariants as kinds
use Rattle.system_lines.specs.declared.Command.{Command}
use Rattle.system_lines.specs.declared.Command.TheVariants.{ListSettings, ListModes, ListOffsets, Unlock, Set}
use Rattle.run_rules.specs.declared.State.{State}
use Rattle.run_rules.specs.declared.machine.Machine.{Machine}
use Rattle.run_rules.specs.declared.machine.Machine.TheVariants.{Runs, Jogs, Locked}
use Rattle.run_rules.specs.Work.{Outcome, telling, asking, asks}
use Rattle.run_rules.specs.Work.Task.{tell}
use Rattle.run_rules.specs.Asks.{planned}
use Rattle.run_rules.specs.Outcomes.{Before, refused, told, jogging, fault_number, ByVerdict, ByWords, BySetting, ByCommand, ByJogMove, ByJog, ByServed, most_kept, begins_with_dollar}
use Rattle.status_report.specs.declared.Message.TheVariants.{Unlocked}
use Rattle.run_rules.specs.Finding.{refuses, locks, begins_jog, is_unlocked_by, ByDollarFound, ByCodeFound, ByKeptFound, Found, IsJogWork, Fate}
use Rattle.run_rules.specs.Finding.Fate.{coded, a_jog, halted, neither}
use Rattle.run_rules.proofs.Each.{by_either}

telling_asks : (rs : List Reply) → asks (telling rs) ≡ []
telling_asks [] = refl
telling_asks (r ∷ rs) = telling_asks rs

refused_fate : (m : Machine) (b : Before) (n : ℕ) (kept : List ℕ) (o : Outcome) → o ≡ refused b n → Fate m kept o
refused_fate m b n kept o is = neither (ap (λ (x : Outcome). x.kind) is) (ap (λ (x : Outcome). x.settles) is) (ap (λ (x : Outcome). asks x.work) is)

told_fate : (m : Machine) (next : State) (body : List Reply) (kept : List ℕ) (o : Outcome) → o ≡ told next body → Fate m kept o
told_fate m next body kept o is =
    neither (ap (λ (x : Outcome). x.kind) is) (ap (λ (x : Outcome). x.settles) is) (ap (λ (x : Outcome). asks x.work) is ∙ telling_asks (body ++ replies.Ok ∷ []))

verdict_fate : (m : Machine) (b : Before) (v : Verdict) (kept : List ℕ) (o : Outcome) → (m ≡ Jogs → ⊥) × (m ≡ Locked → ⊥) → ByVerdict b v o → Fate m kept o
verdict_fate m b (Accept a) kept o other is = coded (ap (λ (x : Outcome). x.kind) is) other
verdict_fate m b (Refuse code) kept o other is = refused_fate m b code.0 kept o is
verdict_fate m b Limit kept o other is = halted (ap (λ (x : Outcome). x.kind) is) other (ap (λ (x : Outcome). x.settles) is) (ap (λ (x : Outcome). x.work) is)

words_fate : (m : Machine) (b : Before) (r : Result (List Word) WordFault) (kept : List ℕ) (o : Outcome) → (m ≡ Jogs → ⊥) × (m ≡ Locked → ⊥) → ByWords b r o → Fate m kept o
words_fate m b (Err fault) kept o other is = refused_fate m b (fault_number fault) kept o is
words_fate m b (Ok ws) kept o other is = verdict_fate m b (verdict b.state.parser b.state.settings ws) kept o other is

setting_fate : (m : Machine) (b : Before) (n : ℕ) (value : Decimal) (r : Option Code) (kept : List ℕ) (o : Outcome) → BySetting b n value r o → Fate m kept o
setting_fate m b n value (Some code) kept o is = refused_fate m b code.0 kept o is
setting_fate m b n value None kept o is = told_fate m (record { parser = b.state.parser; settings = o.next.settings }) [] kept o is.outcome

command_fate : (m : Machine) (b : Before) (r : Result Command Code) (kept : List ℕ) (o : Outcome) → ByCommand b r o → Fate m kept o
command_fate m b (Err code) kept o is = refused_fate m b code.0 kept o is
command_fate m b (Ok ListSettings) kept o is = told_fate m b.state (setting_replies b.state.settings) kept o is
command_fate m b (Ok ListModes) kept o is = told_fate m b.state (modes_replies b.state.parser) kept o is
command_fate m b (Ok ListOffsets) kept o is = told_fate m b.state (offset_replies b.state.parser.offsets) kept o is
command_fate m b (Ok Unlock) kept o is = told_fate m b.state [] kept o is
command_fate m b (Ok (Set n value)) kept o is = setting_fate m b n value (set_refusal n value) kept o is

-- ---- jogs

one_move : (none : Bool) (m : PlannedMove) → IsJogWork (asking (if none then [] else a_move m ∷ []) ++ tell replies.Ok ∷ [])
one_move true m = inl refl
one_move false m = inr (m, refl)

move_fate : (m : Machine) (b : Before) (r : Result JogMove Code) (kept : List ℕ) (o : Outcome) → (m ≡ Runs → ⊥) × (m ≡ Locked → ⊥) → begins_with_dollar kept ≡ true → ByJogMove b r o → Fate m kept o
move_fate m b (Err code) kept o other dollar is = refused_fate m b code.0 kept o is
move_fate m b (Ok jog) kept o other dollar is =
    let work : o.work ≡ (jogging b jog).work = ap (λ (x : Outcome). x.work) is in
    a_jog (ap (λ (x : Outcome). x.kind) is) other dollar (ap (λ (x : Outcome). x.settles) is)
    (rw work (one_move (events_of jog.mv == 0) (planned b.number b.state.settings jog.mv jog.rate)))

jog_fate : (m : Machine) (b : Before) (r : Result (List Word) WordFault) (kept : List ℕ) (o : Outcome) → (m ≡ Runs → ⊥) × (m ≡ Locked → ⊥) → begins_with_dollar kept ≡ true → ByJog b r o → Fate m kept o
jog_fate m b (Err fault) kept o other dollar is = refused_fate m b (fault_number fault) kept o is
jog_fate m b (Ok ws) kept o other dollar is = move_fate m b (jog_of b.state.parser b.state.settings ws) kept o other dollar is

-- a jog that is served is not begun while the machine runs
jogs_yield : (kind : DollarKind) → is_jog kind ≡ true → refused_in_run kind ≡ true
jogs_yield kinds.Jog is = refl
jogs_yield _ is = absurd cc

jogs_lock : (kind : DollarKind) → is_jog kind ≡ true → begins_jog kind ≡ true
jogs_lock kinds.Jog is = refl
jogs_lock _ is = absurd cc

not_running : (m : Machine) (kind : DollarKind) → refuses m kind ≡ false → is_jog kind ≡ true → (m ≡ Runs → ⊥) × (m ≡ Locked → ⊥)
not_running m kind served jogs = (
  λ runs. absurd (let e = sym (jogs_yield kind jogs) ∙ sym (ap (λ (n : Machine). refuses n kind) runs) ∙ served in cc),
  λ locked. absurd (let e = sym (jogs_lock kind jogs) ∙ sym (ap (λ (n : Machine). refuses n kind) locked) ∙ served in cc),
)

served_fate : (m : Machine) (b : Before) (kept : List ℕ) (o : Outcome) → refuses m (kind_of kept) ≡ false → begins_with_dollar kept ≡ true → ByServed b kept o → Fate m kept o
served_fate m b kept o served dollar is = by_either (is_jog (kind_of kept)) _ _ _
    (λ jogs. jog_fate m b (words_of (jog_words kept)) kept o (not_running m (kind_of kept) served jogs) dollar)
    (λ other. command_fate m b (command_of kept) kept o) is

dollar_fate : (m : Machine) (b : Before) (kept : List ℕ) (o : Outcome) → begins_with_dollar kept ≡ true → ByDollarFound m b kept o → Fate m kept o
dollar_fate m b kept o dollar is = by_either (refuses m (kind_of kept)) _ _ _ (λ e. refused_fate m b 8 kept o)
    (λ served. by_either (is_unlocked_by m (kind_of kept)) _ _ _ (λ e. told_fate m b.state (replies.Message Unlocked ∷ []) kept o) (λ e. served_fate m b kept o served dollar)) is

unlocked : (m : Machine) → locks m ≡ false → (m ≡ Jogs → ⊥) × (m ≡ Locked → ⊥)
unlocked m free = (λ jogs. absurd (let e = sym (ap locks jogs) ∙ free in cc), λ locked. absurd (let e = sym (ap locks locked) ∙ free in cc))

code_fate : (m : Machine) (b : Before) (kept : List ℕ) (o : Outcome) → ByCodeFound m b kept o → Fate m kept o
code_fate m b kept o is = by_either (locks m) _ _ _ (λ e. refused_fate m b 9 kept o) (λ free. words_fate m b (words_of kept) kept o (unlocked m free)) is

kept_fate : (m : Machine) (b : Before) (kept : List ℕ) (o : Outcome) → ByKeptFound m b kept o → Fate m kept o
kept_fate m b [] o is = told_fate m b.state [] [] o is
kept_fate m b (c ∷ cs) o is = by_either (nat_eq c 36) _ _ _ (λ dollar. dollar_fate m b (c ∷ cs) o dollar) (λ other. code_fate m b (c ∷ cs) o) is

pub fate : (m : Machine) (b : Before) (kept : List ℕ) (o : Outcome) → Found m b kept o → Fate m kept o
fate m b kept o is = by_either (nat_lt most_kept (length kept)) _ _ _ (λ long. refused_fate m b 11 kept o) (λ short. kept_fate m b kept o) is
