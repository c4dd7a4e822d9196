-- What becomes of a line, walked once: what holds of each outcome by its cause holds of what becomes of a line.
use Rattle.std.proofs.Common.{◌≡◌, ◌≢◌, ℕ, ◌≤◌, Bool, true, false, inl, inr, List, [], ◌∷◌, length, nat_eq, nat_lt, refl, sym, subst, Ok, Err, Some, None, arith}
use Rattle.std.specs.declared.option.Option.{Option}
use Rattle.std.specs.declared.result.Result.{Result}
use Rattle.std.proofs.lemmas.Bool.Decides.{nat_tests}
use Rattle.units.specs.declared.Decimal.{Decimal}
use Rattle.code_table.specs.declared.Code.{Code}
use Rattle.gcode_check.specs.Verdicts.{verdict}
use Rattle.gcode_check.specs.declared.Accept.{Accept as Accepted}
use Rattle.gcode_check.specs.declared.Verdict.{Verdict}
use Rattle.gcode_check.specs.declared.Verdict.TheVariants.{Accept, Refuse, Limit}
use Rattle.gcode_words.specs.Words.{words_of}
use Rattle.gcode_words.specs.declared.Word.{Word}
use Rattle.gcode_words.specs.declared.WordFault.{WordFault}
use Rattle.jog.specs.declared.JogMove.{JogMove}
use Rattle.jog.specs.Jogs.{jog_of}
use Rattle.modal_state.specs.declared.Parser.{Parser}
use Rattle.modal_state.specs.declared.Offsets.{Offsets}
use Rattle.settings.specs.declared.Settings.{Settings}
use Rattle.settings.specs.Numbers.{set_refusal}
use Rattle.status_report.specs.Lists.{setting_replies, modes_replies, offset_replies}
use Rattle.status_report.specs.declared.Reply.{Reply}
use Rattle.system_lines.specs.Commands.{command_of, kind_of, jog_words, is_jog}
use Rattle.system_lines.specs.declared.Command.{Command}
use Rattle.system_lines.specs.declared.Command.TheVariants.{ListSettings, ListModes, ListOffsets, Unlock, Set}
use Rattle.run_rules.specs.declared.State.{State}
use Rattle.run_rules.specs.Work.{Outcome}
use Rattle.run_rules.specs.Limits.{IsBeyond}
use Rattle.run_rules.specs.Outcomes.{Before, Becomes, ByKept, ByDollar, ByCode, ByJog, ByJogMove, ByCommand, BySetting, ByWords, ByVerdict, executed, jogging, told, limited, refused, either, fault_number, has_cause, begins_with_dollar, most_kept}
use Rattle.run_rules.proofs.Codes.{is_for_motion, fault_other, verdict_other, jog_other, settings_others, line_command_others}

pub by_either : (t : Bool) (A B C : Type 0) → (t ≡ true → A → C) → (t ≡ false → B → C) → either t A B → C
by_either true A B C first second is = first refl is
by_either false A B C first second is = second refl is

pub few_of : (kept : List ℕ) → nat_lt most_kept (length kept) ≡ false → length kept ≤ most_kept
few_of kept short = grind (arith, nat_tests)

-- what a line tells that only tells something: nothing, or one of the lists
pub data IsListing (body : List Reply) : Type 0 where
  nothing : body ≡ [] → IsListing body
  settings : (s : Settings) → body ≡ setting_replies s → IsListing body
  modes : (p : Parser) → body ≡ modes_replies p → IsListing body
  offsets : (at : Offsets) → body ≡ offset_replies at → IsListing body

pub holds_of_bodies : (Q : List Reply → Type 0) → Q [] → ((s : Settings) → Q (setting_replies s)) → ((p : Parser) → Q (modes_replies p)) → ((at : Offsets) → Q (offset_replies at))
    → (body : List Reply) → IsListing body → Q body
holds_of_bodies Q none lists modes_too places body (nothing is) = subst Q (sym is) none
holds_of_bodies Q none lists modes_too places body (settings s is) = subst Q (sym is) (lists s)
holds_of_bodies Q none lists modes_too places body (modes p is) = subst Q (sym is) (modes_too p)
holds_of_bodies Q none lists modes_too places body (offsets at is) = subst Q (sym is) (places at)

-- ---- what causes errors 8 and 9

-- error 8: a line that begins with `$`, of a kind that has a cause
abbrev pub EightIsCaused : Before → List ℕ → Type 0
EightIsCaused b kept = (begins_with_dollar kept ≡ true) × (length kept ≤ most_kept) × (has_cause b (kind_of kept) ≡ true)

-- error 9: a line of G-code, behind a jog
abbrev pub NineIsCaused : Before → List ℕ → Type 0
NineIsCaused b kept = (kept ≢ []) × (length kept ≤ most_kept) × (begins_with_dollar kept ≡ false) × (b.jogged ≡ true)

-- ---- each outcome, by its cause

-- Something holds of what becomes of a line where it holds of a line that is refused by itself; for the motion, with 8 or 9; that
-- only tells; that is executed; that jogs; and that a soft limit stops.
pub record HoldsByCause (runs : Bool) (b : Before) (kept : List ℕ) (P : Outcome → Type 0) : Type 1 where
  pub refuses : (n : ℕ) → is_for_motion n ≡ false → P (refused b n)
  pub busy : EightIsCaused b kept → P (refused b 8)
  pub locked : NineIsCaused b kept → P (refused b 9)
  pub tells : (next : State) (body : List Reply) → next.parser ≡ b.state.parser → IsListing body → P (told next body)
  pub executes : (ws : List Word) (a : Accepted) → verdict b.state.parser b.state.settings ws ≡ Accept a → P (executed b a)
  pub jogs : (ws : List Word) (jog : JogMove) → jog_of b.state.parser b.state.settings ws ≡ Ok jog → P (jogging b jog)
  pub limits : IsBeyond b kept → P (limited b)

-- what a line asks for that begins with `$` and is no jog
pub holds_of_commands : (b : Before) (P : Outcome → Type 0) (r : Result Command Code) (o : Outcome) → ((code : Code) → r ≡ Err code → P (refused b code.0))
    → ((n : ℕ) (value : Decimal) (code : Code) → set_refusal n value ≡ Some code → P (refused b code.0))
    → ((next : State) (body : List Reply) → next.parser ≡ b.state.parser → IsListing body → P (told next body)) → ByCommand b r o → P o
holds_of_commands b P (Err code) o refuses sets tells is = subst P (sym is) (refuses code refl)
holds_of_commands b P (Ok ListSettings) o refuses sets tells is = subst P (sym is) (tells b.state (setting_replies b.state.settings) refl (settings b.state.settings refl))
holds_of_commands b P (Ok ListModes) o refuses sets tells is = subst P (sym is) (tells b.state (modes_replies b.state.parser) refl (modes b.state.parser refl))
holds_of_commands b P (Ok ListOffsets) o refuses sets tells is = subst P (sym is) (tells b.state (offset_replies b.state.parser.offsets) refl (offsets b.state.parser.offsets refl))
holds_of_commands b P (Ok Unlock) o refuses sets tells is = subst P (sym is) (tells b.state [] refl (nothing refl))
holds_of_commands b P (Ok (Set n value)) o refuses sets tells is = by_refusal (set_refusal n value) refl is
  where
    by_refusal : (r : Option Code) → set_refusal n value ≡ r → BySetting b n value r o → P o
    by_refusal (Some code) e is = subst P (sym is) (sets n value code e)
    by_refusal None e is = subst P (sym is.outcome) (tells _ [] refl (nothing refl))

module _ (runs : Bool) (b : Before) (kept : List ℕ) (P : Outcome → Type 0) (each : HoldsByCause runs b kept P) where
  by_verdict : (ws : List Word) (v : Verdict) (o : Outcome) → verdict b.state.parser b.state.settings ws ≡ v → (v ≡ Limit → IsBeyond b kept) → ByVerdict b v o → P o
  by_verdict ws (Accept a) o e beyond is = subst P (sym is) (each.executes ws a e)
  by_verdict ws (Refuse code) o e beyond is = subst P (sym is) (each.refuses code.0 (verdict_other b.state.parser b.state.settings ws code e))
  by_verdict ws Limit o e beyond is = subst P (sym is) (each.limits (beyond refl))

  by_words : (r : Result (List Word) WordFault) (o : Outcome) → ((ws : List Word) → r ≡ Ok ws → verdict b.state.parser b.state.settings ws ≡ Limit → IsBeyond b kept) → ByWords b r o → P o
  by_words (Err fault) o beyond is = subst P (sym is) (each.refuses (fault_number fault) (fault_other fault))
  by_words (Ok ws) o beyond is = by_verdict ws (verdict b.state.parser b.state.settings ws) o refl (beyond ws refl) is

  by_jog_move : (ws : List Word) (r : Result JogMove Code) (o : Outcome) → jog_of b.state.parser b.state.settings ws ≡ r → ByJogMove b r o → P o
  by_jog_move ws (Err code) o e is = subst P (sym is) (each.refuses code.0 (jog_other b.state.parser b.state.settings ws code e))
  by_jog_move ws (Ok jog) o e is = subst P (sym is) (each.jogs ws jog e)

  by_jog : (r : Result (List Word) WordFault) (o : Outcome) → ByJog b r o → P o
  by_jog (Err fault) o is = subst P (sym is) (each.refuses (fault_number fault) (fault_other fault))
  by_jog (Ok ws) o is = by_jog_move ws (jog_of b.state.parser b.state.settings ws) o refl is

  by_dollar : (o : Outcome) → length kept ≤ most_kept → begins_with_dollar kept ≡ true → ByDollar runs b kept o → P o
  by_dollar o few dollar (inl here) = subst P (sym here.outcome) (each.busy (dollar, few, here.cause))
  by_dollar o few dollar (inr is) = by_either (is_jog (kind_of kept)) _ _ _
      (λ jogs. by_jog (words_of (jog_words kept)) o)
      (λ other. holds_of_commands b P (command_of kept) o (λ code e. each.refuses code.0 (line_command_others kept code e))
      (λ n value code e. each.refuses code.0 (settings_others n value code e)) each.tells) is

  by_code : (o : Outcome) → kept ≢ [] → length kept ≤ most_kept → begins_with_dollar kept ≡ false → ByCode runs b kept o → P o
  by_code o some few code (inl here) = subst P (sym here.outcome) (each.locked (some, few, code, here.cause))
  by_code o some few code (inr is) =
      by_words (words_of kept) o (λ ws read limit. record { some = some; few = few; code = code; words = ws; read = read; limit = limit }) is

by_kept : (runs : Bool) (b : Before) (kept : List ℕ) (P : Outcome → Type 0) → HoldsByCause runs b kept P → (o : Outcome) → length kept ≤ most_kept → ByKept runs b kept o → P o
by_kept runs b [] P each o few is = subst P (sym is) (each.tells b.state [] refl (nothing refl))
by_kept runs b (c ∷ cs) P each o few is = by_either (nat_eq c 36) _ _ _
    (λ dollar. by_dollar runs b (c ∷ cs) P each o few dollar) (λ other. by_code runs b (c ∷ cs) P each o (λ e. absurd cc) few other) is

pub holds_by_cause : (runs : Bool) (b : Before) (kept : List ℕ) (P : Outcome → Type 0) → HoldsByCause runs b kept P → (o : Outcome) → Becomes runs b kept o → P o
holds_by_cause runs b kept P each o is = by_either (nat_lt most_kept (length kept)) _ _ _
    (λ long here. subst P (sym here) (each.refuses 11 refl)) (λ short. by_kept runs b kept P each o (few_of kept short)) is

-- ---- each outcome, whatever its cause

pub record HoldsOfEach (b : Before) (P : Outcome → Type 0) : Type 1 where
  pub refuses : (n : ℕ) → P (refused b n)
  pub tells : (next : State) (body : List Reply) → IsListing body → P (told next body)
  pub executes : (a : Accepted) → P (executed b a)
  pub jogs : (jog : JogMove) → P (jogging b jog)
  pub limits : P (limited b)

pub holds_of_each : (runs : Bool) (b : Before) (P : Outcome → Type 0) → HoldsOfEach b P → (kept : List ℕ) (o : Outcome) → Becomes runs b kept o → P o
holds_of_each runs b P each kept o is = holds_by_cause runs b kept P (record {
  refuses = λ n other. each.refuses n;
  busy = λ cause. each.refuses 8;
  locked = λ cause. each.refuses 9;
  tells = λ next body same. each.tells next body;
  executes = λ ws a e. each.executes a;
  jogs = λ ws jog e. each.jogs jog;
  limits = λ beyond. each.limits;
}) o is
