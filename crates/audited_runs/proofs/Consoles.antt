-- The console that a run leaves is the text of its replies, but Bye.
use Rattle.std.proofs.Common.{◌≡◌, ℕ, Bool, List, [], ◌∷◌, ◌++◌, refl, sym, ap, subst, ◌∙◌, Some}
use Rattle.std.specs.List.{AllByRecursion, flat_map}
use Rattle.outside.specs.Causes.{SourceState}
use Rattle.outside.specs.Writing.{Took}
use Rattle.run_law.specs.Runs.{Sinks}
use Rattle.run_law.specs.declared.RunEnd.{RunEnd}
use Rattle.run_rules.specs.Told.{replies_text}
use Rattle.run_texts.specs.Fronts.{BeginsWith}
use Rattle.status_report.specs.Replies.{reply_text}
use Rattle.status_report.specs.Reports.{CanBeTold}
use Rattle.status_report.specs.declared.Reply.{Reply}
use Rattle.status_report.specs.declared.Reply.TheVariants as replies
use Rattle.step_record.specs.declared.forms.Form.{Form}
use Rattle.epoch_courses.specs.Told.{without_byes}
use Rattle.epoch_effects.specs.Effects.{EpochEffects}
use Rattle.epoch_effects.specs.Reports.{HasReported}
use Rattle.epoch_law.specs.Runs.{IsRun}
use Rattle.audit_rules.specs.Consoles.{IsOnConsole}
use Rattle.audit_rules.proofs.Replies.{all_first, all_joined}
use Rattle.audited_runs.specs.Left.{IsWholeRun, LeavesConsole}
use Rattle.audited_runs.proofs.Held.{took_all}

-- Bye has no text
text_without : (rs : List Reply) → replies_text (without_byes rs) ≡ replies_text rs
unfolding reply_text
text_without [] = refl
text_without (replies.Bye ∷ rs) = text_without rs
text_without (replies.Banner ∷ rs) = ap (λ (text : List ℕ). reply_text replies.Banner ++ text) (text_without rs)
text_without (replies.Ok ∷ rs) = ap (λ (text : List ℕ). reply_text replies.Ok ++ text) (text_without rs)
text_without (replies.Error n ∷ rs) = ap (λ (text : List ℕ). reply_text (replies.Error n) ++ text) (text_without rs)
text_without (replies.Alarm n ∷ rs) = ap (λ (text : List ℕ). reply_text (replies.Alarm n) ++ text) (text_without rs)
text_without (replies.Message m ∷ rs) = ap (λ (text : List ℕ). reply_text (replies.Message m) ++ text) (text_without rs)
text_without (replies.Report r ∷ rs) = ap (λ (text : List ℕ). reply_text (replies.Report r) ++ text) (text_without rs)
text_without (replies.Setting n v ∷ rs) = ap (λ (text : List ℕ). reply_text (replies.Setting n v) ++ text) (text_without rs)
text_without (replies.Modes m ∷ rs) = ap (λ (text : List ℕ). reply_text (replies.Modes m) ++ text) (text_without rs)
text_without (replies.Offset row at ∷ rs) = ap (λ (text : List ℕ). reply_text (replies.Offset row at) ++ text) (text_without rs)

-- each that can be told, but Bye, can stand on a console
told_stand : (rs : List Reply) → AllByRecursion CanBeTold rs → AllByRecursion IsOnConsole (without_byes rs)
told_stand [] each = tt
told_stand (replies.Bye ∷ rs) each = told_stand rs each.1
told_stand (replies.Report r ∷ rs) each = (each.0, told_stand rs each.1)
told_stand (replies.Banner ∷ rs) each = (tt, told_stand rs each.1)
told_stand (replies.Ok ∷ rs) each = (tt, told_stand rs each.1)
told_stand (replies.Error n ∷ rs) each = (tt, told_stand rs each.1)
told_stand (replies.Alarm n ∷ rs) each = (tt, told_stand rs each.1)
told_stand (replies.Message m ∷ rs) each = (tt, told_stand rs each.1)
told_stand (replies.Setting n v ∷ rs) each = (tt, told_stand rs each.1)
told_stand (replies.Modes m ∷ rs) each = (tt, told_stand rs each.1)
told_stand (replies.Offset row at ∷ rs) each = (tt, told_stand rs each.1)

-- what was answered in epochs whose reports can be told
all_answered : (es : List EpochEffects) → AllByRecursion HasReported es → AllByRecursion CanBeTold (flat_map (λ (e : EpochEffects). e.answered) es)
all_answered [] each = tt
all_answered (e ∷ es) each = all_joined CanBeTold e.answered (flat_map (λ (x : EpochEffects). x.answered) es) each.0.valid (all_answered es each.1)

-- of replies that begin with some
all_of_front : (whole front : List Reply) → BeginsWith whole front → AllByRecursion CanBeTold whole → AllByRecursion CanBeTold front
all_of_front whole front begins each = all_first CanBeTold front begins.rest (subst (AllByRecursion CanBeTold) begins.is each)

pub console_left : (attended : Bool) (room blocks : ℕ) (form : Form) (job : List ℕ) (job_was job_is : SourceState) (was is : Sinks) (end : RunEnd) (run : IsRun attended room blocks form job_was job_is was is end) → IsWholeRun job job_was was end → LeavesConsole is.console run.replies
console_left attended room blocks form job job_was job_is was is end run whole =
    let took = subst (λ (failed : Bool). Took was.console is.console failed (replies_text run.replies)) whole.console run.telling.console in
    let told = run.fits.told in
    let text : replies_text run.replies ≡ replies_text (replies.Banner ∷ told.behind) = sym (text_without run.replies) ∙ ap replies_text told.begins in
    let answered = all_answered run.effects run.doing.reports in
    let got = all_of_front (flat_map (λ (e : EpochEffects). e.answered) run.effects) run.replies run.doing.answered answered in
    let each = subst (AllByRecursion IsOnConsole) told.begins (told_stand run.replies got) in
    record {
      behind = told.behind;
      held = took_all was.console is.console (replies_text run.replies) whole.no_console took ∙ ap Some text;
      begins = told.begins;
      each = each.1;
    }
