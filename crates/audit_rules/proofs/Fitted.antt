-- Texts that fit stand to their end.
use Rattle.std.proofs.Common.{◌≡◌, ℕ, List, [], ◌∷◌, ◌++◌, append-nil, sym, refl, ap, ◌∙◌, subst}
use Rattle.std.proofs.lemmas.List.Concat.{flat_map-append}
use Rattle.flight.specs.Places.{origin}
use Rattle.status_report.specs.Answering.{without_reports}
use Rattle.status_report.specs.declared.Reply.TheVariants.{Banner}
use Rattle.step_line.specs.declared.Record.{Record}
use Rattle.step_line.specs.declared.Record.TheVariants as kinds
use Rattle.run_rules.specs.Told.{replies_text}
use Rattle.run_texts.specs.Courses.{Passed}
use Rattle.run_texts.specs.Parts.{parts_of}
use Rattle.run_texts.specs.Points.{Point, opening}
use Rattle.run_texts.specs.Recorded.{AreRecorded}
use Rattle.run_texts.specs.Sent.{Sent}
use Rattle.run_texts.specs.SoFar.{LeadsTo}
use Rattle.run_texts.specs.Told.{told_in}
use Rattle.run_texts.proofs.SoFar.{parts_end, made_so_far}
use Rattle.audit_rules.specs.Consoles.{Tells}
use Rattle.audit_rules.specs.Findings.{TextsFit, FitsWith, MayEnd}
use Rattle.audit_rules.specs.Scanned.{sent_in}
use Rattle.audit_rules.specs.Standing.{Stand, StandTo}
use Rattle.audit_rules.specs.StepTexts.{AreLinesOf, lines_text, records_of, form_of, body_of}
use Rattle.step_record.specs.declared.forms.Line.{Line}
use Rattle.step_record.specs.Forms.{line_text}
use Rattle.step_record.specs.Forms.{records_of as records_by}
use Rattle.step_record.specs.declared.forms.Line.TheVariants as line_kinds
use Rattle.audit_rules.specs.Telling.{StandsUpTo, ConsoleStands, IsOver}
use Rattle.audit_rules.proofs.Fitting.{leads_on, ends_records, ends_lines, no_end, both, over_by}
use Rattle.audit_rules.proofs.Lines.{one_line_here, lines_first}
use Rattle.audit_rules.proofs.Replies.{all_second}

-- a course over all that is scanned
pub record Whole (job console : List ℕ) (records : List Record) (f : TextsFit job console records) : Type 0 where
  pub left : List Sent
  pub leads : LeadsTo (opening f.fits.first) (sent_in job) f.fits.course f.fits.last left
  pub over : IsOver f.fits.last left
  pub told : Tells console (told_in f.fits.course) []

pub whole : (job console : List ℕ) (records : List Record) (f : TextsFit job console records) → Whole job console records f
whole job console records f =
    let l = leads_on (opening f.fits.first) f.fits.last f.sent f.later f.fits.course f.fits.follows in
    let begins = f.fits.told.begins in
    let behind : f.behind ≡ f.fits.told.behind = cc in
    record {
      left = l.left ++ f.later;
      leads = subst (λ (ss : List Sent). LeadsTo (opening f.fits.first) ss f.fits.course f.fits.last (l.left ++ f.later)) (sym f.split) l.leads;
      over = record { answered = l.is.answered; rest = over_by f.fits.last.before.alarmed l.left f.later l.is.rest f.over };
      told = record { behind = f.behind; text = f.text ∙ sym (append-nil (replies_text (Banner ∷ f.behind))); each = f.each; are = ap without_reports behind ∙ f.fits.told.told };
    }

pub stand_by : (job console : List ℕ) (done all : List Record) (f : TextsFit job console all) → all ≡ done ++ kinds.End ∷ [] → Stand (sent_in job) console done
stand_by job console done all f is =
    let w = whole job console all f in
    record {
      first = f.fits.first;
      opens = f.fits.opens;
      course = f.fits.course;
      point = f.fits.last;
      left = w.left;
      leads = w.leads;
      rest = [];
      told = w.told;
      waits = λ unanswered. both (sym unanswered ∙ w.over.answered);
      made = made_so_far (parts_of f.fits.course) origin done (parts_end f.fits.course) (subst (λ (rs : List Record). AreRecorded origin (parts_of f.fits.course) rs) is f.fits.recorded);
    }

-- and the console stands whole with these records
pub record StandsWhole (job console : List ℕ) (records : List Record) : Type 0 where
  pub point : Point
  pub left : List Sent
  pub stands : StandsUpTo (sent_in job) console records point left []
  pub over : IsOver point left

pub whole_by : (job console : List ℕ) (done all : List Record) (f : TextsFit job console all) → all ≡ done ++ kinds.End ∷ [] → StandsWhole job console done
whole_by job console done all f is =
    let w = whole job console all f in
    let stands : StandsUpTo (sent_in job) console done f.fits.last w.left [] = record {
      first = f.fits.first;
      opens = f.fits.opens;
      course = f.fits.course;
      between = f.fits.last;
      waiting = w.left;
      leads = w.leads;
      made = made_so_far (parts_of f.fits.course) origin done (parts_end f.fits.course) (subst (λ (rs : List Record). AreRecorded origin (parts_of f.fits.course) rs) is f.fits.recorded);
      others = [];
      goes_on = (refl, refl);
      rebases = tt;
      told = subst (λ (ps : List Passed). Tells console (told_in ps) []) (sym (append-nil f.fits.course)) w.told;
      waits = λ unanswered. both (sym unanswered ∙ w.over.answered);
    } in
    record { point = f.fits.last; left = w.left; stands = stands; over = w.over }

-- texts that fit stand up to the line of the end, which ends them
pub record Fitted (job console steps : List ℕ) (lines : List Line) : Type 0 where
  pub steps_stand : StandTo (sent_in job) console steps
  pub rest : steps_stand.rest ≡ line_text (line_kinds.One kinds.End)
  pub lines_are : lines ≡ steps_stand.done ++ line_kinds.One kinds.End ∷ []
  pub may_end : MayEnd job console steps_stand.done
  pub console_stands : ConsoleStands (sent_in job) console steps

pub records_end : (done : List Line) → records_of (done ++ line_kinds.One kinds.End ∷ []) ≡ records_of done ++ kinds.End ∷ []
records_end done = flat_map-append records_by done (line_kinds.One kinds.End ∷ [])

not_behind : (job console steps : List ℕ) (done : List Line) (line : Line) (more : List ℕ) → line_text (line_kinds.One kinds.End) ≡ line_text line ++ more
    → AreLinesOf (form_of steps) (done ++ line ∷ []) → Stand (sent_in job) console (records_of (done ++ line ∷ [])) → ⊥
not_behind job console steps done line more text are stand =
    let is_line = (all_second _ done (line ∷ []) are.each).0 in
    let same = one_line_here (form_of steps) (line_kinds.One kinds.End) line [] more tt is_line (append-nil (line_text (line_kinds.One kinds.End)) ∙ text) in
    let records : records_of (done ++ line ∷ []) ≡ records_of done ++ kinds.End ∷ [] = ap (λ (l : Line). records_of (done ++ l ∷ [])) (sym same.line) ∙ records_end done in
    no_end (sent_in job) console (records_of done) (subst (λ (rs : List Record). Stand (sent_in job) console rs) records stand)

pub fitted : (job console steps : List ℕ) (events : ℕ) (f : FitsWith job console steps events) → Fitted job console steps f.lines
fitted job console steps events f =
    let ends = ends_records (parts_of f.fit.fits.course) origin (records_of f.lines) (parts_end f.fit.fits.course) f.fit.fits.recorded in
    let e = ends_lines (form_of steps) f.lines ends.front f.steps_are.are.each ends.is in
    let records : records_of f.lines ≡ records_of e.done ++ kinds.End ∷ [] = ap records_of e.is ∙ records_end e.done in
    let text : body_of steps ≡ lines_text e.done ++ line_text (line_kinds.One kinds.End) =
    f.steps_are.body ∙ ap lines_text e.is ∙ flat_map-append line_text e.done (line_kinds.One kinds.End ∷ []) ∙ ap (λ (bytes : List ℕ). lines_text e.done ++ bytes) (append-nil (line_text (line_kinds.One kinds.End))) in
    let z : StandTo (sent_in job) console steps = record {
      done = e.done;
      rest = line_text (line_kinds.One kinds.End);
      text = text;
      are = lines_first (form_of steps) e.done (line_kinds.One kinds.End ∷ []) (subst (λ (ls : List Line). AreLinesOf (form_of steps) ls) e.is f.steps_are.are);
      stand = stand_by job console (records_of e.done) (records_of f.lines) f.fit records;
      furthest = λ line more is are stand. not_behind job console steps e.done line more is are stand;
    } in
    let w = whole_by job console (records_of e.done) (records_of f.lines) f.fit records in
    record {
      steps_stand = z;
      rest = refl;
      lines_are = e.is;
      may_end = subst (λ (rs : List Record). TextsFit job console rs) records f.fit;
      console_stands = record { steps_stand = z; point = w.point; left = w.left; stands = w.stands; over = w.over };
    }
