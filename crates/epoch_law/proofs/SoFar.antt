-- What host and board have done so far fits the texts, where what is recorded is made of the course.
use Rattle.std.proofs.Common.{◌≡◌, inl, inr, ℕ, Bool, not, List, [], ◌∷◌, ◌++◌, refl, sym, ap, ◌∙◌, subst, append_assoc, arith}
use Rattle.std.proofs.lemmas.List.Elements.{filter-append}
use Rattle.flight.specs.Places.{origin}
use Rattle.outside.specs.Causes.{SourceState, SinkState}
use Rattle.run_law.specs.Runs.{slows_in}
use Rattle.run_texts.specs.Fronts.{BeginsWith}
use Rattle.run_texts.specs.Parts.{parts_of}
use Rattle.run_texts.specs.Points.{opening}
use Rattle.run_texts.specs.Sent.{Sent, sent_of}
use Rattle.run_texts.specs.SoFar.{LeadsTo, AreMadeSoFar, FitsSoFar}
use Rattle.status_report.specs.Answering.{is_bye, is_plain, without_reports}
use Rattle.status_report.specs.declared.Reply.{Reply}
use Rattle.status_report.specs.declared.Reply.TheVariants.{Banner}
use Rattle.step_line.specs.declared.Record.{Record}
use Rattle.epoch_courses.specs.Told.{without_byes}
use Rattle.epoch_links.specs.Links.{EndAtMarks}
use Rattle.epoch_links.specs.Pieces.{joined, items_in}
use Rattle.epoch_links.proofs.Cutting.{cut_at_marks}
use Rattle.epoch_links.proofs.Joining.{fronts}
use Rattle.epoch_law.specs.Joined.{AreConnected}
use Rattle.epoch_law.specs.Ran.{HostDid, BoardDid}
use Rattle.epoch_law.specs.SoFar.{Sending, BeginWithBanner, BoardRuns}
use Rattle.run_texts.proofs.SoFar.{leads_with_more}
use Rattle.epoch_law.proofs.Sending.{cancels_scanned}

-- ---- fronts

pub front_on : {A : Type 0} (whole front first : List A) → BeginsWith whole front → BeginsWith front first → BeginsWith whole first
front_on whole front first a b = record { rest = b.rest ++ a.rest; is = a.is ∙ ap (λ xs. xs ++ a.rest) b.is ∙ append_assoc first b.rest a.rest }

pub plain_of : (whole front : List Reply) → BeginsWith whole front → BeginsWith (without_reports (without_byes whole)) (without_reports (without_byes front))
plain_of whole front b = record {
  rest = without_reports (without_byes b.rest);
  is = ap (λ rs. without_reports (without_byes rs)) b.is ∙ ap without_reports (filter-append (λ r. not (is_bye r)) front b.rest) ∙ filter-append is_plain (without_byes front) (without_byes b.rest);
}

begin_still : (xs ys : List Reply) → BeginWithBanner (xs ++ ys) → BeginWithBanner xs
begin_still [] ys begins = inl refl
begin_still (x ∷ xs) ys (inl none) = absurd cc
begin_still (x ∷ xs) ys (inr some) = inr (xs, (let first : x ≡ Banner = (let e = some.1 in cc) in ap (λ (r : Reply). r ∷ xs) first))

pub got_begins : (answered got : List Reply) → BeginsWith answered got → BeginWithBanner (without_byes answered) → BeginWithBanner (without_byes got)
got_begins answered got b begins =
    begin_still (without_byes got) (without_byes b.rest) (subst BeginWithBanner (ap without_byes b.is ∙ filter-append (λ r. not (is_bye r)) got b.rest) begins)

-- ---- the texts

abbrev pub texts_so_far : (attended : Bool) (room blocks : ℕ) (job_was job_is : SourceState) (console_was console_is : SinkState) (h : HostDid) (b : BoardDid) (ticks : ℕ) (records : List Record)
    → (host : Sending attended room job_was job_is console_was console_is h) → (board : BoardRuns blocks ticks b) → AreConnected room h b → BeginsWith b.answered h.got → AreMadeSoFar origin (parts_of board.course) records
    → FitsSoFar (sent_of host.runs.lines host.rest) (slows_in host.runs.scanned) (without_byes h.got) records
texts_so_far attended room blocks job_was job_is console_was console_is h b ticks records host board connected front made =
    let sent = sent_of host.runs.lines host.rest in
    let cut : EndAtMarks h.stored h.marks b.taken = cut_at_marks h.stored h.marks h.at_got (joined b.taken) b.at_answers b.loaded h.shut b.closed b.taken connected.link host.awaits board.ends in
    let begins : BeginsWith sent (items_in b.taken) = fronts sent h.stored h.marks h.at_got (joined b.taken) b.at_answers b.loaded h.shut b.closed b.taken host.front connected.link board.ends cut in
    record {
      first = board.first;
      opens = board.opens;
      course = board.course;
      point = board.point;
      left = board.left ++ begins.rest;
      leads = subst (λ (ss : List Sent). LeadsTo (opening board.first) ss board.course board.point (board.left ++ begins.rest)) (sym begins.is)
          (leads_with_more (opening board.first) board.point (items_in b.taken) board.left begins.rest board.course board.leads);
      begins = got_begins b.answered h.got front board.begins;
      told = front_on _ _ _ board.plain (plain_of b.answered h.got front);
      made = made;
      few = (let a = board.few in let c = cancels_scanned host.runs.scanned h.raised host.runs.due host.runs.resumes host.runs.raises b.words connected.flags in omega (arith, a, c));
    }
