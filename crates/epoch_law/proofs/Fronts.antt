-- Where each actor has ended, what one got is all that the other gave: its end is the last.
use Rattle.std.proofs.Common.{◌≡◌, ℕ, Bool, List, [], ◌∷◌, ◌++◌, sym, ap, ◌∙◌, subst, append-nil, append_assoc}
use Rattle.flight.specs.Places.{origin}
use Rattle.outside.specs.Causes.{SourceState}
use Rattle.run_law.specs.Fronts.{BeginsWith as Begins}
use Rattle.run_law.specs.Ran.{RecorderRan}
use Rattle.run_law.specs.Runs.{Sinks, run_end}
use Rattle.run_law.proofs.Fronts.{whole_front, replies_whole, records_whole}
use Rattle.run_law.proofs.Reporting.{plain_front, bye_without}
use Rattle.run_rules.proofs.Answering.{NoByes}
use Rattle.run_texts.specs.Fronts.{BeginsWith}
use Rattle.run_texts.specs.Parts.{parts_of}
use Rattle.run_texts.specs.Told.{told_in}
use Rattle.status_report.specs.Answering.{without_reports}
use Rattle.status_report.specs.declared.Reply.{Reply}
use Rattle.status_report.specs.declared.Reply.TheVariants as replies
use Rattle.step_line.specs.declared.Piece.TheVariants as pieces
use Rattle.step_line.specs.declared.Record.{Record}
use Rattle.step_record.specs.declared.forms.Form.{Form}
use Rattle.stream_host.specs.Ran.{HostEnd}
use Rattle.epoch_courses.specs.Told.{without_byes}
use Rattle.epoch_records.specs.Stretches.{pieces_of_all}
use Rattle.epoch_law.specs.Joined.{AreConnected, ArePassed, ArePassedSome, HasHaltedFor}
use Rattle.epoch_law.specs.Ran.{HostDid, HasSent, BoardDid, BoardRan, PulseDid, PulseRan}
use Rattle.epoch_law.specs.Runs.{IsRun}
use Rattle.epoch_law.proofs.Ending.{all_ended, one_end}
use Rattle.epoch_law.proofs.Fitting.{put_recorded}
use Rattle.epoch_law.proofs.Making.{run_made}

pub all_of : {A : Type 0} (whole front : List A) → front ≡ whole → BeginsWith whole front
all_of whole front same = record { rest = []; is = sym same ∙ sym (append-nil front) }

as_front : {A : Type 0} (whole front : List A) → BeginsWith whole front → Begins whole front
as_front whole front b = record { rest = b.rest; is = b.is }

-- ---- the replies

no_byes : (rs : List Reply) → NoByes (without_byes rs)
no_byes [] = tt
no_byes (replies.Bye ∷ rs) = no_byes rs
no_byes (replies.Ok ∷ rs) = ((λ e. absurd cc), no_byes rs)
no_byes (replies.Error n ∷ rs) = ((λ e. absurd cc), no_byes rs)
no_byes (replies.Banner ∷ rs) = ((λ e. absurd cc), no_byes rs)
no_byes (replies.Alarm n ∷ rs) = ((λ e. absurd cc), no_byes rs)
no_byes (replies.Message m ∷ rs) = ((λ e. absurd cc), no_byes rs)
no_byes (replies.Report r ∷ rs) = ((λ e. absurd cc), no_byes rs)
no_byes (replies.Setting n v ∷ rs) = ((λ e. absurd cc), no_byes rs)
no_byes (replies.Modes m ∷ rs) = ((λ e. absurd cc), no_byes rs)
no_byes (replies.Offset n v ∷ rs) = ((λ e. absurd cc), no_byes rs)

plain_no_byes : (rs : List Reply) → NoByes rs → NoByes (without_reports rs)
plain_no_byes [] none = tt
plain_no_byes (replies.Report r ∷ rs) none = plain_no_byes rs none.1
plain_no_byes (r ∷ rs) none = (none.0, plain_no_byes rs none.1)

-- ---- a run

module _ (attended : Bool) (room blocks : ℕ) (form : Form) (job_was job_is : SourceState) (was is : Sinks) (end : HostEnd) (steps_failed : Bool) (h : HostDid) (b : BoardDid) (p : PulseDid) (records : List Record)
    (host : HasSent attended room job_was job_is was.console is.console h end) (board : BoardRan blocks b) (pulse : PulseRan p) (recorder : RecorderRan form was.steps is.steps records steps_failed)
    (connected : AreConnected room h b) (passed : ArePassedSome b p) (some_replies : BeginsWith b.answered h.got) (some_records : BeginsWith p.put records) where
  told_none : NoByes (replies.Banner ∷ told_in board.course)
  told_none =
      let all : NoByes (replies.Banner ∷ board.console.behind) = subst NoByes board.console.begins (no_byes b.answered) in
      (all.0, subst NoByes board.console.told (plain_no_byes board.console.behind all.1))

  same_replies : without_reports h.got ≡ without_reports b.answered
  same_replies =
      replies_whole (without_reports b.answered) (without_reports h.got) (replies.Banner ∷ told_in board.course) board.told told_none (bye_without h.got host.ran.bye)
      (plain_front b.answered h.got (as_front b.answered h.got some_replies))

  same_pieces : p.got ≡ b.published
  same_pieces =
      whole_front pieces.End b.published p.got board.before_end (pieces_of_all pulse.stretches ++ pulse.before) board.once board.ends_with
      (sym pulse.pieces ∙ ap (λ ps. pieces_of_all pulse.stretches ++ ps) pulse.ends ∙ sym (append_assoc (pieces_of_all pulse.stretches) pulse.before (pieces.End ∷ [])))
      (as_front b.published p.got passed.pieces)

  all_passed : ArePassed b p
  all_passed = record { pieces = same_pieces; halts = passed.halts }

  same_records : records ≡ p.put
  same_records =
      records_whole p.put records (all_ended (parts_of board.course) origin p.put (one_end board.course) (put_recorded blocks b p board pulse all_passed)) recorder.ended (as_front p.put records some_records)

  pub run_ended : (run : IsRun attended room blocks form job_was job_is was is (run_end end steps_failed)) × (run.scanned ≡ host.ran.scanned) × (run.replies ≡ h.got) × (run.records ≡ p.put) × HasHaltedFor run.epochs p
  run_ended = run_made attended room blocks form job_was job_is was is end steps_failed h b p records host board pulse recorder connected all_passed some_replies same_replies same_records
