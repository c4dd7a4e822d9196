-- Four actors that run have done a run so far.
use Rattle.std.proofs.Common.{◌⊎◌, inl, inr, ℕ, Bool, List, [], ◌∷◌, ◌++◌, length, refl, sym, subst, arith}
use Rattle.flight.specs.Places.{origin}
use Rattle.outside.specs.Causes.{SourceState}
use Rattle.run_law.specs.Runs.{Sinks, slows_in}
use Rattle.run_law.specs.SoFar.{RecorderRuns}
use Rattle.run_texts.specs.Besides.{CutsHaveCauses, DropsAreFew}
use Rattle.run_texts.specs.Fronts.{BeginsWith}
use Rattle.run_texts.specs.Parts.{parts_of}
use Rattle.run_texts.specs.Points.{opening}
use Rattle.run_texts.specs.Sent.{Sent, sent_of}
use Rattle.run_texts.specs.SoFar.{FitsSoFar}
use Rattle.status_report.specs.declared.Reply.{Reply}
use Rattle.step_line.specs.Asking.{ticks_among}
use Rattle.step_line.specs.declared.Piece.{Piece}
use Rattle.step_line.specs.declared.Record.{Record}
use Rattle.step_record.specs.declared.forms.Form.{Form}
use Rattle.host_journal.specs.declared.Stop.{Stop}
use Rattle.host_journal.specs.Jobs.{IsSentSoFar}
use Rattle.epoch_courses.specs.Told.{without_byes}
use Rattle.epoch_links.specs.Links.{EndAtMarks}
use Rattle.epoch_links.specs.Pieces.{joined, items_in}
use Rattle.epoch_links.proofs.Cutting.{cut_at_marks}
use Rattle.epoch_links.proofs.Joining.{fronts}
use Rattle.epoch_records.specs.Epochs.{Epoch}
use Rattle.epoch_records.specs.SoFar.{IsPutSoFar, HaltsUnseen}
use Rattle.epoch_records.proofs.PutSoFar.{put_so_far, put_unseen}
use Rattle.epoch_records.proofs.SoFar.{made_so_far}
use Rattle.epoch_law.specs.Joined.{AreConnected, ArePassedSome, ArePassedSoFar}
use Rattle.epoch_law.specs.Ran.{HostDid, BoardDid, PulseDid}
use Rattle.epoch_law.specs.Runs.{HasEffects, HasCauses}
use Rattle.epoch_law.specs.SoFar.{Sending, BoardRuns, PulseRuns, IsScannedSoFar, IsToldSoFar, IsRecordedSoFar, IsSoFar}
use Rattle.epoch_law.proofs.Causing.{causes_with_more, drops_with_more}
use Rattle.epoch_law.proofs.Sending.{cancels_scanned, reports_scanned, epochs_scanned, all_cancels, all_asked}
use Rattle.epoch_law.proofs.SoFar.{texts_so_far}

module _ (attended : Bool) (room blocks : ℕ) (form : Form) (job_was job_is : SourceState) (was is : Sinks) (h : HostDid) (b : BoardDid) (p : PulseDid) (taken : List Record)
    (host : Sending attended room job_was job_is was.console is.console h) (board : BoardRuns blocks (length (ticks_among p.put)) b) (pulse : PulseRuns p) (recorder : RecorderRuns form was.steps is.steps taken)
    (connected : AreConnected room h b) (passed : ArePassedSoFar (length (ticks_among p.put)) b p) (some_replies : BeginsWith b.answered h.got) (some_records : BeginsWith p.put taken) where
  abbrev sent : List Sent
  sent = sent_of host.runs.lines host.rest

  abbrev epochs : List Epoch
  epochs = board.closed ++ board.now ∷ []

  abbrev ticks : ℕ
  ticks = length (ticks_among p.put)

  -- what was put is put of the epochs so far
  by_pieces : ArePassedSome b p ⊎ HaltsUnseen b.phase ticks b.published p.got b.halts p.halts → IsPutSoFar board.number epochs p.put
  by_pieces (inl seen) =
      put_so_far board.number b.phase board.closed board.now ticks b.published b.halts p.halts pulse.stretches pulse.last p.put board.published_are (subst (BeginsWith b.published) (sym pulse.pieces) seen.pieces) seen.halts pulse.halted pulse.put refl
  by_pieces (inr unseen) =
      put_unseen board.number b.phase board.closed board.now ticks b.published b.halts p.halts pulse.stretches pulse.last p.put board.published_are
      (subst (λ (got : List Piece). HaltsUnseen b.phase ticks b.published got b.halts p.halts) (sym pulse.pieces) unseen) pulse.halted pulse.put refl

  put_are : IsPutSoFar board.number epochs p.put
  put_are = by_pieces passed

  abbrev fits : FitsSoFar sent (slows_in host.runs.scanned) (without_byes h.got) put_are.made
  fits = texts_so_far attended room blocks job_was job_is was.console is.console h b ticks put_are.made host board connected some_replies (made_so_far (parts_of board.course) origin epochs put_are.made board.run put_are.are)

  sending : IsScannedSoFar attended room job_was job_is host.runs.read host.runs.reading host.runs.scanned host.runs.lines host.rest h.got
  sending = record {
    taken = host.runs.taken;
    sent = subst (λ (stop : Stop). IsSentSoFar host.runs.read host.runs.reading host.runs.scanned host.runs.lines stop) host.runs.sent.cause host.runs.sent;
    is_rest = host.is_rest;
    live = host.runs.live;
    ended = host.runs.ended;
    now = host.runs.now;
    epochs = host.runs.epochs;
    reported = host.runs.reported;
  }

  telling : IsToldSoFar was is board.course b.answered h.got
  telling = record { told = board.told; got_of = some_replies; failed = host.runs.failed; waiting = host.runs.waiting; console = host.runs.console }

  recording : IsRecordedSoFar blocks form was is board.course board.drives epochs p.put taken
  recording = record { driven = board.driven; run = board.run; taken_of = some_records; failed = recorder.failed; waiting = recorder.waiting; steps = recorder.steps }

  doing : HasEffects host.runs.scanned board.first board.course board.drives epochs h.got board.effects
  doing = record {
    as_taken = board.doing;
    opened = board.opened;
    reports = board.reports;
    locks = board.locks;
    asking = board.asking;
    answered = subst (λ (rs : List Reply). BeginsWith rs h.got) board.answered_are some_replies;
    published = board.pieces;
    made = board.made;
    each = epochs_scanned host.runs.scanned h.raised host.runs.due host.runs.resumes host.runs.raises b.words connected.flags board.effects board.taken_are.each;
    cancels = (let a = board.taken_are.cancels in let s = all_cancels board.effects in
        let c = cancels_scanned host.runs.scanned h.raised host.runs.due host.runs.resumes host.runs.raises b.words connected.flags in omega (arith, a, s, c));
    asked = (let a = board.taken_are.asked in let s = all_asked board.effects in
        let c = reports_scanned host.runs.scanned h.raised host.runs.due host.runs.resumes host.runs.raises b.words connected.flags in omega (arith, a, s, c));
  }

  cut : EndAtMarks h.stored h.marks b.taken
  cut = cut_at_marks h.stored h.marks h.at_got (joined b.taken) b.at_answers b.loaded h.shut b.closed b.taken connected.link host.awaits board.ends

  more : BeginsWith sent (items_in b.taken)
  more = fronts sent h.stored h.marks h.at_got (joined b.taken) b.at_answers b.loaded h.shut b.closed b.taken host.front connected.link board.ends cut

  causes : HasCauses room board.first sent board.course
  causes = record {
    cuts = subst (λ (ss : List Sent). CutsHaveCauses (opening board.first) ss board.course) (sym more.is)
        (causes_with_more (opening board.first) board.point (items_in b.taken) board.left more.rest board.course board.leads board.causes);
    drops = subst (λ (ss : List Sent). DropsAreFew room 0 ss board.course) (sym more.is)
        (drops_with_more room 0 (opening board.first) board.point (items_in b.taken) board.left more.rest board.course board.leads (board.drops room connected.few));
  }

  pub runs_so_far : IsSoFar attended room blocks form job_was job_is was is
  runs_so_far = record {
    read = host.runs.read;
    reading = host.runs.reading;
    scanned = host.runs.scanned;
    lines = host.runs.lines;
    rest = host.rest;
    answered = b.answered;
    got = h.got;
    put = p.put;
    taken = taken;
    drives = board.drives;
    epochs = epochs;
    effects = board.effects;
    sending = sending;
    number = board.number;
    put_are = put_are;
    fits = fits;
    numbered = board.numbered;
    telling = telling;
    recording = recording;
    doing = doing;
    causes = causes;
  }
