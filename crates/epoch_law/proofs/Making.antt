-- Four actors make a run.
use Rattle.std.proofs.Common.{◌≡◌, ℕ, ◌+◌, ◌≤◌, Bool, true, false, cond, List, [], ◌∷◌, ◌++◌, map, sum, refl, sym, ap, ◌∙◌, subst, arith}
use Rattle.std.proofs.lemmas.List.Sums.{sum_by-append}
use Rattle.board_rules.proofs.Plain.{answers_without}
use Rattle.flight.specs.Places.{origin}
use Rattle.outside.specs.Causes.{SourceState}
use Rattle.outside.specs.Writing.{Took}
use Rattle.run_law.specs.Ran.{RecorderRan}
use Rattle.run_law.specs.Runs.{Sinks, run_end, slows_behind}
use Rattle.run_law.proofs.Reporting.{errors_without}
use Rattle.run_rules.specs.Told.{errors_among, is_error}
use Rattle.run_texts.specs.Besides.{CutsHaveCauses, DropsAreFew}
use Rattle.run_texts.specs.Fronts.{BeginsWith}
use Rattle.run_texts.specs.Parts.{parts_of}
use Rattle.run_texts.specs.Points.{opening}
use Rattle.run_texts.specs.Sent.{Sent, sent_of}
use Rattle.run_texts.specs.Told.{told_in, has_alarm}
use Rattle.status_report.specs.Answering.{answers_in, without_reports}
use Rattle.status_report.specs.declared.Reply.{Reply}
use Rattle.status_report.specs.declared.Reply.TheVariants.{Banner, Bye}
use Rattle.status_report.proofs.Answered.{answers_on}
use Rattle.step_line.specs.Logs.{NewestFirst}
use Rattle.step_line.specs.declared.Record.{Record}
use Rattle.step_record.specs.declared.forms.Form.{Form}
use Rattle.step_record.specs.Forms.{text_in}
use Rattle.stream_host.specs.Ran.{HostEnd, is_sent_out}
use Rattle.epoch_effects.proofs.Once.{course_answers}
use Rattle.epoch_links.specs.Pieces.{items_in}
use Rattle.epoch_records.specs.Publishing.{AreSameHalts}
use Rattle.epoch_law.specs.Joined.{AreConnected, ArePassed, HasHaltedFor}
use Rattle.epoch_law.specs.Ran.{HostDid, HasSent, BoardDid, BoardRan, PulseDid, PulseRan}
use Rattle.epoch_law.specs.Runs.{IsToldAndAnswered, IsRunAndRecorded, HasEffects, HasCauses, HasEnded, IsScannedAndSent, IsRun}
use Rattle.epoch_law.proofs.Causing.{causes_with_more, drops_with_more}
use Rattle.epoch_law.proofs.Ending.{all_ended, one_end}
use Rattle.epoch_law.proofs.Fitting.{texts_fit, put_of_epochs, put_recorded, alarm_got, more_comes, is_out}
use Rattle.epoch_law.proofs.Marking.{banners_got, each_greeted}
use Rattle.epoch_law.proofs.Sending.{cancels_behind, cancels_scanned, reports_scanned, epochs_scanned, all_cancels, all_asked}

errors_on : (rs ss : List Reply) → errors_among (rs ++ ss) ≡ errors_among rs + errors_among ss
errors_on rs ss = sum_by-append (λ s. cond (is_error s) 1 0) rs ss

module _ (attended : Bool) (room blocks : ℕ) (form : Form) (job_was job_is : SourceState) (was is : Sinks) (end : HostEnd) (steps_failed : Bool) (h : HostDid) (b : BoardDid) (p : PulseDid) (records : List Record)
    (host : HasSent attended room job_was job_is was.console is.console h end) (board : BoardRan blocks b) (pulse : PulseRan p) (recorder : RecorderRan form was.steps is.steps records steps_failed)
    (connected : AreConnected room h b) (passed : ArePassed b p) (begins : BeginsWith b.answered h.got) (same_replies : without_reports h.got ≡ without_reports b.answered) (same_records : records ≡ p.put) where
  abbrev sent : List Sent
  sent = sent_of host.ran.lines host.rest

  abbrev more : List Sent
  more = (more_comes room blocks h b sent board connected same_replies host.sends.front host.sends.awaits host.sends.waits host.sends.greeted host.sends.whole).rest

  sent_is : sent ≡ items_in b.taken ++ more
  sent_is = (more_comes room blocks h b sent board connected same_replies host.sends.front host.sends.awaits host.sends.waits host.sends.greeted host.sends.whole).is

  alarm : has_alarm h.got ≡ board.last.before.alarmed
  alarm = alarm_got blocks b board h.got same_replies

  sent_out : has_alarm h.got ≡ false → is_sent_out h.shut h.got ≡ true
  sent_out calm = is_out room blocks h b sent board connected same_replies host.sends.front host.sends.awaits host.sends.waits host.sends.greeted host.sends.whole (sym alarm ∙ calm)

  told : without_reports h.got ≡ Banner ∷ (told_in board.course ++ Bye ∷ [])
  told = same_replies ∙ board.told

  answers : answers_in h.got ≡ answers_in (told_in board.course)
  answers = let a = answers_without h.got in let t = ap answers_in told in let o = answers_on (told_in board.course) (Bye ∷ []) in omega (arith, a, t, o)

  errors : errors_among h.got ≡ errors_among (told_in board.course)
  errors = let a = errors_without h.got in let t = ap errors_among told in let o = errors_on (told_in board.course) (Bye ∷ []) in omega (arith, a, t, o)

  abbrev sending : IsScannedAndSent attended room job_was job_is (run_end end steps_failed) host.ran.read host.ran.reading host.ran.scanned host.ran.lines host.rest h.got
  sending = record {
    taken = host.ran.taken;
    at_end = host.ran.at_end;
    so_far = host.ran.so_far;
    sent = λ calm. host.ran.sent (sent_out calm);
    is_rest = host.is_rest;
    live = host.ran.live;
    forgotten = host.ran.forgotten;
    all = host.ran.all;
    ended = host.ran.ended;
    now = host.ran.now;
    epochs = host.ran.epochs;
    reported = host.ran.reported;
  }

  telling : IsToldAndAnswered was is (run_end end steps_failed) board.course board.last h.got
  telling =
      let each = course_answers (opening board.first) board.last (items_in b.taken) [] board.course board.leads in
      record {
        told = told;
        alarm = alarm;
        answered = host.ran.answered;
        each = (let a = host.ran.answered in let s = answers in let e = each.0 in omega (arith, a, s, e));
        errors = host.ran.errors ∙ errors ∙ each.1;
        console = host.ran.console;
      }

  recording : IsRunAndRecorded blocks form was is (run_end end steps_failed) board.course board.drives board.epochs p.put
  recording = record {
    driven = board.driven;
    run = board.run;
    put = put_of_epochs blocks b p board pulse passed;
    ended = all_ended (parts_of board.course) origin p.put (one_end board.course) (put_recorded blocks b p board pulse passed);
    steps = subst (λ (rs : List Record). Took was.steps is.steps steps_failed (text_in form rs)) same_records recorder.steps;
  }

  doing : HasEffects host.ran.scanned board.first board.course board.drives board.epochs h.got board.effects
  doing = record {
    as_taken = board.doing;
    opened = board.opened;
    reports = board.reports;
    locks = board.locks;
    asking = board.asking;
    answered = subst (λ (rs : List Reply). BeginsWith rs h.got) board.answered_are begins;
    published = board.pieces;
    made = board.made;
    each = epochs_scanned host.ran.scanned h.raised host.ran.due host.ran.resumes host.ran.raises_so_far b.words connected.flags board.effects board.taken_are.each;
    cancels = (let a = board.taken_are.cancels in let s = all_cancels board.effects in
        let c = cancels_scanned host.ran.scanned h.raised host.ran.due host.ran.resumes host.ran.raises_so_far b.words connected.flags in omega (arith, a, s, c));
    asked = (let a = board.taken_are.asked in let s = all_asked board.effects in
        let c = reports_scanned host.ran.scanned h.raised host.ran.due host.ran.resumes host.ran.raises_so_far b.words connected.flags in omega (arith, a, s, c));
  }

  causes : HasCauses room board.first sent board.course
  causes = record {
    cuts = subst (λ (ss : List Sent). CutsHaveCauses (opening board.first) ss board.course) (sym sent_is)
        (causes_with_more (opening board.first) board.last (items_in b.taken) [] more board.course board.leads board.causes);
    drops = subst (λ (ss : List Sent). DropsAreFew room 0 ss board.course) (sym sent_is)
        (drops_with_more room 0 (opening board.first) board.last (items_in b.taken) [] more board.course board.leads (board.drops room connected.few));
  }

  waited : attended ≡ false → sum (map (λ e. e.taken.cancels) board.effects) ≤ slows_behind (end.answered + host.ran.forgotten) host.ran.scanned
  waited alone =
      let a = board.taken_are.cancels in
      let s = all_cancels board.effects in
      let c = cancels_behind host.ran.scanned h.raised host.ran.due host.ran.resumes host.ran.raises_so_far b.words connected.flags (end.answered + host.ran.forgotten) (host.ran.waited alone) in
      omega (arith, a, s, c)

  ending : HasEnded job_was job_is (run_end end steps_failed) host.ran.reading host.ran.scanned host.ran.forgotten board.course h.got
  ending = record {
    lost = board.lost ∙ sym (connected.lost (banners_got h.got (told_in board.course) told ∙ ap (λ n. n + 1) board.greets)) ∙ sym host.forgotten;
    stop = host.ran.stop;
    greeted = λ calm. each_greeted attended room job_was job_is was.console is.console h end host.ran (told_in board.course) (sent_out calm) told;
    failed = host.ran.failed;
    source = host.ran.source;
    source_same = host.ran.source_same;
  }

  pub run_made : (run : IsRun attended room blocks form job_was job_is was is (run_end end steps_failed)) × (run.scanned ≡ host.ran.scanned) × (run.replies ≡ h.got) × (run.records ≡ p.put) × HasHaltedFor run.epochs p
  run_made = (
    record {
      read = host.ran.read;
      reading = host.ran.reading;
      scanned = host.ran.scanned;
      lines = host.ran.lines;
      rest = host.rest;
      replies = h.got;
      records = p.put;
      drives = board.drives;
      epochs = board.epochs;
      effects = board.effects;
      sending = sending;
      fits = texts_fit attended room blocks job_was job_is was.console is.console end h b p host board pulse connected passed begins same_replies;
      telling = telling;
      recording = recording;
      doing = doing;
      causes = causes;
      waited = waited;
      ending = ending;
    },
    refl,
    refl,
    refl,
    subst (λ (halts : NewestFirst (ℕ × ℕ)). AreSameHalts halts p.halts) board.halts_are passed.halts,
  )
