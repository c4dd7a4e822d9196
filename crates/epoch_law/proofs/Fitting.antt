-- What host, board and pulse have done fits the texts.
use Rattle.std.proofs.Common.{◌≡◌, ℕ, ◌⊎◌, inl, inr, Bool, true, false, not, ◌&&◌, List, [], ◌∷◌, ◌++◌, drop, refl, sym, ap, ◌∙◌, subst, append-nil, arith, ◌||◌}
use Rattle.std.proofs.lemmas.List.{append_cancel_left}
use Rattle.std.proofs.lemmas.List.Elements.{filter-append}
use Rattle.flight.specs.Places.{origin}
use Rattle.outside.specs.Causes.{SourceState, SinkState}
use Rattle.run_law.specs.Runs.{slows_in}
use Rattle.run_law.proofs.Alarming.{any_on, plain_alarms}
use Rattle.run_texts.specs.Courses.{Passed, Follows}
use Rattle.run_texts.specs.Fits.{FitsTexts}
use Rattle.run_texts.specs.Fronts.{BeginsWith}
use Rattle.run_texts.specs.Parts.{parts_of}
use Rattle.run_texts.specs.Points.{opening}
use Rattle.run_texts.specs.Recorded.{AreRecorded}
use Rattle.run_texts.specs.Sent.{Sent, behind_reset, sent_of}
use Rattle.run_texts.specs.SoFar.{LeadsTo}
use Rattle.run_texts.specs.Told.{IsTold, told_in, has_alarm}
use Rattle.status_report.specs.Answering.{is_bye, without_reports}
use Rattle.status_report.specs.declared.Reply.{Reply}
use Rattle.status_report.specs.declared.Reply.TheVariants.{Banner, Bye}
use Rattle.stream_host.specs.Ran.{HostEnd, is_sent_out}
use Rattle.epoch_courses.specs.Told.{without_byes}
use Rattle.epoch_courses.proofs.Told.{both_out}
use Rattle.epoch_links.specs.Links.{AwaitsBanners, HasBanners, EndAtMarks}
use Rattle.epoch_links.specs.Pieces.{joined, items_in, IsFrontOf, IsAllOf}
use Rattle.epoch_links.proofs.Cutting.{cut_at_marks, one_of_each}
use Rattle.epoch_links.proofs.Joining.{fronts, wholes}
use Rattle.epoch_links.proofs.Leaving.{left_behind}
use Rattle.epoch_records.specs.Epochs.{ArePut}
use Rattle.epoch_records.specs.Publishing.{published_in, halts_in, but_none, AreSameHalts}
use Rattle.epoch_records.specs.Stretches.{pieces_of_all, AreEpochsOf}
use Rattle.epoch_records.proofs.Epochs.{stretches_put}
use Rattle.epoch_records.proofs.Halts.{none_reversed}
use Rattle.epoch_records.proofs.Over.{are_recorded}
use Rattle.epoch_records.proofs.Publishing.{epochs_of_stretches, some_epochs_of_stretches}
use Rattle.epoch_law.specs.Joined.{AreConnected, ArePassed}
use Rattle.epoch_law.specs.Ran.{HostDid, HasSent, BoardDid, BoardRan, PulseDid, PulseRan}
use Rattle.epoch_law.proofs.Alarms.{course_so}
use Rattle.epoch_law.proofs.Leading.{follows_to_end, left_of_all}
use Rattle.run_texts.proofs.SoFar.{leads_with_more}
use Rattle.epoch_law.proofs.Sending.{cancels_scanned}

-- ---- the records

-- what a pulse puts is put of the epochs that were published
pub put_of_epochs : (blocks : ℕ) (b : BoardDid) (p : PulseDid) (board : BoardRan blocks b) → PulseRan p → ArePassed b p → ArePut board.epochs p.put
put_of_epochs blocks b p board pulse passed = stretches_put board.epochs pulse.stretches pulse.last p.put (by_halts passed.halts) pulse.put
  where
    pieces : pieces_of_all pulse.stretches ++ pulse.last ≡ published_in board.epochs
    pieces = pulse.pieces ∙ passed.pieces ∙ board.published_are

    by_halts : AreSameHalts b.halts p.halts → AreEpochsOf [] board.epochs pulse.stretches pulse.last
    by_halts (inl all) = epochs_of_stretches board.epochs p.halts pulse.stretches pulse.last board.over pieces pulse.halted (all ∙ board.halts_are)
    by_halts (inr some) =
        some_epochs_of_stretches board.epochs p.halts pulse.stretches pulse.last board.over pieces pulse.halted (some ∙ ap but_none board.halts_are ∙ none_reversed (halts_in 0 0 board.epochs))

-- and these are the records of the parts of the course
pub put_recorded : (blocks : ℕ) (b : BoardDid) (p : PulseDid) (board : BoardRan blocks b) → PulseRan p → ArePassed b p → AreRecorded origin (parts_of board.course) p.put
put_recorded blocks b p board pulse passed =
    are_recorded (parts_of board.course) origin board.epochs p.put board.run (put_of_epochs blocks b p board pulse passed)

-- ---- the replies

-- of a front of some replies that has all but reports
begun_by : (xs ys behind ts : List Reply) → xs ++ ys ≡ Banner ∷ behind → without_reports xs ≡ Banner ∷ ts → (later : List Reply) × (xs ≡ Banner ∷ later) × (without_reports later ≡ ts)
begun_by [] ys behind ts e plain = absurd cc
begun_by (x ∷ xs) ys behind ts e plain =
    let first : x ≡ Banner = cc in
    (xs, ap (λ (r : Reply). r ∷ xs) first, ap (drop 1) (ap (λ (r : Reply). without_reports (r ∷ xs)) (sym first) ∙ plain))

pub told_front : (course : List Passed) (answered got : List Reply) → BeginsWith answered got → without_reports got ≡ without_reports answered → IsTold course (without_byes answered) → IsTold course (without_byes got)
told_front course answered got front same told =
    let plain : without_reports (without_byes got) ≡ Banner ∷ told_in course =
    both_out got ∙ ap without_byes same ∙ sym (both_out answered) ∙ ap without_reports told.begins ∙ ap (λ (rs : List Reply). Banner ∷ rs) told.told in
    let b = begun_by (without_byes got) (without_byes front.rest) told.behind (told_in course)
    (sym (filter-append (λ r. not (is_bye r)) got front.rest) ∙ ap without_byes (sym front.is) ∙ told.begins) plain in
    record { behind = b.0; begins = b.1; told = b.2 }

-- an alarm was got exactly where a line has raised one
pub alarm_got : (blocks : ℕ) (b : BoardDid) (board : BoardRan blocks b) (got : List Reply) → without_reports got ≡ without_reports b.answered → has_alarm got ≡ board.last.before.alarmed
alarm_got blocks b board got same =
    sym (plain_alarms got) ∙ ap has_alarm (same ∙ board.told) ∙ any_on (told_in board.course) (Bye ∷ []) ∙ by_test (has_alarm (told_in board.course))
    ∙ course_so (opening board.first) board.last (items_in b.taken) [] board.course board.leads
  where
    by_test : (t : Bool) → (t || false) ≡ t
    by_test true = refl
    by_test false = refl

-- ---- the job

module _ (room blocks : ℕ) (h : HostDid) (b : BoardDid) (sent : List Sent) (board : BoardRan blocks b) (connected : AreConnected room h b) (same : without_reports h.got ≡ without_reports b.answered) (front : IsFrontOf sent h.stored h.marks) (awaits : AwaitsBanners h.stored h.marks h.at_got)
    (waits : HasBanners h.marks h.at_got ⊎ IsAllOf sent h.stored h.marks) (greeted : is_sent_out h.shut h.got ≡ true → HasBanners h.marks h.at_got) (whole : is_sent_out h.shut h.got ≡ true → IsAllOf sent h.stored h.marks) where
  cut : EndAtMarks h.stored h.marks b.taken
  cut = cut_at_marks h.stored h.marks h.at_got (joined b.taken) b.at_answers b.loaded h.shut b.closed b.taken connected.link awaits board.ends

  begins : BeginsWith sent (items_in b.taken)
  begins = fronts sent h.stored h.marks h.at_got (joined b.taken) b.at_answers b.loaded h.shut b.closed b.taken front connected.link board.ends cut

  one_reset : behind_reset begins.rest ≡ []
  one_reset = left_behind sent h.stored h.marks h.at_got (joined b.taken) b.at_answers b.loaded h.shut b.closed b.taken front connected.link awaits board.ends waits begins

  out : board.last.before.alarmed ≡ false → is_sent_out h.shut h.got ≡ true
  out calm = ap (λ t. t && not (has_alarm h.got)) (connected.link.closes (board.closes calm)) ∙ ap not (alarm_got blocks b board h.got same ∙ calm)

  all_taken : board.last.before.alarmed ≡ false → sent ≡ items_in b.taken
  all_taken calm =
      let each = one_of_each h.stored h.marks h.at_got (joined b.taken) b.at_answers b.loaded h.shut b.closed b.taken connected.link awaits board.ends (greeted (out calm)) in
      wholes sent h.stored h.marks h.at_got (joined b.taken) b.at_answers b.loaded h.shut b.closed b.taken front (whole (out calm)) connected.link board.ends cut (board.closes calm) (omega (arith, each))

  none_left : board.last.before.alarmed ≡ false → begins.rest ≡ []
  none_left calm = append_cancel_left (items_in b.taken) begins.rest [] (sym begins.is ∙ all_taken calm ∙ sym (append-nil (items_in b.taken)))

  -- what more came of the job than was taken
  pub more_comes : BeginsWith sent (items_in b.taken)
  more_comes = begins

  pub is_out : board.last.before.alarmed ≡ false → is_sent_out h.shut h.got ≡ true
  is_out = out

  pub job_follows : Follows (opening board.first) sent board.course board.last
  job_follows =
      follows_to_end (opening board.first) board.last sent begins.rest board.course
      (subst (λ (ss : List Sent). LeadsTo (opening board.first) ss board.course board.last begins.rest) (sym begins.is) (leads_with_more (opening board.first) board.last (items_in b.taken) [] begins.rest board.course board.leads))
      (left_of_all board.last begins.rest board.complete (λ alarm. one_reset) none_left)

-- ---- all of it

abbrev pub texts_fit : (attended : Bool) (room blocks : ℕ) (job_was job_is : SourceState) (console_was console_is : SinkState) (end : HostEnd) (h : HostDid) (b : BoardDid) (p : PulseDid)
    → (host : HasSent attended room job_was job_is console_was console_is h end) → BoardRan blocks b → PulseRan p → AreConnected room h b → ArePassed b p → BeginsWith b.answered h.got → without_reports h.got ≡ without_reports b.answered
    → FitsTexts (sent_of host.ran.lines host.rest) (slows_in host.ran.scanned) (without_byes h.got) p.put
texts_fit attended room blocks job_was job_is console_was console_is end h b p host board pulse connected passed begins same = record {
  first = board.first;
  opens = board.opens;
  course = board.course;
  last = board.last;
  follows = job_follows room blocks h b (sent_of host.ran.lines host.rest) board connected same host.sends.front host.sends.awaits host.sends.waits host.sends.greeted host.sends.whole;
  told = told_front board.course b.answered h.got begins same board.console;
  recorded = put_recorded blocks b p board pulse passed;
  few = (let a = board.few in
      let c = cancels_scanned host.ran.scanned h.raised host.ran.due host.ran.resumes host.ran.raises_so_far b.words connected.flags in
      omega (arith, a, c));
}
