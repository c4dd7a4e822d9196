-- A journal that is conducted and finished is a whole run of the host.
use Rattle.std.proofs.Common.{◌≡◌, ◌≢◌, ℕ, inl, inr, Bool, true, false, not, ◌&&◌, ◌||◌, List, [], ◌∷◌, ◌++◌, length, drop, refl, sym, ap, ◌∙◌, arith, subst, Some, None}
use Rattle.std.proofs.lemmas.List.{nil_from_length, length-drop}
use Rattle.std.proofs.KnownBytes.{Appends-nil}
use Rattle.std.specs.List.{count_by, list_any}
use Rattle.std.specs.declared.option.Option.{Option}
use Rattle.std.specs.Io.KnownBytes.{Consumes}
use Rattle.outside.specs.Causes.{SourceState, SinkState}
use Rattle.outside.specs.Writing.{Wrote, Took}
use Rattle.outside.specs.declared.Turn.{Turn}
use Rattle.host_journal.specs.declared.Reading.{Reading}
use Rattle.host_journal.specs.declared.Reading.TheVariants.{Ended, Failed, Large, Stopped}
use Rattle.stream_host.specs.declared.host.Host.{Host}
use Rattle.host_journal.specs.Steps.{Journal, stored_of, got_of, is_shut, read_of, reading_of, scanned_of, cut_of, live_of, forgotten_of, marks_of, has_limit, stop_of, banners_of, to_store, due_of, raises_of, resumes_of, job_stop_of, text_of, written_of, has_given_up, has_bye, awaits_banner, is_attended, beginning, port_log}
use Rattle.host_journal.specs.Steps.Step.{turned, attends}
use Rattle.stream_host.specs.Conduct.{Conducted, HasSentAll, HasWritten}
use Rattle.stream_host.specs.Hosts.{HostFits, HostTurned, HostRests, TellsJob, TellsText, IsBetween, ends_turn}
use Rattle.status_report.specs.Answering.{banners_in}
use Rattle.host_journal.specs.Jobs.{is_reset, lacks_banner}
use Rattle.stream_host.specs.Ran.{AreRaised, is_sent_out, is_out, HostRan, HostRuns, HasFinished, TellsConsole, end_of, is_failed}
use Rattle.stream_host.proofs.Keeping.{shut_is, stored_is}
use Rattle.stream_host.proofs.Sending.{sent_so_far, sent_all, stop_behind, stop_calm}
use Rattle.stream_host.proofs.Raising.{raised_is, none_due_shut}
use Rattle.stream_host.specs.Epochs.{ended_of, epoch_now}
use Rattle.stream_host.proofs.Raised.{IsWaiting, calm_shut, waiting_is}
use Rattle.stream_host.proofs.Epochs.{all_lines, borders_are, whole_by}
use Rattle.stream_host.proofs.Awaiting.{raised_resets, banners_got, awaited_got}
use Rattle.stream_host.proofs.Bordering.{marks_of_resets, all_marks}
use Rattle.stream_host.proofs.Cutting.{epochs_are}
use Rattle.stream_host.proofs.Ending.{ends_by, ends_all}
use Rattle.stream_host.proofs.Reporting.{reported_is}
use Rattle.stream_host.proofs.Turns.{has_written}
use Rattle.stream_host.proofs.Waiting.{few_unanswered}
use Rattle.stream_host.proofs.Waited.{cancels_waited}

none_left : (n : ℕ) (text : List ℕ) → n ≡ length text → drop n text ≡ []
none_left n text e = nil_from_length (drop n text) (let l = length-drop n text in omega arith)

wrote_all : (h : Journal) → HasWritten h → has_given_up h ≡ false → drop (written_of h) (text_of h) ≡ []
wrote_all h (inl gave) well = absurd (let e = sym gave ∙ well in cc)
wrote_all h (inr all) well = none_left (written_of h) (text_of h) all

-- a text of which nothing waits is taken
pub took_of : (was is : SinkState) (failed : Bool) (waiting text : List ℕ) → Wrote was is failed waiting text → (failed ≡ false → waiting ≡ []) → Took was is failed text
took_of was is failed waiting text wrote none = record {
  front = wrote.front;
  back = wrote.back;
  whole = wrote.whole;
  held = wrote.held;
  all = λ well. wrote.all well ∙ none well;
  same = wrote.same;
  later = wrote.later;
  cause = wrote.cause;
}

failed_is : (r : Reading) → is_failed r ≡ true → r ≡ Failed
failed_is Failed e = refl
failed_is Ended e = absurd cc
failed_is Large e = absurd cc
failed_is Stopped e = absurd cc

not_failed : (r : Reading) → is_failed r ≡ false → r ≢ Failed
not_failed r well bad = absurd (let e = sym (ap is_failed bad) ∙ well in cc)

-- all is sent, nothing is due, and an alarm is no cause
record IsSentOut (h : Journal) : Type 0 where
  pub all : HasSentAll h
  pub none_due : due_of h ≡ []
  pub stop : stop_of h ≡ job_stop_of h
  pub epoch : awaits_banner h ≡ false

-- a host that has closed the link and has got no alarm has sent all
sent_out : (room : ℕ) (h : Journal) → Conducted room h → is_sent_out (is_shut h) (got_of h) ≡ true → IsSentOut h
sent_out room h c out = by_shut (is_shut h) (has_limit h) refl refl out
  where
    by_shut : (t u : Bool) → is_shut h ≡ t → has_limit h ≡ u → (t && not u) ≡ true → IsSentOut h
    by_shut true false e calm out = record { all = shut_is room h c e calm; none_due = none_due_shut room h c e calm; stop = stop_calm h calm; epoch = calm_shut room h c e calm }
    by_shut true true e calm out = absurd cc
    by_shut false u e calm out = absurd cc

-- all that was cut is stored, and nothing is due: all is sent, or a Banner is awaited
out_is : (room : ℕ) (h : Journal) → Conducted room h → is_out (is_shut h) (raises_of h) (got_of h) ≡ true → IsWaiting h
out_is room h c out = by_sent (is_sent_out (is_shut h) (got_of h)) refl out
  where
    by_sent : (t : Bool) → is_sent_out (is_shut h) (got_of h) ≡ t → (t || lacks_banner (count_by is_reset (raises_of h)) (banners_in (got_of h))) ≡ true → IsWaiting h
    by_sent true e out = let s = sent_out room h c e in record { free = s.all.free; none_due = s.none_due }
    by_sent false e out = waiting_is room h c (ap (λ n. lacks_banner n (banners_of h)) (sym (raised_resets h)) ∙ ap (lacks_banner (count_by is_reset (raises_of h))) (sym (banners_got h)) ∙ out)

-- what it has scanned is what its journal says
pub has_run_of : (room : ℕ) (h : Journal) (job_was job_is : SourceState) (console_was console_is : SinkState) → Conducted room h → HasFinished h → TellsJob h job_was job_is → TellsConsole h console_was console_is
    → (ran : HostRan (is_attended h) room job_was job_is console_was console_is (stored_of h) (marks_of h) (is_shut h) (raises_of h) (got_of h) (end_of h)) × (ran.scanned ≡ scanned_of h)
has_run_of room h job_was job_is console_was console_is c finished job console = (
  record {
    read = read_of h;
    reading = reading_of h;
    scanned = scanned_of h;
    lines = cut_of h;
    live = live_of h;
    forgotten = forgotten_of h;
    all = all_lines room h c;
    ended = ended_of h;
    now = epoch_now h;
    epochs = epochs_are room h c;
    ends = ends_by room h c;
    all_ended = λ out. let s = sent_out room h c out in ends_all room h c s.epoch s.none_due;
    awaited = awaited_got room h c;
    taken = job.taken;
    at_end = job.at_end;
    so_far = let s = sent_so_far room h c in record { fits = s.fits; scans = s.scans; later = s.later; sent = s.sent; cause = refl };
    stop = stop_behind room h c;
    left = to_store h;
    front = stored_is room h c;
    borders = borders_are room h c;
    marks_are = marks_of_resets room h c;
    all_marked = λ out. all_marks room h c (sent_out room h c out).none_due;
    due = due_of h;
    raises_so_far = raised_is room h c;
    sent = λ out. let s = sent_out room h c out in sent_all room h c s.all s.stop;
    link = λ out. whole_by room h c (out_is room h c out).free;
    few = λ out. few_unanswered room h c (out_is room h c out).free;
    resumes = resumes_of h;
    raises = λ out. subst (λ due. AreRaised (scanned_of h) (raises_of h) due (resumes_of h)) (out_is room h c out).none_due (raised_is room h c);
    waited = cancels_waited room h c;
    reported = reported_is room h c;
    bye = finished.bye;
    console = took_of console_was console_is (has_given_up h) (drop (written_of h) (text_of h)) (text_of h) console (wrote_all h finished.written);
    answered = refl;
    errors = refl;
    failed = refl;
    source = λ e. job.cause (failed_is (reading_of h) e);
    source_same = λ e. job.same (not_failed (reading_of h) e);
  },
  refl,
)

-- so are its lines
pub ran_lines : (room : ℕ) (h : Journal) (job_was job_is : SourceState) (console_was console_is : SinkState) (c : Conducted room h) (finished : HasFinished h) (job : TellsJob h job_was job_is) (console : TellsConsole h console_was console_is)
    → (has_run_of room h job_was job_is console_was console_is c finished job console).0.lines ≡ cut_of h
unfolding has_run_of
ran_lines room h job_was job_is console_was console_is c finished job console = refl

pub ran_forgotten : (room : ℕ) (h : Journal) (job_was job_is : SourceState) (console_was console_is : SinkState) (c : Conducted room h) (finished : HasFinished h) (job : TellsJob h job_was job_is) (console : TellsConsole h console_was console_is)
    → (has_run_of room h job_was job_is console_was console_is c finished job console).0.forgotten ≡ forgotten_of h
unfolding has_run_of
ran_forgotten room h job_was job_is console_was console_is c finished job console = refl

pub runs_so_far : (room : ℕ) (h : Journal) (job_was job_is : SourceState) (console_was console_is : SinkState) → Conducted room h → TellsJob h job_was job_is → TellsConsole h console_was console_is
    → HostRuns (is_attended h) room job_was job_is console_was console_is (stored_of h) (marks_of h) (raises_of h) (got_of h)
runs_so_far room h job_was job_is console_was console_is c job console = record {
  read = read_of h;
  reading = reading_of h;
  scanned = scanned_of h;
  lines = cut_of h;
  live = live_of h;
  ended = ended_of h;
  now = epoch_now h;
  epochs = epochs_are room h c;
  awaited = awaited_got room h c;
  stop = job_stop_of h;
  taken = job.taken;
  sent = sent_so_far room h c;
  left = to_store h;
  link = stored_is room h c;
  borders = borders_are room h c;
  due = due_of h;
  resumes = resumes_of h;
  raises = raised_is room h c;
  reported = reported_is room h c;
  failed = has_given_up h;
  waiting = drop (written_of h) (text_of h);
  console = console;
}

-- by what it has scanned, and the lines that it has cut
pub runs_of : (room : ℕ) (h : Journal) (job_was job_is : SourceState) (console_was console_is : SinkState) → Conducted room h → TellsJob h job_was job_is → TellsConsole h console_was console_is
    → (runs : HostRuns (is_attended h) room job_was job_is console_was console_is (stored_of h) (marks_of h) (raises_of h) (got_of h)) × (runs.scanned ≡ scanned_of h) × (runs.lines ≡ cut_of h)
unfolding runs_so_far
runs_of room h job_was job_is console_was console_is c job console = (runs_so_far room h job_was job_is console_was console_is c job console, refl, refl)

pub finished_by : {room : ℕ} (s : Host) (h : Journal) → HostFits room s h → HostRests s → HasFinished h
finished_by {room} s h f rests =
    let bye : has_bye h ≡ true = sym f.bye_is ∙ rests.bye in
    record { bye = bye; written = has_written s h f (record { asked = f.text_is.all_asked bye; none = rests.none }) }

pub console_by : {room : ℕ} (s : Host) (h : Journal) (was is : SinkState) → HostFits room s h → TellsText s.text h was is → TellsConsole h was is
console_by {room} s h was is f wrote =
    let same = f.text_is.failed_is in
    record {
      front = wrote.front;
      back = wrote.back;
      whole = wrote.whole;
      held = wrote.held;
      all = λ well. let fine : s.text.failed ≡ false = same ∙ well in wrote.all fine ∙ f.text_is.waits fine;
      same = λ well. wrote.same (same ∙ well);
      later = wrote.later;
      cause = λ gone. wrote.cause (same ∙ gone);
    }

nothing_taken : (left : Option (List ℕ)) → Consumes left left []
nothing_taken None = tt
nothing_taken (Some bytes) = refl

-- nothing is told before anything is done
pub tells_nothing : (attended : Bool) (job : SourceState) → TellsJob (beginning attended) job job
tells_nothing true job = record { taken = nothing_taken job.left; at_end = λ e. absurd cc; later = omega arith; cause = λ e. absurd cc; same = λ e. refl }
tells_nothing false job = record { taken = nothing_taken job.left; at_end = λ e. absurd cc; later = omega arith; cause = λ e. absurd cc; same = λ e. refl }

pub shows_nothing : (attended : Bool) (console : SinkState) → TellsConsole (beginning attended) console console
shows_nothing true console = record { front = []; back = []; whole = refl; held = Appends-nil console.held; all = λ e. refl; same = λ e. refl; later = omega arith; cause = λ e. absurd cc }
shows_nothing false console = record { front = []; back = []; whole = refl; held = Appends-nil console.held; all = λ e. refl; same = λ e. refl; later = omega arith; cause = λ e. absurd cc }

-- nor was a port called
pub logs_nothing : (attended : Bool) → port_log (beginning attended) ≡ []
logs_nothing true = refl
logs_nothing false = refl

pub between_nothing : (attended : Bool) → IsBetween (beginning attended)
between_nothing true = refl
between_nothing false = refl

-- nor is anything waiting in the text of a host that has done nothing
pub new_shows_nothing : {room : ℕ} (attended : Bool) (host : Host) (now : SinkState) → HostFits room host (beginning attended) → TellsText host.text (beginning attended) now now
new_shows_nothing {room} true host now f = let failed = f.text_is.failed_is in record {
  front = [];
  back = [];
  whole = refl;
  held = Appends-nil now.held;
  all = λ e. sym (f.text_is.waits e);
  same = λ e. refl;
  later = omega arith;
  cause = λ e. absurd cc;
}
new_shows_nothing {room} false host now f = let failed = f.text_is.failed_is in record {
  front = [];
  back = [];
  whole = refl;
  held = Appends-nil now.held;
  all = λ e. sym (f.text_is.waits e);
  same = λ e. refl;
  later = omega arith;
  cause = λ e. absurd cc;
}

-- ---- a host whose sender stands by is one behind each turn, too

same_attended : (steps h : Journal) → list_any ends_turn steps ≡ false → is_attended (steps ++ h) ≡ is_attended h
same_attended [] h e = refl
same_attended (turned t ∷ steps) h e = absurd cc
same_attended (attends ∷ steps) h e = absurd cc
same_attended (_ ∷ steps) h e = same_attended steps h e

pub turned_attended : (t : Turn) (s u : Host) (h next : Journal) → HostTurned t s u h next → is_attended next ≡ is_attended h
turned_attended t s u h next w = ap is_attended w.are ∙ same_attended w.steps h w.inner

pub stays_attended : {room : ℕ} (t : Turn) (s u : Host) (h next : Journal) → HostFits room s h → HostFits room u next → HostTurned t s u h next → u.attended ≡ s.attended
stays_attended {room} t s u h next f g w = g.attended_is ∙ turned_attended t s u h next w ∙ sym f.attended_is

-- and one that has done nothing says it itself
pub attended_own : (attended : Bool) → is_attended (beginning attended) ≡ attended
attended_own true = refl
attended_own false = refl

pub fits_own : {room : ℕ} (attended : Bool) (host : Host) → HostFits room host (beginning attended) → (host.attended ≡ attended) × HostFits room host (beginning host.attended)
fits_own {room} attended host f = let own = f.attended_is ∙ attended_own attended in (own, subst (λ a. HostFits room host (beginning a)) (sym own) f)
