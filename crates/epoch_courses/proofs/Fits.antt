-- What a board has done fits the texts, where its parts are recorded.
use Rattle.std.proofs.Common.{◌≡◌, ℕ, ◌≤◌, true, List, []}
use Rattle.flight.specs.Places.{origin}
use Rattle.run_rules.specs.declared.State.{State}
use Rattle.run_rules.specs.States.{IsOpening}
use Rattle.run_texts.specs.Fits.{FitsTexts}
use Rattle.run_texts.specs.Parts.{parts_of}
use Rattle.run_texts.specs.Recorded.{AreRecorded}
use Rattle.run_texts.specs.SoFar.{AreMadeSoFar, FitsSoFar}
use Rattle.step_line.specs.Logs.{NewestFirst}
use Rattle.step_line.specs.declared.Record.{Record}
use Rattle.board_rules.specs.Conduct.{IsFinished}
use Rattle.board_journal.specs.Ports.{cancel_words_in}
use Rattle.board_journal.specs.Steps.{Journal, known_of}
use Rattle.board_epochs.specs.Epochs.{Closed, Epochs, AreEpochs, closed_log, log_behind, log_of, opening_behind, point_of}
use Rattle.board_epochs.specs.Epochs.Epochs.{goes, resets}
use Rattle.board_epochs.specs.Work.{Work, stage_of}
use Rattle.epoch_courses.specs.Course.{is_marked, with_reset, closed_course, course_of, open_journal, stands_at, point_behind}
use Rattle.epoch_courses.specs.Taken.{closed_texts, sent_by, left_by}
use Rattle.epoch_courses.specs.Told.{answered_by, without_byes}
use Rattle.epoch_courses.proofs.Chain.{marked_leads, epochs_lead, epochs_follow}
use Rattle.epoch_courses.proofs.Cuts.{course_cuts, marked_cuts}
use Rattle.epoch_courses.proofs.Told.{marked_told, told_so_far}
use Rattle.epoch_courses.proofs.Banner.{banner_begins, console_told}

pub finished_fits : (blocks : ℕ) (state : State) (made : ℕ) (es : NewestFirst Closed) (h : Journal) (records : List Record) → IsOpening state → AreEpochs blocks state (goes es h) → IsFinished (opening_behind blocks state es) h → known_of h ≤ made
    → AreRecorded origin (parts_of (course_of blocks state made (goes es h))) records → FitsTexts (sent_by (goes es h)) (cancel_words_in (log_of (goes es h))) (without_byes (answered_by (goes es h))) records
finished_fits blocks state made es h records opens c over known recorded = record {
  first = state;
  opens = opens;
  course = course_of blocks state made (goes es h);
  last = point_behind made (opening_behind blocks state es) h;
  follows = epochs_follow blocks state made es h c over known;
  told = console_told blocks state made es h c over;
  recorded = recorded;
  few = course_cuts blocks state made (goes es h) c;
}

pub so_far_fits : (blocks : ℕ) (state : State) (made : ℕ) (es : Epochs) (records : List Record) → IsOpening state → AreEpochs blocks state es → known_of (open_journal es) ≤ made
    → AreMadeSoFar origin (parts_of (course_of blocks state made es)) records
    → FitsSoFar (sent_by es) (cancel_words_in (log_of es)) (without_byes (answered_by es)) records
so_far_fits blocks state made es records opens c known recorded = record {
  first = state;
  opens = opens;
  course = course_of blocks state made es;
  point = stands_at blocks state made es;
  left = left_by es;
  leads = epochs_lead blocks state made es c known;
  begins = banner_begins blocks state es c;
  told = told_so_far blocks state made es c;
  made = recorded;
  few = course_cuts blocks state made es c;
}

pub marked_fits : (blocks : ℕ) (state : State) (es : NewestFirst Closed) (h : Journal) (w : Work) (records : List Record) → IsOpening state → AreEpochs blocks state (resets es h w) → is_marked (stage_of (log_behind (closed_log es) h) w) ≡ true
    → AreMadeSoFar origin (parts_of (closed_course blocks state (with_reset es h w))) records
    → FitsSoFar (closed_texts (with_reset es h w)) (cancel_words_in (log_of (resets es h w))) (without_byes (answered_by (resets es h w))) records
marked_fits blocks state es h w records opens c marked recorded = record {
  first = state;
  opens = opens;
  course = closed_course blocks state (with_reset es h w);
  point = point_of (opening_behind blocks state (with_reset es h w));
  left = [];
  leads = marked_leads blocks state es h w c marked;
  begins = banner_begins blocks state (resets es h w) c;
  told = marked_told blocks state es h w c;
  made = recorded;
  few = marked_cuts blocks state es h w c;
}
