-- A board that keeps to its rules over epochs runs.
use Rattle.std.proofs.Common.{◌≡◌, ◌⊎◌, inl, inr, ℕ, ◌+◌, ◌≤◌, false, List, [], ◌∷◌, ◌++◌, length, map, refl, sym, ap, ◌∙◌, subst, append-nil, append_assoc}
use Rattle.std.specs.List.{AllByRecursion, flat_map}
use Rattle.flight.specs.Places.{origin}
use Rattle.motion_ring.specs.Sides.{ticks_published}
use Rattle.run_rules.specs.Lines.{ended}
use Rattle.run_rules.specs.declared.State.{State}
use Rattle.run_rules.specs.States.{IsOpening}
use Rattle.run_texts.specs.Besides.{CutsHaveCauses, DropsAreFew}
use Rattle.run_texts.specs.Fronts.{BeginsWith}
use Rattle.run_texts.specs.Parts.{parts_of}
use Rattle.run_texts.specs.Points.{opening}
use Rattle.run_texts.specs.Sent.{Sent}
use Rattle.run_texts.specs.SoFar.{LeadsTo}
use Rattle.run_texts.specs.Told.{told_in}
use Rattle.status_report.specs.Answering.{without_reports}
use Rattle.status_report.specs.declared.Reply.{Reply}
use Rattle.status_report.specs.declared.Reply.TheVariants.{Banner, Bye}
use Rattle.step_line.specs.Pieces.{ticks_of}
use Rattle.step_line.specs.declared.Piece.{Piece}
use Rattle.step_line.specs.declared.Piece.TheVariants as pieces
use Rattle.step_line.specs.declared.Record.{Record}
use Rattle.board_journal.specs.Ports.{known_in, sent_in, taken_in}
use Rattle.board_journal.specs.Steps.{known_of, port_log, published_of, taken_of}
use Rattle.board_rules.proofs.Closing.{one_bye}
use Rattle.board_rules.proofs.Lines.{number_is}
use Rattle.board_epochs.specs.Epochs.{Epochs, AreEpochs, log_of, opening_behind, point_of}
use Rattle.board_epochs.specs.Epochs.Epochs.{goes, resets}
use Rattle.epoch_courses.specs.Course.{course_of, is_unanswered, open_journal, passed_at_reset, passed_so_far, point_at_reset, point_behind, stands_at}
use Rattle.epoch_courses.specs.Drives.{drives_of}
use Rattle.epoch_courses.specs.Taken.{texts_in, bytes_behind, bytes_with, sent_by, left_by}
use Rattle.epoch_courses.specs.Told.{answered_by, closing_by, untold_by, without_byes}
use Rattle.epoch_courses.proofs.Asking.{epochs_driven}
use Rattle.epoch_courses.proofs.Chain.{epochs_lead}
use Rattle.epoch_courses.proofs.Cuts.{course_cuts}
use Rattle.epoch_courses.proofs.Epoch.{epoch_leads, same_but}
use Rattle.epoch_courses.proofs.Resets.{comes_there}
use Rattle.epoch_courses.proofs.Texts.{texts_behind, texts_now}
use Rattle.epoch_courses.proofs.Told.{epochs_tell, told_so_far}
use Rattle.epoch_effects.specs.Over.{effects_of, closed_effects}
use Rattle.epoch_effects.proofs.Asking.{epochs_ask}
use Rattle.epoch_effects.proofs.Causes.{cuts_caused}
use Rattle.epoch_effects.proofs.Chain.{effects_are, taken_once}
use Rattle.epoch_effects.proofs.Opened.{opened}
use Rattle.epoch_effects.proofs.Telling.{epochs_report, epochs_lock, epochs_publish, all_answered}
use Rattle.epoch_links.specs.Drops.{closed_of as ended_of, dropped_by}
use Rattle.epoch_links.specs.Links.{EndsEpochs}
use Rattle.epoch_links.specs.Pieces.{items_in}
use Rattle.epoch_links.specs.Taken.{taken_by}
use Rattle.epoch_links.proofs.Ending.{ends_epochs}
use Rattle.epoch_records.specs.Epochs.{Epoch}
use Rattle.epoch_records.specs.SoFar.{AreRunSoFar}
use Rattle.epoch_runs.specs.Epochs.{closed_epochs, closed_of, epochs_so_far, made_of, number_of, open_epoch, without_end}
use Rattle.epoch_runs.proofs.Open.{epochs_open}
use Rattle.epoch_runs.proofs.SoFar.{epochs_run_so_far}
use Rattle.epoch_law.specs.Journals.{board_did}
use Rattle.epoch_law.specs.Ran.{AreMade}
use Rattle.epoch_law.specs.SoFar.{BeginWithBanner, BoardRuns}
use Rattle.epoch_law.proofs.Boarding.{all_items, closed_items, made_on, closed_made}
use Rattle.epoch_law.proofs.Dropping.{drops_closed, none_dropped, none_passed}

items_so_far : (es : Epochs) → sent_by es ≡ items_in (taken_by es)
items_so_far (goes es h) = all_items es h
items_so_far (resets es h w) = ap (λ (ss : List Sent). ss ++ texts_in (bytes_with h w)) (closed_items es)

-- ---- the console

told_by : (told plain untold closing : List Reply) → (closing ≡ []) ⊎ (closing ≡ Bye ∷ []) → Banner ∷ (told ++ closing) ≡ plain ++ untold → BeginsWith (Banner ∷ (told ++ Bye ∷ [])) plain
told_by told plain untold closing (inl none) is = record {
  rest = untold ++ Bye ∷ [];
  is = ap (λ (rs : List Reply). Banner ∷ (rs ++ Bye ∷ [])) (sym (append-nil told) ∙ ap (λ (rs : List Reply). told ++ rs) (sym none)) ∙ ap (λ (rs : List Reply). rs ++ Bye ∷ []) is ∙ append_assoc plain untold (Bye ∷ []);
}
told_by told plain untold closing (inr bye) is = record { rest = untold; is = ap (λ (rs : List Reply). Banner ∷ (told ++ rs)) (sym bye) ∙ is }

closes_once : (blocks : ℕ) (state : State) (es : Epochs) → AreEpochs blocks state es → (closing_by es ≡ []) ⊎ (closing_by es ≡ Bye ∷ [])
closes_once blocks state (goes es h) c = one_bye (opening_behind blocks state es) h c.1.conducted
closes_once blocks state (resets es h w) c = inl refl

-- ---- the open epoch

same_epochs : (blocks : ℕ) (state : State) (made : ℕ) (es : Epochs) → epochs_so_far blocks state made es ≡ closed_of blocks state es ++ open_epoch made (open_journal es) ∷ []
same_epochs blocks state made (goes es h) = refl
same_epochs blocks state made (resets es h w) = refl

-- the end has no ticks
out_ticks : (ps : List Piece) → flat_map ticks_of ps ≡ flat_map ticks_of (without_end ps)
out_ticks [] = refl
out_ticks (pieces.Segment s ∷ ps) = ap (λ (rs : List Record). ticks_of (pieces.Segment s) ++ rs) (out_ticks ps)
out_ticks (pieces.Mark m ∷ ps) = ap (λ (rs : List Record). ticks_of (pieces.Mark m) ++ rs) (out_ticks ps)
out_ticks (pieces.End ∷ ps) = out_ticks ps

all_made : (blocks : ℕ) (state : State) (made : ℕ) (es : Epochs) → AreMade (effects_of blocks state made es) (closed_of blocks state es ++ open_epoch made (open_journal es) ∷ [])
all_made blocks state made (goes es h) = made_on (closed_effects blocks state es) (closed_epochs blocks state es) _ _ (closed_made blocks state es) refl (out_ticks (published_of h))
all_made blocks state made (resets es h w) = made_on (closed_effects blocks state es) (closed_epochs blocks state es) _ _ (closed_made blocks state es) refl (out_ticks (published_of h))

-- it drops nothing before its reset
open_drops : (blocks : ℕ) (state : State) (made : ℕ) (es : Epochs) (room : ℕ) → AreEpochs blocks state es → known_of (open_journal es) ≤ made → AllByRecursion (λ ls. length (ended ls) ≤ room) (map dropped_by (ended_of es))
    → DropsAreFew room 0 (sent_by es) (course_of blocks state made es)
open_drops blocks state made (goes es h) room c known few =
    let first = opening_behind blocks state es in
    drops_closed blocks state es room (texts_in (taken_of h)) (passed_so_far made first h) c.0 few
    (none_dropped room 0 (point_of first) (point_behind made first h) (texts_in (taken_of h)) (texts_in (bytes_behind h)) (passed_so_far made first h) (none_passed false made first h)
    (subst (λ (ss : List Sent). LeadsTo (point_of first) ss (passed_so_far made first h) (point_behind made first h) (texts_in (bytes_behind h))) (sym (texts_now first h c.1.conducted))
    (epoch_leads made first h (texts_in (bytes_behind h)) c.1.conducted known)))
open_drops blocks state made (resets es h w) room c known few =
    let first = opening_behind blocks state es in
    let is = c.1.epoch in
    let left = texts_in (bytes_behind h ++ taken_in (port_log w)) in
    drops_closed blocks state es room (texts_in (bytes_with h w)) (passed_at_reset made first h) c.0 few
    (none_dropped room 0 (point_of first) (point_at_reset made first h) (texts_in (bytes_with h w)) left (passed_at_reset made first h) (none_passed (is_unanswered h) made first h)
    (subst (λ (ss : List Sent). LeadsTo (point_of first) ss (passed_at_reset made first h) (point_at_reset made first h) left) (sym (texts_behind first h (taken_in (port_log w)) is.conducted))
    (comes_there made first h left is c.1.may known).leads))

-- the number of the line that was begun last
numbered : (blocks : ℕ) (state : State) (made : ℕ) (es : Epochs) → AreEpochs blocks state es → known_of (open_journal es) ≤ made → number_of blocks state es + 1 ≡ (stands_at blocks state made es).before.number
numbered blocks state made (goes es h) c known = sym (number_is (opening_behind blocks state es) h c.1.conducted) ∙ sym (same_but made (opening_behind blocks state es) h).number
numbered blocks state made (resets es h w) c known = sym (number_is (opening_behind blocks state es) h c.1.epoch.conducted) ∙ sym (comes_there made (opening_behind blocks state es) h [] c.1.epoch c.1.may known).found.number

-- ---- all of it

pub board_runs : (blocks : ℕ) (state : State) (ticks : ℕ) (es : Epochs) → IsOpening state → AreEpochs blocks state es → known_in (log_of es) ≤ ticks → ticks ≤ ticks_published (sent_in (log_of es)) → BeginWithBanner (without_byes (answered_by es)) → BoardRuns blocks ticks (board_did es)
board_runs blocks state ticks es opens c low high begins =
    let made = made_of ticks es in
    let open_is = epochs_open blocks state ticks es c low high in
    let known = open_is.known in
    record {
      first = state;
      opens = opens;
      course = course_of blocks state made es;
      point = stands_at blocks state made es;
      left = left_by es;
      leads = subst (λ (ss : List Sent). LeadsTo (opening state) ss (course_of blocks state made es) (stands_at blocks state made es) (left_by es)) (items_so_far es) (epochs_lead blocks state made es c known);
      ends = (let e = ends_epochs blocks state es c in subst (λ (bytes : List ℕ). EndsEpochs (taken_by es) bytes (board_did es).loaded (board_did es).at_answers) e.whole e);
      causes = subst (λ (ss : List Sent). CutsHaveCauses (opening state) ss (course_of blocks state made es)) (items_so_far es) (cuts_caused blocks state made es c known);
      drops = λ room few. subst (λ (ss : List Sent). DropsAreFew room 0 ss (course_of blocks state made es)) (items_so_far es) (open_drops blocks state made es room c known few);
      begins = begins;
      told = told_by (told_in (course_of blocks state made es)) (without_reports (answered_by es)) (untold_by blocks state es) (closing_by es) (closes_once blocks state es c) (epochs_tell blocks state made es c);
      plain = told_so_far blocks state made es c;
      drives = drives_of blocks state made es;
      driven = epochs_driven blocks state made es c known;
      closed = closed_of blocks state es;
      now = open_epoch made (open_journal es);
      run = subst (λ (xs : List Epoch). AreRunSoFar (parts_of (course_of blocks state made es)) origin xs) (same_epochs blocks state made es) (epochs_run_so_far blocks state made es c known open_is.are.few);
      number = number_of blocks state es;
      numbered = numbered blocks state made es c known;
      published_are = open_is.are;
      few = course_cuts blocks state made es c;
      effects = effects_of blocks state made es;
      doing = effects_are blocks state made es c known;
      opened = opened blocks state made es c;
      reports = epochs_report blocks state made es c known;
      locks = epochs_lock blocks state made es c;
      asking = epochs_ask blocks state made es c known;
      answered_are = all_answered blocks state made es c;
      pieces = epochs_publish blocks state made es c known;
      made = all_made blocks state made es;
      taken_are = taken_once blocks state made es;
    }
