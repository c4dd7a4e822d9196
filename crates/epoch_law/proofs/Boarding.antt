-- A board that keeps to its rules over epochs, and is done, has run.
use Rattle.std.proofs.Common.{◌≡◌, ◌⊎◌, inl, inr, ℕ, ◌≤◌, true, false, List, [], ◌∷◌, ◌++◌, length, map, refl, sym, ap, ◌∙◌, subst, append-nil, arith}
use Rattle.std.specs.List.{AllByRecursion, flat_map}
use Rattle.std.proofs.lemmas.Grind.{flat_map-append}
use Rattle.run_rules.specs.declared.State.{State}
use Rattle.run_rules.specs.States.{IsOpening}
use Rattle.run_rules.specs.Lines.{ended}
use Rattle.run_texts.specs.Besides.{CutsHaveCauses, DropsAreFew}
use Rattle.run_texts.specs.Points.{opening}
use Rattle.run_texts.specs.Sent.{Sent}
use Rattle.run_texts.specs.Sent.Sent.{a_stop}
use Rattle.run_texts.specs.SoFar.{LeadsTo}
use Rattle.run_texts.specs.Told.{IsTold}
use Rattle.status_report.specs.declared.Reply.{Reply}
use Rattle.status_report.specs.declared.Reply.TheVariants.{Banner}
use Rattle.step_line.specs.Finishing.{ticks_together}
use Rattle.step_line.specs.Logs.{NewestFirst}
use Rattle.step_line.specs.Pieces.{ticks_of}
use Rattle.step_line.specs.declared.Piece.{Piece}
use Rattle.step_line.specs.declared.Piece.TheVariants as pieces
use Rattle.board_rules.specs.Conduct.{Conducted, IsFinished}
use Rattle.board_journal.specs.Openings.{Opening}
use Rattle.board_journal.specs.Ports.{BoardLog, has_closed_in}
use Rattle.board_journal.specs.Ports.PortStep.{found_closed}
use Rattle.board_journal.specs.Steps.{Journal, port_log, has_closed, has_limited, known_of, planned_of, published_of, taken_of}
use Rattle.board_rules.proofs.Alarms.{alarmed_is, opposite}
use Rattle.board_rules.proofs.Closing.{no_more_ticks, spent}
use Rattle.board_rules.proofs.Keeping.{hand_is}
use Rattle.board_epochs.specs.Epochs.{Closed, AreEpochs, log_of, log_on, opening_behind, point_of}
use Rattle.board_epochs.specs.Epochs.Epochs.{goes}
use Rattle.epoch_courses.specs.Course.{course_of, is_unanswered, passed_so_far, point_behind}
use Rattle.epoch_courses.specs.Drives.{drives_of}
use Rattle.epoch_courses.specs.Taken.{texts_in, bytes_with, bytes_behind, closed_texts, sent_by}
use Rattle.epoch_courses.specs.Told.{answered_by, without_byes}
use Rattle.epoch_courses.proofs.Asking.{finished_driven}
use Rattle.epoch_courses.proofs.Chain.{epochs_lead, none_left}
use Rattle.epoch_courses.proofs.Cuts.{course_cuts}
use Rattle.epoch_courses.proofs.Epoch.{epoch_leads, same_but}
use Rattle.epoch_courses.proofs.Texts.{texts_now}
use Rattle.epoch_courses.proofs.Told.{console_tells, finished_tell}
use Rattle.epoch_effects.specs.Effects.{EpochEffects}
use Rattle.epoch_effects.specs.Over.{effects_of, closed_effects}
use Rattle.epoch_effects.proofs.Asking.{epochs_ask}
use Rattle.epoch_effects.proofs.Causes.{cuts_caused}
use Rattle.epoch_effects.proofs.Chain.{effects_are, taken_once}
use Rattle.epoch_effects.proofs.Opened.{opened}
use Rattle.epoch_effects.proofs.Telling.{epochs_report, epochs_lock, epochs_publish, all_answered}
use Rattle.epoch_links.specs.Drops.{dropped_by}
use Rattle.epoch_links.specs.Links.{EndsEpochs}
use Rattle.epoch_links.specs.Pieces.{items_closed, items_in}
use Rattle.epoch_links.specs.Taken.{taken_before, taken_by}
use Rattle.epoch_links.proofs.Carrying.{items_more}
use Rattle.epoch_links.proofs.Ending.{ends_epochs}
use Rattle.epoch_records.specs.Epochs.{Epoch}
use Rattle.epoch_records.specs.Publishing.{published_in}
use Rattle.epoch_runs.specs.Epochs.{epochs_of, closed_epochs}
use Rattle.epoch_runs.proofs.Runs.{epochs_run}
use Rattle.epoch_runs.proofs.Sent.{epochs_over, epochs_sent, epochs_halted}
use Rattle.epoch_law.specs.Journals.{board_did}
use Rattle.epoch_law.specs.Ran.{BoardRan, AreMade}
use Rattle.epoch_law.proofs.Published.{before_all, none_before}
use Rattle.epoch_law.proofs.Dropping.{drops_closed, none_dropped, none_passed}
use Rattle.epoch_law.proofs.Losing.{all_banners, all_lost}

-- ---- what was taken

pub closed_items : (es : NewestFirst Closed) → closed_texts es ≡ items_closed (taken_before es)
closed_items [] = refl
closed_items (e ∷ es) = ap (λ (ss : List Sent). ss ++ (texts_in (bytes_with e.journal e.work) ++ a_stop ∷ [])) (closed_items es) ∙ sym (items_more e es)

pub all_items : (es : NewestFirst Closed) (h : Journal) → sent_by (goes es h) ≡ items_in (taken_by (goes es h))
all_items es h = ap (λ (ss : List Sent). ss ++ texts_in (taken_of h)) (closed_items es)

-- ---- the link

closed_on : (base : ℕ) (l before : BoardLog) → has_closed_in l ≡ true → has_closed_in (log_on base l ++ before) ≡ true
closed_on base [] before is = absurd cc
closed_on base (found_closed ∷ l) before is = refl
closed_on base (_ ∷ l) before is = closed_on base l before is

-- ---- the ticks

-- all that the plan gave is published, and the end behind it, which has no tick
published_ticks : (first : Opening) (h : Journal) → Conducted first h → IsFinished first h → flat_map ticks_of (published_of h) ≡ flat_map ticks_of (planned_of h)
published_ticks first h c over =
    let s = spent first h c over in
    let all : published_of h ≡ planned_of h ++ pieces.End ∷ [] = sym (append-nil (published_of h)) ∙ ap (λ (ps : List Piece). published_of h ++ ps) (sym s.hand) ∙ sym (hand_is first h c) ∙ s.given in
    ap (flat_map ticks_of) all ∙ flat_map-append ticks_of (planned_of h) (pieces.End ∷ []) ∙ append-nil (flat_map ticks_of (planned_of h))

pub made_on : (es : List EpochEffects) (ds : List Epoch) (e : EpochEffects) (d : Epoch) → AreMade es ds → e.made ≡ d.done → flat_map ticks_of e.pieces ≡ flat_map ticks_of d.pieces → AreMade (es ++ e ∷ []) (ds ++ d ∷ [])
made_on [] [] e d are many same = (many, same, tt)
made_on [] (x ∷ ds) e d are many same = absurd are
made_on (y ∷ es) [] e d are many same = absurd are
made_on (y ∷ es) (x ∷ ds) e d are many same = (are.0, are.1, made_on es ds e d are.2 many same)

pub closed_made : (blocks : ℕ) (state : State) (es : NewestFirst Closed) → AreMade (closed_effects blocks state es) (closed_epochs blocks state es)
closed_made blocks state [] = tt
closed_made blocks state (e ∷ es) = made_on (closed_effects blocks state es) (closed_epochs blocks state es) _ _ (closed_made blocks state es) refl refl

-- ---- all of it

module _ (blocks : ℕ) (state : State) (es : NewestFirst Closed) (h : Journal) (c : AreEpochs blocks state (goes es h)) (over : IsFinished (opening_behind blocks state es) h) where
  abbrev first : Opening
  first = opening_behind blocks state es

  abbrev made : ℕ
  made = ticks_together (planned_of h)

  known : known_of h ≤ made
  known = let s = spent first h c.1.conducted over in let d = s.done in let g = ap ticks_together s.given in let n = no_more_ticks (planned_of h) in omega (arith, d, g, n)

  leads : LeadsTo (opening state) (items_in (taken_by (goes es h))) (course_of blocks state made (goes es h)) (point_behind made first h) []
  leads =
      subst (λ (ss : List Sent). LeadsTo (opening state) ss (course_of blocks state made (goes es h)) (point_behind made first h) []) (all_items es h)
      (subst (λ (ss : List Sent). LeadsTo (opening state) (sent_by (goes es h)) (course_of blocks state made (goes es h)) (point_behind made first h) ss) (none_left first h c.1 over) (epochs_lead blocks state made (goes es h) c known))

  closes : (point_behind made first h).before.alarmed ≡ false → has_closed_in (log_of (goes es h)) ≡ true
  closes calm = by_cause (spent first h c.1.conducted over).closed
    where
      by_cause : (has_closed h ≡ true) ⊎ (has_limited h ≡ true) → has_closed_in (log_of (goes es h)) ≡ true
      by_cause (inl found) = closed_on _ (port_log h) _ found
      by_cause (inr limited) = opposite (has_limited h) limited (sym (alarmed_is first h) ∙ sym (same_but made first h).alarmed ∙ calm)

  open_leads : LeadsTo (point_of first) (texts_in (taken_of h)) (passed_so_far made first h) (point_behind made first h) (texts_in (bytes_behind h))
  open_leads =
      subst (λ (ss : List Sent). LeadsTo (point_of first) ss (passed_so_far made first h) (point_behind made first h) (texts_in (bytes_behind h))) (sym (texts_now first h c.1.conducted))
      (epoch_leads made first h (texts_in (bytes_behind h)) c.1.conducted known)

  open_drops : (room : ℕ) → DropsAreFew room 0 (texts_in (taken_of h)) (passed_so_far made first h)
  open_drops room = none_dropped room 0 (point_of first) (point_behind made first h) (texts_in (taken_of h)) (texts_in (bytes_behind h)) (passed_so_far made first h) (none_passed false made first h) open_leads

  drops : (room : ℕ) → AllByRecursion (λ ls. length (ended ls) ≤ room) (map dropped_by es) → DropsAreFew room 0 (items_in (taken_by (goes es h))) (course_of blocks state made (goes es h))
  drops room few =
      subst (λ (ss : List Sent). DropsAreFew room 0 ss (course_of blocks state made (goes es h))) (all_items es h)
      (drops_closed blocks state es room (texts_in (taken_of h)) (passed_so_far made first h) c.0 few (open_drops room))

  pub board_ran : (behind : List Reply) → IsOpening state → without_byes (answered_by (goes es h)) ≡ Banner ∷ behind → BoardRan blocks (board_did (goes es h))
  board_ran behind opens said = record {
    first = state;
    opens = opens;
    course = course_of blocks state made (goes es h);
    last = point_behind made first h;
    leads = leads;
    complete = refl;
    closes = closes;
    ends = (let e = ends_epochs blocks state (goes es h) c in subst (λ (bytes : List ℕ). EndsEpochs (taken_by (goes es h)) bytes (board_did (goes es h)).loaded (board_did (goes es h)).at_answers) e.whole e);
    causes = subst (λ (ss : List Sent). CutsHaveCauses (opening state) ss (course_of blocks state made (goes es h))) (all_items es h) (cuts_caused blocks state made (goes es h) c known);
    lost = all_lost blocks state es (point_of first) (point_behind made first h) (texts_in (taken_of h)) (texts_in (bytes_behind h)) (passed_so_far made first h) c.0 (none_passed false made first h) open_leads refl;
    greets = all_banners blocks state es (opening state) (point_behind made first h) (items_in (taken_by (goes es h))) [] (passed_so_far made first h)
        (λ m e before. none_passed (is_unanswered e.journal) m (opening_behind blocks state before) e.journal) (none_passed false made first h) leads;
    drops = drops;
    console = subst (λ (rs : List Reply). IsTold (course_of blocks state made (goes es h)) rs) (sym said) (console_tells blocks state made es h behind c over said);
    told = finished_tell blocks state made es h c over;
    drives = drives_of blocks state made (goes es h);
    driven = finished_driven blocks state made es h c over known;
    epochs = epochs_of blocks state es h;
    run = epochs_run blocks state made es h c over known;
    over = epochs_over blocks state es h c.0;
    published_are = epochs_sent blocks state es h c over;
    before_end = published_in (closed_epochs blocks state es) ++ planned_of h;
    ends_with = epochs_sent blocks state es h c over ∙ before_all blocks state es h;
    once = none_before blocks state es h c.0 c.1.conducted;
    halts_are = epochs_halted blocks state es h c;
    few = course_cuts blocks state made (goes es h) c;
    effects = effects_of blocks state made (goes es h);
    doing = effects_are blocks state made (goes es h) c known;
    opened = opened blocks state made (goes es h) c;
    reports = epochs_report blocks state made (goes es h) c known;
    locks = epochs_lock blocks state made (goes es h) c;
    asking = epochs_ask blocks state made (goes es h) c known;
    answered_are = all_answered blocks state made (goes es h) c;
    pieces = epochs_publish blocks state made (goes es h) c known;
    made = made_on (closed_effects blocks state es) (closed_epochs blocks state es) _ _ (closed_made blocks state es) refl (published_ticks first h c.1.conducted over);
    taken_are = taken_once blocks state made (goes es h);
  }
