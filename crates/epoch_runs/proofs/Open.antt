-- What the ring has of epochs so far, the last of which is open.
use Rattle.std.proofs.Common.{◌≡◌, ◌⊎◌, inl, inr, ℕ, ◌+◌, ◌-◌, ◌≤◌, Bool, true, false, List, [], ◌∷◌, ◌++◌, length, reverse, refl, sym, ap, ◌∙◌, subst, append_assoc, append-nil, arith}
use Rattle.std.proofs.lemmas.List.{length-append, length-reverse, reverse-reverse}
use Rattle.motion_ring.specs.Sides as ring
use Rattle.motion_ring.specs.declared.lists.Sent.{Sent}
use Rattle.motion_ring.specs.Rule.{none_sent}
use Rattle.motion_ring.proofs.Ticks.{together_reversed}
use Rattle.run_rules.specs.declared.State.{State}
use Rattle.step_line.proofs.Finished.{together_both}
use Rattle.step_line.specs.Finishing.{ticks_together}
use Rattle.step_line.specs.Logs.{NewestFirst}
use Rattle.step_line.specs.declared.Mark.TheVariants as marks
use Rattle.step_line.specs.declared.Piece.{Piece}
use Rattle.step_line.specs.declared.Piece.TheVariants as pieces
use Rattle.board_rules.specs.Conduct.{Conducted}
use Rattle.board_journal.specs.Openings.{Opening}
use Rattle.board_journal.specs.Ports.{BoardLog, known_in, sent_in}
use Rattle.board_journal.specs.Ports.PortStep.{loaded, found_halt}
use Rattle.board_journal.specs.Steps.{Journal, given_of, hand_of, known_of, planned_of, port_log, published_of}
use Rattle.board_journal.specs.Steps.Step.{at_port, turned}
use Rattle.board_rules.proofs.Closing.{one_end}
use Rattle.board_rules.proofs.Ending.{NoEnds, planned_none}
use Rattle.board_rules.proofs.Keeping.{hand_is}
use Rattle.board_epochs.specs.Epochs.{Closed, Epochs, AreClosed, AreEpochs, IsEpoch, IsResetting, closed_log, last_line, log_behind, log_of, opening_behind, ticks_made}
use Rattle.board_epochs.specs.Epochs.Epochs.{goes, resets}
use Rattle.board_epochs.specs.Work.{Work, Stage, Works, MayWorkAt, halted_in, stage_of}
use Rattle.board_epochs.specs.Work.Stage.{drops_changes, awaits_mark, stops, awaits_halt, drops, publishes, awaits_done, over}
use Rattle.board_epochs.proofs.Bounding.{halted_below, none_ended}
use Rattle.board_epochs.proofs.Chaining.{begins_behind, known_there}
use Rattle.board_epochs.proofs.Onto.{onto, ticks_are, goes_there}
use Rattle.board_epochs.proofs.Prompting.{unended}
use Rattle.board_epochs.proofs.Working.{Holds, holds, with_mark}
use Rattle.epoch_courses.specs.Course.{is_marked, open_journal}
use Rattle.epoch_courses.proofs.Halted.{made_there, marked_there}
use Rattle.epoch_records.specs.Epochs.{Epoch}
use Rattle.epoch_records.specs.Publishing.{published_in, halts_in}
use Rattle.epoch_records.specs.SoFar.{Phase, ArePublishedSoFar, EndByMarks, MayFollow}
use Rattle.epoch_records.specs.SoFar.Phase.{is_going, is_stopping, is_halted}
use Rattle.epoch_records.specs.Stretches.{Opens}
use Rattle.epoch_records.proofs.Fronts.{Reaches, reaches}
use Rattle.epoch_records.proofs.Fronts.Reaches.{within, beyond}
use Rattle.epoch_records.proofs.Halts.{newest_halt}
use Rattle.epoch_runs.specs.Epochs.{closed_epochs, closed_of, halts_seen, made_in, made_of, number_of, open_epoch, phase_at, phase_of, pieces_sent, reset_epoch, without_end}
use Rattle.epoch_runs.proofs.Sent.{closed_done, closed_halts, closed_pieces, mark_more, pieces_behind, sent_behind}
use Rattle.epoch_runs.proofs.SoFar.{none_out, out_on}

-- ---- the end is published last

first_none : (ps qs : List Piece) → NoEnds (ps ++ qs) → NoEnds ps
first_none [] qs none = tt
first_none (p ∷ ps) qs none = (none.0, first_none ps qs none.1)

record IsLastOut (published : List Piece) : Type 0 where
  pub more : List Piece
  pub is : published ≡ without_end published ++ more
  pub follows : MayFollow 0 is_going more

not_out : (published : List Piece) → NoEnds published → IsLastOut published
not_out published none = record { more = []; is = sym (none_out published none) ∙ sym (append-nil (without_end published)); follows = inl refl }

no_more : (xs ys : List Piece) → [] ≡ xs ++ ys → xs ≡ []
no_more [] ys e = refl
no_more (x ∷ xs) ys e = absurd cc

by_reach : (planned published hand : List Piece) → NoEnds planned → Reaches planned (pieces.End ∷ []) published hand → IsLastOut published
by_reach planned published hand none (within b) = not_out published (first_none published b.rest (subst NoEnds b.is none))
by_reach planned published hand none (beyond [] parted behind) = not_out published (subst NoEnds (sym (parted ∙ append-nil planned)) none)
by_reach planned published hand none (beyond (p ∷ ps) parted behind) =
    let same : pieces.End ≡ p = cc in
    let tails : [] ≡ ps ++ hand = cc in
    let whole : published ≡ planned ++ pieces.End ∷ [] = parted ∙ ap (λ (x : Piece). planned ++ x ∷ ps) (sym same) ∙ ap (λ (qs : List Piece). planned ++ pieces.End ∷ qs) (no_more ps hand tails) in
    let own : without_end published ≡ planned = ap without_end whole ∙ out_on planned (pieces.End ∷ []) ∙ append-nil (without_end planned) ∙ none_out planned none in
    record { more = pieces.End ∷ []; is = whole ∙ ap (λ (qs : List Piece). qs ++ pieces.End ∷ []) (sym own); follows = inr refl }

last_out : (first : Opening) (h : Journal) → Conducted first h → IsLastOut (published_of h)
last_out first h c = by_given (one_end first h c)
  where
    by_given : (given_of h ≡ planned_of h) ⊎ (given_of h ≡ planned_of h ++ pieces.End ∷ []) → IsLastOut (published_of h)
    by_given (inl same) = not_out (published_of h) (none_ended first h c same)
    by_given (inr whole) = by_reach (planned_of h) (published_of h) (hand_of h) (planned_none first h c) (reaches (planned_of h) (pieces.End ∷ []) (published_of h) (hand_of h) (sym whole ∙ hand_is first h c))

one_on : (p : Piece) (ps qs : List Piece) → ticks_together ps ≡ ticks_together qs → ticks_together (p ∷ ps) ≡ ticks_together (p ∷ qs)
one_on p ps qs same = let a = together_both (p ∷ []) ps in let b = together_both (p ∷ []) qs in omega (arith, a, b, same)

-- it has no ticks
out_ticks : (ps : List Piece) → ticks_together (without_end ps) ≡ ticks_together ps
out_ticks [] = refl
out_ticks (pieces.Segment s ∷ ps) = one_on (pieces.Segment s) (without_end ps) ps (out_ticks ps)
out_ticks (pieces.Mark m ∷ ps) = one_on (pieces.Mark m) (without_end ps) ps (out_ticks ps)
out_ticks (pieces.End ∷ ps) = out_ticks ps ∙ none_on (ticks_together ps) ∙ sym (together_both (pieces.End ∷ []) ps)
  where
    none_on : (n : ℕ) → n ≡ 0 + n
    none_on n = omega arith

-- ---- closed epochs

marks_on : (xs : List Epoch) (e : Epoch) → EndByMarks xs → Opens (e.closing ∷ []) → e.done ≤ ticks_together e.pieces → EndByMarks (xs ++ e ∷ [])
marks_on [] e marked opens few = (opens, few, tt)
marks_on (x ∷ xs) e marked opens few = (marked.0, marked.1, marks_on xs e marked.2 opens few)

closed_marked : (blocks : ℕ) (state : State) (es : NewestFirst Closed) → AreClosed blocks state es → EndByMarks (closed_epochs blocks state es)
closed_marked blocks state [] c = tt
closed_marked blocks state (e ∷ es) c = marks_on (closed_epochs blocks state es) (reset_epoch (ticks_made es) (opening_behind blocks state es) e.journal e.work) (closed_marked blocks state es c.1) tt (made_there blocks state e es c).published

-- ---- behind them

module _ (blocks : ℕ) (state : State) (es : NewestFirst Closed) (h : Journal) (c : AreClosed blocks state es) (is : IsEpoch (opening_behind blocks state es) h) where
  abbrev before : BoardLog
  before = log_behind (closed_log es) h

  pieces_there : pieces_sent (sent_in before) ≡ published_in (closed_epochs blocks state es) ++ published_of h
  pieces_there = pieces_behind (opening_behind blocks state es) h (closed_log es) is.conducted ∙ ap (λ (ps : List Piece). ps ++ published_of h) (closed_pieces blocks state es c)

  halts_there : (f : Epoch) → halts_seen (sent_in before) ≡ reverse (halts_in 0 0 (closed_epochs blocks state es ++ f ∷ []))
  halts_there f =
      ap halts_seen (sent_behind (opening_behind blocks state es) h (closed_log es) is.conducted) ∙ sym (reverse-reverse (halts_seen (sent_in (closed_log es)))) ∙ ap reverse (sym (closed_halts blocks state es f c))

  ticks_there : ring.ticks_published (sent_in before) ≡ ticks_made es + ticks_together (published_of h)
  ticks_there =
      let own : ring.ticks_published (onto none_sent (reverse (published_of h))) ≡ ticks_together (published_of h) =
      (let a = ap ticks_together (append-nil (reverse (published_of h))) in let b = together_reversed (published_of h) in omega (arith, a, b)) in
      ap ring.ticks_published (sent_behind (opening_behind blocks state es) h (closed_log es) is.conducted) ∙ ticks_are (closed_log es) (reverse (published_of h)) (begins_behind blocks state es c) ∙ ap (λ n. ticks_made es + n) own

  -- while no halt of it is found
  going_on : (phase : Phase) (ticks : ℕ) (s : Sent) → (phase ≡ is_going) ⊎ (phase ≡ is_stopping) → (last : IsLastOut (published_of h)) → MayFollow (last_line (opening_behind blocks state es) h) phase last.more → pieces_sent s ≡ pieces_sent (sent_in before) → halts_seen s ≡ halts_seen (sent_in before)
      → ticks_made es ≤ ticks → ticks ≤ ring.ticks_published (sent_in before) → ArePublishedSoFar (last_line (opening_behind blocks state es) h) phase (closed_epochs blocks state es) (open_epoch (made_in phase ticks (ticks_made es) 0) h) ticks (pieces_sent s) (halts_seen s)
  going_on is_halted ticks s going last follows same seen low high = elim going [ inl e ↦ absurd cc | inr e ↦ absurd cc ]
  going_on is_going ticks s going last follows same seen low high = record {
    marked = closed_marked blocks state es c;
    few = (let out = out_ticks (published_of h) in let all = ticks_there in omega (arith, out, all, high));
    more = last.more;
    are = same ∙ pieces_there ∙ ap (λ (ps : List Piece). published_in (closed_epochs blocks state es) ++ ps) last.is;
    follows = follows;
    halts_are = seen ∙ halts_there (open_epoch (ticks - ticks_made es) h);
    ticks_are = (let done = closed_done blocks state es c in omega (arith, done, low));
  }
  going_on is_stopping ticks s going last follows same seen low high = record {
    marked = closed_marked blocks state es c;
    few = (let out = out_ticks (published_of h) in let all = ticks_there in omega (arith, out, all, high));
    more = last.more;
    are = same ∙ pieces_there ∙ ap (λ (ps : List Piece). published_in (closed_epochs blocks state es) ++ ps) last.is;
    follows = follows;
    halts_are = seen ∙ halts_there (open_epoch (ticks - ticks_made es) h);
    ticks_are = (let done = closed_done blocks state es c in omega (arith, done, low));
  }

  -- once it is found
  once_halted : (ticks halted : ℕ) (more : List Piece) (s : Sent) → NoEnds (published_of h) → MayFollow (last_line (opening_behind blocks state es) h) is_halted more → pieces_sent s ≡ pieces_sent (sent_in before) ++ more → halts_seen s ≡ (length (ring.published_in (sent_in before)), halted) ∷ halts_seen (sent_in before)
      → ticks_made es ≤ halted → halted ≤ ring.ticks_published (sent_in before) → halted ≤ ticks → ArePublishedSoFar (last_line (opening_behind blocks state es) h) is_halted (closed_epochs blocks state es) (open_epoch (halted - ticks_made es) h) ticks (pieces_sent s) (halts_seen s)
  once_halted ticks halted more s none follows same seen low high enough =
      let closed = closed_epochs blocks state es in
      let now : Epoch = open_epoch (halted - ticks_made es) h in
      let out = none_out (published_of h) none in
      let done = closed_done blocks state es c in
      let long : length (ring.published_in (sent_in before)) ≡ length (published_in closed) + length now.pieces =
      (let turned = length-reverse (ring.published_in (sent_in before)) in let all = ap (λ (ps : List Piece). length ps) pieces_there in let both = length-append (published_in closed) (published_of h) in let own = ap (λ (ps : List Piece). length ps) out in
      omega (arith, turned, all, both, own)) in
      record {
        marked = closed_marked blocks state es c;
        few = (let ticks_out = out_ticks (published_of h) in let all = ticks_there in omega (arith, ticks_out, all, high));
        more = more;
        are = same ∙ ap (λ (ps : List Piece). ps ++ more) (pieces_there ∙ ap (λ (ps : List Piece). published_in closed ++ ps) (sym out)) ∙ append_assoc (published_in closed) now.pieces more;
        follows = follows;
        halts_are = seen ∙ newest_halt closed now (length (ring.published_in (sent_in before))) halted (halts_seen (sent_in before)) long (omega (arith, done, low)) (halts_there now);
        ticks_are = omega (arith, done, low, enough);
      }

-- ---- what is known in the work of a reset

may_halt : (number : ℕ) (l : BoardLog) (done : ℕ) (stage : Stage) → MayWorkAt number l (found_halt done) stage → known_in l ≤ done
may_halt number l done (awaits_halt n) may = may.later
may_halt number l done over may = absurd may
may_halt number l done _ may = absurd may

may_load : (number : ℕ) (l : BoardLog) (done : ℕ) (stage : Stage) → MayWorkAt number l (loaded done) stage → known_in l ≤ done
may_load number l done awaits_done may = may.later
may_load number l done over may = absurd may
may_load number l done _ may = absurd may

-- what is found done never falls, and is no less than was done at the halt
known_on : (number : ℕ) (before : BoardLog) (w : Work) → Works number before w → (known_in before ≤ known_in (port_log w ++ before)) × (halted_in w ≤ known_in (port_log w ++ before))
known_on number before [] c = (omega arith, omega arith)
known_on number before (at_port (found_halt done) ∷ w) c =
    let was = (known_on number before w c.2).0 in let more = may_halt number (port_log w ++ before) done (stage_of before w) c.0 in (omega (arith, was, more), omega arith)
known_on number before (at_port (loaded done) ∷ w) c =
    let was = known_on number before w c.2 in let more = may_load number (port_log w ++ before) done (stage_of before w) c.0 in let a = was.0 in let b = was.1 in (omega (arith, a, more), omega (arith, b, more))
known_on number before (at_port e ∷ w) c = known_on number before w c.2
known_on number before (turned t ∷ w) c = known_on number before w c.2
known_on number before (_ ∷ w) c = absurd c.0

-- ---- of a board

-- how the open epoch is published, and that no fewer ticks of it are made than are known
pub record IsOpen (blocks : ℕ) (state : State) (ticks : ℕ) (es : Epochs) : Type 0 where
  pub are : ArePublishedSoFar (number_of blocks state es) (phase_of es) (closed_of blocks state es) (open_epoch (made_of ticks es) (open_journal es)) ticks (pieces_sent (sent_in (log_of es))) (halts_seen (sent_in (log_of es)))
  pub known : known_of (open_journal es) ≤ made_of ticks es

module _ (blocks : ℕ) (state : State) (ticks : ℕ) (es : NewestFirst Closed) (h : Journal) (w : Work) (c : AreClosed blocks state es) (is : IsResetting (opening_behind blocks state es) (closed_log es) h w) (low : known_in (log_of (resets es h w)) ≤ ticks)
    (high : ticks ≤ ring.ticks_published (sent_in (log_of (resets es h w)))) where
  abbrev there : BoardLog
  there = log_behind (closed_log es) h

  abbrev now : Sent
  now = sent_in (log_of (resets es h w))

  abbrev OpenAt : Stage → Type 0
  OpenAt stage =
      ArePublishedSoFar (last_line (opening_behind blocks state es) h) (phase_at stage) (closed_epochs blocks state es) (open_epoch (made_in (phase_at stage) ticks (ticks_made es) (halted_in w)) h) ticks (pieces_sent now) (halts_seen now)
      × (known_of h ≤ made_in (phase_at stage) ticks (ticks_made es) (halted_in w))

  none : NoEnds (published_of h)
  none = none_ended (opening_behind blocks state es) h is.epoch.conducted (unended (opening_behind blocks state es) h is.epoch is.may)

  known : known_in there ≡ ticks_made es + known_of h
  known = known_there blocks state es h c is.epoch

  later : (known_in there ≤ ticks) × (halted_in w ≤ ticks)
  later = let all = known_on (last_line (opening_behind blocks state es) h) there w is.works in let a = all.0 in let b = all.1 in (omega (arith, a, low), omega (arith, b, low))

  unhalted : (phase : Phase) → (phase ≡ is_going) ⊎ (phase ≡ is_stopping) → MayFollow (last_line (opening_behind blocks state es) h) phase [] → pieces_sent now ≡ pieces_sent (sent_in there) → halts_seen now ≡ halts_seen (sent_in there) → ring.ticks_published now ≡ ring.ticks_published (sent_in there)
      → ArePublishedSoFar (last_line (opening_behind blocks state es) h) phase (closed_epochs blocks state es) (open_epoch (made_in phase ticks (ticks_made es) 0) h) ticks (pieces_sent now) (halts_seen now) × (known_of h ≤ ticks - ticks_made es)
  unfolding not_out
  unhalted phase going follows same seen all =
      let k = known in let l = later.0 in (
        going_on blocks state es h c is.epoch phase ticks now going (not_out (published_of h) none) follows same seen (omega (arith, k, l)) (omega (arith, high, all)),
        omega (arith, k, l),
      )

  -- the stop is not stored
  as_before : now ≡ sent_in there → ArePublishedSoFar (last_line (opening_behind blocks state es) h) is_going (closed_epochs blocks state es) (open_epoch (ticks - ticks_made es) h) ticks (pieces_sent now) (halts_seen now) × (known_of h ≤ ticks - ticks_made es)
  as_before same = unhalted is_going (inl refl) (inl refl) (ap pieces_sent same) (ap halts_seen same) (ap ring.ticks_published same)

  found : (more : List Piece) → MayFollow (last_line (opening_behind blocks state es) h) is_halted more → pieces_sent now ≡ pieces_sent (sent_in there) ++ more → halts_seen now ≡ (length (ring.published_in (sent_in there)), halted_in w) ∷ halts_seen (sent_in there) → known_in there ≤ halted_in w
      → ArePublishedSoFar (last_line (opening_behind blocks state es) h) is_halted (closed_epochs blocks state es) (open_epoch (halted_in w - ticks_made es) h) ticks (pieces_sent now) (halts_seen now) × (known_of h ≤ halted_in w - ticks_made es)
  found more follows same seen enough =
      let k = known in (
        once_halted blocks state es h c is.epoch ticks (halted_in w) more now none follows same seen (omega (arith, k, enough)) (halted_below (last_line (opening_behind blocks state es) h) there w is.works) later.1,
        omega (arith, k, enough),
      )

  known_then : is_marked (stage_of there w) ≡ true → known_in there ≤ halted_in w
  known_then marked = let x = marked_there blocks state es h w c is marked in let k = known in let base = x.base_is in let made = x.made.known in omega (arith, k, base, made)

  -- nothing is published behind the halt
  only_halted : (now ≡ ring.with_halt (ring.with_stop (sent_in there)) (halted_in w)) × (known_in (log_of (resets es h w)) ≡ halted_in w)
      → ArePublishedSoFar (last_line (opening_behind blocks state es) h) is_halted (closed_epochs blocks state es) (open_epoch (halted_in w - ticks_made es) h) ticks (pieces_sent now) (halts_seen now) × (known_of h ≤ halted_in w - ticks_made es)
  only_halted holds =
      found [] (inl refl) (ap pieces_sent holds.0 ∙ sym (append-nil (pieces_sent (sent_in there)))) (ap halts_seen holds.0)
      (let all = (known_on (last_line (opening_behind blocks state es) h) there w is.works).0 in let same = holds.1 in omega (arith, all, same))

  mark_out : now ≡ with_mark (last_line (opening_behind blocks state es) h) (sent_in there) (halted_in w) → is_marked (stage_of there w) ≡ true
      → ArePublishedSoFar (last_line (opening_behind blocks state es) h) is_halted (closed_epochs blocks state es) (open_epoch (halted_in w - ticks_made es) h) ticks (pieces_sent now) (halts_seen now) × (known_of h ≤ halted_in w - ticks_made es)
  mark_out holds marked =
      found (pieces.Mark (marks.Reset (last_line (opening_behind blocks state es) h)) ∷ []) (inr refl) (ap pieces_sent holds ∙ mark_more (last_line (opening_behind blocks state es) h) (sent_in there) (halted_in w)) (ap halts_seen holds) (known_then marked)

  by_stage : (stage : Stage) → stage_of there w ≡ stage → Holds (last_line (opening_behind blocks state es) h) there (log_of (resets es h w)) (halted_in w) stage → OpenAt stage
  by_stage drops_changes e holds = as_before holds
  by_stage awaits_mark e holds = as_before holds
  by_stage (stops n) e holds = as_before holds
  by_stage (awaits_halt n) e holds = unhalted is_stopping (inr refl) refl (ap pieces_sent holds) (ap halts_seen holds) (ap ring.ticks_published holds)
  by_stage (drops n) e holds = only_halted holds
  by_stage publishes e holds = only_halted holds
  by_stage awaits_done e holds = mark_out holds (ap is_marked e)
  by_stage over e holds = mark_out holds.0 (ap is_marked e)

  pub resets_open : IsOpen blocks state ticks (resets es h w)
  resets_open =
      let both : OpenAt (stage_of there w) = by_stage (stage_of there w) refl (holds (last_line (opening_behind blocks state es) h) there w is.works) in
      record { are = both.0; known = both.1 }

pub epochs_open : (blocks : ℕ) (state : State) (ticks : ℕ) (es : Epochs) → AreEpochs blocks state es → known_in (log_of es) ≤ ticks → ticks ≤ ring.ticks_published (sent_in (log_of es)) → IsOpen blocks state ticks es
epochs_open blocks state ticks (goes es h) c low high =
    let last = last_out (opening_behind blocks state es) h c.1.conducted in
    let known = known_there blocks state es h c.0 c.1 in
    record {
      are = going_on blocks state es h c.0 c.1 is_going ticks (sent_in (log_of (goes es h))) (inl refl) last last.follows refl refl (omega (arith, known, low)) high;
      known = omega (arith, known, low);
    }
epochs_open blocks state ticks (resets es h w) c low high = resets_open blocks state ticks es h w c.0 c.1 low high

-- ---- where a stop waits

calm_there : (blocks : ℕ) (state : State) (es : NewestFirst Closed) (h : Journal) → AreClosed blocks state es → Conducted (opening_behind blocks state es) h → (sent_in (log_behind (closed_log es) h)).waits ≡ false
calm_there blocks state es h c is = ap (λ (s : Sent). s.waits) (sent_behind (opening_behind blocks state es) h (closed_log es) is) ∙ goes_there (closed_log es) (begins_behind blocks state es c)

no_stop : {A : Type 0} (t : Bool) → t ≡ true → t ≡ false → A
no_stop t waits calm = absurd (let e = sym waits ∙ calm in cc)

by_waits : (number : ℕ) (was l : BoardLog) (halted : ℕ) (stage : Stage) → (sent_in was).waits ≡ false → Holds number was l halted stage → (sent_in l).waits ≡ true → phase_at stage ≡ is_stopping
by_waits number was l halted drops_changes calm holds waits = no_stop (sent_in l).waits waits (ap (λ (s : Sent). s.waits) holds ∙ calm)
by_waits number was l halted awaits_mark calm holds waits = no_stop (sent_in l).waits waits (ap (λ (s : Sent). s.waits) holds ∙ calm)
by_waits number was l halted (stops n) calm holds waits = no_stop (sent_in l).waits waits (ap (λ (s : Sent). s.waits) holds ∙ calm)
by_waits number was l halted (awaits_halt n) calm holds waits = refl
by_waits number was l halted (drops n) calm holds waits = no_stop (sent_in l).waits waits (ap (λ (s : Sent). s.waits) holds.0)
by_waits number was l halted publishes calm holds waits = no_stop (sent_in l).waits waits (ap (λ (s : Sent). s.waits) holds.0)
by_waits number was l halted awaits_done calm holds waits = no_stop (sent_in l).waits waits (ap (λ (s : Sent). s.waits) holds)
by_waits number was l halted over calm holds waits = no_stop (sent_in l).waits waits (ap (λ (s : Sent). s.waits) holds.0)

pub stopping_there : (blocks : ℕ) (state : State) (es : Epochs) → AreEpochs blocks state es → (sent_in (log_of es)).waits ≡ true → phase_of es ≡ is_stopping
stopping_there blocks state (goes es h) c waits = no_stop (sent_in (log_of (goes es h))).waits waits (calm_there blocks state es h c.0 c.1.conducted)
stopping_there blocks state (resets es h w) c waits =
    let there = log_behind (closed_log es) h in
    let number = last_line (opening_behind blocks state es) h in
    by_waits number there (log_of (resets es h w)) (halted_in w) (stage_of there w) (calm_there blocks state es h c.0 c.1.epoch.conducted) (holds number there w c.1.works) waits
