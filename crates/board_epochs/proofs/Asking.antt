-- What a board does next by its rules is what the port may be asked for, over all epochs.
use Rattle.std.proofs.Common.{◌≡◌, ℕ, ◌+◌, ◌*◌, ◌≤◌, false, List, [], ◌∷◌, ◌++◌, drop, length, length-append, reverse, nat_eq, refl, sym, ap, ◌∙◌, subst, append-nil, arith}
use Rattle.std.specs.List.{flat_map}
use Rattle.std.proofs.lemmas.List.Sums.{count_by-le-length}
use Rattle.motion_ring.specs.Rule.{none_sent}
use Rattle.motion_ring.specs.Sides as ring
use Rattle.motion_ring.specs.declared.lists.Sent.{Sent}
use Rattle.run_rules.specs.declared.State.{State}
use Rattle.step_line.specs.Finishing.{tick_count, ticks_together, most_unfinished}
use Rattle.step_line.specs.Logs.{NewestFirst}
use Rattle.step_line.specs.Ordering.{has_ended}
use Rattle.step_line.specs.Pieces.{ticks_of}
use Rattle.step_line.specs.declared.Mark.TheVariants as marks
use Rattle.step_line.specs.declared.Piece.{Piece}
use Rattle.step_line.specs.declared.Piece.TheVariants as pieces
use Rattle.step_line.proofs.Finished.{together_both}
use Rattle.board_rules.specs.Conduct.{Conducted, IsInHand}
use Rattle.board_journal.specs.Openings.{Opening}
use Rattle.board_journal.specs.Ports.{BoardLog, taken_in, published_in, known_in, sent_in, MayPublish, LacksPieceRoom}
use Rattle.board_journal.specs.Ports.PortStep.{took}
use Rattle.board_journal.specs.Steps.{Journal, port_log, taken_of, published_of, lines_of, open_of, whole_of, hand_of}
use Rattle.board_rules.proofs.Answering.{lfs_of_lines}
use Rattle.board_rules.proofs.Ending.{no_ends_back, not_ended}
use Rattle.board_rules.proofs.Keeping.{hand_is}
use Rattle.board_rules.proofs.Limits.{given_by_lines, lines_in_bytes, may_publish_next}
use Rattle.board_rules.proofs.Lined.{as_many}
use Rattle.board_rules.proofs.Lines.{bytes_are}
use Rattle.board_rules.proofs.Unstopped.{journals_never_stop}
use Rattle.board_epochs.specs.Epochs.{Closed, AreClosed, AreEpochs, closed_log, log_behind, log_of, opening_behind, last_line}
use Rattle.board_epochs.specs.Epochs.Epochs.{goes, resets}
use Rattle.board_epochs.specs.Work.{Work, stage_of}
use Rattle.board_epochs.specs.Work.Stage.{publishes}
use Rattle.board_epochs.proofs.Bounding.{AreConducted, few_behind, few_epochs, own_ticks, ticks_bounded, pieces_bounded, pieces_behind, taken_behind, none_ended, halted_below, more_taken}
use Rattle.board_epochs.proofs.Chaining.{begins_behind}
use Rattle.board_epochs.proofs.Onto.{Begins, onto, sent_on}
use Rattle.board_epochs.proofs.Onto.Begins.{a_run, an_epoch}
use Rattle.board_epochs.proofs.Prompting.{unended}
use Rattle.board_epochs.proofs.Seam.{sent_own, ticks_behind, publish_behind, ended_mark}
use Rattle.board_epochs.proofs.Working.{publishes_alone}

-- ---- pieces

hand_ticks : (first : Opening) (h : Journal) (p : Piece) → Conducted first h → IsInHand p h → ticks_together (published_of h) + tick_count p ≤ 400000006 * length (taken_of h)
hand_ticks first h p c next =
    let given = ap ticks_together (hand_is first h c) in
    let both = together_both (published_of h) (hand_of h) in
    let hand = ap ticks_together next in
    let one : ticks_together (p ∷ drop 1 (hand_of h)) ≡ tick_count p + ticks_together (drop 1 (hand_of h)) = length-append (ticks_of p) (flat_map ticks_of (drop 1 (hand_of h))) in
    let a = given_by_lines first h c in let b = lines_in_bytes first h c in
    omega (arith, given, both, hand, one, a, b)

unended_own : (l : BoardLog) (s : Sent) → sent_in l ≡ s → s ≡ onto none_sent (reverse (published_in l)) → has_ended (ring.published_in (sent_in l)) ≡ false → has_ended (reverse (published_in l)) ≡ false
unended_own l s is own going =
    ap has_ended (sym (append-nil (reverse (published_in l)))) ∙ ap has_ended (sym (append-nil (reverse (published_in l) ++ []))) ∙ sym (ap (λ (x : Sent). has_ended (ring.published_in x)) (is ∙ own)) ∙ going

pub publish_there : (blocks : ℕ) (state : State) (es : NewestFirst Closed) (h : Journal) (p : Piece) → AreConducted blocks state es h → IsInHand p h → MayPublish (log_of (goes es h)) p
publish_there blocks state es h p c next =
    let first = opening_behind blocks state es in
    let before = closed_log es in
    let conducted = c.1 in
    let never = journals_never_stop first h conducted in
    let own = may_publish_next first h p conducted next in
    let few = few_behind blocks state es c.0 in
    let n = few_epochs blocks state es c.0 in
    let ticks = own_ticks (port_log h) never in
    let hand = hand_ticks first h p conducted next in
    let all = taken_behind before h in
    let bytes = c.2.bytes in
    let known = few.ticks in let had = few.pieces in
    let now = pieces_behind first before h conducted in
    let here = pieces_bounded first h conducted (unended_own (port_log h) (sent_in (port_log h)) refl (sent_own (port_log h) never) own.going) in
    publish_behind before (port_log h) p (begins_behind blocks state es c.0) never own (record {
      ticks = omega (arith, n, ticks, hand, all, bytes, known);
      pieces = omega (arith, n, all, bytes, had, now, here);
    })

-- ---- the mark of a reset

both_taken : (l m : BoardLog) → length (taken_in (l ++ m)) ≡ length (taken_in l) + length (taken_in m)
both_taken [] m = omega arith
both_taken (took b ∷ l) m =
    let e = both_taken l m in let a = length-append (taken_in (l ++ m)) (b ∷ []) in let d = length-append (taken_in l) (b ∷ []) in omega (arith, e, a, d)
both_taken (_ ∷ l) m = both_taken l m

-- as many lines at most as bytes
pub lines_there : (blocks : ℕ) (state : State) (es : NewestFirst Closed) → AreClosed blocks state es → (opening_behind blocks state es).lines ≤ length (taken_in (closed_log es))
lines_there blocks state [] c = omega arith
lines_there blocks state (e ∷ es) c =
    let first = opening_behind blocks state es in
    let h = e.journal in
    let before = closed_log es in
    let conducted = c.0.resetting.epoch.conducted in
    let was = lines_there blocks state es c.1 in
    let lfs = lfs_of_lines (taken_of h) (lines_of h) (open_of h) (whole_of h) (bytes_are first h conducted) in
    let many = as_many h in
    let below = count_by-le-length (λ (b : ℕ). nat_eq b 10) (taken_of h) in
    let dropped = count_by-le-length (λ (b : ℕ). nat_eq b 10) (taken_in (port_log e.work)) in
    let taken = taken_behind before h in
    let all = both_taken (port_log e.work) (log_behind before h) in
    omega (arith, was, lfs, many, below, dropped, taken, all)

pub number_there : (blocks : ℕ) (state : State) (es : NewestFirst Closed) (h : Journal) → AreClosed blocks state es → Conducted (opening_behind blocks state es) h → last_line (opening_behind blocks state es) h ≤ length (taken_in (log_behind (closed_log es) h))
number_there blocks state es h c conducted =
    let was = lines_there blocks state es c in let lines = lines_in_bytes (opening_behind blocks state es) h conducted in let all = taken_behind (closed_log es) h in omega (arith, was, lines, all)

unended_all : (before : BoardLog) (ps : List Piece) → Begins before → has_ended ps ≡ false → has_ended (ring.published_in (onto (sent_in before) ps)) ≡ false
unended_all before ps (a_run sent known) none = ap (λ (s : Sent). has_ended (ring.published_in (onto s ps))) sent ∙ ap has_ended (append-nil (ps ++ []) ∙ append-nil ps) ∙ none
unended_all before ps (an_epoch m s sent waits since known) none =
    ap (λ (x : Sent). has_ended (ring.published_in (onto x ps))) sent ∙ ended_mark m s.older ps s.since since (ap has_ended (append-nil (ps ++ []) ∙ append-nil ps) ∙ none)

pub mark_there : (blocks : ℕ) (state : State) (es : NewestFirst Closed) (h : Journal) (w : Work) → AreEpochs blocks state (resets es h w) → stage_of (log_behind (closed_log es) h) w ≡ publishes
    → MayPublish (log_of (resets es h w)) (pieces.Mark (marks.Reset (last_line (opening_behind blocks state es) h)))
mark_there blocks state es h w c stage =
    let first = opening_behind blocks state es in
    let before = closed_log es in
    let lb = log_behind before h in
    let conducted = c.1.epoch.conducted in
    let never = journals_never_stop first h conducted in
    let number = last_line first h in
    let alone = publishes_alone number lb w c.1.works stage in
    let few = few_behind blocks state es c.0 in
    let n = few_epochs blocks state es c.0 in
    let ticks = own_ticks (port_log h) never in
    let on = ticks_behind before (port_log h) (begins_behind blocks state es c.0) never in
    let bound = ticks_bounded first h conducted in
    let halted = halted_below number lb w c.1.works in
    let all = taken_behind before h in
    let more = more_taken (port_log w) lb in
    let bytes = c.2.bytes in
    let known = few.ticks in let had = few.pieces in
    let going = not_ended (reverse (published_of h)) (no_ends_back (published_of h) (none_ended first h conducted (unended first h c.1.epoch c.1.may))) in
    let now = pieces_behind first before h conducted in
    let here = pieces_bounded first h conducted going in
    let line = number_there blocks state es h c.0 conducted in
    subst (λ (s : Sent). ring.MayPublish s (pieces.Mark (marks.Reset number))) (sym alone.0) (record {
      running = refl;
      going = ap (λ (s : Sent). has_ended (ring.published_in s)) (sent_on (known_in before) (port_log h) before never) ∙ unended_all before (reverse (published_of h)) (begins_behind blocks state es c.0) going;
      follows = omega (arith, line, all, more, bytes);
      few = omega (arith, n, ticks, on, bound, halted, all, more, bytes, known);
      room = omega (arith, n, all, more, bytes, had, now, here);
    })

-- and there is room for it
pub room_for_mark : (blocks : ℕ) (state : State) (es : NewestFirst Closed) (h : Journal) (w : Work) (done : ℕ) → AreEpochs blocks state (resets es h w) → stage_of (log_behind (closed_log es) h) w ≡ publishes
    → LacksPieceRoom done (log_of (resets es h w)) → ⊥
room_for_mark blocks state es h w done c stage lacks =
    let alone = publishes_alone (last_line (opening_behind blocks state es) h) (log_behind (closed_log es) h) w c.1.works stage in
    let none : 0 ≡ most_unfinished = sym (ap (λ (s : Sent). ring.unfinished_in s done) alone.0) ∙ lacks.full in
    absurd (omega (arith, none))
