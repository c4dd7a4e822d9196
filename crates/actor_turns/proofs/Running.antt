-- What the actors of a world have done is a run of the job.
use Rattle.std.proofs.Common.{◌≡◌, ◌-◌, ◌⊎◌, inl, inr, ℕ, ◌+◌, ◌≤◌, Bool, true, false, ◌↔◌, List, [], ◌∷◌, ◌++◌, length, map, reverse, refl, sym, ap, ◌∙◌, subst, arith}
use Rattle.std.proofs.lemmas.List.{reverse-append, reverse-reverse}
use Rattle.step_line.specs.declared.Piece.{Piece}
use Rattle.step_line.specs.Logs.{NewestFirst}
use Rattle.step_line.specs.Finishing.{ticks_together, most_unfinished}
use Rattle.step_line.proofs.Finished.{together_both}
use Rattle.motion_ring.specs.declared.lists.Halt.{Halt}
use Rattle.motion_ring.specs.declared.lists.Sent.{Sent}
use Rattle.motion_ring.specs.Sides.{ticks_at, ticks_published, unfinished_in}
use Rattle.motion_ring.specs.Sides as ring
use Rattle.serial_ring.specs.Marks.{Mark}
use Rattle.run_rules.specs.States.{IsOpening}
use Rattle.run_rules.specs.declared.State.{State}
use Rattle.run_texts.specs.Fronts.{BeginsWith}
use Rattle.status_report.specs.Answering.{reply_room}
use Rattle.host_journal.specs.declared.Reading.{Reading}
use Rattle.host_journal.specs.declared.Reading.TheVariants.{Ended, Failed, Large, Stopped}
use Rattle.host_journal.specs.Steps.{port_log as host_log, marks_of, got_of}
use Rattle.stream_host.specs.Ran.{is_failed}
use Rattle.board_rules.specs.Conduct.{IsFinished}
use Rattle.board_journal.specs.Ports.{answered_in, known_in, sent_in}
use Rattle.board_journal.specs.Steps.{Journal, port_log}
use Rattle.board_rules.proofs.Unstopped.{journals_never_stop}
use Rattle.board_epochs.specs.Epochs.{Closed, Epochs, AreEpochs, closed_log, log_of as board_log, opening_behind}
use Rattle.board_epochs.specs.Epochs.Epochs.{goes, resets}
use Rattle.board_epochs.proofs.Chaining.{begins_behind}
use Rattle.board_epochs.proofs.Onto.{goes_there, sent_on}
use Rattle.controller.specs.Boards.{HaveFinished}
use Rattle.epoch_runs.specs.Epochs.{halts_seen, pieces_sent}
use Rattle.epoch_links.proofs.Tying.{ports_linked, ports_answered}
use Rattle.epoch_records.specs.Publishing.{AreSameHalts}
use Rattle.epoch_law.specs.Joined.{AreConnected, ArePassedSome, ArePiecesPassed, HasHaltedUnseen}
use Rattle.epoch_law.specs.Journals.{host_did, board_did, pulse_did}
use Rattle.epoch_law.proofs.Connecting.{connected as ends_connected, words_raised}
use Rattle.epoch_law.specs.Ran.{BoardRan}
use Rattle.pulse_engine.specs.Logs.{pieces_of, got_since, halts_of, records_put}
use Rattle.step_record.specs.Taking.{records}
use Rattle.list_ports.specs.Passing.{record_room}
use Rattle.list_ports.specs.Joining.{IsGoing, HasHalted, numbers_of}
use Rattle.list_ports.proofs.Steps.{ports_agree}
use Rattle.actor_turns.specs.Worlds.{Seen, History, Holds, LinkIsKept, FlagsAreKept, FollowHalts, MotionIsKept, last_mark, ticks_halted}

-- ---- what one side got is a front of what the other gave

pub replies_front : {N : ℕ} (w : Seen N) (hist : History) → Holds w hist → BeginsWith (answered_in (board_log hist.board)) (got_of hist.host)
replies_front w hist h = record { rest = w.lists.replies; is = h.joined.replies.fifo }

pub records_front : {N : ℕ} (w : Seen N) (hist : History) → Holds w hist → BeginsWith (records_put hist.puts) (records hist.takes)
records_front w hist h = record { rest = w.waiting; is = h.passed }

-- the pieces got or dropped are the first of those published, and those that wait come behind them
pub pieces_front : {N : ℕ} (w : Seen N) (hist : History) → Holds w hist → pieces_sent (sent_in (board_log hist.board)) ≡ reverse (pieces_of hist.pulse) ++ w.lists.pieces
pieces_front w hist h =
    ap reverse h.joined.pieces.fifo ∙ reverse-append (reverse w.lists.pieces) (pieces_of hist.pulse) ∙ ap (λ (ps : List Piece). reverse (pieces_of hist.pulse) ++ ps) (reverse-reverse w.lists.pieces)

-- ---- halts

-- the board has found each halt of the pulse, or the pulse has halted since
abbrev IsPhase : {N : ℕ} → Seen N → History → Type 0
IsPhase w hist =
    IsGoing w.lists.pieces w.lists.left w.lists.done w.lists.stop (sent_in (board_log hist.board)) (got_since hist.pulse) (halts_of hist.pulse)
    ⊎ HasHalted w.lists.pieces w.lists.left w.lists.done w.lists.stop (sent_in (board_log hist.board)) (got_since hist.pulse) (halts_of hist.pulse)

-- those that the board has found are those of the pulse, or the pulse has halted once more
pub halts_follow : {N : ℕ} (w : Seen N) (hist : History) → Holds w hist → FollowHalts (halts_seen (sent_in (board_log hist.board))) (halts_of hist.pulse)
halts_follow w hist h = by_phase h.joined.pieces.phase
  where
    by_phase : IsPhase w hist → FollowHalts (halts_seen (sent_in (board_log hist.board))) (halts_of hist.pulse)
    by_phase (inl going) = inl (sym going.halts_are)
    by_phase (inr halted) = inr ((length (ring.published_in (sent_in (board_log hist.board))), w.lists.done), sym halted.halts_are)

-- a board that has nothing left to do waits for no halt
none_waits : (blocks : ℕ) (state : State) (e : Epochs) → AreEpochs blocks state e → HaveFinished blocks state e → (sent_in (board_log e)).waits ≡ false
none_waits blocks state (goes es h) are over =
    ap (λ (s : Sent). s.waits) (sent_on (known_in (closed_log es)) (port_log h) (closed_log es) (journals_never_stop (opening_behind blocks state es) h are.1.conducted)) ∙ goes_there (closed_log es) (begins_behind blocks state es are.0)
none_waits blocks state (resets es h w) are over = absurd over

-- so it has found them all
all_found : {N : ℕ} (w : Seen N) (hist : History) (state : State) → Holds w hist → AreEpochs (N - 1) state hist.board → HaveFinished (N - 1) state hist.board → halts_of hist.pulse ≡ halts_seen (sent_in (board_log hist.board))
all_found {N} w hist state h are over = by_phase h.joined.pieces.phase
  where
    by_phase : IsPhase w hist → halts_of hist.pulse ≡ halts_seen (sent_in (board_log hist.board))
    by_phase (inl going) = sym going.halts_are
    by_phase (inr halted) = absurd (let waits = halted.waits_is in let none = none_waits (N - 1) state hist.board are over in cc)

-- the pieces of a world are passed as those of a ring
pub passed_some : {N : ℕ} (w : Seen N) (hist : History) (state : State) → Holds w hist → AreEpochs (N - 1) state hist.board → HaveFinished (N - 1) state hist.board → ArePassedSome (board_did hist.board) (pulse_did hist.pulse hist.puts)
passed_some w hist state h are over = record {
  pieces = record { rest = w.lists.pieces; is = pieces_front w hist h };
  halts = inl (all_found w hist state h are over);
}

-- ---- a run so far

-- the ticks counted and those left of the last piece were published
ticks_within : {N : ℕ} (w : Seen N) (hist : History) → Holds w hist → w.lists.done + w.lists.left ≤ ticks_published (sent_in (board_log hist.board))
ticks_within w hist h = by_phase h.joined.pieces.phase
  where
    by_phase : IsPhase w hist → w.lists.done + w.lists.left ≤ ticks_published (sent_in (board_log hist.board))
    by_phase (inl going) =
        let all = going.ticks in
        let since = ap ticks_together going.since_is ∙ together_both (reverse w.lists.pieces) (got_since hist.pulse) in
        omega (arith, all, since)
    by_phase (inr halted) = let none = halted.none_left in let few = h.joined.pieces.within in omega (arith, none, few)

-- the pieces of a world are passed as those of a ring that goes on
pub pieces_passed : {N : ℕ} (w : Seen N) (hist : History) → Holds w hist → ArePiecesPassed (sent_in (board_log hist.board)) (known_in (board_log hist.board)) hist.pulse
pieces_passed w hist h =
    let p = h.joined.pieces in
    record {
      rest = reverse w.lists.pieces;
      fifo = p.fifo;
      known_is = subst (λ (n : ℕ). known_in (board_log hist.board) ≤ n) p.done_is p.known_is;
      within = (let done = p.done_is in let left = p.left_is in let few = ticks_within w hist h in omega (arith, done, left, few));
      halts = by_phase p.phase;
    }
  where
    by_phase : IsPhase w hist → AreSameHalts (halts_seen (sent_in (board_log hist.board))) (halts_of hist.pulse) ⊎ HasHaltedUnseen (sent_in (board_log hist.board)) hist.pulse
    by_phase (inl going) = inl (inl (sym going.halts_are))
    by_phase (inr halted) = inr (record {
      waits = halted.waits_is;
      all = h.joined.pieces.fifo ∙ ap (λ (ps : List Piece). reverse ps ++ pieces_of hist.pulse) halted.none_waits;
      none_left = sym h.joined.pieces.left_is ∙ halted.none_left;
      halts_are = inl (sym halted.halts_are
          ∙ ap (λ (n : ℕ). let last : ℕ × ℕ = (length (ring.published_in (sent_in (board_log hist.board))), n) in last ∷ halts_seen (sent_in (board_log hist.board))) h.joined.pieces.done_is);
    })

-- ---- both

-- host and board are connected, by the logs of the lists between them
pub connected : {N : ℕ} (w : Seen N) (hist : History) (state : State) → Holds w hist → AreEpochs (N - 1) state hist.board → AreConnected w.room (host_did hist.host) (board_did hist.board)
connected {N} w hist state h are =
    let agree = ports_agree w.lists (host_log hist.host) (board_log hist.board) hist.pulse h.joined in
    ends_connected w.room hist.host (N - 1) state hist.board h.host.conducted are (ports_linked hist.host hist.board agree) (ports_answered hist.host hist.board agree)
    (words_raised (w.lists.exec ∷ w.lists.override ∷ []) (host_log hist.host) (board_log hist.board) h.joined.flags.balance)

-- a board that has nothing left to do has run, by the law of boards
pub board_ran : (blocks : ℕ) (state : State) (e : Epochs)
    → ((es : NewestFirst Closed) (h : Journal) → IsOpening state → AreEpochs blocks state (goes es h) → IsFinished (opening_behind blocks state es) h → BoardRan blocks (board_did (goes es h)))
    → IsOpening state → AreEpochs blocks state e → HaveFinished blocks state e → BoardRan blocks (board_did e)
board_ran blocks state (goes es h) law opening are over = law es h opening are over
board_ran blocks state (resets es h w) law opening are over = absurd over

-- ---- how it ends

pub failed_is : (b : Bool) (r : Reading) → ((b ≡ true) ↔ (r ≡ Failed)) → b ≡ is_failed r
failed_is true r both = let e = both.0 refl in rw e refl
failed_is false Ended both = refl
failed_is false Failed both = absurd (let e = both.1 refl in cc)
failed_is false Large both = refl
failed_is false Stopped both = refl

-- ---- what is on its way

mark_is : (m : Mark) (number bytes : ℕ) → m.0 ≡ number → m.1 ≡ bytes → m ≡ (number, bytes)
mark_is m number bytes a b = ap (λ (n : ℕ). let x : Mark = (n, m.1) in x) a ∙ ap (λ (n : ℕ). let x : Mark = (number, n) in x) b

pub link_is_kept : {N : ℕ} (w : Seen N) (hist : History) → Holds w hist → length w.lists.bytes ≤ w.room → length w.lists.replies ≤ reply_room → LinkIsKept w hist
link_is_kept w hist h bytes replies = record {
  taken = h.joined.bytes.fifo;
  bytes = bytes;
  got = h.joined.replies.fifo;
  replies = replies;
  answers = h.joined.replies.fewer;
  mark = mark_is w.lists.mark (last_mark (marks_of hist.host)).0 (last_mark (marks_of hist.host)).1 h.joined.marks.number_is h.joined.marks.bytes_is;
  loaded = h.joined.marks.loads;
}

pub flags_are_kept : {N : ℕ} (w : Seen N) (hist : History) → Holds w hist → FlagsAreKept w hist
flags_are_kept w hist h = record { balance = h.joined.flags.balance }

halted_at : (halts : NewestFirst Halt) → ticks_halted (map numbers_of halts) ≡ ticks_at halts
halted_at [] = refl
halted_at (halt ∷ halts) = refl

-- no more ticks are done than those at the last halt and those of the pieces got since
done_below : {N : ℕ} (w : Seen N) (hist : History) → Holds w hist → w.lists.done ≤ ticks_halted (halts_of hist.pulse) + ticks_together (got_since hist.pulse)
done_below w hist h = by_phase h.joined.pieces.phase
  where
    by_phase : IsPhase w hist → w.lists.done ≤ ticks_halted (halts_of hist.pulse) + ticks_together (got_since hist.pulse)
    by_phase (inl going) =
        let all = going.ticks in let at = halted_at (sent_in (board_log hist.board)).halts in let same = ap ticks_halted going.halts_are in omega (arith, all, at, same)
    by_phase (inr halted) = let at = ap ticks_halted halted.halts_are in omega (arith, at)

pub motion_is_kept : {N : ℕ} (w : Seen N) (hist : History) → Holds w hist → length w.waiting ≤ record_room → MotionIsKept w hist
motion_is_kept w hist h room =
    let p = h.joined.pieces in
    record {
      got = pieces_front w hist h;
      done = subst (λ (n : ℕ). n ≤ ticks_halted (halts_of hist.pulse) + ticks_together (got_since hist.pulse)) p.done_is (done_below w hist h);
      few = subst (λ (n : ℕ). unfinished_in (sent_in (board_log hist.board)) n ≤ most_unfinished) p.done_is p.few;
      halts = halts_follow w hist h;
      taken = h.passed;
      room = room;
    }
