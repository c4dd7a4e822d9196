-- What calls of a port make of the lists and the logs, where a search does not find it.
use Rattle.std.proofs.Common.{◌≡◌, ℕ, ◌+◌, ◌-◌, ◌<◌, ◌≤◌, ◌^◌, ◌⊎◌, inl, Bool, true, false, not, nat_eq, List, [], ◌∷◌, ◌++◌, length, take, drop, reverse, refl, sym, ap, ◌∙◌, subst, arith, append_assoc, length-append, Some}
use Rattle.std.proofs.lemmas.Bool.Decides.{nat_tests}
use Rattle.std.proofs.lemmas.List.{take-append-drop}
use Rattle.std.specs.declared.option.Option.{Option}
use Rattle.step_line.specs.declared.Piece.{Piece}
use Rattle.step_line.specs.Ordering.{ComesNext}
use Rattle.step_line.specs.Finishing.{tick_count, unfinished, most_unfinished}
use Rattle.board_journal.specs.Ports.{taken_in, link_steps, has_closed_in, answered_in, known_in, sent_in, asks_report, said, IsMarkedPast, MayAnswer, MayPublish, MayStop, MayBeDone, HasFewReports, LacksPieceRoom}
use Rattle.board_journal.specs.Ports.{BoardLog}
use Rattle.board_journal.specs.Ports.PortStep.{took_exec, published, no_piece_room, loaded, stored_stop}
use Rattle.realtime_flags.specs.declared.words.Flag.{Flag}
use Rattle.realtime_flags.specs.declared.words.Flag.TheVariants as flags
use Rattle.realtime_flags.specs.Bits.{is_flag, is_up, report_flag, raises_of, IsNamed}
use Rattle.realtime_flags.specs.Bytes.{flag_of_byte}
use Rattle.pulse_engine.specs.Logs.{PieceLog, pieces_of, got_since, counted, uncounted, halts_of, IsCounted, HasTick, SawStop}
use Rattle.pulse_engine.specs.Logs.PieceEvent.{asked as stop_asked, ticked, halted}
use Rattle.pulse_engine.specs.Logs.PieceEvent.{got as piece_came}
use Rattle.status_report.specs.declared.Reply.{Reply}
use Rattle.status_report.specs.declared.Reply.TheVariants as replies
use Rattle.status_report.specs.Answering.{banners_in}
use Rattle.host_journal.specs.Ports.{TakesByte, TakesRaise, SeemsFull, AnswersLines, PortsAgree}
use Rattle.code_table.specs.Tables.{query}
use Rattle.host_journal.specs.Steps.{stored_in, stored_at_banners, got_in, latest_got, marks_in, marks_at_banners, is_shut_in}
use Rattle.serial_ring.specs.Logs as link
use Rattle.serial_ring.specs.Logs.{greeted_in, taken_at_banners, answers_since, lfs_since}
use Rattle.board_journal.proofs.LinkSteps.{taken_back, same_taken}
use Rattle.host_journal.specs.Steps.{HostLog}
use Rattle.host_journal.specs.Steps.PortStep.{stored, dropped, marked, raised, got}
use Rattle.list_ports.specs.Asked.{AsksBetween, LooksFirst, AsksPass, report_is_up, raised_behind, words_behind, told_by, resets_taken, has_looked}
use Rattle.list_ports.specs.Joining.{Listed, FlagsPass, MarksPass, RepliesPass, Joined, with_flag, one_if_some}
use Rattle.host_journal.specs.Raises.{raised_to, raises_in}
use Rattle.board_journal.specs.Takes.{takes_in}
use Rattle.list_ports.proofs.Asks as reports
use Rattle.list_ports.proofs.Links as links
use Rattle.list_ports.proofs.Marking as marks
use Rattle.list_ports.proofs.Moments as moments
use Rattle.list_ports.proofs.Pieces as pieces
use Rattle.list_ports.proofs.Quiet as quiet
use Rattle.list_ports.proofs.Raising as words

module _ (l : Listed) (host : HostLog) (board : BoardLog) (pulse : PieceLog) (j : Joined l host board pulse) where
  -- ---- the host

  pub byte_dropped : (room b : ℕ) → room ≤ length l.bytes → Joined l (dropped b ∷ host) board pulse × SeemsFull room host
  byte_dropped room b many = (
    record { bytes = j.bytes; replies = j.replies; marks = j.marks; in_time = j.in_time; flags = j.flags; pieces = j.pieces; stops = j.stops; asks = j.asks },
    marks.seems_full l.bytes l.closed (is_shut_in host) (has_closed_in board) l.replies l.stored l.mark host board j.bytes j.replies j.marks room many,
  )

  pub byte_stored : (b : ℕ) → TakesByte host → Joined (record l { bytes = l.bytes ++ b ∷ []; stored = l.stored + 1 }) (stored b ∷ host) board pulse
  byte_stored b takes = record {
    bytes = record {
      fifo = ap (λ (z : List ℕ). z ++ b ∷ []) j.bytes.fifo ∙ append_assoc (taken_in board) l.bytes (b ∷ []);
      short = (let f = takes.few in let a = length-append (stored_in host) (b ∷ []) in omega (arith, f, a));
      shut_is = j.bytes.shut_is;
      all = λ over. absurd (let o = (j.bytes.all over).0 in let s = j.bytes.shut_is in let g = takes.going in cc);
    };
    replies = j.replies;
    marks = marks.byte_stored l.stored l.mark l.replies (stored_in host) (marks_in host) (marks_at_banners host) (link_steps board) j.marks b;
    in_time = j.in_time;
    flags = j.flags;
    pieces = j.pieces;
    stops = j.stops;
    asks = j.asks;
  }

  pub mark_stored : Joined (record l { mark = (l.mark.0 + 1, l.stored) }) (marked ∷ host) board pulse
  mark_stored = record { bytes = j.bytes; replies = j.replies; marks = marks.mark_stored l.stored l.mark l.replies (stored_in host) (marks_in host) (marks_at_banners host) (link_steps board) j.marks; in_time = j.in_time; flags = j.flags; pieces = j.pieces; stops = j.stops; asks = j.asks }

  -- the next reply is got
  module _ (r : Reply) (ws : List Reply) (e : l.replies ≡ r ∷ ws) where
    replies_got : RepliesPass ws (answered_in board) (got_in (got r ∷ host)) (taken_in board)
    replies_got = record { fifo = j.replies.fifo ∙ (ap (λ (z : List Reply). got_in host ++ z) e ∙ sym (append_assoc (got_in host) (r ∷ []) ws)); fewer = j.replies.fewer }

    marks_got : MarksPass l.stored l.mark ws (stored_in host) (marks_in host) (marks_at_banners (got r ∷ host)) (link_steps board)
    marks_got =
        let b = marks.banners_are l.replies host board j.replies in let n = ap banners_in e in
        marks.reply_got l.stored l.mark r ws (stored_in host) (marks_in host) (marks_at_banners host) (link_steps board)
        (subst (λ (z : List Reply). MarksPass l.stored l.mark z (stored_in host) (marks_in host) (marks_at_banners host) (link_steps board)) e j.marks) (omega arith)

    pub reply_got : Joined (record l { replies = ws }) (got r ∷ host) board pulse
    reply_got = record {
      bytes = j.bytes;
      replies = replies_got;
      marks = marks_got;
      in_time = moments.reply_got r ws host board (j.replies.fifo ∙ ap (λ (z : List Reply). got_in host ++ z) e)
          (let f = ap length j.bytes.fifo in let a = length-append (taken_in board) l.bytes in let s = same_taken board in omega (arith, f, a, s)) j.in_time;
      flags = j.flags;
      pieces = j.pieces;
      stops = j.stops;
      asks = j.asks;
    }

    -- each line that it answers was stored
    pub lines_answered : AnswersLines (got r ∷ host)
    lines_answered = marks.answers_lines l.bytes l.closed (is_shut_in host) (has_closed_in board) ws l.stored l.mark (got r ∷ host) board j.bytes replies_got marks_got

  queries_few : (b : ℕ) (f : Flag) → flag_of_byte b ≡ Some f → TakesRaise b host → is_flag report_flag f ≡ true → raises_of report_flag (raises_in host) < 2 ^ 31
  queries_few b f is may asked =
      let same : nat_eq b query ≡ true = words.only_query b (ap words.asks is ∙ asked) in
      let few = may (grind (arith, nat_tests, same)) in
      let q = words.few_queries host in omega arith

  abbrev flag_down : Flag → Bool
  flag_down f = not (is_up f (l.exec ∷ l.override ∷ []))

  raises_of_byte : (b : ℕ) (o : Option Flag) (found_down : Bool) (exec override : ℕ) → flag_of_byte b ≡ o → FlagsPass exec override (raised_to o found_down (raises_in host)) (takes_in board)
      → FlagsPass exec override (raises_in (raised b found_down ∷ host)) (takes_in board)
  raises_of_byte b o found_down exec override is p = let Q : Option Flag → Type 0 = λ f. FlagsPass exec override (raised_to f found_down (raises_in host)) (takes_in board) in subst Q (sym is) p

  raised_asks : (b : ℕ) (found_down up : Bool) → (up ≡ true → (report_is_up l.exec ≡ true) ⊎ ((nat_eq b query ≡ true) × (found_down ≡ true))) → AsksBetween (raised b found_down ∷ host) → LooksFirst board
      → AsksPass up (λ e k. raised_behind e k (raised b found_down ∷ host)) (λ e k. words_behind e k board) (told_by board) (answers_since (link_steps board)) (lfs_since (link_steps board)) (resets_taken board) (has_looked board)
  raised_asks b found_down up how between looks =
      reports.asks_raised (report_is_up l.exec) up found_down (nat_eq b query) (λ e k. raised_behind e k host) (λ e k. words_behind e k board)
      (latest_got host) (told_by board) (answers_since (link_steps board)) (lfs_since (link_steps board)) (resets_taken board) (has_looked board) how
      (λ t. quiet.all_answered l.bytes l.replies l.stored l.mark host board j.bytes.fifo j.replies j.marks (between.0 (grind (arith, nat_tests, t)))
      (quiet.resets_few (l.exec ∷ l.override ∷ []) host board j.flags.balance)) (j.asks between.1 looks)

  pub flag_raised : (b : ℕ) (f : Flag) → flag_of_byte b ≡ Some f → IsNamed f → TakesRaise b host → (found_down : Bool) × Joined (with_flag f l) (raised b found_down ∷ host) board pulse
  flag_raised b (flags.Exec place) is named may = (
    flag_down (flags.Exec place),
    record {
      bytes = j.bytes;
      replies = j.replies;
      marks = j.marks;
      in_time = j.in_time;
      flags = raises_of_byte b (Some (flags.Exec place)) _ _ _ is (words.exec_raised l.exec l.override place (raises_in host) (takes_in board) named j.flags (queries_few b (flags.Exec place) is may));
      pieces = j.pieces;
      stops = j.stops;
      asks = raised_asks b _ _ (reports.up_by b l.exec l.override place is);
    },
  )
  flag_raised b (flags.Override place) is named may = (
    flag_down (flags.Override place),
    record {
      bytes = j.bytes;
      replies = j.replies;
      marks = j.marks;
      in_time = j.in_time;
      flags = raises_of_byte b (Some (flags.Override place)) _ _ _ is (words.override_raised l.exec l.override place (raises_in host) (takes_in board) named j.flags);
      pieces = j.pieces;
      stops = j.stops;
      asks = raised_asks b _ _ (λ up. inl up);
    },
  )

  -- ---- the board

  -- while fewer bytes are taken than were stored before a mark, some wait
  pub byte_waits : IsMarkedPast board → 0 < length l.bytes
  byte_waits past = marks.some_wait l.bytes l.closed (is_shut_in host) (has_closed_in board) l.replies l.stored l.mark host board j.bytes j.replies j.marks past

  pub reports_few : asks_report (record { 0 = l.exec }) ≡ true → HasFewReports board
  reports_few asked =
      let t = words.few_reports 0 l.override (raises_in host) (takes_in (took_exec (record { 0 = l.exec }) ∷ board)) (words.exec_taken l.exec l.override (raises_in host) (takes_in board) j.flags) in
      let r = words.reports_are (took_exec (record { 0 = l.exec }) ∷ board) in
      let n = words.report_more l.exec board asked in omega arith

  pub reply_answered : (r : Reply) → MayAnswer board r → Joined (record l { replies = l.replies ++ r ∷ [] }) host (said r ∷ board) pulse
  reply_answered (replies.Report r) may = record {
    bytes = j.bytes;
    replies = links.reply_told l.replies (answered_in board) (got_in host) (taken_in board) (replies.Report r) (λ e. absurd cc) j.replies;
    marks = marks.reply_answered l.stored l.mark l.replies (stored_in host) (marks_in host) (marks_at_banners host) (link_steps board) j.marks (replies.Report r) may;
    in_time = j.in_time;
    flags = j.flags;
    pieces = j.pieces;
    stops = j.stops;
    asks = λ between looks. reports.asks_answered _ _ _ (told_by board) (replies.Report r) _ _ _ _ (j.asks between looks) (λ e. absurd cc) (λ e. absurd cc);
  }
  reply_answered r may = record {
    bytes = j.bytes;
    replies = links.reply_told l.replies (answered_in board) (got_in host) (taken_in board) r (marks.may_line board r j.marks.well may) j.replies;
    marks = marks.reply_answered l.stored l.mark l.replies (stored_in host) (marks_in host) (marks_at_banners host) (link_steps board) j.marks r may;
    in_time = moments.reply_answered r (length (link.taken_in (link_steps board))) (taken_at_banners (link_steps board)) (stored_at_banners host) j.in_time;
    flags = j.flags;
    pieces = j.pieces;
    stops = j.stops;
    asks = λ between looks. reports.asks_answered _ _ _ (told_by board) r _ _ _ _ (j.asks between looks.1) (λ e. (may.line e, looks.0.line e)) looks.0.banner;
  }

  pub piece_published : (p : Piece) → MayPublish board p → length l.pieces + one_if_some l.left < most_unfinished → Joined (record l { pieces = l.pieces ++ p ∷ [] }) host (published p ∷ board) pulse
  piece_published p may room = record {
    bytes = j.bytes;
    replies = j.replies;
    marks = j.marks;
    in_time = j.in_time;
    flags = j.flags;
    pieces = pieces.piece_published l.pieces l.left l.done l.stop (sent_in board) (known_in board) (pieces_of pulse) (got_since pulse) (counted pulse) (uncounted pulse) (halts_of pulse) j.pieces p may room;
    stops = j.stops;
    asks = j.asks;
  }

  -- all pieces that wait are unfinished, where one more may be published
  pub all_unfinished : (p : Piece) → MayPublish board p → unfinished l.pieces 0 ≡ length l.pieces
  all_unfinished p may =
      pieces.waiting_unfinished l.pieces l.left l.done l.stop (sent_in board) (got_since pulse) (halts_of pulse)
      (pieces.runs_on l.pieces l.left l.done l.stop (sent_in board) (got_since pulse) (halts_of pulse) may.running j.pieces.phase) j.pieces.turns may.going

  pub piece_handed_back : unfinished l.pieces 0 ≡ length l.pieces → most_unfinished ≤ length l.pieces + one_if_some l.left → Joined l host (no_piece_room l.done ∷ board) pulse × LacksPieceRoom l.done board
  piece_handed_back all many = (
    record { bytes = j.bytes; replies = j.replies; marks = j.marks; in_time = j.in_time; flags = j.flags; pieces = j.pieces; stops = j.stops; asks = j.asks },
    record {
      later = j.pieces.known_is;
      full = pieces.five_unfinished l.pieces l.left l.done l.stop (sent_in board) (got_since pulse) (halts_of pulse)
          (pieces.many_wait l.pieces l.left l.done l.stop (sent_in board) (got_since pulse) (halts_of pulse) many j.pieces.phase) j.pieces.few all many;
    },
  )

  may_be_done : MayBeDone l.done board
  may_be_done = record { later = j.pieces.known_is; below = j.pieces.within; few = j.pieces.few }

  pub done_loaded : Joined l host (loaded l.done ∷ board) pulse × MayBeDone l.done board
  done_loaded = (
    record {
      bytes = j.bytes;
      replies = j.replies;
      marks = j.marks;
      in_time = j.in_time;
      flags = j.flags;
      pieces = pieces.done_loaded l.pieces l.left l.done l.stop (sent_in board) (known_in board) (pieces_of pulse) (got_since pulse) (counted pulse) (uncounted pulse) (halts_of pulse) j.pieces;
      stops = j.stops;
      asks = j.asks;
    },
    may_be_done,
  )

  -- a stop that is stored behind the pieces so far waits for its halt
  pub stop_stored : MayStop board → Joined (record l { stop = true }) host (stored_stop ∷ board) pulse
  stop_stored may = record {
    bytes = j.bytes;
    replies = j.replies;
    marks = j.marks;
    in_time = j.in_time;
    flags = j.flags;
    pieces = pieces.stop_stored l.pieces l.left l.done l.stop (sent_in board) (known_in board) (pieces_of pulse) (got_since pulse) (counted pulse) (uncounted pulse) (halts_of pulse) j.pieces may.running;
    stops = λ shown. refl;
    asks = j.asks;
  }

-- ---- the pulse

module _ (l : Listed) (host : HostLog) (board : BoardLog) (pulse : PieceLog) (j : Joined l host board pulse) where
  pub stop_shown : (b : Bool) → b ≡ l.stop → Joined l host board (stop_asked b ∷ pulse)
  stop_shown b is = record {
    bytes = j.bytes;
    replies = j.replies;
    marks = j.marks;
    in_time = j.in_time;
    flags = j.flags;
    pieces = j.pieces;
    stops = λ shown. sym is ∙ shown;
    asks = j.asks;
  }

  -- it has halted: all pieces that waited are dropped, the latest first
  pub pulse_halted : SawStop pulse → Joined (record l { pieces = []; left = 0; stop = false }) host board (halted (reverse l.pieces) ∷ pulse)
  pulse_halted saw = record {
    bytes = j.bytes;
    replies = j.replies;
    marks = j.marks;
    in_time = j.in_time;
    flags = j.flags;
    pieces = pieces.pieces_dropped l.pieces l.left l.done l.stop (sent_in board) (known_in board) (pieces_of pulse) (got_since pulse) (counted pulse) (uncounted pulse) (halts_of pulse) j.pieces (j.stops saw);
    stops = λ shown. absurd cc;
    asks = j.asks;
  }

  pub piece_got : (p : Piece) (ws : List Piece) → l.pieces ≡ p ∷ ws → IsCounted pulse → Joined (record l { pieces = ws; left = tick_count p }) host board (piece_came p ∷ pulse) × ComesNext (got_since pulse) p
  piece_got p ws are all =
      let q = rw are at j.pieces in (
        record {
          bytes = j.bytes;
          replies = j.replies;
          marks = j.marks;
          in_time = j.in_time;
          flags = j.flags;
          pieces = pieces.piece_got p ws l.left l.done l.stop (sent_in board) (known_in board) (pieces_of pulse) (got_since pulse) (counted pulse) (uncounted pulse) (halts_of pulse) q all;
          stops = j.stops;
          asks = j.asks;
        },
        pieces.piece_comes p ws l.left l.done l.stop (sent_in board) (known_in board) (pieces_of pulse) (got_since pulse) (counted pulse) (uncounted pulse) (halts_of pulse) q,
      )

  pub tick_counted : HasTick pulse → Joined (record l { left = l.left - 1; done = l.done + 1 }) host board (ticked ∷ pulse)
  tick_counted more = record {
    bytes = j.bytes;
    replies = j.replies;
    marks = j.marks;
    in_time = j.in_time;
    flags = j.flags;
    pieces = pieces.tick_counted l.pieces l.left l.done l.stop (sent_in board) (known_in board) (pieces_of pulse) (got_since pulse) (counted pulse) (uncounted pulse) (halts_of pulse) j.pieces more;
    stops = j.stops;
    asks = j.asks;
  }

  pub few_done : l.done < 2 ^ 62
  few_done = let q = j.pieces.short in omega arith

  -- ---- both

  -- what host and board have done agrees
  pub ports_agree : PortsAgree host (link_steps board) (has_closed_in board)
  ports_agree = record {
    unread = l.bytes;
    bytes = j.bytes.fifo ∙ ap (λ (z : List ℕ). z ++ l.bytes) (taken_back board);
    closes = λ over. sym j.bytes.shut_is ∙ (j.bytes.all over).0;
    all = λ over. (j.bytes.all over).1;
    loads = j.marks.loads;
    well = j.marks.well;
    untaken = reverse l.replies;
    replies = marks.answered_is l.replies host board j.replies;
    ungreeted = take (banners_in l.replies) (greeted_in (link_steps board));
    greeted = drop (banners_in l.replies) (greeted_in (link_steps board));
    banners = sym (take-append-drop (banners_in l.replies) (greeted_in (link_steps board)));
    ungot = take (length (taken_at_banners (link_steps board)) - length (stored_at_banners host)) (taken_at_banners (link_steps board));
    of_got = drop (length (taken_at_banners (link_steps board)) - length (stored_at_banners host)) (taken_at_banners (link_steps board));
    moments = sym (take-append-drop (length (taken_at_banners (link_steps board)) - length (stored_at_banners host)) (taken_at_banners (link_steps board)));
    in_time = j.in_time;
    are = marks.are_greeted l.bytes l.closed (is_shut_in host) (has_closed_in board) l.replies l.stored l.mark host board j.bytes j.replies j.marks;
  }
