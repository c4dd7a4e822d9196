-- What a host makes of its job by itself.
use Rattle.std.proofs.Common.{◌≡◌, ◌≢◌, ℕ, ◌+◌, ◌≤◌, ◌<◌, inl, Bool, true, false, cond, List, [], ◌∷◌, ◌++◌, length, map, take, nat_lt, refl, sym, ap, ◌∙◌, arith, subst, append-nil, length-append}
use Rattle.std.specs.List.{list_any, count_by}
use Rattle.std.proofs.lemmas.Bool.Decides.{nat_tests}
use Rattle.std.proofs.lemmas.List.{length-take, drop_all}
use Rattle.std.specs.Io.KnownBytes.{Consumes, IsAtEnd}
use Rattle.std.proofs.KnownBytes.{Consumes-trans, Consumes-kept}
use Rattle.outside.specs.Causes.{SourceState, SinkState, Rose}
use Rattle.host_journal.specs.Jobs.{sent_text}
use Rattle.run_rules.specs.Readings.{largest_job}
use Rattle.run_rules.specs.Told.{replies_text}
use Rattle.host_journal.specs.declared.Reading.TheVariants.{Ended, Failed, Large, Stopped}
use Rattle.stream_host.specs.declared.line.SentLine.{SentLine}
use Rattle.stream_host.specs.declared.reader.Reader.{Reader}
use Rattle.stream_host.specs.declared.counts.Counts.{Counts}
use Rattle.stream_host.specs.declared.host.Host.{Host}
use Rattle.host_journal.specs.Steps.{Journal, port_log, got_in, got_of, read_of, reading_of, scanned_of, unscanned_of, raw_of, cut_of, live_of, pause_of, this_turn, due_of}
use Rattle.host_journal.specs.Holding.{pauses}
use Rattle.host_journal.specs.Steps.Step.{read_some, read_end, read_failed, scanned, line_over}
use Rattle.stream_host.specs.Conduct.{IsSettled, MayRead, HasWritten, polling, moving}
use Rattle.stream_host.specs.Hosts.{HostFits, KeepsLine, KeepsCounts, NothingPublished, MayReadOn, GaveBytes, GaveEnd, GaveNone, DidAlone, HostTellsOn, TellsJob, unread, awaits_by, ends_turn}
use Rattle.stream_host.proofs.Keeping.{read_is}
use Rattle.stream_host.proofs.Consoles.{quiet_on, looks_on, same_job}
use Rattle.stream_host.proofs.Hosting.{calm_now, none_due_by, nothing_due, ends_is, pause_behind_line, calm_epoch}

-- ---- some bytes are scanned

port_scans : (bytes : List ℕ) (h : Journal) → port_log (map scanned bytes ++ h) ≡ port_log h
port_scans [] h = refl
port_scans (b ∷ bytes) h = port_scans bytes h

read_scans : (bytes : List ℕ) (h : Journal) → read_of (map scanned bytes ++ h) ≡ read_of h
read_scans [] h = refl
read_scans (b ∷ bytes) h = read_scans bytes h

reading_scans : (bytes : List ℕ) (h : Journal) → reading_of (map scanned bytes ++ h) ≡ reading_of h
reading_scans [] h = refl
reading_scans (b ∷ bytes) h = reading_scans bytes h

quiet_scans : (bytes : List ℕ) (h : Journal) → NothingPublished h → NothingPublished (map scanned bytes ++ h)
quiet_scans [] h q = q
quiet_scans (b ∷ bytes) h q = quiet_on (scanned b) (map scanned bytes ++ h) refl (quiet_scans bytes h q)

looks_scans : (bytes : List ℕ) (h : Journal) → count_by polling (this_turn (map scanned bytes ++ h)) ≡ count_by polling (this_turn h)
looks_scans [] h = refl
looks_scans (b ∷ bytes) h = looks_on (scanned b) (map scanned bytes ++ h) refl ∙ looks_scans bytes h

inner_scans : (bytes : List ℕ) → list_any ends_turn (map scanned bytes) ≡ false
inner_scans [] = refl
inner_scans (b ∷ bytes) = inner_scans bytes

moves_scans : (bytes : List ℕ) → 0 < length bytes → list_any moving (map scanned bytes) ≡ true
moves_scans [] some = absurd (let s : 0 < 0 = some in omega arith)
moves_scans (b ∷ bytes) some = refl

pub did_scan : {room : ℕ} (s t : Host) (h : Journal) → t.text ≡ s.text → (bytes : List ℕ) × (0 < length bytes) × HostFits room t (map scanned bytes ++ h)
    → (next : Journal) × DidAlone room s t h next × ((job : SourceState) (console : SinkState) → HostTellsOn s t h next job job console console)
did_scan {room} s t h same (bytes, some, fits) = (
  map scanned bytes ++ h,
  record {
    fits = fits;
    steps = map scanned bytes;
    are = refl;
    inner = inner_scans bytes;
    port = port_scans bytes h;
    quiet = λ q. quiet_scans bytes h q;
    looks = looks_scans bytes h;
    moves = inl (moves_scans bytes some);
  },
  λ job console. record {
    job = λ before j. same_job h (map scanned bytes ++ h) before job (read_scans bytes h) (reading_scans bytes h) j;
    console = λ before j. rw (same, ap (λ (p : List _). replies_text (got_in p)) (port_scans bytes h)) j;
  },
)

-- ---- the job is read

-- all of a piece that is used up is scanned
pub used_up : {room : ℕ} (s : Host) (h : Journal) → HostFits room s h → s.job.end ≤ s.job.place → unscanned_of h ≡ []
used_up {room} s h f used = sym f.job_is.left_is ∙ drop_all s.job.place (take s.job.end s.job.bytes) (let l = length-take s.job.end s.job.bytes in omega arith)

pub may_read : {room : ℕ} (s : Host) (h : Journal) → HostFits room s h → MayReadOn s → s.shut ≡ false → s.alarm ≡ false → awaits_by s.resets ≡ false → IsSettled h → HasWritten h → MayRead h
may_read {room} s h f may going calm epoch settled written = record {
  calm = calm_now s h f calm;
  epoch = calm_epoch s h f epoch;
  going = sym f.shut_is ∙ going;
  on = sym f.job_is.reading_is ∙ may.on;
  sends = ends_is s h f may.scanning ∙ may.sends;
  used = used_up s h f may.used;
  free = (f.line_is.scanning may.scanning).1;
  none_due = none_due_by s h f may.none_due;
  settled = settled;
  shown = written;
}

read_more : (h : Journal) (bytes : List ℕ) (n : ℕ) → read_of h ≡ scanned_of h ++ unscanned_of h → unscanned_of h ≡ [] → n ≡ length (scanned_of h) → n + length bytes ≡ length (read_of h ++ bytes)
read_more h bytes n is none count =
    let a = ap length is in let b = length-append (scanned_of h) (unscanned_of h) in let d = ap length none in let e = length-append (read_of h) bytes in omega arith

never_ended : (b : Bool) {A : Type 0} → cond b Large Stopped ≡ Ended → A
never_ended true e = absurd cc
never_ended false e = absurd cc

never_failed : (b : Bool) {A : Type 0} → cond b Large Stopped ≡ Failed → A
never_failed true e = absurd cc
never_failed false e = absurd cc

-- no read has failed where the job may be read on
still_reads : (h : Journal) → reading_of h ≡ Stopped → reading_of h ≢ Failed
still_reads h on bad = absurd (let e = sym on ∙ bad in cc)

pub did_read : {room : ℕ} (s : Host) (r : Reader) (h : Journal) (now later : SourceState) → HostFits room s h → MayReadOn s → s.shut ≡ false → s.alarm ≡ false → awaits_by s.resets ≡ false → IsSettled h → HasWritten h → GaveBytes s.job r now later
    → (next : Journal) × DidAlone room s (record s { job = r }) h next × ((console : SinkState) → HostTellsOn s (record s { job = r }) h next now later console console)
did_read {room} s r h now later f on going calm epoch settled written gave =
    let may = may_read s h f on going calm epoch settled written in (
      read_some (unread r) ∷ h,
      record {
        fits = record {
          sized = f.sized;
          room_is = f.room_is;
          attended_is = f.attended_is;
          conducted = ((may, gave.some, gave.few), f.conducted);
          job_is = record {
            piece = gave.piece;
            left_is = ap (λ (t : List ℕ). t ++ unread r) (sym may.used);
            reading_is =
                gave.reading ∙ ap (λ q. cond (nat_lt largest_job (s.job.scanned + length (unread r))) Large q) on.on
                ∙ ap (λ n. cond (nat_lt largest_job n) Large Stopped) (read_more h (unread r) s.job.scanned (read_is room h f.conducted) may.used f.job_is.scanned_is);
            scanned_is = gave.scanned ∙ f.job_is.scanned_is;
          };
          line_is = f.line_is;
          due_is = f.due_is;
          asking_is = f.asking_is;
          counts_are = f.counts_are;
          all_are = f.all_are;
          resets_are = f.resets_are;
          polls_are = f.polls_are;
          held_is = f.held_is;
          resumed_is = f.resumed_is;
          greeted_is = f.greeted_is;
          alarm_is = f.alarm_is;
          pause_is = f.pause_is;
          text_is = f.text_is;
          shut_is = f.shut_is;
          bye_is = f.bye_is;
          over = λ e. never_ended (nat_lt largest_job (length (read_of h ++ unread r))) e;
        };
        steps = read_some (unread r) ∷ [];
        are = refl;
        inner = refl;
        port = refl;
        quiet = λ q. quiet_on (read_some (unread r)) h refl q;
        looks = looks_on (read_some (unread r)) h refl;
        moves = inl refl;
      },
      λ console. record {
        job = λ before t. record {
          taken = Consumes-trans _ _ _ (read_of h) (unread r) t.taken gave.taken;
          at_end = λ e. never_ended (nat_lt largest_job (length (read_of h ++ unread r))) e;
          later = (let a = t.later in let b = gave.later in omega arith);
          cause = λ e. never_failed (nat_lt largest_job (length (read_of h ++ unread r))) e;
          same = λ well. gave.same ∙ t.same (still_reads h may.on);
        };
        console = λ before t. t;
      },
    )

pub did_fail : {room : ℕ} (s : Host) (r : Reader) (h : Journal) (now later : SourceState) → HostFits room s h → MayReadOn s → s.shut ≡ false → s.alarm ≡ false → awaits_by s.resets ≡ false → IsSettled h → HasWritten h → GaveNone s.job r now later
    → (next : Journal) × DidAlone room s (record s { job = r }) h next × ((console : SinkState) → HostTellsOn s (record s { job = r }) h next now later console console)
did_fail {room} s r h now later f on going calm epoch settled written gave =
    let may = may_read s h f on going calm epoch settled written in (
      read_failed ∷ h,
      record {
        fits = record {
          sized = f.sized;
          room_is = f.room_is;
          attended_is = f.attended_is;
          conducted = (may, f.conducted);
          job_is = record { piece = gave.piece; left_is = gave.none ∙ sym may.used; reading_is = gave.reading; scanned_is = gave.scanned ∙ f.job_is.scanned_is };
          line_is = f.line_is;
          due_is = f.due_is;
          asking_is = f.asking_is;
          counts_are = f.counts_are;
          all_are = f.all_are;
          resets_are = f.resets_are;
          polls_are = f.polls_are;
          held_is = f.held_is;
          resumed_is = f.resumed_is;
          greeted_is = f.greeted_is;
          alarm_is = f.alarm_is;
          pause_is = f.pause_is;
          text_is = f.text_is;
          shut_is = f.shut_is;
          bye_is = f.bye_is;
          over = λ e. absurd cc;
        };
        steps = read_failed ∷ [];
        are = refl;
        inner = refl;
        port = refl;
        quiet = λ q. quiet_on read_failed h refl q;
        looks = looks_on read_failed h refl;
        moves = inl refl;
      },
      λ console. record {
        job = λ before t. record {
          taken = Consumes-kept _ _ _ (read_of h) t.taken gave.taken;
          at_end = λ e. absurd cc;
          later = (let a = t.later in let b = gave.later in omega arith);
          cause = λ e. (let a = t.later in let rose : Rose now.faults later.faults = gave.rose in omega arith);
          same = λ well. absurd (well refl);
        };
        console = λ before t. t;
      },
    )

at_the_end : (h next : Journal) (before now later : SourceState) → read_of next ≡ read_of h → reading_of next ≡ Ended → Consumes now.left later.left [] → IsAtEnd later.left → now.faults ≤ later.faults → later.faults ≡ now.faults → reading_of h ≡ Stopped → TellsJob h before now → TellsJob next before later
at_the_end h next before now later same ended taken at_end more kept on t = record {
  taken = subst (Consumes before.left later.left) (append-nil (read_of h) ∙ sym same) (Consumes-trans _ _ _ (read_of h) [] t.taken taken);
  at_end = λ e. at_end;
  later = (let a = t.later in omega arith);
  cause = λ e. absurd (let g = sym ended ∙ e in cc);
  same = λ well. kept ∙ t.same (still_reads h on);
}

none_begun : (xs : List ℕ) → nat_lt 0 (length xs) ≡ false → xs ≡ []
none_begun [] e = refl
none_begun (x ∷ xs) e = absurd (grind (arith, nat_tests))

some_begun : (xs : List ℕ) → nat_lt 0 (length xs) ≡ true → 0 < length xs
some_begun xs e = grind (arith, nat_tests)

pub did_end : {room : ℕ} (s : Host) (r : Reader) (h : Journal) (now later : SourceState) → HostFits room s h → MayReadOn s → s.shut ≡ false → s.alarm ≡ false → awaits_by s.resets ≡ false → IsSettled h → HasWritten h → s.line.begun ≡ false → GaveEnd s.job r now later
    → (next : Journal) × DidAlone room s (record s { job = r }) h next × ((console : SinkState) → HostTellsOn s (record s { job = r }) h next now later console console)
did_end {room} s r h now later f on going calm epoch settled written none gave =
    let may = may_read s h f on going calm epoch settled written in
    let raw : raw_of h ≡ [] = none_begun (raw_of h) (sym (f.line_is.scanning on.scanning).0.begun ∙ none) in (
      read_end ∷ h,
      record {
        fits = record {
          sized = f.sized;
          room_is = f.room_is;
          attended_is = f.attended_is;
          conducted = (may, f.conducted);
          job_is = record { piece = gave.piece; left_is = gave.none ∙ sym may.used; reading_is = gave.reading; scanned_is = gave.scanned ∙ f.job_is.scanned_is };
          line_is = f.line_is;
          due_is = f.due_is;
          asking_is = f.asking_is;
          counts_are = f.counts_are;
          all_are = f.all_are;
          resets_are = f.resets_are;
          polls_are = f.polls_are;
          held_is = f.held_is;
          resumed_is = f.resumed_is;
          greeted_is = f.greeted_is;
          alarm_is = f.alarm_is;
          pause_is = f.pause_is;
          text_is = f.text_is;
          shut_is = f.shut_is;
          bye_is = f.bye_is;
          over = λ e. (may.used, raw);
        };
        steps = read_end ∷ [];
        are = refl;
        inner = refl;
        port = refl;
        quiet = λ q. quiet_on read_end h refl q;
        looks = looks_on read_end h refl;
        moves = inl refl;
      },
      λ console. record {
        job = λ before t. at_the_end h (read_end ∷ h) before now later refl refl gave.taken gave.at_end gave.later gave.same may.on t;
        console = λ before t. t;
      },
    )

-- the last line has no LF
pub did_end_line : {room : ℕ} (s : Host) (r : Reader) (l : SentLine) (c : Counts) (h : Journal) (now later : SourceState) → HostFits room s h → MayReadOn s → s.shut ≡ false → s.alarm ≡ false → awaits_by s.resets ≡ false → IsSettled h → HasWritten h → s.line.begun ≡ true → GaveEnd s.job r now later
    → KeepsLine l [] (sent_text (raw_of h) ++ 10 ∷ []) → l.due ≡ s.line.due → KeepsCounts c (live_of h ++ raw_of h ∷ []) (got_of h) → c.all ≡ s.counts.all + 1 → c.pause_at ≡ cond (pauses (raw_of h)) (s.counts.lines + 1) s.counts.pause_at
    → (next : Journal) × DidAlone room s (record s { job = r; line = l; counts = c }) h next × ((console : SinkState) → HostTellsOn s (record s { job = r; line = l; counts = c }) h next now later console console)
did_end_line {room} s r l c h now later f on going calm epoch settled written begun gave line due counts all pause =
    let may = may_read s h f on going calm epoch settled written in (
      line_over ∷ read_end ∷ h,
      record {
        fits = record {
          sized = f.sized;
          room_is = f.room_is;
          attended_is = f.attended_is;
          conducted = (
            record {
              going = may.going;
              calm = may.calm;
              epoch = may.epoch;
              at_end = refl;
              used = may.used;
              some = some_begun (raw_of h) (sym (f.line_is.scanning on.scanning).0.begun ∙ begun);
              sends = may.sends;
              free = may.free;
              none_due = may.none_due;
            },
            (may, f.conducted),
          );
          job_is = record { piece = gave.piece; left_is = gave.none ∙ sym may.used; reading_is = gave.reading; scanned_is = gave.scanned ∙ f.job_is.scanned_is };
          line_is = line;
          due_is = nothing_due l.due (due_of h) (due ∙ on.none_due) may.none_due;
          asking_is = f.asking_is;
          counts_are = counts;
          all_are = all ∙ ap (λ n. n + 1) f.all_are ∙ sym (length-append (cut_of h) (raw_of h ∷ []));
          resets_are = f.resets_are;
          polls_are = f.polls_are;
          held_is = f.held_is;
          resumed_is = f.resumed_is;
          greeted_is = f.greeted_is;
          alarm_is = f.alarm_is;
          pause_is = pause_behind_line s.counts c (raw_of h) (live_of h) (got_of h) (pause_of h) f.counts_are f.pause_is pause;
          text_is = f.text_is;
          shut_is = f.shut_is;
          bye_is = f.bye_is;
          over = λ e. (may.used, refl);
        };
        steps = line_over ∷ read_end ∷ [];
        are = refl;
        inner = refl;
        port = refl;
        quiet = λ q. quiet_on line_over (read_end ∷ h) refl (quiet_on read_end h refl q);
        looks = looks_on line_over (read_end ∷ h) refl ∙ looks_on read_end h refl;
        moves = inl refl;
      },
      λ console. record {
        job = λ before t. at_the_end h (line_over ∷ read_end ∷ h) before now later refl refl gave.taken gave.at_end gave.later gave.same may.on t;
        console = λ before t. t;
      },
    )
