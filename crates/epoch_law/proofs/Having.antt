-- A pulse and a host that have done their work have run.
use Rattle.std.proofs.Common.{◌≡◌, ℕ, inl, inr, Bool, true, false, ◌&&◌, not, List, [], ◌∷◌, reverse, refl, sym, ap, ◌∙◌, subst}
use Rattle.std.proofs.lemmas.List.{reverse-append}
use Rattle.outside.specs.Causes.{SourceState, SinkState}
use Rattle.pulse_engine.specs.Logs.{PieceLog, RecordLog, end_is_put}
use Rattle.pulse_engine.specs.Steps.{Pulsing}
use Rattle.pulse_engine.specs.Turns.{PulseFits}
use Rattle.pulse_engine.proofs.Whole.{done_put}
use Rattle.run_texts.specs.Sent.{sent_of}
use Rattle.step_line.specs.declared.Piece.TheVariants as pieces
use Rattle.stream_host.specs.Conduct.{Conducted}
use Rattle.stream_host.specs.Ran.{HasFinished, TellsConsole, end_of}
use Rattle.stream_host.specs.Hosts.{TellsJob}
use Rattle.host_journal.specs.Steps.{Journal, is_shut, has_limit, is_attended, scanned_of, cut_of, raw_of, stored_of, marks_of}
use Rattle.stream_host.proofs.Keeping.{IsCut, cut_is}
use Rattle.stream_host.proofs.Running.{has_run_of, ran_lines, runs_of, ran_forgotten}
use Rattle.epoch_links.specs.Pieces.{IsFrontOf}
use Rattle.epoch_links.proofs.Awaiting.{awaits, all_got, got_or_all}
use Rattle.epoch_links.proofs.Sending.{sends_front, sends_all}
use Rattle.epoch_records.specs.Stretches.{stretches_in, pieces_since}
use Rattle.epoch_records.proofs.Pulsing.{all_pieces, halts_end, done_over, since_over}
use Rattle.epoch_law.specs.Journals.{host_did, pulse_did}
use Rattle.epoch_law.specs.Ran.{HasSent, IsRest, Sends, PulseRan}
use Rattle.epoch_law.specs.SoFar.{PulseRuns, Sending}

pub pulse_ran : (p : Pulsing) (h : PieceLog) (k : RecordLog) → PulseFits p h k → end_is_put k ≡ true → PulseRan (pulse_did h k)
pulse_ran p h k fits end =
    let d = done_put p h k fits end in
    record {
      stretches = stretches_in h;
      last = pieces_since h;
      pieces = all_pieces h;
      halted = halts_end h;
      put = done_over p h k fits end;
      before = reverse d.1.0;
      ends = ap reverse d.1.1 ∙ reverse-append (pieces.End ∷ []) d.1.0;
    }

pub pulse_runs : (p : Pulsing) (h : PieceLog) (k : RecordLog) → PulseFits p h k → PulseRuns (pulse_did h k)
pulse_runs p h k fits = record { stretches = stretches_in h; last = pieces_since h; pieces = all_pieces h; halted = halts_end h; put = since_over p h k fits }

-- ---- the host

-- the rest that was scanned is that of its lines
rest_is : (room : ℕ) (h : Journal) → Conducted room h → IsRest (scanned_of h) (cut_of h) (raw_of h)
rest_is room h c = by_cut (cut_is room h c)
  where
    by_cut : IsCut h → IsRest (scanned_of h) (cut_of h) (raw_of h)
    by_cut (inl is) = inl is
    by_cut (inr over) = inr (over.whole, over.none)

-- all is sent out where the link is closed and no alarm was got
sent_shut : (shut limit : Bool) → (shut && not limit) ≡ true → (shut ≡ true) × (limit ≡ false)
sent_shut true false e = (refl, refl)
sent_shut true true e = absurd cc
sent_shut false limit e = absurd cc

pub host_sent : (room : ℕ) (h : Journal) (job_was job_is : SourceState) (console_was console_is : SinkState) → Conducted room h → HasFinished h → TellsJob h job_was job_is → TellsConsole h console_was console_is
    → (sent : HasSent (is_attended h) room job_was job_is console_was console_is (host_did h) (end_of h)) × (sent.ran.scanned ≡ scanned_of h)
host_sent room h job_was job_is console_was console_is c finished job console =
    let ran = has_run_of room h job_was job_is console_was console_is c finished job console in
    let lines : ran.0.lines ≡ cut_of h = ran_lines room h job_was job_is console_was console_is c finished job console in (
      record {
        ran = ran.0;
        rest = raw_of h;
        is_rest = subst (λ (s : List ℕ). IsRest s ran.0.lines (raw_of h)) (sym ran.1) (subst (λ (ls : List (List ℕ)). IsRest (scanned_of h) ls (raw_of h)) (sym lines) (rest_is room h c));
        sends = subst (λ (ls : List (List ℕ)). Sends ls (raw_of h) (host_did h)) (sym lines) (record {
          front = sends_front room h c;
          awaits = awaits room h c;
          waits = got_or_all room h c;
          greeted = λ out. let s = sent_shut (is_shut h) (has_limit h) out in all_got room h c s.0 s.1;
          whole = λ out. let s = sent_shut (is_shut h) (has_limit h) out in sends_all room h c s.0 s.1;
        });
        forgotten = ran_forgotten room h job_was job_is console_was console_is c finished job console;
      },
      ran.1,
    )

-- before it is done
pub host_sends : (room : ℕ) (h : Journal) (job_was job_is : SourceState) (console_was console_is : SinkState) → Conducted room h → TellsJob h job_was job_is → TellsConsole h console_was console_is → Sending (is_attended h) room job_was job_is console_was console_is (host_did h)
host_sends room h job_was job_is console_was console_is c job console =
    let of_host = runs_of room h job_was job_is console_was console_is c job console in
    record {
      runs = of_host.0;
      rest = raw_of h;
      is_rest = subst (λ (s : List ℕ). IsRest s of_host.0.lines (raw_of h)) (sym of_host.1) (subst (λ (ls : List (List ℕ)). IsRest (scanned_of h) ls (raw_of h)) (sym of_host.2) (rest_is room h c));
      front = subst (λ (ls : List (List ℕ)). IsFrontOf (sent_of ls (raw_of h)) (stored_of h) (marks_of h)) (sym of_host.2) (sends_front room h c);
      awaits = awaits room h c;
    }
