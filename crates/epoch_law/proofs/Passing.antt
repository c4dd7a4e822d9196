-- What a ring of pieces says of a board over its epochs and a pulse, as plain lists.
use Rattle.std.proofs.Common.{◌≡◌, ◌⊎◌, inl, inr, ℕ, ◌≤◌, ◌∷◌, length, reverse, sym, ap, ◌∙◌, subst, arith}
use Rattle.std.proofs.lemmas.List.{reverse-append, length-reverse}
use Rattle.motion_ring.specs.Sides.{published_in, ticks_published}
use Rattle.pulse_engine.specs.Logs.{PieceLog, RecordLog, pieces_of, counted, halts_of, records_put}
use Rattle.pulse_engine.specs.Steps.{Pulsing}
use Rattle.pulse_engine.specs.Turns.{PulseFits}
use Rattle.run_law.proofs.Begins.{ticks_length}
use Rattle.run_rules.specs.declared.State.{State}
use Rattle.step_line.specs.Asking.{ticks_among}
use Rattle.board_journal.specs.Ports.{known_in, sent_in}
use Rattle.board_epochs.specs.Epochs.{Epochs, AreEpochs, log_of}
use Rattle.epoch_records.specs.Publishing.{AreSameHalts}
use Rattle.epoch_runs.specs.Epochs.{halts_seen}
use Rattle.epoch_runs.proofs.Open.{stopping_there}
use Rattle.epoch_law.specs.Joined.{ArePassedSoFar, ArePiecesPassed, HasHaltedUnseen}
use Rattle.epoch_law.specs.Journals.{board_did, pulse_did}

-- so many ticks are put in all: no fewer than the board knows of, and no more than it has published
pub record ArePut (blocks : ℕ) (state : State) (es : Epochs) (h : PieceLog) (k : RecordLog) : Type 0 where
  pub known : known_in (log_of es) ≤ length (ticks_among (records_put k))
  pub within : length (ticks_among (records_put k)) ≤ ticks_published (sent_in (log_of es))
  pub passed : ArePassedSoFar (length (ticks_among (records_put k))) (board_did es) (pulse_did h k)

pub pieces_passed : (blocks : ℕ) (state : State) (es : Epochs) (p : Pulsing) (h : PieceLog) (k : RecordLog) → AreEpochs blocks state es → PulseFits p h k → ArePiecesPassed (sent_in (log_of es)) (known_in (log_of es)) h → ArePut blocks state es h k
pieces_passed blocks state es p h k c fits ring = record {
  known = (let a = ticks_length (records_put k) in let t = fits.ticks in let n = ring.known_is in omega (arith, a, t, n));
  within = (let a = ticks_length (records_put k) in let t = fits.ticks in let l = fits.left in let w = ring.within in omega (arith, a, t, l, w));
  passed = by_halts ring.halts;
}
  where
    unseen_ticks : HasHaltedUnseen (sent_in (log_of es)) h → counted h ≡ length (ticks_among (records_put k))
    unseen_ticks unseen = let a = ticks_length (records_put k) in let t = fits.ticks in let l = fits.left in let none = unseen.none_left in omega (arith, a, t, l, none)

    by_halts : AreSameHalts (halts_seen (sent_in (log_of es))) (halts_of h) ⊎ HasHaltedUnseen (sent_in (log_of es)) h → ArePassedSoFar (length (ticks_among (records_put k))) (board_did es) (pulse_did h k)
    by_halts (inl same) = inl (record {
      pieces = record { rest = reverse ring.rest; is = ap reverse ring.fifo ∙ reverse-append ring.rest (pieces_of h) };
      halts = same;
    })
    by_halts (inr unseen) =
        let seen = halts_seen (sent_in (log_of es)) in
        let all = published_in (sent_in (log_of es)) in
        inr (record {
          stops = stopping_there blocks state es c unseen.waits;
          all = ap reverse (sym unseen.all);
          halts_are = subst (λ (n : ℕ). AreSameHalts ((n, length (ticks_among (records_put k))) ∷ seen) (halts_of h)) (sym (length-reverse all))
              (subst (λ (n : ℕ). AreSameHalts ((length all, n) ∷ seen) (halts_of h)) (unseen_ticks unseen) unseen.halts_are);
        })
