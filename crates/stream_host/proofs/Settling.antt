-- When a host reads its job on, by what is awaited.
use Rattle.std.proofs.Common.{◌≡◌, ℕ, ◌⊎◌, ◌||◌, inl, inr, true, false, [], length, nat_lt, refl, sym, ap, ◌∙◌, subst}
use Rattle.outside.specs.declared.On.TheVariants.{Answer}
use Rattle.outside.specs.declared.Turn.TheVariants.{Wait}
use Rattle.host_journal.specs.declared.Reading.{Reading}
use Rattle.host_journal.specs.declared.Reading.TheVariants.{Stopped}
use Rattle.stream_host.specs.declared.host.Host.{Host}
use Rattle.host_journal.specs.Jobs.{ends_sending}
use Rattle.host_journal.specs.Steps.{Journal, reading_of, scanned_of, unscanned_of, raw_of, answered_of, holds_of}
use Rattle.stream_host.specs.Conduct.{may_be_held, IsSettled, HasNoMore}
use Rattle.stream_host.specs.Hosts.{HostFits, HostWorked, HasPolled, HasShown, MayReadOn}
use Rattle.stream_host.proofs.Keeping.{calm_one}
use Rattle.stream_host.proofs.Hosting.{calm_now, none_due_by, never_raised, ends_is}
use Rattle.stream_host.proofs.JobSteps.{used_up}
use Rattle.stream_host.proofs.Turns.{has_written, one_turn}

-- ---- the machine may be held

pub held_now : {room : ℕ} (s : Host) (h : Journal) → HostFits room s h → (s.held || nat_lt s.counts.answered s.counts.pause_at) ≡ may_be_held h
held_now {room} s h f =
    ap (λ b. b || nat_lt s.counts.answered s.counts.pause_at) f.held_is
    ∙ ap (λ n. holds_of h || nat_lt n s.counts.pause_at) f.counts_are.answered_is
    ∙ ap (λ n. holds_of h || nat_lt (answered_of h) n) f.pause_is

-- ---- a host that may not read on waits

still_sends : (h : Journal) → reading_of h ≡ Stopped → ends_sending (raw_of h) ≡ false → (ends_sending (raw_of h) ≡ true) ⊎ HasNoMore (reading_of h) (unscanned_of h) (raw_of h) (length (scanned_of h)) → ⊥
still_sends h on sends (inl ends) = absurd (let e = sym sends ∙ ends in cc)
still_sends h on sends (inr more) = subst (λ (r : Reading). HasNoMore r (unscanned_of h) (raw_of h) (length (scanned_of h))) on more

pub waits_unsettled : {room : ℕ} (s : Host) (h : Journal) → HostFits room s h → s.alarm ≡ false → HasPolled h → HasShown s.text → MayReadOn s → (IsSettled h → ⊥) → HostWorked room (Wait Answer) s s h h
waits_unsettled {room} s h f calm polled shown may busy =
    let free = (f.line_is.scanning may.scanning).1 in
    let used : unscanned_of h ≡ [] = used_up s h f may.used in
    let on : reading_of h ≡ Stopped = sym f.job_is.reading_is ∙ may.on in
    let sends : ends_sending (raw_of h) ≡ false = ends_is s h f may.scanning ∙ may.sends in
    record {
      fits = f;
      steps = [];
      are = refl;
      inner = refl;
      may = (
        one_turn h polled,
        record {
          poll = polled.poll;
          no_read = λ m. busy m.settled;
          no_scan = λ b m. absurd (let e = sym used ∙ m.next in cc);
          no_line = λ m. absurd (let e = sym on ∙ m.at_end in cc);
          no_mark = λ m. absurd (let e = sym (none_due_by s h f may.none_due) ∙ m.next in cc);
          no_raise = λ b m. never_raised s b h f (none_due_by s h f may.none_due) m;
          no_store = λ b m. absurd (let e = sym free ∙ m.next in cc);
          no_close = λ m. still_sends h on sends (calm_one h (calm_now s h f calm) m.sent).all;
          written = has_written s h f shown;
        },
      );
      moves = λ e. absurd cc;
    }
