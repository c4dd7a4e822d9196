-- What a host tells of its console.
use Rattle.std.proofs.Common.{◌≡◌, ℕ, ◌&&◌, ◌+◌, ◌<◌, ◌||◌, inl, inr, Bool, true, false, cond, not, [], ◌∷◌, length, drop, nat_lt, refl, sym, ap, ◌∙◌, arith, subst}
use Rattle.std.specs.List.{count_by}
use Rattle.std.proofs.lemmas.Bool.Decides.{nat_tests}
use Rattle.std.proofs.lemmas.List.{length-drop}
use Rattle.std.proofs.lemmas.List.Sums.{sum_by-cons}
use Rattle.stream_host.specs.declared.host.Host.{Host}
use Rattle.host_journal.specs.Steps.{Step, Journal, read_of, reading_of, text_of, this_turn}
use Rattle.host_journal.specs.Steps.Step.{wrote, gave_up}
use Rattle.stream_host.specs.Conduct.{publishing, polling}
use Rattle.stream_host.specs.Hosts.{HostFits, NothingPublished}
use Rattle.std.specs.Io.KnownBytes.{Consumes}
use Rattle.std.proofs.lemmas.List.{drop-drop}
use Rattle.outside.specs.Causes.{SourceState, SinkState}
use Rattle.text_writer.specs.Writers.{Writing, Writes, TookSome, WriteFailed, WroteOnce}
use Rattle.text_writer.proofs.Arriving.{well, once_more}
use Rattle.host_journal.specs.Steps.{written_of}
use Rattle.stream_host.specs.Hosts.{DidAlone, HostTellsOn, TellsJob}

-- ---- the console

pub quiet_on : (s : Step) (h : Journal) → publishing s ≡ false → NothingPublished h → count_by publishing (s ∷ this_turn h) ≡ 0
quiet_on s h none quiet = let e = sum_by-cons (λ x. cond (publishing x) 1 0) s (this_turn h) in let f = ap (λ b. cond {A = ℕ} b 1 0) none in omega arith

-- nor is a reply looked for
pub looks_on : (s : Step) (h : Journal) → polling s ≡ false → count_by polling (s ∷ this_turn h) ≡ count_by polling (this_turn h)
looks_on s h none = let e = sum_by-cons (λ x. cond (polling x) 1 0) s (this_turn h) in let f = ap (λ b. cond {A = ℕ} b 1 0) none in omega arith

-- a host that moves its job alone tells as much of it
pub same_job : (h next : Journal) (before now : SourceState) → read_of next ≡ read_of h → reading_of next ≡ reading_of h → TellsJob h before now → TellsJob next before now
same_job h next before now read reading t = record {
  taken = subst (Consumes before.left now.left) (sym read) t.taken;
  at_end = λ e. t.at_end (sym reading ∙ e);
  later = t.later;
  cause = λ e. t.cause (sym reading ∙ e);
  same = λ well. t.same (λ e. well (reading ∙ e));
}

some_waits : (v : Writing) → Writes v → 0 < length v.waiting
some_waits v w = by_test (not v.failed) (nat_lt 0 (length v.waiting)) (v.begun || v.asked || nat_lt 4096 (length v.waiting + 192)) refl w
  where
    by_test : (a b d : Bool) → nat_lt 0 (length v.waiting) ≡ b → (a && (b && d)) ≡ true → 0 < length v.waiting
    by_test true true d is e = grind (arith, nat_tests)
    by_test true false d is e = absurd cc
    by_test false b d is e = absurd cc

wrote_some : {room : ℕ} (s : Host) (w : Writing) (h : Journal) (now later : SinkState) → HostFits room s h → Writes s.text → TookSome s.text w now later → (next : Journal) × DidAlone room s (record s { text = w }) h next × ((job : SourceState) → HostTellsOn s (record s { text = w }) h next job job now later)
wrote_some {room} s w h now later f due took =
    let going : s.text.failed ≡ false = well s.text due in
    let waits = f.text_is.waits going in
    let size = ap length waits ∙ length-drop (written_of h) (text_of h) in
    let some = took.some in let few = took.within in let within = f.text_is.within in
    let left = took.left in (
      wrote took.count ∷ h,
      record {
        fits = record {
          sized = f.sized;
          room_is = f.room_is;
          attended_is = f.attended_is;
          conducted = (record { going = sym f.text_is.failed_is ∙ going; some = took.some; front = omega arith }, f.conducted);
          job_is = f.job_is;
          line_is = f.line_is;
          due_is = f.due_is;
          asking_is = f.asking_is;
          counts_are = f.counts_are;
          all_are = f.all_are;
          resets_are = f.resets_are;
          polls_are = f.polls_are;
          held_is = f.held_is;
          resumed_is = f.resumed_is;
          greeted_is = f.greeted_is;
          alarm_is = f.alarm_is;
          pause_is = f.pause_is;
          text_is = record {
            failed_is = ap (λ v. v.failed) left ∙ f.text_is.failed_is;
            waits = λ e. ap (λ v. v.waiting) left ∙ ap (drop took.count) waits ∙ drop-drop took.count (written_of h) (text_of h);
            within = omega arith;
            all_asked = λ e. ap (λ v. v.asked) left ∙ f.text_is.all_asked e;
          };
          shut_is = f.shut_is;
          bye_is = f.bye_is;
          over = f.over;
        };
        steps = wrote took.count ∷ [];
        are = refl;
        inner = refl;
        port = refl;
        quiet = λ q. quiet_on (wrote took.count) h refl q;
        looks = looks_on (wrote took.count) h refl;
        moves = inl refl;
      },
      λ job. record {
        job = λ before t. same_job h (wrote took.count ∷ h) before job refl refl t;
        console = λ before t. once_more s.text w (text_of h) before now later due (inl took) t;
      },
    )

wrote_none : {room : ℕ} (s : Host) (w : Writing) (h : Journal) (now later : SinkState) → HostFits room s h → Writes s.text → WriteFailed s.text w now later → (next : Journal) × DidAlone room s (record s { text = w }) h next × ((job : SourceState) → HostTellsOn s (record s { text = w }) h next job job now later)
wrote_none {room} s w h now later f due fault =
    let going : s.text.failed ≡ false = well s.text due in
    let waits = f.text_is.waits going in
    let size = ap length waits ∙ length-drop (written_of h) (text_of h) in
    let some = some_waits s.text due in let within = f.text_is.within in
    let gone : w.failed ≡ true = ap (λ v. v.failed) fault.left in (
      gave_up ∷ h,
      record {
        fits = record {
          sized = f.sized;
          room_is = f.room_is;
          attended_is = f.attended_is;
          conducted = (record { going = sym f.text_is.failed_is ∙ going; some = omega arith }, f.conducted);
          job_is = f.job_is;
          line_is = f.line_is;
          due_is = f.due_is;
          asking_is = f.asking_is;
          counts_are = f.counts_are;
          all_are = f.all_are;
          resets_are = f.resets_are;
          polls_are = f.polls_are;
          held_is = f.held_is;
          resumed_is = f.resumed_is;
          greeted_is = f.greeted_is;
          alarm_is = f.alarm_is;
          pause_is = f.pause_is;
          text_is = record {
            failed_is = gone;
            waits = λ e. absurd (let g = sym gone ∙ e in cc);
            within = within;
            all_asked = λ e. ap (λ v. v.asked) fault.left ∙ f.text_is.all_asked e;
          };
          shut_is = f.shut_is;
          bye_is = f.bye_is;
          over = f.over;
        };
        steps = gave_up ∷ [];
        are = refl;
        inner = refl;
        port = refl;
        quiet = λ q. quiet_on gave_up h refl q;
        looks = looks_on gave_up h refl;
        moves = inr (falls w.failed s.text.failed gone going);
      },
      λ job. record {
        job = λ before t. same_job h (gave_up ∷ h) before job refl refl t;
        console = λ before t. once_more s.text w (text_of h) before now later due (inr fault) t;
      },
    )
  where
    falls : (a b : Bool) → a ≡ true → b ≡ false → cond a 0 1 < cond b 0 1
    falls true false e g = omega arith
    falls true true e g = absurd cc
    falls false b e g = absurd cc

pub wrote_on : {room : ℕ} (s : Host) (w : Writing) (h : Journal) (now later : SinkState) → HostFits room s h → Writes s.text → WroteOnce s.text w now later → (next : Journal) × DidAlone room s (record s { text = w }) h next × ((job : SourceState) → HostTellsOn s (record s { text = w }) h next job job now later)
wrote_on {room} s w h now later f due (inl took) = wrote_some s w h now later f due took
wrote_on {room} s w h now later f due (inr fault) = wrote_none s w h now later f due fault
