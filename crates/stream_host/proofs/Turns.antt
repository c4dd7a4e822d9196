-- The turns of a host.
use Rattle.std.proofs.Common.{◌≡◌, ℕ, ◌≤◌, ◌<◌, ◌||◌, ◌&&◌, inl, inr, Bool, true, false, cond, not, List, [], ◌∷◌, ◌++◌, length, drop, nat_lt, None, Some, refl, sym, ap, ◌∙◌, arith, subst, append_assoc, length-append}
use Rattle.std.specs.List.{count_by}
use Rattle.std.proofs.lemmas.Bool.Decides.{nat_tests}
use Rattle.std.proofs.lemmas.List.{length-drop}
use Rattle.std.proofs.lemmas.List.Folds.{list_any-append}
use Rattle.std.proofs.lemmas.List.Sums.{sum_by-cons}
use Rattle.outside.specs.Causes.{SourceState, SinkState}
use Rattle.outside.specs.declared.On.TheVariants.{Answer}
use Rattle.outside.specs.declared.Turn.{Turn}
use Rattle.outside.specs.declared.Turn.TheVariants.{Did, Wait, Done}
use Rattle.status_report.specs.declared.Reply.{Reply}
use Rattle.text_writer.specs.Writers.{Writing, is_due, with_all_asked}
use Rattle.stream_host.specs.declared.host.Host.{Host}
use Rattle.host_journal.specs.Jobs.{is_reset}
use Rattle.host_journal.specs.Steps.{Step, Journal, awaits_banner, has_limit, is_shut, has_bye, to_store, due_of, awaits_report, text_of, written_of, this_turn, is_attended}
use Rattle.host_journal.specs.Steps.PortStep.{stored, marked, raised, got, no_reply, shut}
use Rattle.host_journal.specs.Steps.Step.{at_port, turned}
use Rattle.stream_host.specs.Conduct.{AreAnswered, waits_for_lines, HasWritten, IsOneTurn, MayShut, publishing, polling, moving}
use Rattle.stream_host.specs.Hosts.{HostFits, HostWorked, HostTurned, HostTellsOn, HasPolled, NothingPublished, IsBetween, DidAlone, HasShown, HostRests, rank, awaits_by, ends_turn}
use Rattle.stream_host.proofs.Keeping.{calm_one}
use Rattle.stream_host.proofs.Raising.{none_due_first}
use Rattle.stream_host.proofs.Consoles.{quiet_on, looks_on, same_job}
use Rattle.stream_host.proofs.Hosting.{calm_now, none_due_by, never_raised, due_next, epoch_now, total_is}

-- ---- what a turn answers

pub did_goes_on : Did ≡ Done → ⊥
did_goes_on e = cc

pub waits_on : Wait Answer ≡ Done → ⊥
waits_on e = cc

-- a test is not both
pub not_both : (b : Bool) → b ≡ false → b ≡ true → ⊥
not_both b e f = cc

-- ---- what waits for the console

none_waits : (v : Writing) → is_due v ≡ false → v.asked ≡ true → v.failed ≡ false → length v.waiting ≡ 0
none_waits v none asked well = by_test v.failed (nat_lt 0 (length v.waiting)) v.begun v.asked _ well asked refl none
  where
    by_test : (f t b a d : Bool) → f ≡ false → a ≡ true → nat_lt 0 (length v.waiting) ≡ t → (not f && (t && ((b || a) || d))) ≡ false → length v.waiting ≡ 0
    by_test f false b a d well asked is e = grind (arith, nat_tests)
    by_test true true b a d well asked is e = absurd cc
    by_test false true true a d well asked is e = absurd cc
    by_test false true false true d well asked is e = absurd cc
    by_test false true false false d well asked is e = absurd cc

pub has_written : {room : ℕ} (s : Host) (h : Journal) → HostFits room s h → HasShown s.text → HasWritten h
has_written {room} s h f shown = by_failed s.text.failed refl
  where
    by_failed : (b : Bool) → s.text.failed ≡ b → HasWritten h
    by_failed true e = inl (sym f.text_is.failed_is ∙ e)
    by_failed false e =
        let none = none_waits s.text shown.none shown.asked e in
        let is = ap length (f.text_is.waits e) ∙ length-drop (written_of h) (text_of h) in
        let within = f.text_is.within in
        inr (omega arith)

-- ---- what a turn does

-- the turn that has polled published nothing
pub one_turn : (h : Journal) → HasPolled h → IsOneTurn h
one_turn h polled = record { once = (let q = polled.quiet in omega arith); polls = polled.once }

-- a step more, which is no poll
pub one_step : (s : Step) (h : Journal) → polling s ≡ false → HasPolled h → (count_by publishing (s ∷ this_turn h) ≤ 1) × (count_by polling (s ∷ this_turn h) ≤ 1)
one_step s h none polled =
    let e = sum_by-cons (λ x. cond {A = ℕ} (publishing x) 1 0) s (this_turn h) in let b = at_most (publishing s) in let q = polled.quiet in
    let l = looks_on s h none in let o = polled.once in ((omega arith), (omega arith))
  where
    at_most : (b : Bool) → cond {A = ℕ} b 1 0 ≤ 1
    at_most true = omega arith
    at_most false = omega arith

pub did_alone : {room : ℕ} (s t : Host) (h next : Journal) → NothingPublished h → count_by polling (this_turn h) ≤ 1 → DidAlone room s t h next → HostWorked room Did s t h next
did_alone {room} s t h next quiet once d = record { fits = d.fits; steps = d.steps; are = d.are; inner = d.inner; may = record { once = (let q = d.quiet quiet in omega arith); polls = (let l = d.looks in omega arith) }; moves = λ e. d.moves }

-- one step at the port
pub did_at_port : {room : ℕ} (s t : Host) (p : Step) (h : Journal) → moving p ≡ true → ends_turn p ≡ false → HostFits room t (p ∷ h) → IsOneTurn (p ∷ h) → HostWorked room Did s t h (p ∷ h)
did_at_port {room} s t p h moves inner fits one = record { fits = fits; steps = p ∷ []; are = refl; inner = ap (λ b. b || false) inner; may = one; moves = λ e. inl (ap (λ b. b || false) moves) }

pub few_stored_now : (b : ℕ) (h : Journal) → HasPolled h → IsOneTurn (at_port (stored b) ∷ h)
few_stored_now b h polled = let o = one_step (at_port (stored b)) h refl polled in record { once = o.0; polls = o.1 }

pub few_shut_now : (h : Journal) → HasPolled h → IsOneTurn (at_port shut ∷ h)
few_shut_now h polled = let o = one_step (at_port shut) h refl polled in record { once = o.0; polls = o.1 }

pub few_marked_now : (h : Journal) → HasPolled h → IsOneTurn (at_port marked ∷ h)
few_marked_now h polled = let o = one_step (at_port marked) h refl polled in record { once = o.0; polls = o.1 }

pub few_raised_now : (b : ℕ) (down : Bool) (h : Journal) → HasPolled h → IsOneTurn (at_port (raised b down) ∷ h)
few_raised_now b down h polled = let o = one_step (at_port (raised b down)) h refl polled in record { once = o.0; polls = o.1 }

pub few_got_now : (r : Reply) (h : Journal) → IsBetween h → IsOneTurn (at_port (got r) ∷ h)
few_got_now r h between = let p = ap (λ (n : Journal). count_by publishing (at_port (got r) ∷ n)) between in let q = ap (λ (n : Journal). count_by polling (at_port (got r) ∷ n)) between in record { once = omega arith; polls = omega arith }

pub tells_marked : (s t : Host) (h : Journal) (job : SourceState) (console : SinkState) → t.text ≡ s.text → HostTellsOn s t h (at_port marked ∷ h) job job console console
tells_marked s t h job console same = record { job = λ before j. same_job h (at_port marked ∷ h) before job refl refl j; console = λ before j. rw same j }

pub tells_stored : (s t : Host) (b : ℕ) (h : Journal) (job : SourceState) (console : SinkState) → t.text ≡ s.text → HostTellsOn s t h (at_port (stored b) ∷ h) job job console console
tells_stored s t b h job console same = record { job = λ before j. same_job h (at_port (stored b) ∷ h) before job refl refl j; console = λ before j. rw same j }

pub tells_raised : (s t : Host) (b : ℕ) (down : Bool) (h : Journal) (job : SourceState) (console : SinkState) → t.text ≡ s.text → HostTellsOn s t h (at_port (raised b down) ∷ h) job job console console
tells_raised s t b down h job console same = record { job = λ before j. same_job h (at_port (raised b down) ∷ h) before job refl refl j; console = λ before j. rw same j }

pub tells_resumed : (s t : Host) (b : ℕ) (down : Bool) (h : Journal) (job : SourceState) (console : SinkState) → t.text ≡ s.text → HostTellsOn s t h (at_port (raised b down) ∷ at_port no_reply ∷ h) job job console console
tells_resumed s t b down h job console same = record { job = λ before j. same_job h (at_port (raised b down) ∷ at_port no_reply ∷ h) before job refl refl j; console = λ before j. rw same j }

pub tells_shut : (s t : Host) (h : Journal) (job : SourceState) (console : SinkState) → t.text ≡ s.text → HostTellsOn s t h (at_port shut ∷ h) job job console console
tells_shut s t h job console same = record { job = λ before j. same_job h (at_port shut ∷ h) before job refl refl j; console = λ before j. rw same j }

pub tells_same : (s : Host) (h : Journal) (job : SourceState) (console : SinkState) → HostTellsOn s s h h job job console console
tells_same s h job console = record { job = λ before j. j; console = λ before j. j }

-- ---- a reply is waited for

some_left : (xs : List ℕ) (n : ℕ) (ys : List ℕ) → xs ≡ drop n (ys ++ 10 ∷ []) → n ≤ length ys → xs ≡ [] → ⊥
some_left xs n ys is within none =
    let a = ap length (sym is ∙ none) in let b = length-drop n (ys ++ 10 ∷ []) in let d = length-append ys (10 ∷ []) in absurd (omega arith)

-- a byte that is due waits for the answers to the lines before its own
pub waits_early : {room : ℕ} (s : Host) (b : ℕ) (h : Journal) → HostFits room s h → s.alarm ≡ false → HasPolled h → HasShown s.text → s.line.due ≡ Some b → ((is_attended h ≡ false → waits_for_lines b ≡ true → AreAnswered h) → ⊥) → HostWorked room (Wait Answer) s s h h
waits_early {room} s b h f calm polled shown is early =
    let due = due_next s b h f is in
    let busy : due_of h ≡ [] → ⊥ = (λ e. absurd (let g = sym due ∙ e in cc)) in
    record {
      fits = f;
      steps = [];
      are = refl;
      inner = refl;
      may = (
        one_turn h polled,
        record {
          poll = polled.poll;
          no_read = λ m. busy m.none_due;
          no_scan = λ d m. busy m.none_due;
          no_line = λ m. busy m.none_due;
          no_mark = λ m. early (λ a q. absurd (let x = same_first 0x18 b (drop 1 (due_of h)) (sym m.next ∙ due) in let g = ap waits_for_lines x ∙ q in cc));
          no_raise = λ d m. early (subst (λ x. is_attended h ≡ false → waits_for_lines x ≡ true → AreAnswered h) (same_first d b (drop 1 (due_of h)) (sym (m.next f.polls_are.rested) ∙ due)) m.after);
          no_store = λ d m. busy (none_due_first room d h f.conducted m);
          no_close = λ m. busy (calm_one h (calm_now s h f calm) m.all_raised);
          written = has_written s h f shown;
        },
      );
      moves = λ e. absurd cc;
    }
  where
    same_first : (x y : ℕ) (xs : List ℕ) → x ∷ xs ≡ y ∷ [] → x ≡ y
    same_first x y xs e = cc

-- a line waits for a report, or for room
pub waits_held_back : {room : ℕ} (s : Host) (h : Journal) → HostFits room s h → s.alarm ≡ false → HasPolled h → HasShown s.text → s.line.due ≡ None → s.line.whole ≡ true → ((awaits_report h ≡ false) × (s.counts.unanswered.total ≤ room) → ⊥) → HostWorked room (Wait Answer) s s h h
waits_held_back {room} s h f calm polled shown none whole held =
    let is = f.line_is.storing whole in
    let busy : to_store h ≡ [] → ⊥ = some_left (to_store h) s.line.place s.line.kept.items is.left_is is.within in
    record {
      fits = f;
      steps = [];
      are = refl;
      inner = refl;
      may = (
        one_turn h polled,
        record {
          poll = polled.poll;
          no_read = λ m. busy m.free;
          no_scan = λ b m. busy m.free;
          no_line = λ m. busy m.free;
          no_mark = λ m. absurd (let e = sym (none_due_by s h f none) ∙ m.next in cc);
          no_raise = λ b m. never_raised s b h f (none_due_by s h f none) m;
          no_store = λ b m. held (m.reported, (let t = total_is s h f in let r = m.few in omega arith));
          no_close = λ m. busy (calm_one h (calm_now s h f calm) m.sent).free;
          written = has_written s h f shown;
        },
      );
      moves = λ e. absurd cc;
    }

pub waits_shut : {room : ℕ} (s : Host) (h : Journal) → HostFits room s h → HasPolled h → HasShown s.text → s.line.due ≡ None → s.line.whole ≡ false → s.shut ≡ true → HostWorked room (Wait Answer) s s h h
waits_shut {room} s h f polled shown none whole closed =
    let over : is_shut h ≡ false → ⊥ = (λ e. absurd (let g = sym closed ∙ f.shut_is ∙ e in cc)) in
    let free = (f.line_is.scanning whole).1 in
    record {
      fits = f;
      steps = [];
      are = refl;
      inner = refl;
      may = (
        one_turn h polled,
        record {
          poll = polled.poll;
          no_read = λ m. over m.going;
          no_scan = λ b m. over m.going;
          no_line = λ m. over m.going;
          no_mark = λ m. absurd (let e = sym (none_due_by s h f none) ∙ m.next in cc);
          no_raise = λ b m. never_raised s b h f (none_due_by s h f none) m;
          no_store = λ b m. absurd (let g = sym free ∙ m.next in cc);
          no_close = λ m. over m.going;
          written = has_written s h f shown;
        },
      );
      moves = λ e. absurd cc;
    }

-- behind an alarm nothing is done where the link may not be closed
pub waits_at_alarm : {room : ℕ} (s : Host) (h : Journal) → HostFits room s h → HasPolled h → HasShown s.text → s.alarm ≡ true → (MayShut h → ⊥) → HostWorked room (Wait Answer) s s h h
waits_at_alarm {room} s h f polled shown alarm no_shut =
    let loud : has_limit h ≡ false → ⊥ = (λ e. absurd (let g = sym alarm ∙ f.alarm_is ∙ e in cc)) in
    record {
      fits = f;
      steps = [];
      are = refl;
      inner = refl;
      may = (
        one_turn h polled,
        record {
          poll = polled.poll;
          no_read = λ m. loud m.calm;
          no_scan = λ b m. loud m.calm;
          no_line = λ m. loud m.calm;
          no_mark = λ m. loud m.calm;
          no_raise = λ b m. loud (m.calm f.polls_are.rested);
          no_store = λ b m. loud m.calm;
          no_close = no_shut;
          written = has_written s h f shown;
        },
      );
      moves = λ e. absurd cc;
    }

-- it may not where it is closed, nor where a Banner is awaited
pub shut_already : {room : ℕ} (s : Host) (h : Journal) → HostFits room s h → s.shut ≡ true → MayShut h → ⊥
shut_already {room} s h f closed may = absurd (let g = sym closed ∙ f.shut_is ∙ may.going in cc)

pub shut_later : {room : ℕ} (s : Host) (h : Journal) → HostFits room s h → awaits_by s.resets ≡ true → MayShut h → ⊥
shut_later {room} s h f awaits may = absurd (let g = sym awaits ∙ epoch_now s h f ∙ may.epoch in cc)

-- a reset whose mark is not stored
pub wants : (t : Bool) (b : ℕ) (marked_now : Bool) → t ≡ (is_reset b && not marked_now) → t ≡ true → (b ≡ 0x18) × (marked_now ≡ false)
wants t b m is so = by_tests (is_reset b) m refl (sym is ∙ so)
  where
    by_tests : (u v : Bool) → is_reset b ≡ u → (u && not v) ≡ true → (b ≡ 0x18) × (v ≡ false)
    by_tests true false e f = ((grind (arith, nat_tests)), refl)
    by_tests true true e f = absurd cc
    by_tests false v e f = absurd cc

pub wants_none : (t : Bool) (b : ℕ) (marked_now : Bool) → t ≡ (is_reset b && not marked_now) → t ≡ false → is_reset b ≡ true → marked_now ≡ true
wants_none t b m is none reset = by_tests m (sym (ap (λ u. u && not m) reset) ∙ sym is ∙ none)
  where
    by_tests : (v : Bool) → (true && not v) ≡ false → v ≡ true
    by_tests true f = refl
    by_tests false f = absurd cc

-- a Banner is waited for
pub waits_for_banner : {room : ℕ} (s : Host) (h : Journal) → HostFits room s h → HasPolled h → HasShown s.text → s.line.due ≡ None → awaits_by s.resets ≡ true → HostWorked room (Wait Answer) s s h h
waits_for_banner {room} s h f polled shown none awaits =
    let busy : awaits_banner h ≡ false → ⊥ = (λ e. absurd (let g = sym awaits ∙ epoch_now s h f ∙ e in cc)) in
    record {
      fits = f;
      steps = [];
      are = refl;
      inner = refl;
      may = (
        one_turn h polled,
        record {
          poll = polled.poll;
          no_read = λ m. busy m.epoch;
          no_scan = λ b m. busy m.epoch;
          no_line = λ m. busy m.epoch;
          no_mark = λ m. absurd (let e = sym (none_due_by s h f none) ∙ m.next in cc);
          no_raise = λ b m. never_raised s b h f (none_due_by s h f none) m;
          no_store = λ b m. busy m.epoch;
          no_close = λ m. busy m.epoch;
          written = has_written s h f shown;
        },
      );
      moves = λ e. absurd cc;
    }

-- ---- the whole turn

pub all_asked : {room : ℕ} (s : Host) (h : Journal) → HostFits room s h → HostFits room (record s { text = with_all_asked s.text }) h
all_asked {room} s h f = record {
  sized = f.sized;
  room_is = f.room_is;
  attended_is = f.attended_is;
  conducted = f.conducted;
  job_is = f.job_is;
  line_is = f.line_is;
  due_is = f.due_is;
  asking_is = f.asking_is;
  counts_are = f.counts_are;
  all_are = f.all_are;
  resets_are = f.resets_are;
  polls_are = f.polls_are;
  held_is = f.held_is;
  resumed_is = f.resumed_is;
  greeted_is = f.greeted_is;
  alarm_is = f.alarm_is;
  pause_is = f.pause_is;
  text_is = record { failed_is = f.text_is.failed_is; waits = f.text_is.waits; within = f.text_is.within; all_asked = λ e. refl };
  shut_is = f.shut_is;
  bye_is = f.bye_is;
  over = f.over;
}

pub quiet_between : (h : Journal) → IsBetween h → NothingPublished h
quiet_between h between = ap (count_by publishing) between

pub polls_between : (h : Journal) → IsBetween h → count_by polling (this_turn h) ≤ 1
polls_between h between = let e = ap (count_by polling) between in omega arith

pub has_polled : (h : Journal) → IsBetween h → HasPolled (at_port no_reply ∷ h)
has_polled h between = record { poll = refl; once = (let e = ap (λ (n : Journal). count_by polling (at_port no_reply ∷ n)) between in omega arith); quiet = quiet_on (at_port no_reply) h refl (quiet_between h between) }

-- what is done behind a poll is done in the turn
pub worked_on : {room : ℕ} (t : Turn) (s v u : Host) (h next : Journal) → v.text ≡ s.text → HostWorked room t v u (at_port no_reply ∷ h) next → HostWorked room t s u h next
worked_on {room} t s v u h next same w = record {
  fits = w.fits;
  steps = w.steps ++ at_port no_reply ∷ [];
  are = w.are ∙ sym (append_assoc w.steps (at_port no_reply ∷ []) h);
  inner = list_any-append ends_turn w.steps (at_port no_reply ∷ []) ∙ ap (λ b. b || false) w.inner;
  may = w.may;
  moves = λ e. elim (w.moves e) [
    | inl any ↦ inl (list_any-append moving w.steps (at_port no_reply ∷ []) ∙ ap (λ b. b || false) any)
    | inr less ↦ inr (subst (λ (x : Writing). rank u < cond {A = ℕ} x.failed 0 1) same less)
  ];
}

pub tells_polled : (s v u : Host) (h next : Journal) (job later : SourceState) (now after : SinkState) → v.text ≡ s.text → HostTellsOn v u (at_port no_reply ∷ h) next job later now after → HostTellsOn s u h next job later now after
tells_polled s v u h next job later now after same t = record {
  job = λ before j. t.job before (same_job h (at_port no_reply ∷ h) before job refl refl j);
  console = λ before j. t.console before (rw same j);
}

pub is_done : {room : ℕ} (s : Host) (h : Journal) → HostFits room s h → IsBetween h → HostRests s → HostWorked room Done s s h h
is_done {room} s h f between rests =
    let bye : has_bye h ≡ true = sym f.bye_is ∙ rests.bye in
    record {
      fits = f;
      steps = [];
      are = refl;
      inner = refl;
      may = record { bye = bye; written = has_written s h f (record { asked = f.text_is.all_asked bye; none = rests.none }); still = between };
      moves = λ e. absurd cc;
    }

pub ends : {room : ℕ} (t : Turn) (s u : Host) (h next : Journal) → HostWorked room t s u h next → HostFits room u (turned t ∷ next) × HostTurned t s u h (turned t ∷ next)
ends {room} t s u h next w = (
  record {
    sized = w.fits.sized;
    room_is = w.fits.room_is;
    attended_is = w.fits.attended_is;
    conducted = (w.may, w.fits.conducted);
    job_is = w.fits.job_is;
    line_is = w.fits.line_is;
    due_is = w.fits.due_is;
    asking_is = w.fits.asking_is;
    counts_are = w.fits.counts_are;
    all_are = w.fits.all_are;
    resets_are = w.fits.resets_are;
    polls_are = w.fits.polls_are;
    held_is = w.fits.held_is;
    resumed_is = w.fits.resumed_is;
    greeted_is = w.fits.greeted_is;
    alarm_is = w.fits.alarm_is;
    pause_is = w.fits.pause_is;
    text_is = w.fits.text_is;
    shut_is = w.fits.shut_is;
    bye_is = w.fits.bye_is;
    over = w.fits.over;
  },
  record { steps = w.steps; are = ap (λ n. turned t ∷ n) w.are; inner = w.inner; moves = w.moves },
)

pub tells_turned : (t : Turn) (s u : Host) (h next : Journal) (job later : SourceState) (now after : SinkState) → HostTellsOn s u h next job later now after → HostTellsOn s u h (turned t ∷ next) job later now after
tells_turned t s u h next job later now after tells = record {
  job = λ before j. same_job next (turned t ∷ next) before later refl refl (tells.job before j);
  console = λ before j. tells.console before j;
}

-- ---- all text is asked for, and then something is done

pub asked_now : {room : ℕ} (s : Host) (w : Writing) (h : Journal) → w ≡ with_all_asked s.text → HostFits room s h → HostFits room (record s { text = w }) h
asked_now {room} s w h e f = subst (λ v. HostFits room (record s { text = v }) h) (sym e) (all_asked s h f)

pub worked_asked : {room : ℕ} (t : Turn) (s u : Host) (w : Writing) (h next : Journal) → w ≡ with_all_asked s.text → HostWorked room t (record s { text = w }) u h next → HostWorked room t s u h next
worked_asked {room} t s u w h next e d = record {
  fits = d.fits;
  steps = d.steps;
  are = d.are;
  inner = d.inner;
  may = d.may;
  moves = λ did. elim (d.moves did) [
    | inl any ↦ inl any
    | inr less ↦ inr (subst (λ (b : Bool). rank u < cond {A = ℕ} b 0 1) (ap (λ v. v.failed) e) less)
  ];
}

pub tells_asked : (s u : Host) (w : Writing) (h next : Journal) (job later : SourceState) (now after : SinkState) → w ≡ with_all_asked s.text → HostTellsOn (record s { text = w }) u h next job later now after → HostTellsOn s u h next job later now after
tells_asked s u w h next job later now after e t = record { job = t.job; console = λ before j. t.console before (rw e j) }
