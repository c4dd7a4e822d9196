-- A report that is owed is tried to be told, and the turn goes on behind it.
use Rattle.std.proofs.Common.{◌≡◌, ℕ, ◌+◌, ◌≤◌, ◌⊎◌, inl, inr, Bool, true, false, ◌||◌, not, Ok, Err, List, [], ◌∷◌, ◌++◌, drop, Some, None, sym, refl, ap, ◌∙◌, subst, arith, append_assoc}
use Rattle.board_rules.specs.Within.{tries_ahead, ahead}
use Rattle.std.specs.Prelude.{OnOk, OnErr}
use Rattle.std.specs.Result.{is_ok}
use Rattle.std.specs.declared.result.Result.{Result}
use Rattle.std.specs.declared.option.Option.{Option}
use Rattle.std.specs.Option.{option_to_list}
use Rattle.std.specs.List.{list_any, count_by}
use Rattle.code_table.specs.declared.flags.Exec.{Exec}
use Rattle.flight.specs.Flights.{Flies}
use Rattle.feed_hold.specs.Motions.{after_word}
use Rattle.feed_hold.specs.Motions.Call.{on_exec}
use Rattle.outside.specs.declared.Turn.{Turn}
use Rattle.outside.specs.declared.Turn.TheVariants.{Did, Wait}
use Rattle.outside.specs.declared.On.TheVariants.{ReplyRoom}
use Rattle.run_rules.specs.declared.State.{State}
use Rattle.run_rules.specs.Reports.{Shows}
use Rattle.flight.specs.Places.{machine_from}
use Rattle.status_report.specs.declared.Reply.{Reply}
use Rattle.status_report.specs.declared.Reply.TheVariants as replies
use Rattle.status_report.specs.declared.reports.Report.{Report}
use Rattle.board_journal.specs.Openings.{Opening}
use Rattle.board_journal.specs.Ports.{BoardLog, said}
use Rattle.epoch_ports.specs.Serving.{MayTellNow}
use Rattle.board_journal.specs.Ports.PortStep.{found_free, reported, no_reply_room}
use Rattle.board_journal.specs.Steps.{Step, Journal, port_log, published_of, known_of, whole_of, plan_of, motion_of, left_of}
use Rattle.board_journal.specs.Steps.Step.{at_port, became}
use Rattle.board_rules.specs.Turns.{this_turn, publishing, passing, moving, ends_turn, found_none, lacks_reply_room, loads, has_blocks, is_going, is_due, flags_taken, unobeyed_of, owes_report, takes_changes, replans, tries_of, waits_of, is_reply_back, is_report_back}
use Rattle.board_rules.specs.Conduct.{IsDrained, IsStopped, IsReportAt}
use Rattle.units.specs.Truths.{one_if}
use Rattle.board_turns.specs.declared.board.Board.{Board}
use Rattle.board_turns.specs.declared.board.Flags.{Flags}
use Rattle.board_turns.specs.declared.board.Flags.TheVariants as words
use Rattle.board_turns.specs.Boards.{Keeps, Rounds, NoneWaits, TakesFlags}
use Rattle.board_turns.specs.Turning.{NoneFits, HasPiece, HasTried, HasFilled, BoardWorked}
use Rattle.board_turns.specs.Reporting.{HasObserved, HasAskedRoom, IsBehind, IsReported, IsTold, IsToReport, LacksRoom, obeying}
use Rattle.board_turns.proofs.Steps.{other_flags, halts_by}
use Rattle.board_turns.proofs.PortSteps.{report_told, report_kept}
use Rattle.board_rules.proofs.Tries.{counts_none, none_ends, publishes_none, publishes_one}
use Rattle.board_rules.proofs.Facts.{uncounted_owing}
use Rattle.board_rules.proofs.Polling.{none_told}
use Rattle.board_rules.proofs.Greeted.{owed_greeted}
pub use Rattle.board_turns.proofs.Halting.{behind_word}
use Rattle.board_turns.proofs.Halting.{waited_before}
use Rattle.board_turns.proofs.Settling.{none_waits_so, none_fits_so}
use Rattle.board_turns.proofs.Ends.{MayTry, sent_by, rounds_still, none_called, none_waited}

-- ---- before the report

-- what is found before a report is tried to be told
pub record IsFound (first : Opening) (word : Option Exec) (h : Journal) : Type 0 where
  pub still : list_any passing (this_turn h) ≡ false
  pub quiet : count_by publishing (this_turn h) ≡ 0
  pub owed : owes_report h ≡ true
  pub words : unobeyed_of h ≡ option_to_list word
  pub flags : flags_taken h ≡ true
  pub changed : count_by replans (this_turn h) ≡ count_by takes_changes (this_turn h)
  pub load : list_any loads (this_turn h) ≡ true
  pub idle : IsDrained h → is_going (motion_of first h) ≡ false
  pub stopped : IsStopped first h → ⊥
  pub unpolled : list_any found_none (this_turn h) ≡ false
  pub untold : list_any lacks_reply_room (this_turn h) ≡ false
  pub none_waits : NoneWaits first h
  pub adds : NoneFits first h
  pub tries : tries_of first h + tries_ahead first h ≤ 4

pub found : (first : Opening) (word : Option Exec) (h next : Journal) → IsToReport first word h → HasObserved first h next → IsFound first word next
found first word h next t o =
    let p = o.passes in
    record {
      still = p.still ∙ t.still;
      quiet = p.quiet ∙ t.quiet;
      owed = p.owed ∙ t.asked.owed;
      words = p.words ∙ t.asked.next;
      flags = p.flags ∙ t.asked.flags;
      changed = (p.worked t.worked).changed;
      load = o.load;
      idle = o.idle;
      stopped = o.stopped;
      unpolled = p.polled ∙ t.unpolled;
      untold = p.replies ∙ t.untold;
      none_waits = λ w. (none_waits_so first) h next p.jogged o.stays t.none_waits (o.waiting w) w;
      adds = none_fits_so first h next o.stays t.adds;
      tries = (let a = p.tries in let b = p.ahead in let d = t.tries in omega (arith, a, b, d));
    }

found_room : (first : Opening) (word : Option Exec) (bytes : ℕ) (h : Journal) → IsFound first word h → IsFound first word (at_port (found_free bytes) ∷ h)
found_room first word bytes h f =
    let s = at_port (found_free bytes) in
    record {
      still = f.still;
      quiet = publishes_none s (this_turn h) refl ∙ f.quiet;
      owed = f.owed;
      words = f.words;
      flags = f.flags;
      changed = counts_none replans s (this_turn h) refl ∙ f.changed ∙ sym (counts_none takes_changes s (this_turn h) refl);
      load = f.load;
      idle = λ d. f.idle (record { plan = d.plan; hand = d.hand; done = d.done });
      stopped = λ x. f.stopped (record { slowed = record { slows = x.slowed.slows; speed = x.slowed.speed; empty = x.slowed.empty }; done = x.done });
      unpolled = f.unpolled;
      untold = f.untold;
      none_waits = λ w. f.none_waits (record { stands = w.stands; blocks = w.blocks });
      adds = f.adds;
      tries = f.tries;
    }

pub found_asked : (first : Opening) (word : Option Exec) (buffer : Option (ℕ × ℕ)) (h next : Journal) → IsFound first word h → HasAskedRoom first buffer h next → IsFound first word next
found_asked first word buffer h next f a = by_are a.are
  where
    by_are : (next ≡ h) ⊎ ((bytes : ℕ) × (next ≡ at_port (found_free bytes) ∷ h)) → IsFound first word next
    by_are (inl same) = subst (λ (j : Journal). IsFound first word j) (sym same) f
    by_are (inr asked) = subst (λ (j : Journal). IsFound first word j) (sym asked.1) (found_room first word asked.0 h f)

pub flies_asked : {N : ℕ} (first : Opening) (c : Board N) (buffer : Option (ℕ × ℕ)) (h next : Journal) → Flies first.place c.flight (published_of h) (known_of h) → HasAskedRoom first buffer h next → Flies first.place c.flight (published_of next) (known_of next)
flies_asked first c buffer h next flies a = by_are a.are
  where
    by_are : (next ≡ h) ⊎ ((bytes : ℕ) × (next ≡ at_port (found_free bytes) ∷ h)) → Flies first.place c.flight (published_of next) (known_of next)
    by_are (inl same) = subst (λ (j : Journal). Flies first.place c.flight (published_of j) (known_of j)) (sym same) flies
    by_are (inr asked) = subst (λ (j : Journal). Flies first.place c.flight (published_of j) (known_of j)) (sym asked.1) flies

behind_asked : (first : Opening) (buffer : Option (ℕ × ℕ)) (h mid next : Journal) → HasObserved first h mid → HasAskedRoom first buffer mid next → IsBehind h next
behind_asked first buffer h mid next o a = by_are a.are
  where
    by_are : (next ≡ mid) ⊎ ((bytes : ℕ) × (next ≡ at_port (found_free bytes) ∷ mid)) → IsBehind h next
    by_are (inl same) = record { steps = o.passes.steps; are = same ∙ o.passes.are; inner = o.passes.inner }
    by_are (inr asked) = record { steps = at_port (found_free asked.0) ∷ o.passes.steps; are = asked.1 ∙ ap (λ (j : Journal). at_port (found_free asked.0) ∷ j) o.passes.are; inner = o.passes.inner }

-- the room that was asked for is known
pub room_known : (first : Opening) (buffer : Option (ℕ × ℕ)) (h next : Journal) → HasAskedRoom first buffer h next → HasAskedRoom first buffer next next
room_known first buffer h next a = record { are = inl refl; room = a.room }

-- ---- the report

pub may_tell : {N : ℕ} (first : Opening) (c : Board N) (r : Report) (h : Journal) → Keeps first c h → IsTold first c r h → MayTellNow first (replies.Report r) h
may_tell first c r h k told = record { conducted = k.conducted; next = inl refl; text = told.valid }

report_at : {N : ℕ} (first : Opening) (c : Board N) (word : Option Exec) (r : Report) (h : Journal) (k : Keeps first c h) → IsFound first word h → IsTold first c r h → IsReportAt first r h
report_at first c word r h k f told = record {
  once = none_told (this_turn h) f.still f.untold;
  owed = f.owed;
  load = f.load;
  idle = f.idle;
  stopped = f.stopped;
  shows = subst (λ (s : State). Shows (machine_from first.place (published_of h) (known_of h)) s r) k.lines.state_is told.shows;
  room = told.room;
  feed = told.feed;
  overrides = told.overrides;
  state = told.state;
  valid = told.valid;
  wide = told.wide;
}

reported_told : (first : Opening) (word : Option Exec) (r : Report) (h : Journal) → IsFound first word h → IsReported first true word (at_port (reported r) ∷ h)
reported_told first word r h f =
    let s = at_port (reported r) in
    record {
      still = λ e. absurd cc;
      quiet = publishes_one s (this_turn h) refl ∙ ap (λ n. n + 1) f.quiet;
      moves = λ e. refl;
      lacks = λ e. absurd cc;
      owed = refl;
      back = λ e. absurd cc;
      words = f.words;
      flags = f.flags;
      changed = counts_none replans s (this_turn h) refl ∙ f.changed ∙ sym (counts_none takes_changes s (this_turn h) refl);
      load = f.load;
      stopped = λ x. f.stopped (record { slowed = record { slows = x.slowed.slows; speed = x.slowed.speed; empty = x.slowed.empty }; done = x.done });
      unpolled = f.unpolled;
      none_waits = λ w. f.none_waits (record { stands = w.stands; blocks = w.blocks });
      adds = f.adds;
      tries = f.tries;
    }

reported_kept : (first : Opening) (word : Option Exec) (h : Journal) → IsFound first word h → IsReported first false word (at_port no_reply_room ∷ h)
reported_kept first word h f =
    let s = at_port no_reply_room in
    record {
      still = λ e. f.still;
      quiet = publishes_none s (this_turn h) refl ∙ f.quiet;
      moves = λ e. absurd cc;
      lacks = λ e. refl;
      owed = f.owed;
      back = λ e. ap (λ o. o || is_report_back h) f.owed;
      words = f.words;
      flags = f.flags;
      changed = counts_none replans s (this_turn h) refl ∙ f.changed ∙ sym (counts_none takes_changes s (this_turn h) refl);
      load = f.load;
      stopped = λ x. f.stopped (record { slowed = record { slows = x.slowed.slows; speed = x.slowed.speed; empty = x.slowed.empty }; done = x.done });
      unpolled = f.unpolled;
      none_waits = λ w. f.none_waits (record { stands = w.stands; blocks = w.blocks });
      adds = f.adds;
      tries = (let few = f.tries in let same = ap (λ o. ahead (left_of first h) (whole_of h) (not o || is_reply_back h)) f.owed in omega (arith, few, same));
    }

-- behind a journal a report was tried to be told
abbrev pub Reports : {N : ℕ} → Opening → (BoardLog → Type 0) → Bool → Board N → Option Exec → Journal → Type 0
Reports first stands told c word h = (next : Journal) × stands (port_log next) × Keeps first (record c { owes = not told }) next × IsReported first told word next × IsBehind h next

pub reports : {N : ℕ} (first : Opening) (Rest : Type 0) (old new : Rest → Opening → BoardLog → Type 0) (rest : Rest) (answer : Result (Unit {0}) Reply) (c : Board N) (word : Option Exec) (buffer : Option (ℕ × ℕ)) (r : Report) (h mid next : Journal)
    → IsToReport first word h → HasObserved first h mid → HasAskedRoom first buffer mid next → Keeps first c next → IsTold first c r next → old rest first (port_log next)
    → OnOk answer ((rest : Rest) (first : Opening) (h : Journal) → old rest first (port_log h) → MayTellNow first (replies.Report r) h → new rest first (said (replies.Report r) ∷ port_log h))
    → OnErr answer ((rest : Rest) (first : Opening) (l : BoardLog) → old rest first l → new rest first (no_reply_room ∷ l))
    → Reports first (new rest first) (is_ok answer) c word h
reports first Rest old new rest (Ok x) c word buffer r h mid next t o a k told stood ok full =
    let f = found_asked first word buffer mid next (found first word h mid t o) a in
    let b = behind_asked first buffer h mid next o a in (
      at_port (reported r) ∷ next,
      ok rest first next stood (may_tell first c r next k told),
      report_told first c r next k (report_at first c word r next k f told),
      reported_told first word r next f,
      record { steps = at_port (reported r) ∷ b.steps; are = ap (λ (j : Journal). at_port (reported r) ∷ j) b.are; inner = b.inner },
    )
reports first Rest old new rest (Err e) c word buffer r h mid next t o a k told stood ok full =
    let f = found_asked first word buffer mid next (found first word h mid t o) a in
    let b = behind_asked first buffer h mid next o a in (
      at_port no_reply_room ∷ next,
      full rest first (port_log next) stood,
      report_kept first c next k f.owed (none_told (this_turn next) f.still f.untold),
      reported_kept first word next f,
      record { steps = at_port no_reply_room ∷ b.steps; are = ap (λ (j : Journal). at_port no_reply_room ∷ j) b.are; inner = b.inner },
    )

-- ---- where there is no room for it

-- It was not told in this turn for want of room, and is owed. What is owed stays so where a piece was tried to be published since.
record IsOwed (first : Opening) (h : Journal) : Type 0 where
  still : list_any passing (this_turn h) ≡ false
  quiet : count_by publishing (this_turn h) ≡ 0
  lacks : list_any lacks_reply_room (this_turn h) ≡ true
  owed : owes_report h ≡ true
  words : unobeyed_of h ≡ []
  flags : flags_taken h ≡ true
  changed : count_by replans (this_turn h) ≡ count_by takes_changes (this_turn h)
  unpolled : list_any found_none (this_turn h) ≡ false
  none_waits : NoneWaits first h
  adds : NoneFits first h
  tries : tries_of first h + tries_ahead first h ≤ 4

owed_where : (first : Opening) (h : Journal) → LacksRoom first h → IsOwed first h
owed_where first h l = record {
  still = l.still;
  quiet = l.quiet;
  lacks = l.lacks;
  owed = l.owed;
  words = l.words;
  flags = l.flags;
  changed = l.changed;
  unpolled = l.unpolled;
  none_waits = l.none_waits;
  adds = l.adds;
  tries = l.tries;
}

none_published : {N : ℕ} (board : Board N) → board.published ≡ false → board.published ≡ true → ⊥
none_published board unpublished e = absurd (let s = sym unpublished ∙ e in cc)

-- the room is waited for
waits_for_room : {N : ℕ} (first : Opening) (board : Board N) (was : Flags) (h next : Journal) (steps : List Step) → next ≡ steps ++ h → list_any ends_turn steps ≡ false → Keeps first board next → IsOwed first next → (is_due first next ≡ true → waits_of next ≡ []) → board.published ≡ false
    → board.flags ≡ words.Both → BoardWorked first (Wait ReplyRoom) was board h next
waits_for_room first board was h next steps are inner keeps l tried unpublished both = record {
  keeps = keeps;
  rounds = subst (λ b. (Rounds first) b next) (sym unpublished) (rounds_still first next l.none_waits l.tries);
  flags = subst (λ f. TakesFlags f next) (sym both) (record { greeted = owed_greeted first next keeps.conducted l.owed; obeyed = l.words });
  still = λ e. absurd (none_published board unpublished e);
  unpublished = λ o e. unpublished;
  steps = steps;
  are = are;
  inner = inner;
  may = record {
    ends = record {
      once = (let q = l.quiet in omega (arith, q));
      adds = l.adds;
      starts = none_called first next l.unpolled l.none_waits;
      tries = (let t = l.tries in omega (arith, t));
      obeyed = λ e. l.words;
      changed = l.changed;
      halts = halts_by first board next keeps;
    };
    cause = l.lacks;
    still = l.still;
    flags = l.flags;
    obeyed = l.words;
    unowed = λ e. l.lacks;
    round = λ due. none_waited next ReplyRoom (tried due);
  };
  moves = λ e. absurd cc;
}

-- nothing is in hand, nor due
pub waits_idle : {N : ℕ} (first : Opening) (board : Board N) (was : Flags) (h : Journal) → Keeps first board h → LacksRoom first h → (HasPiece first h → ⊥) → board.published ≡ false → BoardWorked first (Wait ReplyRoom) was (record board { flags = words.Both }) h h
waits_idle first board was h k l none unpublished =
    waits_for_room first (record board { flags = words.Both }) was h h [] refl refl (other_flags first board words.Both h k) (owed_where first h l) (λ due. absurd (none (inr due))) unpublished refl

-- a piece was handed back
pub waits_handed : {N : ℕ} (first : Opening) (board : Board N) (was : Flags) (h mid next : Journal) → Keeps first board next → LacksRoom first h → HasTried first false h mid → HasFilled first mid next → board.published ≡ false → board.flags ≡ words.Both
    → BoardWorked first (Wait ReplyRoom) was board h next
waits_handed first board was h mid next k l tried filled unpublished both =
    let a = filled.alone.passes in
    waits_for_room first board was h next (a.steps ++ tried.steps) (a.are ∙ ap (λ (x : Journal). a.steps ++ x) tried.are ∙ sym (append_assoc a.steps tried.steps h)) (none_ends a.steps tried.steps a.inner tried.inner) k
    (record {
      still = a.still ∙ tried.still refl ∙ l.still;
      quiet = (let q = tried.quiet in let r = a.quiet in let s = l.quiet in omega arith);
      lacks = a.replies ∙ tried.replies ∙ l.lacks;
      owed = a.owed ∙ tried.owed ∙ l.owed;
      words = a.words ∙ tried.words ∙ l.words;
      flags = a.flags ∙ tried.flags ∙ l.flags;
      changed = (a.worked (tried.worked (record { obeyed = λ e. l.words; changed = l.changed }))).changed;
      unpolled = a.polled ∙ tried.polled ∙ l.unpolled;
      none_waits = filled.none_waits;
      adds = filled.adds;
      tries = (let f = tried.later (uncounted_owing first h l.owed l.back) in let t = a.tries in let w = a.ahead in let v = tried.owing l.owed in let m = l.tries in omega (arith, f, t, w, v, m));
    }) (λ due. a.waits ∙ tried.waits) unpublished both

-- a piece was published, and the report is still told next
pub sent_owing : {N : ℕ} (first : Opening) (board : Board N) (was : Flags) (h mid next : Journal) → Keeps first board next → LacksRoom first h → HasTried first true h mid → HasFilled first mid next
    → BoardWorked first Did was (record board { flags = words.Report None; published = true }) h next × (list_any moving (this_turn next) ≡ true)
sent_owing first board was h mid next k l tried filled =
    let a = filled.alone.passes in
    let may : MayTry first h = record {
      quiet = l.quiet;
      worked = record { obeyed = λ e. l.words; changed = l.changed };
      flags = l.flags;
      polled = λ e. absurd (let n = l.unpolled in cc);
      tries = l.tries;
      owing = λ e. uncounted_owing first h l.owed l.back;
    } in (
      sent_by first was (record board { flags = words.Report None }) h mid next may tried filled (other_flags first board (words.Report None) next k) refl
          (record { flags = a.flags ∙ tried.flags ∙ l.flags; next = a.words ∙ tried.words ∙ l.words; owed = a.owed ∙ tried.owed ∙ l.owed }),
      a.moves (tried.moves refl),
    )

-- ---- the word that waits for it

-- what a report leaves behind it holds behind the word too
pub record IsObeyed (first : Opening) (told : Bool) (h : Journal) : Type 0 where
  pub still : told ≡ false → list_any passing (this_turn h) ≡ false
  pub quiet : count_by publishing (this_turn h) ≡ one_if told
  pub moves : told ≡ true → list_any moving (this_turn h) ≡ true
  pub lacks : told ≡ false → list_any lacks_reply_room (this_turn h) ≡ true
  pub owed : owes_report h ≡ not told
  pub back : told ≡ false → is_report_back h ≡ true
  pub words : unobeyed_of h ≡ []
  pub flags : flags_taken h ≡ true
  pub changed : count_by replans (this_turn h) ≡ count_by takes_changes (this_turn h)
  pub unpolled : list_any found_none (this_turn h) ≡ false
  pub none_waits : NoneWaits first h
  pub adds : NoneFits first h
  pub tries : tries_of first h + tries_ahead first h ≤ 4

pub obeyed_word : (first : Opening) (told : Bool) (waiting : Option Exec) (h : Journal) → IsReported first told waiting h → IsObeyed first told (obeying first waiting h)
obeyed_word first told None h r = record {
  still = r.still;
  quiet = r.quiet;
  moves = r.moves;
  lacks = r.lacks;
  owed = r.owed;
  back = r.back;
  words = r.words;
  flags = r.flags;
  changed = r.changed;
  unpolled = r.unpolled;
  none_waits = r.none_waits;
  adds = r.adds;
  tries = r.tries;
}
obeyed_word first told (Some word) h r =
    let s = became (on_exec word (has_blocks (plan_of h).blocks)) (after_word word (has_blocks (plan_of h).blocks) (motion_of first h)) in
    record {
      still = r.still;
      quiet = publishes_none s (this_turn h) refl ∙ r.quiet;
      moves = r.moves;
      lacks = r.lacks;
      owed = r.owed;
      back = r.back;
      words = ap (λ (ws : List Exec). drop 1 ws) r.words;
      flags = r.flags;
      changed = counts_none replans s (this_turn h) refl ∙ r.changed ∙ sym (counts_none takes_changes s (this_turn h) refl);
      unpolled = r.unpolled;
      none_waits = λ w. r.none_waits (waited_before first word h (record { stands = w.stands; blocks = w.blocks }));
      adds = r.adds;
      tries = r.tries;
    }

pub lacks_room : (first : Opening) (waiting : Option Exec) (h : Journal) → IsReported first false waiting h → LacksRoom first (obeying first waiting h)
lacks_room first waiting h r =
    let o = obeyed_word first false waiting h r in
    record {
      still = o.still refl;
      quiet = o.quiet;
      lacks = o.lacks refl;
      owed = o.owed;
      back = o.back refl;
      words = o.words;
      flags = o.flags;
      changed = o.changed;
      unpolled = o.unpolled;
      none_waits = o.none_waits;
      adds = o.adds;
      tries = o.tries;
    }

port_behind : (first : Opening) (waiting : Option Exec) (h : Journal) → port_log (obeying first waiting h) ≡ port_log h
port_behind first None h = refl
port_behind first (Some word) h = refl

pub stands_behind : (first : Opening) (stands : BoardLog → Type 0) (waiting : Option Exec) (h : Journal) → stands (port_log h) → stands (port_log (obeying first waiting h))
stands_behind first stands waiting h s = subst (λ l. stands l) (sym (port_behind first waiting h)) s

-- ---- the turn

-- it was told
pub did_report : {N : ℕ} (first : Opening) (board : Board N) (was : Flags) (waiting : Option Exec) (h next : Journal) → Keeps first board (obeying first waiting next) → IsReported first true waiting next → IsBehind h next → board.published ≡ false
    → BoardWorked first Did was (record board { flags = words.None }) h (obeying first waiting next)
did_report first board was waiting h next k r b unpublished =
    let o = obeyed_word first true waiting next r in
    let on = behind_word first waiting h next b in
    record {
      keeps = other_flags first board words.None (obeying first waiting next) k;
      rounds = subst (λ x. (Rounds first) x (obeying first waiting next)) (sym unpublished) (rounds_still first (obeying first waiting next) o.none_waits o.tries);
      flags = record { flags = o.flags; obeyed = o.words; unowed = o.owed };
      still = λ e. refl;
      unpublished = λ on e. unpublished;
      steps = on.steps;
      are = on.are;
      inner = on.inner;
      may = record {
        once = (let q = o.quiet in omega (arith, q));
        adds = o.adds;
        starts = none_called first (obeying first waiting next) o.unpolled o.none_waits;
        tries = (let t = o.tries in omega (arith, t));
        obeyed = λ e. o.words;
        changed = o.changed;
        halts = halts_by first board (obeying first waiting next) k;
      };
      moves = λ e. inl (o.moves refl);
    }

-- it was not, and the board went on
pub went_on : {N : ℕ} (first : Opening) (t : Turn) (board : Board N) (was : Flags) (h mid next : Journal) → IsBehind h mid → BoardWorked first t was board mid next → (t ≡ Did → list_any moving (this_turn next) ≡ true) → BoardWorked first t was board h next
went_on first t board was h mid next b w moved = record {
  keeps = w.keeps;
  rounds = w.rounds;
  flags = w.flags;
  still = w.still;
  unpublished = w.unpublished;
  steps = w.steps ++ b.steps;
  are = w.are ∙ ap (λ (x : Journal). w.steps ++ x) b.are ∙ sym (append_assoc w.steps b.steps h);
  inner = none_ends w.steps b.steps w.inner b.inner;
  may = w.may;
  moves = λ e. inl (moved e);
}
