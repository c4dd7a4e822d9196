-- Between two turns a board may take its words of flags, once the banner is told, where the motion does not slow down, and the bytes of a line.
use Rattle.std.proofs.Common.{◌≡◌, ◌⊎◌, inl, inr, ℕ, ◌+◌, ◌^◌, ◌<◌, Bool, true, false, cond, ◌&&◌, ◌||◌, not, List, [], ◌∷◌, ◌++◌, drop, length, nat_eq, nat_le, refl, sym, ap, ◌∙◌, arith, ◌≤◌}
use Rattle.std.specs.Prelude.{Some}
use Rattle.std.specs.List.{list_any}
use Rattle.std.proofs.lemmas.List.{length-append}
use Rattle.code_table.specs.declared.flags.Exec.{Exec}
use Rattle.code_table.specs.declared.flags.Ovr.{Ovr}
use Rattle.feed_hold.specs.declared.Motion.{Motion}
use Rattle.feed_hold.specs.declared.Motion.TheVariants as motions
use Rattle.feed_hold.specs.Motions.{asks, hold_byte, cancel_byte, start_byte, after_hold, after_cancel, after_start, after_word, is_stopping}
use Rattle.feed_hold.specs.Motions.Call.{on_exec}
use Rattle.outside.specs.declared.Turn.TheVariants.{Did}
use Rattle.board_journal.specs.Openings.{Opening}
use Rattle.board_journal.specs.Ports.{asks_report, asks_reset, has_changes}
use Rattle.board_journal.specs.Ports.PortStep.{took, took_exec, took_ovr}
use Rattle.line_geom.specs.declared.Block.{Block}
use Rattle.run_rules.specs.Work.{has_moves}
use Rattle.run_rules.specs.Work.Task.{ask}
use Rattle.step_line.specs.Asking.Asked.{a_move}
use Rattle.step_line.specs.declared.planned_move.PlannedMove.{PlannedMove}
use Rattle.board_journal.specs.Steps.{Journal, taken_of, plan_of, motion_of, left_of}
use Rattle.board_journal.specs.Steps.Step.{at_port, became, turned}
use Rattle.board_rules.specs.Turns.{this_turn, is_greeted, unobeyed_of, owes_report, has_blocks, has_jogged, has_jog_to_start, is_full, is_limited, waits_to_jog, starts_cycle}
use Rattle.board_rules.specs.Conduct.{Conducted, IsNextTask, AreWaiting, MayPoll, MayTake}
use Rattle.board_rules.proofs.Turning.{few_tries, obeyed_between}
use Rattle.board_rules.proofs.Causing.{jog_starts}
use Rattle.board_rules.proofs.Jogging.{OneMove, one_move}
use Rattle.board_rules.proofs.Dropping.{none_moves}
use Rattle.board_rules.proofs.Waiting.{adds, starts, halts_between}
use Rattle.std.proofs.lemmas.Bool.Decides.{nat_tests}
use Rattle.board_rules.proofs.Opening.{opened}

-- whether blocks are queued
abbrev pub queued_in : Journal → Bool
queued_in h = has_blocks (plan_of h).blocks

-- a turn in which the word of requests is taken and obeyed
abbrev pub requested : Exec → Motion → Journal → Journal
requested word m h = turned Did ∷ became (on_exec word (queued_in h)) m ∷ at_port (took_exec word) ∷ h

-- a turn in which a word with no changes of overrides is taken
abbrev pub unchanged : Ovr → Journal → Journal
unchanged word h = turned Did ∷ at_port (took_ovr word) ∷ h

-- a machine that stands behind it stood before, or no block is queued
abbrev StoodBefore : Opening → Motion → Journal → Type 0
StoodBefore first m h = m ≡ motions.Idle → (motion_of first h ≡ motions.Idle) ⊎ (queued_in h ≡ false)

still_starts : (first : Opening) (h : Journal) → Conducted first h → this_turn h ≡ [] → (motion_of first h ≡ motions.Idle) ⊎ (queued_in h ≡ false) → queued_in h ≡ true → starts_cycle first h ≡ false
still_starts first h c between (inl stood) some = starts first h c between (record { stands = stood; blocks = some })
still_starts first h c between (inr none) some = absurd (let e = sym none ∙ some in cc)

not_owed : {A : Type 0} (asks owes : Bool) → asks ≡ false → owes ≡ false → (asks || owes) ≡ true → A
not_owed true owes none unowed owed = absurd cc
not_owed false owes none unowed owed = absurd (let e = sym unowed ∙ owed in cc)

empty_is_full : (most : ℕ) (bs : List Block) → 1 ≤ most → has_blocks bs ≡ false → nat_le most (length bs) ≡ true → ⊥
empty_is_full most [] some none full = grind (arith, nat_tests, some, full)
empty_is_full most (b ∷ bs) some none full = absurd cc

-- no jog waits for its start where no queued block does, and no move that is next has room
pub no_jog_to_start : (first : Opening) (h : Journal) → Conducted first h → (AreWaiting first h → starts_cycle first h ≡ false) → ((m : PlannedMove) → IsNextTask first (ask (a_move m)) h → is_full first.blocks (plan_of h) ≡ true) → has_jog_to_start first h ≡ false
no_jog_to_start first h c none_starts none_fits = by_motion (motion_of first h) refl
  where
    by_blocks : (jogged blocks moves : Bool) → has_jogged h ≡ jogged → queued_in h ≡ blocks → has_moves (left_of first h) ≡ moves → motion_of first h ≡ motions.Idle → (jogged && (blocks || moves)) ≡ false
    by_blocks false blocks moves j b m idle = refl
    by_blocks true true moves j b m idle = absurd (jog_starts first h j (none_starts (record { stands = idle; blocks = b })))
    by_blocks true false false j b m idle = refl
    by_blocks true false true j b m idle = absurd (no_room_needed (one_move first h c j))
      where
        no_room_needed : OneMove (left_of first h) → ⊥
        no_room_needed (inl none) = absurd (let e = sym (none_moves (left_of first h) none) ∙ m in cc)
        no_room_needed (inr (move, next, none)) = empty_is_full first.blocks (plan_of h).blocks (opened first h c).sized.0 b (none_fits move next)

    by_motion : (m : Motion) → motion_of first h ≡ m → has_jog_to_start first h ≡ false
    by_motion motions.Idle is = ap (λ (m : Motion). waits_to_jog m (has_jogged h) (queued_in h || has_moves (left_of first h))) is ∙ by_blocks (has_jogged h) (queued_in h) (has_moves (left_of first h)) refl refl refl is
    by_motion _ is = ap (λ (m : Motion). waits_to_jog m (has_jogged h) (queued_in h || has_moves (left_of first h))) is

-- so none does between two turns
pub no_jog_waits : (first : Opening) (h : Journal) → Conducted first h → this_turn h ≡ [] → has_jog_to_start first h ≡ false
no_jog_waits first h c between = no_jog_to_start first h c (starts first h c between) (λ m. adds first h m c between)

-- a word leaves a machine that a limit has stopped
limited_hold : (asked : Bool) (m : Motion) → is_limited m ≡ true → is_limited (after_hold asked m) ≡ true
limited_hold false m is = is
limited_hold true motions.Stopping is = refl
limited_hold true motions.Alarm is = refl
limited_hold true m is = absurd cc

limited_cancel : (asked : Bool) (m : Motion) → is_limited m ≡ true → is_limited (after_cancel asked m) ≡ true
limited_cancel false m is = is
limited_cancel true motions.Stopping is = refl
limited_cancel true motions.Alarm is = refl
limited_cancel true m is = absurd cc

limited_start : (asked queued : Bool) (m : Motion) → is_limited m ≡ true → is_limited (after_start asked queued m) ≡ true
limited_start false queued m is = is
limited_start true true motions.Stopping is = refl
limited_start true false motions.Stopping is = refl
limited_start true true motions.Alarm is = refl
limited_start true false motions.Alarm is = refl
limited_start true queued m is = absurd cc

limited_word : (word : Exec) (queued : Bool) (m : Motion) → is_limited m ≡ true → is_limited (after_word word queued m) ≡ true
limited_word word queued m is =
    limited_start (asks word start_byte && not (asks word hold_byte)) queued (after_cancel (asks word cancel_byte) (after_hold (asks word hold_byte) m))
    (limited_cancel (asks word cancel_byte) (after_hold (asks word hold_byte) m) (limited_hold (asks word hold_byte) m is))

not_slowing : {A : Type 0} (m : Motion) → is_stopping m ≡ true → is_stopping m ≡ false → A
not_slowing m slows still = absurd (let e = sym slows ∙ still in cc)

pub may_request : (first : Opening) (word : Exec) (m : Motion) (h : Journal) → Conducted first h → this_turn h ≡ [] → is_greeted h ≡ true → owes_report h ≡ false → asks_report word ≡ false → asks_reset word ≡ false
    → is_stopping (motion_of first h) ≡ false → after_word word (queued_in h) (motion_of first h) ≡ m → StoodBefore first m h → Conducted first (requested word m h)
may_request first word m h c between greeted unowed asks_none no_reset still becomes stood =
    let none = obeyed_between first h c between unowed in
    let taken : unobeyed_of (at_port (took_exec word) ∷ h) ≡ word ∷ [] = ap (λ (r : Bool). cond r (unobeyed_of h) (unobeyed_of h ++ word ∷ [])) no_reset ∙ ap (λ (words : List Exec). words ++ word ∷ []) none in (
      record {
        once = rw between (omega arith);
        adds = λ move next. adds first h move c between next;
        starts = λ w. still_starts first h c between (stood w.stands) w.blocks;
        tries = few_tries first h c between;
        obeyed = λ e. ap (λ (words : List Exec). drop 1 words) taken;
        changed = rw between refl;
        halts = λ next. sym (ap is_limited becomes) ∙ limited_word word (queued_in h) (motion_of first h) (halts_between first h c between next);
      },
      (
        (
          ap Some becomes,
          record {
            next = taken;
            reported = λ owed. not_owed (asks_report word) (owes_report h) asks_none unowed owed;
            blocks = refl;
            looked = λ s. not_slowing (motion_of first h) s.slows still;
            stopped = λ s. not_slowing (motion_of first h) s.slowed.slows still;
            jog = no_jog_waits first h c between;
            halts = halts_between first h c between;
          },
        ),
        (record { greeted = greeted; obeyed = none; few = λ asks. absurd (let e = sym asks ∙ asks_none in cc) }, c),
      ),
    )

pub may_take_no_change : (first : Opening) (word : Ovr) (h : Journal) → has_changes word ≡ false → Conducted first h → this_turn h ≡ [] → is_greeted h ≡ true → Conducted first (unchanged word h)
may_take_no_change first word h none c between greeted = (
  record {
    once = rw between (omega arith);
    adds = λ move next. adds first h move c between next;
    starts = λ w. starts first h c between (record { stands = w.stands; blocks = w.blocks });
    tries = few_tries first h c between;
    obeyed = obeyed_between first h c between;
    changed = rw between (rw none refl);
    halts = halts_between first h c between;
  },
  (greeted, c),
)

-- both words are taken, that of overrides first, which has no changes
abbrev pub words_taken : Ovr → Exec → Motion → Journal → Journal
words_taken changes word m h = requested word m (unchanged changes h)

pub may_take_words : (first : Opening) (changes : Ovr) (word : Exec) (m : Motion) (h : Journal) → Conducted first h → this_turn h ≡ [] → is_greeted h ≡ true → has_changes changes ≡ false → owes_report h ≡ false → asks_report word ≡ false → asks_reset word ≡ false
    → is_stopping (motion_of first h) ≡ false → after_word word (queued_in h) (motion_of first h) ≡ m → StoodBefore first m h → Conducted first (words_taken changes word m h)
may_take_words first changes word m h c between greeted none = may_request first word m (unchanged changes h) (may_take_no_change first changes h none c between greeted) refl greeted

-- a turn in which a byte is taken
abbrev byte_taken : ℕ → Journal → Journal
byte_taken b h = turned Did ∷ at_port (took b) ∷ h

may_take_byte : (first : Opening) (b : ℕ) (h : Journal) → Conducted first h → this_turn h ≡ [] → MayTake first h → Conducted first (byte_taken b h)
may_take_byte first b h c between takes = (
  record {
    once = rw between (omega arith);
    adds = λ move next. adds first h move c between next;
    starts = λ w. starts first h c between (record { stands = w.stands; blocks = w.blocks });
    tries = omega arith;
    obeyed = obeyed_between first h c between;
    changed = rw between refl;
    halts = halts_between first h c between;
  },
  (takes, c),
)

-- turns in which the bytes of a line are taken one by one, and then its LF
abbrev pub line_taken : List ℕ → Journal → Journal
line_taken [] h = byte_taken 10 h
line_taken (b ∷ bytes) h = line_taken bytes (byte_taken b h)

neither : (a b : Bool) → (a || b) ≡ false → (a ≡ false) × (b ≡ false)
neither false b none = (refl, none)
neither true b none = absurd cc

pub may_take_line : (first : Opening) (bytes : List ℕ) (h : Journal) → Conducted first h → this_turn h ≡ [] → MayPoll first h → list_any (λ b. nat_eq b 10) bytes ≡ false
    → length (taken_of h) + length bytes < 2 ^ 31 → Conducted first (line_taken bytes h)
may_take_line first [] h c between polls plain few = may_take_byte first 10 h c between (record { polls = polls; few = omega (arith, few) })
may_take_line first (b ∷ bytes) h c between polls plain few =
    let none = neither (nat_eq b 10) (list_any (λ b. nat_eq b 10) bytes) plain in
    let long = length-append (taken_of h) (b ∷ []) in
    let polls_on : MayPoll first (byte_taken b h) = record { once = refl; calm = polls.calm; all_done = polls.all_done; partial = none.0; unclosed = polls.unclosed } in
    may_take_line first bytes (byte_taken b h) (may_take_byte first b h c between (record { polls = polls; few = omega (arith, few) })) refl polls_on none.1 (omega (arith, few, long))
