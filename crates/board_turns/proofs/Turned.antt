-- A turn that has ended: what holds between two turns holds again behind its answer.
use Rattle.std.proofs.Common.{ℕ, ◌≡◌, ◌<◌, ◌⊎◌, inl, inr, Bool, true, false, ◌&&◌, [], ◌∷◌, ◌++◌, sym, refl, ap, ◌∙◌, subst}
use Rattle.std.specs.List.{list_any}
use Rattle.outside.specs.declared.On.{On}
use Rattle.outside.specs.declared.Turn.{Turn}
use Rattle.outside.specs.declared.Turn.TheVariants.{Did, Wait, Done}
use Rattle.board_journal.specs.Openings.{Opening}
use Rattle.board_journal.specs.Steps.{Journal}
use Rattle.board_journal.specs.Steps.Step.{turned}
use Rattle.board_rules.specs.Turns.{this_turn, moving, is_greeted, unobeyed_of, by_wait, by_turn, requests_taken, changes_taken, flags_taken, is_due, waits_of, waits_by}
use Rattle.board_rules.specs.Conduct.{MayTurn, Waits}
use Rattle.board_turns.specs.declared.board.Board.{Board}
use Rattle.board_turns.specs.declared.board.Flags.{Flags}
use Rattle.board_turns.specs.declared.board.Flags.TheVariants as words
use Rattle.board_turns.specs.Boards.{Rounds, TakesFlags, takes_no_word, EpochFits, GoingTurned, number_of}
use Rattle.board_turns.specs.Turning.{BoardWorked, words_awaited}
use Rattle.board_turns.proofs.Steps.{ends}

-- which words of flags are to be taken behind it
abbrev pub flags_behind : Turn → (greeted : Bool) → Flags → Flags
flags_behind (Wait o) greeted f = words_awaited greeted f
flags_behind t greeted f = f

pub rounds_turned : {N : ℕ} (first : Opening) (t : Turn) (was : Flags) (board : Board N) (h next : Journal) → BoardWorked first t was board h next → Rounds first board.published (turned t ∷ next)
rounds_turned first t was board h next w = record {
  waits = by_turn t w.unpublished;
  tried = λ e. ap (λ b. b && is_due first next) (w.rounds.tried e);
  sent = w.rounds.sent;
  none_waits = λ waiting. w.rounds.none_waits (record { stands = waiting.stands; blocks = waiting.blocks });
  tries = w.rounds.tries;
  few = w.rounds.few;
  owed = w.rounds.owed;
}
  where
    by_turn : (t : Turn) → ((o : On) → t ≡ Wait o → board.published ≡ false) → board.published ≡ true → waits_by t (waits_of next) ≡ []
    by_turn Did still e = w.rounds.waits e
    by_turn (Wait o) still e = absurd (let s = still o refl in cc)
    by_turn Done still e = w.rounds.waits e

-- the words of flags are to be taken that were before, or both behind a wait, once the banner is told
may_waits : (first : Opening) (o : On) (next : Journal) → Waits first o next → unobeyed_of next ≡ []
may_waits first o next w = w.obeyed

-- before it the wait does not count
taken_still : (t : Turn) (next : Journal) → is_greeted next ≡ false → flags_taken (turned t ∷ next) ≡ flags_taken next
taken_still t next none = ap (λ (g : Bool). by_turn g t (requests_taken next) && by_turn g t (changes_taken next)) none

flags_ungreeted : (t : Turn) (f : Flags) (next : Journal) → is_greeted next ≡ false → TakesFlags f next → TakesFlags f (turned t ∷ next)
flags_ungreeted t words.Both next none takes = absurd (let e = sym none ∙ takes.greeted in cc)
flags_ungreeted t words.Requests next none takes = absurd (let e = sym none ∙ takes.greeted in cc)
flags_ungreeted t (words.Report word) next none takes = record { flags = taken_still t next none ∙ takes.flags; next = takes.next; owed = takes.owed }
flags_ungreeted t words.None next none takes = record { flags = taken_still t next none ∙ takes.flags; obeyed = takes.obeyed; unowed = takes.unowed }

flags_waited : (first : Opening) (o : On) (g : Bool) (f : Flags) (next : Journal) → Waits first o next → g ≡ is_greeted next → TakesFlags f next → TakesFlags (words_awaited g f) (turned (Wait o) ∷ next)
flags_waited first o true f next may is takes = record { greeted = sym is; obeyed = may_waits first o next may }
flags_waited first o false f next may is takes = flags_ungreeted (Wait o) f next (sym is) takes

-- where it answers no wait they are as they were
flags_stay : (f : Flags) (t : Turn) (next : Journal) → flags_taken (turned t ∷ next) ≡ flags_taken next → changes_taken (turned t ∷ next) ≡ changes_taken next → TakesFlags f next → TakesFlags f (turned t ∷ next)
flags_stay words.Both t next flags changes takes = record { greeted = takes.greeted; obeyed = takes.obeyed }
flags_stay words.Requests t next flags changes takes = record { greeted = takes.greeted; changes = changes ∙ takes.changes; obeyed = takes.obeyed }
flags_stay (words.Report word) t next flags changes takes = record { flags = flags ∙ takes.flags; next = takes.next; owed = takes.owed }
flags_stay words.None t next flags changes takes = record { flags = flags ∙ takes.flags; obeyed = takes.obeyed; unowed = takes.unowed }

-- a turn that answers no wait takes no word away
turn_same : (g : Bool) (t : Turn) (taken : Bool) → by_wait t taken ≡ taken → by_turn g t taken ≡ taken
turn_same true t taken is = is
turn_same false t taken is = refl

both_same : (t : Turn) (next : Journal) → by_wait t (requests_taken next) ≡ requests_taken next → by_wait t (changes_taken next) ≡ changes_taken next → flags_taken (turned t ∷ next) ≡ flags_taken next
both_same t next requests changes =
    ap (λ (x : Bool). x && changes_taken (turned t ∷ next)) (turn_same (is_greeted next) t (requests_taken next) requests)
    ∙ ap (λ (x : Bool). requests_taken next && x) (turn_same (is_greeted next) t (changes_taken next) changes)

flags_turned : (first : Opening) (t : Turn) (g : Bool) (f : Flags) (next : Journal) → MayTurn first t next → g ≡ is_greeted next → TakesFlags f next → TakesFlags (flags_behind t g f) (turned t ∷ next)
flags_turned first (Wait o) g f next may is takes = flags_waited first o g f next may is takes
flags_turned first Did g f next may is takes = flags_stay f Did next (both_same Did next refl refl) (turn_same (is_greeted next) Did (changes_taken next) refl) takes
flags_turned first Done g f next may is takes = flags_stay f Done next (both_same Done next refl refl) (turn_same (is_greeted next) Done (changes_taken next) refl) takes

still_turned : {N : ℕ} (first : Opening) (t : Turn) (was : Flags) (board : Board N) (h next : Journal) → BoardWorked first t was board h next → board.published ≡ true → takes_no_word (flags_behind t board.greeted board.flags) ≡ true
still_turned first Did was board h next w e = w.still e
still_turned first (Wait o) was board h next w e = absurd (let s = w.unpublished o refl in cc)
still_turned first Done was board h next w e = w.still e

pub turned_on : {N : ℕ} (first : Opening) (t : Turn) (was : Flags) (board : Board N) (h next : Journal) → BoardWorked first t was board h next → EpochFits first (record board { flags = flags_behind t board.greeted board.flags }) (turned t ∷ next)
turned_on first t was board h next w = record {
  keeps = ends first board (flags_behind t board.greeted board.flags) t next w.keeps w.may;
  rounds = rounds_turned first t was board h next w;
  flags = flags_turned first t board.greeted board.flags next w.may w.keeps.greeted_is w.flags;
  still = still_turned first t was board h next w;
}

pub board_turned : {N : ℕ} (first : Opening) (t : Turn) (before board : Board N) (h next : Journal) → BoardWorked first t before.flags board h next
    → GoingTurned first t before (record board { flags = flags_behind t board.greeted board.flags }) h (turned t ∷ next)
board_turned first t before board h next w = record {
  steps = w.steps;
  are = ap (λ (x : Journal). turned t ∷ x) w.are;
  inner = w.inner;
  moves = λ e. by_move e (w.moves e);
}
  where
    by_move : t ≡ Did → (list_any moving (this_turn next) ≡ true) ⊎ (number_of first board.flags next < number_of first before.flags h)
        → (list_any moving (this_turn (w.steps ++ h)) ≡ true) ⊎ (number_of first (flags_behind t board.greeted board.flags) (turned t ∷ next) < number_of first before.flags h)
    by_move e (inl moved) = inl (subst (λ (x : Journal). list_any moving (this_turn x) ≡ true) w.are moved)
    by_move e (inr falls) = inr (subst (λ (x : Turn). number_of first (flags_behind x board.greeted board.flags) (turned t ∷ next) < number_of first before.flags h) (sym e) falls)

-- a turn has ended, behind which these words of flags are to be taken
pub turned_by : {N : ℕ} (first : Opening) (t : Turn) (before board : Board N) (f : Flags) (h next : Journal) → flags_behind t board.greeted board.flags ≡ f → BoardWorked first t before.flags board h next
    → EpochFits first (record board { flags = f }) (turned t ∷ next) × GoingTurned first t before (record board { flags = f }) h (turned t ∷ next)
turned_by first t before board f h next is w =
    subst (λ (x : Flags). EpochFits first (record board { flags = x }) (turned t ∷ next) × GoingTurned first t before (record board { flags = x }) h (turned t ∷ next)) is
    (turned_on first t before.flags board h next w, board_turned first t before board h next w)

-- where it does not wait the words stay
pub no_wait_keeps : (t : Turn) (g : Bool) (f : Flags) → ((o : On) → t ≡ Wait o → ⊥) → flags_behind t g f ≡ f
no_wait_keeps Did g f no_wait = refl
no_wait_keeps (Wait o) g f no_wait = absurd (no_wait o refl)
no_wait_keeps Done g f no_wait = refl
