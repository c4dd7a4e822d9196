-- What words of flags are to be taken, or obeyed, behind steps that leave them.
use Rattle.std.proofs.Common.{ℕ, ◌≡◌, Bool, true, sym, ap, ◌∙◌, subst}
use Rattle.board_journal.specs.Openings.{Opening}
use Rattle.board_journal.specs.Steps.{Journal}
use Rattle.board_turns.specs.declared.board.Board.{Board}
use Rattle.board_turns.specs.declared.board.Flags.{Flags}
use Rattle.board_turns.specs.declared.board.Flags.TheVariants as words
use Rattle.board_turns.specs.Boards.{IsFree, TakesFlags, takes_no_word}
use Rattle.board_turns.specs.Turning.{IsQuiet, PassesNothing, HasTried}

pub free_of : (h : Journal) → IsQuiet h → IsFree h
free_of h q = record { flags = q.flags; obeyed = q.worked.obeyed q.unowed; unowed = q.unowed }

pub takes_none : {N : ℕ} (board : Board N) (h : Journal) → board.flags ≡ words.None → IsFree h → TakesFlags board.flags h
takes_none board h none free = subst (λ f. TakesFlags f h) (sym none) free

-- none is to be taken where none is left
pub no_word_left : (f : Flags) → f ≡ words.None → takes_no_word f ≡ true
no_word_left f none = ap takes_no_word none

pub free_passed : (first : Opening) (h next : Journal) → PassesNothing first h next → IsFree h → IsFree next
free_passed first h next p free = record { flags = p.flags ∙ free.flags; obeyed = p.words ∙ free.obeyed; unowed = p.owed ∙ free.unowed }

pub free_tried : (first : Opening) (p : Bool) (h next : Journal) → HasTried first p h next → IsFree h → IsFree next
free_tried first p h next t free = record { flags = t.flags ∙ free.flags; obeyed = t.words ∙ free.obeyed; unowed = t.owed ∙ free.unowed }
