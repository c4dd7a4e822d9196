-- What a board's log says of the link is what the link's own log says, in the order in which it was done.
use Rattle.std.proofs.Common.{◌≡◌, List, [], ◌∷◌, ◌++◌, length, reverse, refl, sym, ap, ◌∙◌}
use Rattle.std.proofs.lemmas.Grind.{reverse_onto}
use Rattle.std.proofs.lemmas.List.{length-reverse}
use Rattle.status_report.specs.declared.Reply.{Reply}
use Rattle.status_report.specs.declared.Reply.TheVariants as replies
use Rattle.serial_ring.specs.Logs as link
use Rattle.board_journal.specs.Ports.{BoardLog, taken_in, answered_in, link_steps}
use Rattle.board_journal.specs.Ports.PortStep.{took, answered, reported}

pub taken_back : (l : BoardLog) → taken_in l ≡ reverse (link.taken_in (link_steps l))
taken_back [] = refl
taken_back (took b ∷ l) = ap (λ z. z ++ b ∷ []) (taken_back l) ∙ sym (reverse_onto (link.taken_in (link_steps l)) b [])
taken_back (_ ∷ l) = taken_back l

one_answer : (r : Reply) (l : BoardLog) → answered_in l ≡ reverse (link.answered_in (link_steps l)) → answered_in l ++ r ∷ [] ≡ reverse (r ∷ link.answered_in (link_steps l))
one_answer r l e = ap (λ (z : List Reply). z ++ r ∷ []) e ∙ sym (reverse_onto (link.answered_in (link_steps l)) r [])

pub answered_back : (l : BoardLog) → answered_in l ≡ reverse (link.answered_in (link_steps l))
answered_back [] = refl
answered_back (answered r ∷ l) = one_answer r l (answered_back l)
answered_back (reported r ∷ l) = one_answer (replies.Report r) l (answered_back l)
answered_back (_ ∷ l) = answered_back l

pub same_answered : (l : BoardLog) → length (answered_in l) ≡ length (link.answered_in (link_steps l))
same_answered l = ap length (answered_back l) ∙ length-reverse (link.answered_in (link_steps l))

pub same_taken : (l : BoardLog) → length (taken_in l) ≡ length (link.taken_in (link_steps l))
same_taken l = ap length (taken_back l) ∙ length-reverse (link.taken_in (link_steps l))
