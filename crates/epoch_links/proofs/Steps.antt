-- The bytes that a board took, and its steps at the link, epoch by epoch.
use Rattle.std.proofs.Common.{◌≡◌, ℕ, List, [], ◌∷◌, ◌++◌, append-nil, append_assoc, refl, sym, ap, ◌∙◌}
use Rattle.std.specs.List.{concat}
use Rattle.serial_ring.specs.declared.view.LinkStep.{LinkStep}
use Rattle.serial_ring.specs.declared.view.LinkStep.TheVariants.{Took, Marked, Answered}
use Rattle.status_report.specs.declared.Reply.TheVariants as replies
use Rattle.step_line.specs.Logs.{NewestFirst}
use Rattle.board_journal.specs.Ports.{BoardLog, taken_in, known_in, link_steps}
use Rattle.board_journal.specs.Ports.PortStep.{took, found_mark, answered, reported}
use Rattle.board_journal.specs.Steps.{Journal, port_log, taken_of}
use Rattle.board_epochs.specs.Epochs.{Closed, Epochs, closed_log, log_behind, log_of}
use Rattle.board_epochs.specs.Epochs.Epochs.{goes, resets}
use Rattle.board_epochs.proofs.Onto.{steps_on, taken_on}
use Rattle.epoch_links.specs.Pieces.{joined}
use Rattle.epoch_links.specs.Taken.{taken_closed, taken_before, taken_by}

-- ---- the bytes

pub taken_more : (l before : BoardLog) → taken_in (l ++ before) ≡ taken_in before ++ taken_in l
taken_more [] before = sym (append-nil (taken_in before))
taken_more (took b ∷ l) before = ap (λ (bytes : List ℕ). bytes ++ b ∷ []) (taken_more l before) ∙ append_assoc (taken_in before) (taken_in l) (b ∷ [])
taken_more (_ ∷ l) before = taken_more l before

pub concat_push : (xs : List (List ℕ)) (x : List ℕ) → concat (xs ++ x ∷ []) ≡ concat xs ++ x
concat_push [] x = append-nil x
concat_push (y ∷ ys) x = ap (λ (bytes : List ℕ). y ++ bytes) (concat_push ys x) ∙ sym (append_assoc y (concat ys) x)

pub closed_bytes : (es : NewestFirst Closed) → taken_in (closed_log es) ≡ concat (taken_before es)
closed_bytes [] = refl
closed_bytes (e ∷ es) =
    taken_more (port_log e.work) (log_behind (closed_log es) e.journal)
    ∙ ap (λ (bytes : List ℕ). bytes ++ taken_in (port_log e.work)) (taken_on (known_in (closed_log es)) (port_log e.journal) (closed_log es))
    ∙ append_assoc (taken_in (closed_log es)) (taken_of e.journal) (taken_in (port_log e.work))
    ∙ ap (λ (bytes : List ℕ). bytes ++ taken_closed e) (closed_bytes es) ∙ sym (concat_push (taken_before es) (taken_closed e))

open_bytes : (es : NewestFirst Closed) (h : Journal) → taken_in (log_behind (closed_log es) h) ≡ concat (taken_before es) ++ taken_of h
open_bytes es h = taken_on (known_in (closed_log es)) (port_log h) (closed_log es) ∙ ap (λ (bytes : List ℕ). bytes ++ taken_of h) (closed_bytes es)

pub all_bytes : (r : Epochs) → taken_in (log_of r) ≡ joined (taken_by r)
all_bytes (goes es h) = open_bytes es h
all_bytes (resets es h w) =
    taken_more (port_log w) (log_behind (closed_log es) h) ∙ ap (λ (bytes : List ℕ). bytes ++ taken_in (port_log w)) (open_bytes es h)
    ∙ append_assoc (concat (taken_before es)) (taken_of h) (taken_in (port_log w))

-- ---- the steps at the link

pub steps_more : (l before : BoardLog) → link_steps (l ++ before) ≡ link_steps l ++ link_steps before
steps_more [] before = refl
steps_more (took b ∷ l) before = ap (λ (ss : List LinkStep). Took b ∷ ss) (steps_more l before)
steps_more (found_mark number bytes ∷ l) before = ap (λ (ss : List LinkStep). Marked number bytes ∷ ss) (steps_more l before)
steps_more (answered r ∷ l) before = ap (λ (ss : List LinkStep). Answered r ∷ ss) (steps_more l before)
steps_more (reported r ∷ l) before = ap (λ (ss : List LinkStep). Answered (replies.Report r) ∷ ss) (steps_more l before)
steps_more (_ ∷ l) before = steps_more l before

pub closed_steps : (e : Closed) (es : NewestFirst Closed) → link_steps (closed_log (e ∷ es)) ≡ link_steps (port_log e.work) ++ (link_steps (port_log e.journal) ++ link_steps (closed_log es))
closed_steps e es =
    steps_more (port_log e.work) (log_behind (closed_log es) e.journal)
    ∙ ap (λ (ss : List LinkStep). link_steps (port_log e.work) ++ ss) (steps_on (known_in (closed_log es)) (port_log e.journal) (closed_log es))
