-- What a journal does at the port, on what was done there before.
use Rattle.std.proofs.Common.{◌≡◌, ℕ, ◌+◌, ◌-◌, Bool, true, false, cond, List, [], ◌∷◌, ◌++◌, nat_lt, reverse, refl, sym, ap, ◌∙◌, append_assoc, append-nil, arith}
use Rattle.std.proofs.lemmas.Bool.Decides.{nat_tests}
use Rattle.std.proofs.lemmas.List.{reverse-append}
use Rattle.motion_ring.specs.declared.lists.Sent.{Sent}
use Rattle.motion_ring.specs.Rule.{none_sent}
use Rattle.motion_ring.specs.Sides as ring
use Rattle.serial_ring.specs.declared.view.LinkStep.{LinkStep}
use Rattle.serial_ring.specs.declared.view.LinkStep.TheVariants.{Took, Marked, Answered}
use Rattle.step_line.proofs.Finished.{together_both}
use Rattle.step_line.specs.Finishing.{ticks_together, unfinished}
use Rattle.step_line.specs.declared.Mark.{Mark}
use Rattle.step_line.specs.declared.Piece.{Piece}
use Rattle.step_line.specs.declared.Piece.TheVariants as pieces
use Rattle.board_journal.specs.Ports.{BoardLog, taken_in, answered_in, link_steps, reports_in, published_in, known_in, sent_in}
use Rattle.board_journal.specs.Ports.PortStep.{took, found_mark, answered, reported, took_exec, published, loaded, stored_stop, found_halt}
use Rattle.board_rules.proofs.Unstopped.{NeverStops}
use Rattle.status_report.specs.declared.Reply.{Reply}
use Rattle.status_report.specs.declared.Reply.TheVariants as replies
use Rattle.board_epochs.specs.Epochs.{log_on}

-- pieces that are published on others, the latest first
abbrev pub onto : Sent → List Piece → Sent
onto s ps = record s { since = ps ++ s.since }

pub sent_on : (base : ℕ) (l before : BoardLog) → NeverStops l → sent_in (log_on base l ++ before) ≡ onto (sent_in before) (reverse (published_in l))
sent_on base [] before n = refl
sent_on base (published p ∷ l) before n = ap (λ (s : Sent). ring.with_piece s p) (sent_on base l before n) ∙ ap (onto (sent_in before)) (sym (reverse-append (published_in l) (p ∷ [])))
sent_on base (stored_stop ∷ l) before n = absurd n
sent_on base (found_halt done ∷ l) before n = absurd n
sent_on base (_ ∷ l) before n = sent_on base l before n

pub known_on : (l before : BoardLog) → NeverStops l → known_in (log_on (known_in before) l ++ before) ≡ known_in before + known_in l
known_on [] before n = omega arith
known_on (loaded done ∷ l) before n = refl
known_on (stored_stop ∷ l) before n = absurd n
known_on (found_halt done ∷ l) before n = absurd n
known_on (_ ∷ l) before n = known_on l before n

pub taken_on : (base : ℕ) (l before : BoardLog) → taken_in (log_on base l ++ before) ≡ taken_in before ++ taken_in l
taken_on base [] before = sym (append-nil (taken_in before))
taken_on base (took b ∷ l) before = ap (λ (bs : List ℕ). bs ++ b ∷ []) (taken_on base l before) ∙ append_assoc (taken_in before) (taken_in l) (b ∷ [])
taken_on base (_ ∷ l) before = taken_on base l before

pub answered_on : (base : ℕ) (l before : BoardLog) → answered_in (log_on base l ++ before) ≡ answered_in before ++ answered_in l
answered_on base [] before = sym (append-nil (answered_in before))
answered_on base (answered r ∷ l) before = ap (λ (rs : List Reply). rs ++ r ∷ []) (answered_on base l before) ∙ append_assoc (answered_in before) (answered_in l) (r ∷ [])
answered_on base (reported r ∷ l) before =
    ap (λ (rs : List Reply). rs ++ replies.Report r ∷ []) (answered_on base l before) ∙ append_assoc (answered_in before) (answered_in l) (replies.Report r ∷ [])
answered_on base (_ ∷ l) before = answered_on base l before

pub steps_on : (base : ℕ) (l before : BoardLog) → link_steps (log_on base l ++ before) ≡ link_steps l ++ link_steps before
steps_on base [] before = refl
steps_on base (took b ∷ l) before = ap (λ (ss : List LinkStep). Took b ∷ ss) (steps_on base l before)
steps_on base (found_mark number bytes ∷ l) before = ap (λ (ss : List LinkStep). Marked number bytes ∷ ss) (steps_on base l before)
steps_on base (answered r ∷ l) before = ap (λ (ss : List LinkStep). Answered r ∷ ss) (steps_on base l before)
steps_on base (reported r ∷ l) before = ap (λ (ss : List LinkStep). Answered (replies.Report r) ∷ ss) (steps_on base l before)
steps_on base (_ ∷ l) before = steps_on base l before

more_asked : (asked : Bool) (m n k : ℕ) → m ≡ n + k → cond asked (m + 1) m ≡ n + cond asked (k + 1) k
more_asked true m n k e = omega arith
more_asked false m n k e = e

pub reports_on : (base : ℕ) (l before : BoardLog) → reports_in (log_on base l ++ before) ≡ reports_in before + reports_in l
reports_on base [] before = omega arith
reports_on base (took_exec word ∷ l) before = more_asked _ _ _ _ (reports_on base l before)
reports_on base (_ ∷ l) before = reports_on base l before

-- ---- where an epoch begins

-- At the beginning of a run nothing was published; and behind a reset its mark alone since the halt, which is done.
pub data Begins (l : BoardLog) : Type 0 where
  a_run : sent_in l ≡ none_sent → known_in l ≡ 0 → Begins l
  an_epoch : (m : Mark) (s : Sent) → sent_in l ≡ s → s.waits ≡ false → s.since ≡ pieces.Mark m ∷ [] → known_in l ≡ ring.ticks_at s.halts + 1 → Begins l

-- the ticks published count on
ticks_onto : (s : Sent) (base : ℕ) (ps : List Piece) → base ≡ ring.ticks_published s → ring.ticks_published (onto s ps) ≡ base + ring.ticks_published (onto none_sent ps)
ticks_onto s base ps e =
    let a = together_both ps s.since in let b = together_both ps [] in omega arith

passed_mark : (m : Mark) (qs : List Piece) (n k : ℕ) → k ≡ n + 1 → unfinished (pieces.Mark m ∷ qs) k ≡ unfinished qs n
passed_mark m qs n k e =
    let done : nat_lt k 1 ≡ false = grind (arith, nat_tests) in
    let less : k - 1 ≡ n = omega arith in
    rw done (ap (unfinished qs) less)

-- and those unfinished are those of the epoch
unfinished_behind : (m : Mark) (s : Sent) (ps : List Piece) (n : ℕ) → s.since ≡ pieces.Mark m ∷ [] → ring.unfinished_in (onto s ps) (ring.ticks_at s.halts + 1 + n) ≡ ring.unfinished_in (onto none_sent ps) n
unfinished_behind m s ps n since =
    let left : ring.ticks_at s.halts + 1 + n - ring.ticks_at s.halts ≡ n + 1 = omega arith in
    let none : n - 0 ≡ n = omega arith in
    let all : reverse (ps ++ s.since) ≡ pieces.Mark m ∷ reverse ps = ap (λ (qs : List Piece). reverse (ps ++ qs)) since ∙ reverse-append ps (pieces.Mark m ∷ []) in
    ap (λ (qs : List Piece). unfinished qs (ring.ticks_at s.halts + 1 + n - ring.ticks_at s.halts)) all ∙ passed_mark m (reverse ps) n _ left
    ∙ sym (ap (λ (qs : List Piece). unfinished (reverse qs) (n - 0)) (append-nil ps) ∙ ap (unfinished (reverse ps)) none)

pub ticks_are : (before : BoardLog) (ps : List Piece) → Begins before → ring.ticks_published (onto (sent_in before) ps) ≡ known_in before + ring.ticks_published (onto none_sent ps)
ticks_are before ps (a_run sent known) = ap (λ (s : Sent). ring.ticks_published (onto s ps)) sent ∙ ticks_onto none_sent 0 ps refl ∙ ap (λ (k : ℕ). k + ring.ticks_published (onto none_sent ps)) (sym known)
ticks_are before ps (an_epoch m s sent waits since known) =
    ap (λ (x : Sent). ring.ticks_published (onto x ps)) sent
    ∙ ticks_onto s (known_in before) ps (known ∙ ap (λ (qs : List Piece). ring.ticks_at s.halts + ticks_together qs) (sym since))

pub unfinished_are : (before : BoardLog) (ps : List Piece) (n : ℕ) → Begins before → ring.unfinished_in (onto (sent_in before) ps) (known_in before + n) ≡ ring.unfinished_in (onto none_sent ps) n
unfinished_are before ps n (a_run sent known) =
    let same : known_in before + n ≡ n = omega arith in
    ap (λ (s : Sent). ring.unfinished_in (onto s ps) (known_in before + n)) sent ∙ ap (ring.unfinished_in (onto none_sent ps)) same
unfinished_are before ps n (an_epoch m s sent waits since known) =
    ap (λ (x : Sent). ring.unfinished_in (onto x ps) (known_in before + n)) sent ∙ ap (λ (k : ℕ). ring.unfinished_in (onto s ps) (k + n)) known ∙ unfinished_behind m s ps n since

pub goes_there : (before : BoardLog) → Begins before → (sent_in before).waits ≡ false
goes_there before (a_run sent known) = ap (λ (s : Sent). s.waits) sent
goes_there before (an_epoch m s sent waits since known) = ap (λ (x : Sent). x.waits) sent ∙ waits
