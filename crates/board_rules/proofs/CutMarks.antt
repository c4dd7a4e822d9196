-- While a cut is in hand, each tick that is published is known to be done: it was made so, no line asks for one, and nothing is
-- published since.
use Rattle.std.proofs.Common.{◌≡◌, ℕ, ◌≤◌, ◌⊎◌, inl, inr, Bool, true, false, List, [], ◌∷◌, ◌++◌, drop, refl, sym, ap, ◌∙◌, subst, arith, append-nil}
use Rattle.status_report.specs.declared.Reply.{Reply}
use Rattle.step_line.specs.declared.Mark.{Mark as AnyMark}
use Rattle.step_line.specs.declared.Mark.TheVariants as marks
use Rattle.step_line.specs.declared.Piece.{Piece}
use Rattle.step_line.specs.declared.Piece.TheVariants as pieces
use Rattle.step_line.specs.Asking.Asked.{a_move, a_mark, a_rest}
use Rattle.step_line.specs.Asking.{Asked}
use Rattle.step_line.specs.Finishing.{ticks_together}
use Rattle.plan_rules.specs.declared.Mode.TheVariants.{Go, Hold}
use Rattle.planner_runs.specs.declared.Action.{Action}
use Rattle.planner_runs.specs.declared.Action.TheVariants.{Add, Take, Override, Mark, Rest, Clear, Reset}
use Rattle.board_journal.specs.Openings.{Opening}
use Rattle.run_rules.specs.Work.{Task, Outcome, telling}
use Rattle.run_rules.specs.Work.Task.{ask}
use Rattle.run_rules.specs.Outcomes.{Before, Becomes}
use Rattle.board_journal.specs.Ports.PortStep.{answered, published, loaded, found_halt}
use Rattle.board_journal.specs.Steps.{Journal, published_of, known_of, open_of, left_of, left_by, without_asks, hand_of, plan_of}
use Rattle.board_journal.specs.Steps.Step.{at_port, began, did, made_end, became, cut, closing, turned}
use Rattle.board_rules.specs.Turns.{unobeyed_of}
use Rattle.board_rules.specs.Conduct.{Conducted, Gives, MayDo, IsStopped, IsTimely, ticks_published}
use Rattle.board_rules.proofs.Beginning.{caused, of_begun}
use Rattle.board_rules.proofs.Keeping.{hand_is}
use Rattle.board_rules.proofs.Unstopped.{done_within}
use Rattle.planner_runs.specs.Runs.{marks_cut}
use Rattle.run_rules.proofs.Items.{IsOfItem, PassesTasks, holds_of_lines}

-- ---- no line asks for a cut

abbrev NoCuts : List Task → Type 0
NoCuts [] = Unit {0}
NoCuts (ask (a_mark m) ∷ ts) = (marks_cut (pieces.Mark m) ≡ false) × NoCuts ts
NoCuts (_ ∷ ts) = NoCuts ts

asked_first : (a : Asked) (ts : List Task) → IsOfItem a → NoCuts ts → NoCuts (ask a ∷ ts)
asked_first (a_move m) ts is none = none
asked_first a_rest ts is none = none
asked_first (a_mark (marks.Cut k)) ts is none = absurd is
asked_first (a_mark (marks.Reset k)) ts is none = absurd is
asked_first _ ts is none = (refl, none)

line_cuts : (runs : Bool) (b : Before) (kept : List ℕ) (o : Outcome) → Becomes runs b kept o → NoCuts o.work
line_cuts runs b kept o is =
    let each : PassesTasks NoCuts = record { asks = asked_first; pauses = λ ts none. none; normals = λ ts none. none; ends = λ ts none. none } in
    holds_of_lines NoCuts each (λ r ts none. none) (λ n. tt) tt tt runs b kept o is

cuts_behind : (ts : List Task) → NoCuts ts → NoCuts (drop 1 ts)
cuts_behind [] none = tt
cuts_behind (ask (a_mark m) ∷ ts) none = none.1
cuts_behind (_ ∷ ts) none = none

cuts_dropped : (ts : List Task) → NoCuts (without_asks ts)
cuts_dropped [] = tt
cuts_dropped (ask a ∷ ts) = cuts_dropped ts
cuts_dropped (_ ∷ ts) = cuts_dropped ts

cuts_by : (a : Action) (ts : List Task) → NoCuts ts → NoCuts (left_by a ts)
cuts_by (Add m) ts none = cuts_behind ts none
cuts_by (Mark m) ts none = cuts_behind ts none
cuts_by Rest ts none = cuts_behind ts none
cuts_by _ ts none = none

cuts_told : (rs : List Reply) → NoCuts (telling rs)
cuts_told [] = tt
cuts_told (r ∷ rs) = cuts_told rs

no_cuts : (first : Opening) (h : Journal) → Conducted first h → NoCuts (left_of first h)
no_cuts first [] c = cuts_told first.tells
no_cuts first (at_port (answered r) ∷ h) c = cuts_behind (left_of first h) (no_cuts first h c.1)
no_cuts first (at_port e ∷ h) c = no_cuts first h c.1
no_cuts first (began o ∷ h) c = of_begun first h o (λ (x : Outcome). NoCuts x.work) c.0 tt (line_cuts true (caused first h) (open_of h))
no_cuts first (did a ps ∷ h) c = cuts_by a (left_of first h) (no_cuts first h c.1)
no_cuts first (became call m ∷ h) c = no_cuts first h c.1
no_cuts first (cut k ∷ h) c = cuts_dropped (left_of first h)
no_cuts first (closing ∷ h) c = tt
no_cuts first (turned t ∷ h) c = no_cuts first h c.1
no_cuts first (_ ∷ h) c = cuts_behind (left_of first h) (no_cuts first h c.1)

no_cut_next : (first : Opening) (h : Journal) (m : AnyMark) → Conducted first h → left_of first h ≡ ask (a_mark m) ∷ drop 1 (left_of first h) → marks_cut (pieces.Mark m) ≡ false
no_cut_next first h m c next =
    let is : (marks_cut (pieces.Mark m) ≡ false) × NoCuts (drop 1 (left_of first h)) = subst NoCuts next (no_cuts first h c) in is.0

-- ---- the piece in hand

-- nothing is in hand, or one piece; where that is a cut, each tick that is published is known to be done
abbrev OneInHand : Journal → Type 0
OneInHand h = (hand_of h ≡ []) ⊎ ((p : Piece) × (hand_of h ≡ p ∷ []) × (marks_cut p ≡ true → known_of h ≡ ticks_published h))

no_cut : {A : Type 0} (p : Piece) → marks_cut p ≡ false → marks_cut p ≡ true → A
no_cut p none is = absurd (let e = sym none ∙ is in cc)

more_known : (h : Journal) (done : ℕ) → known_of h ≤ done → done ≤ ticks_published h → OneInHand h → OneInHand (at_port (loaded done) ∷ h)
more_known h done later below (inl none) = inl none
more_known h done later below (inr (p, is, known)) = inr (p, is, λ cuts. let e = known cuts in omega (arith, e, later, below))

goes_out : (h : Journal) (q : Piece) → OneInHand h → OneInHand (at_port (published q) ∷ h)
goes_out h q (inl none) = inl (ap (λ (ps : List Piece). drop 1 ps) none)
goes_out h q (inr (p, is, known)) = inl (ap (λ (ps : List Piece). drop 1 ps) is)

-- nothing is given
stays : (h : Journal) (a : Action) (ps : List Piece) → ps ≡ [] → OneInHand h → OneInHand (did a ps ∷ h)
stays h a ps none (inl empty) = inl (ap (λ (qs : List Piece). qs ++ ps) empty ∙ none)
stays h a ps none (inr (p, is, known)) = inr (p, ap (λ (qs : List Piece). hand_of h ++ qs) none ∙ append-nil (hand_of h) ∙ is, known)

-- a piece that is no cut comes into the empty hand
comes_in : (h : Journal) (a : Action) (p : Piece) → hand_of h ≡ [] → marks_cut p ≡ false → OneInHand (did a (p ∷ []) ∷ h)
comes_in h a p empty other = inr (p, ap (λ (qs : List Piece). qs ++ p ∷ []) empty, λ cuts. no_cut p other cuts)

did_hand : (first : Opening) (h : Journal) (a : Action) (ps : List Piece) → Conducted first h → MayDo first a h → Gives first.blocks a ps (plan_of h) → OneInHand h → OneInHand (did a ps ∷ h)
did_hand first h (Add m) [] c may run one = stays h (Add m) [] refl one
did_hand first h (Override o) [] c may run one = stays h (Override o) [] refl one
did_hand first h Rest [] c may run one = stays h Rest [] refl one
did_hand first h (Mark m) (pieces.Mark g ∷ []) c may run one =
    comes_in h (Mark m) (pieces.Mark g) may.empty (ap (λ (x : AnyMark). marks_cut (pieces.Mark x)) run.0 ∙ no_cut_next first h m c may.next)
did_hand first h (Mark m) (pieces.Mark g ∷ p ∷ ps) c may run one = absurd run.3
did_hand first h (Mark m) (pieces.Segment s ∷ ps) c may run one = absurd run
did_hand first h (Mark m) (pieces.End ∷ ps) c may run one = absurd run
did_hand first h (Mark m) [] c may run one = absurd run
did_hand first h (Take Go) (pieces.Segment s ∷ []) c may run one = comes_in h (Take Go) (pieces.Segment s) may.empty refl
did_hand first h (Take Hold) (pieces.Segment s ∷ []) c may run one = comes_in h (Take Hold) (pieces.Segment s) may.empty refl
did_hand first h (Take mode) (pieces.Segment s ∷ p ∷ ps) c may run one = absurd run.1
did_hand first h (Take mode) (pieces.Mark m ∷ ps) c may run one = absurd run
did_hand first h (Take mode) (pieces.End ∷ ps) c may run one = absurd run
did_hand first h (Take mode) [] c may run one = absurd run
did_hand first h Clear ps c may run one = absurd may
did_hand first h Reset ps c may run one = absurd may
did_hand first h _ (p ∷ ps) c may run one = absurd run.1

-- all that was given is published where nothing is in hand
pub known_where_stopped : (first : Opening) (h : Journal) → Conducted first h → IsStopped first h → known_of h ≡ ticks_published h
known_where_stopped first h c stopped =
    stopped.done ∙ ap ticks_together (hand_is first h c ∙ ap (λ (ps : List Piece). published_of h ++ ps) stopped.slowed.empty ∙ append-nil (published_of h))

one_in_hand : (first : Opening) (h : Journal) → Conducted first h → OneInHand h
one_in_hand first [] c = inl refl
one_in_hand first (at_port (published q) ∷ h) c = goes_out h q (one_in_hand first h c.1)
one_in_hand first (at_port (loaded done) ∷ h) c = more_known h done c.0.later (done_within first h done c.1 c.0) (one_in_hand first h c.1)
one_in_hand first (at_port (found_halt done) ∷ h) c = absurd c.0
one_in_hand first (did a ps ∷ h) c = did_hand first h a ps c.1 c.0.0 c.0.1 (one_in_hand first h c.1)
one_in_hand first (made_end ∷ h) c = inr (pieces.End, ap (λ (qs : List Piece). qs ++ pieces.End ∷ []) c.0.drained.hand, λ cuts. absurd cc)
one_in_hand first (cut k ∷ h) c =
    inr (pieces.Mark (marks.Cut k), ap (λ (qs : List Piece). qs ++ pieces.Mark (marks.Cut k) ∷ []) c.0.stopped.slowed.empty, λ cuts. known_where_stopped first h c.1 c.0.stopped)
one_in_hand first (_ ∷ h) c = one_in_hand first h c.1

cut_known : (first : Opening) (h : Journal) (p : Piece) → Conducted first h → hand_of h ≡ p ∷ [] → marks_cut p ≡ true → known_of h ≡ ticks_published h
cut_known first h p c is cuts = by_hand (one_in_hand first h c)
  where
    by_hand : OneInHand h → known_of h ≡ ticks_published h
    by_hand (inl none) = absurd (let e = sym none ∙ is in cc)
    by_hand (inr (q, held, known)) = known (let same : q ≡ p = (let e = sym held ∙ is in cc) in ap marks_cut same ∙ cuts)

-- ---- when it may be published

-- a piece that is no cut, while no word waits to be obeyed
pub other_timely : (p : Piece) (h : Journal) → marks_cut p ≡ false → unobeyed_of h ≡ [] → IsTimely p h
other_timely (pieces.Mark (marks.Cut k)) h other obeyed = absurd cc
other_timely (pieces.Segment s) h other obeyed = obeyed
other_timely _ h other obeyed = tt

-- and each piece behind a look
pub timely_looked : (first : Opening) (p : Piece) (done : ℕ) (h : Journal) → Conducted first (at_port (loaded done) ∷ h) → hand_of h ≡ p ∷ [] → unobeyed_of h ≡ [] → IsTimely p (at_port (loaded done) ∷ h)
timely_looked first (pieces.Mark (marks.Cut k)) done h c is obeyed = (refl, cut_known first (at_port (loaded done) ∷ h) (pieces.Mark (marks.Cut k)) c is refl)
timely_looked first (pieces.Segment s) done h c is obeyed = obeyed
timely_looked first _ done h c is obeyed = tt
