-- Where no line has moved since the last one that settles, the machine stands, or is waited for.
use Rattle.std.proofs.Common.{◌≡◌, ℕ, ◌⊎◌, inl, inr, List, [], ◌∷◌, ◌++◌, drop, true, false, Bool, cond, ◌||◌, sym, refl, ap, ◌∙◌, append-nil, subst}
use Rattle.status_report.specs.declared.Reply.{Reply}
use Rattle.step_line.specs.declared.Piece.{Piece}
use Rattle.step_line.specs.Finishing.{ticks_together}
use Rattle.step_line.specs.Asking.Asked.{a_move, a_mark, a_rest}
use Rattle.plan_rules.specs.declared.Mode.TheVariants.{Go, Hold}
use Rattle.planner_runs.specs.declared.Action.{Action}
use Rattle.planner_runs.specs.declared.Action.TheVariants.{Add, Take, Override, Mark, Rest, Clear, Reset}
use Rattle.overrides.specs.declared.Overrides.{Overrides}
use Rattle.planner_runs.specs.Runs.{IsAtRest}
use Rattle.board_journal.specs.Openings.{Opening}
use Rattle.run_rules.specs.Work.{Task, Outcome, has_moves}
use Rattle.run_rules.specs.Work.Task.{ask, tell, pause, normal, halt}
use Rattle.board_journal.specs.Ports.{MayBeDone}
use Rattle.board_journal.specs.Ports.PortStep.{answered, published, loaded, found_halt}
use Rattle.board_journal.specs.Steps.{Step, Journal, port_log, given_of, hand_of, known_of, plan_of, left_of, left_by, plan_after, before_of, closed_tells}
use Rattle.board_journal.specs.Steps.Step.{at_port, began, did, made_end, evened, paused, cut, halted, closing}
use Rattle.board_rules.specs.Conduct.{Conducted, Gives, MayDo, MayRest, MayPause, MayEven, MayHalt, IsDrained, ticks_given}
use Rattle.board_rules.specs.Whole.{has_work, comes_to_rest, WorkRests, HasComeToRest, ComesToRest, has_any_moved}
use Rattle.board_rules.proofs.Opening.{no_work_told}
use Rattle.board_rules.proofs.Given.{all_known}
use Rattle.board_rules.proofs.Beginning.{all_counted}
use Rattle.board_rules.proofs.Works.{begun_rests}
use Rattle.board_rules.proofs.Standing.{rested_is, not_cut}
use Rattle.board_rules.proofs.Tasks.{none_next, none_taken, none_given, none_closed}

-- the same, of tasks that may be left
abbrev Stands : Opening → List Task → Journal → Type 0
Stands first tasks h = (comes_to_rest tasks ≡ true) ⊎ HasComeToRest first h

-- one task less, where there is no work
tail_works : (ts : List Task) (t : Task) → ts ≡ t ∷ drop 1 ts → has_work ts ≡ false → has_work (drop 1 ts) ≡ false
tail_works ts (ask (a_move m)) next none = absurd (let e = sym none ∙ ap has_work next in cc)
tail_works ts (ask (a_mark m)) next none = absurd (let e = sym none ∙ ap has_work next in cc)
tail_works ts _ next none = sym (ap has_work next) ∙ none

-- a rest that is still to come stays so behind any other task
tail_rests : (ts : List Task) (t : Task) → ts ≡ t ∷ drop 1 ts → (t ≡ ask a_rest → ⊥) → comes_to_rest ts ≡ true → comes_to_rest (drop 1 ts) ≡ true
tail_rests ts (ask a_rest) next other will = absurd (other refl)
tail_rests ts _ next other will = sym (ap comes_to_rest next) ∙ will

-- the machine stands still while nothing is done to it
still_drained : (h : Journal) (s : Step) → plan_of (s ∷ h) ≡ plan_of h → hand_of (s ∷ h) ≡ hand_of h → known_of (s ∷ h) ≡ known_of h
    → given_of (s ∷ h) ≡ given_of h → IsDrained h → IsDrained (s ∷ h)
still_drained h s plan hand known given d = record {
  plan = subst IsAtRest (sym plan) d.plan;
  hand = hand ∙ d.hand;
  done = known ∙ d.done ∙ sym (ap ticks_together given);
}

-- more is found done: nothing more, where all is
loaded_drained : (first : Opening) (h : Journal) (n : ℕ) → Conducted first h → MayBeDone n (port_log h) → IsDrained h → IsDrained (at_port (loaded n) ∷ h)
loaded_drained first h n c may d = record { plan = d.plan; hand = d.hand; done = all_known first h n c may d.done }

on_answer : (first : Opening) (h : Journal) (r : Reply) → left_of first h ≡ tell r ∷ drop 1 (left_of first h) → Stands first (left_of first h) h → Stands first (drop 1 (left_of first h)) (at_port (answered r) ∷ h)
on_answer first h r next (inl will) = inl (tail_rests (left_of first h) (tell r) next (λ e. absurd cc) will)
on_answer first h r next (inr q) = inr (record { drained = still_drained h (at_port (answered r)) refl refl refl refl q.drained; work = tail_works (left_of first h) (tell r) next q.work })

on_publish : (first : Opening) (h : Journal) (p : Piece) → hand_of h ≡ p ∷ drop 1 (hand_of h) → Stands first (left_of first h) h → Stands first (left_of first h) (at_port (published p) ∷ h)
on_publish first h p next (inl will) = inl will
on_publish first h p next (inr q) = absurd (none_next (hand_of h) p q.drained.hand next)

on_load : (first : Opening) (h : Journal) (n : ℕ) → Conducted first h → MayBeDone n (port_log h) → Stands first (left_of first h) h → Stands first (left_of first h) (at_port (loaded n) ∷ h)
on_load first h n c may (inl will) = inl will
on_load first h n c may (inr q) = inr (record { drained = loaded_drained first h n c may q.drained; work = q.work })

-- at the end of a program it is planned for other overrides where the machine stands
on_even : (first : Opening) (h : Journal) → MayEven first h → Stands first (left_of first h) h → Stands first (drop 1 (left_of first h)) (evened ∷ h)
on_even first h may (inl will) = inl (tail_rests (left_of first h) normal may.rests.next (λ e. absurd cc) will)
on_even first h may (inr q) = inr (record {
  drained = record { plan = record { blocks = q.drained.plan.blocks; speed = q.drained.plan.speed }; hand = q.drained.hand; done = q.drained.done };
  work = tail_works (left_of first h) normal may.rests.next q.work;
})

on_pause : (first : Opening) (h : Journal) → MayPause first h → Stands first (left_of first h) h → Stands first (drop 1 (left_of first h)) (paused ∷ h)
on_pause first h may (inl will) = inl (tail_rests (left_of first h) pause may.rests.next (λ e. absurd cc) will)
on_pause first h may (inr q) = inr (record {
  drained = still_drained h paused refl refl refl refl q.drained;
  work = tail_works (left_of first h) pause may.rests.next q.work;
})

on_halt : (first : Opening) (h : Journal) → MayHalt first h → Stands first (left_of first h) h → Stands first (drop 1 (left_of first h)) (halted ∷ h)
on_halt first h may (inl will) = inl (tail_rests (left_of first h) halt may.next (λ e. absurd cc) will)
on_halt first h may (inr q) = inr (record {
  drained = record { plan = record { blocks = refl; speed = refl }; hand = q.drained.hand; done = q.drained.done };
  work = tail_works (left_of first h) halt may.next q.work;
})

-- nothing is done to the machine, and what is left stays
on_other : (first : Opening) (h : Journal) (s : Step) → plan_of (s ∷ h) ≡ plan_of h → hand_of (s ∷ h) ≡ hand_of h → known_of (s ∷ h) ≡ known_of h
    → given_of (s ∷ h) ≡ given_of h → left_of first (s ∷ h) ≡ left_of first h → Stands first (left_of first h) h → Stands first (left_of first (s ∷ h)) (s ∷ h)
on_other first h s plan hand known given left (inl will) = inl (ap comes_to_rest left ∙ will)
on_other first h s plan hand known given left (inr q) =
    inr (record { drained = still_drained h s plan hand known given q.drained; work = ap has_work left ∙ q.work })

-- a rest is over where the machine is drained
on_rest : (first : Opening) (h : Journal) (ps : List Piece) → MayRest first (ask a_rest) h → ps ≡ [] → Stands first (left_of first h) h → (b : Bool) → has_work (drop 1 (left_of first h)) ≡ b
    → Stands first (drop 1 (left_of first h)) (did Rest ps ∷ h)
on_rest first h ps may none st false is =
    let keeps : (qs : List Piece) → qs ++ ps ≡ qs = λ qs. ap (λ (rs : List Piece). qs ++ rs) none ∙ append-nil qs in
    inr (record { drained = still_drained h (did Rest ps) refl (keeps (hand_of h)) refl (keeps (given_of h)) may.drained; work = is })
on_rest first h ps may none (inl will) true is = inl (let e = sym (ap comes_to_rest may.next) ∙ will in rw is at e)
on_rest first h ps may none (inr q) true is = absurd (let e = tail_works (left_of first h) (ask a_rest) may.next q.work in cc)

on_override : (first : Opening) (h : Journal) (o : Overrides) (ps : List Piece) → ps ≡ [] → Stands first (left_of first h) h → Stands first (left_of first h) (did (Override o) ps ∷ h)
on_override first h o ps none (inl will) = inl will
on_override first h o ps none (inr q) =
    let keeps : (qs : List Piece) → qs ++ ps ≡ qs = λ qs. ap (λ (rs : List Piece). qs ++ rs) none ∙ append-nil qs in
    inr (record {
      drained = record {
        plan = record { blocks = q.drained.plan.blocks; speed = q.drained.plan.speed };
        hand = keeps (hand_of h) ∙ q.drained.hand;
        done = q.drained.done ∙ sym (ap ticks_together (keeps (given_of h)));
      };
      work = q.work;
    })

on_did : (first : Opening) (h : Journal) (a : Action) (ps : List Piece) → MayDo first a h → Gives first.blocks a ps (plan_of h) → Stands first (left_of first h) h → Stands first (left_by a (left_of first h)) (did a ps ∷ h)
on_did first h (Add m) ps may gives (inl will) = inl (tail_rests (left_of first h) (ask (a_move m)) may (λ e. absurd cc) will)
on_did first h (Add m) ps may gives (inr q) = absurd (let e = sym q.work ∙ ap has_work may in cc)
on_did first h (Mark m) ps may gives (inl will) = inl (tail_rests (left_of first h) (ask (a_mark m)) may.next (λ e. absurd cc) will)
on_did first h (Mark m) ps may gives (inr q) = absurd (let e = sym q.work ∙ ap has_work may.next in cc)
on_did first h Rest ps may gives st = on_rest first h ps may (none_given first.blocks (plan_of h) (plan_of h) ps gives.1) st (has_work (drop 1 (left_of first h))) refl
on_did first h (Take Go) ps may gives (inl will) = inl will
on_did first h (Take Go) ps may gives (inr q) = absurd (none_taken first.blocks (plan_of h) Go ps (plan_after (Take Go) ps (plan_of h)) q.drained.plan.blocks gives)
on_did first h (Take Hold) ps may gives (inl will) = inl will
on_did first h (Take Hold) ps may gives (inr q) = absurd (none_taken first.blocks (plan_of h) Hold ps (plan_after (Take Hold) ps (plan_of h)) q.drained.plan.blocks gives)
on_did first h (Override o) ps may gives st = on_override first h o ps (none_given first.blocks (plan_after (Override o) ps (plan_of h)) (plan_after (Override o) ps (plan_of h)) ps gives.1) st
on_did first h Clear ps may gives st = absurd may
on_did first h Reset ps may gives st = absurd may

by_still : (first : Opening) (h : Journal) (o : Outcome) → IsDrained h → (comes_to_rest o.work ≡ true) ⊎ (has_work o.work ≡ false) → Stands first o.work (began o ∷ h)
by_still first h o d (inl will) = inl will
by_still first h o d (inr none) = inr (record { drained = still_drained h (began o) refl refl refl refl d; work = none })

drained_here : (first : Opening) (h : Journal) → left_of first h ≡ [] → Stands first (left_of first h) h → IsDrained h
drained_here first h free (inl will) = absurd (let e = sym (ap comes_to_rest free) ∙ will in cc)
drained_here first h free (inr q) = q.drained

-- a line that was begun where nothing moved before it
on_begun : (first : Opening) (h : Journal) (o : Outcome) (moved : Bool) → left_of first h ≡ [] → WorkRests o → (s m : Bool) → o.settles ≡ s → has_moves o.work ≡ m
    → cond s false (m || moved) ≡ false → (moved ≡ false → Stands first (left_of first h) h) → Stands first o.work (began o ∷ h)
on_begun first h o moved free works true m settles moves still st = inl (works.settles settles)
on_begun first h o moved free works false true settles moves still st = absurd cc
on_begun first h o moved free works false false settles moves still st = by_still first h o (drained_here first h free (st still)) (works.still moves)

pub quiet : (first : Opening) (h : Journal) → Conducted first h → closed_tells h ≡ [] → has_any_moved (before_of first h) ≡ false → ComesToRest first h
quiet first [] c going still = inr (record { drained = record { plan = record { blocks = refl; speed = refl }; hand = refl; done = refl }; work = no_work_told first.tells })
quiet first (at_port (answered r) ∷ h) c going still = on_answer first h r c.0.next (quiet first h c.1 going still)
quiet first (at_port (published p) ∷ h) c going still = on_publish first h p c.0.0 (quiet first h c.1 going still)
quiet first (at_port (loaded done) ∷ h) c going still = on_load first h done c.1 c.0 (quiet first h c.1 going still)
quiet first (at_port (found_halt done) ∷ h) c going still = absurd c.0
quiet first (began o ∷ h) c going still =
    on_begun first h o (has_any_moved (before_of first h)) c.0.free (begun_rests first h o c.0) o.settles (has_moves o.work) refl refl
    (all_counted first h o c.0 still) (λ m. quiet first h c.1 going m)
quiet first (did a ps ∷ h) c going still = on_did first h a ps c.0.0 c.0.1 (quiet first h c.1 going still)
quiet first (made_end ∷ h) c going still = absurd (c.0.closes going)
quiet first (evened ∷ h) c going still = on_even first h c.0 (quiet first h c.1 going still)
quiet first (paused ∷ h) c going still = on_pause first h c.0 (quiet first h c.1 going still)
quiet first (cut k ∷ h) c going still = not_cut first h k c (rested_is first h c.1 going still)
quiet first (halted ∷ h) c going still = on_halt first h c.0 (quiet first h c.1 going still)
quiet first (closing ∷ h) c going still = absurd (none_closed (closed_tells h) going)
quiet first (s ∷ h) c going still = on_other first h s refl refl refl refl refl (quiet first h c.1 going still)

-- so a machine that is not drained where a line may be begun has moved since
pub has_moved : (first : Opening) (h : Journal) → Conducted first h → closed_tells h ≡ [] → left_of first h ≡ []
    → (IsDrained h → ⊥) → has_any_moved (before_of first h) ≡ true
has_moved first h c going free undrained = by_moved (has_any_moved (before_of first h)) refl
  where
    by_moved : (m : Bool) → has_any_moved (before_of first h) ≡ m → m ≡ true
    by_moved true is = refl
    by_moved false is = absurd (undrained (drained_here first h free (quiet first h c going is)))

-- and one where nothing moved, and nothing is left to do, has done each tick that was given
pub has_done : (first : Opening) (h : Journal) → Conducted first h → closed_tells h ≡ [] → left_of first h ≡ []
    → has_any_moved (before_of first h) ≡ false → known_of h ≡ ticks_given h
has_done first h c going free still = (drained_here first h free (quiet first h c going still)).done
