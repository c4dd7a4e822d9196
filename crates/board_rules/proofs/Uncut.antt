-- Jogs were cut since the cancel only while they are cancelled; and then nothing is planned, nor asked for.
use Rattle.std.proofs.Common.{◌≡◌, ◌⊎◌, inl, inr, Bool, true, false, ◌&&◌, List, [], ◌∷◌, drop, refl, sym, ap, ◌∙◌}
use Rattle.code_table.specs.declared.flags.Exec.{Exec}
use Rattle.feed_hold.specs.declared.Motion.{Motion}
use Rattle.feed_hold.specs.declared.Motion.TheVariants as motions
use Rattle.feed_hold.specs.Motions.{after_word, after_requests, asks as asks_in_word, hold_byte, cancel_byte, start_byte}
use Rattle.planner_runs.specs.declared.Action.{Action}
use Rattle.planner_runs.specs.declared.Action.TheVariants.{Add, Take, Override, Mark, Rest, Clear, Reset}
use Rattle.step_line.specs.Asking.{Asked}
use Rattle.step_line.specs.Asking.Asked.{a_move, a_mark, a_rest}
use Rattle.step_line.specs.declared.Piece.{Piece}
use Rattle.board_journal.specs.Openings.{Opening}
use Rattle.run_rules.specs.Work.{Task, asks}
use Rattle.run_rules.specs.Work.Task.{ask}
use Rattle.board_journal.specs.Ports.PortStep.{answered}
use Rattle.board_journal.specs.Steps.{Journal, left_of, plan_after, plan_of, motion_of}
use Rattle.board_journal.specs.Steps.Step.{at_port, began, did, made_end, evened, paused, became, cut, halted, closing, turned}
use Rattle.board_rules.specs.Turns.{begins_in, stands_still}
use Rattle.board_rules.specs.Cuts.{has_cut, is_cancelling}
use Rattle.board_rules.specs.Conduct.{Conducted, Gives, MayDo}
use Rattle.board_rules.proofs.Dropping.{asks_dropped, asks_behind}
use Rattle.board_rules.proofs.Tasks.{none_taken}
use Rattle.board_rules.proofs.Locking.{begins_or_locked}
use Rattle.board_rules.proofs.Truths.{both_left, both_right, by_not}

-- what is asked for is next of nothing that is asked for
pub none_asked : (ts : List Task) (a : Asked) → asks ts ≡ [] → ts ≡ ask a ∷ drop 1 ts → ⊥
none_asked ts a none next = absurd (let e = sym none ∙ ap asks next in cc)

-- jogs were cancelled, nothing is planned, and nothing is asked for
pub record IsCutOff (first : Opening) (h : Journal) : Type 0 where
  pub cancelled : motion_of first h ≡ motions.Cancelling
  pub blocks : (plan_of h).blocks ≡ []
  pub none : asks (left_of first h) ≡ []

cancels : (m : Motion) → is_cancelling m ≡ true → m ≡ motions.Cancelling
cancels motions.Cancelling is = refl
cancels m is = absurd cc

did_then : (first : Opening) (h : Journal) (a : Action) (ps : List Piece) → MayDo first a h → Gives first.blocks a ps (plan_of h) → IsCutOff first h → IsCutOff first (did a ps ∷ h)
did_then first h (Add m) ps may gives r = absurd (none_asked (left_of first h) (a_move m) r.none may)
did_then first h (Mark m) ps may gives r = absurd (none_asked (left_of first h) (a_mark m) r.none may.next)
did_then first h Rest ps may gives r = absurd (none_asked (left_of first h) a_rest r.none may.next)
did_then first h (Take mode) ps may gives r = absurd (none_taken first.blocks (plan_of h) mode ps (plan_after (Take mode) ps (plan_of h)) r.blocks gives)
did_then first h (Override o) ps may gives r = record { cancelled = r.cancelled; blocks = r.blocks; none = r.none }
did_then first h Clear ps may gives r = absurd may
did_then first h Reset ps may gives r = absurd may

not_standing : {A : Type 0} (first : Opening) (h : Journal) → motion_of first h ≡ motions.Idle → IsCutOff first h → A
not_standing first h stands r = absurd (let e = sym stands ∙ r.cancelled in cc)

not_begun : {A : Type 0} (m : Motion) → m ≡ motions.Cancelling → (begins_in m ≡ true) ⊎ (m ≡ motions.Alarm) → A
not_begun m is (inl begins) = absurd (let e = sym (ap begins_in is) ∙ begins in cc)
not_begun m is (inr alarm) = absurd (let e = sym is ∙ alarm in cc)

pub cut_off : (first : Opening) (h : Journal) → Conducted first h → has_cut h ≡ true → IsCutOff first h
cut_off first [] c is = absurd cc
cut_off first (at_port (answered r) ∷ h) c is = let o = cut_off first h c.1 is in record { cancelled = o.cancelled; blocks = o.blocks; none = asks_behind (left_of first h) o.none }
cut_off first (at_port e ∷ h) c is = let o = cut_off first h c.1 is in record { cancelled = o.cancelled; blocks = o.blocks; none = o.none }
cut_off first (began o ∷ h) c is = not_begun (motion_of first h) (cut_off first h c.1 is).cancelled (begins_or_locked first h o c)
cut_off first (did a ps ∷ h) c is = did_then first h a ps c.0.0 c.0.1 (cut_off first h c.1 is)
cut_off first (made_end ∷ h) c is = absurd (let e = sym (ap stands_still (cut_off first h c.1 is).cancelled) ∙ c.0.stands in cc)
cut_off first (evened ∷ h) c is = not_standing first h c.0.rests.stands (cut_off first h c.1 is)
cut_off first (paused ∷ h) c is = absurd cc
cut_off first (became call m ∷ h) c is =
    let o = cut_off first h c.1 (both_right (is_cancelling m) (has_cut h) is) in
    record { cancelled = cancels m (both_left (is_cancelling m) (has_cut h) is); blocks = o.blocks; none = o.none }
cut_off first (cut k ∷ h) c is = record { cancelled = c.0.cancelled; blocks = refl; none = asks_dropped (left_of first h) }
cut_off first (halted ∷ h) c is = absurd (let e = sym c.0.alarm ∙ (cut_off first h c.1 is).cancelled in cc)
cut_off first (closing ∷ h) c is = let o = cut_off first h c.1 is in record { cancelled = o.cancelled; blocks = o.blocks; none = refl }
cut_off first (turned t ∷ h) c is = let o = cut_off first h c.1 is in record { cancelled = o.cancelled; blocks = o.blocks; none = o.none }

-- in another state of the motion they were not
pub uncut_else : (first : Opening) (h : Journal) → Conducted first h → (motion_of first h ≡ motions.Cancelling → ⊥) → has_cut h ≡ false
uncut_else first h c other = by_not (has_cut h) (λ is. other (cut_off first h c is).cancelled)

pub uncut_idle : (first : Opening) (h : Journal) → Conducted first h → motion_of first h ≡ motions.Idle → has_cut h ≡ false
uncut_idle first h c stands = uncut_else first h c (λ is. absurd (let e = sym stands ∙ is in cc))

-- a cancel stays one behind a word
still_cancelled : (hold cancel start queued : Bool) → is_cancelling (after_requests hold cancel start queued motions.Cancelling) ≡ true
still_cancelled true true true true = refl
still_cancelled true true true false = refl
still_cancelled true true false queued = refl
still_cancelled true false true true = refl
still_cancelled true false true false = refl
still_cancelled true false false queued = refl
still_cancelled false true true true = refl
still_cancelled false true true false = refl
still_cancelled false true false queued = refl
still_cancelled false false true true = refl
still_cancelled false false true false = refl
still_cancelled false false false queued = refl

and_false : (a : Bool) → (a && false) ≡ false
and_false true = refl
and_false false = refl

-- so a word cuts nothing, and takes no cut back
pub cut_obeyed : (first : Opening) (word : Exec) (queued : Bool) (h : Journal) → Conducted first h → has_cut h ≡ (is_cancelling (after_word word queued (motion_of first h)) && has_cut h)
cut_obeyed first word queued h c = by_cut (has_cut h) refl
  where
    by_cut : (b : Bool) → has_cut h ≡ b → has_cut h ≡ (is_cancelling (after_word word queued (motion_of first h)) && has_cut h)
    by_cut false e = e ∙ sym (ap (λ (b : Bool). is_cancelling (after_word word queued (motion_of first h)) && b) e ∙ and_false (is_cancelling (after_word word queued (motion_of first h))))
    by_cut true e =
        let still : is_cancelling (after_word word queued (motion_of first h)) ≡ true =
        ap (λ (m : Motion). is_cancelling (after_word word queued m)) (cut_off first h c e).cancelled
        ∙ still_cancelled (asks_in_word word hold_byte) (asks_in_word word cancel_byte) (asks_in_word word start_byte) queued in
        sym (ap (λ (b : Bool). b && has_cut h) still)
