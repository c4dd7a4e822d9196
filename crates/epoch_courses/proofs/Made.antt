-- Which cuts are made: all but the last are once a line is begun, or another cut comes.
use Rattle.std.proofs.Common.{◌≡◌, ◌⊎◌, inl, inr, ℕ, ◌≤◌, ◌<◌, Bool, true, false, ◌&&◌, nat_lt, [], ◌∷◌, refl, sym, ap, ◌∙◌, subst, arith}
use Rattle.std.proofs.lemmas.Bool.Decides.{nat_tests}
use Rattle.feed_hold.specs.declared.Motion.{Motion}
use Rattle.feed_hold.specs.declared.Motion.TheVariants as motions
use Rattle.feed_hold.specs.Motions.{Call}
use Rattle.feed_hold.specs.Motions.Call.{on_stopped}
use Rattle.feed_hold.proofs.Reaching.{StaysOrReaches, reached}
use Rattle.step_line.specs.declared.Mark.TheVariants as marks
use Rattle.step_line.specs.declared.Piece.TheVariants as pieces
use Rattle.step_line.proofs.Finished.{together_both}
use Rattle.run_rules.specs.Work.{Outcome}
use Rattle.board_rules.specs.Conduct.{Conducted, MayHappen, ticks_given}
use Rattle.board_rules.specs.Cuts.{has_cut, is_cancelling}
use Rattle.board_journal.specs.Openings.{Opening}
use Rattle.board_journal.specs.Ports.PortStep.{loaded, stored_stop, found_halt}
use Rattle.board_journal.specs.Steps.{Journal, given_of, known_of, motion_of}
use Rattle.board_journal.specs.Steps.Step.{at_port, began, did, made_end, paused, became, cut}
use Rattle.board_rules.specs.Turns.{begins_in}
use Rattle.board_rules.proofs.Locking.{begins_or_locked}
use Rattle.epoch_courses.specs.Course.{is_made}

-- all cuts are made
abbrev pub AllMade : ℕ → Journal → Type 0
AllMade made [] = Unit {0}
AllMade made (cut k ∷ h) = (is_made made h ≡ true) × AllMade made h
AllMade made (_ ∷ h) = AllMade made h

made_so : (n m : ℕ) → n < m → nat_lt n m ≡ true
made_so n m less = grind (arith, nat_tests)

made_later : (n m l : ℕ) → nat_lt n m ≡ true → m ≤ l → nat_lt n l ≡ true
made_later n m l is more = grind (arith, nat_tests)

pub all_later : (made later : ℕ) (h : Journal) → AllMade made h → made ≤ later → AllMade later h
all_later made later [] all more = tt
all_later made later (cut k ∷ h) all more = (made_later (ticks_given h) made later all.0 more, all_later made later h all.1 more)
all_later made later (_ ∷ h) all more = all_later made later h all more

-- where all ticks that were given are made, all cuts are
pub all_given_made : (made : ℕ) (h : Journal) → ticks_given h ≤ made → AllMade made h
all_given_made made [] all = tt
all_given_made made (cut k ∷ h) all =
    let more = together_both (given_of h) (pieces.Mark (marks.Cut k) ∷ []) in
    (made_so (ticks_given h) made (omega (arith, all, more)), all_given_made made h (omega (arith, all, more)))
all_given_made made (did a ps ∷ h) all = let more = together_both (given_of h) ps in all_given_made made h (omega (arith, all, more))
all_given_made made (made_end ∷ h) all = let more = together_both (given_of h) (pieces.End ∷ []) in all_given_made made h (omega (arith, all, more))
all_given_made made (_ ∷ h) all = all_given_made made h all

-- ---- a cut is over once it is made

leaves_cancel : (call : Call) (was m : Motion) → StaysOrReaches m call was → was ≡ motions.Cancelling → is_cancelling m ≡ false → call ≡ on_stopped
leaves_cancel call was m (inl same) is other = absurd (let e = sym (ap is_cancelling (same ∙ is)) ∙ other in cc)
leaves_cancel call was motions.Idle (inr (inl how)) is other = absurd (let e = sym is ∙ how.0 in cc)
leaves_cancel call was motions.Idle (inr (inr (inl (inl runs, how)))) is other = absurd (let e = sym is ∙ runs in cc)
leaves_cancel call was motions.Idle (inr (inr (inl (inr jogs, how)))) is other = absurd (let e = sym is ∙ jogs in cc)
leaves_cancel call was motions.Idle (inr (inr (inr (inl how)))) is other = how.1
leaves_cancel call was motions.Idle (inr (inr (inr (inr how)))) is other = absurd (let e = sym is ∙ how.0 in cc)
leaves_cancel call was motions.Run (inr (inl (inl idle, how))) is other = absurd (let e = sym is ∙ idle in cc)
leaves_cancel call was motions.Run (inr (inl (inr held, how))) is other = absurd (let e = sym is ∙ held in cc)
leaves_cancel call was motions.Run (inr (inr how)) is other = absurd (let e = sym is ∙ how.0 in cc)
leaves_cancel call was motions.Holding (inr how) is other = absurd (let e = sym is ∙ how.0 in cc)
leaves_cancel call was motions.Held (inr (inl how)) is other = absurd (let e = sym is ∙ how.0 in cc)
leaves_cancel call was motions.Held (inr (inr how)) is other = absurd (let e = sym is ∙ how.0 in cc)
leaves_cancel call was motions.Jog (inr how) is other = absurd (let e = sym is ∙ how.0 in cc)
leaves_cancel call was motions.Cancelling (inr how) is other = absurd cc
leaves_cancel call was motions.Stopping (inr how) is other = absurd (let e = sym is ∙ how.0 in cc)
leaves_cancel call was motions.Alarm (inr (inl how)) is other = absurd (let e = sym is ∙ how.0 in cc)
leaves_cancel call was motions.Alarm (inr (inr how)) is other = absurd (let e = sym is ∙ how.0 in cc)

-- jogs that were cancelled are cut, and the cut need not be known to be made
abbrev CutPends : Opening → Journal → Bool
CutPends first h = is_cancelling (motion_of first h) && has_cut h

is_cancel : (m : Motion) → is_cancelling m ≡ true → m ≡ motions.Cancelling
is_cancel motions.Cancelling is = refl
is_cancel m is = absurd cc

stopped_done : (first : Opening) (h : Journal) (call : Call) → MayHappen first call h → call ≡ on_stopped → known_of h ≡ ticks_given h
stopped_done first h call may is = let stops : MayHappen first on_stopped h = subst (λ (x : Call). MayHappen first x h) is may in stops.stopped.done

split_both : (a b : Bool) → (a && b) ≡ true → (a ≡ true) × (b ≡ true)
split_both true b is = (refl, is)
split_both false b is = absurd cc

over_now : (c a b : Bool) → (c && (c && b)) ≡ false → b ≡ true → c ≡ false
over_now true a b none is = absurd (let e = sym is ∙ none in cc)
over_now false a b none is = refl

by_pending : (first : Opening) (h : Journal) (call : Call) (m : Motion) → Conducted first (became call m ∷ h) → CutPends first (became call m ∷ h) ≡ false → (CutPends first h ≡ false → AllMade (known_of h) h) → AllMade (known_of h) h
by_pending first h call m c none before = by_one (CutPends first h) refl
  where
    by_one : (t : Bool) → CutPends first h ≡ t → AllMade (known_of h) h
    by_one false is = before is
    by_one true is =
        let both = split_both (is_cancelling (motion_of first h)) (has_cut h) is in
        let other = over_now (is_cancelling m) true (has_cut h) none both.1 in
        let done = stopped_done first h call c.0.1 (leaves_cancel call (motion_of first h) m (reached call (motion_of first h) m c.0.0) (is_cancel (motion_of first h) both.0) other) in
        all_given_made (known_of h) h (omega (arith, done))

-- so all cuts are known to be made unless one is not over
cuts_known : (first : Opening) (h : Journal) → Conducted first h → CutPends first h ≡ false → AllMade (known_of h) h
cuts_known first [] c none = tt
cuts_known first (at_port (loaded n) ∷ h) c none = all_later (known_of h) n h (cuts_known first h c.1 none) c.0.later
cuts_known first (at_port stored_stop ∷ h) c none = absurd c.0
cuts_known first (at_port (found_halt n) ∷ h) c none = absurd c.0
cuts_known first (at_port e ∷ h) c none = cuts_known first h c.1 none
cuts_known first (paused ∷ h) c none = cuts_known first h c.1 (ap (λ (m : Motion). is_cancelling m && has_cut h) c.0.rests.stands)
cuts_known first (became call m ∷ h) c none = by_pending first h call m c none (λ (e : CutPends first h ≡ false). cuts_known first h c.1 e)
cuts_known first (cut k ∷ h) c none = absurd (let e : true ≡ false = sym (ap (λ (m : Motion). is_cancelling m && true) c.0.cancelled) ∙ none in cc)
cuts_known first (_ ∷ h) c none = cuts_known first h c.1 none

pends_not : (m : Motion) (has : Bool) → (begins_in m ≡ true) ⊎ (m ≡ motions.Alarm) → (is_cancelling m && has) ≡ false
pends_not motions.Cancelling has (inl begins) = absurd cc
pends_not motions.Cancelling has (inr alarm) = absurd cc
pends_not _ has how = refl

-- all are where a line is begun
pub made_before_line : (made : ℕ) (first : Opening) (h : Journal) (o : Outcome) → Conducted first (began o ∷ h) → known_of h ≤ made → AllMade made h
made_before_line made first h o c known = all_later (known_of h) made h (cuts_known first h c.1 (pends_not (motion_of first h) (has_cut h) (begins_or_locked first h o c))) known

both_false : (a b : Bool) → b ≡ false → (a && b) ≡ false
both_false true b none = none
both_false false b none = refl

-- and where another cut comes
pub made_before_cut : (made : ℕ) (first : Opening) (h : Journal) (k : ℕ) → Conducted first (cut k ∷ h) → known_of h ≤ made → AllMade made h
made_before_cut made first h k c known = all_later (known_of h) made h (cuts_known first h c.1 (both_false (is_cancelling (motion_of first h)) (has_cut h) c.0.uncut)) known
