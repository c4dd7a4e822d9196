-- The bytes that a board has taken are those of its lines, and each line is followed by what becomes of it.
use Rattle.std.proofs.Common.{◌≡◌, inl, inr, drop, ℕ, Bool, true, false, cond, ◌+◌, List, [], ◌∷◌, ◌++◌, length, length-append, nat_eq, refl, sym, ap, ◌∙◌, arith, append-nil, append_assoc, subst}
use Rattle.std.specs.List.{AllByRecursion}
use Rattle.std.proofs.lemmas.Bool.Decides.{nat_tests}
use Rattle.std.proofs.lemmas.Grind.{flat_map-append}
use Rattle.run_rules.specs.Lines.{HasNoLf, ended}
use Rattle.planner_runs.specs.declared.Action.{Action}
use Rattle.planner_runs.specs.declared.Action.TheVariants.{Add, Mark, Rest}
use Rattle.step_line.specs.Asking.Asked.{a_move, a_mark, a_rest}
use Rattle.flight.specs.Places.{end_from}
use Rattle.run_rules.specs.Work.{Task, Outcome}
use Rattle.run_rules.specs.Work.Task.{ask, tell, pause, normal, halt}
use Rattle.run_rules.specs.Outcomes.{became_of}
use Rattle.run_rules.specs.Outcomes.Passed.{a_line, a_cut}
use Rattle.run_rules.specs.Locking.{FollowsFrom}
use Rattle.run_rules.proofs.Going.{became_on}
use Rattle.run_rules.proofs.Locking.{line_goes_on, cut_goes_on}
use Rattle.board_rules.specs.Turns.{is_limited}
use Rattle.board_journal.specs.Openings.{Opening, before_first}
use Rattle.board_journal.specs.Steps.{Journal, taken_of, open_of, whole_of, lines_of, outcomes_of, before_of, given_of, left_of, left_by, without_asks, closed_tells}
use Rattle.board_rules.specs.Cuts.{passed_of}
use Rattle.board_journal.specs.Ports.PortStep.{took, answered}
use Rattle.board_journal.specs.Steps.Step.{at_port, began, did, made_end, evened, paused, cut, halted, closing}
use Rattle.board_rules.proofs.Alarms.{alarmed_is}
use Rattle.board_rules.proofs.Beginning.{jogged_is}
use Rattle.board_rules.proofs.Jogging.{cancel_is_jog}
use Rattle.board_rules.proofs.Causing.{becomes_now}
use Rattle.board_rules.specs.Conduct.{Conducted, MayDo}
use Rattle.board_rules.specs.Whole.{AreLines, OneByOne}
use Rattle.board_rules.proofs.Tasks.{none_closed}

all_push : {X : Type 0} (P : X → Type 0) (xs : List X) (x : X) → AllByRecursion P xs → P x → AllByRecursion P (xs ++ x ∷ [])
all_push P [] x h p = (p, tt)
all_push P (y ∷ ys) x h p = (h.0, all_push P ys x h.1 p)

is_lf : (b : ℕ) → nat_eq b 10 ≡ true → b ≡ 10
is_lf b h = grind (arith, nat_tests)

ended_push : (lines : List (List ℕ)) (line : List ℕ) → ended (lines ++ line ∷ []) ≡ ended lines ++ (line ++ 10 ∷ [])
ended_push lines line = flat_map-append (λ (l : List ℕ). l ++ 10 ∷ []) lines (line ∷ []) ∙ ap (λ (t : List ℕ). ended lines ++ t) (append-nil (line ++ 10 ∷ []))

on_byte : (taken : List ℕ) (lines : List (List ℕ)) (raw : List ℕ) (b : ℕ) (t : Bool) → nat_eq b 10 ≡ t → AreLines taken lines raw false
    → AreLines (taken ++ b ∷ []) lines (cond t raw (raw ++ b ∷ [])) t
on_byte taken lines raw b true e is = record {
  bytes = ap (λ (x : List ℕ). x ++ b ∷ []) is.bytes ∙ append_assoc (ended lines) (raw ++ []) (b ∷ [])
      ∙ ap (λ (x : List ℕ). ended lines ++ (x ++ b ∷ [])) (append-nil raw) ∙ ap (λ (c : ℕ). ended lines ++ (raw ++ c ∷ [])) (is_lf b e);
  each = is.each;
  partial = is.partial;
}
on_byte taken lines raw b false e is = record {
  bytes = ap (λ (x : List ℕ). x ++ b ∷ []) is.bytes ∙ append_assoc (ended lines) (raw ++ []) (b ∷ [])
      ∙ ap (λ (x : List ℕ). ended lines ++ (x ++ b ∷ [])) (append-nil raw) ∙ ap (λ (x : List ℕ). ended lines ++ x) (sym (append-nil (raw ++ b ∷ [])));
  each = is.each;
  partial = all_push (λ c. nat_eq c 10 ≡ false) raw b is.partial e;
}

on_begun : (taken : List ℕ) (lines : List (List ℕ)) (raw : List ℕ) → AreLines taken lines raw true → AreLines taken (lines ++ raw ∷ []) [] false
on_begun taken lines raw is = record {
  bytes = is.bytes ∙ sym (ended_push lines raw) ∙ sym (append-nil (ended (lines ++ raw ∷ [])));
  each = all_push HasNoLf lines raw is.each is.partial;
  partial = tt;
}

pub bytes_are : (first : Opening) (h : Journal) → Conducted first h → AreLines (taken_of h) (lines_of h) (open_of h) (whole_of h)
bytes_are first [] c = record { bytes = refl; each = tt; partial = tt }
bytes_are first (at_port (took b) ∷ h) c =
    on_byte (taken_of h) (lines_of h) (open_of h) b (nat_eq b 10) refl (subst (λ (w : Bool). AreLines (taken_of h) (lines_of h) (open_of h) w) c.0.polls.partial (bytes_are first h c.1))
bytes_are first (began o ∷ h) c =
    on_begun (taken_of h) (lines_of h) (open_of h) (subst (λ (w : Bool). AreLines (taken_of h) (lines_of h) (open_of h) w) c.0.whole (bytes_are first h c.1))
bytes_are first (_ ∷ h) c = bytes_are first h c.1

-- ---- what becomes of them

-- the number of the next line is one more than those begun
pub number_is : (first : Opening) (h : Journal) → Conducted first h → (before_of first h).number ≡ first.lines + length (outcomes_of h) + 1
number_is first [] c = omega arith
number_is first (began o ∷ h) c =
    let n = number_is first h c.1 in
    let e = length-append (outcomes_of h) (o ∷ []) in
    omega (arith, n, e)
number_is first (_ ∷ h) c = number_is first h c.1

-- the lines that were passed are those begun
pub became_is : (first : Opening) (h : Journal) → became_of (passed_of first h) ≡ outcomes_of h
became_is first [] = refl
became_is first (began o ∷ h) = became_on (passed_of first h) (a_line o ∷ []) ∙ ap (λ (os : List Outcome). os ++ o ∷ []) (became_is first h)
became_is first (cut k ∷ h) = became_on (passed_of first h) (a_cut k (end_from first.place (given_of h)) ∷ []) ∙ append-nil (became_of (passed_of first h)) ∙ became_is first h
became_is first (_ ∷ h) = became_is first h

pub lines_follow : (first : Opening) (h : Journal) → Conducted first h → FollowsFrom (is_limited first.motion) true (before_first first) (lines_of h) (passed_of first h) (before_of first h)
lines_follow first [] c = refl
lines_follow first (began o ∷ h) c =
    line_goes_on (is_limited first.motion) true (before_first first) (before_of first h) (lines_of h) (passed_of first h) (open_of h) o (lines_follow first h c.1) (alarmed_is first h ∙ c.0.calm) (becomes_now first h o c)
lines_follow first (cut k ∷ h) c =
    let n = number_is first h c.1 in
    let k_is = c.0.number in
    cut_goes_on (is_limited first.motion) true (before_first first) (before_of first h) (lines_of h) (passed_of first h) k (end_from first.place (given_of h)) (lines_follow first h c.1)
    (record { free = alarmed_is first h ∙ c.0.calm; number = omega (arith, n, k_is); cause = jogged_is first h ∙ cancel_is_jog first h c.1 c.0.cancelled; found = refl })
lines_follow first (_ ∷ h) c = lines_follow first h c.1

-- ---- one line at a time

abbrev Lone : Opening → Journal → Type 0
Lone first h = OneByOne (left_of first h) (open_of h) (whole_of h)

-- a task is done
on_task : (first : Opening) (h : Journal) (t : Task) → left_of first h ≡ t ∷ drop 1 (left_of first h) → Lone first h → OneByOne (drop 1 (left_of first h)) (open_of h) (whole_of h)
on_task first h t next (inl free) = inl (ap (λ (ts : List Task). drop 1 ts) free)
on_task first h t next (inr none) = inr none

on_did : (first : Opening) (h : Journal) (a : Action) → MayDo first a h → Lone first h → OneByOne (left_by a (left_of first h)) (open_of h) (whole_of h)
on_did first h (Add m) may is = on_task first h (ask (a_move m)) may is
on_did first h (Mark m) may is = on_task first h (ask (a_mark m)) may.next is
on_did first h Rest may is = on_task first h (ask a_rest) may.next is
on_did first h _ may is = is

on_cut : (first : Opening) (h : Journal) → Lone first h → OneByOne (without_asks (left_of first h)) (open_of h) (whole_of h)
on_cut first h (inl free) = inl (ap without_asks free)
on_cut first h (inr none) = inr none

pub one_by_one : (first : Opening) (h : Journal) → Conducted first h → closed_tells h ≡ [] → Lone first h
one_by_one first [] c going = inr (refl, refl)
one_by_one first (at_port (took b) ∷ h) c going = inl c.0.polls.all_done
one_by_one first (at_port (answered r) ∷ h) c going = on_task first h (tell r) c.0.next (one_by_one first h c.1 going)
one_by_one first (began o ∷ h) c going = inr (refl, refl)
one_by_one first (did a ps ∷ h) c going = on_did first h a c.0.0 (one_by_one first h c.1 going)
one_by_one first (made_end ∷ h) c going = absurd (c.0.closes going)
one_by_one first (evened ∷ h) c going = on_task first h normal c.0.rests.next (one_by_one first h c.1 going)
one_by_one first (paused ∷ h) c going = on_task first h pause c.0.rests.next (one_by_one first h c.1 going)
one_by_one first (cut k ∷ h) c going = on_cut first h (one_by_one first h c.1 going)
one_by_one first (halted ∷ h) c going = on_task first h halt c.0.next (one_by_one first h c.1 going)
one_by_one first (closing ∷ h) c going = absurd (none_closed (closed_tells h) going)
one_by_one first (_ ∷ h) c going = one_by_one first h c.1 going
