-- A record that is refused is never made, whatever lines come.
use Rattle.std.proofs.Common.{◌≡◌, List, [], ◌∷◌, ◌++◌, append-nil, append_assoc, sym, ap, ◌∙◌, subst, None, Some}
use Rattle.std.specs.declared.option.Option.{Option}
use Rattle.step_line.specs.Asking.{moves_of}
use Rattle.step_line.specs.declared.Record.{Record}
use Rattle.step_line.specs.declared.planned_move.PlannedMove.{PlannedMove}
use Rattle.run_rules.specs.Cuts.{ticks_for}
use Rattle.run_rules.specs.Work.{Outcome, asks}
use Rattle.run_texts.specs.Making.{Making, IsMade, Comes, with_line}
use Rattle.run_texts.proofs.Making.{line_made, before_record, record_made}
use Rattle.run_texts.proofs.OneMaking.{one_making}
use Rattle.part_making.specs.declared.Item.{Item}
use Rattle.part_making.specs.Judging.{Known, Goes, Refuses, making, rest_of, all_ticks, all_moves, item_ticks, item_moves}

-- what more lines ask for
ticks_of_more : List Outcome → List Record
ticks_of_more [] = []
ticks_of_more (o ∷ os) = ticks_for o ++ ticks_of_more os

moves_of_more : List Outcome → List PlannedMove
moves_of_more [] = []
moves_of_more (o ∷ os) = moves_of (asks o.work) ++ moves_of_more os

line_more : (k : Known) (ticks : List Record) (moves : List PlannedMove) (o : Outcome)
    → with_line o (making k ticks moves) ≡ making k (ticks ++ ticks_for o) (moves ++ moves_of (asks o.work))
line_more k ticks moves o =
    let base = making k ticks moves in
    let owed : (rest_of k.latest ++ (all_ticks k.next ++ ticks)) ++ ticks_for o ≡ rest_of k.latest ++ (all_ticks k.next ++ (ticks ++ ticks_for o)) =
    append_assoc (rest_of k.latest) (all_ticks k.next ++ ticks) (ticks_for o) ∙ ap (λ (rs : List Record). rest_of k.latest ++ rs) (append_assoc (all_ticks k.next) ticks (ticks_for o)) in
    let left = append_assoc (all_moves k.next) moves (moves_of (asks o.work)) in
    ap (λ (rs : List Record). record base { owed = rs; left = (all_moves k.next ++ moves) ++ moves_of (asks o.work) }) owed
    ∙ ap (λ (ms : List PlannedMove). record base { owed = rest_of k.latest ++ (all_ticks k.next ++ (ticks ++ ticks_for o)); left = ms }) left

lines_more : (since more : List Outcome) (made : List Record) (k : Known) (ticks : List Record) (moves : List PlannedMove) → IsMade since made (making k ticks moves)
    → IsMade (since ++ more) made (making k (ticks ++ ticks_of_more more) (moves ++ moves_of_more more))
unfolding ticks_of_more moves_of_more
lines_more since [] made k ticks moves is =
    subst (λ (lines : List Outcome). IsMade lines made (making k (ticks ++ []) (moves ++ []))) (sym (append-nil since))
    (subst (λ (rs : List Record). IsMade since made (making k rs (moves ++ []))) (sym (append-nil ticks))
    (subst (λ (ms : List PlannedMove). IsMade since made (making k ticks ms)) (sym (append-nil moves)) is))
lines_more since (o ∷ more) made k ticks moves is =
    let one = subst (λ (m : Making). IsMade (since ++ o ∷ []) made m) (line_more k ticks moves o) (line_made since made (making k ticks moves) o is) in
    let all = lines_more (since ++ o ∷ []) more made k (ticks ++ ticks_for o) (moves ++ moves_of (asks o.work)) one in
    subst (λ (lines : List Outcome). IsMade lines made (making k (ticks ++ ticks_of_more (o ∷ more)) (moves ++ moves_of_more (o ∷ more)))) (append_assoc since (o ∷ []) more)
    (subst (λ (rs : List Record). IsMade ((since ++ o ∷ []) ++ more) made (making k rs (moves ++ moves_of_more (o ∷ more)))) (append_assoc ticks (ticks_for o) (ticks_of_more more))
    (subst (λ (ms : List PlannedMove). IsMade ((since ++ o ∷ []) ++ more) made (making k ((ticks ++ ticks_for o) ++ ticks_of_more more) ms)) (append_assoc moves (moves_of (asks o.work)) (moves_of_more more)) all))

pub never_made : (since more : List Outcome) (made : List Record) (k : Known) (ticks : List Record) (moves : List PlannedMove) (r : Record) (n : Making)
    → IsMade since made (making k ticks moves) → Refuses k r → IsMade (since ++ more) (made ++ r ∷ []) n → ⊥
never_made since more made k ticks moves r n is refuses all =
    let b = before_record (since ++ more) made r n all in
    let same : b.before ≡ making k (ticks ++ ticks_of_more more) (moves ++ moves_of_more more) = one_making (since ++ more) made b.before (making k (ticks ++ ticks_of_more more) (moves ++ moves_of_more more)) b.is (lines_more since more made k ticks moves is) in
    refuses (ticks ++ ticks_of_more more) (moves ++ moves_of_more more) n (subst (λ (m : Making). Comes m r n) same b.comes)

pub made_on : (since : List Outcome) (made : List Record) (k now : Known) (ticks : List Record) (moves : List PlannedMove) (r : Record)
    → IsMade since made (making k ticks moves) → Goes k r now → IsMade since (made ++ r ∷ []) (making now ticks moves)
made_on since made k now ticks moves r is goes = record_made since made r (making k ticks moves) (making now ticks moves) is (goes ticks moves)

pub asked : (k : Known) (item : Item) (ticks : List Record) (moves : List PlannedMove) → k.next ≡ None
    → making k (item_ticks item ++ ticks) (item_moves item ++ moves) ≡ making (record k { next = Some item }) ticks moves
asked k item ticks moves none =
    ap (λ (o : Option Item). making (record k { next = o }) (item_ticks item ++ ticks) (item_moves item ++ moves)) none
