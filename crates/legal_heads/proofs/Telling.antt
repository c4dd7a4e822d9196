-- Legal heads tell the events of their moves, in order and none left out.
use Rattle.std.proofs.Common.{◌≡◌, ◌≤◌, ◌+◌, ◌-◌, ℕ, zero, suc, true, false, nat_eq, inl, inr, List, [], ◌∷◌, ◌++◌, map, refl, sym, ap, ◌∙◌, subst, arith, append_assoc, Some, None}
use Rattle.std.specs.declared.option.Option.{Option}
use Rattle.std.specs.List.{flat_map, AllByRecursion}
use Rattle.std.proofs.lemmas.Bool.Decides.{nat_tests}
use Rattle.std.proofs.lemmas.List.{map-append}
use Rattle.std.proofs.lemmas.List.Elements.{filter-append}
use Rattle.std.proofs.lemmas.Grind.{flat_map-append}
use Rattle.units.specs.declared.Move.{Move}
use Rattle.step_line.specs.declared.Mark.{Mark as AnyMark}
use Rattle.step_line.specs.declared.Mark.TheVariants.{Dwell, Spindle, Coolant, Cut, Reset}
use Rattle.step_line.specs.declared.Record.{Record}
use Rattle.step_line.specs.declared.Record.TheVariants as kinds
use Rattle.step_line.specs.declared.planned_move.PlannedMove.{PlannedMove}
use Rattle.step_line.specs.Counting.{events_of}
use Rattle.step_line.specs.Events.{event_of, events_after}
use Rattle.step_line.proofs.Order.{in_parts}
use Rattle.legal_heads.specs.declared.ToldHead.{ToldHead}
use Rattle.legal_heads.specs.declared.Told.{Told}
use Rattle.legal_heads.specs.declared.Told.TheVariants.{Head, Mark, End}
use Rattle.legal_heads.specs.Speeds.{IsDone, MayMark, AreLegalBehind, IsOfItsMove, IsToldRight, told_records, begun_by, HasLegalHeads}
use Rattle.legal_heads.specs.Whole.{is_event, events_among, IsNoCut, HasNoCut, move_events}

-- some events of a move, as they are recorded
abbrev some_events : Move → ℕ → ℕ → List Record
some_events mv k n = map kinds.Event (events_after mv k n)

-- the events that are left of the latest head's move
abbrev left : Option ToldHead → List Record
left None = []
left (Some a) = some_events a.planned.mv (a.first + a.head.n) (events_of a.planned.mv - (a.first + a.head.n))

events_are_events : (m : Move) (k n : ℕ) → events_among (some_events m k n) ≡ some_events m k n
events_are_events m k zero = refl
events_are_events m k (suc n) = ap (λ (rs : List Record). kinds.Event (event_of m (k + 1)) ∷ rs) (events_are_events m (k + 1) n)

head_events : (h : ToldHead) → events_among (told_records (Head h)) ≡ some_events h.planned.mv h.first h.head.n
head_events h = events_are_events h.planned.mv h.first h.head.n

-- n events of a move, and then what is left of it
parts : (mv : Move) (k n whole : ℕ) → k + n ≤ whole
    → some_events mv k (whole - k) ≡ some_events mv k n ++ some_events mv (k + n) (whole - (k + n))
parts mv k n whole within =
    ap (some_events mv k) (let e : whole - k ≡ n + (whole - (k + n)) = omega arith in e)
    ∙ ap (map kinds.Event) (in_parts mv k n (whole - (k + n)))
    ∙ map-append kinds.Event (events_after mv k n) (events_after mv (k + n) (whole - (k + n)))

whole_move : (h : ToldHead) → IsOfItsMove h → h.first ≡ 0
    → move_events h.planned ≡ some_events h.planned.mv h.first h.head.n ++ left (Some h)
whole_move h is first =
    ap (some_events h.planned.mv 0) (let e : events_of h.planned.mv ≡ events_of h.planned.mv - 0 = omega arith in e)
    ∙ ap (λ (k : ℕ). some_events h.planned.mv k (events_of h.planned.mv - k)) (sym first)
    ∙ parts h.planned.mv h.first h.head.n (events_of h.planned.mv) is.within

rest_of_move : (a h : ToldHead) → IsOfItsMove h → h.planned ≡ a.planned → h.first ≡ a.first + a.head.n
    → left (Some a) ≡ some_events h.planned.mv h.first h.head.n ++ left (Some h)
rest_of_move a h is same first =
    ap (λ (k : ℕ). some_events a.planned.mv k (events_of a.planned.mv - k)) (sym first)
    ∙ ap (λ (m : PlannedMove). some_events m.mv h.first (events_of m.mv - h.first)) (sym same)
    ∙ parts h.planned.mv h.first h.head.n (events_of h.planned.mv) is.within

none_left : (before : Option ToldHead) → IsDone before → left before ≡ []
none_left None done = refl
none_left (Some a) done = ap (some_events a.planned.mv (a.first + a.head.n)) (let e : events_of a.planned.mv - (a.first + a.head.n) ≡ 0 = omega (arith, done) in e)

-- a mark that is no cut comes where the latest move is done
mark_done : (before : Option ToldHead) (m : AnyMark) → MayMark before m → IsNoCut (kinds.Mark m) → IsDone before
mark_done before (Dwell ms) may uncut = may.1
mark_done before (Spindle code speed) may uncut = may.1
mark_done before (Coolant on) may uncut = may.1
mark_done before (Cut line) may uncut = absurd uncut
mark_done before (Reset line) may uncut = absurd uncut

no_cut_behind : (front back : List Record) → AllByRecursion IsNoCut (front ++ back) → AllByRecursion IsNoCut back
no_cut_behind [] back all = all
no_cut_behind (r ∷ front) back all = no_cut_behind front back all.1

-- what is told of some events, and what is left over
abbrev Over : List Record → List Record → Type 0
Over all told = (over : List Record) × (all ≡ told ++ over)

abbrev IsRightBefore : Option ToldHead → Type 0
IsRightBefore None = Unit {0}
IsRightBefore (Some a) = IsOfItsMove a

-- a head more
head_over : (h : ToldHead) (source tail : List Record) (rest : List Told)
    → source ≡ some_events h.planned.mv h.first h.head.n ++ left (Some h)
    → Over (left (Some h) ++ tail) (events_among (flat_map told_records rest))
    → Over (source ++ tail) (events_among (flat_map told_records (Head h ∷ rest)))
head_over h source tail rest e then =
    let events = some_events h.planned.mv h.first h.head.n in
    let later = events_among (flat_map told_records rest) in
    let all : events_among (told_records (Head h) ++ flat_map told_records rest) ≡ events ++ later =
    filter-append is_event (told_records (Head h)) (flat_map told_records rest) ∙ ap (λ t. t ++ later) (head_events h) in (
      then.0,
      ap (λ t. t ++ tail) e
          ∙ append_assoc events (left (Some h)) tail
          ∙ ap (λ t. events ++ t) then.1
          ∙ sym (append_assoc events later then.0)
          ∙ ap (λ t. t ++ then.0) (sym all),
    )

begins : (h : ToldHead) (rest : List Told) → h.first ≡ 0 → flat_map begun_by (Head h ∷ rest) ≡ h.planned ∷ flat_map begun_by rest
begins h rest first = let test : nat_eq h.first 0 ≡ true = grind (arith, nat_tests) in rw test refl

begins_none : (h : ToldHead) (rest : List Told) → 1 ≤ h.first → flat_map begun_by (Head h ∷ rest) ≡ flat_map begun_by rest
begins_none h rest later = let test : nat_eq h.first 0 ≡ false = grind (arith, nat_tests) in rw test refl

-- a head that begins its move
first_over : (before : Option ToldHead) (h : ToldHead) (rest : List Told) → IsOfItsMove h → h.first ≡ 0 → left before ≡ []
    → Over (left (Some h) ++ flat_map move_events (flat_map begun_by rest)) (events_among (flat_map told_records rest))
    → Over (left before ++ flat_map move_events (flat_map begun_by (Head h ∷ rest))) (events_among (flat_map told_records (Head h ∷ rest)))
first_over before h rest is first none then =
    let tail = flat_map move_events (flat_map begun_by rest) in
    let o = head_over h (move_events h.planned) tail rest (whole_move h is first) then in (
      o.0,
      ap (λ t. t ++ flat_map move_events (flat_map begun_by (Head h ∷ rest))) none
          ∙ ap (flat_map move_events) (begins h rest first)
          ∙ o.1,
    )

tells : (before : Option ToldHead) (list : List Told) → IsRightBefore before → AllByRecursion IsToldRight list → AreLegalBehind before list
    → AllByRecursion IsNoCut (flat_map told_records list)
    → Over (left before ++ flat_map move_events (flat_map begun_by list)) (events_among (flat_map told_records list))
tells before [] right each legal uncut = (left before ++ [], refl)
tells None (Head h ∷ rest) right each legal uncut =
    first_over None h rest each.0 legal.0.0.0 refl
    (tells (Some h) rest each.0 each.1 legal.1 (no_cut_behind (told_records (Head h)) (flat_map told_records rest) uncut))
tells (Some a) (Head h ∷ rest) right each legal uncut =
    let then = tells (Some h) rest each.0 each.1 legal.1 (no_cut_behind (told_records (Head h)) (flat_map told_records rest) uncut) in
    elim legal.0.0.move [
      | inl stays ↦
          let first = stays.first in
          let some = right.some in
          let o = head_over h (left (Some a)) (flat_map move_events (flat_map begun_by rest)) rest (rest_of_move a h each.0 stays.planned first) then in
          (o.0, ap (λ ms. left (Some a) ++ flat_map move_events ms) (begins_none h rest (omega (arith, first, some))) ∙ o.1)
      | inr later ↦ first_over (Some a) h rest each.0 later.first (none_left (Some a) later.done) then
    ]
tells before (Mark m ∷ rest) right each legal uncut =
    let then = tells None rest tt each.1 legal.1 uncut.1 in
    (then.0, ap (λ t. t ++ flat_map move_events (flat_map begun_by rest)) (none_left before (mark_done before m legal.0 uncut.0)) ∙ then.1)
tells before (End ∷ rest) right each legal uncut =
    let then = tells None rest tt each.1 legal.1 uncut.1 in
    (then.0, ap (λ t. t ++ flat_map move_events (flat_map begun_by rest)) (none_left before legal.0.1) ∙ then.1)

-- the events of legal heads are a front of those of their moves
pub events_front : (moves : List PlannedMove) (records : List Record) → HasLegalHeads moves records → HasNoCut records
    → Over (flat_map move_events moves) (events_among records)
events_front moves records is uncut =
    let begun = flat_map begun_by is.told in
    let o = tells None is.told tt is.each is.legal (subst HasNoCut is.recorded uncut) in
    let later = flat_map move_events is.rest in (
      o.0 ++ later,
      ap (flat_map move_events) is.in_order
          ∙ flat_map-append move_events begun is.rest
          ∙ ap (λ t. t ++ later) o.1
          ∙ append_assoc (events_among (flat_map told_records is.told)) o.0 later
          ∙ ap (λ rs. events_among rs ++ (o.0 ++ later)) (sym is.recorded),
    )
