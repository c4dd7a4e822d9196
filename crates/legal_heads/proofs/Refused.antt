-- Which records have no legal heads.
use Rattle.std.proofs.Common.{◌≡◌, List, [], ◌∷◌, ◌++◌, true, nat_eq, refl, ◌∙◌, ap, arith}
use Rattle.std.specs.List.{flat_map, AllByRecursion}
use Rattle.std.proofs.lemmas.Bool.Decides.{nat_tests}
use Rattle.step_line.specs.declared.Head.{Head as AnyHead}
use Rattle.step_line.specs.declared.Record.{Record}
use Rattle.step_line.specs.declared.Record.TheVariants as kinds
use Rattle.step_line.specs.declared.planned_move.PlannedMove.{PlannedMove}
use Rattle.legal_heads.specs.declared.ToldHead.{ToldHead}
use Rattle.legal_heads.specs.declared.Told.{Told}
use Rattle.legal_heads.specs.declared.Told.TheVariants.{Head, Mark, End}
use Rattle.legal_heads.specs.Speeds.{AreLegal, IsToldRight, told_records, begun_by, HasLegalHeads}

-- a first head is told as one that begins a move at rest
record IsFirst (h : AnyHead) (moves : List PlannedMove) : Type 0 where
  rest : h.w ≡ 0
  move : PlannedMove
  line : h.line ≡ move.line
  later : List PlannedMove
  all : moves ≡ move ∷ later

begins_move : (t : ToldHead) (rest : List Told) → t.first ≡ 0 → flat_map begun_by (Head t ∷ rest) ≡ t.planned ∷ flat_map begun_by rest
begins_move t rest first = let test : nat_eq t.first 0 ≡ true = grind (arith, nat_tests) in rw test refl

first_of : (h : AnyHead) (moves left : List PlannedMove) (records : List Record) (told : List Told)
    → kinds.Head h ∷ records ≡ flat_map told_records told → AllByRecursion IsToldRight told
    → moves ≡ flat_map begun_by told ++ left → AreLegal told → IsFirst h moves
first_of h moves left records [] e each order legal = absurd (cc)
first_of h moves left records (Head t ∷ rest) e each order legal =
    let same : h ≡ t.head = cc in record {
      rest = ap (λ (x : AnyHead). x.w) same ∙ legal.0.0.1;
      move = t.planned;
      line = ap (λ (x : AnyHead). x.line) same ∙ each.0.line;
      later = flat_map begun_by rest ++ left;
      all = order ∙ ap (λ ms. ms ++ left) (begins_move t rest legal.0.0.0);
    }
first_of h moves left records (Mark m ∷ rest) e each order legal = absurd (cc)
first_of h moves left records (End ∷ rest) e each order legal = absurd (cc)

first : (moves : List PlannedMove) (h : AnyHead) (records : List Record) → HasLegalHeads moves (kinds.Head h ∷ records) → IsFirst h moves
first moves h records is = first_of h moves is.rest records is.told is.recorded is.each is.in_order is.legal

pub first_at_rest : (moves : List PlannedMove) (h : AnyHead) (records : List Record) → HasLegalHeads moves (kinds.Head h ∷ records) → h.w ≡ 0
first_at_rest moves h records is = (first moves h records is).rest

pub first_of_first : (m : PlannedMove) (moves : List PlannedMove) (h : AnyHead) (records : List Record)
    → HasLegalHeads (m ∷ moves) (kinds.Head h ∷ records) → h.line ≡ m.line
first_of_first m moves h records is =
    let f = first (m ∷ moves) h records is in
    let all = f.all in
    let same : f.move ≡ m = cc in
    f.line ∙ ap (λ (x : PlannedMove). x.line) same

-- no head stands without a move
pub none_without_moves : (h : AnyHead) (records : List Record) → HasLegalHeads [] (kinds.Head h ∷ records) → ⊥
none_without_moves h records is = let all = (first [] h records is).all in absurd (cc)
