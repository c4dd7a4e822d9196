-- The pieces of the tests come in turn.
use Rattle.std.proofs.Common.{ℕ, inr, List, [], ◌∷◌, ◌++◌, reverse, append_assoc, pos, refl, ap, subst, ◌∙◌, rules, lit≤, lit<}
use Rattle.std.proofs.lemmas.List.{reverse-append}
use Rattle.step_line.specs.declared.Segment.{Segment}
use Rattle.step_line.specs.declared.Piece.{Piece}
use Rattle.step_line.specs.declared.Piece.TheVariants as pieces
use Rattle.step_line.specs.declared.Mark.TheVariants.{Spindle}
use Rattle.step_line.specs.declared.SpindleCode.TheVariants.{M3}
use Rattle.step_line.specs.Counting.{events_of}
use Rattle.step_line.specs.Pieces.{IsTraceable}
use Rattle.step_line.specs.Ordering.{ComesNext, InTurn}

-- what comes behind pieces that come in turn
comes_behind : (later before : List Piece) (p : Piece) → InTurn (later ++ p ∷ before) → ComesNext before p
comes_behind [] before p turns = turns.0
comes_behind (q ∷ later) before p turns = comes_behind later before p turns.1

got_one : (p : Piece) (rest before : List Piece) → InTurn (reverse (p ∷ rest) ++ before) → InTurn (reverse rest ++ p ∷ before)
got_one p rest before turns = subst InTurn (ap (λ x. x ++ before) (reverse-append (p ∷ []) rest) ∙ append_assoc (reverse rest) (p ∷ []) before) turns

pub got_next : (p : Piece) (rest before : List Piece) → InTurn (reverse (p ∷ rest) ++ before) → InTurn (reverse rest ++ p ∷ before) × ComesNext before p
got_next p rest before turns = let on = got_one p rest before turns in (on, comes_behind (reverse rest) before p on)

-- some events of a move from the origin, as the tests name them
abbrev pub some_events : ℕ → ℕ → ℕ → ℕ → Segment
some_events x y first n = record {
  line = 7;
  mv = record { from = record { x = pos 0; y = pos 0; z = pos 0 }; to = record { x = pos x; y = pos y; z = pos 0 } };
  first = first;
  n = n;
  w_in = 40000;
  w_out = 90000;
  cycles = 500;
}

two_of_three : IsTraceable (some_events 3 2 0 2)
unfolding events_of
two_of_three = record { mv = search rules; head = record { line = (lit≤ tt, lit< tt); n = (lit≤ tt, lit< tt); w = lit< tt; cycles = lit< tt }; within = lit≤ tt }

last_of_three : IsTraceable (some_events 3 2 2 1)
unfolding events_of
last_of_three = record { mv = search rules; head = record { line = (lit≤ tt, lit< tt); n = (lit≤ tt, lit< tt); w = lit< tt; cycles = lit< tt }; within = lit≤ tt }

both_of_two : IsTraceable (some_events 2 0 0 2)
unfolding events_of
both_of_two = record { mv = search rules; head = record { line = (lit≤ tt, lit< tt); n = (lit≤ tt, lit< tt); w = lit< tt; cycles = lit< tt }; within = lit≤ tt }

all_of_three : IsTraceable (some_events 3 2 0 3)
unfolding events_of
all_of_three = record { mv = search rules; head = record { line = (lit≤ tt, lit< tt); n = (lit≤ tt, lit< tt); w = lit< tt; cycles = lit< tt }; within = lit≤ tt }

pub three_in_turn : InTurn (pieces.Segment (some_events 3 2 0 3) ∷ [])
three_in_turn = (record { going = refl; follows = (all_of_three, refl) }, tt)

pub four_in_turn : InTurn (pieces.End ∷ (pieces.Mark (Spindle M3 1000) ∷ (pieces.Segment (some_events 3 2 2 1) ∷ (pieces.Segment (some_events 3 2 0 2) ∷ []))))
four_in_turn = (
  record { going = refl; follows = tt },
  (record { going = refl; follows = lit< tt }, (record { going = refl; follows = (last_of_three, inr (record { line = refl; mv = refl; first = refl })) }, (record { going = refl; follows = (two_of_three, refl) }, tt))),
)

pub one_in_turn : InTurn (pieces.Segment (some_events 2 0 0 2) ∷ [])
one_in_turn = (record { going = refl; follows = (both_of_two, refl) }, tt)
