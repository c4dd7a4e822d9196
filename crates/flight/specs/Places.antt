-- Where the machine is while pieces are run: their events move it, and nothing else.
use Rattle.std.specs.Prelude.{ℕ, pos, List, [], ◌∷◌, take}
use Rattle.std.specs.List.{flat_map}
use Rattle.units.specs.declared.Steps3.{Steps3}
use Rattle.step_line.specs.declared.Piece.{Piece}
use Rattle.step_line.specs.declared.Record.{Record}
use Rattle.step_line.specs.declared.Record.TheVariants as kinds
use Rattle.step_line.specs.Pieces.{ticks_of}
use Rattle.step_line.specs.Places.{stepped}

-- a place, some records further: the sum of their events
abbrev pub moved_by : Steps3 → List Record → Steps3
moved_by p [] = p
moved_by p (kinds.Event b ∷ rs) = moved_by (stepped p b) rs
moved_by p (kinds.Mark m ∷ rs) = moved_by p rs
moved_by p (kinds.Head h ∷ rs) = moved_by p rs
moved_by p (kinds.End ∷ rs) = moved_by p rs

-- where a machine begins
abbrev pub origin : Steps3
origin = record { x = pos 0; y = pos 0; z = pos 0 }

-- where a machine that was at a place is once the first so many ticks of some pieces are done
abbrev pub machine_from : Steps3 → List Piece → ℕ → Steps3
machine_from place ps done = moved_by place (take done (flat_map ticks_of ps))

-- where all ticks of some pieces lead from a place
abbrev pub end_from : Steps3 → List Piece → Steps3
end_from place ps = moved_by place (flat_map ticks_of ps)

-- the same of a machine that begins where machines do
abbrev pub machine_at : List Piece → ℕ → Steps3
machine_at ps done = machine_from origin ps done

abbrev pub end_of : List Piece → Steps3
end_of ps = end_from origin ps
