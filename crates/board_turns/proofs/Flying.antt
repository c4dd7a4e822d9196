-- The flight of a board, which knows the pieces that were published.
use Rattle.std.proofs.Common.{◌≡◌, ℕ, ◌-◌, ◌≤◌, ◌<◌, List, [], ◌∷◌, length, max, min, refl, ap, ◌∙◌, subst, arith}
use Rattle.std.proofs.lemmas.List.{reverse-reverse}
use Rattle.units.specs.declared.Steps3.{Steps3}
use Rattle.step_line.specs.declared.Piece.{Piece}
use Rattle.step_line.specs.declared.Piece.TheVariants as pieces
use Rattle.step_line.specs.Finishing.{ticks_together, unfinished, most_unfinished}
use Rattle.motion_ring.specs.declared.lists.Sent.{Sent}
use Rattle.motion_ring.specs.Sides.{unfinished_in}
use Rattle.flight.specs.Flights.{Flying, Flies, IsFit, BeginsAt, flight_room}
use Rattle.flight.specs.Places.{end_from}
use Rattle.board_journal.specs.Openings.{Opening}
use Rattle.board_journal.specs.Ports.{MayPublish, MayBeDone}
use Rattle.board_journal.specs.Ports.PortStep.{loaded}
use Rattle.board_journal.specs.Steps.{Journal, port_log, published_of, known_of, hand_of}
use Rattle.board_journal.specs.Steps.Step.{at_port}
use Rattle.board_rules.proofs.Placing.{next_begins}
use Rattle.board_rules.specs.Conduct.{Conducted}
use Rattle.board_rules.proofs.Unstopped.{journals_never_stop, sent_alone, done_within}
use Rattle.board_turns.specs.declared.board.Board.{Board}
use Rattle.board_turns.specs.Boards.{Keeps, IsFlown}

-- a piece that comes next can be traced
pub fits_next : (p : Piece) (h : Journal) → MayPublish (port_log h) p → IsFit p
fits_next (pieces.Segment s) h next = next.follows.0
fits_next (pieces.Mark m) h next = tt
fits_next pieces.End h next = tt

-- it begins where the flight leads
pub begins_next : {N : ℕ} (first : Opening) (b : Board N) (h : Journal) (p : Piece) → Keeps first b h → hand_of h ≡ p ∷ [] → BeginsAt (end_from first.place (published_of h)) p
begins_next first b h p k is = next_begins first h k.placed k.conducted p (rw is refl)

no_more : (a b c d : ℕ) → a ≤ d → d ≤ b → max a (min b c) ≤ b
no_more a b c d e f = grind (arith, e, f)

-- a flight that learns how many ticks are done
pub learned : {N : ℕ} (first : Opening) (b : Board N) (f : Flying) (h : Journal) (done : ℕ) → Keeps first b h → MayBeDone done (port_log h)
    → ((published : List Piece) (known : ℕ) → Flies first.place b.flight published known → Flies first.place f published (max known (min done (ticks_together published))))
    → IsFlown first f (at_port (loaded done) ∷ h)
learned first b f h done k may learns = record {
  known = max k.flight.known (min done (ticks_together (published_of h)));
  found = no_more k.flight.known done (ticks_together (published_of h)) (known_of h) k.flight.found may.later;
  flies = learns (published_of h) k.flight.known k.flight.flies;
}

-- at most five of the pieces are unfinished then
few_unfinished : (first : Opening) (h : Journal) (done : ℕ) → Conducted first h → MayBeDone done (port_log h) → unfinished (published_of h) done ≤ most_unfinished
few_unfinished first h done c may =
    let all : done - 0 ≡ done = omega arith in
    let e = ap (λ (s : Sent). unfinished_in s done) (sent_alone (port_log h) (journals_never_stop first h c)) ∙ (λ i. unfinished (reverse-reverse (published_of h) i) (all i)) in
    let f = may.few in omega (arith, e, f)

-- so the flight has room for a piece more
pub room_learned : {N : ℕ} (first : Opening) (b : Board N) (f : Flying) (h : Journal) (done : ℕ) → Keeps first b h → MayBeDone done (port_log h)
    → ((start : Steps3) (published : List Piece) (known : ℕ) → Flies start b.flight published known → unfinished published done < flight_room → length f.kept < flight_room) → length f.kept < flight_room
room_learned first b f h done k may room =
    let few = few_unfinished first h done k.conducted may in
    room first.place (published_of h) k.flight.known k.flight.flies (omega (arith, few))

-- it knows each tick that is found done
pub learned_all : (first : Opening) (was f : Flying) (done : ℕ) (h : Journal) → Conducted first h → IsFlown first was h → MayBeDone done (port_log h)
    → ((published : List Piece) (known : ℕ) → Flies first.place was published known → Flies first.place f published (max known (min done (ticks_together published)))) → Flies first.place f (published_of h) done
learned_all first was f done h conducted flown may learns =
    let known = flown.known in
    let a = flown.found in
    let c = may.later in
    let d = done_within first h done conducted may in
    let same : max known (min done (ticks_together (published_of h))) ≡ done = omega (arith, a, c, d) in
    subst (λ n. Flies first.place f (published_of h) n) same (learns (published_of h) known flown.flies)
