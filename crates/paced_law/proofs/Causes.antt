-- Why a board waits, in a turn behind which the motion goes on.
use Rattle.std.proofs.Common.{◌≡◌, ◌≢◌, ℕ, ◌||◌, ◌&&◌, Bool, true, false, nat_eq, [], ◌∷◌, refl, sym, ap, ◌∙◌, subst, rules}
use Rattle.std.proofs.lemmas.Bool.Decides.{nat_tests}
use Rattle.std.specs.List.{list_any}
use Rattle.feed_hold.specs.declared.Motion.{Motion}
use Rattle.feed_hold.specs.Motions.{is_halting}
use Rattle.outside.specs.declared.On.{On}
use Rattle.outside.specs.declared.On.TheVariants as on
use Rattle.outside.specs.declared.Turn.{Turn}
use Rattle.outside.specs.declared.Turn.TheVariants.{Did, Wait, Done}
use Rattle.step_line.specs.Logs.{NewestFirst}
use Rattle.board_journal.specs.Openings.{Opening}
use Rattle.board_journal.specs.Ports.PortStep.{took, answered, reported, published, no_piece_room, stored_stop, found_no_halt, found_halt, found_mark}
use Rattle.board_journal.specs.Steps.{Journal}
use Rattle.board_journal.specs.Steps.Step.{at_port, began, turned}
use Rattle.board_rules.specs.Turns.{this_turn, passing, lacks_piece_room}
use Rattle.board_rules.specs.Conduct.{Conducted, Needs}
use Rattle.board_epochs.specs.Epochs.{Closed}
use Rattle.board_epochs.specs.Epochs.Epochs.{goes}
use Rattle.actor_turns.specs.Worlds.{History}
use Rattle.actor_turns.specs.Pacing.{BoardIdles, FoundNothing}
use Rattle.paced_law.specs.Lines.{LinesGoOn, hands_back, RingIsFull}

-- the last turn of a board that goes on in an epoch
turned_so : (es : NewestFirst Closed) (t : Turn) (h : Journal) → BoardIdles (goes es (turned t ∷ h)) → t ≢ Did
turned_so [] t h idles = λ e. idles.1 (let f = idles.2.1 in cc)
turned_so (c ∷ es) t h idles = λ e. idles.1 (let f = idles.2.1 in cc)

pub did_not : (hist : History) (es : NewestFirst Closed) (t : Turn) (h : Journal) → FoundNothing hist → hist.board ≡ goes es (turned t ∷ h) → t ≢ Did
did_not hist es t h found is = turned_so es t h (subst BoardIdles is found.board)

same_number : (n : ℕ) → nat_eq n n ≡ true
same_number n = search (rules, nat_tests)

-- where a piece was handed back in a turn in which nothing went on its way, five stand on the ring
ring_is_full : (first : Opening) (h : Journal) → Conducted first h → list_any lacks_piece_room (this_turn h) ≡ true → list_any passing (this_turn h) ≡ false → RingIsFull h
ring_is_full first [] c lacks still = absurd cc
ring_is_full first (at_port (took b) ∷ h) c lacks still = absurd cc
ring_is_full first (at_port (answered r) ∷ h) c lacks still = absurd cc
ring_is_full first (at_port (reported r) ∷ h) c lacks still = absurd cc
ring_is_full first (at_port (published p) ∷ h) c lacks still = absurd cc
ring_is_full first (at_port (no_piece_room done) ∷ h) c lacks still = record { done = done; handed_back = ap (λ b. b || list_any (hands_back done) (this_turn h)) (same_number done); five = c.0.full.full }
ring_is_full first (at_port (found_mark number bytes) ∷ h) c lacks still = absurd c.0
ring_is_full first (at_port stored_stop ∷ h) c lacks still = absurd c.0
ring_is_full first (at_port found_no_halt ∷ h) c lacks still = absurd c.0
ring_is_full first (at_port (found_halt done) ∷ h) c lacks still = absurd c.0
ring_is_full first (began o ∷ h) c lacks still = absurd cc
ring_is_full first (turned t ∷ h) c lacks still = absurd cc
ring_is_full first (_ ∷ h) c lacks still =
    let full = ring_is_full first h c.1 lacks still in
    record { done = full.done; handed_back = full.handed_back; five = full.five }

neither : {A : Type 0} (a b c : Bool) → a ≡ false → b ≡ false → (a || (b && c)) ≡ true → A
neither true b c none still is = absurd cc
neither false true c none still is = absurd cc
neither false false c none still is = absurd cc

held : {A : Type 0} (m : Motion) → m ≡ Motion.Held → is_halting m ≡ false → A
held m is none = absurd (let e = ap is_halting is in cc)

by_cause : (first : Opening) (o : On) (h : Journal) → Conducted first h → list_any passing (this_turn h) ≡ false → Needs first o h → LinesGoOn first h → RingIsFull h
by_cause first on.Byte h c still needs go = absurd (let e = sym needs.poll ∙ go.unread in cc)
by_cause first on.ReplyRoom h c still needs go = absurd (let e = sym needs ∙ go.room in cc)
by_cause first on.SegmentRoom h c still needs go = ring_is_full first h c needs still
by_cause first on.Motion h c still needs go = neither _ _ _ go.free go.unstopped needs.awaits
by_cause first on.Resume h c still needs go = held _ needs.held go.unheld
by_cause first o h c still needs go = absurd needs

pub five_stand : (first : Opening) (t : Turn) (h : Journal) → t ≢ Did → Conducted first (turned t ∷ h) → LinesGoOn first h → RingIsFull h
five_stand first Did h idle c go = absurd (idle refl)
five_stand first (Wait o) h idle c go = by_cause first o h c.1 c.0.still c.0.cause go
five_stand first Done h idle c go = absurd (let e = sym go.unclosed ∙ c.0.finished.closed in cc)
