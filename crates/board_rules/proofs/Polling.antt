-- What was not polled for yet in a turn: no byte where nothing has passed and no poll found none, and no room for a reply where nothing has
-- passed and none was handed back.
use Rattle.std.proofs.Common.{◌≡◌, Bool, true, false, ◌||◌, [], ◌∷◌, refl, ap, ◌∙◌}
use Rattle.std.specs.List.{list_any}
use Rattle.board_journal.specs.Ports.PortStep.{took, found_empty, found_closed, answered, reported, no_reply_room}
use Rattle.board_journal.specs.Steps.{Step, Journal}
use Rattle.board_journal.specs.Steps.Step.{at_port}
use Rattle.board_rules.specs.Turns.{passing, found_none, polls_byte, polls_room, lacks_reply_room}

neither : (a b : Bool) → (a || b) ≡ false → (a ≡ false) × (b ≡ false)
neither false b none = (refl, none)
neither true b none = absurd cc

no_byte : (s : Step) → passing s ≡ false → found_none s ≡ false → polls_byte s ≡ false
no_byte (at_port (took b)) still none = absurd cc
no_byte (at_port found_empty) still none = absurd cc
no_byte (at_port found_closed) still none = absurd cc
no_byte _ still none = refl

pub none_polled : (h : Journal) → list_any passing h ≡ false → list_any found_none h ≡ false → list_any polls_byte h ≡ false
none_polled [] still none = refl
none_polled (s ∷ h) still none =
    let a = neither (passing s) (list_any passing h) still in
    let n = neither (found_none s) (list_any found_none h) none in
    ap (λ x. x || list_any polls_byte h) (no_byte s a.0 n.0) ∙ none_polled h a.1 n.1

no_reply : (s : Step) → passing s ≡ false → lacks_reply_room s ≡ false → polls_room s ≡ false
no_reply (at_port (answered r)) still none = absurd cc
no_reply (at_port (reported r)) still none = absurd cc
no_reply (at_port no_reply_room) still none = absurd cc
no_reply _ still none = refl

pub none_told : (h : Journal) → list_any passing h ≡ false → list_any lacks_reply_room h ≡ false → list_any polls_room h ≡ false
none_told [] still none = refl
none_told (s ∷ h) still none =
    let a = neither (passing s) (list_any passing h) still in
    let n = neither (lacks_reply_room s) (list_any lacks_reply_room h) none in
    ap (λ x. x || list_any polls_room h) (no_reply s a.0 n.0) ∙ none_told h a.1 n.1
