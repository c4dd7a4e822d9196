-- The ticks of the pieces that are given: no more of them are published, or found done.
use Rattle.std.proofs.Common.{◌≡◌, ℕ, ◌+◌, ◌≤◌, [], ◌∷◌, ◌++◌, ap, ◌∙◌, arith}
use Rattle.step_line.specs.Finishing.{ticks_together}
use Rattle.step_line.proofs.Finished.{together_both}
use Rattle.board_journal.specs.Openings.{Opening}
use Rattle.board_journal.specs.Ports.{MayBeDone}
use Rattle.board_journal.specs.Ports.PortStep.{published, loaded, found_halt}
use Rattle.board_journal.specs.Steps.{Journal, port_log, hand_of, known_of, published_of}
use Rattle.board_journal.specs.Steps.Step.{at_port}
use Rattle.board_rules.specs.Conduct.{Conducted, ticks_given, ticks_published}
use Rattle.board_rules.proofs.Keeping.{hand_is}
use Rattle.board_rules.proofs.Unstopped.{done_within}

-- no more is found done than is published
pub known_within : (first : Opening) (h : Journal) → Conducted first h → known_of h ≤ ticks_published h
known_within first [] c = omega arith
known_within first (at_port (published p) ∷ h) c =
    let low = known_within first h c.1 in
    let all : ticks_together (published_of h ++ p ∷ []) ≡ ticks_published h + ticks_together (p ∷ []) = together_both (published_of h) (p ∷ []) in omega (arith, low, all)
known_within first (at_port (loaded done) ∷ h) c = done_within first h done c.1 c.0
known_within first (at_port (found_halt done) ∷ h) c = absurd c.0
known_within first (_ ∷ h) c = known_within first h c.1

pub published_within : (first : Opening) (h : Journal) → Conducted first h → ticks_published h ≤ ticks_given h
published_within first h c =
    let e : ticks_given h ≡ ticks_published h + ticks_together (hand_of h) = ap ticks_together (hand_is first h c) ∙ together_both (published_of h) (hand_of h) in
    omega (arith, e)

-- nothing more is found done where all that was given is
pub all_known : (first : Opening) (h : Journal) (n : ℕ) → Conducted first h → MayBeDone n (port_log h) → known_of h ≡ ticks_given h → n ≡ ticks_given h
all_known first h n c may k =
    let low : known_of h ≤ n = may.later in
    let high : n ≤ ticks_published h = done_within first h n c may in
    let within = published_within first h c in
    omega (arith, low, high, within, k)
