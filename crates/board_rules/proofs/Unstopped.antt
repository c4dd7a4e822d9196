-- What went to the pulse, by a board's log: all pieces that were published; and since the beginning where the log has no stop, as a
-- journal's has none.
use Rattle.std.proofs.Common.{◌≡◌, ℕ, ◌+◌, ◌-◌, ◌^◌, ◌<◌, ◌≤◌, [], ◌∷◌, length, reverse, refl, sym, ap, ◌∙◌, subst, arith, append-nil}
use Rattle.std.proofs.lemmas.List.{reverse-append, reverse-reverse}
use Rattle.step_line.specs.declared.Piece.{Piece}
use Rattle.step_line.specs.Finishing.{tick_count, ticks_together, unfinished, most_unfinished}
use Rattle.step_line.specs.Ordering.{ComesNext, InTurn, has_ended}
use Rattle.motion_ring.specs.declared.lists.Sent.{Sent}
use Rattle.motion_ring.specs.Sides as ring
use Rattle.motion_ring.proofs.Ticks.{together_reversed, few_pieces}
use Rattle.board_journal.specs.Openings.{Opening}
use Rattle.board_journal.specs.Ports.{BoardLog, published_in, sent_in, unstopped, MayPublish, MayBeDone}
use Rattle.board_journal.specs.Ports.PortStep.{published, stored_stop, found_halt}
use Rattle.board_journal.specs.Steps.{Journal, port_log, published_of}
use Rattle.board_journal.specs.Steps.Step.{at_port}
use Rattle.board_rules.specs.Conduct.{Conducted, ticks_published}

-- no stop was stored, and no halt found
abbrev pub NeverStops : BoardLog → Type 0
NeverStops [] = Unit {0}
NeverStops (stored_stop ∷ l) = ⊥
NeverStops (found_halt n ∷ l) = ⊥
NeverStops (_ ∷ l) = NeverStops l

pub journals_never_stop : (first : Opening) (h : Journal) → Conducted first h → NeverStops (port_log h)
journals_never_stop first [] c = tt
journals_never_stop first (at_port stored_stop ∷ h) c = c.0
journals_never_stop first (at_port (found_halt n) ∷ h) c = c.0
journals_never_stop first (_ ∷ h) c = journals_never_stop first h c.1

-- ---- what went to the pulse then

pub sent_alone : (l : BoardLog) → NeverStops l → sent_in l ≡ unstopped (reverse (published_in l))
sent_alone [] n = refl
sent_alone (published p ∷ l) n = ap (λ (s : Sent). ring.with_piece s p) (sent_alone l n) ∙ ap unstopped (sym (reverse-append (published_in l) (p ∷ [])))
sent_alone (stored_stop ∷ l) n = absurd n
sent_alone (found_halt done ∷ l) n = absurd n
sent_alone (_ ∷ l) n = sent_alone l n

same_ticks : (l : BoardLog) → NeverStops l → ring.ticks_published (sent_in l) ≡ ticks_together (published_in l)
same_ticks l n = let e = ap ring.ticks_published (sent_alone l n) in let t = together_reversed (published_in l) in omega arith

same_unfinished : (l : BoardLog) (done : ℕ) → NeverStops l → ring.unfinished_in (sent_in l) done ≡ unfinished (published_in l) done
same_unfinished l done n =
    let all : done - 0 ≡ done = omega arith in
    ap (λ (s : Sent). ring.unfinished_in s done) (sent_alone l n) ∙ (λ i. unfinished (reverse-reverse (published_in l) i) (all i))

-- a piece may be published that comes next of all pieces
pub may_publish_alone : (l : BoardLog) (p : Piece) → NeverStops l → InTurn (reverse (published_in l)) → ComesNext (reverse (published_in l)) p → ticks_together (published_in l) + tick_count p < 2 ^ 62 → MayPublish l p
may_publish_alone l p n turns next few =
    let all = append-nil (reverse (published_in l)) in
    let t = together_reversed (published_in l) in
    subst (λ (s : Sent). ring.MayPublish s p) (sym (sent_alone l n)) (record {
      running = refl;
      going = ap has_ended all ∙ next.going;
      follows = next.follows;
      few = omega arith;
      room = (let m = few_pieces (reverse (published_in l)) turns next.going in let e = ap length all in omega arith);
    })

-- no more is found done than is published
pub done_within : (first : Opening) (h : Journal) (n : ℕ) → Conducted first h → MayBeDone n (port_log h) → n ≤ ticks_published h
done_within first h n c may = let b = may.below in let s = same_ticks (port_log h) (journals_never_stop first h c) in omega arith

-- five pieces are unfinished where that is found
pub unfinished_there : (first : Opening) (h : Journal) (done : ℕ) → Conducted first h → ring.unfinished_in (sent_in (port_log h)) done ≡ most_unfinished → unfinished (published_of h) done ≡ most_unfinished
unfinished_there first h done c full = sym (same_unfinished (port_log h) done (journals_never_stop first h c)) ∙ full
