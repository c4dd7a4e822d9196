-- What a journal may do by its rules, and what it is promised, are what the port asks, and promises, which counts on.
use Rattle.std.proofs.Common.{◌≡◌, inl, inr, ℕ, ◌+◌, ◌-◌, ◌^◌, ◌<◌, false, List, [], ◌∷◌, ◌++◌, length, reverse, refl, sym, ap, ◌∙◌, subst, length-append, arith}
use Rattle.std.proofs.lemmas.List.{reverse-append}
use Rattle.motion_ring.specs.declared.lists.Sent.{Sent}
use Rattle.motion_ring.specs.Rule.{none_sent}
use Rattle.motion_ring.specs.Sides as ring
use Rattle.step_line.specs.Finishing.{tick_count}
use Rattle.step_line.specs.Ordering.{has_ended}
use Rattle.step_line.specs.Pieces.{ComesBehind, JoinsOn}
use Rattle.step_line.specs.declared.Mark.{Mark}
use Rattle.step_line.specs.declared.Piece.{Piece}
use Rattle.step_line.specs.declared.Piece.TheVariants as pieces
use Rattle.board_journal.specs.Ports.{BoardLog, taken_in, published_in, known_in, sent_in, MayPublish, MayStop, MayBeDone, LacksPieceRoom, HasTakenFew, HasFewReports}
use Rattle.board_journal.specs.Ports.PortStep.{published, stored_stop, found_halt}
use Rattle.board_rules.proofs.Unstopped.{NeverStops}
use Rattle.board_epochs.specs.Epochs.{log_on}
use Rattle.board_epochs.proofs.Onto.{onto, sent_on, known_on, taken_on, reports_on, Begins, ticks_are, unfinished_are, goes_there}
use Rattle.board_epochs.proofs.Onto.Begins.{a_run, an_epoch}

pub sent_own : (l : BoardLog) → NeverStops l → sent_in l ≡ onto none_sent (reverse (published_in l))
sent_own [] n = refl
sent_own (published p ∷ l) n = ap (λ (s : Sent). ring.with_piece s p) (sent_own l n) ∙ ap (onto none_sent) (sym (reverse-append (published_in l) (p ∷ [])))
sent_own (stored_stop ∷ l) n = absurd n
sent_own (found_halt done ∷ l) n = absurd n
sent_own (_ ∷ l) n = sent_own l n

abbrev pub own : BoardLog → List Piece
own l = reverse (published_in l)

-- so many ticks are those of the journal, behind those before
pub ticks_behind : (before l : BoardLog) → Begins before → NeverStops l → ring.ticks_published (sent_in (log_on (known_in before) l ++ before)) ≡ known_in before + ring.ticks_published (sent_in l)
ticks_behind before l b n =
    ap ring.ticks_published (sent_on (known_in before) l before n) ∙ ticks_are before (own l) b ∙ ap (λ (s : Sent). known_in before + ring.ticks_published s) (sym (sent_own l n))

unfinished_there : (before l : BoardLog) (n : ℕ) → Begins before → NeverStops l → ring.unfinished_in (sent_in (log_on (known_in before) l ++ before)) (known_in before + n) ≡ ring.unfinished_in (sent_in l) n
unfinished_there before l n b never =
    ap (λ (s : Sent). ring.unfinished_in s (known_in before + n)) (sent_on (known_in before) l before never) ∙ unfinished_are before (own l) n b ∙ ap (λ (s : Sent). ring.unfinished_in s n) (sym (sent_own l never))

-- ---- what the port promises

pub done_behind : (before l : BoardLog) (k : ℕ) → Begins before → NeverStops l → MayBeDone k (log_on (known_in before) l ++ before)
    → (n : ℕ) × (k ≡ known_in before + n) × MayBeDone n l
done_behind before l k b never may =
    let known = known_on l before never in
    let later = may.later in let below = may.below in let few = may.few in
    let ticks = ticks_behind before l b never in
    let is : k ≡ known_in before + (k - known_in before) = omega (arith, known, later) in
    let same : ring.unfinished_in (sent_in (log_on (known_in before) l ++ before)) k ≡ ring.unfinished_in (sent_in l) (k - known_in before) =
    ap (ring.unfinished_in (sent_in (log_on (known_in before) l ++ before))) is ∙ unfinished_there before l (k - known_in before) b never in
    (k - known_in before, is, record { later = omega (arith, known, later); below = omega (arith, ticks, below); few = omega (arith, same, few) })

pub room_behind : (before l : BoardLog) (k : ℕ) → Begins before → NeverStops l → LacksPieceRoom k (log_on (known_in before) l ++ before)
    → (n : ℕ) × (k ≡ known_in before + n) × LacksPieceRoom n l
room_behind before l k b never may =
    let known = known_on l before never in
    let later = may.later in
    let is : k ≡ known_in before + (k - known_in before) = omega (arith, known, later) in (
      k - known_in before,
      is,
      record {
        later = omega (arith, known, later);
        full = sym (ap (ring.unfinished_in (sent_in (log_on (known_in before) l ++ before))) is ∙ unfinished_there before l (k - known_in before) b never) ∙ may.full;
      },
    )

pub bytes_behind : (base : ℕ) (before l : BoardLog) → HasTakenFew (log_on base l ++ before) → HasTakenFew l
bytes_behind base before l few =
    let e = ap (λ (bs : List ℕ). length bs) (taken_on base l before) in let d = length-append (taken_in before) (taken_in l) in omega (arith, e, d, few)

pub reports_behind : (base : ℕ) (before l : BoardLog) → HasFewReports (log_on base l ++ before) → HasFewReports l
reports_behind base before l few = let e = reports_on base l before in omega (arith, e, few)

-- ---- what is owed to it

pub ended_mark : (m : Mark) (older ps : List Piece) (since : List Piece) → since ≡ pieces.Mark m ∷ [] → has_ended ((ps ++ []) ++ []) ≡ false → has_ended ((ps ++ since) ++ older) ≡ false
ended_mark m older [] since is none = ap (λ (qs : List Piece). has_ended (qs ++ older)) is
ended_mark m older (pieces.Segment s ∷ ps) since is none = refl
ended_mark m older (pieces.Mark k ∷ ps) since is none = refl
ended_mark m older (pieces.End ∷ ps) since is none = absurd cc

joins_mark : (m : Mark) (ps since : List Piece) (p : Piece) → since ≡ pieces.Mark m ∷ [] → ComesBehind (ps ++ []) p → ComesBehind (ps ++ since) p
joins_mark m [] since (pieces.Segment s) is comes = (comes.0, subst (λ (qs : List Piece). JoinsOn qs s) (sym is) comes.1)
joins_mark m (pieces.Segment t ∷ ps) since (pieces.Segment s) is comes = comes
joins_mark m (pieces.Mark k ∷ ps) since (pieces.Segment s) is comes = comes
joins_mark m (pieces.End ∷ ps) since (pieces.Segment s) is comes = comes
joins_mark m ps since (pieces.Mark k) is comes = comes
joins_mark m ps since pieces.End is comes = comes

-- few pieces are published, and few ticks
pub record IsRoomy (before l : BoardLog) (p : Piece) : Type 0 where
  pub ticks : known_in before + ring.ticks_published (sent_in l) + tick_count p < 2 ^ 62
  pub pieces : length (ring.published_in (sent_in (log_on (known_in before) l ++ before))) < 2 ^ 62

on_none : (l : BoardLog) (p : Piece) → NeverStops l → MayPublish l p → ring.MayPublish (onto none_sent (own l)) p
on_none l p never may = subst (λ (s : Sent). ring.MayPublish s p) (sent_own l never) may

pub publish_behind : (before l : BoardLog) (p : Piece) → Begins before → NeverStops l → MayPublish l p → IsRoomy before l p → MayPublish (log_on (known_in before) l ++ before) p
publish_behind before l p b never may roomy = record {
  running = ap (λ (s : Sent). s.waits) (sent_on (known_in before) l before never) ∙ goes_there before b;
  going = ap (λ (s : Sent). has_ended (ring.published_in s)) (sent_on (known_in before) l before never) ∙ by_going b;
  follows = subst (λ (s : Sent). ComesBehind s.since p) (sym (sent_on (known_in before) l before never)) (by_follows b);
  few = (let e = ticks_behind before l b never in let f = roomy.ticks in omega (arith, e, f));
  room = roomy.pieces;
}
  where
    alone : ring.MayPublish (onto none_sent (own l)) p
    alone = on_none l p never may

    by_going : Begins before → has_ended (ring.published_in (onto (sent_in before) (own l))) ≡ false
    by_going (a_run sent known) = ap (λ (s : Sent). has_ended (ring.published_in (onto s (own l)))) sent ∙ alone.going
    by_going (an_epoch m s sent waits since known) = ap (λ (x : Sent). has_ended (ring.published_in (onto x (own l)))) sent ∙ ended_mark m s.older (own l) s.since since alone.going

    by_follows : Begins before → ComesBehind (onto (sent_in before) (own l)).since p
    by_follows (a_run sent known) = subst (λ (s : Sent). ComesBehind (onto s (own l)).since p) (sym sent) alone.follows
    by_follows (an_epoch m s sent waits since known) = subst (λ (x : Sent). ComesBehind (onto x (own l)).since p) (sym sent) (joins_mark m (own l) s.since p since alone.follows)

-- a stop may be stored at the end of an epoch
some_pieces : (m : Mark) (ps since : List Piece) → since ≡ pieces.Mark m ∷ [] → 0 < length (ps ++ since)
some_pieces m ps since is = let a = length-append ps since in let b = ap (λ (qs : List Piece). length qs) is in omega arith

pub stop_behind : (before l : BoardLog) → Begins before → NeverStops l → MayStop (log_on (known_in before) l ++ before)
stop_behind before l b never = subst ring.MayStop (sym (sent_on (known_in before) l before never)) (by_begin b)
  where
    by_begin : Begins before → ring.MayStop (onto (sent_in before) (own l))
    by_begin (a_run sent known) = record { running = goes_there before b; since_last = inl (ap (λ (s : Sent). s.stops) sent) }
    by_begin (an_epoch m s sent waits since known) = record { running = goes_there before b; since_last = inr (some_pieces m (own l) (sent_in before).since (ap (λ (x : Sent). x.since) sent ∙ since)) }
