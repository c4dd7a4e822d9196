-- What has gone to the pulse at each stage of a reset's work.
use Rattle.std.proofs.Common.{◌≡◌, ℕ, zero, suc, ◌+◌, ◌-◌, Bool, true, false, [], ◌∷◌, ◌++◌, length, nat_eq, nat_lt, refl, ap, ◌∙◌, subst, arith}
use Rattle.std.proofs.lemmas.Bool.Decides.{nat_tests}
use Rattle.motion_ring.specs.declared.lists.Sent.{Sent}
use Rattle.motion_ring.specs.Sides as ring
use Rattle.code_table.specs.declared.flags.Ovr.{Ovr}
use Rattle.step_line.specs.declared.Mark.TheVariants as marks
use Rattle.step_line.specs.declared.Piece.{Piece}
use Rattle.step_line.specs.declared.Piece.TheVariants as pieces
use Rattle.board_journal.specs.Ports.{PortStep, BoardLog, taken_in, known_in, sent_in, MayAskHalt}
use Rattle.board_journal.specs.Ports.PortStep.{took, found_empty, found_closed, found_free, found_mark, answered, reported, no_reply_room, took_exec, took_ovr, published, no_piece_room, loaded, stored_stop, found_no_halt, found_halt}
use Rattle.board_journal.specs.Steps.{port_log}
use Rattle.board_journal.specs.Steps.Step.{at_port, turned}
use Rattle.board_epochs.specs.Work.{Work, Stage, Works, MayWorkAt, stage_of, stage_at, by_mark, by_load, dropping, halted_in, worked_in}
use Rattle.board_epochs.specs.Work.Stage.{awaits_mark, drops_changes, stops, awaits_halt, drops, publishes, awaits_done, over}

-- all that was done at the port, and what went to the pulse
abbrev pub all_of : BoardLog → Work → BoardLog
all_of before w = port_log w ++ before

-- a reset's work never does these
abbrev pub MayNever : PortStep → Type 0
MayNever found_empty = Unit {0}
MayNever found_closed = Unit {0}
MayNever (found_free n) = Unit {0}
MayNever (answered r) = Unit {0}
MayNever (reported r) = Unit {0}
MayNever no_reply_room = Unit {0}
MayNever e = ⊥

-- the ring was told to stop; it has halted; and the mark is published
abbrev pub with_mark : (number : ℕ) → Sent → ℕ → Sent
with_mark number s done = ring.with_piece (ring.with_halt (ring.with_stop s) done) (pieces.Mark (marks.Reset number))

abbrev pub Holds : (number : ℕ) → BoardLog → BoardLog → (halted : ℕ) → Stage → Type 0
Holds number before l halted drops_changes = sent_in l ≡ sent_in before
Holds number before l halted awaits_mark = sent_in l ≡ sent_in before
Holds number before l halted (stops n) = sent_in l ≡ sent_in before
Holds number before l halted (awaits_halt n) = sent_in l ≡ ring.with_stop (sent_in before)
Holds number before l halted (drops n) = (sent_in l ≡ ring.with_halt (ring.with_stop (sent_in before)) halted) × (known_in l ≡ halted)
Holds number before l halted publishes = (sent_in l ≡ ring.with_halt (ring.with_stop (sent_in before)) halted) × (known_in l ≡ halted)
Holds number before l halted awaits_done = sent_in l ≡ with_mark number (sent_in before) halted
Holds number before l halted over = (sent_in l ≡ with_mark number (sent_in before) halted) × (known_in l ≡ halted + 1)

on_exec : (number : ℕ) (before l : BoardLog) (halted : ℕ) (e : PortStep) (stage : Stage) → (sent_in (e ∷ l) ≡ sent_in l) → (known_in (e ∷ l) ≡ known_in l) → (stage ≡ over → ⊥) → Holds number before l halted stage → Holds number before (e ∷ l) halted stage
on_exec number before l halted e drops_changes s k other h = s ∙ h
on_exec number before l halted e awaits_mark s k other h = s ∙ h
on_exec number before l halted e (stops n) s k other h = s ∙ h
on_exec number before l halted e (awaits_halt n) s k other h = s ∙ h
on_exec number before l halted e (drops n) s k other h = (s ∙ h.0, k ∙ h.1)
on_exec number before l halted e publishes s k other h = (s ∙ h.0, k ∙ h.1)
on_exec number before l halted e awaits_done s k other h = s ∙ h
on_exec number before l halted e over s k other h = absurd (other refl)

not_over : (number : ℕ) (l : BoardLog) (e : PortStep) (stage : Stage) → MayWorkAt number l e stage → stage ≡ over → ⊥
not_over number l e stage may is = subst (λ (x : Stage). MayWorkAt number l e x) is may

on_ovr : (number : ℕ) (before l : BoardLog) (halted : ℕ) (word : Ovr) (stage : Stage) → (stage ≡ over → ⊥) → Holds number before l halted stage → Holds number before (took_ovr word ∷ l) halted (stage_at l (took_ovr word) stage)
on_ovr number before l halted word drops_changes other h = h
on_ovr number before l halted word stage other h = on_exec number before l halted (took_ovr word) stage refl refl other h

by_mark_holds : (number : ℕ) (before l : BoardLog) (halted : ℕ) (t : Bool) (n : ℕ) → sent_in l ≡ sent_in before → Holds number before l halted (by_mark t n)
by_mark_holds number before l halted true n h = h
by_mark_holds number before l halted false n h = h

on_mark : (number : ℕ) (before l : BoardLog) (halted m bytes : ℕ) (stage : Stage) → MayWorkAt number l (found_mark m bytes) stage → Holds number before l halted stage → Holds number before (found_mark m bytes ∷ l) halted (stage_at l (found_mark m bytes) stage)
on_mark number before l halted m bytes awaits_mark may h = by_mark_holds number before (found_mark m bytes ∷ l) halted (nat_lt (worked_in l) m) (bytes - length (taken_in l)) h
on_mark number before l halted m bytes stage may h = absurd may

on_stop : (number : ℕ) (before l : BoardLog) (halted : ℕ) (stage : Stage) → MayWorkAt number l stored_stop stage → Holds number before l halted stage → Holds number before (stored_stop ∷ l) halted (stage_at l stored_stop stage)
on_stop number before l halted (stops n) may h = ap ring.with_stop h
on_stop number before l halted stage may h = absurd may

on_no_halt : (number : ℕ) (before l : BoardLog) (halted : ℕ) (stage : Stage) → MayWorkAt number l found_no_halt stage → Holds number before l halted stage → Holds number before (found_no_halt ∷ l) halted (stage_at l found_no_halt stage)
on_no_halt number before l halted (awaits_halt n) may h = h
on_no_halt number before l halted stage may h = absurd may

drops_on : (number : ℕ) (before l : BoardLog) (halted n : ℕ) → (sent_in l ≡ ring.with_halt (ring.with_stop (sent_in before)) halted) × (known_in l ≡ halted) → Holds number before l halted (dropping n)
drops_on number before l halted zero h = h
drops_on number before l halted (suc n) h = h

on_halt : (number : ℕ) (before l : BoardLog) (halted done : ℕ) (stage : Stage) → MayWorkAt number l (found_halt done) stage → Holds number before l halted stage → Holds number before (found_halt done ∷ l) done (stage_at l (found_halt done) stage)
on_halt number before l halted done (awaits_halt n) may h = drops_on number before (found_halt done ∷ l) done n (ap (λ (s : Sent). ring.with_halt s done) h, refl)
on_halt number before l halted done stage may h = absurd may

on_took : (number : ℕ) (before l : BoardLog) (halted b : ℕ) (stage : Stage) → MayWorkAt number l (took b) stage → Holds number before l halted stage → Holds number before (took b ∷ l) halted (stage_at l (took b) stage)
on_took number before l halted b (drops zero) may h = h
on_took number before l halted b (drops (suc n)) may h = drops_on number before (took b ∷ l) halted n h
on_took number before l halted b stage may h = absurd may

on_published : (number : ℕ) (before l : BoardLog) (halted : ℕ) (p : Piece) (stage : Stage) → MayWorkAt number l (published p) stage → Holds number before l halted stage → Holds number before (published p ∷ l) halted (stage_at l (published p) stage)
on_published number before l halted p publishes may h = ap (λ (s : Sent). ring.with_piece s p) h.0 ∙ ap (ring.with_piece (ring.with_halt (ring.with_stop (sent_in before)) halted)) may
on_published number before l halted p stage may h = absurd may

on_room : (number : ℕ) (before l : BoardLog) (halted done : ℕ) (stage : Stage) → MayWorkAt number l (no_piece_room done) stage → Holds number before l halted stage → Holds number before (no_piece_room done ∷ l) halted (stage_at l (no_piece_room done) stage)
on_room number before l halted done publishes may h = h
on_room number before l halted done stage may h = absurd may

all_done : (done ticks : ℕ) → nat_eq done ticks ≡ true → done ≡ ticks
all_done done ticks e = grind (arith, nat_tests)

by_load_holds : (number : ℕ) (before l : BoardLog) (halted done : ℕ) (t : Bool) → nat_eq done (ring.ticks_published (sent_in l)) ≡ t → sent_in l ≡ with_mark number (sent_in before) halted → Holds number before (loaded done ∷ l) halted (by_load t)
by_load_holds number before l halted done true e h = (h, all_done done (ring.ticks_published (sent_in l)) e ∙ ap ring.ticks_published h)
by_load_holds number before l halted done false e h = h

on_loaded : (number : ℕ) (before l : BoardLog) (halted done : ℕ) (stage : Stage) → MayWorkAt number l (loaded done) stage → Holds number before l halted stage → Holds number before (loaded done ∷ l) halted (stage_at l (loaded done) stage)
on_loaded number before l halted done awaits_done may h = by_load_holds number before l halted done (nat_eq done (ring.ticks_published (sent_in l))) refl h
on_loaded number before l halted done stage may h = absurd may

pub never : (number : ℕ) (l : BoardLog) (stage : Stage) → (e : PortStep) → MayNever e → MayWorkAt number l e stage → ⊥
never number l over e n may = may
never number l stage found_empty n may = may
never number l stage found_closed n may = may
never number l stage (found_free k) n may = may
never number l stage (answered r) n may = may
never number l stage (reported r) n may = may
never number l stage no_reply_room n may = may
never number l stage e n may = absurd n

pub holds : (number : ℕ) (before : BoardLog) (w : Work) → Works number before w → Holds number before (all_of before w) (halted_in w) (stage_of before w)
holds number before [] c = refl
holds number before (at_port (took b) ∷ w) c = on_took number before (all_of before w) (halted_in w) b (stage_of before w) c.0 (holds number before w c.2)
holds number before (at_port (found_mark m bytes) ∷ w) c = on_mark number before (all_of before w) (halted_in w) m bytes (stage_of before w) c.0 (holds number before w c.2)
holds number before (at_port (took_exec word) ∷ w) c =
    on_exec number before (all_of before w) (halted_in w) (took_exec word) (stage_of before w) refl refl (not_over number (all_of before w) (took_exec word) (stage_of before w) c.0) (holds number before w c.2)
holds number before (at_port (took_ovr word) ∷ w) c =
    on_ovr number before (all_of before w) (halted_in w) word (stage_of before w) (not_over number (all_of before w) (took_ovr word) (stage_of before w) c.0) (holds number before w c.2)
holds number before (at_port (published p) ∷ w) c = on_published number before (all_of before w) (halted_in w) p (stage_of before w) c.0 (holds number before w c.2)
holds number before (at_port (no_piece_room done) ∷ w) c = on_room number before (all_of before w) (halted_in w) done (stage_of before w) c.0 (holds number before w c.2)
holds number before (at_port (loaded done) ∷ w) c = on_loaded number before (all_of before w) (halted_in w) done (stage_of before w) c.0 (holds number before w c.2)
holds number before (at_port stored_stop ∷ w) c = on_stop number before (all_of before w) (halted_in w) (stage_of before w) c.0 (holds number before w c.2)
holds number before (at_port found_no_halt ∷ w) c = on_no_halt number before (all_of before w) (halted_in w) (stage_of before w) c.0 (holds number before w c.2)
holds number before (at_port (found_halt done) ∷ w) c = on_halt number before (all_of before w) (halted_in w) done (stage_of before w) c.0 (holds number before w c.2)
holds number before (at_port e ∷ w) c = absurd (never number (all_of before w) (stage_of before w) e tt c.0)
holds number before (turned t ∷ w) c = holds number before w c.2
holds number before (_ ∷ w) c = absurd c.0

-- ---- so the port may be asked at each stage

pub asks_halt : (number : ℕ) (before : BoardLog) (w : Work) (n : ℕ) → Works number before w → stage_of before w ≡ awaits_halt n → MayAskHalt (all_of before w)
asks_halt number before w n c is = ap (λ (s : Sent). s.waits) (subst (Holds number before (all_of before w) (halted_in w)) is (holds number before w c))

pub stops_as_before : (number : ℕ) (before : BoardLog) (w : Work) (n : ℕ) → Works number before w → stage_of before w ≡ stops n → sent_in (all_of before w) ≡ sent_in before
stops_as_before number before w n c is = subst (Holds number before (all_of before w) (halted_in w)) is (holds number before w c)

pub publishes_alone : (number : ℕ) (before : BoardLog) (w : Work) → Works number before w → stage_of before w ≡ publishes
    → (sent_in (all_of before w) ≡ ring.with_halt (ring.with_stop (sent_in before)) (halted_in w)) × (known_in (all_of before w) ≡ halted_in w)
publishes_alone number before w c is = subst (Holds number before (all_of before w) (halted_in w)) is (holds number before w c)

pub works_end : (number : ℕ) (before : BoardLog) (w : Work) → Works number before w → stage_of before w ≡ over
    → (sent_in (all_of before w) ≡ with_mark number (sent_in before) (halted_in w)) × (known_in (all_of before w) ≡ halted_in w + 1)
works_end number before w c is = subst (Holds number before (all_of before w) (halted_in w)) is (holds number before w c)
