-- The ring has the pieces and the halts of these epochs.
use Rattle.std.proofs.Common.{◌≡◌, ℕ, ◌+◌, List, [], ◌∷◌, ◌++◌, reverse, length, length-append, refl, sym, ap, ◌∙◌, subst, append_assoc, append-nil, arith}
use Rattle.std.proofs.lemmas.List.{reverse-append, reverse-reverse, length-reverse}
use Rattle.motion_ring.specs.Sides as ring
use Rattle.motion_ring.specs.declared.lists.Sent.{Sent}
use Rattle.run_rules.specs.declared.State.{State}
use Rattle.step_line.specs.Logs.{NewestFirst}
use Rattle.step_line.specs.declared.Mark.TheVariants as marks
use Rattle.step_line.specs.declared.Piece.{Piece}
use Rattle.step_line.specs.declared.Piece.TheVariants as pieces
use Rattle.board_rules.specs.Conduct.{IsFinished}
use Rattle.board_journal.specs.Ports.{BoardLog, known_in, sent_in}
use Rattle.board_journal.specs.Openings.{Opening}
use Rattle.board_journal.specs.Steps.{Journal, port_log, published_of, planned_of}
use Rattle.board_rules.proofs.Closing.{spent}
use Rattle.board_rules.proofs.Keeping.{hand_is}
use Rattle.board_rules.proofs.Unstopped.{journals_never_stop}
use Rattle.board_rules.specs.Conduct.{Conducted}
use Rattle.board_epochs.specs.Epochs.{Closed, AreClosed, AreEpochs, closed_log, log_behind, log_of, opening_behind, last_line, ticks_made}
use Rattle.board_epochs.specs.Epochs.Epochs.{goes}
use Rattle.board_epochs.specs.Work.{halted_in}
use Rattle.board_epochs.proofs.Onto.{onto, sent_on}
use Rattle.board_epochs.proofs.Working.{with_mark, works_end}
use Rattle.epoch_courses.proofs.Halted.{halted_behind, made_there}
use Rattle.epoch_records.specs.Epochs.{Epoch}
use Rattle.epoch_records.specs.Publishing.{published_in, halts_in, AreOver}
use Rattle.epoch_records.specs.SoFar.{done_in}
use Rattle.epoch_records.proofs.Halts.{done_on, halts_on}
use Rattle.epoch_records.proofs.PutSoFar.{published_both}
use Rattle.epoch_runs.specs.Epochs.{reset_epoch, last_epoch, closed_epochs, epochs_of, halts_seen, pieces_sent}

-- ---- that they are over

closed_over : (blocks : ℕ) (state : State) (es : NewestFirst Closed) (e : Epoch) (more : List Epoch) → AreClosed blocks state es → AreOver (e ∷ more) → AreOver (closed_epochs blocks state es ++ e ∷ more)
closed_over blocks state [] f more c over = over
closed_over blocks state (e ∷ es) f more c over =
    let one = reset_epoch (ticks_made es) (opening_behind blocks state es) e.journal e.work in
    subst AreOver (sym (append_assoc (closed_epochs blocks state es) (one ∷ []) (f ∷ more))) (closed_over blocks state es one (f ∷ more) c.1 (tt, (made_there blocks state e es c).published, over))

pub epochs_over : (blocks : ℕ) (state : State) (es : NewestFirst Closed) (h : Journal) → AreClosed blocks state es → AreOver (epochs_of blocks state es h)
epochs_over blocks state es h c = closed_over blocks state es (last_epoch h) [] c (refl, refl)

-- ---- their pieces

-- more pieces are published on others
sent_more : (s : Sent) (ps : List Piece) → pieces_sent (onto s (reverse ps)) ≡ pieces_sent s ++ ps
sent_more s ps =
    ap reverse (append_assoc (reverse ps) s.since s.older) ∙ reverse-append (reverse ps) (ring.published_in s) ∙ ap (λ (qs : List Piece). pieces_sent s ++ qs) (reverse-reverse ps)

pub sent_behind : (first : Opening) (h : Journal) (before : BoardLog) → Conducted first h → sent_in (log_behind before h) ≡ onto (sent_in before) (reverse (published_of h))
sent_behind first h before c = sent_on (known_in before) (port_log h) before (journals_never_stop first h c)

pub pieces_behind : (first : Opening) (h : Journal) (before : BoardLog) → Conducted first h → pieces_sent (sent_in (log_behind before h)) ≡ pieces_sent (sent_in before) ++ published_of h
pieces_behind first h before c = ap pieces_sent (sent_behind first h before c) ∙ sent_more (sent_in before) (published_of h)

-- and the mark of a reset, behind its halt
pub mark_more : (number : ℕ) (s : Sent) (done : ℕ) → pieces_sent (with_mark number s done) ≡ pieces_sent s ++ pieces.Mark (marks.Reset number) ∷ []
mark_more number s done = reverse-append (pieces.Mark (marks.Reset number) ∷ []) (ring.published_in s)

-- where the work of a reset leaves the ring
worked : (blocks : ℕ) (state : State) (e : Closed) (es : NewestFirst Closed) → AreClosed blocks state (e ∷ es)
    → (sent_in (closed_log (e ∷ es)) ≡ with_mark (last_line (opening_behind blocks state es) e.journal) (sent_in (log_behind (closed_log es) e.journal)) (halted_in e.work)) × (ticks_made (e ∷ es) ≡ halted_in e.work + 1)
worked blocks state e es c = works_end (last_line (opening_behind blocks state es) e.journal) (log_behind (closed_log es) e.journal) e.work c.0.resetting.works c.0.worked.done

pub closed_pieces : (blocks : ℕ) (state : State) (es : NewestFirst Closed) → AreClosed blocks state es → pieces_sent (sent_in (closed_log es)) ≡ published_in (closed_epochs blocks state es)
closed_pieces blocks state [] c = refl
closed_pieces blocks state (e ∷ es) c =
    let first = opening_behind blocks state es in
    let mark : List Piece = pieces.Mark (marks.Reset (last_line first e.journal)) ∷ [] in
    ap pieces_sent (worked blocks state e es c).0 ∙ mark_more (last_line first e.journal) (sent_in (log_behind (closed_log es) e.journal)) (halted_in e.work)
    ∙ ap (λ (ps : List Piece). ps ++ mark) (pieces_behind first e.journal (closed_log es) c.0.resetting.epoch.conducted ∙ ap (λ (ps : List Piece). ps ++ published_of e.journal) (closed_pieces blocks state es c.1))
    ∙ append_assoc (published_in (closed_epochs blocks state es)) (published_of e.journal) mark
    ∙ sym (published_both (closed_epochs blocks state es) (reset_epoch (ticks_made es) first e.journal e.work ∷ []))

all_out : (first : Opening) (h : Journal) → Conducted first h → IsFinished first h → published_of h ≡ planned_of h ++ pieces.End ∷ []
all_out first h c over =
    let done = spent first h c over in
    sym (append-nil (published_of h)) ∙ ap (λ (ps : List Piece). published_of h ++ ps) (sym done.hand) ∙ sym (hand_is first h c) ∙ done.given

pub epochs_sent : (blocks : ℕ) (state : State) (es : NewestFirst Closed) (h : Journal) → AreEpochs blocks state (goes es h) → IsFinished (opening_behind blocks state es) h → pieces_sent (sent_in (log_of (goes es h))) ≡ published_in (epochs_of blocks state es h)
epochs_sent blocks state es h c over =
    let first = opening_behind blocks state es in
    pieces_behind first h (closed_log es) c.1.conducted
    ∙ ap (λ (ps : List Piece). ps ++ published_of h) (closed_pieces blocks state es c.0)
    ∙ ap (λ (ps : List Piece). published_in (closed_epochs blocks state es) ++ ps) (all_out first h c.1.conducted over)
    ∙ sym (published_both (closed_epochs blocks state es) (last_epoch h ∷ []))

-- ---- their halts

pub closed_done : (blocks : ℕ) (state : State) (es : NewestFirst Closed) → AreClosed blocks state es → done_in (closed_epochs blocks state es) ≡ ticks_made es
closed_done blocks state [] c = refl
closed_done blocks state (e ∷ es) c =
    let one = reset_epoch (ticks_made es) (opening_behind blocks state es) e.journal e.work in
    let on = done_on (closed_epochs blocks state es) one in let was = closed_done blocks state es c.1 in let now = (worked blocks state e es c).1 in let low = halted_behind blocks state e es c in
    omega (arith, on, was, now, low)

pub closed_halts : (blocks : ℕ) (state : State) (es : NewestFirst Closed) (f : Epoch) → AreClosed blocks state es → halts_in 0 0 (closed_epochs blocks state es ++ f ∷ []) ≡ reverse (halts_seen (sent_in (closed_log es)))
closed_halts blocks state [] f c = refl
closed_halts blocks state (e ∷ es) f c =
    let first = opening_behind blocks state es in
    let one = reset_epoch (ticks_made es) first e.journal e.work in
    let xs = closed_epochs blocks state es in
    let s = sent_in (log_behind (closed_log es) e.journal) in
    let was = sent_in (closed_log es) in
    let behind = sent_behind first e.journal (closed_log es) c.0.resetting.epoch.conducted in
    let seen : ℕ × ℕ = (length (ring.published_in s), halted_in e.work) in
    let same : halts_seen s ≡ halts_seen was = ap halts_seen behind in
    let out = ap (λ (ps : List Piece). length ps) (pieces_behind first e.journal (closed_log es) c.0.resetting.epoch.conducted ∙ ap (λ (ps : List Piece). ps ++ published_of e.journal) (closed_pieces blocks state es c.1)) in
    let both = length-append (published_in xs) (published_of e.journal) in
    let turned = length-reverse (ring.published_in s) in
    let done = closed_done blocks state es c.1 in
    let low = halted_behind blocks state e es c in
    let a : 0 + length (published_in xs) + length (published_of e.journal) ≡ length (ring.published_in s) = omega (arith, out, both, turned) in
    let b : 0 + done_in xs + one.done ≡ halted_in e.work = omega (arith, done, low) in
    ap (halts_in 0 0) (append_assoc xs (one ∷ []) (f ∷ []))
    ∙ halts_on 0 0 xs one f
    ∙ ap (λ (hs : List (ℕ × ℕ)). hs ++ (0 + length (published_in xs) + length (published_of e.journal), 0 + done_in xs + one.done) ∷ []) (closed_halts blocks state es one c.1)
    ∙ ap (λ (n : ℕ). let h : ℕ × ℕ = (n, 0 + done_in xs + one.done) in reverse (halts_seen was) ++ h ∷ []) a
    ∙ ap (λ (n : ℕ). let h : ℕ × ℕ = (length (ring.published_in s), n) in reverse (halts_seen was) ++ h ∷ []) b
    ∙ ap (λ (hs : List (ℕ × ℕ)). reverse hs ++ seen ∷ []) (sym same)
    ∙ sym (reverse-append (seen ∷ []) (halts_seen s))
    ∙ ap (λ (x : Sent). reverse (halts_seen x)) (sym (worked blocks state e es c).0)

pub epochs_halted : (blocks : ℕ) (state : State) (es : NewestFirst Closed) (h : Journal) → AreEpochs blocks state (goes es h) → halts_seen (sent_in (log_of (goes es h))) ≡ reverse (halts_in 0 0 (epochs_of blocks state es h))
epochs_halted blocks state es h c =
    ap halts_seen (sent_behind (opening_behind blocks state es) h (closed_log es) c.1.conducted) ∙ sym (reverse-reverse (halts_seen (sent_in (closed_log es)))) ∙ ap reverse (sym (closed_halts blocks state es (last_epoch h) c.0))
