-- A board ends an epoch for a mark, behind no fewer bytes than it has, and answers its Banner before a byte is taken.
use Rattle.std.proofs.Common.{◌≡◌, ◌⊎◌, inl, inr, ℕ, ◌+◌, ◌≤◌, ◌<◌, Bool, cond, List, [], ◌∷◌, ◌++◌, length, drop, reverse, length-append, append_assoc, refl, sym, ap, ◌∙◌, subst, arith}
use Rattle.std.specs.List.{concat}
use Rattle.std.proofs.lemmas.List.{reverse-append}
use Rattle.run_rules.specs.declared.State.{State}
use Rattle.serial_ring.specs.declared.view.LinkStep.{LinkStep}
use Rattle.serial_ring.specs.declared.view.LinkStep.TheVariants.{Took, Marked, Answered}
use Rattle.serial_ring.specs.Logs.{marked_in, next_mark}
use Rattle.serial_ring.specs.Marks.{Mark, last_of, start}
use Rattle.step_line.specs.Logs.{NewestFirst}
use Rattle.board_journal.specs.Ports.{taken_in, known_in, link_steps}
use Rattle.board_journal.specs.Steps.{Journal, port_log}
use Rattle.board_journal.proofs.LinkSteps.{same_taken}
use Rattle.board_epochs.specs.Bounds.{loaded_mark}
use Rattle.board_epochs.specs.Epochs.{Closed, Epochs, AreClosed, AreEpochs, closed_log, log_behind, log_of, opening_behind, last_line}
use Rattle.board_epochs.specs.Epochs.Epochs.{goes, resets}
use Rattle.board_epochs.specs.Work.{worked_in}
use Rattle.board_epochs.proofs.Bounding.{marked_behind, Marked as AsMarked, worked_then}
use Rattle.board_epochs.proofs.Marking.{loaded_there}
use Rattle.board_epochs.proofs.Onto.{steps_on}
use Rattle.epoch_links.proofs.Moments.{Greets, bytes_taken, bytes_calm, counts_of, open_moments, work_moments}
use Rattle.epoch_links.proofs.Moments.Greets.{greeted, ungreeted}
use Rattle.epoch_links.proofs.Steps.{closed_bytes, all_bytes, concat_push, steps_more, closed_steps}
use Rattle.epoch_links.specs.Pieces.{ends_behind}
use Rattle.epoch_links.specs.Taken.{taken_closed, taken_before, taken_by}
use Rattle.serial_ring.specs.Logs.{taken_at_banners}
use Rattle.epoch_links.specs.Links.{IsLoaded, AreEnded, EndsEpochs}

-- ---- where they end

-- how many bytes were taken as each epoch was over, the latest first
abbrev ends_of : NewestFirst Closed → List ℕ
ends_of es = counts_of bytes_taken es

ends_push : (n : ℕ) (xs : List (List ℕ)) (x : List ℕ) → ends_behind n (xs ++ x ∷ []) ≡ ends_behind n xs ++ (n + length (concat xs ++ x)) ∷ []
ends_push n [] x = refl
ends_push n (y ∷ ys) x =
    let same : n + length y + length (concat ys ++ x) ≡ n + length ((y ++ concat ys) ++ x) =
    (let a = length-append (concat ys) x in let b = length-append (y ++ concat ys) x in let c = length-append y (concat ys) in omega arith) in
    ap (λ (ns : List ℕ). (n + length y) ∷ ns) (ends_push (n + length y) ys x ∙ ap (λ (k : ℕ). ends_behind (n + length y) ys ++ k ∷ []) same)

pub ends_are : (es : NewestFirst Closed) → reverse (ends_of es) ≡ ends_behind 0 (taken_before es)
ends_are [] = refl
ends_are (e ∷ es) =
    let last : bytes_taken (link_steps (closed_log (e ∷ es))) ≡ 0 + length (concat (taken_before es) ++ taken_closed e) =
    (let a = ap length (closed_bytes (e ∷ es) ∙ concat_push (taken_before es) (taken_closed e)) in let b = same_taken (closed_log (e ∷ es)) in omega (arith, a, b)) in
    reverse-append (bytes_taken (link_steps (closed_log (e ∷ es))) ∷ []) (ends_of es) ∙ ap (λ (ns : List ℕ). ns ++ bytes_taken (link_steps (closed_log (e ∷ es))) ∷ []) (ends_are es)
    ∙ ap (λ (n : ℕ). ends_behind 0 (taken_before es) ++ n ∷ []) last ∙ sym (ends_push 0 (taken_before es) (taken_closed e))

-- ---- their marks

abbrev worked_of : NewestFirst Closed → List Mark
worked_of [] = []
worked_of (e ∷ es) = loaded_mark (closed_log (e ∷ es)) ∷ worked_of es

loaded_more : (xs ys : List LinkStep) (m : Mark) → IsLoaded (marked_in ys) m → IsLoaded (marked_in (xs ++ ys)) m
loaded_more [] ys m is = is
loaded_more (Took b ∷ xs) ys m is = loaded_more xs ys m is
loaded_more (Marked number bytes ∷ xs) ys m is = inr (loaded_more xs ys m is)
loaded_more (Answered r ∷ xs) ys m is = loaded_more xs ys m is

last_loaded : (ms : List Mark) → 0 < (last_of ms).0 → IsLoaded ms (last_of ms)
last_loaded [] some = absurd (omega arith)
last_loaded (m ∷ ms) some = inl refl

-- the mark of the Banner that was answered last is that of the reset before it
worked_last : (blocks : ℕ) (state : State) (es : NewestFirst Closed) → AreClosed blocks state es → (next_mark (link_steps (closed_log es))).0 ≡ (last_of (worked_of es)).0
worked_last blocks state [] c = refl
worked_last blocks state (e ∷ es) c = by_marks (marked_behind blocks state (e ∷ es) c)
  where
    by_marks : AsMarked (closed_log (e ∷ es)) (length (e ∷ es)) → (next_mark (link_steps (closed_log (e ∷ es)))).0 ≡ (loaded_mark (closed_log (e ∷ es))).0
    by_marks (inl none) = absurd (let z = none.0 in omega arith)
    by_marks (inr m) = ap (λ (t : Bool). (cond t (loaded_mark (closed_log (e ∷ es))) start).0) m.greeted

-- it is new
newer : (blocks : ℕ) (state : State) (e : Closed) (es : NewestFirst Closed) → AreClosed blocks state (e ∷ es) → (last_of (worked_of es)).0 < (loaded_mark (closed_log (e ∷ es))).0
newer blocks state e es c =
    let first = opening_behind blocks state es in
    let before = closed_log es in
    let lb = log_behind before e.journal in
    let is = c.0 in
    let h = loaded_there (last_line first e.journal) lb e.work is.resetting.works is.worked.done in
    let was : worked_in lb ≡ (next_mark (link_steps before)).0 = ap (λ (k : Mark). k.0) (worked_then first e.journal before is.resetting.epoch.conducted is.resetting.may) in
    let last = worked_last blocks state es c.1 in
    let later = h.1.later in omega (arith, was, last, later)

reached : (blocks : ℕ) (state : State) (e : Closed) (es : NewestFirst Closed) → AreClosed blocks state (e ∷ es) → (loaded_mark (closed_log (e ∷ es))).1 ≤ bytes_taken (link_steps (closed_log (e ∷ es)))
reached blocks state e es c = by_marks (marked_behind blocks state (e ∷ es) c)
  where
    by_marks : AsMarked (closed_log (e ∷ es)) (length (e ∷ es)) → (loaded_mark (closed_log (e ∷ es))).1 ≤ bytes_taken (link_steps (closed_log (e ∷ es)))
    by_marks (inl none) = absurd (let z = none.0 in omega arith)
    by_marks (inr m) = let a = m.bytes in let b = same_taken (closed_log (e ∷ es)) in omega (arith, a, b)

ended_marks : (blocks : ℕ) (state : State) (es : NewestFirst Closed) (more : List LinkStep) (loaded : List Mark) → loaded ≡ marked_in (more ++ link_steps (closed_log es)) → AreClosed blocks state es → AreEnded loaded (worked_of es) (ends_of es)
ended_marks blocks state [] more loaded are c = tt
ended_marks blocks state (e ∷ es) more loaded are c =
    let new = newer blocks state e es c in
    let here = last_loaded (marked_in (link_steps (closed_log (e ∷ es)))) (omega (arith, new)) in
    let own = link_steps (port_log e.work) ++ link_steps (port_log e.journal) in
    let parts : more ++ link_steps (closed_log (e ∷ es)) ≡ (more ++ own) ++ link_steps (closed_log es) =
    ap (λ (ss : List LinkStep). more ++ ss) (closed_steps e es ∙ sym (append_assoc (link_steps (port_log e.work)) (link_steps (port_log e.journal)) (link_steps (closed_log es))))
    ∙ sym (append_assoc more own (link_steps (closed_log es))) in (
      subst (λ (ms : List Mark). IsLoaded ms (loaded_mark (closed_log (e ∷ es)))) (sym are) (loaded_more more (link_steps (closed_log (e ∷ es))) (loaded_mark (closed_log (e ∷ es))) here),
      new,
      reached blocks state e es c,
      ended_marks blocks state es (more ++ own) loaded (are ∙ ap (λ (ss : List LinkStep). marked_in ss) parts) c.1,
    )

-- ---- all of it

greets : (es : NewestFirst Closed) (h : Journal) → Greets bytes_taken es h
    → (taken_at_banners (link_steps (log_behind (closed_log es) h)) ≡ ends_of es ++ 0 ∷ []) ⊎ (taken_at_banners (link_steps (log_behind (closed_log es) h)) ≡ drop 1 (ends_of es ++ 0 ∷ []))
greets es h (greeted one e) = inl e
greets es h (ungreeted none e) = inr e

pub ends_epochs : (blocks : ℕ) (state : State) (r : Epochs) → AreEpochs blocks state r → EndsEpochs (taken_by r) (taken_in (log_of r)) (marked_in (link_steps (log_of r))) (taken_at_banners (link_steps (log_of r)))
ends_epochs blocks state (goes es h) are = record {
  whole = all_bytes (goes es h);
  ends = ends_of es;
  are = ends_are es;
  marks = worked_of es;
  ended = ended_marks blocks state es (link_steps (port_log h)) (marked_in (link_steps (log_behind (closed_log es) h))) (ap (λ (ss : List LinkStep). marked_in ss) (steps_on (known_in (closed_log es)) (port_log h) (closed_log es))) are.0;
  greeted = greets es h (open_moments bytes_taken blocks state es h bytes_calm are.0 are.1.conducted);
}
ends_epochs blocks state (resets es h w) are =
    let lb = log_behind (closed_log es) h in
    let more = link_steps (port_log w) ++ link_steps (port_log h) in
    let steps : link_steps (port_log w ++ lb) ≡ more ++ link_steps (closed_log es) =
    steps_more (port_log w) lb ∙ ap (λ (ss : List LinkStep). link_steps (port_log w) ++ ss) (steps_on (known_in (closed_log es)) (port_log h) (closed_log es))
    ∙ sym (append_assoc (link_steps (port_log w)) (link_steps (port_log h)) (link_steps (closed_log es))) in
    let moments : taken_at_banners (link_steps (port_log w ++ lb)) ≡ taken_at_banners (link_steps lb) =
    ap taken_at_banners (steps_more (port_log w) lb) ∙ work_moments bytes_taken (last_line (opening_behind blocks state es) h) lb w (link_steps lb) are.1.works in
    record {
      whole = all_bytes (resets es h w);
      ends = ends_of es;
      are = ends_are es;
      marks = worked_of es;
      ended = ended_marks blocks state es more (marked_in (link_steps (port_log w ++ lb))) (ap (λ (ss : List LinkStep). marked_in ss) steps) are.0;
      greeted = elim (greets es h (open_moments bytes_taken blocks state es h bytes_calm are.0 are.1.epoch.conducted)) [
        | inl all ↦ inl (moments ∙ all)
        | inr but ↦ inr (moments ∙ but)
      ];
    }
