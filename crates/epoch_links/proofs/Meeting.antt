-- A host and a board whose lists go together: what a reset drops is few.
use Rattle.std.proofs.Common.{◌≡◌, ◌⊎◌, inl, inr, ℕ, ◌+◌, ◌≤◌, List, [], ◌∷◌, ◌++◌, length, map, reverse, append_assoc, refl, sym, ap, ◌∙◌, subst, arith}
use Rattle.std.specs.List.{AllByRecursion}
use Rattle.std.proofs.lemmas.List.{reverse-append, reverse-reverse}
use Rattle.run_rules.specs.declared.State.{State}
use Rattle.serial_ring.specs.Logs as link
use Rattle.status_report.specs.Answering.{answers_in, banners_in}
use Rattle.status_report.specs.declared.Reply.{Reply}
use Rattle.status_report.proofs.Answered.{answers_on}
use Rattle.step_line.specs.Logs.{NewestFirst}
use Rattle.stream_host.specs.Conduct.{Conducted as HostConducted}
use Rattle.stream_host.specs.Epochs.{ended_of}
use Rattle.host_journal.specs.Steps as hosts
use Rattle.board_rules.specs.Conduct.{Conducted}
use Rattle.board_journal.specs.Ports.{BoardLog, taken_in, known_in, link_steps}
use Rattle.board_journal.specs.Openings.{Opening}
use Rattle.board_journal.specs.Steps.{Journal, port_log, taken_of, answered_of}
use Rattle.board_epochs.specs.Epochs.{Closed, Epochs, AreClosed, AreEpochs, closed_log, log_behind, log_of, opening_behind, last_line}
use Rattle.board_epochs.specs.Epochs.Epochs.{goes, resets}
use Rattle.board_epochs.proofs.Onto.{steps_on, taken_on}
use Rattle.epoch_links.specs.Drops.{AreAnsweredOver, DropFew, closed_of, dropped_by, lines_among}
use Rattle.serial_ring.specs.Logs.{at_banners}
use Rattle.epoch_links.specs.Links.{AreLinkedOver, EndAtMarks}
use Rattle.epoch_links.specs.Taken.{taken_before}
use Rattle.epoch_links.proofs.Answers.{GoOn, answers_before, answers_got, before_banners, first_got, go_on, totals_are}
use Rattle.epoch_links.proofs.Dropping.{no_answers}
use Rattle.epoch_links.proofs.Ending.{ends_are}
use Rattle.epoch_links.proofs.Forgetting.{Behind, Meets, counts_behind, meets_few, meets_same}
use Rattle.epoch_links.proofs.Forgotten.{dropped_same, forgotten_is}
use Rattle.epoch_links.proofs.Joining.{cut_over}
use Rattle.epoch_links.proofs.Moments.{Greets, bytes_taken, answers_given, answers_calm, counts_of, first_moment, linked_answers, open_moments, work_moments}
use Rattle.epoch_links.proofs.Moments.Greets.{greeted, ungreeted}
use Rattle.epoch_links.proofs.Steps.{steps_more, taken_more}

-- marks that are cut at their ends
marks_split : (marks ends left : List ℕ) (n : ℕ) → (left ≡ []) ⊎ (left ≡ n ∷ []) → reverse marks ≡ reverse ends ++ left → marks ≡ left ++ ends
marks_split marks ends left n few e =
    sym (reverse-reverse marks) ∙ ap (λ (ns : List ℕ). reverse ns) e ∙ reverse-append (reverse ends) left
    ∙ ap (λ (ns : List ℕ). reverse left ++ ns) (reverse-reverse ends) ∙ ap (λ (ns : List ℕ). ns ++ ends) (same few)
  where
    same : (left ≡ []) ⊎ (left ≡ n ∷ []) → reverse left ≡ left
    same (inl none) = ap (λ (ns : List ℕ). reverse ns) none ∙ sym none
    same (inr one) = ap (λ (ns : List ℕ). reverse ns) one ∙ sym one

marks_behind : (stored marks last : List ℕ) (es : NewestFirst Closed) → EndAtMarks stored marks (record { closed = taken_before es; last = last }) → (left : List ℕ) × (marks ≡ left ++ counts_of bytes_taken es)
marks_behind stored marks last es e =
    (e.left, marks_split marks (counts_of bytes_taken es) e.left (length stored) e.few (e.are ∙ ap (λ (ns : List ℕ). ns ++ e.left) (sym (ends_are es))))

-- ---- the answers

-- of a log that goes on behind closed epochs, with an epoch that is greeted or not
told_behind : (room : ℕ) (host : hosts.Journal) (es : NewestFirst Closed) (h : Journal) (l : BoardLog) (later : List Reply) → HostConducted room host → Greets answers_given es h
    → at_banners answers_given (link_steps l) ≡ at_banners answers_given (link_steps (log_behind (closed_log es) h))
    → (banners_in (answered_of h) ≡ 0 → answers_given (link_steps l) ≡ answers_given (link_steps (closed_log es)))
    → link.answered_in (link_steps l) ≡ later ++ hosts.latest_got (hosts.port_log host)
    → Behind (answers_in (hosts.got_of host)) (counts_of answers_given es) (ended_of host)
told_behind room host es h l later c greets moments calm first = by_greets greets
  where
    got : List Reply
    got = hosts.latest_got (hosts.port_log host)

    told : ℕ
    told = answers_in (hosts.got_of host)

    same : told ≡ answers_in got
    same = answers_got (hosts.port_log host)

    on : GoOn later got
    on = go_on later got

    parts : at_banners answers_given (link_steps l) ≡ on.more ++ answers_before got
    parts = before_banners (link_steps l) ∙ ap answers_before first ∙ on.are

    above : AllByRecursion (λ n. told ≤ n) on.more
    above = subst (λ (k : ℕ). AllByRecursion (λ n. k ≤ n) on.more) (sym same) on.above

    by_greets : Greets answers_given es h → Behind told (counts_of answers_given es) (ended_of host)
    by_greets (greeted one e) =
        counts_behind told (counts_of answers_given es) [] (at_banners answers_given (link_steps l)) (ended_of host) tt (sym (moments ∙ e)) on.more (answers_before got) parts above (totals_are room host c)
    by_greets (ungreeted none e) =
        let n = answers_given (link_steps (closed_log es)) in
        let all = ap answers_in first ∙ answers_on later got in
        let now = calm none in
        let low : told ≤ n = (let s = same in omega (arith, s, all, now)) in
        counts_behind told (counts_of answers_given es) (n ∷ []) (at_banners answers_given (link_steps l)) (ended_of host) (low, tt)
        (sym (ap (λ (ns : List ℕ). n ∷ ns) (moments ∙ e) ∙ first_moment answers_given es answers_calm)) on.more (answers_before got) parts above (totals_are room host c)

-- ---- both

quiet : (first : Opening) (es : NewestFirst Closed) (h : Journal) → Conducted first h → banners_in (answered_of h) ≡ 0 → answers_given (link_steps (log_behind (closed_log es) h)) ≡ answers_given (link_steps (closed_log es))
quiet first es h c none = ap answers_given (steps_on (known_in (closed_log es)) (port_log h) (closed_log es)) ∙ answers_calm.stays first h (link_steps (closed_log es)) c none

meets : (room : ℕ) (host : hosts.Journal) (blocks : ℕ) (state : State) (r : Epochs) → HostConducted room host → AreEpochs blocks state r → AreLinkedOver host r → AreAnsweredOver host r → Meets host (closed_of r)
meets room host blocks state (goes es h) c are linked answered =
    let f = first_got (log_of (goes es h)) (hosts.port_log host) answered in
    let m = marks_behind (hosts.stored_of host) (hosts.marks_of host) (taken_of h) es (cut_over room host blocks state (goes es h) c are linked) in
    let is = are.1.conducted in
    record {
      rest = taken_of h ++ linked.rest;
      front = linked.front ∙ ap (λ (t : List ℕ). t ++ linked.rest) (taken_on (known_in (closed_log es)) (port_log h) (closed_log es)) ∙ append_assoc (taken_in (closed_log es)) (taken_of h) linked.rest;
      left = m.0;
      marks_are = m.1;
      behind = told_behind room host es h (log_of (goes es h)) f.0 c (open_moments answers_given blocks state es h answers_calm are.0 is) refl (quiet (opening_behind blocks state es) es h is) f.1;
    }
meets room host blocks state (resets es h w) c are linked answered =
    let lb = log_behind (closed_log es) h in
    let f = first_got (port_log w ++ lb) (hosts.port_log host) answered in
    let m = marks_behind (hosts.stored_of host) (hosts.marks_of host) (taken_of h ++ taken_in (port_log w)) es (cut_over room host blocks state (resets es h w) c are linked) in
    let is = are.1.epoch.conducted in
    let first = opening_behind blocks state es in
    let steps = steps_more (port_log w) lb in
    let more = taken_of h ++ taken_in (port_log w) in
    let bytes : taken_in (port_log w ++ lb) ≡ taken_in (closed_log es) ++ more =
    taken_more (port_log w) lb ∙ ap (λ (t : List ℕ). t ++ taken_in (port_log w)) (taken_on (known_in (closed_log es)) (port_log h) (closed_log es))
    ∙ append_assoc (taken_in (closed_log es)) (taken_of h) (taken_in (port_log w)) in
    let same : answers_given (link_steps (port_log w ++ lb)) ≡ answers_given (link_steps lb) =
    (let a = ap answers_given steps in let b = linked_answers (link_steps (port_log w)) (link_steps lb) in let n = no_answers (last_line first h) lb w are.1.works in omega (arith, a, b, n)) in
    record {
      rest = more ++ linked.rest;
      front = linked.front ∙ ap (λ (t : List ℕ). t ++ linked.rest) bytes ∙ append_assoc (taken_in (closed_log es)) more linked.rest;
      left = m.0;
      marks_are = m.1;
      behind = told_behind room host es h (port_log w ++ lb) f.0 c (open_moments answers_given blocks state es h answers_calm are.0 is)
          (ap (at_banners answers_given) steps ∙ work_moments answers_given (last_line first h) lb w (link_steps lb) are.1.works) (λ none. same ∙ quiet first es h is none) f.1;
    }

closed_in : (blocks : ℕ) (state : State) (r : Epochs) → AreEpochs blocks state r → AreClosed blocks state (closed_of r)
closed_in blocks state (goes es h) are = are.0
closed_in blocks state (resets es h w) are = are.0

pub drops_few : (room : ℕ) (host : hosts.Journal) (blocks : ℕ) (state : State) (r : Epochs) → HostConducted room host → AreEpochs blocks state r → AreLinkedOver host r → AreAnsweredOver host r → DropFew room (closed_of r)
drops_few room host blocks state r c are linked answered = meets_few room host blocks state c (closed_of r) (closed_in blocks state r are) (meets room host blocks state r c are linked answered)

-- where the host has ended as many epochs, it has forgotten as many lines
pub forgets_dropped : (room : ℕ) (host : hosts.Journal) (blocks : ℕ) (state : State) (r : Epochs) → HostConducted room host → AreEpochs blocks state r → AreLinkedOver host r → AreAnsweredOver host r
    → length (ended_of host) ≡ length (closed_of r) → hosts.forgotten_of host ≡ lines_among (map dropped_by (closed_of r))
forgets_dropped room host blocks state r c are linked answered many =
    forgotten_is room host c ∙ sym (dropped_same blocks state (ended_of host) (closed_of r) (closed_in blocks state r are) (meets_same room host blocks state c (closed_of r) (meets room host blocks state r c are linked answered) many))
