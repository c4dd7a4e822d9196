-- The lines that a host has forgotten are those that the resets of a board have left without an answer.
use Rattle.std.proofs.Common.{◌≡◌, ℕ, ◌+◌, List, [], ◌∷◌, ◌++◌, length, map, drop, length-append, refl, ap, ◌∙◌, arith}
use Rattle.std.proofs.lemmas.List.{drop-map, length-map, take-append-drop}
use Rattle.run_rules.specs.Lines.{whole_lines}
use Rattle.run_rules.specs.declared.State.{State}
use Rattle.status_report.specs.Answering.{answers_in}
use Rattle.status_report.proofs.Answered.{answers_on}
use Rattle.step_line.specs.Logs.{NewestFirst}
use Rattle.stream_host.specs.Conduct.{Conducted}
use Rattle.stream_host.specs.Epochs.{Epoch, dropped_lines, ended_of, lines_in, lines_now, replies_in, told_in, told_lines}
use Rattle.host_journal.specs.Jobs.{sent_text}
use Rattle.host_journal.specs.Links.{on_link}
use Rattle.host_journal.specs.Steps.{Journal, forgotten_of}
use Rattle.stream_host.proofs.Cutting.{epochs_are}
use Rattle.stream_host.proofs.Epochs.{all_lines}
use Rattle.stream_host.proofs.Pieces.{lines_back}
use Rattle.board_journal.specs.Steps.{answered_of}
use Rattle.board_epochs.specs.Epochs.{Closed, AreClosed}
use Rattle.epoch_links.specs.Drops.{dropped_by, lines_among}
use Rattle.epoch_links.specs.Taken.{taken_closed}
use Rattle.epoch_links.proofs.Dropping.{AreSame, own_bytes, same_told, told_more}

-- ---- of a host

abbrev dropped_in : List Epoch → ℕ
dropped_in [] = 0
dropped_in (e ∷ earlier) = length (dropped_lines e) + dropped_in earlier

told_or_dropped : (ended : List Epoch) → length (lines_in ended) ≡ length (told_in ended) + dropped_in ended
told_or_dropped [] = refl
told_or_dropped (e ∷ earlier) =
    let more = told_or_dropped earlier in
    let all = length-append (lines_in earlier) e.lines in
    let told = length-append (told_in earlier) (told_lines e) in
    let both = ap length (take-append-drop (answers_in e.got) e.lines) in
    let parts = length-append (told_lines e) (dropped_lines e) in
    omega (arith, more, all, told, both, parts)

pub forgotten_is : (room : ℕ) (h : Journal) → Conducted room h → forgotten_of h ≡ dropped_in (ended_of h)
forgotten_is room h c =
    let e = epochs_are room h c in
    let all = all_lines room h c in
    let lines = ap length e.lines_are ∙ length-append (lines_in (ended_of h)) (lines_now h) in
    let live = ap length e.live_are ∙ length-append (told_in (ended_of h)) (lines_now h) in
    let parts = told_or_dropped (ended_of h) in
    omega (arith, all, lines, live, parts)

-- ---- of both

one_dropped : (e : Closed) (host : Epoch) → taken_closed e ≡ on_link host.lines → answers_in (answered_of e.journal) ≡ answers_in host.got → length (dropped_by e) ≡ length (dropped_lines host)
one_dropped e host same told =
    let n = answers_in (answered_of e.journal) in
    ap length (ap (λ (bytes : List ℕ). drop n (whole_lines bytes)) same ∙ ap (drop n) (lines_back host.lines) ∙ drop-map sent_text n host.lines)
    ∙ length-map (drop n host.lines) sent_text ∙ ap (λ (k : ℕ). length (drop k host.lines)) told

pub dropped_same : (blocks : ℕ) (state : State) (hosts : List Epoch) (es : NewestFirst Closed) → AreClosed blocks state es → AreSame hosts es → lines_among (map dropped_by es) ≡ dropped_in hosts
dropped_same blocks state [] [] c s = refl
dropped_same blocks state [] (e ∷ es) c s = absurd s
dropped_same blocks state (host ∷ hosts) [] c s = absurd s
dropped_same blocks state (host ∷ hosts) (e ∷ es) c s =
    let told = told_more blocks state e es c in
    let before = same_told hosts es s.2 in
    let both = answers_on (replies_in hosts) host.got in
    let now = s.1 in
    let here = one_dropped e host (own_bytes hosts host.lines e es s.2 s.0) (omega (arith, told, before, both, now)) in
    let more = dropped_same blocks state hosts es c.1 s.2 in
    omega (arith, here, more)
