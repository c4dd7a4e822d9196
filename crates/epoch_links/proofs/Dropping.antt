-- The lines that a reset drops are few: they are those that the host forgets at its Banner, or fewer.
use Rattle.std.proofs.Common.{◌≡◌, ℕ, zero, suc, ◌+◌, ◌-◌, ◌≤◌, List, [], ◌∷◌, ◌++◌, length, map, drop, length-append, append_assoc, refl, sym, ap, ◌∙◌, arith}
use Rattle.std.specs.List.{AllByRecursion}
use Rattle.std.proofs.lemmas.Grind.{flat_map-append}
use Rattle.std.proofs.lemmas.List.{append_cancel_left, drop-map, map-append}
use Rattle.run_rules.specs.Lines.{ended, whole_lines}
use Rattle.run_rules.specs.declared.State.{State}
use Rattle.status_report.specs.Answering.{answers_in}
use Rattle.status_report.proofs.Answered.{answers_on}
use Rattle.step_line.specs.Logs.{NewestFirst}
use Rattle.stream_host.specs.Epochs.{Epoch, AreEnds, IsOver, lines_in, replies_in}
use Rattle.host_journal.specs.Jobs.{sent_text}
use Rattle.host_journal.specs.Links.{on_link}
use Rattle.stream_host.proofs.Pieces.{lines_back}
use Rattle.board_journal.specs.Ports.{BoardLog, taken_in, link_steps}
use Rattle.board_journal.specs.Steps.{port_log, answered_of}
use Rattle.board_journal.proofs.LinkSteps.{same_taken}
use Rattle.board_epochs.specs.Epochs.{Closed, AreClosed, closed_log, log_behind, opening_behind, last_line}
use Rattle.board_epochs.specs.Work.{Work, Works, stage_of}
use Rattle.board_epochs.proofs.Working.{all_of, never}
use Rattle.board_journal.specs.Ports.PortStep.{answered, reported}
use Rattle.board_journal.specs.Steps.Step.{at_port, turned}
use Rattle.epoch_links.specs.Drops.{dropped_by, DropFew}
use Rattle.epoch_links.specs.Taken.{taken_closed, taken_before}
use Rattle.epoch_links.proofs.Answers.{totals}
use Rattle.epoch_links.proofs.Carrying.{same_front}
use Rattle.epoch_links.proofs.Moments.{bytes_taken, answers_given, counts_of, linked_answers, same_answers}
use Rattle.epoch_links.proofs.Steps.{closed_bytes, closed_steps, concat_push}

-- ---- one epoch

pub link_append : (lines more : List (List ℕ)) → on_link (lines ++ more) ≡ on_link lines ++ on_link more
link_append lines more = ap ended (map-append sent_text lines more) ∙ flat_map-append (λ (l : List ℕ). l ++ 10 ∷ []) (map sent_text lines) (map sent_text more)

drop_fewer : (lines : List (List ℕ)) (few many : ℕ) → few ≤ many → length (on_link (drop many lines)) ≤ length (on_link (drop few lines))
drop_fewer [] few many le = rest_none few many
  where
    rest_none : (few many : ℕ) → length (on_link (drop many [])) ≤ length (on_link (drop few []))
    rest_none few many = let a = none many in let b = none few in omega arith
      where
        none : (n : ℕ) → length (on_link (drop n [])) ≡ 0
        none zero = refl
        none (suc n) = refl
drop_fewer (l ∷ ls) zero zero le = omega arith
drop_fewer (l ∷ ls) zero (suc many) le =
    let i = drop_fewer ls 0 many (omega arith) in let a = length-append (sent_text l ++ 10 ∷ []) (on_link ls) in omega arith
drop_fewer (l ∷ ls) (suc few) zero le = absurd (omega arith)
drop_fewer (l ∷ ls) (suc few) (suc many) le = drop_fewer ls few many (omega arith)

-- an epoch whose bytes are of lines of which fewer are without an answer at the other end
pub few_dropped : (room : ℕ) (e : Closed) (lines : List (List ℕ)) (told : ℕ) → taken_closed e ≡ on_link lines → told ≤ answers_in (answered_of e.journal) → length (on_link (drop told lines)) ≤ room
    → length (ended (dropped_by e)) ≤ room
few_dropped room e lines told same few small =
    let n = answers_in (answered_of e.journal) in
    let are : dropped_by e ≡ map sent_text (drop n lines) = ap (λ (bytes : List ℕ). drop n (whole_lines bytes)) same ∙ ap (drop n) (lines_back lines) ∙ drop-map sent_text n lines in
    let long = ap (λ (ls : List (List ℕ)). length (ended ls)) are in
    let fewer = drop_fewer lines told n few in omega (arith, long, fewer, small)

-- ---- the answers of an epoch

pub no_answers : (number : ℕ) (before : BoardLog) (w : Work) → Works number before w → answers_given (link_steps (port_log w)) ≡ 0
no_answers number before [] c = refl
no_answers number before (at_port (answered r) ∷ w) c = absurd (never number (all_of before w) (stage_of before w) (answered r) tt c.0)
no_answers number before (at_port (reported r) ∷ w) c = absurd (never number (all_of before w) (stage_of before w) (reported r) tt c.0)
no_answers number before (at_port e ∷ w) c = no_answers number before w c.2
no_answers number before (turned t ∷ w) c = no_answers number before w c.2
no_answers number before (_ ∷ w) c = absurd c.0

pub told_more : (blocks : ℕ) (state : State) (e : Closed) (es : NewestFirst Closed) → AreClosed blocks state (e ∷ es) → answers_given (link_steps (closed_log (e ∷ es))) ≡ answers_given (link_steps (closed_log es)) + answers_in (answered_of e.journal)
told_more blocks state e es c =
    let a = ap answers_given (closed_steps e es) in
    let b = linked_answers (link_steps (port_log e.work)) (link_steps (port_log e.journal) ++ link_steps (closed_log es)) in
    let d = linked_answers (link_steps (port_log e.journal)) (link_steps (closed_log es)) in
    let n = no_answers (last_line (opening_behind blocks state es) e.journal) (log_behind (closed_log es) e.journal) e.work c.0.resetting.works in
    let s = same_answers (port_log e.journal) in omega (arith, a, b, d, n, s)

pub bytes_more : (e : Closed) (es : NewestFirst Closed) → taken_in (closed_log (e ∷ es)) ≡ taken_in (closed_log es) ++ taken_closed e
bytes_more e es = closed_bytes (e ∷ es) ∙ concat_push (taken_before es) (taken_closed e) ∙ ap (λ (bytes : List ℕ). bytes ++ taken_closed e) (sym (closed_bytes es))

-- ---- epochs that both ends have ended

-- as each of them was over, the lines that were sent had these bytes, and as many were answered
abbrev pub AreSame : List Epoch → NewestFirst Closed → Type 0
AreSame [] [] = Unit {0}
AreSame [] (e ∷ es) = ⊥
AreSame (host ∷ hosts) [] = ⊥
AreSame (host ∷ hosts) (e ∷ es) = (taken_in (closed_log (e ∷ es)) ≡ on_link (lines_in (host ∷ hosts))) × (answers_given (link_steps (closed_log (e ∷ es))) ≡ answers_in (replies_in (host ∷ hosts))) × AreSame hosts es

same_bytes : (hosts : List Epoch) (es : NewestFirst Closed) → AreSame hosts es → taken_in (closed_log es) ≡ on_link (lines_in hosts)
same_bytes [] [] s = refl
same_bytes [] (e ∷ es) s = absurd s
same_bytes (host ∷ hosts) [] s = absurd s
same_bytes (host ∷ hosts) (e ∷ es) s = s.0

pub same_told : (hosts : List Epoch) (es : NewestFirst Closed) → AreSame hosts es → answers_given (link_steps (closed_log es)) ≡ answers_in (replies_in hosts)
same_told [] [] s = refl
same_told [] (e ∷ es) s = absurd s
same_told (host ∷ hosts) [] s = absurd s
same_told (host ∷ hosts) (e ∷ es) s = s.1

-- the bytes of the epoch behind them
pub own_bytes : (hosts : List Epoch) (lines : List (List ℕ)) (e : Closed) (es : NewestFirst Closed) → AreSame hosts es → taken_in (closed_log (e ∷ es)) ≡ on_link (lines_in hosts ++ lines) → taken_closed e ≡ on_link lines
own_bytes hosts lines e es s are =
    append_cancel_left (on_link (lines_in hosts)) (taken_closed e) (on_link lines)
    (ap (λ (bytes : List ℕ). bytes ++ taken_closed e) (sym (same_bytes hosts es s)) ∙ sym (bytes_more e es) ∙ are ∙ link_append (lines_in hosts) lines)

pub each_few : (room blocks : ℕ) (state : State) (hosts : List Epoch) (es : NewestFirst Closed) → AreClosed blocks state es → AreSame hosts es → AllByRecursion (IsOver room) hosts → DropFew room es
each_few room blocks state [] [] c s over = tt
each_few room blocks state [] (e ∷ es) c s over = absurd s
each_few room blocks state (host ∷ hosts) [] c s over = absurd s
each_few room blocks state (host ∷ hosts) (e ∷ es) c s over =
    let told = told_more blocks state e es c in let before = same_told hosts es s.2 in let both = answers_on (replies_in hosts) host.got in let now = s.1 in
    (few_dropped room e host.lines (answers_in host.got) (own_bytes hosts host.lines e es s.2 s.0) (omega (arith, told, before, both, now)) over.0.small, each_few room blocks state hosts es c.1 s.2 over.1)

-- by where they end
pub same_by : (all : List ℕ) (hosts : List Epoch) (es : NewestFirst Closed) (marks behind rest : List ℕ) → AreEnds marks hosts → counts_of bytes_taken es ≡ marks → counts_of answers_given es ≡ totals hosts
    → taken_in (closed_log es) ++ behind ≡ all → on_link (lines_in hosts) ++ rest ≡ all → AreSame hosts es
same_by all [] [] marks behind rest ends bytes told front lines = tt
same_by all [] (e ∷ es) marks behind rest ends bytes told front lines = absurd cc
same_by all (host ∷ hosts) [] marks behind rest ends bytes told front lines = absurd cc
same_by all (host ∷ hosts) (e ∷ es) [] behind rest ends bytes told front lines = absurd ends
same_by all (host ∷ hosts) (e ∷ es) (m ∷ marks) behind rest ends bytes told front lines =
    let long : length (taken_in (closed_log (e ∷ es))) ≡ length (on_link (lines_in (host ∷ hosts))) = (let s = same_taken (closed_log (e ∷ es)) in let at = ends.0 in let n : bytes_taken (link_steps (closed_log (e ∷ es))) ≡ m = cc in omega (arith, s, at, n)) in
    let here = same_front (taken_in (closed_log (e ∷ es))) (on_link (lines_in (host ∷ hosts))) behind rest (front ∙ sym lines) long in
    let many : answers_given (link_steps (closed_log (e ∷ es))) ≡ answers_in (replies_in (host ∷ hosts)) = cc in (
      here,
      many,
      same_by all hosts es marks (taken_closed e ++ behind) (on_link host.lines ++ rest) ends.1 (ap (drop 1) bytes) (ap (drop 1) told)
          (sym (append_assoc (taken_in (closed_log es)) (taken_closed e) behind) ∙ ap (λ (t : List ℕ). t ++ behind) (sym (bytes_more e es)) ∙ front)
          (sym (append_assoc (on_link (lines_in hosts)) (on_link host.lines) rest) ∙ ap (λ (t : List ℕ). t ++ rest) (sym (link_append (lines_in hosts) host.lines)) ∙ lines),
    )
