-- What an epoch does at its port is what the port, which counts on, may be asked for; and what the port promises holds of the epoch.
use Rattle.std.proofs.Common.{◌≡◌, ◌⊎◌, inl, inr, ℕ, ◌+◌, ◌^◌, ◌<◌, true, List, [], ◌∷◌, length, length-append, sym, ap, ◌∙◌, subst, arith}
use Rattle.run_rules.specs.Work.Task.{tell}
use Rattle.status_report.specs.Answering.{is_report}
use Rattle.status_report.specs.Replies.{IsReply}
use Rattle.status_report.specs.declared.Reply.{Reply}
use Rattle.status_report.specs.declared.Reply.TheVariants as replies
use Rattle.step_line.specs.Logs.{NewestFirst}
use Rattle.step_line.specs.declared.Piece.{Piece}
use Rattle.board_rules.specs.Conduct.{Conducted, IsNextTask}
use Rattle.board_journal.specs.Openings.{Opening}
use Rattle.board_journal.specs.Ports.{BoardLog, MayAnswer, MayPublish, MayBeDone, LacksPieceRoom, HasTakenFew, HasFewReports, said, taken_in}
use Rattle.board_journal.specs.Ports.PortStep.{published, no_piece_room, loaded}
use Rattle.board_journal.specs.Steps.{Journal, port_log}
use Rattle.board_rules.proofs.Unstopped.{journals_never_stop}
use Rattle.board_epochs.specs.Epochs.{Closed, closed_log, opening_behind, ticks_made}
use Rattle.board_epochs.proofs.Asking.{lines_there, publish_there}
use Rattle.board_epochs.proofs.Chaining.{begins_behind}
use Rattle.board_epochs.proofs.Onto.{taken_on}
use Rattle.board_epochs.proofs.Seam.{done_behind, room_behind, reports_behind}
use Rattle.board_epochs.proofs.Telling.{answer_there, report_there}
use Rattle.epoch_ports.specs.Serving.{Since, Serves, MayTellNow, MayPublishNow, all_since}

pub few_reports : (es : NewestFirst Closed) (l : BoardLog) → HasFewReports (all_since es l) → HasFewReports l
few_reports es l few = reports_behind (ticks_made es) (closed_log es) l few

module _ (R : Type 0) (port : R → BoardLog → Type 0) (base : ℕ) (since : Since R) (first : Opening) (h : Journal) (s : Serves R port base since first (port_log h)) where
  opens_so : Conducted first h → Conducted (opening_behind since.blocks since.state since.closed) h
  opens_so c = subst (λ (o : Opening). Conducted o h) s.opens c

  a_report : (r : Reply) → is_report r ≡ true → Conducted first h → IsReply r → MayAnswer (all_since since.closed (port_log h)) r
  a_report (replies.Report r) is c text = report_there since.blocks since.state since.closed h r (s.closed, opens_so c, s.bounded) text
  a_report r is c text = absurd cc

  pub may_answer : (r : Reply) → MayTellNow first r h → MayAnswer (all_since since.closed (port_log h)) r
  may_answer r may = by_kind may.next
    where
      by_kind : (is_report r ≡ true) ⊎ IsNextTask first (tell r) h → MayAnswer (all_since since.closed (port_log h)) r
      by_kind (inl is) = a_report r is may.conducted may.text
      by_kind (inr next) = answer_there since.blocks since.state since.closed h r (s.closed, opens_so may.conducted, s.bounded) (subst (λ (o : Opening). IsNextTask o (tell r) h) s.opens next) may.text

  pub may_publish : (p : Piece) → MayPublishNow first p h → MayPublish (all_since since.closed (port_log h)) p
  may_publish p may = publish_there since.blocks since.state since.closed h p (s.closed, opens_so may.conducted, s.bounded) may.hand

  pub done_here : (k : ℕ) → Conducted first h → MayBeDone k (all_since since.closed (port_log h)) → (n : ℕ) × (k ≡ base + n) × MayBeDone n (port_log h)
  done_here k c may =
      let r = done_behind (closed_log since.closed) (port_log h) k (begins_behind since.blocks since.state since.closed s.closed) (journals_never_stop first h c) may in
      (r.0, r.1 ∙ ap (λ (b : ℕ). b + r.0) (sym s.ticks), r.2)

  pub room_here : (k : ℕ) → Conducted first h → LacksPieceRoom k (all_since since.closed (port_log h)) → (n : ℕ) × (k ≡ base + n) × LacksPieceRoom n (port_log h)
  room_here k c may =
      let r = room_behind (closed_log since.closed) (port_log h) k (begins_behind since.blocks since.state since.closed s.closed) (journals_never_stop first h c) may in
      (r.0, r.1 ∙ ap (λ (b : ℕ). b + r.0) (sym s.ticks), r.2)

-- with a byte of an epoch before for each line before this one
pub few_taken : (R : Type 0) (port : R → BoardLog → Type 0) (base : ℕ) (since : Since R) (first : Opening) (l : BoardLog) → Serves R port base since first l → HasTakenFew (all_since since.closed l)
    → first.lines + length (taken_in l) < 2 ^ 31
few_taken R port base since first l s few =
    let es = since.closed in
    let lines = lines_there since.blocks since.state es s.closed in
    let same = ap (λ (o : Opening). o.lines) s.opens in
    let all = ap (λ (bs : List ℕ). length bs) (taken_on (ticks_made es) l (closed_log es)) in
    let both = length-append (taken_in (closed_log es)) (taken_in l) in
    omega (arith, lines, same, all, both, few)

-- ---- steps

module _ (R : Type 0) (old port : R → BoardLog → Type 0) (base : ℕ) (since : Since R) (first : Opening) (l : BoardLog) (s : Serves R old base since first l) where
  pub told : (r : Reply) → port since.rest (said r ∷ all_since since.closed l) → Serves R port base since first (said r ∷ l)
  told (replies.Report r) at = record { stands = at; ticks = s.ticks; opens = s.opens; closed = s.closed; bounded = record { bytes = s.bounded.bytes; reports = s.bounded.reports } }
  told r at = record { stands = at; ticks = s.ticks; opens = s.opens; closed = s.closed; bounded = record { bytes = s.bounded.bytes; reports = s.bounded.reports } }

  pub found : (k n : ℕ) → k ≡ base + n → port since.rest (loaded k ∷ all_since since.closed l) → Serves R port base since first (loaded n ∷ l)
  found k n is at = record {
    stands = subst (λ (x : ℕ). port since.rest (loaded x ∷ all_since since.closed l)) (is ∙ ap (λ (b : ℕ). b + n) s.ticks) at;
    ticks = s.ticks;
    opens = s.opens;
    closed = s.closed;
    bounded = record { bytes = s.bounded.bytes; reports = s.bounded.reports };
  }

  pub published_here : (p : Piece) → port since.rest (published p ∷ all_since since.closed l) → Serves R port base since first (published p ∷ l)
  published_here p at = record { stands = at; ticks = s.ticks; opens = s.opens; closed = s.closed; bounded = record { bytes = s.bounded.bytes; reports = s.bounded.reports } }

  pub handed_back : (k n : ℕ) → k ≡ base + n → port since.rest (no_piece_room k ∷ all_since since.closed l) → Serves R port base since first (no_piece_room n ∷ l)
  handed_back k n is at = record {
    stands = subst (λ (x : ℕ). port since.rest (no_piece_room x ∷ all_since since.closed l)) (is ∙ ap (λ (b : ℕ). b + n) s.ticks) at;
    ticks = s.ticks;
    opens = s.opens;
    closed = s.closed;
    bounded = record { bytes = s.bounded.bytes; reports = s.bounded.reports };
  }
