-- What a board's log says through each call.
use Rattle.std.proofs.Common.{◌≡◌, ℕ, ◌+◌, ◌-◌, ◌/◌, ◌^◌, ◌≤◌, ◌<◌, Bool, true, false, cond, nat_eq, List, [], ◌∷◌, length, refl, sym, ap, ◌∙◌, subst, arith}
use Rattle.std.specs.Int.Bits.{bit_and}
use Rattle.std.proofs.lemmas.Nat.Bits.{shr_and_one}
use Rattle.code_table.specs.declared.flags.Exec.{Exec}
use Rattle.code_table.specs.Flags.{exec_bits}
use Rattle.status_report.specs.declared.Reply.{Reply}
use Rattle.step_line.specs.declared.Piece.{Piece}
use Rattle.realtime_flags.specs.declared.words.Take.{Take}
use Rattle.realtime_flags.specs.declared.words.Take.TheVariants as words
use Rattle.realtime_flags.specs.Bits.{report_flag, stood_in, counted, takes_with}
use Rattle.serial_ring.specs.declared.view.LinkStep.{LinkStep}
use Rattle.serial_ring.specs.declared.view.LinkStep.TheVariants.{Took}
use Rattle.serial_ring.specs.Marks.{MarkedPast}
use Rattle.serial_ring.specs.Logs as link
use Rattle.board_journal.proofs.LinkSteps.{same_taken, same_answered}
use Rattle.motion_ring.specs.declared.lists.Sent.{Sent}
use Rattle.motion_ring.specs.Sides as ring
use Rattle.motion_ring.specs.Sides.{ticks_published, unfinished_in, with_stop}
use Rattle.board_journal.specs.Ports.{BoardLog, taken_in, link_steps, asks_report, reports_in, MayAnswer, IsMarkedPast, MayPublish, MayStop, MayAskHalt, HasTakenFew, HasFewReports, LacksReplyRoom, LacksPieceRoom, MayBeDone}
use Rattle.board_journal.specs.Ports.PortStep.{took, found_empty, found_closed, found_free, no_reply_room, took_exec, no_piece_room, stored_stop}
use Rattle.link_ports.specs.Loads.{FoundNoByte}
use Rattle.board_journal.specs.Takes.{takes_in}
use Rattle.link_ports.specs.Boards.{BoardDid, LooksForBytes}

module _ (steps steps' : List LinkStep) (over over' : Bool) (takes : List Take) (sent : Sent) (known : ℕ) (l : BoardLog) (d : BoardDid steps over takes sent known l) where
  count : length (taken_in l) ≡ length (link.taken_in steps)
  count = same_taken l ∙ ap (λ z. length (link.taken_in z)) d.steps_are

  -- how often the link was looked at for bytes
  module _ (room k s loads shown : ℕ) (looks : LooksForBytes room l k s) where
    pub looks_and_takes : (b : ℕ) → (length (link.taken_in steps) ≡ s → loads ≡ k + 1) → (¬ (length (link.taken_in steps) ≡ s) → (loads ≡ k) × (shown ≡ s)) → length (link.taken_in steps) < shown → LooksForBytes room (took b ∷ l) loads shown
    looks_and_takes b anew kept there = (k, s, looks, record { look = record { anew = λ e. anew (sym count ∙ e); kept = λ n. kept (λ e. n (count ∙ e)) }; there = (let c = count in omega arith) })

    found_none : length (link.taken_in steps) ≡ s → loads ≡ k + 1 → length (link.taken_in steps) ≡ shown → FoundNoByte (length (taken_in l)) k s loads shown
    found_none before anew none = record { before = count ∙ before; look = anew; none = count ∙ none }

    pub looks_in_vain : length (link.taken_in steps) ≡ s → loads ≡ k + 1 → length (link.taken_in steps) ≡ shown → LooksForBytes room (found_empty ∷ l) loads shown
    looks_in_vain before anew none = (k, s, looks, found_none before anew none)

    pub looks_and_ends : length (link.taken_in steps) ≡ s → loads ≡ k + 1 → length (link.taken_in steps) ≡ shown → LooksForBytes room (found_closed ∷ l) loads shown
    looks_and_ends before anew none = (k, s, looks, found_none before anew none)

    pub looks_at_room : (n : ℕ) → loads ≡ k + 1 → n + (shown - length (link.taken_in steps)) ≡ room → LooksForBytes room (found_free n ∷ l) loads shown
    looks_at_room n anew free = (k, s, looks, anew, (let c = count in omega arith))

  pub byte_taken : (b : ℕ) → steps' ≡ Took b ∷ steps → (over ≡ true → over' ≡ true) → BoardDid steps' over' takes sent known (took b ∷ l)
  byte_taken b e o = record { steps_are = ap (λ (z : List LinkStep). Took b ∷ z) d.steps_are ∙ sym e; over_is = λ c. o (d.over_is c); takes_are = d.takes_are; pieces_are = d.pieces_are; known_is = d.known_is }

  pub nothing_found : steps' ≡ steps → (over ≡ true → over' ≡ true) → BoardDid steps' over' takes sent known (found_empty ∷ l)
  nothing_found e o = record { steps_are = d.steps_are ∙ sym e; over_is = λ c. o (d.over_is c); takes_are = d.takes_are; pieces_are = d.pieces_are; known_is = d.known_is }

  pub end_found : steps' ≡ steps → over' ≡ true → BoardDid steps' over' takes sent known (found_closed ∷ l)
  end_found e o = record { steps_are = d.steps_are ∙ sym e; over_is = λ c. o; takes_are = d.takes_are; pieces_are = d.pieces_are; known_is = d.known_is }

  pub room_found : (n : ℕ) → steps' ≡ steps → (over ≡ true → over' ≡ true) → BoardDid steps' over' takes sent known (found_free n ∷ l)
  room_found n e o = record { steps_are = d.steps_are ∙ sym e; over_is = λ c. o (d.over_is c); takes_are = d.takes_are; pieces_are = d.pieces_are; known_is = d.known_is }

  pub reply_refused : steps' ≡ steps → over' ≡ over → BoardDid steps' over' takes sent known (no_reply_room ∷ l)
  reply_refused e o = record { steps_are = d.steps_are ∙ sym e; over_is = λ c. o ∙ d.over_is c; takes_are = d.takes_are; pieces_are = d.pieces_are; known_is = d.known_is }

-- whether a word asks for a report is whether the flag stands in it
asked : (word : Exec) → asks_report word ≡ stood_in report_flag (words.Exec word)
asked word = ap (λ n. nat_eq n 1) (ap (λ n. bit_and n 1) (let e : exec_bits word ≡ exec_bits word / 2 ^ 0 = omega arith in e) ∙ shr_and_one (exec_bits word) 0)

pub reports_taken : (l : BoardLog) → takes_with report_flag (takes_in l) ≡ reports_in l
reports_taken [] = refl
reports_taken (took_exec word ∷ l) = ap (λ n. counted (stood_in report_flag (words.Exec word)) n) (reports_taken l) ∙ ap (λ b. cond b (reports_in l + 1) (reports_in l)) (sym (asked word))
reports_taken (_ ∷ l) = reports_taken l

counts_it : (b : Bool) (n m : ℕ) → b ≡ true → counted b n ≤ m → n < m
counts_it true n m is le = omega arith
counts_it false n m is le = absurd cc

module _ (steps : List LinkStep) (over : Bool) (takes takes' : List Take) (sent sent' : Sent) (known known' : ℕ) (l : BoardLog) (d : BoardDid steps over takes sent known l) where
  pub stop_told : sent' ≡ with_stop sent → known' ≡ known → BoardDid steps over takes sent' known' (stored_stop ∷ l)
  stop_told e same = record { steps_are = d.steps_are; over_is = d.over_is; takes_are = d.takes_are; pieces_are = e ∙ ap with_stop d.pieces_are; known_is = (let k = d.known_is in omega arith) }

  pub piece_refused : (n : ℕ) → sent' ≡ sent → known ≤ known' → BoardDid steps over takes sent' known' (no_piece_room n ∷ l)
  piece_refused n e more = record { steps_are = d.steps_are; over_is = d.over_is; takes_are = d.takes_are; pieces_are = e ∙ d.pieces_are; known_is = (let k = d.known_is in omega arith) }

  -- what is known of a moment
  pub has_taken_few : length (link.taken_in steps) < 2 ^ 31 → HasTakenFew l
  has_taken_few few = let e = ap (λ z. length (link.taken_in z)) d.steps_are in let r = same_taken l in omega arith

  pub may_answer : (r : Reply) → MayAnswer l r → link.MayAnswer steps r
  may_answer r m = subst (λ (z : List LinkStep). link.MayAnswer z r) d.steps_are m

  pub is_marked_past : IsMarkedPast l → MarkedPast (length (link.taken_in steps)) (link.marked_in steps)
  is_marked_past past = subst (λ (z : List LinkStep). MarkedPast (length (link.taken_in z)) (link.marked_in z)) d.steps_are (subst (λ n. MarkedPast n (link.marked_in (link_steps l))) (same_taken l) past)

  pub lacks_reply_room : (taken : ℕ) → length (link.answered_in steps) ≡ taken + 16 → LacksReplyRoom l
  lacks_reply_room taken full = let e = ap (λ z. length (link.answered_in z)) d.steps_are in let r = same_answered l in omega arith

  pub has_few_reports : (word : Exec) → takes' ≡ words.Exec word ∷ takes → takes_with report_flag takes' ≤ 2 ^ 31 → asks_report word ≡ true → HasFewReports l
  has_few_reports word e few asks =
      let lt = counts_it (stood_in report_flag (words.Exec word)) (takes_with report_flag takes) (2 ^ 31) (sym (asked word) ∙ asks) (subst (λ n. n ≤ 2 ^ 31) (ap (takes_with report_flag) e) few) in
      let r = reports_taken l in let t = ap (takes_with report_flag) d.takes_are in omega arith

  pub may_publish : (p : Piece) → MayPublish l p → ring.MayPublish sent p
  may_publish p m = subst (λ (s : Sent). ring.MayPublish s p) (sym d.pieces_are) m

  pub may_stop : MayStop l → ring.MayStop sent
  may_stop m = subst ring.MayStop (sym d.pieces_are) m

  pub a_stop_waits : MayAskHalt l → sent.waits ≡ true
  a_stop_waits m = ap (λ (s : Sent). s.waits) d.pieces_are ∙ m

  pub lacks_piece_room : known ≤ known' → unfinished_in sent known' ≡ 5 → LacksPieceRoom known' l
  lacks_piece_room more full = record { later = (let k = d.known_is in omega arith); full = ap (λ (s : Sent). unfinished_in s known') (sym d.pieces_are) ∙ full }

  pub may_be_done : (n : ℕ) → known ≤ n → n ≤ ticks_published sent → unfinished_in sent n ≤ 5 → MayBeDone n l
  may_be_done n more most few = record {
    later = (let k = d.known_is in omega arith);
    below = subst (λ (s : Sent). n ≤ ticks_published s) d.pieces_are most;
    few = subst (λ (s : Sent). unfinished_in s n ≤ 5) d.pieces_are few;
  }
