-- Each step of the host keeps the rule.
use Rattle.std.proofs.Common.{◌≡◌, ℕ, ◌+◌, ◌-◌, ◌%◌, ◌^◌, ◌<◌, ◌≤◌, true, false, List, [], ◌∷◌, ◌++◌, length, get_or, set, Some, None, sym, refl, ap, ◌∙◌, subst, arith, lt_of_not-le, length-set, length-append}
use Rattle.std.proofs.lemmas.List.{get_or-set_same, get_or-set_other}
use mathlib.Core.Option.{none, some}
use native.Mathlib.Decide.{dec_le}
use lib.ListN.{get_elem?}
use Rattle.atomic_table.specs.Table.{step, Allows}
use Rattle.atomic_table.specs.Table.Act.{keeps, takes, gives}
use Rattle.shared_rings.proofs.Shelf as shelves
use Rattle.shared_rings.proofs.Shelf.{below_size}
use Rattle.status_report.specs.declared.Reply.{Reply}
use Rattle.status_report.specs.Replies.{IsReply}
use Rattle.serial_ring.specs.declared.view.LinkSight.{LinkSight}
use Rattle.serial_ring.specs.declared.view.LinkStep.{LinkStep}
use Rattle.serial_ring.specs.declared.view.LinkStep.TheVariants.{Answered}
use Rattle.serial_ring.specs.Marks.{Mark, Follows, AreMarks, packed}
use Rattle.status_report.specs.Answering.{is_banner}
use Rattle.serial_ring.specs.Lists.{AreReplies, AnswersStored, AreAtMost, maybe_unread, with_greeting, with_moment}
use Rattle.serial_ring.specs.Logs.{AnswersWell, taken_in, marked_in, answered_in, greeted_in, taken_at_banners, next_mark}
use Rattle.serial_ring.specs.Rule.{Kept, Bytes, Replies, Hosts, Boards, head_word, mark_word, tail_word, reply_head_word, reply_tail_word, all_words, cell_of, with_tail, with_cell, with_stored, with_closed, with_mark, with_reply_head, with_got, with_back, saw_tail, wrote, stored_byte, shut, set_mark, grasped, gave_back}
use Rattle.serial_ring.proofs.Lists.{text_of}
use Rattle.serial_ring.proofs.Marking.{more_marks, marks_stay, marks_stored, marks_set}
use Rattle.serial_ring.proofs.Logs.{marks_on, well_on, in_time_on, taken_on, next_answer, next_follows, unread_by_replies, answers_stored}
use Rattle.serial_ring.proofs.Bytes.{below, above, cell_apart, apart_from_cell, long, bytes_stay, bytes_written, bytes_stored, bytes_closed}
use Rattle.serial_ring.proofs.Replies.{replies_stay, next_reply, replies_grasped, replies_back}
use Rattle.serial_ring.proofs.Frames.{Hand, Way, loads, host_steps, same_board, same_host, host_words, board_stored, board_closed}

pub sees_tail : (room slots id : ℕ) (v : LinkSight) (c : Hand) → v.may_store ≡ true → Allows (Kept room) slots id (v, c) tail_word (λ n. n) (saw_tail room (step slots tail_word 0 0 none) (v, c))
sees_tail room slots id v c mine s k size at small =
    let h = k.hosting id v at mine in
    let n : ℕ = get_or s.words tail_word 0 in
    let tail : n ≡ length (taken_in k.log) = k.bytes.tail in
    let l : length k.stored ≡ length k.bytes.rest + length (taken_in k.log) = long room s.words k.stored (taken_in k.log) k.closed k.bytes in
    let few : length k.bytes.rest ≤ room = k.bytes.few in
    let e : length v.stored ≡ length k.stored = ap length h.1.stored_are in
    let unread = unread_by_replies k.later k.seen k.bytes.rest (well_on k.later k.seen (subst AnswersWell k.parts k.well)) in
    let whole : v.stored ≡ k.bytes.rest ++ taken_in (k.later ++ k.seen) = h.1.stored_are ∙ (k.bytes.fifo ∙ ap (λ (z : List LinkStep). k.bytes.rest ++ taken_in z) k.parts) in
    let same : length (maybe_unread v.stored v.got v.greeted) ≡ length (maybe_unread (k.bytes.rest ++ taken_in (k.later ++ k.seen)) (answered_in k.seen) (greeted_in k.seen)) =
    (λ i. length (maybe_unread (whole i) (h.1.got_are i) (h.1.greeted_are i))) in (
      with_tail v n,
      keeps,
      tt,
      loads room s tail_word s.homes id (with_tail v n) (host_steps room s k id v (with_tail v n) s.words s.homes k.stored k.marks k.closed k.later k.seen k.given k.emptying at mine k.wide k.bytes k.marked k.replies k.parts k.loads
          (record { stored_are = h.1.stored_are; marks_are = h.1.marks_are; closed_is = h.1.closed_is; tail_is = omega arith; cell_is = h.1.cell_is; got_are = h.1.got_are; greeted_are = h.1.greeted_are; in_time = h.1.in_time; emptying_is = h.1.emptying_is })
          (λ m. let b = k.boarding id v at m in (b.0, same_board k.stored k.closed k.log k.filling v (with_tail v n) refl refl refl refl refl b.1)) (λ u b. b)),
      (refl, omega arith, omega arith, omega arith),
    )

pub writes : (room slots id i x : ℕ) (v : LinkSight) (c : Hand) → v.may_store ≡ true → i ≡ cell_of room (length v.stored) → length v.stored < v.tail + room → x < 256
    → Allows (Kept room) slots id (v, c) i (λ _. x) (λ _. wrote (step slots i x 0 none) (v, c) x)
writes room slots id i x v c mine place fits byte s k size at small =
    let h = k.hosting id v at mine in
    let e : length v.stored ≡ length k.stored = ap length h.1.stored_are in
    let here : i ≡ cell_of room (length k.stored) = place ∙ ap (cell_of room) e in
    let free : length k.stored < length (taken_in k.log) + room = let r : v.tail ≤ length (taken_in k.log) = h.1.tail_is in omega arith in
    let wide : length s.words ≡ all_words = k.wide in
    let low : length k.stored % room < room = below_size (length k.stored) room (let z = k.sized.0 in omega arith) in
    let most : room ≤ 255 = k.sized.1 in (
      with_cell v x,
      keeps,
      tt,
      host_steps room s k id v (with_cell v x) (set s.words i x) s.homes k.stored k.marks k.closed k.later k.seen k.given k.emptying at mine (length-set s.words i x ∙ k.wide)
          (bytes_written room s.words k.stored (taken_in k.log) k.closed k.bytes i x here free)
          (marks_stay s.words k.stored k.marks k.marked i x (λ q. apart_from_cell mark_word (length k.stored % room) (omega arith) (q ∙ here)))
          (replies_stay s.words s.homes (answered_in k.log) (answered_in k.seen) k.given k.filling k.emptying k.replies i x
          (λ q. apart_from_cell reply_head_word (length k.stored % room) (omega arith) (q ∙ here)) (λ q. apart_from_cell reply_tail_word (length k.stored % room) (omega arith) (q ∙ here)))
          k.parts k.loads
          (record {
            stored_are = h.1.stored_are;
            marks_are = h.1.marks_are;
            closed_is = h.1.closed_is;
            tail_is = h.1.tail_is;
            cell_is = λ z q. let xz : x ≡ z = cc in (ap (λ n. get_or (set s.words i x) n 0) (sym here) ∙ (get_or-set_same s.words i x 0 (omega arith) ∙ xz), subst (λ y. y < 256) xz byte);
            got_are = h.1.got_are;
            greeted_are = h.1.greeted_are;
            in_time = h.1.in_time;
            emptying_is = h.1.emptying_is;
          })
          (λ m. let b = k.boarding id v at m in (b.0, same_board k.stored k.closed k.log k.filling v (with_cell v x) refl refl refl refl refl b.1)) (λ u b. b),
      refl,
    )

pub stores : (room slots id x new : ℕ) (v : LinkSight) (c : Hand) → v.may_store ≡ true → v.closed ≡ false → v.cell ≡ Some x → length v.stored < v.tail + room → length v.stored < 2 ^ 31 → new ≡ length v.stored + 1
    → Allows (Kept room) slots id (v, c) head_word (λ _. new) (λ _. stored_byte (step slots head_word new 0 none) (v, c) new)
stores room slots id x new v c mine still cell fits short count s k size at small =
    let h = k.hosting id v at mine in
    let e : length v.stored ≡ length k.stored = ap length h.1.stored_are in
    let unclosed : k.closed ≡ false = sym h.1.closed_is ∙ still in
    let written = h.1.cell_is x cell in
    let free : length k.stored < length (taken_in k.log) + room = let r : v.tail ≤ length (taken_in k.log) = h.1.tail_is in omega arith in
    let wide : length s.words ≡ all_words = k.wide in
    let bytes = subst (λ z. Bytes room s.words k.stored (taken_in k.log) z) unclosed k.bytes in
    let w : LinkSight = with_stored v x in (
      w,
      keeps,
      tt,
      host_steps room s k id v w (set s.words head_word new) s.homes (x ∷ k.stored) k.marks false k.later k.seen k.given k.emptying at mine (length-set s.words head_word new ∙ k.wide)
          (bytes_stored room s.words k.stored (taken_in k.log) bytes new x k.wide written.0 written.1 free (omega arith) (count ∙ ap (λ n. n + 1) e))
          (marks_stay s.words (x ∷ k.stored) k.marks (marks_stored s.words k.stored k.marks x k.marked) head_word new (above mark_word head_word (omega arith)))
          (replies_stay s.words s.homes (answered_in k.log) (answered_in k.seen) k.given k.filling k.emptying k.replies head_word new (above reply_head_word head_word (omega arith)) (above reply_tail_word head_word (omega arith)))
          k.parts k.loads
          (record {
            stored_are = ap (λ z. x ∷ z) h.1.stored_are;
            marks_are = h.1.marks_are;
            closed_is = still;
            tail_is = h.1.tail_is;
            cell_is = λ z q. absurd cc;
            got_are = h.1.got_are;
            greeted_are = h.1.greeted_are;
            in_time = h.1.in_time;
            emptying_is = h.1.emptying_is;
          })
          (λ m. let b = k.boarding id v at m in (
            b.0,
            board_stored k.stored k.log k.filling x w
                (same_board k.stored false k.log k.filling v w refl refl refl refl refl (subst (λ z. Boards k.stored z k.log k.filling v) unclosed b.1)),
          ))
          (λ u b. board_stored k.stored k.log k.filling x u (subst (λ z. Boards k.stored z k.log k.filling u) unclosed b)),
      λ z q. let xz : x ≡ z = cc in ap (λ n. (with_stored v n, c)) xz,
    )

pub shuts : (room slots id new : ℕ) (v : LinkSight) (c : Hand) → v.may_store ≡ true → v.closed ≡ false → new ≡ length v.stored + 2 ^ 63
    → Allows (Kept room) slots id (v, c) head_word (λ _. new) (λ _. shut (step slots head_word new 0 none) (v, c) new)
shuts room slots id new v c mine still count s k size at small =
    let h = k.hosting id v at mine in
    let e : length v.stored ≡ length k.stored = ap length h.1.stored_are in
    let unclosed : k.closed ≡ false = sym h.1.closed_is ∙ still in
    let bytes = subst (λ z. Bytes room s.words k.stored (taken_in k.log) z) unclosed k.bytes in
    let w : LinkSight = with_closed v in (
      w,
      keeps,
      tt,
      host_steps room s k id v w (set s.words head_word new) s.homes k.stored k.marks true k.later k.seen k.given k.emptying at mine (length-set s.words head_word new ∙ k.wide)
          (bytes_closed room s.words k.stored (taken_in k.log) bytes new k.wide (count ∙ ap (λ n. n + 2 ^ 63) e))
          (marks_stay s.words k.stored k.marks k.marked head_word new (above mark_word head_word (omega arith)))
          (replies_stay s.words s.homes (answered_in k.log) (answered_in k.seen) k.given k.filling k.emptying k.replies head_word new (above reply_head_word head_word (omega arith)) (above reply_tail_word head_word (omega arith)))
          k.parts k.loads
          (record {
            stored_are = h.1.stored_are;
            marks_are = h.1.marks_are;
            closed_is = refl;
            tail_is = h.1.tail_is;
            cell_is = λ z q. let cell = h.1.cell_is z q in (get_or-set_other s.words head_word (cell_of room (length k.stored)) new 0 (cell_apart head_word (length k.stored % room) (omega arith)) ∙ cell.0, cell.1);
            got_are = h.1.got_are;
            greeted_are = h.1.greeted_are;
            in_time = h.1.in_time;
            emptying_is = h.1.emptying_is;
          })
          (λ m. let b = k.boarding id v at m in (
            b.0,
            board_closed k.stored k.log k.filling w
                (same_board k.stored false k.log k.filling v w refl refl refl refl refl (subst (λ z. Boards k.stored z k.log k.filling v) unclosed b.1)),
          ))
          (λ u b. board_closed k.stored k.log k.filling u (subst (λ z. Boards k.stored z k.log k.filling u) unclosed b)),
      refl,
    )

pub sets_mark : (room slots id new : ℕ) (v : LinkSight) (c : Hand) → v.may_store ≡ true → length v.marks + 1 < 2 ^ 32 → new ≡ packed (length v.marks + 1) (length v.stored)
    → Allows (Kept room) slots id (v, c) mark_word (λ _. new) (λ _. set_mark (step slots mark_word new 0 none) (v, c) new)
sets_mark room slots id new v c mine few is s k size at small =
    let h = k.hosting id v at mine in
    let e : length v.stored ≡ length k.stored = ap length h.1.stored_are in
    let f : length v.marks ≡ length k.marks = ap length h.1.marks_are in
    let w : LinkSight = with_mark v in (
      w,
      keeps,
      tt,
      host_steps room s k id v w (set s.words mark_word new) s.homes k.stored (length k.stored ∷ k.marks) k.closed k.later k.seen k.given k.emptying at mine (length-set s.words mark_word new ∙ k.wide)
          (bytes_stay room s.words k.stored (taken_in k.log) k.closed k.bytes mark_word new (omega arith) (below head_word mark_word (omega arith)) (above tail_word mark_word (omega arith)))
          (marks_set s.words k.stored k.marks new k.marked k.wide (omega arith) (omega arith))
          (replies_stay s.words s.homes (answered_in k.log) (answered_in k.seen) k.given k.filling k.emptying k.replies mark_word new (above reply_head_word mark_word (omega arith)) (below reply_tail_word mark_word (omega arith)))
          k.parts (more_marks (length k.stored) k.marks (marked_in k.log) k.loads)
          (let o = host_words room s.words k.stored k.marks (taken_in k.log) (taken_in k.log) k.closed k.seen k.emptying mark_word new v (omega arith) (omega arith) h.1 in record {
            stored_are = o.stored_are;
            marks_are = (λ i. e i ∷ h.1.marks_are i);
            closed_is = o.closed_is;
            tail_is = o.tail_is;
            cell_is = o.cell_is;
            got_are = o.got_are;
            greeted_are = o.greeted_are;
            in_time = o.in_time;
            emptying_is = o.emptying_is;
          })
          (λ m. let b = k.boarding id v at m in (b.0, same_board k.stored k.closed k.log k.filling v w refl refl refl refl refl b.1)) (λ u b. b),
      refl,
    )

pub grasps : (room slots id : ℕ) (v : LinkSight) (c : Hand) → v.may_store ≡ true → v.emptying ≡ false → Allows (Kept room) slots id (v, c) reply_head_word (λ n. n) (grasped (step slots reply_head_word 0 0 none) (v, c))
grasps room slots id v c mine idle s k size at small = go (dec_le (get_or s.words reply_head_word 0) (length v.got))
  where
    n : ℕ
    n = get_or s.words reply_head_word 0

    i : ℕ
    i = length v.got % 16

    h : (id ≡ k.host) × Hosts room s.words k.stored k.marks (taken_in k.log) k.closed k.seen k.emptying v
    h = k.hosting id v at mine

    within : length v.got ≤ n
    within = let r = k.replies.head in let w = k.replies.shelf.within in let e = ap length h.1.got_are in omega arith

    short : n ≤ 2 ^ 62
    short = let r = k.replies.head in let e = k.replies.short in omega arith

    go : Dec (n ≤ length v.got) → Way room s id c reply_head_word n (grasped (step slots reply_head_word 0 0 none) (v, c))
    go (yes d) = let w : LinkSight = with_reply_head v n in (
      w,
      keeps,
      tt,
      loads room s reply_head_word s.homes id w (host_steps room s k id v w s.words s.homes k.stored k.marks k.closed k.later k.seen k.given k.emptying at mine k.wide k.bytes k.marked k.replies k.parts k.loads
          (same_host room s.words k.stored k.marks (taken_in k.log) k.closed k.seen k.emptying v w refl refl refl refl refl refl refl refl refl h.1)
          (λ m. let b = k.boarding id v at m in (b.0, same_board k.stored k.closed k.log k.filling v w refl refl refl refl refl b.1)) (λ u b. b)),
      (within, short, (λ lt. absurd (omega arith)), (λ le. refl)),
    )
    go (no d) =
        let lt : length v.got < n = lt_of_not-le d in
        let e = ap length h.1.got_are in
        let next = next_reply s.words s.homes (answered_in k.log) (answered_in k.seen) k.given k.filling k.emptying k.replies (omega arith) in
        let r : Reply = next.0 in
        let spot = next_answer k.later k.seen next.1 r (ap answered_in (sym k.parts) ∙ next.3) in
        let now : List LinkStep = Answered r ∷ spot.before in
        let parts : k.log ≡ spot.later ++ now = k.parts ∙ spot.parts in
        let well : AnswersWell now = well_on spot.later now (subst AnswersWell parts k.well) in
        let loaded : AreMarks k.marks (marked_in spot.before) = marks_on spot.later now k.marks (subst (λ (z : List LinkStep). AreMarks k.marks (marked_in z)) parts k.loads) in
        let mark : Mark = next_mark spot.before in
        let out : k.emptying ≡ false = sym h.1.emptying_is ∙ idle in
        let replies = subst (λ z. Replies s.words s.homes (answered_in k.log) (answered_in k.seen) k.given k.filling z) out k.replies in
        let here : length (answered_in k.seen) % 16 ≡ i = ap (λ (l : List Reply). length l % 16) (sym h.1.got_are) in
        let at_slot : get_elem? s.homes i ≡ some (some (Some r)) = subst (λ j. get_elem? s.homes j ≡ some (some (Some r))) here (shelves.grasp_home 16 s.homes (answered_in k.log) (answered_in k.seen) k.given k.filling r k.replies.shelf next.2) in
        let got : r ∷ answered_in k.seen ≡ answered_in now = ap (λ (z : List Reply). r ∷ z) (sym spot.answered) in
        let moved = subst (λ (g : List Reply). Replies s.words (set s.homes i none) (answered_in k.log) g k.given k.filling true) got
        (subst (λ j. Replies s.words (set s.homes j none) (answered_in k.log) (r ∷ answered_in k.seen) k.given k.filling true) here (replies_grasped s.words s.homes (answered_in k.log) (answered_in k.seen) k.given k.filling r next.1 replies next.2 next.3)) in
        let text : IsReply r = text_of next.1 (answered_in k.seen) r (subst AreReplies next.3 k.replies.texts) in
        let got_now : r ∷ v.got ≡ answered_in now = ap (λ (l : List Reply). r ∷ l) h.1.got_are ∙ got in
        let greeted : v.greeted ≡ greeted_in spot.before = h.1.greeted_are ∙ sym spot.greeted in
        let greeted_now : with_greeting r mark v.greeted ≡ greeted_in now = ap (with_greeting r mark) greeted in
        let whole : k.stored ≡ k.bytes.rest ++ taken_in (spot.later ++ now) = k.bytes.fifo ∙ ap (λ (z : List LinkStep). k.bytes.rest ++ taken_in z) parts in
        let few_then : length (taken_in spot.before) ≤ length v.stored =
        (let a = ap length (h.1.stored_are ∙ whole) in let b = length-append k.bytes.rest (taken_in (spot.later ++ now)) in let d = ap length (taken_on spot.later now) in let f = length-append (taken_in spot.later) (taken_in now) in omega arith) in
        let in_time_now : AreAtMost (taken_at_banners now) (with_moment r (length v.stored) v.moments) =
        in_time_on r (length (taken_in spot.before)) (length v.stored) (taken_at_banners spot.before) v.moments few_then (subst (λ (z : List ℕ). AreAtMost z v.moments) (sym spot.moments) h.1.in_time) in
        let few : AnswersStored v.stored (r ∷ v.got) (with_greeting r mark v.greeted) =
        subst (λ (z : List ℕ × List Reply × List Mark). AnswersStored z.0 z.1 z.2) (λ j. (sym (h.1.stored_are ∙ whole) j, sym got_now j, sym greeted_now j)) (answers_stored spot.later now k.bytes.rest well) in
        let follows : is_banner r ≡ true → Follows v.marks v.greeted mark = λ q.
        subst (λ (z : List ℕ × List Mark). Follows z.0 z.1 mark) (λ j. (sym h.1.marks_are j, sym greeted j)) (next_follows k.marks spot.before r loaded well.0 q) in
        let w : LinkSight = with_got v n r mark in (
          w,
          takes i (Some r),
          at_slot,
          loads room s reply_head_word (set s.homes i none) id w (host_steps room s k id v w s.words (set s.homes i none) k.stored k.marks k.closed spot.later now k.given true at mine k.wide k.bytes k.marked moved parts k.loads
              (record { stored_are = h.1.stored_are; marks_are = h.1.marks_are; closed_is = h.1.closed_is; tail_is = h.1.tail_is; cell_is = h.1.cell_is; got_are = got_now; greeted_are = greeted_now; in_time = in_time_now; emptying_is = refl })
              (λ m. let b = k.boarding id v at m in (b.0, same_board k.stored k.closed k.log k.filling v w refl refl refl refl refl b.1)) (λ u b. b)),
          (
            within,
            short,
            (λ x. (r, mark, refl, text, few, follows)),
            (λ le. absurd (omega arith)),
          ),
        )

pub gives_back : (room slots id new i : ℕ) (v : LinkSight) → v.may_store ≡ true → v.emptying ≡ true → i ≡ (length v.got - 1) % 16 → new ≡ length v.got
    → Allows (Kept room) slots id (v, (i, None) ∷ []) reply_tail_word (λ _. new) (λ _. gave_back (step slots reply_tail_word new 0 none) (v, (i, None) ∷ []) new)
gives_back room slots id new i v mine busy place count s k size at small =
    let h = k.hosting id v at mine in
    let out : k.emptying ≡ true = sym h.1.emptying_is ∙ busy in
    let replies = subst (λ z. Replies s.words s.homes (answered_in k.log) (answered_in k.seen) k.given k.filling z) out k.replies in
    let held : length (answered_in k.seen) ≡ k.given + 1 = replies.held in
    let e : length v.got ≡ length (answered_in k.seen) = ap length h.1.got_are in
    let first : k.given ≡ length v.got - 1 = omega arith in
    let here : k.given % 16 ≡ i = ap (λ z. z % 16) first ∙ sym place in
    let moved = subst (λ j. Replies (set s.words reply_tail_word new) (set s.homes j (some None)) (answered_in k.log) (answered_in k.seen) (k.given + 1) k.filling false) here
    (replies_back s.words s.homes (answered_in k.log) (answered_in k.seen) k.given k.filling new replies k.wide (omega arith)) in
    let w : LinkSight = with_back v in (
      w,
      gives,
      tt,
      host_steps room s k id v w (set s.words reply_tail_word new) (set s.homes i (some None)) k.stored k.marks k.closed k.later k.seen (k.given + 1) false at mine (length-set s.words reply_tail_word new ∙ k.wide)
          (bytes_stay room s.words k.stored (taken_in k.log) k.closed k.bytes reply_tail_word new (omega arith) (below head_word reply_tail_word (omega arith)) (above tail_word reply_tail_word (omega arith)))
          (marks_stay s.words k.stored k.marks k.marked reply_tail_word new (above mark_word reply_tail_word (omega arith))) moved k.parts k.loads
          (let o = host_words room s.words k.stored k.marks (taken_in k.log) (taken_in k.log) k.closed k.seen k.emptying reply_tail_word new v (omega arith) (omega arith) h.1 in
          record { stored_are = o.stored_are; marks_are = o.marks_are; closed_is = o.closed_is; tail_is = o.tail_is; cell_is = o.cell_is; got_are = o.got_are; greeted_are = o.greeted_are; in_time = o.in_time; emptying_is = refl })
          (λ m. let b = k.boarding id v at m in (b.0, same_board k.stored k.closed k.log k.filling v w refl refl refl refl refl b.1)) (λ u b. b),
      refl,
    )
