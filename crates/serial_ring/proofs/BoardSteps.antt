-- Each step of the board keeps the rule.
use Rattle.std.proofs.Common.{◌≡◌, ℕ, ◌+◌, ◌%◌, ◌^◌, ◌<◌, ◌≤◌, Bool, true, false, List, [], ◌∷◌, ◌++◌, length, get_or, set, Some, None, sym, refl, ap, ◌∙◌, subst, arith, lt_of_not-le, length-set, length-append}
use Rattle.std.specs.declared.option.Option.{Option}
use mathlib.Core.Option.{none, some}
use native.Mathlib.Decide.{dec_le, ℕ_discrete}
use lib.ListN.{get_elem?}
use Rattle.atomic_table.specs.Table.{step, Allows}
use Rattle.atomic_table.specs.Table.Act.{keeps, takes, gives}
use Rattle.shared_rings.specs.Placed.{placed}
use Rattle.shared_rings.proofs.Placed.{placed_below, some_placed, by_bool}
use Rattle.shared_rings.proofs.Shelf as shelves
use Rattle.status_report.specs.declared.Reply.{Reply}
use Rattle.serial_ring.specs.declared.view.LinkSight.{LinkSight}
use Rattle.serial_ring.specs.declared.view.LinkStep.{LinkStep}
use Rattle.serial_ring.specs.declared.view.LinkStep.TheVariants.{Took, Marked, Answered}
use Rattle.serial_ring.specs.Marks.{Mark, MarkedPast, IsMark, latest, last_of, number_in, bytes_in}
use Rattle.serial_ring.specs.Logs.{MayAnswer, taken_in, marked_in, answered_in}
use Rattle.serial_ring.specs.Rule.{Kept, Replies, Hosts, Boards, head_word, mark_word, tail_word, reply_head_word, reply_tail_word, cell_of, top_if, with_head, with_over, with_read, with_taken, with_marked, with_reply_tail, with_slot, with_answered, shut, saw_head, saw_mark, looked, took, reached, gave}
use Rattle.serial_ring.proofs.Marking.{none_yet, latest_is, mark_within, last_is, past_below, number_back, bytes_back, marks_stay}
use Rattle.serial_ring.proofs.Bytes.{below, above, long, bytes_stay, bytes_taken}
use Rattle.serial_ring.proofs.Replies.{replies_stay, replies_reached, replies_given}
use Rattle.serial_ring.proofs.Frames.{Hand, after, Way, loads, board_steps, same_board, same_host, host_words}

-- the host, while a byte more is taken, knows no less
pub host_later : (room : ℕ) (words stored marks taken : List ℕ) (b : ℕ) (closed : Bool) (seen : List LinkStep) (emptying : Bool) (new : ℕ) (u : LinkSight) → Hosts room words stored marks taken closed seen emptying u → Hosts room (set words tail_word new) stored marks (b ∷ taken) closed seen emptying u
host_later room words stored marks taken b closed seen emptying new u h = host_words room words stored marks taken (b ∷ taken) closed seen emptying tail_word new u (omega arith) (omega arith) h

top_word : (n l : ℕ) (closed : Bool) → n ≡ l + top_if closed → l ≤ 2 ^ 31 → (n % 2 ^ 63 ≡ l) × (n < 2 ^ 64)
top_word n l true e few = (omega arith, omega arith)
top_word n l false e few = (omega arith, omega arith)

over_word : (n l t : ℕ) (closed : Bool) → n ≡ l + top_if closed → l ≤ 2 ^ 31 → t ≤ l → n ≡ t + 2 ^ 63 → (closed ≡ true) × (l ≡ t)
over_word n l t true e few le o = (refl, omega arith)
over_word n l t false e few le o = absurd (omega arith)

all_taken : (stored rest taken : List ℕ) → stored ≡ rest ++ taken → length stored ≡ length taken → stored ≡ taken
all_taken stored [] taken e l = e
all_taken stored (b ∷ rest) taken e l = absurd (let m = ap length e in let a = length-append rest taken in omega arith)

pub sees_head : (room slots id : ℕ) (v : LinkSight) (c : Hand) → v.may_take ≡ true → Allows (Kept room) slots id (v, c) head_word (λ n. n) (saw_head room (step slots head_word 0 0 none) (v, c))
sees_head room slots id v c mine s k size at small = go (ℕ_discrete (get_or s.words head_word 0) (length (taken_in v.log) + 2 ^ 63))
  where
    n : ℕ
    n = get_or s.words head_word 0

    b : (id ≡ k.board) × Boards k.stored k.closed k.log k.filling v
    b = k.boarding id v at mine

    e : length (taken_in v.log) ≡ length (taken_in k.log)
    e = ap length (ap taken_in b.1.log_is)

    word : (n % 2 ^ 63 ≡ length k.stored) × (n < 2 ^ 64)
    word = top_word n (length k.stored) k.closed k.bytes.head k.bytes.short

    l : length k.stored ≡ length k.bytes.rest + length (taken_in k.log)
    l = long room s.words k.stored (taken_in k.log) k.closed k.bytes

    low : length (taken_in v.log) ≤ n % 2 ^ 63
    low = let x = l in let y = e in let z = word.0 in omega arith

    high : n % 2 ^ 63 ≤ length (taken_in v.log) + room
    high = let x = l in let y = e in let z = word.0 in let f = k.bytes.few in omega arith

    few : n % 2 ^ 63 ≤ 2 ^ 31
    few = let z = word.0 in let f = k.bytes.short in omega arith

    kept : (w : LinkSight) → Boards k.stored k.closed k.log k.filling w → w.may_store ≡ v.may_store → w.stored ≡ v.stored → w.marks ≡ v.marks → w.closed ≡ v.closed → w.tail ≡ v.tail → w.cell ≡ v.cell → w.got ≡ v.got → w.greeted ≡ v.greeted → w.moments ≡ v.moments → w.emptying ≡ v.emptying
        → Kept room (after (set s.words head_word n) s.homes s.views id w)
    kept w knows same p x q r o a g t f = loads room s head_word s.homes id w (board_steps room s k id v w s.words s.homes k.log k.later k.filling at mine k.wide k.bytes k.marked k.replies k.parts k.loads k.well knows
        (λ m. let h = k.hosting id v at (sym same ∙ m) in (h.0, same_host room s.words k.stored k.marks (taken_in k.log) k.closed k.seen k.emptying v w p x q r o a g t f h.1)) (λ u h. h))

    -- the bytes of marks are stored
    past : (m : ℕ) → MarkedPast m (marked_in v.log) → m < n % 2 ^ 63
    past m there = let z = word.0 in let x = k.marked.within in let y = past_below m k.marks (marked_in k.log) k.marked.rising k.loads (subst (λ (l : List LinkStep). MarkedPast m (marked_in l)) b.1.log_is there) in omega arith

    -- what was found closed is closed
    closed_word : (shut : Bool) → shut ≡ true → length k.stored ≡ length (taken_in k.log) → k.closed ≡ shut → n ≡ length (taken_in v.log) + 2 ^ 63
    closed_word shut is all same = let w = k.bytes.head ∙ ap (λ z. length k.stored + top_if z) (same ∙ is) in let y = e in omega arith

    go : Dec (n ≡ length (taken_in v.log) + 2 ^ 63) → Way room s id c head_word n (saw_head room (step slots head_word 0 0 none) (v, c))
    go (yes d) =
        let o = over_word n (length k.stored) (length (taken_in v.log)) k.closed k.bytes.head k.bytes.short (let x = l in let y = e in omega arith) d in
        let whole : k.stored ≡ (taken_in k.log) = all_taken k.stored k.bytes.rest (taken_in k.log) k.bytes.fifo (o.1 ∙ e) in (
          with_over v (n % 2 ^ 63),
          keeps,
          tt,
          kept (with_over v (n % 2 ^ 63)) (record { log_is = b.1.log_is; head_is = (let z = word.0 in omega arith); read_is = b.1.read_is; over_is = λ q. (o.0, whole); filling_is = b.1.filling_is })
              refl refl refl refl refl refl refl refl refl refl,
          (low, high, few, word.1, (λ q. refl), (λ q. absurd (q d)), past),
        )
    go (no d) = (
      with_head v (n % 2 ^ 63),
      keeps,
      tt,
      kept (with_head v (n % 2 ^ 63)) (record { log_is = b.1.log_is; head_is = (let z = word.0 in omega arith); read_is = b.1.read_is; over_is = b.1.over_is; filling_is = b.1.filling_is })
          refl refl refl refl refl refl refl refl refl refl,
      (low, high, few, word.1, (λ q. absurd (d q)), (λ q. (refl, by_bool v.over (λ o. absurd (let z = b.1.over_is o in d (closed_word k.closed z.0 (ap length z.1) refl))) (λ o. o))), past),
    )

pub looks : (room slots id i : ℕ) (v : LinkSight) (c : Hand) → v.may_take ≡ true → i ≡ cell_of room (length (taken_in v.log)) → length (taken_in v.log) < v.head
    → Allows (Kept room) slots id (v, c) i (λ n. n) (looked (step slots i 0 0 none) (v, c))
looks room slots id i v c mine place more s k size at small =
    let b = k.boarding id v at mine in
    let n : ℕ = get_or s.words i 0 in
    let e : length (taken_in v.log) ≡ length (taken_in k.log) = ap length (ap taken_in b.1.log_is) in
    let here : i ≡ cell_of room (length (taken_in k.log)) = place ∙ ap (cell_of room) e in
    let found = some_placed k.stored (length (taken_in k.log)) (let x : v.head ≤ length k.stored = b.1.head_is in omega arith) in
    let is : n ≡ found.0 = ap (λ m. get_or s.words m 0) here ∙ k.bytes.cells (length (taken_in k.log)) found.0 found.1 (omega arith) in
    let byte : found.0 < 256 = k.bytes.small (length (taken_in k.log)) found.0 found.1 in
    let w : LinkSight = with_read v n in (
      w,
      keeps,
      tt,
      loads room s i s.homes id w (board_steps room s k id v w s.words s.homes k.log k.later k.filling at mine k.wide k.bytes k.marked k.replies k.parts k.loads k.well
          (record {
            log_is = b.1.log_is;
            head_is = b.1.head_is;
            read_is = λ z q. let nz : n ≡ z = cc in found.1 ∙ ap (λ y. some y) (sym is ∙ nz);
            over_is = b.1.over_is;
            filling_is = b.1.filling_is;
          })
          (λ m. let h = k.hosting id v at m in (h.0, same_host room s.words k.stored k.marks (taken_in k.log) k.closed k.seen k.emptying v w refl refl refl refl refl refl refl refl refl h.1)) (λ u h. h)),
      (refl, omega arith),
    )

pub takes_byte : (room slots id x new : ℕ) (v : LinkSight) (c : Hand) → v.may_take ≡ true → v.read ≡ Some x → new ≡ length (taken_in v.log) + 1
    → Allows (Kept room) slots id (v, c) tail_word (λ _. new) (λ _. took (step slots tail_word new 0 none) (v, c) new)
takes_byte room slots id x new v c mine read count s k size at small =
    let b = k.boarding id v at mine in
    let e : length (taken_in v.log) ≡ length (taken_in k.log) = ap length (ap taken_in b.1.log_is) in
    let there : placed k.stored (length (taken_in k.log)) ≡ some x = b.1.read_is x read in
    let low : length (taken_in k.log) < length k.stored = placed_below k.stored (length (taken_in k.log)) x there in
    let w : LinkSight = with_taken v x in (
      w,
      keeps,
      tt,
      board_steps room s k id v w (set s.words tail_word new) s.homes (Took x ∷ k.log) (Took x ∷ k.later) k.filling at mine (length-set s.words tail_word new ∙ k.wide)
          (bytes_taken room s.words k.stored (taken_in k.log) k.closed k.bytes new x k.wide there (count ∙ ap (λ n. n + 1) e))
          (marks_stay s.words k.stored k.marks k.marked tail_word new (below mark_word tail_word (omega arith)))
          (replies_stay s.words s.homes (answered_in k.log) (answered_in k.seen) k.given k.filling k.emptying k.replies tail_word new (above reply_head_word tail_word (omega arith)) (below reply_tail_word tail_word (omega arith)))
          (ap (λ (z : List LinkStep). Took x ∷ z) k.parts) k.loads k.well
          (record {
            log_is = ap (λ (z : List LinkStep). Took x ∷ z) b.1.log_is;
            head_is = b.1.head_is;
            read_is = λ z q. absurd cc;
            over_is = λ q. absurd (let o = b.1.over_is q in let l = ap length o.1 in omega arith);
            filling_is = b.1.filling_is;
          })
          (λ m. let h = k.hosting id v at m in (h.0, host_later room s.words k.stored k.marks (taken_in k.log) x k.closed k.seen k.emptying new w (same_host room s.words k.stored k.marks (taken_in k.log) k.closed k.seen k.emptying v w refl refl refl refl refl refl refl refl refl h.1)))
          (λ u h. host_later room s.words k.stored k.marks (taken_in k.log) x k.closed k.seen k.emptying new u h),
      λ z q. let xz : x ≡ z = cc in ap (λ n. (with_taken v n, c)) xz,
    )

pub sees_mark : (room slots id : ℕ) (v : LinkSight) (c : Hand) → v.may_take ≡ true → Allows (Kept room) slots id (v, c) mark_word (λ n. n) (saw_mark (step slots mark_word 0 0 none) (v, c))
sees_mark room slots id v c mine s k size at small =
    let b = k.boarding id v at mine in
    let n : ℕ = get_or s.words mark_word 0 in
    let within = k.marked.within in
    let short = k.bytes.short in
    let number : number_in n ≡ length k.marks = ap number_in k.marked.word ∙ number_back (length k.marks) (latest k.marks) (omega arith) in
    let bytes : bytes_in n ≡ latest k.marks = ap bytes_in k.marked.word ∙ bytes_back (length k.marks) (latest k.marks) (omega arith) in
    let is = subst (λ (z : Mark). IsMark k.marks z) (λ i. (sym number i, sym bytes i)) (latest_is k.marks) in
    let new : LinkStep = Marked (number_in n) (bytes_in n) in
    let last : (last_of (marked_in v.log)).0 ≤ number_in n =
    (let l = mark_within k.marks (last_of (marked_in k.log)) k.marked.rising (last_is k.marks (marked_in k.log) k.loads) in let e = ap (λ (z : List LinkStep). (last_of (marked_in z)).0) b.1.log_is in omega arith) in
    let w : LinkSight = with_marked v (number_in n) (bytes_in n) in (
      w,
      keeps,
      tt,
      loads room s mark_word s.homes id w (board_steps room s k id v w s.words s.homes (new ∷ k.log) (new ∷ k.later) k.filling at mine k.wide k.bytes k.marked k.replies
          (ap (λ (z : List LinkStep). new ∷ z) k.parts) (is, k.loads) k.well
          (record {
            log_is = ap (λ (z : List LinkStep). new ∷ z) b.1.log_is;
            head_is = b.1.head_is;
            read_is = b.1.read_is;
            over_is = b.1.over_is;
            filling_is = b.1.filling_is;
          })
          (λ m. let h = k.hosting id v at m in (h.0, same_host room s.words k.stored k.marks (taken_in k.log) k.closed k.seen k.emptying v w refl refl refl refl refl refl refl refl refl h.1)) (λ u h. h)),
      (refl, last, (λ e. bytes ∙ none_yet k.marks (sym number ∙ e))),
    )

pub reaches : (room slots id : ℕ) (v : LinkSight) (c : Hand) → v.may_take ≡ true → v.filling ≡ false → Allows (Kept room) slots id (v, c) reply_tail_word (λ n. n) (reached (step slots reply_tail_word 0 0 none) (v, c))
reaches room slots id v c mine idle s k size at small = go (dec_le (get_or s.words reply_tail_word 0 + 16) (length (answered_in v.log)))
  where
    n : ℕ
    n = get_or s.words reply_tail_word 0

    i : ℕ
    i = length (answered_in v.log) % 16

    b : (id ≡ k.board) × Boards k.stored k.closed k.log k.filling v
    b = k.boarding id v at mine

    tail : n ≡ k.given
    tail = k.replies.tail

    within : n ≤ length (answered_in v.log)
    within = let t = tail in let e = ap length (ap answered_in b.1.log_is) in let x = k.replies.shelf.back in let y = k.replies.shelf.within in omega arith

    few : length (answered_in v.log) ≤ n + 16
    few = let t = tail in let e = ap length (ap answered_in b.1.log_is) in let x = k.replies.shelf.few in omega arith

    go : Dec (n + 16 ≤ length (answered_in v.log)) → Way room s id c reply_tail_word n (reached (step slots reply_tail_word 0 0 none) (v, c))
    go (yes d) = let w : LinkSight = with_reply_tail v n in (
      w,
      keeps,
      tt,
      loads room s reply_tail_word s.homes id w (board_steps room s k id v w s.words s.homes k.log k.later k.filling at mine k.wide k.bytes k.marked k.replies k.parts k.loads k.well
          (same_board k.stored k.closed k.log k.filling v w refl refl refl refl refl b.1)
          (λ m. let h = k.hosting id v at m in (h.0, same_host room s.words k.stored k.marks (taken_in k.log) k.closed k.seen k.emptying v w refl refl refl refl refl refl refl refl refl h.1)) (λ u h. h)),
      (within, few, (λ lt. absurd (omega arith)), (λ le. refl)),
    )
    go (no d) =
        let lt : length (answered_in v.log) < n + 16 = lt_of_not-le d in
        let t = tail in
        let e = ap length (ap answered_in b.1.log_is) in
        let empty : k.filling ≡ false = sym b.1.filling_is ∙ idle in
        let replies = subst (λ z. Replies s.words s.homes (answered_in k.log) (answered_in k.seen) k.given z k.emptying) empty k.replies in
        let space : length (answered_in k.log) < k.given + 16 = omega arith in
        let here : length (answered_in k.log) % 16 ≡ i = ap (λ (l : List Reply). length l % 16) (sym (ap answered_in b.1.log_is)) in
        let at_slot : get_elem? s.homes i ≡ some (some None) = subst (λ j. get_elem? s.homes j ≡ some (some None)) here (shelves.reach_home 16 s.homes (answered_in k.log) (answered_in k.seen) k.given replies.shelf space) in
        let moved = subst (λ j. Replies s.words (set s.homes j none) (answered_in k.log) (answered_in k.seen) k.given true k.emptying) here (replies_reached s.words s.homes (answered_in k.log) (answered_in k.seen) k.given k.emptying replies space) in
        let w : LinkSight = with_slot v n in (
          w,
          takes i None,
          at_slot,
          loads room s reply_tail_word (set s.homes i none) id w (board_steps room s k id v w s.words (set s.homes i none) k.log k.later true at mine k.wide k.bytes k.marked moved k.parts k.loads k.well
              (record { log_is = b.1.log_is; head_is = b.1.head_is; read_is = b.1.read_is; over_is = b.1.over_is; filling_is = refl })
              (λ m. let h = k.hosting id v at m in (h.0, same_host room s.words k.stored k.marks (taken_in k.log) k.closed k.seen k.emptying v w refl refl refl refl refl refl refl refl refl h.1)) (λ u h. h)),
          (within, few, (λ q. refl), (λ q. absurd (omega arith))),
        )

pub answers : (room slots id new i : ℕ) (v : LinkSight) (r : Reply) → v.may_take ≡ true → v.filling ≡ true → i ≡ length (answered_in v.log) % 16 → MayAnswer v.log r → new ≡ length (answered_in v.log) + 1
    → Allows (Kept room) slots id (v, (i, Some r) ∷ []) reply_head_word (λ _. new) (λ _. gave (step slots reply_head_word new 0 none) (v, (i, Some r) ∷ []) new)
answers room slots id new i v r mine busy place may count s k size at small =
    let b = k.boarding id v at mine in
    let e = ap length (ap answered_in b.1.log_is) in
    let full : k.filling ≡ true = sym b.1.filling_is ∙ busy in
    let replies = subst (λ z. Replies s.words s.homes (answered_in k.log) (answered_in k.seen) k.given z k.emptying) full k.replies in
    let here : length (answered_in k.log) % 16 ≡ i = ap (λ (l : List Reply). length l % 16) (sym (ap answered_in b.1.log_is)) ∙ sym place in
    let moved = subst (λ j. Replies (set s.words reply_head_word new) (set s.homes j (some (Some r))) (r ∷ (answered_in k.log)) (answered_in k.seen) k.given false k.emptying) here
    (replies_given s.words s.homes (answered_in k.log) (answered_in k.seen) k.given k.emptying r new replies k.wide may.text (let f = may.few in omega arith) (count ∙ ap (λ n. n + 1) e)) in
    let w : LinkSight = with_answered v r in (
      w,
      gives,
      tt,
      board_steps room s k id v w (set s.words reply_head_word new) (set s.homes i (some (Some r))) (Answered r ∷ k.log) (Answered r ∷ k.later) false at mine (length-set s.words reply_head_word new ∙ k.wide)
          (bytes_stay room s.words k.stored (taken_in k.log) k.closed k.bytes reply_head_word new (omega arith) (below head_word reply_head_word (omega arith)) (below tail_word reply_head_word (omega arith)))
          (marks_stay s.words k.stored k.marks k.marked reply_head_word new (below mark_word reply_head_word (omega arith))) moved
          (ap (λ (z : List LinkStep). Answered r ∷ z) k.parts) k.loads (subst (λ (l : List LinkStep). MayAnswer l r) b.1.log_is may, k.well)
          (record { log_is = ap (λ (l : List LinkStep). Answered r ∷ l) b.1.log_is; head_is = b.1.head_is; read_is = b.1.read_is; over_is = b.1.over_is; filling_is = refl })
          (λ m. let h = k.hosting id v at m in (h.0, host_words room s.words k.stored k.marks (taken_in k.log) (taken_in k.log) k.closed k.seen k.emptying reply_head_word new w (omega arith) (omega arith) (same_host room s.words k.stored k.marks (taken_in k.log) k.closed k.seen k.emptying v w refl refl refl refl refl refl refl refl refl h.1)))
          (λ u h. host_words room s.words k.stored k.marks (taken_in k.log) (taken_in k.log) k.closed k.seen k.emptying reply_head_word new u (omega arith) (omega arith) h),
      λ m q z. let pair : (i, Some r) ≡ (m, Some q) = cc in let both : Some r ≡ Some q = ap (λ (x : ℕ × Option Reply). x.1) pair in let rq : r ≡ q = cc in ap (λ (x : Reply). (with_answered v x, [])) rq,
    )
