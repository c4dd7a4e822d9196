-- The moments of Banners through the calls: no byte is taken before it is stored.
use Rattle.std.proofs.Common.{◌≡◌, ℕ, zero, suc, ◌+◌, ◌-◌, ◌≤◌, ◌<◌, Bool, true, false, cond, List, [], ◌∷◌, ◌++◌, length, drop, refl, sym, ap, ◌∙◌, subst, arith, length-drop}
use Rattle.std.specs.List.{AllByRecursion}
use Rattle.shared_rings.proofs.Placed.{by_bool}
use Rattle.status_report.specs.declared.Reply.{Reply}
use Rattle.status_report.specs.declared.Reply.TheVariants as replies
use Rattle.status_report.specs.Answering.{is_banner, banners_in}
use Rattle.status_report.proofs.Banners.{banners_first, banners_on}
use Rattle.serial_ring.specs.declared.view.LinkStep.{LinkStep}
use Rattle.serial_ring.specs.declared.view.LinkStep.TheVariants.{Took, Marked, Answered}
use Rattle.serial_ring.specs.Lists.{AreAtMost}
use Rattle.serial_ring.specs.Logs as link
use Rattle.serial_ring.specs.Logs.{taken_at_banners}
use Rattle.host_journal.specs.Steps.{HostLog, stored_in, stored_at_banners, got_in}
use Rattle.host_journal.specs.Steps.PortStep.{got}
use Rattle.board_journal.specs.Ports as board
use Rattle.board_journal.specs.Ports.PortStep.{answered, reported}
use Rattle.list_ports.specs.Joining.{IsInTime}

-- ---- lists

both_long : (ns ms : List ℕ) → AreAtMost ns ms → length ns ≡ length ms
both_long [] [] a = refl
both_long [] (m ∷ ms) a = absurd a
both_long (n ∷ ns) [] a = absurd a
both_long (n ∷ ns) (m ∷ ms) a = let i = both_long ns ms a.1 in omega arith

no_more : (at_answers at_got : List ℕ) → IsInTime at_answers at_got → length at_got ≤ length at_answers
no_more at_answers at_got i = let l = both_long (drop (length at_answers - length at_got) at_answers) at_got i in let d = length-drop (length at_answers - length at_got) at_answers in omega arith

-- a Banner more is answered
answered_more : (n : ℕ) (at_answers at_got : List ℕ) → IsInTime at_answers at_got → IsInTime (n ∷ at_answers) at_got
answered_more n at_answers at_got i =
    let few = no_more at_answers at_got i in
    let e : suc (length at_answers - length at_got) ≡ length (n ∷ at_answers) - length at_got = omega arith in
    subst (λ (k : ℕ). AreAtMost (drop k (n ∷ at_answers)) at_got) e i

-- one more is got, when all that was taken is stored
one_behind : (k : ℕ) (xs : List ℕ) (n : ℕ) → k < length xs → AllByRecursion (λ x. x ≤ n) xs → (y : ℕ) × (drop k xs ≡ y ∷ drop (k + 1) xs) × (y ≤ n)
one_behind k [] n less all = absurd (omega arith)
one_behind zero (x ∷ xs) n less all = (x, refl, all.0)
one_behind (suc k) (x ∷ xs) n less all =
    let i = one_behind k xs n (omega arith) all.1 in
    let e : suc (k + 1) ≡ suc k + 1 = omega arith in
    (i.0, i.1 ∙ ap (λ (j : ℕ). i.0 ∷ drop j (x ∷ xs)) e, i.2)

got_more : (n : ℕ) (at_answers at_got : List ℕ) → AllByRecursion (λ x. x ≤ n) at_answers → length at_got < length at_answers → IsInTime at_answers at_got → IsInTime at_answers (n ∷ at_got)
got_more n at_answers at_got all less i =
    let k = length at_answers - length (n ∷ at_got) in
    let b = one_behind k at_answers n (omega arith) all in
    let next : k + 1 ≡ length at_answers - length at_got = omega arith in
    subst (λ (xs : List ℕ). AreAtMost xs (n ∷ at_got)) (sym b.1) (b.2, subst (λ (j : ℕ). AreAtMost (drop j at_answers) at_got) (sym next) i)

-- ---- of the board

weaken : (n m : ℕ) (xs : List ℕ) → n ≤ m → AllByRecursion (λ x. x ≤ n) xs → AllByRecursion (λ x. x ≤ m) xs
weaken n m [] le all = tt
weaken n m (x ∷ xs) le all = (let a = all.0 in omega arith, weaken n m xs le all.1)

moments_below : (l : List LinkStep) → AllByRecursion (λ x. x ≤ length (link.taken_in l)) (taken_at_banners l)
moments_below [] = tt
moments_below (Took b ∷ l) = weaken (length (link.taken_in l)) (length (link.taken_in (Took b ∷ l))) (taken_at_banners l) (omega arith) (moments_below l)
moments_below (Marked number bytes ∷ l) = moments_below l
moments_below (Answered r ∷ l) = by_banner (is_banner r) (moments_below l)
  where
    by_banner : (t : Bool) → AllByRecursion (λ x. x ≤ length (link.taken_in l)) (taken_at_banners l) → AllByRecursion (λ x. x ≤ length (link.taken_in l)) (cond t (length (link.taken_in l) ∷ taken_at_banners l) (taken_at_banners l))
    by_banner true i = (omega arith, i)
    by_banner false i = i

one_more : (r : Reply) (n : ℕ) (ns : List ℕ) (rs : List Reply) → length ns ≡ banners_in rs → length (cond (is_banner r) (n ∷ ns) ns) ≡ banners_in (rs ++ r ∷ [])
one_more r n ns rs e = let a = banners_on rs (r ∷ []) in let b = banners_first r [] in by_banner (is_banner r) (omega arith)
  where
    by_banner : (t : Bool) → banners_in (rs ++ r ∷ []) ≡ banners_in rs + cond t 1 0 → length (cond t (n ∷ ns) ns) ≡ banners_in (rs ++ r ∷ [])
    by_banner true f = omega arith
    by_banner false f = omega arith

answers_count : (l : board.BoardLog) → length (taken_at_banners (board.link_steps l)) ≡ banners_in (board.answered_in l)
answers_count [] = refl
answers_count (answered r ∷ l) = one_more r (length (link.taken_in (board.link_steps l))) (taken_at_banners (board.link_steps l)) (board.answered_in l) (answers_count l)
answers_count (reported r ∷ l) = one_more (replies.Report r) (length (link.taken_in (board.link_steps l))) (taken_at_banners (board.link_steps l)) (board.answered_in l) (answers_count l)
answers_count (_ ∷ l) = answers_count l

got_count : (h : HostLog) → length (stored_at_banners h) ≡ banners_in (got_in h)
got_count [] = refl
got_count (got r ∷ h) = one_more r (length (stored_in h)) (stored_at_banners h) (got_in h) (got_count h)
got_count (_ ∷ h) = got_count h

-- ---- the calls

pub reply_answered : (r : Reply) (taken : ℕ) (at_answers at_got : List ℕ) → IsInTime at_answers at_got → IsInTime (cond (is_banner r) (taken ∷ at_answers) at_answers) at_got
reply_answered r taken at_answers at_got i = by_bool (is_banner r) (λ b. rw b (answered_more taken at_answers at_got i)) (λ b. rw b i)

pub reply_got : (r : Reply) (ws : List Reply) (host : HostLog) (l : board.BoardLog) → board.answered_in l ≡ got_in host ++ r ∷ ws → length (link.taken_in (board.link_steps l)) ≤ length (stored_in host)
    → IsInTime (taken_at_banners (board.link_steps l)) (stored_at_banners host) → IsInTime (taken_at_banners (board.link_steps l)) (stored_at_banners (got r ∷ host))
reply_got r ws host l fifo all i = by_bool (is_banner r)
    (λ b.
    let n = answers_count l in let m = got_count host in let f = ap banners_in fifo in let a = banners_on (got_in host) (r ∷ ws) in let o = banners_first r ws in
    let t = ap (λ (x : Bool). cond {A = ℕ} x 1 0) b in
    rw b (got_more (length (stored_in host)) (taken_at_banners (board.link_steps l)) (stored_at_banners host)
    (weaken (length (link.taken_in (board.link_steps l))) (length (stored_in host)) (taken_at_banners (board.link_steps l)) all (moments_below (board.link_steps l))) (omega arith) i))
    (λ b. rw b i)
