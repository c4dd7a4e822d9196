-- What a board has done, and what of it the host knows.
use Rattle.std.proofs.Common.{◌≡◌, ℕ, ◌+◌, ◌<◌, ◌≤◌, Bool, true, false, cond, nat_eq, List, [], ◌∷◌, ◌++◌, length, refl, sym, ap, ◌∙◌, subst, arith, length-append}
use Rattle.shared_rings.proofs.Placed.{by_bool}
use Rattle.status_report.specs.declared.Reply.{Reply}
use Rattle.status_report.specs.declared.Reply.TheVariants.{Banner, Ok, Error, Alarm, Message, Report, Setting, Modes, Offset, Bye}
use Rattle.status_report.specs.Answering.{lfs_in, is_answer, is_banner}
use Rattle.status_report.proofs.Answered.{lfs_first}
use Rattle.serial_ring.specs.declared.view.LinkStep.{LinkStep}
use Rattle.serial_ring.specs.declared.view.LinkStep.TheVariants.{Took, Marked, Answered}
use Rattle.serial_ring.specs.Marks.{Mark, AreMarks, last_of, Follows}
use Rattle.serial_ring.specs.Lists.{since, answers_behind_mark, behind_mark, since_lf, maybe_unread, AnswersStored, AreAtMost, with_greeting, with_moment}
use Rattle.serial_ring.specs.Logs.{taken_in, marked_in, answered_in, has_greeted, next_mark, greeted_in, taken_at_banners, answers_since, lfs_since, MayAnswer, AnswersWell}
use Rattle.serial_ring.proofs.Lists.{stands, since_on, unread_behind, more_lfs}
use Rattle.serial_ring.proofs.Marking.{last_is}

-- ---- a log and an earlier one

pub taken_on : (later seen : List LinkStep) → taken_in (later ++ seen) ≡ taken_in later ++ taken_in seen
taken_on [] seen = refl
taken_on (Took b ∷ l) seen = ap (λ z. b ∷ z) (taken_on l seen)
taken_on (Marked n bytes ∷ l) seen = taken_on l seen
taken_on (Answered r ∷ l) seen = taken_on l seen

pub answered_on : (later seen : List LinkStep) → answered_in (later ++ seen) ≡ answered_in later ++ answered_in seen
answered_on [] seen = refl
answered_on (Took b ∷ l) seen = answered_on l seen
answered_on (Marked n bytes ∷ l) seen = answered_on l seen
answered_on (Answered r ∷ l) seen = ap (λ (z : List Reply). r ∷ z) (answered_on l seen)

pub well_on : (later seen : List LinkStep) → AnswersWell (later ++ seen) → AnswersWell seen
well_on [] seen w = w
well_on (Took b ∷ l) seen w = well_on l seen w
well_on (Marked n bytes ∷ l) seen w = well_on l seen w
well_on (Answered r ∷ l) seen w = well_on l seen w.1

pub marks_on : (later seen : List LinkStep) (marks : List ℕ) → AreMarks marks (marked_in (later ++ seen)) → AreMarks marks (marked_in seen)
marks_on [] seen marks are = are
marks_on (Took b ∷ l) seen marks are = marks_on l seen marks are
marks_on (Marked n bytes ∷ l) seen marks are = marks_on l seen marks are.1
marks_on (Answered r ∷ l) seen marks are = marks_on l seen marks are

greeted_step : (r : Reply) (m : Mark) (more rest earlier : List Mark) → more ≡ rest ++ earlier → (new : List Mark) × (with_greeting r m more ≡ new ++ earlier)
greeted_step r m more rest earlier e = by_bool (is_banner r)
    (λ b. (m ∷ rest, rw b (ap (λ (z : List Mark). m ∷ z) e)))
    (λ b. (rest, rw b e))

pub greeted_on : (later seen : List LinkStep) → (new : List Mark) × (greeted_in (later ++ seen) ≡ new ++ greeted_in seen)
greeted_on [] seen = ([], refl)
greeted_on (Took b ∷ l) seen = greeted_on l seen
greeted_on (Marked n bytes ∷ l) seen = greeted_on l seen
greeted_on (Answered r ∷ l) seen = let i = greeted_on l seen in greeted_step r (next_mark (l ++ seen)) (greeted_in (l ++ seen)) i.0 (greeted_in seen) i.1

-- no reply was answered since
same_greeted : (later seen : List LinkStep) → answered_in (later ++ seen) ≡ answered_in seen → greeted_in (later ++ seen) ≡ greeted_in seen
same_greeted [] seen e = refl
same_greeted (Took b ∷ l) seen e = same_greeted l seen e
same_greeted (Marked n bytes ∷ l) seen e = same_greeted l seen e
same_greeted (Answered r ∷ l) seen e = absurd (let n = ap length e in let m = ap length (answered_on l seen) in let k = length-append (answered_in l) (answered_in seen) in omega arith)

-- ---- the moments of Banners

moment_step : (r : Reply) (n : ℕ) (more rest earlier : List ℕ) → more ≡ rest ++ earlier → (new : List ℕ) × (cond (is_banner r) (n ∷ more) more ≡ new ++ earlier)
moment_step r n more rest earlier e = by_bool (is_banner r)
    (λ b. (n ∷ rest, rw b (ap (λ (z : List ℕ). n ∷ z) e)))
    (λ b. (rest, rw b e))

pub moments_on : (later seen : List LinkStep) → (new : List ℕ) × (taken_at_banners (later ++ seen) ≡ new ++ taken_at_banners seen)
moments_on [] seen = ([], refl)
moments_on (Took b ∷ l) seen = moments_on l seen
moments_on (Marked n bytes ∷ l) seen = moments_on l seen
moments_on (Answered r ∷ l) seen = let i = moments_on l seen in moment_step r (length (taken_in (l ++ seen))) (taken_at_banners (l ++ seen)) i.0 (taken_at_banners seen) i.1

-- no reply was answered since
same_moments : (later seen : List LinkStep) → answered_in (later ++ seen) ≡ answered_in seen → taken_at_banners (later ++ seen) ≡ taken_at_banners seen
same_moments [] seen e = refl
same_moments (Took b ∷ l) seen e = same_moments l seen e
same_moments (Marked n bytes ∷ l) seen e = same_moments l seen e
same_moments (Answered r ∷ l) seen e = absurd (let n = ap length e in let m = ap length (answered_on l seen) in let k = length-append (answered_in l) (answered_in seen) in omega arith)

-- a reply is got, when no fewer bytes are stored than were taken as it was answered
pub in_time_on : (r : Reply) (taken stored : ℕ) (before moments : List ℕ) → taken ≤ stored → AreAtMost before moments → AreAtMost (cond (is_banner r) (taken ∷ before) before) (with_moment r stored moments)
in_time_on r taken stored before moments le are = by_bool (is_banner r) (λ b. rw b (le, are)) (λ b. rw b are)

-- the reply after those that are got
pub record IsNext (log : List LinkStep) (seen : List LinkStep) (r : Reply) : Type 0 where
  pub later : List LinkStep
  pub before : List LinkStep
  pub parts : log ≡ later ++ Answered r ∷ before
  pub answered : answered_in before ≡ answered_in seen
  pub greeted : greeted_in before ≡ greeted_in seen
  pub moments : taken_at_banners before ≡ taken_at_banners seen

next_behind : (e : LinkStep) (log seen : List LinkStep) (r : Reply) → IsNext log seen r → IsNext (e ∷ log) seen r
next_behind e log seen r n = record { later = e ∷ n.later; before = n.before; parts = ap (λ (z : List LinkStep). e ∷ z) n.parts; answered = n.answered; greeted = n.greeted; moments = n.moments }

next_here : (rest : List Reply) (x r : Reply) (l seen : List LinkStep) → x ∷ answered_in (l ++ seen) ≡ rest ++ r ∷ answered_in seen
    → ((others : List Reply) → answered_in (l ++ seen) ≡ others ++ r ∷ answered_in seen → IsNext (l ++ seen) seen r) → IsNext (Answered x ∷ (l ++ seen)) seen r
next_here [] x r l seen e on =
    let xr : x ≡ r = cc in
    let same : answered_in (l ++ seen) ≡ answered_in seen = cc in
    record { later = []; before = l ++ seen; parts = ap (λ (z : Reply). Answered z ∷ (l ++ seen)) xr; answered = same; greeted = same_greeted l seen same; moments = same_moments l seen same }
next_here (y ∷ rest) x r l seen e on =
    let same : answered_in (l ++ seen) ≡ rest ++ r ∷ answered_in seen = cc in
    next_behind (Answered x) (l ++ seen) seen r (on rest same)

pub next_answer : (later seen : List LinkStep) (rest : List Reply) (r : Reply) → answered_in (later ++ seen) ≡ rest ++ r ∷ answered_in seen → IsNext (later ++ seen) seen r
next_answer [] seen rest r e = absurd (let n = ap length e in let k = length-append rest (r ∷ answered_in seen) in omega arith)
next_answer (Took b ∷ l) seen rest r e = next_behind (Took b) (l ++ seen) seen r (next_answer l seen rest r e)
next_answer (Marked n bytes ∷ l) seen rest r e = next_behind (Marked n bytes) (l ++ seen) seen r (next_answer l seen rest r e)
next_answer (Answered x ∷ l) seen rest r e = next_here rest x r l seen e (λ others same. next_answer l seen others r same)

-- ---- Banners and their marks

no_answer : (r : Reply) → is_banner r ≡ true → is_answer r ≡ false
no_answer Banner e = refl
no_answer Ok e = absurd cc
no_answer (Error n) e = absurd cc
no_answer (Alarm n) e = refl
no_answer (Message m) e = refl
no_answer (Report m) e = refl
no_answer (Setting n v) e = refl
no_answer (Modes m) e = refl
no_answer (Offset n p) e = refl
no_answer Bye e = refl

pub greeted_none : (l : List LinkStep) → has_greeted l ≡ false → greeted_in l ≡ []
greeted_none [] e = refl
greeted_none (Took b ∷ l) e = greeted_none l e
greeted_none (Marked n bytes ∷ l) e = greeted_none l e
greeted_none (Answered r ∷ l) e = by_bool (is_banner r) (λ b. absurd (let f = rw b at e in cc)) (λ b. let f = rw b at e in rw b (greeted_none l f))

pub record HasMark (greeted : List Mark) : Type 0 where
  pub last : Mark
  pub earlier : List Mark
  pub are : greeted ≡ last ∷ earlier

pub greeted_some : (l : List LinkStep) → has_greeted l ≡ true → HasMark (greeted_in l)
greeted_some [] e = absurd cc
greeted_some (Took b ∷ l) e = greeted_some l e
greeted_some (Marked n bytes ∷ l) e = greeted_some l e
greeted_some (Answered r ∷ l) e = by_bool (is_banner r)
    (λ b. rw b (record { last = next_mark l; earlier = greeted_in l; are = refl }))
    (λ b. let f = rw b at e in rw b (greeted_some l f))

pub next_follows : (marks : List ℕ) (l : List LinkStep) (r : Reply) → AreMarks marks (marked_in l) → MayAnswer l r → is_banner r ≡ true → Follows marks (greeted_in l) (next_mark l)
next_follows marks l r are may is = by_bool (has_greeted l)
    (λ h. let new = may.banner is h in let g = greeted_some l h in
    let m : next_mark l ≡ last_of (marked_in l) = rw h refl in
    let later : g.last.0 < (next_mark l).0 = (let n = new.later in let e = ap (λ (z : List Mark). (last_of z).0) g.are in omega arith) in
    subst (λ (z : List Mark). Follows marks z (next_mark l)) (sym g.are) (later, rw m (last_is marks (marked_in l) are)))
    (λ h. let none = greeted_none l h in subst (λ (z : List Mark). Follows marks z (next_mark l)) (sym none) (rw h refl))

-- ---- lines answered

-- Since the last Banner no more lines were answered than had their end taken. Since that of a mark, too, of the bytes behind the
-- mark; and these are reached.
pub record Counts (l : List LinkStep) : Type 0 where
  pub fewer : answers_since l ≤ lfs_since l
  pub behind_is : answers_behind_mark (answered_in l) + lfs_since l ≤ lfs_in (behind_mark (greeted_in l) (taken_in l)) + answers_since l
  pub reached : (last_of (greeted_in l)).1 ≤ length (taken_in l)

counts_took : (b : ℕ) (l : List LinkStep) → Counts l → Counts (Took b ∷ l)
counts_took b l c =
    let n : ℕ = (last_of (greeted_in l)).1 in
    let r = c.reached in
    let s = stands n (length (taken_in l)) r in
    let more : lfs_in (since n (b ∷ taken_in l)) ≡ cond (nat_eq b 10) 1 0 + lfs_in (since n (taken_in l)) = rw s (lfs_first b (since n (taken_in l))) in
    let f = c.fewer in
    let h = c.behind_is in
    record { fewer = omega arith; behind_is = omega arith; reached = omega arith }

one_more : (is : Bool) (n m : ℕ) → n ≤ m → (is ≡ true → n < m) → (b : Bool) → is ≡ b → cond b 1 0 + n ≤ m
one_more is n m le lt true e = let l = lt e in omega arith
one_more is n m le lt false e = omega arith

counts_greeted : (r : Reply) (l : List LinkStep) → is_banner r ≡ true → has_greeted l ≡ true → MayAnswer l r → Counts (Answered r ∷ l)
counts_greeted r l is h may = let t = (may.banner is h).taken in record {
  fewer = rw is (omega arith);
  behind_is = rw is (rw h (omega arith));
  reached = rw is (omega arith);
}

counts_first : (r : Reply) (l : List LinkStep) → is_banner r ≡ true → has_greeted l ≡ false → Counts l → Counts (Answered r ∷ l)
counts_first r l is h c =
    let f = c.fewer in
    let none = greeted_none l h in
    let d : answers_behind_mark (answered_in l) + lfs_since l ≤ lfs_in (since 0 (taken_in l)) + answers_since l =
    subst (λ (z : List Mark). answers_behind_mark (answered_in l) + lfs_since l ≤ lfs_in (behind_mark z (taken_in l)) + answers_since l) none c.behind_is in
    let no = no_answer r is in record {
      fewer = rw is (omega arith);
      behind_is = rw is (rw h (rw no (omega arith)));
      reached = rw is (rw h (omega arith));
    }

counts_other : (r : Reply) (l : List LinkStep) → is_banner r ≡ false → MayAnswer l r → Counts l → Counts (Answered r ∷ l)
counts_other r l is may c =
    let f = c.fewer in
    let d = c.behind_is in
    let t = c.reached in
    let line : (b : Bool) → is_answer r ≡ b → cond b 1 0 + answers_since l ≤ lfs_since l = one_more (is_answer r) (answers_since l) (lfs_since l) f may.line in
    let more = line (is_answer r) refl in record {
      fewer = rw is more;
      behind_is = rw is (omega arith);
      reached = rw is (omega arith);
    }

pub counts : (l : List LinkStep) → AnswersWell l → Counts l
counts [] w = record { fewer = omega arith; behind_is = omega arith; reached = omega arith }
counts (Took b ∷ l) w = counts_took b l (counts l w)
counts (Marked n bytes ∷ l) w = let c = counts l w in record { fewer = c.fewer; behind_is = c.behind_is; reached = c.reached }
counts (Answered r ∷ l) w = by_bool (is_banner r) (λ b. by_bool (has_greeted l) (λ h. counts_greeted r l b h w.0) (λ h. counts_first r l b h (counts l w.1))) (λ b. counts_other r l b w.0 (counts l w.1))

-- ---- what the host knows by the replies that it got

pub unread_by_replies : (later seen : List LinkStep) (rest : List ℕ) → AnswersWell seen
    → length rest ≤ length (maybe_unread (rest ++ taken_in (later ++ seen)) (answered_in seen) (greeted_in seen))
unread_by_replies later seen rest w =
    let c = counts seen w in
    let k : ℕ = answers_behind_mark (answered_in seen) in
    let n : ℕ = (last_of (greeted_in seen)).1 in
    let on = taken_on later seen in
    let at_mark : since n (taken_in (later ++ seen)) ≡ taken_in later ++ since n (taken_in seen) = ap (since n) on ∙ since_on n (taken_in later) (taken_in seen) c.reached in
    let long : n ≤ length (taken_in (later ++ seen)) = (let l = ap length on in let a = length-append (taken_in later) (taken_in seen) in let r = c.reached in omega arith) in
    let whole : since n (rest ++ taken_in (later ++ seen)) ≡ rest ++ since n (taken_in (later ++ seen)) = since_on n rest (taken_in (later ++ seen)) long in
    let enough : k ≤ lfs_in (since n (taken_in (later ++ seen))) =
    (let m = more_lfs (taken_in later) (since n (taken_in seen)) in let e = ap lfs_in at_mark in let b = c.behind_is in let f = c.fewer in omega arith) in
    let u = unread_behind k rest (since n (taken_in (later ++ seen))) enough in
    let e = ap (λ z. length (since_lf k z)) whole in
    omega arith

pub answers_stored : (later seen : List LinkStep) (rest : List ℕ) → AnswersWell seen → AnswersStored (rest ++ taken_in (later ++ seen)) (answered_in seen) (greeted_in seen)
answers_stored later seen rest w =
    let c = counts seen w in
    let k : ℕ = answers_behind_mark (answered_in seen) in
    let n : ℕ = (last_of (greeted_in seen)).1 in
    let on = taken_on later seen in
    let at_mark : since n (taken_in (later ++ seen)) ≡ taken_in later ++ since n (taken_in seen) = ap (since n) on ∙ since_on n (taken_in later) (taken_in seen) c.reached in
    let long : n ≤ length (taken_in (later ++ seen)) = (let l = ap length on in let a = length-append (taken_in later) (taken_in seen) in let r = c.reached in omega arith) in
    let whole : since n (rest ++ taken_in (later ++ seen)) ≡ rest ++ since n (taken_in (later ++ seen)) = since_on n rest (taken_in (later ++ seen)) long in
    let m = more_lfs (taken_in later) (since n (taken_in seen)) in
    let e = ap lfs_in at_mark in
    let b = c.behind_is in
    let f = c.fewer in
    let o = more_lfs rest (since n (taken_in (later ++ seen))) in
    let w = ap lfs_in whole in
    omega arith
