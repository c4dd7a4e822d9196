-- Before its Banner is told a journal does nothing else than to tell what greets: no word of flags is taken, and no report is answered.
use Rattle.std.proofs.Common.{◌≡◌, ℕ, ◌≤◌, Bool, true, false, ◌||◌, cond, List, [], ◌∷◌, ◌++◌, drop, refl, sym, ap, ◌∙◌, append_assoc, append-nil, arith}
use Rattle.planner_runs.specs.declared.Action.{Action}
use Rattle.planner_runs.specs.declared.Action.TheVariants.{Add, Take, Override, Mark, Rest, Clear, Reset}
use Rattle.run_rules.specs.Told.{replies_after}
use Rattle.run_rules.specs.Work.{Task, Outcome, tells, telling}
use Rattle.run_rules.specs.Work.Task.{ask, tell, pause, normal, finish, halt}
use Rattle.serial_ring.specs.Logs.{has_greeted}
use Rattle.status_report.specs.Answering.{is_banner, banners_in, without_reports}
use Rattle.status_report.specs.declared.Reply.{Reply}
use Rattle.status_report.specs.declared.Reply.TheVariants as replies
use Rattle.status_report.specs.declared.reports.Report.{Report}
use Rattle.status_report.proofs.Banners.{banners_first, banners_on}
use Rattle.step_line.specs.Asking.Asked.{a_move, a_mark, a_rest}
use Rattle.step_line.specs.declared.Piece.{Piece}
use Rattle.board_rules.specs.Conduct.{Conducted, MayDo}
use Rattle.board_journal.specs.Openings.{Opening, up_to_banner}
use Rattle.board_journal.specs.Ports.{BoardLog, answered_in, link_steps}
use Rattle.board_journal.specs.Ports.PortStep.{answered, reported, took_exec}
use Rattle.board_journal.specs.Steps.{Journal, port_log, taken_of, answered_of, outcomes_of, left_of, closed_tells, without_asks}
use Rattle.board_journal.specs.Steps.Step.{at_port, began, did, made_end, evened, paused, cut, halted, closing}
use Rattle.board_rules.specs.Turns.{is_greeted, owes_report, tells_next}
use Rattle.board_rules.proofs.Greeting.{banners_are, since}
use Rattle.board_rules.proofs.Keeping.{told_is}
use Rattle.board_rules.proofs.Plain.{plain_push}
use Rattle.board_rules.proofs.Truths.{either_right, neither_right, opposite}

-- ---- before the Banner nothing else is done than to tell

abbrev all_tell : List Task → Bool
all_tell [] = true
all_tell (tell r ∷ ts) = all_tell ts
all_tell (_ ∷ ts) = false

told_all : (rs : List Reply) → all_tell (telling rs) ≡ true
told_all [] = refl
told_all (r ∷ rs) = told_all rs

tell_tail : (ts : List Task) → all_tell ts ≡ true → all_tell (drop 1 ts) ≡ true
tell_tail [] is = refl
tell_tail (tell r ∷ ts) is = is
tell_tail (_ ∷ ts) is = absurd cc

tell_kept : (ts : List Task) → all_tell ts ≡ true → all_tell (without_asks ts) ≡ true
tell_kept [] is = refl
tell_kept (tell r ∷ ts) is = tell_kept ts is
tell_kept (_ ∷ ts) is = absurd cc

-- another task is not next there
none_else : {A : Type 0} (ts : List Task) (t : Task) → ts ≡ t ∷ drop 1 ts → all_tell (t ∷ drop 1 ts) ≡ false → all_tell ts ≡ true → A
none_else ts t next none is = absurd (let e = sym is ∙ ap all_tell next ∙ none in cc)

-- and something is left
pub not_free : {A : Type 0} (first : Opening) (h : Journal) → Conducted first h → banners_in (answered_of h) ≡ 0 → left_of first h ≡ [] → A
not_free first h c none free =
    absurd (let all = banners_are first h c in let e = ap (λ (ts : List Task). banners_in (tells ts)) free in omega (arith, all, e, none))

did_tell : (first : Opening) (h : Journal) (a : Action) (ps : List Piece) → MayDo first a h → all_tell (left_of first h) ≡ true → all_tell (left_of first (did a ps ∷ h)) ≡ true
did_tell first h (Add m) ps may is = none_else (left_of first h) (ask (a_move m)) may refl is
did_tell first h (Mark m) ps may is = none_else (left_of first h) (ask (a_mark m)) may.next refl is
did_tell first h Rest ps may is = none_else (left_of first h) (ask a_rest) may.next refl is
did_tell first h (Take mode) ps may is = is
did_tell first h (Override o) ps may is = is
did_tell first h Clear ps may is = absurd may
did_tell first h Reset ps may is = absurd may

pub fewer : (rs : List Reply) (r : Reply) → banners_in (rs ++ r ∷ []) ≡ 0 → banners_in rs ≡ 0
fewer rs r none = let e = banners_on rs (r ∷ []) in omega (arith, e, none)

pub greeting_tells : (first : Opening) (h : Journal) → Conducted first h → banners_in (answered_of h) ≡ 0 → all_tell (left_of first h) ≡ true
greeting_tells first [] c none = told_all first.tells
greeting_tells first (at_port (answered r) ∷ h) c none = tell_tail (left_of first h) (greeting_tells first h c.1 (fewer (answered_of h) r none))
greeting_tells first (at_port (reported r) ∷ h) c none = greeting_tells first h c.1 (fewer (answered_of h) (replies.Report r) none)
greeting_tells first (began o ∷ h) c none = not_free first h c.1 none c.0.free
greeting_tells first (did a ps ∷ h) c none = did_tell first h a ps c.0.0 (greeting_tells first h c.1 none)
greeting_tells first (made_end ∷ h) c none = none_else (left_of first h) finish c.0.next refl (greeting_tells first h c.1 none)
greeting_tells first (evened ∷ h) c none = none_else (left_of first h) normal c.0.rests.next refl (greeting_tells first h c.1 none)
greeting_tells first (paused ∷ h) c none = none_else (left_of first h) pause c.0.rests.next refl (greeting_tells first h c.1 none)
greeting_tells first (cut k ∷ h) c none = tell_kept (left_of first h) (greeting_tells first h c.1 none)
greeting_tells first (halted ∷ h) c none = none_else (left_of first h) halt c.0.next refl (greeting_tells first h c.1 none)
greeting_tells first (closing ∷ h) c none = not_free first h c.1 none c.0.free
greeting_tells first (_ ∷ h) c none = greeting_tells first h c.1 none

pub head_tells : (ts : List Task) → all_tell ts ≡ true → tells_next ts ≡ false → ts ≡ []
head_tells [] is none = refl
head_tells (tell r ∷ ts) is none = absurd cc
head_tells (_ ∷ ts) is none = absurd cc

pub by_count : (n : ℕ) → n ≤ 1 → (n ≡ 0 → ⊥) → n ≡ 1
by_count n few some = omega (arith, few, some)

-- so where no reply is next the Banner is told
pub banner_told : (first : Opening) (h : Journal) → Conducted first h → tells_next (left_of first h) ≡ false → banners_in (answered_of h) ≡ 1
banner_told first h c none =
    by_count (banners_in (answered_of h)) (let all = banners_are first h c in omega arith)
    (λ zero. not_free first h c zero (head_tells (left_of first h) (greeting_tells first h c zero) none))

-- ---- as the link has it

one_banner : (r : Reply) (t : Bool) → is_banner r ≡ t → banners_in (r ∷ []) ≡ cond t 1 0
one_banner r t is = let b = banners_first r [] in let e = ap (λ (x : Bool). cond {A = ℕ} x 1 0) is in omega (arith, b, e)

some_first : (r : Reply) (l : BoardLog) (t : Bool) → is_banner r ≡ t → (banners_in (answered_in l ++ r ∷ []) ≡ 0 → ⊥) → ((banners_in (answered_in l) ≡ 0 → ⊥) → has_greeted (link_steps l) ≡ true)
    → has_greeted (link_steps (answered r ∷ l)) ≡ true
some_first r l true is some before = rw is refl
some_first r l false is some before =
    rw is (before (λ none. some (let a = banners_on (answered_in l) (r ∷ []) in let b = one_banner r false is in omega (arith, a, b, none))))

some_greeted : (l : BoardLog) → (banners_in (answered_in l) ≡ 0 → ⊥) → has_greeted (link_steps l) ≡ true
some_greeted [] some = absurd (some refl)
some_greeted (answered r ∷ l) some = some_first r l (is_banner r) refl some (λ before. some_greeted l before)
some_greeted (reported r ∷ l) some =
    some_greeted l (λ none. some (let a = banners_on (answered_in l) (replies.Report r ∷ []) in let b = one_banner (replies.Report r) false refl in omega (arith, a, b, none)))
some_greeted (_ ∷ l) some = some_greeted l some

none_first : (r : Reply) (l : BoardLog) (t : Bool) → is_banner r ≡ t → (t || has_greeted (link_steps l)) ≡ false → (has_greeted (link_steps l) ≡ false → banners_in (answered_in l) ≡ 0)
    → banners_in (answered_in l ++ r ∷ []) ≡ 0
none_first r l true is none before = absurd cc
none_first r l false is none before = let a = banners_on (answered_in l) (r ∷ []) in let b = one_banner r false is in let m = before none in omega (arith, a, b, m)

none_greeted : (l : BoardLog) → has_greeted (link_steps l) ≡ false → banners_in (answered_in l) ≡ 0
none_greeted [] none = refl
none_greeted (answered r ∷ l) none = none_first r l (is_banner r) refl none (λ before. none_greeted l before)
none_greeted (reported r ∷ l) none =
    let a = banners_on (answered_in l) (replies.Report r ∷ []) in let b = one_banner (replies.Report r) false refl in let m = none_greeted l none in omega (arith, a, b, m)
none_greeted (_ ∷ l) none = none_greeted l none

pub greeted_where : (first : Opening) (h : Journal) → Conducted first h → tells_next (left_of first h) ≡ false → is_greeted h ≡ true
greeted_where first h c none = some_greeted (port_log h) (λ zero. let one = banner_told first h c none in omega (arith, zero, one))

pub greeted_free : (first : Opening) (h : Journal) → Conducted first h → left_of first h ≡ [] → is_greeted h ≡ true
greeted_free first h c free = greeted_where first h c (ap tells_next free)

-- ---- words and reports come behind it

-- a report is owed only behind the Banner
pub owed_greeted : (first : Opening) (h : Journal) → Conducted first h → owes_report h ≡ true → is_greeted h ≡ true
owed_greeted first [] c owed = absurd cc
owed_greeted first (at_port (took_exec word) ∷ h) c owed = c.0.greeted
owed_greeted first (at_port (answered r) ∷ h) c owed = either_right (is_banner r) (is_greeted h) (owed_greeted first h c.1 owed)
owed_greeted first (at_port (reported r) ∷ h) c owed = absurd cc
owed_greeted first (_ ∷ h) c owed = owed_greeted first h c.1 owed

pub reported_greeted : (first : Opening) (r : Report) (h : Journal) → Conducted first (at_port (reported r) ∷ h) → is_greeted h ≡ true
reported_greeted first r h c = owed_greeted first h c.1 c.0.owed

unreported : (first : Opening) (h : Journal) → Conducted first h → is_greeted h ≡ false → without_reports (answered_of h) ≡ answered_of h
unreported first [] c none = refl
unreported first (at_port (answered r) ∷ h) c none =
    plain_push (answered_of h) r c.0.plain ∙ ap (λ (rs : List Reply). rs ++ r ∷ []) (unreported first h c.1 (neither_right (is_banner r) (is_greeted h) none))
unreported first (at_port (reported r) ∷ h) c none = opposite (is_greeted h) (reported_greeted first r h c) none
unreported first (_ ∷ h) c none = unreported first h c.1 none

-- ---- what is answered begins with what greets

no_byte : (first : Opening) (h : Journal) → Conducted first h → is_greeted h ≡ false → taken_of h ≡ []
no_byte first h c none = ((since first h c).0 (none_greeted (port_log h) none)).0

no_line : (first : Opening) (h : Journal) → Conducted first h → is_greeted h ≡ false → outcomes_of h ≡ []
no_line first [] c none = refl
no_line first (at_port (answered r) ∷ h) c none = no_line first h c.1 (neither_right (is_banner r) (is_greeted h) none)
no_line first (began o ∷ h) c none = opposite (is_greeted h) (greeted_free first h c.1 c.0.free) none
no_line first (_ ∷ h) c none = no_line first h c.1 none

no_close : (first : Opening) (h : Journal) → Conducted first h → is_greeted h ≡ false → closed_tells h ≡ []
no_close first [] c none = refl
no_close first (at_port (answered r) ∷ h) c none = no_close first h c.1 (neither_right (is_banner r) (is_greeted h) none)
no_close first (closing ∷ h) c none = opposite (is_greeted h) (greeted_free first h c.1 c.0.free) none
no_close first (_ ∷ h) c none = no_close first h c.1 none

-- before the Banner what greets is what was answered, and is to be told
pub greets_still : (first : Opening) (h : Journal) → Conducted first h → is_greeted h ≡ false → answered_of h ++ tells (left_of first h) ≡ first.tells
greets_still first h c none =
    ap (λ (rs : List Reply). rs ++ tells (left_of first h)) (sym (unreported first h c none))
    ∙ sym (told_is first h c)
    ∙ ap (λ (rs : List Reply). replies_after first.tells (outcomes_of h) ++ rs) (no_close first h c none)
    ∙ append-nil (replies_after first.tells (outcomes_of h))
    ∙ ap (λ (os : List Outcome). replies_after first.tells os) (no_line first h c none)
    ∙ append-nil first.tells

-- nothing was done before but to tell that
pub none_ungreeted : (first : Opening) (h : Journal) → Conducted first h → is_greeted h ≡ false → (taken_of h ≡ []) × ((outcomes_of h ≡ []) × (answered_of h ++ tells (left_of first h) ≡ first.tells))
none_ungreeted first h c none = (no_byte first h c none, (no_line first h c none, greets_still first h c none))

up_first : (x : Reply) (xs ys : List Reply) (r : Reply) (t : Bool) → is_banner x ≡ t → banners_in (x ∷ xs) ≡ 0 → (banners_in xs ≡ 0 → up_to_banner (xs ++ r ∷ ys) ≡ xs ++ r ∷ []) → up_to_banner (x ∷ xs ++ r ∷ ys) ≡ x ∷ xs ++ r ∷ []
up_first x xs ys r true is none before = absurd (let a = banners_first x xs in let e = ap (λ (b : Bool). cond {A = ℕ} b 1 0) is in omega (arith, a, e, none))
up_first x xs ys r false is none before =
    ap (λ (t : Bool). x ∷ cond t [] (up_to_banner (xs ++ r ∷ ys))) is
    ∙ ap (λ (rs : List Reply). x ∷ rs) (before (let a = banners_first x xs in let e = ap (λ (b : Bool). cond {A = ℕ} b 1 0) is in omega (arith, a, e, none)))

up_to : (xs : List Reply) (r : Reply) (ys : List Reply) → banners_in xs ≡ 0 → is_banner r ≡ true → up_to_banner (xs ++ r ∷ ys) ≡ xs ++ r ∷ []
up_to [] r ys none is = ap (λ (t : Bool). r ∷ cond t [] (up_to_banner ys)) is
up_to (x ∷ xs) r ys none is = up_first x xs ys r (is_banner x) refl none (λ before. up_to xs r ys before is)

abbrev Begins : Opening → Journal → Type 0
Begins first h = (behind : List Reply) × (answered_of h ≡ up_to_banner first.tells ++ behind)

one_on : (first : Opening) (r : Reply) (h : Journal) → Begins first h → (behind : List Reply) × (answered_of h ++ r ∷ [] ≡ up_to_banner first.tells ++ behind)
one_on first r h b = (b.0 ++ r ∷ [], ap (λ (rs : List Reply). rs ++ r ∷ []) b.1 ∙ append_assoc (up_to_banner first.tells) b.0 (r ∷ []))

-- the Banner itself
now_greets : (first : Opening) (r : Reply) (h : Journal) → Conducted first (at_port (answered r) ∷ h) → is_greeted h ≡ false → is_banner r ≡ true → (behind : List Reply) × (answered_of h ++ r ∷ [] ≡ up_to_banner first.tells ++ behind)
now_greets first r h c none is =
    let left = drop 1 (left_of first h) in
    let all : answered_of h ++ r ∷ tells left ≡ first.tells = ap (λ (ts : List Task). answered_of h ++ tells ts) (sym c.0.next) ∙ greets_still first h c.1 none in
    ([], sym (up_to (answered_of h) r (tells left) (none_greeted (port_log h) none) is) ∙ ap up_to_banner all ∙ sym (append-nil (up_to_banner first.tells)))

left_holds : (a b : Bool) → b ≡ false → (a || b) ≡ true → a ≡ true
left_holds true b none e = refl
left_holds false b none e = opposite b e none

answer_on : (first : Opening) (r : Reply) (h : Journal) → Conducted first (at_port (answered r) ∷ h) → is_greeted (at_port (answered r) ∷ h) ≡ true → (t : Bool) → is_greeted h ≡ t → (is_greeted h ≡ true → Begins first h)
    → Begins first (at_port (answered r) ∷ h)
answer_on first r h c greeted true was before = one_on first r h (before was)
answer_on first r h c greeted false was before = now_greets first r h c was (left_holds (is_banner r) (is_greeted h) was greeted)

-- and behind it what was answered begins with what greets, up to the Banner
pub greets_first : (first : Opening) (h : Journal) → Conducted first h → is_greeted h ≡ true → Begins first h
greets_first first [] c greeted = absurd cc
greets_first first (at_port (answered r) ∷ h) c greeted = answer_on first r h c greeted (is_greeted h) refl (λ before. greets_first first h c.1 before)
greets_first first (at_port (reported r) ∷ h) c greeted = one_on first (replies.Report r) h (greets_first first h c.1 greeted)
greets_first first (_ ∷ h) c greeted = greets_first first h c.1 greeted
