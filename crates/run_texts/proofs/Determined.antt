-- A job, a console and steps have one course at most.
use Rattle.std.proofs.Common.{◌≡◌, ℕ, ◌+◌, ◌≤◌, inl, inr, List, [], ◌∷◌, ◌++◌, true, false, Bool, cond, ◌||◌, sym, refl, ap, ◌∙◌, subst, arith}
use Rattle.std.proofs.lemmas.List.{append_cancel_left}
use Rattle.units.specs.declared.Steps3.{Steps3}
use Rattle.system_lines.specs.Commands.{kind_of, command_of}
use Rattle.system_lines.specs.declared.Kind.{Kind as DollarKind}
use Rattle.system_lines.specs.declared.Kind.TheVariants as kinds
use Rattle.status_report.specs.Answering.{without_reports}
use Rattle.status_report.specs.declared.Message.TheVariants as messages
use Rattle.status_report.specs.declared.Reply.{Reply}
use Rattle.status_report.specs.declared.Reply.TheVariants as replies
use Rattle.flight.specs.Places.{origin}
use Rattle.step_line.specs.declared.Record.{Record}
use Rattle.run_rules.specs.declared.State.{State}
use Rattle.run_rules.specs.Outcomes.{Before, either}
use Rattle.run_rules.specs.Work.{Outcome, tells}
use Rattle.run_rules.proofs.Answering.{AnswersOnce, AnswersOrHalts, answers_or_halts, refused_once, told_once, by_command}
use Rattle.run_rules.proofs.Determined.{one_opening}
use Rattle.run_texts.specs.Courses.{Passed, Reset, Follows, IsReset, IsLeft, behind_cut, behind_the_reset}
use Rattle.run_texts.specs.Courses.Passed.{a_line, a_broken, a_cut, a_reset}
use Rattle.run_texts.specs.Fits.{FitsTexts}
use Rattle.run_texts.specs.Points.{Point, BecomesLocked, ByLockedKept, ByLockedDollar, BecomesAt, behind_line, behind_broken, opening}
use Rattle.run_texts.specs.Sent.{Sent, behind_reset}
use Rattle.run_texts.specs.Sent.Sent.{a_text, a_stop}
use Rattle.run_texts.specs.Told.{told_at_reset, told_in, IsTold}
use Rattle.run_texts.proofs.Errors.{told_one, begun_one}
use Rattle.run_texts.proofs.Quiet.{opens, Quiet, TellsQuietly, line_quiet}
use Rattle.run_texts.proofs.Stops.{Stop, stops_of, stops_agree}
use Rattle.run_texts.proofs.Stops.Stop.{cut_at, reset_at}

-- ---- a line is told otherwise than a reset

by_either : (c : Bool) (A B C : Type 0) → (A → C) → (B → C) → either c A B → C
by_either true A B C first second is = first is
by_either false A B C first second is = second is

locked_dollar : (b : Before) (kept : List ℕ) (kind : DollarKind) (o : Outcome) → ByLockedDollar b kept kind o → AnswersOnce o
locked_dollar b kept kinds.Unlock o is = told_once b.state (replies.Message messages.Unlocked ∷ []) o ((refl, refl, refl), tt) is
locked_dollar b kept kinds.Jog o is = refused_once b 8 o is
locked_dollar b kept kinds.BareJog o is = refused_once b 8 o is
locked_dollar b kept _ o is = by_command b (command_of kept) o is

locked_kept : (b : Before) (kept : List ℕ) (o : Outcome) → ByLockedKept b kept o → AnswersOnce o
locked_kept b [] o is = told_once b.state [] o tt is
locked_kept b (c ∷ cs) o is = by_either _ _ _ (AnswersOnce o) (locked_dollar b (c ∷ cs) (kind_of (c ∷ cs)) o) (refused_once b 9 o) is

locked_once : (b : Before) (kept : List ℕ) (o : Outcome) → BecomesLocked b kept o → AnswersOnce o
locked_once b kept o is = by_either _ _ _ (AnswersOnce o) (refused_once b 11 o) (locked_kept b kept o) is

-- a line is answered once, or halts
pub line_answers : (runs : Bool) (p : Point) (kept : List ℕ) (o : Outcome) → BecomesAt runs p kept o → AnswersOrHalts p.before o
line_answers runs p kept o is = by_either p.locked _ _ (AnswersOrHalts p.before o) (λ x. inl (locked_once p.before kept o x)) (answers_or_halts runs p.before kept o) is

-- whether the first of some replies begins an epoch
abbrev first_opens : List Reply → Bool
first_opens [] = false
first_opens (r ∷ rs) = opens r

quiet_front : (xs ys : List Reply) (r : Reply) → Quiet (xs ++ r ∷ []) → first_opens ((xs ++ r ∷ []) ++ ys) ≡ false
quiet_front [] ys r quiet = quiet.0
quiet_front (x ∷ xs) ys r quiet = quiet.0

line_opens_none : (b : Before) (o : Outcome) (ys : List Reply) → AnswersOrHalts b o → TellsQuietly o → first_opens (tells o.work ++ ys) ≡ false
line_opens_none b o ys (inl once) quiet =
    ap (λ (t : List Reply). first_opens (t ++ ys)) once.told ∙ quiet_front once.body ys o.answer (subst Quiet once.told quiet)
line_opens_none b o ys (inr is) quiet = ap (λ (x : Outcome). first_opens (tells x.work ++ ys)) is

reset_opens : (alarm : Bool) (more xs : List Reply) → first_opens ((cond alarm (replies.Alarm 3 ∷ []) [] ++ replies.Banner ∷ more) ++ xs) ≡ true
reset_opens true more xs = refl
reset_opens false more xs = refl

-- ---- resets

same_alarm : (a b : Bool) (more less xs ys : List Reply)
    → (cond a (replies.Alarm 3 ∷ []) [] ++ replies.Banner ∷ more) ++ xs ≡ (cond b (replies.Alarm 3 ∷ []) [] ++ replies.Banner ∷ less) ++ ys → a ≡ b
same_alarm true true more less xs ys e = refl
same_alarm false false more less xs ys e = refl
same_alarm true false more less xs ys e = absurd cc
same_alarm false true more less xs ys e = absurd cc

same_fields : (r u : Reset) → r.number ≡ u.number → r.dropped ≡ u.dropped → r.alarm ≡ u.alarm → r.locked ≡ u.locked → r.at ≡ u.at → r ≡ u
same_fields r u number dropped alarm locked at =
    ap (λ x. record r { number = x }) number
    ∙ ap (λ x. record r { number = u.number; dropped = x }) dropped
    ∙ ap (λ x. record u { alarm = x; locked = r.locked; at = r.at }) alarm
    ∙ ap (λ x. record u { locked = x; at = r.at }) locked
    ∙ ap (λ x. record u { at = x }) at

same_reset : (p : Point) (sent : List Sent) (r u : Reset) (xs ys : List Reply) → IsReset p sent r → IsReset p sent u → r.number ≡ u.number → r.at ≡ u.at → told_at_reset r ++ xs ≡ told_at_reset u ++ ys → r ≡ u
same_reset p sent r u xs ys a b number at told =
    let dropped : r.dropped ≡ u.dropped = a.dropped ∙ sym b.dropped in
    let alarm : r.alarm ≡ u.alarm = same_alarm r.alarm u.alarm _ _ xs ys told in
    let locked : r.locked ≡ u.locked = a.locked ∙ ap (λ x. x || p.locked) alarm ∙ sym b.locked in
    same_fields r u number dropped alarm locked at

-- ---- courses

pub not_left : {A : Type 0} (p : Point) (line : List ℕ) (sent : List Sent) → IsLeft p (a_text line ∷ sent) → p.before.alarmed ≡ false → A
not_left p line sent left free = go p.before.alarmed left.rest free where
  go : {A : Type 0} (alarmed : Bool) → either alarmed (behind_reset (a_text line ∷ sent) ≡ []) (◌≡◌ {A = List Sent} (a_text line ∷ sent) []) → alarmed ≡ false → A
  go true left free = absurd cc
  go false left free = absurd cc

-- the number of the first cut, or reset, is at least that of the line before
abbrev stop_number : Stop → ℕ
stop_number (cut_at k at) = k
stop_number (reset_at k at) = k

stops_first : (s t : Stop) (xs ys : List Stop) → ◌≡◌ {A = List Stop} (s ∷ xs) (t ∷ ys) → s ≡ t
stops_first s t xs ys e = cc

first_stop : (p last : Point) (sent : List Sent) (ps : List Passed) (s : Stop) (more : List Stop) → Follows p sent ps last → stops_of ps ≡ s ∷ more → p.before.number ≤ stop_number s + 1
first_stop p last sent [] s more f e = absurd cc
first_stop p last sent (a_cut j there ∷ ps) s more f e =
    let same : j ≡ stop_number s = ap stop_number (stops_first (cut_at j there) s (stops_of ps) more e) in let number = f.0.number in omega (arith, same, number)
first_stop p last sent (a_reset r ∷ ps) s more f e =
    let same : r.number ≡ stop_number s = ap stop_number (stops_first (reset_at r.number r.at) s (stops_of ps) more e) in let number = f.0.number in omega (arith, same, number)
first_stop p last [] (a_line o ∷ ps) s more f e = absurd f
first_stop p last (a_stop ∷ sent) (a_line o ∷ ps) s more f e = absurd f
first_stop p last (a_text line ∷ sent) (a_line o ∷ ps) s more f e =
    let rest : p.before.number + 1 ≤ stop_number s + 1 = first_stop (behind_line p line o) last sent ps s more f.1 e in
    omega (arith, rest)
first_stop p last [] (a_broken o ∷ ps) s more f e = absurd f
first_stop p last (a_stop ∷ sent) (a_broken o ∷ ps) s more f e = absurd f
first_stop p last (a_text line ∷ sent) (a_broken o ∷ ps) s more f e =
    let rest : p.before.number + 1 ≤ stop_number s + 1 = first_stop (behind_broken p o) last sent ps s more f.1 e in
    omega (arith, rest)

-- so behind a line no cut and no reset comes that could have come before it
line_is_later : {A : Type 0} (p last : Point) (sent : List Sent) (o : Outcome) (ps : List Passed) (s : Stop) (more : List Stop)
    → Follows p sent (a_line o ∷ ps) last → p.before.number ≡ stop_number s + 1 → s ∷ more ≡ stops_of ps → A
line_is_later p last [] o ps s more f number e = absurd f
line_is_later p last (a_stop ∷ sent) o ps s more f number e = absurd f
line_is_later p last (a_text line ∷ sent) o ps s more f number e =
    let least : p.before.number + 1 ≤ stop_number s + 1 = first_stop (behind_line p line o) last sent ps s more f.1 (sym e) in
    absurd (omega (arith, least, number))

broken_is_later : {A : Type 0} (p last : Point) (sent : List Sent) (o : Outcome) (ps : List Passed) (s : Stop) (more : List Stop)
    → Follows p sent (a_broken o ∷ ps) last → p.before.number ≡ stop_number s + 1 → s ∷ more ≡ stops_of ps → A
broken_is_later p last [] o ps s more f number e = absurd f
broken_is_later p last (a_stop ∷ sent) o ps s more f number e = absurd f
broken_is_later p last (a_text line ∷ sent) o ps s more f number e =
    let least : p.before.number + 1 ≤ stop_number s + 1 = first_stop (behind_broken p o) last sent ps s more f.1 (sym e) in
    absurd (omega (arith, least, number))

-- behind a line that is not answered a reset is told first
broken_opens : (p last : Point) (sent : List Sent) (ps : List Passed) → Follows p sent ps last → p.unanswered ≡ true → first_opens (told_in ps) ≡ true
broken_opens p last sent [] f begun = absurd (let e = sym f.1.answered ∙ begun in cc)
broken_opens p last sent (a_cut k at ∷ ps) f begun = broken_opens (behind_cut at p) last sent ps f.1 begun
broken_opens p last sent (a_reset r ∷ ps) f begun = reset_opens r.alarm _ (told_in ps)
broken_opens p last [] (a_line o ∷ ps) f begun = absurd f
broken_opens p last (a_stop ∷ sent) (a_line o ∷ ps) f begun = absurd f
broken_opens p last (a_text line ∷ sent) (a_line o ∷ ps) f begun = absurd (let e = sym f.0.answered ∙ begun in cc)
broken_opens p last [] (a_broken o ∷ ps) f begun = absurd f
broken_opens p last (a_stop ∷ sent) (a_broken o ∷ ps) f begun = absurd f
broken_opens p last (a_text line ∷ sent) (a_broken o ∷ ps) f begun = absurd (let e = sym f.0.answered ∙ begun in cc)

-- and a line that is answered tells something else
told_apart : {A : Type 0} (p last : Point) (line : List ℕ) (sent : List Sent) (o u : Outcome) (xs : List Reply) (ps : List Passed)
    → BecomesAt true p line o → Follows (behind_broken p u) sent ps last → tells o.work ++ xs ≡ told_in ps → A
told_apart p last line sent o u xs ps is f e =
    absurd (let g : false ≡ true = sym (line_opens_none p.before o xs (line_answers true p line o is) (line_quiet true p line o is)) ∙ ap first_opens e ∙ broken_opens (behind_broken p u) last sent ps f refl in cc)

abbrev pub Same : List Passed → List Passed → Point → Point → Type 0
Same ps qs s t = (ps ≡ qs) × (s ≡ t)

onto : (x y : Passed) (ps qs : List Passed) (s t : Point) → x ≡ y → Same ps qs s t → Same (x ∷ ps) (y ∷ qs) s t
onto x y ps qs s t e rest = (ap (λ z. z ∷ ps) e ∙ ap (λ zs. y ∷ zs) rest.0, rest.1)

pub agree : (p s t : Point) (sent : List Sent) (ps qs : List Passed) → Follows p sent ps s → Follows p sent qs t → told_in ps ≡ told_in qs → stops_of ps ≡ stops_of qs → Same ps qs s t
agree p s t sent [] [] e f told stops = (refl, e.0 ∙ sym f.0)
agree p s t sent [] (a_cut k at ∷ qs) e f told stops = absurd cc
agree p s t sent [] (a_reset r ∷ qs) e f told stops = absurd cc
agree p s t sent (a_cut k at ∷ ps) [] e f told stops = absurd cc
agree p s t sent (a_reset r ∷ ps) [] e f told stops = absurd cc
agree p s t [] [] (a_line o ∷ qs) e f told stops = absurd f
agree p s t (a_stop ∷ sent) [] (a_line o ∷ qs) e f told stops = absurd f
agree p s t (a_text line ∷ sent) [] (a_line o ∷ qs) e f told stops = not_left p line sent e.1 f.0.free
agree p s t [] (a_line o ∷ ps) [] e f told stops = absurd e
agree p s t (a_stop ∷ sent) (a_line o ∷ ps) [] e f told stops = absurd e
agree p s t (a_text line ∷ sent) (a_line o ∷ ps) [] e f told stops = not_left p line sent f.1 e.0.free
agree p s t [] [] (a_broken o ∷ qs) e f told stops = absurd f
agree p s t (a_stop ∷ sent) [] (a_broken o ∷ qs) e f told stops = absurd f
agree p s t (a_text line ∷ sent) [] (a_broken o ∷ qs) e f told stops = not_left p line sent e.1 f.0.free
agree p s t [] (a_broken o ∷ ps) [] e f told stops = absurd e
agree p s t (a_stop ∷ sent) (a_broken o ∷ ps) [] e f told stops = absurd e
agree p s t (a_text line ∷ sent) (a_broken o ∷ ps) [] e f told stops = not_left p line sent f.1 e.0.free
agree p s t sent (a_cut k at ∷ ps) (a_cut j there ∷ qs) e f told stops =
    let number : k ≡ j = cc in
    let place : at ≡ there = cc in
    let more : stops_of ps ≡ stops_of qs = cc in
    let P : Steps3 → Type 0 = λ x. Follows (behind_cut x p) sent qs t in
    onto (a_cut k at) (a_cut j there) ps qs s t (ap (λ n. a_cut n at) number ∙ ap (a_cut j) place)
    (agree (behind_cut at p) s t sent ps qs e.1 (subst P (sym place) f.1) told more)
agree p s t sent (a_cut k at ∷ ps) (a_reset r ∷ qs) e f told stops = absurd cc
agree p s t sent (a_reset r ∷ ps) (a_cut k at ∷ qs) e f told stops = absurd cc
agree p s t sent (a_cut k at ∷ ps) (a_line o ∷ qs) e f told stops = line_is_later p t sent o qs (cut_at k at) (stops_of ps) f e.0.number stops
agree p s t sent (a_line o ∷ ps) (a_cut k at ∷ qs) e f told stops = line_is_later p s sent o ps (cut_at k at) (stops_of qs) e f.0.number (sym stops)
agree p s t sent (a_cut k at ∷ ps) (a_broken o ∷ qs) e f told stops = broken_is_later p t sent o qs (cut_at k at) (stops_of ps) f e.0.number stops
agree p s t sent (a_broken o ∷ ps) (a_cut k at ∷ qs) e f told stops = broken_is_later p s sent o ps (cut_at k at) (stops_of qs) e f.0.number (sym stops)
agree p s t sent (a_reset r ∷ ps) (a_line o ∷ qs) e f told stops = line_is_later p t sent o qs (reset_at r.number r.at) (stops_of ps) f (sym e.0.number) stops
agree p s t sent (a_line o ∷ ps) (a_reset r ∷ qs) e f told stops = line_is_later p s sent o ps (reset_at r.number r.at) (stops_of qs) e (sym f.0.number) (sym stops)
agree p s t sent (a_reset r ∷ ps) (a_broken o ∷ qs) e f told stops = broken_is_later p t sent o qs (reset_at r.number r.at) (stops_of ps) f (sym e.0.number) stops
agree p s t sent (a_broken o ∷ ps) (a_reset r ∷ qs) e f told stops = broken_is_later p s sent o ps (reset_at r.number r.at) (stops_of qs) e (sym f.0.number) (sym stops)
agree p s t sent (a_reset r ∷ ps) (a_reset u ∷ qs) e f told stops =
    let number : r.number ≡ u.number = cc in
    let place : r.at ≡ u.at = cc in
    let more : stops_of ps ≡ stops_of qs = cc in
    let same : r ≡ u = same_reset p sent r u (told_in ps) (told_in qs) e.0 f.0 number place told in
    let P : Reset → Type 0 = λ x. Follows (behind_the_reset x p) (behind_reset sent) qs t in
    let T : Reset → Type 0 = λ x. told_at_reset r ++ told_in ps ≡ told_at_reset x ++ told_in qs in
    let rest : told_in ps ≡ told_in qs = append_cancel_left (told_at_reset r) (told_in ps) (told_in qs) (subst T (sym same) told) in
    onto (a_reset r) (a_reset u) ps qs s t (ap a_reset same) (agree (behind_the_reset r p) s t (behind_reset sent) ps qs e.1 (subst P (sym same) f.1) rest more)
agree p s t [] (a_line o ∷ ps) (a_line u ∷ qs) e f told stops = absurd e
agree p s t (a_stop ∷ sent) (a_line o ∷ ps) (a_line u ∷ qs) e f told stops = absurd e
agree p s t [] (a_line o ∷ ps) (a_broken u ∷ qs) e f told stops = absurd e
agree p s t (a_stop ∷ sent) (a_line o ∷ ps) (a_broken u ∷ qs) e f told stops = absurd e
agree p s t [] (a_broken o ∷ ps) (a_line u ∷ qs) e f told stops = absurd e
agree p s t (a_stop ∷ sent) (a_broken o ∷ ps) (a_line u ∷ qs) e f told stops = absurd e
agree p s t [] (a_broken o ∷ ps) (a_broken u ∷ qs) e f told stops = absurd e
agree p s t (a_stop ∷ sent) (a_broken o ∷ ps) (a_broken u ∷ qs) e f told stops = absurd e
agree p s t (a_text line ∷ sent) (a_line o ∷ ps) (a_broken u ∷ qs) e f told stops = told_apart p t line sent o u (told_in ps) qs e.0.becomes f.1 told
agree p s t (a_text line ∷ sent) (a_broken o ∷ ps) (a_line u ∷ qs) e f told stops = told_apart p s line sent u o (told_in qs) ps f.0.becomes e.1 (sym told)
agree p s t (a_text line ∷ sent) (a_broken o ∷ ps) (a_broken u ∷ qs) e f told stops =
    let same : o ≡ u = begun_one p line o u e.0.becomes f.0.becomes in
    let P : Outcome → Type 0 = λ x. Follows (behind_broken p x) sent qs t in
    onto (a_broken o) (a_broken u) ps qs s t (ap a_broken same) (agree (behind_broken p o) s t sent ps qs e.1 (subst P (sym same) f.1) told stops)
agree p s t (a_text line ∷ sent) (a_line o ∷ ps) (a_line u ∷ qs) e f told stops =
    let same : o ≡ u = told_one p line o u (told_in ps) (told_in qs) e.0.becomes f.0.becomes told in
    let P : Outcome → Type 0 = λ x. Follows (behind_line p line x) sent qs t in
    let T : Outcome → Type 0 = λ x. tells o.work ++ told_in ps ≡ tells x.work ++ told_in qs in
    let rest : told_in ps ≡ told_in qs = append_cancel_left (tells o.work) (told_in ps) (told_in qs) (subst T (sym same) told) in
    onto (a_line o) (a_line u) ps qs s t (ap a_line same) (agree (behind_line p line o) s t sent ps qs e.1 (subst P (sym same) f.1) rest stops)

pub same_told : (ps qs : List Passed) (replies : List Reply) → IsTold ps replies → IsTold qs replies → told_in ps ≡ told_in qs
same_told ps qs all a b =
    let behind : a.behind ≡ b.behind = (let e = sym a.begins ∙ b.begins in let f : a.behind ≡ b.behind = cc in f) in
    sym a.told ∙ ap without_reports behind ∙ b.told

-- Two courses of the same texts are one, and lead to the same point.
pub one_course : (sent : List Sent) (cancels others : ℕ) (replies : List Reply) (records : List Record) (a : FitsTexts sent cancels replies records) (b : FitsTexts sent others replies records)
    → (a.first ≡ b.first) × (a.course ≡ b.course) × (a.last ≡ b.last)
one_course sent cancels others replies records a b =
    let first : a.first ≡ b.first = one_opening a.first b.first a.opens b.opens in
    let P : State → Type 0 = λ x. Follows (opening x) sent b.course b.last in
    let same = agree (opening a.first) a.last b.last sent a.course b.course a.follows (subst P (sym first) b.follows)
    (same_told a.course b.course replies a.told b.told) (stops_agree a.course b.course origin records a.recorded b.recorded) in
    (first, same.0, same.1)
