-- The texts leave one way on: what goes on from a point goes on by what was told there.
use Rattle.std.proofs.Common.{◌≡◌, ◌≤◌, ℕ, ◌+◌, Bool, true, false, cond, ◌||◌, List, [], ◌∷◌, ◌++◌, inl, inr, refl, sym, ap, ◌∙◌, subst, arith}
use Rattle.std.proofs.lemmas.List.{append_cancel_left}
use Rattle.units.specs.declared.Steps3.{Steps3}
use Rattle.flight.specs.Places.{moved_by}
use Rattle.status_report.specs.declared.Reply.{Reply}
use Rattle.status_report.specs.declared.Reply.TheVariants as replies
use Rattle.step_line.specs.declared.Mark.TheVariants as marks
use Rattle.step_line.specs.declared.Record.{Record}
use Rattle.step_line.specs.declared.Record.TheVariants as kinds
use Rattle.run_rules.specs.Outcomes.{Before}
use Rattle.run_rules.specs.Work.{Outcome, tells}
use Rattle.run_rules.proofs.Answering.{AnswersOrHalts}
use Rattle.run_texts.specs.Courses.{Passed, Reset, Follows, IsReset, behind_cut, behind_the_reset, cuts_in}
use Rattle.run_texts.specs.Courses.Passed.{a_line, a_broken, a_cut, a_reset}
use Rattle.run_texts.specs.Left.{behind_lines}
use Rattle.run_texts.specs.Parts.{Ending, Part, parts_of, onto_first, begun_first, ending_record}
use Rattle.run_texts.specs.Parts.Ending.{by_cut, by_reset, by_end}
use Rattle.run_texts.specs.Points.{Point, BecomesAt, behind_line, behind_broken}
use Rattle.run_texts.specs.Recorded.{AreRecorded}
use Rattle.run_texts.specs.Sent.{Sent, behind_reset}
use Rattle.run_texts.specs.Sent.Sent.{a_text, a_stop}
use Rattle.run_texts.specs.Told.{told_at_reset, told_in}
use Rattle.run_texts.proofs.Determined.{line_answers, not_left}
use Rattle.run_texts.proofs.Errors.{told_one, begun_one}
use Rattle.run_texts.proofs.Leading.{onto_none, onto_more, onto_begun}
use Rattle.run_texts.proofs.Quiet.{opens, Quiet, TellsQuietly, line_quiet}
use Rattle.run_texts.proofs.Stops.{Inside, same_split}
use Rattle.audit_course.specs.SoFar.{GoesTo, EndsLate, is_of_reset, begins_epoch}
use Rattle.audit_course.proofs.FirstPart.{first_part, ending_ends}

-- ---- where a part ends

pub comes_before : (n m : ℕ) (rs : List Record) → n ≤ m → EndsLate m rs → EndsLate n rs
comes_before n m [] few later = tt
comes_before n m (kinds.Mark (marks.Cut k) ∷ rs) few later = omega (arith, few, later)
comes_before n m (kinds.Mark (marks.Reset k) ∷ rs) few later = omega (arith, few, later)
comes_before n m (kinds.Mark (marks.Dwell ms) ∷ rs) few later = comes_before n m rs few later
comes_before n m (kinds.Mark (marks.Spindle code speed) ∷ rs) few later = comes_before n m rs few later
comes_before n m (kinds.Mark (marks.Coolant on) ∷ rs) few later = comes_before n m rs few later
comes_before n m (kinds.Head h ∷ rs) few later = comes_before n m rs few later
comes_before n m (kinds.Event b ∷ rs) few later = comes_before n m rs few later
comes_before n m (kinds.End ∷ rs) few later = tt

pub behind_made : (n : ℕ) (made rs : List Record) → Inside made → EndsLate n rs → EndsLate n (made ++ rs)
behind_made n [] rs inside later = later
behind_made n (kinds.Mark (marks.Cut k) ∷ made) rs inside later = absurd (let e = inside.0 in cc)
behind_made n (kinds.Mark (marks.Reset k) ∷ made) rs inside later = absurd (let e = inside.0 in cc)
behind_made n (kinds.Mark (marks.Dwell ms) ∷ made) rs inside later = behind_made n made rs inside.1 later
behind_made n (kinds.Mark (marks.Spindle code speed) ∷ made) rs inside later = behind_made n made rs inside.1 later
behind_made n (kinds.Mark (marks.Coolant on) ∷ made) rs inside later = behind_made n made rs inside.1 later
behind_made n (kinds.Head h ∷ made) rs inside later = behind_made n made rs inside.1 later
behind_made n (kinds.Event b ∷ made) rs inside later = behind_made n made rs inside.1 later
behind_made n (kinds.End ∷ made) rs inside later = absurd (let e = inside.0 in cc)

pub made_before : (n : ℕ) (mine rs : List Record) → Inside mine → EndsLate n (mine ++ rs) → EndsLate n rs
made_before n [] rs inside later = later
made_before n (kinds.Mark (marks.Cut k) ∷ made) rs inside later = absurd (let e = inside.0 in cc)
made_before n (kinds.Mark (marks.Reset k) ∷ made) rs inside later = absurd (let e = inside.0 in cc)
made_before n (kinds.Mark (marks.Dwell ms) ∷ made) rs inside later = made_before n made rs inside.1 later
made_before n (kinds.Mark (marks.Spindle code speed) ∷ made) rs inside later = made_before n made rs inside.1 later
made_before n (kinds.Mark (marks.Coolant on) ∷ made) rs inside later = made_before n made rs inside.1 later
made_before n (kinds.Head h ∷ made) rs inside later = made_before n made rs inside.1 later
made_before n (kinds.Event b ∷ made) rs inside later = made_before n made rs inside.1 later
made_before n (kinds.End ∷ made) rs inside later = absurd (let e = inside.0 in cc)

-- a cut or a reset, and its number
abbrev pub is_stop : Ending → Bool
is_stop (by_cut k at) = true
is_stop (by_reset r) = true
is_stop by_end = false

abbrev pub number_of : Ending → ℕ
number_of (by_cut k at) = k
number_of (by_reset r) = r.number
number_of by_end = 0

-- so the first part of what goes on is ended late
stops_late : (n : ℕ) (mine behind : List Record) (e : Ending) → Inside mine → is_stop e ≡ true → EndsLate n (mine ++ ending_record e ∷ behind) → n ≤ number_of e + 1
stops_late n mine behind (by_cut k at) inside stops later = made_before n mine (ending_record (by_cut k at) ∷ behind) inside later
stops_late n mine behind (by_reset r) inside stops later = made_before n mine (ending_record (by_reset r) ∷ behind) inside later
stops_late n mine behind by_end inside stops later = absurd cc

abbrev pub first_ending : List Part → Ending
first_ending [] = by_end
first_ending (p ∷ ps) = p.ending

onto_ends : (o : Outcome) (ps : List Part) → first_ending (onto_first o ps) ≡ first_ending ps
onto_ends o [] = refl
onto_ends o (p ∷ ps) = refl

pub begun_ends : (o : Outcome) (ps : List Part) → first_ending (begun_first o ps) ≡ first_ending ps
begun_ends o [] = refl
begun_ends o (p ∷ ps) = refl

-- and no cut and no reset comes of a line before it
pub number_comes : (p last : Point) (sent : List Sent) (ps : List Passed) (e : Ending) → Follows p sent ps last → first_ending (parts_of ps) ≡ e → is_stop e ≡ true → p.before.number ≤ number_of e + 1
number_comes p last sent [] e f is stops = absurd (let g : false ≡ true = ap is_stop is ∙ stops in cc)
number_comes p last sent (a_cut k at ∷ ps) e f is stops = let same : k ≡ number_of e = ap number_of is in let number = f.0.number in omega (arith, same, number)
number_comes p last sent (a_reset r ∷ ps) e f is stops = let same : r.number ≡ number_of e = ap number_of is in let number = f.0.number in omega (arith, same, number)
number_comes p last [] (a_line o ∷ ps) e f is stops = absurd f
number_comes p last (a_stop ∷ sent) (a_line o ∷ ps) e f is stops = absurd f
number_comes p last (a_text line ∷ sent) (a_line o ∷ ps) e f is stops =
    let rest : p.before.number + 1 ≤ number_of e + 1 = number_comes (behind_line p line o) last sent ps e f.1 (sym (onto_ends o (parts_of ps)) ∙ is) stops in
    omega (arith, rest)
number_comes p last [] (a_broken o ∷ ps) e f is stops = absurd f
number_comes p last (a_stop ∷ sent) (a_broken o ∷ ps) e f is stops = absurd f
number_comes p last (a_text line ∷ sent) (a_broken o ∷ ps) e f is stops =
    let rest : p.before.number + 1 ≤ number_of e + 1 = number_comes (behind_broken p o) last sent ps e f.1 (sym (begun_ends o (parts_of ps)) ∙ is) stops in
    omega (arith, rest)

pub line_too_late : {A : Type 0} (p last : Point) (sent : List Sent) (o : Outcome) (ps : List Passed) (e : Ending) → Follows p sent (a_line o ∷ ps) last → first_ending (parts_of (a_line o ∷ ps)) ≡ e → is_stop e ≡ true → p.before.number ≡ number_of e + 1 → A
line_too_late p last [] o ps e f is stops number = absurd f
line_too_late p last (a_stop ∷ sent) o ps e f is stops number = absurd f
line_too_late p last (a_text line ∷ sent) o ps e f is stops number =
    let rest : p.before.number + 1 ≤ number_of e + 1 = number_comes (behind_line p line o) last sent ps e f.1 (sym (onto_ends o (parts_of ps)) ∙ is) stops in
    absurd (omega (arith, rest, number))

pub broken_too_late : {A : Type 0} (p last : Point) (sent : List Sent) (o : Outcome) (ps : List Passed) (e : Ending) → Follows p sent (a_broken o ∷ ps) last → first_ending (parts_of (a_broken o ∷ ps)) ≡ e → is_stop e ≡ true → p.before.number ≡ number_of e + 1 → A
broken_too_late p last [] o ps e f is stops number = absurd f
broken_too_late p last (a_stop ∷ sent) o ps e f is stops number = absurd f
broken_too_late p last (a_text line ∷ sent) o ps e f is stops number =
    let rest : p.before.number + 1 ≤ number_of e + 1 = number_comes (behind_broken p o) last sent ps e f.1 (sym (begun_ends o (parts_of ps)) ∙ is) stops in
    absurd (omega (arith, rest, number))

-- ---- what is told

pub same_opens : (r : Reply) → is_of_reset r ≡ opens r
same_opens replies.Banner = refl
same_opens (replies.Alarm n) = refl
same_opens _ = refl

quiet_begins : (xs ys : List Reply) (r : Reply) → Quiet (xs ++ r ∷ []) → begins_epoch ((xs ++ r ∷ []) ++ ys) ≡ false
quiet_begins [] ys r quiet = same_opens r ∙ quiet.0
quiet_begins (x ∷ xs) ys r quiet = same_opens x ∙ quiet.0

line_begins_none : (b : Before) (o : Outcome) (ys : List Reply) → AnswersOrHalts b o → TellsQuietly o → begins_epoch (tells o.work ++ ys) ≡ false
line_begins_none b o ys (inl once) quiet =
    ap (λ (t : List Reply). begins_epoch (t ++ ys)) once.told ∙ quiet_begins once.body ys o.answer (subst Quiet once.told quiet)
line_begins_none b o ys (inr is) quiet = ap (λ (x : Outcome). begins_epoch (tells x.work ++ ys)) is

-- what is told at a reset begins an epoch
pub reset_begins : (alarm : Bool) (more xs : List Reply) → begins_epoch ((cond alarm (replies.Alarm 3 ∷ []) [] ++ replies.Banner ∷ more) ++ xs) ≡ true
reset_begins true more xs = refl
reset_begins false more xs = refl

-- behind a line that is not answered a reset is told first
pub broken_begins : (p last : Point) (sent : List Sent) (ps : List Passed) → Follows p sent ps last → p.unanswered ≡ true → begins_epoch (told_in ps) ≡ true
broken_begins p last sent [] f begun = absurd (let e : false ≡ true = sym f.1.answered ∙ begun in cc)
broken_begins p last sent (a_cut k at ∷ ps) f begun = broken_begins (behind_cut at p) last sent ps f.1 begun
broken_begins p last sent (a_reset r ∷ ps) f begun = reset_begins r.alarm _ (told_in ps)
broken_begins p last [] (a_line o ∷ ps) f begun = absurd f
broken_begins p last (a_stop ∷ sent) (a_line o ∷ ps) f begun = absurd f
broken_begins p last (a_text line ∷ sent) (a_line o ∷ ps) f begun = absurd (let e : false ≡ true = sym f.0.answered ∙ begun in cc)
broken_begins p last [] (a_broken o ∷ ps) f begun = absurd f
broken_begins p last (a_stop ∷ sent) (a_broken o ∷ ps) f begun = absurd f
broken_begins p last (a_text line ∷ sent) (a_broken o ∷ ps) f begun = absurd (let e : false ≡ true = sym f.0.answered ∙ begun in cc)

-- ---- a line

cut_too_early : {A : Type 0} (p : Point) (k : ℕ) (e : Ending) (place : Steps3) (since begun : List Outcome) (ps : List Passed) (records : List Record) → p.before.number ≡ number_of e + 1 → is_stop e ≡ true
    → first_ending (parts_of ps) ≡ e → EndsLate (p.before.number + 1) records → AreRecorded place (behind_lines since begun (parts_of ps)) records → A
cut_too_early p k e place since begun ps records number stops is later are =
    let f = first_part place since begun ps records are in
    let same : f.part.ending ≡ e = sym (ap first_ending f.parts) ∙ is in
    let late : p.before.number + 1 ≤ number_of f.part.ending + 1 =
    stops_late (p.before.number + 1) f.mine f.behind f.part.ending f.is.inside (ap is_stop same ∙ stops) (subst (EndsLate (p.before.number + 1)) f.split later) in
    let number_same : number_of f.part.ending ≡ number_of e = ap number_of same in
    absurd (omega (arith, late, number, number_same))

line_by : (p last : Point) (since begun : List Outcome) (place : Steps3) (n : ℕ) (kept : List ℕ) (o : Outcome) (more : List Sent) (told : List Reply) (records : List Record) (ps : List Passed)
    → p.before.alarmed ≡ false → BecomesAt true p kept o → EndsLate (p.before.number + 1) records
    → Follows p (a_text kept ∷ more) ps last → tells o.work ++ told ≡ told_in ps → AreRecorded place (behind_lines since begun (parts_of ps)) records → cuts_in ps ≤ n
    → GoesTo (behind_line p kept o) (since ++ o ∷ []) begun place n more told records last
line_by p last since begun place n kept o more told records [] free is later f e are few = not_left p kept more f.1 free
line_by p last since begun place n kept o more told records (a_cut k at ∷ ps) free is later f e are few =
    cut_too_early p k (by_cut k at) place since begun (a_cut k at ∷ ps) records f.0.number refl refl later are
line_by p last since begun place n kept o more told records (a_reset r ∷ ps) free is later f e are few =
    cut_too_early p r.number (by_reset r) place since begun (a_reset r ∷ ps) records (sym f.0.number) refl refl later are
line_by p last since begun place n kept o more told records (a_broken u ∷ ps) free is later f e are few =
    absurd (let g : false ≡ true = sym (line_begins_none p.before o told (line_answers true p kept o is) (line_quiet true p kept o is)) ∙ ap begins_epoch e ∙ broken_begins (behind_broken p u) last more ps f.1 refl in cc)
line_by p last since begun place n kept o more told records (a_line u ∷ ps) free is later f e are few =
    let same : o ≡ u = told_one p kept o u told (told_in ps) is f.0.becomes e in
    record {
      course = ps;
      follows = subst (λ (x : Outcome). Follows (behind_line p kept x) more ps last) (sym same) f.1;
      told = append_cancel_left (tells o.work) told (told_in ps) (e ∙ ap (λ (x : Outcome). tells x.work ++ told_in ps) (sym same));
      recorded = subst (λ (qs : List Part). AreRecorded place qs records) (ap (λ (x : Outcome). behind_lines since begun (onto_first x (parts_of ps))) (sym same) ∙ onto_more since begun o (parts_of ps)) are;
      few = few;
    }

pub forced_line : (p last : Point) (since begun : List Outcome) (place : Steps3) (n : ℕ) (kept : List ℕ) (o : Outcome) (more : List Sent) (told : List Reply) (records : List Record)
    → p.before.alarmed ≡ false → BecomesAt true p kept o → EndsLate (p.before.number + 1) records
    → GoesTo p since begun place n (a_text kept ∷ more) (tells o.work ++ told) records last → GoesTo (behind_line p kept o) (since ++ o ∷ []) begun place n more told records last
forced_line p last since begun place n kept o more told records free is later g = line_by p last since begun place n kept o more told records g.course free is later g.follows g.told g.recorded g.few

-- a line comes next that is answered, where a reply is told first that no reset tells
only_by : (p last : Point) (since begun : List Outcome) (place : Steps3) (kept : List ℕ) (more : List Sent) (r : Reply) (told : List Reply) (records : List Record) (ps : List Passed)
    → p.before.alarmed ≡ false → EndsLate (p.before.number + 1) records → is_of_reset r ≡ false
    → Follows p (a_text kept ∷ more) ps last → ◌≡◌ {A = List Reply} (r ∷ told) (told_in ps) → AreRecorded place (behind_lines since begun (parts_of ps)) records
    → (u : Outcome) × BecomesAt true p kept u × (ys : List Reply) × (◌≡◌ {A = List Reply} (r ∷ told) (tells u.work ++ ys))
only_by p last since begun place kept more r told records [] free later plain f e are = not_left p kept more f.1 free
only_by p last since begun place kept more r told records (a_cut k at ∷ ps) free later plain f e are =
    cut_too_early p k (by_cut k at) place since begun (a_cut k at ∷ ps) records f.0.number refl refl later are
only_by p last since begun place kept more r told records (a_reset u ∷ ps) free later plain f e are =
    cut_too_early p u.number (by_reset u) place since begun (a_reset u ∷ ps) records (sym f.0.number) refl refl later are
only_by p last since begun place kept more r told records (a_broken u ∷ ps) free later plain f e are =
    absurd (let g : false ≡ true = sym plain ∙ ap begins_epoch e ∙ broken_begins (behind_broken p u) last more ps f.1 refl in cc)
only_by p last since begun place kept more r told records (a_line u ∷ ps) free later plain f e are = (u, f.0.becomes, told_in ps, e)

pub only_line : (p last : Point) (since begun : List Outcome) (place : Steps3) (n : ℕ) (kept : List ℕ) (more : List Sent) (r : Reply) (told : List Reply) (records : List Record)
    → p.before.alarmed ≡ false → EndsLate (p.before.number + 1) records → is_of_reset r ≡ false → GoesTo p since begun place n (a_text kept ∷ more) (r ∷ told) records last
    → (u : Outcome) × BecomesAt true p kept u × (ys : List Reply) × (◌≡◌ {A = List Reply} (r ∷ told) (tells u.work ++ ys))
only_line p last since begun place n kept more r told records free later plain g = only_by p last since begun place kept more r told records g.course free later plain g.follows g.told g.recorded

-- ---- a line that is not answered

broken_by : (p last : Point) (since begun : List Outcome) (place : Steps3) (n : ℕ) (kept : List ℕ) (o : Outcome) (more : List Sent) (told : List Reply) (records : List Record) (ps : List Passed)
    → p.before.alarmed ≡ false → BecomesAt false p kept o → EndsLate (p.before.number + 1) records → begins_epoch told ≡ true
    → Follows p (a_text kept ∷ more) ps last → told ≡ told_in ps → AreRecorded place (behind_lines since begun (parts_of ps)) records → cuts_in ps ≤ n
    → GoesTo (behind_broken p o) since (begun ++ o ∷ []) place n more told records last
broken_by p last since begun place n kept o more told records [] free is later begins f e are few = not_left p kept more f.1 free
broken_by p last since begun place n kept o more told records (a_cut k at ∷ ps) free is later begins f e are few =
    cut_too_early p k (by_cut k at) place since begun (a_cut k at ∷ ps) records f.0.number refl refl later are
broken_by p last since begun place n kept o more told records (a_reset r ∷ ps) free is later begins f e are few =
    cut_too_early p r.number (by_reset r) place since begun (a_reset r ∷ ps) records (sym f.0.number) refl refl later are
broken_by p last since begun place n kept o more told records (a_line u ∷ ps) free is later begins f e are few =
    absurd (let g : false ≡ true = sym (line_begins_none p.before u (told_in ps) (line_answers true p kept u f.0.becomes) (line_quiet true p kept u f.0.becomes)) ∙ ap begins_epoch (sym e) ∙ begins in cc)
broken_by p last since begun place n kept o more told records (a_broken u ∷ ps) free is later begins f e are few =
    let same : o ≡ u = begun_one p kept o u is f.0.becomes in
    record {
      course = ps;
      follows = subst (λ (x : Outcome). Follows (behind_broken p x) more ps last) (sym same) f.1;
      told = e;
      recorded = subst (λ (qs : List Part). AreRecorded place qs records) (ap (λ (x : Outcome). behind_lines since begun (begun_first x (parts_of ps))) (sym same) ∙ onto_begun since begun o (parts_of ps)) are;
      few = few;
    }

pub forced_broken : (p last : Point) (since begun : List Outcome) (place : Steps3) (n : ℕ) (kept : List ℕ) (o : Outcome) (more : List Sent) (told : List Reply) (records : List Record)
    → p.before.alarmed ≡ false → BecomesAt false p kept o → EndsLate (p.before.number + 1) records → begins_epoch told ≡ true
    → GoesTo p since begun place n (a_text kept ∷ more) told records last → GoesTo (behind_broken p o) since (begun ++ o ∷ []) place n more told records last
forced_broken p last since begun place n kept o more told records free is later begins g = broken_by p last since begun place n kept o more told records g.course free is later begins g.follows g.told g.recorded g.few

-- ---- a cut

pub cut_is : (k : ℕ) (e : Ending) → ◌≡◌ {A = Record} (kinds.Mark (marks.Cut k)) (ending_record e) → (is_stop e ≡ true) × (number_of e ≡ k)
cut_is k (by_cut j at) is = (refl, cc)
cut_is k (by_reset r) is = absurd cc
cut_is k by_end is = absurd cc

pub reset_is : (k : ℕ) (e : Ending) → ◌≡◌ {A = Record} (kinds.Mark (marks.Reset k)) (ending_record e) → (is_stop e ≡ true) × (number_of e ≡ k)
reset_is k (by_cut j at) is = absurd cc
reset_is k (by_reset r) is = (refl, cc)
reset_is k by_end is = absurd cc

cut_by : (p last : Point) (since begun : List Outcome) (place : Steps3) (n k : ℕ) (more : List Sent) (told : List Reply) (made rest : List Record) (ps : List Passed)
    → Inside made → p.before.number ≡ k + 1
    → Follows p more ps last → told ≡ told_in ps → AreRecorded place (behind_lines since begun (parts_of ps)) (made ++ kinds.Mark (marks.Cut k) ∷ rest) → cuts_in ps ≤ n + 1
    → GoesTo (behind_cut (moved_by place made) p) [] [] (moved_by place made) n more told rest last
cut_by p last since begun place n k more told made rest [] inside number f e are few =
    let same = same_split made are.0 rest are.1 (kinds.Mark (marks.Cut k)) kinds.End inside are.3.inside refl refl are.2 in absurd (let g = same.ending in cc)
cut_by p last since begun place n k more told made rest (a_reset r ∷ ps) inside number f e are few =
    let same = same_split made are.0 rest are.1 (kinds.Mark (marks.Cut k)) (kinds.Mark (marks.Reset r.number)) inside are.3.inside refl refl are.2 in absurd (let g = same.ending in cc)
cut_by p last since begun place n k more told made rest (a_line o ∷ ps) inside number f e are few =
    let g = first_part place since begun (a_line o ∷ ps) (made ++ kinds.Mark (marks.Cut k) ∷ rest) are in
    let same = same_split made g.mine rest g.behind (kinds.Mark (marks.Cut k)) (ending_record g.part.ending) inside g.is.inside refl (ending_ends g.part.ending) g.split in
    let is = cut_is k g.part.ending same.ending in
    line_too_late p last more o ps g.part.ending f (ap first_ending g.parts) is.0 (number ∙ ap (λ (m : ℕ). m + 1) (sym is.1))
cut_by p last since begun place n k more told made rest (a_broken o ∷ ps) inside number f e are few =
    let g = first_part place since begun (a_broken o ∷ ps) (made ++ kinds.Mark (marks.Cut k) ∷ rest) are in
    let same = same_split made g.mine rest g.behind (kinds.Mark (marks.Cut k)) (ending_record g.part.ending) inside g.is.inside refl (ending_ends g.part.ending) g.split in
    let is = cut_is k g.part.ending same.ending in
    broken_too_late p last more o ps g.part.ending f (ap first_ending g.parts) is.0 (number ∙ ap (λ (m : ℕ). m + 1) (sym is.1))
cut_by p last since begun place n k more told made rest (a_cut j at ∷ ps) inside number f e are few =
    let same = same_split made are.0 rest are.1 (kinds.Mark (marks.Cut k)) (kinds.Mark (marks.Cut j)) inside are.3.inside refl refl are.2 in
    let there : moved_by place are.0 ≡ moved_by place made = ap (moved_by place) (sym same.front) in
    let here : at ≡ moved_by place made = are.3.stands ∙ there in
    record {
      course = ps;
      follows = subst (λ (x : Steps3). Follows (behind_cut x p) more ps last) here f.1;
      told = e;
      recorded = subst (λ (qs : List Part). AreRecorded (moved_by place made) qs rest) (sym (onto_none (parts_of ps)))
          (subst (λ (rs : List Record). AreRecorded (moved_by place made) (parts_of ps) rs) (sym same.back) (subst (λ (x : Steps3). AreRecorded x (parts_of ps) are.1) there are.4));
      few = omega (arith, few);
    }

pub forced_cut : (p last : Point) (since begun : List Outcome) (place : Steps3) (n k : ℕ) (more : List Sent) (told : List Reply) (made rest : List Record)
    → Inside made → p.before.number ≡ k + 1
    → GoesTo p since begun place (n + 1) more told (made ++ kinds.Mark (marks.Cut k) ∷ rest) last → GoesTo (behind_cut (moved_by place made) p) [] [] (moved_by place made) n more told rest last
forced_cut p last since begun place n k more told made rest inside number g = cut_by p last since begun place n k more told made rest g.course inside number g.follows g.told g.recorded g.few

-- ---- a reset

same_alarm : (a b : Bool) (more less xs ys : List Reply)
    → (cond a (replies.Alarm 3 ∷ []) [] ++ replies.Banner ∷ more) ++ xs ≡ (cond b (replies.Alarm 3 ∷ []) [] ++ replies.Banner ∷ less) ++ ys → a ≡ b
same_alarm true true more less xs ys e = refl
same_alarm false false more less xs ys e = refl
same_alarm true false more less xs ys e = absurd cc
same_alarm false true more less xs ys e = absurd cc

same_fields : (r u : Reset) → r.number ≡ u.number → r.dropped ≡ u.dropped → r.alarm ≡ u.alarm → r.locked ≡ u.locked → r.at ≡ u.at → r ≡ u
same_fields r u number dropped alarm locked at =
    ap (λ x. record r { number = x }) number
    ∙ ap (λ x. record r { number = u.number; dropped = x }) dropped
    ∙ ap (λ x. record r { number = u.number; dropped = u.dropped; alarm = x }) alarm
    ∙ ap (λ x. record u { locked = x; at = r.at }) locked
    ∙ ap (λ x. record u { at = x }) at

reset_by : (p last : Point) (since begun : List Outcome) (place : Steps3) (n : ℕ) (r : Reset) (sent : List Sent) (told : List Reply) (made rest : List Record) (ps : List Passed)
    → Inside made → IsReset p sent r → r.at ≡ moved_by place made
    → Follows p sent ps last → told_at_reset r ++ told ≡ told_in ps → AreRecorded place (behind_lines since begun (parts_of ps)) (made ++ kinds.Mark (marks.Reset r.number) ∷ rest) → cuts_in ps ≤ n
    → GoesTo (behind_the_reset r p) [] [] r.at n (behind_reset sent) told rest last
reset_by p last since begun place n r sent told made rest [] inside is at f e are few =
    let same = same_split made are.0 rest are.1 (kinds.Mark (marks.Reset r.number)) kinds.End inside are.3.inside refl refl are.2 in absurd (let g = same.ending in cc)
reset_by p last since begun place n r sent told made rest (a_cut k there ∷ ps) inside is at f e are few =
    let same = same_split made are.0 rest are.1 (kinds.Mark (marks.Reset r.number)) (kinds.Mark (marks.Cut k)) inside are.3.inside refl refl are.2 in absurd (let g = same.ending in cc)
reset_by p last since begun place n r sent told made rest (a_line o ∷ ps) inside is at f e are few =
    let g = first_part place since begun (a_line o ∷ ps) (made ++ kinds.Mark (marks.Reset r.number) ∷ rest) are in
    let same = same_split made g.mine rest g.behind (kinds.Mark (marks.Reset r.number)) (ending_record g.part.ending) inside g.is.inside refl (ending_ends g.part.ending) g.split in
    let ends = reset_is r.number g.part.ending same.ending in
    line_too_late p last sent o ps g.part.ending f (ap first_ending g.parts) ends.0 (sym is.number ∙ ap (λ (m : ℕ). m + 1) (sym ends.1))
reset_by p last since begun place n r sent told made rest (a_broken o ∷ ps) inside is at f e are few =
    let g = first_part place since begun (a_broken o ∷ ps) (made ++ kinds.Mark (marks.Reset r.number) ∷ rest) are in
    let same = same_split made g.mine rest g.behind (kinds.Mark (marks.Reset r.number)) (ending_record g.part.ending) inside g.is.inside refl (ending_ends g.part.ending) g.split in
    let ends = reset_is r.number g.part.ending same.ending in
    broken_too_late p last sent o ps g.part.ending f (ap first_ending g.parts) ends.0 (sym is.number ∙ ap (λ (m : ℕ). m + 1) (sym ends.1))
reset_by p last since begun place n r sent told made rest (a_reset u ∷ ps) inside is at f e are few =
    let split = same_split made are.0 rest are.1 (kinds.Mark (marks.Reset r.number)) (kinds.Mark (marks.Reset u.number)) inside are.3.inside refl refl are.2 in
    let number : r.number ≡ u.number = (let g = split.ending in cc) in
    let there : moved_by place are.0 ≡ r.at = ap (moved_by place) (sym split.front) ∙ sym at in
    let place_same : r.at ≡ u.at = sym (are.3.stands ∙ there) in
    let alarm : r.alarm ≡ u.alarm = same_alarm r.alarm u.alarm _ _ told (told_in ps) e in
    let same : r ≡ u = same_fields r u number (is.dropped ∙ sym f.0.dropped) alarm (is.locked ∙ ap (λ (b : Bool). b || p.locked) alarm ∙ sym f.0.locked) place_same in
    record {
      course = ps;
      follows = subst (λ (x : Reset). Follows (behind_the_reset x p) (behind_reset sent) ps last) (sym same) f.1;
      told = append_cancel_left (told_at_reset r) told (told_in ps) (e ∙ ap (λ (x : Reset). told_at_reset x ++ told_in ps) (sym same));
      recorded = subst (λ (qs : List Part). AreRecorded r.at qs rest) (sym (onto_none (parts_of ps)))
          (subst (λ (rs : List Record). AreRecorded r.at (parts_of ps) rs) (sym split.back) (subst (λ (x : Steps3). AreRecorded x (parts_of ps) are.1) there are.4));
      few = few;
    }

pub forced_reset : (p last : Point) (since begun : List Outcome) (place : Steps3) (n : ℕ) (r : Reset) (sent : List Sent) (told : List Reply) (made rest : List Record)
    → Inside made → IsReset p sent r → r.at ≡ moved_by place made
    → GoesTo p since begun place n sent (told_at_reset r ++ told) (made ++ kinds.Mark (marks.Reset r.number) ∷ rest) last → GoesTo (behind_the_reset r p) [] [] r.at n (behind_reset sent) told rest last
forced_reset p last since begun place n r sent told made rest inside is at g = reset_by p last since begun place n r sent told made rest g.course inside is at g.follows g.told g.recorded g.few
