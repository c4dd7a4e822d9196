-- A job whose lines are accepted is carried out whole.
use Rattle.std.specs.Prelude.{replicate, slice_get}
use Rattle.std.proofs.Common.{◌≡◌, ℕ, ◌+◌, ◌≤◌, inl, inr, ◌||◌, ◌&&◌, not, Bool, true, false, cond, List, [], ◌∷◌, ◌++◌, length, map, drop, nat_eq, nat_lt, append-nil, append_assoc, length-append, Some, None, refl, sym, ap, ◌∙◌, subst, arith}
use Rattle.std.specs.declared.option.Option.{Option}
use Rattle.std.specs.List.{AllByRecursion, flat_map, list_any, prefix_len, take_while}
use Rattle.std.specs.Io.KnownBytes.{Consumes, IsAtEnd}
use Rattle.std.proofs.lemmas.Bool.Decides.{nat_tests}
use Rattle.std.proofs.lemmas.List.{nil_from_length, map-append, take_all, take-append-drop, length-map}
use Rattle.std.proofs.lemmas.List.Sums.{sum_by-cons}
use Rattle.outside.specs.Causes.{SourceState}
use Rattle.gcode_words.specs.Stripping.{plain}
use Rattle.system_lines.specs.Commands.{kind_of}
use Rattle.run_rules.specs.declared.State.{State}
use Rattle.run_rules.specs.Lines.{lines_of, whole_lines, onto_first, onto_line}
use Rattle.run_rules.specs.Locking.{BecomesLocked, is_unlock}
use Rattle.run_rules.specs.Readings.{largest_job, job_of}
use Rattle.run_rules.specs.Work.{Outcome, is_limit}
use Rattle.run_rules.specs.Outcomes.{Before, Becomes, ByKept, ByDollar, ByCode, start, after, refused, has_cause, either, most_kept}
use Rattle.run_rules.specs.Outcomes as rules
use Rattle.run_rules.specs.Outcomes.Passed.{a_line as line_passed}
use Rattle.run_rules.proofs.Cutting.{lines_are}
use Rattle.run_rules.proofs.Determined.{one_outcome, one_opening}
use Rattle.run_rules.specs.Told.{is_error, errors_in, limits_in}
use Rattle.run_texts.specs.Besides.{CutsHaveCauses}
use Rattle.run_texts.specs.Courses.{Passed, Follows, lines_in, behind_cut}
use Rattle.run_texts.specs.Courses.Passed.{a_line, a_broken, a_cut, a_reset}
use Rattle.run_texts.specs.Fronts.{BeginsWith}
use Rattle.run_texts.specs.Points.{Point, opening, behind_line, behind_broken}
use Rattle.run_texts.specs.Sent.{Sent, sent_of, sent_by, resets_of, has_reset, behind_reset}
use Rattle.run_texts.specs.Sent.Sent.{a_text, a_stop}
use Rattle.run_status.specs.Setups.{Setup}
use Rattle.host_journal.specs.declared.Reading.{Reading}
use Rattle.host_journal.specs.declared.Reading.TheVariants.{Ended, Failed, Large, Stopped}
use Rattle.host_journal.specs.declared.Stop.TheVariants.{End}
use Rattle.host_journal.specs.Jobs.{ends_sending, ends_in, is_long, is_sent, lines_read, lines_to_send, long_line, served, stop_by, MayHaveRead, MayLeave}
use Rattle.stream_host.specs.Ran.{is_failed}
use Rattle.stream_host.proofs.Pieces.{neither, ends_on, all_are_sent}
use Rattle.run_law.specs.declared.RunEnd.{RunEnd}
use Rattle.run_law.specs.Runs.{Sinks}
use Rattle.epoch_law.specs.Ran.{IsRest}
use Rattle.epoch_law.specs.Runs.{IsRun}
use Rattle.run_status.specs.Complete.{AreServed, IsAcceptedJob, IsComplete}
use Rattle.run_status.proofs.Calm.{AreCalm, IsCalm, calm_both, calm_front, calm_sents, calm_short, holds_reset, lines_calm, nil_calm, no_resets}

-- ---- lines that are accepted

-- no line is refused for the motion
not_busy : (b : Before) (kept : List ℕ) (o : Outcome) → has_cause b (kind_of kept) ≡ false → ByDollar true b kept o → ByDollar false b kept o
not_busy b kept o served (inl busy) = absurd (let e = sym served ∙ busy.cause in cc)
not_busy b kept o served (inr is) = inr is

not_locked : (b : Before) (kept : List ℕ) (o : Outcome) → b.jogged ≡ false → ByCode true b kept o → ByCode false b kept o
not_locked b kept o none (inl locked) = absurd (let e = sym none ∙ locked.cause in cc)
not_locked b kept o none (inr is) = inr is

other_on : (c : Bool) (A B D : Type 0) → (A → B) → either c D A → either c D B
other_on true A B D on is = is
other_on false A B D on is = on is

still_kept : (b : Before) (kept : List ℕ) (o : Outcome) → (slice_get kept 0 ≡ Some 36 → has_cause b (kind_of kept) ≡ false) → b.jogged ≡ false → ByKept true b kept o → ByKept false b kept o
still_kept b [] o served none is = is
still_kept b (c ∷ cs) o served none is = by_first (nat_eq c 36) refl is
  where
    by_first : (t : Bool) → nat_eq c 36 ≡ t → either t (ByDollar true b (c ∷ cs) o) (ByCode true b (c ∷ cs) o)
        → either t (ByDollar false b (c ∷ cs) o) (ByCode false b (c ∷ cs) o)
    by_first true e is = let dollar : c ≡ 36 = grind (arith, nat_tests) in not_busy b (c ∷ cs) o (served (ap Some dollar)) is
    by_first false e is = not_locked b (c ∷ cs) o none is

still : (b : Before) (kept : List ℕ) (o : Outcome) → (slice_get kept 0 ≡ Some 36 → has_cause b (kind_of kept) ≡ false) → b.jogged ≡ false → Becomes true b kept o → Becomes false b kept o
still b kept o served none is =
    other_on (nat_lt most_kept (length kept)) (ByKept true b kept o) (ByKept false b kept o) (o ≡ refused b 11) (still_kept b kept o served none) is

both : (t : Bool) {A : Type 0} → t ≡ true → t ≡ false → A
both t e f = absurd (let g = sym e ∙ f in cc)

-- where nothing of a sum counts, its first does not
first_none : (t : Bool) (n m : ℕ) → n ≡ cond {A = ℕ} t 1 0 + m → n ≡ 0 → (t ≡ false) × (m ≡ 0)
first_none true n m e none = absurd (omega arith)
first_none false n m e none = (refl, omega arith)

-- ---- a course of such lines, of which no reset comes

pub no_stop : (ls : List (List ℕ)) → has_reset (map a_text ls) ≡ false
no_stop [] = refl
no_stop (l ∷ ls) = no_stop ls

-- none of them is left without an answer
pub none_broken : {A : Type 0} (p last : Point) (ls : List (List ℕ)) (ps : List Passed) → p.unanswered ≡ true → Follows p (map a_text ls) ps last → A
none_broken p last ls [] begun g = both p.unanswered begun g.1.answered
none_broken p last ls (a_cut k at ∷ ps) begun g = none_broken (behind_cut at p) last ls ps begun g.1
none_broken p last ls (a_reset r ∷ ps) begun g = both (has_reset (map a_text ls)) g.0.comes (no_stop ls)
none_broken p last [] (a_line o ∷ ps) begun g = absurd g
none_broken p last (l ∷ ls) (a_line o ∷ ps) begun g = both p.unanswered begun g.0.answered
none_broken p last [] (a_broken o ∷ ps) begun g = absurd g
none_broken p last (l ∷ ls) (a_broken o ∷ ps) begun g = both p.unanswered begun g.0.answered

-- behind the last of them cuts alone are passed
behind_all : (p last : Point) (ps : List Passed) → p.before.alarmed ≡ false → Follows p [] ps last → (last.before.alarmed ≡ false) × (lines_in ps ≡ [])
behind_all p last [] free g = (ap (λ (x : Point). x.before.alarmed) g.0 ∙ free, refl)
behind_all p last (a_cut k at ∷ ps) free g = behind_all (behind_cut at p) last ps free g.1
behind_all p last (a_reset r ∷ ps) free g = absurd (let e = g.0.comes in cc)
behind_all p last (a_line o ∷ ps) free g = absurd g
behind_all p last (a_broken o ∷ ps) free g = absurd g

none_more : (b t : Before) (more : List (List ℕ)) (os : List Outcome) → more ≡ [] → rules.Follows false b more (map line_passed os) t → os ≡ []
none_more b t [] [] none f = refl
none_more b t [] (o ∷ os) none f = absurd f
none_more b t (l ∷ ls) os none f = absurd cc

some_left : (c : Bool) (sent : List Sent) → c ≡ false → either c (behind_reset sent ≡ []) (sent ≡ []) → sent ≡ []
some_left false sent e is = is
some_left true sent e is = absurd cc

unlocked_becomes : (c : Bool) (A B : Type 0) → c ≡ false → either c A B → B
unlocked_becomes false A B e is = is
unlocked_becomes true A B e is = absurd cc

-- Of the first of these lines each becomes the same, and none raises an alarm; of all of them if they are all.
same_course : (p last : Point) (t : Before) (ls more : List (List ℕ)) (os : List Outcome) (ps : List Passed) → p.locked ≡ false → p.before.alarmed ≡ false
    → rules.Follows false p.before (ls ++ more) (map line_passed os) t → AreServed p.before (ls ++ more) os → limits_in os ≡ 0
    → Follows p (map a_text ls) ps last → CutsHaveCauses p (map a_text ls) ps → (last.before.alarmed ≡ false) × (more ≡ [] → lines_in ps ≡ os)
same_course p last t [] more os ps unlocked free f served none g causes =
    let rest = behind_all p last ps free g in
    (rest.0, λ all. rest.1 ∙ sym (none_more p.before t more os all f))
same_course p last t (l ∷ ls) more [] ps unlocked free f served none g causes = absurd f
same_course p last t (l ∷ ls) more (o ∷ os) [] unlocked free f served none g causes =
    absurd (let e = some_left p.before.alarmed (map a_text (l ∷ ls)) free g.1.rest in cc)
same_course p last t (l ∷ ls) more (o ∷ os) (a_cut k at ∷ ps) unlocked free f served none g causes = both p.before.jogged causes.0 served.1
same_course p last t (l ∷ ls) more (o ∷ os) (a_reset r ∷ ps) unlocked free f served none g causes = both (has_reset (map a_text (l ∷ ls))) g.0.comes (no_stop (l ∷ ls))
same_course p last t (l ∷ ls) more (o ∷ os) (a_broken x ∷ ps) unlocked free f served none g causes = none_broken (behind_broken p x) last ls ps refl g.1
same_course p last t (l ∷ ls) more (o ∷ os) (a_line x ∷ ps) unlocked free f served none g causes =
    let becomes : Becomes true p.before l x = unlocked_becomes p.locked (BecomesLocked p.before l x) (Becomes true p.before l x) unlocked g.0.becomes in
    let one : x ≡ o = one_outcome p.before l x o (still p.before l x served.0 served.1 becomes) f.0.becomes in
    let parts = first_none (is_limit o.answer) (limits_in (o ∷ os)) (limits_in os) (sum_by-cons (λ (y : Outcome). cond (is_limit y.answer) 1 0) o os) none in
    let rest = same_course (behind_line p l o) last t ls more os ps (ap (λ c. c && not (is_unlock (kind_of l))) unlocked) parts.0 f.1 served.2 parts.1
    (subst (λ (q : Outcome). Follows (behind_line p l q) (map a_text ls) ps last) one g.1)
    (subst (λ (q : Outcome). CutsHaveCauses (behind_line p l q) (map a_text ls) ps) one causes) in
    (rest.0, λ all. ap (λ (q : Outcome). q ∷ lines_in ps) one ∙ ap (λ (qs : List Outcome). o ∷ qs) (rest.1 all))

-- ---- such lines are short

-- a line with too many bytes is an error
error_11 : (c : Bool) (b : Before) (o : Outcome) (D : Type 0) → either c (o ≡ refused b 11) D → is_error o.answer ≡ false → c ≡ false
error_11 false b o D is none = refl
error_11 true b o D is none = absurd (let e = sym none ∙ ap (λ (x : Outcome). is_error x.answer) is in cc)

short_kept : (line : List ℕ) → IsCalm line → nat_lt most_kept (length (plain line)) ≡ false → is_long line ≡ false
short_kept line calm e = calm_short line calm (under (length (plain line)) e)
  where
    under : (n : ℕ) → nat_lt 79 n ≡ false → nat_lt 127 n ≡ false
    under n e = grind (arith, nat_tests)

short_lines : (b t : Before) (ls : List (List ℕ)) (os : List Outcome) → AreCalm ls → rules.Follows false b (map plain ls) (map line_passed os) t → errors_in os ≡ 0
    → AllByRecursion (λ l. ends_sending l ≡ false) ls
short_lines b t [] os calm f none = tt
short_lines b t (l ∷ ls) [] calm f none = absurd f
short_lines b t (l ∷ ls) (o ∷ os) calm f none =
    let each = neither (holds_reset l) (list_any holds_reset ls) calm in
    let parts = first_none (is_error o.answer) (errors_in (o ∷ os)) (errors_in os) (sum_by-cons (λ (x : Outcome). cond (is_error x.answer) 1 0) o os) none in
    (short_kept l each.0 (error_11 (nat_lt most_kept (length (plain l))) b o (ByKept false b (plain l) o) f.0.becomes parts.0), short_lines (after b o) t ls os each.1 f.1 parts.1)

outcomes_many : (b t : Before) (ls : List (List ℕ)) (os : List Outcome) → rules.Follows false b ls (map line_passed os) t → length os ≡ length ls
outcomes_many b t [] [] f = refl
outcomes_many b t [] (o ∷ os) f = absurd f
outcomes_many b t (l ∷ ls) [] f = absurd f
outcomes_many b t (l ∷ ls) (o ∷ os) f = let more = outcomes_many (after b o) t ls os f.1 in omega (arith, more)

-- ---- a front of such a job

-- each line of a front begins a line of the text
abbrev pub AreFronts : List (List ℕ) → List (List ℕ) → Type 0
AreFronts [] ys = Unit {0}
AreFronts (l ∷ ls) [] = ⊥
AreFronts (l ∷ ls) (m ∷ ms) = BeginsWith m l × AreFronts ls ms

longer : (c : ℕ) (m l : List ℕ) → BeginsWith m l → BeginsWith (c ∷ m) (c ∷ l)
longer c m l b = record { rest = b.rest; is = ap (λ (x : List ℕ). c ∷ x) b.is }

onto_fronts : (c : ℕ) (ls ms : List (List ℕ)) → AreFronts ls ms → AreFronts (onto_first c ls) (onto_first c ms)
onto_fronts c [] [] f = (record { rest = []; is = refl }, tt)
onto_fronts c [] (m ∷ ms) f = (record { rest = m; is = refl }, tt)
onto_fronts c (l ∷ ls) [] f = absurd f
onto_fronts c (l ∷ ls) (m ∷ ms) f = (longer c m l f.0, f.1)

one_front : (t : Bool) (c : ℕ) (ls ms : List (List ℕ)) → AreFronts ls ms → AreFronts (cond t ([] ∷ ls) (onto_first c ls)) (cond t ([] ∷ ms) (onto_first c ms))
one_front true c ls ms f = (record { rest = []; is = refl }, f)
one_front false c ls ms f = onto_fronts c ls ms f

pub lines_front : (text more : List ℕ) → AreFronts (lines_of text) (lines_of (text ++ more))
lines_front [] more = tt
lines_front (c ∷ cs) more = one_front (nat_eq c 10) c (lines_of cs) (lines_of (cs ++ more)) (lines_front cs more)

-- a line whose longer one is short is short
short_front : (m l : List ℕ) → BeginsWith m l → ends_sending m ≡ false → ends_sending l ≡ false
short_front m l b short = by_test (ends_sending l) refl
  where
    by_test : (t : Bool) → ends_sending l ≡ t → t ≡ false
    by_test false e = refl
    by_test true e = absurd (let f = sym short ∙ ap ends_sending b.is ∙ ends_on l b.rest e in cc)

short_fronts : (ls ms : List (List ℕ)) → AreFronts ls ms → AllByRecursion (λ l. ends_sending l ≡ false) ms → list_any ends_sending ls ≡ false
short_fronts [] ms f short = refl
short_fronts (l ∷ ls) [] f short = absurd f
short_fronts (l ∷ ls) (m ∷ ms) f short = rw (short_front m l f.0 short.0) (short_fronts ls ms f.1 short.1)

pub none_ends_in : (bytes text left : List ℕ) → bytes ≡ text ++ left → AllByRecursion (λ l. ends_sending l ≡ false) (lines_of bytes) → ends_in text ≡ false
none_ends_in bytes text left is short =
    short_fronts (lines_of text) (lines_of bytes) (subst (λ (x : List ℕ). AreFronts (lines_of text) (lines_of x)) (sym is) (lines_front text left)) short

-- one whose longer one has no reset has none
calm_fronts : (ls ms : List (List ℕ)) → AreFronts ls ms → AreCalm ms → AreCalm ls
calm_fronts [] ms f calm = refl
calm_fronts (l ∷ ls) [] f calm = absurd f
calm_fronts (l ∷ ls) (m ∷ ms) f calm =
    let each = neither (holds_reset m) (list_any holds_reset ms) calm in
    let first : IsCalm l = calm_front l f.0.rest (subst IsCalm f.0.is each.0) in
    ap (λ b. b || list_any holds_reset ls) first ∙ calm_fronts ls ms f.1 each.1

calm_text : (bytes text left : List ℕ) → bytes ≡ text ++ left → AreCalm (lines_of bytes) → AreCalm (lines_of text)
calm_text bytes text left is calm =
    calm_fronts (lines_of text) (lines_of bytes) (subst (λ (x : List ℕ). AreFronts (lines_of text) (lines_of x)) (sym is) (lines_front text left)) calm

-- nor has the rest of such a text, and of its lines come these lines alone
pub calm_sending : (scanned : List ℕ) (ls : List (List ℕ)) (rest : List ℕ) → AreCalm (lines_of scanned) → IsRest scanned ls rest → sent_of ls rest ≡ map a_text (map plain ls)
calm_sending scanned ls rest calm (inl is) =
    let e = lines_are scanned ls rest is in
    let each = calm_both ls (cond (nat_lt 0 (length rest)) (rest ∷ []) []) (subst AreCalm e calm) in
    ap (λ n. flat_map sent_by ls ++ replicate n a_stop) (by_length (nat_lt 0 (length rest)) refl each.1) ∙ append-nil (flat_map sent_by ls) ∙ calm_sents ls each.0
  where
    none : (xs : List ℕ) → nat_lt 0 (length xs) ≡ false → IsCalm xs
    none [] e = nil_calm
    none (x ∷ xs) e = let none_long : length (x ∷ xs) ≡ 0 = grind (arith, nat_tests, e) in absurd (omega (arith, none_long))

    by_length : (t : Bool) → nat_lt 0 (length rest) ≡ t → AreCalm (cond t (rest ∷ []) []) → resets_of rest ≡ 0
    by_length true e c = no_resets rest (neither (holds_reset rest) false c).0
    by_length false e c = no_resets rest (none rest e)
calm_sending scanned ls rest calm (inr over) =
    ap (λ n. flat_map sent_by ls ++ replicate n a_stop) (no_resets rest (subst IsCalm (sym over.1) nil_calm)) ∙ append-nil (flat_map sent_by ls) ∙ calm_sents ls (subst AreCalm over.0 calm)

-- ---- the run

-- what was read is a front of the job, and all of it where nothing is left
pub read_front : (was is : Option (List ℕ)) (bytes read : List ℕ) → was ≡ Some bytes → Consumes was is read → BeginsWith bytes read × (IsAtEnd is → bytes ≡ read)
read_front None is bytes read told taken = absurd cc
read_front (Some xs) None bytes read told taken = absurd taken
read_front (Some xs) (Some ys) bytes read told taken =
    let e : bytes ≡ xs = cc in
    (record { rest = ys; is = e ∙ taken }, λ at_end. e ∙ taken ∙ ap (λ (y : List ℕ). read ++ y) at_end ∙ append-nil read)

pub whole_job : (read : List ℕ) → length read ≤ largest_job → job_of read ≡ read
whole_job read few = take_all largest_job read few

stops_at_end : (r : Reading) (text : List ℕ) → r ≡ Ended → ends_in text ≡ false → stop_by r text ≡ End
stops_at_end r text e none = ap (λ q. stop_by q text) e ∙ ap (λ b. cond b (long_line (lines_of text)) End) none

-- how the reading of such a job ends
ended : (r : Reading) (n : ℕ) (text left : List ℕ) → MayHaveRead r n → n ≤ largest_job → is_failed r ≡ false → (ends_in text ≡ false → MayLeave r left) → ends_in text ≡ false → r ≡ Ended
ended Ended n text left fits few well leaves none = refl
ended Failed n text left fits few well leaves none = absurd cc
ended Large n text left fits few well leaves none = absurd (let m = fits.0 in omega arith)
ended Stopped n text left fits few well leaves none = absurd (leaves none)

-- ---- the lines that were sent are a front of the job's

pub begins_on : {A : Type 0} (whole mid front : List A) → BeginsWith whole mid → BeginsWith mid front → BeginsWith whole front
begins_on whole mid front b c = record { rest = c.rest ++ b.rest; is = b.is ∙ ap (λ xs. xs ++ b.rest) c.is ∙ append_assoc front c.rest b.rest }

pub begins_by : {A : Type 0} (whole same front : List A) → same ≡ whole → BeginsWith whole front → BeginsWith same front
begins_by whole same front e b = record { rest = b.rest; is = e ∙ b.is }

-- the lines of a text begin the lines of one that goes on
onto_more : (c : ℕ) (lines more : List (List ℕ)) → BeginsWith (onto_line c (lines ++ more)) (onto_line c lines)
onto_more c [] more = record { rest = onto_line c more; is = refl }
onto_more c (l ∷ ls) more = record { rest = more; is = refl }

onto_begins : (c : ℕ) (whole front : List (List ℕ)) → BeginsWith whole front → BeginsWith (onto_line c whole) (onto_line c front)
onto_begins c whole front b = begins_by (onto_line c (front ++ b.rest)) (onto_line c whole) (onto_line c front) (ap (onto_line c) b.is) (onto_more c front b.rest)

one_more : (t : Bool) (c : ℕ) (whole front : List (List ℕ)) → BeginsWith whole front
    → BeginsWith (cond t ([] ∷ whole) (onto_line c whole)) (cond t ([] ∷ front) (onto_line c front))
one_more true c whole front b = record { rest = b.rest; is = ap (λ (ls : List (List ℕ)). [] ∷ ls) b.is }
one_more false c whole front b = onto_begins c whole front b

lines_more : (text more : List ℕ) → BeginsWith (whole_lines (text ++ more)) (whole_lines text)
lines_more [] more = record { rest = whole_lines more; is = refl }
lines_more (c ∷ cs) more = one_more (nat_eq c 10) c (whole_lines (cs ++ more)) (whole_lines cs) (lines_more cs more)

pub lines_begin : (whole front : List ℕ) → BeginsWith whole front → BeginsWith (whole_lines whole) (whole_lines front)
lines_begin whole front b = begins_by (whole_lines (front ++ b.rest)) (whole_lines whole) (whole_lines front) (ap whole_lines b.is) (lines_more front b.rest)

-- the lines of a text that are ended by LF begin all of its lines
whole_front : (text : List ℕ) → BeginsWith (lines_of text) (whole_lines text)
whole_front [] = record { rest = []; is = refl }
whole_front (c ∷ cs) = by_test (nat_eq c 10) (lines_of cs) (whole_lines cs) (whole_front cs)
  where
    onto_begins : (all front : List (List ℕ)) → BeginsWith all front → BeginsWith (onto_first c all) (onto_line c front)
    onto_begins all [] b = record { rest = onto_first c all; is = refl }
    onto_begins all (l ∷ ls) b = record { rest = b.rest; is = ap (onto_first c) b.is }

    by_test : (t : Bool) (all front : List (List ℕ)) → BeginsWith all front → BeginsWith (cond t ([] ∷ all) (onto_first c all)) (cond t ([] ∷ front) (onto_line c front))
    by_test true all front b = record { rest = b.rest; is = ap (λ (ls : List (List ℕ)). [] ∷ ls) b.is }
    by_test false all front b = onto_begins all front b

-- so the lines of what was read of a job begin those of the job
read_lines : (r : Reading) (bytes read : List ℕ) → BeginsWith bytes read → (r ≡ Ended → bytes ≡ read) → BeginsWith (lines_of bytes) (lines_read r read)
read_lines Ended bytes read begins all = record { rest = []; is = ap lines_of (all refl) ∙ sym (append-nil (lines_of read)) }
read_lines _ bytes read begins all = begins_on (lines_of bytes) (whole_lines bytes) (whole_lines read) (whole_front bytes) (lines_begin bytes read begins)

while_front : (p : List ℕ → Bool) (lines : List (List ℕ)) → BeginsWith lines (take_while p lines)
while_front p lines = record { rest = drop (prefix_len p lines) lines; is = sym (take-append-drop (prefix_len p lines) lines) }

-- and so do those that were sent of it
sent_front : (r : Reading) (bytes read : List ℕ) (lines later : List (List ℕ)) → BeginsWith bytes read → (r ≡ Ended → bytes ≡ read) → lines_to_send r read ≡ lines ++ later → BeginsWith (lines_of bytes) lines
sent_front r bytes read lines later begins all sent =
    begins_on (lines_of bytes) (lines_read r read) lines (read_lines r bytes read begins all)
    (begins_on (lines_read r read) (take_while is_sent (lines_read r read)) lines (while_front is_sent (lines_read r read)) (record { rest = later; is = sent }))

none_behind : (whole front rest : List (List ℕ)) → whole ≡ front ++ rest → front ≡ whole → rest ≡ []
none_behind whole front rest is same =
    nil_from_length rest (let e = ap length is in let a = length-append front rest in let s = ap length same in omega (arith, e, a, s))

pub complete : (setup : Setup) (job_was job_is : SourceState) (was is : Sinks) (end : RunEnd) (run : IsRun setup.attended setup.room setup.blocks setup.form job_was job_is was is end) (job : IsAcceptedJob job_was)
    → end.source_failed ≡ false → IsComplete job.bytes run.read run.lines job.outcomes (lines_in run.fits.course) end
complete setup job_was job_is was is end run job well =
    let front = read_front job_was.left job_is.left job.bytes run.read job.told run.sending.taken in
    let few : length run.read ≤ largest_job =
    (let e = ap length front.0.is in let a = length-append run.read front.0.rest in let f = job.few in omega arith) in
    let so_far = run.sending.so_far in
    let calm : AreCalm (lines_of job.bytes) = lines_calm (lines_of job.bytes) job.going in
    let short = short_lines (start job.first) job.last (lines_of job.bytes) job.outcomes calm job.follows job.accepted in
    let scanned : job.bytes ≡ run.scanned ++ (so_far.scans.left ++ front.0.rest) =
    front.0.is ∙ ap (λ (x : List ℕ). x ++ front.0.rest) (sym (whole_job run.read few) ∙ so_far.scans.front)
    ∙ append_assoc run.scanned so_far.scans.left front.0.rest in
    let none : ends_in run.scanned ≡ false = none_ends_in job.bytes run.scanned (so_far.scans.left ++ front.0.rest) scanned short in
    let first : run.fits.first ≡ job.first = one_opening run.fits.first job.first run.fits.opens job.opening in
    let begins : BeginsWith (lines_of job.bytes) run.lines =
    sent_front run.reading job.bytes run.read run.lines so_far.later front.0 (λ over. front.1 (run.sending.at_end over)) (ap (lines_to_send run.reading) (sym (whole_job run.read few)) ∙ so_far.sent) in
    let apart : map plain (lines_of job.bytes) ≡ map plain run.lines ++ map plain begins.rest = ap (map plain) begins.is ∙ map-append plain run.lines begins.rest in
    let sent_is : sent_of run.lines run.rest ≡ map a_text (map plain run.lines) =
    calm_sending run.scanned run.lines run.rest (calm_text job.bytes run.scanned (so_far.scans.left ++ front.0.rest) scanned calm) run.sending.is_rest in
    let course = same_course (opening job.first) run.fits.last job.last (map plain run.lines) (map plain begins.rest) job.outcomes run.fits.course refl refl
    (subst (λ (ls : List (List ℕ)). rules.Follows false (start job.first) ls (map line_passed job.outcomes) job.last) apart job.follows)
    (subst (λ (ls : List (List ℕ)). AreServed (start job.first) ls job.outcomes) apart job.served) job.calm
    (subst (λ (s : State). Follows (opening s) (map a_text (map plain run.lines)) run.fits.course run.fits.last) first
    (subst (λ (ss : List Sent). Follows (opening run.fits.first) ss run.fits.course run.fits.last) sent_is run.fits.follows))
    (subst (λ (s : State). CutsHaveCauses (opening s) (map a_text (map plain run.lines)) run.fits.course) first
    (subst (λ (ss : List Sent). CutsHaveCauses (opening run.fits.first) ss run.fits.course) sent_is run.causes.cuts)) in
    let sent = run.sending.sent (run.telling.alarm ∙ course.0) in
    let over : run.reading ≡ Ended = ended run.reading (length run.read) run.scanned sent.scans.scans.left sent.fits few (sym run.ending.failed ∙ well) sent.scans.whole none in
    let all : run.read ≡ job.bytes = sym (front.1 (run.sending.at_end over)) in
    let all_lines : run.lines ≡ lines_of job.bytes =
    sent.sent ∙ ap (λ r. lines_to_send r (job_of run.read)) over ∙ ap (lines_to_send Ended) (whole_job run.read few ∙ all) ∙ all_are_sent Ended job.bytes short in
    let same : lines_in run.fits.course ≡ job.outcomes = course.1 (ap (map plain) (none_behind (lines_of job.bytes) run.lines begins.rest begins.is all_lines)) in
    let limits : limits_in (lines_in run.fits.course) ≡ 0 = ap limits_in same ∙ job.calm in
    let many : length (lines_in run.fits.course) ≡ length run.lines =
    ap length same ∙ outcomes_many (start job.first) job.last (map plain (lines_of job.bytes)) job.outcomes job.follows ∙ length-map (lines_of job.bytes) plain ∙ ap length (sym all_lines) in
    record {
      stop = sent.cause ∙ stops_at_end run.reading run.scanned over none;
      answered = (let each = run.telling.each in omega (arith, each, limits, many));
      errors = run.telling.errors ∙ ap errors_in same ∙ job.accepted;
      all = all;
      sent = all_lines;
      same = same;
    }
