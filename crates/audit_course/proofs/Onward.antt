-- What comes next of texts that go on from a point.
use Rattle.std.proofs.Common.{◌≡◌, ◌≢◌, ◌≤◌, ◌⊎◌, ℕ, ◌+◌, Bool, true, false, cond, ◌||◌, List, [], ◌∷◌, ◌++◌, append-nil, append_assoc, inl, inr, length, map, refl, sym, ap, ◌∙◌, subst, arith}
use Rattle.std.proofs.lemmas.List.{append_cancel_left}
use Rattle.units.specs.declared.Steps3.{Steps3}
use Rattle.flight.specs.Places.{moved_by}
use Rattle.legal_heads.specs.declared.ToldHead.{ToldHead}
use Rattle.status_report.specs.declared.Message.TheVariants.{Locked}
use Rattle.status_report.specs.declared.Reply.{Reply}
use Rattle.status_report.specs.declared.Reply.TheVariants.{Alarm, Banner, Message}
use Rattle.step_line.specs.Asking.{ticks_among, ticks_of_all}
use Rattle.step_line.specs.Events.{events_after}
use Rattle.step_line.specs.declared.Mark.TheVariants as marks
use Rattle.step_line.specs.declared.Record.{Record}
use Rattle.step_line.specs.declared.Record.TheVariants as kinds
use Rattle.step_line.specs.declared.planned_move.PlannedMove.{PlannedMove}
use Rattle.step_line.proofs.Order.{length_after}
use Rattle.run_rules.specs.Outcomes.{Before, either}
use Rattle.run_rules.specs.Work.{Outcome, Task, asks, tells}
use Rattle.run_rules.proofs.Answering.{AnswersOrHalts}
use Rattle.run_texts.specs.Courses.{Passed, Reset, Follows, IsCut, IsReset, behind_cut, behind_the_reset, cuts_in}
use Rattle.run_texts.specs.Courses.Passed.{a_line, a_broken, a_cut, a_reset}
use Rattle.run_texts.specs.Left.{behind_lines, part_of}
use Rattle.run_texts.specs.Making.{Making, IsMade, Comes}
use Rattle.run_texts.specs.Parts.{Ending, Part, parts_of, onto_first, begun_first, ending_record, is_ending, lines_counted}
use Rattle.run_texts.specs.Parts.Ending.{by_cut, by_reset, by_end}
use Rattle.run_texts.specs.Points.{Point, IsPassed, IsBroken, behind_line, behind_broken}
use Rattle.run_texts.specs.Recorded.{AreRecorded, IsRecorded, ticks_for_all}
use Rattle.run_texts.specs.Sent.{Sent, waiting_in, has_reset, behind_reset}
use Rattle.run_texts.specs.Sent.Sent.{a_text, a_stop}
use Rattle.run_texts.specs.SoFar.{AreMadeSoFar}
use Rattle.run_texts.specs.Told.{told_at_reset, told_in}
use Rattle.run_texts.proofs.Determined.{line_answers}
use Rattle.run_texts.proofs.Events.{ticks_on}
use Rattle.run_texts.proofs.Leading.{onto_none, onto_more, onto_begun}
use Rattle.run_texts.proofs.Making.{before_record, finished}
use Rattle.run_texts.proofs.Quiet.{Quiet, TellsQuietly, line_quiet}
use Rattle.run_texts.proofs.Stops.{Inside, SameSplit, same_split}
use Rattle.part_making.specs.Judging.{Known, making, all_ticks, owed_of, rest_of}
use Rattle.audit_course.specs.SoFar.{GoesTo, EndsLate, begins_epoch, cuts_among, is_of_reset}
use Rattle.audit_course.proofs.Counting.{cuts_on, no_cut}
use Rattle.audit_course.proofs.FirstPart.{IsMadeOf, ending_ends, first_part, front_made, holds_front}
use Rattle.audit_course.proofs.Forced.{behind_made, begun_ends, broken_begins, comes_before, first_ending, is_stop, made_before, number_comes, number_of, same_opens}
use Rattle.audit_course.proofs.Parting.{none_of}

-- ---- what may come

-- Line n is begun there, and a reset keeps it from its answer: if this record ends the part, it is the mark of the cut that
-- drops the line, or of that reset.
abbrev pub MayBeOfBroken : ℕ → Record → Type 0
MayBeOfBroken n (kinds.Mark (marks.Cut k)) = k ≡ n
MayBeOfBroken n (kinds.Mark (marks.Reset k)) = k ≡ n
MayBeOfBroken n kinds.End = ⊥
MayBeOfBroken n _ = Unit {0}

-- A line comes that is answered, or raises an alarm: its first reply is told next.
pub record ComesLine (p : Point) (more : List Sent) (told : List Reply) (r : Record) (rest : List Record) : Type 0 where
  pub kept : List ℕ
  pub outcome : Outcome
  pub behind : List Sent
  pub sent_are : more ≡ a_text kept ∷ behind
  pub is : IsPassed p kept outcome
  pub first : Reply
  pub others : List Reply
  pub told_are : told ≡ first ∷ others
  pub of_line : is_of_reset first ≡ false
  pub late : EndsLate (p.before.number + 1) (r ∷ rest)

-- A line comes that a reset keeps from its answer.
pub record ComesBroken (p : Point) (more : List Sent) (told : List Reply) (r : Record) (rest : List Record) : Type 0 where
  pub kept : List ℕ
  pub outcome : Outcome
  pub behind : List Sent
  pub sent_are : more ≡ a_text kept ∷ behind
  pub is : IsBroken p kept outcome
  pub begins : begins_epoch told ≡ true
  pub late : EndsLate (p.before.number + 1) (r ∷ rest)
  pub ending : MayBeOfBroken p.before.number r

-- a cut comes, and its mark
pub record ComesCut (p : Point) (r : Record) (rest : List Record) : Type 0 where
  pub k : ℕ
  pub mark : r ≡ kinds.Mark (marks.Cut k)
  pub is : IsCut p k
  pub late : EndsLate p.before.number rest

-- a reset comes behind some lines that it drops, its mark, and what is told at it
pub record ComesReset (p : Point) (more : List Sent) (told : List Reply) (r : Record) (rest : List Record) : Type 0 where
  pub k : ℕ
  pub alarm : Bool
  pub lines : List (List ℕ)
  pub behind : List Sent
  pub others : List Reply
  pub mark : r ≡ kinds.Mark (marks.Reset k)
  pub free : p.before.alarmed ≡ false
  pub cause : alarm ≡ true → (p.before.moved || p.before.jog_moved) ≡ true
  pub number : k + 1 ≡ p.before.number
  pub sent_are : more ≡ map a_text lines ++ a_stop ∷ behind
  pub told_are : told ≡ (cond alarm (Alarm 3 ∷ []) [] ++ Banner ∷ cond (alarm || p.locked) (Message Locked ∷ []) []) ++ others
  pub late : EndsLate (p.before.number + length lines) rest

-- The end comes where the course stands: all is sent, or lines are left that wait behind an alarm.
pub record ComesEnd (p last : Point) (more : List Sent) (told : List Reply) (r : Record) (rest : List Record) : Type 0 where
  pub mark : r ≡ kinds.End
  pub none : rest ≡ []
  pub told_are : told ≡ []
  pub stays : last ≡ p
  pub answered : p.unanswered ≡ false
  pub over : (p.before.alarmed ≡ true) ⊎ (more ≡ [])

-- what comes next where this is left of a job, of what is told, and of the records
pub data Coming (p last : Point) (more : List Sent) (told : List Reply) (r : Record) (rest : List Record) : Type 0 where
  line_comes : ComesLine p more told r rest → Coming p last more told r rest
  broken_comes : ComesBroken p more told r rest → Coming p last more told r rest
  cut_comes : ComesCut p r rest → Coming p last more told r rest
  reset_comes : ComesReset p more told r rest → Coming p last more told r rest
  end_comes : ComesEnd p last more told r rest → Coming p last more told r rest

-- ---- no part ends before the last line

ends_late : (n : ℕ) (e : Ending) (behind : List Record) → (is_stop e ≡ true → n ≤ number_of e + 1) → EndsLate n (ending_record e ∷ behind)
ends_late n (by_cut k at) behind late = late refl
ends_late n (by_reset r) behind late = late refl
ends_late n by_end behind late = tt

all_late : (p last : Point) (since begun : List Outcome) (place : Steps3) (sent : List Sent) (records : List Record) (ps : List Passed)
    → Follows p sent ps last → AreRecorded place (behind_lines since begun (parts_of ps)) records → EndsLate p.before.number records
all_late p last since begun place sent records ps f are =
    let g = first_part place since begun ps records are in
    subst (EndsLate p.before.number) (sym g.split)
    (behind_made p.before.number g.mine (ending_record g.part.ending ∷ g.behind) g.is.inside
    (ends_late p.before.number g.part.ending g.behind (number_comes p last sent ps g.part.ending f (ap first_ending g.parts))))

-- so behind what is made of its lines neither
late_behind : (p last : Point) (since begun : List Outcome) (place : Steps3) (sent : List Sent) (made rest : List Record) (ps : List Passed)
    → Inside made → Follows p sent ps last → AreRecorded place (behind_lines since begun (parts_of ps)) (made ++ rest) → EndsLate p.before.number rest
late_behind p last since begun place sent made rest ps inside f are =
    made_before p.before.number made rest inside (all_late p last since begun place sent (made ++ rest) ps f are)

-- and behind the end of a part
late_anew : (p last : Point) (place : Steps3) (sent : List Sent) (rest : List Record) (ps : List Passed)
    → Follows p sent ps last → AreRecorded place (parts_of ps) rest → EndsLate p.before.number rest
late_anew p last place sent rest ps f are = all_late p last [] [] place sent rest ps f (subst (λ (qs : List Part). AreRecorded place qs rest) (sym (onto_none (parts_of ps))) are)

-- ---- where all ticks are recorded

no_events : {A : Type 0} (h : ToldHead) (rest : List Record) → 1 ≤ h.head.n → ◌≡◌ {A = List Record} [] (map kinds.Event (events_after h.planned.mv h.first h.head.n) ++ rest) → A
no_events h rest some e = by (events_after h.planned.mv h.first h.head.n) (length_after h.planned.mv h.first h.head.n) e where
  by : {A : Type 0} (bs : List _) → length bs ≡ h.head.n → ◌≡◌ {A = List Record} [] (map kinds.Event bs ++ rest) → A
  by [] count e = absurd (omega (arith, count, some))
  by (b ∷ bs) count e = absurd cc

-- no record of a part is next where nothing is owed
none_comes : {A : Type 0} (m n : Making) (r : Record) → m.owed ≡ [] → Comes m r n → A
none_comes m n (kinds.Event b) none c = absurd (let e : kinds.Event b ∷ n.owed ≡ [] = sym c.owed ∙ none in cc)
none_comes m n (kinds.Mark mark) none c = absurd (let e : kinds.Mark mark ∷ n.owed ≡ [] = sym c.owed ∙ none in cc)
none_comes m n (kinds.Head head) none c = no_events c.0 c.2.due.rest c.2.is.some (sym none ∙ c.2.due.is)
none_comes m n kinds.End none c = absurd c

-- of some of the lines neither
none_more : {A : Type 0} (lines others : List Outcome) (made more : List Record) (r : Record) (m : Making) → IsMade (lines ++ others) made m → m.owed ≡ [] → IsMadeOf lines (made ++ r ∷ more) → A
none_more lines others made more r m is none all =
    let front = front_made lines (made ++ r ∷ []) more (subst (IsMadeOf lines) (sym (append_assoc made (r ∷ []) more)) all) in
    let b = before_record lines made r front.0 front.1 in
    let both : ticks_among made ++ (b.before.owed ++ ticks_for_all others) ≡ ticks_among made ++ m.owed =
    sym (append_assoc (ticks_among made) b.before.owed (ticks_for_all others)) ∙ ap (λ (rs : List Record). rs ++ ticks_for_all others) (sym b.is.ticks) ∙ sym (ticks_on lines others) ∙ is.ticks in
    let owed : b.before.owed ++ ticks_for_all others ≡ [] = append_cancel_left (ticks_among made) (b.before.owed ++ ticks_for_all others) m.owed both ∙ none in
    none_comes b.before front.0 r (none_of b.before.owed (ticks_for_all others) owed).0 b.comes

both_whole : (since begun : List Outcome) → since ++ begun ≡ ((since ++ []) ++ (begun ++ [])) ++ []
both_whole since begun = sym (append-nil ((since ++ []) ++ (begun ++ [])) ∙ ap (λ (os : List Outcome). os ++ (begun ++ [])) (append-nil since) ∙ ap (λ (os : List Outcome). since ++ os) (append-nil begun))

-- the lines that count of a part that has no more of them: a cut drops the one that was begun
counted_of : (since begun : List Outcome) (e : Ending) → (others : List Outcome) × (since ++ begun ≡ lines_counted (part_of (since ++ []) (begun ++ []) e) ++ others)
counted_of since begun (by_cut k at) = (begun, sym (ap (λ (os : List Outcome). os ++ begun) (append-nil (since ++ []) ∙ append-nil since)))
counted_of since begun (by_reset r) = ([], both_whole since begun)
counted_of since begun by_end = ([], both_whole since begun)

-- A part that has no more lines ends with the next record.
ends_next : (place : Steps3) (since begun : List Outcome) (e : Ending) (made mine rest behind : List Record) (r : Record) (m : Making) → IsMade (since ++ begun) made m → (is_ending r ≡ false → m.owed ≡ [])
    → IsRecorded place (part_of (since ++ []) (begun ++ []) e) mine → made ++ r ∷ rest ≡ mine ++ ending_record e ∷ behind → SameSplit made mine r (ending_record e) rest behind
ends_next place since begun e made mine rest behind r m is owed are split = by (is_ending r) refl where
  by : (b : Bool) → is_ending r ≡ b → SameSplit made mine r (ending_record e) rest behind
  by true ends = same_split made mine rest behind r (ending_record e) is.inside are.inside ends (ending_ends e) split
  by false inside =
      let h = holds_front made mine rest behind r (ending_record e) is.inside inside (ending_ends e) split in
      let whole = finished place (part_of (since ++ []) (begun ++ []) e) mine are in
      let c = counted_of since begun e in
      none_more (lines_counted (part_of (since ++ []) (begun ++ []) e)) c.0 made h.more r m (subst (λ (os : List Outcome). IsMade os made m) c.1 is) (owed inside)
      (subst (IsMadeOf (lines_counted (part_of (since ++ []) (begun ++ []) e))) h.are (whole.making, whole.is))

-- ---- a line

-- what is told first of a line
record FirstTold (told : List Reply) : Type 0 where
  pub first : Reply
  pub others : List Reply
  pub are : told ≡ first ∷ others
  pub of_line : is_of_reset first ≡ false

quiet_first : (xs ys : List Reply) (r : Reply) → Quiet (xs ++ r ∷ []) → FirstTold ((xs ++ r ∷ []) ++ ys)
quiet_first [] ys r quiet = record { first = r; others = ys; are = refl; of_line = same_opens r ∙ quiet.0 }
quiet_first (x ∷ xs) ys r quiet = record { first = x; others = (xs ++ r ∷ []) ++ ys; are = refl; of_line = same_opens x ∙ quiet.0 }

line_first : (b : Before) (o : Outcome) (ys : List Reply) → AnswersOrHalts b o → TellsQuietly o → FirstTold (tells o.work ++ ys)
line_first b o ys (inl once) quiet =
    subst (λ (rs : List Reply). FirstTold (rs ++ ys)) (sym once.told) (quiet_first once.body ys o.answer (subst Quiet once.told quiet))
line_first b o ys (inr is) quiet = subst (λ (x : Outcome). FirstTold (tells x.work ++ ys)) (sym is) (record { first = _; others = _; are = refl; of_line = refl })

line_next : (p last : Point) (since begun : List Outcome) (place : Steps3) (kept : List ℕ) (o : Outcome) (more : List Sent) (told : List Reply) (made rest : List Record) (r : Record) (ps : List Passed)
    → Inside made → IsPassed p kept o → Follows (behind_line p kept o) more ps last → told ≡ tells o.work ++ told_in ps → AreRecorded place (behind_lines since begun (onto_first o (parts_of ps))) (made ++ r ∷ rest)
    → ComesLine p (a_text kept ∷ more) told r rest
line_next p last since begun place kept o more told made rest r ps inside is f e are =
    let t = line_first p.before o (told_in ps) (line_answers true p kept o is.becomes) (line_quiet true p kept o is.becomes) in
    record {
      kept = kept;
      outcome = o;
      behind = more;
      sent_are = refl;
      is = is;
      first = t.first;
      others = t.others;
      told_are = e ∙ t.are;
      of_line = t.of_line;
      late = late_behind (behind_line p kept o) last (since ++ o ∷ []) begun place more made (r ∷ rest) ps inside f (subst (λ (qs : List Part). AreRecorded place qs (made ++ r ∷ rest)) (onto_more since begun o (parts_of ps)) are);
    }

-- ---- a line that is not answered

-- the next that comes behind it is a cut or a reset, with its number
broken_stops : (p last : Point) (sent : List Sent) (ps : List Passed) → Follows p sent ps last → p.unanswered ≡ true
    → (is_stop (first_ending (parts_of ps)) ≡ true) × (number_of (first_ending (parts_of ps)) + 1 ≡ p.before.number)
broken_stops p last sent [] f begun = absurd (let e : false ≡ true = sym f.1.answered ∙ begun in cc)
broken_stops p last sent (a_cut k at ∷ ps) f begun = (refl, sym f.0.number)
broken_stops p last sent (a_reset r ∷ ps) f begun = (refl, f.0.number)
broken_stops p last [] (a_line o ∷ ps) f begun = absurd f
broken_stops p last (a_stop ∷ sent) (a_line o ∷ ps) f begun = absurd f
broken_stops p last (a_text line ∷ sent) (a_line o ∷ ps) f begun = absurd (let e : false ≡ true = sym f.0.answered ∙ begun in cc)
broken_stops p last [] (a_broken o ∷ ps) f begun = absurd f
broken_stops p last (a_stop ∷ sent) (a_broken o ∷ ps) f begun = absurd f
broken_stops p last (a_text line ∷ sent) (a_broken o ∷ ps) f begun = absurd (let e : false ≡ true = sym f.0.answered ∙ begun in cc)

of_broken : (n : ℕ) (e : Ending) → is_stop e ≡ true → number_of e + 1 ≡ n + 1 → MayBeOfBroken n (ending_record e)
of_broken n (by_cut k at) stops number = omega (arith, number)
of_broken n (by_reset r) stops number = omega (arith, number)
of_broken n by_end stops number = absurd cc

of_open : (n : ℕ) (r : Record) → is_ending r ≡ false → MayBeOfBroken n r
of_open n (kinds.Head h) open_ = tt
of_open n (kinds.Event b) open_ = tt
of_open n (kinds.Mark (marks.Dwell ms)) open_ = tt
of_open n (kinds.Mark (marks.Spindle code speed)) open_ = tt
of_open n (kinds.Mark (marks.Coolant on)) open_ = tt
of_open n (kinds.Mark (marks.Cut k)) open_ = absurd cc
of_open n (kinds.Mark (marks.Reset k)) open_ = absurd cc
of_open n kinds.End open_ = absurd cc

broken_ending : (p last : Point) (since begun : List Outcome) (place : Steps3) (o : Outcome) (more : List Sent) (made rest : List Record) (r : Record) (ps : List Passed)
    → Inside made → Follows (behind_broken p o) more ps last → AreRecorded place (behind_lines since begun (begun_first o (parts_of ps))) (made ++ r ∷ rest) → MayBeOfBroken p.before.number r
broken_ending p last since begun place o more made rest r ps inside f are = by (is_ending r) refl where
  by : (b : Bool) → is_ending r ≡ b → MayBeOfBroken p.before.number r
  by false opens = of_open p.before.number r opens
  by true ends =
      let g = first_part place since begun (a_broken o ∷ ps) (made ++ r ∷ rest) are in
      let same = same_split made g.mine rest g.behind r (ending_record g.part.ending) inside g.is.inside ends (ending_ends g.part.ending) g.split in
      let first : first_ending (parts_of ps) ≡ g.part.ending = sym (begun_ends o (parts_of ps)) ∙ ap first_ending g.parts in
      let stops = broken_stops (behind_broken p o) last more ps f refl in
      subst (MayBeOfBroken p.before.number) (sym same.ending)
      (of_broken p.before.number g.part.ending (ap is_stop (sym first) ∙ stops.0) (ap (λ (e : Ending). number_of e + 1) (sym first) ∙ stops.1))

broken_next : (p last : Point) (since begun : List Outcome) (place : Steps3) (kept : List ℕ) (o : Outcome) (more : List Sent) (told : List Reply) (made rest : List Record) (r : Record) (ps : List Passed)
    → Inside made → IsBroken p kept o → Follows (behind_broken p o) more ps last → told ≡ told_in ps → AreRecorded place (behind_lines since begun (begun_first o (parts_of ps))) (made ++ r ∷ rest)
    → ComesBroken p (a_text kept ∷ more) told r rest
broken_next p last since begun place kept o more told made rest r ps inside is f e are = record {
  kept = kept;
  outcome = o;
  behind = more;
  sent_are = refl;
  is = is;
  begins = ap begins_epoch e ∙ broken_begins (behind_broken p o) last more ps f refl;
  late = late_behind (behind_broken p o) last since (begun ++ o ∷ []) place more made (r ∷ rest) ps inside f (subst (λ (qs : List Part). AreRecorded place qs (made ++ r ∷ rest)) (onto_begun since begun o (parts_of ps)) are);
  ending = broken_ending p last since begun place o more made rest r ps inside f are;
}

-- ---- a reset

-- the lines that wait, the reset, and what comes behind it
waits_for : (sent : List Sent) → has_reset sent ≡ true → sent ≡ map a_text (waiting_in sent) ++ a_stop ∷ behind_reset sent
waits_for [] comes = absurd cc
waits_for (a_text line ∷ sent) comes = ap (λ (ss : List Sent). a_text line ∷ ss) (waits_for sent comes)
waits_for (a_stop ∷ sent) comes = refl

reset_next : (p last : Point) (place : Steps3) (u : Reset) (more : List Sent) (told : List Reply) (rest : List Record) (r : Record) (ps : List Passed)
    → IsReset p more u → r ≡ kinds.Mark (marks.Reset u.number) → Follows (behind_the_reset u p) (behind_reset more) ps last → told ≡ told_at_reset u ++ told_in ps → AreRecorded place (parts_of ps) rest
    → ComesReset p more told r rest
reset_next p last place u more told rest r ps is mark f e are =
    let number = is.number in
    let dropped = is.dropped in
    record {
      k = u.number;
      alarm = u.alarm;
      lines = waiting_in more;
      behind = behind_reset more;
      others = told_in ps;
      mark = mark;
      free = is.free;
      cause = is.cause;
      number = number;
      sent_are = waits_for more is.comes;
      told_are = e ∙ ap (λ (b : Bool). (cond u.alarm (Alarm 3 ∷ []) [] ++ Banner ∷ cond b (Message Locked ∷ []) []) ++ told_in ps) is.locked;
      late = comes_before (p.before.number + length (waiting_in more)) (u.number + u.dropped + 1) rest (omega (arith, number, dropped)) (late_anew (behind_the_reset u p) last place (behind_reset more) rest ps f are);
    }

-- ---- the end

-- where a course ends all is sent, unless a line has raised an alarm
all_sent : {b : Bool} (a : Bool) (more : List Sent) → b ≡ a → either a (behind_reset more ≡ []) (more ≡ []) → (b ≡ true) ⊎ (more ≡ [])
all_sent true more is left = inl is
all_sent false more is left = inr left

-- ---- what comes next

by_course : (p last : Point) (since begun : List Outcome) (place : Steps3) (more : List Sent) (told : List Reply) (made rest : List Record) (r : Record) (m : Making) (ps : List Passed)
    → IsMade (since ++ begun) made m → (is_ending r ≡ false → m.owed ≡ []) → Follows p more ps last → told ≡ told_in ps → AreRecorded place (behind_lines since begun (parts_of ps)) (made ++ r ∷ rest)
    → Coming p last more told r rest
by_course p last since begun place more told made rest r m [] is owed f e are =
    let same = ends_next place since begun by_end made are.0 rest are.1 r m is owed are.3 are.2 in
    end_comes (record { mark = same.ending; none = same.back ∙ are.4; told_are = e; stays = f.0; answered = f.1.answered; over = all_sent p.before.alarmed more refl f.1.rest })
by_course p last since begun place more told made rest r m (a_cut k at ∷ ps) is owed f e are =
    let same = ends_next place since begun (by_cut k at) made are.0 rest are.1 r m is owed are.3 are.2 in
    cut_comes (record {
      k = k;
      mark = same.ending;
      is = f.0;
      late = subst (EndsLate p.before.number) (sym same.back) (late_anew (behind_cut at p) last (moved_by place are.0) more are.1 ps f.1 are.4);
    })
by_course p last since begun place more told made rest r m (a_reset u ∷ ps) is owed f e are =
    let same = ends_next place since begun (by_reset u) made are.0 rest are.1 r m is owed are.3 are.2 in
    reset_comes (reset_next p last (moved_by place are.0) u more told rest r ps f.0 same.ending f.1 e (subst (λ (rs : List Record). AreRecorded (moved_by place are.0) (parts_of ps) rs) (sym same.back) are.4))
by_course p last since begun place [] told made rest r m (a_line o ∷ ps) is owed f e are = absurd f
by_course p last since begun place (a_stop ∷ more) told made rest r m (a_line o ∷ ps) is owed f e are = absurd f
by_course p last since begun place (a_text line ∷ more) told made rest r m (a_line o ∷ ps) is owed f e are =
    line_comes (line_next p last since begun place line o more told made rest r ps is.inside f.0 f.1 e are)
by_course p last since begun place [] told made rest r m (a_broken o ∷ ps) is owed f e are = absurd f
by_course p last since begun place (a_stop ∷ more) told made rest r m (a_broken o ∷ ps) is owed f e are = absurd f
by_course p last since begun place (a_text line ∷ more) told made rest r m (a_broken o ∷ ps) is owed f e are =
    broken_comes (broken_next p last since begun place line o more told made rest r ps is.inside f.0 f.1 e are)

-- What comes next of texts that go on from a point, where a record that ends no part comes only when all ticks of the lines so far
-- are recorded.
pub comes_next : (p last : Point) (since begun : List Outcome) (place : Steps3) (n : ℕ) (more : List Sent) (told : List Reply) (made rest : List Record) (r : Record) (m : Making)
    → IsMade (since ++ begun) made m → (is_ending r ≡ false → m.owed ≡ []) → GoesTo p since begun place n more told (made ++ r ∷ rest) last → Coming p last more told r rest
comes_next p last since begun place n more told made rest r m is owed g = by_course p last since begun place more told made rest r m g.course is owed g.follows g.told g.recorded

-- of the lines so far all ticks are recorded, if none is owed or left to ask for
pub none_owed : (k : Known) (left : List Task) (ticks : List Record) (moves : List PlannedMove) → left ≡ [] → owed_of k ≡ [] → ticks ≡ ticks_of_all (asks left) → (making k ticks moves).owed ≡ []
none_owed k left ticks moves done none are =
    let n = none_of (rest_of k.latest) (all_ticks k.next) none in
    ap (λ (rs : List Record). rs ++ (all_ticks k.next ++ ticks)) n.0 ∙ ap (λ (rs : List Record). rs ++ ticks) n.1 ∙ are ∙ ap (λ (ts : List Task). ticks_of_all (asks ts)) done

-- ---- behind an alarm

-- Behind an alarm the lines that wait may be left out.
pub ends_alone : (p last : Point) (since begun : List Outcome) (place : Steps3) (n : ℕ) (more : List Sent) (told : List Reply) (records : List Record)
    → p.before.alarmed ≡ true → GoesTo p since begun place n more told records last → GoesTo p since begun place n [] told records last
ends_alone p last since begun place n more told records alarmed g = by more g.course g.follows g.told g.recorded g.few where
  by : (more : List Sent) (ps : List Passed) → Follows p more ps last → told ≡ told_in ps → AreRecorded place (behind_lines since begun (parts_of ps)) records → cuts_in ps ≤ n → GoesTo p since begun place n [] told records last
  by more [] f e are few = record {
    course = [];
    follows = (f.0, record { answered = f.1.answered; rest = subst (λ (b : Bool). either b (◌≡◌ {A = List Sent} [] []) (◌≡◌ {A = List Sent} [] [])) (sym alarmed) refl });
    told = e;
    recorded = are;
    few = few;
  }
  by more (a_cut k at ∷ ps) f e are few = absurd (let g : false ≡ true = sym f.0.free ∙ alarmed in cc)
  by more (a_reset r ∷ ps) f e are few = absurd (let g : false ≡ true = sym f.0.free ∙ alarmed in cc)
  by [] (a_line o ∷ ps) f e are few = absurd f
  by (a_stop ∷ more) (a_line o ∷ ps) f e are few = absurd f
  by (a_text line ∷ more) (a_line o ∷ ps) f e are few = absurd (let g : false ≡ true = sym f.0.free ∙ alarmed in cc)
  by [] (a_broken o ∷ ps) f e are few = absurd f
  by (a_stop ∷ more) (a_broken o ∷ ps) f e are few = absurd f
  by (a_text line ∷ more) (a_broken o ∷ ps) f e are few = absurd (let g : false ≡ true = sym f.0.free ∙ alarmed in cc)

-- ---- what is left to record

-- ---- cuts

inside_none : (rs : List Record) → Inside rs → cuts_among rs ≡ 0
inside_none [] inside = refl
inside_none (r ∷ rs) inside = let both = cuts_on (r ∷ []) rs in omega (arith, both, no_cut r inside.0, inside_none rs inside.1)

abbrev ended_by_cut : Ending → ℕ
ended_by_cut (by_cut k at) = 1
ended_by_cut (by_reset r) = 0
ended_by_cut by_end = 0

abbrev cuts_of : List Part → ℕ
cuts_of [] = 0
cuts_of (p ∷ ps) = ended_by_cut p.ending + cuts_of ps

ending_cut : (e : Ending) → cuts_among (ending_record e ∷ []) ≡ ended_by_cut e
ending_cut (by_cut k at) = refl
ending_cut (by_reset r) = refl
ending_cut by_end = refl

parts_cuts : (ps : List Part) (place : Steps3) (rs : List Record) → AreRecorded place ps rs → cuts_among rs ≡ cuts_of ps
parts_cuts [] place rs all = ap cuts_among all
parts_cuts (p ∷ ps) place rs all =
    let split = ap cuts_among all.2 ∙ cuts_on all.0 (ending_record p.ending ∷ all.1) in
    let first = cuts_on (ending_record p.ending ∷ []) all.1 in
    let here = ending_cut p.ending in
    let none = inside_none all.0 all.3.inside in
    let rest = parts_cuts ps (moved_by place all.0) all.1 all.4 in
    omega (arith, split, first, here, none, rest)

onto_cuts : (o : Outcome) (ps : List Part) → cuts_of (onto_first o ps) ≡ cuts_of ps
onto_cuts o [] = refl
onto_cuts o (p ∷ ps) = refl

begun_cuts : (o : Outcome) (ps : List Part) → cuts_of (begun_first o ps) ≡ cuts_of ps
begun_cuts o [] = refl
begun_cuts o (p ∷ ps) = refl

course_cuts : (ps : List Passed) → cuts_of (parts_of ps) ≡ cuts_in ps
course_cuts [] = refl
course_cuts (a_line o ∷ ps) = onto_cuts o (parts_of ps) ∙ course_cuts ps
course_cuts (a_broken o ∷ ps) = begun_cuts o (parts_of ps) ∙ course_cuts ps
course_cuts (a_cut k at ∷ ps) = let rest = course_cuts ps in omega (arith, rest)
course_cuts (a_reset r ∷ ps) = let rest = course_cuts ps in omega (arith, rest)

made_cuts : (ps : List Part) (place : Steps3) (rs : List Record) → AreMadeSoFar place ps rs → cuts_among rs ≤ cuts_of ps
made_cuts [] place rs all = absurd all
made_cuts (p ∷ []) place rs all = (let none = inside_none rs all.1.inside in omega (arith, none))
made_cuts (p ∷ q ∷ ps) place rs all =
    let split = ap cuts_among all.2 ∙ cuts_on all.0 (ending_record p.ending ∷ all.1) in
    let first = cuts_on (ending_record p.ending ∷ []) all.1 in
    let here = ending_cut p.ending in
    let none = inside_none all.0 all.3.inside in
    let rest = made_cuts (q ∷ ps) (moved_by place all.0) all.1 all.4 in
    omega (arith, split, first, here, none, rest)

-- The records of a course so far have no more cuts than it.
pub cuts_made : (course : List Passed) (place : Steps3) (rs : List Record) → AreMadeSoFar place (parts_of course) rs → cuts_among rs ≤ cuts_in course
cuts_made course place rs all = (let most = made_cuts (parts_of course) place rs all in let same = course_cuts course in omega (arith, most, same))

-- No more cuts are recorded so far than may come.
pub few_cuts : (p last : Point) (place : Steps3) (n : ℕ) (sent : List Sent) (replies : List Reply) (records rest : List Record)
    → GoesTo p [] [] place n sent replies (records ++ rest) last → cuts_among records ≤ n
few_cuts p last place n sent replies records rest g =
    let are : AreRecorded place (parts_of g.course) (records ++ rest) = subst (λ (qs : List Part). AreRecorded place qs (records ++ rest)) (onto_none (parts_of g.course)) g.recorded in
    let count = parts_cuts (parts_of g.course) place (records ++ rest) are ∙ course_cuts g.course in
    let both = cuts_on records rest in
    let few = g.few in
    omega (arith, count, both, few)
