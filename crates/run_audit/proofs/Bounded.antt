-- Counters and places of an audit that is on its way: none runs out.
use Rattle.std.proofs.Common.{◌≡◌, ◌≤◌, ◌<◌, ◌+◌, ◌-◌, ◌^◌, ℕ, Bool, true, false, cond, List, [], ◌∷◌, ◌++◌, append-nil, length, length-append, map, replicate, Some, None, refl, sym, ap, ◌∙◌, subst, arith}
use Rattle.std.specs.List.{list_any}
use Rattle.std.specs.declared.option.Option.{Option}
use Rattle.std.proofs.lemmas.List.Sums.{count_by-le-length, length-filter}
use Rattle.outside.specs.Causes.{SourceState}
use Rattle.units.specs.Lengths.{IsPlace}
use Rattle.units.specs.declared.Steps3.{Steps3}
use Rattle.flight.specs.Places.{origin}
use Rattle.legal_heads.specs.Whole.{is_event}
use Rattle.status_report.specs.Answering.{is_answer}
use Rattle.status_report.specs.declared.Reply.{Reply}
use Rattle.step_line.specs.declared.Record.{Record}
use Rattle.run_rules.specs.Readings.{largest_job}
use Rattle.run_rules.specs.Reports.{raises_alarm}
use Rattle.run_rules.specs.Work.{Outcome}
use Rattle.run_rules.specs.declared.State.{State}
use Rattle.run_texts.specs.Courses.{Passed, behind_cut, behind_the_reset}
use Rattle.run_texts.specs.Courses.Passed.{a_line, a_broken, a_cut, a_reset}
use Rattle.run_texts.specs.Making.{Making, IsMade}
use Rattle.run_texts.specs.Parts.{parts_of}
use Rattle.run_texts.specs.Points.{Point, behind_line, behind_broken, opening}
use Rattle.run_texts.specs.Sent.{Sent, behind_reset, has_reset, waiting_in}
use Rattle.run_texts.specs.Sent.Sent.{a_text, a_stop}
use Rattle.run_texts.specs.SoFar.{LeadsTo, AreMadeSoFar, Reaches}
use Rattle.run_texts.proofs.BoundsSoFar.{FewSoFar, few_so_far}
use Rattle.audit_rules.specs.Scanned.{sent_in}
use Rattle.audit_rules.specs.Telling.{last_answered}
use Rattle.audit_course.specs.SoFar.{left_to_tell, texts_among}
use Rattle.audit_course.proofs.Counting.{texts_on}
use Rattle.audit_course.proofs.Onward.{cuts_made}
use Rattle.audit_readers.proofs.Sizes.{few_sent}
use Rattle.audit_texts.specs.SoFar.{IsItem, JobSoFar, untold_of}
use Rattle.audit_texts.specs.declared.sending.Item.TheVariants.{Line}
use Rattle.audit_texts.specs.declared.sending.Sending.{Sending}
use Rattle.audit_texts.proofs.JobRead.{front_sent}
use Rattle.run_audit.specs.OnWay.{Counting, IsOnWay, Phase, done_by, extra_of}
use Rattle.run_audit.specs.OnWay.Phase.{counting, broken}
use Rattle.run_audit.specs.SafePoint.{IsSince, Since, Stage}
use Rattle.run_audit.specs.SafePoint.Since.{by_line, by_wait, by_reset}
use Rattle.run_audit.specs.SafePoint.Stage.{at_safe, behind_safe}
use Rattle.run_audit.specs.declared.auditor.Auditor.{Auditor}
use Rattle.run_audit.proofs.LinesTold.{sent_few_texts}

-- ---- of a course that is reached

-- what its parts have made is what the last part has made, with all before it
reached_made : (first : State) (sent : List Sent) (told : List Reply) (records : List Record) (p : Point) (since begun : List Outcome) (place : Steps3) (made : List Record) (m : Making)
    → (r : Reaches first sent told records p since begun place made) → IsMade (since ++ begun) made m → AreMadeSoFar origin (parts_of r.course) records
reached_made first sent told records p since begun place made m r is =
    let all : IsMade ((since ++ []) ++ (begun ++ [])) (made ++ []) m =
    subst (λ (bs : List Outcome). IsMade bs (made ++ []) m) (ap (λ (bs : List Outcome). bs ++ begun) (sym (append-nil since)) ∙ ap (λ (bs : List Outcome). (since ++ []) ++ bs) (sym (append-nil begun)))
    (subst (λ (rs : List Record). IsMade (since ++ begun) rs m) (sym (append-nil made)) is) in
    subst (λ (rs : List Record). AreMadeSoFar origin (parts_of r.course) rs) (append-nil records)
    (subst (λ (ps : List Passed). AreMadeSoFar origin (parts_of ps) (records ++ [])) (append-nil r.course) (r.makes [] [] (m, all)))

-- ---- what was sent

-- it is a front of what is sent of the job
sent_front : {a : Auditor} {j c s : SourceState} {jt ct st : List ℕ} (u : IsOnWay a j c s jt ct st) → (left : List Sent) × (sent_in jt ≡ u.sent ++ left)
sent_front {a} {j} {jt = jt} u = (let all = front_sent a.sending j jt u.sent u.are_read.job_so_far in (untold_of a.sending ++ all.later, all.split))

sent_few : {a : Auditor} {j c s : SourceState} {jt ct st : List ℕ} (u : IsOnWay a j c s jt ct st) → length u.sent ≤ largest_job + 1
sent_few {jt = jt} u =
    let all = sent_front u in
    let both : length (sent_in jt) ≡ length u.sent + length all.0 = ap length all.1 ∙ length-append u.sent all.0 in
    let few = few_sent jt in
    omega (arith, both, few)

-- ---- where records count

few_counting : {a : Auditor} {j c s : SourceState} {jt ct st : List ℕ} (u : IsOnWay a j c s jt ct st) (d : Counting a u.first jt ct st u.sent u.replies u.records) → FewSoFar u.sent d.judged.reached.course u.records
few_counting {a} u d =
    let r = d.judged.reached in
    few_so_far u.first u.sent [] r.course d.judged.point u.records u.opens r.leads
    (reached_made u.first u.sent (u.replies ++ left_to_tell a.course) u.records d.judged.point d.judged.since d.judged.begun d.judged.from d.judged.made _ r d.judged.is_made)

pub place_on_way : {a : Auditor} {j c s : SourceState} {jt ct st : List ℕ} (u : IsOnWay a j c s jt ct st) → Counting a u.first jt ct st u.sent u.replies u.records → IsPlace a.course.place
place_on_way u d = subst IsPlace (sym d.judged.whole) (few_counting u d).place

records_few : {a : Auditor} {j c s : SourceState} {jt ct st : List ℕ} (u : IsOnWay a j c s jt ct st) → Counting a u.first jt ct st u.sent u.replies u.records → length u.records < 2 ^ 60
records_few u d = (few_counting u d).few (let few = sent_few u in omega (arith, few))

pub events_on_way : {a : Auditor} {j c s : SourceState} {jt ct st : List ℕ} (u : IsOnWay a j c s jt ct st) → Counting a u.first jt ct st u.sent u.replies u.records → a.course.events + 1 < 2 ^ 64
events_on_way u d =
    let all = records_few u d in
    let events = d.judged.events in
    let filtered = length-filter is_event u.records in
    let few = count_by-le-length is_event u.records in
    omega (arith, all, events, filtered, few)

pub cuts_on_way : {a : Auditor} {j c s : SourceState} {jt ct st : List ℕ} (u : IsOnWay a j c s jt ct st) → Counting a u.first jt ct st u.sent u.replies u.records → a.course.cuts + 1 < 2 ^ 32
cuts_on_way {a} u d =
    let r = d.judged.reached in
    let counted = d.judged.counted in
    let made = reached_made u.first u.sent (u.replies ++ left_to_tell a.course) u.records d.judged.point d.judged.since d.judged.begun d.judged.from d.judged.made _ r d.judged.is_made in
    let most = cuts_made r.course origin u.records made in
    let few = (few_counting u d).cuts in
    let sent = sent_few u in
    omega (arith, counted, most, few, sent)

-- ---- the number of the next line

behind_texts : (sent : List Sent) → has_reset sent ≡ true → texts_among (behind_reset sent) + length (waiting_in sent) ≡ texts_among sent
behind_texts [] some = absurd cc
behind_texts (a_stop ∷ sent) some = omega arith
behind_texts (a_text line ∷ sent) some = (let more = behind_texts sent some in omega (arith, more))

-- a course counts its lines
pub lines_counted : (p q : Point) (sent left : List Sent) (ps : List Passed) → LeadsTo p sent ps q left → q.before.number + texts_among left ≡ p.before.number + texts_among sent
lines_counted p q sent left [] f = ap (λ (x : Point). x.before.number + texts_among left) f.0 ∙ ap (λ (ss : List Sent). p.before.number + texts_among ss) f.1
lines_counted p q sent left (a_cut k at ∷ ps) f = lines_counted (behind_cut at p) q sent left ps f.1
lines_counted p q sent left (a_reset r ∷ ps) f =
    let more = lines_counted (behind_the_reset r p) q (behind_reset sent) left ps f.1 in
    let texts = behind_texts sent f.0.comes in
    let number = f.0.number in
    let dropped = f.0.dropped in
    omega (arith, more, texts, number, dropped)
lines_counted p q [] left (a_line o ∷ ps) f = absurd f
lines_counted p q (a_stop ∷ sent) left (a_line o ∷ ps) f = absurd f
lines_counted p q (a_text line ∷ sent) left (a_line o ∷ ps) f = (let more = lines_counted (behind_line p line o) q sent left ps f.1 in omega (arith, more))
lines_counted p q [] left (a_broken o ∷ ps) f = absurd f
lines_counted p q (a_stop ∷ sent) left (a_broken o ∷ ps) f = absurd f
lines_counted p q (a_text line ∷ sent) left (a_broken o ∷ ps) f = (let more = lines_counted (behind_broken p o) q sent left ps f.1 in omega (arith, more))

-- the next line comes behind all that was sent
pub numbered : {a : Auditor} {j c s : SourceState} {jt ct st : List ℕ} (u : IsOnWay a j c s jt ct st) → a.course.work.number ≡ texts_among u.sent + 1
numbered {a} {jt = jt} {ct = ct} {st = st} u = by u.phase where
  by : Phase a u.first jt ct st u.sent u.replies u.records → a.course.work.number ≡ texts_among u.sent + 1
  by (counting d) = d.judged.numbered
  by (broken b) =
      let there = b.heard.numbered in
      let here = lines_counted (opening u.first) b.point b.front [] b.reached.course b.reached.leads in
      let both : texts_among u.sent ≡ texts_among b.front + texts_among b.later = ap texts_among b.sent_is ∙ texts_on b.front b.later in
      omega (arith, there, here, both)

texts_few : {a : Auditor} {j c s : SourceState} {jt ct st : List ℕ} (u : IsOnWay a j c s jt ct st) (now : Sending) (job : SourceState) (more others : List Sent) → JobSoFar now job jt (u.sent ++ (more ++ others)) → texts_among u.sent + texts_among more ≤ largest_job
texts_few {jt = jt} u now job more others read =
    let all = front_sent now job jt (u.sent ++ (more ++ others)) read in
    let rest = untold_of now ++ all.later in
    let whole : texts_among (sent_in jt) ≡ texts_among (u.sent ++ (more ++ others)) + texts_among rest = ap texts_among all.split ∙ texts_on (u.sent ++ (more ++ others)) rest in
    let first = texts_on u.sent (more ++ others) in
    let second = texts_on more others in
    let few = sent_few_texts jt in
    omega (arith, whole, first, second, few)

pub number_on_way : {a : Auditor} {j c s : SourceState} {jt ct st : List ℕ} (u : IsOnWay a j c s jt ct st) → a.course.work.number ≤ largest_job + 1
number_on_way {a} {j} {jt = jt} u =
    let n = numbered u in
    let few = texts_few u a.sending j [] [] (subst (λ (ss : List Sent). JobSoFar a.sending j jt ss) (sym (append-nil u.sent)) u.are_read.job_so_far) in
    omega (arith, n, few)

-- lines that a reset drops can be counted
pub dropped_on_way : {a : Auditor} {j c s : SourceState} {jt ct st : List ℕ} (u : IsOnWay a j c s jt ct st) (now : Sending) (job : SourceState) (lines : List (List ℕ)) (more : List Sent) → JobSoFar now job jt (u.sent ++ (map a_text lines ++ more)) → a.course.work.number + length lines ≤ largest_job + 1
dropped_on_way u now job lines more read =
    let n = numbered u in
    let few = texts_few u now job (map a_text lines) more read in
    let count = texts_of_lines lines in
    omega (arith, n, few, count)
  where
    texts_of_lines : (lines : List (List ℕ)) → texts_among (map a_text lines) ≡ length lines
    texts_of_lines [] = refl
    texts_of_lines (l ∷ ls) = (let rest = texts_of_lines ls in omega (arith, rest))

-- what of the job was read and not told is a line more
pub line_on_way : {a : Auditor} {j c s : SourceState} {jt ct st : List ℕ} (u : IsOnWay a j c s jt ct st) → IsItem Line a.sending → a.course.work.number + 1 ≤ largest_job + 1
line_on_way {a} {j} {jt = jt} u item =
    let n = numbered u in
    let all = front_sent a.sending j jt u.sent u.are_read.job_so_far in
    let untold : untold_of a.sending ≡ a_text a.sending.reader.line.kept ∷ [] =
    ap (λ (k : ℕ). replicate k a_stop ++ cond a.sending.waits (a_text a.sending.reader.line.kept ∷ []) []) item.0 ∙ ap (λ (w : Bool). cond w (a_text a.sending.reader.line.kept ∷ []) []) item.1 in
    let whole : texts_among (sent_in jt) ≡ texts_among u.sent + texts_among (untold_of a.sending ++ all.later) = ap texts_among all.split ∙ texts_on u.sent (untold_of a.sending ++ all.later) in
    let rest : texts_among (untold_of a.sending ++ all.later) ≡ texts_among all.later + 1 = ap (λ (ss : List Sent). texts_among (ss ++ all.later)) untold in
    let few = sent_few_texts jt in
    omega (arith, n, whole, rest, few)

-- ---- the last line that was answered

-- it is an earlier one than the next
pub answered_before : (p q : Point) (sent left : List Sent) (ps : List Passed) (l : ℕ) → LeadsTo p sent ps q left → l < p.before.number → last_answered p.before.number l ps < q.before.number
answered_before p q sent left [] l f less = subst (λ (x : Point). l < x.before.number) (sym f.0) less
answered_before p q sent left (a_cut k at ∷ ps) l f less = answered_before (behind_cut at p) q sent left ps l f.1 less
answered_before p q sent left (a_reset r ∷ ps) l f less = answered_before (behind_the_reset r p) q (behind_reset sent) left ps l f.1 (let number = f.0.number in omega (arith, number, less))
answered_before p q [] left (a_line o ∷ ps) l f less = absurd f
answered_before p q (a_stop ∷ sent) left (a_line o ∷ ps) l f less = absurd f
answered_before p q (a_text line ∷ sent) left (a_line o ∷ ps) l f less = answered_before (behind_line p line o) q sent left ps (cond (raises_alarm o) l p.before.number) f.1 (by_alarm (raises_alarm o)) where
  by_alarm : (b : Bool) → cond b l p.before.number < p.before.number + 1
  by_alarm true = omega (arith, less)
  by_alarm false = omega arith
answered_before p q [] left (a_broken o ∷ ps) l f less = absurd f
answered_before p q (a_stop ∷ sent) left (a_broken o ∷ ps) l f less = absurd f
answered_before p q (a_text line ∷ sent) left (a_broken o ∷ ps) l f less = answered_before (behind_broken p o) q sent left ps l f.1 (omega (arith, less))

-- where an audit is on its way
pub answered_on_way : {a : Auditor} {j c s : SourceState} {jt ct st : List ℕ} (u : IsOnWay a j c s jt ct st) → a.answered < a.course.work.number
answered_on_way {a} {jt = jt} {ct = ct} {st = st} u = by u.stage where
  all : a.course.work.number ≡ texts_among u.sent + 1
  all = numbered u

  here : (course : List Passed) (q : Point) (front : List Sent) → LeadsTo (opening u.first) front course q [] → (last_answered 1 0 course < q.before.number) × (q.before.number ≡ texts_among front + 1)
  here course q front leads =
      let count = lines_counted (opening u.first) q front [] course leads in
      (answered_before (opening u.first) q front [] course 0 leads (omega arith), (omega (arith, count)))

  by_since : (v : IsSince a u.first jt ct st u.sent u.replies) → Since a u.first jt ct st v.front v.told v.last v.safe v.later v.heard → a.answered < a.course.work.number
  by_since v (by_line l) =
      let before = here v.safe.course v.safe.point v.front v.safe.leads in
      let last = v.safe.last_is in
      let number = l.number in
      subst (λ (n : ℕ). n < a.course.work.number) (sym l.answered) (either_way (list_any is_answer v.heard) (omega (arith, before.0, last, number)) (omega (arith, number)))
    where
      either_way : (b : Bool) → v.last < a.course.work.number → v.safe.point.before.number < a.course.work.number → cond b v.safe.point.before.number v.last < a.course.work.number
      either_way true last now = now
      either_way false last now = last
  by_since v (by_wait w) =
      let before = here v.safe.course v.safe.point v.front v.safe.leads in
      let last = v.safe.last_is in
      let number = w.number in
      let answered = w.answered in
      omega (arith, before.0, last, number, answered)
  by_since v (by_reset r) =
      let before = here v.safe.course v.safe.point v.front v.safe.leads in
      let last = v.safe.last_is in
      let answered = r.answered in
      let both : texts_among u.sent ≡ texts_among v.front + texts_among v.later = ap texts_among v.sent_is ∙ texts_on v.front v.later in
      let n = all in
      omega (arith, before.0, before.1, last, answered, both, n)

  by : Stage a u.first jt ct st u.sent u.replies → a.answered < a.course.work.number
  by (at_safe h calm) =
      let before = here h.course h.point u.sent h.leads in
      let last = h.last_is in
      let n = all in
      omega (arith, before.0, before.1, last, n)
  by (behind_safe v) = by_since v v.since

-- ---- how much was done

extra_few : (b : Option ℕ) → extra_of b ≤ 200
extra_few None = omega arith
extra_few (Some at) = omega arith

pub few_on_way : {a : Auditor} {j c s : SourceState} {jt ct st : List ℕ} (u : IsOnWay a j c s jt ct st) → done_by a u.sent u.records < 2 ^ 64 - 1
few_on_way {a} {jt = jt} {ct = ct} {st = st} u = by u.phase where
  bounded : length u.records < 2 ^ 60 → done_by a u.sent u.records < 2 ^ 64 - 1
  bounded few = (let sent = sent_few u in let extra = extra_few a.broken in omega (arith, few, sent, extra))

  by : Phase a u.first jt ct st u.sent u.replies u.records → done_by a u.sent u.records < 2 ^ 64 - 1
  by (counting d) = bounded (records_few u d)
  by (broken b) =
      let r = b.reached in
      let most = few_so_far u.first b.front [] r.course b.point u.records u.opens r.leads (reached_made u.first b.front b.told u.records b.point b.since b.begun b.place b.made b.making r b.is_made) in
      let sent = sent_few u in
      let both : length u.sent ≡ length b.front + length b.later = ap length b.sent_is ∙ length-append b.front b.later in
      bounded (most.few (omega (arith, sent, both)))
