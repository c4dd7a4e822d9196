-- How many lines and bytes of a job there are at most.
use Rattle.std.proofs.Common.{◌≡◌, ◌≤◌, ◌<◌, ◌+◌, ◌-◌, ◌^◌, ◌*◌, ℕ, suc, Bool, true, false, cond, nat_eq, nat_lt, List, [], ◌∷◌, ◌++◌, length, length-append, length-take, length-drop, replicate, Some, None, refl, sym, ap, subst, arith}
use Rattle.std.specs.declared.option.Option.{Option}
use Rattle.std.specs.List.{count_by, flat_map, sum_by}
use Rattle.std.specs.Option.{unwrap_or}
use Rattle.std.proofs.lemmas.Bool.Decides.{nat_tests}
use Rattle.std.proofs.lemmas.List.{length-replicate}
use Rattle.std.proofs.lemmas.List.Sums.{count_by-le-length, length-filter, sum_by-cons, sum_by-le-sum_by, sum_by-take-drop}
use Rattle.gcode_words.specs.Stripping.{is_realtime, realtime}
use Rattle.gcode_words.specs.declared.stripping.Comment.{Comment}
use Rattle.gcode_words.specs.declared.stripping.Comment.TheVariants.{Outside, Paren, Semicolon}
use Rattle.gcode_words.specs.Comments.{cut, begins_comment}
use Rattle.gcode_words.proofs.Scanning.{seen, next, shown, cut_scan}
use Rattle.run_rules.specs.Lines.{ended, lines_of, whole_lines, onto_first, onto_line}
use Rattle.run_rules.specs.Readings.{largest_job, job_of}
use Rattle.run_texts.specs.Points.{Point}
use Rattle.run_texts.specs.Sent.{is_reset, kept_of, resets_of, sent_by}
use Rattle.run_texts.specs.Sent.Sent.{a_text, a_stop}
use Rattle.audit_rules.specs.Scanned.{Scanned, scanned, sent_in, cuts_by, holds_by, cuts_scanned, cuts_with_alarm, most_cuts, is_hold, is_long, long_front, may_cut, most_sent, scanned_of, onto_lines, up_to_long, open_line}

-- ---- how many lines a job has at most

first_few : (c : ℕ) (ls : List (List ℕ)) → length (onto_first c ls) ≤ length ls + 1
first_few c [] = omega arith
first_few c (l ∷ ls) = omega arith

onto_few : (c : ℕ) (ls : List (List ℕ)) → length (onto_line c ls) ≤ length ls
onto_few c [] = omega arith
onto_few c (l ∷ ls) = omega arith

lines_few : (cs : List ℕ) → length (lines_of cs) ≤ length cs
lines_few [] = omega arith
lines_few (c ∷ cs) = by_lf (nat_eq c 10) (lines_few cs) where
  by_lf : (b : Bool) → length (lines_of cs) ≤ length cs → length (cond b ([] ∷ lines_of cs) (onto_first c (lines_of cs))) ≤ suc (length cs)
  by_lf true few = omega (arith, few)
  by_lf false few = let one = first_few c (lines_of cs) in omega (arith, few, one)

whole_few : (cs : List ℕ) → length (whole_lines cs) ≤ length cs
whole_few [] = omega arith
whole_few (c ∷ cs) = by_lf (nat_eq c 10) (whole_few cs) where
  by_lf : (b : Bool) → length (whole_lines cs) ≤ length cs → length (cond b ([] ∷ whole_lines cs) (onto_line c (whole_lines cs))) ≤ suc (length cs)
  by_lf true few = omega (arith, few)
  by_lf false few = let one = onto_few c (whole_lines cs) in omega (arith, few, one)

before_long_few : (ls : List (List ℕ)) (rest : List ℕ) → length (up_to_long ls rest).lines ≤ length ls
before_long_few [] rest = omega arith
before_long_few (l ∷ ls) rest = by_long (is_long l) (before_long_few ls rest) where
  by_long : (b : Bool) → length (up_to_long ls rest).lines ≤ length ls
      → length (cond b (record { lines = []; rest = scanned_of l }) (onto_lines l (up_to_long ls rest))).lines ≤ suc (length ls)
  by_long true few = omega arith
  by_long false few = omega (arith, few)

pub scanned_few : (job : List ℕ) → length (scanned job).lines ≤ largest_job
scanned_few job = by_size (nat_lt largest_job (length job)) refl where
  by_size : (b : Bool) → nat_lt largest_job (length job) ≡ b
      → length (cond b (up_to_long (whole_lines (job_of job)) (open_line (job_of job))) (up_to_long (lines_of job) [])).lines ≤ largest_job
  by_size true e =
      let a = before_long_few (whole_lines (job_of job)) (open_line (job_of job)) in
      let b = whole_few (job_of job) in
      let c = length-take largest_job job in
      omega (arith, a, b, c)
  by_size false e =
      let a = before_long_few (lines_of job) [] in
      let b = lines_few job in
      let c : length job ≤ largest_job = grind (arith, nat_tests, e) in
      omega (arith, a, b, c)

-- ---- how many bytes its lines have

-- with one for the end of each line
abbrev weight : List (List ℕ) → ℕ
weight ls = sum_by length ls + length ls

onto_weighs : (c : ℕ) (ls : List (List ℕ)) → weight (onto_line c ls) ≤ weight ls + 1
onto_weighs c [] = omega arith
onto_weighs c (l ∷ ls) = let now = sum_by-cons length (c ∷ l) ls in let was = sum_by-cons length l ls in omega (arith, now, was)

onto_some : (c : ℕ) (l : List ℕ) (ls : List (List ℕ)) → weight (onto_first c (l ∷ ls)) ≡ weight (l ∷ ls) + 1
onto_some c l ls = let now = sum_by-cons length (c ∷ l) ls in let was = sum_by-cons length l ls in omega (arith, now, was)

lines_weigh : (cs : List ℕ) → weight (lines_of cs) ≤ length cs + 1
lines_weigh [] = omega arith
lines_weigh (c ∷ cs) = by_lf (nat_eq c 10) (lines_of cs) (lines_weigh cs) where
  by_lf : (b : Bool) (ls : List (List ℕ)) → weight ls ≤ length cs + 1 → weight (cond b ([] ∷ ls) (onto_first c ls)) ≤ suc (length cs) + 1
  by_lf true ls few = let now = sum_by-cons length [] ls in omega (arith, few, now)
  by_lf false [] few = omega arith
  by_lf false (l ∷ ls) few = let one = onto_some c l ls in omega (arith, few, one)

whole_weigh : (cs : List ℕ) → weight (whole_lines cs) ≤ length cs
whole_weigh [] = omega arith
whole_weigh (c ∷ cs) = by_lf (nat_eq c 10) (whole_weigh cs) where
  by_lf : (b : Bool) → weight (whole_lines cs) ≤ length cs → weight (cond b ([] ∷ whole_lines cs) (onto_line c (whole_lines cs))) ≤ suc (length cs)
  by_lf true few = let now = sum_by-cons length [] (whole_lines cs) in omega (arith, few, now)
  by_lf false few = let one = onto_weighs c (whole_lines cs) in omega (arith, few, one)

ended_weighs : (ls : List (List ℕ)) → length (ended ls) ≡ weight ls
ended_weighs [] = refl
ended_weighs (l ∷ ls) =
    let all = length-append (l ++ 10 ∷ []) (ended ls) in
    let one = length-append l (10 ∷ []) in
    let now = sum_by-cons length l ls in
    let rest = ended_weighs ls in
    omega (arith, all, one, now, rest)

open_weighs : (cs : List ℕ) → weight (whole_lines cs) + length (open_line cs) ≤ length cs
open_weighs cs =
    let few = whole_weigh cs in
    let all = ended_weighs (whole_lines cs) in
    let rest = length-drop (length (ended (whole_lines cs))) cs in
    omega (arith, few, all, rest)

-- ---- of what is scanned

front_few : (before cs front : List ℕ) → long_front before cs ≡ Some front → length front ≤ length before + length cs
front_few before [] front is = absurd cc
front_few before (c ∷ cs) front is = by_long (nat_lt most_sent (length (kept_of (before ++ c ∷ [])))) is (front_few (before ++ c ∷ []) cs front) where
  one : length (before ++ c ∷ []) ≡ length before + 1
  one = length-append before (c ∷ [])

  by_long : (b : Bool) → cond b (Some (before ++ c ∷ [])) (long_front (before ++ c ∷ []) cs) ≡ Some front → (long_front (before ++ c ∷ []) cs ≡ Some front → length front ≤ length (before ++ c ∷ []) + length cs)
      → length front ≤ length before + suc (length cs)
  by_long true e later = (let f : before ++ c ∷ [] ≡ front = cc in let g = ap length f in omega (arith, g, one))
  by_long false e later = let rest = later e in omega (arith, rest, one)

scanned_short : (line : List ℕ) → length (scanned_of line) ≤ length line
scanned_short line = by_front (long_front [] line) refl where
  by_front : (o : Option (List ℕ)) → long_front [] line ≡ o → length (unwrap_or o line) ≤ length line
  by_front None e = omega arith
  by_front (Some front) e = let few = front_few [] line front e in omega (arith, few)

-- of lines, and of what was scanned besides
abbrev weight_of : Scanned → ℕ
weight_of s = weight s.lines + length s.rest

up_weighs : (ls : List (List ℕ)) (rest : List ℕ) → weight_of (up_to_long ls rest) ≤ weight ls + length rest
up_weighs [] rest = let few = scanned_short rest in omega (arith, few)
up_weighs (l ∷ ls) rest = by_long (is_long l) (up_weighs ls rest) where
  here : sum_by length (l ∷ ls) ≡ length l + sum_by length ls
  here = sum_by-cons length l ls

  by_long : (b : Bool) → weight_of (up_to_long ls rest) ≤ weight ls + length rest
      → weight_of (cond b (record { lines = []; rest = scanned_of l }) (onto_lines l (up_to_long ls rest))) ≤ weight (l ∷ ls) + length rest
  by_long true few = let short = scanned_short l in omega (arith, short, here)
  by_long false few = let now = sum_by-cons length l (up_to_long ls rest).lines in omega (arith, few, now, here)

scanned_weighs : (job : List ℕ) → weight_of (scanned job) ≤ largest_job + 1
scanned_weighs job = by_size (nat_lt largest_job (length job)) refl where
  by_size : (b : Bool) → nat_lt largest_job (length job) ≡ b
      → weight_of (cond b (up_to_long (whole_lines (job_of job)) (open_line (job_of job))) (up_to_long (lines_of job) [])) ≤ largest_job + 1
  by_size true e =
      let a = up_weighs (whole_lines (job_of job)) (open_line (job_of job)) in
      let b = open_weighs (job_of job) in
      let c = length-take largest_job job in
      omega (arith, a, b, c)
  by_size false e =
      let a = up_weighs (lines_of job) [] in
      let b = lines_weigh job in
      let c : length job ≤ largest_job = grind (arith, nat_tests, e) in
      omega (arith, a, b, c)

-- ---- bytes of a line

seen_few : (s : Comment) (c : ℕ) → length (seen s c) ≤ 1
seen_few Outside c = by_begin (begins_comment c) where
  by_begin : (b : Bool) → length (cond b [] (c ∷ [])) ≤ 1
  by_begin true = omega arith
  by_begin false = omega arith
seen_few Paren c = omega arith
seen_few Semicolon c = omega arith

shown_few : (s : Comment) (line : List ℕ) → length (shown s line) ≤ length line
shown_few s [] = omega arith
shown_few s (c ∷ cs) =
    let all = length-append (seen s c) (shown (next s c) cs) in
    let one = seen_few s c in
    let rest = shown_few (next s c) cs in
    omega (arith, all, one, rest)

outside_few : (line : List ℕ) → length (cut line).outside ≤ length line
outside_few line = subst (λ (bs : List ℕ). length bs ≤ length line) (sym (ap (λ c. c.outside) (cut_scan (length line) line (omega arith)))) (shown_few Outside line)

realtime_few : (p : ℕ → Bool) (line : List ℕ) → count_by p (realtime line) ≤ length line
realtime_few p line =
    let a = count_by-le-length p (realtime line) in
    let b = length-filter is_realtime (cut line).outside in
    let c = count_by-le-length is_realtime (cut line).outside in
    let d = outside_few line in
    omega (arith, a, b, c, d)

resets_few : (line : List ℕ) → resets_of line ≤ length line
resets_few line = let a = count_by-le-length is_reset (cut line).outside in let b = outside_few line in omega (arith, a, b)

-- ---- the bytes that may cut

pub cuts_few : (job : List ℕ) → cuts_scanned (scanned job) ≤ largest_job + 1
cuts_few job =
    let all = scanned_weighs job in
    let lines = sum_by-le-sum_by cuts_by length (scanned job).lines (realtime_few may_cut) in
    let rest = realtime_few may_cut (scanned job).rest in
    omega (arith, all, lines, rest)

-- of the lines up to the largest job's end, whether or not they are sent
pub holds_few : (job : List ℕ) → sum_by holds_by (lines_of (job_of job)) ≤ largest_job + 1
holds_few job =
    let a = lines_weigh (job_of job) in
    let b = length-take largest_job job in
    let c = sum_by-le-sum_by holds_by length (lines_of (job_of job)) (realtime_few is_hold) in
    omega (arith, a, b, c)

alarm_few : (k : ℕ) (job : List ℕ) → cuts_with_alarm k job ≤ 2 * (largest_job + 1)
alarm_few k job =
    let a = sum_by-take-drop cuts_by (scanned job).lines k in
    let b = sum_by-take-drop holds_by (lines_of (job_of job)) k in
    let c = cuts_few job in
    let d = holds_few job in
    omega (arith, a, b, c, d)

pub most_few : (job : List ℕ) (last : Point) → most_cuts job last < 2 ^ 32 - 1
most_few job last = by_alarm last.before.alarmed where
  by_alarm : (b : Bool) → cond b (cuts_with_alarm (last.before.number - 1) job) (cuts_scanned (scanned job)) < 2 ^ 32 - 1
  by_alarm true = let few = alarm_few (last.before.number - 1) job in omega (arith, few)
  by_alarm false = let few = cuts_few job in omega (arith, few)

-- ---- what is sent

sent_weighs : (lines : List (List ℕ)) → length (flat_map sent_by lines) ≤ weight lines
sent_weighs [] = omega arith
sent_weighs (l ∷ ls) =
    let all = length-append (sent_by l) (flat_map sent_by ls) in
    let one = length-append (replicate (resets_of l) a_stop) (a_text (kept_of l) ∷ []) in
    let stops = length-replicate (resets_of l) a_stop in
    let few = resets_few l in
    let here = sum_by-cons length l ls in
    let rest = sent_weighs ls in
    omega (arith, all, one, stops, few, here, rest)

-- a line and a reset have a byte each, but for a last line that has no end
pub few_sent : (job : List ℕ) → length (sent_in job) ≤ largest_job + 1
few_sent job =
    let all = length-append (flat_map sent_by (scanned job).lines) (replicate (resets_of (scanned job).rest) a_stop) in
    let stops = length-replicate (resets_of (scanned job).rest) a_stop in
    let few = resets_few (scanned job).rest in
    let lines = sent_weighs (scanned job).lines in
    let weighs = scanned_weighs job in
    omega (arith, all, stops, few, lines, weighs)
