-- A run, with an alarm or without, has sent a front of what an audit scans.
use Rattle.std.specs.Prelude.{replicate}
use Rattle.std.proofs.Common.{◌≡◌, ℕ, suc, ◌+◌, ◌-◌, ◌≤◌, ◌<◌, inl, inr, Bool, true, false, cond, List, [], ◌∷◌, ◌++◌, length, take, drop, nat_eq, nat_lt, refl, sym, ap, subst, ◌∙◌, append-nil, append_assoc, arith, Some}
use Rattle.std.specs.List.{AllByRecursion, count_by, flat_map, take_while}
use Rattle.std.specs.Option.{is_some, unwrap_or}
use Rattle.std.proofs.lemmas.Grind.{flat_map-append}
use Rattle.std.proofs.lemmas.List.{length-append, length-take, replicate-append-replicate, take-append-drop, take-append-le}
use Rattle.std.proofs.lemmas.List.Sums.{sum_by-append, take_while-cons}
use Rattle.std.proofs.Math.Seq.{drop-append_seam, take-append-add}
use Rattle.outside.specs.Causes.{SourceState}
use Rattle.gcode_words.specs.declared.stripping.Comment.TheVariants.{Outside}
use Rattle.gcode_words.proofs.Scanning.{after, cut_scan, shown, shown-append}
use Rattle.step_record.specs.declared.forms.Form.{Form}
use Rattle.run_rules.specs.Lines.{CutsInto, HasNoLf, ended, lines_of, whole_lines, onto_first, onto_line}
use Rattle.run_rules.specs.Readings.{job_of, largest_job, most_sent}
use Rattle.run_texts.specs.Fronts.{BeginsWith}
use Rattle.run_texts.specs.Sent.{Sent, is_reset, kept_of, resets_of, sent_by, sent_of}
use Rattle.run_texts.specs.Sent.Sent.{a_text, a_stop}
use Rattle.host_journal.specs.Jobs.{MayHaveRead, but_last, ends_in, ends_sending, is_sent, lines_read, lines_to_send}
use Rattle.host_journal.specs.declared.Reading.{Reading}
use Rattle.host_journal.specs.declared.Reading.TheVariants.{Ended, Failed, Large, Stopped}
use Rattle.run_law.specs.Runs.{Sinks}
use Rattle.run_law.specs.declared.RunEnd.{RunEnd}
use Rattle.stream_host.proofs.Pieces.{IsSendable, Starts, any_is, none_ends, read_on, read_starts}
use Rattle.stream_host.proofs.Pieces.Starts.{no_line, a_line}
use Rattle.epoch_links.proofs.Carrying.{lines_more}
use Rattle.epoch_law.specs.Runs.{IsRun}
use Rattle.audit_rules.proofs.Replies.{all_first}
use Rattle.audit_rules.specs.Scanned.{Scanned, is_long, long_front, onto_lines, open_line, scanned, scanned_of, sent_in, up_to_long}
use Rattle.audited_runs.specs.Left.{IsWholeRun}
use Rattle.audited_runs.proofs.Lines.{lines_of_large, lines_of_small, long_same}
use Rattle.audited_runs.proofs.Sending.{IsRead, each_sent, is_large, is_small, job_read, whole}

-- ---- the lines of a front

-- the lines that LF ends begin all lines
pub ended_first : (text : List ℕ) → BeginsWith (lines_of text) (whole_lines text)
ended_first [] = record { rest = []; is = refl }
ended_first (c ∷ cs) = by_lf (nat_eq c 10) (lines_of cs) (whole_lines cs) (ended_first cs) where
  by_byte : (all front : List (List ℕ)) → BeginsWith all front → BeginsWith (onto_first c all) (onto_line c front)
  by_byte all [] b = record { rest = onto_first c all; is = refl }
  by_byte all (l ∷ ls) b = record { rest = b.rest; is = ap (onto_first c) b.is }

  by_lf : (t : Bool) (all front : List (List ℕ)) → BeginsWith all front → BeginsWith (cond t ([] ∷ all) (onto_first c all)) (cond t ([] ∷ front) (onto_line c front))
  by_lf true all front b = record { rest = b.rest; is = ap (λ (ls : List (List ℕ)). [] ∷ ls) b.is }
  by_lf false all front b = by_byte all front b

-- what a test takes of a front begins what it takes of all
taken_first : (p : List ℕ → Bool) (ls more : List (List ℕ)) → BeginsWith (take_while p (ls ++ more)) (take_while p ls)
taken_first p [] more = record { rest = take_while p more; is = refl }
taken_first p (l ∷ ls) more = by_test (p l) refl (taken_first p ls more) where
  by_test : (t : Bool) → p l ≡ t → BeginsWith (take_while p (ls ++ more)) (take_while p ls) → BeginsWith (take_while p (l ∷ (ls ++ more))) (take_while p (l ∷ ls))
  by_test true passes b = record {
    rest = b.rest;
    is = take_while-cons p l (ls ++ more) ∙ ap (λ (t : Bool). cond t (l ∷ take_while p (ls ++ more)) []) passes ∙ ap (λ (xs : List (List ℕ)). l ∷ xs) b.is
        ∙ ap (λ (xs : List (List ℕ)). xs ++ b.rest) (sym (take_while-cons p l ls ∙ ap (λ (t : Bool). cond t (l ∷ take_while p ls) []) passes));
  }
  by_test false fails b = record {
    rest = [];
    is = take_while-cons p l (ls ++ more) ∙ ap (λ (t : Bool). cond t (l ∷ take_while p (ls ++ more)) []) fails
        ∙ sym (append-nil (take_while p (l ∷ ls)) ∙ take_while-cons p l ls ∙ ap (λ (t : Bool). cond t (l ∷ take_while p ls) []) fails);
  }

-- a front of what is taken of a front is one of what is taken of all
front_taken : (p : List ℕ → Bool) (all front lines later : List (List ℕ)) → BeginsWith all front → take_while p front ≡ lines ++ later → BeginsWith (take_while p all) lines
front_taken p all front lines later b are =
    let on = taken_first p front b.rest in
    record { rest = later ++ on.rest; is = ap (take_while p) b.is ∙ on.is ∙ ap (λ (xs : List (List ℕ)). xs ++ on.rest) are ∙ append_assoc lines later on.rest }

-- ---- the lines that a run has sent

module _ (job read : List ℕ) (lines later : List (List ℕ)) where
  by_ended : IsRead job read Ended → length read ≤ largest_job → lines_to_send Ended (job_of read) ≡ lines ++ later → BeginsWith (scanned job).lines lines
  by_ended of fits sent =
      let same : job ≡ read = of.split ∙ ap (λ (xs : List ℕ). read ++ xs) (of.all refl) ∙ append-nil read in
      let few : length job ≤ largest_job = (let l = ap length same in omega (arith, l, fits)) in
      record { rest = later; is = lines_of_small job (is_small (length job) few) ∙ ap (lines_to_send Ended) (same ∙ sym (whole read fits)) ∙ sent }

  by_large : (left : List ℕ) → job ≡ read ++ left → largest_job < length read → lines_to_send Large (job_of read) ≡ lines ++ later → BeginsWith (scanned job).lines lines
  by_large left split many sent =
      let more : largest_job < length job = (let l = ap length split ∙ length-append read left in omega (arith, l, many)) in
      let same : job_of job ≡ job_of read = ap (take largest_job) split ∙ take-append-le largest_job read left (omega (arith, many)) in
      record { rest = later; is = lines_of_large job (is_large (length job) more) ∙ ap (lines_to_send Large) same ∙ sent }

  -- where the reading ended early, by the lines that LF ends
  by_part : (left : List ℕ) → job ≡ read ++ left → length read ≤ largest_job → take_while is_sent (whole_lines (job_of read)) ≡ lines ++ later → BeginsWith (scanned job).lines lines
  by_part left split few sent = by_size (nat_lt largest_job (length job)) refl
    where
      are : take_while is_sent (whole_lines read) ≡ lines ++ later
      are = ap (λ (text : List ℕ). take_while is_sent (whole_lines text)) (sym (whole read few)) ∙ sent

      begins : (text more : List ℕ) → text ≡ read ++ more → BeginsWith (whole_lines text) (whole_lines read)
      begins text more is = let m = lines_more read more in record { rest = m.0; is = ap whole_lines is ∙ m.1 }

      by_size : (t : Bool) → nat_lt largest_job (length job) ≡ t → BeginsWith (scanned job).lines lines
      by_size true large =
          let part = take (largest_job - length read) left in
          let bytes : largest_job ≡ length read + (largest_job - length read) = omega (arith, few) in
          let taken : job_of job ≡ read ++ part = ap (take largest_job) split ∙ ap (λ (n : ℕ). take n (read ++ left)) bytes ∙ take-append-add read left (largest_job - length read) in
          let on = front_taken is_sent (whole_lines (job_of job)) (whole_lines read) lines later (begins (job_of job) part taken) are in
          record { rest = on.rest; is = lines_of_large job large ∙ on.is }
      by_size false small =
          let wholes = begins job left split in
          let all = ended_first job in
          let both : BeginsWith (lines_of job) (whole_lines read) =
          record { rest = wholes.rest ++ all.rest; is = all.is ∙ ap (λ (ls : List (List ℕ)). ls ++ all.rest) wholes.is ∙ append_assoc (whole_lines read) wholes.rest all.rest } in
          let on = front_taken is_sent (lines_of job) (whole_lines read) lines later both are in
          record { rest = on.rest; is = lines_of_small job small ∙ on.is }

  by_reading : (r : Reading) → IsRead job read r → MayHaveRead r (length read) → lines_to_send r (job_of read) ≡ lines ++ later → BeginsWith (scanned job).lines lines
  by_reading Ended of fits sent = by_ended of fits sent
  by_reading Failed of fits sent = by_part of.left of.split fits sent
  by_reading Large of fits sent = by_large of.left of.split fits.0 sent
  by_reading Stopped of fits sent = by_part of.left of.split fits sent

pub lines_front : (attended : Bool) (room blocks : ℕ) (form : Form) (job : List ℕ) (job_was job_is : SourceState) (was is : Sinks) (end : RunEnd)
    (run : IsRun attended room blocks form job_was job_is was is end)
    → IsWholeRun job job_was was end → BeginsWith (scanned job).lines run.lines
lines_front attended room blocks form job job_was job_is was is end run is_whole =
    let of = job_read job_was.left job_is.left job run.read run.reading is_whole.job_is run.sending.taken run.sending.at_end in
    let so_far = run.sending.so_far in
    by_reading job run.read run.lines so_far.later run.reading of so_far.fits so_far.sent

-- ---- the resets of a front

-- they stand among the bytes outside comments
resets_shown : (line : List ℕ) → resets_of line ≡ count_by is_reset (shown Outside line)
resets_shown line = ap (λ c. count_by is_reset c.outside) (cut_scan (length line) line (omega arith))

-- those of a line are those of its front, and more
resets_on : (front more : List ℕ) → resets_of (front ++ more) ≡ resets_of front + count_by is_reset (shown (after Outside front) more)
resets_on front more =
    resets_shown (front ++ more) ∙ ap (count_by is_reset) (shown-append Outside front more)
    ∙ sum_by-append (λ (c : ℕ). cond {A = ℕ} (is_reset c) 1 0) (shown Outside front) (shown (after Outside front) more)
    ∙ ap (λ (n : ℕ). n + count_by is_reset (shown (after Outside front) more)) (sym (resets_shown front))

no_resets : resets_of [] ≡ 0
no_resets = resets_shown []

-- a front of a line has no more of them than the line
stops_first : (line front : List ℕ) → BeginsWith line front → BeginsWith (replicate (resets_of line) a_stop) (replicate (resets_of front) a_stop)
stops_first line front b =
    let more = count_by is_reset (shown (after Outside front) b.rest) in
    record {
      rest = replicate more a_stop;
      is = ap (λ (text : List ℕ). replicate (resets_of text) a_stop) b.is ∙ ap (λ (n : ℕ). replicate n a_stop) (resets_on front b.rest)
          ∙ sym (replicate-append-replicate (resets_of front) more a_stop);
    }

-- ---- what is scanned of a line

-- no fewer bytes than those behind which too many may be kept
scanned_behind : (before cs : List ℕ) → BeginsWith (unwrap_or (long_front before cs) (before ++ cs)) before
scanned_behind before [] = record { rest = []; is = refl }
scanned_behind before (c ∷ cs) = by_many (nat_lt most_sent (length (kept_of (before ++ c ∷ [])))) (scanned_behind (before ++ c ∷ []) cs) where
  by_many : (t : Bool) → BeginsWith (unwrap_or (long_front (before ++ c ∷ []) cs) ((before ++ c ∷ []) ++ cs)) (before ++ c ∷ [])
      → BeginsWith (unwrap_or (cond t (Some (before ++ c ∷ [])) (long_front (before ++ c ∷ []) cs)) (before ++ c ∷ cs)) before
  by_many true b = record { rest = c ∷ []; is = refl }
  by_many false b = record {
    rest = c ∷ b.rest;
    is = ap (unwrap_or (long_front (before ++ c ∷ []) cs)) (sym (append_assoc before (c ∷ []) cs)) ∙ b.is ∙ append_assoc before (c ∷ []) b.rest;
  }

-- so no fewer than a front that is not too long but for its last byte
scanned_from : (before cs more : List ℕ) → is_some (long_front before (but_last cs)) ≡ false → BeginsWith (unwrap_or (long_front before (cs ++ more)) (before ++ (cs ++ more))) (before ++ cs)
scanned_from before [] more short = let b = scanned_behind before more in record { rest = b.rest; is = b.is ∙ ap (λ (text : List ℕ). text ++ b.rest) (sym (append-nil before)) }
scanned_from before (c ∷ []) more short = by_many (nat_lt most_sent (length (kept_of (before ++ c ∷ [])))) where
  by_many : (t : Bool) → BeginsWith (unwrap_or (cond t (Some (before ++ c ∷ [])) (long_front (before ++ c ∷ []) more)) (before ++ c ∷ more)) (before ++ c ∷ [])
  by_many true = record { rest = []; is = sym (append-nil (before ++ c ∷ [])) }
  by_many false =
      let b = scanned_behind (before ++ c ∷ []) more in
      record { rest = b.rest; is = ap (unwrap_or (long_front (before ++ c ∷ []) more)) (sym (append_assoc before (c ∷ []) more)) ∙ b.is }
scanned_from before (c ∷ d ∷ ds) more short =
    by_many (nat_lt most_sent (length (kept_of (before ++ c ∷ [])))) (ap (λ (cs : List ℕ). is_some (long_front before cs)) (sym first) ∙ short)
    (scanned_from (before ++ c ∷ []) (d ∷ ds) more)
  where
    first : but_last (c ∷ d ∷ ds) ≡ c ∷ but_last (d ∷ ds)
    first = let n : length (c ∷ d ∷ ds) - 1 ≡ suc (length (d ∷ ds) - 1) = omega arith in ap (λ (k : ℕ). take k (c ∷ d ∷ ds)) n

    by_many : (t : Bool) → is_some (cond t (Some (before ++ c ∷ [])) (long_front (before ++ c ∷ []) (but_last (d ∷ ds)))) ≡ false
        → (is_some (long_front (before ++ c ∷ []) (but_last (d ∷ ds))) ≡ false
        → BeginsWith (unwrap_or (long_front (before ++ c ∷ []) ((d ∷ ds) ++ more)) ((before ++ c ∷ []) ++ ((d ∷ ds) ++ more))) ((before ++ c ∷ []) ++ (d ∷ ds)))
        → BeginsWith (unwrap_or (cond t (Some (before ++ c ∷ [])) (long_front (before ++ c ∷ []) ((d ∷ ds) ++ more))) (before ++ c ∷ ((d ∷ ds) ++ more))) (before ++ c ∷ d ∷ ds)
    by_many true none on = absurd cc
    by_many false none on =
        let b = on none in
        record {
          rest = b.rest;
          is = ap (unwrap_or (long_front (before ++ c ∷ []) ((d ∷ ds) ++ more))) (sym (append_assoc before (c ∷ []) ((d ∷ ds) ++ more))) ∙ b.is
              ∙ ap (λ (text : List ℕ). text ++ b.rest) (append_assoc before (c ∷ []) (d ∷ ds));
        }

-- no byte was scanned behind one with which a line is too long
early_rest : (text : List ℕ) (lines : List (List ℕ)) (rest : List ℕ) → CutsInto text lines rest → AllByRecursion IsSendable lines → ends_in (but_last text) ≡ false
    → ends_sending (but_last rest) ≡ false
early_rest text lines [] cut sendable early = none_ends
early_rest text lines (c ∷ cs) cut sendable early =
    let n = length (c ∷ cs) - 1 in
    let bytes : length text - 1 ≡ length (ended lines) + n = (let l = ap length cut.whole ∙ length-append (ended lines) (c ∷ cs) in omega (arith, l)) in
    let before : but_last text ≡ ended lines ++ but_last (c ∷ cs) =
    ap (λ (k : ℕ). take k text) bytes ∙ ap (take (length (ended lines) + n)) cut.whole ∙ take-append-add (ended lines) (c ∷ cs) n in
    let none : HasNoLf (but_last (c ∷ cs)) =
    all_first (λ b. nat_eq b 10 ≡ false) (but_last (c ∷ cs)) (drop n (c ∷ cs)) (subst HasNoLf (sym (take-append-drop n (c ∷ cs))) cut.partial) in
    let cut_before : CutsInto (ended lines ++ but_last (c ∷ cs)) lines (but_last (c ∷ cs)) = record { whole = refl; each = cut.each; partial = none } in
    sym (any_is ends_sending none_ends (ended lines ++ but_last (c ∷ cs)) lines (but_last (c ∷ cs)) cut_before sendable) ∙ ap ends_in (sym before) ∙ early

-- ---- what comes of what is scanned

abbrev comes_of : Scanned → List Sent
comes_of s = sent_of s.lines s.rest

first_comes : (line : List ℕ) (lines : List (List ℕ)) (rest : List ℕ) → sent_of (line ∷ lines) rest ≡ sent_by line ++ sent_of lines rest
first_comes line lines rest = append_assoc (sent_by line) (flat_map sent_by lines) (replicate (resets_of rest) a_stop)

-- lines that are not too long come first
lines_come : (lines more : List (List ℕ)) (opened : List ℕ) → AllByRecursion IsSendable lines
    → comes_of (up_to_long (lines ++ more) opened) ≡ flat_map sent_by lines ++ comes_of (up_to_long more opened)
lines_come [] more opened short = refl
lines_come (l ∷ ls) more opened short =
    let u = up_to_long (ls ++ more) opened in
    ap (λ (t : Bool). comes_of (cond t (record { lines = []; rest = scanned_of l }) (onto_lines l u))) (long_same l ∙ short.0) ∙ first_comes l u.lines u.rest
    ∙ ap (λ (s : List Sent). sent_by l ++ s) (lines_come ls more opened short.1) ∙ sym (append_assoc (sent_by l) (flat_map sent_by ls) (comes_of (up_to_long more opened)))

-- a text without lines is empty
empty_scanned : (front left : List ℕ) → lines_of (front ++ left) ≡ [] → BeginsWith (scanned_of []) front
empty_scanned [] left none = record { rest = scanned_of []; is = refl }
empty_scanned (c ∷ cs) left none = by_lf (nat_eq c 10) (lines_of (cs ++ left)) none where
  by_lf : (t : Bool) (ls : List (List ℕ)) → cond t ([] ∷ ls) (onto_first c ls) ≡ [] → BeginsWith (scanned_of []) (c ∷ cs)
  by_lf true ls same = absurd cc
  by_lf false [] same = absurd cc
  by_lf false (l ∷ ls) same = absurd cc

module _ (text : List ℕ) (lines : List (List ℕ)) (rest : List ℕ) (cut : CutsInto text lines rest) (sendable : AllByRecursion IsSendable lines) (early : ends_in (but_last text) ≡ false) where
  -- an audit scans it of each line that begins with it
  rest_scanned : (more : List ℕ) → BeginsWith (scanned_of (rest ++ more)) rest
  rest_scanned more = scanned_from [] rest more (long_same (but_last rest) ∙ early_rest text lines rest cut sendable early)

  -- the resets of the rest come first of the next line, or of what an audit scans besides the lines
  stops_come : (next : List (List ℕ)) (opened : List ℕ) → Starts rest next → (next ≡ [] → BeginsWith (scanned_of opened) rest)
      → BeginsWith (comes_of (up_to_long next opened)) (replicate (resets_of rest) a_stop)
  stops_come next opened (no_line none) behind =
      let b = stops_first (scanned_of opened) rest (behind none) in
      record { rest = b.rest; is = ap (λ (ls : List (List ℕ)). comes_of (up_to_long ls opened)) none ∙ b.is }
  stops_come next opened (a_line more later are) behind =
      let b = by_long (is_long (rest ++ more)) (up_to_long later opened) in
      record { rest = b.rest; is = ap (λ (ls : List (List ℕ)). comes_of (up_to_long ls opened)) are ∙ b.is }
    where
      by_long : (t : Bool) (u : Scanned)
          → BeginsWith (comes_of (cond t (record { lines = []; rest = scanned_of (rest ++ more) }) (onto_lines (rest ++ more) u))) (replicate (resets_of rest) a_stop)
      by_long true u = stops_first (scanned_of (rest ++ more)) rest (rest_scanned more)
      by_long false u =
          let line = rest ++ more in
          let b = stops_first line rest (record { rest = more; is = refl }) in
          let behind_stops = a_text (kept_of line) ∷ comes_of u in
          record {
            rest = b.rest ++ behind_stops;
            is = first_comes line u.lines u.rest ∙ append_assoc (replicate (resets_of line) a_stop) (a_text (kept_of line) ∷ []) (comes_of u)
                ∙ ap (λ (s : List Sent). s ++ behind_stops) b.is ∙ append_assoc (replicate (resets_of rest) a_stop) b.rest behind_stops;
          }

  -- so what has come of the lines and the rest comes first
  all_come : (all next : List (List ℕ)) (opened : List ℕ) → all ≡ lines ++ next → Starts rest next → (next ≡ [] → BeginsWith (scanned_of opened) rest)
      → BeginsWith (comes_of (up_to_long all opened)) (sent_of lines rest)
  all_come all next opened are starts behind =
      let b = stops_come next opened starts behind in
      record {
        rest = b.rest;
        is = ap (λ (ls : List (List ℕ)). comes_of (up_to_long ls opened)) are ∙ lines_come lines next opened sendable
            ∙ ap (λ (s : List Sent). flat_map sent_by lines ++ s) b.is ∙ sym (append_assoc (flat_map sent_by lines) (replicate (resets_of rest) a_stop) b.rest);
      }

  on_lines : (all left : List ℕ) → all ≡ text ++ left → all ≡ ended lines ++ (rest ++ left)
  on_lines all left split = split ∙ ap (λ (bytes : List ℕ). bytes ++ left) cut.whole ∙ append_assoc (ended lines) rest left

  -- of a job that is not too large, and of the first bytes of one that is
  small_comes : (job left : List ℕ) → job ≡ text ++ left → BeginsWith (comes_of (up_to_long (lines_of job) [])) (sent_of lines rest)
  small_comes job left split =
      all_come (lines_of job) (lines_of (rest ++ left)) [] (ap lines_of (on_lines job left split) ∙ read_on Ended lines (rest ++ left) cut.each)
      (read_starts Ended rest left cut.partial) (empty_scanned rest left)

  large_comes : (bytes left : List ℕ) → bytes ≡ text ++ left → BeginsWith (comes_of (up_to_long (whole_lines bytes) (open_line bytes))) (sent_of lines rest)
  large_comes bytes left split =
      all_come (whole_lines bytes) (whole_lines (rest ++ left)) (open_line bytes) are (read_starts Large rest left cut.partial) behind
    where
      are : whole_lines bytes ≡ lines ++ whole_lines (rest ++ left)
      are = ap whole_lines (on_lines bytes left split) ∙ read_on Large lines (rest ++ left) cut.each

      behind : whole_lines (rest ++ left) ≡ [] → BeginsWith (scanned_of (open_line bytes)) rest
      behind none =
          let all : whole_lines bytes ≡ lines = are ∙ ap (λ (ls : List (List ℕ)). lines ++ ls) none ∙ append-nil lines in
          let opened : open_line bytes ≡ rest ++ left =
          ap (λ (ls : List (List ℕ)). drop (length (ended ls)) bytes) all ∙ ap (drop (length (ended lines))) (on_lines bytes left split) ∙ drop-append_seam (ended lines) (rest ++ left) in
          let b = rest_scanned left in
          record { rest = b.rest; is = ap scanned_of opened ∙ b.is }

  job_comes : (job : List ℕ) → BeginsWith job text → BeginsWith (job_of job) text → BeginsWith (sent_in job) (sent_of lines rest)
  job_comes job all first = by_size (nat_lt largest_job (length job)) where
    by_size : (t : Bool) → BeginsWith (comes_of (cond t (up_to_long (whole_lines (job_of job)) (open_line (job_of job))) (up_to_long (lines_of job) []))) (sent_of lines rest)
    by_size true = large_comes (job_of job) first.rest first.is
    by_size false = small_comes job all.rest all.is

-- where no rest was scanned, what comes of the lines is all
lines_alone : (job : List ℕ) (lines : List (List ℕ)) (rest : List ℕ) → rest ≡ [] → BeginsWith (scanned job).lines lines → BeginsWith (sent_in job) (sent_of lines rest)
lines_alone job lines rest none b =
    let last = replicate (resets_of (scanned job).rest) a_stop in
    let alone : sent_of lines rest ≡ flat_map sent_by lines =
    ap (λ (n : ℕ). flat_map sent_by lines ++ replicate n a_stop) (ap resets_of none ∙ no_resets) ∙ append-nil (flat_map sent_by lines) in
    record {
      rest = flat_map sent_by b.rest ++ last;
      is = ap (λ (ls : List (List ℕ)). flat_map sent_by ls ++ last) b.is ∙ ap (λ (s : List Sent). s ++ last) (flat_map-append sent_by lines b.rest)
          ∙ append_assoc (flat_map sent_by lines) (flat_map sent_by b.rest) last ∙ ap (λ (s : List Sent). s ++ (flat_map sent_by b.rest ++ last)) (sym alone);
    }

-- ---- what was scanned of a job that was read

module _ (job read left text behind : List ℕ) (split : job ≡ read ++ left) (front : job_of read ≡ text ++ behind) where
  few_scanned : length text ≤ largest_job
  few_scanned = let most = length-take largest_job read in let both = ap length front ∙ length-append text behind in omega (arith, most, both)

  begins_job : BeginsWith job text
  begins_job =
      let more = drop largest_job read in
      let of_read : read ≡ text ++ (behind ++ more) = sym (take-append-drop largest_job read) ∙ ap (λ (xs : List ℕ). xs ++ more) front ∙ append_assoc text behind more in
      record { rest = (behind ++ more) ++ left; is = split ∙ ap (λ (xs : List ℕ). xs ++ left) of_read ∙ append_assoc text (behind ++ more) left }

  pub begins_first : BeginsWith (job_of job) text
  begins_first =
      let few = few_scanned in
      let n = largest_job - length text in
      let bytes : largest_job ≡ length text + n = omega (arith, few) in
      record { rest = take n begins_job.rest; is = ap (take largest_job) begins_job.is ∙ ap (λ (k : ℕ). take k (text ++ begins_job.rest)) bytes ∙ take-append-add text begins_job.rest n }

pub texts_front : (attended : Bool) (room blocks : ℕ) (form : Form) (job : List ℕ) (job_was job_is : SourceState) (was is : Sinks) (end : RunEnd)
    (run : IsRun attended room blocks form job_was job_is was is end)
    → IsWholeRun job job_was was end → BeginsWith (sent_in job) (sent_of run.lines run.rest)
texts_front attended room blocks form job job_was job_is was is end run is_whole = elim run.sending.is_rest [
  | inl cut ↦
      let of = job_read job_was.left job_is.left job run.read run.reading is_whole.job_is run.sending.taken run.sending.at_end in
      let so_far = run.sending.so_far in
      let sendable : AllByRecursion IsSendable run.lines =
      all_first IsSendable run.lines so_far.later (subst (AllByRecursion IsSendable) so_far.sent (each_sent (lines_read run.reading (job_of run.read)))) in
      job_comes run.scanned run.lines run.rest cut sendable so_far.scans.early job
      (begins_job job run.read of.left run.scanned so_far.scans.left of.split so_far.scans.front)
      (begins_first job run.read of.left run.scanned so_far.scans.left of.split so_far.scans.front)
  | inr over ↦ lines_alone job run.lines run.rest over.1 (lines_front attended room blocks form job job_was job_is was is end run is_whole)
]
