-- The job, as far as it was read.
use Rattle.std.proofs.Common.{◌≡◌, ◌≤◌, ◌<◌, ◌+◌, ◌-◌, ◌^◌, ℕ, suc, Bool, true, false, cond, ◌&&◌, ◌||◌, nat_eq, List, [], ◌∷◌, ◌++◌, append_assoc, append-nil, length, length-append, take, drop, replicate, Some, None, IfSome, sym, refl, ap, ◌∙◌, subst, arith}
use Rattle.std.specs.declared.option.Option.{Option}
use Rattle.std.specs.List.{sum_by, flat_map}
use Rattle.std.proofs.lemmas.Bool.Decides.{nat_tests}
use Rattle.std.proofs.lemmas.List.{drop_at}
use Rattle.std.proofs.lemmas.List.Concat.{flat_map-append}
use Rattle.std.proofs.lemmas.List.Folds.{list_any-append}
use Rattle.std.proofs.lemmas.List.Sums.{sum_by_push, sum_by-append, sum_by-cons}
use Rattle.std.proofs.Math.Seq.{take-append_seam}
use Rattle.outside.specs.Causes.{SourceState}
use Rattle.run_rules.specs.Lines.{lines_of}
use Rattle.run_rules.specs.Readings.{largest_job, job_of}
use Rattle.run_texts.specs.Points.{Point}
use Rattle.run_texts.specs.Sent.{Sent, kept_of, resets_of, sent_by, sent_of}
use Rattle.run_texts.specs.Sent.Sent.{a_text, a_stop}
use Rattle.audit_rules.specs.Findings.{is_foreign, foreign_in}
use Rattle.audit_rules.specs.Scanned.{Scanned, scanned, sent_in, cuts_by, holds_by, cuts_scanned, cuts_with_alarm, most_cuts, onto_lines}
use Rattle.audit_readers.specs.JobLines.{SeenLine}
use Rattle.audit_readers.specs.Jobs.{JobRead, CountsHolds, ReadsSentLine, ReadsLast, ReadsLine, scanned_behind, lines_behind}
use Rattle.audit_readers.specs.Windows.{ahead}
use Rattle.audit_texts.specs.Audited.{IsFirstForeign}
use Rattle.audit_texts.specs.Reading.{KnowsJob, IsSame}
use Rattle.audit_texts.specs.SoFar.{JobSoFar, IsLeft, IsForeignOf, IsAllRead, untold_of, stops_of, cuts_besides, Counts}
use Rattle.audit_texts.specs.declared.sending.Sending.{Sending}
use Rattle.audit_readers.proofs.Sizes.{cuts_few, holds_few, scanned_few}

-- what is known of the text behind a call
pub line_known : (old now : JobRead) (before after : SourceState) (sent : Bool) → ReadsLine old now before after sent → KnowsJob now after × IsSame before after
line_known old now before after true r = ((r.known, r.room), r.same)
line_known old now before after false r = ((r.known, r.room), r.same)

-- ---- lines that are not audited

foreign_behind : (lines : List (List ℕ)) (line : List ℕ) (n : ℕ) → IsFirstForeign lines n → IsFirstForeign (lines ++ line ∷ []) n
foreign_behind lines line n f = record {
  before = f.before;
  here = f.here;
  behind = f.behind ++ line ∷ [];
  split = ap (λ (ls : List (List ℕ)). ls ++ line ∷ []) f.split ∙ append_assoc f.before (f.here ∷ f.behind) (line ∷ []);
  number = f.number;
  first = f.first;
  is = f.is;
}

one_more : (lines : List (List ℕ)) (line : List ℕ) → foreign_in (lines ++ line ∷ []) ≡ (foreign_in lines || is_foreign (kept_of line))
one_more lines line = list_any-append (λ (l : List ℕ). is_foreign (kept_of l)) lines (line ∷ []) ∙ ap (λ (b : Bool). foreign_in lines || b) (or_none (is_foreign (kept_of line))) where
  or_none : (b : Bool) → (b || false) ≡ b
  or_none true = refl
  or_none false = refl

-- a line more, which may be the first
foreign_on : (lines : List (List ℕ)) (line : List ℕ) (n m : ℕ) → IsForeignOf lines n → m ≡ cond (nat_eq n 0 && is_foreign (kept_of line)) (length lines + 1) n → IsForeignOf (lines ++ line ∷ []) m
foreign_on lines line n m f is = by_none (nat_eq n 0) (is_foreign (kept_of line)) refl refl is where
  by_none : (a b : Bool) → nat_eq n 0 ≡ a → is_foreign (kept_of line) ≡ b → m ≡ cond (a && b) (length lines + 1) n → IsForeignOf (lines ++ line ∷ []) m
  by_none true true e g is =
      let zero : n ≡ 0 = grind (arith, nat_tests, e) in
      record { none = λ h. absurd (omega (arith, h, is)); some = λ h. record { before = lines; here = line; behind = []; split = refl; number = is; first = f.none zero; is = g } }
  by_none true false e g is =
      let zero : n ≡ 0 = grind (arith, nat_tests, e) in
      record { none = λ h. one_more lines line ∙ ap (λ (b : Bool). b || is_foreign (kept_of line)) (f.none zero) ∙ g; some = λ h. absurd (h (is ∙ zero)) }
  by_none false b e g is =
      let some : n ≡ 0 → ⊥ = grind (arith, nat_tests, e) in
      record { none = λ h. absurd (some (sym is ∙ h)); some = λ h. subst (IsFirstForeign (lines ++ line ∷ [])) (sym is) (foreign_behind lines line n (f.some some)) }

-- ---- what is told

-- what comes of lines, and of nothing besides
abbrev all_of : List (List ℕ) → List Sent
all_of lines = flat_map sent_by lines ++ []

sent_push : (lines : List (List ℕ)) (line : List ℕ) → all_of (lines ++ line ∷ []) ≡ all_of lines ++ sent_by line
sent_push lines line =
    append-nil (flat_map sent_by (lines ++ line ∷ []))
    ∙ flat_map-append sent_by lines (line ∷ [])
    ∙ ap (λ (ss : List Sent). flat_map sent_by lines ++ ss) (append-nil (sent_by line))
    ∙ ap (λ (ss : List Sent). ss ++ sent_by line) (sym (append-nil (flat_map sent_by lines)))

-- ---- while lines are read

no_alarm : (last : Option ℕ) (over : Bool) (r : JobRead) (source : SourceState) (left : Scanned) (later : List (List ℕ)) → over ≡ false → IsLeft last over r source left later → last ≡ None
no_alarm None over r source left later going is = refl
no_alarm (Some k) true r source left later going is = absurd cc
no_alarm (Some k) false r source left later going is = absurd is

-- lines follow, perhaps, and no line has raised an alarm
record IsGoing (s : Sending) (source : SourceState) (text : List ℕ) (told : List Sent) (j : JobSoFar s source text told) : Type 0 where
  pub calm : s.last ≡ None
  pub left : IsLeft None false s.reader source j.left j.later
  pub told_are : told ++ untold_of s ≡ all_of j.lines
  pub cuts : s.cuts ≡ sum_by cuts_by j.lines

is_going : (s : Sending) (source : SourceState) (text : List ℕ) (told : List Sent) (j : JobSoFar s source text told) → s.over ≡ false → IsGoing s source text told j
is_going s source text told j going =
    let calm = no_alarm s.last s.over s.reader source j.left j.later going j.goes_on in
    record {
      calm = calm;
      left = subst (λ (b : Bool). IsLeft None b s.reader source j.left j.later) going (subst (λ (o : Option ℕ). IsLeft o s.over s.reader source j.left j.later) calm j.goes_on);
      told_are = j.told_are ∙ ap (λ (o : Option ℕ). flat_map sent_by j.lines ++ stops_of o s.over j.left.rest) calm ∙ ap (λ (b : Bool). flat_map sent_by j.lines ++ stops_of None b j.left.rest) going;
      cuts = j.cuts ∙ ap (λ (o : Option ℕ). sum_by cuts_by j.lines + cuts_besides o s.over j.left.rest j.later) calm
          ∙ ap (λ (b : Bool). sum_by cuts_by j.lines + cuts_besides None b j.left.rest j.later) going ∙ (omega arith);
    }

-- nothing waits to be told
none_untold : (s : Sending) → s.stops ≡ 0 → s.waits ≡ false → untold_of s ≡ []
none_untold s stops waits = rw (stops, waits) refl

all_told : (s : Sending) (source : SourceState) (text : List ℕ) (told : List Sent) → s.over ≡ false → s.stops ≡ 0 → s.waits ≡ false → (j : JobSoFar s source text told) → told ≡ all_of j.lines
all_told s source text told going stops waits j =
    sym (append-nil told) ∙ ap (λ (ss : List Sent). told ++ ss) (sym (none_untold s stops waits)) ∙ (is_going s source text told j going).told_are

pub few_lines : (s : Sending) (source : SourceState) (text : List ℕ) (told : List Sent) → JobSoFar s source text told → s.lines ≤ largest_job
few_lines s source text told j =
    let a = scanned_few text in
    let b : length (scanned text).lines ≡ length j.lines + length j.left.lines = ap length j.split ∙ length-append j.lines j.left.lines in
    let c = j.count in
    omega (arith, a, b, c)

-- the cuts of these lines and of what is left are those of all that is scanned
cuts_split : (s : Sending) (source : SourceState) (text : List ℕ) (told : List Sent) (j : JobSoFar s source text told) → cuts_scanned (scanned text) ≡ sum_by cuts_by j.lines + sum_by cuts_by j.left.lines + cuts_by j.left.rest
cuts_split s source text told j =
    let all : sum_by cuts_by (scanned text).lines ≡ sum_by cuts_by j.lines + sum_by cuts_by j.left.lines = ap (λ (ls : List (List ℕ)). sum_by cuts_by ls) j.split ∙ sum_by-append cuts_by j.lines j.left.lines in
    let rest : cuts_by (scanned text).rest ≡ cuts_by j.left.rest = ap cuts_by j.rest in
    omega (arith, all, rest)

-- ---- steps

pub job_opens : (r : JobRead) (source : SourceState) (text : List ℕ) → r.window.waiting ≡ [] → r.place ≡ 0 → source.left ≡ Some text
    → JobSoFar (record { reader = r; stops = 0; waits = false; over = false; lines = 0; cuts = 0; foreign = 0; last = None }) source text []
job_opens r source text none begins known = record {
  lines = [];
  left = scanned text;
  split = refl;
  rest = refl;
  later = lines_behind 0 text;
  all = refl;
  goes_on = (text, follows, ap (λ (n : ℕ). scanned_behind n text) begins, ap (λ (n : ℕ). lines_behind n text) begins);
  told_are = refl;
  cuts = omega arith;
  count = refl;
  alarm = tt;
  waiting = λ e w. refl;
  foreign = record { none = λ h. refl; some = λ h. absurd (h refl) };
} where
  follows : ahead r.window source ≡ Some text
  follows = rw (none, known) refl

pub line_read : (old : Sending) (r : JobRead) (now : Sending) (before after : SourceState) (text : List ℕ) (told : List Sent) → old.over ≡ false → old.stops ≡ 0 → old.waits ≡ false → JobSoFar old before text told
    → ReadsSentLine old.reader r before after → Counts (record old { reader = r }) now true → JobSoFar now after text told
line_read old r now before after text told over stops waits j read c =
    let g = is_going old before text told j over in
    let calm : now.last ≡ None = c.last ∙ g.calm in
    let l = g.left in
    let s = read.next l.0 l.1 in
    let left : j.left ≡ onto_lines read.line (scanned_behind r.place s.more) = sym l.2 ∙ s.scanned in
    let few = few_lines old before text told j in
    let lines : now.lines ≡ old.lines + 1 = c.lines (omega (arith, few)) in
    let push : length (j.lines ++ read.line ∷ []) ≡ length j.lines + 1 = length-append j.lines (read.line ∷ []) in
    let was = j.count in
    let so_far = g.cuts in
    let here : r.line.cuts ≡ cuts_by read.line = read.come.cuts in
    let sum = sum_by_push cuts_by j.lines read.line in
    let next : sum_by cuts_by j.left.lines ≡ cuts_by read.line + sum_by cuts_by (scanned_behind r.place s.more).lines =
    ap (λ (x : Scanned). sum_by cuts_by x.lines) left ∙ sum_by-cons cuts_by read.line (scanned_behind r.place s.more).lines in
    let all = cuts_split old before text told j in
    let most = cuts_few text in
    let cuts : now.cuts ≡ old.cuts + r.line.cuts = c.cuts (omega (arith, so_far, here, next, all, most)) in
    record {
      lines = j.lines ++ read.line ∷ [];
      left = scanned_behind r.place s.more;
      split = j.split ∙ ap (λ (x : Scanned). j.lines ++ x.lines) left ∙ sym (append_assoc j.lines (read.line ∷ []) (scanned_behind r.place s.more).lines);
      rest = j.rest ∙ ap (λ (x : Scanned). x.rest) left;
      later = lines_behind r.place s.more;
      all = j.all ∙ ap (λ (ls : List (List ℕ)). j.lines ++ ls) (sym l.3 ∙ s.lines) ∙ sym (append_assoc j.lines (read.line ∷ []) (lines_behind r.place s.more));
      goes_on = rw (c.over, calm, c.reader) (s.more, s.left, refl, refl);
      told_are = told_now s.more calm;
      cuts = rw (c.over, calm) (omega (arith, so_far, here, sum, cuts));
      count = omega (arith, lines, push, was);
      alarm = rw calm tt;
      waiting = λ e w. c.over;
      foreign = foreign_on j.lines read.line old.foreign now.foreign j.foreign (foreign_now lines);
    } where
      told_now : (more : List ℕ) → now.last ≡ None → told ++ untold_of now ≡ flat_map sent_by (j.lines ++ read.line ∷ []) ++ stops_of now.last now.over (scanned_behind r.place more).rest
      told_now more calm =
          ap (λ (ss : List Sent). told ++ ss) (rw (c.stops, c.waits, c.reader, read.come.resets, read.come.kept) refl)
          ∙ ap (λ (ss : List Sent). ss ++ sent_by read.line) (all_told old before text told over stops waits j)
          ∙ sym (sent_push j.lines read.line)
          ∙ rw (c.over, calm) refl

      foreign_now : now.lines ≡ old.lines + 1 → now.foreign ≡ cond (nat_eq old.foreign 0 && is_foreign (kept_of read.line)) (length j.lines + 1) old.foreign
      foreign_now lines =
          c.foreign
          ∙ ap (λ (k : List ℕ). cond (nat_eq old.foreign 0 && is_foreign k) now.lines old.foreign) read.come.kept
          ∙ ap (λ (n : ℕ). cond (nat_eq old.foreign 0 && is_foreign (kept_of read.line)) n old.foreign) (lines ∙ ap (λ (n : ℕ). n + 1) j.count)

pub rest_read : (old : Sending) (r : JobRead) (now : Sending) (before after : SourceState) (text : List ℕ) (told : List Sent) → old.over ≡ false → old.stops ≡ 0 → old.waits ≡ false → JobSoFar old before text told
    → ReadsLast old.reader r before after → Counts (record old { reader = r }) now false → JobSoFar now after text told
rest_read old r now before after text told over stops waits j read c =
    let g = is_going old before text told j over in
    let calm : now.last ≡ None = c.last ∙ g.calm in
    let l = g.left in
    let left : j.left ≡ record { lines = []; rest = read.rest } = sym l.2 ∙ read.last l.0 l.1 in
    let few = few_lines old before text told j in
    let lines : now.lines ≡ old.lines = c.lines (omega (arith, few)) in
    let was = j.count in
    let so_far = g.cuts in
    let here : r.line.cuts ≡ cuts_by j.left.rest = read.come.cuts ∙ ap (λ (x : Scanned). cuts_by x.rest) (sym left) in
    let all = cuts_split old before text told j in
    let most = cuts_few text in
    let cuts : now.cuts ≡ old.cuts + r.line.cuts = c.cuts (omega (arith, so_far, here, all, most)) in
    record {
      lines = j.lines;
      left = j.left;
      split = j.split;
      rest = j.rest;
      later = j.later;
      all = j.all;
      goes_on = rw (c.over, calm) (ap (λ (x : Scanned). x.lines) left);
      told_are = told_now left calm;
      cuts = rw (c.over, calm) (omega (arith, so_far, here, cuts));
      count = omega (arith, lines, was);
      alarm = rw calm tt;
      waiting = λ e w. absurd (let f : false ≡ true = sym c.waits ∙ w in cc);
      foreign = subst (IsForeignOf j.lines) (sym c.foreign) j.foreign;
    } where
      told_now : j.left ≡ record { lines = []; rest = read.rest } → now.last ≡ None → told ++ untold_of now ≡ flat_map sent_by j.lines ++ stops_of now.last now.over j.left.rest
      told_now left calm =
          ap (λ (ss : List Sent). told ++ ss) (rw (c.stops, c.waits, read.come.resets) (append-nil (replicate (resets_of read.rest) a_stop)))
          ∙ ap (λ (ss : List Sent). ss ++ replicate (resets_of read.rest) a_stop) (all_told old before text told over stops waits j ∙ append-nil (flat_map sent_by j.lines))
          ∙ rw (c.over, calm, left) refl

pub read_by : (sent : Bool) (old : Sending) (r : JobRead) (now : Sending) (before after : SourceState) (text : List ℕ) (told : List Sent) → old.over ≡ false → old.stops ≡ 0 → old.waits ≡ false → JobSoFar old before text told
    → ReadsLine old.reader r before after sent → Counts (record old { reader = r }) now sent → JobSoFar now after text told
read_by true old r now before after text told over stops waits j read c = line_read old r now before after text told over stops waits j read c
read_by false old r now before after text told over stops waits j read c = rest_read old r now before after text told over stops waits j read c

one_stop : (n m : ℕ) → m ≡ n + 1 → replicate m a_stop ≡ a_stop ∷ replicate n a_stop
one_stop n m e = let f : m ≡ suc n = omega (arith, e) in ap (λ (k : ℕ). replicate k a_stop) f

-- a reset more is told
pub stop_told : (s : Sending) (n : ℕ) (source : SourceState) (text : List ℕ) (told : List Sent) → s.stops ≡ n + 1 → JobSoFar s source text told → JobSoFar (record s { stops = n }) source text (told ++ a_stop ∷ [])
stop_told s n source text told stops j = record {
  lines = j.lines;
  left = j.left;
  split = j.split;
  rest = j.rest;
  later = j.later;
  all = j.all;
  goes_on = j.goes_on;
  cuts = j.cuts;
  count = j.count;
  alarm = j.alarm;
  waiting = j.waiting;
  foreign = j.foreign;
  told_are =
      append_assoc told (a_stop ∷ []) (replicate n a_stop ++ cond s.waits (a_text s.reader.line.kept ∷ []) [])
      ∙ ap (λ (ss : List Sent). told ++ (ss ++ cond s.waits (a_text s.reader.line.kept ∷ []) [])) (sym (one_stop n s.stops stops))
      ∙ j.told_are;
}

-- the line is told
pub line_told : (s : Sending) (source : SourceState) (text : List ℕ) (told : List Sent) → s.stops ≡ 0 → s.waits ≡ true → JobSoFar s source text told
    → JobSoFar (record s { waits = false }) source text (told ++ a_text s.reader.line.kept ∷ [])
line_told s source text told stops waits j = record {
  lines = j.lines;
  left = j.left;
  split = j.split;
  rest = j.rest;
  later = j.later;
  all = j.all;
  goes_on = j.goes_on;
  cuts = j.cuts;
  count = j.count;
  alarm = j.alarm;
  waiting = λ e w. absurd cc;
  foreign = j.foreign;
  told_are =
      ap (λ (ss : List Sent). (told ++ a_text s.reader.line.kept ∷ []) ++ ss) (ap (λ (n : ℕ). replicate n a_stop ++ []) stops)
      ∙ append-nil (told ++ a_text s.reader.line.kept ∷ [])
      ∙ ap (λ (ss : List Sent). told ++ ss) (sym (waiting s stops waits))
      ∙ j.told_are;
} where
  waiting : (s : Sending) → s.stops ≡ 0 → s.waits ≡ true → untold_of s ≡ a_text s.reader.line.kept ∷ []
  waiting s stops waits = rw (stops, waits) refl

-- the last line that was read has raised an alarm, and the holds behind it are counted
pub halted : (s : Sending) (r : JobRead) (holds cuts : ℕ) (before after : SourceState) (text : List ℕ) (told : List Sent) → s.over ≡ false → JobSoFar s before text told → CountsHolds s.reader r before after holds
    → (s.cuts + holds < 2 ^ 64 → cuts ≡ s.cuts + holds) → JobSoFar (record s { reader = r; cuts = cuts; last = Some s.lines; over = true }) after text told
halted s r holds cuts before after text told over j read sum =
    let g = is_going s before text told j over in
    let l = g.left in
    let here : holds ≡ sum_by holds_by j.later = read.counted l.0 l.1 ∙ ap (λ (ls : List (List ℕ)). sum_by holds_by ls) l.3 in
    let so_far = g.cuts in
    let all : sum_by holds_by (lines_of (job_of text)) ≡ sum_by holds_by j.lines + sum_by holds_by j.later = ap (λ (ls : List (List ℕ)). sum_by holds_by ls) j.all ∙ sum_by-append holds_by j.lines j.later in
    let most = holds_few text in
    let split = cuts_split s before text told j in
    let few = cuts_few text in
    let now : cuts ≡ s.cuts + holds = sum (omega (arith, here, so_far, all, most, split, few)) in
    record {
      lines = j.lines;
      left = j.left;
      split = j.split;
      rest = j.rest;
      later = j.later;
      all = j.all;
      goes_on = tt;
      told_are = ap (λ (v : SeenLine). told ++ (replicate s.stops a_stop ++ cond s.waits (a_text v.kept ∷ []) [])) read.line ∙ g.told_are;
      cuts = omega (arith, here, so_far, now);
      count = j.count;
      alarm = j.count;
      waiting = λ e w. absurd cc;
      foreign = j.foreign;
    }

-- ---- what is read whole

-- no line is left, if the job was read to its end
none_left : (s : Sending) (source : SourceState) (text : List ℕ) (told : List Sent) (j : JobSoFar s source text told) → s.last ≡ None → s.over ≡ true → j.left.lines ≡ []
none_left s source text told j calm over =
    subst (λ (b : Bool). IsLeft None b s.reader source j.left j.later) over (subst (λ (o : Option ℕ). IsLeft o s.over s.reader source j.left j.later) calm j.goes_on)

pub lines_whole : (s : Sending) (source : SourceState) (text : List ℕ) (told : List Sent) (j : JobSoFar s source text told) → s.last ≡ None → s.over ≡ true → (scanned text).lines ≡ j.lines
lines_whole s source text told j calm over =
    j.split ∙ ap (λ (ls : List (List ℕ)). j.lines ++ ls) (none_left s source text told j calm over) ∙ append-nil j.lines

-- what is told, and what was read and is not, is a front of what is sent; it is all, if the job was read to its end
pub record IsFront (s : Sending) (text : List ℕ) (told : List Sent) : Type 0 where
  pub later : List Sent
  pub split : sent_in text ≡ told ++ (untold_of s ++ later)
  pub none : s.last ≡ None → s.over ≡ true → later ≡ []

sent_split : (lines more : List (List ℕ)) (rest : List ℕ) → sent_of (lines ++ more) rest ≡ flat_map sent_by lines ++ sent_of more rest
sent_split lines more rest =
    ap (λ (ss : List Sent). ss ++ replicate (resets_of rest) a_stop) (flat_map-append sent_by lines more)
    ∙ append_assoc (flat_map sent_by lines) (flat_map sent_by more) (replicate (resets_of rest) a_stop)

pub front_sent : (s : Sending) (source : SourceState) (text : List ℕ) (told : List Sent) → JobSoFar s source text told → IsFront s text told
front_sent s source text told j = by_end s.last s.over refl refl where
  all : sent_in text ≡ flat_map sent_by j.lines ++ sent_of j.left.lines j.left.rest
  all = ap (λ (ls : List (List ℕ)). sent_of ls (scanned text).rest) j.split ∙ ap (λ (rest : List ℕ). sent_of (j.lines ++ j.left.lines) rest) j.rest ∙ sent_split j.lines j.left.lines j.left.rest

  told_by : (last : Option ℕ) (over : Bool) → s.last ≡ last → s.over ≡ over → told ++ untold_of s ≡ flat_map sent_by j.lines ++ stops_of last over j.left.rest
  told_by last over l o = j.told_are ∙ ap (λ (x : Option ℕ). flat_map sent_by j.lines ++ stops_of x s.over j.left.rest) l ∙ ap (λ (b : Bool). flat_map sent_by j.lines ++ stops_of last b j.left.rest) o

  -- all that was read came of lines
  going : told ++ untold_of s ≡ flat_map sent_by j.lines ++ [] → sent_in text ≡ told ++ (untold_of s ++ sent_of j.left.lines j.left.rest)
  going e =
      all ∙ ap (λ (ss : List Sent). ss ++ sent_of j.left.lines j.left.rest) (sym (e ∙ append-nil (flat_map sent_by j.lines)))
      ∙ append_assoc told (untold_of s) (sent_of j.left.lines j.left.rest)

  by_end : (last : Option ℕ) (over : Bool) → s.last ≡ last → s.over ≡ over → IsFront s text told
  by_end None true l o =
      let none = none_left s source text told j l o in
      record {
        later = [];
        split = all ∙ ap (λ (ls : List (List ℕ)). flat_map sent_by j.lines ++ sent_of ls j.left.rest) none ∙ sym (told_by None true l o) ∙ ap (λ (ss : List Sent). told ++ ss) (sym (append-nil (untold_of s)));
        none = λ x y. refl;
      }
  by_end None false l o = record {
    later = sent_of j.left.lines j.left.rest;
    split = going (told_by None false l o);
    none = λ x y. absurd (let f : false ≡ true = sym o ∙ y in cc);
  }
  by_end (Some k) over l o = record {
    later = sent_of j.left.lines j.left.rest;
    split = going (told_by (Some k) over l o);
    none = λ x y. absurd (let f : Some k ≡ None = sym l ∙ x in cc);
  }

-- nothing is left of the job
pub all_sent : (s : Sending) (source : SourceState) (text : List ℕ) (told : List Sent) → s.last ≡ None → s.over ≡ true → s.stops ≡ 0 → s.waits ≡ false → JobSoFar s source text told → told ≡ sent_in text
all_sent s source text told calm over stops waits j =
    let f = front_sent s source text told j in
    sym (f.split ∙ ap (λ (ss : List Sent). told ++ (ss ++ f.later)) (none_untold s stops waits) ∙ ap (λ (ss : List Sent). told ++ ss) (f.none calm over) ∙ append-nil told)

-- ---- the bytes that may cut

-- those that were counted are all that there may be, where all that is sent is told, up to an alarm
pub cuts_are : (s : Sending) (source : SourceState) (text : List ℕ) (told : List Sent) (halts : Bool) (number : ℕ) (last : Point) → JobSoFar s source text told → IsAllRead s halts number
    → last.before.alarmed ≡ halts → last.before.number ≡ number → s.cuts ≡ most_cuts text last
cuts_are s source text told false number last j all alarmed is =
    let lines = lines_whole s source text told j all.0 all.1 in
    let none = none_left s source text told j all.0 all.1 in
    let split = cuts_split s source text told j in
    let empty : sum_by cuts_by j.left.lines ≡ 0 = ap (λ (ls : List (List ℕ)). sum_by cuts_by ls) none in
    let some : s.cuts ≡ sum_by cuts_by j.lines + cuts_by j.left.rest =
    j.cuts ∙ ap (λ (o : Option ℕ). sum_by cuts_by j.lines + cuts_besides o s.over j.left.rest j.later) all.0 ∙ ap (λ (b : Bool). sum_by cuts_by j.lines + cuts_besides None b j.left.rest j.later) all.1 in
    let same : s.cuts ≡ cuts_scanned (scanned text) = omega (arith, split, empty, some) in
    same ∙ ap (λ (b : Bool). cond b (cuts_with_alarm (last.before.number - 1) text) (cuts_scanned (scanned text))) (sym alarmed)
cuts_are s source text told true number last j all alarmed is =
    let at : all.0 ≡ length j.lines = subst (λ (o : Option ℕ). IfSome o (λ k. k ≡ length j.lines)) all.1 j.alarm in
    let number_is = all.2 in
    let k : last.before.number - 1 ≡ length j.lines = omega (arith, is, number_is, at) in
    let first : take (length j.lines) (scanned text).lines ≡ j.lines = ap (take (length j.lines)) j.split ∙ take-append_seam j.lines j.left.lines in
    let second : drop (length j.lines) (lines_of (job_of text)) ≡ j.later = ap (drop (length j.lines)) j.all ∙ drop_at j.lines j.later (length j.lines) refl in
    let some : s.cuts ≡ sum_by cuts_by j.lines + sum_by holds_by j.later = j.cuts ∙ ap (λ (o : Option ℕ). sum_by cuts_by j.lines + cuts_besides o s.over j.left.rest j.later) all.1 in
    some
    ∙ ap (λ (ls : List (List ℕ)). sum_by cuts_by ls + sum_by holds_by j.later) (sym first)
    ∙ ap (λ (ls : List (List ℕ)). sum_by cuts_by (take (length j.lines) (scanned text).lines) + sum_by holds_by ls) (sym second)
    ∙ ap (λ (n : ℕ). cuts_with_alarm n text) (sym k)
    ∙ ap (λ (b : Bool). cond b (cuts_with_alarm (last.before.number - 1) text) (cuts_scanned (scanned text))) (sym alarmed)

-- ---- the first line that is not audited

pub foreign_found : (s : Sending) (source : SourceState) (text : List ℕ) (told : List Sent) → (s.foreign ≡ 0 → ⊥) → JobSoFar s source text told → IsFirstForeign (scanned text).lines s.foreign
foreign_found s source text told some j =
    let f = j.foreign.some some in
    record {
      before = f.before;
      here = f.here;
      behind = f.behind ++ j.left.lines;
      split = j.split ∙ ap (λ (ls : List (List ℕ)). ls ++ j.left.lines) f.split ∙ append_assoc f.before (f.here ∷ f.behind) j.left.lines;
      number = f.number;
      first = f.first;
      is = f.is;
    }
