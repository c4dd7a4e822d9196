-- A line that asks for a report has one before it is stored.
use Rattle.std.proofs.Common.{◌≡◌, ℕ, ◌+◌, ◌≤◌, ◌<◌, inl, inr, Bool, true, false, cond, ◌||◌, ◌&&◌, List, [], ◌∷◌, ◌++◌, length, take, drop, reverse, get_or, nat_eq, nat_lt, refl, sym, ap, ◌∙◌, arith, subst, length-append}
use Rattle.std.specs.List.{list_any}
use Rattle.std.proofs.lemmas.Bool.Decides.{nat_tests}
use Rattle.std.proofs.lemmas.List.{get_or_append_left, get_or_push, get_or-take, length-take, same_from_push, reverse-append}
use Rattle.std.proofs.lemmas.List.Folds.{list_any-append}
use Rattle.std.proofs.lemmas.List.Sorted.{sum_by-IsPermutation, IsPermutation-reverse}
use Rattle.code_table.specs.Tables.{query}
use Rattle.status_report.specs.declared.Reply.{Reply}
use Rattle.serial_ring.specs.Lists.{has_banner}
use Rattle.status_report.specs.declared.Reply.TheVariants as replies
use Rattle.status_report.specs.Answering.{is_answer, answers_in, is_banner, is_report}
use Rattle.run_rules.specs.Reports.{is_query, asks_report, reports_behind, AreReported}
use Rattle.host_journal.specs.declared.asking.Asking.{Asking}
use Rattle.host_journal.specs.declared.asking.Asking.TheVariants.{Nothing, Awaits, HasOne, AsksAgain}
use Rattle.host_journal.specs.Jobs.{resume, sent_text, served}
use Rattle.host_journal.specs.Steps.{asked_more, got_one, is_waiting, awaits_report, more_served, Journal, got_of, answered_of, port_log, latest_got, begins, raw_of, live_of, to_store, begun_of, due_of, asking_of, resumes_next, is_attended}
use Rattle.host_journal.specs.Steps.PortStep.{stored, dropped, marked, raised, got, no_reply, shut}
use Rattle.host_journal.specs.Steps.Step.{at_port, read_some, read_end, read_failed, scanned, line_over, wrote, gave_up, turned, attends}
use Rattle.stream_host.specs.Conduct.{Conducted, MayRaise, MayScanNext, MayEndLine, waits_for_lines}
use Rattle.stream_host.proofs.Sending.{counts_are, answers_push}
use Rattle.stream_host.proofs.Raising.{served_nil, served_on, none_at_lf}
use Rattle.stream_host.proofs.Epochs.{answered_live, begins_free, both_true}
use Rattle.stream_host.proofs.Waiting.{IsFresh, IsBegun, begun_is, all_begun, few_fresh}

has_query : List ℕ → Bool
has_query bytes = list_any is_query bytes

-- a line asks for a report by a byte that is raised
asks : List ℕ → Bool
asks line = list_any is_query (served line)

-- the reports behind k answers, of replies in the order in which they were got
reports_in : ℕ → List Reply → ℕ
reports_in k rs = reports_behind k (reverse rs)

reports_push : (k : ℕ) (rs : List Reply) (r : Reply) → reports_in k (rs ++ r ∷ []) ≡ cond (is_report r && nat_eq (answers_in rs) k) 1 0 + reports_in k rs
unfolding reports_in
reports_push k rs r =
    ap (reports_behind k) (reverse-append rs (r ∷ []))
    ∙ ap (λ n. cond (is_report r && nat_eq n k) 1 0 + reports_behind k (reverse rs)) (sum_by-IsPermutation (λ (x : Reply). cond (is_answer x) 1 0) rs (reverse rs) (IsPermutation-reverse rs))

-- one was got since it first asked
abbrev has_one : Asking → Bool
has_one Nothing = false
has_one Awaits = false
has_one HasOne = true
has_one AsksAgain = true

-- where a line stands that is number i (from 0): by what it has asked for, what is due, and what was got
record IsAsked (a : Asking) (due cur : List ℕ) (i reports answers : ℕ) : Type 0 where
  pub called : asks cur ≡ true → has_query due ≡ false → a ≡ Nothing → ⊥
  pub after : (a ≡ Nothing → ⊥) → i ≤ answers
  pub had : has_one a ≡ true → 0 < reports

abbrev AreAsked : Journal → Type 0
AreAsked h =
    (0 < length (raw_of h) → IsAsked (asking_of h) (due_of h) (raw_of h) (length (live_of h)) (reports_in (length (live_of h)) (got_of h)) (answered_of h))
    × ((f : IsFresh (live_of h) (begun_of h) (to_store h)) → IsAsked (asking_of h) (due_of h) f.line (length (begun_of h)) (reports_in (length (begun_of h)) (got_of h)) (answered_of h) × (has_query (due_of h) ≡ false))

-- ---- a byte is raised

more_is_some : (a : Asking) → asked_more a ≡ Nothing → ⊥
more_is_some Nothing e = absurd cc
more_is_some Awaits e = absurd cc
more_is_some HasOne e = absurd cc
more_is_some AsksAgain e = absurd cc

more_has : (a : Asking) → has_one (asked_more a) ≡ true → has_one a ≡ true
more_has Nothing e = absurd cc
more_has Awaits e = absurd cc
more_has HasOne e = refl
more_has AsksAgain e = refl

first_is : (b : ℕ) (due : List ℕ) → due ≡ b ∷ drop 1 due → has_query due ≡ (nat_eq b query || has_query (drop 1 due))
unfolding has_query
first_is b due next = ap (list_any is_query) next

-- a byte is raised: a resume of the host's own, or the next that is due
on_raise : (b : ℕ) (resumes t : Bool) (a : Asking) (due cur : List ℕ) (i reports answers : ℕ) → nat_eq b query ≡ t → (resumes ≡ true → b ≡ resume) → (resumes ≡ false → due ≡ b ∷ drop 1 due) → (t ≡ true → i ≤ answers)
    → IsAsked a due cur i reports answers → IsAsked (cond t (asked_more a) a) (cond resumes due (drop 1 due)) cur i reports answers
on_raise b true true a due cur i reports answers is tired next late was = absurd (let e = ap (λ x. nat_eq x query) (tired refl) in let g = sym is ∙ e in cc)
on_raise b true false a due cur i reports answers is tired next late was = was
on_raise b false true a due cur i reports answers is tired next late was = record {
  called = λ more none e. more_is_some a e;
  after = λ some. late refl;
  had = λ e. was.had (more_has a e);
}
on_raise b false false a due cur i reports answers is tired next late was = record {
  called = λ more none e. was.called more (first_is b due (next refl) ∙ ap (λ x. x || has_query (drop 1 due)) is ∙ none) e;
  after = was.after;
  had = was.had;
}

no_query : (b : ℕ) (resumes : Bool) (due : List ℕ) → (resumes ≡ true → b ≡ resume) → (resumes ≡ false → due ≡ b ∷ drop 1 due) → has_query due ≡ false → (nat_eq b query ≡ false) × (has_query (cond resumes due (drop 1 due)) ≡ false)
no_query b true due tired next none = (ap (λ x. nat_eq x query) (tired refl), none)
no_query b false due tired next none = by_or (nat_eq b query) (has_query (drop 1 due)) (sym (first_is b due (next refl)) ∙ none)
  where
    by_or : (x y : Bool) → (x || y) ≡ false → (x ≡ false) × (y ≡ false)
    by_or true y e = absurd cc
    by_or false y e = (refl, e)

raised_asked : (room : ℕ) (b : ℕ) (down : Bool) (h : Journal) → Conducted room h → is_attended h ≡ false → MayRaise b h → AreAsked h → AreAsked (at_port (raised b down) ∷ h)
raised_asked room b down h c alone may was = (
  (λ some. on_raise b (resumes_next h) (nat_eq b query) (asking_of h) (due_of h) (raw_of h) (length (live_of h)) (reports_in (length (live_of h)) (got_of h)) (answered_of h) refl tired next
      (λ e. let f = may.after alone (ap waits_for_lines (is_same b e)) in omega arith) (was.0 some)),
  (λ f. let w = was.1 f in let n = no_query b (resumes_next h) (due_of h) tired next w.1 in (
    on_raise b (resumes_next h) (nat_eq b query) (asking_of h) (due_of h) f.line (length (begun_of h)) (reports_in (length (begun_of h)) (got_of h)) (answered_of h) refl tired next
        (λ e. absurd (let g = sym n.0 ∙ e in cc)) w.0,
    n.1,
  )),
)
  where
    tired : resumes_next h ≡ true → b ≡ resume
    tired e = may.resumes e

    next : resumes_next h ≡ false → due_of h ≡ b ∷ drop 1 (due_of h)
    next e = may.next e

    is_same : (b : ℕ) → nat_eq b query ≡ true → b ≡ query
    is_same b e = grind (arith, nat_tests)

-- ---- a reply is got

one_none : (a : Asking) → got_one a ≡ Nothing → a ≡ Nothing
one_none Nothing e = refl
one_none Awaits e = absurd cc
one_none HasOne e = absurd cc
one_none AsksAgain e = absurd cc

on_got : (r : Reply) (t : Bool) (a : Asking) (due cur : List ℕ) (i : ℕ) (rs : List Reply) → is_report r ≡ t → answers_in rs ≤ i
    → IsAsked a due cur i (reports_in i rs) (answers_in rs) → IsAsked (cond t (got_one a) a) due cur i (reports_in i (rs ++ r ∷ [])) (answers_in (rs ++ r ∷ []))
on_got r true a due cur i rs is few was = record {
  called = λ more none e. was.called more none (one_none a e);
  after = λ some. let p = answers_push rs r in let q = was.after (λ e. some (ap got_one e)) in omega arith;
  had = λ e. let p = reports_push i rs r in let s = by_state a was e in omega arith;
}
  where
    same : (m n : ℕ) → m ≤ n → n ≤ m → nat_eq m n ≡ true
    same m n l k = grind (arith, nat_tests)

    counts_one : (x y : Bool) (n : ℕ) → x ≡ true → y ≡ true → 0 < cond (x && y) 1 0 + n
    counts_one true true n e f = omega arith
    counts_one false y n e f = absurd cc
    counts_one true false n e f = absurd cc

    by_state : (a : Asking) → IsAsked a due cur i (reports_in i rs) (answers_in rs) → has_one (got_one a) ≡ true → 0 < cond (is_report r && nat_eq (answers_in rs) i) 1 0 + reports_in i rs
    by_state Nothing was e = absurd cc
    by_state Awaits was e =
        let q = was.after (λ f. absurd cc) in
        counts_one (is_report r) (nat_eq (answers_in rs) i) (reports_in i rs) is (same (answers_in rs) i few q)
    by_state HasOne was e = let q = was.had refl in omega arith
    by_state AsksAgain was e = let q = was.had refl in omega arith
on_got r false a due cur i rs is few was = record {
  called = was.called;
  after = λ some. let p = answers_push rs r in let q = was.after some in omega arith;
  had = λ e. let p = reports_push i rs r in let q = was.had e in omega arith;
}

no_report : (r : Reply) → is_banner r ≡ true → is_report r ≡ false
no_report replies.Banner e = refl
no_report _ e = absurd cc

-- an epoch begins: a line that has asked was the next to be answered, and is
on_begin : (r : Reply) (a : Asking) (due cur : List ℕ) (i j : ℕ) (rs : List Reply) → is_banner r ≡ true → (j ≡ answers_in rs) × (answers_in rs ≤ i)
    → IsAsked a due cur i (reports_in i rs) (answers_in rs) → IsAsked (cond (is_report r) (got_one a) a) due cur j (reports_in j (rs ++ r ∷ [])) (answers_in (rs ++ r ∷ []))
on_begin r a due cur i j rs banner at was = by_report (is_report r) (no_report r banner)
  where
    by_report : (t : Bool) → t ≡ false → IsAsked (cond t (got_one a) a) due cur j (reports_in j (rs ++ r ∷ [])) (answers_in (rs ++ r ∷ []))
    by_report true e = absurd cc
    by_report false e = record {
      called = was.called;
      after = λ some. let p = answers_push rs r in let n = at.0 in omega arith;
      had = λ f.
          let p = reports_push j rs r in let q = was.had f in let i_at = was.after (λ g. absurd (let k = sym (ap has_one g) ∙ f in cc)) in
          let n = at.0 in let m = at.1 in let same : i ≡ j = omega arith in let s = ap (λ k. reports_in k rs) same in omega arith;
    }

got_asked : (room : ℕ) (r : Reply) (h : Journal) → Conducted room (at_port (got r) ∷ h) → AreAsked h → AreAsked (at_port (got r) ∷ h)
got_asked room r h c was = by_begins (begins r (port_log h)) refl
  where
    by_begins : (t : Bool) → begins r (port_log h) ≡ t
        → (0 < length (raw_of h) → IsAsked (cond (is_report r) (got_one (asking_of h)) (asking_of h)) (due_of h) (raw_of h) (length (cond t (take (answered_of h) (live_of h)) (live_of h))) (reports_in (length (cond t (take (answered_of h) (live_of h)) (live_of h))) (got_of h ++ r ∷ [])) (answers_in (got_of h ++ r ∷ [])))
        × ((f : IsFresh (cond t (take (answered_of h) (live_of h)) (live_of h)) (cond t (take (answered_of h) (begun_of h)) (begun_of h)) (to_store h)) → IsAsked (cond (is_report r) (got_one (asking_of h)) (asking_of h)) (due_of h) f.line (length (cond t (take (answered_of h) (begun_of h)) (begun_of h))) (reports_in (length (cond t (take (answered_of h) (begun_of h)) (begun_of h))) (got_of h ++ r ∷ [])) (answers_in (got_of h ++ r ∷ [])) × (has_query (due_of h) ≡ false))
    by_begins false is = (
      (λ some. on_got r (is_report r) (asking_of h) (due_of h) (raw_of h) (length (live_of h)) (got_of h) refl (counts_are room h c.1).1 (was.0 some)),
      (λ f. let w = was.1 f in (on_got r (is_report r) (asking_of h) (due_of h) f.line (length (begun_of h)) (got_of h) refl (few_fresh room h c.1 f) w.0, w.1)),
    )
    by_begins true is = (
      (λ some. on_begin r (asking_of h) (due_of h) (raw_of h) (length (live_of h)) (length (take (answered_of h) (live_of h))) (got_of h) (both_true (is_banner r) (has_banner (latest_got (port_log h))) is).0
          (let l = length-take (answered_of h) (live_of h) in let few = answered_live room h c.1 in ((omega arith), few)) (was.0 some)),
      (λ f. absurd (let e = ap length (sym f.all ∙ begins_free room r h c is) in let l = length-append (sent_text f.line) (10 ∷ []) in omega arith)),
    )

-- ---- a byte is scanned

asks_more : (raw : List ℕ) (b : ℕ) → asks (raw ++ b ∷ []) ≡ (asks raw || has_query (more_served raw b))
unfolding asks has_query
asks_more raw b = ap (list_any is_query) (sym (served_on raw b)) ∙ list_any-append is_query (served raw) (more_served raw b)

no_asking : (raw : List ℕ) → length raw ≡ 0 → asks raw ≡ true → ⊥
unfolding asks
no_asking [] e more = absurd (let f = sym (ap (list_any is_query) served_nil) ∙ more in cc)
no_asking (x ∷ xs) e more = absurd (omega arith)

is_zero : (n : ℕ) → nat_eq n 0 ≡ true → n ≡ 0
is_zero n e = grind (arith, nat_tests)

not_zero : (n : ℕ) → nat_eq n 0 ≡ false → 0 < n
not_zero n e = grind (arith, nat_tests)

-- the line in hand, with its next byte or none: it was asked for what was due
on_scan : (t : Bool) (a : Asking) (raw cur more : List ℕ) (i reports answers : ℕ) → nat_eq (length raw) 0 ≡ t
    → (asks cur ≡ true → has_query more ≡ false → asks raw ≡ true) → (0 < length raw → IsAsked a [] raw i reports answers)
    → IsAsked (cond t Nothing a) more cur i reports answers
unfolding has_query
on_scan true a raw cur more i reports answers is old was = record {
  called = λ asked none e. no_asking raw (is_zero (length raw) is) (old asked none);
  after = λ some. absurd (some refl);
  had = λ e. absurd cc;
}
on_scan false a raw cur more i reports answers is old was =
    let w = was (not_zero (length raw) is) in
    record {
      called = λ asked none e. w.called (old asked none) refl e;
      after = w.after;
      had = w.had;
    }

calm : (h : Journal) → due_of h ≡ [] → AreAsked h → 0 < length (raw_of h) → IsAsked (asking_of h) [] (raw_of h) (length (live_of h)) (reports_in (length (live_of h)) (got_of h)) (answered_of h)
calm h none was some = subst (λ (due : List ℕ). IsAsked (asking_of h) due (raw_of h) (length (live_of h)) (reports_in (length (live_of h)) (got_of h)) (answered_of h)) none (was.0 some)

due_is : (h : Journal) (b : ℕ) → due_of h ≡ [] → due_of h ++ more_served (raw_of h) b ≡ more_served (raw_of h) b
due_is h b none = ap (λ (d : List ℕ). d ++ more_served (raw_of h) b) none

scan_asked : (room : ℕ) (b : ℕ) (h : Journal) → Conducted room h → MayScanNext b h → AreAsked h → AreAsked (scanned b ∷ h)
unfolding has_query
scan_asked room b h c may was = by_test (nat_eq b 10) refl
  where
    by_test : (t : Bool) → nat_eq b 10 ≡ t
        → (0 < length (cond t [] (raw_of h ++ b ∷ [])) → IsAsked (cond (nat_eq (length (raw_of h)) 0) Nothing (asking_of h)) (due_of h ++ more_served (raw_of h) b) (cond t [] (raw_of h ++ b ∷ [])) (length (cond t (live_of h ++ raw_of h ∷ []) (live_of h))) (reports_in (length (cond t (live_of h ++ raw_of h ∷ []) (live_of h))) (got_of h)) (answered_of h))
        × ((f : IsFresh (cond t (live_of h ++ raw_of h ∷ []) (live_of h)) (begun_of h) (to_store (scanned b ∷ h))) → IsAsked (cond (nat_eq (length (raw_of h)) 0) Nothing (asking_of h)) (due_of h ++ more_served (raw_of h) b) f.line (length (begun_of h)) (reports_in (length (begun_of h)) (got_of h)) (answered_of h) × (has_query (due_of h ++ more_served (raw_of h) b) ≡ false))
    by_test true e = (
      (λ some. absurd (let s : 0 < 0 = some in omega arith)),
      (λ f.
          let begun = all_begun h may.free (begun_is room h c) in
          let same = same_from_push (live_of h) (begun_of h) (raw_of h) f.line f.one in
          let none = due_is h b may.none_due ∙ none_at_lf (raw_of h) b e in
          let i = ap length (sym begun) in (
            subst (λ (n : ℕ). IsAsked (cond (nat_eq (length (raw_of h)) 0) Nothing (asking_of h)) (due_of h ++ more_served (raw_of h) b) f.line n (reports_in n (got_of h)) (answered_of h)) i
                (on_scan (nat_eq (length (raw_of h)) 0) (asking_of h) (raw_of h) f.line (due_of h ++ more_served (raw_of h) b) (length (live_of h)) (reports_in (length (live_of h)) (got_of h)) (answered_of h) refl
                (λ asked q. ap asks same.1 ∙ asked) (calm h may.none_due was)),
            ap has_query none,
          )),
    )
    by_test false e = (
      (λ some. on_scan (nat_eq (length (raw_of h)) 0) (asking_of h) (raw_of h) (raw_of h ++ b ∷ []) (due_of h ++ more_served (raw_of h) b) (length (live_of h)) (reports_in (length (live_of h)) (got_of h)) (answered_of h) refl
          (λ asked q. by_or (asks (raw_of h)) (has_query (more_served (raw_of h) b)) (sym (asks_more (raw_of h) b) ∙ asked) (sym (ap has_query (due_is h b may.none_due)) ∙ q)) (calm h may.none_due was)),
      (λ f. absurd (no_fresh f e)),
    )
      where
        by_or : (x y : Bool) → (x || y) ≡ true → y ≡ false → x ≡ true
        by_or true y g z = refl
        by_or false y g z = absurd (let w = sym z ∙ g in cc)

        no_fresh : IsFresh (live_of h) (begun_of h) (to_store (scanned b ∷ h)) → nat_eq b 10 ≡ false → ⊥
        no_fresh f e =
            let begun = all_begun h may.free (begun_is room h c) in
            let l = ap length f.one in let m = length-append (begun_of h) (f.line ∷ []) in let n = ap length begun in
            absurd (omega arith)

end_asked : (room : ℕ) (h : Journal) → Conducted room h → MayEndLine h → AreAsked h → AreAsked (line_over ∷ h)
unfolding has_query
end_asked room h c may was = (
  (λ some. absurd (let s : 0 < 0 = some in omega arith)),
  (λ f.
      let begun = all_begun h may.free (begun_is room h c) in
      let same = same_from_push (live_of h) (begun_of h) (raw_of h) f.line f.one in
      let w = was.0 may.some in (
        subst (λ (n : ℕ). IsAsked (asking_of h) (due_of h) f.line n (reports_in n (got_of h)) (answered_of h)) (ap length (sym begun))
            (subst (λ (l : List ℕ). IsAsked (asking_of h) (due_of h) l (length (live_of h)) (reports_in (length (live_of h)) (got_of h)) (answered_of h)) same.1 w),
        ap has_query may.none_due,
      )),
)

asked_is : (room : ℕ) (h : Journal) → Conducted room h → is_attended h ≡ false → AreAsked h
asked_is room [] c alone = ((λ some. absurd (let s : 0 < 0 = some in omega arith)), (λ f. absurd (let l = ap length f.one in omega arith)))
asked_is room (at_port (stored b) ∷ h) c alone = ((asked_is room h c.1 alone).0, (λ f. absurd (let l = ap length f.one in let m = length-append (live_of h) (f.line ∷ []) in omega arith)))
asked_is room (at_port (dropped b) ∷ h) c alone = absurd c.0
asked_is room (at_port marked ∷ h) c alone = asked_is room h c.1 alone
asked_is room (at_port (raised b down) ∷ h) c alone = raised_asked room b down h c.1 alone c.0 (asked_is room h c.1 alone)
asked_is room (at_port (got r) ∷ h) c alone = got_asked room r h c (asked_is room h c.1 alone)
asked_is room (at_port no_reply ∷ h) c alone = asked_is room h c.1 alone
asked_is room (at_port shut ∷ h) c alone = asked_is room h c.1 alone
asked_is room (read_some bytes ∷ h) c alone = asked_is room h c.1 alone
asked_is room (read_end ∷ h) c alone = asked_is room h c.1 alone
asked_is room (read_failed ∷ h) c alone = asked_is room h c.1 alone
asked_is room (scanned b ∷ h) c alone = scan_asked room b h c.1 c.0 (asked_is room h c.1 alone)
asked_is room (line_over ∷ h) c alone = end_asked room h c.1 c.0 (asked_is room h c.1 alone)
asked_is room (wrote n ∷ h) c alone = asked_is room h c.1 alone
asked_is room (gave_up ∷ h) c alone = asked_is room h c.1 alone
asked_is room (turned t ∷ h) c alone = asked_is room h c.1 alone
asked_is room (attends ∷ h) c alone = absurd cc

-- ---- each line that is begun has its report

HaveReports : List (List ℕ) → List Reply → Type 0
HaveReports lines rs = (k : ℕ) → k < length lines → asks (get_or lines k []) ≡ true → 0 < reports_in k rs

more_reports : (lines : List (List ℕ)) (r : Reply) (rs : List Reply) → HaveReports lines rs → HaveReports lines (rs ++ r ∷ [])
unfolding HaveReports
more_reports lines r rs are k inside asked = let m = are k inside asked in let p = reports_push k rs r in omega arith

fresh_reported : (h : Journal) (f : IsFresh (live_of h) (begun_of h) (to_store h)) → AreAsked h → awaits_report h ≡ false → HaveReports (begun_of h) (got_of h) → HaveReports (live_of h) (got_of h)
unfolding HaveReports
fresh_reported h f asked none are k inside wants = by_test (nat_lt k (length (begun_of h))) refl
  where
    line_is : (d : List ℕ) → get_or (live_of h) k d ≡ get_or (begun_of h ++ f.line ∷ []) k d
    line_is d = ap (λ (ls : List (List ℕ)). get_or ls k d) f.one

    below : (m n : ℕ) → nat_lt m n ≡ true → m < n
    below m n e = grind (arith, nat_tests)

    above : (m n : ℕ) → nat_lt m n ≡ false → n ≤ m
    above m n e = grind (arith, nat_tests)

    by_state : (a : Asking) → asking_of h ≡ a → asks f.line ≡ true → 0 < reports_in (length (begun_of h)) (got_of h)
    by_state Nothing e q = absurd ((asked.1 f).0.called q (asked.1 f).1 e)
    by_state Awaits e q = absurd (let g = sym none ∙ ap is_waiting e in cc)
    by_state HasOne e q = (asked.1 f).0.had (ap has_one e)
    by_state AsksAgain e q = (asked.1 f).0.had (ap has_one e)

    by_test : (t : Bool) → nat_lt k (length (begun_of h)) ≡ t → 0 < reports_in k (got_of h)
    by_test true e =
        let l = below k (length (begun_of h)) e in
        are k l (ap asks (sym (line_is [] ∙ get_or_append_left (begun_of h) (f.line ∷ []) [] k l)) ∙ wants)
    by_test false e =
        let l = ap length f.one in let m = length-append (begun_of h) (f.line ∷ []) in let g = above k (length (begun_of h)) e in
        let i : length (begun_of h) ≡ k = omega arith in
        subst (λ (n : ℕ). 0 < reports_in n (got_of h)) i
        (by_state (asking_of h) refl (ap asks (sym (line_is [] ∙ get_or_push (begun_of h) f.line [] k i)) ∙ wants))

begun_reported : (h : Journal) → IsBegun h → AreAsked h → awaits_report h ≡ false → HaveReports (begun_of h) (got_of h) → HaveReports (live_of h) (got_of h)
begun_reported h (inl e) asked none are = subst (λ (ls : List (List ℕ)). HaveReports ls (got_of h)) e are
begun_reported h (inr f) asked none are = fresh_reported h f asked none are

begun_have : (room : ℕ) (h : Journal) → Conducted room h → is_attended h ≡ false → HaveReports (begun_of h) (got_of h)
unfolding HaveReports
begun_have room [] c alone = λ k inside asked. absurd (let s : k < 0 = inside in omega arith)
begun_have room (at_port (stored b) ∷ h) c alone = begun_reported h (begun_is room h c.1) (asked_is room h c.1 alone) c.0.reported (begun_have room h c.1 alone)
begun_have room (at_port (dropped b) ∷ h) c alone = absurd c.0
begun_have room (at_port marked ∷ h) c alone = begun_have room h c.1 alone
begun_have room (at_port (raised b down) ∷ h) c alone = begun_have room h c.1 alone
begun_have room (at_port (got r) ∷ h) c alone = by_begins (begins r (port_log h)) (more_reports (begun_of h) r (got_of h) (begun_have room h c.1 alone))
  where
    by_begins : (t : Bool) → HaveReports (begun_of h) (got_of h ++ r ∷ []) → HaveReports (cond t (take (answered_of h) (begun_of h)) (begun_of h)) (got_of h ++ r ∷ [])
    by_begins true are = λ k inside asked.
        let l = length-take (answered_of h) (begun_of h) in
        are k (omega arith) (ap asks (sym (get_or-take (answered_of h) (begun_of h) k [] (omega arith))) ∙ asked)
    by_begins false are = are
begun_have room (at_port no_reply ∷ h) c alone = begun_have room h c.1 alone
begun_have room (at_port shut ∷ h) c alone = begun_have room h c.1 alone
begun_have room (read_some bytes ∷ h) c alone = begun_have room h c.1 alone
begun_have room (read_end ∷ h) c alone = begun_have room h c.1 alone
begun_have room (read_failed ∷ h) c alone = begun_have room h c.1 alone
begun_have room (scanned b ∷ h) c alone = begun_have room h c.1 alone
begun_have room (line_over ∷ h) c alone = begun_have room h c.1 alone
begun_have room (wrote n ∷ h) c alone = begun_have room h c.1 alone
begun_have room (gave_up ∷ h) c alone = begun_have room h c.1 alone
begun_have room (turned t ∷ h) c alone = begun_have room h c.1 alone
begun_have room (attends ∷ h) c alone = absurd cc

-- a `?` outside comments is raised
asks_is : (line : List ℕ) → asks line ≡ asks_report line
unfolding asks
asks_is line = refl

-- each line that asks for a report and has its answer has a report behind the answers to the lines before it
pub reported_is : (room : ℕ) (h : Journal) → Conducted room h → is_attended h ≡ false → AreReported (live_of h) (got_of h)
unfolding HaveReports reports_in
reported_is room h c alone k inside wants = by_begun (begun_is room h c)
  where
    by_begun : IsBegun h → 0 < reports_in k (got_of h)
    by_begun (inl e) =
        let few = (counts_are room h c).1 in let l = ap length e in
        begun_have room h c alone k (omega arith) (ap (λ (ls : List (List ℕ)). asks (get_or ls k [])) e ∙ asks_is (get_or (live_of h) k []) ∙ wants)
    by_begun (inr f) =
        let few = few_fresh room h c f in let l : k < length (begun_of h) = omega arith in
        begun_have room h c alone k l (ap asks (sym (ap (λ (ls : List (List ℕ)). get_or ls k []) f.one ∙ get_or_append_left (begun_of h) (f.line ∷ []) [] k l)) ∙ asks_is (get_or (live_of h) k []) ∙ wants)
