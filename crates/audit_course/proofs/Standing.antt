-- How the ticks of lines stand, and what a part may leave out of them.
use Rattle.std.proofs.Common.{◌≡◌, ℕ, suc, ◌+◌, ◌-◌, ◌≤◌, ◌<◌, ◌⊎◌, inl, inr, Bool, true, false, cond, not, ◌&&◌, ◌||◌, List, [], ◌∷◌, ◌++◌, length, take, length-append, append-nil, append_assoc, refl, sym, ap, ◌∙◌, subst, arith}
use Rattle.std.specs.List.{list_any, AllByRecursion}
use Rattle.std.proofs.lemmas.List.Folds.{list_any-append}
use Rattle.std.proofs.lemmas.List.Elements.{filter-append}
use Rattle.status_report.specs.declared.Reply.{Reply}
use Rattle.step_line.specs.Asking.{ticks_of_all, ticks_among}
use Rattle.step_line.specs.Records.{is_tick}
use Rattle.step_line.specs.declared.Record.{Record}
use Rattle.step_line.specs.declared.Record.TheVariants as kinds
use Rattle.step_line.specs.declared.planned_move.PlannedMove.{PlannedMove}
use Rattle.step_line.proofs.Order.{length_after}
use Rattle.run_rules.specs.declared.State.{State}
use Rattle.run_rules.specs.Cuts.{ticks_asked_for, LosesJogsAlone}
use Rattle.run_rules.specs.Reports.{settles, settled_to}
use Rattle.run_rules.specs.Work.{Task, Outcome, asks, accepted_jog}
use Rattle.line_interpreter.specs.Desks.{kind_told}
use Rattle.part_making.specs.Judging.{Known, Goes, making, rest_of, all_ticks, owed_of, coming_of}
use Rattle.run_texts.specs.Making.{IsMade}
use Rattle.run_texts.specs.Recorded.{ticks_for_all, settled_ticks}
use Rattle.run_texts.specs.Sent.{Sent}
use Rattle.run_texts.proofs.Events.{ticks_on}
use Rattle.audit_course.specs.declared.judge.CourseJudge.{CourseJudge}
use Rattle.audit_course.specs.declared.ticks.Ticks.{Ticks}
use Rattle.audit_course.specs.declared.ticks.Ticks.TheVariants as standing
use Rattle.audit_course.specs.Progressing.{has_some, has_ticks, is_code, is_whole, behind_record, ticks_to}
use Rattle.audit_course.specs.SoFar.{HasJudged, KnowsTicks, AreSo, AreNow}

or_none : (b : Bool) → (b || false) ≡ b
or_none true = refl
or_none false = refl

or_all : (b : Bool) → (b || true) ≡ true
or_all true = refl
or_all false = refl

-- ---- how many ticks

count : List Outcome → ℕ
count os = length (ticks_for_all os)

first_counted : (o : Outcome) (os : List Outcome) → count (o ∷ os) ≡ ticks_asked_for o + count os
unfolding count
first_counted o os =
    let both : length (ticks_for_all (o ∷ os)) ≡ length (ticks_for_all (o ∷ [])) + length (ticks_for_all os) = ap length (ticks_on (o ∷ []) os) ∙ length-append (ticks_for_all (o ∷ [])) (ticks_for_all os) in
    let one : length (ticks_for_all (o ∷ [])) ≡ ticks_asked_for o = ap (λ asked. length (ticks_of_all asked)) (append-nil (asks o.work)) in
    both ∙ ap (λ (n : ℕ). n + length (ticks_for_all os)) one

none_counted : count [] ≡ 0
unfolding count
none_counted = refl

any_last : (is_so : Outcome → Bool) (os : List Outcome) (o : Outcome) → list_any is_so (os ++ o ∷ []) ≡ (list_any is_so os || is_so o)
any_last is_so os o = list_any-append is_so os (o ∷ []) ∙ ap (λ (b : Bool). list_any is_so os || b) (or_none (is_so o))

-- up to the last line, if it is so
last_so : (is_so : Outcome → Bool) (os : List Outcome) (o : Outcome) → is_so o ≡ true → ticks_to is_so (os ++ o ∷ []) ≡ count (os ++ o ∷ [])
last_so is_so [] o e =
    let here : ticks_to is_so (o ∷ []) ≡ ticks_asked_for o + 0 = ap (λ (b : Bool). cond (b || false) (ticks_asked_for o + 0) 0) e in
    let all = first_counted o [] in
    here ∙ sym (all ∙ ap (λ (n : ℕ). ticks_asked_for o + n) none_counted)
last_so is_so (x ∷ os) o e =
    ap (λ (b : Bool). cond b (ticks_asked_for x + ticks_to is_so (os ++ o ∷ [])) 0) (any_last is_so (x ∷ os) o ∙ ap (λ (b : Bool). list_any is_so (x ∷ os) || b) e ∙ or_all (list_any is_so (x ∷ os)))
    ∙ ap (λ (n : ℕ). ticks_asked_for x + n) (last_so is_so os o e) ∙ sym (first_counted x (os ++ o ∷ []))

-- else up to the one before it
last_other : (is_so : Outcome → Bool) (os : List Outcome) (o : Outcome) → is_so o ≡ false → ticks_to is_so (os ++ o ∷ []) ≡ ticks_to is_so os
last_other is_so [] o e = ap (λ (b : Bool). cond (b || false) (ticks_asked_for o + 0) 0) e
last_other is_so (x ∷ os) o e =
    ap (λ (b : Bool). cond b (ticks_asked_for x + ticks_to is_so (os ++ o ∷ [])) 0) (any_last is_so (x ∷ os) o ∙ ap (λ (b : Bool). list_any is_so (x ∷ os) || b) e ∙ or_none (list_any is_so (x ∷ os)))
    ∙ ap (λ (n : ℕ). cond (list_any is_so (x ∷ os)) (ticks_asked_for x + n) 0) (last_other is_so os o e)

pub settled_is : (os : List Outcome) → settled_ticks os ≡ ticks_to settles os
unfolding count
settled_is [] = refl
settled_is (o ∷ os) = by (settled_is os) (list_any settles (o ∷ os)) where
  by : settled_ticks os ≡ ticks_to settles os → (b : Bool) → count (take (cond b (settled_to os + 1) 0) (o ∷ os)) ≡ cond b (ticks_asked_for o + ticks_to settles os) 0
  by rest true =
      let one : settled_to os + 1 ≡ suc (settled_to os) = omega arith in
      ap (λ (n : ℕ). count (take n (o ∷ os))) one ∙ first_counted o (take (settled_to os) os) ∙ ap (λ (n : ℕ). ticks_asked_for o + n) rest
  by rest false = refl

-- ---- jogs alone may be left out

some_counts : (rs : List Record) → has_some rs ≡ true → 0 < length rs
some_counts [] e = absurd cc
some_counts (r ∷ rs) e = omega arith

none_counts : (rs : List Record) → has_some rs ≡ false → length rs ≡ 0
none_counts [] e = refl
none_counts (r ∷ rs) e = absurd cc

-- code asks for ticks, and what is no code is a jog or asks for none
code_asks : (o : Outcome) → is_code o ≡ true → 0 < ticks_asked_for o
code_asks o e = some_counts (ticks_of_all (asks o.work)) (second (not (accepted_jog o.kind)) (has_ticks o.work) e) where
  second : (a b : Bool) → (a && b) ≡ true → b ≡ true
  second true b e = e
  second false b e = absurd cc

jog_or_none : (o : Outcome) (m : ℕ) → is_code o ≡ false → (accepted_jog o.kind ≡ true) ⊎ (ticks_asked_for o ≤ m)
jog_or_none o m e = by (accepted_jog o.kind) refl where
  by : (jog : Bool) → accepted_jog o.kind ≡ jog → (accepted_jog o.kind ≡ true) ⊎ (ticks_asked_for o ≤ m)
  by true is = inl is
  by false is =
      let none : ticks_asked_for o ≡ 0 = none_counts (ticks_of_all (asks o.work)) (sym (ap (λ (b : Bool). not b && has_ticks o.work) is) ∙ e) in
      inr (omega (arith, none))

jog_is_none : (o : Outcome) → accepted_jog o.kind ≡ true → is_code o ≡ false
jog_is_none o e = ap (λ (b : Bool). not b && has_ticks o.work) e

some_code : (os : List Outcome) → list_any is_code os ≡ true → 0 < ticks_to is_code os
some_code [] e = absurd cc
some_code (o ∷ os) e = subst (λ (b : Bool). 0 < cond b (ticks_asked_for o + ticks_to is_code os) 0) (sym e) (by (some_code os) (is_code o) refl) where
  by : (list_any is_code os ≡ true → 0 < ticks_to is_code os) → (b : Bool) → is_code o ≡ b → 0 < ticks_asked_for o + ticks_to is_code os
  by more true is = let some = code_asks o is in omega (arith, some)
  by more false is = let some = more (sym (ap (λ (b : Bool). b || list_any is_code os) is) ∙ e) in omega (arith, some)

none_code : (os : List Outcome) → list_any is_code os ≡ false → ticks_to is_code os ≡ 0
none_code [] e = refl
none_code (o ∷ os) e = ap (λ (b : Bool). cond b (ticks_asked_for o + ticks_to is_code os) 0) e

-- The first m ticks of some lines leave out ticks of jogs alone exactly if they are as many as those up to the last line of code.
-- they have those of the first line, if it is no jog
jogs_first : (o : Outcome) (os : List Outcome) (m : ℕ) → ticks_to is_code os ≤ m - ticks_asked_for o → (accepted_jog o.kind ≡ true) ⊎ (ticks_asked_for o ≤ m) → (b : Bool) → list_any is_code (o ∷ os) ≡ b → ticks_to is_code (o ∷ os) ≤ m
jogs_first o os m rest first true e = subst (λ (b : Bool). cond b (ticks_asked_for o + ticks_to is_code os) 0 ≤ m) (sym e) (by first) where
  by : (accepted_jog o.kind ≡ true) ⊎ (ticks_asked_for o ≤ m) → ticks_asked_for o + ticks_to is_code os ≤ m
  by (inl jog) = let some = some_code os (sym (ap (λ (b : Bool). b || list_any is_code os) (jog_is_none o jog)) ∙ e) in omega (arith, some, rest)
  by (inr few) = omega (arith, few, rest)
jogs_first o os m rest first false e = subst (λ (b : Bool). cond b (ticks_asked_for o + ticks_to is_code os) 0 ≤ m) (sym e) (omega arith)

pub jogs_to : (os : List Outcome) (m : ℕ) → LosesJogsAlone m os → ticks_to is_code os ≤ m
jogs_to [] m l = omega arith
jogs_to (o ∷ os) m l = jogs_first o os m (jogs_to os (m - ticks_asked_for o) l.1) l.0 (list_any is_code (o ∷ os)) refl

-- and if they have those up to the last line of code, the rest has those that it is to have
first_has : (o : Outcome) (os : List Outcome) (m : ℕ) → ticks_to is_code (o ∷ os) ≤ m → (b : Bool) → list_any is_code (o ∷ os) ≡ b → ((accepted_jog o.kind ≡ true) ⊎ (ticks_asked_for o ≤ m)) × (ticks_to is_code os ≤ m - ticks_asked_for o)
first_has o os m few true e =
    let all : ticks_asked_for o + ticks_to is_code os ≤ m = subst (λ (b : Bool). cond b (ticks_asked_for o + ticks_to is_code os) 0 ≤ m) e few in
    (inr (omega (arith, all)), omega (arith, all))
first_has o os m few false e =
    let n = none (is_code o) (list_any is_code os) e in
    let zero = none_code os n.1 in
    (jog_or_none o m n.0, omega (arith, zero)) where
      none : (a b : Bool) → (a || b) ≡ false → (a ≡ false) × (b ≡ false)
      none true b e = absurd cc
      none false b e = (refl, e)

pub to_jogs : (os : List Outcome) (m : ℕ) → ticks_to is_code os ≤ m → LosesJogsAlone m os
to_jogs [] m few = tt
to_jogs (o ∷ os) m few = let f = first_has o os m few (list_any is_code (o ∷ os)) refl in (f.0, to_jogs os (m - ticks_asked_for o) f.1)

-- ---- how they stand

pub whole_has : (t : Ticks) (n : ℕ) (part : Known) (lost : Bool) (made : List Record) → AreSo t n part lost made → is_whole t ≡ true → n ≤ length (ticks_among made)
whole_has standing.Whole n part lost made s e = s
whole_has standing.Owed n part lost made s e = absurd cc
whole_has standing.Lost n part lost made s e = absurd cc

part_lacks : (t : Ticks) (n : ℕ) (part : Known) (lost : Bool) (made : List Record) → AreSo t n part lost made → is_whole t ≡ false → length (ticks_among made) < n
part_lacks standing.Whole n part lost made s e = absurd cc
part_lacks standing.Owed n part lost made s e = let is = s.0 in let some = s.1 in omega (arith, is, some)
part_lacks standing.Lost n part lost made s e = let few = s.0 in omega (arith, few)

-- so they are whole exactly where these records have them
pub is_whole_so : (t : Ticks) (n : ℕ) (part : Known) (lost : Bool) (made : List Record) → AreSo t n part lost made → n ≤ length (ticks_among made) → is_whole t ≡ true
is_whole_so t n part lost made s few = by (is_whole t) refl where
  by : (b : Bool) → is_whole t ≡ b → is_whole t ≡ true
  by true e = e
  by false e = absurd (let less = part_lacks t n part lost made s e in omega (arith, less, few))

-- where the part owes nothing and nothing is lost, they are
pub idle_whole : (t : Ticks) (n : ℕ) (part : Known) (lost : Bool) (made : List Record) → AreSo t n part lost made → owed_of part ≡ [] → lost ≡ false → t ≡ standing.Whole
idle_whole standing.Whole n part lost made s none kept = refl
idle_whole standing.Owed n part lost made s none kept = absurd (let some = s.1 in let zero : length (owed_of part) ≡ 0 = ap length none in omega (arith, some, zero))
idle_whole standing.Lost n part lost made s none kept = absurd (let f : false ≡ true = sym kept ∙ s.1 in cc)

-- so an item is asked for
pub are_asked : (t : Ticks) (n : ℕ) (part now : Known) (lost : Bool) (made : List Record) → AreSo t n part lost made → owed_of part ≡ [] → lost ≡ false → AreSo t n now lost made
are_asked t n part now lost made s none kept =
    let e = idle_whole t n part lost made s none kept in
    subst (λ (x : Ticks). AreSo x n now lost made) (sym e) (subst (λ (x : Ticks). AreSo x n part lost made) e s)

-- or lost
pub are_lost : (t : Ticks) (n : ℕ) (part : Known) (lost : Bool) (made : List Record) → AreSo t n part lost made → AreSo t n part true made
are_lost standing.Whole n part lost made s = s
are_lost standing.Owed n part lost made s = s
are_lost standing.Lost n part lost made s = (s.0, refl)

some_length : (rs : List Record) → (rs ≡ [] → ⊥) → 0 < length rs
some_length [] f = absurd (f refl)
some_length (r ∷ rs) f = omega arith

-- a record comes
pub are_taken : (t : Ticks) (n : ℕ) (part now : Known) (lost : Bool) (made : List Record) (r : Record) (idle : Bool) → AreSo t n part lost made → (idle ≡ true → owed_of now ≡ []) → (idle ≡ false → owed_of now ≡ [] → ⊥)
    → length (ticks_among made) ≤ length (ticks_among (made ++ r ∷ [])) → length (ticks_among (made ++ r ∷ [])) + length (owed_of now) ≡ length (ticks_among made) + length (owed_of part)
    → AreSo (behind_record idle t) n now lost (made ++ r ∷ [])
are_taken standing.Whole n part now lost made r true s none some more sum = omega (arith, s, more)
are_taken standing.Whole n part now lost made r false s none some more sum = omega (arith, s, more)
are_taken standing.Owed n part now lost made r true s none some more sum =
    let is = s.0 in
    let zero : length (owed_of now) ≡ 0 = ap length (none refl) in
    omega (arith, is, sum, zero)
are_taken standing.Owed n part now lost made r false s none some more sum = let is = s.0 in (omega (arith, is, sum), some_length (owed_of now) (some refl))
are_taken standing.Lost n part now lost made r true s none some more sum = let few = s.0 in (omega (arith, few, sum), s.1)
are_taken standing.Lost n part now lost made r false s none some more sum = let few = s.0 in (omega (arith, few, sum), s.1)

-- ---- what is made of lines

-- what lines ask for is recorded, owed of the part, or asked for behind that
pub made_counted : (lines : List Outcome) (made : List Record) (k : Known) (ticks : List Record) (moves : List PlannedMove) → IsMade lines made (making k ticks moves)
    → length (ticks_for_all lines) ≡ length (ticks_among made) + (length (owed_of k) + length ticks)
made_counted lines made k ticks moves is =
    ap length (is.ticks ∙ ap (λ (rs : List Record). ticks_among made ++ rs) (sym (append_assoc (rest_of k.latest) (all_ticks k.next) ticks)))
    ∙ length-append (ticks_among made) ((rest_of k.latest ++ all_ticks k.next) ++ ticks)
    ∙ ap (λ (n : ℕ). length (ticks_among made) + n) (length-append (rest_of k.latest ++ all_ticks k.next) ticks)

-- a record that is no head is a tick, and a head has events that come
pub taken_more : (k now : Known) (made : List Record) (r : Record) → Goes k r now → coming_of now.latest ≡ [] → length (ticks_among made) < length (ticks_among (made ++ r ∷ []))
taken_more k now made (kinds.Event b) g out = let long = ap length (filter-append is_tick made (kinds.Event b ∷ [])) ∙ length-append (ticks_among made) (kinds.Event b ∷ []) in omega (arith, long)
taken_more k now made (kinds.Mark m) g out = let long = ap length (filter-append is_tick made (kinds.Mark m ∷ [])) ∙ length-append (ticks_among made) (kinds.Mark m ∷ []) in omega (arith, long)
taken_more k now made (kinds.Head h) g out =
    let comes = g [] [] in
    let head = comes.0 in
    let some = comes.2.is.some in
    let none : length (coming_of now.latest) ≡ 0 = ap length out in
    let all = ap length comes.2.coming ∙ length_after head.planned.mv head.first head.head.n in
    absurd (omega (arith, some, none, all))
taken_more k now made kinds.End g out = absurd (g [] [])

-- ---- a line is over

-- as all lines stand
are_now : (t : Ticks) (j : CourseJudge) (since : List Outcome) (made ticks : List Record) (moves : List PlannedMove) → AreNow t j → IsMade since made (making j.part ticks moves) → (j.lost ≡ false → ticks ≡ []) → (j.lost ≡ true → ticks ≡ [] → ⊥)
    → AreSo t (length (ticks_for_all since)) j.part j.lost made
are_now standing.Whole j since made ticks moves now is kept lost =
    let all = made_counted since made j.part ticks moves is in
    let none : length (owed_of j.part) ≡ 0 = ap length now.1 in
    let rest : length ticks ≡ 0 = ap length (kept now.0) in
    omega (arith, all, none, rest)
are_now standing.Owed j since made ticks moves now is kept lost =
    let all = made_counted since made j.part ticks moves is in
    let rest : length ticks ≡ 0 = ap length (kept now.0) in
    (omega (arith, all, rest), some_length (owed_of j.part) now.1)
are_now standing.Lost j since made ticks moves now is kept lost =
    let all = made_counted since made j.part ticks moves is in
    let rest = some_length ticks (lost now) in
    (omega (arith, all, rest), now)

-- up to the last line that is so, which is the one that is over, or one before it
are_last : (is_so : Outcome → Bool) (now old : Ticks) (before since : List Outcome) (o : Outcome) (so : Bool) (part : Known) (lost : Bool) (made : List Record) → since ≡ before ++ o ∷ [] → is_so o ≡ so
    → AreSo now (length (ticks_for_all since)) part lost made → AreSo old (ticks_to is_so before) part lost made → AreSo (cond so now old) (ticks_to is_so since) part lost made
unfolding count
are_last is_so now old before since o true part lost made split is here there =
    subst (λ (os : List Outcome). AreSo now (ticks_to is_so os) part lost made) (sym split) (subst (λ (n : ℕ). AreSo now n part lost made) (sym (last_so is_so before o is)) (subst (λ (os : List Outcome). AreSo now (count os) part lost made) split here))
are_last is_so now old before since o false part lost made split is here there =
    subst (λ (os : List Outcome). AreSo old (ticks_to is_so os) part lost made) (sym split) (subst (λ (n : ℕ). AreSo old n part lost made) (sym (last_other is_so before o is)) there)

pub ticks_closed : (j : CourseJudge) (now : Ticks) (first : State) (sent : List Sent) (replies : List Reply) (records : List Record) (s : HasJudged j first sent replies records) → j.work.left ≡ [] → AreNow now j
    → (b u : Bool) → j.in_hand ≡ b → j.unanswered ≡ u
    → KnowsTicks (record j {
      answered = cond ((b && not u) && true) now j.answered;
      code = cond ((b && not u) && (not (accepted_jog (kind_told j.line.accepted)) && j.line.asks)) now j.code;
      settled = cond ((b && not u) && j.line.settles) now j.settled;
    }) s.since [] s.made
ticks_closed j now first sent replies records s done stands false u in_hand unanswered =
    let none : s.hand ≡ [] = (s.line.none in_hand).none in
    record {
      before = s.knows.before;
      split = s.knows.split ∙ ap (λ (os : List Outcome). s.knows.before ++ os) none;
      answered = s.knows.answered;
      code = s.knows.code;
      settled = s.knows.settled;
    }
ticks_closed j now first sent replies records s done stands true true in_hand unanswered = record {
  before = s.knows.before;
  split = s.knows.split ∙ ap (λ (os : List Outcome). s.knows.before ++ os) (s.line.unheld unanswered);
  answered = s.knows.answered;
  code = s.knows.code;
  settled = s.knows.settled;
}
ticks_closed j now first sent replies records s done stands true false in_hand unanswered = record {
  before = s.since;
  split = sym (append-nil s.since);
  answered = here;
  code = are_last is_code now j.code s.knows.before s.since o.0 (not (accepted_jog (kind_told j.line.accepted)) && j.line.asks) j.part j.lost s.made split code here s.knows.code;
  settled = are_last settles now j.settled s.knows.before s.since o.0 j.line.settles j.part j.lost s.made split are.1 here s.knows.settled;
} where
  o : (o : Outcome) × (s.hand ≡ o ∷ [])
  o = s.line.held in_hand unanswered

  split : s.since ≡ s.knows.before ++ o.0 ∷ []
  split = s.knows.split ∙ ap (λ (os : List Outcome). s.knows.before ++ os) o.1

  are : (o.0.work ≡ s.line.work) × (o.0.settles ≡ j.line.settles) × (o.0.kind ≡ kind_told j.line.accepted)
  are = (subst (AllByRecursion (λ (x : Outcome). (x.work ≡ s.line.work) × (x.settles ≡ j.line.settles) × (x.kind ≡ kind_told j.line.accepted))) o.1 s.line.are).0

  ticks : has_ticks s.line.work ≡ j.line.asks
  ticks = sym s.line.ticks ∙ ap (λ (ts : List Task). j.line.asks || has_ticks ts) done ∙ or_none j.line.asks

  code : is_code o.0 ≡ (not (accepted_jog (kind_told j.line.accepted)) && j.line.asks)
  code = ap (λ k. not (accepted_jog k) && has_ticks o.0.work) are.2 ∙ ap (λ (ts : List Task). not (accepted_jog (kind_told j.line.accepted)) && has_ticks ts) are.0 ∙ ap (λ (b : Bool). not (accepted_jog (kind_told j.line.accepted)) && b) ticks

  bare : IsMade s.since s.made (making j.part s.ticks s.moves)
  bare = subst (λ (os : List Outcome). IsMade os s.made (making j.part s.ticks s.moves)) (ap (λ (os : List Outcome). s.since ++ os) (s.none_begun unanswered) ∙ append-nil s.since) s.is_made

  here : AreSo now (length (ticks_for_all s.since)) j.part j.lost s.made
  here = are_now now j s.since s.made s.ticks s.moves stands bare (λ e. (s.asked e).0 ∙ ap (λ (ts : List Task). ticks_of_all (asks ts)) done) s.loses_some
