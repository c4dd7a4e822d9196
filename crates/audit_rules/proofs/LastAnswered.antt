-- What is sent and told says which line was answered last, wherever jogs were cut and whatever state they left.
use Rattle.std.proofs.Common.{◌≡◌, ℕ, zero, suc, ◌+◌, ◌≤◌, ◌⊎◌, inl, inr, List, [], ◌∷◌, ◌++◌, append_assoc, append-nil, length, map, true, false, Bool, cond, ◌||◌, sym, refl, ap, ◌∙◌, subst, arith}
use Rattle.std.specs.List.{list_any}
use Rattle.status_report.specs.Answering.{is_answer}
use Rattle.status_report.specs.declared.Reply.{Reply}
use Rattle.status_report.specs.declared.Reply.TheVariants.{Banner, Alarm}
use Rattle.run_rules.specs.declared.State.{State}
use Rattle.run_rules.specs.States.{IsOpening}
use Rattle.run_rules.specs.Reports.{raises_alarm}
use Rattle.run_rules.specs.Work.{Outcome, tells}
use Rattle.run_texts.specs.Courses.{Passed, behind_cut, behind_the_reset}
use Rattle.run_texts.specs.Courses.Passed.{a_line, a_broken, a_cut, a_reset}
use Rattle.run_texts.specs.Points.{Point, behind_line, behind_broken, opening}
use Rattle.run_texts.specs.Sent.{Sent, waiting_in, behind_reset}
use Rattle.run_texts.specs.Sent.Sent.{a_text, a_stop}
use Rattle.run_texts.specs.SoFar.{LeadsTo}
use Rattle.run_texts.specs.Told.{told_at_reset, told_in}
use Rattle.run_texts.proofs.Determined.{line_answers}
use Rattle.run_texts.proofs.Going.{behind_on, waiting_on}
use Rattle.run_texts.proofs.Quiet.{opens}
use Rattle.audit_rules.specs.Consoles.{is_of_reset}
use Rattle.audit_rules.specs.Telling.{last_answered}
use Rattle.audit_rules.proofs.Ahead.{Level, LineAhead, ResetAhead, SameLine, TellsAnew, line_ahead, line_answered, reset_ahead, same_line, same_reset, tells_anew, waits}
use Rattle.audit_rules.proofs.BehindText.{first_of_line}
use Rattle.audit_rules.proofs.OneWay.{both}

-- ---- two courses

-- From a point with a number, where all lines are answered, a course leads to a point where nothing is left of the job, and tells
-- this. If `last` is the line that was answered last before it, `n` is the one behind it.
pub record GoesOnBehind (number last : ℕ) (later : List Sent) (more : List Reply) (q : Point) (n : ℕ) : Type 0 where
  pub point : Point
  pub answered : point.unanswered ≡ false
  pub number_is : point.before.number ≡ number
  pub course : List Passed
  pub leads : LeadsTo point later course q []
  pub tells : told_in course ≡ more
  pub last_is : n ≡ last_answered number last course

-- a number stands for one that is equal
counted_on : (number last other n m : ℕ) (later : List Sent) (more : List Reply) (q : Point) → last ≡ other → n ≡ m → GoesOnBehind number other later more q m → GoesOnBehind number last later more q n
counted_on number last other n m later more q e f g =
    subst (λ (l : ℕ). GoesOnBehind number l later more q n) (sym e) (subst (λ (k : ℕ). GoesOnBehind number other later more q k) (sym f) g)

module _ (s t : Point) (later : List Sent) (more : List Reply) where
  -- from level points on the second course goes on behind the first
  abbrev On : List Passed → Type 0
  On xs = (p q : Point) (front : List Sent) (ys : List Passed) (l : ℕ) → Level p q → q.unanswered ≡ false → LeadsTo p front xs s [] → LeadsTo q (front ++ later) ys t [] → told_in xs ++ more ≡ told_in ys
      → GoesOnBehind s.before.number (last_answered p.before.number l xs) later more t (last_answered q.before.number l ys)

  by_end : On []
  by_end p q front ys l level answered e f told =
      let number : q.before.number ≡ s.before.number = sym level.number ∙ sym (ap (λ (x : Point). x.before.number) e.0) in
      record {
        point = q;
        answered = answered;
        number_is = number;
        course = ys;
        leads = subst (λ (ss : List Sent). LeadsTo q (ss ++ later) ys t []) (sym e.1) f;
        tells = sym told;
        last_is = ap (λ (n : ℕ). last_answered n l ys) number;
      }

  -- behind a line that both pass
  behind_lines : (p q : Point) (line : List ℕ) (sent : List Sent) (o : Outcome) (xs ys : List Passed) (l : ℕ) → Level p q → LeadsTo p (a_text line ∷ sent) (a_line o ∷ xs) s [] → (a : LineAhead q t line (sent ++ later) [] ys)
      → SameLine o a.outcome (told_in xs ++ more) (told_in a.rest) → On xs → GoesOnBehind s.before.number (last_answered p.before.number l (a_line o ∷ xs)) later more t (last_answered q.before.number l ys)
  behind_lines p q line sent o xs ys l level e a same on =
      let b = raises_alarm o in
      let n = p.before.number in
      let m = q.before.number in
      let last : ℕ = cond b l n in
      let behind : Level (behind_line p line o) (behind_line a.from line a.outcome) = record {
        number = ap (λ (i : ℕ). i + 1) (level.number ∙ a.level.number);
        locked = ap (λ (c : Bool). (behind_line (record p { locked = c }) line o).locked) (level.locked ∙ a.level.locked);
      } in
      let counted : last_answered m l ys ≡ last_answered (a.from.before.number + 1) last a.rest =
      a.last_is m l
      ∙ ap (λ (c : Bool). last_answered (m + 1) (cond c l m) a.rest) (sym same.raises)
      ∙ ap (λ (i : ℕ). last_answered (m + 1) (cond b l i) a.rest) (sym level.number)
      ∙ ap (λ (i : ℕ). last_answered (i + 1) last a.rest) a.level.number in
      let number = s.before.number in
      let all = last_answered (n + 1) last xs in
      counted_on number all all (last_answered m l ys) (last_answered (a.from.before.number + 1) last a.rest) later more t refl counted
      (on (behind_line p line o) (behind_line a.from line a.outcome) sent a.rest last behind refl e.1 a.leads same.told)

  by_line : (p q : Point) (line : List ℕ) (sent : List Sent) (o : Outcome) (xs ys : List Passed) (l : ℕ) → Level p q → LeadsTo p (a_text line ∷ sent) (a_line o ∷ xs) s [] → LeadsTo q (a_text line ∷ (sent ++ later)) ys t []
      → told_in (a_line o ∷ xs) ++ more ≡ told_in ys → On xs → GoesOnBehind s.before.number (last_answered p.before.number l (a_line o ∷ xs)) later more t (last_answered q.before.number l ys)
  by_line p q line sent o xs ys l level e f told on =
      let begins : (tells o.work ++ told_in xs) ++ more ≡ tells o.work ++ (told_in xs ++ more) = append_assoc (tells o.work) (told_in xs) more in
      let first = first_of_line p line o (told_in xs ++ more) e.0.becomes in
      let a = line_ahead q t line (sent ++ later) [] ys first.first first.more f (sym told ∙ begins ∙ first.is) first.quiet in
      behind_lines p q line sent o xs ys l level e a (same_line p a.from line o a.outcome (told_in xs ++ more) (told_in a.rest) e.0.becomes a.is.becomes (sym begins ∙ told ∙ a.tells_it)) on

  -- behind a reset that ends an epoch of both
  behind_resets : (p q : Point) (front : List Sent) (xs ys : List Passed) (l : ℕ) → Level p q → (a : ResetAhead p s front [] xs) (b : ResetAhead q t (front ++ later) [] ys)
      → told_at_reset a.reset ++ (told_in a.rest ++ more) ≡ told_at_reset b.reset ++ told_in b.rest → On a.rest → GoesOnBehind s.before.number (last_answered p.before.number l xs) later more t (last_answered q.before.number l ys)
  behind_resets p q front xs ys l level a b told on =
      let r = a.reset in
      let u = b.reset in
      let locks : r.alarm ≡ u.alarm → r.locked ≡ u.locked = λ alarm. a.locked ∙ ap (λ (x : Bool). x || p.locked) alarm ∙ ap (λ (x : Bool). u.alarm || x) level.locked ∙ sym b.locked in
      let same = same_reset r.alarm u.alarm r.locked u.locked (told_in a.rest ++ more) (told_in b.rest) locks told in
      let waiting : waiting_in (front ++ later) ≡ waiting_in front = waiting_on front later a.comes in
      let number : r.number + r.dropped + 1 ≡ u.number + u.dropped + 1 =
      a.number ∙ ap (λ (n : ℕ). n + length (waiting_in front)) level.number ∙ ap (λ (lines : List (List ℕ)). q.before.number + length lines) (sym waiting) ∙ sym b.number in
      let there : LeadsTo (behind_the_reset u b.from) (behind_reset front ++ later) b.rest t [] = subst (λ (ss : List Sent). LeadsTo (behind_the_reset u b.from) ss b.rest t []) (behind_on front later a.comes) b.leads in
      let behind : Level (behind_the_reset r a.from) (behind_the_reset u b.from) = record { number = number; locked = same.0 } in
      counted_on s.before.number (last_answered p.before.number l xs) (last_answered (r.number + r.dropped + 1) l a.rest) (last_answered q.before.number l ys) (last_answered (u.number + u.dropped + 1) l b.rest) later more t
      (a.last_is p.before.number l) (b.last_is q.before.number l)
      (on (behind_the_reset r a.from) (behind_the_reset u b.from) (behind_reset front) b.rest l behind refl a.leads there same.1)

  by_reset : (p q : Point) (front : List Sent) (xs ys : List Passed) (l : ℕ) → Level p q → LeadsTo p front xs s [] → LeadsTo q (front ++ later) ys t [] → told_in xs ++ more ≡ told_in ys → TellsAnew (told_in xs)
      → ((rest : List Passed) → length rest + 1 ≤ length xs → On rest) → GoesOnBehind s.before.number (last_answered p.before.number l xs) later more t (last_answered q.before.number l ys)
  by_reset p q front xs ys l level e f told anew on =
      let a = reset_ahead p s front [] xs e anew in
      let whole : told_in xs ++ more ≡ told_at_reset a.reset ++ (told_in a.rest ++ more) = ap (λ (us : List Reply). us ++ more) a.tells_it ∙ append_assoc (told_at_reset a.reset) (told_in a.rest) more in
      let too : TellsAnew (told_in ys) = record { first = anew.first; more = anew.more ++ more; is = sym told ∙ ap (λ (us : List Reply). us ++ more) anew.is; anew = anew.anew } in
      let b = reset_ahead q t (front ++ later) [] ys f too in
      behind_resets p q front xs ys l level a b (sym whole ∙ told ∙ b.tells_it) (on a.rest a.fewer)

  -- behind a line that is not answered, and that is not the last, a reset is told
  told_behind : (p : Point) (sent : List Sent) (ps : List Passed) → LeadsTo p sent ps s [] → p.unanswered ≡ true → s.unanswered ≡ false → TellsAnew (told_in ps)
  told_behind p sent ps f begun answered = by_wait (waits p s sent [] ps f begun) where
    by_wait : ((s.unanswered ≡ true) × (told_in ps ≡ [])) ⊎ TellsAnew (told_in ps) → TellsAnew (told_in ps)
    by_wait (inl none) = both s.unanswered none.0 answered
    by_wait (inr anew) = anew

  on : (k : ℕ) (xs : List Passed) → length xs ≤ k → s.unanswered ≡ false → On xs
  on k [] few done p q front ys l level answered e f told = by_end p q front ys l level answered e f told
  on zero (x ∷ xs) few done p q front ys l level answered e f told = absurd (omega (arith, few))
  on (suc k) (a_cut c at ∷ xs) few done p q front ys l level answered e f told =
      on k xs (omega (arith, few)) done (behind_cut at p) q front ys l (record { number = level.number; locked = level.locked }) answered e.1 f told
  on (suc k) (a_reset r ∷ xs) few done p q front ys l level answered e f told =
      by_reset p q front (a_reset r ∷ xs) ys l level e f told (tells_anew r.alarm _ (told_in xs)) (λ rest fewer. on k rest (omega (arith, few, fewer)) done)
  on (suc k) (a_line o ∷ xs) few done p q [] ys l level answered e f told = absurd e
  on (suc k) (a_line o ∷ xs) few done p q (a_stop ∷ sent) ys l level answered e f told = absurd e
  on (suc k) (a_line o ∷ xs) few done p q (a_text line ∷ sent) ys l level answered e f told = by_line p q line sent o xs ys l level e f told (on k xs (omega (arith, few)) done)
  on (suc k) (a_broken o ∷ xs) few done p q [] ys l level answered e f told = absurd e
  on (suc k) (a_broken o ∷ xs) few done p q (a_stop ∷ sent) ys l level answered e f told = absurd e
  on (suc k) (a_broken o ∷ xs) few done p q (a_text line ∷ sent) ys l level answered e f told =
      by_reset p q (a_text line ∷ sent) (a_broken o ∷ xs) ys l level e f told (told_behind (behind_broken p o) sent xs e.1 refl done) (λ rest fewer. on k rest (omega (arith, few, fewer)) done)

-- Of two courses over one job, from openings, the one that tells more goes on behind the other: from a point with the number of
-- that at which the other ends, and with its last answered line counted on from the other's.
pub last_on : (f g : State) → IsOpening f → IsOpening g → (front later : List Sent) (xs ys : List Passed) (p q : Point) (more : List Reply) → LeadsTo (opening f) front xs p [] → LeadsTo (opening g) (front ++ later) ys q []
    → p.unanswered ≡ false → told_in ys ≡ told_in xs ++ more → GoesOnBehind p.before.number (last_answered 1 0 xs) later more q (last_answered 1 0 ys)
last_on f g f_opens g_opens front later xs ys p q more a b answered told =
    on p q later more (length xs) xs (omega arith) answered (opening f) (opening g) front ys 0 (record { number = refl; locked = refl }) refl a b (sym told)

-- ---- where nothing more is sent

-- a course over nothing is cuts alone
record OnlyCuts (p q : Point) (ps : List Passed) : Type 0 where
  pub tells_none : told_in ps ≡ []
  pub last_is : (n l : ℕ) → last_answered n l ps ≡ l
  pub waits_on : q.unanswered ≡ p.unanswered

only_cuts : (p q : Point) (left : List Sent) (ps : List Passed) → LeadsTo p [] ps q left → OnlyCuts p q ps
only_cuts p q left [] f = record { tells_none = refl; last_is = λ n l. refl; waits_on = ap (λ (x : Point). x.unanswered) f.0 }
only_cuts p q left (a_cut k at ∷ ps) f =
    let c = only_cuts (behind_cut at p) q left ps f.1 in record { tells_none = c.tells_none; last_is = c.last_is; waits_on = c.waits_on }
only_cuts p q left (a_reset r ∷ ps) f = absurd (let e : false ≡ true = f.0.comes in cc)
only_cuts p q left (a_line o ∷ ps) f = absurd f
only_cuts p q left (a_broken o ∷ ps) f = absurd f

-- What is sent and told says which line was answered last.
pub same_last : (f g : State) → IsOpening f → IsOpening g → (sent : List Sent) (xs ys : List Passed) (p q : Point) → LeadsTo (opening f) sent xs p [] → LeadsTo (opening g) sent ys q []
    → p.unanswered ≡ false → told_in ys ≡ told_in xs → last_answered 1 0 ys ≡ last_answered 1 0 xs
same_last f g f_opens g_opens sent xs ys p q a b answered told =
    let there : LeadsTo (opening g) (sent ++ []) ys q [] = subst (λ (ss : List Sent). LeadsTo (opening g) ss ys q []) (sym (append-nil sent)) b in
    let on = last_on f g f_opens g_opens sent [] xs ys p q [] a there answered (told ∙ sym (append-nil (told_in xs))) in
    on.last_is ∙ (only_cuts on.point q [] on.course on.leads).last_is p.before.number (last_answered 1 0 xs)

-- ---- where a line is sent

-- A line that is left and passed is the last that is answered if an answer is told.
line_passed : (p q : Point) (kept : List ℕ) (ps : List Passed) (n l : ℕ) → LeadsTo p (a_text kept ∷ []) ps q [] → q.unanswered ≡ false → last_answered n l ps ≡ cond (list_any is_answer (told_in ps)) n l
line_passed p q kept [] n l f answered = absurd (let e : [] ≡ a_text kept ∷ [] = f.1 in cc)
line_passed p q kept (a_cut k at ∷ ps) n l f answered = line_passed (behind_cut at p) q kept ps n l f.1 answered
line_passed p q kept (a_reset r ∷ ps) n l f answered = absurd (let e : false ≡ true = f.0.comes in cc)
line_passed p q kept (a_line o ∷ ps) n l f answered =
    let c = only_cuts (behind_line p kept o) q [] ps f.1 in
    let told : tells o.work ++ told_in ps ≡ tells o.work = ap (λ (us : List Reply). tells o.work ++ us) c.tells_none ∙ append-nil (tells o.work) in
    c.last_is (n + 1) (cond (raises_alarm o) l n) ∙ line_answered p.before o n l (line_answers true p kept o f.0.becomes) ∙ sym (ap (λ (us : List Reply). cond (list_any is_answer us) n l) told)
line_passed p q kept (a_broken o ∷ ps) n l f answered = both q.unanswered ((only_cuts (behind_broken p o) q [] ps f.1).waits_on) answered

-- A line that is sent besides is the last that is answered if an answer is told of it. Otherwise it raises an alarm, and the last
-- is the one that was.
pub line_last : (f g : State) → IsOpening f → IsOpening g → (front : List Sent) (kept : List ℕ) (xs ys : List Passed) (p q : Point) (more : List Reply) → LeadsTo (opening f) front xs p [] → LeadsTo (opening g) (front ++ a_text kept ∷ []) ys q []
    → p.unanswered ≡ false → q.unanswered ≡ false → told_in ys ≡ told_in xs ++ more → last_answered 1 0 ys ≡ cond (list_any is_answer more) p.before.number (last_answered 1 0 xs)
line_last f g f_opens g_opens front kept xs ys p q more a b answered done told =
    let on = last_on f g f_opens g_opens front (a_text kept ∷ []) xs ys p q more a b answered told in
    let last = last_answered 1 0 xs in
    on.last_is ∙ line_passed on.point q kept on.course p.before.number last on.leads done ∙ ap (λ (us : List Reply). cond (list_any is_answer us) p.before.number last) on.tells

-- ---- where a reset is sent

-- the two tests are one
same_opens : (r : Reply) → is_of_reset r ≡ opens r
same_opens Banner = refl
same_opens (Alarm n) = refl
same_opens _ = refl

-- nothing is left of lines behind the reset that comes after them
behind_stop : (lines : List (List ℕ)) → behind_reset (map a_text lines ++ a_stop ∷ []) ≡ []
behind_stop [] = refl
behind_stop (line ∷ lines) = behind_stop lines

-- a reset behind which nothing is left answers no line
reset_passed : (p q : Point) (sent : List Sent) (ps : List Passed) (n l : ℕ) → ResetAhead p q sent [] ps → behind_reset sent ≡ [] → last_answered n l ps ≡ l
reset_passed p q sent ps n l r none =
    let there : LeadsTo (behind_the_reset r.reset r.from) [] r.rest q [] = subst (λ (ss : List Sent). LeadsTo (behind_the_reset r.reset r.from) ss r.rest q []) none r.leads in
    r.last_is n l ∙ (only_cuts (behind_the_reset r.reset r.from) q [] r.rest there).last_is (r.reset.number + r.reset.dropped + 1) l

-- A reset answers no line, whatever lines it drops, and whichever it keeps from its answer.
pub reset_last : (f g : State) → IsOpening f → IsOpening g → (front : List Sent) (lines : List (List ℕ)) (xs ys : List Passed) (p q : Point) (first : Reply) (others : List Reply) → LeadsTo (opening f) front xs p []
    → LeadsTo (opening g) (front ++ (map a_text lines ++ a_stop ∷ [])) ys q [] → p.unanswered ≡ false → told_in ys ≡ told_in xs ++ first ∷ others → is_of_reset first ≡ true → last_answered 1 0 ys ≡ last_answered 1 0 xs
reset_last f g f_opens g_opens front lines xs ys p q first others a b answered told of_reset =
    let later : List Sent = map a_text lines ++ a_stop ∷ [] in
    let on = last_on f g f_opens g_opens front later xs ys p q (first ∷ others) a b answered told in
    let anew : TellsAnew (told_in on.course) = record { first = first; more = others; is = on.tells; anew = sym (same_opens first) ∙ of_reset } in
    on.last_is ∙ reset_passed on.point q later on.course p.before.number (last_answered 1 0 xs) (reset_ahead on.point q later [] on.course on.leads anew) (behind_stop lines)
