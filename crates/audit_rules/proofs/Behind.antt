-- Records that stand behind those of a course stand by what goes on behind it.
use Rattle.std.proofs.Common.{◌≡◌, ℕ, zero, suc, ◌+◌, ◌≤◌, List, [], ◌∷◌, ◌++◌, map, true, false, Bool, append-nil, append_assoc, sym, refl, ap, ◌∙◌, subst, arith}
use Rattle.std.proofs.lemmas.List.Concat.{flat_map-append}
use Rattle.flight.specs.Places.{origin, moved_by}
use Rattle.status_report.specs.declared.Reply.{Reply}
use Rattle.step_line.specs.Events.{events_after}
use Rattle.step_line.specs.declared.Mark.TheVariants.{Cut, Reset as ResetMark}
use Rattle.units.specs.declared.Move.{Move}
use Rattle.step_line.specs.declared.Record.{Record}
use Rattle.step_line.specs.declared.Record.TheVariants as kinds
use Rattle.run_rules.specs.declared.State.{State}
use Rattle.run_rules.specs.Told.{replies_text}
use Rattle.run_rules.specs.Work.{Outcome}
use Rattle.run_rules.proofs.Determined.{one_opening}
use Rattle.run_texts.specs.Courses.{Passed, behind_cut, behind_the_reset}
use Rattle.run_texts.specs.Courses.Passed.{a_line, a_broken, a_cut, a_reset}
use Rattle.run_texts.specs.Left.{behind_lines}
use Rattle.run_texts.specs.Making.{Making, IsMade, Comes}
use Rattle.run_texts.specs.Parts.{Part, parts_of, is_ending}
use Rattle.run_texts.specs.Points.{Point, opening, behind_line, behind_broken}
use Rattle.run_texts.specs.Sent.{Sent, behind_reset}
use Rattle.run_texts.specs.Sent.Sent.{a_text, a_stop}
use Rattle.run_texts.specs.SoFar.{LeadsTo, AreMadeSoFar}
use Rattle.run_texts.specs.Told.{told_in, told_of}
use Rattle.run_texts.proofs.Leading.{onto_none}
use Rattle.run_texts.proofs.Making.{before_record}
use Rattle.run_texts.proofs.OneMaking.{one_making}
use Rattle.run_texts.proofs.SoFar.{leads_with_more}
use Rattle.run_texts.proofs.Stops.{Inside, Stop, stops_of}
use Rattle.run_texts.proofs.Stops.Stop.{cut_at, reset_at}
use Rattle.audit_rules.specs.Consoles.{Tells}
use Rattle.audit_rules.specs.Onward.{HasCome, StandsBehind, begins_with_line}
use Rattle.audit_rules.specs.Standing.{MayWait, Stand}
use Rattle.audit_rules.proofs.BehindText.{onward, waits_later}
use Rattle.audit_rules.proofs.BehindCourses.{Compared, compare}
use Rattle.audit_rules.proofs.BehindCourses.Compared.{further, behind, passed_by}
use Rattle.audit_rules.proofs.BehindMade.{with_lines, made_at_once, made_of_more, front_of_course}
use Rattle.audit_rules.proofs.OneLine.{told_further}
use Rattle.audit_rules.proofs.OneWay.{stop_number}
use Rattle.audit_rules.proofs.Replies.{all_joined, in_turn}
use Rattle.audit_rules.proofs.Stands.{between, waits_before}
use Rattle.audit_rules.proofs.StopsMade.{stops_by, stops_made, stops_both, no_stops}

-- ---- courses

-- the rest of a course leads on from where its front has led
rest_leads : (p mid last : Point) (sent left gone : List Sent) (ps qs : List Passed) → LeadsTo p sent ps mid left → LeadsTo p sent (ps ++ qs) last gone → LeadsTo mid left qs last gone
rest_leads p mid last sent left gone [] qs f g = subst (λ (ss : List Sent). LeadsTo mid ss qs last gone) (sym f.1) (subst (λ (x : Point). LeadsTo x sent qs last gone) (sym f.0) g)
rest_leads p mid last sent left gone (a_cut k at ∷ ps) qs f g = rest_leads (behind_cut at p) mid last sent left gone ps qs f.1 g.1
rest_leads p mid last sent left gone (a_reset r ∷ ps) qs f g = rest_leads (behind_the_reset r p) mid last (behind_reset sent) left gone ps qs f.1 g.1
rest_leads p mid last [] left gone (a_line o ∷ ps) qs f g = absurd f
rest_leads p mid last (a_stop ∷ sent) left gone (a_line o ∷ ps) qs f g = absurd f
rest_leads p mid last (a_text line ∷ sent) left gone (a_line o ∷ ps) qs f g = rest_leads (behind_line p line o) mid last sent left gone ps qs f.1 g.1
rest_leads p mid last [] left gone (a_broken o ∷ ps) qs f g = absurd f
rest_leads p mid last (a_stop ∷ sent) left gone (a_broken o ∷ ps) qs f g = absurd f
rest_leads p mid last (a_text line ∷ sent) left gone (a_broken o ∷ ps) qs f g = rest_leads (behind_broken p o) mid last sent left gone ps qs f.1 g.1

-- ---- a course that has come so far, and another one

module _ (sent : List Sent) (console : List ℕ) (records : List Record) (since begun : List Outcome) (made : List Record) (c : HasCome sent console records since begun made) where
  pub leads : LeadsTo (opening c.first) sent c.reached.course c.point c.left
  leads = subst (λ (ss : List Sent). LeadsTo (opening c.first) ss c.reached.course c.point c.left) (sym c.whole) (leads_with_more (opening c.first) c.point c.front [] c.left c.reached.course c.reached.leads)

  pub tells : Tells console (told_in c.reached.course) c.rest
  tells = subst (λ (rs : List Reply). Tells console rs c.rest) (sym c.reached.tells) c.tells

  pub makes : AreMadeSoFar origin (parts_of c.reached.course) records
  makes =
      let all : IsMade ((since ++ []) ++ (begun ++ [])) (made ++ []) c.making =
      subst (λ (bs : List Outcome). IsMade bs (made ++ []) c.making) (ap (λ (bs : List Outcome). bs ++ begun) (sym (append-nil since)) ∙ ap (λ (bs : List Outcome). (since ++ []) ++ bs) (sym (append-nil begun)))
      (subst (λ (rs : List Record). IsMade (since ++ begun) rs c.making) (sym (append-nil made)) c.is_made) in
      subst (λ (rs : List Record). AreMadeSoFar origin (parts_of c.reached.course) rs) (append-nil records)
      (subst (λ (ps : List Passed). AreMadeSoFar origin (parts_of ps) (records ++ [])) (append-nil c.reached.course) (c.reached.makes [] [] (c.making, all)))

  -- Another course of this job, which this console tells, makes others behind them.
  record Other (course : List Passed) (others : List Record) : Type 0 where
    pub point : Point
    pub left : List Sent
    pub rest : List ℕ
    pub leads : LeadsTo (opening c.first) sent course point left
    pub tells : Tells console (told_in course) rest
    pub waits : MayWait point left rest
    pub recorded : AreMadeSoFar origin (parts_of course) (records ++ others)

  of_stand : (others : List Record) (s : Stand sent console (records ++ others)) → Other s.course others
  of_stand others s = record {
    point = s.point;
    left = s.left;
    rest = s.rest;
    leads = subst (λ (x : State). LeadsTo (opening x) sent s.course s.point s.left) (one_opening s.first c.first s.opens c.opens) s.leads;
    tells = s.told;
    waits = s.waits;
    recorded = s.made;
  }

  compared : (course : List Passed) (others : List Record) → Other course others → Compared c.reached.course course c.point (stops_by (moved_by origin records) others)
  compared course others o =
      let mine = stops_made c.reached.course [] [] origin records (subst (λ (qs : List Part). AreMadeSoFar origin qs records) (sym (onto_none (parts_of c.reached.course))) makes) in
      let theirs = stops_made course [] [] origin (records ++ others) (subst (λ (qs : List Part). AreMadeSoFar origin qs (records ++ others)) (sym (onto_none (parts_of course))) o.recorded) in
      let stops : stops_of course ≡ stops_of c.reached.course ++ stops_by (moved_by origin records) others =
      theirs ∙ stops_both records others origin ∙ ap (λ (ss : List Stop). ss ++ stops_by (moved_by origin records) others) (sym mine) in
      compare (opening c.first) c.point o.point sent c.left o.left c.reached.course course (stops_by (moved_by origin records) others) c.rest o.rest leads o.leads stops
      (told_further console c.rest o.rest (told_in c.reached.course) (told_in course) tells o.tells) c.waits o.waits

  -- the other one goes on behind it
  stands_further : (course os : List Passed) (others : List Record) → Other course others → course ≡ c.reached.course ++ os → (b : StandsBehind c.reached.course c.point c.left c.rest (records ++ others)) × (b.more ≡ os)
  stands_further course os others o split =
      let replies : told_in course ≡ told_in c.reached.course ++ told_in os = ap told_in split ∙ flat_map-append told_of c.reached.course os in
      let told = told_further console c.rest o.rest (told_in c.reached.course) (told_in c.reached.course ++ told_in os) tells (subst (λ (rs : List Reply). Tells console rs o.rest) replies o.tells) in
      let on = onward (told_in c.reached.course) (told_in os) c.rest o.rest told in (
        record {
          more = os;
          point = o.point;
          waiting = o.left;
          leads = rest_leads (opening c.first) c.point o.point sent c.left o.left c.reached.course os leads (subst (λ (ps : List Passed). LeadsTo (opening c.first) sent ps o.point o.left) split o.leads);
          later = on.later;
          tells = on.tells;
          waits = waits_later o.point o.left (told_in os) c.rest o.rest on o.waits;
          made = subst (λ (ps : List Passed). AreMadeSoFar origin (parts_of ps) (records ++ others)) split o.recorded;
        },
        refl,
      )

  -- it is the other one with more lines
  makes_too : (course os : List Passed) (others : List Record) → Other course others → stops_of os ≡ [] → c.reached.course ≡ course ++ os → AreMadeSoFar origin (parts_of (c.reached.course ++ [])) (records ++ others)
  makes_too course os others o none split =
      let led = subst (λ (ps : List Passed). LeadsTo (opening c.first) sent ps c.point c.left) split leads in
      let more = with_lines course os (opening c.first) c.point sent c.left [] [] origin (records ++ others) led none (λ e. refl) (subst (λ (qs : List Part). AreMadeSoFar origin qs (records ++ others)) (sym (onto_none (parts_of course))) o.recorded) in
      let all = subst (λ (qs : List Part). AreMadeSoFar origin qs (records ++ others)) (onto_none (parts_of (course ++ os))) more in
      subst (λ (ps : List Passed). AreMadeSoFar origin (parts_of ps) (records ++ others)) (sym split ∙ sym (append-nil c.reached.course)) all

  stands_here : (others : List Record) → AreMadeSoFar origin (parts_of (c.reached.course ++ [])) (records ++ others) → StandsBehind c.reached.course c.point c.left c.rest (records ++ others)
  stands_here others made_here = record {
    more = [];
    point = c.point;
    waiting = c.left;
    leads = (refl, refl);
    later = c.rest;
    tells = record { replies = []; text = refl; each = tt; are = refl };
    waits = c.waits;
    made = made_here;
  }

  -- ---- a cut or a reset of no earlier line

  stop_comes : (s : Stop) (more : List Stop) (others : List Record) → stops_by (moved_by origin records) others ≡ s ∷ more → c.point.before.number ≤ stop_number s + 1 → Stand sent console (records ++ others) → StandsBehind c.reached.course c.point c.left c.rest (records ++ others)
  stop_comes s more others comes number stand = by_comparing (compared stand.course others (of_stand others stand)) where
    by_comparing : Compared c.reached.course stand.course c.point (stops_by (moved_by origin records) others) → StandsBehind c.reached.course c.point c.left c.rest (records ++ others)
    by_comparing (further os split) = (stands_further stand.course os others (of_stand others stand) split).0
    by_comparing (behind os none split) = stands_here others (makes_too stand.course os others (of_stand others stand) none split)
    by_comparing (passed_by t rest is late) =
        let both : s ∷ more ≡ t ∷ rest = sym comes ∙ is in
        let same : s ≡ t = cc in
        let numbers : stop_number s ≡ stop_number t = ap stop_number same in
        absurd (omega (arith, number, late, numbers))

  -- ---- a record that ends no part

  -- The next record is made here; or a course makes it that goes on behind this one, and a course that makes others with it
  -- goes on behind that.
  data NextMade (course : List Passed) (r : Record) : Type 0 where
    made_here : AreMadeSoFar origin (parts_of (c.reached.course ++ [])) (records ++ r ∷ []) → NextMade course r
    made_further : (os later : List Passed) (q : Point) (gone : List Sent) → course ≡ c.reached.course ++ (os ++ later) → LeadsTo c.point c.left os q gone → AreMadeSoFar origin (parts_of (c.reached.course ++ os)) (records ++ r ∷ []) → NextMade course r

  next_made : (course : List Passed) (r : Record) (others : List Record) → is_ending r ≡ false → Other course (r ∷ others) → NextMade course r
  next_made course r others inside o =
      let f = front_of_course course [] [] origin (records ++ r ∷ []) others
      (subst (λ (rs : List Record). AreMadeSoFar origin (behind_lines [] [] (parts_of course)) rs) (sym (append_assoc records (r ∷ []) others))
      (subst (λ (qs : List Part). AreMadeSoFar origin qs (records ++ r ∷ others)) (sym (onto_none (parts_of course))) o.recorded)) in
      let b = between (opening c.first) o.point sent o.left f.front f.later (subst (λ (ps : List Passed). LeadsTo (opening c.first) sent ps o.point o.left) f.split o.leads) in
      let told : Tells console (told_in f.front ++ told_in f.later) o.rest = subst (λ (rs : List Reply). Tells console rs o.rest) (ap told_in f.split ∙ flat_map-append told_of f.front f.later) o.tells in
      let t = in_turn console (told_in f.front) (told_in f.later) o.rest told in
      let first : Other f.front (r ∷ []) = record {
        point = b.point;
        left = b.left;
        rest = replies_text t.back ++ o.rest;
        leads = b.to;
        tells = t.tells;
        waits = waits_before b.point o.point b.left o.left f.later t.back o.rest b.on t.is t.each o.waits;
        recorded = subst (λ (qs : List Part). AreMadeSoFar origin qs (records ++ r ∷ [])) (onto_none (parts_of f.front)) f.made;
      } in
      by_comparing f.front f.later f.split first (compared f.front (r ∷ []) first) where
        by_comparing : (front later : List Passed) → course ≡ front ++ later → (first : Other front (r ∷ [])) → Compared c.reached.course front c.point (stops_by (moved_by origin records) (r ∷ [])) → NextMade course r
        by_comparing front later split first (further os is) =
            made_further os later first.point first.left (split ∙ ap (λ (ps : List Passed). ps ++ later) is ∙ append_assoc c.reached.course os later)
            (rest_leads (opening c.first) c.point first.point sent c.left first.left c.reached.course os leads (subst (λ (ps : List Passed). LeadsTo (opening c.first) sent ps first.point first.left) is first.leads))
            (subst (λ (ps : List Passed). AreMadeSoFar origin (parts_of ps) (records ++ r ∷ [])) is first.recorded)
        by_comparing front later split first (behind os none is) = made_here (makes_too front os (r ∷ []) first none is)
        by_comparing front later split first (passed_by s rest is late) = absurd (let e : [] ≡ s ∷ rest = sym (no_stops (r ∷ []) (moved_by origin records) (inside, tt)) ∙ is in cc)

  -- of the last part
  part_made : (os : List Passed) (r : Record) → AreMadeSoFar origin (parts_of (c.reached.course ++ os)) (records ++ r ∷ []) → AreMadeSoFar c.place (behind_lines since begun (parts_of os)) ((made ++ r ∷ []) ++ [])
  part_made os r all = subst (λ (rs : List Record). AreMadeSoFar c.place (behind_lines since begun (parts_of os)) rs) (sym (append-nil (made ++ r ∷ []))) (c.reached.only os (r ∷ []) all)

  all_inside : (r : Record) → is_ending r ≡ false → Inside (made ++ r ∷ [])
  all_inside r inside = all_joined (λ r. is_ending r ≡ false) made (r ∷ []) c.is_made.inside (inside, tt)

  part_goes_on : (course : List Passed) (r : Record) → is_ending r ≡ false → NextMade course r → (more : List Outcome) × (m : Making) × IsMade ((since ++ begun) ++ more) (made ++ r ∷ []) m
  part_goes_on course r inside (made_here all) =
      let m = made_at_once [] since begun c.place (made ++ r ∷ []) [] refl (all_inside r inside) (part_made [] r all) in
      ([], m.0, subst (λ (bs : List Outcome). IsMade bs (made ++ r ∷ []) m.0) (sym (append-nil (since ++ begun))) m.1)
  part_goes_on course r inside (made_further os later q gone split led all) =
      made_of_more os c.point q c.left gone since begun c.place (made ++ r ∷ []) [] led (all_inside r inside) (part_made os r all) c.none_begun

  -- ---- where the lines have no tick left

  no_events : {A : Type 0} (mv : Move) (k n : ℕ) (rest : List Record) → 1 ≤ n → [] ≡ map kinds.Event (events_after mv k n) ++ rest → A
  no_events mv k zero rest some e = absurd (omega (arith, some))
  no_events mv k (suc n) rest some e = absurd cc

  nothing_comes : {A : Type 0} (m n : Making) (r : Record) → m.owed ≡ [] → Comes m r n → A
  nothing_comes m n (kinds.Event b) none comes = absurd (let e : [] ≡ kinds.Event b ∷ n.owed = sym none ∙ comes.owed in cc)
  nothing_comes m n (kinds.Mark mark) none comes = absurd (let e : [] ≡ kinds.Mark mark ∷ n.owed = sym none ∙ comes.owed in cc)
  nothing_comes m n (kinds.Head head) none comes =
      let h = comes.0 in
      no_events h.planned.mv h.first h.head.n comes.2.due.rest comes.2.is.some (sym none ∙ comes.2.due.is)
  nothing_comes m n kinds.End none comes = absurd comes

  not_here : {A : Type 0} (m : Making) (r : Record) → c.making.owed ≡ [] → IsMade (since ++ begun) (made ++ r ∷ []) m → A
  not_here m r none is =
      let b = before_record (since ++ begun) made r m is in
      let same = one_making (since ++ begun) made b.before c.making b.is c.is_made in
      nothing_comes b.before m r (ap (λ (x : Making). x.owed) same ∙ none) b.comes

  begins_so : (os later : List Passed) → begins_with_line os ≡ true → begins_with_line (os ++ later) ≡ true
  begins_so [] later e = absurd cc
  begins_so (a_line o ∷ os) later e = refl
  begins_so (a_broken o ∷ os) later e = refl
  begins_so (a_cut k at ∷ os) later e = absurd cc
  begins_so (a_reset r ∷ os) later e = absurd cc

  line_goes_on : (course : List Passed) (r : Record) (others : List Record) → c.making.owed ≡ [] → is_ending r ≡ false → Other course (r ∷ others) → NextMade course r
      → (b : StandsBehind c.reached.course c.point c.left c.rest (records ++ r ∷ others)) × (begins_with_line b.more ≡ true)
  line_goes_on course r others none inside o (made_here all) =
      let m = made_at_once [] since begun c.place (made ++ r ∷ []) [] refl (all_inside r inside) (part_made [] r all) in
      not_here m.0 r none m.1
  line_goes_on course r others none inside o (made_further os later q gone split led all) = by_first (begins_with_line os) refl where
    by_first : (first : Bool) → begins_with_line os ≡ first → (b : StandsBehind c.reached.course c.point c.left c.rest (records ++ r ∷ others)) × (begins_with_line b.more ≡ true)
    by_first true line =
        let s = stands_further course (os ++ later) (r ∷ others) o split in
        (s.0, ap begins_with_line s.1 ∙ begins_so os later line)
    by_first false no_line =
        let m = made_at_once os since begun c.place (made ++ r ∷ []) [] no_line (all_inside r inside) (part_made os r all) in
        not_here m.0 r none m.1

-- ---- what is said of records

pub part_makes : (sent : List Sent) (console : List ℕ) (records others made : List Record) (since begun : List Outcome) (r : Record) → HasCome sent console records since begun made → is_ending r ≡ false
    → Stand sent console (records ++ r ∷ others) → (more : List Outcome) × (m : Making) × IsMade ((since ++ begun) ++ more) (made ++ r ∷ []) m
part_makes sent console records others made since begun r c inside s =
    part_goes_on sent console records since begun made c s.course r inside
    (next_made sent console records since begun made c s.course r others inside (of_stand sent console records since begun made c (r ∷ others) s))

pub line_comes : (sent : List Sent) (console : List ℕ) (records others made : List Record) (since begun : List Outcome) (r : Record) (c : HasCome sent console records since begun made) → c.making.owed ≡ [] → is_ending r ≡ false
    → Stand sent console (records ++ r ∷ others) → (b : StandsBehind c.reached.course c.point c.left c.rest (records ++ r ∷ others)) × (begins_with_line b.more ≡ true)
line_comes sent console records others made since begun r c none inside s =
    let o = of_stand sent console records since begun made c (r ∷ others) s in
    line_goes_on sent console records since begun made c s.course r others none inside o (next_made sent console records since begun made c s.course r others inside o)

pub cut_comes : (sent : List Sent) (console : List ℕ) (records others made : List Record) (since begun : List Outcome) (k : ℕ) (c : HasCome sent console records since begun made) → c.point.before.number ≤ k + 1
    → Stand sent console (records ++ kinds.Mark (Cut k) ∷ others) → StandsBehind c.reached.course c.point c.left c.rest (records ++ kinds.Mark (Cut k) ∷ others)
cut_comes sent console records others made since begun k c number s =
    let place = moved_by origin records in
    stop_comes sent console records since begun made c (cut_at k place) (stops_by place others) (kinds.Mark (Cut k) ∷ others) refl number s

pub reset_comes : (sent : List Sent) (console : List ℕ) (records others made : List Record) (since begun : List Outcome) (k : ℕ) (c : HasCome sent console records since begun made) → c.point.before.number ≤ k + 1
    → Stand sent console (records ++ kinds.Mark (ResetMark k) ∷ others) → StandsBehind c.reached.course c.point c.left c.rest (records ++ kinds.Mark (ResetMark k) ∷ others)
reset_comes sent console records others made since begun k c number s =
    let place = moved_by origin records in
    stop_comes sent console records since begun made c (reset_at k place) (stops_by place others) (kinds.Mark (ResetMark k) ∷ others) refl number s
