-- What more lines make, and what is made of a part before its last records.
use Rattle.std.proofs.Common.{◌≡◌, List, [], ◌∷◌, ◌++◌, true, false, append-nil, append_assoc, sym, refl, ap, ◌∙◌, subst}
use Rattle.units.specs.declared.Steps3.{Steps3}
use Rattle.flight.specs.Places.{moved_by}
use Rattle.step_line.specs.declared.Record.{Record}
use Rattle.run_rules.specs.Work.{Outcome}
use Rattle.run_texts.specs.Courses.{Passed, behind_cut, behind_the_reset}
use Rattle.run_texts.specs.Courses.Passed.{a_line, a_broken, a_cut, a_reset}
use Rattle.run_texts.specs.Left.{behind_lines}
use Rattle.run_texts.specs.Making.{Making, IsMade, with_line}
use Rattle.run_texts.specs.Parts.{Part, parts_of, ending_record, is_ending, lines_counted}
use Rattle.run_texts.specs.Parts.Ending.{by_cut, by_reset}
use Rattle.run_texts.specs.Points.{Point, behind_line, behind_broken}
use Rattle.run_texts.specs.Sent.{Sent, behind_reset}
use Rattle.run_texts.specs.Sent.Sent.{a_text, a_stop}
use Rattle.run_texts.specs.SoFar.{LeadsTo, AreMadeSoFar}
use Rattle.run_texts.proofs.Leading.{onto_none, onto_more, onto_begun}
use Rattle.run_texts.proofs.Making.{line_made, before_record, finished}
use Rattle.run_texts.proofs.Stops.{Inside, stops_of, is_an_ending}
use Rattle.audit_rules.specs.Onward.{begins_with_line}
use Rattle.audit_rules.proofs.Fronts.{SomePart, some_part, closed, close, more_made, HasFront, front_made}

-- a line that is begun is of a point where one is not answered
abbrev pub BegunAt : Point → List Outcome → Type 0
BegunAt p begun = p.unanswered ≡ false → begun ≡ []

never : {A : Type 0} → true ≡ false → A
never e = absurd cc

-- the lines that an open part counts
abbrev Made : List Outcome → List Outcome → List Record → Type 0
Made since begun made = (m : Making) × IsMade (since ++ begun) made m

with_nothing : (since begun : List Outcome) → since ++ begun ≡ (since ++ []) ++ (begun ++ [])
with_nothing since begun = ap (λ (os : List Outcome). os ++ begun) (sym (append-nil since)) ∙ ap (λ (os : List Outcome). (since ++ []) ++ os) (sym (append-nil begun))

-- ---- more lines

-- lines that come behind those of the open part
lines_made : (os : List Passed) (p last : Point) (sent left : List Sent) (since begun : List Outcome) (place : Steps3) (records : List Record) → LeadsTo p sent os last left → stops_of os ≡ [] → BegunAt p begun → Made since begun records
    → AreMadeSoFar place (behind_lines since begun (parts_of os)) records
lines_made [] p last sent left since begun place records f none free made = (made.0, subst (λ (os : List Outcome). IsMade os records made.0) (with_nothing since begun) made.1)
lines_made (a_cut k at ∷ os) p last sent left since begun place records f none free made = absurd cc
lines_made (a_reset r ∷ os) p last sent left since begun place records f none free made = absurd cc
lines_made (a_line o ∷ os) p last [] left since begun place records f none free made = absurd f
lines_made (a_line o ∷ os) p last (a_stop ∷ sent) left since begun place records f none free made = absurd f
lines_made (a_line o ∷ os) p last (a_text line ∷ sent) left since begun place records f none free made =
    let nothing : begun ≡ [] = free f.0.answered in
    let before : IsMade since records made.0 = subst (λ (bs : List Outcome). IsMade bs records made.0) (ap (λ (bs : List Outcome). since ++ bs) nothing ∙ append-nil since) made.1 in
    let after : Made (since ++ o ∷ []) [] records = (with_line o made.0, subst (λ (bs : List Outcome). IsMade bs records (with_line o made.0)) (sym (append-nil (since ++ o ∷ []))) (line_made since records made.0 o before)) in
    let on = lines_made os (behind_line p line o) last sent left (since ++ o ∷ []) [] place records f.1 none (λ e. refl) after in
    subst (λ (qs : List Part). AreMadeSoFar place qs records) (sym (onto_more since begun o (parts_of os))) (subst (λ (bs : List Outcome). AreMadeSoFar place (behind_lines (since ++ o ∷ []) bs (parts_of os)) records) (sym nothing) on)
lines_made (a_broken o ∷ os) p last [] left since begun place records f none free made = absurd f
lines_made (a_broken o ∷ os) p last (a_stop ∷ sent) left since begun place records f none free made = absurd f
lines_made (a_broken o ∷ os) p last (a_text line ∷ sent) left since begun place records f none free made =
    let more = more_made (since ++ begun) (o ∷ []) records made.0 made.1 in
    let after : Made since (begun ++ o ∷ []) records = (more.0, subst (λ (bs : List Outcome). IsMade bs records more.0) (append_assoc since begun (o ∷ [])) more.1) in
    subst (λ (qs : List Part). AreMadeSoFar place qs records) (sym (onto_begun since begun o (parts_of os)))
    (lines_made os (behind_broken p o) last sent left since (begun ++ o ∷ []) place records f.1 none never after)

-- a course makes what it makes also with more lines
pub with_lines : (ps os : List Passed) (p last : Point) (sent left : List Sent) (since begun : List Outcome) (place : Steps3) (records : List Record) → LeadsTo p sent (ps ++ os) last left → stops_of os ≡ [] → BegunAt p begun
    → AreMadeSoFar place (behind_lines since begun (parts_of ps)) records → AreMadeSoFar place (behind_lines since begun (parts_of (ps ++ os))) records
with_lines [] os p last sent left since begun place records f none free all =
    lines_made os p last sent left since begun place records f none free (all.0, subst (λ (bs : List Outcome). IsMade bs records all.0) (sym (with_nothing since begun)) all.1)
with_lines (a_cut k at ∷ ps) os p last sent left since begun place records f none free all =
    let q : Part = record { lines = since ++ []; begun = begun ++ []; ending = by_cut k at } in
    let c = closed place q (parts_of ps) records (some_part ps) all in
    let on = with_lines ps os (behind_cut at p) last sent left [] [] (moved_by place c.mine) c.rest f.1 none (λ e. refl) (subst (λ (qs : List Part). AreMadeSoFar (moved_by place c.mine) qs c.rest) (sym (onto_none (parts_of ps))) c.on) in
    close place q (parts_of (ps ++ os)) records (some_part (ps ++ os))
    (record { mine = c.mine; rest = c.rest; split = c.split; are = c.are; on = subst (λ (qs : List Part). AreMadeSoFar (moved_by place c.mine) qs c.rest) (onto_none (parts_of (ps ++ os))) on })
with_lines (a_reset r ∷ ps) os p last sent left since begun place records f none free all =
    let q : Part = record { lines = since ++ []; begun = begun ++ []; ending = by_reset r } in
    let c = closed place q (parts_of ps) records (some_part ps) all in
    let on = with_lines ps os (behind_the_reset r p) last (behind_reset sent) left [] [] (moved_by place c.mine) c.rest f.1 none (λ e. refl) (subst (λ (qs : List Part). AreMadeSoFar (moved_by place c.mine) qs c.rest) (sym (onto_none (parts_of ps))) c.on) in
    close place q (parts_of (ps ++ os)) records (some_part (ps ++ os))
    (record { mine = c.mine; rest = c.rest; split = c.split; are = c.are; on = subst (λ (qs : List Part). AreMadeSoFar (moved_by place c.mine) qs c.rest) (onto_none (parts_of (ps ++ os))) on })
with_lines (a_line o ∷ ps) os p last [] left since begun place records f none free all = absurd f
with_lines (a_line o ∷ ps) os p last (a_stop ∷ sent) left since begun place records f none free all = absurd f
with_lines (a_line o ∷ ps) os p last (a_text line ∷ sent) left since begun place records f none free all =
    let on = with_lines ps os (behind_line p line o) last sent left (since ++ o ∷ []) begun place records f.1 none (λ e. free f.0.answered) (subst (λ (qs : List Part). AreMadeSoFar place qs records) (onto_more since begun o (parts_of ps)) all) in
    subst (λ (qs : List Part). AreMadeSoFar place qs records) (sym (onto_more since begun o (parts_of (ps ++ os)))) on
with_lines (a_broken o ∷ ps) os p last [] left since begun place records f none free all = absurd f
with_lines (a_broken o ∷ ps) os p last (a_stop ∷ sent) left since begun place records f none free all = absurd f
with_lines (a_broken o ∷ ps) os p last (a_text line ∷ sent) left since begun place records f none free all =
    let on = with_lines ps os (behind_broken p o) last sent left since (begun ++ o ∷ []) place records f.1 none never (subst (λ (qs : List Part). AreMadeSoFar place qs records) (onto_begun since begun o (parts_of ps)) all) in
    subst (λ (qs : List Part). AreMadeSoFar place qs records) (sym (onto_begun since begun o (parts_of (ps ++ os)))) on

-- ---- the first of some records

-- what lines have made before the last of it
first_made : (lines : List Outcome) (first others : List Record) (m : Making) → IsMade lines (first ++ others) m → (n : Making) × IsMade lines first n
first_made lines first [] m is = (m, subst (λ (rs : List Record). IsMade lines rs m) (append-nil first) is)
first_made lines first (r ∷ others) m is =
    let more = first_made lines (first ++ r ∷ []) others m (subst (λ (rs : List Record). IsMade lines rs m) (sym (append_assoc first (r ∷ []) others)) is) in
    let b = before_record lines first r more.0 more.1 in
    (b.before, b.is)

-- records that are no end of a part are the first of a part's
within : (first others mine rest : List Record) (ending : Record) → Inside first → is_ending ending ≡ true → first ++ others ≡ mine ++ ending ∷ rest → (more : List Record) × (mine ≡ first ++ more)
within [] others mine rest ending inside ends e = (mine, refl)
within (x ∷ first) others [] rest ending inside ends e = never (let same : x ≡ ending = cc in sym ends ∙ ap is_ending (sym same) ∙ inside.0)
within (x ∷ first) others (y ∷ mine) rest ending inside ends e =
    let same : x ≡ y = cc in
    let more : first ++ others ≡ mine ++ ending ∷ rest = cc in
    let w = within first others mine rest ending inside.1 ends more in
    (w.0, ap (λ r. r ∷ mine) (sym same) ∙ ap (λ (rs : List Record). x ∷ rs) w.1)

-- of a part that is ended
first_of_part : (place : Steps3) (p : Part) (ps : List Part) (first others : List Record) → SomePart ps → Inside first → AreMadeSoFar place (p ∷ ps) (first ++ others) → (m : Making) × IsMade (lines_counted p) first m
first_of_part place p ps first others some inside all =
    let c = closed place p ps (first ++ others) some all in
    let w = within first others c.mine c.rest (ending_record p.ending) inside (is_an_ending p.ending) c.split in
    let f = finished place p c.mine c.are in
    first_made (lines_counted p) first w.0 f.making (subst (λ (rs : List Record). IsMade (lines_counted p) rs f.making) w.1 f.is)

-- where no line comes first of a course, the open part has made them
pub made_at_once : (ps : List Passed) (since begun : List Outcome) (place : Steps3) (first others : List Record) → begins_with_line ps ≡ false → Inside first → AreMadeSoFar place (behind_lines since begun (parts_of ps)) (first ++ others)
    → (m : Making) × IsMade (since ++ begun) first m
made_at_once [] since begun place first others no_line inside all =
    first_made (since ++ begun) first others all.0 (subst (λ (bs : List Outcome). IsMade bs (first ++ others) all.0) (sym (with_nothing since begun)) all.1)
made_at_once (a_line o ∷ ps) since begun place first others no_line inside all = never no_line
made_at_once (a_broken o ∷ ps) since begun place first others no_line inside all = never no_line
made_at_once (a_cut k at ∷ ps) since begun place first others no_line inside all =
    let m = first_of_part place (record { lines = since ++ []; begun = begun ++ []; ending = by_cut k at }) (parts_of ps) first others (some_part ps) inside all in
    more_made since begun first m.0 (subst (λ (bs : List Outcome). IsMade bs first m.0) (append-nil (since ++ []) ∙ append-nil since) m.1)
made_at_once (a_reset r ∷ ps) since begun place first others no_line inside all =
    let m = first_of_part place (record { lines = since ++ []; begun = begun ++ []; ending = by_reset r }) (parts_of ps) first others (some_part ps) inside all in
    (m.0, subst (λ (bs : List Outcome). IsMade bs first m.0) (sym (with_nothing since begun)) m.1)

-- and else more lines make them
pub made_of_more : (ps : List Passed) (p last : Point) (sent left : List Sent) (since begun : List Outcome) (place : Steps3) (first others : List Record) → LeadsTo p sent ps last left → Inside first
    → AreMadeSoFar place (behind_lines since begun (parts_of ps)) (first ++ others) → BegunAt p begun → (more : List Outcome) × (m : Making) × IsMade ((since ++ begun) ++ more) first m
made_of_more [] p last sent left since begun place first others f inside all free = here (made_at_once [] since begun place first others refl inside all) where
  here : (m : Making) × IsMade (since ++ begun) first m → (more : List Outcome) × (m : Making) × IsMade ((since ++ begun) ++ more) first m
  here made = ([], made.0, subst (λ (bs : List Outcome). IsMade bs first made.0) (sym (append-nil (since ++ begun))) made.1)
made_of_more (a_cut k at ∷ ps) p last sent left since begun place first others f inside all free =
    let made = made_at_once (a_cut k at ∷ ps) since begun place first others refl inside all in
    ([], made.0, subst (λ (bs : List Outcome). IsMade bs first made.0) (sym (append-nil (since ++ begun))) made.1)
made_of_more (a_reset r ∷ ps) p last sent left since begun place first others f inside all free =
    let made = made_at_once (a_reset r ∷ ps) since begun place first others refl inside all in
    ([], made.0, subst (λ (bs : List Outcome). IsMade bs first made.0) (sym (append-nil (since ++ begun))) made.1)
made_of_more (a_line o ∷ ps) p last [] left since begun place first others f inside all free = absurd f
made_of_more (a_line o ∷ ps) p last (a_stop ∷ sent) left since begun place first others f inside all free = absurd f
made_of_more (a_line o ∷ ps) p last (a_text line ∷ sent) left since begun place first others f inside all free =
    let nothing : begun ≡ [] = free f.0.answered in
    let here : AreMadeSoFar place (behind_lines (since ++ o ∷ []) begun (parts_of ps)) (first ++ others) = subst (λ (qs : List Part). AreMadeSoFar place qs (first ++ others)) (onto_more since begun o (parts_of ps)) all in
    let m = made_of_more ps (behind_line p line o) last sent left (since ++ o ∷ []) begun place first others f.1 inside here (λ e. nothing) in
    let lines : ((since ++ o ∷ []) ++ begun) ++ m.0 ≡ (since ++ begun) ++ o ∷ m.0 =
    ap (λ (bs : List Outcome). ((since ++ o ∷ []) ++ bs) ++ m.0) nothing
    ∙ ap (λ (bs : List Outcome). bs ++ m.0) (append-nil (since ++ o ∷ []))
    ∙ append_assoc since (o ∷ []) m.0
    ∙ ap (λ (bs : List Outcome). bs ++ o ∷ m.0) (sym (append-nil since))
    ∙ ap (λ (bs : List Outcome). (since ++ bs) ++ o ∷ m.0) (sym nothing) in
    (o ∷ m.0, m.1, subst (λ (bs : List Outcome). IsMade bs first m.1) lines m.2)
made_of_more (a_broken o ∷ ps) p last [] left since begun place first others f inside all free = absurd f
made_of_more (a_broken o ∷ ps) p last (a_stop ∷ sent) left since begun place first others f inside all free = absurd f
made_of_more (a_broken o ∷ ps) p last (a_text line ∷ sent) left since begun place first others f inside all free =
    let here : AreMadeSoFar place (behind_lines since (begun ++ o ∷ []) (parts_of ps)) (first ++ others) = subst (λ (qs : List Part). AreMadeSoFar place qs (first ++ others)) (onto_begun since begun o (parts_of ps)) all in
    let m = made_of_more ps (behind_broken p o) last sent left since (begun ++ o ∷ []) place first others f.1 inside here never in
    let lines : (since ++ (begun ++ o ∷ [])) ++ m.0 ≡ (since ++ begun) ++ o ∷ m.0 =
    ap (λ (bs : List Outcome). bs ++ m.0) (sym (append_assoc since begun (o ∷ []))) ∙ append_assoc (since ++ begun) (o ∷ []) m.0 in
    (o ∷ m.0, m.1, subst (λ (bs : List Outcome). IsMade bs first m.1) lines m.2)

-- ---- a front of a course

-- the first of the records of a course are made by a front of it
pub front_of_course : (course : List Passed) (since begun : List Outcome) (place : Steps3) (first others : List Record) → AreMadeSoFar place (behind_lines since begun (parts_of course)) (first ++ others) → HasFront course since begun place first
front_of_course course since begun place first [] all = record {
  front = course;
  later = [];
  split = sym (append-nil course);
  made = subst (λ (rs : List Record). AreMadeSoFar place (behind_lines since begun (parts_of course)) rs) (append-nil first) all;
}
front_of_course course since begun place first (r ∷ others) all =
    let f = front_of_course course since begun place (first ++ r ∷ []) others (subst (λ (rs : List Record). AreMadeSoFar place (behind_lines since begun (parts_of course)) rs) (sym (append_assoc first (r ∷ []) others)) all) in
    let g = front_made f.front since begun place first r f.made in
    record {
      front = g.front;
      later = g.later ++ f.later;
      split = f.split ∙ ap (λ (qs : List Passed). qs ++ f.later) g.split ∙ append_assoc g.front g.later f.later;
      made = g.made;
    }
