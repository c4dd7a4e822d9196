-- The cuts and resets of a course are those that its records have.
use Rattle.std.proofs.Common.{◌≡◌, inl, inr, List, [], ◌∷◌, ◌++◌, append-nil, true, false, sym, refl, ap, ◌∙◌, subst}
use Rattle.units.specs.declared.Steps3.{Steps3}
use Rattle.flight.specs.Places.{moved_by}
use Rattle.step_line.specs.Places.{stepped}
use Rattle.step_line.specs.declared.Mark.TheVariants.{Dwell, Spindle, Coolant, Cut, Reset as ResetMark}
use Rattle.step_line.specs.declared.Record.{Record}
use Rattle.step_line.specs.declared.Record.TheVariants as kinds
use Rattle.run_rules.specs.Work.{Outcome}
use Rattle.run_texts.specs.Courses.{Passed, behind_cut, behind_the_reset}
use Rattle.run_texts.specs.Courses.Passed.{a_line, a_broken, a_cut, a_reset}
use Rattle.run_texts.specs.Left.{behind_lines}
use Rattle.run_texts.specs.Parts.{Part, parts_of}
use Rattle.run_texts.specs.Parts.Ending.{by_cut, by_reset}
use Rattle.run_texts.specs.Points.{Point, behind_line, behind_broken}
use Rattle.run_texts.specs.Sent.{Sent, behind_reset}
use Rattle.run_texts.specs.Sent.Sent.{a_text, a_stop}
use Rattle.run_texts.specs.SoFar.{LeadsTo, AreMadeSoFar}
use Rattle.run_texts.proofs.Leading.{onto_none, onto_more, onto_begun}
use Rattle.run_texts.proofs.Stops.{Inside, Stop, stops_of}
use Rattle.run_texts.proofs.Stops.Stop.{cut_at, reset_at}
use Rattle.audit_rules.specs.Telling.{RebasesNothing}
use Rattle.audit_rules.proofs.Fronts.{closed, some_part}
use Rattle.audit_rules.proofs.OneWay.{Goes}

-- ---- of records

-- the cuts and resets among records that begin at a place, each where the events before it have led
abbrev pub stops_by : Steps3 → List Record → List Stop
stops_by place [] = []
stops_by place (kinds.Event b ∷ rs) = stops_by (stepped place b) rs
stops_by place (kinds.Head h ∷ rs) = stops_by place rs
stops_by place (kinds.Mark (Cut k) ∷ rs) = cut_at k place ∷ stops_by place rs
stops_by place (kinds.Mark (ResetMark k) ∷ rs) = reset_at k place ∷ stops_by place rs
stops_by place (kinds.Mark (Dwell ms) ∷ rs) = stops_by place rs
stops_by place (kinds.Mark (Spindle code speed) ∷ rs) = stops_by place rs
stops_by place (kinds.Mark (Coolant on) ∷ rs) = stops_by place rs
stops_by place (kinds.End ∷ rs) = stops_by place rs

differ : {A : Type 0} → true ≡ false → A
differ e = absurd cc

-- none are inside a part
pub none_inside : (mine rest : List Record) (place : Steps3) → Inside mine → stops_by place (mine ++ rest) ≡ stops_by (moved_by place mine) rest
none_inside [] rest place inside = refl
none_inside (kinds.Event b ∷ rs) rest place inside = none_inside rs rest (stepped place b) inside.1
none_inside (kinds.Head h ∷ rs) rest place inside = none_inside rs rest place inside.1
none_inside (kinds.Mark (Cut k) ∷ rs) rest place inside = differ inside.0
none_inside (kinds.Mark (ResetMark k) ∷ rs) rest place inside = differ inside.0
none_inside (kinds.Mark (Dwell ms) ∷ rs) rest place inside = none_inside rs rest place inside.1
none_inside (kinds.Mark (Spindle code speed) ∷ rs) rest place inside = none_inside rs rest place inside.1
none_inside (kinds.Mark (Coolant on) ∷ rs) rest place inside = none_inside rs rest place inside.1
none_inside (kinds.End ∷ rs) rest place inside = differ inside.0

pub no_stops : (mine : List Record) (place : Steps3) → Inside mine → stops_by place mine ≡ []
no_stops mine place inside = ap (stops_by place) (sym (append-nil mine)) ∙ none_inside mine [] place inside

-- those of more records come behind
pub stops_both : (xs ys : List Record) (place : Steps3) → stops_by place (xs ++ ys) ≡ stops_by place xs ++ stops_by (moved_by place xs) ys
stops_both [] ys place = refl
stops_both (kinds.Event b ∷ rs) ys place = stops_both rs ys (stepped place b)
stops_both (kinds.Head h ∷ rs) ys place = stops_both rs ys place
stops_both (kinds.Mark (Cut k) ∷ rs) ys place = ap (λ (ss : List Stop). cut_at k place ∷ ss) (stops_both rs ys place)
stops_both (kinds.Mark (ResetMark k) ∷ rs) ys place = ap (λ (ss : List Stop). reset_at k place ∷ ss) (stops_both rs ys place)
stops_both (kinds.Mark (Dwell ms) ∷ rs) ys place = stops_both rs ys place
stops_both (kinds.Mark (Spindle code speed) ∷ rs) ys place = stops_both rs ys place
stops_both (kinds.Mark (Coolant on) ∷ rs) ys place = stops_both rs ys place
stops_both (kinds.End ∷ rs) ys place = stops_both rs ys place

-- ---- of a course

pub stops_made : (course : List Passed) (since begun : List Outcome) (place : Steps3) (records : List Record) → AreMadeSoFar place (behind_lines since begun (parts_of course)) records → stops_of course ≡ stops_by place records
stops_made [] since begun place records all = sym (no_stops records place all.1.inside)
stops_made (a_line o ∷ ps) since begun place records all = stops_made ps (since ++ o ∷ []) begun place records (subst (λ (qs : List Part). AreMadeSoFar place qs records) (onto_more since begun o (parts_of ps)) all)
stops_made (a_broken o ∷ ps) since begun place records all = stops_made ps since (begun ++ o ∷ []) place records (subst (λ (qs : List Part). AreMadeSoFar place qs records) (onto_begun since begun o (parts_of ps)) all)
stops_made (a_cut k at ∷ ps) since begun place records all =
    let p : Part = record { lines = since ++ []; begun = begun ++ []; ending = by_cut k at } in
    let c = closed place p (parts_of ps) records (some_part ps) all in
    let there = moved_by place c.mine in
    let on = stops_made ps [] [] there c.rest (subst (λ (qs : List Part). AreMadeSoFar there qs c.rest) (sym (onto_none (parts_of ps))) c.on) in
    ap (λ (x : Steps3). cut_at k x ∷ stops_of ps) c.are.stands
    ∙ ap (λ (xs : List Stop). cut_at k there ∷ xs) on
    ∙ sym (none_inside c.mine (kinds.Mark (Cut k) ∷ c.rest) place c.are.inside)
    ∙ sym (ap (stops_by place) c.split)
stops_made (a_reset r ∷ ps) since begun place records all =
    let p : Part = record { lines = since ++ []; begun = begun ++ []; ending = by_reset r } in
    let c = closed place p (parts_of ps) records (some_part ps) all in
    let there = moved_by place c.mine in
    let on = stops_made ps [] [] there c.rest (subst (λ (qs : List Part). AreMadeSoFar there qs c.rest) (sym (onto_none (parts_of ps))) c.on) in
    ap (λ (x : Steps3). reset_at r.number x ∷ stops_of ps) c.are.stands
    ∙ ap (λ (xs : List Stop). reset_at r.number there ∷ xs) on
    ∙ sym (none_inside c.mine (kinds.Mark (ResetMark r.number) ∷ c.rest) place c.are.inside)
    ∙ sym (ap (stops_by place) c.split)

-- courses that make the same records have the same cuts and resets
pub same_stops : (ps qs : List Passed) (place : Steps3) (records : List Record) → AreMadeSoFar place (parts_of ps) records → AreMadeSoFar place (parts_of qs) records → stops_of ps ≡ stops_of qs
same_stops ps qs place records a b =
    stops_made ps [] [] place records (subst (λ (xs : List Part). AreMadeSoFar place xs records) (sym (onto_none (parts_of ps))) a)
    ∙ sym (stops_made qs [] [] place records (subst (λ (xs : List Part). AreMadeSoFar place xs records) (sym (onto_none (parts_of qs))) b))

-- ---- where a course goes

rebasing : (p last : Point) (sent left : List Sent) (ps : List Passed) → LeadsTo p sent ps last left → RebasesNothing p sent ps → last.unanswered ≡ false → Goes p sent [] ps last left
rebasing p last sent left [] f rebases answered = (f.0, f.1, refl, ap (λ (x : Point). x.unanswered) (sym f.0) ∙ answered)
rebasing p last sent left (a_cut k at ∷ ps) f rebases answered = absurd rebases
rebasing p last sent left (a_reset r ∷ ps) f rebases answered = ([], inr (refl, refl, rebases.0), f.0, rebasing (behind_the_reset r p) last (behind_reset sent) left ps f.1 rebases.1 answered)
rebasing p last [] left (a_line o ∷ ps) f rebases answered = absurd f
rebasing p last (a_stop ∷ sent) left (a_line o ∷ ps) f rebases answered = absurd f
rebasing p last (a_text line ∷ sent) left (a_line o ∷ ps) f rebases answered = (line, sent, refl, f.0, rebasing (behind_line p line o) last sent left ps f.1 rebases answered)
rebasing p last [] left (a_broken o ∷ ps) f rebases answered = absurd f
rebasing p last (a_stop ∷ sent) left (a_broken o ∷ ps) f rebases answered = absurd f
rebasing p last (a_text line ∷ sent) left (a_broken o ∷ ps) f rebases answered = (line, sent, refl, f.0, rebasing (behind_broken p o) last sent left ps f.1 rebases answered)

-- A course that leads to a point, and one from there that rebases nothing: its cuts and resets come first.
pub goes_on : (p between last : Point) (sent waiting left : List Sent) (ps qs : List Passed) → LeadsTo p sent ps between waiting → LeadsTo between waiting qs last left → RebasesNothing between waiting qs → last.unanswered ≡ false
    → Goes p sent (stops_of ps) (ps ++ qs) last left
goes_on p between last sent waiting left [] qs f g rebases answered =
    rebasing p last sent left qs
    (subst (λ (ss : List Sent). LeadsTo p ss qs last left) f.1 (subst (λ (x : Point). LeadsTo x waiting qs last left) f.0 g))
    (subst (λ (ss : List Sent). RebasesNothing p ss qs) f.1 (subst (λ (x : Point). RebasesNothing x waiting qs) f.0 rebases)) answered
goes_on p between last sent waiting left (a_cut k at ∷ ps) qs f g rebases answered = (stops_of ps, refl, f.0, goes_on (behind_cut at p) between last sent waiting left ps qs f.1 g rebases answered)
goes_on p between last sent waiting left (a_reset r ∷ ps) qs f g rebases answered = (stops_of ps, inl refl, f.0, goes_on (behind_the_reset r p) between last (behind_reset sent) waiting left ps qs f.1 g rebases answered)
goes_on p between last [] waiting left (a_line o ∷ ps) qs f g rebases answered = absurd f
goes_on p between last (a_stop ∷ sent) waiting left (a_line o ∷ ps) qs f g rebases answered = absurd f
goes_on p between last (a_text line ∷ sent) waiting left (a_line o ∷ ps) qs f g rebases answered = (line, sent, refl, f.0, goes_on (behind_line p line o) between last sent waiting left ps qs f.1 g rebases answered)
goes_on p between last [] waiting left (a_broken o ∷ ps) qs f g rebases answered = absurd f
goes_on p between last (a_stop ∷ sent) waiting left (a_broken o ∷ ps) qs f g rebases answered = absurd f
goes_on p between last (a_text line ∷ sent) waiting left (a_broken o ∷ ps) qs f g rebases answered = (line, sent, refl, f.0, goes_on (behind_broken p o) between last sent waiting left ps qs f.1 g rebases answered)
