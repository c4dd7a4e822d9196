-- A cut or a reset comes of a course where the line of its number is passed.
use Rattle.std.proofs.Common.{◌≡◌, ℕ, ◌+◌, ◌≤◌, List, [], ◌∷◌, ◌++◌, true, false, append-nil, sym, refl, ◌∙◌, subst, arith}
use Rattle.units.specs.declared.Steps3.{Steps3}
use Rattle.flight.specs.Places.{moved_by}
use Rattle.status_report.specs.declared.Reply.{Reply}
use Rattle.step_line.specs.declared.Mark.TheVariants.{Cut, Reset as ResetMark}
use Rattle.step_line.specs.declared.Record.{Record}
use Rattle.step_line.specs.declared.Record.TheVariants as kinds
use Rattle.run_rules.specs.Work.{Outcome}
use Rattle.run_texts.specs.Courses.{Passed, Reset, IsCut, IsReset}
use Rattle.run_texts.specs.Courses.Passed.{a_line, a_broken, a_cut, a_reset}
use Rattle.run_texts.specs.Left.{behind_lines, part_of}
use Rattle.run_texts.specs.Parts.{Ending, parts_of, ending_record, is_ending}
use Rattle.run_texts.specs.Parts.Ending.{by_cut, by_reset}
use Rattle.run_texts.specs.Points.{Point}
use Rattle.run_texts.specs.Recorded.{IsRecorded}
use Rattle.run_texts.specs.Sent.{Sent}
use Rattle.run_texts.specs.SoFar.{LeadsTo, AreMadeSoFar}
use Rattle.run_texts.specs.Told.{told_at_reset, told_in}
use Rattle.run_texts.proofs.Stops.{Inside, Stop, stops_of, same_split, is_an_ending}
use Rattle.run_texts.proofs.Stops.Stop.{cut_at, reset_at}
use Rattle.audit_rules.specs.Onward.{HasCome, StandsBehind, TellsNext, begins_with_line}
use Rattle.audit_rules.specs.Standing.{Stand}
use Rattle.audit_rules.proofs.Behind.{cut_comes, reset_comes}
use Rattle.audit_rules.proofs.BehindCourses.{line_ahead, broken_ahead, nothing_passed, with_none}
use Rattle.audit_rules.proofs.Fronts.{closed, some_part}
use Rattle.audit_rules.proofs.OneWay.{both}
use Rattle.audit_rules.proofs.Replies.{all_second}
use Rattle.audit_rules.proofs.StopsMade.{stops_by, stops_made, none_inside}

-- ---- the end of a part

-- an open part has made no record that ends one
none_open : {A : Type 0} (place : Steps3) (since begun : List Outcome) (made others : List Record) (r : Record) → is_ending r ≡ true → AreMadeSoFar place (behind_lines since begun (parts_of [])) (made ++ r ∷ others) → A
none_open place since begun made others r ends all = both (is_ending r) ends (all_second (λ r. is_ending r ≡ false) made (r ∷ others) all.1.inside).0

-- the part ends here, by this record
record EndsHere (place : Steps3) (since begun : List Outcome) (made : List Record) (ending : Ending) (r : Record) : Type 0 where
  pub recorded : IsRecorded place (part_of since begun ending) made
  pub is : ending_record ending ≡ r

ends_here : (place : Steps3) (since begun : List Outcome) (made others : List Record) (ending : Ending) (ps : List Passed) (r : Record) → Inside made → is_ending r ≡ true
    → AreMadeSoFar place (part_of (since ++ []) (begun ++ []) ending ∷ parts_of ps) (made ++ r ∷ others) → EndsHere place since begun made ending r
ends_here place since begun made others ending ps r inside ends all =
    let c = closed place (part_of (since ++ []) (begun ++ []) ending) (parts_of ps) (made ++ r ∷ others) (some_part ps) all in
    let same = same_split c.mine made c.rest others (ending_record ending) r c.are.inside inside (is_an_ending ending) ends (sym c.split) in
    record {
      recorded =
          subst (λ (lines : List Outcome). IsRecorded place (part_of since lines ending) made) (append-nil begun)
          (subst (λ (lines : List Outcome). IsRecorded place (part_of lines (begun ++ []) ending) made) (append-nil since)
          (subst (λ (rs : List Record). IsRecorded place (part_of (since ++ []) (begun ++ []) ending) rs) same.front c.are));
      is = same.ending;
    }

-- a course that makes such a record next has its cut or reset next
pub next_stop : (more : List Passed) (since begun : List Outcome) (place : Steps3) (made others : List Record) (s : Stop) (r : Record) (rest : List Stop) → Inside made → stops_by (moved_by place made) (r ∷ others) ≡ s ∷ rest
    → AreMadeSoFar place (behind_lines since begun (parts_of more)) (made ++ r ∷ others) → stops_of more ≡ s ∷ rest
next_stop more since begun place made others s r rest inside comes all = stops_made more since begun place (made ++ r ∷ others) all ∙ none_inside made (r ∷ others) place inside ∙ comes

-- ---- a cut

cut_at_once : (p last : Point) (sent left : List Sent) (more : List Passed) (since begun : List Outcome) (place : Steps3) (made others : List Record) (k : ℕ) → LeadsTo p sent more last left → Inside made → p.before.number ≡ k + 1
    → AreMadeSoFar place (behind_lines since begun (parts_of more)) (made ++ kinds.Mark (Cut k) ∷ others) → (at : Steps3) × IsCut p k × IsRecorded place (part_of since begun (by_cut k at)) made
cut_at_once p last sent left [] since begun place made others k f inside number all = none_open place since begun made others (kinds.Mark (Cut k)) refl all
cut_at_once p last sent left (a_cut j at ∷ ps) since begun place made others k f inside number all =
    let e = ends_here place since begun made others (by_cut j at) ps (kinds.Mark (Cut k)) inside refl all in
    let is : ◌≡◌ {A = Record} (kinds.Mark (Cut j)) (kinds.Mark (Cut k)) = e.is in
    let same : j ≡ k = cc in
    (at, subst (IsCut p) same f.0, subst (λ (n : ℕ). IsRecorded place (part_of since begun (by_cut n at)) made) same e.recorded)
cut_at_once p last sent left (a_reset r ∷ ps) since begun place made others k f inside number all =
    let e = ends_here place since begun made others (by_reset r) ps (kinds.Mark (Cut k)) inside refl all in
    absurd (let is : ◌≡◌ {A = Record} (kinds.Mark (ResetMark r.number)) (kinds.Mark (Cut k)) = e.is in cc)
cut_at_once p last sent left (a_line o ∷ ps) since begun place made others k f inside number all =
    let there = moved_by place made in
    let stops = next_stop (a_line o ∷ ps) since begun place made others (cut_at k there) (kinds.Mark (Cut k)) (stops_by there others) inside refl all in
    nothing_passed (cut_at k there) (stops_by there others) last (line_ahead p last sent left o ps (cut_at k there) (stops_by there others) [] f (with_none (cut_at k there) (stops_by there others) (stops_of ps) stops) number)
cut_at_once p last sent left (a_broken o ∷ ps) since begun place made others k f inside number all =
    let there = moved_by place made in
    let stops = next_stop (a_broken o ∷ ps) since begun place made others (cut_at k there) (kinds.Mark (Cut k)) (stops_by there others) inside refl all in
    nothing_passed (cut_at k there) (stops_by there others) last (broken_ahead p last sent left o ps (cut_at k there) (stops_by there others) [] f (with_none (cut_at k there) (stops_by there others) (stops_of ps) stops) number)

cut_behind : (p last : Point) (sent left : List Sent) (more : List Passed) (since begun : List Outcome) (place : Steps3) (made others : List Record) (k : ℕ) → LeadsTo p sent more last left → Inside made → p.before.number ≤ k
    → AreMadeSoFar place (behind_lines since begun (parts_of more)) (made ++ kinds.Mark (Cut k) ∷ others) → begins_with_line more ≡ true
cut_behind p last sent left [] since begun place made others k f inside early all = none_open place since begun made others (kinds.Mark (Cut k)) refl all
cut_behind p last sent left (a_cut j at ∷ ps) since begun place made others k f inside early all =
    let e = ends_here place since begun made others (by_cut j at) ps (kinds.Mark (Cut k)) inside refl all in
    let is : ◌≡◌ {A = Record} (kinds.Mark (Cut j)) (kinds.Mark (Cut k)) = e.is in
    let same : j ≡ k = cc in
    let number = f.0.number in
    absurd (omega (arith, same, number, early))
cut_behind p last sent left (a_reset r ∷ ps) since begun place made others k f inside early all =
    let e = ends_here place since begun made others (by_reset r) ps (kinds.Mark (Cut k)) inside refl all in
    absurd (let is : ◌≡◌ {A = Record} (kinds.Mark (ResetMark r.number)) (kinds.Mark (Cut k)) = e.is in cc)
cut_behind p last sent left (a_line o ∷ ps) since begun place made others k f inside early all = refl
cut_behind p last sent left (a_broken o ∷ ps) since begun place made others k f inside early all = refl

-- ---- a reset

-- a reset comes here, by this record, and the console tells it next
abbrev ResetHere : Point → List Sent → List ℕ → Steps3 → List Outcome → List Outcome → List Record → ℕ → List ℕ → Type 0
ResetHere p sent rest place since begun made k later =
    (r : Reset) × (r.number ≡ k) × IsReset p sent r × IsRecorded place (part_of since begun (by_reset r)) made × (told : List Reply) × TellsNext rest (told_at_reset r ++ told) later

reset_at_once : (p last : Point) (sent left : List Sent) (more : List Passed) (since begun : List Outcome) (place : Steps3) (made others : List Record) (k : ℕ) (rest later : List ℕ) → LeadsTo p sent more last left → Inside made
    → p.before.number ≡ k + 1 → TellsNext rest (told_in more) later → AreMadeSoFar place (behind_lines since begun (parts_of more)) (made ++ kinds.Mark (ResetMark k) ∷ others) → ResetHere p sent rest place since begun made k later
reset_at_once p last sent left [] since begun place made others k rest later f inside number tells all = none_open place since begun made others (kinds.Mark (ResetMark k)) refl all
reset_at_once p last sent left (a_cut j at ∷ ps) since begun place made others k rest later f inside number tells all =
    let e = ends_here place since begun made others (by_cut j at) ps (kinds.Mark (ResetMark k)) inside refl all in
    absurd (let is : ◌≡◌ {A = Record} (kinds.Mark (Cut j)) (kinds.Mark (ResetMark k)) = e.is in cc)
reset_at_once p last sent left (a_reset r ∷ ps) since begun place made others k rest later f inside number tells all =
    let e = ends_here place since begun made others (by_reset r) ps (kinds.Mark (ResetMark k)) inside refl all in
    let is : ◌≡◌ {A = Record} (kinds.Mark (ResetMark r.number)) (kinds.Mark (ResetMark k)) = e.is in
    (r, (let same : r.number ≡ k = cc in same), f.0, e.recorded, told_in ps, tells)
reset_at_once p last sent left (a_line o ∷ ps) since begun place made others k rest later f inside number tells all =
    let there = moved_by place made in
    let stops = next_stop (a_line o ∷ ps) since begun place made others (reset_at k there) (kinds.Mark (ResetMark k)) (stops_by there others) inside refl all in
    nothing_passed (reset_at k there) (stops_by there others) last (line_ahead p last sent left o ps (reset_at k there) (stops_by there others) [] f (with_none (reset_at k there) (stops_by there others) (stops_of ps) stops) number)
reset_at_once p last sent left (a_broken o ∷ ps) since begun place made others k rest later f inside number tells all =
    let there = moved_by place made in
    let stops = next_stop (a_broken o ∷ ps) since begun place made others (reset_at k there) (kinds.Mark (ResetMark k)) (stops_by there others) inside refl all in
    nothing_passed (reset_at k there) (stops_by there others) last (broken_ahead p last sent left o ps (reset_at k there) (stops_by there others) [] f (with_none (reset_at k there) (stops_by there others) (stops_of ps) stops) number)

reset_behind : (p last : Point) (sent left : List Sent) (more : List Passed) (since begun : List Outcome) (place : Steps3) (made others : List Record) (k : ℕ) → LeadsTo p sent more last left → Inside made → p.before.number ≤ k
    → AreMadeSoFar place (behind_lines since begun (parts_of more)) (made ++ kinds.Mark (ResetMark k) ∷ others) → begins_with_line more ≡ true
reset_behind p last sent left [] since begun place made others k f inside early all = none_open place since begun made others (kinds.Mark (ResetMark k)) refl all
reset_behind p last sent left (a_cut j at ∷ ps) since begun place made others k f inside early all =
    let e = ends_here place since begun made others (by_cut j at) ps (kinds.Mark (ResetMark k)) inside refl all in
    absurd (let is : ◌≡◌ {A = Record} (kinds.Mark (Cut j)) (kinds.Mark (ResetMark k)) = e.is in cc)
reset_behind p last sent left (a_reset r ∷ ps) since begun place made others k f inside early all =
    let e = ends_here place since begun made others (by_reset r) ps (kinds.Mark (ResetMark k)) inside refl all in
    let is : ◌≡◌ {A = Record} (kinds.Mark (ResetMark r.number)) (kinds.Mark (ResetMark k)) = e.is in
    let same : r.number ≡ k = cc in
    let number = f.0.number in
    absurd (omega (arith, same, number, early))
reset_behind p last sent left (a_line o ∷ ps) since begun place made others k f inside early all = refl
reset_behind p last sent left (a_broken o ∷ ps) since begun place made others k f inside early all = refl

-- ---- where a course has come so far

pub cut_here : (sent : List Sent) (console : List ℕ) (records others made : List Record) (since begun : List Outcome) (k : ℕ) (c : HasCome sent console records since begun made) → c.point.before.number ≡ k + 1
    → Stand sent console (records ++ kinds.Mark (Cut k) ∷ others) → (at : Steps3) × IsCut c.point k × IsRecorded c.place (part_of since begun (by_cut k at)) made
cut_here sent console records others made since begun k c number s =
    let b = cut_comes sent console records others made since begun k c (omega (arith, number)) s in
    cut_at_once c.point b.point c.left b.waiting b.more since begun c.place made others k b.leads c.is_made.inside number (c.reached.only b.more (kinds.Mark (Cut k) ∷ others) b.made)

pub cut_later : (sent : List Sent) (console : List ℕ) (records others made : List Record) (since begun : List Outcome) (k : ℕ) (c : HasCome sent console records since begun made) → c.point.before.number ≤ k
    → Stand sent console (records ++ kinds.Mark (Cut k) ∷ others) → (b : StandsBehind c.reached.course c.point c.left c.rest (records ++ kinds.Mark (Cut k) ∷ others)) × (begins_with_line b.more ≡ true)
cut_later sent console records others made since begun k c early s =
    let b = cut_comes sent console records others made since begun k c (omega (arith, early)) s in
    (b, cut_behind c.point b.point c.left b.waiting b.more since begun c.place made others k b.leads c.is_made.inside early (c.reached.only b.more (kinds.Mark (Cut k) ∷ others) b.made))

pub reset_here : (sent : List Sent) (console : List ℕ) (records others made : List Record) (since begun : List Outcome) (k : ℕ) (c : HasCome sent console records since begun made) → c.point.before.number ≡ k + 1
    → Stand sent console (records ++ kinds.Mark (ResetMark k) ∷ others)
    → (r : Reset) × (r.number ≡ k) × IsReset c.point c.left r × IsRecorded c.place (part_of since begun (by_reset r)) made × (told : List Reply) × (later : List ℕ) × TellsNext c.rest (told_at_reset r ++ told) later
reset_here sent console records others made since begun k c number s =
    let b = reset_comes sent console records others made since begun k c (omega (arith, number)) s in
    let h = reset_at_once c.point b.point c.left b.waiting b.more since begun c.place made others k c.rest b.later b.leads c.is_made.inside number b.tells (c.reached.only b.more (kinds.Mark (ResetMark k) ∷ others) b.made) in
    (h.0, h.1, h.2, h.3, h.4, b.later, h.5)

pub reset_later : (sent : List Sent) (console : List ℕ) (records others made : List Record) (since begun : List Outcome) (k : ℕ) (c : HasCome sent console records since begun made) → c.point.before.number ≤ k
    → Stand sent console (records ++ kinds.Mark (ResetMark k) ∷ others) → (b : StandsBehind c.reached.course c.point c.left c.rest (records ++ kinds.Mark (ResetMark k) ∷ others)) × (begins_with_line b.more ≡ true)
reset_later sent console records others made since begun k c early s =
    let b = reset_comes sent console records others made since begun k c (omega (arith, early)) s in
    (b, reset_behind c.point b.point c.left b.waiting b.more since begun c.place made others k b.leads c.is_made.inside early (c.reached.only b.more (kinds.Mark (ResetMark k) ∷ others) b.made))
