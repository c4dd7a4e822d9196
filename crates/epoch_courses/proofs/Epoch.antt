-- An epoch that goes on is a course from its opening to where it stands.
use Rattle.std.proofs.Common.{◌≡◌, ℕ, ◌+◌, ◌≤◌, ◌<◌, Bool, true, false, cond, not, ◌&&◌, ◌||◌, List, [], ◌∷◌, ◌++◌, map, length, refl, sym, ap, ◌∙◌, append_assoc, subst, arith}
use Rattle.std.proofs.lemmas.List.{map-append}
use Rattle.std.proofs.lemmas.List.Folds.{list_any-append}
use Rattle.std.specs.List.{list_any}
use Rattle.flight.specs.Places.{end_from}
use Rattle.run_rules.specs.declared.State.{State}
use Rattle.run_rules.specs.Outcomes.{Before, after, at_place}
use Rattle.run_rules.specs.Locking.{BecomesIn, unlocks, locked_behind}
use Rattle.run_rules.specs.Work.{Outcome, accepted_code, accepted_jog, has_moves}
use Rattle.run_texts.specs.Courses.{Passed, IsCut, behind_cut}
use Rattle.run_texts.specs.Courses.Passed.{a_line, a_cut}
use Rattle.run_texts.specs.Points.{Point, behind_line}
use Rattle.run_texts.specs.Sent.{Sent}
use Rattle.run_texts.specs.Sent.Sent.{a_text}
use Rattle.run_texts.specs.SoFar.{LeadsTo}
use Rattle.units.specs.declared.Steps3.{Steps3}
use Rattle.board_rules.specs.Conduct.{Conducted}
use Rattle.board_rules.specs.Cuts.{part_outcomes}
use Rattle.board_journal.specs.Openings.{Opening, before_first}
use Rattle.board_journal.specs.Ports.{PortStep}
use Rattle.board_journal.specs.Ports.PortStep.{loaded, found_halt}
use Rattle.board_journal.specs.Steps.{Journal, open_of, lines_of, before_of, given_of, known_of}
use Rattle.board_journal.specs.Steps.Step.{at_port, began, cut}
use Rattle.board_rules.specs.Turns.{is_limited, is_locked}
use Rattle.board_rules.proofs.Alarms.{alarmed_is}
use Rattle.board_rules.proofs.Causing.{becomes_now}
use Rattle.board_rules.proofs.Lines.{number_is}
use Rattle.board_rules.proofs.Numbers.{cut_has_lines}
use Rattle.board_epochs.specs.Epochs.{point_of}
use Rattle.epoch_courses.specs.Course.{is_made, passed_by, before_by, has_line_by, point_behind}
use Rattle.epoch_courses.proofs.Made.{AllMade, made_before_line, made_before_cut}
use Rattle.run_texts.proofs.SoFar.{leads_on}

-- ---- what is locked

and_true : (t : Bool) → (t && true) ≡ t
and_true true = refl
and_true false = refl

not_either : (t a b : Bool) → (t && not (a || (b || false))) ≡ ((t && not a) && not b)
not_either false a b = refl
not_either true true b = refl
not_either true false true = refl
not_either true false false = refl

pub locked_on : (t : Bool) (ls : List (List ℕ)) (l : List ℕ) → locked_behind t (ls ++ l ∷ []) ≡ (locked_behind t ls && not (unlocks l))
locked_on t ls l = ap (λ (b : Bool). t && not b) (list_any-append unlocks ls (l ∷ [])) ∙ not_either t (list_any unlocks ls) (unlocks l)

-- ---- a line, and a cut

-- lines that end with one more
pub one_more : (lines : List (List ℕ)) (l : List ℕ) (tail : List Sent) → map a_text (lines ++ l ∷ []) ++ tail ≡ map a_text lines ++ a_text l ∷ tail
one_more lines l tail = ap (λ (ss : List Sent). ss ++ tail) (map-append a_text lines (l ∷ [])) ∙ append_assoc (map a_text lines) (a_text l ∷ []) tail

abbrev with_lock : ℕ → Opening → Journal → Outcome → Bool → Point
with_lock made first h o locked = record { before = before_by made first (began o ∷ h); locked = locked; has_line = true; unanswered = false }

behind_one : (made : ℕ) (first : Opening) (h : Journal) (o : Outcome) → point_behind made first (began o ∷ h) ≡ behind_line (point_behind made first h) (open_of h) o
behind_one made first h o = ap (with_lock made first h o) (locked_on (is_limited first.motion) (lines_of h) (open_of h))

-- ---- what the lines leave

-- the same settings and offsets
pub record SameKept (s t : State) : Type 0 where
  pub settings : s.settings ≡ t.settings
  pub offsets : s.parser.offsets ≡ t.parser.offsets

-- a cut that is not made changes no more than the position
pub record SameBut (a b : Before) : Type 0 where
  pub number : a.number ≡ b.number
  pub kept : SameKept a.state b.state
  pub moved : a.moved ≡ b.moved
  pub jog_moved : a.jog_moved ≡ b.jog_moved
  pub alarmed : a.alarmed ≡ b.alarmed

pub same_but : (made : ℕ) (first : Opening) (h : Journal) → SameBut (before_by made first h) (before_of first h)
same_but made first [] = record { number = refl; kept = record { settings = refl; offsets = refl }; moved = refl; jog_moved = refl; alarmed = refl }
same_but made first (began o ∷ h) = let s = same_but made first h in record {
  number = ap (λ (n : ℕ). n + 1) s.number;
  kept = record { settings = refl; offsets = refl };
  moved = ap (λ (t : Bool). cond o.settles false (accepted_code o.kind && has_moves o.work || t)) s.moved;
  jog_moved = ap (λ (t : Bool). cond o.settles false (accepted_jog o.kind && has_moves o.work || t)) s.jog_moved;
  alarmed = refl;
}
same_but made first (cut k ∷ h) = by_made (is_made made h) (same_but made first h)
  where
    by_made : (t : Bool) → SameBut (before_by made first h) (before_of first h) → SameBut (cond t (at_place (end_from first.place (given_of h)) (before_by made first h)) (before_by made first h)) (at_place (end_from first.place (given_of h)) (before_of first h))
    by_made true s = record { number = s.number; kept = record { settings = s.kept.settings; offsets = s.kept.offsets }; moved = s.moved; jog_moved = s.jog_moved; alarmed = s.alarmed }
    by_made false s = record { number = s.number; kept = record { settings = s.kept.settings; offsets = s.kept.offsets }; moved = s.moved; jog_moved = s.jog_moved; alarmed = s.alarmed }
same_but made first (_ ∷ h) = same_but made first h

-- where all cuts are made it is the same
pub same_before : (made : ℕ) (first : Opening) (h : Journal) → AllMade made h → before_by made first h ≡ before_of first h
same_before made first [] all = refl
same_before made first (began o ∷ h) all = ap (λ (b : Before). after b o) (same_before made first h all)
same_before made first (cut k ∷ h) all =
    ap (λ (t : Bool). cond t (at_place (end_from first.place (given_of h)) (before_by made first h)) (before_by made first h)) all.0 ∙ ap (at_place (end_from first.place (given_of h))) (same_before made first h all.1)
same_before made first (_ ∷ h) all = same_before made first h all

-- no line is begun since the last cut, or one is
some_lines : (made : ℕ) (h : Journal) → AllMade made h → 0 < length (part_outcomes h) → has_line_by made h ≡ true
some_lines made [] all some = absurd (omega (arith, some))
some_lines made (began o ∷ h) all some = refl
some_lines made (cut k ∷ h) all some = absurd (omega (arith, some))
some_lines made (_ ∷ h) all some = some_lines made h all some

-- where jogs are cut, a line was begun since the last cut
pub cut_behind_line : (made : ℕ) (first : Opening) (h : Journal) (k : ℕ) → Conducted first (cut k ∷ h) → known_of h ≤ made → has_line_by made h ≡ true
cut_behind_line made first h k c known = some_lines made h (made_before_cut made first h k c known) (cut_has_lines first h k c)

-- it has the number of the line before it
pub cut_number : (first : Opening) (h : Journal) (k : ℕ) → Conducted first (cut k ∷ h) → (before_of first h).number ≡ k + 1
cut_number first h k c = let n = number_is first h c.1 in let is = c.0.number in omega (arith, n, is)

is_cut : (made : ℕ) (first : Opening) (h : Journal) (k : ℕ) → Conducted first (cut k ∷ h) → known_of h ≤ made → IsCut (point_behind made first h) k
is_cut made first h k c known = record {
  free = (same_but made first h).alarmed ∙ alarmed_is first h ∙ c.0.calm;
  number = (same_but made first h).number ∙ cut_number first h k c;
  has_line = cut_behind_line made first h k c known;
}

-- ---- all of them

opens_there : (made : ℕ) (first : Opening) → point_behind made first [] ≡ point_of first
opens_there made first = ap (λ (locked : Bool). let p : Point = record { before = before_first first; locked = locked; has_line = false; unanswered = false } in p) (and_true (is_limited first.motion))

-- where a course stands that goes on by a cut, if the cut is made
pub by_cut : (t : Bool) (p : Point) (course : List Passed) (q last : Point) (sent tail : List Sent) (k : ℕ) (at : Steps3) → LeadsTo p sent course q tail → IsCut q k → (t ≡ true → last ≡ behind_cut at q) → (t ≡ false → last ≡ q)
    → LeadsTo p sent (course ++ cond t (a_cut k at ∷ []) []) last tail
by_cut true p course q last sent tail k at leads is made unmade = leads_on p q last sent tail tail course (a_cut k at ∷ []) leads (is, (made refl, refl))
by_cut false p course q last sent tail k at leads is made unmade = leads_on p q last sent tail tail course [] leads (unmade refl, refl)

-- no more is known to be made than is
pub less_known : (first : Opening) (e : PortStep) (h : Journal) (made : ℕ) → Conducted first (at_port e ∷ h) → known_of (at_port e ∷ h) ≤ made → known_of h ≤ made
less_known first (loaded n) h made c known = let later = c.0.later in omega (arith, later, known)
less_known first (found_halt n) h made c known = absurd c.0
less_known first _ h made c known = known

cut_point : (made : ℕ) (first : Opening) (h : Journal) (k : ℕ) (t : Bool) → is_made made h ≡ t → point_behind made first (cut k ∷ h) ≡ cond t (behind_cut (end_from first.place (given_of h)) (point_behind made first h)) (point_behind made first h)
cut_point made first h k t is = ap (λ (b : Bool). let p : Point = record {
  before = cond b (at_place (end_from first.place (given_of h)) (before_by made first h)) (before_by made first h);
  locked = is_locked first h;
  has_line = not b && has_line_by made h;
  unanswered = false;
} in p) is ∙ by_case t
  where
    by_case : (t : Bool) → (let p : Point = record {
      before = cond t (at_place (end_from first.place (given_of h)) (before_by made first h)) (before_by made first h);
      locked = is_locked first h;
      has_line = not t && has_line_by made h;
      unanswered = false;
    } in p) ≡ cond t (behind_cut (end_from first.place (given_of h)) (point_behind made first h)) (point_behind made first h)
    by_case true = refl
    by_case false = refl

pub epoch_leads : (made : ℕ) (first : Opening) (h : Journal) (tail : List Sent) → Conducted first h → known_of h ≤ made → LeadsTo (point_of first) (map a_text (lines_of h) ++ tail) (passed_by false made first h) (point_behind made first h) tail
epoch_leads made first [] tail c known = (opens_there made first, refl)
epoch_leads made first (began o ∷ h) tail c known =
    let same = same_before made first h (made_before_line made first h o c known) in
    subst (λ (ss : List Sent). LeadsTo (point_of first) ss (passed_by false made first h ++ a_line o ∷ []) (point_behind made first (began o ∷ h)) tail) (sym (one_more (lines_of h) (open_of h) tail))
    (leads_on (point_of first) (point_behind made first h) (point_behind made first (began o ∷ h)) _ (a_text (open_of h) ∷ tail) tail (passed_by false made first h) (a_line o ∷ [])
    (epoch_leads made first h (a_text (open_of h) ∷ tail) c.1 known) (
      record {
        free = (same_but made first h).alarmed ∙ alarmed_is first h ∙ c.0.calm;
        answered = refl;
        becomes = subst (λ (b : Before). BecomesIn (is_locked first h) true b (open_of h) o) (sym same) (becomes_now first h o c);
      },
      (behind_one made first h o, refl),
    ))
epoch_leads made first (cut k ∷ h) tail c known =
    by_cut (is_made made h) (point_of first) (passed_by false made first h) (point_behind made first h) (point_behind made first (cut k ∷ h)) _ tail k (end_from first.place (given_of h))
    (epoch_leads made first h tail c.1 known) (is_cut made first h k c known) (λ is. cut_point made first h k true is) (λ is. cut_point made first h k false is)
epoch_leads made first (at_port e ∷ h) tail c known = epoch_leads made first h tail c.1 (less_known first e h made c known)
epoch_leads made first (_ ∷ h) tail c known = epoch_leads made first h tail c.1 known
