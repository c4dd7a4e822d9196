-- Of two courses that stand on one console, the one that tells more goes on behind the other.
use Rattle.std.proofs.Common.{◌≡◌, ◌≤◌, ℕ, inl, inr, List, [], ◌∷◌, ◌++◌, length, false, sym, refl, subst}
use Rattle.step_line.specs.declared.Record.{Record}
use Rattle.run_texts.specs.Courses.{Passed, behind_the_reset}
use Rattle.run_texts.specs.Courses.Passed.{a_line, a_broken, a_cut, a_reset}
use Rattle.run_texts.specs.Points.{Point, opening, behind_line, behind_broken}
use Rattle.run_texts.specs.Sent.{Sent, behind_reset}
use Rattle.run_texts.specs.SoFar.{LeadsTo, RebasesNothing}
use Rattle.run_texts.specs.Told.{told_in}
use Rattle.run_texts.proofs.Stops.{Stop, stops_of}
use Rattle.run_texts.proofs.Stops.Stop.{cut_at, reset_at}
use Rattle.audit_rules.specs.Consoles.{IsOnConsole}
use Rattle.audit_rules.specs.Onward.{GoesOnTo}
use Rattle.audit_rules.specs.Telling.{StandsUpTo, last_answered}
use Rattle.audit_rules.proofs.OneLine.{goes_up_to, goes_beside, told_further, none_between}
use Rattle.audit_rules.proofs.OneText.{ToldOn, told_on, told_then}
use Rattle.audit_rules.proofs.OneWay.{Goes, NextReset, goes_behind, no_stop}

-- a course without cuts, whose resets leave the position as it is
leads_on : (p last : Point) (sent left : List Sent) (stops : List Stop) (ps : List Passed) → Goes p sent stops ps last left → stops ≡ [] → LeadsTo p sent ps last left × RebasesNothing p sent ps
leads_on p last sent left stops [] g none = ((g.0, g.1), tt)
leads_on p last sent left stops (a_line o ∷ ps) g none =
    let on = leads_on (behind_line p g.0 o) last g.1 left stops ps g.4 none in
    subst (λ (ss : List Sent). LeadsTo p ss (a_line o ∷ ps) last left × RebasesNothing p ss (a_line o ∷ ps)) (sym g.2) ((g.3, on.0), on.1)
leads_on p last sent left stops (a_broken o ∷ ps) g none =
    let on = leads_on (behind_broken p o) last g.1 left stops ps g.4 none in
    subst (λ (ss : List Sent). LeadsTo p ss (a_broken o ∷ ps) last left × RebasesNothing p ss (a_broken o ∷ ps)) (sym g.2) ((g.3, on.0), on.1)
leads_on p last sent left stops (a_cut k at ∷ ps) g none = no_stop stops g.0 (cut_at k at) none g.1
leads_on p last sent left stops (a_reset r ∷ ps) g none = by_next g.1 (λ e. leads_on (behind_the_reset r p) last (behind_reset sent) left g.0 ps g.3 e) where
  by_next : NextReset p r stops g.0 → (g.0 ≡ [] → LeadsTo (behind_the_reset r p) (behind_reset sent) ps last left × RebasesNothing (behind_the_reset r p) (behind_reset sent) ps)
      → LeadsTo p sent (a_reset r ∷ ps) last left × RebasesNothing p sent (a_reset r ∷ ps)
  by_next (inl here) on = no_stop stops g.0 (reset_at r.number r.at) none here
  by_next (inr free) on =
      let rest = on free.1 in
      ((g.2, rest.0), (free.2, rest.1))

-- The last line that the one answers is the last that the course between the points answers, or else that of the other.
pub goes_on_last : (sent : List Sent) (console : List ℕ) (records : List Record) (p q : Point) (left gone : List Sent) (rest later : List ℕ) (x : StandsUpTo sent console records p left rest) (y : StandsUpTo sent console records q gone later)
    → p.unanswered ≡ false → q.unanswered ≡ false → length later ≤ length rest
    → (g : GoesOnTo p left rest q gone later) × (last_answered 1 0 (y.course ++ y.others) ≡ last_answered p.before.number (last_answered 1 0 (x.course ++ x.others)) g.course)
goes_on_last sent console records p q left gone rest later x y p_answered q_answered few =
    let us = told_in (x.course ++ x.others) in
    let vs = told_in (y.course ++ y.others) in
    let none = none_between rest later few in
    let here = goes_up_to sent console records p left rest x p_answered in
    let there = goes_beside sent console records records refl p q left gone rest later x y q_answered in
    let on = told_on IsOnConsole (λ r on. on) rest later none in
    let b = goes_behind (ToldOn IsOnConsole rest later) on (opening x.first) p q sent left gone (stops_of x.course) (x.course ++ x.others) (y.course ++ y.others) here there (told_further console rest later us vs x.told y.told) in
    let leads = leads_on p q left gone [] b.more b.goes refl in
    let t = told_then IsOnConsole (λ r on. on) rest later none (told_in b.more) b.told in
    (record { course = b.more; leads = leads.0; rebases = leads.1; tells = record { replies = t.replies; text = t.text; each = t.may; are = t.are } }, b.last 0)

pub goes_on_to : (sent : List Sent) (console : List ℕ) (records : List Record) (p q : Point) (left gone : List Sent) (rest later : List ℕ) → StandsUpTo sent console records p left rest → StandsUpTo sent console records q gone later
    → p.unanswered ≡ false → q.unanswered ≡ false → length later ≤ length rest → GoesOnTo p left rest q gone later
goes_on_to sent console records p q left gone rest later x y p_answered q_answered few = (goes_on_last sent console records p q left gone rest later x y p_answered q_answered few).0
