-- Overrides of an epoch change by words that the board took in it.
use Rattle.std.proofs.Common.{◌≡◌, inl, inr, List, [], ◌∷◌, ◌++◌, map, reverse, append-nil, append_assoc, refl, sym, ap, ◌∙◌, subst}
use Rattle.std.proofs.lemmas.Grind.{flat_map-append}
use Rattle.std.proofs.lemmas.List.{map-append, reverse-append}
use Rattle.code_table.specs.declared.flags.Ovr.{Ovr}
use Rattle.overrides.specs.declared.Overrides.{Overrides}
use Rattle.planner_runs.specs.declared.Action.{Action}
use Rattle.planner_runs.specs.declared.Action.TheVariants.{Take, Override, Clear, Reset}
use Rattle.planner_runs.specs.Runs.{normal_overrides}
use Rattle.step_line.specs.declared.Piece.{Piece}
use Rattle.step_line.specs.declared.Piece.TheVariants as pieces
use Rattle.board_journal.specs.Openings.{Opening}
use Rattle.board_journal.specs.Ports.{PortStep, BoardLog}
use Rattle.board_journal.specs.Ports.PortStep.{took_ovr}
use Rattle.board_journal.specs.Steps.{Journal, port_log, plan_of, plan_after}
use Rattle.board_journal.specs.Steps.Step.{at_port, did, evened, cut}
use Rattle.board_rules.specs.Cuts.{part_actions, part_of, parts_of}
use Rattle.board_rules.specs.Conduct.{Conducted, MayDo}
use Rattle.board_rules.specs.Parts.{Part as CutPart}
use Rattle.run_law.specs.Changes.{IsAmong, AreChanges, words_at, words_in}
use Rattle.run_law.proofs.Changing.{changes_more}
use Rattle.epoch_courses.specs.Drives.{Driven, driven_by_cut, driven_since}
use Rattle.epoch_effects.specs.Effects.{actions_in}

-- ---- of any actions

-- the overrides behind them
abbrev overrides_behind : Overrides → List Action → Overrides
overrides_behind o [] = o
overrides_behind o (Override next ∷ rest) = overrides_behind next rest
overrides_behind o (_ ∷ rest) = overrides_behind o rest

behind_on : (o : Overrides) (actions more : List Action) → overrides_behind o (actions ++ more) ≡ overrides_behind (overrides_behind o actions) more
behind_on o [] more = refl
behind_on o (Override next ∷ rest) more = behind_on next rest more
behind_on o (_ ∷ rest) more = behind_on o rest more

changes_on : (May : Ovr → Type 0) (o : Overrides) (actions more : List Action) → AreChanges May o actions → AreChanges May (overrides_behind o actions) more → AreChanges May o (actions ++ more)
changes_on May o [] more are then = then
changes_on May o (Override next ∷ rest) more are then = (are.0, changes_on May next rest more are.1 then)
changes_on May o (_ ∷ rest) more are then = changes_on May o rest more are then

pub changes_front : (May : Ovr → Type 0) (o : Overrides) (actions more : List Action) → AreChanges May o (actions ++ more) → AreChanges May o actions
changes_front May o [] more are = tt
changes_front May o (Override next ∷ rest) more are = (are.0, changes_front May next rest more are.1)
changes_front May o (_ ∷ rest) more are = changes_front May o rest more are

-- ---- of a board

among_more : (e : PortStep) (words : List Ovr) (word : Ovr) → IsAmong words word → IsAmong (words_at e words) word
among_more (took_ovr w) words word among = inr among
among_more _ words word among = among

-- what was done to the plan, but for what took blocks away
abbrev all_done : Journal → List Action
all_done [] = []
all_done (did a ps ∷ h) = all_done h ++ a ∷ []
all_done (evened ∷ h) = all_done h ++ Override normal_overrides ∷ []
all_done (_ ∷ h) = all_done h

-- it changes overrides by words that were taken, to those of the plan
record Changed (h : Journal) : Type 0 where
  are : AreChanges (IsAmong (words_in (port_log h))) normal_overrides (all_done h)
  now : overrides_behind normal_overrides (all_done h) ≡ (plan_of h).overrides

record OneChange (h : Journal) (a : Action) (ps : List Piece) : Type 0 where
  are : AreChanges (IsAmong (words_in (port_log h))) (plan_of h).overrides (a ∷ [])
  now : overrides_behind (plan_of h).overrides (a ∷ []) ≡ (plan_after a ps (plan_of h)).overrides

just_taken : (h : Journal) (word : Ovr) (earlier : BoardLog) → port_log h ≡ took_ovr word ∷ earlier → IsAmong (words_in (port_log h)) word
just_taken h word earlier is = subst (λ (l : BoardLog). IsAmong (words_in l) word) (sym is) (inl refl)

one_change : (first : Opening) (h : Journal) (a : Action) (ps : List Piece) → MayDo first a h → OneChange h a ps
one_change first h (Override o) ps may = record { are = (inr (may.word, just_taken h may.word may.earlier may.last, may.taken), tt); now = refl }
one_change first h (Take mode) (pieces.Segment s ∷ ps) may = record { are = tt; now = refl }
one_change first h (Take mode) (pieces.Mark m ∷ ps) may = record { are = tt; now = refl }
one_change first h (Take mode) (pieces.End ∷ ps) may = record { are = tt; now = refl }
one_change first h (Take mode) [] may = record { are = tt; now = refl }
one_change first h Clear ps may = absurd may
one_change first h Reset ps may = absurd may
one_change first h _ ps may = record { are = tt; now = refl }

-- one more is done behind
behind_all : (h : Journal) (a : Action) → Changed h → AreChanges (IsAmong (words_in (port_log h))) (plan_of h).overrides (a ∷ []) → AreChanges (IsAmong (words_in (port_log h))) normal_overrides (all_done h ++ a ∷ [])
behind_all h a was then =
    changes_on (IsAmong (words_in (port_log h))) normal_overrides (all_done h) (a ∷ []) was.are (subst (λ (o : Overrides). AreChanges (IsAmong (words_in (port_log h))) o (a ∷ [])) (sym was.now) then)

now_all : (h : Journal) (a : Action) → Changed h → overrides_behind normal_overrides (all_done h ++ a ∷ []) ≡ overrides_behind (plan_of h).overrides (a ∷ [])
now_all h a was = behind_on normal_overrides (all_done h) (a ∷ []) ∙ ap (λ (o : Overrides). overrides_behind o (a ∷ [])) was.now

changed_is : (first : Opening) (h : Journal) → Conducted first h → Changed h
changed_is first [] c = record { are = tt; now = refl }
changed_is first (at_port e ∷ h) c =
    let was = changed_is first h c.1 in
    record {
      are = changes_more (IsAmong (words_in (port_log h))) (IsAmong (words_at e (words_in (port_log h)))) normal_overrides (all_done h) (among_more e (words_in (port_log h))) was.are;
      now = was.now;
    }
changed_is first (did a ps ∷ h) c =
    let was = changed_is first h c.1 in
    let one = one_change first h a ps c.0.0 in
    record { are = behind_all h a was one.are; now = now_all h a was ∙ one.now }
changed_is first (evened ∷ h) c =
    let was = changed_is first h c.1 in
    record { are = behind_all h (Override normal_overrides) was (inl refl, tt); now = now_all h (Override normal_overrides) was }
changed_is first (_ ∷ h) c = let was = changed_is first h c.1 in record { are = was.are; now = was.now }

-- ---- part by part

-- parts that cuts have ended, with one more
pub with_one_cut : (q : CutPart) (qs : List CutPart) (ds : List Driven) → map driven_by_cut (reverse (q ∷ qs)) ++ ds ≡ map driven_by_cut (reverse qs) ++ driven_by_cut q ∷ ds
with_one_cut q qs ds =
    ap (λ (all : List CutPart). map driven_by_cut all ++ ds) (reverse-append (q ∷ []) qs) ∙ ap (λ (all : List Driven). all ++ ds) (map-append driven_by_cut (reverse qs) (q ∷ []))
    ∙ append_assoc (map driven_by_cut (reverse qs)) (driven_by_cut q ∷ []) ds

-- all parts of an epoch, also where the last cut is not made
abbrev pub all_drives : Opening → Journal → List Driven
all_drives first h = map driven_by_cut (reverse (parts_of first h)) ++ driven_since first h ∷ []

abbrev all_cut : Opening → Journal → List Driven
all_cut first h = map driven_by_cut (reverse (parts_of first h))

pub actions_both : (ds es : List Driven) → actions_in (ds ++ es) ≡ actions_in ds ++ actions_in es
actions_both ds es = flat_map-append (λ (d : Driven). d.actions) ds es

parts_did : (first : Opening) (h : Journal) → actions_in (all_cut first h) ++ part_actions h ≡ all_done h
parts_did first [] = refl
parts_did first (did a ps ∷ h) = sym (append_assoc (actions_in (all_cut first h)) (part_actions h) (a ∷ [])) ∙ ap (λ (xs : List Action). xs ++ a ∷ []) (parts_did first h)
parts_did first (evened ∷ h) =
    sym (append_assoc (actions_in (all_cut first h)) (part_actions h) (Override normal_overrides ∷ [])) ∙ ap (λ (xs : List Action). xs ++ Override normal_overrides ∷ []) (parts_did first h)
parts_did first (cut k ∷ h) =
    let q = part_of first k h in
    append-nil (actions_in (all_cut first (cut k ∷ h)))
    ∙ ap actions_in (sym (append-nil (all_cut first (cut k ∷ h))) ∙ with_one_cut q (parts_of first h) [])
    ∙ actions_both (all_cut first h) (driven_by_cut q ∷ [])
    ∙ ap (λ (xs : List Action). actions_in (all_cut first h) ++ xs) (append-nil (part_actions h))
    ∙ parts_did first h
parts_did first (_ ∷ h) = parts_did first h

pub changes_are : (first : Opening) (h : Journal) → Conducted first h → AreChanges (IsAmong (words_in (port_log h))) normal_overrides (actions_in (all_drives first h))
changes_are first h c =
    subst (λ (xs : List Action). AreChanges (IsAmong (words_in (port_log h))) normal_overrides xs)
    (sym (actions_both (all_cut first h) (driven_since first h ∷ []) ∙ ap (λ (xs : List Action). actions_in (all_cut first h) ++ xs) (append-nil (part_actions h)) ∙ parts_did first h))
    (changed_is first h c).are
