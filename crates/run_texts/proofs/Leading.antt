-- The events of a run lead the machine to where its parser stands.
use Rattle.std.proofs.Common.{◌≡◌, ℕ, ◌+◌, ◌⊎◌, inl, inr, List, [], ◌∷◌, ◌++◌, map, true, false, Bool, ◌||◌, sym, refl, ap, ◌∙◌, subst, append-nil, append_assoc, arith}
use Rattle.std.specs.List.{list_any}
use Rattle.std.proofs.lemmas.Grind.{flat_map-append}
use Rattle.units.specs.declared.Steps3.{Steps3}
use Rattle.flight.specs.Places.{moved_by, origin}
use Rattle.flight.proofs.Places.{moved_on, goes_by}
use Rattle.modal_state.specs.declared.Parser.{Parser}
use Rattle.status_report.specs.declared.Reply.{Reply}
use Rattle.step_line.specs.Asking.{Asked, move_of, moves_of, ticks_of_all, ticks_among}
use Rattle.step_line.specs.Asking.Asked.{a_move, a_mark, a_rest}
use Rattle.step_line.specs.Counting.{events_of}
use Rattle.step_line.specs.Events.{line_events}
use Rattle.step_line.specs.Places.{place_after, stepped}
use Rattle.step_line.specs.declared.Record.{Record}
use Rattle.step_line.specs.declared.Record.TheVariants as kinds
use Rattle.step_line.specs.declared.planned_move.PlannedMove.{PlannedMove}
use Rattle.step_line.proofs.Sums.{at_start, at_end}
use Rattle.run_rules.specs.Reports.{raises_alarm}
use Rattle.run_rules.specs.Told.{asked_in}
use Rattle.run_rules.specs.Work.{Outcome, asks, is_limit}
use Rattle.run_texts.specs.Courses.{Passed, Follows, behind_cut, behind_the_reset}
use Rattle.run_texts.specs.Courses.Passed.{a_line, a_broken, a_cut, a_reset}
use Rattle.run_texts.specs.Fits.{FitsTexts}
use Rattle.run_texts.specs.Left.{behind_lines}
use Rattle.run_texts.specs.Parts.{Part, parts_of, onto_first, begun_first, ending_record}
use Rattle.run_texts.specs.Parts.Ending.{by_cut, by_reset, by_end}
use Rattle.run_texts.specs.Places.{MovesJoin, PartsJoin, moves_for, position}
use Rattle.run_texts.specs.Points.{Point, BecomesAt, behind_line, behind_broken, opening}
use Rattle.run_texts.specs.Recorded.{AreRecorded, ticks_for_all}
use Rattle.run_texts.specs.Sent.{Sent, behind_reset}
use Rattle.run_texts.specs.Sent.Sent.{a_text, a_stop}
use Rattle.run_texts.proofs.Events.{whole_ticks}
use Rattle.run_texts.proofs.Joining.{join_on, line_leads}

-- ---- where ticks lead

pub heads_stay : (rs : List Record) (p : Steps3) → moved_by p (ticks_among rs) ≡ moved_by p rs
heads_stay [] p = refl
heads_stay (kinds.Event b ∷ rs) p = heads_stay rs (stepped p b)
heads_stay (_ ∷ rs) p = heads_stay rs p

move_leads : (m : PlannedMove) → moved_by m.mv.from (map kinds.Event (line_events m.mv)) ≡ m.mv.to
move_leads m =
    let same : 0 + events_of m.mv ≡ events_of m.mv = omega arith in
    goes_by m.mv.from m.mv 0 (events_of m.mv) (sym (at_start m.mv)) ∙ ap (place_after m.mv) same ∙ at_end m.mv

pub asked_leads : (asked : List Asked) (from to : Steps3) → MovesJoin from (moves_of asked) to → moved_by from (ticks_of_all asked) ≡ to
asked_leads [] from to joins = joins
asked_leads (a_move m ∷ asked) from to joins =
    moved_on from (map kinds.Event (line_events m.mv)) (ticks_of_all asked)
    ∙ ap (λ (p : Steps3). moved_by p (ticks_of_all asked)) (ap (λ (p : Steps3). moved_by p (map kinds.Event (line_events m.mv))) (sym joins.0) ∙ move_leads m)
    ∙ asked_leads asked m.mv.to to joins.1
asked_leads (a_mark m ∷ asked) from to joins = asked_leads asked from to joins
asked_leads (a_rest ∷ asked) from to joins = asked_leads asked from to joins

pub moves_on : (xs ys : List Outcome) → moves_for (xs ++ ys) ≡ moves_for xs ++ moves_for ys
moves_on xs ys = ap moves_of (flat_map-append (λ (o : Outcome). asks o.work) xs ys) ∙ flat_map-append move_of (asked_in xs) (asked_in ys)

pub one_line : (o : Outcome) → moves_for (o ∷ []) ≡ moves_of (asks o.work)
one_line o = ap moves_of (append-nil (asks o.work))

-- ---- courses

pub onto_none : (ps : List Part) → behind_lines [] [] ps ≡ ps
onto_none [] = refl
onto_none (p ∷ ps) = refl

pub onto_more : (since begun : List Outcome) (o : Outcome) (ps : List Part) → behind_lines since begun (onto_first o ps) ≡ behind_lines (since ++ o ∷ []) begun ps
onto_more since begun o [] = refl
onto_more since begun o (p ∷ ps) = ap (λ (lines : List Outcome). record p { lines = lines; begun = begun ++ p.begun } ∷ ps) (sym (append_assoc since (o ∷ []) p.lines))

pub onto_begun : (since begun : List Outcome) (o : Outcome) (ps : List Part) → behind_lines since begun (begun_first o ps) ≡ behind_lines since (begun ++ o ∷ []) ps
onto_begun since begun o [] = refl
onto_begun since begun o (p ∷ ps) = ap (λ (lines : List Outcome). record p { lines = since ++ p.lines; begun = lines } ∷ ps) (sym (append_assoc begun (o ∷ []) p.begun))

free_before : (p last : Point) (sent : List Sent) (ps : List Passed) → Follows p sent ps last → last.before.alarmed ≡ false → p.before.alarmed ≡ false
free_before p last sent [] f free = sym (ap (λ (x : Point). x.before.alarmed) f.0) ∙ free
free_before p last sent (a_cut k at ∷ ps) f free = f.0.free
free_before p last sent (a_reset r ∷ ps) f free = f.0.free
free_before p last [] (a_line o ∷ ps) f free = absurd f
free_before p last (a_stop ∷ sent) (a_line o ∷ ps) f free = absurd f
free_before p last (a_text line ∷ sent) (a_line o ∷ ps) f free = f.0.free
free_before p last [] (a_broken o ∷ ps) f free = absurd f
free_before p last (a_stop ∷ sent) (a_broken o ∷ ps) f free = absurd f
free_before p last (a_text line ∷ sent) (a_broken o ∷ ps) f free = f.0.free

or_none : (a b c : Bool) → (a || b) ≡ false → c ≡ false → (a || c) ≡ false
or_none true b c e f = e
or_none false b c e f = f

or_false : (a : Bool) → a ≡ false → (a || false) ≡ false
or_false true e = e
or_false false e = e

or_left : (a b : Bool) → (a || b) ≡ false → b ≡ false
or_left true b e = absurd cc
or_left false b e = e

no_alarm_on : (since : List Outcome) (o : Outcome) → list_any raises_alarm since ≡ false → is_limit o.answer ≡ false → list_any raises_alarm (since ++ o ∷ []) ≡ false
no_alarm_on [] o none one = or_none (raises_alarm o) false false (or_false (raises_alarm o) one) refl
no_alarm_on (x ∷ since) o none one =
    or_none (raises_alarm x) (list_any raises_alarm since) (list_any raises_alarm (since ++ o ∷ [])) none
    (no_alarm_on since o (or_left (raises_alarm x) (list_any raises_alarm since) none) one)

-- the moves of some lines join, and those of one more
joins_on : (p : Point) (line : List ℕ) (o : Outcome) (since : List Outcome) (from : Steps3) → BecomesAt true p line o → MovesJoin from (moves_for since) (position p)
    → MovesJoin from (moves_for (since ++ o ∷ [])) (position (behind_line p line o))
joins_on p line o since from is joins =
    let to = position (behind_line p line o) in
    subst (λ (ms : List PlannedMove). MovesJoin from ms to) (sym (moves_on since (o ∷ []) ∙ ap (λ (ms : List PlannedMove). moves_for since ++ ms) (one_line o)))
    (join_on from (position p) to (moves_for since) (moves_of (asks o.work)) joins (line_leads true p line o is))

-- nothing is begun and not answered, or the point says so
abbrev IsOpen : Point → List Outcome → Type 0
IsOpen p begun = (begun ≡ []) ⊎ (p.unanswered ≡ true)

none_begun : (p : Point) (begun : List Outcome) → IsOpen p begun → p.unanswered ≡ false → begun ≡ []
none_begun p begun (inl e) answered = e
none_begun p begun (inr e) answered = absurd (let f = sym answered ∙ e in cc)

idle_begun : (p : Point) (begun : List Outcome) (q : Point) → IsOpen p begun → p.unanswered ≡ false → IsOpen q begun
idle_begun p begun q open_ answered = inl (none_begun p begun open_ answered)

ends_at : (p last : Point) (sent : List Sent) (ps : List Passed) (since begun : List Outcome) (place : Steps3) (rs : List Record) → Follows p sent ps last → last.before.alarmed ≡ false
    → list_any raises_alarm since ≡ false → IsOpen p begun → MovesJoin place (moves_for since) (position p) → AreRecorded place (behind_lines since begun (parts_of ps)) rs → moved_by place rs ≡ position last
ends_at p last sent [] since begun place rs f free none open_ joins all =
    let mine = all.0 in
    let lines : since ++ [] ≡ since = append-nil since in
    let all_lines : (since ++ []) ++ (begun ++ []) ≡ since =
    ap (λ (os : List Outcome). (since ++ []) ++ (os ++ [])) (none_begun p begun open_ f.1.answered) ∙ append-nil (since ++ []) ∙ lines in
    let ticks : ticks_among mine ≡ ticks_for_all ((since ++ []) ++ (begun ++ [])) =
    whole_ticks (record { lines = since ++ []; begun = begun ++ []; ending = by_end }) by_end (ticks_among mine) refl (ap (list_any raises_alarm) lines ∙ none) all.3.ticks in
    ap (moved_by place) (all.2 ∙ ap (λ (xs : List Record). mine ++ kinds.End ∷ xs) all.4)
    ∙ moved_on place mine (kinds.End ∷ [])
    ∙ sym (heads_stay mine place)
    ∙ ap (moved_by place) (ticks ∙ ap ticks_for_all all_lines)
    ∙ asked_leads (asked_in since) place (position p) joins
    ∙ sym (ap position f.0)
ends_at p last sent (a_cut k at ∷ ps) since begun place rs f free none open_ joins all =
    let mine = all.0 in
    let there = moved_by place mine in
    ap (moved_by place) all.2
    ∙ moved_on place mine (ending_record (by_cut k at) ∷ all.1)
    ∙ ends_at (behind_cut at p) last sent ps [] [] there all.1 f.1 free refl (inl refl) (sym all.3.stands) (subst (λ (qs : List Part). AreRecorded there qs all.1) (sym (onto_none (parts_of ps))) all.4)
ends_at p last sent (a_reset r ∷ ps) since begun place rs f free none open_ joins all =
    let mine = all.0 in
    let there = moved_by place mine in
    ap (moved_by place) all.2
    ∙ moved_on place mine (ending_record (by_reset r) ∷ all.1)
    ∙ ends_at (behind_the_reset r p) last (behind_reset sent) ps [] [] there all.1 f.1 free refl (inl refl) (sym all.3.stands) (subst (λ (qs : List Part). AreRecorded there qs all.1) (sym (onto_none (parts_of ps))) all.4)
ends_at p last [] (a_line o ∷ ps) since begun place rs f free none open_ joins all = absurd f
ends_at p last (a_stop ∷ sent) (a_line o ∷ ps) since begun place rs f free none open_ joins all = absurd f
ends_at p last (a_text line ∷ sent) (a_line o ∷ ps) since begun place rs f free none open_ joins all =
    let q = behind_line p line o in
    ends_at q last sent ps (since ++ o ∷ []) begun place rs f.1 free (no_alarm_on since o none (free_before q last sent ps f.1 free)) (idle_begun p begun q open_ f.0.answered)
    (joins_on p line o since place f.0.becomes joins)
    (subst (λ (qs : List Part). AreRecorded place qs rs) (onto_more since begun o (parts_of ps)) all)
ends_at p last [] (a_broken o ∷ ps) since begun place rs f free none open_ joins all = absurd f
ends_at p last (a_stop ∷ sent) (a_broken o ∷ ps) since begun place rs f free none open_ joins all = absurd f
ends_at p last (a_text line ∷ sent) (a_broken o ∷ ps) since begun place rs f free none open_ joins all =
    ends_at (behind_broken p o) last sent ps since (begun ++ o ∷ []) place rs f.1 free none (inr refl) joins
    (subst (λ (qs : List Part). AreRecorded place qs rs) (onto_begun since begun o (parts_of ps)) all)

-- the machine ends where the parser stands
pub machine_ends : (sent : List Sent) (cancels : ℕ) (replies : List Reply) (records : List Record) (f : FitsTexts sent cancels replies records) → f.last.before.alarmed ≡ false → moved_by origin records ≡ position f.last
machine_ends sent cancels replies records f free =
    ends_at (opening f.first) f.last sent f.course [] [] origin records f.follows free refl (inl refl) (sym (ap (λ (x : Parser). x.pos_steps) f.opens.parser)) (subst (λ (qs : List Part). AreRecorded origin qs records) (sym (onto_none (parts_of f.course))) f.recorded)

-- the moves of parts join
parts_join : (p last : Point) (sent : List Sent) (ps : List Passed) (since begun : List Outcome) (from : Steps3) → Follows p sent ps last
    → MovesJoin from (moves_for since) (position p) → PartsJoin from (behind_lines since begun (parts_of ps))
parts_join p last sent [] since begun from f joins = (position p, subst (λ (lines : List Outcome). MovesJoin from (moves_for lines) (position p)) (sym (append-nil since)) joins, tt)
parts_join p last sent (a_cut k at ∷ ps) since begun from f joins = (
  position p,
  subst (λ (lines : List Outcome). MovesJoin from (moves_for lines) (position p)) (sym (append-nil since)) joins,
  subst (PartsJoin at) (onto_none (parts_of ps)) (parts_join (behind_cut at p) last sent ps [] [] at f.1 refl),
)
parts_join p last sent (a_reset r ∷ ps) since begun from f joins = (
  position p,
  subst (λ (lines : List Outcome). MovesJoin from (moves_for lines) (position p)) (sym (append-nil since)) joins,
  subst (PartsJoin r.at) (onto_none (parts_of ps)) (parts_join (behind_the_reset r p) last (behind_reset sent) ps [] [] r.at f.1 refl),
)
parts_join p last [] (a_line o ∷ ps) since begun from f joins = absurd f
parts_join p last (a_stop ∷ sent) (a_line o ∷ ps) since begun from f joins = absurd f
parts_join p last (a_text line ∷ sent) (a_line o ∷ ps) since begun from f joins =
    let q = behind_line p line o in
    subst (PartsJoin from) (sym (onto_more since begun o (parts_of ps)))
    (parts_join q last sent ps (since ++ o ∷ []) begun from f.1 (joins_on p line o since from f.0.becomes joins))
parts_join p last [] (a_broken o ∷ ps) since begun from f joins = absurd f
parts_join p last (a_stop ∷ sent) (a_broken o ∷ ps) since begun from f joins = absurd f
parts_join p last (a_text line ∷ sent) (a_broken o ∷ ps) since begun from f joins =
    subst (PartsJoin from) (sym (onto_begun since begun o (parts_of ps))) (parts_join (behind_broken p o) last sent ps since (begun ++ o ∷ []) from f.1 joins)

pub all_join : (p last : Point) (sent : List Sent) (ps : List Passed) → Follows p sent ps last → PartsJoin (position p) (parts_of ps)
all_join p last sent ps f = subst (PartsJoin (position p)) (onto_none (parts_of ps)) (parts_join p last sent ps [] [] (position p) f refl)
