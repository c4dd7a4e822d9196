-- While a jog runs, or is cancelled, the last that was accepted of G-code and jogs is a jog; while lines of G-code run, it is none.
use Rattle.std.proofs.Common.{◌≡◌, ℕ, ◌⊎◌, inl, inr, Bool, true, false, ◌&&◌, ◌||◌, List, [], ◌∷◌, drop, refl, sym, ap, ◌∙◌, subst}
use Rattle.feed_hold.specs.declared.Motion.{Motion}
use Rattle.feed_hold.specs.declared.Motion.TheVariants as motions
use Rattle.feed_hold.specs.Motions.{Call, is_stopping}
use Rattle.feed_hold.specs.Motions.Call.{on_exec, on_start}
use Rattle.feed_hold.proofs.Reaching.{StaysOrReaches, reached}
use Rattle.line_geom.specs.declared.Block.{Block}
use Rattle.planner_runs.specs.declared.Action.{Action}
use Rattle.planner_runs.specs.declared.Action.TheVariants.{Add, Take, Override, Mark, Rest, Clear, Reset}
use Rattle.plan_rules.specs.declared.Mode.TheVariants.{Go, Hold}
use Rattle.step_line.specs.Asking.Asked.{a_move}
use Rattle.step_line.specs.declared.Piece.{Piece}
use Rattle.step_line.specs.declared.planned_move.PlannedMove.{PlannedMove}
use Rattle.board_journal.specs.Openings.{Opening}
use Rattle.run_rules.specs.declared.machine.Machine.{Machine}
use Rattle.run_rules.specs.Work.{Task, Outcome, Kind, asks, asks_move, has_moves}
use Rattle.run_rules.specs.Work.Task.{ask, pause}
use Rattle.run_rules.specs.Outcomes.{jogged_behind}
use Rattle.run_rules.specs.Finding.{Fate, IsJogWork}
use Rattle.run_rules.specs.Finding.{Fate as fates}
use Rattle.board_journal.specs.Ports.PortStep.{answered}
use Rattle.board_journal.specs.Steps.{Journal, plan_of, motion_of, left_of, open_of}
use Rattle.board_journal.specs.Steps.Step.{at_port, began, did, made_end, evened, paused, became, cut, halted, closing, turned}
use Rattle.board_rules.specs.Turns.{has_blocks, has_jogged, waits_to_jog, machine_in, begins_in, is_alarm, is_going}
use Rattle.board_rules.proofs.Locking.{begins_or_locked}
use Rattle.board_rules.specs.Conduct.{Conducted, MayDo, MayHappen, MayOpen}
use Rattle.board_rules.specs.Whole.{comes_to_rest}
use Rattle.board_rules.proofs.Opening.{opens_still}
use Rattle.board_rules.proofs.Beginning.{fate_now}
use Rattle.board_rules.proofs.Dropping.{asks_dropped, asks_behind, moves_dropped, none_moves, none_rests}
use Rattle.board_rules.proofs.Truths.{either_right}

-- ---- what is left of a jog's work

-- it asks for nothing, or for a move that is next, and nothing else
abbrev pub OneMove : List Task → Type 0
OneMove ts = (asks ts ≡ []) ⊎ ((m : PlannedMove) × (ts ≡ ask (a_move m) ∷ drop 1 ts) × (asks (drop 1 ts) ≡ []))

-- one task less: then it asks for none
popped : (ts : List Task) → OneMove ts → OneMove (drop 1 ts)
popped ts (inl none) = inl (asks_behind ts none)
popped ts (inr (m, next, none)) = inl none

jog_work : (ts : List Task) → IsJogWork ts → OneMove ts
jog_work ts (inl none) = inl none
jog_work ts (inr (m, is)) = inr (m, is ∙ ap (λ (us : List Task). ask (a_move m) ∷ drop 1 us) (sym is), ap (λ (us : List Task). asks (drop 1 us)) is)

begun_work : (m : Machine) (kept : List ℕ) (o : Outcome) (was : Bool) → Fate m kept o → jogged_behind o.kind was ≡ true → OneMove o.work
begun_work m kept o was (fates.coded kind other) is = absurd (let e = sym (ap (λ (k : Kind). jogged_behind k was) kind) ∙ is in cc)
begun_work m kept o was (fates.a_jog kind other dollar still work) is = jog_work o.work work
begun_work m kept o was (fates.halted kind other still work) is = inl (ap asks work)
begun_work m kept o was (fates.neither kind still none) is = inl none

on_did_work : (first : Opening) (h : Journal) (a : Action) (ps : List Piece) → MayDo first a h → OneMove (left_of first h) → OneMove (left_of first (did a ps ∷ h))
on_did_work first h (Take mode) ps may one = one
on_did_work first h (Override o) ps may one = one
on_did_work first h Clear ps may one = absurd may
on_did_work first h Reset ps may one = absurd may
on_did_work first h _ ps may one = popped (left_of first h) one

-- behind a jog only its move is left to ask for, if any
pub one_move : (first : Opening) (h : Journal) → Conducted first h → has_jogged h ≡ true → OneMove (left_of first h)
one_move first [] c is = absurd cc
one_move first (at_port (answered r) ∷ h) c is = popped (left_of first h) (one_move first h c.1 is)
one_move first (at_port e ∷ h) c is = one_move first h c.1 is
one_move first (began o ∷ h) c is = begun_work (machine_in (motion_of first h)) (open_of h) o (has_jogged h) (fate_now first h o c.0) is
one_move first (did a ps ∷ h) c is = on_did_work first h a ps c.0.0 (one_move first h c.1 is)
one_move first (became call m ∷ h) c is = one_move first h c.1 is
one_move first (cut k ∷ h) c is = inl (asks_dropped (left_of first h))
one_move first (closing ∷ h) c is = inl refl
one_move first (turned t ∷ h) c is = one_move first h c.1 is
one_move first (_ ∷ h) c is = popped (left_of first h) (one_move first h c.1 is)

-- ---- the motion

-- blocks are queued, or a move is left to ask for
abbrev has_some : Opening → Journal → Bool
has_some first h = has_blocks (plan_of h).blocks || has_moves (left_of first h)

-- what the last that was accepted is, in a state of the motion
abbrev JogRule : Motion → (jogged some : Bool) → Type 0
JogRule motions.Idle jogged some = Unit {0}
JogRule motions.Held jogged some = (jogged && some) ≡ false
JogRule motions.Jog jogged some = jogged ≡ true
JogRule motions.Cancelling jogged some = jogged ≡ true
JogRule motions.Alarm jogged some = Unit {0}
JogRule _ jogged some = jogged ≡ false

abbrev KeepsRule : Opening → Journal → Type 0
KeepsRule first h = JogRule (motion_of first h) (has_jogged h) (has_some first h)

-- less is queued and left
fewer : (m : Motion) (jogged was some : Bool) → (some ≡ true → was ≡ true) → JogRule m jogged was → JogRule m jogged some
fewer motions.Idle jogged was some less rule = tt
fewer motions.Held false was some less rule = refl
fewer motions.Held true was false less rule = refl
fewer motions.Held true was true less rule = sym (less refl) ∙ rule
fewer motions.Alarm jogged was some less rule = tt
fewer _ jogged was some less rule = rule

-- the rule for held machines alone speaks of what is queued
other_motion : (m : Motion) (jogged was some : Bool) → (m ≡ motions.Held → (jogged && some) ≡ false) → JogRule m jogged was → JogRule m jogged some
other_motion motions.Idle jogged was some held rule = tt
other_motion motions.Held jogged was some held rule = held refl
other_motion motions.Alarm jogged was some held rule = tt
other_motion _ jogged was some held rule = rule

tail_some : (blocks : Bool) (ts : List Task) → (blocks || has_moves (drop 1 ts)) ≡ true → (blocks || has_moves ts) ≡ true
tail_some true ts is = refl
tail_some false [] is = is
tail_some false (t ∷ ts) is = either_right (asks_move t) (has_moves ts) is

blocks_alone : (blocks moves : Bool) → (blocks || false) ≡ true → (blocks || moves) ≡ true
blocks_alone true moves is = refl
blocks_alone false moves is = absurd cc

on_tail : (first : Opening) (h : Journal) → KeepsRule first h → JogRule (motion_of first h) (has_jogged h) (has_blocks (plan_of h).blocks || has_moves (drop 1 (left_of first h)))
on_tail first h rule = fewer (motion_of first h) (has_jogged h) (has_some first h) _ (tail_some (has_blocks (plan_of h).blocks) (left_of first h)) rule

-- ---- a line is begun

none_begins : {A : Type 0} (m : Motion) → begins_in m ≡ false → is_alarm m ≡ false → (begins_in m ≡ true) ⊎ (m ≡ motions.Alarm) → A
none_begins m other none (inl begins) = absurd (let e = sym begins ∙ other in cc)
none_begins m other none (inr alarm) = absurd (let e = sym (ap is_alarm alarm) ∙ none in cc)

begun_rule : (m : Motion) (kept : List ℕ) (o : Outcome) (was some now : Bool) → (begins_in m ≡ true) ⊎ (m ≡ motions.Alarm) → Fate (machine_in m) kept o → JogRule m was some → JogRule m (jogged_behind o.kind was) now
begun_rule motions.Idle kept o was some now begins fate rule = tt
begun_rule motions.Run kept o was some now begins (fates.coded kind other) rule = ap (λ (k : Kind). jogged_behind k was) kind
begun_rule motions.Run kept o was some now begins (fates.a_jog kind other dollar still work) rule = absurd (other.0 refl)
begun_rule motions.Run kept o was some now begins (fates.halted kind other still work) rule = ap (λ (k : Kind). jogged_behind k was) kind ∙ rule
begun_rule motions.Run kept o was some now begins (fates.neither kind still none) rule = ap (λ (k : Kind). jogged_behind k was) kind ∙ rule
begun_rule motions.Jog kept o was some now begins (fates.coded kind other) rule = absurd (other.0 refl)
begun_rule motions.Jog kept o was some now begins (fates.a_jog kind other dollar still work) rule = ap (λ (k : Kind). jogged_behind k was) kind
begun_rule motions.Jog kept o was some now begins (fates.halted kind other still work) rule = absurd (other.0 refl)
begun_rule motions.Jog kept o was some now begins (fates.neither kind still none) rule = ap (λ (k : Kind). jogged_behind k was) kind ∙ rule
begun_rule motions.Alarm kept o was some now begins fate rule = tt
begun_rule m kept o was some now begins fate rule = none_begins m refl refl begins

-- ---- something is done to the plan

-- no move is left to ask for in a held machine, behind a jog
none_added : (jogged blocks : Bool) (ts : List Task) (m : PlannedMove) → ts ≡ ask (a_move m) ∷ drop 1 ts → (now : Bool) → (jogged && (blocks || has_moves ts)) ≡ false → (jogged && now) ≡ false
none_added false blocks ts m next now rule = refl
none_added true true ts m next now rule = absurd cc
none_added true false ts m next now rule = absurd (let e = sym (ap has_moves next) ∙ rule in cc)

not_going : (m : Motion) → is_going m ≡ true → m ≡ motions.Held → ⊥
not_going m goes held = absurd (let e = sym (ap is_going held) ∙ goes in cc)

held_rule : (m : Motion) (jogged some : Bool) → m ≡ motions.Held → JogRule m jogged some → (jogged && some) ≡ false
held_rule m jogged some is rule = subst (λ (n : Motion). JogRule n jogged some) is rule

did_rule : (first : Opening) (h : Journal) (a : Action) (ps : List Piece) → MayDo first a h → KeepsRule first h → KeepsRule first (did a ps ∷ h)
did_rule first h (Add m) ps may rule = other_motion (motion_of first h) (has_jogged h) (has_some first h) _
    (λ held. none_added (has_jogged h) (has_blocks (plan_of h).blocks) (left_of first h) m may _ (held_rule (motion_of first h) (has_jogged h) (has_some first h) held rule)) rule
did_rule first h (Mark m) ps may rule = on_tail first h rule
did_rule first h Rest ps may rule = on_tail first h rule
did_rule first h (Take Go) ps may rule = other_motion (motion_of first h) (has_jogged h) (has_some first h) _ (λ held. absurd (not_going (motion_of first h) may.goes held)) rule
did_rule first h (Take Hold) ps may rule = other_motion (motion_of first h) (has_jogged h) (has_some first h) _ (λ held. absurd (let e = sym (ap is_stopping held) ∙ may.slows in cc)) rule
did_rule first h (Override o) ps may rule = rule
did_rule first h Clear ps may rule = absurd may
did_rule first h Reset ps may rule = absurd may

-- ---- something happens to the motion

same_rule : (was now : Motion) (jogged some : Bool) → now ≡ was → JogRule was jogged some → JogRule now jogged some
same_rule was now jogged some is rule = subst (λ (n : Motion). JogRule n jogged some) (sym is) rule

-- blocks are queued, and none is of a jog
no_jog : (jogged blocks moves : Bool) → blocks ≡ true → (jogged && (blocks || moves)) ≡ false → jogged ≡ false
no_jog false blocks moves some rule = refl
no_jog true true moves some rule = absurd cc
no_jog true false moves some rule = absurd cc

idle_waits : (m : Motion) (jogged some : Bool) → m ≡ motions.Idle → waits_to_jog m jogged some ≡ false → (jogged && some) ≡ false
idle_waits m jogged some is none = subst (λ (n : Motion). waits_to_jog n jogged some ≡ false) is none

call_rule : (first : Opening) (h : Journal) (call : Call) (m : Motion) → MayHappen first call h → StaysOrReaches m call (motion_of first h) → KeepsRule first h → JogRule m (has_jogged h) (has_some first h)
call_rule first h call m may (inl same) rule = same_rule (motion_of first h) m (has_jogged h) (has_some first h) same rule
call_rule first h call motions.Idle may (inr how) rule = tt
call_rule first h call motions.Run may (inr (inl (inl was, (word, is, asked, unheld)))) rule =
    let obeys : MayHappen first (on_exec word true) h = subst (λ (x : Call). MayHappen first x h) is may in
    no_jog (has_jogged h) (has_blocks (plan_of h).blocks) (has_moves (left_of first h)) (sym obeys.blocks) (idle_waits (motion_of first h) (has_jogged h) (has_some first h) was obeys.jog)
call_rule first h call motions.Run may (inr (inl (inr was, (word, is, asked, unheld)))) rule =
    let obeys : MayHappen first (on_exec word true) h = subst (λ (x : Call). MayHappen first x h) is may in
    no_jog (has_jogged h) (has_blocks (plan_of h).blocks) (has_moves (left_of first h)) (sym obeys.blocks) (held_rule (motion_of first h) (has_jogged h) (has_some first h) was rule)
call_rule first h call motions.Run may (inr (inr (was, is))) rule =
    let begins : MayHappen first (on_start false) h = subst (λ (x : Call). MayHappen first x h) is may in begins.jogs
call_rule first h call motions.Holding may (inr (was, by)) rule = same_rule (motion_of first h) motions.Run (has_jogged h) (has_some first h) (sym was) rule
call_rule first h call motions.Held may (inr (inl (was, inl (word, queued, is, asked)))) rule =
    let obeys : MayHappen first (on_exec word queued) h = subst (λ (x : Call). MayHappen first x h) is may in idle_waits (motion_of first h) (has_jogged h) (has_some first h) was obeys.jog
call_rule first h call motions.Held may (inr (inl (was, inr is))) rule = absurd (subst (λ (x : Call). MayHappen first x h) is may)
call_rule first h call motions.Held may (inr (inr (was, is))) rule =
    let none : has_jogged h ≡ false = same_rule (motion_of first h) motions.Holding (has_jogged h) (has_some first h) (sym was) rule in ap (λ (j : Bool). j && has_some first h) none
call_rule first h call motions.Jog may (inr (was, is)) rule =
    let begins : MayHappen first (on_start true) h = subst (λ (x : Call). MayHappen first x h) is may in begins.jogs
call_rule first h call motions.Cancelling may (inr (was, by)) rule = same_rule (motion_of first h) motions.Jog (has_jogged h) (has_some first h) (sym was) rule
call_rule first h call motions.Stopping may (inr (was, is)) rule = same_rule (motion_of first h) motions.Run (has_jogged h) (has_some first h) (sym was) rule
call_rule first h call motions.Alarm may (inr how) rule = tt

-- a pause is no jog's
paused_rule : (jogged : Bool) (ts : List Task) (bs : List Block) → (jogged ≡ true → OneMove ts) → ts ≡ pause ∷ drop 1 ts → bs ≡ [] → (jogged && (has_blocks bs || has_moves (drop 1 ts))) ≡ false
paused_rule false ts bs one next none = refl
paused_rule true ts bs one next none = by_work (one refl)
  where
    by_work : OneMove ts → (has_blocks bs || has_moves (drop 1 ts)) ≡ false
    by_work (inl still) = ap (λ (b : Bool). b || has_moves (drop 1 ts)) (ap has_blocks none) ∙ none_moves (drop 1 ts) (asks_behind ts still)
    by_work (inr (m, is, still)) = ap (λ (b : Bool). b || has_moves (drop 1 ts)) (ap has_blocks none) ∙ none_moves (drop 1 ts) still

opens_rule : (first : Opening) → MayOpen first → (m : Motion) → first.motion ≡ m → JogRule m false (has_some first [])
opens_rule first opens motions.Idle is = tt
opens_rule first opens motions.Alarm is = tt
opens_rule first opens m is = opens_still first m opens is refl

pub rule_is : (first : Opening) (h : Journal) → Conducted first h → KeepsRule first h
rule_is first [] c = opens_rule first c first.motion refl
rule_is first (at_port (answered r) ∷ h) c = on_tail first h (rule_is first h c.1)
rule_is first (at_port e ∷ h) c = rule_is first h c.1
rule_is first (began o ∷ h) c = begun_rule (motion_of first h) (open_of h) o (has_jogged h) (has_some first h) _ (begins_or_locked first h o c) (fate_now first h o c.0) (rule_is first h c.1)
rule_is first (did a ps ∷ h) c = did_rule first h a ps c.0.0 (rule_is first h c.1)
rule_is first (made_end ∷ h) c = on_tail first h (rule_is first h c.1)
rule_is first (evened ∷ h) c = on_tail first h (rule_is first h c.1)
rule_is first (paused ∷ h) c = paused_rule (has_jogged h) (left_of first h) (plan_of h).blocks (one_move first h c.1) c.0.rests.next c.0.rests.drained.plan.blocks
rule_is first (became call m ∷ h) c = call_rule first h call m c.0.1 (reached call (motion_of first h) m c.0.0) (rule_is first h c.1)
rule_is first (cut k ∷ h) c = fewer (motion_of first h) (has_jogged h) (has_some first h) _ (λ some. absurd (let e = sym some ∙ moves_dropped (left_of first h) in cc)) (rule_is first h c.1)
rule_is first (halted ∷ h) c = same_rule motions.Alarm (motion_of first h) (has_jogged h) _ c.0.alarm tt
rule_is first (closing ∷ h) c = fewer (motion_of first h) (has_jogged h) (has_some first h) _ (blocks_alone (has_blocks (plan_of h).blocks) (has_moves (left_of first h))) (rule_is first h c.1)
rule_is first (turned t ∷ h) c = rule_is first h c.1

pub run_is_code : (first : Opening) (h : Journal) → Conducted first h → motion_of first h ≡ motions.Run → has_jogged h ≡ false
run_is_code first h c is = same_rule (motion_of first h) motions.Run (has_jogged h) (has_some first h) (sym is) (rule_is first h c)

pub jog_is_last : (first : Opening) (h : Journal) → Conducted first h → motion_of first h ≡ motions.Jog → has_jogged h ≡ true
jog_is_last first h c is = same_rule (motion_of first h) motions.Jog (has_jogged h) (has_some first h) (sym is) (rule_is first h c)

pub cancel_is_jog : (first : Opening) (h : Journal) → Conducted first h → motion_of first h ≡ motions.Cancelling → has_jogged h ≡ true
cancel_is_jog first h c is = same_rule (motion_of first h) motions.Cancelling (has_jogged h) (has_some first h) (sym is) (rule_is first h c)

one_rests : (ts : List Task) → OneMove ts → comes_to_rest ts ≡ false
one_rests ts (inl none) = none_rests ts none
one_rests ts (inr (m, next, none)) = ap comes_to_rest next ∙ none_rests (drop 1 ts) none

-- behind a jog the machine is not waited for
pub jog_rests : (first : Opening) (h : Journal) → Conducted first h → has_jogged h ≡ true → comes_to_rest (left_of first h) ≡ false
jog_rests first h c is = one_rests (left_of first h) (one_move first h c is)
