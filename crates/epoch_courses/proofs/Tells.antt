-- What there is to do of a line tells its replies last, one behind the other.
use Rattle.std.proofs.Common.{◌≡◌, ℕ, Bool, true, false, List, [], ◌∷◌, ◌++◌, drop, refl, ap, ◌∙◌, subst, append_assoc}
use Rattle.gcode_check.specs.Items.{item_if, items_of, spindle_items, coolant_items, dwell_items, move_items, moves_through, flow_items, spindle_changes, coolant_changes, speed_of, dwell_time, rate_of}
use Rattle.gcode_check.specs.Effects.{ends_program, stops}
use Rattle.gcode_check.specs.Verdicts.{verdict}
use Rattle.gcode_check.specs.declared.Accept.{Accept as Accepted}
use Rattle.gcode_check.specs.declared.Item.{Item}
use Rattle.gcode_check.specs.declared.Item.TheVariants as items
use Rattle.gcode_check.specs.declared.Verdict.TheVariants.{Accept}
use Rattle.gcode_check.proofs.Causes.{is_accepted}
use Rattle.code_table.specs.Tables.{code}
use Rattle.gcode_words.specs.declared.Word.{Word}
use Rattle.line_words.specs.Codes.{has_g, has_m}
use Rattle.line_words.specs.LineModes.{spindle_of, flood_of}
use Rattle.modal_state.specs.declared.Parser.{Parser}
use Rattle.modal_state.specs.declared.SpindleMode.{SpindleMode}
use Rattle.modal_state.specs.declared.SpindleMode.TheVariants.{Off, Cw, Ccw}
use Rattle.settings.specs.declared.Settings.{Settings}
use Rattle.status_report.specs.declared.Reply.{Reply}
use Rattle.status_report.specs.declared.Reply.TheVariants as replies
use Rattle.step_line.specs.Asking.{Asked}
use Rattle.units.specs.declared.Rate.{Rate}
use Rattle.units.specs.declared.Steps3.{Steps3}
use Rattle.run_rules.specs.Asks.{work_of, item_work, move_asked, planned, spindle_after, flood_after}
use Rattle.run_rules.specs.Outcomes.{Before, Becomes, executed}
use Rattle.run_rules.specs.Work.{Task, Outcome, asking, telling}
use Rattle.run_rules.specs.Work.Task.{tell}
use Rattle.run_rules.proofs.Each.{holds_by_cause}
use Rattle.board_rules.specs.Conduct.{MayBegin}
use Rattle.board_journal.specs.Openings.{Opening}
use Rattle.board_journal.specs.Steps.{Journal, open_of, without_asks}
use Rattle.board_rules.specs.Turns.{tells_next}
use Rattle.board_rules.proofs.Beginning.{caused, of_begun}

-- ---- tasks

-- nothing but replies is left
abbrev pub tells_alone : List Task → Bool
tells_alone [] = true
tells_alone (tell r ∷ ts) = tells_alone ts
tells_alone _ = false

-- behind a reply nothing else comes
abbrev pub tells_last : List Task → Bool
tells_last [] = true
tells_last (tell r ∷ ts) = tells_alone ts
tells_last (_ ∷ ts) = tells_last ts

pub alone_last : (ts : List Task) → tells_alone ts ≡ true → tells_last ts ≡ true
alone_last [] is = refl
alone_last (tell r ∷ ts) is = is
alone_last (_ ∷ ts) is = absurd cc

pub alone_told : (rs : List Reply) → tells_alone (telling rs) ≡ true
alone_told [] = refl
alone_told (r ∷ rs) = alone_told rs

pub alone_tail : (ts : List Task) → tells_alone ts ≡ true → tells_alone (drop 1 ts) ≡ true
alone_tail [] is = refl
alone_tail (tell r ∷ ts) is = is
alone_tail (_ ∷ ts) is = absurd cc

pub alone_kept : (ts : List Task) → tells_alone ts ≡ true → tells_alone (without_asks ts) ≡ true
alone_kept [] is = refl
alone_kept (tell r ∷ ts) is = alone_kept ts is
alone_kept (_ ∷ ts) is = absurd cc

pub last_tail : (ts : List Task) → tells_last ts ≡ true → tells_last (drop 1 ts) ≡ true
last_tail [] is = refl
last_tail (tell r ∷ ts) is = alone_last ts is
last_tail (_ ∷ ts) is = is

pub last_kept : (ts : List Task) → tells_last ts ≡ true → tells_last (without_asks ts) ≡ true
last_kept [] is = refl
last_kept (tell r ∷ ts) is = alone_kept ts is
last_kept (_ ∷ ts) is = last_kept ts is

-- where no reply is next, and nothing else is left, nothing is
pub none_left : (ts : List Task) → tells_alone ts ≡ true → tells_next ts ≡ false → ts ≡ []
none_left [] is none = refl
none_left (tell r ∷ ts) is none = absurd cc
none_left (_ ∷ ts) is none = absurd cc

-- ---- the work of a line

pub last_asking : (asked : List Asked) (ts : List Task) → tells_last (asking asked ++ ts) ≡ tells_last ts
last_asking [] ts = refl
last_asking (a ∷ asked) ts = last_asking asked ts

-- the end of a program comes last
abbrev IsNoEnd : Item → Type 0
IsNoEnd items.ProgramEnd = ⊥
IsNoEnd item = Unit {0}

abbrev ends_last : List Item → Bool
ends_last [] = true
ends_last (items.ProgramEnd ∷ []) = true
ends_last (items.ProgramEnd ∷ item ∷ more) = false
ends_last (_ ∷ more) = ends_last more

ended_work : (line : ℕ) (s : Settings) (spindle : SpindleMode) (flood : Bool) (ts : List Task) → tells_alone ts ≡ true → tells_last (item_work line s spindle flood items.ProgramEnd ++ ts) ≡ true
ended_work line s Off true ts is = is
ended_work line s Off false ts is = is
ended_work line s Cw true ts is = is
ended_work line s Cw false ts is = is
ended_work line s Ccw true ts is = is
ended_work line s Ccw false ts is = is

-- before any other item's work replies come last where they do behind it
behind_item : (line : ℕ) (s : Settings) (spindle : SpindleMode) (flood : Bool) (item : Item) (ts : List Task) → ends_last (item ∷ []) ≡ true → IsNoEnd item → tells_last ts ≡ true → tells_last (item_work line s spindle flood item ++ ts) ≡ true
behind_item line s spindle flood (items.Spindle mode speed) ts one none is = is
behind_item line s spindle flood (items.Coolant on) ts one none is = is
behind_item line s spindle flood (items.Dwell ms) ts one none is = is
behind_item line s spindle flood (items.Move mv rate) ts one none is = last_asking (move_asked (planned line s mv rate)) ts ∙ is
behind_item line s spindle flood items.Pause ts one none is = is
behind_item line s spindle flood items.ProgramEnd ts one none is = absurd none

parted : (line : ℕ) (s : Settings) (spindle : SpindleMode) (flood : Bool) (item : Item) (more : List Item) (ts : List Task)
    → tells_last (item_work line s spindle flood item ++ (work_of line s (spindle_after spindle item) (flood_after flood item) more ++ ts)) ≡ true → tells_last (work_of line s spindle flood (item ∷ more) ++ ts) ≡ true
parted line s spindle flood item more ts is =
    ap tells_last (append_assoc (item_work line s spindle flood item) (work_of line s (spindle_after spindle item) (flood_after flood item) more) ts) ∙ is

work_last : (line : ℕ) (s : Settings) (spindle : SpindleMode) (flood : Bool) (all : List Item) (ts : List Task) → tells_alone ts ≡ true → ends_last all ≡ true → tells_last (work_of line s spindle flood all ++ ts) ≡ true
work_last line s spindle flood [] ts alone is = alone_last ts alone
work_last line s spindle flood (items.ProgramEnd ∷ []) ts alone is = parted line s spindle flood items.ProgramEnd [] ts (ended_work line s spindle flood ts alone)
work_last line s spindle flood (items.ProgramEnd ∷ item ∷ more) ts alone is = absurd cc
work_last line s spindle flood (item ∷ more) ts alone is =
    parted line s spindle flood item more ts (behind_item line s spindle flood item (work_of line s (spindle_after spindle item) (flood_after flood item) more ++ ts) refl tt (work_last line s (spindle_after spindle item) (flood_after flood item) more ts alone is))

-- ---- the items of a line

-- no program ends
abbrev no_ends : List Item → Bool
no_ends [] = true
no_ends (items.ProgramEnd ∷ more) = false
no_ends (_ ∷ more) = no_ends more

none_on : (xs ys : List Item) → no_ends xs ≡ true → no_ends ys ≡ true → no_ends (xs ++ ys) ≡ true
none_on [] ys none more = more
none_on (items.ProgramEnd ∷ xs) ys none more = absurd cc
none_on (_ ∷ xs) ys none more = none_on xs ys none more

last_on : (xs ys : List Item) → no_ends xs ≡ true → ends_last ys ≡ true → ends_last (xs ++ ys) ≡ true
last_on [] ys none is = is
last_on (items.ProgramEnd ∷ xs) ys none is = absurd cc
last_on (_ ∷ xs) ys none is = last_on xs ys none is

none_if : (holds : Bool) (item : Item) → IsNoEnd item → no_ends (item_if holds item) ≡ true
none_if false item none = refl
none_if true items.ProgramEnd none = absurd none
none_if true _ none = refl

no_moves_end : (from : Steps3) (places : List Steps3) (rate : Rate) → no_ends (moves_through from places rate) ≡ true
no_moves_end from [] rate = refl
no_moves_end from (to ∷ places) rate = no_moves_end to places rate

end_if : (holds : Bool) → ends_last (item_if holds items.ProgramEnd) ≡ true
end_if true = refl
end_if false = refl

none_before : (p : Parser) (ws : List Word) (places : List Steps3) → no_ends (spindle_items p ws ++ coolant_items p ws ++ dwell_items ws ++ move_items p ws places) ≡ true
none_before p ws places =
    let spindle = none_if (spindle_changes p ws) (items.Spindle (spindle_of p ws) (speed_of p ws)) tt in
    let coolant = none_if (coolant_changes p ws) (items.Coolant (flood_of p ws)) tt in
    let dwell = none_if (has_g (code 4 0) ws) (items.Dwell (dwell_time ws)) tt in
    let moves = no_moves_end p.pos_steps places (rate_of p ws) in
    none_on (spindle_items p ws ++ coolant_items p ws ++ dwell_items ws) (move_items p ws places)
    (none_on (spindle_items p ws ++ coolant_items p ws) (dwell_items ws) (none_on (spindle_items p ws) (coolant_items p ws) spindle coolant) dwell) moves

flow_last : (ws : List Word) → ends_last (flow_items ws) ≡ true
flow_last ws = last_on (item_if (has_m (code 0 0) ws) items.Pause) (item_if (ends_program ws) items.ProgramEnd) (none_if (has_m (code 0 0) ws) items.Pause tt) (end_if (ends_program ws))

items_last : (p : Parser) (ws : List Word) (places : List Steps3) → ends_last (items_of p ws places) ≡ true
unfolding items_of
items_last p ws places = last_on (spindle_items p ws ++ coolant_items p ws ++ dwell_items ws ++ move_items p ws places) (flow_items ws) (none_before p ws places) (flow_last ws)

-- ---- what becomes of a line

executed_last : (b : Before) (ws : List Word) (a : Accepted) → verdict b.state.parser b.state.settings ws ≡ Accept a → tells_last (executed b a).work ≡ true
executed_last b ws a is =
    let modal = b.state.parser.modal in
    let same = (is_accepted b.state.parser b.state.settings ws a is).2 in
    work_last b.number b.state.settings modal.spindle modal.flood a.items.items (tell replies.Ok ∷ []) refl
    (subst (λ (x : Accepted). ends_last x.items.items ≡ true) same (items_last b.state.parser ws (stops b.state.parser b.state.settings ws)))

told_last : (rs : List Reply) → tells_last (telling rs) ≡ true
told_last rs = alone_last (telling rs) (alone_told rs)

becomes_last : (runs : Bool) (b : Before) (kept : List ℕ) (o : Outcome) → Becomes runs b kept o → tells_last o.work ≡ true
becomes_last runs b kept o is = holds_by_cause runs b kept (λ (x : Outcome). tells_last x.work ≡ true) (record {
  refuses = λ n other. refl;
  busy = λ cause. refl;
  locked = λ cause. refl;
  tells = λ next body same list. told_last (body ++ replies.Ok ∷ []);
  executes = executed_last b;
  jogs = λ ws jog e. last_asking (move_asked (planned b.number b.state.settings jog.mv jog.rate)) (tell replies.Ok ∷ []);
  limits = λ beyond. refl;
}) o is

pub begun_last : (first : Opening) (h : Journal) (o : Outcome) → MayBegin first o h → tells_last o.work ≡ true
begun_last first h o may = of_begun first h o (λ (x : Outcome). tells_last x.work ≡ true) may refl (becomes_last true (caused first h) (open_of h))
