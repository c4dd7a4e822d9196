-- What there is to do of the items of an accepted line, walked once: what each task passes on, all of them do.
use Rattle.std.proofs.Common.{◌≡◌, ℕ, ◌==◌, Bool, true, false, List, [], ◌∷◌, ◌++◌, refl, sym, subst, append_assoc}
use Rattle.settings.specs.declared.Settings.{Settings}
use Rattle.modal_state.specs.declared.SpindleMode.{SpindleMode}
use Rattle.modal_state.specs.declared.SpindleMode.TheVariants.{Off, Cw, Ccw}
use Rattle.gcode_check.specs.declared.Item.{Item}
use Rattle.gcode_check.specs.declared.Item.TheVariants as items
use Rattle.status_report.specs.declared.Message.TheVariants as messages
use Rattle.status_report.specs.declared.Reply.{Reply}
use Rattle.status_report.specs.declared.Reply.TheVariants as replies
use Rattle.step_line.specs.Counting.{events_of}
use Rattle.step_line.specs.Asking.{Asked}
use Rattle.step_line.specs.Asking.Asked.{a_move, a_mark, a_rest}
use Rattle.step_line.specs.declared.Mark.TheVariants as marks
use Rattle.step_line.specs.declared.planned_move.PlannedMove.{PlannedMove}
use Rattle.run_rules.specs.Asks.{spindle_mark, item_work, work_of, move_asked, planned, spindle_after, flood_after}
use Rattle.run_rules.specs.Outcomes.{Before, Becomes}
use Rattle.run_rules.specs.Work.{Task, Outcome, asking, telling, halting_work}
use Rattle.run_rules.specs.Work.Task.{ask, tell, pause, normal}
use Rattle.run_rules.proofs.Each.{HoldsOfEach, holds_of_each}

-- an item asks for no cut, and for no reset
abbrev pub IsOfItem : Asked → Type 0
IsOfItem (a_mark (marks.Cut n)) = ⊥
IsOfItem (a_mark (marks.Reset n)) = ⊥
IsOfItem a = Unit {0}

-- something that holds of tasks holds of one more
pub record PassesTasks (Q : List Task → Type 0) : Type 1 where
  pub asks : (a : Asked) (ts : List Task) → IsOfItem a → Q ts → Q (ask a ∷ ts)
  pub pauses : (ts : List Task) → Q ts → Q (pause ∷ ts)
  pub normals : (ts : List Task) → Q ts → Q (normal ∷ ts)
  pub ends : (ts : List Task) → Q ts → Q (tell (replies.Message messages.ProgramEnd) ∷ ts)

of_spindle : (mode : SpindleMode) (speed : ℕ) → IsOfItem (a_mark (spindle_mark mode speed))
of_spindle Off speed = tt
of_spindle _ speed = tt

module _ (Q : List Task → Type 0) (each : PassesTasks Q) where
  -- a mark at rest
  one_mark : (a : Asked) (ts : List Task) → IsOfItem a → Q ts → Q (ask a_rest ∷ ask a ∷ ask a_rest ∷ ts)
  one_mark a ts is q = each.asks a_rest _ tt (each.asks a _ is (each.asks a_rest ts tt q))

  -- a move, or none
  pub holds_of_move : (m : PlannedMove) (ts : List Task) → Q ts → Q (asking (move_asked m) ++ ts)
  holds_of_move m ts q = by_events (events_of m.mv == 0) refl
    where
      by_events : (b : Bool) → (events_of m.mv == 0) ≡ b → Q (asking (move_asked m) ++ ts)
      by_events true is = rw is q
      by_events false is = rw is (each.asks (a_move m) ts tt q)

  holds_of_item : (line : ℕ) (s : Settings) (spindle : SpindleMode) (flood : Bool) (item : Item) (ts : List Task) → Q ts → Q (item_work line s spindle flood item ++ ts)
  holds_of_item line s spindle flood (items.Spindle mode speed) ts q = one_mark (a_mark (spindle_mark mode speed)) ts (of_spindle mode speed) q
  holds_of_item line s spindle flood (items.Coolant on) ts q = one_mark (a_mark (marks.Coolant on)) ts tt q
  holds_of_item line s spindle flood (items.Dwell ms) ts q = one_mark (a_mark (marks.Dwell ms)) ts tt q
  holds_of_item line s spindle flood (items.Move mv rate) ts q = holds_of_move (planned line s mv rate) ts q
  holds_of_item line s spindle flood items.Pause ts q = each.asks a_rest _ tt (each.pauses _ (each.asks a_rest ts tt q))
  holds_of_item line s Off true items.ProgramEnd ts q = one_mark _ _ tt (each.normals _ (each.ends ts q))
  holds_of_item line s Off false items.ProgramEnd ts q = each.asks a_rest _ tt (each.asks a_rest _ tt (each.normals _ (each.ends ts q)))
  holds_of_item line s Cw true items.ProgramEnd ts q = each.asks a_rest _ tt (each.asks _ _ tt (each.asks _ _ tt (each.asks a_rest _ tt (each.normals _ (each.ends ts q)))))
  holds_of_item line s Cw false items.ProgramEnd ts q = one_mark _ _ tt (each.normals _ (each.ends ts q))
  holds_of_item line s Ccw true items.ProgramEnd ts q = each.asks a_rest _ tt (each.asks _ _ tt (each.asks _ _ tt (each.asks a_rest _ tt (each.normals _ (each.ends ts q)))))
  holds_of_item line s Ccw false items.ProgramEnd ts q = one_mark _ _ tt (each.normals _ (each.ends ts q))

  pub holds_of_work : (line : ℕ) (s : Settings) (spindle : SpindleMode) (flood : Bool) (all : List Item) (ts : List Task) → Q ts → Q (work_of line s spindle flood all ++ ts)
  holds_of_work line s spindle flood [] ts q = q
  holds_of_work line s spindle flood (item ∷ more) ts q =
      let later = work_of line s (spindle_after spindle item) (flood_after flood item) more in
      subst Q (sym (append_assoc (item_work line s spindle flood item) later ts))
      (holds_of_item line s spindle flood item (later ++ ts) (holds_of_work line s (spindle_after spindle item) (flood_after flood item) more ts q))

-- ---- of lines, where any reply passes it on

holds_of_telling : (Q : List Task → Type 0) → ((r : Reply) (ts : List Task) → Q ts → Q (tell r ∷ ts)) → Q (tell replies.Ok ∷ []) → (rs : List Reply) → Q (telling (rs ++ replies.Ok ∷ []))
holds_of_telling Q tells one [] = one
holds_of_telling Q tells one (r ∷ rs) = tells r (telling (rs ++ replies.Ok ∷ [])) (holds_of_telling Q tells one rs)

pub holds_of_lines : (Q : List Task → Type 0) → PassesTasks Q → ((r : Reply) (ts : List Task) → Q ts → Q (tell r ∷ ts)) → ((n : ℕ) → Q (tell (replies.Error n) ∷ [])) → Q (tell replies.Ok ∷ [])
    → Q halting_work → (runs : Bool) (b : Before) (kept : List ℕ) (o : Outcome) → Becomes runs b kept o → Q o.work
holds_of_lines Q each tells refuses one halts runs b kept o is =
    let modal = b.state.parser.modal in
    let all : HoldsOfEach b (λ (o : Outcome). Q o.work) = record {
      refuses = refuses;
      tells = λ next body kind. holds_of_telling Q tells one body;
      executes = λ a. holds_of_work Q each b.number b.state.settings modal.spindle modal.flood a.items.items (tell replies.Ok ∷ []) one;
      jogs = λ jog. holds_of_move Q each (planned b.number b.state.settings jog.mv jog.rate) (tell replies.Ok ∷ []) one;
      limits = halts;
    } in
    holds_of_each runs b (λ (o : Outcome). Q o.work) all kept o is
