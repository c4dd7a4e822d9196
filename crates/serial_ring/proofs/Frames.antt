-- What every step of a side has in common: what stays as it is.
use Rattle.std.proofs.Common.{◌≡◌, ℕ, ◌%◌, ◌<◌, ◌≤◌, Bool, true, false, List, ◌∷◌, ◌++◌, length, get_or, set, sym, ◌∙◌, subst, arith}
use Rattle.std.proofs.lemmas.List.{set-get_or, get_or-set_other}
use Rattle.std.specs.declared.option.Option.{Option}
use mathlib.Core.Option.{some}
use lib.ListN.{get_elem?}
use Rattle.atomic_table.specs.Table.{State, Me, Act, stepped, Valid, carried_after}
use Rattle.shared_rings.proofs.Rights as rights
use Rattle.shared_rings.proofs.Placed.{placed_other}
use Rattle.status_report.specs.declared.Reply.{Reply}
use Rattle.serial_ring.specs.declared.view.LinkSight.{LinkSight}
use Rattle.serial_ring.specs.declared.view.LinkStep.{LinkStep}
use Rattle.serial_ring.specs.Marks.{AreMarks}
use Rattle.serial_ring.specs.Lists.{AreAtMost}
use Rattle.serial_ring.specs.Logs.{AnswersWell, taken_in, marked_in, answered_in, taken_at_banners}
use Rattle.serial_ring.specs.Rule.{Kept, Bytes, Marks, Replies, Hosts, Boards, first_cell, all_words, cell_of}
use Rattle.serial_ring.proofs.Bytes.{cell_apart}
use Rattle.serial_ring.proofs.Replies.{Homes}

abbrev pub Hand : Type 0
Hand = List (ℕ × Option Reply)

abbrev pub may_store : LinkSight → Bool
may_store v = v.may_store

abbrev pub may_take : LinkSight → Bool
may_take v = v.may_take

abbrev pub after : List ℕ → Homes → List LinkSight → ℕ → LinkSight → State (Option Reply) LinkSight
after words homes views id w = record { words = words; homes = homes; views = set views id w }

abbrev pub Way : ℕ → State (Option Reply) LinkSight → ℕ → Hand → ℕ → ℕ → (ℕ → Me (Option Reply) LinkSight → Type 0) → Type 0
Way room s id c i n then = (w : LinkSight) × (a : Act (Option Reply)) × Valid s.homes c a × Kept room (stepped s i n id c w a) × then n (w, carried_after c a)

pub loads : (room : ℕ) (s : State (Option Reply) LinkSight) (i : ℕ) (homes : Homes) (id : ℕ) (w : LinkSight) → Kept room (after s.words homes s.views id w) → Kept room (after (set s.words i (get_or s.words i 0)) homes s.views id w)
loads room s i homes id w k = let Q : List ℕ → Type 0 = λ ws. Kept room (after ws homes s.views id w) in subst Q (sym (set-get_or s.words i 0)) k

-- a step of the host
pub host_steps : (room : ℕ) (s : State (Option Reply) LinkSight) (k : Kept room s) (id : ℕ) (v w : LinkSight) (words : List ℕ) (homes : Homes) (stored marks : List ℕ) (closed : Bool) (later seen : List LinkStep) (given : ℕ) (emptying : Bool)
    → get_elem? s.views id ≡ some v → v.may_store ≡ true
    → length words ≡ all_words → Bytes room words stored (taken_in k.log) closed → Marks words stored marks → Replies words homes (answered_in k.log) (answered_in seen) given k.filling emptying
    → k.log ≡ later ++ seen → AreMarks marks (marked_in k.log)
    → Hosts room words stored marks (taken_in k.log) closed seen emptying w → (w.may_take ≡ true → (id ≡ k.board) × Boards stored closed k.log k.filling w)
    → ((u : LinkSight) → Boards k.stored k.closed k.log k.filling u → Boards stored closed k.log k.filling u)
    → Kept room (after words homes s.views id w)
host_steps room s k id v w words homes stored marks closed later seen given emptying at mine wide bytes marked replies parts loads knows also still = record {
  stored = stored;
  marks = marks;
  closed = closed;
  log = k.log;
  later = later;
  seen = seen;
  given = given;
  filling = k.filling;
  emptying = emptying;
  host = k.host;
  board = k.board;
  sized = k.sized;
  wide = wide;
  bytes = bytes;
  marked = marked;
  replies = replies;
  parts = parts;
  loads = loads;
  well = k.well;
  hosting = rights.steps_own may_store s.views k.host _ _ id w k.hosting (k.hosting id v at mine).0 (λ m. knows);
  boarding = rights.steps may_take s.views k.board _ _ id w k.boarding also (λ j u apart is b. still u b);
}

-- a step of the board
pub board_steps : (room : ℕ) (s : State (Option Reply) LinkSight) (k : Kept room s) (id : ℕ) (v w : LinkSight) (words : List ℕ) (homes : Homes) (log later : List LinkStep) (filling : Bool) → get_elem? s.views id ≡ some v → v.may_take ≡ true
    → length words ≡ all_words → Bytes room words k.stored (taken_in log) k.closed → Marks words k.stored k.marks → Replies words homes (answered_in log) (answered_in k.seen) k.given filling k.emptying
    → log ≡ later ++ k.seen → AreMarks k.marks (marked_in log) → AnswersWell log
    → Boards k.stored k.closed log filling w → (w.may_store ≡ true → (id ≡ k.host) × Hosts room words k.stored k.marks (taken_in log) k.closed k.seen k.emptying w)
    → ((u : LinkSight) → Hosts room s.words k.stored k.marks (taken_in k.log) k.closed k.seen k.emptying u → Hosts room words k.stored k.marks (taken_in log) k.closed k.seen k.emptying u)
    → Kept room (after words homes s.views id w)
board_steps room s k id v w words homes log later filling at mine wide bytes marked replies parts loads well knows also still = record {
  stored = k.stored;
  marks = k.marks;
  closed = k.closed;
  log = log;
  later = later;
  seen = k.seen;
  given = k.given;
  filling = filling;
  emptying = k.emptying;
  host = k.host;
  board = k.board;
  sized = k.sized;
  wide = wide;
  bytes = bytes;
  marked = marked;
  replies = replies;
  parts = parts;
  loads = loads;
  well = well;
  hosting = rights.steps may_store s.views k.host _ _ id w k.hosting also (λ j u apart is h. still u h);
  boarding = rights.steps_own may_take s.views k.board _ _ id w k.boarding (k.boarding id v at mine).0 (λ m. knows);
}

-- what one side knows rests on its own part of a view
pub same_board : (stored : List ℕ) (closed : Bool) (log : List LinkStep) (filling : Bool) (v w : LinkSight) → w.log ≡ v.log → w.head ≡ v.head → w.read ≡ v.read → w.over ≡ v.over → w.filling ≡ v.filling
    → Boards stored closed log filling v → Boards stored closed log filling w
same_board stored closed log filling v w p q r o f b = record {
  log_is = p ∙ b.log_is;
  head_is = (let x = b.head_is in omega arith);
  read_is = λ z e. b.read_is z (sym r ∙ e);
  over_is = λ e. b.over_is (sym o ∙ e);
  filling_is = f ∙ b.filling_is;
}

pub same_host : (room : ℕ) (words stored marks taken : List ℕ) (closed : Bool) (seen : List LinkStep) (emptying : Bool) (v w : LinkSight) → w.stored ≡ v.stored → w.marks ≡ v.marks → w.closed ≡ v.closed → w.tail ≡ v.tail → w.cell ≡ v.cell → w.got ≡ v.got → w.greeted ≡ v.greeted → w.moments ≡ v.moments → w.emptying ≡ v.emptying
    → Hosts room words stored marks taken closed seen emptying v → Hosts room words stored marks taken closed seen emptying w
same_host room words stored marks taken closed seen emptying v w p m q r o a g t f h = record {
  stored_are = p ∙ h.stored_are;
  marks_are = m ∙ h.marks_are;
  closed_is = q ∙ h.closed_is;
  tail_is = (let x = h.tail_is in omega arith);
  cell_is = λ z e. h.cell_is z (sym o ∙ e);
  got_are = a ∙ h.got_are;
  greeted_are = g ∙ h.greeted_are;
  in_time = subst (AreAtMost (taken_at_banners seen)) (sym t) h.in_time;
  emptying_is = f ∙ h.emptying_is;
}

-- the host's cell stays where other words change
pub host_words : (room : ℕ) (words stored marks taken later : List ℕ) (closed : Bool) (seen : List LinkStep) (emptying : Bool) (i x : ℕ) (u : LinkSight) → i < first_cell → length taken ≤ length later
    → Hosts room words stored marks taken closed seen emptying u → Hosts room (set words i x) stored marks later closed seen emptying u
host_words room words stored marks taken later closed seen emptying i x u low more h = record {
  stored_are = h.stored_are;
  marks_are = h.marks_are;
  closed_is = h.closed_is;
  tail_is = (let r = h.tail_is in omega arith);
  cell_is = λ z e. let c = h.cell_is z e in (get_or-set_other words i (cell_of room (length stored)) x 0 (cell_apart i (length stored % room) low) ∙ c.0, c.1);
  got_are = h.got_are;
  greeted_are = h.greeted_are;
  in_time = h.in_time;
  emptying_is = h.emptying_is;
}

-- the board, while a byte more is stored
pub board_stored : (stored : List ℕ) (log : List LinkStep) (filling : Bool) (b : ℕ) (u : LinkSight) → Boards stored false log filling u → Boards (b ∷ stored) false log filling u
board_stored stored log filling b u k = record {
  log_is = k.log_is;
  head_is = (let s = k.head_is in omega arith);
  read_is = λ z e. placed_other stored b z (length (taken_in log)) (k.read_is z e);
  over_is = λ e. absurd (let o = (k.over_is e).0 in cc);
  filling_is = k.filling_is;
}

pub board_closed : (stored : List ℕ) (log : List LinkStep) (filling : Bool) (u : LinkSight) → Boards stored false log filling u → Boards stored true log filling u
board_closed stored log filling u k = record {
  log_is = k.log_is;
  head_is = k.head_is;
  read_is = k.read_is;
  over_is = λ e. absurd (let o = (k.over_is e).0 in cc);
  filling_is = k.filling_is;
}
