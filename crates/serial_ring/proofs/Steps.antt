-- The beginning of a link, its split into two ends and their join keep the rule.
use Rattle.std.proofs.Common.{◌≡◌, ℕ, ◌≤◌, true, false, List, [], ◌++◌, length, replicate, set, None, sym, refl, ap, ◌∙◌, subst, ⊎_elim, arith, length-append}
use Rattle.std.specs.declared.option.Option.{Option}
use mathlib.Core.Option.{none, some}
use lib.ListN.{get_elem?}
use Rattle.atomic_table.specs.Table.{step, Allows, Splits, Joins, opening}
use Rattle.atomic_table.specs.Table.Act.{keeps}
use Rattle.atomic_table.proofs.Lists.{at_set}
use Rattle.shared_rings.proofs.Rights as rights
use Rattle.shared_rings.proofs.Placed.{placed_below}
use Rattle.shared_rings.proofs.Shelf as shelves
use Rattle.status_report.specs.declared.Reply.{Reply}
use Rattle.serial_ring.specs.declared.view.LinkSight.{LinkSight}
use Rattle.serial_ring.specs.declared.view.LinkStep.{LinkStep}
use Rattle.serial_ring.specs.Marks.{Mark, AreMarks, AreRising, latest}
use Rattle.serial_ring.specs.Lists.{IsRoom}
use Rattle.serial_ring.specs.Logs.{AnswersWell, taken_in, marked_in, answered_in, greeted_in, taken_at_banners}
use Rattle.serial_ring.specs.Rule.{Kept, head_word, beginning, without_taking, without_storing, both_of, spent, tied}
use Rattle.serial_ring.proofs.Logs.{counts, greeted_on, moments_on}
use Rattle.serial_ring.proofs.Frames.{Hand, may_store, may_take, loads, host_steps, same_board, same_host}

pub ties : (room slots id : ℕ) (v : LinkSight) (c : Hand) → v.may_store ≡ true → v.may_take ≡ true → Allows (Kept room) slots id (v, c) head_word (λ n. n) (tied room (step slots head_word 0 0 none) (v, c))
ties room slots id v c storing taking s k size at small =
    let h = k.hosting id v at storing in
    let b = k.boarding id v at taking in
    let r = k.replies.held in
    let seen = greeted_on k.later k.seen in
    let moments = moments_on k.later k.seen in
    let x = k.replies.shelf.few in
    let y = ap length k.replies.fifo ∙ length-append k.replies.rest (answered_in k.seen) in (
      v,
      keeps,
      tt,
      loads room s head_word s.homes id v (host_steps room s k id v v s.words s.homes k.stored k.marks k.closed k.later k.seen k.given k.emptying at storing k.wide k.bytes k.marked k.replies k.parts k.loads h.1 (λ m. b) (λ u z. z)),
      (
        refl,
        record {
          unread = k.bytes.rest;
          bytes = h.1.stored_are ∙ (k.bytes.fifo ∙ ap (λ (z : List LinkStep). k.bytes.rest ++ taken_in z) (sym b.1.log_is));
          few_bytes = k.bytes.few;
          closes = λ e. h.1.closed_is ∙ (b.1.over_is e).0;
          all_bytes = λ e. h.1.stored_are ∙ ((b.1.over_is e).1 ∙ ap taken_in (sym b.1.log_is));
          untaken = k.replies.rest;
          replies = ap answered_in b.1.log_is ∙ (k.replies.fifo ∙ ap (λ (z : List Reply). k.replies.rest ++ z) (sym h.1.got_are));
          few_replies = (let back = k.replies.shelf.back in omega arith);
          within = subst (λ (z : List ℕ × List ℕ). latest z.0 ≤ length z.1) (λ i. (sym h.1.marks_are i, sym h.1.stored_are i)) k.marked.within;
          rising = subst AreRising (sym h.1.marks_are) k.marked.rising;
          loads = subst (λ (z : List ℕ × List LinkStep). AreMarks z.0 (marked_in z.1)) (λ i. (sym h.1.marks_are i, sym b.1.log_is i)) k.loads;
          ungreeted = seen.0;
          banners = ap greeted_in (b.1.log_is ∙ k.parts) ∙ (seen.1 ∙ ap (λ (z : List Mark). seen.0 ++ z) (sym h.1.greeted_are));
          later = moments.0;
          of_got = taken_at_banners k.seen;
          taken_then = ap taken_at_banners (b.1.log_is ∙ k.parts) ∙ moments.1;
          in_time = h.1.in_time;
          well = subst AnswersWell (sym b.1.log_is) k.well;
          fewer = (counts v.log (subst AnswersWell (sym b.1.log_is) k.well)).fewer;
        },
      ),
    )

abbrev no_reply : Option Reply
no_reply = None

pub starts : (room : ℕ) → IsRoom room → Kept room (opening (replicate 368 0) (replicate 16 no_reply) beginning)
starts room sized = record {
  stored = [];
  marks = [];
  closed = false;
  log = [];
  later = [];
  seen = [];
  given = 0;
  filling = false;
  emptying = false;
  host = 0;
  board = 0;
  sized = sized;
  wide = refl;
  bytes = record { rest = []; fifo = refl; few = omega arith; short = omega arith; head = refl; tail = refl; small = λ k x there. absurd (let b = placed_below [] k x there in omega arith); cells = λ k x there le. absurd (let b = placed_below [] k x there in omega arith) };
  marked = record { within = omega arith; rising = tt; few = omega arith; word = refl };
  replies = record { rest = []; fifo = refl; texts = tt; shelf = shelves.empty 16 (omega arith); held = refl; short = omega arith; head = refl; tail = refl };
  parts = refl;
  loads = tt;
  well = tt;
  hosting = rights.starts may_store _ beginning (record { stored_are = refl; marks_are = refl; closed_is = refl; tail_is = omega arith; cell_is = λ z e. absurd cc; got_are = refl; greeted_are = refl; in_time = tt; emptying_is = refl });
  boarding = rights.starts may_take _ beginning (record { log_is = refl; head_is = omega arith; read_is = λ z e. absurd cc; over_is = λ e. absurd cc; filling_is = refl });
}

pub splits : (room id : ℕ) (v : LinkSight) → v.may_store ≡ true → v.may_take ≡ true → Splits (Kept room) id v (without_taking v) (without_storing v)
splits room id v storing taking s k at =
    let h = k.hosting id v at storing in
    let b = k.boarding id v at taking in record {
      stored = k.stored;
      marks = k.marks;
      closed = k.closed;
      log = k.log;
      later = k.later;
      seen = k.seen;
      given = k.given;
      filling = k.filling;
      emptying = k.emptying;
      host = k.host;
      board = length (set s.views id (without_taking v));
      sized = k.sized;
      wide = k.wide;
      bytes = k.bytes;
      marked = k.marked;
      replies = k.replies;
      parts = k.parts;
      loads = k.loads;
      well = k.well;
      hosting = rights.splits_left may_store s.views k.host _ id (without_taking v) (without_storing v) k.hosting h.0
          (same_host room s.words k.stored k.marks (taken_in k.log) k.closed k.seen k.emptying v (without_taking v) refl refl refl refl refl refl refl refl refl h.1) refl;
      boarding = rights.splits_right may_take s.views k.board _ id (without_taking v) (without_storing v) k.boarding b.0 refl
          (same_board k.stored k.closed k.log k.filling v (without_storing v) refl refl refl refl refl b.1);
    }

pub joins : (room id other : ℕ) (v w : LinkSight) → v.may_store ≡ true → w.may_take ≡ true → Joins (Kept room) id v other w (both_of v w) spent
joins room id other v w storing taking s k at apart at_other =
    let was : get_elem? s.views other ≡ some w = ⊎_elim (λ a. absurd (apart a.0)) (λ a. a.1) (at_set s.views id other (both_of v w) w at_other) in
    let h = k.hosting id v at storing in
    let b = k.boarding other w was taking in record {
      stored = k.stored;
      marks = k.marks;
      closed = k.closed;
      log = k.log;
      later = k.later;
      seen = k.seen;
      given = k.given;
      filling = k.filling;
      emptying = k.emptying;
      host = k.host;
      board = id;
      sized = k.sized;
      wide = k.wide;
      bytes = k.bytes;
      marked = k.marked;
      replies = k.replies;
      parts = k.parts;
      loads = k.loads;
      well = k.well;
      hosting = rights.joins_left may_store s.views k.host _ id other (both_of v w) spent k.hosting h.0
          (same_host room s.words k.stored k.marks (taken_in k.log) k.closed k.seen k.emptying v (both_of v w) refl refl refl refl refl refl refl refl refl h.1) refl;
      boarding = rights.joins_right may_take s.views k.board _ id other (both_of v w) spent k.boarding b.0
          (same_board k.stored k.closed k.log k.filling w (both_of v w) refl refl refl refl refl b.1) refl;
    }
