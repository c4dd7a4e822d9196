-- Whether a record comes next.
use Rattle.std.proofs.Common.{◌≡◌, ◌↔◌, ◌⊎◌, inl, inr, ℕ, zero, suc, ◌+◌, ◌-◌, ◌≤◌, ◌<◌, Bool, true, false, not, cond, nat_eq, List, [], ◌∷◌, ◌++◌, map, append_assoc, refl, sym, ap, ◌∙◌, subst, arith, Some, None}
use Rattle.std.specs.Option.{is_some}
use Rattle.std.specs.declared.option.Option.{Option}
use Rattle.legal_heads.specs.Speeds.{MayCome, MayMark, ComesNext, StaysInMove, BeginsLater, IsOfItsMove, begun_by}
use Rattle.legal_heads.specs.declared.Told.TheVariants as told_as
use Rattle.legal_heads.specs.declared.ToldHead.{ToldHead}
use Rattle.step_line.specs.Counting.{events_of}
use Rattle.step_line.specs.Events.{event_of, events_after, line_events}
use Rattle.step_line.specs.declared.Bits.{Bits}
use Rattle.step_line.specs.declared.Head.{Head}
use Rattle.step_line.specs.declared.Mark.{Mark as AnyMark}
use Rattle.step_line.specs.declared.Record.{Record}
use Rattle.step_line.specs.declared.Record.TheVariants as kinds
use Rattle.step_line.specs.declared.planned_move.PlannedMove.{PlannedMove}
use Rattle.std.proofs.lemmas.Bool.Decides.{nat_tests}
use Rattle.step_line.proofs.Order.{in_parts}
use Rattle.std.proofs.lemmas.List.{map-append}
use Rattle.units.specs.declared.Move.{Move}
use Rattle.run_texts.specs.Fronts.{BeginsWith}
use Rattle.run_texts.specs.Making.{Making, ComesMark}
use Rattle.run_texts.specs.Parts.{is_ending}
use Rattle.part_making.specs.declared.Item.{Item}
use Rattle.part_making.specs.declared.Item.TheVariants as items
use Rattle.part_making.specs.Judging.{MayBeNext, Traced, IsTraced, Known, coming_of, rest_of, head_of, all_ticks, all_moves, owed_of, head_on, first_head, making, Goes, Refuses}

-- ---- events that are left

-- there are as many as that
pub some_events : (mv : Move) (k n : ℕ) → 0 < n → events_after mv k n ≡ event_of mv (k + 1) ∷ events_after mv (k + 1) (n - 1)
some_events mv k zero some = absurd (omega (arith, some))
some_events mv k (suc n) some = let e : n ≡ suc n - 1 = omega arith in ap (λ (m : ℕ). event_of mv (k + 1) ∷ events_after mv (k + 1) m) e

none_of : (mv : Move) (k n : ℕ) → n ≡ 0 → events_after mv k n ≡ []
none_of mv k n e = ap (events_after mv k) e

some_not_none : {A : Type 0} (mv : Move) (k n : ℕ) → 0 < n → events_after mv k n ≡ [] → A
some_not_none mv k n some e =
    let f : event_of mv (k + 1) ∷ events_after mv (k + 1) (n - 1) ≡ [] = sym (some_events mv k n some) ∙ e in absurd cc

some_records_not_none : {A : Type 0} (mv : Move) (k n : ℕ) → 0 < n → map kinds.Event (events_after mv k n) ≡ [] → A
some_records_not_none mv k n some e =
    let f : kinds.Event (event_of mv (k + 1)) ∷ map kinds.Event (events_after mv (k + 1) (n - 1)) ≡ [] = sym (ap (map kinds.Event) (some_events mv k n some)) ∙ e in absurd cc

-- the events of the last head are out exactly if none comes
pub out_tells : (t : Traced) → IsTraced t → (t.out ≡ t.told.head.n) ↔ (coming_of (Some t) ≡ [])
out_tells t is = (
  λ e. none_of t.told.planned.mv (t.told.first + t.out) (t.told.head.n - t.out) (omega (arith, e)),
  λ e. by (t.told.head.n - t.out) refl e,
) where
  by : (left : ℕ) → t.told.head.n - t.out ≡ left → events_after t.told.planned.mv (t.told.first + t.out) left ≡ [] → t.out ≡ t.told.head.n
  by zero l e = let within = is.within in omega (arith, l, within)
  by (suc left) l e = absurd cc

-- and those of its move exactly if none rests
pub done_tells : (t : Traced) → (events_of t.told.planned.mv ≤ t.told.first + t.out) ↔ (rest_of (Some t) ≡ [])
done_tells t = (
  λ e. ap (map kinds.Event) (none_of t.told.planned.mv (t.told.first + t.out) (events_of t.told.planned.mv - (t.told.first + t.out)) (omega (arith, e))),
  λ e. by (events_of t.told.planned.mv - (t.told.first + t.out)) refl e,
) where
  by : (left : ℕ) → events_of t.told.planned.mv - (t.told.first + t.out) ≡ left → map kinds.Event (events_after t.told.planned.mv (t.told.first + t.out) left) ≡ [] → events_of t.told.planned.mv ≤ t.told.first + t.out
  by zero l e = omega (arith, l)
  by (suc left) l e = absurd cc

pub none_owed : (xs ys : List Record) → xs ++ ys ≡ [] → (xs ≡ []) × (ys ≡ [])
none_owed [] ys e = (refl, e)
none_owed (x ∷ xs) ys e = absurd cc

-- ---- an event

event_owed : (t : Traced) (ticks : List Record) → t.out < t.told.head.n → IsTraced t
    → rest_of (Some t) ++ ticks ≡ kinds.Event (event_of t.told.planned.mv (t.told.first + t.out + 1)) ∷ (rest_of (Some (record { told = t.told; out = t.out + 1 })) ++ ticks)
event_owed t ticks less is =
    let within = is.of_move.within in
    let n = events_of t.told.planned.mv in
    let k = t.told.first + t.out in
    let some : 0 < n - k = omega (arith, within, less) in
    let place : k + 1 ≡ t.told.first + (t.out + 1) = omega arith in
    let left : n - k - 1 ≡ n - (t.told.first + (t.out + 1)) = omega arith in
    ap (λ (bs : List Bits). map kinds.Event bs ++ ticks) (some_events t.told.planned.mv k (n - k) some ∙ ap (λ (m : ℕ). event_of t.told.planned.mv (k + 1) ∷ events_after t.told.planned.mv m (n - k - 1)) place
    ∙ ap (λ (m : ℕ). event_of t.told.planned.mv (k + 1) ∷ events_after t.told.planned.mv (t.told.first + (t.out + 1)) m) left)

event_coming : (t : Traced) → t.out < t.told.head.n
    → coming_of (Some t) ≡ event_of t.told.planned.mv (t.told.first + t.out + 1) ∷ coming_of (Some (record { told = t.told; out = t.out + 1 }))
event_coming t less =
    let k = t.told.first + t.out in
    let some : 0 < t.told.head.n - t.out = omega (arith, less) in
    let place : k + 1 ≡ t.told.first + (t.out + 1) = omega arith in
    let left : t.told.head.n - t.out - 1 ≡ t.told.head.n - (t.out + 1) = omega arith in
    some_events t.told.planned.mv k (t.told.head.n - t.out) some ∙ ap (λ (m : ℕ). event_of t.told.planned.mv (k + 1) ∷ events_after t.told.planned.mv m (t.told.head.n - t.out - 1)) place
    ∙ ap (λ (m : ℕ). event_of t.told.planned.mv (k + 1) ∷ events_after t.told.planned.mv (t.told.first + (t.out + 1)) m) left

-- the next event of the last head
pub event_goes : (t : Traced) (next : Option Item) (b : Bits) → IsTraced t → t.out < t.told.head.n → b ≡ event_of t.told.planned.mv (t.told.first + t.out + 1)
    → Goes (record { latest = Some t; next = next }) (kinds.Event b) (record { latest = Some (record { told = t.told; out = t.out + 1 }); next = next })
event_goes t next b is less e ticks moves = record {
  owed = event_owed t (all_ticks next ++ ticks) less is ∙ ap (λ (c : Bits). kinds.Event c ∷ (rest_of (Some (record { told = t.told; out = t.out + 1 })) ++ (all_ticks next ++ ticks))) (sym e);
  coming = event_coming t less ∙ ap (λ (c : Bits). c ∷ coming_of (Some (record { told = t.told; out = t.out + 1 }))) (sym e);
  latest = refl;
  left = refl;
}

pub event_refused : (t : Traced) (next : Option Item) (b : Bits) → t.out < t.told.head.n → (b ≡ event_of t.told.planned.mv (t.told.first + t.out + 1) → ⊥)
    → Refuses (record { latest = Some t; next = next }) (kinds.Event b)
event_refused t next b less other ticks moves n comes =
    let both : event_of t.told.planned.mv (t.told.first + t.out + 1) ∷ coming_of (Some (record { told = t.told; out = t.out + 1 })) ≡ b ∷ n.coming = sym (event_coming t less) ∙ comes.coming in
    let same : event_of t.told.planned.mv (t.told.first + t.out + 1) ≡ b = cc in
    other (sym same)

pub no_event_comes : (k : Known) (b : Bits) → coming_of k.latest ≡ [] → Refuses k (kinds.Event b)
no_event_comes k b none ticks moves n comes = let e : [] ≡ b ∷ n.coming = sym none ∙ comes.coming in cc

-- ---- a mark

pub mark_goes : (k : Known) (mark : AnyMark) → is_ending (kinds.Mark mark) ≡ false → rest_of k.latest ≡ [] → coming_of k.latest ≡ [] → k.next ≡ Some (items.Mark mark) → MayMark (head_of k.latest) mark
    → Goes k (kinds.Mark mark) (record { latest = None; next = None })
mark_goes k mark inside none out next may ticks moves = record {
  inside = inside;
  owed = ap (λ (rs : List Record). rs ++ (all_ticks k.next ++ ticks)) none ∙ ap (λ (o : Option Item). all_ticks o ++ ticks) next;
  out = out;
  may = may;
  coming = refl;
  latest = refl;
  left = sym (ap (λ (o : Option Item). all_moves o ++ moves) next);
}

-- behind events that rest no mark comes
pub mark_behind_rest : (k : Known) (mark : AnyMark) → (rest_of k.latest ≡ [] → ⊥) → Refuses k (kinds.Mark mark)
mark_behind_rest k mark rest ticks moves n comes = by k.latest rest comes.owed where
  by : (latest : Option Traced) → (rest_of latest ≡ [] → ⊥) → rest_of latest ++ (all_ticks k.next ++ ticks) ≡ kinds.Mark mark ∷ n.owed → ⊥
  by None rest e = rest refl
  by (Some t) rest e = by_left (events_of t.told.planned.mv - (t.told.first + t.out)) rest e where
    by_left : (left : ℕ) → (map kinds.Event (events_after t.told.planned.mv (t.told.first + t.out) left) ≡ [] → ⊥)
        → map kinds.Event (events_after t.told.planned.mv (t.told.first + t.out) left) ++ (all_ticks k.next ++ ticks) ≡ kinds.Mark mark ∷ n.owed → ⊥
    by_left zero rest e = rest refl
    by_left (suc left) rest e = cc

mark_next : (k : Known) (mark : AnyMark) (ticks : List Record) (moves : List PlannedMove) (n : Making) → rest_of k.latest ≡ [] → ComesMark (making k ticks moves) mark n → all_ticks k.next ++ ticks ≡ kinds.Mark mark ∷ n.owed
mark_next k mark ticks moves n none comes = sym (ap (λ (rs : List Record). rs ++ (all_ticks k.next ++ ticks)) none) ∙ comes.owed

-- another item waits
pub other_item : (k : Known) (mark : AnyMark) → MayBeNext k.next → rest_of k.latest ≡ [] → (owed_of k ≡ [] → ⊥) → (k.next ≡ Some (items.Mark mark) → ⊥) → Refuses k (kinds.Mark mark)
other_item k mark is none owes other ticks moves n comes = by k.next is refl (mark_next k mark ticks moves n none comes) where
  by : (next : Option Item) → MayBeNext next → k.next ≡ next → all_ticks next ++ ticks ≡ kinds.Mark mark ∷ n.owed → ⊥
  by None is e f = owes (ap (λ (rs : List Record). rs ++ all_ticks k.next) none ∙ ap all_ticks e)
  by (Some (items.Move m)) is e f =
      let first : kinds.Event (event_of m.mv (0 + 1)) ∷ (map kinds.Event (events_after m.mv (0 + 1) (events_of m.mv - 1)) ++ ticks) ≡ kinds.Mark mark ∷ n.owed =
      sym (ap (λ (bs : List Bits). map kinds.Event bs ++ ticks) (some_events m.mv 0 (events_of m.mv) is.moves)) ∙ f in cc
  by (Some (items.Mark own)) is e f = let same : own ≡ mark = cc in other (e ∙ ap (λ (x : AnyMark). Some (items.Mark x)) same)

pub mark_too_fast : (k : Known) (mark : AnyMark) → (MayMark (head_of k.latest) mark → ⊥) → Refuses k (kinds.Mark mark)
mark_too_fast k mark fast ticks moves n comes = fast comes.may

-- ---- a head

-- if no events of its move rest, none of the head's come
pub none_comes : (latest : Option Traced) → ((t : Traced) → latest ≡ Some t → IsTraced t) → rest_of latest ≡ [] → coming_of latest ≡ []
none_comes None is none = refl
none_comes (Some t) is none =
    let traced = is t refl in
    let done = (done_tells t).1 none in
    let within = traced.within in
    let events = traced.of_move.within in
    (out_tells t traced).0 (omega (arith, done, within, events))

-- n events of a move come before those that are left
front_due : (mv : Move) (k n left : ℕ) (more : List Record) → n ≤ left → BeginsWith (map kinds.Event (events_after mv k left) ++ more) (map kinds.Event (events_after mv k n))
front_due mv k n left more within =
    let sum : left ≡ n + (left - n) = omega (arith, within) in
    record {
      rest = map kinds.Event (events_after mv (k + n) (left - n)) ++ more;
      is =
          ap (λ (m : ℕ). map kinds.Event (events_after mv k m) ++ more) sum
          ∙ ap (λ (bs : List Bits). map kinds.Event bs ++ more) (in_parts mv k n (left - n))
          ∙ ap (λ (rs : List Record). rs ++ more) (map-append kinds.Event (events_after mv k n) (events_after mv (k + n) (left - n)))
          ∙ append_assoc (map kinds.Event (events_after mv k n)) (map kinds.Event (events_after mv (k + n) (left - n))) more;
    }

abbrev begun : ToldHead → Traced
begun told = record { told = told; out = 0 }

begun_coming : (told : ToldHead) → coming_of (Some (begun told)) ≡ events_after told.planned.mv told.first told.head.n
begun_coming told =
    let place : told.first + 0 ≡ told.first = omega arith in
    let all : told.head.n - 0 ≡ told.head.n = omega arith in
    ap (λ (k : ℕ). events_after told.planned.mv k (told.head.n - 0)) place ∙ ap (events_after told.planned.mv told.first) all

begun_rest : (told : ToldHead) → rest_of (Some (begun told)) ≡ map kinds.Event (events_after told.planned.mv told.first (events_of told.planned.mv - told.first))
begun_rest told =
    let place : told.first + 0 ≡ told.first = omega arith in
    ap (λ (k : ℕ). map kinds.Event (events_after told.planned.mv k (events_of told.planned.mv - k))) place

same_head : (h k : ToldHead) → h.head ≡ k.head → h.planned ≡ k.planned → h.first ≡ k.first → h ≡ k
same_head h k head planned first =
    ap (λ x. record h { head = x }) head ∙ ap (λ x. record h { head = k.head; planned = x }) planned ∙ ap (λ x. record k { first = x }) first

pub head_amid_events : (k : Known) (head : Head) → (coming_of k.latest ≡ [] → ⊥) → Refuses k (kinds.Head head)
head_amid_events k head amid ticks moves n comes = amid comes.2.out

-- one that goes on with the move of the last one
pub head_goes_on : (t : Traced) (next : Option Item) (head : Head) → IsTraced t → t.out ≡ t.told.head.n → IsOfItsMove (head_on t head) → ComesNext (Some t.told) (told_as.Head (head_on t head))
    → Goes (record { latest = Some t; next = next }) (kinds.Head head) (record { latest = Some (begun (head_on t head)); next = next })
head_goes_on t next head is out of_move may ticks moves = (
  head_on t head,
  refl,
  record {
    out = (out_tells t is).0 out;
    is = of_move;
    may = may;
    left = sym (ap (λ (b : Bool). cond b (t.told.planned ∷ []) [] ++ (all_moves next ++ moves)) later);
    coming = begun_coming (head_on t head);
    latest = refl;
    owed = ap (λ (rs : List Record). rs ++ (all_ticks next ++ ticks)) (begun_rest (head_on t head) ∙ sym rests);
    due = subst (λ (rs : List Record). BeginsWith (rs ++ (all_ticks next ++ ticks)) (map kinds.Event (events_after t.told.planned.mv (t.told.first + t.told.head.n) head.n))) (sym rests)
        (front_due t.told.planned.mv (t.told.first + t.told.head.n) head.n (events_of t.told.planned.mv - (t.told.first + t.told.head.n)) (all_ticks next ++ ticks) within);
  },
) where
  within : head.n ≤ events_of t.told.planned.mv - (t.told.first + t.told.head.n)
  within = omega (arith, of_move.within)

  later : nat_eq (t.told.first + t.told.head.n) 0 ≡ false
  later = let some = is.of_move.some in grind (arith, nat_tests)

  rests : rest_of (Some t) ≡ map kinds.Event (events_after t.told.planned.mv (t.told.first + t.told.head.n) (events_of t.told.planned.mv - (t.told.first + t.told.head.n)))
  rests = ap (λ (o : ℕ). map kinds.Event (events_after t.told.planned.mv (t.told.first + o) (events_of t.told.planned.mv - (t.told.first + o)))) out

pub head_on_refused : (t : Traced) (next : Option Item) (head : Head) → IsTraced t → (rest_of (Some t) ≡ [] → ⊥) → (IsOfItsMove (head_on t head) → ComesNext (Some t.told) (told_as.Head (head_on t head)) → ⊥)
    → Refuses (record { latest = Some t; next = next }) (kinds.Head head)
head_on_refused t next head is rest not ticks moves n comes = by comes.2.may.0.move where
  h : ToldHead
  h = comes.0

  by : StaysInMove t.told h ⊎ BeginsLater t.told h → ⊥
  by (inl stays) =
      let same : h ≡ head_on t head = same_head h (head_on t head) comes.1 stays.planned stays.first in
      not (subst IsOfItsMove same comes.2.is) (subst (λ (k : ToldHead). ComesNext (Some t.told) (told_as.Head k)) same comes.2.may)
  by (inr later) =
      let done = later.done in
      let out = (out_tells t is).1 comes.2.out in
      rest ((done_tells t).0 (omega (arith, done, out)))

-- one that begins the next move
pub head_begins : (k : Known) (m : PlannedMove) (head : Head) → rest_of k.latest ≡ [] → coming_of k.latest ≡ [] → k.next ≡ Some (items.Move m) → IsOfItsMove (first_head m head)
    → ComesNext (head_of k.latest) (told_as.Head (first_head m head)) → Goes k (kinds.Head head) (record { latest = Some (begun (first_head m head)); next = None })
head_begins k m head none out next of_move may ticks moves = (
  first_head m head,
  refl,
  record {
    out = out;
    is = of_move;
    may = may;
    left = ap (λ (o : Option Item). all_moves o ++ moves) next;
    coming = begun_coming (first_head m head);
    latest = refl;
    owed = ap (λ (rs : List Record). rs ++ ticks) (begun_rest (first_head m head) ∙ whole) ∙ sym before;
    due = subst (λ (rs : List Record). BeginsWith rs (map kinds.Event (events_after m.mv 0 head.n))) (sym before) (front_due m.mv 0 head.n (events_of m.mv) ticks (omega (arith, of_move.within)));
  },
) where
  before : rest_of k.latest ++ (all_ticks k.next ++ ticks) ≡ map kinds.Event (line_events m.mv) ++ ticks
  before = ap (λ (rs : List Record). rs ++ (all_ticks k.next ++ ticks)) none ∙ ap (λ (o : Option Item). all_ticks o ++ ticks) next

  whole : map kinds.Event (events_after m.mv 0 (events_of m.mv - 0)) ≡ map kinds.Event (line_events m.mv)
  whole = let e : events_of m.mv - 0 ≡ events_of m.mv = omega arith in ap (λ (n : ℕ). map kinds.Event (events_after m.mv 0 n)) e

-- behind a move that is done, and at the beginning of a stretch, a head begins a move
begins_one : (latest : Option Traced) (h : ToldHead) → ((t : Traced) → latest ≡ Some t → IsTraced t) → rest_of latest ≡ [] → IsOfItsMove h → MayCome (head_of latest) h → h.first ≡ 0
begins_one None h is none of_move may = may.0
begins_one (Some t) h is none of_move may = by may.move where
  by : StaysInMove t.told h ⊎ BeginsLater t.told h → h.first ≡ 0
  by (inl stays) =
      let within = (is t refl).within in
      let done = (done_tells t).1 none in
      let room = of_move.within in
      let some = of_move.some in
      let first = stays.first in
      let same : events_of h.planned.mv ≡ events_of t.told.planned.mv = ap (λ (m : PlannedMove). events_of m.mv) stays.planned in
      absurd (omega (arith, within, done, room, some, first, same))
  by (inr later) = later.first

begun_here : (h : ToldHead) → h.first ≡ 0 → begun_by (told_as.Head h) ≡ h.planned ∷ []
begun_here h e = ap (λ (k : ℕ). cond (nat_eq k 0) (h.planned ∷ []) []) e

pub first_head_refused : (k : Known) (m : PlannedMove) (head : Head) → ((t : Traced) → k.latest ≡ Some t → IsTraced t) → rest_of k.latest ≡ [] → k.next ≡ Some (items.Move m)
    → (IsOfItsMove (first_head m head) → ComesNext (head_of k.latest) (told_as.Head (first_head m head)) → ⊥) → Refuses k (kinds.Head head)
first_head_refused k m head is none next not ticks moves n comes =
    let h : ToldHead = comes.0 in
    let first = begins_one k.latest h is none comes.2.is comes.2.may.0 in
    let left : m ∷ moves ≡ h.planned ∷ n.left = sym (ap (λ (o : Option Item). all_moves o ++ moves) next) ∙ comes.2.left ∙ ap (λ (ms : List PlannedMove). ms ++ n.left) (begun_here h first) in
    let planned : h.planned ≡ m = (let e : m ≡ h.planned = cc in sym e) in
    let same : h ≡ first_head m head = same_head h (first_head m head) comes.1 planned first in
    not (subst IsOfItsMove same comes.2.is) (subst (λ (x : ToldHead). ComesNext (head_of k.latest) (told_as.Head x)) same comes.2.may)

-- before a mark no head comes
pub no_move_begins : (k : Known) (head : Head) → rest_of k.latest ≡ [] → (owed_of k ≡ [] → ⊥) → ((m : PlannedMove) → k.next ≡ Some (items.Move m) → ⊥) → Refuses k (kinds.Head head)
no_move_begins k head none owes other ticks moves n comes = by k.next refl where
  h : ToldHead
  h = comes.0

  due : all_ticks k.next ++ ticks ≡ map kinds.Event (events_after h.planned.mv h.first h.head.n) ++ comes.2.due.rest
  due = sym (ap (λ (rs : List Record). rs ++ (all_ticks k.next ++ ticks)) none) ∙ comes.2.due.is

  by : (next : Option Item) → k.next ≡ next → ⊥
  by None e = owes (ap (λ (rs : List Record). rs ++ all_ticks k.next) none ∙ ap all_ticks e)
  by (Some (items.Move m)) e = other m e
  by (Some (items.Mark mark)) e =
      let some : 0 < h.head.n = omega (arith, comes.2.is.some) in
      let both : kinds.Mark mark ∷ ticks ≡ kinds.Event (event_of h.planned.mv (h.first + 1)) ∷ (map kinds.Event (events_after h.planned.mv (h.first + 1) (h.head.n - 1)) ++ comes.2.due.rest) =
      sym (ap (λ (o : Option Item). all_ticks o ++ ticks) e) ∙ due ∙ ap (λ (bs : List Bits). map kinds.Event bs ++ comes.2.due.rest) (some_events h.planned.mv h.first h.head.n some) in
      cc

pub no_end_comes : (k : Known) → Refuses k kinds.End
no_end_comes k ticks moves n comes = comes

pub still_coming : (t : Traced) → IsTraced t → (t.out ≡ t.told.head.n → ⊥) → t.out < t.told.head.n
still_coming t is other = let within = is.within in grind (arith, other)

pub not_true : {A : Type 0} (b : Bool) → b ≡ false → b ≡ true → A
not_true b e f = absurd (let g : true ≡ false = sym f ∙ e in cc)

pub next_tells : (next : Option Item) → MayBeNext next → all_ticks next ≡ [] → next ≡ None
next_tells None is e = refl
next_tells (Some (items.Move m)) is e = some_records_not_none m.mv 0 (events_of m.mv) is.moves e
next_tells (Some (items.Mark mark)) is e = absurd cc

pub no_rest : (xs : List Record) → ((xs ≡ [] → ⊥) → ⊥) → xs ≡ []
no_rest [] e = refl
no_rest (x ∷ xs) e = absurd (e (λ f. cc))

pub none_waits : (next : Option Item) (b : Bool) → is_some next ≡ not b → b ≡ true → next ≡ None
none_waits None b e f = refl
none_waits (Some item) b e f = absurd (let g : true ≡ not true = e ∙ ap not f in cc)

pub is_none : (next : Option Item) (b : Bool) → is_some next ≡ not b → next ≡ None → b ≡ true
is_none None true e f = refl
is_none None false e f = absurd cc
is_none (Some item) b e f = absurd cc
