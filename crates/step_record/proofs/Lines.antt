-- A record that is read is one that was written, and back.
use Rattle.std.specs.Prelude.{codes, decimal}
use Rattle.std.proofs.Common.{◌≡◌, ℕ, ◌^◌, ◌<◌, Bool, true, false, cond, ◌&&◌, List, [], ◌∷◌, ◌++◌, Option, Some, None, refl, sym, ap, subst, ◌∙◌, append_assoc, nat_lt}
use Rattle.std.proofs.lemmas.Bool.{ltb-true, lt-ltb}
use Rattle.std.proofs.lemmas.Option.{cond_some, some_pair_parts}
use Rattle.step_line.specs.declared.Head.{Head}
use Rattle.step_line.specs.declared.Mark.{Mark}
use Rattle.step_line.specs.declared.Mark.TheVariants.{Dwell, Spindle, Coolant, Cut, Reset}
use Rattle.step_line.specs.declared.SpindleCode.{SpindleCode}
use Rattle.step_line.specs.declared.SpindleCode.TheVariants.{M3, M4, M5}
use Rattle.step_line.specs.declared.Record.{Record}
use Rattle.step_line.specs.declared.Record.TheVariants as kinds
use Rattle.step_line.specs.Records.{IsHead, IsMark, IsRecord}
use Rattle.step_record.specs.Texts.{head_text, mark_text, record_text}
use Rattle.step_record.specs.Reading.{Read, ◌>>=◌, ◌or◌, behind_name, number_at, short_number_at, head_at, event_at, axis_at, dwell_at, turn_at, plain_at, cut_at, reset_at, mark_at, as_record, end_at, record_at}
use Rattle.step_record.proofs.Fields.{bound, after_takes, number_takes, number_again, short_takes, short_again}
use Rattle.step_record.proofs.Events.{event_takes, event_again}

-- ---- heads

abbrev counted : Head → List ℕ → Read Head
counted h rest = cond (nat_lt 0 h.line && nat_lt 0 h.n) (Some (h, rest)) None

both : (a b : Bool) → (a && b) ≡ true → (a ≡ true) × (b ≡ true)
both true true e = (refl, refl)
both true false e = absurd cc
both false b e = absurd cc

head_joined : (h : Head) (text t1 t2 t3 t4 rest : List ℕ) → text ≡ codes "s " ++ t1 → t1 ≡ decimal h.line ++ 32 ∷ t2 → t2 ≡ decimal h.n ++ 32 ∷ t3
    → t3 ≡ decimal h.w ++ 32 ∷ t4 → t4 ≡ decimal h.cycles ++ 10 ∷ rest → text ≡ head_text h ++ rest
unfolding head_text
head_joined h text t1 t2 t3 t4 rest name line n w cycles = rw (name, line, n, w, cycles) (simp append_assoc)

head_takes : (text : List ℕ) (h : Head) (rest : List ℕ) → head_at text ≡ Some (h, rest) → (text ≡ head_text h ++ rest) × IsHead h
unfolding head_at
head_takes text h rest e =
    let name = bound (behind_name (codes "s ") text) (λ t. short_number_at t 32 >>= λ line. short_number_at line.1 32 >>= λ n. number_at n.1 32 >>= λ w. number_at w.1 10 >>= λ cycles.
    counted (record { line = line.0; n = n.0; w = w.0; cycles = cycles.0 }) cycles.1) (h, rest) e in
    let line = bound (short_number_at name.0 32) (λ line. short_number_at line.1 32 >>= λ n. number_at n.1 32 >>= λ w. number_at w.1 10 >>= λ cycles.
    counted (record { line = line.0; n = n.0; w = w.0; cycles = cycles.0 }) cycles.1) (h, rest) name.2 in
    let n = bound (short_number_at line.0.1 32) (λ n. number_at n.1 32 >>= λ w. number_at w.1 10 >>= λ cycles.
    counted (record { line = line.0.0; n = n.0; w = w.0; cycles = cycles.0 }) cycles.1) (h, rest) line.2 in
    let w = bound (number_at n.0.1 32) (λ w. number_at w.1 10 >>= λ cycles. counted (record { line = line.0.0; n = n.0.0; w = w.0; cycles = cycles.0 }) cycles.1) (h, rest) n.2 in
    let cycles = bound (number_at w.0.1 10) (λ cycles. counted (record { line = line.0.0; n = n.0.0; w = w.0.0; cycles = cycles.0 }) cycles.1) (h, rest) w.2 in
    let made : Head = record { line = line.0.0; n = n.0.0; w = w.0.0; cycles = cycles.0.0 } in
    let some = cond_some (nat_lt 0 made.line && nat_lt 0 made.n) (made, cycles.0.1) (h, rest) cycles.2 in
    let tests = both (nat_lt 0 made.line) (nat_lt 0 made.n) some.0 in
    let line-takes = short_takes name.0 32 line.0.0 line.0.1 line.1 in
    let n-takes = short_takes line.0.1 32 n.0.0 n.0.1 n.1 in
    let w-takes = number_takes n.0.1 32 w.0.0 w.0.1 w.1 in
    let cycles-takes = number_takes w.0.1 10 cycles.0.0 cycles.0.1 cycles.1 in
    subst (λ (r : Head × List ℕ). (text ≡ head_text r.0 ++ r.1) × IsHead r.0) {x = (made, cycles.0.1)} some.1 (
      head_joined made text name.0 line.0.1 n.0.1 w.0.1 cycles.0.1 (after_takes (codes "s ") text name.0 name.1) line-takes.0 n-takes.0 w-takes.0 cycles-takes.0,
      record { line = (ltb-true _ _ tests.0, line-takes.1); n = (ltb-true _ _ tests.1, n-takes.1); w = w-takes.1; cycles = cycles-takes.1 },
    )

head_again : (h : Head) (rest : List ℕ) → IsHead h → head_at (head_text h ++ rest) ≡ Some (h, rest)
unfolding head_at
head_again h rest is =
    let t4 = decimal h.cycles ++ 10 ∷ rest in
    let t3 = decimal h.w ++ 32 ∷ t4 in
    let t2 = decimal h.n ++ 32 ∷ t3 in
    let t1 = decimal h.line ++ 32 ∷ t2 in
    let whole : head_text h ++ rest ≡ codes "s " ++ t1 = sym (head_joined h (codes "s " ++ t1) t1 t2 t3 t4 rest refl refl refl refl refl) in
    ap head_at whole ∙ rw (
      short_again h.line 32 t2 is.line.1 refl,
      short_again h.n 32 t3 is.n.1 refl,
      number_again h.w 32 t4 is.w refl,
      number_again h.cycles 10 rest is.cycles refl,
      lt-ltb 0 h.line is.line.0,
      lt-ltb 0 h.n is.n.0,
    ) refl

-- ---- marks

pub either : {A : Type 0} {P : Type 0} (o p : Option A) (x : A) → (o ≡ Some x → P) → (p ≡ Some x → P) → (o or p) ≡ Some x → P
either (Some y) p x first second e = first e
either None p x first second e = second e

-- a mark that is read from the front of a text
abbrev IsMarkAt : List ℕ → Mark → List ℕ → Type 0
IsMarkAt text m rest = (text ≡ mark_text m ++ rest) × IsMark m

named : (text name t rest : List ℕ) (n : ℕ) → text ≡ name ++ t → t ≡ decimal n ++ 10 ∷ rest → text ≡ (name ++ decimal n ++ 10 ∷ []) ++ rest
named text name t rest n first second = rw (first, second) (simp append_assoc)

dwell_takes : (text : List ℕ) (m : Mark) (rest : List ℕ) → dwell_at text ≡ Some (m, rest) → IsMarkAt text m rest
unfolding dwell_at mark_text
dwell_takes text m rest e =
    let name = bound (behind_name (codes "D ") text) (λ t. number_at t 10 >>= λ ms. Some (Dwell ms.0, ms.1)) (m, rest) e in
    let ms = bound (number_at name.0 10) (λ ms. Some (Dwell ms.0, ms.1)) (m, rest) name.2 in
    let takes = number_takes name.0 10 ms.0.0 ms.0.1 ms.1 in
    let parts = some_pair_parts (Dwell ms.0.0) m ms.0.1 rest ms.2 in
    let whole = named text (codes "D ") name.0 ms.0.1 ms.0.0 (after_takes (codes "D ") text name.0 name.1) takes.0 in
    subst (λ (r : List ℕ). IsMarkAt text m r) parts.1 (subst (λ (x : Mark). IsMarkAt text x ms.0.1) parts.0 (whole, takes.1))

cut_takes : (text : List ℕ) (m : Mark) (rest : List ℕ) → cut_at text ≡ Some (m, rest) → IsMarkAt text m rest
unfolding cut_at mark_text
cut_takes text m rest e =
    let name = bound (behind_name (codes "X ") text) (λ t. short_number_at t 10 >>= λ line. Some (Cut line.0, line.1)) (m, rest) e in
    let line = bound (short_number_at name.0 10) (λ line. Some (Cut line.0, line.1)) (m, rest) name.2 in
    let takes = short_takes name.0 10 line.0.0 line.0.1 line.1 in
    let parts = some_pair_parts (Cut line.0.0) m line.0.1 rest line.2 in
    let whole = named text (codes "X ") name.0 line.0.1 line.0.0 (after_takes (codes "X ") text name.0 name.1) takes.0 in
    subst (λ (r : List ℕ). IsMarkAt text m r) parts.1 (subst (λ (x : Mark). IsMarkAt text x line.0.1) parts.0 (whole, takes.1))

reset_takes : (text : List ℕ) (m : Mark) (rest : List ℕ) → reset_at text ≡ Some (m, rest) → IsMarkAt text m rest
unfolding reset_at mark_text
reset_takes text m rest e =
    let name = bound (behind_name (codes "Z ") text) (λ t. short_number_at t 10 >>= λ line. Some (Reset line.0, line.1)) (m, rest) e in
    let line = bound (short_number_at name.0 10) (λ line. Some (Reset line.0, line.1)) (m, rest) name.2 in
    let takes = short_takes name.0 10 line.0.0 line.0.1 line.1 in
    let parts = some_pair_parts (Reset line.0.0) m line.0.1 rest line.2 in
    let whole = named text (codes "Z ") name.0 line.0.1 line.0.0 (after_takes (codes "Z ") text name.0 name.1) takes.0 in
    subst (λ (r : List ℕ). IsMarkAt text m r) parts.1 (subst (λ (x : Mark). IsMarkAt text x line.0.1) parts.0 (whole, takes.1))

turn_takes : (name : List ℕ) (code : SpindleCode) (text : List ℕ) (m : Mark) (rest : List ℕ) → turn_at name code text ≡ Some (m, rest)
    → ((speed : ℕ) → speed < 2 ^ 32 → IsMark (Spindle code speed) × (mark_text (Spindle code speed) ≡ name ++ decimal speed ++ 10 ∷ [])) → IsMarkAt text m rest
unfolding turn_at
turn_takes name code text m rest e spelled =
    let behind = bound (behind_name name text) (λ t. short_number_at t 10 >>= λ speed. Some (Spindle code speed.0, speed.1)) (m, rest) e in
    let speed = bound (short_number_at behind.0 10) (λ speed. Some (Spindle code speed.0, speed.1)) (m, rest) behind.2 in
    let takes = short_takes behind.0 10 speed.0.0 speed.0.1 speed.1 in
    let parts = some_pair_parts (Spindle code speed.0.0) m speed.0.1 rest speed.2 in
    let whole = named text name behind.0 speed.0.1 speed.0.0 (after_takes name text behind.0 behind.1) takes.0 in
    let is = spelled speed.0.0 takes.1 in
    subst (λ (r : List ℕ). IsMarkAt text m r) parts.1 (subst (λ (x : Mark). IsMarkAt text x speed.0.1) parts.0 (whole ∙ ap (λ (t : List ℕ). t ++ speed.0.1) (sym is.1), is.0))

plain_takes : (name : List ℕ) (mark : Mark) (text : List ℕ) (m : Mark) (rest : List ℕ) → plain_at name mark text ≡ Some (m, rest) → IsMark mark → mark_text mark ≡ name → IsMarkAt text m rest
unfolding plain_at
plain_takes name mark text m rest e is spelled =
    let behind = bound (behind_name name text) (λ t. Some (mark, t)) (m, rest) e in
    let parts = some_pair_parts mark m behind.0 rest behind.2 in
    let whole = after_takes name text behind.0 behind.1 ∙ ap (λ (t : List ℕ). t ++ behind.0) (sym spelled) in
    subst (λ (r : List ℕ). IsMarkAt text m r) parts.1 (subst (λ (x : Mark). IsMarkAt text x behind.0) parts.0 (whole, is))

mark_takes : (text : List ℕ) (m : Mark) (rest : List ℕ) → mark_at text ≡ Some (m, rest) → IsMarkAt text m rest
unfolding mark_at mark_text
mark_takes text m rest =
    either _ _ (m, rest)
    (either _ _ (m, rest)
    (either _ _ (m, rest)
    (either _ _ (m, rest)
    (either _ _ (m, rest)
    (either _ _ (m, rest)
    (either _ _ (m, rest) (dwell_takes text m rest) (λ e. turn_takes (codes "M3 ") M3 text m rest e (λ speed h. (h, refl))))
    (λ e. turn_takes (codes "M4 ") M4 text m rest e (λ speed h. (h, refl))))
    (λ e. plain_takes (codes "M5 0\n") (Spindle M5 0) text m rest e refl refl))
    (λ e. plain_takes (codes "M8 0\n") (Coolant true) text m rest e tt refl))
    (λ e. plain_takes (codes "M9 0\n") (Coolant false) text m rest e tt refl))
    (cut_takes text m rest))
    (reset_takes text m rest)

mark_again : (m : Mark) (rest : List ℕ) → IsMark m → mark_at (mark_text m ++ rest) ≡ Some (m, rest)
unfolding mark_at mark_text dwell_at turn_at plain_at cut_at reset_at
mark_again (Dwell ms) rest is = ap mark_at (sym (named _ (codes "D ") _ rest ms refl refl)) ∙ rw (number_again ms 10 rest is refl) refl
mark_again (Spindle M3 speed) rest is = ap mark_at (sym (named _ (codes "M3 ") _ rest speed refl refl)) ∙ rw (short_again speed 10 rest is refl) refl
mark_again (Spindle M4 speed) rest is = ap mark_at (sym (named _ (codes "M4 ") _ rest speed refl refl)) ∙ rw (short_again speed 10 rest is refl) refl
mark_again (Spindle M5 speed) rest is = ap (λ (s : ℕ). Some (Spindle M5 s, rest)) (sym is)
mark_again (Coolant true) rest is = refl
mark_again (Coolant false) rest is = refl
mark_again (Cut line) rest is = ap mark_at (sym (named _ (codes "X ") _ rest line refl refl)) ∙ rw (short_again line 10 rest is refl) refl
mark_again (Reset line) rest is = ap mark_at (sym (named _ (codes "Z ") _ rest line refl refl)) ∙ rw (short_again line 10 rest is refl) refl

-- ---- records

-- a record that is read from the front of a text
abbrev pub IsRecordAt : List ℕ → Record → List ℕ → Type 0
IsRecordAt text r rest = (text ≡ record_text r ++ rest) × IsRecord r

of_kind : {A : Type 0} (f : A → Record) (o : Read A) (text : List ℕ) (r : Record) (rest : List ℕ)
    → ((a : A) (t : List ℕ) → o ≡ Some (a, t) → IsRecordAt text (f a) t) → as_record f o ≡ Some (r, rest) → IsRecordAt text r rest
of_kind f None text r rest takes e = absurd cc
of_kind f (Some x) text r rest takes e =
    let parts = some_pair_parts (f x.0) r x.1 rest e in
    subst (λ (t : List ℕ). IsRecordAt text r t) parts.1 (subst (λ (s : Record). IsRecordAt text s x.1) parts.0 (takes x.0 x.1 refl))

end_takes : (text : List ℕ) (r : Record) (rest : List ℕ) → end_at text ≡ Some (r, rest) → IsRecordAt text r rest
end_takes text r rest e =
    let behind = bound (behind_name (codes "E\n") text) (λ t. Some (kinds.End, t)) (r, rest) e in
    let parts = some_pair_parts kinds.End r behind.0 rest behind.2 in
    subst (λ (t : List ℕ). IsRecordAt text r t) parts.1 (subst (λ (s : Record). IsRecordAt text s behind.0) parts.0 (after_takes (codes "E\n") text behind.0 behind.1, tt))

pub record_takes : (text : List ℕ) (r : Record) (rest : List ℕ) → record_at text ≡ Some (r, rest) → IsRecordAt text r rest
unfolding record_at
record_takes text r rest =
    either _ _ (r, rest)
    (either _ _ (r, rest)
    (either _ _ (r, rest)
    (of_kind kinds.Event (event_at text) text r rest (event_takes text))
    (of_kind kinds.Head (head_at text) text r rest (head_takes text)))
    (of_kind kinds.Mark (mark_at text) text r rest (mark_takes text)))
    (end_takes text r rest)

no_event_head : (h : Head) (rest : List ℕ) → event_at (head_text h ++ rest) ≡ None
unfolding event_at axis_at head_text
no_event_head h rest = refl

no_event_mark : (m : Mark) (rest : List ℕ) → event_at (mark_text m ++ rest) ≡ None
unfolding event_at axis_at mark_text
no_event_mark (Dwell ms) rest = refl
no_event_mark (Spindle M3 speed) rest = refl
no_event_mark (Spindle M4 speed) rest = refl
no_event_mark (Spindle M5 speed) rest = refl
no_event_mark (Coolant true) rest = refl
no_event_mark (Coolant false) rest = refl
no_event_mark (Cut line) rest = refl
no_event_mark (Reset line) rest = refl

no_head_mark : (m : Mark) (rest : List ℕ) → head_at (mark_text m ++ rest) ≡ None
unfolding head_at mark_text
no_head_mark (Dwell ms) rest = refl
no_head_mark (Spindle M3 speed) rest = refl
no_head_mark (Spindle M4 speed) rest = refl
no_head_mark (Spindle M5 speed) rest = refl
no_head_mark (Coolant true) rest = refl
no_head_mark (Coolant false) rest = refl
no_head_mark (Cut line) rest = refl
no_head_mark (Reset line) rest = refl

end_again : (rest : List ℕ) → record_at (codes "E\n" ++ rest) ≡ Some (kinds.End, rest)
unfolding record_at event_at axis_at head_at mark_at dwell_at turn_at plain_at cut_at reset_at
end_again rest = refl

pub record_again : (r : Record) (rest : List ℕ) → IsRecord r → record_at (record_text r ++ rest) ≡ Some (r, rest)
unfolding record_at
record_again (kinds.Event b) rest is = rw (event_again b rest is) refl
record_again (kinds.Head h) rest is = rw (no_event_head h rest, head_again h rest is) refl
record_again (kinds.Mark m) rest is = rw (no_event_mark m rest, no_head_mark m rest, mark_again m rest is) refl
record_again kinds.End rest is = end_again rest
