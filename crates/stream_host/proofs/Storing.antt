-- A byte of the line in hand is stored.
use Rattle.std.proofs.Common.{◌≡◌, ℕ, ◌+◌, ◌≤◌, ◌<◌, Bool, true, false, List, [], ◌∷◌, ◌++◌, length, drop, nat_lt, refl, sym, ap, ◌∙◌, arith, subst, length-append}
use Rattle.std.proofs.lemmas.Bool.Decides.{nat_tests}
use Rattle.std.proofs.lemmas.List.{drop_all}
use Rattle.host_journal.specs.declared.asking.Asking.{Asking}
use Rattle.host_journal.specs.declared.asking.Asking.TheVariants.{Nothing, Awaits, HasOne, AsksAgain}
use Rattle.stream_host.specs.declared.line.SentLine.{SentLine}
use Rattle.stream_host.specs.declared.host.Host.{Host}
use Rattle.host_journal.specs.Steps.{Journal, port_log, raw_of, to_store, due_of, asking_of, is_waiting}
use Rattle.host_journal.specs.Steps.PortStep.{stored}
use Rattle.host_journal.specs.Steps.Step.{at_port}
use Rattle.stream_host.specs.Conduct.{MayStore}
use Rattle.stream_host.specs.Hosts.{HostFits, HasLine, IsStoring, KeepsLine, KeepsDue, awaits_by}
use Rattle.host_journal.specs.Ports.{TakesByte, SeemsFull}
use Rattle.stream_host.proofs.Keeping.{open_is}
use Rattle.stream_host.proofs.Sending as sending
use Rattle.stream_host.proofs.Hosting.{calm_now, calm_epoch, total_is}
use Rattle.stream_host.proofs.Epochs.{room_is}

pub not_waiting : (a b : Asking) → a ≡ b → (a ≡ Awaits → ⊥) → is_waiting b ≡ false
not_waiting a Nothing is none = refl
not_waiting a Awaits is none = absurd (none is)
not_waiting a HasOne is none = refl
not_waiting a AsksAgain is none = refl

pub may_store : {room : ℕ} (s : Host) (b : ℕ) (h : Journal) → HostFits room s h → s.alarm ≡ false → awaits_by s.resets ≡ false → s.line.whole ≡ true → (s.asking ≡ Awaits → ⊥) → s.counts.unanswered.total ≤ s.room → drop s.line.place (s.line.kept.items ++ 10 ∷ []) ≡ b ∷ drop (s.line.place + 1) (s.line.kept.items ++ 10 ∷ []) → MayStore room b h
may_store {room} s b h f calm epoch whole reported free next =
    let left = (f.line_is.storing whole).left_is in
    record {
      calm = calm_now s h f calm;
      epoch = calm_epoch s h f epoch;
      next = left ∙ next ∙ ap (λ (t : List ℕ). b ∷ drop 1 t) (sym next ∙ sym left);
      reported = not_waiting s.asking (asking_of h) f.asking_is reported;
      few = (let t = total_is s h f in let e = f.room_is in omega arith);
    }

pub takes_byte : {room : ℕ} (s : Host) (b : ℕ) (h : Journal) → HostFits room s h → MayStore room b h → TakesByte (port_log h)
takes_byte {room} s b h f may = record { going = open_is room b h f.conducted may.calm may.next; few = (let n = sending.few_stored room h f.conducted in omega arith) }

pub not_dropped : {room : ℕ} (s : Host) (b : ℕ) (h : Journal) → HostFits room s h → MayStore room b h → SeemsFull room (port_log h) → ⊥
not_dropped {room} s b h f may full = room_is room b h f.conducted may full

-- the line after the byte
pub record Advances (l m : SentLine) : Type 0 where
  pub more : l.place < length l.kept.items → m ≡ record l { place = l.place + 1 }
  pub last : l.place ≡ length l.kept.items → HasLine m [] × (m.whole ≡ false)
  pub due : m.due ≡ l.due

line_stored : (l m : SentLine) (b : ℕ) (raw left : List ℕ) → l.whole ≡ true → Advances l m → IsStoring l raw left → drop l.place (l.kept.items ++ 10 ∷ []) ≡ b ∷ drop (l.place + 1) (l.kept.items ++ 10 ∷ []) → KeepsLine m raw (drop 1 left)
line_stored l m b raw left whole stores is next = by_place (nat_lt l.place (length l.kept.items)) refl
  where
    rest : drop 1 left ≡ drop (l.place + 1) (l.kept.items ++ 10 ∷ [])
    rest = ap (drop 1) (is.left_is ∙ next)

    by_place : (t : Bool) → nat_lt l.place (length l.kept.items) ≡ t → KeepsLine m raw (drop 1 left)
    by_place true e = let below : l.place < length l.kept.items = grind (arith, nat_tests) in rw (stores.more below) (record {
      scanning = λ w. absurd (let g = sym whole ∙ w in cc);
      storing = λ w. record { none = is.none; sends = is.sends; within = omega arith; left_is = rest };
    })
    by_place false e =
        let at : l.place ≡ length l.kept.items = (let w = is.within in grind (arith, nat_tests)) in
        let end = stores.last at in
        let len = length-append l.kept.items (10 ∷ []) in
        let none : drop 1 left ≡ [] = rest ∙ drop_all (l.place + 1) (l.kept.items ++ 10 ∷ []) (omega arith) in
        record {
          scanning = λ w. (subst (HasLine m) (sym is.none) end.0, none);
          storing = λ w. absurd (let g = sym end.1 ∙ w in cc);
        }

pub stored_byte : {room : ℕ} (s : Host) (m : SentLine) (b : ℕ) (h : Journal) → HostFits room s h → s.line.whole ≡ true → MayStore room b h → Advances s.line m → drop s.line.place (s.line.kept.items ++ 10 ∷ []) ≡ b ∷ drop (s.line.place + 1) (s.line.kept.items ++ 10 ∷ [])
    → HostFits room (record s { line = m }) (at_port (stored b) ∷ h)
stored_byte {room} s m b h f whole may stores next = record {
  sized = f.sized;
  room_is = f.room_is;
  attended_is = f.attended_is;
  conducted = (may, f.conducted);
  job_is = f.job_is;
  line_is = line_stored s.line m b (raw_of h) (to_store h) whole stores (f.line_is.storing whole) next;
  due_is = subst (λ d. KeepsDue d (due_of h)) (sym stores.due) f.due_is;
  asking_is = f.asking_is;
  counts_are = f.counts_are;
  all_are = f.all_are;
  resets_are = f.resets_are;
  polls_are = f.polls_are;
  held_is = f.held_is;
  resumed_is = f.resumed_is;
  greeted_is = f.greeted_is;
  alarm_is = f.alarm_is;
  pause_is = f.pause_is;
  text_is = f.text_is;
  shut_is = f.shut_is;
  bye_is = f.bye_is;
  over = f.over;
}
