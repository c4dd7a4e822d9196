-- What a host did is cut into epochs.
use Rattle.std.proofs.Common.{◌≡◌, ℕ, suc, ◌+◌, ◌-◌, ◌≤◌, ◌&&◌, Bool, true, false, cond, List, [], ◌∷◌, ◌++◌, length, take, drop, nat_eq, refl, sym, ap, ◌∙◌, arith, append-nil, append_assoc, length-append}
use Rattle.std.proofs.lemmas.List.{length-take}
use Rattle.std.proofs.Math.Seq.{take-append-add}
use Rattle.std.proofs.lemmas.List.Sums.{sum_by-append}
use Rattle.status_report.specs.declared.Reply.{Reply}
use Rattle.status_report.specs.Answering.{is_answer, answers_in, is_banner, banners_in}
use Rattle.status_report.proofs.Banners.{banners_last}
use Rattle.serial_ring.specs.Lists.{has_banner}
use Rattle.host_journal.specs.Links.{on_link}
use Rattle.stream_host.specs.Epochs.{Epoch, told_lines, dropped_lines, lines_in, told_in, replies_in, AreEpochs, lines_now, got_now, epoch_now, ended_of}
use Rattle.host_journal.specs.Steps.{Journal, port_log, got_of, latest_got, begins, answered_of, raw_of, cut_of, live_of}
use Rattle.host_journal.specs.Steps.PortStep.{stored, dropped, marked, raised, got, no_reply, shut}
use Rattle.host_journal.specs.Steps.Step.{at_port, read_some, read_end, read_failed, scanned, line_over, wrote, gave_up, turned, attends}
use Rattle.stream_host.specs.Conduct.{Conducted}
use Rattle.stream_host.proofs.Epochs.{answered_live, begins_free, begins_none, both_true, some_banner, none_banner}
use Rattle.stream_host.proofs.Awaiting.{banners_got}
use Rattle.stream_host.proofs.Waiting.{few_unanswered}

drop_add : (xs ys : List (List ℕ)) (n : ℕ) → drop (length xs + n) (xs ++ ys) ≡ drop n ys
drop_add [] ys n = let e : 0 + n ≡ n = omega arith in ap (λ k. drop k ys) e
drop_add (x ∷ xs) ys n = let e : length (x ∷ xs) + n ≡ suc (length xs + n) = omega arith in ap (λ k. drop k (x ∷ xs ++ ys)) e ∙ drop_add xs ys n

-- one line more
with_line : (room : ℕ) (lines live : List (List ℕ)) (replies : List Reply) (ended : List Epoch) (now : Epoch) (raw : List ℕ) → AreEpochs room lines live replies ended now
    → AreEpochs room (lines ++ raw ∷ []) (live ++ raw ∷ []) replies ended (record now { lines = now.lines ++ raw ∷ [] })
with_line room lines live replies ended now raw are = record {
  lines_are = ap (λ (ls : List (List ℕ)). ls ++ raw ∷ []) are.lines_are ∙ append_assoc (lines_in ended) now.lines (raw ∷ []);
  live_are = ap (λ (ls : List (List ℕ)). ls ++ raw ∷ []) are.live_are ∙ append_assoc (told_in ended) now.lines (raw ∷ []);
  replies_are = are.replies_are;
  count = are.count;
  over = are.over;
  begun = are.begun;
}

line_by : (room : ℕ) (lines live : List (List ℕ)) (replies : List Reply) (ended : List Epoch) (now : Epoch) (raw : List ℕ) (t : Bool) → AreEpochs room lines live replies ended now
    → AreEpochs room (cond t (lines ++ raw ∷ []) lines) (cond t (live ++ raw ∷ []) live) replies ended (record now { lines = cond t (now.lines ++ raw ∷ []) now.lines })
line_by room lines live replies ended now raw true are = with_line room lines live replies ended now raw are
line_by room lines live replies ended now raw false are = are

answers_last : (rs : List Reply) (r : Reply) → answers_in (rs ++ r ∷ []) ≡ answers_in rs + cond (is_answer r) 1 0
answers_last rs r = let e = sum_by-append (λ x. cond (is_answer x) 1 0) rs (r ∷ []) in omega arith

-- one reply more
with_reply : (room : ℕ) (lines live : List (List ℕ)) (replies : List Reply) (ended : List Epoch) (now : Epoch) (r : Reply) → AreEpochs room lines live replies ended now → banners_in (replies ++ r ∷ []) - 1 ≡ banners_in replies - 1
    → AreEpochs room lines live (replies ++ r ∷ []) ended (record now { got = now.got ++ r ∷ [] })
with_reply room lines live replies ended now r are same = record {
  lines_are = are.lines_are;
  live_are = are.live_are;
  replies_are = ap (λ (rs : List Reply). rs ++ r ∷ []) are.replies_are ∙ append_assoc (replies_in ended) now.got (r ∷ []);
  count = (let a = answers_last replies r in let b = answers_last now.got r in let c = are.count in omega arith);
  over = are.over;
  begun = are.begun ∙ sym same;
}

-- no more lines of an epoch are answered than it has
low_by : (room : ℕ) (lines live : List (List ℕ)) (replies : List Reply) (ended : List Epoch) (now : Epoch) → AreEpochs room lines live replies ended now → answers_in replies ≤ length live → answers_in now.got ≤ length now.lines
low_by room lines live replies ended now are few = let c = are.count in let l = ap length are.live_are in let a = length-append (told_in ended) now.lines in omega arith

-- an epoch begins
with_epoch : (room : ℕ) (lines live : List (List ℕ)) (replies : List Reply) (ended : List Epoch) (now : Epoch) (r : Reply) → AreEpochs room lines live replies ended now → is_answer r ≡ false → answers_in replies ≤ length live
    → length (on_link (drop (answers_in replies) live)) ≤ room → banners_in (replies ++ r ∷ []) - 1 ≡ banners_in replies - 1 + 1 → AreEpochs room lines (take (answers_in replies) live) (replies ++ r ∷ []) (now ∷ ended) (record { lines = []; got = r ∷ [] })
with_epoch room lines live replies ended now r are none few small more = record {
  lines_are = are.lines_are ∙ sym (append-nil (lines_in ended ++ now.lines));
  live_are =
      ap (take (answers_in replies)) are.live_are ∙ ap (λ n. take n (told_in ended ++ now.lines)) are.count ∙ take-append-add (told_in ended) now.lines (answers_in now.got)
      ∙ sym (append-nil (told_in ended ++ told_lines now));
  replies_are = ap (λ (rs : List Reply). rs ++ r ∷ []) are.replies_are;
  count = (
      let a = answers_last replies r in let b = answers_last [] r in let n = ap (λ t. cond {A = ℕ} t 1 0) none in let c = are.count in let w = low in
      let l = length-append (told_in ended) (told_lines now) in let t = length-take (answers_in now.got) now.lines in omega arith
      );
  over = (record { few = low; small = left }, are.over);
  begun = (let b = are.begun in omega arith);
}
  where
    low : answers_in now.got ≤ length now.lines
    low = low_by room lines live replies ended now are few

    left : length (on_link (dropped_lines now)) ≤ room
    left =
        let e = ap (drop (answers_in replies)) are.live_are ∙ ap (λ n. drop n (told_in ended ++ now.lines)) are.count ∙ drop_add (told_in ended) now.lines (answers_in now.got) in
        let l = ap (λ (ls : List (List ℕ)). length (on_link ls)) e in omega arith

reply_by : (room : ℕ) (r : Reply) (h : Journal) (t : Bool) → Conducted room (at_port (got r) ∷ h) → begins r (port_log h) ≡ t → AreEpochs room (cut_of h) (live_of h) (got_of h) (ended_of h) (epoch_now h)
    → AreEpochs room (cut_of h) (cond t (take (answered_of h) (live_of h)) (live_of h)) (got_of h ++ r ∷ []) (cond t (epoch_now h ∷ ended_of h) (ended_of h)) (record { lines = cond t [] (lines_now h); got = cond t (r ∷ []) (got_now h ++ r ∷ []) })
reply_by room r h true c is are =
    with_epoch room (cut_of h) (live_of h) (got_of h) (ended_of h) (epoch_now h) r are (begins_none r (port_log h) is) (answered_live room h c.1) (few_unanswered room h c.1 (begins_free room r h c is)) more
  where
    more : banners_in (got_of h ++ r ∷ []) - 1 ≡ banners_in (got_of h) - 1 + 1
    more =
        let t = both_true (is_banner r) (has_banner (latest_got (port_log h))) is in
        let some = some_banner (latest_got (port_log h)) t.1 in let g = banners_got h in let o = ap (λ x. cond {A = ℕ} x 1 0) t.0 in
        let a = banners_last (got_of h) r in omega arith
reply_by room r h false c is are = with_reply room (cut_of h) (live_of h) (got_of h) (ended_of h) (epoch_now h) r are (by_banner (is_banner r) refl)
  where
    by_banner : (t : Bool) → is_banner r ≡ t → banners_in (got_of h ++ r ∷ []) - 1 ≡ banners_in (got_of h) - 1
    by_banner true b =
        let none = none_banner (latest_got (port_log h)) (sym (ap (λ t. t && has_banner (latest_got (port_log h))) b) ∙ is) in
        let g = banners_got h in let o = ap (λ x. cond {A = ℕ} x 1 0) b in let a = banners_last (got_of h) r in omega arith
    by_banner false b = let o = ap (λ x. cond {A = ℕ} x 1 0) b in let a = banners_last (got_of h) r in omega arith

pub epochs_are : (room : ℕ) (h : Journal) → Conducted room h → AreEpochs room (cut_of h) (live_of h) (got_of h) (ended_of h) (epoch_now h)
epochs_are room [] c = record { lines_are = refl; live_are = refl; replies_are = refl; count = refl; over = tt; begun = refl }
epochs_are room (at_port (stored b) ∷ h) c = epochs_are room h c.1
epochs_are room (at_port (dropped b) ∷ h) c = absurd c.0
epochs_are room (at_port marked ∷ h) c = epochs_are room h c.1
epochs_are room (at_port (raised b down) ∷ h) c = epochs_are room h c.1
epochs_are room (at_port (got r) ∷ h) c = reply_by room r h (begins r (port_log h)) c refl (epochs_are room h c.1)
epochs_are room (at_port no_reply ∷ h) c = epochs_are room h c.1
epochs_are room (at_port shut ∷ h) c = epochs_are room h c.1
epochs_are room (read_some bytes ∷ h) c = epochs_are room h c.1
epochs_are room (read_end ∷ h) c = epochs_are room h c.1
epochs_are room (read_failed ∷ h) c = epochs_are room h c.1
epochs_are room (scanned b ∷ h) c = line_by room (cut_of h) (live_of h) (got_of h) (ended_of h) (epoch_now h) (raw_of h) (nat_eq b 10) (epochs_are room h c.1)
epochs_are room (line_over ∷ h) c = with_line room (cut_of h) (live_of h) (got_of h) (ended_of h) (epoch_now h) (raw_of h) (epochs_are room h c.1)
epochs_are room (wrote n ∷ h) c = epochs_are room h c.1
epochs_are room (gave_up ∷ h) c = epochs_are room h c.1
epochs_are room (turned t ∷ h) c = epochs_are room h c.1
epochs_are room (attends ∷ h) c = epochs_are room h c.1

-- no more lines of the epoch are answered than it has; a `?` and a cancel wait until all are
pub low_now : (room : ℕ) (h : Journal) → Conducted room h → answers_in (got_now h) ≤ length (lines_now h)
low_now room h c = low_by room (cut_of h) (live_of h) (got_of h) (ended_of h) (epoch_now h) (epochs_are room h c) (answered_live room h c)

pub all_now : (room : ℕ) (h : Journal) → Conducted room h → answered_of h ≡ length (live_of h) → answers_in (got_now h) ≡ length (lines_now h)
all_now room h c all = let e = epochs_are room h c in let n = e.count in let l = ap length e.live_are in let a = length-append (told_in (ended_of h)) (lines_now h) in omega arith
