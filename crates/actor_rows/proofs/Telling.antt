-- What a board that is a plain list has told with a step more, and what a host may take from it.
use Rattle.std.proofs.Common.{◌≡◌, ℕ, zero, suc, ◌+◌, ◌≤◌, ◌<◌, inl, Bool, true, false, cond, List, [], ◌∷◌, ◌++◌, length, drop, nat_eq, refl, ap, ◌∙◌, arith, subst, length-append}
use Rattle.std.proofs.lemmas.List.Sums.{sum_by-append}
use Rattle.status_report.specs.declared.Reply.{Reply}
use Rattle.status_report.specs.declared.Reply.TheVariants.{Banner}
use Rattle.status_report.specs.Answering.{lfs_in, is_answer, is_banner, banners_in}
use Rattle.status_report.proofs.Banners.{banners_first}
use Rattle.serial_ring.specs.Marks.{Mark, IsMark, Follows, start, latest, last_of}
use Rattle.serial_ring.specs.Lists.{has_banner}
use Rattle.host_journal.specs.Links.{behind_mark, AreGreetings}
use Rattle.host_journal.specs.Ports.{AnswersLines}
use Rattle.host_journal.specs.Steps.{HostLog, latest_got, marks_in, marks_at_banners, stored_in}
use Rattle.host_journal.specs.Steps.PortStep.{stored, marked, got}
use Rattle.stream_host.proofs.Raised.{rising_is}
use Rattle.stream_host.proofs.Epochs.{some_banner, none_banner}
use Rattle.actor_rows.specs.Boards.{HasTold}

-- a board has told nothing at first
pub told_none : HasTold 0 0 0 0 []
told_none = record {
  seen = [];
  each = refl;
  are = tt;
  lines = omega arith;
  none = λ e. refl;
  some = λ s. absurd (omega arith);
  stored = refl;
  low = omega arith;
  within = omega arith;
}

-- ---- bytes and marks

drop_more : (n : ℕ) (xs : List ℕ) (b : ℕ) → n ≤ length xs → drop n (xs ++ b ∷ []) ≡ drop n xs ++ b ∷ []
drop_more zero xs b few = refl
drop_more (suc n) [] b few = absurd (omega arith)
drop_more (suc n) (x ∷ xs) b few = drop_more n xs b (omega arith)

pub with_byte : (b owed owed' told marks greeted : ℕ) (h : HostLog) → HasTold owed told marks greeted h → owed' ≤ owed + cond (nat_eq b 10) 1 0 → HasTold owed' told marks greeted (stored b ∷ h)
with_byte b owed owed' told marks greeted h t few = record {
  seen = t.seen;
  each = t.each;
  are = t.are;
  lines = (
      let l = t.lines in let e = ap lfs_in (drop_more (last_of t.seen).1 (stored_in h) b t.within) in
      let a = sum_by-append (λ c. cond (nat_eq c 10) 1 0) (drop (last_of t.seen).1 (stored_in h)) (b ∷ []) in omega arith
      );
  none = t.none;
  some = t.some;
  stored = t.stored;
  low = t.low;
  within = (let w = t.within in let l = length-append (stored_in h) (b ∷ []) in omega arith);
}

pub with_mark : (owed told marks greeted : ℕ) (h : HostLog) → HasTold owed told marks greeted h → HasTold owed told (marks + 1) greeted (marked ∷ h)
with_mark owed told marks greeted h t = record {
  seen = t.seen;
  each = t.each;
  are = t.are;
  lines = t.lines;
  none = t.none;
  some = t.some;
  stored = (let s = t.stored in omega arith);
  low = t.low;
  within = t.within;
}

-- ---- replies

no_banners : (seen : List Mark) (n : ℕ) → length seen ≡ n → seen ≡ [] → n ≡ 0
no_banners seen n e none = let l = ap (λ (ms : List Mark). length ms) none in omega arith

-- an answer to a line that has none, or another reply that is no banner
pub tells : (r : Reply) (owed owed' told told' marks greeted : ℕ) (h : HostLog) → HasTold owed told marks greeted h → is_banner r ≡ false → cond (is_answer r) 1 0 + owed' ≤ owed → 0 < told → told ≤ told'
    → HasTold owed' told' marks greeted (got r ∷ h)
tells r owed owed' told told' marks greeted h t other answers some more = record {
  seen = t.seen;
  each = t.each ∙ (let f = banners_first r (latest_got h) in let o = ap (λ (x : Bool). cond {A = ℕ} x 1 0) other in omega arith);
  are = rw other t.are;
  lines = rw other (let l = t.lines in omega arith);
  none = λ e. absurd (omega arith);
  some = λ s. t.some some;
  stored = t.stored;
  low = t.low;
  within = t.within;
}

-- the first banner is of the start of the link
pub greets : (owed told marks greeted : ℕ) (h : HostLog) → HasTold owed told marks greeted h → told ≡ 0 → HasTold owed 1 marks greeted (got Banner ∷ h)
greets owed told marks greeted h t first =
    let empty = t.none first in
    let none : banners_in (latest_got h) ≡ 0 = no_banners t.seen (banners_in (latest_got h)) t.each empty in
    record {
      seen = start ∷ [];
      each = (let f = banners_first Banner (latest_got h) in omega arith);
      are = (refl, subst (AreGreetings (marks_at_banners h)) empty t.are);
      lines = (let l = t.lines in let e = ap (λ (ms : List Mark). lfs_in (behind_mark ms (stored_in h))) empty in rw (no_banner h none) (omega arith));
      none = λ e. absurd (omega arith);
      some = λ s. omega arith;
      stored = t.stored;
      low = omega arith;
      within = omega arith;
    }
  where
    no_banner : (h : HostLog) → banners_in (latest_got h) ≡ 0 → has_banner (latest_got h) ≡ false
    no_banner h none = by_test (has_banner (latest_got h)) refl
      where
        by_test : (b : Bool) → has_banner (latest_got h) ≡ b → b ≡ false
        by_test false e = refl
        by_test true e = absurd (let s = some_banner (latest_got h) e in omega arith)

is_latest : (marks : List ℕ) → 0 < length marks → IsMark marks (length marks, latest marks)
is_latest [] some = absurd (omega arith)
is_latest (b ∷ earlier) some = inl (λ i. ((let e : length (b ∷ earlier) ≡ length earlier + 1 = omega arith in e) i, b))

follows : (marks : List ℕ) (seen : List Mark) → 0 < length seen → (last_of seen).0 < length marks → Follows marks seen (length marks, latest marks)
follows marks [] some less = absurd (omega arith)
follows marks (before ∷ earlier) some less = (less, is_latest marks (omega arith))

-- a later one is of the latest mark, and begins anew
pub begins_anew : (owed told marks greeted : ℕ) (h : HostLog) → HasTold owed told marks greeted h → 0 < told → greeted < marks → HasTold 0 told marks marks (got Banner ∷ h)
begins_anew owed told marks greeted h t some more = record {
  seen = (length (marks_in h), latest (marks_in h)) ∷ t.seen;
  each = (let f = banners_first Banner (latest_got h) in let e = t.each in omega arith);
  are = (follows (marks_in h) t.seen (t.some some) (let l = t.low in let s = t.stored in omega arith), t.are);
  lines = rw has_one (omega arith);
  none = λ e. absurd (omega arith);
  some = λ s. omega arith;
  stored = t.stored;
  low = (let s = t.stored in omega arith);
  within = (rising_is h).1;
}
  where
    has_one : has_banner (latest_got h) ≡ true
    has_one = by_test (has_banner (latest_got h)) refl
      where
        by_test : (b : Bool) → has_banner (latest_got h) ≡ b → b ≡ true
        by_test true e = refl
        by_test false e = absurd (let n = none_banner (latest_got h) e in let s = t.some some in let e = t.each in omega arith)

-- so what a host may take from a reply holds
pub answers_lines : (owed told marks greeted : ℕ) (h : HostLog) → HasTold owed told marks greeted h → AnswersLines h
answers_lines owed told marks greeted h t = record { greeted = t.seen; are = record { each = t.each; stored = t.are }; few = (let l = t.lines in omega arith) }
