-- The resets that were scanned wait for their Banners.
use Rattle.std.proofs.Common.{◌≡◌, ℕ, ◌+◌, ◌≤◌, ◌<◌, inl, inr, ◌||◌, Bool, true, false, cond, List, [], ◌∷◌, ◌++◌, nat_eq, nat_lt, refl, sym, ap, ◌∙◌, arith, subst}
use Rattle.std.specs.List.{count_by, list_any}
use Rattle.std.proofs.lemmas.Bool.Decides.{nat_tests}
use Rattle.std.proofs.lemmas.List.Sums.{sum_by-append, sum_by-cons, count_by-le-length}
use Rattle.status_report.specs.declared.Reply.{Reply}
use Rattle.status_report.specs.Answering.{banners_in}
use Rattle.status_report.proofs.Banners.{banners_first, banners_last}
use Rattle.host_journal.specs.Jobs.{is_reset, is_long, served, resets_scanned, lacks_banner}
use Rattle.stream_host.specs.Ran.{AreAwaited, EndsInReset}
use Rattle.host_journal.specs.Steps.{HostLog, Journal, port_log, got_in, latest_got, got_of, bytes_raised_in, resets_in, raises_of, resets_of, resets_so_far, banners_of, awaits_banner, scanned_of, raw_of, cut_of, due_of, more_served}
use Rattle.host_journal.specs.Steps.PortStep.{stored, dropped, marked, raised, got, no_reply, shut}
use Rattle.host_journal.specs.Steps.Step.{at_port, read_some, read_end, read_failed, scanned, line_over, wrote, gave_up, turned, attends}
use Rattle.stream_host.specs.Conduct.{Conducted}
use Rattle.stream_host.proofs.Texts.{reset_drops, long_same}
use Rattle.stream_host.proofs.Raising.{served_on, none_at_lf, one_more, raised_is}
use Rattle.stream_host.proofs.Keeping.{cut_is}
use Rattle.stream_host.proofs.Raised.{awaits_on}
use Rattle.stream_host.proofs.Epochs.{banners_past}

-- ---- how many

reset_on : (xs : List ℕ) (b : ℕ) → count_by is_reset (xs ++ b ∷ []) ≡ cond (is_reset b) (count_by is_reset xs + 1) (count_by is_reset xs)
reset_on xs b = sum_by-append (λ x. cond (is_reset x) 1 0) xs (b ∷ []) ∙ by_test (is_reset b) refl
  where
    by_test : (t : Bool) → is_reset b ≡ t → count_by is_reset xs + count_by is_reset (b ∷ []) ≡ cond t (count_by is_reset xs + 1) (count_by is_reset xs)
    by_test true e = let o = ap (λ t. cond {A = ℕ} t 1 0) e in omega arith
    by_test false e = let o = ap (λ t. cond {A = ℕ} t 1 0) e in omega arith

resets_raised : (h : HostLog) → resets_in h ≡ count_by is_reset (bytes_raised_in h)
resets_raised [] = refl
resets_raised (raised b down ∷ h) = ap (λ n. cond (is_reset b) (n + 1) n) (resets_raised h) ∙ sym (reset_on (bytes_raised_in h) b)
resets_raised (_ ∷ h) = resets_raised h

-- those that are raised, by the bytes that are
pub raised_resets : (h : Journal) → count_by is_reset (raises_of h) ≡ resets_of h
raised_resets h = sym (resets_raised (port_log h))

-- those that are scanned are raised, or due
pub scanned_resets : (room : ℕ) (h : Journal) → Conducted room h → resets_scanned (scanned_of h) ≡ resets_so_far h
scanned_resets room h c = let r = raised_is room h c is_reset in let n = raised_resets h in omega arith

banners_are : (h : HostLog) → banners_in (got_in h) ≡ banners_in (latest_got h)
banners_are [] = refl
banners_are (got r ∷ h) = let a = banners_last (got_in h) r in let f = banners_first r (latest_got h) in let m = banners_are h in omega arith
banners_are (_ ∷ h) = banners_are h

-- the Banners that were got, by the replies in order
pub banners_got : (h : Journal) → banners_in (got_of h) ≡ banners_of h
banners_got h = banners_are (port_log h)

-- ---- no Banner is lacking where none is awaited and nothing due

pub none_lacks : (h : Journal) → awaits_banner h ≡ false → due_of h ≡ [] → lacks_banner (resets_so_far h) (banners_of h) ≡ false
none_lacks h calm none = ap (λ n. lacks_banner n (banners_of h)) (let d = ap (count_by is_reset) none in let e : resets_so_far h ≡ resets_of h = omega arith in e) ∙ calm

-- ---- each waits

record Await (h : Journal) : Type 0 where
  pub in_turn : 1 < resets_scanned (scanned_of h) → resets_scanned (scanned_of h) ≤ banners_of h
  pub last : lacks_banner (resets_scanned (scanned_of h)) (banners_of h) ≡ true → EndsInReset (raw_of h)

both : (t : Bool) {A : Type 0} → t ≡ true → t ≡ false → A
both t e f = absurd (let g = sym e ∙ f in cc)

got_await : (r : Reply) (h : Journal) → Await h → Await (at_port (got r) ∷ h)
got_await r h was =
    let f = banners_first r (latest_got (port_log h)) in
    record {
      in_turn = λ many. let m = was.in_turn many in omega arith;
      last = λ e. was.last (awaits_on (resets_scanned (scanned_of h)) (banners_of h) (banners_of (at_port (got r) ∷ h)) (omega arith) e);
    }

some_reset : (bytes : List ℕ) → 0 < count_by is_reset bytes → list_any is_reset bytes ≡ true
some_reset [] some = absurd (omega arith)
some_reset (b ∷ bs) some = by_test (is_reset b) refl (sum_by-cons (λ x. cond (is_reset x) 1 0) b bs) (some_reset bs)
  where
    by_test : (t : Bool) → is_reset b ≡ t → count_by is_reset (b ∷ bs) ≡ cond t 1 0 + count_by is_reset bs → (0 < count_by is_reset bs → list_any is_reset bs ≡ true) → (t || list_any is_reset bs) ≡ true
    by_test true e n more = refl
    by_test false e n more = more (omega arith)

no_byte : (bytes : List ℕ) → bytes ≡ [] → 0 < count_by is_reset bytes → ⊥
no_byte bytes none some = let e = ap (count_by is_reset) none in absurd (omega arith)

-- the line with a byte more, where that is a reset
with_reset : (b : ℕ) (raw : List ℕ) (t : Bool) → nat_eq b 10 ≡ t → is_long raw ≡ false → 0 < count_by is_reset (more_served raw b) → EndsInReset (cond t [] (raw ++ b ∷ []))
with_reset b raw true e short some = absurd (no_byte (more_served raw b) (none_at_lf raw b e) some)
with_reset b raw false e short some = record {
  front = raw;
  byte = b;
  is = refl;
  reset = (let s = ap (count_by is_reset) (served_on raw b) in let a = sum_by-append (λ x. cond (is_reset x) 1 0) (served raw) (more_served raw b) in omega arith);
  short = long_same raw b (inl (reset_drops raw b (more_served raw b) (sym (served_on raw b)) (some_reset (more_served raw b) some))) ∙ short;
}

scan_await : (room : ℕ) (b : ℕ) (h : Journal) → Conducted room (scanned b ∷ h) → Await h → Await (scanned b ∷ h)
scan_await room b h c was = record {
  in_turn = λ many. by_resets (nat_lt 0 (resets_of h)) refl many;
  last = λ e. by_more (nat_lt 0 (count_by is_reset (more_served (raw_of h) b))) refl e;
}
  where
    same : resets_scanned (scanned_of (scanned b ∷ h)) ≡ resets_of h + count_by is_reset (more_served (raw_of h) b)
    same = scanned_resets room (scanned b ∷ h) c ∙ ap (λ (d : List ℕ). resets_of h + count_by is_reset (d ++ more_served (raw_of h) b)) c.0.none_due

    few : count_by is_reset (more_served (raw_of h) b) ≤ 1
    few = let m = count_by-le-length is_reset (more_served (raw_of h) b) in let o = one_more (raw_of h) b in omega arith

    by_resets : (t : Bool) → nat_lt 0 (resets_of h) ≡ t → 1 < resets_scanned (scanned_of (scanned b ∷ h)) → resets_scanned (scanned_of (scanned b ∷ h)) ≤ banners_of h
    by_resets true e many = let s = same in let f = few in let some : 0 < resets_of h = grind (arith, nat_tests) in let p = banners_past h some c.0.epoch in omega arith
    by_resets false e many = let s = same in let f = few in let none : resets_of h ≡ 0 = grind (arith, nat_tests) in absurd (omega arith)

    by_more : (t : Bool) → nat_lt 0 (count_by is_reset (more_served (raw_of h) b)) ≡ t → lacks_banner (resets_scanned (scanned_of (scanned b ∷ h))) (banners_of h) ≡ true → EndsInReset (raw_of (scanned b ∷ h))
    by_more true e lacks = with_reset b (raw_of h) (nat_eq b 10) refl c.0.sends (grind (arith, nat_tests))
    by_more false e lacks =
        let none : count_by is_reset (more_served (raw_of h) b) ≡ 0 = grind (arith, nat_tests) in
        let s = same in let n : resets_scanned (scanned_of (scanned b ∷ h)) ≡ resets_of h = omega arith in
        both (awaits_banner h) (ap (λ k. lacks_banner k (banners_of h)) (sym n) ∙ lacks) c.0.epoch

over_await : (room : ℕ) (h : Journal) → Conducted room (line_over ∷ h) → Await h → Await (line_over ∷ h)
over_await room h c was = record {
  in_turn = was.in_turn;
  last = λ e. both (lacks_banner (resets_so_far h) (banners_of h)) (ap (λ n. lacks_banner n (banners_of h)) (sym (scanned_resets room h c.1)) ∙ e) (none_lacks h c.0.epoch c.0.none_due);
}

same_await : (h next : Journal) → scanned_of next ≡ scanned_of h → banners_of next ≡ banners_of h → raw_of next ≡ raw_of h → Await h → Await next
same_await h next s b r was = record {
  in_turn = λ many. (let n = ap resets_scanned s in let m = was.in_turn (omega arith) in omega arith);
  last = λ e. subst EndsInReset (sym r) (was.last (ap (λ n. lacks_banner n (banners_of h)) (ap resets_scanned (sym s)) ∙ ap (lacks_banner (resets_scanned (scanned_of next))) (sym b) ∙ e));
}

await_is : (room : ℕ) (h : Journal) → Conducted room h → Await h
await_is room [] c = record { in_turn = λ many. absurd (omega arith); last = λ e. absurd cc }
await_is room (at_port (stored b) ∷ h) c = same_await h (at_port (stored b) ∷ h) refl refl refl (await_is room h c.1)
await_is room (at_port (dropped b) ∷ h) c = absurd c.0
await_is room (at_port marked ∷ h) c = same_await h (at_port marked ∷ h) refl refl refl (await_is room h c.1)
await_is room (at_port (raised b down) ∷ h) c = same_await h (at_port (raised b down) ∷ h) refl refl refl (await_is room h c.1)
await_is room (at_port (got r) ∷ h) c = got_await r h (await_is room h c.1)
await_is room (at_port no_reply ∷ h) c = same_await h (at_port no_reply ∷ h) refl refl refl (await_is room h c.1)
await_is room (at_port shut ∷ h) c = same_await h (at_port shut ∷ h) refl refl refl (await_is room h c.1)
await_is room (read_some bytes ∷ h) c = same_await h (read_some bytes ∷ h) refl refl refl (await_is room h c.1)
await_is room (read_end ∷ h) c = same_await h (read_end ∷ h) refl refl refl (await_is room h c.1)
await_is room (read_failed ∷ h) c = same_await h (read_failed ∷ h) refl refl refl (await_is room h c.1)
await_is room (scanned b ∷ h) c = scan_await room b h c (await_is room h c.1)
await_is room (line_over ∷ h) c = over_await room h c (await_is room h c.1)
await_is room (wrote n ∷ h) c = same_await h (wrote n ∷ h) refl refl refl (await_is room h c.1)
await_is room (gave_up ∷ h) c = same_await h (gave_up ∷ h) refl refl refl (await_is room h c.1)
await_is room (turned t ∷ h) c = same_await h (turned t ∷ h) refl refl refl (await_is room h c.1)
await_is room (attends ∷ h) c = same_await h (attends ∷ h) refl refl refl (await_is room h c.1)

pub awaited_is : (room : ℕ) (h : Journal) → Conducted room h → AreAwaited (scanned_of h) (cut_of h) (banners_of h)
awaited_is room h c = record {
  raw = raw_of h;
  cut = elim (cut_is room h c) [
    | inl is ↦ inl is
    | inr over ↦ inr (over.whole, over.none)
  ];
  in_turn = (await_is room h c).in_turn;
  last = (await_is room h c).last;
}

-- the same by the replies in order
pub awaited_got : (room : ℕ) (h : Journal) → Conducted room h → AreAwaited (scanned_of h) (cut_of h) (banners_in (got_of h))
awaited_got room h c = subst (λ n. AreAwaited (scanned_of h) (cut_of h) n) (sym (banners_got h)) (awaited_is room h c)
