-- Once all is sent out, each reset that was scanned has its Banner.
use Rattle.std.proofs.Common.{◌≡◌, ℕ, ◌+◌, Bool, true, false, cond, List, [], ◌∷◌, ◌++◌, length, sym, refl, ap, ◌∙◌, arith}
use Rattle.std.specs.List.{count_by, filter, flat_map}
use Rattle.std.proofs.lemmas.List.{length-append, length-map, length-reverse}
use Rattle.std.proofs.lemmas.List.Sums.{sum_by-cons, sum_by-append}
use Rattle.outside.specs.Causes.{SourceState, SinkState}
use Rattle.run_rules.specs.Lines.{lines_of}
use Rattle.status_report.specs.Answering.{banners_in, without_reports}
use Rattle.status_report.specs.declared.Reply.{Reply}
use Rattle.status_report.specs.declared.Reply.TheVariants.{Banner, Bye}
use Rattle.status_report.proofs.Banners.{banners_first, banners_on, banners_without}
use Rattle.host_journal.specs.Jobs.{is_reset, served, marks_at, marks_behind, sent_text, resets_scanned}
use Rattle.stream_host.specs.Ran.{HostEnd, HostRan, is_sent_out}
use Rattle.epoch_law.specs.Ran.{HostDid}
use Rattle.epoch_links.proofs.Forgetting.{length-ended}

-- ---- the marks are as many as the resets

filter_count : (p : ℕ → Bool) (xs : List ℕ) → length (filter p xs) ≡ count_by p xs
filter_count p [] = refl
filter_count p (x ∷ xs) = by_test (p x) (filter_count p xs) ∙ sym (sum_by-cons (λ y. cond {A = ℕ} (p y) 1 0) x xs)
  where
    by_test : (t : Bool) → length (filter p xs) ≡ count_by p xs → length (cond t (x ∷ filter p xs) (filter p xs)) ≡ cond t 1 0 + count_by p xs
    by_test true e = omega (arith, e)
    by_test false e = omega (arith, e)

pub marks_count : (bytes : ℕ) (lines : List (List ℕ)) → length (marks_behind bytes lines) ≡ count_by is_reset (flat_map served lines)
marks_count bytes [] = refl
marks_count bytes (line ∷ lines) =
    let more = bytes + (length (sent_text line) + 1) in
    let a = length-append (marks_at bytes line) (marks_behind more lines) in
    let b = length-map (filter is_reset (served line)) (λ (x : ℕ). bytes) in
    let c = filter_count is_reset (served line) in
    let i = marks_count more lines in
    let s = sum_by-append (λ x. cond (is_reset x) 1 0) (served line) (flat_map served lines) in
    omega (arith, a, b, c, i, s)

-- ---- the Banners

-- where a course was told behind the banner, and Bye behind it, a Banner of each of its resets was got, and the first
pub banners_got : (rs told : List Reply) → without_reports rs ≡ Banner ∷ (told ++ Bye ∷ []) → banners_in rs ≡ banners_in told + 1
banners_got rs told is =
    let plain = banners_without rs in
    let all = ap banners_in is in
    let first : banners_in (Banner ∷ (told ++ Bye ∷ [])) ≡ 1 + banners_in (told ++ Bye ∷ []) = banners_first Banner (told ++ Bye ∷ []) in
    let both : banners_in (told ++ Bye ∷ []) ≡ banners_in told + 0 = banners_on told (Bye ∷ []) in
    omega (arith, plain, all, first, both)

-- so each reset has one, behind the first
pub each_greeted : (attended : Bool) (room : ℕ) (job_was job_is : SourceState) (console_was console_is : SinkState) (h : HostDid) (end : HostEnd) (ran : HostRan attended room job_was job_is console_was console_is h.stored h.marks h.shut h.raised h.got end) (told : List Reply)
    → is_sent_out h.shut h.got ≡ true → without_reports h.got ≡ Banner ∷ (told ++ Bye ∷ []) → banners_in h.got ≡ resets_scanned ran.scanned + 1
each_greeted attended room job_was job_is console_was console_is h end ran said out told =
    let ends = length-ended h.marks ran.ended (ran.all_ended out) in
    let marks = ap length (ran.all_marked out) in
    let long = length-reverse h.marks in
    let count = marks_count 0 (lines_of ran.scanned) in
    let begun = ran.epochs.begun in
    let some = banners_got h.got said told in
    omega (arith, ends, marks, long, count, begun, some)
