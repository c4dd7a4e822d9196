-- The epochs that a board has closed are those that the host has ended, but for the last one, whose Banner may not be got.
use Rattle.std.proofs.Common.{◌≡◌, ◌⊎◌, inl, inr, ℕ, ◌+◌, ◌-◌, ◌≤◌, ◌<◌, List, [], ◌∷◌, ◌++◌, length, drop, length-append, append-nil, append_assoc, refl, sym, ap, ◌∙◌, subst, arith}
use Rattle.std.specs.List.{AllByRecursion}
use Rattle.std.proofs.Math.Seq.{drop-append-add}
use Rattle.run_rules.specs.declared.State.{State}
use Rattle.serial_ring.specs.Marks.{latest}
use Rattle.status_report.specs.Answering.{answers_in}
use Rattle.status_report.proofs.Answered.{answers_on}
use Rattle.step_line.specs.Logs.{NewestFirst}
use Rattle.stream_host.specs.Conduct.{Conducted as HostConducted}
use Rattle.stream_host.specs.Epochs.{Epoch, AreEnds, lines_in, told_in, replies_in, ended_of, lines_now, got_now}
use Rattle.host_journal.specs.Links.{on_link}
use Rattle.host_journal.specs.Steps as hosts
use Rattle.stream_host.proofs.Awaiting.{banners_got}
use Rattle.stream_host.proofs.Cutting.{epochs_are}
use Rattle.stream_host.proofs.Ending.{ends_by}
use Rattle.stream_host.proofs.Epochs.{Stands, epoch_is, whole_by}
use Rattle.stream_host.proofs.Keeping.{stored_is}
use Rattle.stream_host.proofs.Waiting.{few_unanswered}
use Rattle.board_journal.specs.Ports.{taken_in, link_steps}
use Rattle.board_journal.specs.Steps.{Journal, answered_of}
use Rattle.board_journal.proofs.LinkSteps.{same_taken}
use Rattle.board_epochs.specs.Epochs.{Closed, AreClosed, closed_log}
use Rattle.epoch_links.specs.Drops.{DropFew}
use Rattle.epoch_links.specs.Taken.{taken_closed}
use Rattle.epoch_links.proofs.Answers.{Totals, totals, length-totals}
use Rattle.epoch_links.proofs.Answers.Totals.{no_banner, banners}
use Rattle.epoch_links.proofs.Carrying.{same_front, same_rest}
use Rattle.epoch_links.proofs.Cutting.{none_by_length}
use Rattle.epoch_links.proofs.Dropping.{AreSame, bytes_more, each_few, few_dropped, link_append, own_bytes, same_by, same_told, told_more}
use Rattle.epoch_links.proofs.Moments.{bytes_taken, answers_given, counts_of}

-- ---- lists

length-counts : (count : _ → ℕ) (es : NewestFirst Closed) → length (counts_of count es) ≡ length es
length-counts count [] = refl
length-counts count (e ∷ es) = let i = length-counts count es in omega arith

same_but_last : (xs ys : List ℕ) (x y : ℕ) → xs ++ x ∷ [] ≡ ys ++ y ∷ [] → xs ≡ ys
same_but_last xs ys x y e = same_front xs ys (x ∷ []) (y ∷ []) e (let l = ap length e in let a = length-append xs (x ∷ []) in let b = length-append ys (y ∷ []) in omega arith)

-- ends of a list that are as long are the same
same_end : (all ws xs ys zs : List ℕ) → all ≡ ws ++ xs → all ≡ ys ++ zs → length xs ≡ length zs → xs ≡ zs
same_end all ws xs ys zs e f same =
    same_rest ws ys xs zs (sym e ∙ f) (let l = ap length e ∙ length-append ws xs in let m = ap length f ∙ length-append ys zs in omega arith)

pub length-ended : (marks : List ℕ) (ended : List Epoch) → AreEnds marks ended → length marks ≡ length ended
length-ended [] [] are = refl
length-ended [] (e ∷ es) are = absurd are
length-ended (m ∷ marks) [] are = absurd are
length-ended (m ∷ marks) (e ∷ es) are = let i = length-ended marks es are.1 in omega arith

all_above : (n : ℕ) (xs ys : List ℕ) → AllByRecursion (λ k. n ≤ k) xs → AllByRecursion (λ k. n ≤ k) ys → AllByRecursion (λ k. n ≤ k) (xs ++ ys)
all_above n [] ys a b = b
all_above n (x ∷ xs) ys a b = (a.0, all_above n xs ys a.1 b)

all_zero : (n : ℕ) (xs : List ℕ) → n ≡ 0 → AllByRecursion (λ k. n ≤ k) xs
all_zero n [] z = tt
all_zero n (x ∷ xs) z = (omega arith, all_zero n xs z)

last_above : (n : ℕ) (xs : List ℕ) (y : ℕ) → AllByRecursion (λ k. n ≤ k) (xs ++ y ∷ []) → n ≤ y
last_above n [] y a = a.0
last_above n (x ∷ xs) y a = last_above n xs y a.1

-- ---- the answers as each was over

-- those of the epochs that the host has ended come last, and none of the others is below what it has got
pub record Behind (told : ℕ) (counts : List ℕ) (ended : List Epoch) : Type 0 where
  pub more : List ℕ
  pub are : counts ≡ more ++ totals ended
  pub above : AllByRecursion (λ n. told ≤ n) more

pub counts_behind : (told : ℕ) (counts before moments : List ℕ) (ended : List Epoch) → AllByRecursion (λ n. told ≤ n) before → counts ++ 0 ∷ [] ≡ before ++ moments
    → (more : List ℕ) (got : List ℕ) → moments ≡ more ++ got → AllByRecursion (λ n. told ≤ n) more → Totals got ended → Behind told counts ended
counts_behind told counts before moments ended low e more got parts above (no_banner empty over) =
    let all : counts ++ 0 ∷ [] ≡ before ++ more = e ∙ ap (λ (ns : List ℕ). before ++ ns) (parts ∙ ap (λ (ns : List ℕ). more ++ ns) empty ∙ append-nil more) in
    let least = last_above told counts 0 (subst (AllByRecursion (λ n. told ≤ n)) (sym all) (all_above told before more low above)) in
    record { more = counts; are = sym (append-nil counts) ∙ ap (λ (es : List Epoch). counts ++ totals es) (sym over); above = all_zero told counts (omega arith) }
counts_behind told counts before moments ended low e more got parts above (banners first is) =
    let all : counts ++ 0 ∷ [] ≡ ((before ++ more) ++ totals ended) ++ first ∷ [] =
    e ∙ ap (λ (ns : List ℕ). before ++ ns) (parts ∙ ap (λ (ns : List ℕ). more ++ ns) is) ∙ sym (append_assoc before more (totals ended ++ first ∷ []))
    ∙ sym (append_assoc (before ++ more) (totals ended) (first ∷ [])) in
    record { more = before ++ more; are = same_but_last counts ((before ++ more) ++ totals ended) 0 first all; above = all_above told before more low above }

-- ---- the host, where its latest mark has no Banner yet

record IsWaiting (room : ℕ) (h : hosts.Journal) : Type 0 where
  whole : hosts.stored_of h ≡ on_link (hosts.cut_of h)
  at_end : latest (hosts.marks_of h) ≡ length (hosts.stored_of h)
  small : length (on_link (drop (answers_in (got_now h)) (lines_now h))) ≤ room

waits : (room : ℕ) (h : hosts.Journal) → HostConducted room h → 0 < length (hosts.marks_of h) → length (ended_of h) + 1 ≡ length (hosts.marks_of h) → IsWaiting room h
waits room h c any late = by_stands (epoch_is room h c).stands
  where
    few : hosts.banners_of h ≤ length (hosts.marks_of h)
    few = let b = (epochs_are room h c).begun in let g = banners_got h in omega arith

    by_stands : Stands (hosts.marks_of h) (hosts.banners_of h) (hosts.to_store h) (hosts.stored_of h) (epoch_is room h c).from → IsWaiting room h
    by_stands (inl (inl none, from)) = absurd (omega arith)
    by_stands (inl (inr all, from)) = absurd (let f = few in omega arith)
    by_stands (inr p) =
        let e = epochs_are room h c in
        let are : drop (hosts.answered_of h) (hosts.live_of h) ≡ drop (answers_in (got_now h)) (lines_now h) =
        ap (drop (hosts.answered_of h)) e.live_are ∙ ap (λ (n : ℕ). drop n (told_in (ended_of h) ++ lines_now h)) e.count ∙ drop-append-add (told_in (ended_of h)) (lines_now h) (answers_in (got_now h)) in
        record { whole = whole_by room h c p.0.free; at_end = p.0.at_end; small = subst (λ (ls : List (List ℕ)). length (on_link ls) ≤ room) are (few_unanswered room h c p.0.free) }

-- ---- both

-- What is known of both: how the host's bytes and marks go on from those of closed epochs, and its replies.
pub record Meets (host : hosts.Journal) (es : NewestFirst Closed) : Type 0 where
  pub rest : List ℕ
  pub front : hosts.stored_of host ≡ taken_in (closed_log es) ++ rest
  pub left : List ℕ
  pub marks_are : hosts.marks_of host ≡ left ++ counts_of bytes_taken es
  pub behind : Behind (answers_in (hosts.got_of host)) (counts_of answers_given es) (ended_of host)

-- the marks that end its epochs
ending : (room : ℕ) (h : hosts.Journal) → HostConducted room h → (before : List ℕ) × (ends : List ℕ) × (hosts.marks_of h ≡ before ++ ends) × AreEnds ends (ended_of h) × (length before ≤ 1)
ending room h c = by_ends (ends_by room h c)
  where
    but_first : (marks : List ℕ) → AreEnds (drop 1 marks) (ended_of h) → (before : List ℕ) × (ends : List ℕ) × (marks ≡ before ++ ends) × AreEnds ends (ended_of h) × (length before ≤ 1)
    but_first [] are = ([], [], refl, are, omega arith)
    but_first (m ∷ ms) are = (m ∷ [], ms, refl, are, omega arith)

    by_ends : AreEnds (hosts.marks_of h) (ended_of h) ⊎ AreEnds (drop 1 (hosts.marks_of h)) (ended_of h)
        → (before : List ℕ) × (ends : List ℕ) × (hosts.marks_of h ≡ before ++ ends) × AreEnds ends (ended_of h) × (length before ≤ 1)
    by_ends (inl are) = ([], hosts.marks_of h, refl, are, omega arith)
    by_ends (inr are) = but_first (hosts.marks_of h) are

module _ (room : ℕ) (host : hosts.Journal) (blocks : ℕ) (state : State) (hc : HostConducted room host) where
  lines_are : on_link (lines_in (ended_of host)) ++ on_link (lines_now host) ≡ on_link (hosts.cut_of host)
  lines_are = sym (link_append (lines_in (ended_of host)) (lines_now host)) ∙ ap on_link (sym (epochs_are room host hc).lines_are)

  front_of : (bytes rest : List ℕ) → hosts.stored_of host ≡ bytes ++ rest → bytes ++ (rest ++ hosts.to_store host) ≡ on_link (hosts.cut_of host)
  front_of bytes rest e = sym (append_assoc bytes rest (hosts.to_store host)) ∙ ap (λ (t : List ℕ). t ++ hosts.to_store host) (sym e) ∙ stored_is room host hc

  -- as many epochs are closed as ended
  same_ends : (es : NewestFirst Closed) → (m : Meets host es) → m.behind.more ≡ [] → AreSame (ended_of host) es
  same_ends es m none =
      let e = ending room host hc in
      let told : counts_of answers_given es ≡ totals (ended_of host) = m.behind.are ∙ ap (λ (ns : List ℕ). ns ++ totals (ended_of host)) none in
      let long : length (counts_of bytes_taken es) ≡ length e.1 =
      (let a = ap length told in let b = length-counts answers_given es in let d = length-counts bytes_taken es in let f = length-totals (ended_of host) in let g = length-ended e.1 (ended_of host) e.3 in omega arith) in
      let ends = same_end (hosts.marks_of host) m.left (counts_of bytes_taken es) e.0 e.1 m.marks_are e.2 long in
      same_by (on_link (hosts.cut_of host)) (ended_of host) es e.1 (m.rest ++ hosts.to_store host) (on_link (lines_now host)) e.3 ends told (front_of (taken_in (closed_log es)) m.rest m.front) lines_are

  all_ended : (es : NewestFirst Closed) → AreClosed blocks state es → (m : Meets host es) → m.behind.more ≡ [] → DropFew room es
  all_ended es c m none = each_few room blocks state (ended_of host) es c (same_ends es m none) (epochs_are room host hc).over

  pub meets_same : (es : NewestFirst Closed) → (m : Meets host es) → length (ended_of host) ≡ length es → AreSame (ended_of host) es
  meets_same es m many =
      let all = ap length m.behind.are ∙ length-append m.behind.more (totals (ended_of host)) in
      let counts = length-counts answers_given es in
      let ended = length-totals (ended_of host) in
      same_ends es m (none_by_length m.behind.more (omega (arith, many, all, counts, ended)))

  -- one more is closed: the latest mark is its own, and has no Banner yet
  one_closed : (x : ℕ) (e : Closed) (es : NewestFirst Closed) → AreClosed blocks state (e ∷ es) → (m : Meets host (e ∷ es)) → m.behind.more ≡ x ∷ [] → DropFew room (e ∷ es)
  one_closed x e es c m one =
      let h = ending room host hc in
      let told : answers_given (link_steps (closed_log (e ∷ es))) ∷ counts_of answers_given es ≡ x ∷ totals (ended_of host) = m.behind.are ∙ ap (λ (ns : List ℕ). ns ++ totals (ended_of host)) one in
      let many : length es ≡ length (ended_of host) = (let a = ap length told in let b = length-counts answers_given es in let f = length-totals (ended_of host) in omega arith) in
      let counts = length-counts bytes_taken (e ∷ es) in
      let all = ap length m.marks_are ∙ length-append m.left (counts_of bytes_taken (e ∷ es)) in
      let ended = ap length h.2 ∙ length-append h.0 h.1 in
      let ends = length-ended h.1 (ended_of host) h.3 in
      let few = h.4 in
      let none_left : m.left ≡ [] = none_by_length m.left (omega arith) in
      let marks : hosts.marks_of host ≡ bytes_taken (link_steps (closed_log (e ∷ es))) ∷ counts_of bytes_taken es = m.marks_are ∙ ap (λ (ns : List ℕ). ns ++ counts_of bytes_taken (e ∷ es)) none_left in
      let earlier = same_end (hosts.marks_of host) (bytes_taken (link_steps (closed_log (e ∷ es))) ∷ []) (counts_of bytes_taken es) h.0 h.1 marks h.2 (let d = length-counts bytes_taken es in omega arith) in
      let front = front_of (taken_in (closed_log (e ∷ es))) m.rest m.front in
      let same = same_by (on_link (hosts.cut_of host)) (ended_of host) es h.1 (taken_closed e ++ (m.rest ++ hosts.to_store host)) (on_link (lines_now host)) h.3 earlier (ap (drop 1) told)
      (sym (append_assoc (taken_in (closed_log es)) (taken_closed e) (m.rest ++ hosts.to_store host)) ∙ ap (λ (t : List ℕ). t ++ (m.rest ++ hosts.to_store host)) (sym (bytes_more e es)) ∙ front) lines_are in
      let w = waits room host hc (let a = ap length marks in omega arith) (let a = ap length marks in let d = length-counts bytes_taken es in omega arith) in
      let at : latest (hosts.marks_of host) ≡ bytes_taken (link_steps (closed_log (e ∷ es))) = ap latest marks in
      let long = ap length m.front ∙ length-append (taken_in (closed_log (e ∷ es))) m.rest in
      let bytes = same_taken (closed_log (e ∷ es)) in
      let end = w.at_end in
      let no_rest : m.rest ≡ [] = none_by_length m.rest (omega arith) in
      let whole : taken_in (closed_log (e ∷ es)) ≡ on_link (lines_in (ended_of host) ++ lines_now host) =
      sym (m.front ∙ ap (λ (t : List ℕ). taken_in (closed_log (e ∷ es)) ++ t) no_rest ∙ append-nil (taken_in (closed_log (e ∷ es)))) ∙ w.whole ∙ ap on_link (epochs_are room host hc).lines_are in
      let above : answers_in (hosts.got_of host) ≤ x = (subst (AllByRecursion (λ n. answers_in (hosts.got_of host) ≤ n)) one m.behind.above).0 in
      let got = ap answers_in (epochs_are room host hc).replies_are ∙ answers_on (replies_in (ended_of host)) (got_now host) in
      let more = told_more blocks state e es c in
      let before = same_told (ended_of host) es same in
      let is : answers_given (link_steps (closed_log (e ∷ es))) ≡ x = cc in
      let enough : answers_in (got_now host) ≤ answers_in (answered_of e.journal) = omega (arith, above, got, more, before, is) in (
        few_dropped room e (lines_now host) (answers_in (got_now host)) (own_bytes (ended_of host) (lines_now host) e es same whole) enough w.small,
        each_few room blocks state (ended_of host) es c.1 same (epochs_are room host hc).over,
      )

  -- no more are
  pub meets_few : (es : NewestFirst Closed) → AreClosed blocks state es → Meets host es → DropFew room es
  meets_few [] c m = tt
  meets_few (e ∷ es) c m = by_more m.behind.more refl
    where
      by_more : (more : List ℕ) → m.behind.more ≡ more → DropFew room (e ∷ es)
      by_more [] is = all_ended (e ∷ es) c m is
      by_more (x ∷ []) is = one_closed x e es c m is
      by_more (x ∷ y ∷ more) is = absurd (
          let h = ending room host hc in
          let a = ap length m.behind.are ∙ length-append m.behind.more (totals (ended_of host)) in let b = ap length is in
          let d = length-counts answers_given (e ∷ es) in let k = length-counts bytes_taken (e ∷ es) in let f = length-totals (ended_of host) in
          let g = length-ended h.1 (ended_of host) h.3 in let few = h.4 in
          let i = ap length h.2 ∙ length-append h.0 h.1 in let j = ap length m.marks_are ∙ length-append m.left (counts_of bytes_taken (e ∷ es)) in omega arith)
