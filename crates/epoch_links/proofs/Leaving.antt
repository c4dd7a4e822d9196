-- Of what was sent and is not taken: it has one reset at most, and nothing behind it.
use Rattle.std.proofs.Common.{◌≡◌, ◌⊎◌, inl, inr, ℕ, ◌+◌, Bool, List, [], ◌∷◌, ◌++◌, length, map, drop, reverse, length-append, append-nil, append_assoc, refl, sym, ap, ◌∙◌, arith}
use Rattle.std.proofs.lemmas.List.{length-reverse, append_cancel_left}
use Rattle.run_rules.specs.declared.State.{State}
use Rattle.run_rules.specs.Lines.{whole_lines}
use Rattle.run_texts.specs.Fronts.{BeginsWith}
use Rattle.run_texts.specs.Sent.{Sent, behind_reset, resets_in, sent_of}
use Rattle.run_texts.specs.Sent.Sent.{a_text, a_stop}
use Rattle.serial_ring.specs.Marks.{Mark}
use Rattle.stream_host.specs.Conduct.{Conducted as HostConducted}
use Rattle.host_journal.specs.Steps.{Journal as HostJournal, cut_of, raw_of}
use Rattle.board_epochs.specs.Epochs.{Epochs, AreEpochs}
use Rattle.epoch_links.specs.Pieces.{Pieces, ends_behind, texts_in, items_closed, items_in, bytes_of, stops_behind, IsFrontOf, IsAllOf}
use Rattle.epoch_links.specs.Taken.{taken_by}
use Rattle.epoch_links.specs.Links.{AreLinked, AreLinkedOver, AwaitsBanners, HasBanners, EndsEpochs, EndAtMarks}
use Rattle.epoch_links.proofs.Awaiting.{awaits, got_or_all}
use Rattle.epoch_links.proofs.Carrying.{same_rest}
use Rattle.epoch_links.proofs.Cutting.{cut_at_marks, length-ends, none_by_length, one_of_each}
use Rattle.epoch_links.proofs.Ending.{ends_epochs}
use Rattle.epoch_links.proofs.Sending.{bytes_append, sends_front}

-- ---- the resets of some lines

stops_append : (n : ℕ) (s t : List Sent) → stops_behind n (s ++ t) ≡ stops_behind n s ++ stops_behind (n + length (bytes_of s)) t
stops_append n [] t = let e : n ≡ n + 0 = omega arith in ap (λ (k : ℕ). stops_behind k t) e
stops_append n (a_text line ∷ s) t =
    let e : n + (length line + 1) + length (bytes_of s) ≡ n + length (bytes_of (a_text line ∷ s)) =
    (let a = length-append (line ++ 10 ∷ []) (bytes_of s) in let b = length-append line (10 ∷ []) in omega arith) in
    stops_append (n + (length line + 1)) s t ∙ ap (λ (k : ℕ). stops_behind (n + (length line + 1)) s ++ stops_behind k t) e
stops_append n (a_stop ∷ s) t = ap (λ (ns : List ℕ). n ∷ ns) (stops_append n s t)

count_stops : (n : ℕ) (s : List Sent) → length (stops_behind n s) ≡ resets_in s
count_stops n [] = refl
count_stops n (a_text line ∷ s) = count_stops (n + (length line + 1)) s
count_stops n (a_stop ∷ s) = let i = count_stops n s in omega arith

resets_append : (s t : List Sent) → resets_in (s ++ t) ≡ resets_in s + resets_in t
resets_append [] t = omega arith
resets_append (a_text line ∷ s) t = resets_append s t
resets_append (a_stop ∷ s) t = let i = resets_append s t in omega arith

no_resets : (lines : List (List ℕ)) → resets_in (map a_text lines) ≡ 0
no_resets [] = refl
no_resets (line ∷ lines) = no_resets lines

resets_closed : (ps : List (List ℕ)) → resets_in (items_closed ps) ≡ length ps
resets_closed [] = refl
resets_closed (p ∷ ps) =
    let a = resets_append (texts_in p) (a_stop ∷ items_closed ps) in let n = no_resets (whole_lines p) in let i = resets_closed ps in omega arith

resets_items : (p : Pieces) → resets_in (items_in p) ≡ length p.closed
resets_items p = let a = resets_append (items_closed p.closed) (texts_in p.last) in let c = resets_closed p.closed in let n = no_resets (whole_lines p.last) in omega arith

-- ---- behind the last reset

none_behind : (n : ℕ) (s : List Sent) → stops_behind n s ≡ [] → behind_reset s ≡ []
none_behind n [] none = refl
none_behind n (a_text line ∷ s) none = none_behind (n + (length line + 1)) s none
none_behind n (a_stop ∷ s) none = absurd cc

empty : (n : ℕ) (s : List Sent) → stops_behind n s ≡ [] → length (bytes_of s) ≡ 0 → s ≡ []
empty n [] none few = refl
empty n (a_text line ∷ s) none few = absurd (let a = length-append (line ++ 10 ∷ []) (bytes_of s) in let b = length-append line (10 ∷ []) in omega arith)
empty n (a_stop ∷ s) none few = absurd cc

last_behind : (n m : ℕ) (s : List Sent) → stops_behind n s ≡ m ∷ [] → m ≡ n + length (bytes_of s) → behind_reset s ≡ []
last_behind n m [] one at = refl
last_behind n m (a_text line ∷ s) one at =
    last_behind (n + (length line + 1)) m s one (let a = length-append (line ++ 10 ∷ []) (bytes_of s) in let b = length-append line (10 ∷ []) in omega arith)
last_behind n m (a_stop ∷ s) one at = let same : n ≡ m = cc in empty n s (ap (drop 1) one) (omega arith)

none_of : (xs ys : List ℕ) → xs ≡ xs ++ ys → ys ≡ []
none_of xs ys e = append_cancel_left xs ys [] (sym e ∙ sym (append-nil xs))

-- ---- what is left

module _ (sent : List Sent) (stored marks : List ℕ) (p : Pieces) (f : IsFrontOf sent stored marks) (e : EndAtMarks stored marks p) (b : BeginsWith sent (items_in p)) where
  -- the resets that are left are those that have ended no epoch
  left_stops : stops_behind (0 + length (bytes_of (items_in p))) b.rest ≡ e.left ++ f.unmarked
  left_stops =
      same_rest (stops_behind 0 (items_in p)) (ends_behind 0 p.closed) (stops_behind (0 + length (bytes_of (items_in p))) b.rest) (e.left ++ f.unmarked)
      (sym (stops_append 0 (items_in p) b.rest) ∙ ap (stops_behind 0) (sym b.is) ∙ f.marks_are ∙ ap (λ (ns : List ℕ). ns ++ f.unmarked) e.are ∙ append_assoc (ends_behind 0 p.closed) e.left f.unmarked)
      (count_stops 0 (items_in p) ∙ resets_items p ∙ sym (length-ends 0 p.closed))

  all_bytes : length (bytes_of sent) ≡ 0 + length (bytes_of (items_in p)) + length (bytes_of b.rest)
  all_bytes = let a = ap (λ (s : List Sent). length (bytes_of s)) b.is in let d = ap length (bytes_append (items_in p) b.rest) in let l = length-append (bytes_of (items_in p)) (bytes_of b.rest) in omega (arith, a, d, l)

  by_left : (left unmarked : List ℕ) → e.left ≡ left → f.unmarked ≡ unmarked → (left ++ unmarked ≡ []) ⊎ (left ++ unmarked ≡ length (bytes_of sent) ∷ []) → behind_reset b.rest ≡ []
  by_left left unmarked is un (inl none) = none_behind (0 + length (bytes_of (items_in p))) b.rest (left_stops ∙ ap (λ (ns : List ℕ). ns ++ f.unmarked) is ∙ ap (λ (ns : List ℕ). left ++ ns) un ∙ none)
  by_left left unmarked is un (inr one) =
      last_behind (0 + length (bytes_of (items_in p))) (length (bytes_of sent)) b.rest (left_stops ∙ ap (λ (ns : List ℕ). ns ++ f.unmarked) is ∙ ap (λ (ns : List ℕ). left ++ ns) un ∙ one) all_bytes

  -- one at most, behind which no line comes
  pub leaves : (e.left ≡ []) ⊎ IsAllOf sent stored marks → behind_reset b.rest ≡ []
  leaves (inl none) = by_unmarked f.waits
    where
      by_unmarked : (f.unmarked ≡ []) ⊎ (f.unmarked ≡ length (bytes_of sent) ∷ []) → behind_reset b.rest ≡ []
      by_unmarked (inl nothing) = by_left [] [] none nothing (inl refl)
      by_unmarked (inr one) = by_left [] (length (bytes_of sent) ∷ []) none one (inr refl)
  leaves (inr all) = by_few e.few
    where
      none : f.unmarked ≡ []
      none = none_of (reverse marks) f.unmarked (sym all.marks_are ∙ f.marks_are)

      by_few : (e.left ≡ []) ⊎ (e.left ≡ length stored ∷ []) → behind_reset b.rest ≡ []
      by_few (inl nothing) = by_left [] [] nothing none (inl refl)
      by_few (inr one) = by_left (length stored ∷ []) [] one none (inr (ap (λ (bytes : List ℕ). length bytes ∷ []) (sym all.bytes_are)))

pub left_behind : (sent : List Sent) (stored marks at_got taken at_answers : List ℕ) (loaded : List Mark) (shut closed : Bool) (p : Pieces)
    → IsFrontOf sent stored marks → AreLinked stored marks at_got shut taken loaded at_answers closed → AwaitsBanners stored marks at_got → EndsEpochs p taken loaded at_answers
    → HasBanners marks at_got ⊎ IsAllOf sent stored marks → (b : BeginsWith sent (items_in p)) → behind_reset b.rest ≡ []
left_behind sent stored marks at_got taken at_answers loaded shut closed p f k w ends which b = leaves sent stored marks p f e b (by_which which)
  where
    e : EndAtMarks stored marks p
    e = cut_at_marks stored marks at_got taken at_answers loaded shut closed p k w ends

    by_which : HasBanners marks at_got ⊎ IsAllOf sent stored marks → (e.left ≡ []) ⊎ IsAllOf sent stored marks
    by_which (inl each) =
        let n = one_of_each stored marks at_got taken at_answers loaded shut closed p k w ends each in
        let l = ap length e.are ∙ length-append (ends_behind 0 p.closed) e.left in let m = length-reverse marks in let c = length-ends 0 p.closed in
        inl (none_by_length e.left (omega (arith, n, l, m, c)))
    by_which (inr all) = inr all

pub left_over : (room : ℕ) (host : HostJournal) (blocks : ℕ) (state : State) (r : Epochs) → HostConducted room host → AreEpochs blocks state r → AreLinkedOver host r → (b : BeginsWith (sent_of (cut_of host) (raw_of host)) (items_in (taken_by r))) → behind_reset b.rest ≡ []
left_over room host blocks state r c are linked b = left_behind _ _ _ _ _ _ _ _ _ (taken_by r) (sends_front room host c) linked (awaits room host c) (ends_epochs blocks state r are) (got_or_all room host c) b
