-- What was taken of a link is what was sent, epoch by epoch.
use Rattle.std.proofs.Common.{◌≡◌, ◌⊎◌, inl, inr, ℕ, ◌+◌, ◌≤◌, Bool, true, false, List, [], ◌∷◌, ◌++◌, length, reverse, length-append, append-nil, append_assoc, sym, ap, ◌∙◌, subst, arith}
use Rattle.std.proofs.lemmas.List.{length-reverse, append_cancel_left}
use Rattle.run_rules.specs.declared.State.{State}
use Rattle.run_texts.specs.Fronts.{BeginsWith}
use Rattle.run_texts.specs.Sent.{Sent, sent_of}
use Rattle.serial_ring.specs.Marks.{Mark}
use Rattle.stream_host.specs.Conduct.{Conducted as HostConducted}
use Rattle.host_journal.specs.Steps.{Journal as HostJournal, stored_of, marks_of, is_shut, has_limit, due_of, cut_of, raw_of, resets_of}
use Rattle.stream_host.proofs.Raised.{IsMarked, marks_are}
use Rattle.stream_host.proofs.Raising.{none_due_shut}
use Rattle.board_journal.specs.Ports.{has_closed_in}
use Rattle.board_epochs.specs.Epochs.{Epochs, AreEpochs, log_of}
use Rattle.epoch_links.specs.Pieces.{Pieces, joined, ends_behind, items_in, bytes_of, IsFrontOf, IsAllOf}
use Rattle.epoch_links.specs.Taken.{taken_by}
use Rattle.epoch_links.specs.Links.{AreLinked, AreLinkedOver, EndsEpochs, EndAtMarks}
use Rattle.epoch_links.proofs.Awaiting.{awaits, all_got}
use Rattle.epoch_links.proofs.Carrying.{BeginsPast, Carries, carried}
use Rattle.epoch_links.proofs.Cutting.{none_by_length, cut_at_marks, one_of_each, length-ends}
use Rattle.epoch_links.proofs.Ending.{ends_epochs}
use Rattle.epoch_links.proofs.Sending.{sends_front, sends_all}

-- a reset that has no mark stands behind all bytes
unmarked_past : (bytes all : ℕ) (unmarked : List ℕ) → bytes ≤ all → (unmarked ≡ []) ⊎ (unmarked ≡ all ∷ []) → BeginsPast bytes unmarked
unmarked_past bytes all unmarked few (inl none) = subst (BeginsPast bytes) (sym none) tt
unmarked_past bytes all unmarked few (inr one) = subst (BeginsPast bytes) (sym one) few

-- what comes behind the pieces of a front
past_all : (bytes stored : ℕ) (left more : List ℕ) → bytes ≤ stored → (left ≡ []) ⊎ (left ≡ stored ∷ []) → BeginsPast stored more → BeginsPast bytes (left ++ more)
past_all bytes stored left [] few (inl none) past = subst (λ (ns : List ℕ). BeginsPast bytes (ns ++ [])) (sym none) tt
past_all bytes stored left (m ∷ ms) few (inl none) past = subst (λ (ns : List ℕ). BeginsPast bytes (ns ++ m ∷ ms)) (sym none) (let p : stored ≤ m = past in omega arith)
past_all bytes stored left more few (inr one) past = subst (λ (ns : List ℕ). BeginsPast bytes (ns ++ more)) (sym one) few

pub carries : (sent : List Sent) (stored marks at_got taken at_answers : List ℕ) (loaded : List Mark) (shut closed : Bool) (p : Pieces)
    → (f : IsFrontOf sent stored marks) → (k : AreLinked stored marks at_got shut taken loaded at_answers closed) → EndsEpochs p taken loaded at_answers → (e : EndAtMarks stored marks p)
    → Carries (k.rest ++ f.more) (e.left ++ f.unmarked) sent (items_in p)
carries sent stored marks at_got taken at_answers loaded shut closed p f k b e =
    carried sent [] 0 p.closed p.last (k.rest ++ f.more) (e.left ++ f.unmarked) tt f.lines
    (sym (append_assoc (joined p) k.rest f.more) ∙ ap (λ (bytes : List ℕ). (bytes ++ k.rest) ++ f.more) (sym b.whole) ∙ ap (λ (bytes : List ℕ). bytes ++ f.more) (sym k.front) ∙ sym f.bytes_are)
    (f.marks_are ∙ ap (λ (ns : List ℕ). ns ++ f.unmarked) e.are ∙ append_assoc (ends_behind 0 p.closed) e.left f.unmarked)
    (past_all (0 + length (joined p)) (length stored) e.left f.unmarked few e.few (unmarked_past (length stored) (length (bytes_of sent)) f.unmarked (let a = ap length f.bytes_are ∙ length-append stored f.more in omega (arith, a)) f.waits))
  where
    few : 0 + length (joined p) ≤ length stored
    few = let a = ap length k.front ∙ length-append taken k.rest in let c = ap length b.whole in omega (arith, a, c)

pub fronts : (sent : List Sent) (stored marks at_got taken at_answers : List ℕ) (loaded : List Mark) (shut closed : Bool) (p : Pieces)
    → IsFrontOf sent stored marks → AreLinked stored marks at_got shut taken loaded at_answers closed → EndsEpochs p taken loaded at_answers → EndAtMarks stored marks p
    → BeginsWith sent (items_in p)
fronts sent stored marks at_got taken at_answers loaded shut closed p f k b e =
    let c = carries sent stored marks at_got taken at_answers loaded shut closed p f k b e in record { rest = c.left; is = c.is }

none_of : (xs ys : List ℕ) → xs ≡ xs ++ ys → ys ≡ []
none_of xs ys e = append_cancel_left xs ys [] (sym e ∙ sym (append-nil xs))

pub wholes : (sent : List Sent) (stored marks at_got taken at_answers : List ℕ) (loaded : List Mark) (shut closed : Bool) (p : Pieces)
    → IsFrontOf sent stored marks → IsAllOf sent stored marks → AreLinked stored marks at_got shut taken loaded at_answers closed → EndsEpochs p taken loaded at_answers → EndAtMarks stored marks p
    → closed ≡ true → length marks ≤ length p.closed → sent ≡ items_in p
wholes sent stored marks at_got taken at_answers loaded shut closed p f all k b e found many =
    let c = carries sent stored marks at_got taken at_answers loaded shut closed p f k b e in
    let no_more : f.more ≡ [] = none_of stored f.more (sym all.bytes_are ∙ f.bytes_are) in
    let no_mark : f.unmarked ≡ [] = none_of (reverse marks) f.unmarked (sym all.marks_are ∙ f.marks_are) in
    let l = ap length e.are ∙ length-append (ends_behind 0 p.closed) e.left in
    let m = length-reverse marks in
    let n = length-ends 0 p.closed in
    let no_left : e.left ≡ [] = none_by_length e.left (omega arith) in
    let nothing = c.all
    (ap (λ (xs : List ℕ). xs ++ f.more) (k.all found) ∙ no_more)
    (ap (λ (xs : List ℕ). xs ++ f.unmarked) no_left ∙ no_mark) in
    c.is ∙ ap (λ (s : List Sent). items_in p ++ s) nothing ∙ append-nil (items_in p)

-- ---- of a host's journal and a board's epochs

pub cut_over : (room : ℕ) (host : HostJournal) (blocks : ℕ) (state : State) (r : Epochs) → HostConducted room host → AreEpochs blocks state r → AreLinkedOver host r → EndAtMarks (stored_of host) (marks_of host) (taken_by r)
cut_over room host blocks state r c are linked = cut_at_marks _ _ _ _ _ _ _ _ (taken_by r) linked (awaits room host c) (ends_epochs blocks state r are)

pub front_over : (room : ℕ) (host : HostJournal) (blocks : ℕ) (state : State) (r : Epochs) → HostConducted room host → AreEpochs blocks state r → AreLinkedOver host r → BeginsWith (sent_of (cut_of host) (raw_of host)) (items_in (taken_by r))
front_over room host blocks state r c are linked = fronts _ _ _ _ _ _ _ _ _ (taken_by r) (sends_front room host c) linked (ends_epochs blocks state r are) (cut_over room host blocks state r c are linked)

-- a host that has closed its link has raised each reset behind its mark
all_raised : (room : ℕ) (host : HostJournal) → HostConducted room host → is_shut host ≡ true → has_limit host ≡ false → length (marks_of host) ≡ resets_of host
all_raised room host c closed calm = by_marks (marks_are room host c)
  where
    by_marks : IsMarked (length (marks_of host)) (resets_of host) (due_of host) → length (marks_of host) ≡ resets_of host
    by_marks (inl same) = same
    by_marks (inr more) = absurd (let e = sym (none_due_shut room host c closed calm) ∙ more.1 in cc)

pub whole_over : (room : ℕ) (host : HostJournal) (blocks : ℕ) (state : State) (r : Epochs) → HostConducted room host → AreEpochs blocks state r → AreLinkedOver host r → has_limit host ≡ false → has_closed_in (log_of r) ≡ true
    → (sent_of (cut_of host) (raw_of host) ≡ items_in (taken_by r)) × (length (taken_by r).closed ≡ resets_of host)
whole_over room host blocks state r c are linked calm found =
    let closed : is_shut host ≡ true = linked.closes found in
    let b = ends_epochs blocks state r are in
    let each = one_of_each _ _ _ _ _ _ _ _ (taken_by r) linked (awaits room host c) b (all_got room host c closed calm) in
    let e = cut_over room host blocks state r c are linked in
    (wholes _ _ _ _ _ _ _ _ _ (taken_by r) (sends_front room host c) (sends_all room host c closed calm) linked b e found (omega (arith, each)), each ∙ all_raised room host c closed calm)
