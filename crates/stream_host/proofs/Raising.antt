-- What is raised is scanned, but for the resumes of the host's own.
use Rattle.std.proofs.Common.{◌≡◌, ℕ, ◌+◌, ◌*◌, ◌≤◌, ◌<◌, ◌⊎◌, inl, inr, Bool, true, false, cond, List, [], ◌∷◌, ◌++◌, length, drop, nat_eq, nat_lt, refl, sym, ap, ◌∙◌, arith, append-nil, append_assoc, length-append}
use Rattle.std.specs.List.{count_by, filter, flat_map}
use Rattle.std.proofs.lemmas.Bool.Decides.{nat_tests}
use Rattle.std.proofs.lemmas.Grind.{flat_map-append}
use Rattle.std.proofs.lemmas.List.Sums.{sum_by-append, length-filter, count_by-le-length}
use Rattle.std.proofs.Math.Seq.{drop-append_seam}
use Rattle.code_table.specs.Tables.{query}
use Rattle.gcode_words.specs.Comments.{comment_after, begins_comment}
use Rattle.gcode_words.specs.declared.stripping.Comment.{Comment}
use Rattle.gcode_words.specs.declared.stripping.Comment.TheVariants.{Outside, Paren, Semicolon}
use Rattle.gcode_words.specs.Stripping.{is_realtime, realtime, taken_by}
use Rattle.gcode_words.specs.declared.stripping.Stripped.{Stripped}
use Rattle.std.specs.declared.option.Option.{Option}
use Rattle.stream_host.specs.Hosts.{KeepsDue}
use Rattle.gcode_words.proofs.Scanning.{shown}
use Rattle.gcode_words.proofs.Fed.{realtime-append}
use Rattle.run_rules.proofs.Cutting.{lines_are, some_bytes}
use Rattle.host_journal.specs.Jobs.{resume, is_reset, served, served_in}
use Rattle.host_journal.specs.Steps.{Journal, port_log, got_of, has_limit, is_shut, marks_of, resets_of, scanned_of, raw_of, cut_of, to_store, due_of, more_served, empty_polls, polls_of, raises_of, line_raises_of, resumes_of, resumes_next, all_empty_in, is_attended, resumes_behind}
use Rattle.host_journal.specs.Steps.PortStep.{stored, dropped, marked, raised, got, no_reply, shut}
use Rattle.host_journal.specs.Steps.Step.{at_port, read_some, read_end, read_failed, scanned, line_over, wrote, gave_up, turned, attends}
use Rattle.stream_host.specs.Conduct.{Conducted, AreAnswered, MayStore, Waits, waits_for_lines}
use Rattle.host_journal.specs.Ports.{queries_in}
use Rattle.stream_host.specs.Ran.{AreRaised}
use Rattle.stream_host.proofs.Links.{realtime_nil}
use Rattle.stream_host.proofs.Keeping.{IsCut, cut_is, open_link, calm_before, calm_one}

-- ---- the realtime bytes of a line

pub served_nil : served [] ≡ []
served_nil = realtime_nil

more_of : List ℕ → ℕ → List ℕ
more_of raw b = filter is_realtime (shown (comment_after raw) (b ∷ []))

served_more : (raw : List ℕ) (b : ℕ) → served (raw ++ b ∷ []) ≡ served raw ++ more_of raw b
unfolding more_of
served_more raw b = realtime-append raw (b ∷ [])

more_is : (raw : List ℕ) (b : ℕ) → more_served raw b ≡ more_of raw b
more_is raw b = ap (drop (length (served raw))) (served_more raw b) ∙ drop-append_seam (served raw) (more_of raw b)

-- the line has those that it had, and one byte's more
pub served_on : (raw : List ℕ) (b : ℕ) → served raw ++ more_served raw b ≡ served (raw ++ b ∷ [])
served_on raw b = ap (λ (t : List ℕ). served raw ++ t) (more_is raw b) ∙ sym (served_more raw b)

-- what a line has more with a byte is what its realtime bytes have more
pub more_by : (raw : List ℕ) (b : ℕ) (more : List ℕ) → served (raw ++ b ∷ []) ≡ served raw ++ more → more_served raw b ≡ more
more_by raw b more is = ap (drop (length (served raw))) is ∙ drop-append_seam (served raw) more

-- so it is by what a stripper has taken of the byte
pub due_more : (raw : List ℕ) (b : ℕ) (a : Stripped) (d : Option ℕ) → realtime (raw ++ b ∷ []) ≡ realtime raw ++ taken_by a → KeepsDue d (taken_by a) → KeepsDue d (more_served raw b)
due_more raw b a d taken due = due ∙ sym (more_by raw b (taken_by a) taken)

-- a line feed is none
pub none_at_lf : (raw : List ℕ) (b : ℕ) → nat_eq b 10 ≡ true → more_served raw b ≡ []
unfolding more_of
none_at_lf raw b e = more_is raw b ∙ ap (λ c. filter is_realtime (shown (comment_after raw) (c ∷ []))) (lf b e) ∙ by_comment (comment_after raw)
  where
    lf : (b : ℕ) → nat_eq b 10 ≡ true → b ≡ 10
    lf b e = grind (arith, nat_tests)

    by_comment : (s : Comment) → filter is_realtime (shown s (10 ∷ [])) ≡ []
    by_comment Outside = refl
    by_comment Paren = refl
    by_comment Semicolon = refl

-- ---- the polls

pub is_enough : (n : ℕ) → nat_eq n empty_polls ≡ true → n ≡ empty_polls
is_enough n e = grind (arith, nat_tests)

pub is_fewer : (n : ℕ) → n ≤ empty_polls → nat_eq n empty_polls ≡ false → n < empty_polls
is_fewer n few e = grind (arith, nat_tests)

-- nothing is resumed for a sender that stands by, else at so many polls
no_resume : (attended closed : Bool) (n : ℕ) → (attended ≡ false) ⊎ (closed ≡ true) → resumes_behind attended closed n ≡ false → nat_eq n empty_polls ≡ false
no_resume true true n by e = e
no_resume true false n (inl by) e = absurd cc
no_resume true false n (inr by) e = absurd cc
no_resume false closed n by e = e

pub resumes_at : (attended closed : Bool) (n : ℕ) → resumes_behind attended closed n ≡ true → n ≡ empty_polls
resumes_at true true n e = is_enough n e
resumes_at true false n e = absurd cc
resumes_at false closed n e = is_enough n e

few_or_none : (t : Bool) (n : ℕ) → n ≤ empty_polls → cond t 0 n ≤ empty_polls
few_or_none true n few = omega arith
few_or_none false n few = few

-- the polls behind the closing of the link
few_closed : (t : Bool) (n : ℕ) → (t ≡ false → n ≤ empty_polls) → cond t 0 n ≤ empty_polls
few_closed true n few = omega arith
few_closed false n few = few refl

-- no more than so many polls in a row find no reply before the host resumes, where no sender stands by
pub few_polls : (room : ℕ) (h : Journal) → Conducted room h → (is_attended h ≡ false) ⊎ (is_shut h ≡ true) → polls_of h ≤ empty_polls
few_polls room [] c by = omega arith
few_polls room (at_port (stored b) ∷ h) c by = few_polls room h c.1 by
few_polls room (at_port (dropped b) ∷ h) c by = absurd c.0
few_polls room (at_port marked ∷ h) c by = few_polls room h c.1 by
few_polls room (at_port (raised b down) ∷ h) c by = few_or_none (resumes_next h) (polls_of h) (few_polls room h c.1 by)
few_polls room (at_port (got r) ∷ h) c by = omega arith
few_polls room (at_port no_reply ∷ h) c by = let m = is_fewer (polls_of h) (few_polls room h c.1 by) (no_resume (is_attended h) (is_shut h) (polls_of h) by c.0.rested) in omega arith
few_polls room (at_port shut ∷ h) c by = few_closed (is_attended h) (polls_of h) (λ e. few_polls room h c.1 (inl e))
few_polls room (read_some bytes ∷ h) c by = few_polls room h c.1 by
few_polls room (read_end ∷ h) c by = few_polls room h c.1 by
few_polls room (read_failed ∷ h) c by = few_polls room h c.1 by
few_polls room (scanned b ∷ h) c by = few_polls room h c.1 by
few_polls room (line_over ∷ h) c by = few_polls room h c.1 by
few_polls room (wrote n ∷ h) c by = few_polls room h c.1 by
few_polls room (gave_up ∷ h) c by = few_polls room h c.1 by
few_polls room (turned t ∷ h) c by = few_polls room h c.1 by
few_polls room (attends ∷ h) c by = let e = ap polls_of c.0 in omega arith

alone_by : (attended closed : Bool) (n resumes : ℕ) → attended ≡ true → closed ≡ false → resumes ≡ 0 → cond (resumes_behind attended closed n) (resumes + 1) resumes ≡ 0
alone_by true false n resumes a s none = none
alone_by true true n resumes a s none = absurd cc
alone_by false closed n resumes a s none = absurd cc

-- while the link is open, a host whose sender stands by resumes nothing
pub never_resumes : (room : ℕ) (h : Journal) → Conducted room h → is_attended h ≡ true → is_shut h ≡ false → resumes_of h ≡ 0
never_resumes room [] c a s = refl
never_resumes room (at_port (stored b) ∷ h) c a s = never_resumes room h c.1 a s
never_resumes room (at_port (dropped b) ∷ h) c a s = absurd c.0
never_resumes room (at_port marked ∷ h) c a s = never_resumes room h c.1 a s
never_resumes room (at_port (raised b down) ∷ h) c a s = alone_by (is_attended h) (is_shut h) (polls_of h) (resumes_of h) a s (never_resumes room h c.1 a s)
never_resumes room (at_port (got r) ∷ h) c a s = never_resumes room h c.1 a s
never_resumes room (at_port no_reply ∷ h) c a s = never_resumes room h c.1 a s
never_resumes room (at_port shut ∷ h) c a s = absurd cc
never_resumes room (read_some bytes ∷ h) c a s = never_resumes room h c.1 a s
never_resumes room (read_end ∷ h) c a s = never_resumes room h c.1 a s
never_resumes room (read_failed ∷ h) c a s = never_resumes room h c.1 a s
never_resumes room (scanned b ∷ h) c a s = never_resumes room h c.1 a s
never_resumes room (line_over ∷ h) c a s = never_resumes room h c.1 a s
never_resumes room (wrote n ∷ h) c a s = never_resumes room h c.1 a s
never_resumes room (gave_up ∷ h) c a s = never_resumes room h c.1 a s
never_resumes room (turned t ∷ h) c a s = never_resumes room h c.1 a s
never_resumes room (attends ∷ h) c a s = ap resumes_of c.0

rested_by : (t : Bool) (polls resumes empty : ℕ) → (t ≡ true → polls ≡ empty_polls) → empty_polls * resumes + polls ≤ empty → empty_polls * cond t (resumes + 1) resumes + cond t 0 polls ≤ empty
rested_by true polls resumes empty enough was = let n = enough refl in omega arith
rested_by false polls resumes empty enough was = was

rested_shut : (t : Bool) (polls resumes empty : ℕ) → empty_polls * resumes + polls ≤ empty → empty_polls * resumes + cond t 0 polls ≤ empty
rested_shut true polls resumes empty was = omega arith
rested_shut false polls resumes empty was = was

-- so many polls of its own stand before each resume
pub rested_is : (room : ℕ) (h : Journal) → Conducted room h → empty_polls * resumes_of h + polls_of h ≤ all_empty_in (port_log h)
rested_is room [] c = omega arith
rested_is room (at_port (stored b) ∷ h) c = rested_is room h c.1
rested_is room (at_port (dropped b) ∷ h) c = absurd c.0
rested_is room (at_port marked ∷ h) c = rested_is room h c.1
rested_is room (at_port (raised b down) ∷ h) c = rested_by (resumes_next h) (polls_of h) (resumes_of h) (all_empty_in (port_log h)) (resumes_at (is_attended h) (is_shut h) (polls_of h)) (rested_is room h c.1)
rested_is room (at_port (got r) ∷ h) c = let m = rested_is room h c.1 in omega arith
rested_is room (at_port no_reply ∷ h) c = let m = rested_is room h c.1 in omega arith
rested_is room (at_port shut ∷ h) c = rested_shut (is_attended h) (polls_of h) (resumes_of h) (all_empty_in (port_log h)) (rested_is room h c.1)
rested_is room (read_some bytes ∷ h) c = rested_is room h c.1
rested_is room (read_end ∷ h) c = rested_is room h c.1
rested_is room (read_failed ∷ h) c = rested_is room h c.1
rested_is room (scanned b ∷ h) c = rested_is room h c.1
rested_is room (line_over ∷ h) c = rested_is room h c.1
rested_is room (wrote n ∷ h) c = rested_is room h c.1
rested_is room (gave_up ∷ h) c = rested_is room h c.1
rested_is room (turned t ∷ h) c = rested_is room h c.1
rested_is room (attends ∷ h) c = rested_is room h c.1

-- ---- what is raised for the lines is what is scanned, but for what is due

-- the realtime bytes of lines, with those of one more
served_line : (lines : List (List ℕ)) (raw : List ℕ) → flat_map served (lines ++ raw ∷ []) ++ served [] ≡ flat_map served lines ++ served raw
served_line lines raw =
    ap (λ (t : List ℕ). flat_map served (lines ++ raw ∷ []) ++ t) served_nil ∙ append-nil (flat_map served (lines ++ raw ∷ []))
    ∙ flat_map-append served lines (raw ∷ []) ∙ ap (λ (t : List ℕ). flat_map served lines ++ t) (append-nil (served raw))

on_raise : (b : ℕ) (t : Bool) (gone due all : List ℕ) → (t ≡ false → due ≡ b ∷ drop 1 due) → gone ++ due ≡ all
    → cond t gone (gone ++ b ∷ []) ++ cond t due (drop 1 due) ≡ all
on_raise b true gone due all next was = was
on_raise b false gone due all next was =
    append_assoc gone (b ∷ []) (drop 1 due) ∙ ap (λ (t : List ℕ). gone ++ t) (sym (next refl)) ∙ was

on_byte : (b : ℕ) (gone due raw : List ℕ) (lines : List (List ℕ)) (t : Bool) → nat_eq b 10 ≡ t → gone ++ due ≡ flat_map served lines ++ served raw
    → gone ++ (due ++ more_served raw b) ≡ flat_map served (cond t (lines ++ raw ∷ []) lines) ++ served (cond t [] (raw ++ b ∷ []))
on_byte b gone due raw lines true e was =
    ap (λ (t : List ℕ). gone ++ (due ++ t)) (none_at_lf raw b e) ∙ ap (λ (t : List ℕ). gone ++ t) (append-nil due) ∙ was ∙ sym (served_line lines raw)
on_byte b gone due raw lines false e was =
    sym (append_assoc gone due (more_served raw b)) ∙ ap (λ (t : List ℕ). t ++ more_served raw b) was
    ∙ append_assoc (flat_map served lines) (served raw) (more_served raw b) ∙ ap (λ (t : List ℕ). flat_map served lines ++ t) (served_on raw b)

in_lines : (room : ℕ) (h : Journal) → Conducted room h → line_raises_of h ++ due_of h ≡ flat_map served (cut_of h) ++ served (raw_of h)
in_lines room [] c = sym served_nil
in_lines room (at_port (stored b) ∷ h) c = in_lines room h c.1
in_lines room (at_port (dropped b) ∷ h) c = absurd c.0
in_lines room (at_port marked ∷ h) c = in_lines room h c.1
in_lines room (at_port (raised b down) ∷ h) c =
    on_raise b (resumes_next h) (line_raises_of h) (due_of h) (flat_map served (cut_of h) ++ served (raw_of h)) c.0.next (in_lines room h c.1)
in_lines room (at_port (got r) ∷ h) c = in_lines room h c.1
in_lines room (at_port no_reply ∷ h) c = in_lines room h c.1
in_lines room (at_port shut ∷ h) c = in_lines room h c.1
in_lines room (read_some bytes ∷ h) c = in_lines room h c.1
in_lines room (read_end ∷ h) c = in_lines room h c.1
in_lines room (read_failed ∷ h) c = in_lines room h c.1
in_lines room (scanned b ∷ h) c = on_byte b (line_raises_of h) (due_of h) (raw_of h) (cut_of h) (nat_eq b 10) refl (in_lines room h c.1)
in_lines room (line_over ∷ h) c = in_lines room h c.1 ∙ sym (served_line (cut_of h) (raw_of h))
in_lines room (wrote n ∷ h) c = in_lines room h c.1
in_lines room (gave_up ∷ h) c = in_lines room h c.1
in_lines room (turned t ∷ h) c = in_lines room h c.1
in_lines room (attends ∷ h) c = in_lines room h c.1

-- the bytes that stood in a line are raised in order, and the rest is due
pub in_order : (room : ℕ) (h : Journal) → Conducted room h → line_raises_of h ++ due_of h ≡ served_in (scanned_of h)
in_order room h c = in_lines room h c ∙ by_cut (cut_is room h c)
  where
    last : (raw : List ℕ) → flat_map served (cond (nat_lt 0 (length raw)) (raw ∷ []) []) ≡ served raw
    last [] = sym served_nil
    last (x ∷ xs) = ap (λ t. flat_map served (cond t ((x ∷ xs) ∷ []) [])) (some_bytes x xs) ∙ append-nil (served (x ∷ xs))

    by_cut : IsCut h → flat_map served (cut_of h) ++ served (raw_of h) ≡ served_in (scanned_of h)
    by_cut (inl is) = sym (
        ap (flat_map served) (lines_are (scanned_of h) (cut_of h) (raw_of h) is)
        ∙ flat_map-append served (cut_of h) (cond (nat_lt 0 (length (raw_of h))) (raw_of h ∷ []) [])
        ∙ ap (λ (t : List ℕ). flat_map served (cut_of h) ++ t) (last (raw_of h))
        )
    by_cut (inr over) =
        ap (λ (t : List ℕ). flat_map served (cut_of h) ++ t) (ap served over.none ∙ served_nil) ∙ append-nil (flat_map served (cut_of h)) ∙ ap (flat_map served) (sym over.whole)

-- ---- what else is raised are resumes

pub count_on : (p : ℕ → Bool) (xs ys : List ℕ) → count_by p (xs ++ ys) ≡ count_by p xs + count_by p ys
count_on p xs ys = sum_by-append (λ x. cond (p x) 1 0) xs ys

resumed_by : (p : ℕ → Bool) (b resumes : ℕ) (t u : Bool) (all gone : List ℕ) → (t ≡ true → b ≡ resume) → p resume ≡ u
    → count_by p all ≡ count_by p gone + cond u resumes 0 → count_by p (all ++ b ∷ []) ≡ count_by p (cond t gone (gone ++ b ∷ [])) + cond u (cond t (resumes + 1) resumes) 0
resumed_by p b resumes true u all gone is pass was =
    count_on p all (b ∷ []) ∙ ap (λ c. count_by p all + count_by p (c ∷ [])) (is refl) ∙ by_pass u pass was
  where
    by_pass : (u : Bool) → p resume ≡ u → count_by p all ≡ count_by p gone + cond u resumes 0 → count_by p all + count_by p (resume ∷ []) ≡ count_by p gone + cond u (resumes + 1) 0
    by_pass true pass was = let one = ap (λ x. cond {A = ℕ} x 1 0) pass in omega arith
    by_pass false pass was = let one = ap (λ x. cond {A = ℕ} x 1 0) pass in omega arith
resumed_by p b resumes false u all gone is pass was = let a = count_on p all (b ∷ []) in let g = count_on p gone (b ∷ []) in omega arith

with_resumes : (room : ℕ) (p : ℕ → Bool) (h : Journal) → Conducted room h → count_by p (raises_of h) ≡ count_by p (line_raises_of h) + cond (p resume) (resumes_of h) 0
with_resumes room p [] c = none (p resume)
  where
    none : (u : Bool) → 0 ≡ 0 + cond u 0 0
    none true = refl
    none false = refl
with_resumes room p (at_port (stored b) ∷ h) c = with_resumes room p h c.1
with_resumes room p (at_port (dropped b) ∷ h) c = absurd c.0
with_resumes room p (at_port marked ∷ h) c = with_resumes room p h c.1
with_resumes room p (at_port (raised b down) ∷ h) c =
    resumed_by p b (resumes_of h) (resumes_next h) (p resume) (raises_of h) (line_raises_of h) c.0.resumes refl (with_resumes room p h c.1)
with_resumes room p (at_port (got r) ∷ h) c = with_resumes room p h c.1
with_resumes room p (at_port no_reply ∷ h) c = with_resumes room p h c.1
with_resumes room p (at_port shut ∷ h) c = with_resumes room p h c.1
with_resumes room p (read_some bytes ∷ h) c = with_resumes room p h c.1
with_resumes room p (read_end ∷ h) c = with_resumes room p h c.1
with_resumes room p (read_failed ∷ h) c = with_resumes room p h c.1
with_resumes room p (scanned b ∷ h) c = with_resumes room p h c.1
with_resumes room p (line_over ∷ h) c = with_resumes room p h c.1
with_resumes room p (wrote n ∷ h) c = with_resumes room p h c.1
with_resumes room p (gave_up ∷ h) c = with_resumes room p h c.1
with_resumes room p (turned t ∷ h) c = with_resumes room p h c.1
with_resumes room p (attends ∷ h) c = with_resumes room p h c.1

pub raised_is : (room : ℕ) (h : Journal) → Conducted room h → AreRaised (scanned_of h) (raises_of h) (due_of h) (resumes_of h)
raised_is room h c p =
    let w = with_resumes room p h c in let s = ap (count_by p) (in_order room h c) in let a = count_on p (line_raises_of h) (due_of h) in omega arith

-- ---- where nothing is due

pub still_none : (t : Bool) (due : List ℕ) → due ≡ [] → cond t due (drop 1 due) ≡ []
still_none true due none = none
still_none false due none = ap (drop 1) none

-- a line of which something is to be stored has nothing due
abbrev pub IsCalm : Journal → Type 0
IsCalm h = (to_store h ≡ []) ⊎ (due_of h ≡ [])

none_more : (raw : List ℕ) (b : ℕ) (due left line : List ℕ) (t : Bool) → nat_eq b 10 ≡ t → left ≡ [] → due ≡ [] → (cond t line left ≡ []) ⊎ (due ++ more_served raw b ≡ [])
none_more raw b due left line true e free none = inr (ap (λ (d : List ℕ). d ++ more_served raw b) none ∙ none_at_lf raw b e)
none_more raw b due left line false e free none = inl free

pub calm_is : (room : ℕ) (h : Journal) → Conducted room h → IsCalm h
calm_is room [] c = inl refl
calm_is room (at_port (stored b) ∷ h) c = elim (calm_is room h c.1) [
  | inl free ↦ inl (ap (drop 1) free)
  | inr none ↦ inr none
]
calm_is room (at_port (dropped b) ∷ h) c = absurd c.0
calm_is room (at_port marked ∷ h) c = calm_is room h c.1
calm_is room (at_port (raised b down) ∷ h) c = elim (calm_is room h c.1) [
  | inl free ↦ inl free
  | inr none ↦ inr (still_none (resumes_next h) (due_of h) none)
]
calm_is room (at_port (got r) ∷ h) c = calm_is room h c.1
calm_is room (at_port no_reply ∷ h) c = calm_is room h c.1
calm_is room (at_port shut ∷ h) c = calm_is room h c.1
calm_is room (read_some bytes ∷ h) c = calm_is room h c.1
calm_is room (read_end ∷ h) c = calm_is room h c.1
calm_is room (read_failed ∷ h) c = calm_is room h c.1
calm_is room (scanned b ∷ h) c = none_more (raw_of h) b (due_of h) (to_store h) _ (nat_eq b 10) refl c.0.free c.0.none_due
calm_is room (line_over ∷ h) c = inr c.0.none_due
calm_is room (wrote n ∷ h) c = calm_is room h c.1
calm_is room (gave_up ∷ h) c = calm_is room h c.1
calm_is room (turned t ∷ h) c = calm_is room h c.1
calm_is room (attends ∷ h) c = calm_is room h c.1

pub none_due_first : (room : ℕ) (b : ℕ) (h : Journal) → Conducted room h → MayStore room b h → due_of h ≡ []
none_due_first room b h c may = elim (calm_is room h c) [
  | inl free ↦ absurd (let e = sym free ∙ may.next in cc)
  | inr none ↦ none
]

pub none_due_shut : (room : ℕ) (h : Journal) → Conducted room h → is_shut h ≡ true → has_limit h ≡ false → due_of h ≡ []
none_due_shut room [] c e calm = absurd cc
none_due_shut room (at_port (stored b) ∷ h) c e calm = none_due_shut room h c.1 e calm
none_due_shut room (at_port (dropped b) ∷ h) c e calm = absurd c.0
none_due_shut room (at_port marked ∷ h) c e calm = none_due_shut room h c.1 e calm
none_due_shut room (at_port (raised b down) ∷ h) c e calm = still_none (resumes_next h) (due_of h) (none_due_shut room h c.1 e calm)
none_due_shut room (at_port (got r) ∷ h) c e calm = none_due_shut room h c.1 e (calm_before (got_of h) r calm)
none_due_shut room (at_port no_reply ∷ h) c e calm = none_due_shut room h c.1 e calm
none_due_shut room (at_port shut ∷ h) c e calm = calm_one h calm c.0.all_raised
none_due_shut room (read_some bytes ∷ h) c e calm = open_link h c.0.0.going e
none_due_shut room (read_end ∷ h) c e calm = open_link h c.0.going e
none_due_shut room (read_failed ∷ h) c e calm = open_link h c.0.going e
none_due_shut room (scanned b ∷ h) c e calm = open_link h c.0.going e
none_due_shut room (line_over ∷ h) c e calm = open_link h c.0.going e
none_due_shut room (wrote n ∷ h) c e calm = none_due_shut room h c.1 e calm
none_due_shut room (gave_up ∷ h) c e calm = none_due_shut room h c.1 e calm
none_due_shut room (turned t ∷ h) c e calm = none_due_shut room h c.1 e calm
none_due_shut room (attends ∷ h) c e calm = none_due_shut room h c.1 e calm

resumes_only : waits_for_lines resume ≡ true → ⊥
resumes_only e = cc

no_reset : is_reset resume ≡ true → ⊥
no_reset e = cc

-- a host that waits may raise no byte that is due: it is a `?` or a cancel, and a line before its own has no answer
pub early_waiting : (room : ℕ) (b : ℕ) (h : Journal) → Conducted room h → has_limit h ≡ false → Waits room h → due_of h ≡ b ∷ drop 1 (due_of h) → (is_attended h ≡ false → waits_for_lines b ≡ true → AreAnswered h) → (is_reset b ≡ true → resets_of h < length (marks_of h)) → ⊥
early_waiting room b h c calm w next after behind = by_polls (resumes_next h) refl
  where
    by_polls : (t : Bool) → resumes_next h ≡ t → ⊥
    by_polls true e = w.no_raise resume (record { resumes = λ n. refl; calm = λ fewer. calm; next = λ fewer. absurd (let n = sym e ∙ fewer in cc); after = λ a q. absurd (resumes_only q); behind_mark = λ q. absurd (no_reset q) })
    by_polls false e = w.no_raise b (record { resumes = λ n. absurd (let m = sym e ∙ n in cc); calm = λ fewer. calm; next = λ fewer. next; after = after; behind_mark = behind })

-- ---- the reports that are asked for

pub one_more : (raw : List ℕ) (b : ℕ) → length (more_served raw b) ≤ 1
unfolding more_of
one_more raw b =
    let inner = length-filter is_realtime (shown (comment_after raw) (b ∷ [])) in
    let fewer = count_by-le-length is_realtime (shown (comment_after raw) (b ∷ [])) in
    let same = ap length (more_is raw b) in
    let seen = by_comment (comment_after raw) in
    omega arith
  where
    by_test : (t : Bool) → length (cond t [] (b ∷ []) ++ []) ≤ 1
    by_test true = omega arith
    by_test false = omega arith

    by_comment : (s : Comment) → length (shown s (b ∷ [])) ≤ 1
    by_comment Outside = by_test (begins_comment b)
    by_comment Paren = omega arith
    by_comment Semicolon = omega arith

asked_by : (b n all : ℕ) (resumes t : Bool) (due : List ℕ) → nat_eq b query ≡ t → (resumes ≡ true → b ≡ resume) → (resumes ≡ false → due ≡ b ∷ drop 1 due) → n + length due ≤ all
    → cond t (n + 1) n + length (cond resumes due (drop 1 due)) ≤ all
asked_by b n all true true due is tired next was = absurd (let e = ap (λ x. nat_eq x query) (tired refl) in let g = sym is ∙ e in cc)
asked_by b n all true false due is tired next was = was
asked_by b n all false true due is tired next was = let l = ap length (next refl) in omega arith
asked_by b n all false false due is tired next was = let l = ap length (next refl) in omega arith

-- each `?` that is raised is scanned, and so is what is due
pub few_queries : (room : ℕ) (h : Journal) → Conducted room h → queries_in (port_log h) + length (due_of h) ≤ length (scanned_of h)
few_queries room [] c = omega arith
few_queries room (at_port (stored b) ∷ h) c = few_queries room h c.1
few_queries room (at_port (dropped b) ∷ h) c = absurd c.0
few_queries room (at_port marked ∷ h) c = few_queries room h c.1
few_queries room (at_port (raised b down) ∷ h) c =
    asked_by b (queries_in (port_log h)) (length (scanned_of h)) (resumes_next h) (nat_eq b query) (due_of h) refl
    (λ e. c.0.resumes e) (λ e. c.0.next e) (few_queries room h c.1)
few_queries room (at_port (got r) ∷ h) c = few_queries room h c.1
few_queries room (at_port no_reply ∷ h) c = few_queries room h c.1
few_queries room (at_port shut ∷ h) c = few_queries room h c.1
few_queries room (read_some bytes ∷ h) c = few_queries room h c.1
few_queries room (read_end ∷ h) c = few_queries room h c.1
few_queries room (read_failed ∷ h) c = few_queries room h c.1
few_queries room (scanned b ∷ h) c =
    let m = few_queries room h c.1 in let o = one_more (raw_of h) b in
    let a = length-append (due_of h) (more_served (raw_of h) b) in let s = length-append (scanned_of h) (b ∷ []) in omega arith
few_queries room (line_over ∷ h) c = few_queries room h c.1
few_queries room (wrote n ∷ h) c = few_queries room h c.1
few_queries room (gave_up ∷ h) c = few_queries room h c.1
few_queries room (turned t ∷ h) c = few_queries room h c.1
few_queries room (attends ∷ h) c = few_queries room h c.1
