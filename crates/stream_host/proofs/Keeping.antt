-- What a host that keeps to its rules has read, scanned and stored.
use Rattle.std.proofs.Common.{◌≡◌, ℕ, ◌+◌, ◌-◌, ◌≤◌, ◌<◌, ◌⊎◌, ◌||◌, inl, inr, Bool, true, false, cond, List, [], ◌∷◌, ◌++◌, length, map, take, drop, nat_eq, nat_lt, refl, sym, ap, ◌∙◌, arith, subst, append-nil, append_assoc, length-append}
use Rattle.std.specs.List.{AllByRecursion, list_any}
use Rattle.std.proofs.lemmas.Bool.Decides.{nat_tests}
use Rattle.std.proofs.lemmas.Grind.{flat_map-append}
use Rattle.std.proofs.lemmas.List.{map-append}
use Rattle.std.proofs.Math.Seq.{take-append_seam}
use Rattle.run_rules.specs.Lines.{CutsInto, ended, lines_of}
use Rattle.run_rules.specs.Readings.{largest_job, largest_piece}
use Rattle.run_rules.proofs.Cutting.{cut_byte, cut_line, cut_none, lines_with}
use Rattle.host_journal.specs.declared.Reading.{Reading}
use Rattle.host_journal.specs.declared.Reading.TheVariants.{Ended, Large, Stopped}
use Rattle.host_journal.specs.Links.{on_link}
use Rattle.host_journal.specs.Jobs.{sent_text, ends_sending, ends_in, but_last, MayHaveRead}
use Rattle.std.proofs.lemmas.List.Folds.{list_any-append}
use Rattle.status_report.specs.declared.Reply.{Reply}
use Rattle.run_rules.specs.Work.{is_limit}
use Rattle.host_journal.specs.Steps.{Step, Journal, stored_of, got_of, has_limit, is_shut, read_of, reading_of, scanned_of, unscanned_of, raw_of, cut_of, to_store}
use Rattle.host_journal.specs.Steps.PortStep.{stored, dropped, marked, raised, got, no_reply, shut}
use Rattle.host_journal.specs.Steps.Step.{at_port, read_some, read_end, read_failed, scanned, line_over, wrote, gave_up, turned, attends}
use Rattle.stream_host.specs.Conduct.{Conducted, MayScanNext, HasSentAll}
use Rattle.stream_host.proofs.Links.{all_push}
use Rattle.stream_host.proofs.Pieces.{IsSendable, any_is, none_any, none_ends}

-- ---- what was read is scanned, or still to be scanned

pub read_is : (room : ℕ) (h : Journal) → Conducted room h → read_of h ≡ scanned_of h ++ unscanned_of h
read_is room [] c = refl
read_is room (at_port e ∷ h) c = read_is room h c.1
read_is room (read_some bytes ∷ h) c = ap (λ (t : List ℕ). t ++ bytes) (read_is room h c.1) ∙ append_assoc (scanned_of h) (unscanned_of h) bytes
read_is room (read_end ∷ h) c = read_is room h c.1
read_is room (read_failed ∷ h) c = read_is room h c.1
read_is room (scanned b ∷ h) c = read_is room h c.1 ∙ ap (λ (t : List ℕ). scanned_of h ++ t) c.0.next ∙ sym (append_assoc (scanned_of h) (b ∷ []) (drop 1 (unscanned_of h)))
read_is room (line_over ∷ h) c = read_is room h c.1
read_is room (wrote n ∷ h) c = read_is room h c.1
read_is room (gave_up ∷ h) c = read_is room h c.1
read_is room (turned t ∷ h) c = read_is room h c.1
read_is room (attends ∷ h) c = read_is room h c.1

-- ---- what is stored of a line, and what is still to be stored, is the line

-- one line more
pub linked_push : (lines : List (List ℕ)) (raw : List ℕ) → on_link (lines ++ raw ∷ []) ≡ on_link lines ++ (sent_text raw ++ 10 ∷ [])
linked_push lines raw =
    ap ended (map-append sent_text lines (raw ∷ []))
    ∙ flat_map-append (λ (l : List ℕ). l ++ 10 ∷ []) (map sent_text lines) (sent_text raw ∷ [])
    ∙ ap (λ (t : List ℕ). on_link lines ++ t) (append-nil (sent_text raw ++ 10 ∷ []))

-- a line more is to be stored, where none was
pub linked_line : (bytes left : List ℕ) (lines : List (List ℕ)) (raw : List ℕ) → left ≡ [] → bytes ++ left ≡ on_link lines → bytes ++ (sent_text raw ++ 10 ∷ []) ≡ on_link (lines ++ raw ∷ [])
linked_line bytes left lines raw none is =
    ap (λ (t : List ℕ). t ++ (sent_text raw ++ 10 ∷ [])) (sym (append-nil bytes) ∙ ap (λ (t : List ℕ). bytes ++ t) (sym none) ∙ is) ∙ sym (linked_push lines raw)

pub linked_byte : (bytes left : List ℕ) (lines : List (List ℕ)) (raw : List ℕ) (t : Bool) → left ≡ [] → bytes ++ left ≡ on_link lines
    → bytes ++ cond t (sent_text raw ++ 10 ∷ []) left ≡ on_link (cond t (lines ++ raw ∷ []) lines)
linked_byte bytes left lines raw true none is = linked_line bytes left lines raw none is
linked_byte bytes left lines raw false none is = is

pub stored_is : (room : ℕ) (h : Journal) → Conducted room h → stored_of h ++ to_store h ≡ on_link (cut_of h)
stored_is room [] c = refl
stored_is room (at_port (stored b) ∷ h) c = append_assoc (stored_of h) (b ∷ []) (drop 1 (to_store h)) ∙ ap (λ (t : List ℕ). stored_of h ++ t) (sym c.0.next) ∙ stored_is room h c.1
stored_is room (at_port (dropped b) ∷ h) c = absurd c.0
stored_is room (at_port marked ∷ h) c = stored_is room h c.1
stored_is room (at_port (raised b down) ∷ h) c = stored_is room h c.1
stored_is room (at_port (got r) ∷ h) c = stored_is room h c.1
stored_is room (at_port no_reply ∷ h) c = stored_is room h c.1
stored_is room (at_port shut ∷ h) c = stored_is room h c.1
stored_is room (read_some bytes ∷ h) c = stored_is room h c.1
stored_is room (read_end ∷ h) c = stored_is room h c.1
stored_is room (read_failed ∷ h) c = stored_is room h c.1
stored_is room (scanned b ∷ h) c = linked_byte (stored_of h) (to_store h) (cut_of h) (raw_of h) (nat_eq b 10) c.0.free (stored_is room h c.1)
stored_is room (line_over ∷ h) c = linked_line (stored_of h) (to_store h) (cut_of h) (raw_of h) c.0.free (stored_is room h c.1)
stored_is room (wrote n ∷ h) c = stored_is room h c.1
stored_is room (gave_up ∷ h) c = stored_is room h c.1
stored_is room (turned t ∷ h) c = stored_is room h c.1
stored_is room (attends ∷ h) c = stored_is room h c.1

-- ---- what is scanned is cut

-- the last line had no LF, and nothing more is read
pub record IsOver (text : List ℕ) (lines : List (List ℕ)) (raw left : List ℕ) (reading : Reading) : Type 0 where
  pub whole : lines_of text ≡ lines
  pub none : raw ≡ []
  pub used : left ≡ []
  pub at_end : reading ≡ Ended

abbrev pub IsCut : Journal → Type 0
IsCut h = CutsInto (scanned_of h) (cut_of h) (raw_of h) ⊎ IsOver (scanned_of h) (cut_of h) (raw_of h) (unscanned_of h) (reading_of h)

is_lf : (b : ℕ) → nat_eq b 10 ≡ true → b ≡ 10
is_lf b h = grind (arith, nat_tests)

pub cut_on : (b : ℕ) (text : List ℕ) (lines : List (List ℕ)) (raw : List ℕ) (t : Bool) → nat_eq b 10 ≡ t → CutsInto text lines raw
    → CutsInto (text ++ b ∷ []) (cond t (lines ++ raw ∷ []) lines) (cond t [] (raw ++ b ∷ []))
cut_on b text lines raw true e is = subst (λ (c : ℕ). CutsInto (text ++ c ∷ []) (lines ++ raw ∷ []) []) (sym (is_lf b e)) (cut_line text lines raw is)
cut_on b text lines raw false e is = cut_byte text lines raw b is e

-- nothing more is read behind an end
not_read_on : (r : Reading) → r ≡ Ended → r ≡ Stopped → ⊥
not_read_on r e f = absurd (let g = sym e ∙ f in cc)

pub none_next : (xs : List ℕ) (x : ℕ) → xs ≡ [] → xs ≡ x ∷ drop 1 xs → ⊥
none_next xs x none next = absurd (let e = sym none ∙ next in cc)

some_in : (xs : List ℕ) → xs ≡ [] → 0 < length xs → ⊥
some_in xs none some = let e = ap length none in absurd (omega arith)

pub some_is : (xs : List ℕ) → 0 < length xs → nat_lt 0 (length xs) ≡ true
some_is xs some = grind (arith, nat_tests)

cut_scan : (b : ℕ) (h : Journal) → MayScanNext b h → IsCut h → IsCut (scanned b ∷ h)
cut_scan b h may (inl is) = inl (cut_on b (scanned_of h) (cut_of h) (raw_of h) (nat_eq b 10) refl is)
cut_scan b h may (inr over) = absurd (none_next (unscanned_of h) b over.used may.next)

cut_read : (h : Journal) (s : Step) → reading_of h ≡ Stopped → IsCut h → CutsInto (scanned_of h) (cut_of h) (raw_of h)
cut_read h s on (inl is) = is
cut_read h s on (inr over) = absurd (not_read_on (reading_of h) over.at_end on)

cut_end : (h : Journal) → reading_of h ≡ Ended → unscanned_of h ≡ [] → 0 < length (raw_of h) → IsCut h → IsCut (line_over ∷ h)
cut_end h at_end used some (inl is) = inr (record { whole = lines_with (scanned_of h) (cut_of h) (raw_of h) is (some_is (raw_of h) some); none = refl; used = used; at_end = at_end })
cut_end h at_end used some (inr over) = absurd (some_in (raw_of h) over.none some)

pub cut_is : (room : ℕ) (h : Journal) → Conducted room h → IsCut h
cut_is room [] c = inl cut_none
cut_is room (at_port e ∷ h) c = cut_is room h c.1
cut_is room (read_some bytes ∷ h) c = inl (cut_read h (read_some bytes) c.0.0.on (cut_is room h c.1))
cut_is room (read_end ∷ h) c = inl (cut_read h read_end c.0.on (cut_is room h c.1))
cut_is room (read_failed ∷ h) c = inl (cut_read h read_failed c.0.on (cut_is room h c.1))
cut_is room (scanned b ∷ h) c = cut_scan b h c.0 (cut_is room h c.1)
cut_is room (line_over ∷ h) c = cut_end h c.0.at_end c.0.used c.0.some (cut_is room h c.1)
cut_is room (wrote n ∷ h) c = cut_is room h c.1
cut_is room (gave_up ∷ h) c = cut_is room h c.1
cut_is room (turned t ∷ h) c = cut_is room h c.1
cut_is room (attends ∷ h) c = cut_is room h c.1

-- ---- no line in which the sending ends is cut

sendable_push : (lines : List (List ℕ)) (raw : List ℕ) (t : Bool) → IsSendable raw → AllByRecursion IsSendable lines → AllByRecursion IsSendable (cond t (lines ++ raw ∷ []) lines)
sendable_push lines raw true short all = all_push IsSendable lines raw all short
sendable_push lines raw false short all = all

pub sendable_is : (room : ℕ) (h : Journal) → Conducted room h → AllByRecursion IsSendable (cut_of h)
sendable_is room [] c = tt
sendable_is room (at_port e ∷ h) c = sendable_is room h c.1
sendable_is room (read_some bytes ∷ h) c = sendable_is room h c.1
sendable_is room (read_end ∷ h) c = sendable_is room h c.1
sendable_is room (read_failed ∷ h) c = sendable_is room h c.1
sendable_is room (scanned b ∷ h) c = sendable_push (cut_of h) (raw_of h) (nat_eq b 10) c.0.sends (sendable_is room h c.1)
sendable_is room (line_over ∷ h) c = sendable_push (cut_of h) (raw_of h) true c.0.sends (sendable_is room h c.1)
sendable_is room (wrote n ∷ h) c = sendable_is room h c.1
sendable_is room (gave_up ∷ h) c = sendable_is room h c.1
sendable_is room (turned t ∷ h) c = sendable_is room h c.1
sendable_is room (attends ∷ h) c = sendable_is room h c.1

-- a test that only lines pass in which the sending ends is passed in what is scanned just where the line in hand passes
pub any_now : (room : ℕ) (p : List ℕ → Bool) → p [] ≡ false → ((l : List ℕ) → IsSendable l → p l ≡ false) → (h : Journal) → Conducted room h → list_any p (lines_of (scanned_of h)) ≡ p (raw_of h)
any_now room p none weaker h c = by_cut (cut_is room h c)
  where
    all : (lines : List (List ℕ)) → AllByRecursion IsSendable lines → AllByRecursion (λ l. p l ≡ false) lines
    all [] h = tt
    all (l ∷ ls) h = (weaker l h.0, all ls h.1)

    by_cut : IsCut h → list_any p (lines_of (scanned_of h)) ≡ p (raw_of h)
    by_cut (inl is) = any_is p none (scanned_of h) (cut_of h) (raw_of h) is (all (cut_of h) (sendable_is room h c))
    by_cut (inr over) = ap (list_any p) over.whole ∙ none_any p (cut_of h) (all (cut_of h) (sendable_is room h c)) ∙ sym none ∙ ap p (sym over.none)

pub ends_now : (room : ℕ) (h : Journal) → Conducted room h → ends_in (scanned_of h) ≡ ends_sending (raw_of h)
ends_now room h c = any_now room ends_sending none_ends (λ l e. e) h c

-- ---- no byte is scanned behind one with which the sending ends

but_last_is : (text : List ℕ) (b : ℕ) → but_last (text ++ b ∷ []) ≡ text
but_last_is text b =
    let e : length (text ++ b ∷ []) - 1 ≡ length text = (let l = length-append text (b ∷ []) in omega arith) in
    ap (λ n. take n (text ++ b ∷ [])) e ∙ take-append_seam text (b ∷ [])

pub early_is : (room : ℕ) (h : Journal) → Conducted room h → ends_in (but_last (scanned_of h)) ≡ false
early_is room [] c = refl
early_is room (at_port e ∷ h) c = early_is room h c.1
early_is room (read_some bytes ∷ h) c = early_is room h c.1
early_is room (read_end ∷ h) c = early_is room h c.1
early_is room (read_failed ∷ h) c = early_is room h c.1
early_is room (scanned b ∷ h) c = ap ends_in (but_last_is (scanned_of h) b) ∙ ends_now room h c.1 ∙ c.0.sends
early_is room (line_over ∷ h) c = early_is room h c.1
early_is room (wrote n ∷ h) c = early_is room h c.1
early_is room (gave_up ∷ h) c = early_is room h c.1
early_is room (turned t ∷ h) c = early_is room h c.1
early_is room (attends ∷ h) c = early_is room h c.1

-- ---- how much is read and scanned

pub few_scanned : (room : ℕ) (h : Journal) → Conducted room h → length (scanned_of h) ≤ largest_job
few_scanned room [] c = omega arith
few_scanned room (at_port e ∷ h) c = few_scanned room h c.1
few_scanned room (read_some bytes ∷ h) c = few_scanned room h c.1
few_scanned room (read_end ∷ h) c = few_scanned room h c.1
few_scanned room (read_failed ∷ h) c = few_scanned room h c.1
few_scanned room (scanned b ∷ h) c = let l = length-append (scanned_of h) (b ∷ []) in let f = c.0.few in omega arith
few_scanned room (line_over ∷ h) c = few_scanned room h c.1
few_scanned room (wrote n ∷ h) c = few_scanned room h c.1
few_scanned room (gave_up ∷ h) c = few_scanned room h c.1
few_scanned room (turned t ∷ h) c = few_scanned room h c.1
few_scanned room (attends ∷ h) c = few_scanned room h c.1

-- what is read and not scanned is of one piece
pub few_unscanned : (room : ℕ) (h : Journal) → Conducted room h → length (unscanned_of h) ≤ largest_piece
few_unscanned room [] c = omega arith
few_unscanned room (at_port e ∷ h) c = few_unscanned room h c.1
few_unscanned room (read_some bytes ∷ h) c = let e = ap (λ (t : List ℕ). length (t ++ bytes)) c.0.0.used in let p = c.0.2 in omega arith
few_unscanned room (read_end ∷ h) c = few_unscanned room h c.1
few_unscanned room (read_failed ∷ h) c = few_unscanned room h c.1
few_unscanned room (scanned b ∷ h) c = let l = ap length c.0.next in let m = few_unscanned room h c.1 in omega arith
few_unscanned room (line_over ∷ h) c = few_unscanned room h c.1
few_unscanned room (wrote n ∷ h) c = few_unscanned room h c.1
few_unscanned room (gave_up ∷ h) c = few_unscanned room h c.1
few_unscanned room (turned t ∷ h) c = few_unscanned room h c.1
few_unscanned room (attends ∷ h) c = few_unscanned room h c.1

-- a job is read for so many bytes at most
pub few_read : (room : ℕ) (h : Journal) → Conducted room h → length (read_of h) ≤ length (scanned_of h) + largest_piece
few_read room h c =
    let e = ap length (read_is room h c) in let l = length-append (scanned_of h) (unscanned_of h) in let p = few_unscanned room h c in
    omega arith

fits_read : (n : ℕ) (t : Bool) → n ≤ largest_job + largest_piece → nat_lt largest_job n ≡ t → MayHaveRead (cond t Large Stopped) n
fits_read n true few e = (grind (arith, nat_tests), few)
fits_read n false few e = grind (arith, nat_tests)

fits_from : (r : Reading) (n : ℕ) → r ≡ Stopped → MayHaveRead r n → n ≤ largest_job
fits_from r n e f = subst (λ (q : Reading). MayHaveRead q n) e f

pub reading_fits : (room : ℕ) (h : Journal) → Conducted room h → MayHaveRead (reading_of h) (length (read_of h))
reading_fits room [] c = omega arith
reading_fits room (at_port e ∷ h) c = reading_fits room h c.1
reading_fits room (read_some bytes ∷ h) c =
    let few : length (read_of h ++ bytes) ≤ largest_job + largest_piece = (let r = few_read room (read_some bytes ∷ h) c in let s = few_scanned room h c.1 in omega arith) in
    fits_read (length (read_of h ++ bytes)) (nat_lt largest_job (length (read_of h ++ bytes))) few refl
reading_fits room (read_end ∷ h) c = fits_from (reading_of h) (length (read_of h)) c.0.on (reading_fits room h c.1)
reading_fits room (read_failed ∷ h) c = fits_from (reading_of h) (length (read_of h)) c.0.on (reading_fits room h c.1)
reading_fits room (scanned b ∷ h) c = reading_fits room h c.1
reading_fits room (line_over ∷ h) c = reading_fits room h c.1
reading_fits room (wrote n ∷ h) c = reading_fits room h c.1
reading_fits room (gave_up ∷ h) c = reading_fits room h c.1
reading_fits room (turned t ∷ h) c = reading_fits room h c.1
reading_fits room (attends ∷ h) c = reading_fits room h c.1

-- ---- a link that is closed has all that is sent, where no alarm was got

-- what holds but behind an alarm
pub calm_one : (h : Journal) {A : Type 0} → has_limit h ≡ false → (has_limit h ≡ true) ⊎ A → A
calm_one h calm (inl alarm) = absurd (let e = sym calm ∙ alarm in cc)
calm_one h calm (inr a) = a

-- no alarm was got before
pub calm_before : (rs : List Reply) (r : Reply) → list_any is_limit (rs ++ r ∷ []) ≡ false → list_any is_limit rs ≡ false
calm_before rs r e = by_any (list_any is_limit rs) (list_any is_limit (r ∷ [])) (sym (list_any-append is_limit rs (r ∷ [])) ∙ e)
  where
    by_any : (a b : Bool) → (a || b) ≡ false → a ≡ false
    by_any false b e = refl
    by_any true b e = e

-- a step that is only done while the link is open
pub open_link : (h : Journal) {A : Type 0} → is_shut h ≡ false → is_shut h ≡ true → A
open_link h going closed = absurd (let e = sym going ∙ closed in cc)

pub shut_is : (room : ℕ) (h : Journal) → Conducted room h → is_shut h ≡ true → has_limit h ≡ false → HasSentAll h
shut_is room [] c e calm = absurd cc
shut_is room (at_port (stored b) ∷ h) c e calm = absurd (none_next (to_store h) b (shut_is room h c.1 e calm).free c.0.next)
shut_is room (at_port (dropped b) ∷ h) c e calm = absurd c.0
shut_is room (at_port marked ∷ h) c e calm = let s = shut_is room h c.1 e calm in record { free = s.free; all = s.all }
shut_is room (at_port (raised b down) ∷ h) c e calm = let s = shut_is room h c.1 e calm in record { free = s.free; all = s.all }
shut_is room (at_port (got r) ∷ h) c e calm = let s = shut_is room h c.1 e (calm_before (got_of h) r calm) in record { free = s.free; all = s.all }
shut_is room (at_port no_reply ∷ h) c e calm = let s = shut_is room h c.1 e calm in record { free = s.free; all = s.all }
shut_is room (at_port shut ∷ h) c e calm = let s = calm_one h calm c.0.sent in record { free = s.free; all = s.all }
shut_is room (read_some bytes ∷ h) c e calm = open_link h c.0.0.going e
shut_is room (read_end ∷ h) c e calm = open_link h c.0.going e
shut_is room (read_failed ∷ h) c e calm = open_link h c.0.going e
shut_is room (scanned b ∷ h) c e calm = open_link h c.0.going e
shut_is room (line_over ∷ h) c e calm = open_link h c.0.going e
shut_is room (wrote n ∷ h) c e calm = let s = shut_is room h c.1 e calm in record { free = s.free; all = s.all }
shut_is room (gave_up ∷ h) c e calm = let s = shut_is room h c.1 e calm in record { free = s.free; all = s.all }
shut_is room (turned t ∷ h) c e calm = let s = shut_is room h c.1 e calm in record { free = s.free; all = s.all }
shut_is room (attends ∷ h) c e calm = let s = shut_is room h c.1 e calm in record { free = s.free; all = s.all }

-- nothing is stored behind the closing
pub open_is : (room : ℕ) (b : ℕ) (h : Journal) → Conducted room h → has_limit h ≡ false → to_store h ≡ b ∷ drop 1 (to_store h) → is_shut h ≡ false
open_is room b h c calm next = by_shut (is_shut h) refl
  where
    by_shut : (t : Bool) → is_shut h ≡ t → t ≡ false
    by_shut false e = refl
    by_shut true e = absurd (none_next (to_store h) b (shut_is room h c e calm).free next)
