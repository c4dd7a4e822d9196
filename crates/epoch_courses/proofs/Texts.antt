-- The lines that bytes have to their LF are those begun, and behind them the lines that are not.
use Rattle.std.proofs.Common.{◌≡◌, ℕ, ◌+◌, Bool, true, false, cond, List, [], ◌∷◌, ◌++◌, map, length, nat_eq, refl, sym, ap, ◌∙◌, append_assoc, append-nil, arith}
use Rattle.std.proofs.lemmas.List.{map-append}
use Rattle.run_rules.specs.Lines.{HasNoLf, ended, whole_lines, onto_line}
use Rattle.run_rules.proofs.Cutting.{wholes_on}
use Rattle.run_texts.specs.Sent.{Sent, waiting_in, has_reset, behind_reset}
use Rattle.run_texts.specs.Sent.Sent.{a_text, a_stop}
use Rattle.status_report.specs.Answering.{lfs_in}
use Rattle.status_report.proofs.Answered.{lfs_first, lfs_on}
use Rattle.board_rules.specs.Conduct.{Conducted}
use Rattle.board_journal.specs.Openings.{Opening}
use Rattle.board_journal.specs.Ports.{taken_in}
use Rattle.board_journal.specs.Steps.{Journal, port_log, taken_of, open_of, whole_of, lines_of}
use Rattle.board_rules.specs.Whole.{AreLines}
use Rattle.board_rules.proofs.Lines.{bytes_are}
use Rattle.board_epochs.specs.Epochs.{lines_dropped}
use Rattle.board_epochs.specs.Work.{Work}
use Rattle.epoch_courses.specs.Taken.{texts_in, bytes_behind}

bytes_on : (taken : List ℕ) (lines : List (List ℕ)) (raw more : List ℕ) (whole : Bool) → AreLines taken lines raw whole
    → texts_in (taken ++ more) ≡ map a_text lines ++ texts_in ((raw ++ cond whole (10 ∷ []) []) ++ more)
bytes_on taken lines raw more whole is =
    ap (λ (bytes : List ℕ). texts_in (bytes ++ more)) is.bytes
    ∙ ap texts_in (append_assoc (ended lines) (raw ++ cond whole (10 ∷ []) []) more)
    ∙ ap (λ (ls : List (List ℕ)). map a_text ls) (wholes_on lines ((raw ++ cond whole (10 ∷ []) []) ++ more) is.each)
    ∙ map-append a_text lines (whole_lines ((raw ++ cond whole (10 ∷ []) []) ++ more))

-- behind the lines begun, those that are not
pub texts_behind : (first : Opening) (h : Journal) (more : List ℕ) → Conducted first h → texts_in (taken_of h ++ more) ≡ map a_text (lines_of h) ++ texts_in (bytes_behind h ++ more)
texts_behind first h more c = bytes_on (taken_of h) (lines_of h) (open_of h) more (whole_of h) (bytes_are first h c)

pub texts_now : (first : Opening) (h : Journal) → Conducted first h → texts_in (taken_of h) ≡ map a_text (lines_of h) ++ texts_in (bytes_behind h)
texts_now first h c =
    ap texts_in (sym (append-nil (taken_of h))) ∙ texts_behind first h [] c ∙ ap (λ (bytes : List ℕ). map a_text (lines_of h) ++ texts_in bytes) (append-nil (bytes_behind h))

-- ---- how many they are

onto_many : (c : ℕ) (ls : List (List ℕ)) → length (onto_line c ls) ≡ length ls
onto_many c [] = refl
onto_many c (l ∷ ls) = refl

one_counted : (t : Bool) (c : ℕ) (ls : List (List ℕ)) → length (cond t ([] ∷ ls) (onto_line c ls)) ≡ cond t 1 0 + length ls
one_counted true c ls = omega arith
one_counted false c ls = let e = onto_many c ls in omega (arith, e)

pub lines_counted : (bytes : List ℕ) → length (whole_lines bytes) ≡ lfs_in bytes
lines_counted [] = refl
lines_counted (c ∷ cs) =
    let one = one_counted (nat_eq c 10) c (whole_lines cs) in let rest = lines_counted cs in let first = lfs_first c cs in omega (arith, one, rest, first)

no_lfs : (xs : List ℕ) → HasNoLf xs → lfs_in xs ≡ 0
no_lfs [] none = refl
no_lfs (x ∷ xs) none =
    let a = lfs_first x xs in let t = ap (λ (b : Bool). cond {A = ℕ} b 1 0) none.0 in let m = no_lfs xs none.1 in omega arith

raw_counted : (raw : List ℕ) (whole : Bool) → HasNoLf raw → lfs_in (raw ++ cond whole (10 ∷ []) []) ≡ cond whole 1 0
raw_counted raw true none = let a = lfs_on raw (10 ∷ []) in let n = no_lfs raw none in omega arith
raw_counted raw false none = let a = lfs_on raw [] in let n = no_lfs raw none in omega arith

-- the lines that a reset finds and that are not begun are those that it drops
pub dropped_counted : (first : Opening) (h : Journal) (w : Work) → Conducted first h → lines_dropped h w ≡ length (whole_lines (bytes_behind h ++ taken_in (port_log w)))
dropped_counted first h w c =
    let raw = raw_counted (open_of h) (whole_of h) (bytes_are first h c).partial in
    let all = lfs_on (bytes_behind h) (taken_in (port_log w)) in
    let many = lines_counted (bytes_behind h ++ taken_in (port_log w)) in
    omega (arith, raw, all, many)

-- ---- lines that wait for a reset

pub waiting_are : (lines : List (List ℕ)) (more : List Sent) → waiting_in (map a_text lines ++ a_stop ∷ more) ≡ lines
waiting_are [] more = refl
waiting_are (l ∷ ls) more = ap (λ (rest : List (List ℕ)). l ∷ rest) (waiting_are ls more)

pub reset_comes : (lines : List (List ℕ)) (more : List Sent) → has_reset (map a_text lines ++ a_stop ∷ more) ≡ true
reset_comes [] more = refl
reset_comes (l ∷ ls) more = reset_comes ls more

pub behind_them : (lines : List (List ℕ)) (more : List Sent) → behind_reset (map a_text lines ++ a_stop ∷ more) ≡ more
behind_them [] more = refl
behind_them (l ∷ ls) more = behind_them ls more
