-- An epoch that a reset ends was greeted, with the mark that was loaded last before it.
use Rattle.std.proofs.Common.{◌≡◌, ℕ, Bool, true, false, cond, List, [], ◌∷◌, ◌++◌, refl, ap, ◌∙◌, arith}
use Rattle.serial_ring.specs.Logs.{marked_in, greeted_in, has_greeted, next_mark}
use Rattle.serial_ring.specs.Marks.{Mark as LinkMark, last_of, start}
use Rattle.serial_ring.specs.declared.view.LinkStep.{LinkStep}
use Rattle.status_report.specs.Answering.{is_banner, banners_in}
use Rattle.status_report.specs.declared.Reply.{Reply}
use Rattle.status_report.specs.declared.Reply.TheVariants as replies
use Rattle.status_report.proofs.Banners.{banners_first, banners_on}
use Rattle.board_rules.specs.Conduct.{Conducted}
use Rattle.board_journal.specs.Openings.{Opening}
use Rattle.board_journal.specs.Ports.{link_steps}
use Rattle.board_journal.specs.Ports.PortStep.{took, found_mark, answered, reported}
use Rattle.board_journal.specs.Steps.{Journal, port_log, answered_of}
use Rattle.board_journal.specs.Steps.Step.{at_port}
use Rattle.board_rules.proofs.Greeted.{banner_told, fewer}
use Rattle.board_epochs.specs.Resets.{MayReset}

-- a reset finds the Banner told
pub was_greeted : (first : Opening) (h : Journal) → Conducted first h → MayReset first h → banners_in (answered_of h) ≡ 1
was_greeted first h c may = banner_told first h c may.told

-- ---- its mark

pub no_marks : (first : Opening) (h : Journal) (ys : List LinkStep) → Conducted first h → marked_in (link_steps (port_log h) ++ ys) ≡ marked_in ys
no_marks first [] ys c = refl
no_marks first (at_port (found_mark number bytes) ∷ h) ys c = absurd c.0
no_marks first (at_port (took b) ∷ h) ys c = no_marks first h ys c.1
no_marks first (at_port (answered r) ∷ h) ys c = no_marks first h ys c.1
no_marks first (at_port (reported r) ∷ h) ys c = no_marks first h ys c.1
no_marks first (_ ∷ h) ys c = no_marks first h ys c.1

-- before the Banner it is as it was
pub record IsAsBefore (xs ys : List LinkStep) : Type 0 where
  pub greeted : greeted_in (xs ++ ys) ≡ greeted_in ys
  pub has : has_greeted (xs ++ ys) ≡ has_greeted ys

one_ungreeted : (r : Reply) (h : Journal) (ys : List LinkStep) → banners_in (answered_of h ++ r ∷ []) ≡ 0 → (t : Bool) → is_banner r ≡ t → IsAsBefore (link_steps (port_log h)) ys
    → IsAsBefore (link_steps (port_log (at_port (answered r) ∷ h))) ys
one_ungreeted r h ys none true is e =
    absurd (let a = banners_on (answered_of h) (r ∷ []) in let b = banners_first r [] in let t = ap (λ (x : Bool). cond {A = ℕ} x 1 0) is in omega (arith, a, b, t, none))
one_ungreeted r h ys none false is e = record { greeted = rw is e.greeted; has = rw is e.has }

pub ungreeted : (first : Opening) (h : Journal) (ys : List LinkStep) → Conducted first h → banners_in (answered_of h) ≡ 0 → IsAsBefore (link_steps (port_log h)) ys
ungreeted first [] ys c none = record { greeted = refl; has = refl }
ungreeted first (at_port (took b) ∷ h) ys c none = let e = ungreeted first h ys c.1 none in record { greeted = e.greeted; has = e.has }
ungreeted first (at_port (found_mark number bytes) ∷ h) ys c none = absurd c.0
ungreeted first (at_port (answered r) ∷ h) ys c none = one_ungreeted r h ys none (is_banner r) refl (ungreeted first h ys c.1 (fewer (answered_of h) r none))
ungreeted first (at_port (reported r) ∷ h) ys c none = let e = ungreeted first h ys c.1 (fewer (answered_of h) (replies.Report r) none) in record { greeted = e.greeted; has = e.has }
ungreeted first (_ ∷ h) ys c none = let e = ungreeted first h ys c.1 none in record { greeted = e.greeted; has = e.has }

-- the mark that is next is that of before
pub next_there : (first : Opening) (h : Journal) (ys : List LinkStep) → Conducted first h → banners_in (answered_of h) ≡ 0 → next_mark (link_steps (port_log h) ++ ys) ≡ next_mark ys
next_there first h ys c none =
    ap (λ (t : Bool). cond t (last_of (marked_in (link_steps (port_log h) ++ ys))) start) (ungreeted first h ys c none).has
    ∙ ap (λ (ms : List LinkMark). cond (has_greeted ys) (last_of ms) start) (no_marks first h ys c)

abbrev IsGreeted : List LinkStep → List LinkStep → Type 0
IsGreeted xs ys = (last_of (greeted_in (xs ++ ys)) ≡ next_mark ys) × (has_greeted (xs ++ ys) ≡ true)

one_greeted : (first : Opening) (r : Reply) (h : Journal) (ys : List LinkStep) → Conducted first h → banners_in (answered_of h ++ r ∷ []) ≡ 1 → (t : Bool) → is_banner r ≡ t
    → (banners_in (answered_of h) ≡ 1 → IsGreeted (link_steps (port_log h)) ys) → IsGreeted (link_steps (port_log (at_port (answered r) ∷ h))) ys
one_greeted first r h ys c one true is before =
    let a = banners_on (answered_of h) (r ∷ []) in let b = banners_first r [] in let t = ap (λ (x : Bool). cond {A = ℕ} x 1 0) is in
    let none : banners_in (answered_of h) ≡ 0 = omega (arith, a, b, t, one) in
    (rw is (next_there first h ys c none), rw is refl)
one_greeted first r h ys c one false is before =
    let a = banners_on (answered_of h) (r ∷ []) in let b = banners_first r [] in let t = ap (λ (x : Bool). cond {A = ℕ} x 1 0) is in
    let e = before (omega (arith, a, b, t, one)) in (rw is e.0, rw is e.1)

-- and that is its Banner's
pub greeted_with : (first : Opening) (h : Journal) (ys : List LinkStep) → Conducted first h → banners_in (answered_of h) ≡ 1 → (last_of (greeted_in (link_steps (port_log h) ++ ys)) ≡ next_mark ys) × (has_greeted (link_steps (port_log h) ++ ys) ≡ true)
greeted_with first [] ys c one = absurd cc
greeted_with first (at_port (took b) ∷ h) ys c one = greeted_with first h ys c.1 one
greeted_with first (at_port (found_mark number bytes) ∷ h) ys c one = absurd c.0
greeted_with first (at_port (answered r) ∷ h) ys c one = one_greeted first r h ys c.1 one (is_banner r) refl (λ before. greeted_with first h ys c.1 before)
greeted_with first (at_port (reported r) ∷ h) ys c one =
    let a = banners_on (answered_of h) (replies.Report r ∷ []) in let b = banners_first (replies.Report r) [] in
    greeted_with first h ys c.1 (omega (arith, a, b, one))
greeted_with first (_ ∷ h) ys c one = greeted_with first h ys c.1 one
