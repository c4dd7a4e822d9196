-- How many answers come before each Banner: at both ends of a link as many.
use Rattle.std.proofs.Common.{◌≡◌, ℕ, ◌+◌, ◌≤◌, ◌&&◌, ◌||◌, Bool, true, false, cond, List, [], ◌∷◌, ◌++◌, length, reverse, refl, sym, ap, ◌∙◌, arith}
use Rattle.std.specs.List.{AllByRecursion}
use Rattle.std.proofs.lemmas.List.{reverse-append, reverse-reverse}
use Rattle.run_texts.specs.Fronts.{BeginsWith}
use Rattle.serial_ring.specs.Lists.{has_banner}
use Rattle.serial_ring.specs.declared.view.LinkStep.{LinkStep}
use Rattle.serial_ring.specs.declared.view.LinkStep.TheVariants.{Took, Marked, Answered}
use Rattle.serial_ring.specs.Logs as link
use Rattle.status_report.specs.Answering.{is_banner, answers_in}
use Rattle.status_report.specs.declared.Reply.{Reply}
use Rattle.status_report.proofs.Answered.{answers_first, answers_on}
use Rattle.stream_host.specs.Conduct.{Conducted}
use Rattle.stream_host.specs.Epochs.{Epoch, replies_in, epoch_now, ended_of}
use Rattle.host_journal.specs.Steps.{HostLog, Journal, port_log, got_in, latest_got, begins}
use Rattle.host_journal.specs.Steps.PortStep.{got}
use Rattle.host_journal.specs.Steps.Step.{at_port}
use Rattle.stream_host.proofs.Cutting.{epochs_are}
use Rattle.board_journal.specs.Ports.{BoardLog, answered_in, link_steps}
use Rattle.board_journal.proofs.LinkSteps.{answered_back}
use Rattle.serial_ring.specs.Logs.{at_banners}
use Rattle.epoch_links.proofs.Moments.{answers_given}

-- of replies, the latest first
abbrev pub answers_before : List Reply → List ℕ
answers_before [] = []
answers_before (r ∷ earlier) = cond (is_banner r) (answers_in earlier ∷ answers_before earlier) (answers_before earlier)

pub before_banners : (l : List LinkStep) → at_banners answers_given l ≡ answers_before (link.answered_in l)
before_banners [] = refl
before_banners (Took b ∷ l) = before_banners l
before_banners (Marked number bytes ∷ l) = before_banners l
before_banners (Answered r ∷ l) = ap (λ (ns : List ℕ). cond (is_banner r) (answers_in (link.answered_in l) ∷ ns) ns) (before_banners l)

-- ---- of replies, and of those before them

pub record GoOn (later earlier : List Reply) : Type 0 where
  pub more : List ℕ
  pub are : answers_before (later ++ earlier) ≡ more ++ answers_before earlier
  pub above : AllByRecursion (λ n. answers_in earlier ≤ n) more

pub go_on : (later earlier : List Reply) → GoOn later earlier
go_on [] earlier = record { more = []; are = refl; above = tt }
go_on (r ∷ later) earlier = let g = by_banner (is_banner r) (go_on later earlier) in record { more = g.0; are = g.1; above = g.2 }
  where
    by_banner : (t : Bool) → GoOn later earlier
        → (more : List ℕ) × (cond t (answers_in (later ++ earlier) ∷ answers_before (later ++ earlier)) (answers_before (later ++ earlier)) ≡ more ++ answers_before earlier) × AllByRecursion (λ n. answers_in earlier ≤ n) more
    by_banner true g = (answers_in (later ++ earlier) ∷ g.more, ap (λ (ns : List ℕ). answers_in (later ++ earlier) ∷ ns) g.are, ((let a = answers_on later earlier in omega arith), g.above))
    by_banner false g = (g.more, g.are, g.above)

-- ---- of a host

pub same_got : (l : HostLog) → got_in l ≡ reverse (latest_got l)
same_got [] = refl
same_got (got r ∷ l) = ap (λ (rs : List Reply). rs ++ r ∷ []) (same_got l) ∙ sym (reverse-append (r ∷ []) (latest_got l))
same_got (_ ∷ l) = same_got l

pub answers_got : (l : HostLog) → answers_in (got_in l) ≡ answers_in (latest_got l)
answers_got [] = refl
answers_got (got r ∷ l) = let i = answers_got l in let a = answers_on (got_in l) (r ∷ []) in let b = answers_first r [] in let d = answers_first r (latest_got l) in omega arith
answers_got (_ ∷ l) = answers_got l

-- how many lines were answered as each epoch was over, the latest first
abbrev pub totals : List Epoch → List ℕ
totals [] = []
totals (e ∷ earlier) = answers_in (replies_in (e ∷ earlier)) ∷ totals earlier

pub length-totals : (es : List Epoch) → length (totals es) ≡ length es
length-totals [] = refl
length-totals (e ∷ es) = let i = length-totals es in omega arith

-- no Banner was got, or each but the first began an epoch
pub data Totals (before : List ℕ) (ended : List Epoch) : Type 0 where
  no_banner : before ≡ [] → ended ≡ [] → Totals before ended
  banners : (first : ℕ) → before ≡ totals ended ++ first ∷ [] → Totals before ended

banner_some : (rs : List Reply) → has_banner rs ≡ true → answers_before rs ≡ [] → ⊥
banner_some [] has e = absurd cc
banner_some (r ∷ rs) has e = by_banner (is_banner r) has e (banner_some rs)
  where
    by_banner : (t : Bool) → (t || has_banner rs) ≡ true → cond t (answers_in rs ∷ answers_before rs) (answers_before rs) ≡ [] → (has_banner rs ≡ true → answers_before rs ≡ [] → ⊥) → ⊥
    by_banner true has e i = absurd cc
    by_banner false has e i = i has e

banner_none : (rs : List Reply) → has_banner rs ≡ false → answers_before rs ≡ []
banner_none [] has = refl
banner_none (r ∷ rs) has = by_banner (is_banner r) has (banner_none rs)
  where
    by_banner : (t : Bool) → (t || has_banner rs) ≡ false → (has_banner rs ≡ false → answers_before rs ≡ []) → cond t (answers_in rs ∷ answers_before rs) (answers_before rs) ≡ []
    by_banner true has i = absurd cc
    by_banner false has i = i has

not_none : (xs : List ℕ) (n : ℕ) → xs ++ n ∷ [] ≡ [] → ⊥
not_none [] n e = absurd cc
not_none (x ∷ xs) n e = absurd cc

got_totals : (room : ℕ) (r : Reply) (h : Journal) → Conducted room h → Totals (answers_before (latest_got (port_log h))) (ended_of h)
    → Totals (answers_before (r ∷ latest_got (port_log h))) (cond (begins r (port_log h)) (epoch_now h ∷ ended_of h) (ended_of h))
got_totals room r h c t = by_banner (is_banner r) (has_banner (latest_got (port_log h))) refl t
  where
    rs : List Reply
    rs = latest_got (port_log h)

    now : answers_in rs ≡ answers_in (replies_in (epoch_now h ∷ ended_of h))
    now = sym (answers_got (port_log h)) ∙ ap answers_in (epochs_are room h c).replies_are

    by_banner : (b has : Bool) → has_banner rs ≡ has → Totals (answers_before rs) (ended_of h)
        → Totals (cond b (answers_in rs ∷ answers_before rs) (answers_before rs)) (cond (b && has) (epoch_now h ∷ ended_of h) (ended_of h))
    by_banner false has is t = t
    by_banner true true is (no_banner empty ended) = absurd (banner_some rs is empty)
    by_banner true true is (banners first e) = banners first (ap (λ (ns : List ℕ). answers_in rs ∷ ns) e ∙ ap (λ (n : ℕ). n ∷ (totals (ended_of h) ++ first ∷ [])) now)
    by_banner true false is (no_banner empty ended) = banners (answers_in rs) (ap (λ (ns : List ℕ). answers_in rs ∷ ns) empty ∙ ap (λ (es : List Epoch). totals es ++ answers_in rs ∷ []) (sym ended))
    by_banner true false is (banners first e) = absurd (not_none (totals (ended_of h)) first (sym e ∙ banner_none rs is))

pub totals_are : (room : ℕ) (h : Journal) → Conducted room h → Totals (answers_before (latest_got (port_log h))) (ended_of h)
totals_are room [] c = no_banner refl refl
totals_are room (at_port (got r) ∷ h) c = got_totals room r h c.1 (totals_are room h c.1)
totals_are room (at_port _ ∷ h) c = totals_are room h c.1
totals_are room (_ ∷ h) c = totals_are room h c.1

-- ---- of both

-- the replies got are the first of those answered, also with the latest first
pub first_got : (l : BoardLog) (h : HostLog) → BeginsWith (answered_in l) (got_in h) → (later : List Reply) × (link.answered_in (link_steps l) ≡ later ++ latest_got h)
first_got l h b = (
  reverse b.rest,
  sym (reverse-reverse (link.answered_in (link_steps l))) ∙ ap (λ (rs : List Reply). reverse rs) (sym (answered_back l) ∙ b.is) ∙ reverse-append (got_in h) b.rest
      ∙ ap (λ (rs : List Reply). reverse b.rest ++ rs) (ap (λ (rs : List Reply). reverse rs) (same_got h) ∙ reverse-reverse (latest_got h)),
)
