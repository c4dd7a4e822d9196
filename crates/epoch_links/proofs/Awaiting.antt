-- A host awaits a Banner of each mark.
use Rattle.std.proofs.Common.{◌≡◌, ◌⊎◌, inl, inr, ℕ, ◌+◌, ◌≤◌, ◌&&◌, Bool, true, false, cond, List, [], ◌∷◌, ◌++◌, length, length-append, append-nil, refl, sym, ap, ◌∙◌, arith}
use Rattle.serial_ring.specs.Lists.{has_banner}
use Rattle.serial_ring.specs.Marks.{latest}
use Rattle.status_report.specs.Answering.{is_banner, banners_in}
use Rattle.status_report.specs.declared.Reply.{Reply}
use Rattle.status_report.proofs.Banners.{banners_first}
use Rattle.host_journal.specs.Steps.{HostLog, Journal, port_log, stored_in, stored_at_banners, latest_got, stored_of, marks_of, banners_of, to_store, is_shut, has_limit, cut_of, raw_of}
use Rattle.host_journal.specs.Steps.PortStep.{marked, got}
use Rattle.host_journal.specs.Steps.Step.{at_port}
use Rattle.stream_host.specs.Conduct.{Conducted}
use Rattle.stream_host.proofs.Epochs.{IsSteady, Stands, epoch_is, begins_at, none_banner, pending_busy}
use Rattle.stream_host.proofs.Raised.{rising_is, calm_shut}
use Rattle.stream_host.proofs.Raising.{none_due_shut}
use Rattle.epoch_links.specs.Links.{AwaitsBanners, HasBanners}
use Rattle.run_texts.specs.Sent.{sent_of}
use Rattle.epoch_links.specs.Pieces.{IsAllOf}
use Rattle.epoch_links.proofs.Cutting.{none_by_length}
use Rattle.epoch_links.proofs.Sending.{pending_all}

one_banner : (r : Reply) (n : ℕ) (ns : List ℕ) (rs : List Reply) → length ns ≡ banners_in rs → length (cond (is_banner r) (n ∷ ns) ns) ≡ banners_in (r ∷ rs)
one_banner r n ns rs e = by_banner (is_banner r) (banners_first r rs)
  where
    by_banner : (t : Bool) → banners_in (r ∷ rs) ≡ cond t 1 0 + banners_in rs → length (cond t (n ∷ ns) ns) ≡ banners_in (r ∷ rs)
    by_banner true f = omega arith
    by_banner false f = omega arith

-- one moment of each Banner
pub one_each : (l : HostLog) → length (stored_at_banners l) ≡ banners_in (latest_got l)
one_each [] = refl
one_each (got r ∷ l) = one_banner r (length (stored_in l)) (stored_at_banners l) (latest_got l) (one_each l)
one_each (_ ∷ l) = one_each l

-- where one was got, the marks that have theirs, and those that have none
record IsShown (marks at_got : List ℕ) : Type 0 where
  more : List ℕ
  greeted : List ℕ
  first : ℕ
  marks_are : marks ≡ more ++ greeted
  got_are : at_got ≡ greeted ++ first ∷ []

abbrev HasShown : List ℕ → List ℕ → Type 0
HasShown marks at_got = (at_got ≡ []) ⊎ IsShown marks at_got

one_more : (m : ℕ) (marks at_got : List ℕ) → HasShown marks at_got → HasShown (m ∷ marks) at_got
one_more m marks at_got (inl none) = inl none
one_more m marks at_got (inr s) = inr (record { more = m ∷ s.more; greeted = s.greeted; first = s.first; marks_are = ap (λ (ms : List ℕ). m ∷ ms) s.marks_are; got_are = s.got_are })

-- a mark gets its Banner when all bytes that are stored stand before it
greets_one : (marks at_got : List ℕ) (now : ℕ) → length at_got ≡ length marks → latest marks ≡ now → IsShown marks at_got → IsShown marks (now ∷ at_got)
greets_one marks at_got now same at s = by_more s.more s.marks_are
  where
    long : length at_got ≡ length s.greeted + 1
    long = ap length s.got_are ∙ length-append s.greeted (s.first ∷ [])

    by_more : (more : List ℕ) → marks ≡ more ++ s.greeted → IsShown marks (now ∷ at_got)
    by_more [] is = absurd (let l = long in let e = ap length is in omega arith)
    by_more (m ∷ []) is =
        let here : m ≡ now = ap latest (sym is) ∙ at in record {
          more = [];
          greeted = now ∷ s.greeted;
          first = s.first;
          marks_are = is ∙ ap (λ (n : ℕ). n ∷ s.greeted) here;
          got_are = ap (λ (ns : List ℕ). now ∷ ns) s.got_are;
        }
    by_more (m ∷ x ∷ xs) is = absurd (let l = long in let e = ap length is in let a = length-append xs s.greeted in omega arith)

got_banner : (room : ℕ) (r : Reply) (h : Journal) → Conducted room (at_port (got r) ∷ h) → is_banner r ≡ true → HasShown (marks_of h) (stored_at_banners (port_log h))
    → HasShown (marks_of h) (length (stored_of h) ∷ stored_at_banners (port_log h))
got_banner room r h c is (inl none) =
    inr (record { more = marks_of h; greeted = []; first = length (stored_of h); marks_are = sym (append-nil (marks_of h)); got_are = ap (λ (ns : List ℕ). length (stored_of h) ∷ ns) none })
got_banner room r h c is (inr s) =
    let e = epoch_is room h c.1 in
    let b = begins_at room r h e.from c (ap (λ (t : Bool). t && has_banner (latest_got (port_log h))) is ∙ had (has_banner (latest_got (port_log h))) refl) e.stands in
    inr (greets_one (marks_of h) (stored_at_banners (port_log h)) (length (stored_of h)) (one_each (port_log h) ∙ b.steady) b.at_end s)
  where
    had : (t : Bool) → has_banner (latest_got (port_log h)) ≡ t → t ≡ true
    had true f = refl
    had false f = absurd (
        let n = none_banner (latest_got (port_log h)) f in let o = one_each (port_log h) in
        let l = ap length s.got_are ∙ length-append s.greeted (s.first ∷ []) in omega arith)

got_shown : (room : ℕ) (r : Reply) (h : Journal) → Conducted room (at_port (got r) ∷ h) → (t : Bool) → is_banner r ≡ t → HasShown (marks_of h) (stored_at_banners (port_log h))
    → HasShown (marks_of h) (cond t (length (stored_of h) ∷ stored_at_banners (port_log h)) (stored_at_banners (port_log h)))
got_shown room r h c true is s = got_banner room r h c is s
got_shown room r h c false is s = s

shown_is : (room : ℕ) (h : Journal) → Conducted room h → HasShown (marks_of h) (stored_at_banners (port_log h))
shown_is room [] c = inl refl
shown_is room (at_port (got r) ∷ h) c = got_shown room r h c (is_banner r) refl (shown_is room h c.1)
shown_is room (at_port marked ∷ h) c = one_more (length (stored_of h)) (marks_of h) (stored_at_banners (port_log h)) (shown_is room h c.1)
shown_is room (at_port _ ∷ h) c = shown_is room h c.1
shown_is room (_ ∷ h) c = shown_is room h c.1

-- ---- so it awaits one of each

-- one mark has none
one_awaits : (marks more greeted : List ℕ) (now : ℕ) → marks ≡ more ++ greeted → length more ≡ 1 → latest marks ≡ now → marks ≡ now ∷ greeted
one_awaits marks [] greeted now is one at = absurd (omega arith)
one_awaits marks (m ∷ []) greeted now is one at = is ∙ ap (λ (n : ℕ). n ∷ greeted) (ap latest (sym is) ∙ at)
one_awaits marks (m ∷ x ∷ xs) greeted now is one at = absurd (omega arith)

none_awaits : (marks more greeted : List ℕ) → marks ≡ more ++ greeted → length more ≡ 0 → marks ≡ greeted
none_awaits marks more greeted is none = is ∙ ap (λ (ms : List ℕ). ms ++ greeted) (none_by_length more none)

-- which of the marks have theirs, if so many Banners were got
marks_by : (marks more greeted left bytes : List ℕ) (banners from : ℕ) → marks ≡ more ++ greeted → ((banners ≡ 0) × (length greeted ≡ 0)) ⊎ (banners ≡ length greeted + 1) → Stands marks banners left bytes from
    → (marks ≡ greeted) ⊎ (marks ≡ length bytes ∷ greeted)
marks_by marks more greeted left bytes banners from is many (inl s) =
    let e = ap length is ∙ length-append more greeted in
    inl (none_awaits marks more greeted is (few many s.0 e))
  where
    few : ((banners ≡ 0) × (length greeted ≡ 0)) ⊎ (banners ≡ length greeted + 1) → IsSteady marks banners → length marks ≡ length more + length greeted → length more ≡ 0
    few many (inl none) e = omega arith
    few (inl none) (inr all) e = absurd (let b = none.0 in omega arith)
    few (inr some) (inr all) e = omega arith
marks_by marks more greeted left bytes banners from is many (inr p) =
    let e = ap length is ∙ length-append more greeted in
    inr (one_awaits marks more greeted (length bytes) is (one many p.0.one e) p.0.at_end)
  where
    one : ((banners ≡ 0) × (length greeted ≡ 0)) ⊎ (banners ≡ length greeted + 1) → (length marks ≤ banners) ⊎ (length marks ≤ 1) → length marks ≡ length more + length greeted → length more ≡ 1
    one (inl none) (inl few) e = absurd (let s = p.0.some in let b = none.0 in omega arith)
    one (inl none) (inr few) e = let s = p.0.some in let g = none.1 in omega arith
    one (inr some) (inl few) e = let l = p.0.late in omega arith
    one (inr some) (inr few) e = let l = p.0.late in omega arith

pub awaits : (room : ℕ) (h : Journal) → Conducted room h → AwaitsBanners (stored_of h) (marks_of h) (stored_at_banners (port_log h))
awaits room h c = by_shown (shown_is room h c)
  where
    by_shown : HasShown (marks_of h) (stored_at_banners (port_log h)) → AwaitsBanners (stored_of h) (marks_of h) (stored_at_banners (port_log h))
    by_shown (inl none) =
        let e = epoch_is room h c in
        let zero_got : banners_of h ≡ 0 = sym (one_each (port_log h)) ∙ ap length none in record {
          rising = (rising_is (port_log h)).0;
          greeted = [];
          are = marks_by (marks_of h) (marks_of h) [] (to_store h) (stored_of h) (banners_of h) e.from (sym (append-nil (marks_of h))) (inl (zero_got, refl)) e.stands;
          got = inl (none, refl);
        }
    by_shown (inr s) =
        let e = epoch_is room h c in
        let many : banners_of h ≡ length s.greeted + 1 = sym (one_each (port_log h)) ∙ ap length s.got_are ∙ length-append s.greeted (s.first ∷ []) in record {
          rising = (rising_is (port_log h)).0;
          greeted = s.greeted;
          are = marks_by (marks_of h) s.more s.greeted (to_store h) (stored_of h) (banners_of h) e.from s.marks_are (inr many) e.stands;
          got = inr (s.first, s.got_are);
        }

-- where no mark lacks its Banner, each has one
steady_got : (h : Journal) → IsSteady (marks_of h) (banners_of h) → HasBanners (marks_of h) (stored_at_banners (port_log h))
steady_got h (inl none) = λ some. absurd (omega arith)
steady_got h (inr all) = λ some. let o = one_each (port_log h) in omega arith

-- a host that has closed its link, and got no alarm of a limit, has got all
pub all_got : (room : ℕ) (h : Journal) → Conducted room h → is_shut h ≡ true → has_limit h ≡ false → HasBanners (marks_of h) (stored_at_banners (port_log h))
all_got room h c closed calm = by_stands (epoch_is room h c).stands
  where
    by_stands : Stands (marks_of h) (banners_of h) (to_store h) (stored_of h) (epoch_is room h c).from → HasBanners (marks_of h) (stored_at_banners (port_log h))
    by_stands (inl s) = steady_got h s.0
    by_stands (inr p) = pending_busy room h c (calm_shut room h c closed calm) (none_due_shut room h c closed calm) p.0

-- a host has got all, or it awaits one, and has stored and marked all that came of what it has scanned
pub got_or_all : (room : ℕ) (h : Journal) → Conducted room h → HasBanners (marks_of h) (stored_at_banners (port_log h)) ⊎ IsAllOf (sent_of (cut_of h) (raw_of h)) (stored_of h) (marks_of h)
got_or_all room h c = by_stands (epoch_is room h c).stands
  where
    by_stands : Stands (marks_of h) (banners_of h) (to_store h) (stored_of h) (epoch_is room h c).from → HasBanners (marks_of h) (stored_at_banners (port_log h)) ⊎ IsAllOf (sent_of (cut_of h) (raw_of h)) (stored_of h) (marks_of h)
    by_stands (inl s) = inl (steady_got h s.0)
    by_stands (inr p) = inr (pending_all room h c p.0)
