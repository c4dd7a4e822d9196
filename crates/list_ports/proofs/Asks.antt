-- What calls make of the reports that are asked for.
use Rattle.std.proofs.Common.{◌≡◌, ℕ, ◌+◌, ◌^◌, ◌≤◌, ◌<◌, ◌⊎◌, inl, inr, Bool, true, false, not, cond, ◌&&◌, bit_or, nat_eq, List, [], ◌∷◌, refl, sym, ap, ◌∙◌, arith, Some}
use Rattle.code_table.specs.Tables.{query}
use Rattle.code_table.specs.declared.flags.Exec.{Exec}
use Rattle.status_report.specs.declared.Reply.{Reply}
use Rattle.status_report.specs.Answering.{is_answer, is_banner, banners_in}
use Rattle.status_report.proofs.Banners.{banners_first, no_answer}
use Rattle.serial_ring.specs.Lists.{has_banner, answers_behind_mark}
use Rattle.realtime_flags.specs.declared.words.Flag.{Flag}
use Rattle.realtime_flags.specs.declared.words.Flag.TheVariants as flags
use Rattle.realtime_flags.specs.Bits.{is_flag, is_up, report_flag}
use Rattle.realtime_flags.specs.Bytes.{flag_of_byte}
use Rattle.realtime_flags.proofs.Bits.{raised_up, same_flag}
use Rattle.stream_host.proofs.Epochs.{some_banner, none_banner}
use Rattle.stream_host.proofs.Queries.{asks, only_query}
use Rattle.list_ports.specs.Asked.{AsksPass, epoch_behind, is_at, report_is_up}

-- ---- moments

same_at : (e k : ℕ) (xs ys : List Reply) → epoch_behind xs ≡ epoch_behind ys → answers_behind_mark xs ≡ answers_behind_mark ys → is_at e k xs ≡ is_at e k ys
same_at e k xs ys b a = ap (λ n. nat_eq n e && nat_eq (answers_behind_mark xs) k) b ∙ ap (λ n. nat_eq (epoch_behind ys) e && nat_eq n k) a

-- ---- a realtime byte is raised

-- A `?` is raised only where both sides are in one epoch, all lines on the link are answered, all answers got, and no reset waits for its
-- Banner.
pub record AllAnswered (got told : List Reply) (answers lfs resets : ℕ) : Type 0 where
  pub same : epoch_behind got ≡ epoch_behind told
  pub got_all : answers_behind_mark got ≡ answers_behind_mark told
  pub all : answers ≡ lfs
  pub calm : resets ≤ epoch_behind told

raised_here : (up up' down t x y : Bool) (words raises : ℕ) → (up' ≡ true → (up ≡ true) ⊎ ((t ≡ true) × (down ≡ true))) → (t ≡ true → x ≡ y)
    → words + cond (up && y) 1 0 ≤ raises → words + cond (up' && y) 1 0 ≤ cond (down && (t && x)) 1 0 + raises
raised_here up false down t x y words raises how same le = omega arith
raised_here true true down t x y words raises how same le = omega arith
raised_here false true down t x y words raises how same le = by_how (how refl)
  where
    by_how : (false ≡ true) ⊎ ((t ≡ true) × (down ≡ true)) → words + cond y 1 0 ≤ cond (down && (t && x)) 1 0 + raises
    by_how (inl e) = absurd cc
    by_how (inr e) =
        let g = ap (λ b. cond {A = ℕ} b 1 0) (same e.0) in
        let d = ap (λ b. cond {A = ℕ} (b && (t && x)) 1 0) e.1 in
        let u = ap (λ b. cond {A = ℕ} (b && x) 1 0) e.0 in omega arith

pub asks_raised : (up up' down t : Bool) (raises words : ℕ → ℕ → ℕ) (got told : List Reply) (answers lfs resets : ℕ) (looked : Bool) → (up' ≡ true → (up ≡ true) ⊎ ((t ≡ true) × (down ≡ true)))
    → (t ≡ true → AllAnswered got told answers lfs resets) → AsksPass up raises words told answers lfs resets looked
    → AsksPass up' (λ e k. cond (down && (t && is_at e k got)) 1 0 + raises e k) words told answers lfs resets looked
asks_raised up up' down t raises words got told answers lfs resets looked how quiet p = record {
  each = λ e k. raised_here up up' down t (is_at e k got) (is_at e k told) (words e k) (raises e k) how (λ is. same_at e k got told (quiet is).same (quiet is).got_all) (p.each e k);
  before = λ e. by_how (how e);
  calm = λ e. calm_how (how e);
}
  where
    by_how : (up ≡ true) ⊎ ((t ≡ true) × (down ≡ true)) → (answers ≡ lfs) ⊎ (looked ≡ false)
    by_how (inl e) = p.before e
    by_how (inr e) = inl (quiet e.0).all

    calm_how : (up ≡ true) ⊎ ((t ≡ true) × (down ≡ true)) → resets ≤ epoch_behind told
    calm_how (inl e) = p.calm e
    calm_how (inr e) = (quiet e.0).calm

-- the flag of reports is up if it was, or if it is raised now, by a `?` that finds it down
pub up_by : (b exec override place : ℕ) → flag_of_byte b ≡ Some (flags.Exec place) → report_is_up (bit_or exec (2 ^ place)) ≡ true
    → (report_is_up exec ≡ true) ⊎ ((nat_eq b query ≡ true) × (not (is_up (flags.Exec place) (exec ∷ override ∷ [])) ≡ true))
up_by b exec override place is up = by_flag (is_flag report_flag (flags.Exec place)) refl
  where
    now : cond (is_flag report_flag (flags.Exec place)) true (report_is_up exec) ≡ true
    now = sym (raised_up (exec ∷ override ∷ []) report_flag (flags.Exec place) refl) ∙ up

    by_up : (t : Bool) → report_is_up exec ≡ t → is_up (flags.Exec place) (exec ∷ override ∷ []) ≡ report_is_up exec → nat_eq b query ≡ true
        → (report_is_up exec ≡ true) ⊎ ((nat_eq b query ≡ true) × (not (is_up (flags.Exec place) (exec ∷ override ∷ [])) ≡ true))
    by_up true e same q = inl e
    by_up false e same q = inr (q, ap not (same ∙ e))

    by_flag : (t : Bool) → is_flag report_flag (flags.Exec place) ≡ t → (report_is_up exec ≡ true) ⊎ ((nat_eq b query ≡ true) × (not (is_up (flags.Exec place) (exec ∷ override ∷ [])) ≡ true))
    by_flag true e = by_up (report_is_up exec) refl (ap (λ (f : Flag). is_up f (exec ∷ override ∷ [])) (sym (same_flag report_flag (flags.Exec place) e))) (only_query b (ap asks is ∙ e))
    by_flag false e = inl (sym (ap (λ t. cond t true (report_is_up exec)) e) ∙ now)

-- ---- a reply is answered

-- the flag is down
none_up : (up : Bool) (raises words : ℕ → ℕ → ℕ) (told later : List Reply) (answers lfs resets n m : ℕ) (looked : Bool) → up ≡ false → AsksPass up raises words told answers lfs resets looked
    → AsksPass up raises words later n m resets looked
none_up up raises words told later answers lfs resets n m looked down p = record {
  each = λ e k. let w = p.each e k in let d = ap (λ u. cond {A = ℕ} (u && is_at e k later) 1 0) down in omega arith;
  before = λ e. absurd (let f = sym down ∙ e in cc);
  calm = λ e. absurd (let f = sym down ∙ e in cc);
}

-- the moment stays
none_told : (up : Bool) (raises words : ℕ → ℕ → ℕ) (told later : List Reply) (answers lfs resets n m : ℕ) (looked : Bool) → epoch_behind later ≡ epoch_behind told
    → answers_behind_mark later ≡ answers_behind_mark told → (up ≡ true → (n ≡ m) ⊎ (looked ≡ false)) → AsksPass up raises words told answers lfs resets looked → AsksPass up raises words later n m resets looked
none_told up raises words told later answers lfs resets n m looked epoch now before p = record {
  each = λ e k. let w = p.each e k in let d = ap (λ t. cond {A = ℕ} (up && t) 1 0) (same_at e k later told epoch now) in omega arith;
  before = before;
  calm = λ e. let c = p.calm e in omega arith;
}

down_by : (up : Bool) → (up ≡ true → ⊥) → up ≡ false
down_by true never = absurd (never refl)
down_by false never = refl

module _ (up : Bool) (raises words : ℕ → ℕ → ℕ) (told : List Reply) (r : Reply) (answers lfs resets : ℕ) (looked : Bool) (p : AsksPass up raises words told answers lfs resets looked) where
  abbrev Then : (banner line : Bool) → Type 0
  Then banner line = AsksPass up raises words (r ∷ told) (cond banner 0 (cond line 1 0 + answers)) (cond banner 0 lfs) resets looked

  banner_told : is_banner r ≡ true → banners_in told ≤ resets → (t : Bool) → has_banner told ≡ t → (line : Bool) → Then true line
  banner_told is due true h line =
      none_up up raises words told (r ∷ told) answers lfs resets 0 0 looked
      (down_by up (λ e. (let c = p.calm e in let s = some_banner told h in absurd (omega arith)))) p
  banner_told is due false h line =
      none_told up raises words told (r ∷ told) answers lfs resets 0 0 looked
      (let n = none_banner told h in let f = banners_first r told in let g = ap (λ x. cond {A = ℕ} x 1 0) is in omega arith)
      (ap (λ x. cond (is_banner r && x) 0 (cond (is_answer r) 1 0 + answers_behind_mark told)) h ∙ first)
      (λ e. inl refl) p
    where
      first : cond (is_banner r && false) 0 (cond (is_answer r) 1 0 + answers_behind_mark told) ≡ answers_behind_mark told
      first = let a = ap (λ x. cond {A = ℕ} (x && false) 0 (cond (is_answer r) 1 0 + answers_behind_mark told)) is in let n = ap (λ x. cond {A = ℕ} x 1 0) (no_answer r is) in omega arith

  line_told : (answers < lfs) × (looked ≡ true) → Then false true
  line_told due = none_up up raises words told (r ∷ told) answers lfs resets (cond false 0 (cond true 1 0 + answers)) (cond false 0 lfs) looked (down_by up (λ e. never (p.before e))) p
    where
      never : (answers ≡ lfs) ⊎ (looked ≡ false) → ⊥
      never (inl e) = let d = due.0 in absurd (omega arith)
      never (inr e) = absurd (let f = sym due.1 ∙ e in cc)

  other_told : is_banner r ≡ false → is_answer r ≡ false → Then false false
  other_told banner line =
      none_told up raises words told (r ∷ told) answers lfs resets (cond false 0 (cond false 1 0 + answers)) (cond false 0 lfs) looked
      (let f = banners_first r told in let g = ap (λ x. cond {A = ℕ} x 1 0) banner in omega arith)
      (let a = ap (λ x. cond {A = ℕ} (x && has_banner told) 0 (cond (is_answer r) 1 0 + answers_behind_mark told)) banner in let n = ap (λ x. cond {A = ℕ} x 1 0) line in omega arith)
      (λ e. still (p.before e)) p
    where
      still : (answers ≡ lfs) ⊎ (looked ≡ false) → (0 + answers ≡ lfs) ⊎ (looked ≡ false)
      still (inl e) = inl (omega arith)
      still (inr e) = inr e

  by_tests : (banner line : Bool) → is_banner r ≡ banner → is_answer r ≡ line → (line ≡ true → (answers < lfs) × (looked ≡ true)) → (banner ≡ true → banners_in told ≤ resets) → Then banner line
  by_tests true line b l due greets = banner_told b (greets refl) (has_banner told) refl line
  by_tests false true b l due greets = line_told (due refl)
  by_tests false false b l due greets = other_told b l

  pub asks_answered : (is_answer r ≡ true → (answers < lfs) × (looked ≡ true)) → (is_banner r ≡ true → banners_in told ≤ resets) → Then (is_banner r) (is_answer r)
  asks_answered due greets = by_tests (is_banner r) (is_answer r) refl refl due greets
