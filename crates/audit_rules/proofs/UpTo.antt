-- Where records that stand, and not with the next one, end among the lines that were read.
use Rattle.std.proofs.Common.{◌≡◌, ℕ, List, [], ◌∷◌, ◌++◌, append_assoc, append-nil, refl, sym, ap, ◌∙◌, subst}
use Rattle.std.proofs.lemmas.List.Concat.{flat_map-append}
use Rattle.step_line.specs.declared.Record.{Record}
use Rattle.run_texts.specs.Sent.{Sent}
use Rattle.audit_rules.specs.Standing.{Stand, StandTo, StandRead, AreUpTo}
use Rattle.audit_rules.specs.StepTexts.{AreLinesOf, lines_text, records_of, form_of}
use Rattle.step_record.specs.declared.forms.Line.{Line}
use Rattle.step_record.specs.Forms.{line_text}
use Rattle.step_record.specs.Forms.{records_of as records_by}
use Rattle.audit_rules.proofs.Lines.{lines_first, one_line_here}
use Rattle.audit_rules.proofs.Replies.{all_second}
use Rattle.audit_rules.proofs.Stands.{stand_front}

-- ---- one list in two ways

-- one front goes as far as the other, or ends before it
data Fronts (xs ys zs ws : List Record) : Type 0 where
  as_far : (more : List Record) → xs ≡ zs ++ more → more ++ ys ≡ ws → Fronts xs ys zs ws
  before : (r : Record) (tail : List Record) → zs ≡ xs ++ r ∷ tail → ys ≡ r ∷ (tail ++ ws) → Fronts xs ys zs ws

fronts : (xs ys zs ws : List Record) → xs ++ ys ≡ zs ++ ws → Fronts xs ys zs ws
fronts xs ys [] ws e = as_far xs refl e
fronts [] ys (z ∷ zs) ws e = before z zs refl e
fronts (x ∷ xs) ys (z ∷ zs) ws e = onto (let first : x ≡ z = cc in first) (fronts xs ys zs ws (let more : xs ++ ys ≡ zs ++ ws = cc in more)) where
  onto : x ≡ z → Fronts xs ys zs ws → Fronts (x ∷ xs) ys (z ∷ zs) ws
  onto same (as_far more f g) = as_far more (ap (λ q. q ∷ xs) same ∙ ap (λ (qs : List Record). z ∷ qs) f) g
  onto same (before r tail f g) = before r tail (ap (λ q. q ∷ zs) (sym same) ∙ ap (λ (qs : List Record). x ∷ qs) f) g

-- ---- lines

nothing : {A : Type 0} (records : List Record) (r : Record) (others : List Record) → records ≡ [] → records ≡ r ∷ others → A
nothing [] r others e f = absurd cc
nothing (x ∷ xs) r others e f = absurd cc

-- the first record of some is one
same_first : (xs others tail : List Record) (r q : Record) → xs ≡ r ∷ others → xs ≡ q ∷ tail → r ≡ q
same_first [] others tail r q e f = absurd cc
same_first (x ∷ xs) others tail r q e f = let a : x ≡ r = cc in let b : x ≡ q = cc in sym a ∙ b

both_none : (xs ys : List Record) → xs ++ ys ≡ [] → (xs ≡ []) × (ys ≡ [])
both_none [] ys e = (refl, e)
both_none (x ∷ xs) ys e = absurd cc

up_to : (lines : List Line) (records left : List Record) → records ++ left ≡ records_of lines → (done : List Line) × AreUpTo done lines records left
up_to [] records left e =
    let n = both_none records left e in
    ([], record { behind = []; part = []; lines_are = refl; records_are = n.0; none = λ f. (refl, refl); some = λ r others f. nothing left r others n.1 f })
up_to (l ∷ ls) records left e = by_front (fronts records left (records_by l) (records_of ls) e) (λ more g. up_to ls more left g) where
  by_front : Fronts records left (records_by l) (records_of ls) → ((more : List Record) → more ++ left ≡ records_of ls → (done : List Line) × AreUpTo done ls more left) → (done : List Line) × AreUpTo done (l ∷ ls) records left
  by_front (as_far more f g) on =
      let u = on more g in (
        l ∷ u.0,
        record {
          behind = u.1.behind;
          part = u.1.part;
          lines_are = ap (λ (ks : List Line). l ∷ ks) u.1.lines_are;
          records_are = f ∙ ap (λ (rs : List Record). records_by l ++ rs) u.1.records_are ∙ sym (append_assoc (records_by l) (records_of u.0) u.1.part);
          none = u.1.none;
          some = u.1.some;
        },
      )
  by_front (before q tail f g) on = (
    [],
    record {
      behind = l ∷ ls;
      part = records;
      lines_are = refl;
      records_are = refl;
      none = λ n. nothing left q (tail ++ records_of ls) n g;
      some = λ r others is. (
        l,
        ls,
        tail,
        refl,
        append-nil (records_by l) ∙ f ∙ ap (λ (x : Record). records ++ x ∷ tail) (same_first left (tail ++ records_of ls) others q r g is),
      );
    },
  )

-- ---- the place

module _ (sent : List Sent) (console steps : List ℕ) (lines : List Line) (rest : List ℕ) (records left : List Record) (s : StandRead sent console steps lines rest records left) where
  further : (done : List Line) (u : AreUpTo done lines records left) (some : List Record) → left ≡ some → (line : Line) (more : List ℕ) → lines_text u.behind ++ rest ≡ line_text line ++ more → AreLinesOf (form_of steps) (done ++ line ∷ [])
      → Stand sent console (records_of (done ++ line ∷ [])) → ⊥
  further done u [] none line more e are stand =
      let n = u.none none in
      let same : lines ≡ done = u.lines_are ∙ ap (λ (ks : List Line). done ++ ks) n.0 ∙ append-nil done in
      s.no_line none line more (ap (λ (ks : List Line). lines_text ks ++ rest) (sym n.0) ∙ e) (subst (λ (ks : List Line). AreLinesOf (form_of steps) (ks ++ line ∷ [])) (sym same) are)
      (subst (λ (ks : List Line). Stand sent console (records_of (ks ++ line ∷ []))) (sym same) stand)
  further done u (r ∷ others) is line more e are stand =
      let w = u.some r others is in
      let here : line_text w.0 ++ (lines_text w.1 ++ rest) ≡ line_text line ++ more =
      sym (append_assoc (line_text w.0) (lines_text w.1) rest) ∙ ap (λ (ks : List Line). lines_text ks ++ rest) (sym w.3) ∙ e in
      let all : AreLinesOf (form_of steps) ((done ++ w.0 ∷ []) ++ w.1) =
      subst (λ (ks : List Line). AreLinesOf (form_of steps) ks) (u.lines_are ∙ ap (λ (ks : List Line). done ++ ks) w.3 ∙ sym (append_assoc done (w.0 ∷ []) w.1)) s.are in
      let one = lines_first (form_of steps) (done ++ w.0 ∷ []) w.1 all in
      let same = one_line_here (form_of steps) w.0 line (lines_text w.1 ++ rest) more (all_second _ done (w.0 ∷ []) one.each).0 (all_second _ done (line ∷ []) are.each).0 here in
      let made : records_of (done ++ line ∷ []) ≡ (records ++ r ∷ []) ++ w.2 =
      ap (λ (l : Line). records_of (done ++ l ∷ [])) (sym same.line)
      ∙ flat_map-append records_by done (w.0 ∷ [])
      ∙ ap (λ (rs : List Record). records_of done ++ rs) w.4
      ∙ sym (append_assoc (records_of done) u.part (r ∷ w.2))
      ∙ ap (λ (rs : List Record). rs ++ r ∷ w.2) (sym u.records_are)
      ∙ sym (append_assoc records (r ∷ []) w.2) in
      s.no_record r others is (stand_front sent console (records ++ r ∷ []) w.2 (subst (λ (rs : List Record). Stand sent console rs) made stand))

  pub stand_to : (z : StandTo sent console steps) × AreUpTo z.done lines records left
  stand_to =
      let u = up_to lines records left s.records_are in
      let all : AreLinesOf (form_of steps) (u.0 ++ u.1.behind) = subst (λ (ks : List Line). AreLinesOf (form_of steps) ks) u.1.lines_are s.are in (
        record {
          done = u.0;
          rest = lines_text u.1.behind ++ rest;
          text = s.text ∙ ap (λ (ks : List Line). lines_text ks ++ rest) u.1.lines_are ∙ ap (λ (t : List ℕ). t ++ rest) (flat_map-append line_text u.0 u.1.behind) ∙ append_assoc (lines_text u.0) (lines_text u.1.behind) rest;
          are = lines_first (form_of steps) u.0 u.1.behind all;
          stand = stand_front sent console (records_of u.0) u.1.part (subst (λ (rs : List Record). Stand sent console rs) u.1.records_are s.stand);
          furthest = further u.0 u.1 left refl;
        },
        u.1,
      )
