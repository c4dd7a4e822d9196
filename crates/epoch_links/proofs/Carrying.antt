-- The lines of the pieces, with a reset behind each, are those that were sent.
use Rattle.std.proofs.Common.{◌≡◌, ℕ, ◌+◌, ◌≤◌, Bool, true, false, cond, List, [], ◌∷◌, ◌++◌, length, map, drop, nat_eq, length-append, append-nil, append_assoc, refl, sym, ap, ◌∙◌, subst, arith}
use Rattle.std.specs.List.{AllByRecursion, concat}
use Rattle.std.proofs.lemmas.Grind.{flat_map-append}
use Rattle.std.proofs.lemmas.List.{map-append, append_cancel_left}
use Rattle.run_rules.specs.Lines.{HasNoLf, ended, whole_lines, onto_line}
use Rattle.run_texts.specs.Sent.{Sent}
use Rattle.run_texts.specs.Sent.Sent.{a_text, a_stop}
use Rattle.stream_host.proofs.Links.{all_push}
use Rattle.run_rules.proofs.Cutting.{wholes_on}
use Rattle.step_line.specs.Logs.{NewestFirst}
use Rattle.board_epochs.specs.Epochs.{Closed}
use Rattle.epoch_links.specs.Taken.{taken_closed, taken_before}
use Rattle.epoch_links.specs.Pieces.{Pieces, joined, ends_behind, texts_in, items_closed, bytes_of, stops_behind, HoldNoLf}

-- ---- fronts of bytes

-- of two fronts of the same bytes the longer goes on with the shorter's rest
pub record GoesOn (front longer rest other : List ℕ) : Type 0 where
  pub between : List ℕ
  pub longer_is : longer ≡ front ++ between
  pub rest_is : rest ≡ between ++ other

pub goes_on : (front longer rest other : List ℕ) → front ++ rest ≡ longer ++ other → length front ≤ length longer → GoesOn front longer rest other
goes_on [] longer rest other e few = record { between = longer; longer_is = refl; rest_is = e }
goes_on (x ∷ xs) [] rest other e few = absurd (omega arith)
goes_on (x ∷ xs) (y ∷ ys) rest other e few =
    let same : y ≡ x = cc in
    let i = goes_on xs ys rest other (ap (drop 1) e) (omega arith) in
    record { between = i.between; longer_is = ap (λ (zs : List ℕ). y ∷ zs) i.longer_is ∙ ap (λ (z : ℕ). z ∷ (xs ++ i.between)) same; rest_is = i.rest_is }

pub same_front : (xs ys us vs : List ℕ) → xs ++ us ≡ ys ++ vs → length xs ≡ length ys → xs ≡ ys
same_front [] [] us vs e same = refl
same_front [] (y ∷ ys) us vs e same = absurd (omega arith)
same_front (x ∷ xs) [] us vs e same = absurd (omega arith)
same_front (x ∷ xs) (y ∷ ys) us vs e same = let i = same_front xs ys us vs (ap (drop 1) e) (omega arith) in cc

pub same_rest : (xs ys us vs : List ℕ) → xs ++ us ≡ ys ++ vs → length xs ≡ length ys → us ≡ vs
same_rest xs ys us vs e same = append_cancel_left ys us vs (ap (λ (zs : List ℕ). zs ++ us) (sym (same_front xs ys us vs e same)) ∙ e)

-- ---- pieces are determined by where they end

same_closed : (n : ℕ) (ps qs : List (List ℕ)) (us vs : List ℕ) → concat ps ++ us ≡ concat qs ++ vs → ends_behind n ps ≡ ends_behind n qs → (ps ≡ qs) × (us ≡ vs)
same_closed n [] [] us vs e ends = (refl, e)
same_closed n [] (q ∷ qs) us vs e ends = absurd cc
same_closed n (p ∷ ps) [] us vs e ends = absurd cc
same_closed n (p ∷ ps) (q ∷ qs) us vs e ends =
    let at : n + length p ≡ n + length q = cc in
    let same : length p ≡ length q = omega arith in
    let split : p ++ (concat ps ++ us) ≡ q ++ (concat qs ++ vs) = sym (append_assoc p (concat ps) us) ∙ e ∙ append_assoc q (concat qs) vs in
    let first = same_front p q (concat ps ++ us) (concat qs ++ vs) split same in
    let rest = same_rest p q (concat ps ++ us) (concat qs ++ vs) split same in
    let i = same_closed (n + length p) ps qs us vs rest (ap (drop 1) ends ∙ ap (λ (k : ℕ). ends_behind k qs) (sym at)) in
    ((let a = i.0 in cc), i.1)

pub same_pieces : (p q : Pieces) → joined p ≡ joined q → ends_behind 0 p.closed ≡ ends_behind 0 q.closed → p ≡ q
same_pieces p q bytes ends = let i = same_closed 0 p.closed q.closed p.last q.last bytes ends in λ k. record { closed = i.0 k; last = i.1 k }

-- ---- the lines of a front

onto_more : (c : ℕ) (lines more : List (List ℕ)) → (rest : List (List ℕ)) × (onto_line c (lines ++ more) ≡ onto_line c lines ++ rest)
onto_more c [] more = (onto_line c more, refl)
onto_more c (l ∷ ls) more = (more, refl)

pub lines_more : (text more : List ℕ) → (rest : List (List ℕ)) × (whole_lines (text ++ more) ≡ whole_lines text ++ rest)
lines_more [] more = (whole_lines more, refl)
lines_more (c ∷ cs) more = by_test (nat_eq c 10) (lines_more cs more)
  where
    by_test : (t : Bool) → (rest : List (List ℕ)) × (whole_lines (cs ++ more) ≡ whole_lines cs ++ rest)
        → (rest : List (List ℕ)) × (cond t ([] ∷ whole_lines (cs ++ more)) (onto_line c (whole_lines (cs ++ more))) ≡ cond t ([] ∷ whole_lines cs) (onto_line c (whole_lines cs)) ++ rest)
    by_test true i = (i.0, ap (λ (ls : List (List ℕ)). [] ∷ ls) i.1)
    by_test false i = let o = onto_more c (whole_lines cs) i.0 in (o.0, ap (onto_line c) i.1 ∙ o.1)

pub wholes : (lines : List (List ℕ)) → AllByRecursion HasNoLf lines → whole_lines (ended lines) ≡ lines
wholes lines all = ap whole_lines (sym (append-nil (ended lines))) ∙ wholes_on lines [] all ∙ append-nil lines

pub ended_push : (lines : List (List ℕ)) (line : List ℕ) → ended (lines ++ line ∷ []) ≡ ended lines ++ (line ++ 10 ∷ [])
ended_push lines line = flat_map-append (λ (l : List ℕ). l ++ 10 ∷ []) lines (line ∷ []) ∙ ap (λ (t : List ℕ). ended lines ++ t) (append-nil (line ++ 10 ∷ []))

-- no number of a list comes first, or one that is not below this
abbrev pub BeginsPast : ℕ → List ℕ → Type 0
BeginsPast n [] = Unit {0}
BeginsPast n (m ∷ ms) = n ≤ m

-- ---- what was sent begins with what the pieces hold, and is all of it if no byte and no reset is left
pub record Carries (rest more : List ℕ) (whole front : List Sent) : Type 0 where
  pub left : List Sent
  pub is : whole ≡ front ++ left
  pub all : rest ≡ [] → more ≡ [] → left ≡ []

-- the lines of a front of some lines
front_lines : (lines : List (List ℕ)) (bytes rest : List ℕ) → AllByRecursion HasNoLf lines → ended lines ≡ bytes ++ rest → (more : List (List ℕ)) × (lines ≡ whole_lines bytes ++ more) × (rest ≡ [] → more ≡ [])
front_lines lines bytes rest all e =
    let m = lines_more bytes rest in
    let is : lines ≡ whole_lines bytes ++ m.0 = sym (wholes lines all) ∙ ap whole_lines e ∙ m.1 in
    (m.0, is, λ none. append_cancel_left (whole_lines bytes) m.0 [] (sym m.1 ∙ ap (λ (xs : List ℕ). whole_lines (bytes ++ xs)) none ∙ ap whole_lines (append-nil bytes) ∙ sym (append-nil (whole_lines bytes))))

texts_front : (lines : List (List ℕ)) (bytes : List ℕ) (more : List (List ℕ)) (sent : List Sent) → lines ≡ whole_lines bytes ++ more → map a_text lines ++ sent ≡ texts_in bytes ++ (map a_text more ++ sent)
texts_front lines bytes more sent e =
    ap (λ (ls : List (List ℕ)). map a_text ls ++ sent) e ∙ ap (λ (s : List Sent). s ++ sent) (map-append a_text (whole_lines bytes) more)
    ∙ append_assoc (texts_in bytes) (map a_text more) sent

at_end : (lines : List (List ℕ)) (n : ℕ) (closed : List (List ℕ)) (last rest more : List ℕ) → AllByRecursion HasNoLf lines → (concat closed ++ last) ++ rest ≡ ended lines ++ [] → [] ≡ ends_behind n closed ++ more
    → Carries rest more (map a_text lines ++ []) (items_closed closed ++ texts_in last)
at_end lines n (q ∷ qs) last rest more all bytes stops = absurd cc
at_end lines n [] last rest more all bytes stops =
    let f = front_lines lines last rest all (sym (append-nil (ended lines)) ∙ sym bytes) in
    record { left = map a_text f.0 ++ []; is = texts_front lines last f.0 [] f.1; all = λ none end. ap (λ (ls : List (List ℕ)). map a_text ls ++ []) (f.2 none) }

unmarked : (lines : List (List ℕ)) (n : ℕ) (last rest more : List ℕ) (sent : List Sent) → AllByRecursion HasNoLf lines → last ++ rest ≡ ended lines ++ bytes_of sent
    → (n + length (ended lines)) ∷ stops_behind (n + length (ended lines)) sent ≡ more → BeginsPast (n + length last) more
    → Carries rest more (map a_text lines ++ a_stop ∷ sent) (texts_in last)
unmarked lines n last rest more sent all bytes stops past =
    let few : n + length last ≤ n + length (ended lines) = subst (BeginsPast (n + length last)) (sym stops) past in
    let g = goes_on last (ended lines) rest (bytes_of sent) bytes (omega arith) in
    let f = front_lines lines last g.between all g.longer_is in
    record { left = map a_text f.0 ++ a_stop ∷ sent; is = texts_front lines last f.0 (a_stop ∷ sent) f.1; all = λ none end. absurd (let e = stops ∙ end in cc) }

pub carried : (sent : List Sent) (lines : List (List ℕ)) (n : ℕ) (closed : List (List ℕ)) (last rest more : List ℕ) → AllByRecursion HasNoLf lines → HoldNoLf sent
    → (concat closed ++ last) ++ rest ≡ ended lines ++ bytes_of sent → stops_behind (n + length (ended lines)) sent ≡ ends_behind n closed ++ more
    → BeginsPast (n + length (concat closed ++ last)) more → Carries rest more (map a_text lines ++ sent) (items_closed closed ++ texts_in last)
carried [] lines n closed last rest more all holds bytes stops past = at_end lines n closed last rest more all bytes stops
carried (a_text line ∷ sent) lines n closed last rest more all holds bytes stops past =
    let push = ended_push lines line in
    let long : n + length (ended (lines ++ line ∷ [])) ≡ n + length (ended lines) + (length line + 1) =
    (let a = ap length push in let b = length-append (ended lines) (line ++ 10 ∷ []) in let c = length-append line (10 ∷ []) in omega arith) in
    let i = carried sent (lines ++ line ∷ []) n closed last rest more (all_push HasNoLf lines line all holds.0) holds.1
    (bytes ∙ sym (append_assoc (ended lines) (line ++ 10 ∷ []) (bytes_of sent)) ∙ ap (λ (t : List ℕ). t ++ bytes_of sent) (sym push))
    (ap (λ (k : ℕ). stops_behind k sent) long ∙ stops) past in
    record {
      left = i.left;
      is = sym (append_assoc (map a_text lines) (a_text line ∷ []) sent) ∙ ap (λ (s : List Sent). s ++ sent) (sym (map-append a_text lines (line ∷ []))) ∙ i.is;
      all = i.all;
    }
carried (a_stop ∷ sent) lines n [] last rest more all holds bytes stops past = unmarked lines n last rest more sent all bytes stops past
carried (a_stop ∷ sent) lines n (q ∷ qs) last rest more all holds bytes stops past =
    let at : n + length (ended lines) ≡ n + length q = cc in
    let same : length q ≡ length (ended lines) = omega arith in
    let split : q ++ ((concat qs ++ last) ++ rest) ≡ ended lines ++ bytes_of sent =
    ap (λ (t : List ℕ). q ++ t) (append_assoc (concat qs) last rest) ∙ sym (append_assoc q (concat qs) (last ++ rest)) ∙ sym (append_assoc (q ++ concat qs) last rest) ∙ bytes in
    let first = same_front q (ended lines) ((concat qs ++ last) ++ rest) (bytes_of sent) split same in
    let behind = same_rest q (ended lines) ((concat qs ++ last) ++ rest) (bytes_of sent) split same in
    let here : n + length q + length (ended []) ≡ n + length (ended lines) = omega arith in
    let long : n + length q + length (concat qs ++ last) ≡ n + length ((q ++ concat qs) ++ last) =
    (let a = length-append (concat qs) last in let b = length-append (q ++ concat qs) last in let c = length-append q (concat qs) in omega arith) in
    let i = carried sent [] (n + length q) qs last rest more tt holds behind (ap (λ (k : ℕ). stops_behind k sent) here ∙ ap (drop 1) stops) (subst (λ (k : ℕ). BeginsPast k more) (sym long) past) in
    let texts : map a_text lines ≡ texts_in q = ap (map a_text) (sym (ap whole_lines first ∙ wholes lines all)) in
    record {
      left = i.left;
      is =
          ap (λ (s : List Sent). s ++ a_stop ∷ sent) texts ∙ ap (λ (s : List Sent). texts_in q ++ a_stop ∷ s) i.is
          ∙ sym (append_assoc (texts_in q) (a_stop ∷ (items_closed qs ++ texts_in last)) i.left)
          ∙ ap (λ (s : List Sent). s ++ i.left) (sym (append_assoc (texts_in q) (a_stop ∷ items_closed qs) (texts_in last)));
      all = i.all;
    }

-- ---- one epoch more

items_push : (ps : List (List ℕ)) (p : List ℕ) → items_closed (ps ++ p ∷ []) ≡ items_closed ps ++ (texts_in p ++ a_stop ∷ [])
items_push [] p = refl
items_push (q ∷ qs) p = ap (λ (s : List Sent). texts_in q ++ a_stop ∷ s) (items_push qs p) ∙ sym (append_assoc (texts_in q) (a_stop ∷ items_closed qs) (texts_in p ++ a_stop ∷ []))

pub items_more : (e : Closed) (es : NewestFirst Closed) → items_closed (taken_before (e ∷ es)) ≡ items_closed (taken_before es) ++ (texts_in (taken_closed e) ++ a_stop ∷ [])
items_more e es = items_push (taken_before es) (taken_closed e)
