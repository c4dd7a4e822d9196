-- The caps of a plan's points, one by one.
use Rattle.std.proofs.Common.{◌≡◌, ℕ, ◌+◌, ◌<◌, refl, arith, ◌∙◌, List, [], ◌∷◌, ◌++◌, length, get_or, map, add-one}
use Rattle.std.proofs.lemmas.List.{get_or_append_left, get_or_push}
use Rattle.std.proofs.lemmas.List.FromFn.{get_or-map-range_with_len, length-map-range_with_len}
use Rattle.std.specs.List.{range_with_len}
use Rattle.profile.specs.Caps.{cap_of, caps}

pub get_or-cons : (x : ℕ) (xs : List ℕ) (j : ℕ) → get_or (x ∷ xs) (j + 1) 0 ≡ get_or xs j 0
get_or-cons x xs j = rw add-one refl

-- the caps of the junctions
abbrev inner : ℕ → List ℕ → List ℕ → List ℕ
inner w gaps softs = map (cap_of w gaps softs) (range_with_len 0 (length softs))

length-inner : (w : ℕ) (gaps softs : List ℕ) → length (inner w gaps softs) ≡ length softs
length-inner w gaps softs = length-map-range_with_len (cap_of w gaps softs) 0 (length softs)

pub caps_first : (w : ℕ) (gaps softs : List ℕ) → get_or (caps w gaps softs) 0 0 ≡ w
unfolding caps
caps_first w gaps softs = refl

pub caps_inner : (w : ℕ) (gaps softs : List ℕ) (j : ℕ) → j < length softs
    → get_or (caps w gaps softs) (j + 1) 0 ≡ cap_of w gaps softs j
unfolding caps
caps_inner w gaps softs j h =
    let many = length-inner w gaps softs in
    get_or-cons w (inner w gaps softs ++ 0 ∷ []) j
    ∙ get_or_append_left (inner w gaps softs) (0 ∷ []) 0 j (omega (arith, many))
    ∙ get_or-map-range_with_len (cap_of w gaps softs) 0 (length softs) j j 0 h (omega arith)

pub caps_last : (w : ℕ) (gaps softs : List ℕ) → get_or (caps w gaps softs) (length softs + 1) 0 ≡ 0
unfolding caps
caps_last w gaps softs = rw add-one (get_or_push (inner w gaps softs) 0 0 (length softs) (length-inner w gaps softs))
