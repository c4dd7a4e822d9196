-- The comments of a line, cut out of the whole line.
use Rattle.std.specs.Prelude.{ℕ, suc, zero, Bool, cond, ◌||◌, List, [], ◌∷◌, ◌++◌, length, drop, nat_eq}
use Rattle.std.specs.List.{before_first, after_first, list_any}
use Rattle.gcode_words.specs.declared.stripping.Comment.{Comment}
use Rattle.gcode_words.specs.declared.stripping.Comment.TheVariants.{Outside, Paren, Semicolon}

-- '(' or ';'
abbrev pub begins_comment : ℕ → Bool
begins_comment c = nat_eq c 40 || nat_eq c 59

-- ')'
abbrev pub ends_comment : ℕ → Bool
ends_comment c = nat_eq c 41

-- the bytes of a line outside its comments, and the kind of comment, if any, that its end is in
pub record Cut : Type 0 where
  pub outside : List ℕ
  pub comment : Comment

-- what a comment at the front of a text leaves of it: a '(' comment what comes after the next ')', if there is one, cut
-- further; a ';' comment nothing
abbrev pub cut_comment : (List ℕ → Cut) → List ℕ → Cut
cut_comment cut_rest [] = record { outside = []; comment = Outside }
cut_comment cut_rest (c ∷ comment) =
    cond (nat_eq c 59) (record { outside = []; comment = Semicolon })
    (cond (list_any ends_comment comment) (cut_rest (after_first ends_comment comment)) (record { outside = []; comment = Paren }))

-- a line of at most n comments: what comes before the leftmost '(' or ';', and what the comment that begins there
-- leaves
unfoldable pub cut_within : ℕ → List ℕ → Cut
cut_within zero line = record { outside = line; comment = Outside }
cut_within (suc n) line =
    let front = before_first begins_comment line in
    let rest = cut_comment (cut_within n) (drop (length front) line) in
    record { outside = front ++ rest.outside; comment = rest.comment }

-- a line, which has no more comments than bytes
abbrev pub cut : List ℕ → Cut
cut line = cut_within (length line) line

-- how a text ends: outside comments, or in one of this kind
abbrev pub comment_after : List ℕ → Comment
comment_after line = (cut line).comment
