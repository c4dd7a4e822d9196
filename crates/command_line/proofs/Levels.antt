-- What a level finds where it has no fault: what holds of no rows, and is kept by each use of an argument and by each default,
-- holds of its rows.
use Rattle.std.proofs.Common.{◌≡◌, ◌&&◌, zero, suc, ℕ, Bool, true, false, cond, List, [], ◌∷◌, length, Option, Some, None, is_some, refl, sym, subst, codes, fold}
use Rattle.std.specs.Prelude.{slice_get, find, drop, encode_utf8, IfSome, ⊤}
use Rattle.std.specs.Str.{bytes_eq, chars}
use Rattle.std.specs.Option.{option_map_or}
use Rattle.clap.specs.Lexer.{long_of, short_of}
use Rattle.clap.specs.Walk.Outcome.{done, waits, plain, refused}
use Rattle.clap.specs.Walk.Waiting.{idle, option, positional}
use Rattle.clap.specs.Walk.{Held, Outcome, Row, Rule, Step, Text, Waiting, Walk, after_flag, after_step, arg_by_id, arg_by_index, arg_by_long, arg_by_short, attached_value, bundle, bundle_met, bundle_step, flag_met, is_pending, long_met, long_or_other, nothing_held, option_met, option_word, plain_word, pushed, rows_after, settled, settled_rows, short_met, short_or_plain, subcommand_met, subcommand_or_other, takes_several, takes_values, to_positional, used, used_by_id, walk, walk_from, walked, walked_from, with_default, word_met}
use Rattle.clap.specs.Walk.Step.{next, trailing, subcommand, value}
use Rattle.clap.specs.Simple.{Shape}
use Rattle.clap.specs.declared.error.kind.ErrorKind.TheVariants.{TooManyValues}
use Rattle.clap.specs.Kinds.{Kinds, or_else}
use Rattle.clap.specs.Faults.{bundle_fault, bundle_step_fault, check_fault, defaults_fault, flag_word_fault, flags_fault, level_fault, long_fault, option_fault, other_fault, positional_fault, react_fault, settle_fault, short_fault, step_fault, stray_fault, turn_fault, use_fault, walk_fault, word_fault}

-- ---- steps that have no fault

pub none_first : (a b : Kinds) → or_else a b ≡ [] → a ≡ []
none_first [] b h = refl
none_first (k ∷ ks) b h = h

pub none_second : (a b : Kinds) → or_else a b ≡ [] → b ≡ []
none_second [] b h = h
none_second (k ∷ ks) b h = absurd (cc)

pub stray : (s : Shape) → stray_fault s ≡ [] → ⊥
stray s = go s.is_leaf
  where
    go : (b : Bool) → stray_fault (record s { is_leaf = b }) ≡ [] → ⊥
    go true h = cc
    go false h = cc

-- ---- the rules of a level

-- each of the rules is so
abbrev pub Each : (Rule → Type 0) → List Rule → Type 0
Each P [] = ⊤
Each P (a ∷ rules) = P a × Each P rules

-- a rule that is found is one of them
found : (P : Rule → Type 0) (test : Rule → Bool) (rules : List Rule) → Each P rules → IfSome (find test rules) P
found P test [] each = tt
found P test (a ∷ rules) each = go (test a) (found P test rules each.1)
  where
    go : (b : Bool) → IfSome (find test rules) P → IfSome (cond b (Some a) (find test rules)) P
    go true later = each.0
    go false later = later

module _ (Good : List Row → Type 0) where
  -- a use of the argument that has no fault keeps what is so
  abbrev pub KeptByUse : Rule → Type 0
  KeptByUse a = (values : List Text) (rows : List Row) → Good rows → use_fault false a values rows ≡ [] → Good (used a values rows)

  -- and so do its default values
  abbrev pub KeptByDefault : Rule → Type 0
  KeptByDefault a = (rows : List Row) → Good rows → Good (with_default rows a)

  module _ (rules : List Rule) (uses : Each KeptByUse rules) where
    by_id : (id : Text) → IfSome (arg_by_id rules id) KeptByUse
    by_id id = found KeptByUse _ rules uses

    -- what was pending is used
    settles : (pending : Option (Text × List Text)) (rows : List Row) (skip : ℕ) → Good rows
        → settle_fault rules false (record { rows = rows; pending = pending; skip = skip }) ≡ [] → Good (settled_rows rules pending rows)
    settles None rows skip good h = good
    settles (Some p) rows skip good h = go (arg_by_id rules p.0) (by_id p.0) h
      where
        go : (o : Option Rule) → IfSome o KeptByUse → option_map_or (λ r. use_fault false r p.1 rows) o [] ≡ [] → Good (used_by_id o p.1 rows)
        go None keeps h = good
        go (Some a) keeps h = keeps p.1 rows good h

    settles_held : (h : Held) → Good h.rows → settle_fault rules false h ≡ [] → Good (settled rules h).rows
    settles_held h good none = settles h.pending h.rows h.skip good none

    -- ---- flags

    an_option : (a : Rule) → KeptByUse a → (v : Option Text) (h : Held) → Good h.rows → option_fault rules false a v h ≡ [] → Good (option_met rules a v h).0.rows
    an_option a keeps (Some v) h good none = keeps (v ∷ []) (settled rules h).rows (settles_held h good (none_first _ _ none)) (none_second _ _ none)
    an_option a keeps None h good none = settles_held h good none

    a_use : (a : Rule) → KeptByUse a → (h : Held) → Good h.rows → react_fault rules false a [] h ≡ [] → Good (used a [] (settled rules h).rows)
    a_use a keeps h good none = keeps [] (settled rules h).rows (settles_held h good (none_first _ _ none)) (none_second _ _ none)

    a_flag : (a : Rule) → KeptByUse a → (v : Option Text) (h : Held) → Good h.rows → (cond (is_some v) (TooManyValues ∷ []) (react_fault rules false a [] h)) ≡ []
        → Good (flag_met rules a v h).0.rows
    a_flag a keeps (Some v) h good none = absurd (cc)
    a_flag a keeps None h good none = a_use a keeps h good none

    a_long_flag : (name : Text) (v : Option Text) (h : Held) → Good h.rows → long_fault rules false (arg_by_long rules name) v h ≡ []
        → Good (long_met rules (arg_by_long rules name) v h).0.rows
    a_long_flag name v h good none = go (arg_by_long rules name) (found KeptByUse _ rules uses) none
      where
        takes : (a : Rule) → KeptByUse a → (b : Bool) → (cond b (option_fault rules false a v h) (cond (is_some v) (TooManyValues ∷ []) (react_fault rules false a [] h))) ≡ []
            → Good (cond b (option_met rules a v h) (flag_met rules a v h)).0.rows
        takes a keeps true none = an_option a keeps v h good none
        takes a keeps false none = a_flag a keeps v h good none

        go : (o : Option Rule) → IfSome o KeptByUse → long_fault rules false o v h ≡ [] → Good (long_met rules o v h).0.rows
        go None keeps none = good
        go (Some a) keeps none = takes a keeps (takes_values a) none

    flags : (k : ℕ) (text : Text) (skip : ℕ) (so_far : Outcome) (h : Held) → Good h.rows → flags_fault rules false k text skip h ≡ []
        → Good (bundle_met rules k text skip so_far h).0.rows
    unfolding flags_fault bundle_met
    flags zero text skip so_far h good none = good
    flags (suc k) text skip so_far h good none = go (slice_get (chars text) 0) skip none (λ rest skip so_far held good none. flags k rest skip so_far held good none)
      where
        -- the flags behind this one
        Later : Type 0
        Later = (rest : Text) (skip : ℕ) (so_far : Outcome) (held : Held) → Good held.rows → flags_fault rules false k rest skip held ≡ [] → Good (bundle_met rules k rest skip so_far held).0.rows

        takes : Later → (a : Rule) → KeptByUse a → (rest : Text) (b : Bool)
            → (cond b (option_fault rules false a (attached_value rest) h) (or_else (react_fault rules false a [] h) (flags_fault rules false k rest 0 (record h { rows = used a [] (settled rules h).rows; pending = None })))) ≡ []
            → Good (cond b (option_met rules a (attached_value rest) h) (bundle_met rules k rest 0 done (record h { rows = used a [] (settled rules h).rows; pending = None }))).0.rows
        takes later a keeps rest true none = an_option a keeps (attached_value rest) h good none
        takes later a keeps rest false none = later rest 0 done _ (a_use a keeps h good (none_first _ _ none)) (none_second _ _ none)

        short : Later → (o : Option Rule) → IfSome o KeptByUse → (rest : Text) → short_fault rules false o rest h (flags_fault rules false k rest 0) ≡ []
            → Good (short_met rules o rest h (bundle_met rules k rest 0 done)).0.rows
        short later None keeps rest none = good
        short later (Some a) keeps rest none = takes later a keeps rest (takes_values a) none

        go : (o : Option ℕ) (skip : ℕ) → bundle_step_fault rules false o text skip h (flags_fault rules false k) ≡ [] → Later
            → Good (bundle_step rules o text skip so_far h (bundle_met rules k)).0.rows
        go None skip none later = good
        go (Some x) zero none later = short later (arg_by_short rules x) (found KeptByUse _ rules uses) (drop (length (encode_utf8 x)) text) none
        go (Some x) (suc skip) none later = later (drop (length (encode_utf8 x)) text) skip so_far h good none

    -- a flag that is met changes no row more
    plain_keeps : (waiting : Waiting) (word : Text) (h : Held) → Good h.rows → Good (plain_word rules waiting word h).0.rows
    plain_keeps idle word h good = good
    plain_keeps positional word h good = good
    plain_keeps (option name) word h good = go (arg_by_id rules name)
      where
        go : (o : Option Rule) → Good (option_word o name word h).0.rows
        go None = good
        go (Some r) = good

    flag_keeps : (waiting : Waiting) (word : Text) (h : Held) (o : Outcome) → Good h.rows → Good (after_flag rules waiting word h o).0.rows
    flag_keeps waiting word h done good = good
    flag_keeps waiting word h (waits name) good = good
    flag_keeps waiting word h plain good = plain_keeps waiting word h good
    flag_keeps waiting word h refused good = plain_keeps waiting word h good

    a_word : (waiting : Waiting) (word : Text) (h : Held) → Good h.rows → flag_word_fault rules false (long_of word) word h ≡ []
        → Good (long_or_other rules waiting word (long_of word) h).0.rows
    a_word waiting word h good none = go (long_of word) none
      where
        short : (f : Option Text) → option_map_or (λ flags. bundle_fault rules false flags h) f [] ≡ [] → Good (short_or_plain rules waiting word f h).0.rows
        short None none = plain_keeps waiting word h good
        short (Some f) none = flag_keeps waiting word (bundle rules f h).0 (bundle rules f h).1 (flags (length f) f h.skip plain (record h { skip = 0 }) good none)

        go : (l : Option (Text × Option Text)) → flag_word_fault rules false l word h ≡ []
            → Good (long_or_other rules waiting word l h).0.rows
        go (Some p) none = flag_keeps waiting word (long_met rules (arg_by_long rules p.0) p.1 h).0 (long_met rules (arg_by_long rules p.0) p.1 h).1 (a_long_flag p.0 p.1 h good none)
        go None none = short (short_of word) none

    -- ---- the walk over the words of a level

    -- a level with these arguments
    abbrev pub level : Shape → Shape
    level s = record s { rules = rules; args_override_self = false }

    to_place : (s : Shape) (word : Text) (w : Walk) (h : Held) → Good h.rows
        → option_map_or (λ r. positional_fault rules false r h) (arg_by_index rules w.position) (stray_fault (level s)) ≡ []
        → Good (to_positional rules (arg_by_index rules w.position) word w h).held.rows
    to_place s word w h good none = go (arg_by_index rules w.position) none
      where
        pending : (a : Rule) (b : Bool) → cond b [] (settle_fault rules false h) ≡ [] → Good (pushed a.id word (cond b h (settled rules h))).rows
        pending a true none = good
        pending a false none = settles_held h good none

        go : (o : Option Rule) → option_map_or (λ r. positional_fault rules false r h) o (stray_fault (level s)) ≡ [] → Good (to_positional rules o word w h).held.rows
        go (Some a) none = pending a (is_pending a h.pending && takes_several a) none
        go None none = absurd (stray (level s) none)

    a_step : (s : Shape) (word : Text) (w : Walk) (h : Held) (step : Step) → Good h.rows → step_fault (level s) w.position h step ≡ []
        → Good (after_step rules word w h step).held.rows
    a_step s word w h (next waiting) good none = good
    a_step s word w h (trailing position) good none = good
    a_step s word w h (subcommand name) good none = good
    a_step s word w h value good none = to_place s word w h good none

    a_turn : (s : Shape) (w : Walk) (word : Text) → Good w.held.rows → turn_fault (level s) [] w word ≡ [] → Good (walked rules [] w word).held.rows
    unfolding walked
    a_turn s w word good none = stops w.stopped none
      where
        other : or_else (other_fault (level s) None word w.held)
            (step_fault (level s) w.position (subcommand_or_other rules None w.waiting w.position word w.held).0 (subcommand_or_other rules None w.waiting w.position word w.held).1) ≡ []
            → Good (after_step rules word w (subcommand_or_other rules None w.waiting w.position word w.held).0 (subcommand_or_other rules None w.waiting w.position word w.held).1).held.rows
        other none = here (bytes_eq word (codes "--")) none
          where
            here : (b : Bool) → or_else (cond b [] (flag_word_fault rules false (long_of word) word w.held))
                (let m : Held × Step = cond b (w.held, trailing w.position) (long_or_other rules w.waiting word (long_of word) w.held) in step_fault (level s) w.position m.0 m.1) ≡ []
                → (let m : Held × Step = cond b (w.held, trailing w.position) (long_or_other rules w.waiting word (long_of word) w.held) in Good (after_step rules word w m.0 m.1).held.rows)
            here true none = good
            here false none =
                let m = long_or_other rules w.waiting word (long_of word) w.held in
                a_step s word w m.0 m.1 (a_word w.waiting word w.held good (none_first _ _ none)) (none_second _ _ none)

        waits_for : (waiting : Waiting) → waiting ≡ w.waiting → subcommand_met [] waiting word ≡ None
        waits_for idle e = refl
        waits_for (option o) e = refl
        waits_for positional e = refl

        trails : (b : Bool) → or_else (word_fault (level s) [] b w.waiting word w.held)
            (step_fault (level s) w.position (word_met rules [] b w.waiting w.position word w.held).0 (word_met rules [] b w.waiting w.position word w.held).1) ≡ []
            → Good (after_step rules word w (word_met rules [] b w.waiting w.position word w.held).0 (word_met rules [] b w.waiting w.position word w.held).1).held.rows
        trails true none = a_step s word w w.held value good none
        trails false none = (subst (λ (o : Option Text). or_else (other_fault (level s) o word w.held)
            (step_fault (level s) w.position (subcommand_or_other rules o w.waiting w.position word w.held).0 (subcommand_or_other rules o w.waiting w.position word w.held).1) ≡ []
            → Good (after_step rules word w (subcommand_or_other rules o w.waiting w.position word w.held).0 (subcommand_or_other rules o w.waiting w.position word w.held).1).held.rows)
            (sym (waits_for w.waiting refl)) other) none

        stops : (o : Option (Text × List Text)) → (cond (is_some o) [] (or_else (word_fault (level s) [] w.is_trailing w.waiting word w.held)
            (step_fault (level s) w.position (word_met rules [] w.is_trailing w.waiting w.position word w.held).0 (word_met rules [] w.is_trailing w.waiting w.position word w.held).1))) ≡ []
            → Good (walked_from rules [] o w word).held.rows
        stops None none = trails w.is_trailing none
        stops (Some p) none = good

    all_turns : (s : Shape) (w : Walk) (words : List Text) → Good w.held.rows → walk_fault (level s) [] w words ≡ [] → Good (fold (walked rules []) w words).held.rows
    unfolding walk_fault
    all_turns s w [] good none = good
    all_turns s w (word ∷ words) good none =
        all_turns s (walked rules [] w word) words (a_turn s w word good (none_first _ _ none)) (none_second _ _ none)

    -- ---- the end of a level

    defaults : (later : List Rule) → Each KeptByDefault later → (rows : List Row) → Good rows → Good (fold with_default rows later)
    defaults [] each rows good = good
    defaults (a ∷ later) each rows good = defaults later each.1 (with_default rows a) (each.0 rows good)

    -- what a level finds where it has no fault
    pub finds : Each KeptByDefault rules → Good [] → (s : Shape) (words : List Text) → level_fault (level s) [] nothing_held words false [] ≡ [] → Good (rows_after rules [] words)
    finds by_default first s words none =
        let end = (walk rules [] nothing_held words).held in
        let walked_all = all_turns s (walk_from nothing_held) words first (none_first _ _ none) in
        let settled_all = settles_held end walked_all (none_first _ _ (none_second _ _ none)) in
        defaults rules by_default (settled rules end).rows settled_all

    -- and what is required is there
    pub checks : (s : Shape) (words : List Text) → level_fault (level s) [] nothing_held words false [] ≡ [] → check_fault (level s) (rows_after rules [] words) false ≡ []
    checks s words none =
        let end = (walk rules [] nothing_held words).held in
        let settling = settle_fault rules false end in
        let by_default = defaults_fault (settled rules end).rows rules in
        let check = check_fault (level s) (rows_after rules [] words) false in
        none_second by_default check (none_second settling (or_else by_default check) (none_second (walk_fault (level s) [] (walk_from nothing_held) words) (or_else settling (or_else by_default check)) none))
