-- What the words ask for.
use Rattle.std.proofs.Common.{◌≡◌, ◌≢◌, ◌∙◌, ◌||◌, ◌==◌, ◌≤◌, ℕ, Bool, true, false, cond, List, [], ◌∷◌, length, Option, Some, None, refl, sym, ap, subst, inl, inr, map, codes, get_or, Bor, arith}
use Rattle.std.specs.Prelude.{slice_get, find, option_map}
use Rattle.std.specs.Str.{bytes_eq, chars}
use Rattle.std.specs.Option.{option_map_or}
use Rattle.std.specs.Cmp.Lexicographic.{same_text}
use Rattle.clap.specs.Lexer.{long_of, short_of}
use Rattle.clap.specs.Walk.{Held, Names, Row, Rule, Step, Text, Walk, arg_by_long, arg_by_short, bundle, bundle_met, long_or_other, after_flag, bundle_step, nothing_held, short_or_plain, short_word, subcommand_or_other, rows_after, walk, walk_from, walked}
use Rattle.clap.specs.Walk.Outcome.{plain}
use Rattle.clap.specs.Walk.Waiting.{idle}
use Rattle.clap.specs.Walk.Step.{trailing, value}
use Rattle.clap.specs.Simple.{App, Shape, built, entered, names_of, subcommand_of}
use Rattle.clap.specs.Kinds.{Kinds, or_else}
use Rattle.clap.specs.ValueTests.{accepts}
use Rattle.clap.specs.Faults.{bundle_fault, entered_fault, fault_of, flag_word_fault, flags_fault, bundle_step_fault, level_fault, long_fault, other_fault, short_fault, step_fault, turn_fault, walk_fault}
use Rattle.clap.proofs.OnLiterals.{clap_on_literals}
use Rattle.clap.proofs.WalkLemmas.{walk_stopped}
use Rattle.clap.specs.declared.builder.value_parser.ValueParser.{ValueParser}
use Rattle.clap.specs.declared.builder.value_parser.ValueParser.TheVariants.{Signed, Unsigned}
use Rattle.motion_pulse.specs.declared.pulse.Stepping.{Stepping}
use Rattle.motion_pulse.specs.declared.pulse.Stepping.TheVariants.{Events, Subticks}
use Rattle.command_line.specs.Command.{Refuses, IsNamed, command_line, demo_name}
use Rattle.command_line.proofs.Levels.{Each, KeptByDefault, KeptByUse, none_first, none_second, stray, checks, finds}
use Rattle.command_line.proofs.Given.{IsGood, argument, by_default, by_use, flag, flag_by_default, flag_by_use, given, help, help_by_default, help_by_use, row_at, was_given}

-- the command line as clap builds it: the top, with the flag `--help`, and the four subcommands
abbrev whole : App
whole = built command_line

abbrev names : Names
names = names_of whole

-- the one argument of the top
abbrev rules : List Rule
rules = whole.top.rules

abbrev pub seeds : ValueParser
seeds = Unsigned 0 18446744073709551615

abbrev pub numbers : ValueParser
numbers = Signed (Rattle.std.specs.Prelude.pos 1) (Rattle.std.specs.Prelude.pos 100000)

-- clap has a fault for the words
abbrev HasFault : List Text → Type 0
HasFault words = fault_of command_line words ≢ []

nothing_fails : HasFault []
unfolding clap_on_literals
nothing_fails h = cc

dashes_fail : HasFault (codes "--" ∷ [])
unfolding clap_on_literals
dashes_fail h = cc

pub not_refused : (a : Kinds) → ¬ (a ≢ []) → a ≡ []
not_refused [] h = refl
not_refused (k ∷ ks) h = absurd (h (λ e. absurd (cc)))

-- a level whose one argument is `--help`
abbrev helping : Shape → Shape
helping s = record s { rules = rules; args_override_self = false }

-- a flag of one hyphen asks for help, or is unknown, or is no flag
pub short_flag : (x : ℕ) (rest : Text) (after : Held → Kinds) → short_fault rules false (arg_by_short rules x) rest nothing_held after ≡ [] → ⊥
short_flag x rest after = go (104 == x)
  where
    go : (b : Bool) → short_fault rules false (find (λ a. b || false) rules) rest nothing_held after ≡ [] → ⊥
    go true h = cc
    go false h = cc

pub bundle_is_plain : (flags : Text) → bundle_fault rules false flags nothing_held ≡ [] → bundle rules flags nothing_held ≡ (nothing_held, plain)
unfolding flags_fault bundle_met
bundle_is_plain [] h = refl
bundle_is_plain (f ∷ fs) h = go (slice_get (chars (f ∷ fs)) 0) h
  where
    go : (o : Option ℕ) → bundle_step_fault rules false o (f ∷ fs) 0 nothing_held (flags_fault rules false (length fs)) ≡ []
        → bundle_step rules o (f ∷ fs) 0 plain nothing_held (bundle_met rules (length fs)) ≡ (nothing_held, plain)
    go None e = refl
    go (Some x) e = absurd (short_flag x _ _ e)

-- `--name` asks for help, or is unknown
long_flag : (name : Text) (given : Option Text) → long_fault rules false (arg_by_long rules name) given nothing_held ≡ [] → ⊥
long_flag name given = go (bytes_eq (codes "help") name) given
  where
    go : (b : Bool) (v : Option Text) → long_fault rules false (find (λ a. b || false) rules) v nothing_held ≡ [] → ⊥
    go true (Some v) h = cc
    go true None h = cc
    go false v h = cc

short_or_none : (s : Shape) (position : ℕ) (word : Text) (flags : Option Text) → option_map_or (λ f. bundle_fault rules false f nothing_held) flags [] ≡ []
    → step_fault (helping s) position (short_or_plain rules idle word flags nothing_held).0 (short_or_plain rules idle word flags nothing_held).1 ≡ [] → ⊥
short_or_none s position word None h e = stray s e
short_or_none s position word (Some flags) h e =
    let met : short_word rules idle word flags nothing_held ≡ (nothing_held, value) = ap (λ m. after_flag rules idle word m.0 m.1) (bundle_is_plain flags h) in
    stray s (subst (λ (m : Held × Step). step_fault (helping s) position m.0 m.1 ≡ []) met e)

-- a word that names no subcommand and is not `--` has a fault
pub other_word : (s : Shape) (position : ℕ) (word : Text) (long : Option (Text × Option Text))
    → or_else (flag_word_fault rules false long word nothing_held)
    (step_fault (helping s) position (long_or_other rules idle word long nothing_held).0 (long_or_other rules idle word long nothing_held).1) ≡ [] → ⊥
other_word s position word (Some p) h = long_flag p.0 p.1 (none_first _ _ h)
other_word s position word None h = short_or_none s position word (short_of word) (none_first _ _ h) (none_second _ _ h)

-- ---- the words of a level

-- a word that names no subcommand and at which a level has no fault is `--`
pub only_dashes : (s : Shape) (position : ℕ) (word : Text)
    → or_else (other_fault (helping s) None word nothing_held)
    (step_fault (helping s) position (subcommand_or_other rules None idle position word nothing_held).0 (subcommand_or_other rules None idle position word nothing_held).1) ≡ []
    → word ≡ codes "--"
only_dashes s position word h = go (bytes_eq word (codes "--")) refl h
  where
    go : (b : Bool) → b ≡ bytes_eq word (codes "--")
        → or_else (cond b [] (flag_word_fault rules false (long_of word) word nothing_held))
        (let m : Held × Step = cond b (nothing_held, trailing position) (long_or_other rules idle word (long_of word) nothing_held) in step_fault (helping s) position m.0 m.1) ≡ []
        → word ≡ codes "--"
    go true e h = same_text word (codes "--") e
    go false e h = absurd (other_word s position word (long_of word) h)

-- where the walk of a level begins
abbrev start : Walk
start = walk_from nothing_held

-- after `--` each word has a fault
after_dashes : (s : Shape) (all : Names) (words : List Text) → walk_fault (helping s) all (record start { is_trailing = true }) words ≡ [] → words ≡ []
unfolding walk_fault
after_dashes s all [] h = refl
after_dashes s all (word ∷ rest) h = absurd (stray s (none_first _ _ h))

-- the subcommand that a first word names
abbrev named : Bool → Bool → Bool → Bool → Option Text
named is_stream is_demo is_pins is_help = option_map (λ (p : Text × List Text). p.0)
    (cond (is_stream || false) (Some (codes "stream", [])) (cond (is_demo || false) (Some (codes "demo", [])) (cond (is_pins || false) (Some (codes "pins", [])) (cond (is_help || false) (Some (codes "help", [])) None))))

pub data FirstWord : Text → Type 0 where
  stream_word : FirstWord (codes "stream")
  demo_word : (stepping : Stepping) → FirstWord (demo_name stepping)
  a_dash : FirstWord (codes "--")

first_word : (word : Text) → turn_fault whole.top names start word ≡ [] → FirstWord word
first_word word h = go (bytes_eq (codes "stream") word) refl (bytes_eq (codes "demo") word) refl (bytes_eq (codes "pins") word) refl (bytes_eq (codes "help") word) h
  where
    go : (is_stream : Bool) → is_stream ≡ bytes_eq (codes "stream") word → (is_demo : Bool) → is_demo ≡ bytes_eq (codes "demo") word → (is_pins : Bool) → is_pins ≡ bytes_eq (codes "pins") word
        → (is_help : Bool)
        → or_else (other_fault whole.top (named is_stream is_demo is_pins is_help) word nothing_held)
        (let m : Held × Step = subcommand_or_other rules (named is_stream is_demo is_pins is_help) idle 1 word nothing_held in step_fault whole.top 1 m.0 m.1) ≡ []
        → FirstWord word
    go true e is_demo f is_pins p is_help h = subst FirstWord (same_text (codes "stream") word e) stream_word
    go false e true f is_pins p is_help h = subst FirstWord (same_text (codes "demo") word f) (demo_word Events)
    go false e false f true p is_help h = subst FirstWord (same_text (codes "pins") word p) (demo_word Subticks)
    go false e false f false p true h = absurd (cc)
    go false e false f false p false h = subst FirstWord (sym (only_dashes whole.top 1 word h)) a_dash

pub data TopWords : List Text → Type 0 where
  none : TopWords []
  dashes : TopWords (codes "--" ∷ [])
  to_stream : (rest : List Text) → TopWords (codes "stream" ∷ rest)
  to_demo : (stepping : Stepping) (rest : List Text) → TopWords (demo_name stepping ∷ rest)

top_words : (words : List Text) → walk_fault whole.top names start words ≡ [] → TopWords words
unfolding clap_on_literals
top_words [] h = none
top_words (word ∷ rest) h = go word (first_word word (none_first _ _ h)) (none_second _ _ h)
  where
    go : (w : Text) → FirstWord w → walk_fault whole.top names (walked rules names start w) rest ≡ [] → TopWords (w ∷ rest)
    go _ stream_word more = to_stream rest
    go _ (demo_word stepping) more = to_demo stepping rest
    go _ a_dash more = subst TopWords (ap (λ (ws : List Text). codes "--" ∷ ws) (sym (after_dashes whole.top names rest more))) dashes

-- ---- what is found of them

abbrev pub found_seed : List Row → Type 0
found_seed rows = IsGood (codes "seed") (Some (codes "lockstep")) None seeds false rows

-- the arguments of `stream`, as clap builds them
abbrev stream_rules : List Rule
stream_rules = argument (codes "seed") (Some (codes "lockstep")) None seeds false ∷ flag (codes "paced") ∷ flag (codes "wide") ∷ flag (codes "compact") ∷ flag (codes "smooth") ∷ flag (codes "attended") ∷ help ∷ []

abbrev pub given_moves : Text → Row
given_moves v = given (codes "moves") None (Some 1) numbers true v

abbrev pub found_moves : Text → List Row → Type 0
found_moves v rows = (accepts false numbers v ≡ true) × (row_at (codes "moves") rows ≡ Some (given_moves v))

abbrev demo_rules : List Rule
demo_rules = argument (codes "moves") None (Some 1) numbers true ∷ help ∷ []

-- what accepted words name: `stream`, with a seed or none, or `demo`, with a number
pub data Entered : List Text → Type 0 where
  a_stream : {words : List Text} (rows : List Row) → subcommand_of command_line words ≡ Some (codes "stream", rows) → found_seed rows → Entered words
  a_demo : {words : List Text} (stepping : Stepping) (v : Text) (rows : List Row) → subcommand_of command_line words ≡ Some (demo_name stepping, rows) → found_moves v rows → Entered words

seed_found : (s : Shape) (words : List Text) → level_fault (record s { rules = stream_rules; args_override_self = false }) [] nothing_held words false [] ≡ []
    → found_seed (rows_after stream_rules [] words)
seed_found s words whole_level = finds found_seed stream_rules (
  by_use (codes "seed") (Some (codes "lockstep")) None seeds false,
  (
    flag_by_use (codes "seed") (Some (codes "lockstep")) None seeds false (codes "paced") refl,
    (
      flag_by_use (codes "seed") (Some (codes "lockstep")) None seeds false (codes "wide") refl,
      (
        flag_by_use (codes "seed") (Some (codes "lockstep")) None seeds false (codes "compact") refl,
        (
          flag_by_use (codes "seed") (Some (codes "lockstep")) None seeds false (codes "smooth") refl,
          (
            flag_by_use (codes "seed") (Some (codes "lockstep")) None seeds false (codes "attended") refl,
            (help_by_use (codes "seed") (Some (codes "lockstep")) None seeds false, tt),
          ),
        ),
      ),
    ),
  ),
) (
  by_default (codes "seed") (Some (codes "lockstep")) None seeds false,
  (
    flag_by_default (codes "seed") (Some (codes "lockstep")) None seeds false (codes "paced") refl,
    (
      flag_by_default (codes "seed") (Some (codes "lockstep")) None seeds false (codes "wide") refl,
      (
        flag_by_default (codes "seed") (Some (codes "lockstep")) None seeds false (codes "compact") refl,
        (
          flag_by_default (codes "seed") (Some (codes "lockstep")) None seeds false (codes "smooth") refl,
          (
            flag_by_default (codes "seed") (Some (codes "lockstep")) None seeds false (codes "attended") refl,
            (help_by_default (codes "seed") (Some (codes "lockstep")) None seeds false, tt),
          ),
        ),
      ),
    ),
  ),
) tt s words whole_level

moves_found : (s : Shape) (words : List Text) → level_fault (record s { rules = demo_rules; args_override_self = false }) [] nothing_held words false [] ≡ []
    → (v : Text) × found_moves v (rows_after demo_rules [] words)
moves_found s words whole_level =
    let uses : Each (KeptByUse (IsGood (codes "moves") None (Some 1) numbers true)) demo_rules =
    (by_use (codes "moves") None (Some 1) numbers true, (help_by_use (codes "moves") None (Some 1) numbers true, tt)) in
    let defaults : Each (KeptByDefault (IsGood (codes "moves") None (Some 1) numbers true)) demo_rules =
    (by_default (codes "moves") None (Some 1) numbers true, (help_by_default (codes "moves") None (Some 1) numbers true, tt)) in
    let good = finds (IsGood (codes "moves") None (Some 1) numbers true) demo_rules uses defaults tt s words whole_level in
    let found = was_given (codes "moves") None (Some 1) numbers true s (rows_after demo_rules [] words) refl good (checks (IsGood (codes "moves") None (Some 1) numbers true) demo_rules uses s words whole_level) in
    (found.0, (found.1, found.2))

streams : (rest : List Text) → fault_of command_line (codes "stream" ∷ rest) ≡ [] → Entered (codes "stream" ∷ rest)
unfolding clap_on_literals
streams rest h =
    let stop : Some (codes "stream", rest) ≡ (walk rules names nothing_held (codes "stream" ∷ rest)).stopped =
    ap (λ (w : Walk). w.stopped) (walk_stopped rules names start (codes "stream") [] rest) in
    let under = none_first _ _ (none_second _ _ h) in
    let its_level = subst (λ (o : Option (Text × List Text)). entered_fault whole o ≡ []) (sym stop) under in
    a_stream _ (ap (entered whole) (sym stop)) (seed_found (get_or whole.subs 0 whole.top) rest its_level)

demos : (rest : List Text) → fault_of command_line (codes "demo" ∷ rest) ≡ [] → Entered (codes "demo" ∷ rest)
unfolding clap_on_literals
demos rest h =
    let stop : Some (codes "demo", rest) ≡ (walk rules names nothing_held (codes "demo" ∷ rest)).stopped =
    ap (λ (w : Walk). w.stopped) (walk_stopped rules names start (codes "demo") [] rest) in
    let under = none_first _ _ (none_second _ _ h) in
    let its_level = subst (λ (o : Option (Text × List Text)). entered_fault whole o ≡ []) (sym stop) under in
    let found = moves_found (get_or whole.subs 1 whole.top) rest its_level in
    a_demo Events found.0 _ (ap (entered whole) (sym stop)) found.1

pins : (rest : List Text) → fault_of command_line (codes "pins" ∷ rest) ≡ [] → Entered (codes "pins" ∷ rest)
unfolding clap_on_literals
pins rest h =
    let stop : Some (codes "pins", rest) ≡ (walk rules names nothing_held (codes "pins" ∷ rest)).stopped =
    ap (λ (w : Walk). w.stopped) (walk_stopped rules names start (codes "pins") [] rest) in
    let under = none_first _ _ (none_second _ _ h) in
    let its_level = subst (λ (o : Option (Text × List Text)). entered_fault whole o ≡ []) (sym stop) under in
    let found = moves_found (get_or whole.subs 2 whole.top) rest its_level in
    a_demo Subticks found.0 _ (ap (entered whole) (sym stop)) found.1

demos_by : (stepping : Stepping) (rest : List Text) → fault_of command_line (demo_name stepping ∷ rest) ≡ [] → Entered (demo_name stepping ∷ rest)
demos_by Events rest h = demos rest h
demos_by Subticks rest h = pins rest h

-- accepted words enter one of the three
pub enters : (words : List Text) → fault_of command_line words ≡ [] → Entered words
unfolding clap_on_literals
enters words h = go words (top_words words (none_first _ _ h)) h
  where
    go : (ws : List Text) → TopWords ws → fault_of command_line ws ≡ [] → Entered ws
    go _ none e = absurd (nothing_fails e)
    go _ dashes e = absurd (dashes_fail e)
    go _ (to_stream rest) e = streams rest e
    go _ (to_demo stepping rest) e = demos_by stepping rest e

named_words : (words : List Text) → TopWords words → fault_of command_line words ≡ [] → IsNamed words
named_words _ none e = absurd (nothing_fails e)
named_words _ dashes e = absurd (dashes_fail e)
named_words _ (to_stream rest) e = (rest, inl refl)
named_words _ (to_demo stepping rest) e = (rest, inr (stepping, refl))

-- ---- accepted words

-- accepted words have no fault
pub has_none : (words : List Text) → ¬ Refuses words → fault_of command_line words ≡ []
has_none words h = not_refused (fault_of command_line words) (λ fault. h (inl fault))

named_by_clap : (words : List Text) → fault_of command_line words ≡ [] → IsNamed words
unfolding clap_on_literals
named_by_clap words none_found = named_words words (top_words words (none_first _ _ none_found)) none_found

pub begins : (words : List Text) → ¬ Refuses words → IsNamed words
begins words h = named_by_clap words (has_none words h)

-- words that name no command are refused
pub refused_words : (words : List Text) → ¬ IsNamed words → Refuses words
refused_words words unnamed = inl (λ none. unnamed (named_by_clap words none))

-- ---- the first word

abbrev texts : List (Bor Text) → List Text
texts words = map (λ w. w.now) words

pub first_is : (words : List (Bor Text)) (other : Bor Text) (name : Text) → 1 ≤ length words → bytes_eq (get_or words 0 other).now name ≡ true → (rest : List Text) × (texts words ≡ name ∷ rest)
first_is [] other name some is = absurd (omega (arith, some))
first_is (word ∷ rest) other name some is = (texts rest, ap (λ (w : Text). w ∷ texts rest) (same_text word.now name (sym is)))

pub names_some_demo : (words : List (Bor Text)) (other : Bor Text) → 1 ≤ length words → bytes_eq (get_or words 0 other).now (codes "stream") ≡ false → IsNamed (texts words)
    → (stepping : Stepping) × ((get_or words 0 other).now ≡ demo_name stepping)
names_some_demo [] other some not_stream named = absurd (omega (arith, some))
names_some_demo (word ∷ rest) other some not_stream (more, inl stream) =
    let is : bytes_eq word.now (codes "stream") ≡ true = ap (λ (ws : List Text). bytes_eq (get_or ws 0 word.now) (codes "stream")) stream in
    let both : false ≡ true = sym not_stream ∙ is in absurd (cc)
names_some_demo (word ∷ rest) other some not_stream (more, inr demo) = (demo.0, ap (λ (ws : List Text). get_or ws 0 word.now) demo.1)

pub first_demo : (words : List (Bor Text)) (other : Bor Text) (name : Text) → 1 ≤ length words → (get_or words 0 other).now ≡ name → (rest : List Text) × (texts words ≡ name ∷ rest)
first_demo [] other name some is = absurd (omega (arith, some))
first_demo (word ∷ rest) other name some is = (texts rest, ap (λ (w : Text). w ∷ texts rest) is)
