-- The numbers that the words give.
use Rattle.std.proofs.Common.{◌≡◌, ◌∙◌, ◌⊎◌, ◌≤◌, ◌==◌, cond, ℕ, Bool, true, false, List, [], ◌∷◌, Option, Some, None, refl, sym, ap, subst, inl, inr, arith, codes}
use Rattle.std.proofs.lemmas.Int.{ints}
use Rattle.std.specs.Prelude.{Ok, Err, Result, drop, find, option_map, option_and_then, unwrap_or, IfSome, IsSomeAnd}
use Rattle.std.specs.Option.{option_map_or}
use Rattle.std.specs.Str.Parse.{ParsesUnsigned, starts_with_minus}
use Rattle.clap.specs.Lexer.{without_minus}
use Rattle.clap.specs.Walk.{Row, Text, one_of, row_of, row_text, rows_of}
use Rattle.clap.specs.Facts.{Entry}
use Rattle.clap.specs.declared.parser.matches.Found.{Found}
use Rattle.clap.specs.declared.parser.matches.MatchedArg.{MatchedArg}
use Rattle.clap.specs.declared.parser.matches.ValueSource.{ValueSource}
use Rattle.clap.proofs.WalkLemmas.{find_row}
use Rattle.std.specs.Str.{bytes_eq}
use Rattle.clap.specs.Matches.{ReadsOne, matched_of, subcommand_name_of}
use Rattle.clap.specs.Simple.{App, HasMatchesOf, subcommand_of, subcommand_rows, subcommand_rows_of}
use Rattle.clap.specs.ValueTests.{accepts}
use Rattle.clap.specs.Faults.{fault_of, is_simple_and_free}
use Rattle.clap.specs.declared.parser.matches.ArgMatches.{ArgMatches}
use Rattle.clap.specs.declared.parser.matches.ArgMatches.TheViews.{out-ArgMatches, out-SubCommand}
use Rattle.clap.specs.declared.parser.matches.SubCommand.{SubCommand}
use Rattle.clap.proofs.ValueTestLemmas.{accepts-Accepts}
use Rattle.clap.proofs.CallerReads.{signed_reads}
use Rattle.std.specs.Box.{box_value}
use Rattle.std.specs.Prelude.{Box}
use Rattle.motion_pulse.specs.declared.pulse.Stepping.{Stepping}
use Rattle.motion_pulse.specs.declared.pulse.Stepping.TheVariants.{Events, Subticks}
use Rattle.command_line.specs.Command.{Asks, Refuses, buffers_by, command_line, demo_name, form_by, stepping_by, is_of_words, has_flag, number_of, options_in, order_in}
use Rattle.command_line.specs.declared.Order.{Order}
use Rattle.command_line.specs.declared.StreamOptions.{StreamOptions}
use Rattle.command_line.specs.declared.Task.{Task}
use Rattle.command_line.specs.declared.Task.TheVariants.{Stream, Demo}
use Rattle.command_line.proofs.CommandLine.{Entered, enters, found_moves, found_seed, has_none, numbers, seeds}
use Rattle.command_line.proofs.Given.{IsGiven, row_at}

module _ (E : Type 0) (G : List ℕ → Result ℕ E → Type 0) where
  -- a seed that passed is read
  seed_value : ((u : List ℕ) (x : Result ℕ E) → G u x → ParsesUnsigned 64 10 u x) → (v : Text) → accepts false seeds v ≡ true → (r : Option ℕ) → ReadsOne G v r
      → r ≡ Some (number_of v)
  seed_value only v ok (Some n) h = ap (λ (m : ℕ). Some m) (only v (Ok n) h).1
  seed_value only v ok None h =
      let passed = accepts-Accepts false seeds v ok in
      absurd (only v (Err h.0) h.1 (passed.0, passed.1))

  pub seed_read : ((u : List ℕ) (x : Result ℕ E) → G u x → ParsesUnsigned 64 10 u x) → (rows : List Row) → found_seed rows → (r : Option ℕ)
      → (one_of (codes "seed") rows ≡ None → r ≡ None) → ((t : Text) → one_of (codes "seed") rows ≡ Some t → ReadsOne G t r)
      → r ≡ option_map number_of (one_of (codes "seed") rows)
  seed_read only rows good r none some = go (row_at (codes "seed") rows) refl good
    where
      go : (o : Option Row) → o ≡ row_at (codes "seed") rows → IfSome o (IsGiven (codes "seed") (Some (codes "lockstep")) None seeds false) → r ≡ option_map number_of (one_of (codes "seed") rows)
      go None is h =
          let empty : one_of (codes "seed") rows ≡ None = ap (option_and_then row_text) (sym is) in
          none empty ∙ ap (option_map number_of) (sym empty)
      go (Some row) is one =
          let found : one_of (codes "seed") rows ≡ Some one.0 = ap (option_and_then row_text) (sym is) ∙ ap row_text one.2 in
          seed_value only one.0 one.1 r (some one.0 found) ∙ ap (option_map number_of) (sym found)

  -- a number of moves that passed is read, and lies in its range
  pub moves_read : ((u : List ℕ) (x : Result ℕ E) → G u x → ParsesUnsigned 32 10 u x) → (v : Text) → accepts false numbers v ≡ true → (r : Option ℕ) → ReadsOne G (without_minus v) r
      → (n : ℕ) × (r ≡ Some n) × (1 ≤ n) × (n ≤ 100000) × (n ≡ number_of (without_minus v))
  moves_read only v ok r h =
      let passed = accepts-Accepts false numbers v ok in
      let got = signed_reads E G 32 1 100000 v r h only (omega arith) passed in
      let is = only (without_minus v) (Ok got.0) (subst (ReadsOne G (without_minus v)) got.1 h) in
      (got.0, got.1, got.2, got.3, is.1)

-- ---- the flags

-- where the value of a flag came from
source_rows : (f : Found) (name : Text) → option_and_then (λ a. a.source) (matched_of f name) ≡ option_and_then (λ r. r.source) (row_at name (rows_of f))
source_rows f name = go (find (λ e. bytes_eq e.0.now name) f.entries.items) ∙ ap (option_and_then (λ (r : Row). r.source)) (sym (find_row f.entries.items name))
  where
    go : (o : Option Entry) → option_and_then (λ (a : MatchedArg). a.source) (option_map (λ e. e.1) o) ≡ option_and_then (λ (r : Row). r.source) (option_map row_of o)
    go None = refl
    go (Some e) = refl

pub flag_read : (f : Found) (name : Text) (source : Option ValueSource) → source ≡ option_and_then (λ a. a.source) (matched_of f name) → is_of_words source ≡ has_flag name (rows_of f)
flag_read f name source is = ap is_of_words (is ∙ source_rows f name)

-- ---- the matches

name_of_rows : {Z : Type 0} (found : Option (Box SubCommand Z))
    → option_map (λ (p : Text × List Row). p.0) (subcommand_rows found) ≡ option_map (λ b. (out-SubCommand (box_value b)).name.now) found
name_of_rows None = refl
name_of_rows (Some b) = refl

pub parsed : (app : App) (words : List Text) (m : ArgMatches) → app ≡ command_line → (is_simple_and_free app ≡ true → fault_of app words ≡ []) → HasMatchesOf app words m
    → (fault_of command_line words ≡ []) × (subcommand_rows_of m ≡ subcommand_of command_line words)
parsed app words m is kinds matches =
    let fault : fault_of command_line words ≡ [] = (subst (λ (a : App). is_simple_and_free a ≡ true → fault_of a words ≡ []) is kinds) refl in
    let found = (subst (λ (a : App). HasMatchesOf a words m) is matches) refl in
    (fault, found.1)

both_parts : (o : Option (Text × List Row)) (name : Text) (rows : List Row) → Some name ≡ option_map (λ (p : Text × List Row). p.0) o → Some rows ≡ option_map (λ (p : Text × List Row). p.1) o → o ≡ Some (name, rows)
both_parts None name rows e f = absurd (cc)
both_parts (Some (a, b)) name rows e f = cc

pub named_rows : (words : List Text) (m : ArgMatches) (name : Text) (rows : List Row) → subcommand_rows_of m ≡ subcommand_of command_line words
    → Some name ≡ subcommand_name_of m → Some rows ≡ option_map (λ (p : Text × List Row). p.1) (subcommand_rows_of m)
    → subcommand_of command_line words ≡ Some (name, rows)
named_rows words m name rows is named found =
    both_parts (subcommand_of command_line words) name rows
    (named ∙ sym (name_of_rows (out-ArgMatches m).subcommand) ∙ ap (option_map (λ (p : Text × List Row). p.0)) is)
    (found ∙ ap (option_map (λ (p : Text × List Row). p.1)) is)

pair_parts : (a d : Text) (b e : List Row) → ◌≡◌ {A = Option (Text × List Row)} (Some (a, b)) (Some (d, e)) → (a ≡ d) × (b ≡ e)
pair_parts a d b e h = (ap (λ (o : Option (Text × List Row)). option_map_or (λ p. p.0) o a) h, ap (λ (o : Option (Text × List Row)). option_map_or (λ p. p.1) o b) h)

-- what the words name is `stream`, or runs the generated job
pub some_task : (words : List Text) (name : Text) (rows : List Row) → Entered words → subcommand_of command_line words ≡ Some (name, rows)
    → ((name ≡ codes "stream") × found_seed rows) ⊎ ((stepping : Stepping) × (name ≡ demo_name stepping) × (v : Text) × found_moves v rows)
some_task words name rows (Entered.a_stream found is good) e =
    let parts = pair_parts (codes "stream") name found rows (sym is ∙ e) in
    inl (sym parts.0, subst found_seed parts.1 good)
some_task words name rows (Entered.a_demo stepping v found is ok) e =
    let parts = pair_parts (demo_name stepping) name found rows (sym is ∙ e) in
    inr (stepping, sym parts.0, v, subst (found_moves v) parts.1 ok)

-- accepted words enter a subcommand
pub has_entered : (words : List Text) → Entered words → None ≡ option_map (λ (p : Text × List Row). p.1) (subcommand_of command_line words) → ⊥
has_entered words (Entered.a_stream rows is good) none = let e : None ≡ Some rows = none ∙ ap (option_map (λ (p : Text × List Row). p.1)) is in cc
has_entered words (Entered.a_demo stepping v rows is ok) none = let e : None ≡ Some rows = none ∙ ap (option_map (λ (p : Text × List Row). p.1)) is in cc

-- the text of a number of moves that was found
pub moves_text : (v : Text) (rows : List Row) → found_moves v rows → one_of (codes "moves") rows ≡ Some (without_minus v)
moves_text v rows found = ap (option_and_then row_text) found.1

-- ---- words ask for one task at most

-- what is asked of `stream`
abbrev AsksStream : StreamOptions → Option (Text × List Row) → Type 0
AsksStream options o = IsSomeAnd o (λ s. (s.0 ≡ codes "stream") × (Some options ≡ options_in s.1))

one_stream : (options other : StreamOptions) (o : Option (Text × List Row)) → AsksStream options o → AsksStream other o → options ≡ other
one_stream options other None h k = absurd h
one_stream options other (Some s) h k = ap (λ (o : Option StreamOptions). unwrap_or o options) (h.1 ∙ sym k.1)

-- what is asked of `demo` and `pins`
abbrev AsksDemo : ℕ → Stepping → Option (Text × List Row) → Type 0
AsksDemo moves stepping o = IsSomeAnd o (λ s. (s.0 ≡ demo_name stepping) × (Some moves ≡ option_map number_of (one_of (codes "moves") s.1)) × (1 ≤ moves) × (moves ≤ 100000))

-- their names differ
one_name : (one other : Stepping) → demo_name one ≡ demo_name other → one ≡ other
one_name Events Events e = refl
one_name Events Subticks e = absurd (let both : true ≡ false = ap (λ (t : Text). bytes_eq t (codes "demo")) e in cc)
one_name Subticks Events e = absurd (let both : false ≡ true = ap (λ (t : Text). bytes_eq t (codes "demo")) e in cc)
one_name Subticks Subticks e = refl

no_stream_name : (stepping : Stepping) → codes "stream" ≡ demo_name stepping → ⊥
no_stream_name Events e = let both : true ≡ false = ap (λ (t : Text). bytes_eq t (codes "stream")) e in cc
no_stream_name Subticks e = let both : true ≡ false = ap (λ (t : Text). bytes_eq t (codes "stream")) e in cc

one_demo : (moves other : ℕ) (one another : Stepping) (o : Option (Text × List Row)) → AsksDemo moves one o → AsksDemo other another o → Demo moves one ≡ Demo other another
one_demo moves other one another None h k = absurd h
one_demo moves other one another (Some s) h k =
    ap (λ (m : ℕ). Demo m one) (ap (λ (o : Option ℕ). unwrap_or o moves) (h.1 ∙ sym k.1)) ∙ ap (λ (x : Stepping). Demo other x) (one_name one another (sym h.0 ∙ k.0))

not_both : (options : StreamOptions) (moves : ℕ) (stepping : Stepping) (o : Option (Text × List Row)) → AsksStream options o → AsksDemo moves stepping o → ⊥
not_both options moves stepping None h k = absurd h
not_both options moves stepping (Some s) h k = no_stream_name stepping (sym h.0 ∙ k.0)

pub one_task : (words : List Text) (a b : Task) → Asks a words → Asks b words → a ≡ b
one_task words (Stream s) (Stream t) h k = ap (λ (o : StreamOptions). Stream o) (one_stream s t (subcommand_of command_line words) h k)
one_task words (Stream s) (Demo n x) h k = absurd (not_both s n x (subcommand_of command_line words) h k)
one_task words (Demo m x) (Stream s) h k = absurd (not_both s m x (subcommand_of command_line words) k h)
one_task words (Demo m x) (Demo n y) h k = one_demo m n x y (subcommand_of command_line words) h k

-- ---- words that are not refused ask for one

without_minus-cond : (t : List ℕ) → without_minus t ≡ cond (starts_with_minus t) (drop 1 t) t
without_minus-cond [] = refl
without_minus-cond (x ∷ xs) = go (x == 45)
  where
    go : (b : Bool) → unwrap_or (cond b (Some xs) None) (x ∷ xs) ≡ cond b xs (x ∷ xs)
    go true = refl
    go false = refl

-- a number of moves that passed lies in its range
moves_lie : (v : Text) → accepts false numbers v ≡ true → (1 ≤ number_of (without_minus v)) × (number_of (without_minus v) ≤ 100000)
moves_lie v ok = go (starts_with_minus v) refl
  where
    go : (b : Bool) → starts_with_minus v ≡ b → (1 ≤ number_of (without_minus v)) × (number_of (without_minus v) ≤ 100000)
    go true minus =
        let passed = accepts-Accepts false numbers v ok in
        let low_ok = rw minus at passed.2 in
        absurd (omega (arith, ints))
    go false minus =
        let passed = accepts-Accepts false numbers v ok in
        let low_ok = rw minus at passed.2 in
        let high_ok = rw minus at passed.3 in
        let same : without_minus v ≡ v = without_minus-cond v ∙ ap (λ (b : Bool). cond b (drop 1 v) v) minus in
        rw same (omega (arith, ints), omega (arith, ints))

by_clap : (words : List Text) → ¬ Refuses words → Entered words → (task : Task) × Asks task words
by_clap words h (Entered.a_stream rows is good) = go (order_in rows) refl
  where
    options_by : Order → StreamOptions
    options_by order = record { order = order; buffers = buffers_by (has_flag (codes "wide") rows); form = form_by (has_flag (codes "compact") rows); stepping = stepping_by (has_flag (codes "smooth") rows); attended = has_flag (codes "attended") rows }

    go : (o : Option Order) → o ≡ order_in rows → (task : Task) × Asks task words
    go None none = absurd (h (inr (subst (λ (found : Option (Text × List Row)). IsSomeAnd found (λ s. (s.0 ≡ codes "stream") × (order_in s.1 ≡ None))) (sym is) (refl, sym none))))
    go (Some order) one = (Stream (options_by order), subst (AsksStream (options_by order)) (sym is) (refl, ap (option_map options_by) one))
by_clap words h (Entered.a_demo stepping v rows is ok) =
    let n = number_of (without_minus v) in
    let lies = moves_lie v ok.0 in (
      Demo n stepping,
      subst (AsksDemo n stepping) (sym is)
          (refl, ap (option_map number_of) (sym (moves_text v rows ok)), lies.0, lies.1),
    )

pub some_asked : (words : List Text) → ¬ Refuses words → (task : Task) × Asks task words
some_asked words h = by_clap words h (enters words (has_none words h))
