-- What is found of an argument of one value, on a level that has flags besides.
use Rattle.std.proofs.Common.{◌≡◌, ◌∙◌, ◌||◌, ◌&&◌, ◌==◌, ◌++◌, not, suc, ℕ, Bool, true, false, cond, List, [], ◌∷◌, length, Option, Some, None, refl, sym, ap, subst, codes, arith}
use Rattle.std.specs.Prelude.{find, IfSome}
use Rattle.std.specs.Str.{bytes_eq}
use Rattle.std.specs.Option.{option_map_or}
use Rattle.std.specs.Cmp.Lexicographic.{same_text}
use Rattle.std.proofs.lemmas.Bool.Decides.{nat_tests}
use Rattle.std.proofs.lemmas.Slice.Eq.{bytes_eq-Decides}
use Rattle.std.specs.List.{list_any}
use Rattle.clap.specs.Walk.{Row, Rule, Text, at_row, default_rows, has_row, more_values, reading_by, used, with_values, without}
use Rattle.clap.specs.Simple.{Shape, filled, help_rule, new_rule}
use Rattle.clap.specs.Values.{reading_of, refused_kind}
use Rattle.clap.specs.ValueTests.{accepts}
use Rattle.clap.specs.Facts.{explicit_source}
use Rattle.clap.specs.Kinds.{check_kinds, or_else, range_kinds}
use Rattle.clap.specs.Faults.{check_fault, use_fault}
use Rattle.clap.specs.declared.error.kind.ErrorKind.TheVariants.{ArgumentConflict, InvalidValue, WrongNumberOfValues}
use Rattle.clap.specs.declared.builder.action.ArgAction.TheVariants.{Set, SetTrue}
use Rattle.clap.specs.declared.builder.value_parser.Reading.{Reading}
use Rattle.clap.specs.declared.builder.value_parser.ValueParser.{ValueParser}
use Rattle.clap.specs.declared.parser.matches.ValueSource.{ValueSource}
use Rattle.clap.specs.declared.parser.matches.ValueSource.TheVariants.{CommandLine}
use Rattle.command_line.proofs.Levels.{none_first, KeptByUse, KeptByDefault}

-- the row of an argument
abbrev pub row_at : Text → List Row → Option Row
row_at id rows = find (λ r. bytes_eq r.id id) rows

-- an argument of one value, as clap builds it
abbrev pub one_value : Text → Option Text → Option ℕ → ValueParser → Bool → Rule
one_value id long index parser required = record {
  id = id;
  long = long;
  aliases = [];
  short = None;
  short_aliases = [];
  index = index;
  action = Some Set;
  range = Some (record { start_inclusive = 1; end_inclusive = 1 });
  value_names = 0;
  defaults = [];
  missing = [];
  trailing_var_arg = false;
  parser = Some parser;
  ignore_case = false;
  required = required;
  is_simple = true;
  is_free = true;
}

-- a flag, as clap builds it
abbrev pub flag : Text → Rule
flag name = filled (record (new_rule name) { long = Some name; action = Some SetTrue })

abbrev pub help : Rule
help = filled help_rule

same_bytes : (t : Text) → bytes_eq t t ≡ true
same_bytes t = (bytes_eq-Decides t t).1 refl

module _ (id : Text) (long : Option Text) (index : Option ℕ) (parser : ValueParser) (required : Bool) where
  abbrev pub argument : Rule
  argument = one_value id long index parser required

  -- the argument was given this value
  abbrev pub given : Text → Row
  given v = record { id = id; values = v ∷ []; count = None; source = Some CommandLine; reading = reading_of parser }

  -- it was given a value that the parser accepts
  abbrev pub IsGiven : Row → Type 0
  IsGiven r = (v : Text) × (accepts false parser v ≡ true) × (r ≡ given v)

  -- nothing was given, or one value that the parser accepts
  abbrev pub IsGood : List Row → Type 0
  IsGood rows = IfSome (row_at id rows) IsGiven

  -- ---- its own uses

  no_row : (rows : List Row) → has_row id rows ≡ false → (row_at id rows ≡ None) × (without id rows ≡ rows)
  no_row [] h = (refl, refl)
  no_row (r ∷ rows) h = go (bytes_eq r.id id) h (no_row rows)
    where
      go : (b : Bool) → (b || has_row id rows) ≡ false → (has_row id rows ≡ false → (row_at id rows ≡ None) × (without id rows ≡ rows))
          → (cond b (Some r) (row_at id rows) ≡ None) × (cond b rows (r ∷ without id rows) ≡ r ∷ rows)
      go true e later = absurd (cc)
      go false e later = ((later e).0, ap (λ (rs : List Row). r ∷ rs) (later e).1)

  put_row : (change : Row → List Row) (missing : List Row) (rows : List Row) → has_row id rows ≡ false → row_at id (at_row id change missing rows) ≡ row_at id missing
  put_row change missing [] h = refl
  put_row change missing (r ∷ rows) h = go (bytes_eq r.id id) refl h (put_row change missing rows)
    where
      go : (b : Bool) → bytes_eq r.id id ≡ b → (b || has_row id rows) ≡ false → (has_row id rows ≡ false → row_at id (at_row id change missing rows) ≡ row_at id missing) → row_at id (cond b (change r ++ rows) (r ∷ at_row id change missing rows)) ≡ row_at id missing
      go true is e later = absurd (cc)
      go false is e later = ap (λ (b : Bool). cond b (Some r) (row_at id (at_row id change missing rows))) is ∙ later e

  one_use : (v : Text) (rows : List Row) → use_fault false argument (v ∷ []) rows ≡ [] → IsGood (used argument (v ∷ []) rows)
  one_use v rows h = go (has_row id rows) (accepts false parser v) refl refl h
    where
      go : (b d : Bool) → has_row id rows ≡ b → d ≡ accepts false parser v
          → or_else (cond (b && true) (ArgumentConflict ∷ []) []) (or_else (cond d [] (refused_kind parser ∷ [])) []) ≡ []
          → IsGood (used argument (v ∷ []) rows)
      go true d none e k = absurd (cc)
      go false true none e k =
          let empty = no_row rows none in
          let is : row_at id (used argument (v ∷ []) rows) ≡ row_at id (given v ∷ []) =
          ap (λ (rs : List Row). row_at id (with_values id (reading_of parser) CommandLine (v ∷ []) rs)) empty.1 ∙ put_row (more_values CommandLine (v ∷ [])) (given v ∷ []) rows none in
          let found : row_at id (given v ∷ []) ≡ Some (given v) = ap (λ (b : Bool). cond b (Some (given v)) None) (same_bytes id) in
          subst (λ (o : Option Row). IfSome o IsGiven) (sym (is ∙ found)) (v, sym e, refl)
      go false false none e k = absurd (cc)

  no_more : (n : ℕ) → range_kinds 1 1 (suc (suc n)) ≡ [] → ⊥
  no_more n h = go (suc (suc n) == 0) (1 == suc (suc n)) refl h
    where
      go : (a b : Bool) → b ≡ (1 == suc (suc n)) → cond a (InvalidValue ∷ []) (cond b [] (WrongNumberOfValues ∷ [])) ≡ [] → ⊥
      go true b e h = cc
      go false true e h = grind (arith, nat_tests)
      go false false e h = cc

  none_used : (rows : List Row) → use_fault false argument [] rows ≡ [] → ⊥
  none_used rows h = let e : or_else (InvalidValue ∷ []) [] ≡ [] = h in cc

  pub by_use : KeptByUse IsGood argument
  by_use [] rows good h = absurd (none_used rows h)
  by_use (v ∷ []) rows good h = one_use v rows h
  by_use (v ∷ w ∷ vs) rows good h = absurd (no_more (length vs) (none_first _ _ h))

  pub by_default : KeptByDefault IsGood argument
  by_default rows good = go (has_row id rows)
    where
      go : (b : Bool) → IsGood (cond b rows rows)
      go true = good
      go false = good

  -- ---- the uses of flags

  -- a change of the rows of another argument
  another : (name : Text) → bytes_eq name id ≡ false → (change : Row → List Row) → ((r : Row) (rows : List Row) → bytes_eq r.id id ≡ false → row_at id (change r ++ rows) ≡ row_at id rows)
      → (missing : List Row) → row_at id missing ≡ None → (rows : List Row) → row_at id (at_row name change missing rows) ≡ row_at id rows
  another name other change keeps missing none [] = none
  another name other change keeps missing none (r ∷ rows) = go (bytes_eq r.id name) refl (another name other change keeps missing none rows)
    where
      go : (b : Bool) → b ≡ bytes_eq r.id name → row_at id (at_row name change missing rows) ≡ row_at id rows → row_at id (cond b (change r ++ rows) (r ∷ at_row name change missing rows)) ≡ row_at id (r ∷ rows)
      go true is later =
          let not_id : bytes_eq r.id id ≡ false = ap (λ (t : Text). bytes_eq t id) (same_text r.id name is) ∙ other in
          keeps r rows not_id ∙ sym (ap (λ (b : Bool). cond b (Some r) (row_at id rows)) not_id)
      go false is later = ap (λ (o : Option Row). cond (bytes_eq r.id id) (Some r) o) later

  taken_out : (name : Text) → bytes_eq name id ≡ false → (rows : List Row) → row_at id (without name rows) ≡ row_at id rows
  taken_out name other rows = another name other (λ _. []) (λ r rs e. refl) [] refl rows

  put_in : (name : Text) → bytes_eq name id ≡ false → (how : Reading) (s : ValueSource) (values : List Text) (rows : List Row) → row_at id (with_values name how s values rows) ≡ row_at id rows
  put_in name other how s values rows =
      another name other (more_values s values) (λ r rs e. ap (λ (b : Bool). cond b (Some (record r { values = r.values ++ values; source = Some (Rattle.clap.specs.Walk.stronger r.source s) })) (row_at id rs)) e)
      _ (ap (λ (b : Bool). cond b (Some (record { id = name; values = values; count = None; source = Some s; reading = how })) None) other) rows

  pub flag_by_use : (name : Text) → bytes_eq name id ≡ false → KeptByUse IsGood (flag name)
  flag_by_use name other values rows good h = go values
    where
      go : (vs : List Text) → IsGood (used (flag name) vs rows)
      go [] = subst (λ (o : Option Row). IfSome o IsGiven) (sym (put_in name other _ _ _ (without name rows) ∙ taken_out name other rows)) good
      go (v ∷ vs) = subst (λ (o : Option Row). IfSome o IsGiven) (sym (put_in name other _ _ _ (without name rows) ∙ taken_out name other rows)) good

  pub flag_by_default : (name : Text) → bytes_eq name id ≡ false → KeptByDefault IsGood (flag name)
  flag_by_default name other rows good = go (has_row name rows)
    where
      go : (b : Bool) → IsGood (cond b rows (default_rows name (reading_by (flag name)) (codes "false" ∷ []) rows))
      go true = good
      go false = subst (λ (o : Option Row). IfSome o IsGiven) (sym (put_in name other _ _ _ rows)) good

  pub help_by_use : KeptByUse IsGood help
  help_by_use values rows good h = good

  pub help_by_default : KeptByDefault IsGood help
  help_by_default rows good = go (has_row (codes "help") rows)
    where
      go : (b : Bool) → IsGood (cond b rows rows)
      go true = good
      go false = good

  -- where the argument is required, it was given
  pub was_given : (s : Shape) (rows : List Row) → required ≡ true → IsGood rows
      → check_fault (record s { rules = argument ∷ help ∷ []; args_override_self = false }) rows false ≡ []
      → (v : Text) × (accepts false parser v ≡ true) × (row_at id rows ≡ Some (given v))
  was_given s rows wanted good none = go (row_at id rows) refl good
    where
      lacks : (b d e f : Bool) → f ≡ true → check_kinds b d (not (e && false) && ((f && true) || false)) ≡ [] → ⊥
      lacks true d e f is none = cc
      lacks false true e f is none = cc
      lacks false false true true is none = cc
      lacks false false false true is none = cc
      lacks false false e false is none = cc

      go : (o : Option Row) → o ≡ row_at id rows → IfSome o IsGiven → (v : Text) × (accepts false parser v ≡ true) × (row_at id rows ≡ Some (given v))
      go None empty h = absurd (lacks (s.arg_required_else_help && not (list_any (λ r. explicit_source r.source) rows)) s.subcommand_required s.subcommand_negates_reqs required wanted
          (subst (λ (o : Option Row). check_kinds (s.arg_required_else_help && not (list_any (λ r. explicit_source r.source) rows)) s.subcommand_required
          (not (s.subcommand_negates_reqs && false) && ((required && not (option_map_or (λ r. explicit_source r.source) o false)) || false)) ≡ []) (sym empty) none))
      go (Some r) is h = (h.0, h.1, sym is ∙ ap (λ (x : Row). Some x) h.2)
