use Rattle.std.proofs.Common.{rules, Err, ◌≡◌, ◌∙◌, ◌≤◌, ℕ, Bool, true, false, refl, List, Option, Some, None, sym, ap, ap₂, subst, inl, inr, map, codes}
use Rattle.std.specs.Prelude.{option_map, unwrap_or, IsSomeAnd}
use Rattle.std.specs.Str.Parse.{ParsesUnsigned, ExplainsUnsignedError, HasUnsignedDigitsIfOk}
use Rattle.std.specs.Str.{bytes_eq}
use Rattle.clap.specs.Lexer.{without_minus}
use Rattle.clap.specs.Matches.{found_of}
use Rattle.clap.specs.Walk.{Row, Text, one_of, rows_of}
use Rattle.clap.proofs.WalkLemmas.{one_text-rows}
use Rattle.command_line.specs.declared.StreamOptions.{StreamOptions}
use Rattle.command_line.specs.declared.WordsFault.TheVariants.{Refused}
use Rattle.motion_pulse.specs.declared.pulse.Stepping.{Stepping}
use Rattle.motion_pulse.specs.declared.pulse.Stepping.TheVariants.{Events, Subticks}
use Rattle.command_line.specs.Command.{buffers_by, demo_name, form_by, stepping_by, has_flag, number_of, options_in, order_by, order_in}
use Rattle.command_line.proofs.CommandLine.{enters}
use Rattle.command_line.proofs.Numbers.{has_entered, moves_read, moves_text, named_rows, seed_read, some_task}
use Rattle.command_line.proofs.read_by_clap.Goals as goal

not_named : (name : Text) (r : Bool) → r ≡ bytes_eq name (codes "stream") → r ≡ false → name ≡ codes "stream" → ⊥
not_named name r is other e =
    let same : bytes_eq name (codes "stream") ≡ true = ap (λ (t : Text). bytes_eq t (codes "stream")) e in
    let both : true ≡ false = sym same ∙ sym is ∙ other in cc

no_demo : (stepping : Stepping) → bytes_eq (demo_name stepping) (codes "stream") ≡ false
no_demo Events = refl
no_demo Subticks = refl

is_named : (name : Text) (r : Bool) → r ≡ bytes_eq name (codes "stream") → r ≡ true → (stepping : Stepping) → name ≡ demo_name stepping → ⊥
is_named name r is found stepping e =
    let differs : bytes_eq name (codes "stream") ≡ false = ap (λ (t : Text). bytes_eq t (codes "stream")) e ∙ no_demo stepping in
    let both : true ≡ false = sym found ∙ is ∙ differs in cc

-- the name tells how the machine is stepped
by_name : (stepping : Stepping) → stepping_by (bytes_eq (demo_name stepping) (codes "pins")) ≡ stepping
by_name Events = refl
by_name Subticks = refl

pub returns-in_err-matches-clause-refused : goal.returns-in_err-matches-clause-refused
returns-in_err-matches-clause-refused c = λ e.
    let faulted : c.matches_of.result ≡ Err Refused = search rules in
    inl (c.matches_of.ensures.faulty faulted)

pub unreachable-requires : goal.unreachable-requires
unreachable-requires c =
    let words = map (λ w. w.now) c.args.words.now in
    let accepted = c.in_ok-matches.ensures.sound in
    has_entered words (enters words accepted.0)
    (ap (option_map (λ p. rows_of (found_of p.1.now))) (sym c.in_default.is) ∙ c.subcommand.ensures.rows ∙ ap (option_map (λ (p : Text × List Row). p.1)) accepted.1)

pub returns-in_default-order_of-clause-refused : goal.returns-in_default-order_of-clause-refused
returns-in_default-order_of-clause-refused c = λ e.
    let words = map (λ w. w.now) c.args.words.now in
    let accepted = c.in_ok-matches.ensures.sound in
    let rows = rows_of (found_of c.in-Some.given.now) in
    let is = named_rows words c.in_ok-matches.matches c.in-Some.name.now rows accepted.1
    (ap (option_map (λ p. p.0.now)) (sym c.in-Some.is) ∙ c.subcommand.ensures.name)
    (ap (option_map (λ p. rows_of (found_of p.1.now))) (sym c.in-Some.is) ∙ c.subcommand.ensures.rows) in
    let seed_text = one_text-rows (found_of c.in-Some.given.now) (codes "seed") in
    elim (some_task words c.in-Some.name.now rows (enters words accepted.0) is) [
      | inl stream ↦
          let seed = seed_read _ (λ bs r. ParsesUnsigned 64 10 bs r × ExplainsUnsignedError 10 bs r × HasUnsignedDigitsIfOk bs r) (λ u x g. g.0) rows stream.1 c.get_one.result
          (λ none. c.get_one.ensures.none (seed_text ∙ none)) (λ t one. c.get_one.ensures.value t (seed_text ∙ one)) in
          let order : c.order_of.result ≡ order_in rows =
          c.order_of.ensures ∙ ap₂ order_by c.has_flag.ensures seed in
          inr (subst (λ (o : Option (Text × List Row)). IsSomeAnd o (λ s. (s.0 ≡ codes "stream") × (order_in s.1 ≡ None))) (sym is) (stream.0, sym order ∙ c.in_default-order_of.is))
      | inr demo ↦ absurd (is_named c.in-Some.name.now c.eq.result c.eq.ensures c.if-eq.true demo.0 demo.1)
    ]

pub returns-then-eq-clause-accepted : goal.returns-then-eq-clause-accepted
returns-then-eq-clause-accepted c = λ ok refused.
    let words = map (λ w. w.now) c.args.words.now in
    let accepted = c.in_ok-matches.ensures.sound in
    let rows = rows_of (found_of c.in-Some.given.now) in
    let is = named_rows words c.in_ok-matches.matches c.in-Some.name.now rows accepted.1
    (ap (option_map (λ p. p.0.now)) (sym c.in-Some.is) ∙ c.subcommand.ensures.name)
    (ap (option_map (λ p. rows_of (found_of p.1.now))) (sym c.in-Some.is) ∙ c.subcommand.ensures.rows) in
    let seed_text = one_text-rows (found_of c.in-Some.given.now) (codes "seed") in
    elim (some_task words c.in-Some.name.now rows (enters words accepted.0) is) [
      | inl stream ↦
          let seed = seed_read _ (λ bs r. ParsesUnsigned 64 10 bs r × ExplainsUnsignedError 10 bs r × HasUnsignedDigitsIfOk bs r) (λ u x g. g.0) rows stream.1 c.get_one.result
          (λ none. c.get_one.ensures.none (seed_text ∙ none)) (λ t one. c.get_one.ensures.value t (seed_text ∙ one)) in
          let order : c.order_of.result ≡ order_in rows =
          c.order_of.ensures ∙ ap₂ order_by c.has_flag.ensures seed in
          elim refused [
            | inl fault ↦ fault accepted.0
            | inr two ↦
                let both = subst (λ (o : Option (Text × List Row)). IsSomeAnd o (λ s. (s.0 ≡ codes "stream") × (order_in s.1 ≡ None))) is two in
                let one = sym both.1 ∙ sym order ∙ c.in-Some-order_of.is in cc
          ]
      | inr demo ↦ absurd (is_named c.in-Some.name.now c.eq.result c.eq.ensures c.if-eq.true demo.0 demo.1)
    ]

pub returns-then-eq-clause-asked : goal.returns-then-eq-clause-asked
returns-then-eq-clause-asked c =
    let words = map (λ w. w.now) c.args.words.now in
    let accepted = c.in_ok-matches.ensures.sound in
    let rows = rows_of (found_of c.in-Some.given.now) in
    let is = named_rows words c.in_ok-matches.matches c.in-Some.name.now rows accepted.1
    (ap (option_map (λ p. p.0.now)) (sym c.in-Some.is) ∙ c.subcommand.ensures.name)
    (ap (option_map (λ p. rows_of (found_of p.1.now))) (sym c.in-Some.is) ∙ c.subcommand.ensures.rows) in
    let seed_text = one_text-rows (found_of c.in-Some.given.now) (codes "seed") in
    elim (some_task words c.in-Some.name.now rows (enters words accepted.0) is) [
      | inl stream ↦
          let seed = seed_read _ (λ bs r. ParsesUnsigned 64 10 bs r × ExplainsUnsignedError 10 bs r × HasUnsignedDigitsIfOk bs r) (λ u x g. g.0) rows stream.1 c.get_one.result
          (λ none. c.get_one.ensures.none (seed_text ∙ none)) (λ t one. c.get_one.ensures.value t (seed_text ∙ one)) in
          let order : c.order_of.result ≡ order_in rows =
          c.order_of.ensures ∙ ap₂ order_by c.has_flag.ensures seed in
          let buffers : c.buffers_of.result ≡ buffers_by (has_flag (codes "wide") rows) = c.buffers_of.ensures ∙ ap buffers_by c.has_flag-then-eq.ensures in
          let form : c.form_of.result ≡ form_by (has_flag (codes "compact") rows) = c.form_of.ensures ∙ ap form_by c.has_flag-then-eq-2.ensures in
          let stepping : c.stepping_of.result ≡ stepping_by (has_flag (codes "smooth") rows) = c.stepping_of.ensures ∙ ap stepping_by c.has_flag-then-eq-3.ensures in
          let options : StreamOptions = record { order = c.in-Some-order_of.order; buffers = c.buffers_of.result; form = c.form_of.result; stepping = c.stepping_of.result; attended = c.has_flag-then-eq-4.result } in
          let found : Some options ≡ options_in rows = rw (buffers, form, stepping, c.has_flag-then-eq-4.ensures) (ap (option_map (λ order. record { order = order; buffers = buffers_by (has_flag (codes "wide") rows); form = form_by (has_flag (codes "compact") rows); stepping = stepping_by (has_flag (codes "smooth") rows); attended = has_flag (codes "attended") rows })) (sym c.in-Some-order_of.is ∙ order)) in
          subst (λ (o : Option (Text × List Row)). IsSomeAnd o (λ s. (s.0 ≡ codes "stream") × (Some options ≡ options_in s.1))) (sym is)
          (stream.0, found)
      | inr demo ↦ absurd (is_named c.in-Some.name.now c.eq.result c.eq.ensures c.if-eq.true demo.0 demo.1)
    ]

pub returns-clause-accepted : goal.returns-clause-accepted
returns-clause-accepted c = λ ok refused.
    let words = map (λ w. w.now) c.args.words.now in
    let accepted = c.in_ok-matches.ensures.sound in
    let rows = rows_of (found_of c.in-Some.given.now) in
    let is = named_rows words c.in_ok-matches.matches c.in-Some.name.now rows accepted.1
    (ap (option_map (λ p. p.0.now)) (sym c.in-Some.is) ∙ c.subcommand.ensures.name)
    (ap (option_map (λ p. rows_of (found_of p.1.now))) (sym c.in-Some.is) ∙ c.subcommand.ensures.rows) in
    elim refused [
      | inl fault ↦ fault accepted.0
      | inr two ↦
          let both = subst (λ (o : Option (Text × List Row)). IsSomeAnd o (λ s. (s.0 ≡ codes "stream") × (order_in s.1 ≡ None))) is two in
          not_named c.in-Some.name.now c.eq.result c.eq.ensures c.if-eq.false both.0
    ]

pub returns-clause-asked : goal.returns-clause-asked
returns-clause-asked c =
    let words = map (λ w. w.now) c.args.words.now in
    let accepted = c.in_ok-matches.ensures.sound in
    let rows = rows_of (found_of c.in-Some.given.now) in
    let is = named_rows words c.in_ok-matches.matches c.in-Some.name.now rows accepted.1
    (ap (option_map (λ p. p.0.now)) (sym c.in-Some.is) ∙ c.subcommand.ensures.name)
    (ap (option_map (λ p. rows_of (found_of p.1.now))) (sym c.in-Some.is) ∙ c.subcommand.ensures.rows) in
    let read_text = one_text-rows (found_of c.in-Some.given.now) (codes "moves") in
    elim (some_task words c.in-Some.name.now rows (enters words accepted.0) is) [
      | inl stream ↦ absurd (not_named c.in-Some.name.now c.eq.result c.eq.ensures c.if-eq.false stream.0)
      | inr demo ↦
          let one : one_of (codes "moves") rows ≡ Some (without_minus demo.2) = moves_text demo.2 rows demo.3 in
          let got = moves_read _ (λ bs r. ParsesUnsigned 32 10 bs r × ExplainsUnsignedError 10 bs r × HasUnsignedDigitsIfOk bs r) (λ u x g. g.0)
          demo.2 demo.3.0 c.get_one-2.result (c.get_one-2.ensures.value (without_minus demo.2) (read_text ∙ one)) in
          let same : Some got.0 ≡ Some c.in-Some-get_one.moves = sym got.1 ∙ c.in-Some-get_one.is in
          let number : got.0 ≡ c.in-Some-get_one.moves = ap (λ (o : Option ℕ). unwrap_or o 0) same in
          let moves : Some c.in-Some-get_one.moves ≡ option_map number_of (one_of (codes "moves") rows) =
          sym same ∙ ap (λ (m : ℕ). Some m) got.4 ∙ ap (option_map number_of) (sym one) in
          let stepping : c.stepping_of-in-Some-get_one.result ≡ demo.0 = c.stepping_of-in-Some-get_one.ensures ∙ ap stepping_by (c.eq-in-Some-get_one.ensures ∙ ap (λ (t : Text). bytes_eq t (codes "pins")) demo.1) ∙ by_name demo.0 in
          rw stepping (subst (λ (o : Option (Text × List Row)). IsSomeAnd o (λ s. (s.0 ≡ demo_name demo.0) × (Some c.in-Some-get_one.moves ≡ option_map number_of (one_of (codes "moves") s.1)) × (1 ≤ c.in-Some-get_one.moves) × (c.in-Some-get_one.moves ≤ 100000))) (sym is)
          (demo.1, moves, subst (λ (m : ℕ). 1 ≤ m) number got.2, subst (λ (m : ℕ). m ≤ 100000) number got.3))
    ]

pub unreachable-requires-in-None : goal.unreachable-requires-in-None
unreachable-requires-in-None c =
    let words = map (λ w. w.now) c.args.words.now in
    let accepted = c.in_ok-matches.ensures.sound in
    let rows = rows_of (found_of c.in-Some.given.now) in
    let is = named_rows words c.in_ok-matches.matches c.in-Some.name.now rows accepted.1
    (ap (option_map (λ p. p.0.now)) (sym c.in-Some.is) ∙ c.subcommand.ensures.name)
    (ap (option_map (λ p. rows_of (found_of p.1.now))) (sym c.in-Some.is) ∙ c.subcommand.ensures.rows) in
    let read_text = one_text-rows (found_of c.in-Some.given.now) (codes "moves") in
    elim (some_task words c.in-Some.name.now rows (enters words accepted.0) is) [
      | inl stream ↦ absurd (not_named c.in-Some.name.now c.eq.result c.eq.ensures c.if-eq.false stream.0)
      | inr demo ↦
          let one : one_of (codes "moves") rows ≡ Some (without_minus demo.2) = moves_text demo.2 rows demo.3 in
          let got = moves_read _ (λ bs r. ParsesUnsigned 32 10 bs r × ExplainsUnsignedError 10 bs r × HasUnsignedDigitsIfOk bs r) (λ u x g. g.0)
          demo.2 demo.3.0 c.get_one-2.result (c.get_one-2.ensures.value (without_minus demo.2) (read_text ∙ one)) in
          let same : Some got.0 ≡ None = sym got.1 ∙ c.in-None.is in
          absurd (cc)
    ]
