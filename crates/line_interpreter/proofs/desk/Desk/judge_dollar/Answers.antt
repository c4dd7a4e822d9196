use Rattle.std.proofs.Common.{◌≡◌, true, false, refl, sym, ap, ◌∙◌}
use Rattle.system_lines.specs.Commands.{kind_of, is_jog}
use Rattle.run_rules.specs.Outcomes.{refused}
use Rattle.line_interpreter.specs.Desks.{standing}
use Rattle.run_rules.specs.Finding.{refuses, is_unlocked_by}
use Rattle.run_rules.specs.Locking.{unlocked}
use Rattle.line_interpreter.specs.declared.tasks.Body.TheVariants.{Unlocks}
use Rattle.line_interpreter.proofs.Judging.{dollar_refused, dollar_unlocks, jog_served, command_served, unlock_begun, unlocks_alone, begun_number, begun_ready}
use Rattle.line_interpreter.proofs.desk.Desk.judge_dollar.Goals as goal

pub returns-then-refuses-clause-begun : goal.returns-then-refuses-clause-begun
returns-then-refuses-clause-begun c = λ since.
    let b = standing c.args.self.now since in
    let busy : refuses c.args.machine (kind_of c.args.kept.now) ≡ true = sym (ap (refuses c.args.machine) c.of-kind.ensures) ∙ sym c.refuses.ensures ∙ c.if-refuses.true in
    (refused b 8, dollar_refused c.args.machine b c.args.kept.now busy, c.refuse.ensures.begun since)

pub returns-then-is_unlocked_by-clause-begun : goal.returns-then-is_unlocked_by-clause-begun
returns-then-is_unlocked_by-clause-begun c = λ since.
    let b = standing c.args.self.now since in
    let served : refuses c.args.machine (kind_of c.args.kept.now) ≡ false = sym (ap (refuses c.args.machine) c.of-kind.ensures) ∙ sym c.refuses.ensures ∙ c.if-refuses.false in
    let unlocks : is_unlocked_by c.args.machine (kind_of c.args.kept.now) ≡ true = sym (ap (is_unlocked_by c.args.machine) c.of-kind.ensures) ∙ sym c.is_unlocked_by.ensures ∙ c.if-is_unlocked_by.true in
    (unlocked b, dollar_unlocks c.args.machine b c.args.kept.now served unlocks, unlock_begun c.args.self.now _ b refl c.begin.ensures.same)

pub begin-requires : goal.begin-requires
begin-requires c = record { body = unlocks_alone }

pub returns-then-is_unlocked_by-clause-number : goal.returns-then-is_unlocked_by-clause-number
returns-then-is_unlocked_by-clause-number c = begun_number c.args.self.now _ Unlocks c.begin.ensures.same

pub returns-then-is_unlocked_by-clause-ready : goal.returns-then-is_unlocked_by-clause-ready
returns-then-is_unlocked_by-clause-ready c = begun_ready c.args.self.now _ Unlocks c.begin.ensures.same c.requires.ready

pub returns-then-is_jog-clause-begun : goal.returns-then-is_jog-clause-begun
returns-then-is_jog-clause-begun c = λ since.
    let b = standing c.args.self.now since in
    let served : refuses c.args.machine (kind_of c.args.kept.now) ≡ false = sym (ap (refuses c.args.machine) c.of-kind.ensures) ∙ sym c.refuses.ensures ∙ c.if-refuses.false in
    let jogs : is_jog (kind_of c.args.kept.now) ≡ true = sym (ap is_jog c.of-kind.ensures) ∙ sym c.is_jog.ensures ∙ c.if-is_jog.true in
    let is = c.judge_jog.ensures.begun since in
    let none : is_unlocked_by c.args.machine (kind_of c.args.kept.now) ≡ false = sym (ap (is_unlocked_by c.args.machine) c.of-kind.ensures) ∙ sym c.is_unlocked_by.ensures ∙ c.if-is_unlocked_by.false in
    (is.0, jog_served c.args.machine b c.args.kept.now is.0 served none jogs is.1, is.2)

pub returns-clause-begun : goal.returns-clause-begun
returns-clause-begun c = λ since.
    let b = standing c.args.self.now since in
    let served : refuses c.args.machine (kind_of c.args.kept.now) ≡ false = sym (ap (refuses c.args.machine) c.of-kind.ensures) ∙ sym c.refuses.ensures ∙ c.if-refuses.false in
    let other : is_jog (kind_of c.args.kept.now) ≡ false = sym (ap is_jog c.of-kind.ensures) ∙ sym c.is_jog.ensures ∙ c.if-is_jog.false in
    let is = c.judge_command.ensures.begun since in
    let none : is_unlocked_by c.args.machine (kind_of c.args.kept.now) ≡ false = sym (ap (is_unlocked_by c.args.machine) c.of-kind.ensures) ∙ sym c.is_unlocked_by.ensures ∙ c.if-is_unlocked_by.false in
    (is.0, command_served c.args.machine b c.args.kept.now is.0 served none other is.1, is.2)

pub returns-then-refuses-clause-number : goal.returns-then-refuses-clause-number
returns-then-refuses-clause-number c = c.refuse.ensures.number

pub returns-then-refuses-clause-ready : goal.returns-then-refuses-clause-ready
returns-then-refuses-clause-ready c = c.refuse.ensures.ready

pub returns-then-is_jog-clause-number : goal.returns-then-is_jog-clause-number
returns-then-is_jog-clause-number c = c.judge_jog.ensures.number

pub returns-then-is_jog-clause-ready : goal.returns-then-is_jog-clause-ready
returns-then-is_jog-clause-ready c = c.judge_jog.ensures.ready

pub returns-clause-number : goal.returns-clause-number
returns-clause-number c = c.judge_command.ensures.number

pub returns-clause-ready : goal.returns-clause-ready
returns-clause-ready c = c.judge_command.ensures.ready
