use Rattle.std.proofs.Common.{◌≡◌, true, false, ◌∷◌, refl, ap, Some, ◌∙◌}
use Rattle.stream_host.specs.Conduct.{AreAnswered, waits_for_lines}
use Rattle.host_journal.specs.Steps.{is_attended}
use Rattle.host_journal.specs.Steps.PortStep.{marked, raised}
use Rattle.host_journal.specs.Steps.Step.{at_port}
use Rattle.stream_host.proofs.Turns.{did_at_port, few_marked_now, few_raised_now, tells_marked, tells_raised, tells_same, waits_early, wants, wants_none, did_goes_on, waits_on, not_both}
use Rattle.stream_host.proofs.host.Host.raise_due.Goals as goal

pub returns-then-is_early-clause-goes_on : goal.returns-then-is_early-clause-goes_on
returns-then-is_early-clause-goes_on g c = λ rest h stands f polled.
    let early : (is_attended h ≡ false → waits_for_lines c.args.byte ≡ true → AreAnswered h) → ⊥ = (λ after. not_both _ ((c.is_early.ensures _ h f).1 after) c.if-is_early.true) in
    (h, stands, waits_early c.args.self.now c.args.byte h f c.requires.calm polled c.requires.shown c.requires.due early, λ job console. tells_same c.args.self.now h job console)

pub returns-then-is_early-clause-going : goal.returns-then-is_early-clause-going
returns-then-is_early-clause-going g c = waits_on

pub mark-requires : goal.mark-requires
mark-requires g c =
    let r = c.requires.stands in
    let w = wants c.wants_mark.result c.args.byte c.args.self.now.resets.marked c.wants_mark.ensures c.if-wants_mark.true in
    record { due = c.requires.due ∙ ap Some w.0; fresh = w.1; calm = c.requires.calm; stands = (r.0, r.1, r.2, r.3) }

pub returns-then-wants_mark-clause-goes_on : goal.returns-then-wants_mark-clause-goes_on
returns-then-wants_mark-clause-goes_on g c = λ rest h stands f polled.
    let t = c.mark.ensures.marked rest h stands f in (
      at_port marked ∷ h,
      t.0,
      did_at_port c.args.self.now _ (at_port marked) h refl refl t.1 (few_marked_now h polled),
      λ job console. tells_marked c.args.self.now _ h job console c.mark.ensures.text,
    )

pub returns-then-wants_mark-clause-going : goal.returns-then-wants_mark-clause-going
returns-then-wants_mark-clause-going g c = did_goes_on

pub raise-requires : goal.raise-requires
raise-requires g c =
    let r = c.requires.stands in
    record {
      due = c.requires.due;
      calm = c.requires.calm;
      behind_mark = wants_none c.wants_mark.result c.args.byte c.args.self.now.resets.marked c.wants_mark.ensures c.if-wants_mark.false;
      after = λ room h f. (c.is_early.ensures room h f).0 c.if-is_early.false;
      stands = (r.0, r.1, r.2, r.3);
    }

pub returns-clause-goes_on : goal.returns-clause-goes_on
returns-clause-goes_on g c = λ rest h stands f polled.
    let b = c.args.byte in let t = c.raise.ensures.raised rest h stands f in (
      at_port (raised b t.0) ∷ h,
      t.1,
      did_at_port c.args.self.now _ (at_port (raised b t.0)) h refl refl t.2 (few_raised_now b t.0 h polled),
      λ job console. tells_raised c.args.self.now _ b t.0 h job console c.raise.ensures.text,
    )

pub returns-clause-going : goal.returns-clause-going
returns-clause-going g c = did_goes_on
