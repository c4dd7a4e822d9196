use Rattle.std.proofs.Common.{arith, rules, refl, ap, subst, false}
use Rattle.board_journal.specs.Steps.{Journal}
use Rattle.board_turns.specs.declared.board.Board.{Board}
use Rattle.board_turns.specs.declared.board.Flags.TheVariants as words
use Rattle.board_turns.specs.Boards.{TakesFlags, AwaitsWords, HasChanges}
use Rattle.board_turns.specs.Turning.{asked, replanned}
use Rattle.board_rules.proofs.Taking.{no_jog_waits}
use Rattle.board_turns.proofs.Steps.{other_flags, other_published}
use Rattle.board_turns.proofs.Owing.{owing_now}
use Rattle.board_turns.proofs.Words.{took_changes, took_requests}
use Rattle.board_turns.proofs.board.Board.obey.Goals as goal

awaits_requests : {h : Journal} → HasChanges h → AwaitsWords h
awaits_requests t = record { greeted = t.greeted; obeyed = t.obeyed }

pub returns-in-Both-clause-goes_on : goal.returns-in-Both-clause-goes_on
returns-in-Both-clause-goes_on g c rest first h stands f between =
    let n = c.take_changes.ensures.goes_on rest first h stands f.keeps (subst (λ x. TakesFlags x h) c.in-Both.is f.flags).greeted in
    let next = replanned n.0 h in (
      next,
      n.1,
      took_changes first c.args.self.now (record c.take_changes.new.self { flags = words.Requests }) n.0 h f between c.in-Both.is (other_flags first c.take_changes.new.self words.Requests next n.2)
          (ap (λ (b : Board _). b.published) c.take_changes.ensures.same) refl,
    )

pub take_requests-requires : goal.take_requests-requires
take_requests-requires g c =
    let r = c.requires.stands in let first = r.1 in (
      omega arith,
      (r.0, first, r.2, r.3, r.4.keeps, awaits_requests (subst (λ x. TakesFlags x r.2) c.in-Requests.is r.4.flags), no_jog_waits first r.2 r.4.keeps.conducted r.5),
    )

pub returns-in-Requests-clause-goes_on : goal.returns-in-Requests-clause-goes_on
returns-in-Requests-clause-goes_on g c rest first h stands f between =
    let n = c.take_requests.ensures.goes_on rest first h stands f.keeps (awaits_requests (subst (λ x. TakesFlags x h) c.in-Requests.is f.flags)) (no_jog_waits first h f.keeps.conducted between) in (
      asked first n.0 n.1,
      n.3,
      took_requests first c.args.self.now c.take_requests.new.self n.0 h n.1 f between c.in-Requests.is n.2 n.4 (ap (λ (b : Board _). b.published) c.take_requests.ensures.same) n.5,
    )

pub take_changes-requires : goal.take_changes-requires
take_changes-requires g c =
    let r = c.requires.stands in let first = r.1 in (
      omega arith,
      (r.0, first, r.2, r.3, r.4.keeps, (subst (λ x. TakesFlags x r.2) c.in-Both.is r.4.flags).greeted),
    )

pub report-requires : goal.report-requires
report-requires g c = (
  omega arith,
  (
    let r = c.requires.stands in let first = r.1 in
        let s = c.args.self.now in
        let asked = subst (λ x. TakesFlags x r.2) c.in-Report.is r.4.flags in
        (r.0, first, r.2, r.3, other_published first s false r.2 r.4.keeps, owing_now first s.published c.in-Report.word r.2 r.4.keeps.conducted r.4.rounds r.5 asked),
    search rules,
  ),
)

pub returns-in-Report-clause-goes_on : goal.returns-in-Report-clause-goes_on
returns-in-Report-clause-goes_on g c = λ rest first h stands f between.
    let s = c.args.self.now in
    let asked = subst (λ x. TakesFlags x h) c.in-Report.is f.flags in
    c.report.ensures.goes_on rest first h s.flags stands (other_published first s false h f.keeps) (owing_now first s.published c.in-Report.word h f.keeps.conducted f.rounds between asked)
