use Rattle.std.proofs.Common.{◌∙◌, ap, arith, not, refl, sym, Bool, ◌&&◌}
use Rattle.audit_rules.proofs.OneWay.{both}
use Rattle.run_audit.proofs.Under.{line_told, bad_found, taken_read, can_read}
use Rattle.run_audit.proofs.LineBegun.{line_begun, none_waits}
use Rattle.run_audit.proofs.Bounded.{line_on_way}
use Rattle.run_audit.proofs.auditor.Auditor.begin.Goals as goal

pub returns-then-begin-clause-goes_on : goal.returns-then-begin-clause-goes_on
returns-then-begin-clause-goes_on c = λ job console steps.
    let a = c.args.self.now in
    let kept = a.sending.reader.line.kept in
    line_told a _ kept job console steps (λ t told h. h) (λ t told h. h) (λ t told h. c.take_line.ensures.told c.requires.line.0 c.requires.line.1 job t told h)
    (λ none. (none, c.begin.ensures.yes c.if-begin.true kept c.kept-line.ensures))

pub returns-clause-goes_on : goal.returns-clause-goes_on
returns-clause-goes_on c = λ job console steps.
    let a = c.args.self.now in
    let kept = a.sending.reader.line.kept in
    bad_found a _ job console steps job console steps c.bad_behind.result c.bad_behind.ensures.bad
    (λ jt ct st u. taken_read a _ job console steps _ jt ct st (λ t told h. c.take_line.ensures.told c.requires.line.0 c.requires.line.1 job t told h) refl refl (can_read a job console steps jt ct st u))

pub returns-then-begin-clause-stands : goal.returns-then-begin-clause-stands
returns-then-begin-clause-stands c = λ next later calm none fits job console steps jt ct st short u p n few.
    let kept = c.args.self.now.sending.reader.line.kept in
    let yes = c.if-begin.true in
    line_begun u short next p.0 later calm none c.args.error fits p.1 c.begin.new.self c.take_line.new.self kept
    (record {
      adds = c.begin.ensures.yes yes kept c.kept-line.ensures;
      hears = c.begin.ensures.heard yes kept c.kept-line.ensures;
      line = c.begin.ensures.hears_line yes kept c.kept-line.ensures;
      unanswered = c.begin.ensures.unanswered yes;
      number = c.begin.ensures.number yes;
      lost = c.begin.ensures.lost yes;
      short = c.begin.ensures.short yes kept c.kept-line.ensures;
    })
    (c.take_line.ensures.told c.requires.line.0 c.requires.line.1 job jt u.sent u.are_read.job_so_far) (c.take_line.ensures.untold c.requires.line.0)
    (c.take_line.ensures.over ∙ u.are_read.job_so_far.waiting u.calm c.requires.line.1) (c.take_line.ensures.last ∙ u.calm) n few

pub returns-clause-stands : goal.returns-clause-stands
returns-clause-stands c = λ next later calm none fits job console steps jt ct st short u p n few.
    let counted = line_on_way u c.requires.line in
    let answered = none_waits u later.done none p.1 in
    let halts = c.begin.ensures.halted c.if-begin.false later.done (omega (arith, counted)) answered in
    both c.args.self.now.course.line.halts halts (ap (λ (b : Bool). not b && c.args.self.now.course.line.halts) (sym answered) ∙ calm)
