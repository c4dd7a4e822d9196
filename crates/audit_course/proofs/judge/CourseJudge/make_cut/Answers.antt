use Rattle.audit_course.proofs.Ending.{cut_made}
use Rattle.audit_course.proofs.Heard.{cut_kept}
use Rattle.audit_course.proofs.judge.CourseJudge.make_cut.Goals as goal

pub returns-clause-adds : goal.returns-clause-adds
returns-clause-adds c = λ first sent replies records s.
    cut_made c.args.self.now c.args.k c.rebase.new.self c.rebased-self.result c.new-self.result first sent replies records s c.requires.may c.rebased-self.ensures c.rebase.ensures c.new-self.ensures

pub returns-clause-point : goal.returns-clause-point
returns-clause-point c = cut_kept c.args.self.now c.rebase.new.self c.rebased-self.result c.new-self.result c.requires.may.ends c.rebased-self.ensures c.rebase.ensures
