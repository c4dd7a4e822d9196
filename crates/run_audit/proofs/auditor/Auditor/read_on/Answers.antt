use Rattle.std.proofs.Common.{◌≡◌, ◌∙◌, false, true, ap, arith, refl, rules, subst, sym}
use Rattle.audit_texts.specs.SoFar.{IsItem}
use Rattle.audit_texts.specs.declared.sending.Item.TheVariants.{Nothing}
use Rattle.audit_texts.specs.declared.sending.Sending.{Sending}
use Rattle.run_audit.proofs.FoundTop.{told_few}
use Rattle.run_audit.proofs.auditor.Auditor.read_on.Goals as goal

-- nothing is read behind the end, one time more
still : {s t u : Sending} → (s.over ≡ true → IsItem Nothing s → t ≡ s) → (t.over ≡ true → IsItem Nothing t → u ≡ t) → s.over ≡ true → IsItem Nothing s → u ≡ s
still {s} {t} {u} first then over none =
    let same = first over none in
    then (ap (λ (x : Sending). x.over) same ∙ over) (subst (IsItem Nothing) (sym same) none) ∙ same

pub rest-init : goal.rest-init
rest-init g c = record {
  known = c.requires.known;
  same = refl;
  others = record { course = refl; listening = refl; recorded = refl; broken = refl; last = refl };
  can_be_read = λ console steps jt ct st r. r;
  grows = λ console steps jt ct st r. (r, omega arith);
  over = λ over none. refl;
}

pub rest-preserved : goal.rest-preserved
rest-preserved g c =
    let i = c.rest.invariant in
    let one = c.in_ok-read_one.ensures in
    let others = one.others in
    record {
      known = one.read.0;
      same = one.read.1 ∙ i.same;
      others = record {
        course = others.course ∙ i.others.course;
        listening = others.listening ∙ i.others.listening;
        recorded = others.recorded ∙ i.others.recorded;
        broken = others.broken ∙ i.others.broken;
        last = others.last ∙ i.others.last;
      };
      can_be_read = λ console steps jt ct st r. one.reads console steps jt ct st (i.can_be_read console steps jt ct st r);
      grows = λ console steps jt ct st r.
          let now = i.grows console steps jt ct st r in
          let more : c.in_ok-read_one.field-0 ≡ true = search rules in
          let next = one.grows more console steps jt ct st now.0 in
          (next.0, omega (arith, now.1, next.1));
      over = λ over none. still i.over one.over over none;
    }

pub returns-then-not-branch-clause-read_on : goal.returns-then-not-branch-clause-read_on
returns-then-not-branch-clause-read_on g c = λ console steps jt ct st r. c.in_ok-read_one.ensures.reads console steps jt ct st (c.rest.invariant.can_be_read console steps jt ct st r)

pub returns-clause-read_on : goal.returns-clause-read_on
returns-clause-read_on g c = c.rest.invariant.can_be_read

pub returns-then-not-branch-clause-over : goal.returns-then-not-branch-clause-over
returns-then-not-branch-clause-over g c = still c.rest.invariant.over c.in_ok-read_one.ensures.over

pub returns-clause-over : goal.returns-clause-over
returns-clause-over g c = c.rest.invariant.over

pub returns-then-not-branch-clause-ended : goal.returns-then-not-branch-clause-ended
returns-then-not-branch-clause-ended g c = λ console steps jt ct st r. (let none : c.in_ok-read_one.field-0 ≡ false = search rules in c.in_ok-read_one.ensures.ended none)

pub returns-clause-ended : goal.returns-clause-ended
returns-clause-ended g c = λ console steps jt ct st r.
    let now = c.rest.invariant.grows console steps jt ct st r in
    let few = told_few c.rest.self.sending (g.J.Source.state c.rest.job) jt now.0.sent now.0.job_so_far in
    let over = c.rest-test.false in
    absurd (omega (arith, now.1, few, over))
