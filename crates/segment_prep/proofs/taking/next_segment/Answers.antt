use Rattle.std.proofs.Common.{◌∙◌, ap, sym, subst}
use Rattle.plan_rules.specs.Plans.{Planned}
use Rattle.plan_rules.specs.Segments.{IsSegment, IsLegalStep, advanced}
use Rattle.segment_prep.proofs.taking.next_segment.Goals as goal

pub returns-in_default-clause-none : goal.returns-in_default-clause-none
returns-in_default-clause-none g c = c.in_default.ensures.none

pub returns-in_default-clause-unchanged : goal.returns-in_default-clause-unchanged
returns-in_default-clause-unchanged g c = c.in_default.ensures.same

pub returns-in_default-clause-overrides : goal.returns-in_default-clause-overrides
returns-in_default-clause-overrides g c = ap (λ (p : Planned). p.overrides) c.in_default.ensures.same

pub advance-requires : goal.advance-requires
advance-requires g c =
    let s = c.in-Some.segment in
    (assumption c, subst (λ (p : Planned). IsSegment p s.n s.w_out) (sym c.in-Some.ensures.same) c.in-Some.ensures.rule)

pub returns-clause-none : goal.returns-clause-none
returns-clause-none g c = c.in-Some.ensures.none

pub returns-clause-segment : goal.returns-clause-segment
returns-clause-segment g c = c.in-Some.ensures.segment

pub returns-clause-advanced : goal.returns-clause-advanced
returns-clause-advanced g c =
    let s = c.in-Some.segment in
    c.advance.ensures.advanced ∙ ap (λ (p : Planned). advanced p s.n s.w_out) c.in-Some.ensures.same

pub returns-clause-overrides : goal.returns-clause-overrides
returns-clause-overrides g c =
    ap (λ (p : Planned). p.overrides) c.advance.ensures.advanced ∙ ap (λ (p : Planned). p.overrides) c.in-Some.ensures.same

pub returns-clause-legal : goal.returns-clause-legal
returns-clause-legal g c =
    let s = c.in-Some.segment in
    subst (λ (p : Planned). IsLegalStep p.blocks p.speed s.n s.w_out) c.in-Some.ensures.same c.advance.ensures.legal

pub returns-clause-traceable : goal.returns-clause-traceable
returns-clause-traceable g c = c.in-Some.ensures.traceable

pub returns-clause-takes_time : goal.returns-clause-takes_time
returns-clause-takes_time g c = c.in-Some.ensures.takes_time

pub segment_next-requires : goal.segment_next-requires
segment_next-requires g c = assumption c
