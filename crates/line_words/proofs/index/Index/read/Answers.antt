use Rattle.std.proofs.Common.{sym, ◌∙◌, take}
use Rattle.line_words.proofs.Places.{refusal_is, got, grown}
use Rattle.line_words.proofs.index.Index.read.Goals as goal

pub returns-in-Some-clause-refusal : goal.returns-in-Some-clause-refusal
returns-in-Some-clause-refusal c =
    c.in-Some.ensures c.args.words.now (take c.args.place c.args.words.now) c.requires.passed ∙ refusal_is c.args.words.now c.args.place _ c.requires.place

pub returns-in-Some-group-clause-refusal : goal.returns-in-Some-group-clause-refusal
returns-in-Some-group-clause-refusal c =
    sym c.in_default.is ∙ c.refusal.ensures c.args.words.now (take c.args.place c.args.words.now) c.requires.passed ∙ refusal_is c.args.words.now c.args.place _ c.requires.place

pub returns-in-None-clause-refusal : goal.returns-in-None-clause-refusal
returns-in-None-clause-refusal c =
    sym c.in_default.is ∙ c.refusal.ensures c.args.words.now (take c.args.place c.args.words.now) c.requires.passed ∙ refusal_is c.args.words.now c.args.place _ c.requires.place

pub returns-in-Some-group-clause-passed : goal.returns-in-Some-group-clause-passed
returns-in-Some-group-clause-passed c = λ none.
    let ws = c.args.words.now in
    let before = take c.args.place ws in
    grown c.add_command.new.self ws c.args.place _ c.requires.place
    (c.add_command.ensures ws before (got ws c.args.place _ c.requires.place) c.requires.passed (sym (c.refusal.ensures ws before c.requires.passed) ∙ c.in_default.is))

pub returns-in-None-clause-passed : goal.returns-in-None-clause-passed
returns-in-None-clause-passed c = λ none.
    let ws = c.args.words.now in
    let before = take c.args.place ws in
    grown c.add_value.new.self ws c.args.place _ c.requires.place
    (c.add_value.ensures ws before (got ws c.args.place _ c.requires.place) c.requires.passed (sym (c.refusal.ensures ws before c.requires.passed) ∙ c.in_default.is))
