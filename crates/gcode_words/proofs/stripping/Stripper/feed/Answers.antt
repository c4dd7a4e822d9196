use Rattle.std.proofs.Common.{refl, sym, ◌∙◌, arith}
use Rattle.gcode_words.specs.declared.stripping.Comment.TheVariants.{Outside, Paren, Semicolon}
use Rattle.gcode_words.specs.declared.stripping.Stripped.TheVariants.{Nothing, Keep}
use Rattle.gcode_words.proofs.Fed.{feeds, feeds_outside, feeds_paren}
use Rattle.gcode_words.proofs.stripping.Stripper.feed.Goals as goal

pub returns-in-Outside : goal.returns-in-Outside
returns-in-Outside c =
    let common = c.if-is_common.ensures in
    feeds_outside c.args.self.now c.args.byte (Keep c.args.byte) (sym c.self.view_is ∙ c.in-Outside.is) c.if-byte-eq10.false (common.begins refl).0 (common.begins refl).1
    (λ h. cc) (common.kept refl) (common.taken refl)

pub returns-in-40 : goal.returns-in-40
returns-in-40 c =
    feeds Outside c.args.self.now Paren c.args.byte Nothing (sym c.self.view_is ∙ c.in-Outside.is) c.if-byte-eq10.false (λ h. cc)
    (rw c.in-40.is refl) (rw c.in-40.is refl) (rw c.in-40.is refl)

pub returns-in-59 : goal.returns-in-59
returns-in-59 c =
    feeds Outside c.args.self.now Semicolon c.args.byte Nothing (sym c.self.view_is ∙ c.in-Outside.is) c.if-byte-eq10.false (λ h. cc)
    (rw c.in-59.is refl) (rw c.in-59.is refl) (rw c.in-59.is refl)

pub returns-in_default : goal.returns-in_default
returns-in_default c =
    feeds_outside c.args.self.now c.args.byte c.answer_outside.result (sym c.self.view_is ∙ c.in-Outside.is) c.if-byte-eq10.false (omega arith) (omega arith)
    c.answer_outside.ensures.goes_on c.answer_outside.ensures.kept c.answer_outside.ensures.taken

pub returns-then-byte-eq41 : goal.returns-then-byte-eq41
returns-then-byte-eq41 c =
    feeds Paren c.args.self.now Outside c.args.byte Nothing (sym c.self.view_is ∙ c.in-Paren.is) c.if-byte-eq10.false (λ h. cc)
    (rw c.if-byte-eq41.true refl) refl refl

pub returns-else-byte-eq41 : goal.returns-else-byte-eq41
returns-else-byte-eq41 c = feeds_paren c.args.self.now c.args.byte (sym c.self.view_is ∙ c.in-Paren.is) c.if-byte-eq10.false c.if-byte-eq41.false

pub returns-in-Semicolon : goal.returns-in-Semicolon
returns-in-Semicolon c =
    let at = sym c.self.view_is ∙ c.in-Semicolon.is in
    feeds Semicolon c.args.self.now c.args.self.now c.args.byte Nothing at c.if-byte-eq10.false (λ h. cc) at refl refl
