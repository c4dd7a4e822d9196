use Rattle.std.proofs.Common.{sym, arith, ◌∙◌}
use Rattle.std.proofs.lemmas.Int.Digits.{digits_value_more}
use Rattle.step_record.proofs.Digits.{digit_is, too_large, whole_value}
use Rattle.step_record.proofs.numbers.value_of.Goals as goal

pub overflow_sub-digit : goal.overflow_sub-digit
overflow_sub-digit c = omega (arith, digit_is c.args.digits.now c.loop-digit.digit-index c.requires c.loop-digit-test.true)

pub returns-in_err-checked_mul : goal.returns-in_err-checked_mul
returns-in_err-checked_mul c =
    let large = too_large c.args.digits.now c.loop-digit.digit-index c.loop-digit.value c.loop-digit-test.true c.loop-digit.invariant.so_far (omega (arith, c.in_err-checked_mul.ensures)) in
    c.from_residual.ensures ∙ sym large

pub returns-in_err-value : goal.returns-in_err-value
returns-in_err-value c =
    let digit = digit_is c.args.digits.now c.loop-digit.digit-index c.requires c.loop-digit-test.true in
    let so_far = c.in_ok-checked_mul.ensures in
    let large = too_large c.args.digits.now c.loop-digit.digit-index c.loop-digit.value c.loop-digit-test.true c.loop-digit.invariant.so_far (omega (arith, c.from.ensures, c.in_err-value.ensures)) in
    c.from_residual-in_err-value.ensures ∙ sym large

pub loop-digit-preserved : goal.loop-digit-preserved
loop-digit-preserved c =
    let digit = digit_is c.args.digits.now c.loop-digit.digit-index c.requires c.loop-digit-test.true in
    let more = digits_value_more 10 c.args.digits.now c.loop-digit.digit-index c.loop-digit-test.true in
    let tenfold = c.in_ok-checked_mul.ensures in
    let sum = c.in_ok-value.ensures in
    record { so_far = omega (arith, c.from.ensures); fits = omega arith }

pub returns : goal.returns
returns c = whole_value c.args.digits.now c.loop-digit.digit-index c.loop-digit.value (omega arith) c.loop-digit.invariant.so_far c.loop-digit.invariant.fits
