use Rattle.std.proofs.Common.{◌≡◌, ◌<◌, length, get_or, take, arith, sym, refl, ap, ◌∙◌}
use Rattle.std.proofs.lemmas.Int.Digits.{digits_more, digits_value_more}
use Rattle.std.proofs.lemmas.List.{take_all}
use Rattle.std.proofs.lemmas.Str.{digit_value_digit}
use Rattle.std.specs.Str.Parse.{digits_value}
use Rattle.fz_script.proofs.Numbers.{too_large, other_byte, all_digits}
use Rattle.fz_script.proofs.fields.value_of.Goals as goal

pub returns-in_err-checked_mul : goal.returns-in_err-checked_mul
returns-in_err-checked_mul c =
    too_large c.args.digits.now c.loop-byte.byte-index c.loop-byte.value 0 (omega arith) c.loop-byte.invariant.value (omega arith) (omega (arith, c.in_err-checked_mul.ensures)) ∙ sym c.from_residual.ensures

pub returns-in_err-digit_of : goal.returns-in_err-digit_of
returns-in_err-digit_of c =
    other_byte c.args.digits.now c.loop-byte.byte-index (omega arith) (λ digit. c.in_err-digit_of.ensures.none refl digit) ∙ sym c.from_residual-in_err-digit_of.ensures

pub returns-in_err-value : goal.returns-in_err-value
returns-in_err-value c =
    let digit = digit_value_digit (get_or c.args.digits.now c.loop-byte.byte-index 0) c.in_ok-digit_of.ensures.is.0 in
    let same = c.in_ok-digit_of.ensures.is.1 in
    too_large c.args.digits.now c.loop-byte.byte-index c.loop-byte.value c.in_ok-digit_of.field-0 (omega arith) c.loop-byte.invariant.value (omega (arith, digit, same))
    (omega (arith, c.in_err-value.ensures, c.in_ok-checked_mul.ensures)) ∙ sym c.from_residual-in_err-value.ensures

pub loop-byte-preserved : goal.loop-byte-preserved
loop-byte-preserved c =
    let digit = digit_value_digit (get_or c.args.digits.now c.loop-byte.byte-index 0) c.in_ok-digit_of.ensures.is.0 in
    let same = c.in_ok-digit_of.ensures.is.1 in
    let range = c.in_ok-digit_of.ensures.is.0 in
    let within : c.loop-byte.byte-index < length c.args.digits.now = omega arith in
    let more = digits_value_more 10 c.args.digits.now c.loop-byte.byte-index within in
    record {
      digits = digits_more 10 c.args.digits.now c.loop-byte.byte-index within c.loop-byte.invariant.digits (omega (arith, digit, same, range));
      value = let before = c.loop-byte.invariant.value in omega (arith, more, before, digit, same, c.in_ok-value.ensures, c.in_ok-checked_mul.ensures);
      fits = omega (arith, c.in_ok-value.ensures);
    }

pub returns : goal.returns
returns c =
    let whole : take c.loop-byte.byte-index c.args.digits.now ≡ c.args.digits.now = take_all c.loop-byte.byte-index c.args.digits.now (omega arith) in
    all_digits c.args.digits.now c.loop-byte.value (rw whole at c.loop-byte.invariant.digits) c.requires.some c.requires.plain (c.loop-byte.invariant.value ∙ ap (digits_value 10) whole) c.loop-byte.invariant.fits
