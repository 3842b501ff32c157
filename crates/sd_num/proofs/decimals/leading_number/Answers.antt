use Rattle.std.proofs.Common.{arith, ◌∙◌, ap, sym, ◌+◌, ◌-◌, ◌*◌, ◌<◌, ◌≡◌, ℕ, length, true, get_or}
use Rattle.sd_num.specs.Decimals.{is_digit}
use Rattle.sd_num.proofs.Digits.{digits_fit, digit_more, digit_small, leading_digits-drop, value-take, digits-take}
use Rattle.sd_num.proofs.decimals.leading_number.Goals as goal

pub overflow_mul-value : goal.overflow_mul-value
overflow_mul-value c = omega (arith, digits_fit c.loop-place.value c.loop-place.place (omega arith) c.loop-place.invariant.small)

pub overflow_add-value : goal.overflow_add-value
overflow_add-value c =
    let digit : is_digit (get_or c.args.bytes.now c.loop-place.place 0) ≡ true = sym c.is_ascii_digit.ensures.value ∙ c.if-not-is_ascii_digit.false in
    omega (
      arith,
      digits_fit c.loop-place.value c.loop-place.place (omega arith) c.loop-place.invariant.small,
      digit_small
          (get_or c.args.bytes.now c.loop-place.place 0) digit,
    )

pub loop-place-preserved : goal.loop-place-preserved
loop-place-preserved c =
    let bytes = c.args.bytes.now in
    let place = c.loop-place.place in
    let so_far = c.loop-place.invariant in
    let inside : place < length bytes = omega arith in
    let digit : is_digit (get_or bytes place 0) ≡ true = sym c.is_ascii_digit.ensures.value ∙ c.if-not-is_ascii_digit.false in
    let small : c.from.result < 10 = rw c.from.ensures (digit_small (get_or bytes place 0) digit) in
    let next : c.loop-place.value * 10 + c.from.result ≡ c.loop-place.value * 10 + (get_or bytes place 0 - 48) = omega (arith, c.from.ensures) in
    record {
      further = so_far.further ∙ leading_digits-drop bytes place inside digit;
      meaning = next ∙ ap (λ (v : ℕ). v * 10 + (get_or bytes place 0 - 48)) so_far.meaning ∙ sym (value-take bytes place inside);
      digits = digits-take bytes place inside so_far.digits digit;
      small = digit_more c.loop-place.value c.from.result place so_far.small small;
    }
