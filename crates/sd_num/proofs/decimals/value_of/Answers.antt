use Rattle.std.proofs.Common.{arith, ◌∙◌, sym, ◌+◌, ◌*◌, ◌-◌, ◌≤◌, ◌≡◌, ◌^◌, get_or}
use Rattle.sd_num.specs.Decimals.{value, is_digit}
use Rattle.sd_num.proofs.Digits.{list_all_first, value-drop, value-drop_all, number_within, past_with_digit}
use Rattle.sd_num.proofs.decimals.value_of.Goals as goal

pub returns-in_err-checked_mul : goal.returns-in_err-checked_mul
returns-in_err-checked_mul c =
    let past : 2 ^ 64 ≤ c.loop-byte.value * 10 = omega (arith, c.in_err-checked_mul.ensures) in
    c.from_residual.ensures
    ∙ sym (past_with_digit c.args.bytes.now c.loop-byte.byte-index c.loop-byte.value
    (value c.args.bytes.now) c.loop-byte-test.true c.loop-byte.invariant.meaning (omega (arith, past)))

pub returns-in_err-value : goal.returns-in_err-value
returns-in_err-value c =
    let past : 2 ^ 64 ≤ c.loop-byte.value * 10 + (get_or c.args.bytes.now c.loop-byte.byte-index 0 - 48) =
    omega (arith, c.in_err-value.ensures, c.in_ok-checked_mul.ensures, c.from.ensures) in
    c.from_residual-in_err-value.ensures
    ∙ sym (past_with_digit c.args.bytes.now c.loop-byte.byte-index c.loop-byte.value
    (value c.args.bytes.now) c.loop-byte-test.true c.loop-byte.invariant.meaning past)

pub loop-byte-preserved : goal.loop-byte-preserved
loop-byte-preserved c =
    let next : c.in_ok-value.value ≡ c.loop-byte.value * 10 + (get_or c.args.bytes.now c.loop-byte.byte-index 0 - 48) =
    omega (arith, c.in_ok-value.ensures, c.in_ok-checked_mul.ensures, c.from.ensures) in
    record {
      meaning = rw next (c.loop-byte.invariant.meaning ∙ value-drop c.args.bytes.now c.loop-byte.byte-index c.loop-byte.value c.loop-byte-test.true);
      small = omega (arith, next, c.in_ok-value.ensures, c.in_ok-checked_mul.ensures, c.from.ensures);
      digits = (list_all_first is_digit c.args.bytes.now c.loop-byte.byte-index c.loop-byte-test.true c.loop-byte.invariant.digits).1;
    }

pub returns : goal.returns
returns c =
    let same : value c.args.bytes.now ≡ c.loop-byte.value =
    value-drop_all c.args.bytes.now c.loop-byte.byte-index c.loop-byte.value
    (value c.args.bytes.now) c.loop-byte-test.false c.loop-byte.invariant.meaning in
    rw same (sym (number_within c.loop-byte.value (omega arith)))
