use Rattle.std.proofs.Common.{◌≡◌, ◌+◌, ◌%◌, ◌^◌, ◌∙◌, ℕ, sym, ap, arith, take_all}
use Rattle.std.specs.Str.Parse.{digits_value}
use Rattle.sd_sched.proofs.numbers.joined.Goals as goal

wrapped : (x y : ℕ) → (x % 2 ^ 64 + y) % 2 ^ 64 ≡ (x + y) % 2 ^ 64
wrapped x y = omega arith

pub returns-clause-number : goal.returns-clause-number
returns-clause-number c bytes eight is =
    let first : c.number_in.result ≡ digits_value 10 bytes =
    sym (c.number_in.ensures bytes eight is).1 ∙ ap (digits_value 10) (take_all 8 bytes (omega (arith, eight.0))) in
    rw (first, c.ten_to.ensures) (wrapped _ c.args.more.number)
