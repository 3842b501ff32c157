use Rattle.std.proofs.Common.{◌≡◌, ◌∙◌, ℕ, ◌+◌, ◌-◌, ◌<◌, ◌≤◌, List, [], ◌∷◌, ◌++◌, length, take, drop, set as put, decimal, ap, sym, append_assoc, length-set, arith, rules}
use Rattle.std.proofs.lemmas.Fmt.{length-decimal-le}
use Rattle.std.proofs.lemmas.List.{drop-set, length-drop, take_all}
use Rattle.sd_io.specs.outside.Printed.{printed}
use Rattle.sd_drill_text.proofs.endings.push_number.Goals as goal

pub write_digits-start-requires : goal.write_digits-start-requires
write_digits-start-requires c = (omega (arith, length-decimal-le 20 c.args.number (omega arith) (omega arith) c.ranges.number.fits), search rules)

pub overflow_sub-bytes : goal.overflow_sub-bytes
overflow_sub-bytes c = omega (arith, length-decimal-le 20 c.args.number (omega arith) (omega arith) c.ranges.number.fits, c.write_digits-start.ensures.start)

pub overflow_sub-start : goal.overflow_sub-start
overflow_sub-start c = omega (arith, length-decimal-le 20 c.args.number (omega arith) (omega arith) c.ranges.number.fits, c.write_digits-start.ensures.start)

pub returns : goal.returns
returns c =
    let w = c.write_digits-start in
    let first : ℕ = w.result - 1 in
    let short : length (decimal c.args.number) ≤ 20 = length-decimal-le 20 c.args.number (omega arith) (omega arith) c.ranges.number.fits in
    let size : length w.new.buf ≡ 22 = omega (arith, w.auto.buf) in
    let within : first < length w.new.buf = omega (arith, size, w.ensures.start) in
    let next : first + 1 ≡ w.result = omega (arith, short, w.ensures.start) in
    let spaced = put w.new.buf first 32 in
    let ending : drop first spaced ≡ 32 ∷ decimal c.args.number ++ 10 ∷ [] =
    drop-set w.new.buf first 32 within ∙ ap (λ (n : ℕ). 32 ∷ drop n w.new.buf) next ∙ ap (λ (t : List ℕ). 32 ∷ t) w.ensures.written in
    let all : take (22 - first) (drop first spaced) ≡ drop first spaced =
    take_all (22 - first) (drop first spaced) (omega (arith, size, length-set w.new.buf first 32, length-drop first spaced)) in
    c.push.ensures ∙ ap (λ (t : List ℕ). printed c.args.text.now ++ t) (all ∙ ending)
    ∙ sym (append_assoc (printed c.args.text.now) (32 ∷ decimal c.args.number) (10 ∷ []))
