use Rattle.std.proofs.Common.{◌≡◌, Bool, true, false, nat_eq, Result, Ok, Err, IsErrAnd, IfErr, sym, ◌∙◌, subst}
use Rattle.std.proofs.lemmas.Bool.{eqb-true, and_parts}
use Rattle.sd_resume.specs.Numbers.{shift_of}
use Rattle.sd_resume.specs.declared.shift.Shift.{Shift}
use Rattle.sd_resume.specs.declared.differences.Difference.{Difference}
use Rattle.sd_resume.specs.Fleets.{DeviceFleet, devices_of, links_of}
use Rattle.sd_resume.specs.Differences.{Differs, OfRuns}
use Rattle.sd_resume.proofs.Opening.{opens, differ_too, messages_differ_too, as_large}
use Rattle.sd_resume.proofs.comparing.agrees.Goals as goal

-- what an answer that names a difference says
abbrev Answers : Shift → (first second : DeviceFleet) → Difference → Type 0
Answers shift first second difference =
    OfRuns (shift_of shift) first second (λ net front plans one other. Differs (shift_of shift) one other difference)

never : (b : Bool) → b ≡ true → b ≡ false → ⊥
never b is is' = cc

pub returns-then-not-are_as_large-clause-differs : goal.returns-then-not-are_as_large-clause-differs
returns-then-not-are_as_large-clause-differs c =
    λ net front plans one other behind of_first of_second.
    never c.are_as_large.result
    (c.are_as_large.ensures ∙ as_large (shift_of c.args.shift.now) c.args.first.now c.args.second.now net front plans one other of_first of_second)
    c.if-not-are_as_large.true

pub compare_fleets-requires-clause-devices : goal.compare_fleets-requires-clause-devices
compare_fleets-requires-clause-devices c =
    eqb-true (devices_of c.args.first.now) (devices_of c.args.second.now)
    (and_parts (nat_eq (devices_of c.args.first.now) (devices_of c.args.second.now)) (nat_eq (links_of c.args.first.now) (links_of c.args.second.now))
    (sym c.are_as_large.ensures ∙ c.if-not-are_as_large.false)).0

pub compare_fleets-requires-clause-links : goal.compare_fleets-requires-clause-links
compare_fleets-requires-clause-links c =
    eqb-true (links_of c.args.first.now) (links_of c.args.second.now)
    (and_parts (nat_eq (devices_of c.args.first.now) (devices_of c.args.second.now)) (nat_eq (links_of c.args.first.now) (links_of c.args.second.now))
    (sym c.are_as_large.ensures ∙ c.if-not-are_as_large.false)).1

-- what holds of the difference that is handed on holds of what is answered
on_err : (P : Difference → Type 0) (result : Result (Unit {0}) Difference) (difference : Difference) → IsErrAnd result (λ other. other ≡ difference)
    → P difference → IfErr result P
on_err P (Ok done) difference same holds = tt
on_err P (Err other) difference same holds = subst P (sym same) holds

pub returns-in_err-compare_fleets-clause-differs : goal.returns-in_err-compare_fleets-clause-differs
returns-in_err-compare_fleets-clause-differs c =
    on_err (Answers c.args.shift.now c.args.first.now c.args.second.now) c.from_residual.result c.in_err-compare_fleets.field-0.0 c.from_residual.ensures.1
    (λ net front plans one other behind of_first of_second.
    differ_too (shift_of c.args.shift.now) c.args.first.now c.args.second.now net front plans one other of_first of_second
    c.in_err-compare_fleets.field-0.0 c.in_err-compare_fleets.ensures.differ)

pub returns-in_err-compare_messages-clause-differs : goal.returns-in_err-compare_messages-clause-differs
returns-in_err-compare_messages-clause-differs c =
    on_err (Answers c.args.shift.now c.args.first.now c.args.second.now) c.from_residual-in_err-compare_messages.result
    c.in_err-compare_messages.field-0.0 c.from_residual-in_err-compare_messages.ensures.1
    (λ net front plans one other behind of_first of_second.
    messages_differ_too (shift_of c.args.shift.now) c.args.first.now c.args.second.now net front plans one other of_first of_second
    c.in_err-compare_messages.field-0.0 c.in_err-compare_messages.ensures.differ)

pub returns-clause-opens : goal.returns-clause-opens
returns-clause-opens c =
    λ net front plans one other behind of_first of_second.
    opens (shift_of c.args.shift.now) c.args.first.now c.args.second.now net front plans one other of_first of_second
    c.in_ok-compare_fleets.ensures.agree behind c.in_ok-compare_messages.ensures.agree
