-- Why an answer that names a fault excludes the call.
use Rattle.std.proofs.Common.{◌≡◌, ℕ, Some, sym, ◌∙◌, subst, inl, inr, arith}
use Rattle.sd_plan.specs.declared.Duty.{Duty}
use Rattle.sd_device.specs.Calls.{Started}
use Rattle.sd_device_c.specs.declared.plain.PlainDevice.{PlainDevice}
use Rattle.sd_device_c.specs.declared.plain.PlainDuty.{PlainDuty}
use Rattle.sd_device_c.specs.declared.faults.Fault.{Fault}
use Rattle.sd_device_c.specs.declared.faults.Fault.TheVariants.{NoDevice, NoDuty, RatesTooGreat, CounterFell, ClockTooGreat, EstimateTooGreat, StampTooGreat, MessageTooGreat, NotRoot, WrongSize, NotKept, TooLate}
use Rattle.sd_device_c.specs.Plain.{duty_from}
use Rattle.sd_device_c.specs.Faults.{code_of}
use Rattle.sd_device_c.specs.Owed.{OwesToMake}
use Rattle.sd_device_c.specs.Answers.{IsAnswerFor, IsMade, MayStart, HasStartFault, MayGive, HasGiveFault}

pub code_names : (fault : Fault) → code_of fault ≡ 0 → ⊥
code_names NoDevice none = omega (arith, none)
code_names NoDuty none = omega (arith, none)
code_names RatesTooGreat none = omega (arith, none)
code_names CounterFell none = omega (arith, none)
code_names ClockTooGreat none = omega (arith, none)
code_names EstimateTooGreat none = omega (arith, none)
code_names StampTooGreat none = omega (arith, none)
code_names MessageTooGreat none = omega (arith, none)
code_names NotRoot none = omega (arith, none)
code_names WrongSize none = omega (arith, none)
code_names NotKept none = omega (arith, none)
code_names TooLate none = omega (arith, none)

pub answers_fault : (May : Type 0) (Has : Fault → Type 0) (answer : ℕ) (fault : Fault) → answer ≡ code_of fault → Has fault
    → (May → ⊥) → IsAnswerFor answer May Has
answers_fault May Has answer fault code has may_not =
    record {
      done = (λ none. absurd (code_names fault (sym code ∙ none)), λ may. absurd (may_not may));
      refused = λ other. (fault, code, has);
    }

pub duty_same : (a b : Duty) → Some a ≡ Some b → a ≡ b
duty_same a b same = cc

pub start_not : (plain : PlainDuty) (counter clock eps : ℕ) (fault : Fault) → HasStartFault plain counter clock eps fault
    → MayStart plain counter clock eps → ⊥
start_not plain counter clock eps fault (inl none) may = none.1 may.0 may.1 (may.2 NoDuty)
start_not plain counter clock eps fault (inr fails) may =
    let same : may.0 ≡ fails.0 = duty_same may.0 fails.0 (sym may.1 ∙ fails.1) in
    fails.2 (subst (λ (x : Duty). OwesToMake fault (Started x counter clock eps)) same (may.2 fault))

pub give_not : (device : PlainDevice) (plain : PlainDuty) (fault : Fault) → HasGiveFault device plain fault → MayGive device plain → ⊥
give_not device plain fault (inl none) may = none.1 (may.2.0, may.2.1)
give_not device plain fault (inr none) may = none.1 may.0 may.1 (may.2.2 NoDuty)

-- the same start, whose clock and uncertainty are read from other numbers
pub start_answer : (plain : PlainDuty) (counter clock eps read_clock read_eps answer : ℕ) (fault : Fault) → read_clock ≡ clock → read_eps ≡ eps
    → answer ≡ code_of fault → HasStartFault plain counter read_clock read_eps fault
    → IsAnswerFor answer (MayStart plain counter clock eps) (HasStartFault plain counter clock eps)
start_answer plain counter clock eps read_clock read_eps answer fault a b code h =
    subst (λ (x : ℕ). IsAnswerFor answer (MayStart plain counter x eps) (HasStartFault plain counter x eps)) a
    (subst (λ (y : ℕ). IsAnswerFor answer (MayStart plain counter read_clock y) (HasStartFault plain counter read_clock y)) b
    (answers_fault (MayStart plain counter read_clock read_eps) (HasStartFault plain counter read_clock read_eps) answer fault code h
    (start_not plain counter read_clock read_eps fault h)))

pub start_made : (plain : PlainDuty) (counter clock eps read_clock read_eps : ℕ) (new : PlainDevice) → read_clock ≡ clock → read_eps ≡ eps
    → ((first : Duty) → duty_from plain ≡ Some first → IsMade (Started first counter read_clock read_eps) new)
    → (first : Duty) → duty_from plain ≡ Some first → IsMade (Started first counter clock eps) new
start_made plain counter clock eps read_clock read_eps new a b h first is =
    subst (λ (x : ℕ). IsMade (Started first counter x eps) new) a (subst (λ (y : ℕ). IsMade (Started first counter read_clock y) new) b (h first is))
