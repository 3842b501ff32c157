-- A fault of the fleet is that of the history.
use Rattle.std.specs.Prelude.{◌≡◌, ◌≢◌, Bool, true, false, not, List, [], ◌∷◌, Option, Some, None, IfSome, Ok, Err, Result, find, option_map}
use Rattle.std.specs.List.{list_all}
use Rattle.std.specs.Result.{IsErrAnd}
use Rattle.std.proofs.Common.{inl, inr, refl, sym, ap, subst, ◌∙◌}
use Rattle.sd_sched.specs.declared.Event.{Event}
use Rattle.sd_history.specs.declared.ApplyFault.{ApplyFault}
use Rattle.sd_history.specs.declared.ApplyFault.TheVariants as fleet
use Rattle.sd_history.specs.World.{Setting}
use Rattle.sd_history.specs.Steps.{Step}
use Rattle.sd_history.specs.Refusals.{refusal, causes}
use Rattle.sd_fleet.specs.Standing as fleets
use Rattle.sd_replay.specs.declared.faults.ReplayFault.{ReplayFault}
use Rattle.sd_replay.specs.declared.faults.ReplayFault.TheVariants.{Apply}
use Rattle.sd_replay.specs.FleetFaults.{of_fleet}
use Rattle.sd_replay.specs.Replaying.{IsFault}

-- out of memory is no cause
abbrev is_memory : ApplyFault → Bool
is_memory fleet.Memory = true
is_memory fault = false

among_others : (all : List (ApplyFault × Bool)) → list_all (λ cause. not (is_memory cause.0)) all ≡ true
    → option_map (λ cause. cause.0) (find (λ cause. cause.1) all) ≢ Some fleet.Memory
among_others [] others is = cc is
among_others ((fleet.Memory, b) ∷ rest) others is = cc others
among_others ((fault, true) ∷ rest) others is = cc is
among_others ((fault, false) ∷ rest) others is = among_others rest others is

never_memory : (setting : Setting) (steps : List Step) (e : Event) → refusal setting steps e ≢ Some fleet.Memory
never_memory setting steps e = among_others (causes setting steps e) refl

of_other : (fault : ApplyFault) → fault ≢ fleet.Memory → of_fleet fault ≡ Apply fault
of_other fleet.Memory other = absurd (other refl)
of_other fault other = refl

of_cause : (setting : Setting) (steps : List Step) (e : Event) (fault : ApplyFault) → refusal setting steps e ≡ Some fault → of_fleet fault ≡ Apply fault
of_cause setting steps e fault is = of_other fault (λ memory. never_memory setting steps e (is ∙ ap Some memory))

-- a call whose error is told
pub told_as : {A E : Type 0} (r : Result A E) (x : E) → IsErrAnd r (λ e. e ≡ x) → r ≡ Err x
told_as (Ok a) x is = absurd is
told_as (Err e) x is = ap Err is

-- the fault of the fleet, told by the replay, is that of the history
pub told_of_fleet : (setting : Setting) (steps : List Step) (e : Event) (fault : ApplyFault) → fleets.IsFault fault setting steps e
    → IsFault (of_fleet fault) setting steps e
told_of_fleet setting steps e fault (inl is) = subst (λ f. IsFault f setting steps e) (sym (of_cause setting steps e fault is)) is
told_of_fleet setting steps e fault (inr short) = subst (λ f. IsFault (of_fleet f) setting steps e) (sym short.0) (short.1, search)

-- where the history refuses the event, it is refused for that cause
pub told_cause : {A : Type 0} (setting : Setting) (steps : List Step) (e : Event) (fault : ApplyFault) (r : Result A ReplayFault) → r ≡ Err (of_fleet fault)
    → fleets.IsFault fault setting steps e
    → IfSome (refusal setting steps e) (λ cause. r ≡ Err (Apply cause))
told_cause setting steps e fault r told is = by (refusal setting steps e) refl is
  where
    by : (o : Option ApplyFault) → refusal setting steps e ≡ o → fleets.IsFault fault setting steps e → IfSome o (λ cause. r ≡ Err (Apply cause))
    by None none is = tt
    by (Some cause) same (inl is) = told ∙ ap Err (of_cause setting steps e fault is ∙ ap Apply (cc (same, is)))
    by (Some cause) same (inr short) = cc (same, short.1)

-- an event that the history does not refuse is not refused for a cause
pub unrefused : {A : Type 0} (r : Result A ReplayFault) (setting : Setting) (steps : List Step) (e : Event) → refusal setting steps e ≡ None
    → IfSome (refusal setting steps e) (λ cause. r ≡ Err (Apply cause))
unrefused r setting steps e none = subst (λ (o : Option ApplyFault). IfSome o (λ cause. r ≡ Err (Apply cause))) (sym none) tt
