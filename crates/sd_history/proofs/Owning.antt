-- In every chronicle each device has what is its own, whatever clocks, oscillators and links do.
use Rattle.std.specs.Prelude.{◌≡◌, ℕ, Bool, true, false, List, [], ◌∷◌, nat_eq, Option, Some, None, option_map, refl, if◌then◌else◌}
use Rattle.std.proofs.Common.{subst}
use Rattle.std.proofs.lemmas.Bool.{eqb-true}
use Rattle.sd_num.specs.Lists.{map_or}
use Rattle.sd_plan.specs.topo.Network.{Network}
use Rattle.sd_plan.specs.declared.Plan.{Plan}
use Rattle.sd_plan.specs.Duties.{duty_of}
use Rattle.sd_device.specs.declared.msg.Flight.{Flight}
use Rattle.sd_device.specs.Calls as calls
use Rattle.sd_device.specs.Calls.{Making, Call, Past}
use Rattle.sd_device.specs.Words.{after}
use Rattle.sd_sched.specs.declared.Event.{Event}
use Rattle.sd_sched.specs.declared.Event.TheVariants as event
use Rattle.sd_history.specs.World.{Setting, in_force, epoch_in_force, staged, staged_epoch}
use Rattle.sd_history.specs.Steps.{Passes, Calls, Step, seen_of, flight_numbered, act_by}
use Rattle.sd_history.specs.Chronicle.{new_past, past_in, past_after, chronicle}
use Rattle.sd_history.proofs.Given.{some_is}
use Rattle.sd_history.proofs.Owned.{OwnPast, OwnCall, own_duty, own_after}
use Rattle.sd_history.proofs.Contained.{own_start, own_join}

-- what each device has is its own
abbrev AreOwn : Network → (ℕ → Option Past) → Type 0
AreOwn net pasts = (d : ℕ) (past : Past) → pasts d ≡ Some past → OwnPast net d past

module _ (net : Network) (pasts : ℕ → Option Past) (own : AreOwn net pasts) where
  made : (e : ℕ) (making : Making) → OwnPast net e (new_past making) → (d : ℕ) (past : Past) (b : Bool) → nat_eq e d ≡ b
      → (if b then Some (new_past making) else pasts d) ≡ Some past → OwnPast net d past
  made e making first d past true same is = subst (λ x. OwnPast net x past) (eqb-true e d same) (subst (OwnPast net e) (some_is is) first)
  made e making first d past false same is = own d past is

  called_at : (d : ℕ) (call : Call) → OwnCall net d call → (past : Past) (o : Option Past) → pasts d ≡ o
      → option_map (λ x. after x call) o ≡ Some past → OwnPast net d past
  called_at d call gives past None is same = cc
  called_at d call gives past (Some old) is same = subst (OwnPast net d) (some_is same) (own_after net d old call (own d old is) gives)

  called : (e : ℕ) (call : Call) → OwnCall net e call → (d : ℕ) (past : Past) (b : Bool) → nat_eq e d ≡ b
      → (if b then option_map (λ x. after x call) (pasts d) else pasts d) ≡ Some past → OwnPast net d past
  called e call gives d past true same is = called_at d call (subst (λ x. OwnCall net x call) (eqb-true e d same) gives) past (pasts d) refl is
  called e call gives d past false same is = own d past is

module _ (setting : Setting) (steps : List Step) (own : AreOwn setting.net (past_in steps)) where
  given : (m : ℕ) (o : Option Plan) (d : ℕ) (past : Past)
      → past_after (map_or o Passes (λ plan. Calls m (calls.Give (duty_of setting.net plan (staged_epoch (seen_of steps)) m)))) d (past_in steps d) ≡ Some past
      → OwnPast setting.net d past
  given m None d past is = own d past is
  given m (Some plan) d past is =
      called setting.net (past_in steps) own m (calls.Give (duty_of setting.net plan (staged_epoch (seen_of steps)) m))
      (own_duty setting.net plan (staged_epoch (seen_of steps)) m) d past (nat_eq m d) refl is

  received : (m c : ℕ) (o : Option Flight) (d : ℕ) (past : Past)
      → past_after (map_or o Passes (λ f. Calls m (calls.Receive f.link f.message c))) d (past_in steps d) ≡ Some past → OwnPast setting.net d past
  received m c None d past is = own d past is
  received m c (Some f) d past is =
      called setting.net (past_in steps) own m (calls.Receive f.link f.message c) tt d past (nat_eq m d) refl is

  -- an event leaves it so
  own_on : (e : Event) (d : ℕ) (past : Past) → past_after (act_by setting steps e) d (past_in steps d) ≡ Some past → OwnPast setting.net d past
  own_on (event.Start r m c clock eps) d past is =
      made setting.net (past_in steps) own m
      (calls.Started (duty_of setting.net (in_force setting (seen_of steps)) (epoch_in_force (seen_of steps)) m) c clock eps)
      (own_start setting (in_force setting (seen_of steps)) (epoch_in_force (seen_of steps)) m c clock eps) d past (nat_eq m d) refl is
  own_on (event.Join r m c clock eps) d past is =
      made setting.net (past_in steps) own m _ (own_join setting m c clock eps) d past (nat_eq m d) refl is
  own_on (event.Tick r m c) d past is = called setting.net (past_in steps) own m (calls.Tick c) tt d past (nat_eq m d) refl is
  own_on (event.Recv r m c n) d past is = received m c (flight_numbered steps n) d past is
  own_on (event.Fix r m c clock eps) d past is = called setting.net (past_in steps) own m (calls.Fix c clock eps) tt d past (nat_eq m d) refl is
  own_on (event.Give r m) d past is = given m (staged setting (seen_of steps)) d past is
  own_on (event.Commit r m c) d past is = called setting.net (past_in steps) own m (calls.Commit c) tt d past (nat_eq m d) refl is
  own_on (event.Seal r m) d past is = called setting.net (past_in steps) own m calls.Seal tt d past (nat_eq m d) refl is
  own_on _ d past is = own d past is

pub own_pasts : (setting : Setting) (history : List Event) (d : ℕ) (past : Past) → past_in (chronicle setting history) d ≡ Some past
    → OwnPast setting.net d past
own_pasts setting [] d past is = cc
own_pasts setting (e ∷ earlier) d past is = own_on setting (chronicle setting earlier) (own_pasts setting earlier) e d past is
