-- How many messages an event may send, by what is kept, is what the history says.
use Rattle.std.specs.Prelude.{◌≡◌, ℕ, ◌+◌, ◌<◌, ◌≤◌, true, List, [], length, nat_eq, Option, Some, None, is_some, option_map, refl, if◌then◌else◌}
use Rattle.std.proofs.Common.{arith, sym, ◌∙◌, ap, subst, inl, inr}
use Rattle.std.proofs.lemmas.Bool.{cases_lt, eq-eqb, ne_eqb, lt-ltb, le-ltb}
use Rattle.sd_num.specs.Lists.{map_or}
use Rattle.sd_plan.specs.topo.Network.{Network}
use Rattle.sd_plan.specs.declared.Plan.{Plan}
use Rattle.sd_plan.specs.declared.End.{End}
use Rattle.sd_plan.specs.Duties.{ends_of}
use Rattle.sd_sched.specs.declared.Event.{Event}
use Rattle.sd_sched.specs.declared.Event.TheVariants as event
use Rattle.sd_history.specs.World.{Setting, Seen, window, epoch_in_force, staged_epoch, in_force, staged, plan_numbered}
use Rattle.sd_history.specs.Steps.{Step, seen_of, ends_at}
use Rattle.sd_world.specs.world.Registers.{is_open}
use Rattle.sd_world.specs.membership.Plans.{IsFollowable}
use Rattle.sd_world.specs.membership.Memberships.{ends_below}
use Rattle.sd_world.proofs.membership.Queries.{staged_number_is}
use Rattle.sd_world.proofs.membership.Below.{ends_below_is, followable, none_below_unknown}
use Rattle.sd_fleet.specs.Registers.{Registers}
use Rattle.sd_fleet.specs.Room.{ends_of_both, most_sent_of, ends_in, most_sent_in}
use Rattle.sd_fleet.specs.FabricStanding.{Stands}

module _ (setting : Setting) (r : Registers) (steps : List Step) (stands : Stands r setting steps) (d : ℕ) where
  abbrev seen : List Seen
  seen = seen_of steps

  abbrev below : Option Plan → List End
  below o = map_or o [] (λ plan. ends_of setting.net plan d)

  abbrev staged_count : Option Plan → ℕ
  staged_count o = map_or o 0 (λ plan. length (ends_of setting.net plan d))

  -- the plan in force is the current one with its number, and so is the staged one
  in_force_ends : ends_at setting steps (epoch_in_force seen) d ≡ ends_of setting.net (in_force setting seen) d
  in_force_ends =
      ap (λ b. below (if b then Some (in_force setting seen) else if nat_eq (epoch_in_force seen) (staged_epoch seen) then staged setting seen else None))
      (eq-eqb (epoch_in_force seen) (epoch_in_force seen) refl)

  staged_ends : ends_at setting steps (staged_epoch seen) d ≡ below (staged setting seen)
  staged_ends =
      ap (λ b. below (if b then Some (in_force setting seen) else if nat_eq (staged_epoch seen) (staged_epoch seen) then staged setting seen else None))
      (ne_eqb (staged_epoch seen) (epoch_in_force seen) (λ same. omega (arith, same)))
      ∙ ap (λ b. below (if b then staged setting seen else None)) (eq-eqb (staged_epoch seen) (staged_epoch seen) refl)

  counted : (o : Option Plan) → length (below o) ≡ staged_count o
  counted None = refl
  counted (Some plan) = refl

  -- of a device of the network
  known : d < length setting.net.devices → ends_in r d ≡ ends_of_both setting steps d
  known within =
      let first : ends_below r.membership r.membership.world.epoch d ≡ ends_of setting.net (in_force setting seen) d =
      ends_below_is r.membership setting steps stands.membership stands.membership.sound_plans r.membership.world.epoch d within
      ∙ ap (λ n. ends_at setting steps n d) stands.membership.world.epoch ∙ in_force_ends
      in
      let second : ends_below r.membership (r.membership.world.epoch + 1) d ≡ below (staged setting seen) =
      ends_below_is r.membership setting steps stands.membership stands.membership.sound_plans (r.membership.world.epoch + 1) d within
      ∙ ap (λ n. ends_at setting steps n d) (staged_number_is r.membership setting steps stands.membership)
      ∙ staged_ends
      in
      ap (λ b. if b then length (ends_below r.membership r.membership.world.epoch d) + length (ends_below r.membership (r.membership.world.epoch + 1) d) else 0)
      (lt-ltb d (length r.net.devices) (subst (λ (net : Network). d < length net.devices) (sym stands.net) within))
      ∙ ap (λ ends. length ends + length (ends_below r.membership (r.membership.world.epoch + 1) d)) first
      ∙ ap (λ ends. length (ends_of setting.net (in_force setting seen) d) + length ends) second
      ∙ ap (λ n. length (ends_of setting.net (in_force setting seen) d) + n) (counted (staged setting seen))

  -- of a number that is no device's
  unknown : length setting.net.devices ≤ d → ends_in r d ≡ ends_of_both setting steps d
  unknown out =
      let first : ends_of setting.net (in_force setting seen) d ≡ [] =
      none_below_unknown setting.net (in_force setting seen) d
      (subst (λ n. IsFollowable setting.net (plan_numbered setting n)) stands.membership.world.epoch
      (followable r.membership setting steps stands.membership stands.membership.sound_plans r.membership.world.epoch
      stands.membership.sound.in_force)).fits
      out
      in
      let second : staged_count (staged setting seen) ≡ 0 = by (window seen) refl in
      ap (λ b. if b then length (ends_below r.membership r.membership.world.epoch d) + length (ends_below r.membership (r.membership.world.epoch + 1) d) else 0)
      (le-ltb d (length r.net.devices) (subst (λ (net : Network). length net.devices ≤ d) (sym stands.net) out))
      ∙ sym (ap (λ ends. length ends + staged_count (staged setting seen)) first ∙ ap (λ (n : ℕ). length {A = End} [] + n) second)
    where
      by : (w : Option (List Seen)) → window seen ≡ w → staged_count (option_map (λ x. plan_numbered setting (staged_epoch seen)) w) ≡ 0
      by None none = refl
      by (Some w) some =
          let open_ : is_open r.membership.world.window ≡ true = stands.membership.world.open_window ∙ ap is_some some in
          let plan : IsFollowable setting.net (plan_numbered setting (staged_epoch seen)) =
          subst (λ n. IsFollowable setting.net (plan_numbered setting n)) (staged_number_is r.membership setting steps stands.membership)
          (followable r.membership setting steps stands.membership stands.membership.sound_plans (r.membership.world.epoch + 1)
          (stands.membership.sound.staged open_))
          in
          ap length (none_below_unknown setting.net (plan_numbered setting (staged_epoch seen)) d plan.fits out)

  both_are : ends_in r d ≡ ends_of_both setting steps d
  both_are = elim (cases_lt d (length setting.net.devices)) [ inl within ↦ known within | inr out ↦ unknown out ]

-- it is the history's
pub most_sent_is : (setting : Setting) (r : Registers) (steps : List Step) (e : Event) → Stands r setting steps
    → most_sent_in r e ≡ most_sent_of setting steps e
most_sent_is setting r steps (event.Tick reference d counter) stands = both_are setting r steps stands d
most_sent_is setting r steps (event.Recv reference d counter message) stands = both_are setting r steps stands d
most_sent_is setting r steps e stands = refl
