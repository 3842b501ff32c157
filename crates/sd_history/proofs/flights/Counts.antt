-- How many flights there can be: an event sends over each link once at most, so there are no more than events times links.
use Rattle.std.specs.Prelude.{◌≡◌, ℕ, suc, ◌+◌, ◌*◌, ◌^◌, ◌<◌, ◌≤◌, List, [], ◌∷◌, length, filter_map, find, Option, Some, None, option_map, refl}
use Rattle.std.specs.List.{cons_option}
use Rattle.std.proofs.Common.{arith, sym, ap, subst}
use Rattle.std.proofs.Math.Nat.{mul-le-mul_left, mul-le-mul_right}
use Rattle.std.proofs.lemmas.Bool.{leb-false}
use Rattle.std.proofs.lemmas.List.{length-map}
use Rattle.sd_num.specs.Lists.{map_or}
use Rattle.sd_plan.specs.topo.Network.{Network, device_numbers, link_numbers}
use Rattle.sd_plan.specs.declared.Plan.{Plan}
use Rattle.sd_plan.specs.declared.End.{End}
use Rattle.sd_plan.specs.Duties.{ends_of, follows_over}
use Rattle.sd_plan.proofs.Numbered.{length-below}
use Rattle.sd_device.specs.declared.msg.Message.{Message}
use Rattle.sd_device.specs.declared.Effect.{Effect}
use Rattle.sd_device.specs.declared.Effect.TheVariants.{Quiet, Send}
use Rattle.sd_sched.specs.Events.{reference_of}
use Rattle.sd_history.specs.World.{Setting}
use Rattle.sd_history.specs.Steps.{Answers, Step, seen_of, changed, act_by, flight_count, flights_to, flights_by, ends_at}
use Rattle.sd_history.specs.World as world
use Rattle.sd_history.specs.Accepted.{AreSteps}
use Rattle.sd_history.proofs.Clear.{few_events}
use Rattle.sd_history.proofs.flights.Sending.{sent_is, counted}

-- as many flights as ends
pub length-flights_to : (setting : Setting) (steps : List Step) (r d : ℕ) (m : Message) (n : ℕ) (ends : List End)
    → length (flights_to setting steps r d m n ends) ≡ length ends
length-flights_to setting steps r d m n [] = refl
length-flights_to setting steps r d m n (e ∷ ends) = ap suc (length-flights_to setting steps r d m (n + 1) ends)

-- no more than there are elements
mapped_few : {A B : Type 0} (f : A → Option B) (xs : List A) → length (filter_map f xs) ≤ length xs
mapped_few f [] = omega arith
mapped_few {A = A} {B = B} f (x ∷ xs) = by (f x) (mapped_few f xs)
  where
    by : (o : Option B) → length (filter_map f xs) ≤ length xs → length (cons_option o (filter_map f xs)) ≤ length (x ∷ xs)
    by None few = omega arith
    by (Some y) few = omega arith

-- no more ends than links
pub ends_few : (net : Network) (plan : Plan) (d : ℕ) → length (ends_of net plan d) ≤ length net.links
ends_few net plan d =
    let few : length (ends_of net plan d) ≤ length (link_numbers net) =
    mapped_few (λ l. option_map (λ c. record { link = l; device = c }) (find (follows_over plan d l) (device_numbers net))) (link_numbers net) in
    let count : length (link_numbers net) ≡ length net.links = length-below (length net.links) in
    omega (arith, few, count)

planned_few : (net : Network) (d : ℕ) (o : Option Plan) → length (map_or o [] (λ plan. ends_of net plan d)) ≤ length net.links
planned_few net d None = omega arith
planned_few net d (Some plan) = ends_few net plan d

module _ (setting : Setting) (steps : List Step) (r : ℕ) where
  abbrev links : ℕ
  links = length setting.net.links

  by_effect : (d epoch : ℕ) (effect : Effect) → length (flights_by setting steps r d epoch effect) ≤ links
  by_effect d epoch Quiet = omega arith
  by_effect d epoch (Send m) =
      let count : length (flights_to setting steps r d m (flight_count steps + 1) (ends_at setting steps epoch d)) ≡ length (ends_at setting steps epoch d) =
      length-flights_to setting steps r d m (flight_count steps + 1) (ends_at setting steps epoch d) in
      let few : length (ends_at setting steps epoch d) ≤ links = planned_few setting.net d (world.current_plan setting (seen_of steps) epoch) in
      omega (arith, count, few)

  by_answers : (effect : Effect) (o : Option ℕ) (a : Option Answers)
      → length (map_or o [] (λ d. map_or a [] (λ b. flights_by setting steps r d b.epoch effect))) ≤ links
  by_answers effect None a = omega arith
  by_answers effect (Some d) None = omega arith
  by_answers effect (Some d) (Some b) = by_effect d b.epoch effect

-- an event sends no more than there are links
pub sent_few : (setting : Setting) (s : Step) (earlier : List Step) → AreSteps setting (s ∷ earlier) → length s.sent ≤ length setting.net.links
sent_few setting s earlier is =
    subst (λ fs. length fs ≤ length setting.net.links) (sym (sent_is setting s earlier is))
    (by_answers setting earlier (reference_of s.seen.event) s.told.effect (changed (act_by setting earlier s.seen.event)) s.told.answers)

pub flights_few : (setting : Setting) (steps : List Step) → AreSteps setting steps → flight_count steps ≤ length steps * length setting.net.links
flights_few setting [] is = omega arith
flights_few setting (s ∷ earlier) is =
    let here = sent_few setting s earlier is in
    let before = flights_few setting earlier is.0 in
    let all = counted s earlier in
    omega (arith, here, before, all)

-- events are limited
pub steps_few : (setting : Setting) (steps : List Step) → AreSteps setting steps → length steps ≤ 2 ^ 26
steps_few setting [] is = omega arith
steps_few setting (s ∷ earlier) is =
    let room : length (seen_of earlier) < 2 ^ 26 =
    leb-false (2 ^ 26) (length (seen_of earlier))
    (few_events setting earlier s.seen.event is.1) in
    let count : length (seen_of earlier) ≡ length earlier = length-map earlier (λ (x : Step). x.seen) in
    omega (arith, room, count)

-- so the numbers of flights are limited too
pub numbers_few : (setting : Setting) (steps : List Step) → AreSteps setting steps → length setting.net.links ≤ 2 ^ 15 → flight_count steps ≤ 2 ^ 41
numbers_few setting steps is links =
    let count = flights_few setting steps is in
    let events : length steps ≤ 2 ^ 26 = steps_few setting steps is in
    let one : length steps * length setting.net.links ≤ 2 ^ 26 * length setting.net.links = mul-le-mul_right (length setting.net.links) events in
    let two : 2 ^ 26 * length setting.net.links ≤ 2 ^ 26 * 2 ^ 15 = mul-le-mul_left (2 ^ 26) links in
    omega (arith, count, one, two)
