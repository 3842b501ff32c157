-- Where a flight goes: from a device of the network over one of its links to another device, in a plan that is in force or staged. Where the
-- plans break no rule of structure, its receiver is an end of the link. And it was sent no later than the latest event.
use Rattle.std.specs.Prelude.{◌≡◌, ℕ, zero, suc, ◌<◌, Bool, true, false, List, [], ◌∷◌, length, filter_map, find, nat_eq, Option, Some, None, option_map, refl, if◌then◌else◌}
use Rattle.std.specs.List.{cons_option}
use Rattle.std.proofs.Common.{arith, sym, subst, inl, inr}
use Rattle.sd_num.specs.Lists.{map_or, below}
use Rattle.sd_plan.specs.topo.Network.{Network, device_numbers, link_numbers}
use Rattle.sd_plan.specs.declared.Plan.{Plan}
use Rattle.sd_plan.specs.declared.End.{End}
use Rattle.sd_plan.specs.Duties.{duty_of, ends_of, follows_over}
use Rattle.sd_device.specs.Calls.{Receive, Give}
use Rattle.sd_plan.proofs.Numbered.{found_passes}
use Rattle.sd_device.specs.declared.msg.Flight.{Flight}
use Rattle.sd_sched.specs.declared.Event.{Event}
use Rattle.sd_sched.specs.declared.Event.TheVariants as event
use Rattle.sd_sched.specs.Events.{device_of}
use Rattle.sd_history.specs.World.{Setting, Seen, window, epoch_in_force, staged_epoch, in_force, staged, plan_numbered}
use Rattle.sd_history.specs.Steps.{Calls, Passes, Step, seen_of, changed, act_by, flights, flight_numbered, ends_at}
use Rattle.sd_history.specs.Accepted.{AreSteps}
use Rattle.sd_history.proofs.Among.{Among, first, later, either_side}
use Rattle.sd_history.proofs.Known.{named_is_known}
use Rattle.sd_history.proofs.flights.Sending.{WasSent, was_sent}

-- Ends

pub among_below : (n d : ℕ) → Among d (below n) → d < n
among_below zero d a = elim a [ ]
among_below (suc n) d a = elim (either_side (below n) (n ∷ []) a) [
  | inl before ↦ (let less : d < n = among_below n d before in omega arith)
  | inr last ↦ at_last d n last
]
  where
    at_last : (c m : ℕ) → Among c (m ∷ []) → c < suc m
    at_last c m first = omega arith
    at_last c m (later b) = elim b [ ]

-- an element of what f gives of a list's elements
pub record IsGiven {A B : Type 0} (f : A → Option B) (xs : List A) (y : B) : Type 0 where
  pub from : A
  pub among : Among from xs
  pub is : f from ≡ Some y

given_of : {A B : Type 0} (f : A → Option B) (xs : List A) (y : B) → Among y (filter_map f xs) → IsGiven f xs y
given_of f [] y a = elim a [ ]
given_of {A = A} {B = B} f (x ∷ xs) y a = by (f x) refl a (given_of f xs y)
  where
    at_head : (z : B) (zs : List B) (c : B) → f x ≡ Some z → Among c (z ∷ zs) → (Among c zs → IsGiven f xs c) → IsGiven f (x ∷ xs) c
    at_head z zs c is first rest = record { from = x; among = first; is = is }
    at_head z zs c is (later b) rest = let more : IsGiven f xs c = rest b in record { from = more.from; among = later more.among; is = more.is }

    by : (o : Option B) → f x ≡ o → Among y (cons_option o (filter_map f xs)) → (Among y (filter_map f xs) → IsGiven f xs y) → IsGiven f (x ∷ xs) y
    by None is b rest = let more : IsGiven f xs y = rest b in record { from = more.from; among = later more.among; is = more.is }
    by (Some z) is b rest = at_head z (filter_map f xs) y is b rest

-- an end that lies below a device in a plan
pub record IsBelow (net : Network) (plan : Plan) (d : ℕ) (e : End) : Type 0 where
  pub link : e.link < length net.links
  pub device : e.device < length net.devices
  pub follows : follows_over plan d e.link e.device ≡ true

pub ends_below : (net : Network) (plan : Plan) (d : ℕ) (e : End) → Among e (ends_of net plan d) → IsBelow net plan d e
ends_below net plan d e a = by (find (follows_over plan d given.from) (device_numbers net)) refl given.is
  where
    given : IsGiven (λ l. option_map (λ c. record { link = l; device = c }) (find (follows_over plan d l) (device_numbers net))) (link_numbers net) e
    given = given_of (λ l. option_map (λ c. record { link = l; device = c }) (find (follows_over plan d l) (device_numbers net))) (link_numbers net) e a

    by : (o : Option ℕ) → find (follows_over plan d given.from) (device_numbers net) ≡ o → option_map (λ c. record { link = given.from; device = c }) o ≡ Some e
        → IsBelow net plan d e
    by None is same = cc
    by (Some c) is same =
        let it : (c < length net.devices) × (follows_over plan d given.from c ≡ true) =
        found_passes (follows_over plan d given.from) (length net.devices) c is in
        let end_ : End = record { link = given.from; device = c } in
        let equal : end_ ≡ e = cc in
        subst (IsBelow net plan d) equal (record { link = among_below (length net.links) given.from given.among; device = it.0; follows = it.1 })

-- the ends of a device in a plan that is in force or staged, by the number of this plan
pub ends_planned : (setting : Setting) (steps : List Step) (epoch d : ℕ) (e : End) → Among e (ends_at setting steps epoch d)
    → (n : ℕ) × Among e (ends_of setting.net (plan_numbered setting n) d)
ends_planned setting steps epoch d e a = by (nat_eq epoch (epoch_in_force seen)) a
  where
    seen : List Seen
    seen = seen_of steps

    by_window : (w : Option (List Seen))
        → Among e (map_or (option_map (λ x. plan_numbered setting (staged_epoch seen)) w) [] (λ plan. ends_of setting.net plan d))
        → (n : ℕ) × Among e (ends_of setting.net (plan_numbered setting n) d)
    by_window None b = elim b [ ]
    by_window (Some w) b = (staged_epoch seen, b)

    second : (t : Bool) → Among e (map_or (if t then staged setting seen else None) [] (λ plan. ends_of setting.net plan d))
        → (n : ℕ) × Among e (ends_of setting.net (plan_numbered setting n) d)
    second true b = by_window (window seen) b
    second false b = elim b [ ]

    by : (t : Bool)
        → Among e (map_or (if t then Some (in_force setting seen) else if nat_eq epoch (staged_epoch seen) then staged setting seen else None) []
        (λ plan. ends_of setting.net plan d))
        → (n : ℕ) × Among e (ends_of setting.net (plan_numbered setting n) d)
    by true b = (epoch_in_force seen, b)
    by false b = second (nat_eq epoch (staged_epoch seen)) b

-- an accepted event names the device that it makes or calls
pub changed_named : (setting : Setting) (steps : List Step) (e : Event) (d : ℕ) → changed (act_by setting steps e) ≡ Some d → device_of e ≡ Some d
changed_named setting steps (event.Start r m c clock eps) d is = is
changed_named setting steps (event.Join r m c clock eps) d is = is
changed_named setting steps (event.Tick r m c) d is = is
changed_named setting steps (event.Recv r m c n) d is = by (flight_numbered steps n) is
  where
    by : (o : Option Flight) → changed (map_or o Passes (λ f. Calls m (Receive f.link f.message c))) ≡ Some d → Some m ≡ Some d
    by None same = cc
    by (Some f) same = same
changed_named setting steps (event.Fix r m c clock eps) d is = is
changed_named setting steps (event.Give r m) d is = by (staged setting (seen_of steps)) is
  where
    by : (o : Option Plan) → changed (map_or o Passes (λ plan. Calls m (Give (duty_of setting.net plan (staged_epoch (seen_of steps)) m)))) ≡ Some d
        → Some m ≡ Some d
    by None same = cc
    by (Some plan) same = same
changed_named setting steps (event.Commit r m c) d is = is
changed_named setting steps (event.Seal r m) d is = is
changed_named setting steps _ d is = cc

-- Flights

-- the flight is one of this network
pub record IsOfNetwork (net : Network) (f : Flight) : Type 0 where
  pub link : f.link < length net.links
  pub sender : f.sender < length net.devices
  pub receiver : f.receiver < length net.devices

-- what holds of what a step sends holds of all flights, if it holds on
each_flight : (setting : Setting) (P : List Step → Flight → Type 0)
    → ((s : Step) (earlier : List Step) (f : Flight) → AreSteps setting (s ∷ earlier) → Among f s.sent → P (s ∷ earlier) f)
    → ((s : Step) (earlier : List Step) (f : Flight) → AreSteps setting (s ∷ earlier) → P earlier f → P (s ∷ earlier) f)
    → (steps : List Step) (f : Flight) → AreSteps setting steps → Among f (flights steps) → P steps f
each_flight setting P here on [] f is a = elim a [ ]
each_flight setting P here on (s ∷ earlier) f is a = elim (either_side s.sent (flights earlier) a) [
  | inl b ↦ here s earlier f is b
  | inr b ↦ on s earlier f is (each_flight setting P here on earlier f is.0 b)
]

sent_of_network : (setting : Setting) (s : Step) (earlier : List Step) (f : Flight) → AreSteps setting (s ∷ earlier) → Among f s.sent
    → IsOfNetwork setting.net f
sent_of_network setting s earlier f is a =
    let sent : WasSent setting s earlier f = was_sent setting s earlier f is a in
    let planned = ends_planned setting earlier sent.answers.epoch sent.device sent.over.end_ sent.over.among in
    let below_ : IsBelow setting.net (plan_numbered setting planned.0) sent.device sent.over.end_ =
    ends_below setting.net (plan_numbered setting planned.0) sent.device sent.over.end_ planned.1 in
    let sender : sent.device < length setting.net.devices =
    named_is_known setting earlier s.seen.event sent.device is.1 (changed_named setting earlier s.seen.event sent.device sent.calls) in
    subst (IsOfNetwork setting.net) (sym sent.over.is) (record { link = below_.link; sender = sender; receiver = below_.device })

pub flights_of_network : (setting : Setting) (steps : List Step) (f : Flight) → AreSteps setting steps → Among f (flights steps) → IsOfNetwork setting.net f
flights_of_network setting = each_flight setting (λ steps f. IsOfNetwork setting.net f) (sent_of_network setting) (λ s earlier f is rest. rest)

-- Receivers
