-- The device that is placed next is the lowest of those that wait.
use Rattle.std.proofs.Common.{◌≡◌, ℕ, zero, suc, ◌+◌, ◌-◌, ◌<◌, inl, inr, Bool, true, false, ◌&&◌, ◌||◌, not, cond, List, [], ◌∷◌, ◌++◌, length, find, filter, Option, Some, None, option_map, nat_eq, refl, sym, ap, ◌∙◌, subst, arith, append_assoc, append-nil}
use Rattle.std.specs.List.{list_any}
use Rattle.std.specs.Option.{is_some}
use Rattle.std.proofs.lemmas.Bool.{and_parts, false_from_ne_true, not-true, cases_lt, eqb-true, eq-eqb}
use Rattle.std.proofs.lemmas.List.Folds.{find-append, list_any-append}
use Rattle.std.proofs.lemmas.Map.Keys.{any_passes_from_place}
use Rattle.sd_num.specs.Lists.{below, has, map_or}
use Rattle.sd_num.proofs.Shared.{equal_swap}
use Rattle.sd_num.proofs.Firsts.{find_below_none}
use Rattle.sd_plan.specs.topo.Network.{Network, joins}
use Rattle.sd_planner.specs.declared.present.Neighbour.{Neighbour}
use Rattle.sd_plan.specs.declared.Absent.{Absent}
use Rattle.sd_planner.specs.Usable.{takes_part, neighbours_of}
use Rattle.sd_planner.proofs.Adjacency.{IsNeighbourOf, neighbours_are, neighbour_there, usable_ends, StandsIn}
use Rattle.sd_planner.specs.declared.placement.Placed.{Placed}
use Rattle.sd_planner.specs.Spreading.{placed_at, is_placed, below_device}
use Rattle.sd_planner.specs.Placing.{nearest, next_left, with_device, with_left}
use Rattle.sd_planner.specs.Nearing.{AreKnown, IsNearest, closer}
use Rattle.sd_planner.specs.Waits.{waits, lead_to, AreWaiting, IsLowest}
use Rattle.sd_planner.specs.declared.nearest.Near.{Near}
use Rattle.sd_planner.proofs.Elements.{found_at_place, at_any, all_at}
use Rattle.sd_planner.proofs.Walks.{joins_swap}
use Rattle.sd_planner.proofs.Finding.{nearest_more, nearest_is}

-- neighbours have a nearest one, or none
some_nearest : (placed : List Placed) (done rest : List Neighbour) (best : Option Near) → IsNearest placed done best
    → (b : Option Near) × IsNearest placed (done ++ rest) b
some_nearest placed done [] best are = (best, subst (λ neighbours. IsNearest placed neighbours best) (sym (append-nil done)) are)
some_nearest placed done (neighbour ∷ rest) best are =
    let (b, more) = some_nearest placed (done ++ neighbour ∷ []) rest (closer placed best neighbour) (nearest_more placed done neighbour best are) in
    (b, subst (λ neighbours. IsNearest placed neighbours b) (append_assoc done (neighbour ∷ []) rest) more)

-- a neighbour that leads to a device is found
led_neighbour : (net : Network) (absent : Absent) (e x : ℕ) → lead_to (neighbours_of net absent e) x ≡ true
    → (neighbour : Neighbour) × IsNeighbourOf net absent e neighbour × (neighbour.device ≡ x)
led_neighbour net absent e x leads =
    let (k, neighbour, at, passes) = at_any (λ (neighbour : Neighbour). nat_eq neighbour.device x) (neighbours_of net absent e) leads in (
      neighbour,
      all_at (IsNeighbourOf net absent e) (neighbours_of net absent e) k neighbour
          (neighbours_are net absent e) at,
      eqb-true neighbour.device x passes,
    )

-- it leads back too
back_neighbour : (net : Network) (absent : Absent) (e x : ℕ) (neighbour : Neighbour) → e < length net.devices → IsNeighbourOf net absent x neighbour
    → neighbour.device ≡ e → x < length net.devices → StandsIn (neighbours_of net absent e) (record { device = x; link = neighbour.link })
back_neighbour net absent e x neighbour within is leads inside =
    neighbour_there net absent e x neighbour.link inside is.link is.usable
    (joins_swap net neighbour.link e x ∙ subst (λ y. joins net neighbour.link x y ≡ true) leads is.joined)

-- a device has a nearest placed neighbour where a neighbour of a placed device leads to it
nearest_some : (net : Network) (absent : Absent) (placed : List Placed) (x : ℕ) → AreKnown (length net.devices) placed → x < length net.devices
    → is_some (nearest net absent placed x) ≡ list_any (λ p. lead_to (neighbours_of net absent p.device) x) placed
nearest_some net absent placed x known inside =
    let none_yet : IsNearest placed [] None = λ k d within. absurd (omega arith) in
    let (best, are) = some_nearest placed [] (neighbours_of net absent x) None none_yet in
    ap is_some (nearest_is net absent placed x best known are) ∙ by_best best are
  where
    by_best : (b : Option Near) → IsNearest placed (neighbours_of net absent x) b
        → is_some (option_map (λ near. near.placed) b) ≡ list_any (λ p. lead_to (neighbours_of net absent p.device) x) placed
    by_best None none =
        sym
        (false_from_ne_true (list_any (λ p. lead_to (neighbours_of net absent p.device) x) placed) (λ some.
        let (k, p, at, leads) = at_any (λ p. lead_to (neighbours_of net absent p.device) x) placed some in
        let within = known.within k p at in
        let (neighbour, is, here) = led_neighbour net absent p.device x leads in
        let (j, there) = back_neighbour net absent x p.device neighbour inside is here within in
        let gone : placed_at placed p.device ≡ None =
        all_at (λ (n : Neighbour). placed_at placed n.device ≡ None) (neighbours_of net absent x) j
        (record { device = p.device; link = neighbour.link }) none there in
        let found : placed_at placed p.device ≡ Some p = known.found k p at in
        absurd (cc (gone, found))))
    by_best (Some near) is =
        let (k, at, passes) = found_at_place (λ (p : Placed). nat_eq p.device near.placed.device) placed near.placed is.stands in
        let within = known.within k near.placed at in
        let (j, there, leads) =
        found_at_place (λ (n : Neighbour). nat_eq n.device near.placed.device) (neighbours_of net absent x)
        (record { device = near.placed.device; link = near.link }) is.first in
        let neighbour : IsNeighbourOf net absent x (record { device = near.placed.device; link = near.link }) =
        all_at (IsNeighbourOf net absent x) (neighbours_of net absent x) j (record { device = near.placed.device; link = near.link })
        (neighbours_are net absent x) there in
        let (i, back) =
        back_neighbour net absent near.placed.device x (record { device = near.placed.device; link = near.link }) within neighbour refl inside in
        sym
        (any_passes_from_place (λ p. lead_to (neighbours_of net absent p.device) x) placed k near.placed at
        (any_passes_from_place (λ (n : Neighbour). nat_eq n.device x) (neighbours_of net absent near.placed.device) i (record { device = x; link = near.link }) back
        (eq-eqb x x refl)))

-- what waits is a member of the network
pub waits_member : (net : Network) (absent : Absent) (placed : List Placed) (x : ℕ) → AreKnown (length net.devices) placed
    → waits (neighbours_of net absent) placed placed x ≡ true
    → (x < length net.devices) × (takes_part net absent x ≡ true) × (is_placed placed x ≡ false)
waits_member net absent placed x known waiting =
    let (new, some) = and_parts (not (is_placed placed x)) (list_any (λ p. lead_to (neighbours_of net absent p.device) x) placed) waiting in
    let (k, p, at, leads) = at_any (λ p. lead_to (neighbours_of net absent p.device) x) placed some in
    let (neighbour, is, here) = led_neighbour net absent p.device x leads in (
      subst (λ y. y < length net.devices) here is.device,
      subst (λ y. takes_part net absent y ≡ true) here
          (usable_ends net absent neighbour.link p.device neighbour.device is.usable is.joined).1,
      not-true (is_placed placed x) new,
    )

-- the test of the definition is whether it waits
test_waits : (net : Network) (absent : Absent) (placed : List Placed) (x : ℕ) → AreKnown (length net.devices) placed → x < length net.devices
    → (takes_part net absent x && (not (is_placed placed x) && is_some (nearest net absent placed x))) ≡ waits (neighbours_of net absent) placed placed x
test_waits net absent placed x known inside =
    ap (λ b. takes_part net absent x && (not (is_placed placed x) && b)) (nearest_some net absent placed x known inside)
    ∙ follows (takes_part net absent x) (waits (neighbours_of net absent) placed placed x) (λ waiting. (waits_member net absent placed x known waiting).1)
  where
    follows : (a b : Bool) → (b ≡ true → a ≡ true) → (a && b) ≡ b
    follows true b member = refl
    follows false true member = member refl
    follows false false member = refl

-- what is found among those that are kept
pub find_kept : {X : Type 0} (keep test : X → Bool) (xs : List X) → find test (filter keep xs) ≡ find (λ x. keep x && test x) xs
find_kept keep test [] = refl
find_kept keep test (x ∷ xs) = by_keep (keep x) (find_kept keep test xs)
  where
    by_keep : (b : Bool) → find test (filter keep xs) ≡ find (λ y. keep y && test y) xs
        → find test (cond b (x ∷ filter keep xs) (filter keep xs)) ≡ cond (b && test x) (Some x) (find (λ y. keep y && test y) xs)
    by_keep true rest = ap (λ o. cond (test x) (Some x) o) rest
    by_keep false rest = rest

-- the lowest number that passes
find_lowest : (test : ℕ → Bool) (n d : ℕ) → d < n → test d ≡ true → ((x : ℕ) → x < d → test x ≡ false) → find test (below n) ≡ Some d
find_lowest test zero d within passes fails = absurd (omega arith)
find_lowest test (suc n) d within passes fails =
    find-append test (below n) (n ∷ [])
    ∙ elim (cases_lt d n) [
      | inl earlier ↦ rw (find_lowest test n d earlier passes fails) refl
      | inr last ↦ (let same : n ≡ d = omega arith in rw (same, find_below_none test d fails, passes) refl)
    ]

-- the lowest of those that wait is the next
pub next_is : (net : Network) (absent : Absent) (placed : List Placed) (numbers rest : List ℕ) (d : ℕ) → AreKnown (length net.devices) placed
    → AreWaiting (neighbours_of net absent) placed placed numbers → IsLowest numbers rest d
    → next_left net absent placed ≡ Some d
next_is net absent placed numbers rest d known waiting lowest =
    let here : waits (neighbours_of net absent) placed placed d ≡ true = sym (waiting.each d) ∙ lowest.there in
    let (inside, member, new) = waits_member net absent placed d known here in
    find_kept (takes_part net absent) (λ x. not (is_placed placed x) && is_some (nearest net absent placed x)) (below (length net.devices))
    ∙ find_lowest (λ x. takes_part net absent x && (not (is_placed placed x) && is_some (nearest net absent placed x))) (length net.devices) d inside
    (test_waits net absent placed d known inside ∙ here) (λ x less.
    test_waits net absent placed x known (omega arith)
    ∙ false_from_ne_true (waits (neighbours_of net absent) placed placed x) (λ also. (let least = lowest.least x (waiting.each x ∙ also) in omega arith)))

-- where none waits nothing is left
pub none_next : (net : Network) (absent : Absent) (placed : List Placed) (numbers : List ℕ) → AreKnown (length net.devices) placed
    → AreWaiting (neighbours_of net absent) placed placed numbers → ((x : ℕ) → has numbers x ≡ false)
    → next_left net absent placed ≡ None
none_next net absent placed numbers known waiting none =
    find_kept (takes_part net absent) (λ x. not (is_placed placed x) && is_some (nearest net absent placed x)) (below (length net.devices))
    ∙ find_below_none (λ x. takes_part net absent x && (not (is_placed placed x) && is_some (nearest net absent placed x))) (length net.devices) (λ x within.
    test_waits net absent placed x known within ∙ sym (waiting.each x) ∙ none x)

-- what waits after one more was placed
pub waiting_more : (near : ℕ → List Neighbour) (placed : List Placed) (numbers rest new : List ℕ) (p : Placed) → AreWaiting near placed placed numbers
    → IsLowest numbers rest p.device
    → ((x : ℕ) → has new x ≡ (has rest x || (not (is_placed (placed ++ p ∷ []) x) && lead_to (near p.device) x)))
    → AreWaiting near (placed ++ p ∷ []) (placed ++ p ∷ []) new
waiting_more near placed numbers rest new p waiting lowest each = record {
  each = λ x.
      each x ∙ ap (λ b. b || (not (is_placed (placed ++ p ∷ []) x) && lead_to (near p.device) x))
      (lowest.rest x ∙ ap (λ b. b && not (nat_eq x p.device)) (waiting.each x))
      ∙ ap (λ b. (waits near placed placed x && not (nat_eq x p.device)) || (not b && lead_to (near p.device) x))
      (list_any-append (λ (q : Placed). nat_eq q.device x) placed (p ∷ []))
      ∙ ap (λ b. (waits near placed placed x && not b) || (not (is_placed placed x || (nat_eq p.device x || false)) && lead_to (near p.device) x))
      (equal_swap x p.device)
      ∙ by_tests (is_placed placed x) (nat_eq p.device x) (list_any (λ q. lead_to (near q.device) x) placed) (lead_to (near p.device) x)
      ∙ sym (ap (λ b. not b && list_any (λ q. lead_to (near q.device) x) (placed ++ p ∷ []))
      (list_any-append (λ (q : Placed). nat_eq q.device x) placed (p ∷ []))
      ∙ ap (λ b. not (is_placed placed x || (nat_eq p.device x || false)) && b) (list_any-append (λ q. lead_to (near q.device) x) placed (p ∷ [])));
}
  where
    by_tests : (there here some leads : Bool)
        → (((not there && some) && not here) || (not (there || (here || false)) && leads)) ≡ (not (there || (here || false)) && (some || (leads || false)))
    by_tests true here some leads = refl
    by_tests false true true leads = refl
    by_tests false true false leads = refl
    by_tests false false true leads = refl
    by_tests false false false true = refl
    by_tests false false false false = refl

-- what waits is placed
with_waiting : (net : Network) (absent : Absent) (placed : List Placed) (d : ℕ) → AreKnown (length net.devices) placed
    → waits (neighbours_of net absent) placed placed d ≡ true
    → (p : Placed) × (with_device net absent placed d ≡ placed ++ p ∷ []) × (p.device ≡ d)
with_waiting net absent placed d known waiting = by_nearest (nearest net absent placed d) refl
  where
    some : is_some (nearest net absent placed d) ≡ true
    some =
        let (inside, member, new) = waits_member net absent placed d known waiting in
        nearest_some net absent placed d known inside
        ∙ (and_parts (not (is_placed placed d)) (list_any (λ p. lead_to (neighbours_of net absent p.device) d) placed) waiting).1

    by_nearest : (o : Option Placed) → nearest net absent placed d ≡ o
        → (p : Placed) × (map_or (option_map (λ q. below_device net absent q.device q.depth d) o) placed (λ q. placed ++ q ∷ []) ≡ placed ++ p ∷ [])
        × (p.device ≡ d)
    by_nearest None none = absurd (cc (ap is_some none, some))
    by_nearest (Some q) is = (below_device net absent q.device q.depth d, refl, refl)

-- what waits after the lowest was placed
pub waiting_next : (net : Network) (absent : Absent) (placed after : List Placed) (numbers rest new : List ℕ) (d : ℕ) → AreKnown (length net.devices) placed
    → AreWaiting (neighbours_of net absent) placed placed numbers → IsLowest numbers rest d
    → after ≡ with_device net absent placed d → ((x : ℕ) → has new x ≡ (has rest x || (not (is_placed after x) && lead_to (neighbours_of net absent d) x)))
    → AreWaiting (neighbours_of net absent) after after new
waiting_next net absent placed after numbers rest new d known waiting lowest is each =
    let (p, whole, device) = with_waiting net absent placed d known (sym (waiting.each d) ∙ lowest.there) in
    let same : after ≡ placed ++ p ∷ [] = is ∙ whole in
    subst (λ list. AreWaiting (neighbours_of net absent) list list new) (sym same)
    (waiting_more (neighbours_of net absent) placed numbers rest new p waiting (subst (IsLowest numbers rest) (sym device) lowest) (λ x.
    each x ∙ ap (λ list. has rest x || (not (is_placed list x) && lead_to (neighbours_of net absent d) x)) same
    ∙ ap (λ e. has rest x || (not (is_placed (placed ++ p ∷ []) x) && lead_to (neighbours_of net absent e) x)) (sym device)))

-- Again and again

-- one device after another
left_more : (net : Network) (absent : Absent) (n : ℕ) (placed : List Placed) (d : ℕ) → next_left net absent placed ≡ Some d
    → with_left net absent (suc n) placed ≡ with_left net absent n (with_device net absent placed d)
left_more net absent n placed d is = ap (λ (o : Option ℕ). map_or o placed (λ d. with_left net absent n (with_device net absent placed d))) is

pub left_turn : (net : Network) (absent : Absent) (n i : ℕ) (placed after : List Placed) (d : ℕ) → i < n → next_left net absent placed ≡ Some d
    → after ≡ with_device net absent placed d
    → with_left net absent (n - (i + 1)) after ≡ with_left net absent (n - i) placed
left_turn net absent n i placed after d less is with_it =
    let one : n - i ≡ suc (n - (i + 1)) = omega arith in
    ap (with_left net absent (n - (i + 1))) with_it ∙ sym (left_more net absent (n - (i + 1)) placed d is) ∙ ap (λ k. with_left net absent k placed) (sym one)
