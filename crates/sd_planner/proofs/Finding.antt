-- The nearest placed neighbour is the one that a walk over the neighbours finds.
use Rattle.std.proofs.Common.{◌≡◌, ℕ, ◌+◌, ◌<◌, Bool, true, false, ◌&&◌, ◌||◌, not, List, [], ◌∷◌, ◌++◌, length, find, take, get_or, All, Option, Some, None, option_map, if◌then◌else◌, IfSome, IsTrue, nat_eq, nat_le, nat_lt, refl, sym, ap, ◌∙◌, subst, arith}
use Rattle.std.specs.List.{slice_get, list_all}
use Rattle.std.specs.Option.{is_some}
use Rattle.std.proofs.lemmas.Bool.Decides.{nat_tests}
use Rattle.std.proofs.lemmas.Bool.{and_parts, false_from_ne_true, eqb-true, eq-eqb}
use Rattle.std.proofs.lemmas.List.Folds.{find-append}
use Rattle.std.proofs.lemmas.Option.{same_Some}
use Rattle.std.proofs.lemmas.List.{take_more}
use Rattle.std.proofs.lemmas.List.Elements.{All-push}
use Rattle.sd_num.specs.Lists.{map_or}
use Rattle.sd_plan.specs.topo.Network.{Network}
use Rattle.sd_plan.specs.declared.Hop.{Hop}
use Rattle.sd_planner.specs.declared.present.Neighbour.{Neighbour}
use Rattle.sd_plan.specs.declared.Absent.{Absent}
use Rattle.sd_planner.specs.Usable.{are_neighbours, link_between, neighbours_of}
use Rattle.sd_planner.proofs.Adjacency.{first_neighbour}
use Rattle.sd_planner.specs.declared.placement.Placed.{Placed}
use Rattle.sd_planner.specs.Spreading.{placed_at, below_device}
use Rattle.sd_planner.specs.Placing.{no_later, nearest, below_nearest}
use Rattle.sd_planner.specs.Nearing.{AreKnown, better, closer, IsNear, IsNearest}
use Rattle.sd_planner.specs.declared.nearest.Near.{Near}
use Rattle.sd_planner.proofs.Elements.{all_follows, found_at_place, found_all, none_all, none_each, all_pass, pass_each, find_alone}

-- The order by depth and number

later_itself : (a b : ℕ) → (nat_lt a a || (nat_eq a a && nat_le b b)) ≡ true
later_itself a b = grind (arith, nat_tests)

later_total : (a b c d : ℕ) → (nat_lt a c || (nat_eq a c && nat_le b d)) ≡ false → (nat_lt c a || (nat_eq c a && nat_le d b)) ≡ true
later_total a b c d not_later = grind (arith, nat_tests)

later_far : (a b c d e f : ℕ) → (nat_lt a c || (nat_eq a c && nat_le b d)) ≡ true → (nat_lt c e || (nat_eq c e && nat_le d f)) ≡ true
    → (nat_lt a e || (nat_eq a e && nat_le b f)) ≡ true
later_far a b c d e f first second = grind (arith, nat_tests)

later_same : (a b c d : ℕ) → (nat_lt a c || (nat_eq a c && nat_le b d)) ≡ true → (nat_lt c a || (nat_eq c a && nat_le d b)) ≡ true → b ≡ d
later_same a b c d first second = grind (arith, nat_tests)

-- One more neighbour

abbrev near_of : Placed → ℕ → Near
near_of p link = record { placed = p; link = link }

-- what a look-up finds has the number
found_number : (placed : List Placed) (d : ℕ) (p : Placed) → placed_at placed d ≡ Some p → p.device ≡ d
found_number placed d p found = let (k, at, passes) = found_at_place (λ (q : Placed). nat_eq q.device d) placed p found in eqb-true p.device d passes

-- the first neighbour to a device, after neighbours that do not lead to it
first_here : (neighbours : List Neighbour) (neighbour : Neighbour) (d : ℕ) → find (λ (n : Neighbour). nat_eq n.device d) neighbours ≡ None
    → neighbour.device ≡ d
    → find (λ (n : Neighbour). nat_eq n.device d) (neighbours ++ neighbour ∷ []) ≡ Some (record { device = d; link = neighbour.link })
first_here neighbours neighbour d none here =
    find-append (λ (n : Neighbour). nat_eq n.device d) neighbours (neighbour ∷ [])
    ∙ rw (none, eq-eqb neighbour.device d here) (subst (λ x. Some neighbour ≡ Some (record { device = x; link = neighbour.link })) here refl)

-- the first one stays the first
first_stays : (neighbours : List Neighbour) (neighbour : Neighbour) (d : ℕ) (found : Neighbour)
    → find (λ (n : Neighbour). nat_eq n.device d) neighbours ≡ Some found
    → find (λ (n : Neighbour). nat_eq n.device d) (neighbours ++ neighbour ∷ []) ≡ Some found
first_stays neighbours neighbour d found first = find-append (λ (n : Neighbour). nat_eq n.device d) neighbours (neighbour ∷ []) ∙ rw first refl

-- the least so far
abbrev IsUpTo : List Placed → Placed → Neighbour → Type 0
IsUpTo placed p neighbour = IfSome (placed_at placed neighbour.device) (λ q. IsTrue (no_later p q))

-- a neighbour to an earlier placed device is new
no_earlier : (placed : List Placed) (p q : Placed) (neighbours : List Neighbour) → All (IsUpTo placed p) neighbours → placed_at placed q.device ≡ Some q
    → no_later p q ≡ false → find (λ (n : Neighbour). nat_eq n.device q.device) neighbours ≡ None
no_earlier placed p q neighbours least stands earlier =
    none_all (IsUpTo placed p) (λ (n : Neighbour). nat_eq n.device q.device) neighbours (λ neighbour up.
    false_from_ne_true (nat_eq neighbour.device q.device) (λ leads.
    let late : IsTrue (no_later p q) =
    subst (λ (o : Option Placed). IfSome o (λ r. IsTrue (no_later p r))) (ap (placed_at placed) (eqb-true neighbour.device q.device leads) ∙ stands) up in
    absurd (cc (earlier, late)))) least

-- and so is the first one to a placed device
none_before : (placed : List Placed) (q : Placed) (neighbours : List Neighbour) → All (λ (n : Neighbour). placed_at placed n.device ≡ None) neighbours
    → placed_at placed q.device ≡ Some q → find (λ (n : Neighbour). nat_eq n.device q.device) neighbours ≡ None
none_before placed q neighbours none stands =
    none_all (λ (n : Neighbour). placed_at placed n.device ≡ None) (λ (n : Neighbour). nat_eq n.device q.device) neighbours (λ neighbour gone.
    false_from_ne_true (nat_eq neighbour.device q.device) (λ leads.
    let same : placed_at placed neighbour.device ≡ Some q = ap (placed_at placed) (eqb-true neighbour.device q.device leads) ∙ stands in
    absurd (cc (gone, same)))) none

-- the best after one more neighbour
pub nearest_more : (placed : List Placed) (neighbours : List Neighbour) (neighbour : Neighbour) (best : Option Near) → IsNearest placed neighbours best
    → IsNearest placed (neighbours ++ neighbour ∷ []) (closer placed best neighbour)
nearest_more placed neighbours neighbour best are = by_look (placed_at placed neighbour.device) refl
  where
    up_to : (p : Placed) (o : Option Placed) → placed_at placed neighbour.device ≡ o → IfSome o (λ q. IsTrue (no_later p q)) → IsUpTo placed p neighbour
    up_to p o is up = subst (λ (r : Option Placed). IfSome r (λ q. IsTrue (no_later p q))) (sym is) up

    by_best : (q : Placed) → placed_at placed neighbour.device ≡ Some q → placed_at placed q.device ≡ Some q → q.device ≡ neighbour.device → (b : Option Near)
        → IsNearest placed neighbours b → IsNear placed (neighbours ++ neighbour ∷ []) (better b (near_of q neighbour.link))
    by_best q is stands same None none = record {
      first = first_here neighbours neighbour q.device (none_before placed q neighbours none stands) (sym same);
      stands = stands;
      least =
          All-push (IsUpTo placed q) neighbours neighbour
          (all_follows (λ (n : Neighbour). placed_at placed n.device ≡ None) (IsUpTo placed q) neighbours
          (λ n gone. subst (λ (r : Option Placed). IfSome r (λ p. IsTrue (no_later q p))) (sym gone) tt) none)
          (up_to q (Some q) is (later_itself q.depth q.device));
    }
    by_best q is stands same (Some near) known = by_test (no_later near.placed q) refl
      where
        by_test : (t : Bool) → no_later near.placed q ≡ t → IsNear placed (neighbours ++ neighbour ∷ []) (if t then near else near_of q neighbour.link)
        by_test true late = record {
          first = first_stays neighbours neighbour near.placed.device (record { device = near.placed.device; link = near.link }) known.first;
          stands = known.stands;
          least = All-push (IsUpTo placed near.placed) neighbours neighbour known.least (up_to near.placed (Some q) is late);
        }
        by_test false early = record {
          first = first_here neighbours neighbour q.device (no_earlier placed near.placed q neighbours known.least stands early) (sym same);
          stands = stands;
          least =
              All-push (IsUpTo placed q) neighbours neighbour
              (all_follows (IsUpTo placed near.placed) (IsUpTo placed q) neighbours (λ n up. further (placed_at placed n.device) up) known.least)
              (up_to q (Some q) is (later_itself q.depth q.device));
        }
          where
            further : (o : Option Placed) → IfSome o (λ r. IsTrue (no_later near.placed r)) → IfSome o (λ r. IsTrue (no_later q r))
            further None up = tt
            further (Some r) up =
                later_far q.depth q.device near.placed.depth near.placed.device r.depth r.device
                (later_total near.placed.depth near.placed.device q.depth q.device early) up

    by_kept : (b : Option Near) → placed_at placed neighbour.device ≡ None → IsNearest placed neighbours b → IsNearest placed (neighbours ++ neighbour ∷ []) b
    by_kept None is none = All-push (λ (n : Neighbour). placed_at placed n.device ≡ None) neighbours neighbour none is
    by_kept (Some near) is known = record {
      first = first_stays neighbours neighbour near.placed.device (record { device = near.placed.device; link = near.link }) known.first;
      stands = known.stands;
      least = All-push (IsUpTo placed near.placed) neighbours neighbour known.least (up_to near.placed None is tt);
    }

    by_look : (o : Option Placed) → placed_at placed neighbour.device ≡ o
        → IsNearest placed (neighbours ++ neighbour ∷ []) (map_or o best (λ p. Some (better best (near_of p neighbour.link))))
    by_look None is = by_kept best is are
    by_look (Some q) is =
        let same : q.device ≡ neighbour.device = found_number placed neighbour.device q is in
        by_best q is (ap (placed_at placed) same ∙ is) same best are

-- a turn over the neighbours
pub nearest_turn : (placed : List Placed) (neighbours : List Neighbour) (i : ℕ) (d : Neighbour) (best result : Option Near) → i < length neighbours
    → IsNearest placed (take i neighbours) best → result ≡ closer placed best (get_or neighbours i d)
    → IsNearest placed (take (i + 1) neighbours) result
nearest_turn placed neighbours i d best result within are is =
    subst (λ list. IsNearest placed list result) (sym (take_more neighbours i d within))
    (subst (λ (b : Option Near). IsNearest placed (take i neighbours ++ get_or neighbours i d ∷ []) b) (sym is)
    (nearest_more placed (take i neighbours) (get_or neighbours i d) best are))

-- The definition

-- the device as it is placed below
abbrev pub below_near : ℕ → Near → Placed
below_near d near = record { device = d; depth = near.placed.depth + 1; hop = Some (record { parent = near.placed.device; link = near.link }) }

-- a neighbour's neighbour is found
neighbour_found : (net : Network) (absent : Absent) (d y : ℕ) → y < length net.devices → are_neighbours net absent d y ≡ true
    → (l : ℕ) × (find (λ (n : Neighbour). nat_eq n.device y) (neighbours_of net absent d) ≡ Some (record { device = y; link = l }))
neighbour_found net absent d y within are = by_link (link_between net absent d y) refl
  where
    by_link : (o : Option ℕ) → link_between net absent d y ≡ o
        → (l : ℕ) × (find (λ (n : Neighbour). nat_eq n.device y) (neighbours_of net absent d) ≡ Some (record { device = y; link = l }))
    by_link None none = absurd (cc (ap is_some none, are))
    by_link (Some l) some = (l, first_neighbour net absent d y within ∙ ap (option_map (λ (x : ℕ). record { device = y; link = x })) some)

-- the link of a neighbour that is found first
link_found : (net : Network) (absent : Absent) (d y l : ℕ) → y < length net.devices
    → find (λ (n : Neighbour). nat_eq n.device y) (neighbours_of net absent d) ≡ Some (record { device = y; link = l }) → link_between net absent d y ≡ Some l
link_found net absent d y l within found = by_link (link_between net absent d y) (sym (first_neighbour net absent d y within) ∙ found)
  where
    by_link : (o : Option ℕ) → option_map {U = Neighbour} (λ (x : ℕ). record { device = y; link = x }) o ≡ Some (record { device = y; link = l }) → o ≡ Some l
    by_link None none = cc
    by_link (Some x) some = let same : x ≡ l = ap (λ (o : Option Neighbour). map_or o l (λ (n : Neighbour). n.link)) some in ap (λ y. Some y) same

-- what is found by the neighbours is the nearest
pub nearest_is : (net : Network) (absent : Absent) (placed : List Placed) (d : ℕ) (best : Option Near) → AreKnown (length net.devices) placed
    → IsNearest placed (neighbours_of net absent d) best
    → nearest net absent placed d ≡ option_map (λ near. near.placed) best
nearest_is net absent placed d None known none =
    none_each (λ p. are_neighbours net absent d p.device && list_all (λ q. not (are_neighbours net absent d q.device) || no_later p q) placed) placed (λ k p at.
    false_from_ne_true (are_neighbours net absent d p.device && list_all (λ q. not (are_neighbours net absent d q.device) || no_later p q) placed) (λ passes.
    let (are, least) =
    and_parts (are_neighbours net absent d p.device) (list_all (λ q. not (are_neighbours net absent d q.device) || no_later p q) placed) passes in
    let (l, found) = neighbour_found net absent d p.device (known.within k p at) are in
    let gone : placed_at placed p.device ≡ None =
    found_all (λ (n : Neighbour). placed_at placed n.device ≡ None) (λ (n : Neighbour). nat_eq n.device p.device) (neighbours_of net absent d)
    (record { device = p.device; link = l }) none found in
    let there : placed_at placed p.device ≡ Some p = known.found k p at in
    absurd (cc (gone, there))))
nearest_is net absent placed d (Some near) known is =
    find_alone (λ p. are_neighbours net absent d p.device && list_all (λ q. not (are_neighbours net absent d q.device) || no_later p q) placed) placed place.0
    near.placed place.1 (passes near_neighbour all_later) alone
  where
    place : (k : ℕ) × (slice_get placed k ≡ Some near.placed) × (nat_eq near.placed.device near.placed.device ≡ true)
    place = found_at_place (λ (p : Placed). nat_eq p.device near.placed.device) placed near.placed is.stands

    near_neighbour : are_neighbours net absent d near.placed.device ≡ true
    near_neighbour = ap is_some (link_found net absent d near.placed.device near.link (known.within place.0 near.placed place.1) is.first)

    later_than : (k : ℕ) (q : Placed) → slice_get placed k ≡ Some q → are_neighbours net absent d q.device ≡ true → no_later near.placed q ≡ true
    later_than k q at are =
        let (l, found) = neighbour_found net absent d q.device (known.within k q at) are in
        let up : IsUpTo placed near.placed (record { device = q.device; link = l }) =
        found_all (IsUpTo placed near.placed) (λ (n : Neighbour). nat_eq n.device q.device) (neighbours_of net absent d)
        (record { device = q.device; link = l }) is.least found in
        subst (λ (o : Option Placed). IfSome o (λ r. IsTrue (no_later near.placed r))) (known.found k q at) up

    either : (a b : Bool) → (a ≡ true → b ≡ true) → (not a || b) ≡ true
    either true b follows = follows refl
    either false b follows = refl

    all_later : list_all (λ q. not (are_neighbours net absent d q.device) || no_later near.placed q) placed ≡ true
    all_later =
        all_pass (λ q. not (are_neighbours net absent d q.device) || no_later near.placed q) placed (λ k q at.
        either (are_neighbours net absent d q.device) (no_later near.placed q) (later_than k q at))

    passes : {a b : Bool} → a ≡ true → b ≡ true → (a && b) ≡ true
    passes first second = rw (first, second) refl

    implied : (a b : Bool) → (not a || b) ≡ true → a ≡ true → b ≡ true
    implied true b h a = h
    implied false b h a = cc

    alone : (j : ℕ) (r : Placed) → slice_get placed j ≡ Some r
        → (are_neighbours net absent d r.device && list_all (λ q. not (are_neighbours net absent d q.device) || no_later r q) placed) ≡ true → r ≡ near.placed
    alone j r at test =
        let (are, least) =
        and_parts (are_neighbours net absent d r.device) (list_all (λ q. not (are_neighbours net absent d q.device) || no_later r q) placed) test in
        let first : no_later r near.placed ≡ true =
        implied (are_neighbours net absent d near.placed.device) (no_later r near.placed)
        (pass_each (λ q. not (are_neighbours net absent d q.device) || no_later r q) placed place.0 near.placed least place.1) near_neighbour
        in
        let second : no_later near.placed r ≡ true = later_than j r at are in
        let same : r.device ≡ near.placed.device = later_same r.depth r.device near.placed.depth near.placed.device first second in
        let one : placed_at placed r.device ≡ Some r = known.found j r at in
        let other : placed_at placed r.device ≡ Some near.placed = ap (placed_at placed) same ∙ is.stands in
        same_Some r near.placed (sym one ∙ other)

-- a placed device
abbrev placed_with : ℕ → ℕ → Option Hop → Placed
placed_with d depth hop = record { device = d; depth = depth; hop = hop }

-- so is where it is placed
pub below_is : (net : Network) (absent : Absent) (placed : List Placed) (d : ℕ) (best : Option Near) → AreKnown (length net.devices) placed
    → IsNearest placed (neighbours_of net absent d) best
    → below_nearest net absent placed d ≡ option_map (below_near d) best
below_is net absent placed d best known is = ap (option_map (λ p. below_device net absent p.device p.depth d)) (nearest_is net absent placed d best known is)
    ∙ by_best best is
  where
    by_best : (b : Option Near) → IsNearest placed (neighbours_of net absent d) b
        → option_map (λ p. below_device net absent p.device p.depth d) (option_map (λ near. near.placed) b) ≡ option_map (below_near d) b
    by_best None none = refl
    by_best (Some near) found =
        let (k, at, passes) = found_at_place (λ (p : Placed). nat_eq p.device near.placed.device) placed near.placed found.stands in
        let link : link_between net absent d near.placed.device ≡ Some near.link =
        link_found net absent d near.placed.device near.link (known.within k near.placed at) found.first in
        ap (λ (o : Option ℕ). Some (placed_with d (near.placed.depth + 1) (option_map {U = Hop} (λ l. record { parent = near.placed.device; link = l }) o)))
        link
