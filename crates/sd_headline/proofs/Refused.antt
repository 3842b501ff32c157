-- The lines of files that are refused, and of plans that are: none is an alarm or a disorder.
use Rattle.std.specs.Prelude.{◌≡◌, ℕ, true, ◌&&◌, List, [], ◌∷◌, ◌++◌, map, nat_le, slice_get, Option, None, Some, option_map, IsTrue, codes, decimal, refl}
use Rattle.std.specs.List.{list_all}
use Rattle.std.proofs.Common.{ap, ◌∙◌}
use Rattle.std.proofs.lemmas.Bool.{and_from}
use Rattle.std.proofs.lemmas.List.Folds.{list_all-append}
use Rattle.std.proofs.lemmas.Option.{slice_get-map}
use Rattle.sd_num.specs.Lists.{map_or, at_place}
use Rattle.sd_plan.specs.topo.Network.{Network, Each, is_name}
use Rattle.sd_plan.specs.topo.Limits.{IsNetwork}
use Rattle.sd_plan.specs.declared.topo.Thing.{Thing}
use Rattle.sd_plan.specs.declared.topo.Thing.TheVariants as thing
use Rattle.sd_plan.specs.declared.domain.DomainId.{DomainId}
use Rattle.sd_plan.specs.declared.domain.DomainId.TheVariants as domain
use Rattle.sd_topotext.specs.Keys.{printed as printed_key, printed_kind}
use Rattle.sd_topotext.specs.declared.fault.Key.{Key}
use Rattle.sd_topotext.specs.declared.fault.Key.TheVariants as key
use Rattle.sd_topotext.specs.declared.fault.Kind.{Kind}
use Rattle.sd_topotext.specs.declared.fault.Kind.TheVariants as kind
use Rattle.sd_topotext.specs.declared.fault.Place.{Place}
use Rattle.sd_topotext.specs.declared.fault.TopoFault.{TopoFault}
use Rattle.sd_topotext.specs.declared.fault.TopoFault.TheVariants as topo
use Rattle.sd_plantext.specs.Keys.{printed as printed_plan_key}
use Rattle.sd_plantext.specs.declared.fault.PlanKey.{PlanKey}
use Rattle.sd_plantext.specs.declared.fault.PlanKey.TheVariants as plankey
use Rattle.sd_plantext.specs.declared.fault.PlanPlace.{PlanPlace}
use Rattle.sd_plantext.specs.declared.fault.PlanFault.{PlanFault}
use Rattle.sd_plantext.specs.declared.fault.PlanFault.TheVariants as plan
use Rattle.sd_checker.specs.Text.{domain_words, thing_words, breach_words, refused_line}
use Rattle.sd_plan.specs.topo.Network.{device_name, link_name, domain_name}
use Rattle.sd_checker.specs.declared.Breach.{Breach}
use Rattle.sd_checker.specs.declared.Breach.TheVariants.{Structure, Ancestor, Timing, Root, Loop, Domain, Reach}
use Rattle.sd_files.specs.Reasons.{printed_input, at_place as at_topology_place, topology_reason, at_plan_place, plan_reason, reason, refusal_line}
use Rattle.sd_files.specs.declared.command_error.FileFault.{FileFault}
use Rattle.sd_files.specs.declared.command_error.FileFault.TheVariants.{TooLong, Topology as OfTopology, Plan as OfPlan}
use Rattle.sd_files.specs.declared.command_error.Input.{Input}
use Rattle.sd_files.specs.declared.command_error.Input.TheVariants.{Topology, Plan, Absent}
use Rattle.sd_files.specs.declared.command_error.Refusal.{Refusal}
use Rattle.sd_headline.specs.Words.{is_plain, is_one_line}
use Rattle.sd_headline.proofs.Names.{name_plain}
use Rattle.sd_headline.proofs.Numbers.{decimal_plain}
use Rattle.sd_headline.proofs.Quiet.{IsQuiet, quiet_text}
use Rattle.sd_headline.proofs.Texts.{plain_is_one_line, plain_one_line}

-- one line after the other's bytes
behind : (front rest : List ℕ) → is_one_line front ≡ true → is_one_line rest ≡ true → is_one_line (front ++ rest) ≡ true
behind front rest one two = list_all-append (nat_le 32) front rest ∙ and_from (is_one_line front) (is_one_line rest) one two

number_line : (n : ℕ) → is_one_line (decimal n) ≡ true
number_line n = plain_is_one_line (decimal n) (decimal_plain n)

-- Files

key_line : (k : Key) → is_one_line (printed_key k) ≡ true
key_line key.Version = refl
key_line _ = refl

kind_line : (k : Kind) → is_one_line (printed_kind k) ≡ true
kind_line kind.Device = refl
kind_line _ = refl

place_line : (p : Place) → is_one_line (at_topology_place p) ≡ true
place_line p = behind (printed_key p.key) (32 ∷ decimal p.entry) (key_line p.key) (number_line p.entry)

topology_line : (why : TopoFault) → is_one_line (topology_reason why) ≡ true
topology_line topo.NotToml = refl
topology_line (topo.Missing p) = behind (codes "Missing") (at_topology_place p) refl (place_line p)
topology_line (topo.WrongKind p) = behind (codes "WrongKind") (at_topology_place p) refl (place_line p)
topology_line (topo.Range p) = behind (codes "Range") (at_topology_place p) refl (place_line p)
topology_line (topo.TwiceNamed p) = behind (codes "TwiceNamed") (at_topology_place p) refl (place_line p)
topology_line (topo.UnknownName p) = behind (codes "UnknownName") (at_topology_place p) refl (place_line p)
topology_line (topo.SelfLink p) = behind (codes "SelfLink") (at_topology_place p) refl (place_line p)
topology_line (topo.Limit k) = behind (codes "Limit") (32 ∷ printed_kind k) refl (kind_line k)
topology_line topo.Memory = refl

plan_key_line : (k : PlanKey) → is_one_line (printed_plan_key k) ≡ true
plan_key_line plankey.Version = refl
plan_key_line _ = refl

plan_place_line : (p : PlanPlace) → is_one_line (at_plan_place p) ≡ true
plan_place_line p = behind (printed_plan_key p.key) (32 ∷ decimal p.entry) (plan_key_line p.key) (number_line p.entry)

plan_line : (why : PlanFault) → is_one_line (plan_reason why) ≡ true
plan_line plan.NotJson = refl
plan_line (plan.Missing p) = behind (codes "Missing ") (at_plan_place p) refl (plan_place_line p)
plan_line (plan.WrongKind p) = behind (codes "WrongKind ") (at_plan_place p) refl (plan_place_line p)
plan_line (plan.Range p) = behind (codes "Range ") (at_plan_place p) refl (plan_place_line p)
plan_line (plan.UnknownName p) = behind (codes "UnknownName ") (at_plan_place p) refl (plan_place_line p)
plan_line (plan.TwiceNamed p) = behind (codes "TwiceNamed ") (at_plan_place p) refl (plan_place_line p)
plan_line (plan.Version n) = behind (codes "Version ") (decimal n) refl (number_line n)
plan_line plan.Memory = refl

reason_line : (why : FileFault) → is_one_line (reason why) ≡ true
reason_line TooLong = refl
reason_line (OfTopology why) = topology_line why
reason_line (OfPlan why) = plan_line why

input_line : (input : Input) → is_one_line (printed_input input) ≡ true
input_line Topology = refl
input_line (Plan place) = behind (codes "plan ") (decimal place) refl (number_line place)
input_line Absent = refl

-- a file that is refused
pub refusal_quiet : (refusal : Refusal) → IsQuiet (refusal_line refusal)
refusal_quiet refusal =
    quiet_text (codes "input") (printed_input refusal.input) (reason refusal.fault ∷ []) refl refl refl
    (and_from (is_one_line (printed_input refusal.input)) (is_one_line (reason refusal.fault) && true) (input_line refusal.input)
    (and_from (is_one_line (reason refusal.fault)) true (reason_line refusal.fault) refl))

-- Plans

-- the name of a thing at a number, or none
found_plain : {A : Type 0} (name : A → List ℕ) (xs : List A) (i : ℕ) → Each (λ n. IsTrue (is_name n)) (map name xs) → is_plain (at_place xs i [] name) ≡ true
found_plain {A} name xs i each = by (slice_get xs i) (λ x at. name_plain (name x) (each i (name x) (slice_get-map name xs i ∙ ap (option_map name) at)))
  where
    by : (o : Option A) → ((x : A) → o ≡ Some x → is_plain (name x) ≡ true) → is_plain (map_or o [] name) ≡ true
    by None plain = refl
    by (Some x) plain = plain x refl

all_behind : (front rest : List (List ℕ)) → list_all is_plain front ≡ true → list_all is_plain rest ≡ true → list_all is_plain (front ++ rest) ≡ true
all_behind front rest one two = list_all-append is_plain front rest ∙ and_from (list_all is_plain front) (list_all is_plain rest) one two

module _ (net : Network) (is : IsNetwork net) where
  device_plain : (d : ℕ) → is_plain (device_name net d) ≡ true
  device_plain d = found_plain (λ device. device.name) net.devices d is.names.0

  link_plain : (l : ℕ) → is_plain (link_name net l) ≡ true
  link_plain l = found_plain (λ link. link.name) net.links l is.names.1

  listed_plain : (k : ℕ) → is_plain (domain_name net k) ≡ true
  listed_plain k = found_plain (λ listed. listed.name) net.domains k is.names.2

  devices_plain : (ds : List ℕ) → list_all is_plain (map (device_name net) ds) ≡ true
  devices_plain [] = refl
  devices_plain (d ∷ ds) = and_from (is_plain (device_name net d)) (list_all is_plain (map (device_name net) ds)) (device_plain d) (devices_plain ds)

  domain_plain : (f : DomainId) → list_all is_plain (domain_words net f) ≡ true
  domain_plain (domain.Listed k) = rw (listed_plain k) refl
  domain_plain (domain.Device d) = rw (device_plain d) refl
  domain_plain (domain.Link l) = rw (link_plain l) refl

  thing_plain : (at : Thing) → list_all is_plain (thing_words net at) ≡ true
  thing_plain (thing.Device d) = rw (device_plain d) refl
  thing_plain (thing.Link l) = rw (link_plain l) refl

  breach_plain : (breach : Breach) → list_all is_plain (breach_words net breach) ≡ true
  breach_plain (Structure rule d) = rw (decimal_plain rule, device_plain d) refl
  breach_plain (Ancestor d) = rw (device_plain d) refl
  breach_plain (Timing t) = rw (decimal_plain t.rule, decimal_plain t.left, decimal_plain t.right) refl
  breach_plain (Root f at) = all_behind (domain_words net f) (codes "at" ∷ thing_words net at) (domain_plain f) (thing_plain at)
  breach_plain (Loop f cycle) = all_behind (domain_words net f) (codes "cycle" ∷ map (device_name net) cycle) (domain_plain f) (devices_plain cycle)
  breach_plain (Domain f d) =
      all_behind (domain_words net f) (codes "device" ∷ device_name net d ∷ []) (domain_plain f)
      (and_from (is_plain (device_name net d)) true (device_plain d) refl)
  breach_plain (Reach f chain) = all_behind (domain_words net f) (codes "chain" ∷ map (device_name net) chain) (domain_plain f) (devices_plain chain)

  -- the words after the first of the line of a plan that is refused
  pub breach_line : (place : ℕ) (breach : Breach) → list_all is_one_line (codes "plan" ∷ decimal place ∷ breach_words net breach) ≡ true
  breach_line place breach =
      plain_one_line (codes "plan" ∷ decimal place ∷ breach_words net breach)
      (and_from (is_plain (decimal place)) (list_all is_plain (breach_words net breach)) (decimal_plain place) (breach_plain breach))

  -- a plan that is refused
  pub breach_quiet : (place : ℕ) (breach : Breach) → IsQuiet (refused_line net place breach)
  breach_quiet place breach = quiet_text (codes "refused") (codes "plan") (decimal place ∷ breach_words net breach) refl refl refl (breach_line place breach)
