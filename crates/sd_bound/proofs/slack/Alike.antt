-- What the conditions read of a topology and of one of its domains: where two topologies agree on that, each condition says the same of both.
use Rattle.std.specs.Prelude.{◌≡◌, ℕ, ◌<◌, Bool, ◌&&◌, ◌||◌, not, List, [], ◌∷◌, ◌++◌, length, find, Option, Some, None, option_map, option_to_list, IsTrue, if◌then◌else◌}
use Rattle.std.specs.List.{list_any}
use Rattle.std.specs.Option.{option_or}
use Rattle.std.proofs.Common.{refl, sym, ap, ◌∙◌, subst, inl, inr}
use mathlib.Core.Path.{fun_ext}
use Rattle.sd_num.specs.Lists.{below, has}
use Rattle.sd_plan.specs.topo.Network.{Network, device_numbers, link_numbers, joins}
use Rattle.sd_plan.specs.topo.Joined.{Joined, here, over}
use Rattle.sd_plan.specs.declared.topo.Thing.{Thing}
use Rattle.sd_plan.specs.declared.topo.Thing.TheVariants as thing
use Rattle.sd_plan.specs.domain.Domains.{holds_device, holds_link, holds}
use Rattle.sd_plan.specs.declared.domain.DomainId.{DomainId}
use Rattle.sd_plan.specs.declared.Hop.{Hop}
use Rattle.sd_plan.specs.declared.Plan.{Plan}
use Rattle.sd_plan.specs.Plans.{is_member, is_present, primary_of, backup_of}
use Rattle.sd_plan.specs.Structure.{roots_breach, row_is_right, hop_is_right, hops_are_right, links_differ, reaches_root, falls_back, structure_breach, is_no_ancestor, ancestor_breach}
use Rattle.sd_plan.specs.Walks.{ends_walks, walk, path, epath, is_hit}
use Rattle.sd_checker.specs.check_root.Roots.{fallback_devices, fallback_links, fallback_breach, root_breach}
use Rattle.sd_checker.specs.check_loop.Loops.{hops_of, same_hop, is_walk, HasNoCycle}
use Rattle.sd_checker.specs.check_reach.Reach.{acting_end, is_sound, is_sound_link, CanReach, Fed, acts, stands_by, spared, turns, LosesBackup, DomainHolds, ReachHolds}

-- as many devices and links, the same links, and the same depth
pub record HasShape (a b : Network) : Type 0 where
  pub devices : length a.devices ≡ length b.devices
  pub links : length a.links ≡ length b.links
  pub depth : a.params.depth ≡ b.params.depth
  pub joins : (l d e : ℕ) → joins a l d e ≡ joins b l d e

-- the two domains have the same devices and links
pub record HasThings (a : Network) (f : DomainId) (b : Network) (g : DomainId) : Type 0 where
  pub devices : holds_device a f ≡ holds_device b g
  pub links : holds_link a f ≡ holds_link b g

pub shape_back : (a b : Network) → HasShape a b → HasShape b a
shape_back a b shape =
    record { devices = sym shape.devices; links = sym shape.links; depth = sym shape.depth; joins = λ l d e. sym (shape.joins l d e) }

pub things_back : (a : Network) (f : DomainId) (b : Network) (g : DomainId) → HasThings a f b g → HasThings b g a f
things_back a f b g same = record { devices = sym same.devices; links = sym same.links }

-- the same network, with this depth: with its own it is the network itself, by computing
abbrev pub with_depth : Network → ℕ → Network
with_depth net n = record net { params = record net.params { depth = n } }

-- Structure and ancestor

abbrev first_in : List ℕ → ℕ → (ℕ → Bool) → Option (ℕ × ℕ)
first_in numbers rule keeps = option_map (λ d. (rule, d)) (find (λ d. not (keeps d)) numbers)

-- the first rule that is broken, from what the rules say of each device
abbrev breach_in : List ℕ → Plan → (ℕ → Bool) → (ℕ → Bool) → Option (ℕ × ℕ)
breach_in numbers plan third fifth =
    option_or (option_map (λ d. (1, d)) (roots_breach plan))
    (option_or (first_in numbers 2 (row_is_right plan))
    (option_or (first_in numbers 3 third)
    (option_or (first_in numbers 4 (links_differ plan))
    (option_or (first_in numbers 5 fifth)
    (first_in numbers 6 (falls_back plan))))))

module _ (a b : Network) (shape : HasShape a b) (plan : Plan) where
  numbers_same : device_numbers a ≡ device_numbers b
  numbers_same = ap below shape.devices

  link_numbers_same : link_numbers a ≡ link_numbers b
  link_numbers_same = ap below shape.links

  pub walk_same : (d : ℕ) → walk a plan d ≡ walk b plan d
  walk_same d = ap (λ (n : ℕ). walk (with_depth b n) plan d) shape.depth

  hop_same : (d : ℕ) (hop : Option Hop) → hop_is_right a plan d hop ≡ hop_is_right b plan d hop
  hop_same d None = refl
  hop_same d (Some h) = ap (λ t. is_member plan h.parent && is_present plan h.link && t) (shape.joins h.link d h.parent)

  hops_same : hops_are_right a plan ≡ hops_are_right b plan
  hops_same =
      fun_ext (λ d. ap (λ t. t && hop_is_right a plan d (backup_of plan d)) (hop_same d (primary_of plan d))
      ∙ ap (λ t. hop_is_right b plan d (primary_of plan d) && t) (hop_same d (backup_of plan d)))

  reaches_same : reaches_root a plan ≡ reaches_root b plan
  reaches_same = ap (λ (n : ℕ). reaches_root (with_depth b n) plan) shape.depth

  pub structure_same : structure_breach a plan ≡ structure_breach b plan
  structure_same =
      ap (λ (numbers : List ℕ). breach_in numbers plan (hops_are_right a plan) (reaches_root a plan)) numbers_same
      ∙ ap (λ (test : ℕ → Bool). breach_in (device_numbers b) plan test (reaches_root a plan)) hops_same
      ∙ ap (λ (test : ℕ → Bool). breach_in (device_numbers b) plan (hops_are_right b plan) test) reaches_same

  above_same : is_no_ancestor a plan ≡ is_no_ancestor b plan
  above_same = ap (λ (n : ℕ). is_no_ancestor (with_depth b n) plan) shape.depth

  pub ancestor_same : ancestor_breach a plan ≡ ancestor_breach b plan
  ancestor_same =
      ap (λ (numbers : List ℕ). find (λ d. not (is_no_ancestor a plan d)) numbers) numbers_same
      ∙ ap (λ (test : ℕ → Bool). find (λ d. not (test d)) (device_numbers b)) above_same

-- Of one domain of each

-- what breaks the root condition, from what the domain has and what the plan needs
abbrev taken_in : List ℕ → List ℕ → (ℕ → Bool) → (ℕ → Bool) → List ℕ → List ℕ → Option Thing
taken_in devices links has_device has_link needed_devices needed_links =
    option_or (option_map thing.Device (find (λ d. has_device d && has needed_devices d) devices))
    (option_map thing.Link (find (λ l. has_link l && has needed_links l) links))

abbrev root_in : Plan → (ℕ → Bool) → Bool → Option Thing → Option Thing
root_in plan has_device is_cut taken =
    if has_device plan.root && has_device plan.backup_root then Some (thing.Device plan.backup_root) else if is_cut then taken else None

module _ (a : Network) (f : DomainId) (b : Network) (g : DomainId) (shape : HasShape a b) (same : HasThings a f b g) (plan : Plan) where
  has_same : holds a f ≡ holds b g
  has_same = fun_ext by
    where
      by : (x : Thing) → holds a f x ≡ holds b g x
      by (thing.Device d) = ap (λ (test : ℕ → Bool). test d) same.devices
      by (thing.Link l) = ap (λ (test : ℕ → Bool). test l) same.links

  hit_same : (d : ℕ) → is_hit a plan f d ≡ is_hit b plan g d
  hit_same d =
      ap (λ (test : Thing → Bool). list_any test (epath a plan d)) has_same
      ∙ ap (λ (n : ℕ). list_any (holds b g) (epath (with_depth b n) plan d)) shape.depth

  path_hit_same : list_any (holds a f) (path a plan plan.backup_root) ≡ list_any (holds b g) (path b plan plan.backup_root)
  path_hit_same =
      ap (λ (test : Thing → Bool). list_any test (path a plan plan.backup_root)) has_same
      ∙ ap (λ (n : ℕ). list_any (holds b g) (path (with_depth b n) plan plan.backup_root)) shape.depth

  fallback_same : fallback_breach a plan f ≡ fallback_breach b plan g
  fallback_same =
      ap (λ (ds : List ℕ). taken_in ds (link_numbers a) (holds_device a f) (holds_link a f) (fallback_devices a plan) (fallback_links a plan))
      (numbers_same a b shape plan)
      ∙ ap (λ (ls : List ℕ). taken_in (device_numbers b) ls (holds_device a f) (holds_link a f) (fallback_devices a plan) (fallback_links a plan))
      (link_numbers_same a b shape plan)
      ∙ ap (λ (test : ℕ → Bool). taken_in (device_numbers b) (link_numbers b) test (holds_link a f) (fallback_devices a plan) (fallback_links a plan))
      same.devices
      ∙ ap (λ (test : ℕ → Bool). taken_in (device_numbers b) (link_numbers b) (holds_device b g) test (fallback_devices a plan) (fallback_links a plan))
      same.links
      ∙ ap (λ (n : ℕ). taken_in (device_numbers b) (link_numbers b) (holds_device b g) (holds_link b g) (fallback_devices (with_depth b n) plan)
      (fallback_links (with_depth b n) plan)) shape.depth

  pub root_same : root_breach a plan f ≡ root_breach b plan g
  root_same =
      ap (λ (test : ℕ → Bool). root_in plan test (list_any (holds a f) (path a plan plan.backup_root)) (fallback_breach a plan f)) same.devices
      ∙ ap (λ (t : Bool). root_in plan (holds_device b g) t (fallback_breach a plan f)) path_hit_same
      ∙ ap (λ (o : Option Thing). root_in plan (holds_device b g) (list_any (holds b g) (path b plan plan.backup_root)) o) fallback_same

  hops_of_same : (d : ℕ) → hops_of a plan f d ≡ hops_of b plan g d
  hops_of_same d =
      ap (λ (hit : Bool). if is_member plan d && not (ends_walks plan d)
      then option_to_list (primary_of plan d) ++ (if hit then option_to_list (backup_of plan d) else []) else []) (hit_same d)

  pub is_walk_same : (d : ℕ) (hs : List Hop) → is_walk a plan f d hs ≡ is_walk b plan g d hs
  is_walk_same d [] = refl
  is_walk_same d (hop ∷ hs) =
      ap (λ (some : List Hop). list_any (same_hop hop) some && is_walk a plan f hop.parent hs) (hops_of_same d)
      ∙ ap (λ (t : Bool). list_any (same_hop hop) (hops_of b plan g d) && t) (is_walk_same hop.parent hs)

  pub no_cycle_kept : HasNoCycle a plan f → HasNoCycle b plan g
  no_cycle_kept none d hop hs walked = none d hop hs (is_walk_same d (hop ∷ hs) ∙ walked)

  acting_same : acting_end a plan f ≡ acting_end b plan g
  acting_same = ap (λ (test : ℕ → Bool). if test plan.root then plan.backup_root else plan.root) same.devices

  sound_same : is_sound a plan f ≡ is_sound b plan g
  sound_same = fun_ext (λ d. ap (λ (test : ℕ → Bool). is_member plan d && not (test d)) same.devices)

  sound_link_same : is_sound_link a plan f ≡ is_sound_link b plan g
  sound_link_same = fun_ext (λ l. ap (λ (test : ℕ → Bool). is_present plan l && not (test l)) same.links)

  -- a test that is met of the one domain is met of the other
  met : {p q : ℕ → Bool} → p ≡ q → (d : ℕ) → IsTrue (p d) → IsTrue (q d)
  met {p} {q} equal d is = subst (λ (test : ℕ → Bool). IsTrue (test d)) equal is

  met_not : {p q : ℕ → Bool} → p ≡ q → (d : ℕ) → IsTrue (not (p d)) → IsTrue (not (q d))
  met_not {p} {q} equal d is = subst (λ (test : ℕ → Bool). IsTrue (not (test d))) equal is

  pub fed_kept : {d : ℕ} → Fed a plan f d → Fed b plan g d
  fed_kept (acts {d = d} sound acting) = acts (met sound_same d sound) (acting ∙ acting_same)
  fed_kept (stands_by {d = d} sound backup_root) = stands_by (met sound_same d sound) backup_root
  fed_kept (spared {d = d} sound unhit) = spared (met sound_same d sound) (subst (λ (t : Bool). IsTrue (not t)) (hit_same d) unhit)
  fed_kept (turns {d = d} hop sound hit next link parent fed) =
      turns hop (met sound_same d sound) (sym (hit_same d) ∙ hit) next (met_not same.links hop.link link) (met_not same.devices hop.parent parent)
      (fed_kept fed)

  joined_kept : (may_pass may_cross : ℕ → Bool) {d e : ℕ} → Joined a may_pass may_cross d e → Joined b may_pass may_cross d e
  joined_kept may_pass may_cross here = here
  joined_kept may_pass may_cross (over {d = d} {e = e} l within crosses joined passes further) =
      over l (subst (λ (n : ℕ). l < n) shape.links within) crosses (sym (shape.joins l d e) ∙ joined) passes (joined_kept may_pass may_cross further)

  can_reach_kept : (d : ℕ) → CanReach a plan f d → CanReach b plan g d
  can_reach_kept d reaches = (
    subst (λ (x : ℕ). IsTrue (not (holds_device b g x))) acting_same (met_not same.devices (acting_end a plan f) reaches.0),
    subst (λ (x : ℕ). Joined b (is_sound b plan g) (is_sound_link b plan g) d x) acting_same
        (subst (λ (test : ℕ → Bool). Joined b (is_sound b plan g) test d (acting_end a plan f)) sound_link_same
        (subst (λ (test : ℕ → Bool). Joined b test (is_sound_link a plan f) d (acting_end a plan f)) sound_same
        (joined_kept (is_sound a plan f) (is_sound_link a plan f) reaches.1))),
  )

  loses_kept : (d : ℕ) → LosesBackup a plan f d → LosesBackup b plan g d
  loses_kept d loses =
      record {
        sound = met sound_same d loses.sound;
        no_root = loses.no_root;
        hit = sym (hit_same d) ∙ loses.hit;
        not_cut = can_reach_kept d loses.not_cut;
        backup = loses.backup;
        has_backup = loses.has_backup;
        lost = subst (λ (test : ℕ → Bool). IsTrue (test loses.backup.link || holds_device b g loses.backup.parent)) same.links
            (subst (λ (test : ℕ → Bool). IsTrue (holds_link a f loses.backup.link || test loses.backup.parent)) same.devices loses.lost);
      }

-- and what is denied of the one is denied of the other
module _ (a : Network) (f : DomainId) (b : Network) (g : DomainId) (shape : HasShape a b) (same : HasThings a f b g) (plan : Plan) where
  pub domain_kept : DomainHolds a plan f → DomainHolds b plan g
  domain_kept holds_ d loses = holds_ d (loses_kept b g a f (shape_back a b shape) (things_back a f b g same) plan d loses)

  pub reach_kept : ReachHolds a plan f → ReachHolds b plan g
  reach_kept holds_ d sound =
      elim (holds_ d (met b g a f (shape_back a b shape) (things_back a f b g same) plan (sym (sound_same a f b g shape same plan)) d sound)) [
        | inl fed ↦ inl (fed_kept a f b g shape same plan fed)
        | inr cut ↦ inr (λ reaches. cut (can_reach_kept b g a f (shape_back a b shape) (things_back a f b g same) plan d reaches))
      ]
