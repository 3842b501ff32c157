-- Up to the takeover the old devices of the fallback are on their primaries: one on its backup would be hit otherwise than by the root, and its
-- cut path lies within the fallback, of which nothing failed. With Fallback this makes C7 follow from C1, C3, C4 and the root condition.
use Rattle.std.specs.Prelude.{◌≡◌, ℕ, zero, suc, ◌+◌, ◌<◌, Bool, true, false, ◌&&◌, ◌||◌, not, List, [], ◌∷◌, filter, length, nat_eq, count_by, Option, Some, None, option_map, refl, if◌then◌else◌, ◌⊎◌, IfSome}
use Rattle.std.proofs.Common.{arith, ◌∙◌, ap, sym, subst, inl, inr}
use Rattle.std.proofs.lemmas.Bool.{and_parts, and_from, or_parts, eqb-true, eq-eqb, not-false, false_from_ne_true, not-true}
use Rattle.sd_num.specs.Lists.{has, map_or}
use Rattle.sd_plan.specs.topo.Network.{Network}
use Rattle.sd_plan.specs.declared.topo.Thing.{Thing}
use Rattle.sd_plan.specs.declared.topo.Thing.TheVariants as thing
use Rattle.sd_plan.specs.domain.Things.{same_thing}
use Rattle.sd_plan.specs.declared.Hop.{Hop}
use Rattle.sd_plan.specs.declared.Plan.{Plan}
use Rattle.sd_plan.specs.Plans.{Fits, IsHop, is_member, is_present, is_root, is_backup_root, primary_of, backup_of}
use Rattle.sd_plan.specs.Walks.{hops, walk, short_path, epath, things_of, devices_of, links_of, end_of, ends_walks, on_walk}
use Rattle.sd_plan.specs.Structure.{is_no_ancestor, hop_is_right}
use Rattle.sd_plan.proofs.Rules.{KeepsRules, keeps_rules, hops_within}
use Rattle.sd_plan.proofs.Numbered.{none_found}
use Rattle.sd_checker.specs.check_root.Roots.{fallback_devices, fallback_links}
use Rattle.sd_safety.specs.invariant.Guarded.{IsGuarded}
use Rattle.sd_num.proofs.Shared.{same_number-some}
use Rattle.sd_plan.proofs.domain.Within.{same_thing-true}
use Rattle.sd_history.specs.World.{Setting, is_up, joined_in_window}
use Rattle.sd_history.specs.Steps.{Step, Answers, seen_of, answers_in, epoch_in}
use Rattle.sd_history.proofs.Among.{Among, first, later, any_passing, mapped_in}
use Rattle.sd_history.proofs.Filters.{filter_in}
use Rattle.sd_history.proofs.Given.{some_is}
use Rattle.sd_safety.specs.invariant.Eras.{era, plan_now, failed_now, failed_besides_root, is_among, device_failed_now, link_failed_now, is_old, is_new, is_blank, moved, is_ordinary, hit, hit_otherwise}
use Rattle.sd_safety.specs.invariant.Clauses.{backup_root_moved, backup_root_acts, backup_is_caused, outsider_is_past, fallback_device_is_sound, fallback_link_is_sound, fallback_stays}
use Rattle.sd_safety.proofs.invariant.Prefix.{Passing, some_passing}
use Rattle.sd_safety.proofs.invariant.Fallback.{from_absurd}
use Rattle.sd_safety.proofs.invariant.Sides.{implied, not_both}

-- Walks

-- a walk to the root holds the primary hop of each of its devices but the root, and its parent
pub record IsOnward (x : ℕ) (h : Hop) (hs : List Hop) (devices : List ℕ) : Type 0 where
  pub hop : Among h hs
  pub parent : Among h.parent devices

module _ (plan : Plan) where
  abbrev Onward : ℕ → List Hop → Type 0
  Onward z hs = (x : ℕ) (h : Hop) → Among x (devices_of z hs) → is_root plan x ≡ false → is_root plan (end_of z hs) ≡ true → primary_of plan x ≡ Some h
      → IsOnward x h hs (devices_of z hs)

  ends_here : (z : ℕ) → Onward z []
  ends_here z x h first other root is = absurd (not_both (is_root plan x) root other)
  ends_here z x h (later a) other root is = elim a [ ]

  onward_further : (z : ℕ) (hop : Hop) (rest : List Hop) → primary_of plan z ≡ Some hop → Onward hop.parent rest → Onward z (hop ∷ rest)
  onward_further z hop rest at above x h first other root is =
      let same : hop ≡ h = some_is (sym at ∙ is) in
      subst (λ g. IsOnward x g (hop ∷ rest) (devices_of z (hop ∷ rest))) same (record { hop = first; parent = later first })
  onward_further z hop rest at above x h (later a) other root is =
      let on : IsOnward x h rest (devices_of hop.parent rest) = above x h a other root is in
      record { hop = later on.hop; parent = later on.parent }

  onward_when : (n z : ℕ) (hop : Hop) (b : Bool) → primary_of plan z ≡ Some hop → Onward hop.parent (hops (is_root plan) plan n hop.parent)
      → Onward z (hop ∷ (elim b [ true ↦ [] | false ↦ hops (is_root plan) plan n hop.parent ]))
  onward_when n z hop true at above = onward_further z hop [] at (ends_here hop.parent)
  onward_when n z hop false at above = onward_further z hop (hops (is_root plan) plan n hop.parent) at above

  onward_by : (n z : ℕ) (o : Option Hop) → primary_of plan z ≡ o → ((y : ℕ) → Onward y (hops (is_root plan) plan n y))
      → Onward z (elim o [ None ↦ [] | Some hop ↦ hop ∷ (elim (is_root plan hop.parent) [ true ↦ [] | false ↦ hops (is_root plan) plan n hop.parent ]) ])
  onward_by n z None at above = ends_here z
  onward_by n z (Some hop) at above = onward_when n z hop (is_root plan hop.parent) at (above hop.parent)

  onward : (n z : ℕ) → Onward z (hops (is_root plan) plan n z)
  onward zero z = ends_here z
  onward (suc n) z = onward_by n z (primary_of plan z) refl (onward n)

  onward_walk : (net : Network) (z : ℕ) (b : Bool) → Onward z (if b then [] else hops (is_root plan) plan net.params.depth z)
  onward_walk net z true = ends_here z
  onward_walk net z false = onward net.params.depth z

  -- The cut path of a device of the walk lies on the walk.
  module _ (z : ℕ) (hs : List Hop) (on : Onward z hs) (to_root : is_root plan (end_of z hs) ≡ true) where
    abbrev Lies : List Hop → Type 0
    Lies cut = (h : Hop) → Among h cut → IsOnward z h hs (devices_of z hs)

    lies_further : (x : ℕ) (hop : Hop) (rest : List Hop) → IsOnward x hop hs (devices_of z hs) → Lies rest → Lies (hop ∷ rest)
    lies_further x hop rest here more h first = record { hop = here.hop; parent = here.parent }
    lies_further x hop rest here more h (later a) = more h a

    lies_when : (n x : ℕ) (hop : Hop) (b : Bool) → ends_walks plan hop.parent ≡ b → IsOnward x hop hs (devices_of z hs)
        → (is_root plan hop.parent ≡ false → Lies (hops (ends_walks plan) plan n hop.parent))
        → Lies (hop ∷ (elim b [ true ↦ [] | false ↦ hops (ends_walks plan) plan n hop.parent ]))
    lies_when n x hop true is here more = lies_further x hop [] here (λ h a. elim a [ ])
    lies_when n x hop false is here more =
        lies_further x hop (hops (ends_walks plan) plan n hop.parent) here (more (or_parts (is_root plan hop.parent) (is_backup_root plan hop.parent) is).0)

    lies_by : (n x : ℕ) (o : Option Hop) → primary_of plan x ≡ o → Among x (devices_of z hs) → is_root plan x ≡ false
        → ((y : ℕ) → Among y (devices_of z hs) → is_root plan y ≡ false → Lies (hops (ends_walks plan) plan n y))
        → Lies (elim o [ None ↦ [] | Some hop ↦ hop ∷ (elim (ends_walks plan hop.parent) [ true ↦ [] | false ↦ hops (ends_walks plan) plan n hop.parent ]) ])
    lies_by n x None at a other more = λ h b. elim b [ ]
    lies_by n x (Some hop) at a other more =
        let here : IsOnward x hop hs (devices_of z hs) = on x hop a other to_root at in
        lies_when n x hop (ends_walks plan hop.parent) refl here (λ root. more hop.parent here.parent root)

    lies : (n x : ℕ) → Among x (devices_of z hs) → is_root plan x ≡ false → Lies (hops (ends_walks plan) plan n x)
    lies zero x a other = λ h b. elim b [ ]
    lies (suc n) x a other = lies_by n x (primary_of plan x) refl a other (λ y b root. lies n y b root)

    path_when : (net : Network) (x : ℕ) (b : Bool) → is_root plan x ≡ b → Among x (devices_of z hs) → is_root plan x ≡ false
        → Lies (if b then [] else hops (ends_walks plan) plan net.params.depth x)
    path_when net x true is a other = λ h b. elim b [ ]
    path_when net x false is a other = lies net.params.depth x a other

    pub path_lies : (net : Network) (x : ℕ) → Among x (devices_of z hs) → is_root plan x ≡ false → Lies (short_path net plan x)
    path_lies net x a other = path_when net x (is_root plan x) refl a other

  -- a thing of hops is the link or the parent of one of them
  pub record IsOf (y : Thing) (hs : List Hop) : Type 0 where
    pub hop : Hop
    pub among : Among hop hs
    pub is : (y ≡ thing.Link hop.link) ⊎ (y ≡ thing.Device hop.parent)

  of_further : (y : Thing) (hop : Hop) (hs : List Hop) → IsOf y hs → IsOf y (hop ∷ hs)
  of_further y hop hs i = record { hop = i.hop; among = later i.among; is = i.is }

  pub thing_of : (y : Thing) (hs : List Hop) → Among y (things_of hs) → IsOf y hs
  thing_of y [] a = elim a [ ]
  thing_of y (hop ∷ hs) a = by_place y hop hs a (thing_of y hs)
    where
      by_place : (y : Thing) (hop : Hop) (hs : List Hop) → Among y (thing.Link hop.link ∷ thing.Device hop.parent ∷ things_of hs)
          → (Among y (things_of hs) → IsOf y hs) → IsOf y (hop ∷ hs)
      by_place y hop hs first rest = record { hop = hop; among = first; is = inl refl }
      by_place y hop hs (later first) rest = record { hop = hop; among = first; is = inr refl }
      by_place y hop hs (later (later a)) rest = of_further y hop hs (rest a)

-- Old devices are members

up_when : (b : Bool) (answers : Option Answers) (n : ℕ) → option_map (λ a. a.epoch) (if b then answers else None) ≡ Some n → b ≡ true
up_when true answers n is = refl
up_when false answers n is = cc

member_when : (up member old new blank joined : Bool) → (not (up && not member) || ((up && not (old || new || blank)) || (joined && (blank || new)))) ≡ true
    → up ≡ true → old ≡ true → new ≡ false → blank ≡ false → member ≡ true
member_when true true old new blank joined clause u o n b = refl
member_when true false true true blank joined clause u o n b = cc
member_when true false true false true joined clause u o n b = cc
member_when true false true false false true clause u o n b = cc
member_when true false true false false false clause u o n b = cc
member_when true false false new blank joined clause u o n b = cc
member_when false member old new blank joined clause u o n b = cc

pub old_is_member : (setting : Setting) (steps : List Step) (x : ℕ) → outsider_is_past setting steps x ≡ true → is_old steps x ≡ true
    → is_member (plan_now setting steps) x ≡ true
old_is_member setting steps x clause old =
    let is : epoch_in steps x ≡ Some (era steps) = same_number-some (epoch_in steps x) (era steps) old in
    let closings : ℕ = count_by (λ s. s.closed) (seen_of steps) in
    member_when (is_up (seen_of steps) x) (is_member (plan_now setting steps) x) (is_old steps x) (is_new steps x) (is_blank steps x)
    (joined_in_window (seen_of steps) x) clause
    (up_when (is_up (seen_of steps) x) (answers_in steps x) (era steps) is) old
    (false_from_ne_true (is_new steps x)
    (λ new. let same : closings + 1 ≡ closings + 1 + 1 = some_is (sym is ∙ same_number-some (epoch_in steps x) (closings + 1 + 1) new) in
    absurd (omega (arith, same))))
    (false_from_ne_true (is_blank steps x) (λ blank. let same : closings + 1 ≡ 0 = some_is (sym is ∙ same_number-some (epoch_in steps x) 0 blank) in
    absurd (omega (arith, same))))

-- Lists

pub filter_out : {A : Type 0} (p : A → Bool) (x : A) (xs : List A) → Among x (filter p xs) → Among x xs × (p x ≡ true)
filter_out p x [] a = elim a [ ]
filter_out p x (y ∷ xs) a = out_when p x y xs (p y) refl a (filter_out p x xs)
  where
    out_first : {A : Type 0} (p : A → Bool) (x y : A) (xs zs : List A) → p y ≡ true → Among x (y ∷ zs) → (Among x zs → Among x xs × (p x ≡ true))
        → Among x (y ∷ xs) × (p x ≡ true)
    out_first p x y xs zs is first rest = (first, is)
    out_first p x y xs zs is (later a) rest = let both = rest a in (later both.0, both.1)

    out_when : {A : Type 0} (p : A → Bool) (x y : A) (xs : List A) (b : Bool) → p y ≡ b → Among x (if b then y ∷ filter p xs else filter p xs)
        → (Among x (filter p xs) → Among x xs × (p x ≡ true)) → Among x (y ∷ xs) × (p x ≡ true)
    out_when p x y xs true is a rest = out_first p x y xs (filter p xs) is a rest
    out_when p x y xs false is a rest = let both = rest a in (later both.0, both.1)

has_of : (xs : List ℕ) (x : ℕ) → Among x xs → has xs x ≡ true
has_of xs x a = any_passing (nat_eq x) x xs a (eq-eqb x x refl)

among_of : (xs : List ℕ) (x : ℕ) → has xs x ≡ true → Among x xs
among_of xs x is = let found : Passing (nat_eq x) xs = some_passing (nat_eq x) xs is in
    subst (λ y. Among y xs) (sym (eqb-true x found.one found.passed)) found.there

-- The fallback

-- where a device of the fallback stands
record IsAbove (net : Network) (plan : Plan) (x : ℕ) : Type 0 where
  pub hop : Hop
  pub is : backup_of plan plan.backup_root ≡ Some hop
  pub among : Among x (devices_of hop.parent (walk net plan hop.parent))
  pub other : is_root plan x ≡ false

above_when : (net : Network) (plan : Plan) (x : ℕ) (o : Option Hop) → backup_of plan plan.backup_root ≡ o
    → has (map_or o [] (λ hop. filter (λ d. not (is_root plan d)) (devices_of hop.parent (walk net plan hop.parent)))) x ≡ true → IsAbove net plan x
above_when net plan x None is in_ = cc
above_when net plan x (Some hop) is in_ =
    let both = filter_out (λ d. not (is_root plan d)) x (devices_of hop.parent (walk net plan hop.parent))
    (among_of (filter (λ d. not (is_root plan d)) (devices_of hop.parent (walk net plan hop.parent))) x in_) in
    record { hop = hop; is = is; among = both.0; other = not-true (is_root plan x) both.1 }

module _ (net : Network) (plan : Plan) (fits : Fits net plan) (guarded : IsGuarded net plan) where
  rules : KeepsRules net plan
  rules = keeps_rules net plan guarded.structure

  within_of : (o : Option Hop) (hop : Hop) → IfSome o (IsHop net) → o ≡ Some hop → hop.parent < length net.devices
  within_of None hop each is = cc
  within_of (Some h) hop each is = subst (λ (g : Hop). g.parent < length net.devices) (some_is is) each.0

  member_of : (o : Option Hop) (hop : Hop) → hop_is_right net plan plan.backup_root o ≡ true → o ≡ Some hop → is_member plan hop.parent ≡ true
  member_of None hop right is = cc
  member_of (Some h) hop right is =
      subst (λ (g : Hop). is_member plan g.parent ≡ true) (some_is is)
      (and_parts (is_member plan h.parent) (is_present plan h.link) (and_parts (is_member plan h.parent && is_present plan h.link) _ right).0).0

  -- the fallback ends at the root
  ends_at_root : (hop : Hop) → backup_of plan plan.backup_root ≡ Some hop → is_root plan (end_of hop.parent (walk net plan hop.parent)) ≡ true
  ends_at_root hop is =
      implied (is_member plan hop.parent) _
      (rules.reaches hop.parent (within_of (backup_of plan plan.backup_root) hop (hops_within net plan plan.backup_root fits).1 is))
      (member_of (backup_of plan plan.backup_root) hop
      (and_parts (hop_is_right net plan plan.backup_root (primary_of plan plan.backup_root)) _ (rules.hops plan.backup_root fits.backup_root)).1 is)

  ancestor_when : (o : Option Hop) (hop : Hop) (b : Bool) → o ≡ Some hop → b ≡ true
      → map_or o true
      (λ h. if b then not (on_walk net plan h.parent plan.backup_root) else not
      (has (devices_of h.parent (if ends_walks plan h.parent then [] else short_path net plan h.parent)) plan.backup_root)) ≡ true
      → on_walk net plan hop.parent plan.backup_root ≡ false
  ancestor_when None hop b is yes_ clause = cc
  ancestor_when (Some h) hop false is yes_ clause = cc
  ancestor_when (Some h) hop true is yes_ clause =
      subst (λ (g : Hop). on_walk net plan g.parent plan.backup_root ≡ false) (some_is is) (not-true (on_walk net plan h.parent plan.backup_root) clause)

  -- the backup root is not on its fallback
  not_backup_root : (x : ℕ) (above : IsAbove net plan x) → is_backup_root plan x ≡ false
  not_backup_root x above =
      let b = plan.backup_root in
      let none : is_no_ancestor net plan b ≡ true =
      not-false (is_no_ancestor net plan b) (none_found (λ d. not (is_no_ancestor net plan d)) (length net.devices) b guarded.ancestor fits.backup_root) in
      let off : on_walk net plan above.hop.parent b ≡ false =
      ancestor_when (backup_of plan b) above.hop (is_backup_root plan b) above.is (eq-eqb b b refl) none in
      false_from_ne_true (is_backup_root plan x)
      (λ is.
      not_both (on_walk net plan above.hop.parent b)
      (has_of (devices_of above.hop.parent (walk net plan above.hop.parent)) b
      (subst (λ y. Among y (devices_of above.hop.parent (walk net plan above.hop.parent))) (sym (eqb-true b x is)) above.among)) off)

  -- the hops of its cut path are hops of the fallback
  cut_lies : (x : ℕ) (above : IsAbove net plan x) (h : Hop) → Among h (short_path net plan x)
      → IsOnward above.hop.parent h (walk net plan above.hop.parent) (devices_of above.hop.parent (walk net plan above.hop.parent))
  cut_lies x above h a =
      path_lies plan above.hop.parent (walk net plan above.hop.parent) (onward_walk plan net above.hop.parent (is_root plan above.hop.parent))
      (ends_at_root above.hop above.is) net x above.among above.other h a

  link_in_fallback : (x : ℕ) (above : IsAbove net plan x) (h : Hop) → Among h (short_path net plan x) → has (fallback_links net plan) h.link ≡ true
  link_in_fallback x above h a =
      ap (λ o. has (map_or o [] (λ hop. hop.link ∷ links_of (walk net plan hop.parent))) h.link) above.is
      ∙ has_of (above.hop.link ∷ links_of (walk net plan above.hop.parent)) h.link
      (later (mapped_in (λ (g : Hop). g.link) h (walk net plan above.hop.parent) (cut_lies x above h a).hop))

  device_in_fallback : (x : ℕ) (above : IsAbove net plan x) (h : Hop) → Among h (short_path net plan x) → is_root plan h.parent ≡ false
      → has (fallback_devices net plan) h.parent ≡ true
  device_in_fallback x above h a other =
      ap (λ o. has (map_or o [] (λ hop. filter (λ d. not (is_root plan d)) (devices_of hop.parent (walk net plan hop.parent)))) h.parent) above.is
      ∙ has_of (filter (λ d. not (is_root plan d)) (devices_of above.hop.parent (walk net plan above.hop.parent))) h.parent
      (filter_in (λ d. not (is_root plan d)) h.parent (devices_of above.hop.parent (walk net plan above.hop.parent)) (cut_lies x above h a).parent
      (ap not other))

-- C7, its last part

-- a failed thing other than the root, of the cut path of the device
record IsFound (setting : Setting) (steps : List Step) (x : ℕ) : Type 0 where
  pub what : Thing
  pub among : Among what (epath setting.net (plan_now setting steps) x)
  pub failed : is_among (failed_now steps) what ≡ true
  pub other : same_thing (thing.Device (plan_now setting steps).root) what ≡ false

found_of : (setting : Setting) (steps : List Step) (x : ℕ) → hit_otherwise setting steps x ≡ true → IsFound setting steps x
found_of setting steps x touched =
    let r : Thing = thing.Device (plan_now setting steps).root in
    let one : Passing (is_among (failed_besides_root setting steps)) (epath setting.net (plan_now setting steps) x) =
    some_passing _ (epath setting.net (plan_now setting steps) x) touched in
    let two : Passing (same_thing one.one) (failed_besides_root setting steps) =
    some_passing (same_thing one.one) (failed_besides_root setting steps) one.passed in
    let both = filter_out (λ y. not (same_thing r y)) two.one (failed_now steps) two.there in
    let same : one.one ≡ two.one = same_thing-true one.one two.one two.passed in
    record {
      what = one.one;
      among = one.there;
      failed = any_passing (same_thing one.one) two.one (failed_now steps) both.0 two.passed;
      other = subst (λ y. same_thing r y ≡ false) (sym same) (not-true (same_thing r two.one) both.1);
    }

module _ (setting : Setting) (steps : List Step) (fits : Fits setting.net (plan_now setting steps)) (guarded : IsGuarded setting.net (plan_now setting steps))
    (devices : (x : ℕ) → fallback_device_is_sound setting steps x ≡ true) (links : (l : ℕ) → fallback_link_is_sound setting steps l ≡ true)
    (caused : (x : ℕ) → backup_is_caused setting steps x ≡ true) (outsiders : (x : ℕ) → outsider_is_past setting steps x ≡ true) where
  no_link : (x : ℕ) (above : IsAbove setting.net (plan_now setting steps) x) (h : Hop) → backup_root_moved setting steps ≡ true
      → Among h (short_path setting.net (plan_now setting steps) x) → link_failed_now steps h.link ≡ true → ⊥
  no_link x above h has_moved a failed =
      not_both (not (link_failed_now steps h.link))
      (implied (backup_root_moved setting steps && has (fallback_links setting.net (plan_now setting steps)) h.link) (not (link_failed_now steps h.link))
      (links h.link)
      (and_from (backup_root_moved setting steps) _ has_moved (link_in_fallback setting.net (plan_now setting steps) fits guarded x above h a)))
      (ap not failed)

  no_device : (x : ℕ) (above : IsAbove setting.net (plan_now setting steps) x) (h : Hop) → backup_root_moved setting steps ≡ true
      → Among h (short_path setting.net (plan_now setting steps) x)
      → is_root (plan_now setting steps) h.parent ≡ false → device_failed_now steps h.parent ≡ true → ⊥
  no_device x above h has_moved a other failed =
      not_both (not (device_failed_now steps h.parent))
      (implied (backup_root_moved setting steps && has (fallback_devices setting.net (plan_now setting steps)) h.parent)
      (not (device_failed_now steps h.parent)) (devices h.parent)
      (and_from (backup_root_moved setting steps) _ has_moved (device_in_fallback setting.net (plan_now setting steps) fits guarded x above h a other)))
      (ap not failed)

  not_hit_otherwise : (x : ℕ) (above : IsAbove setting.net (plan_now setting steps) x) → backup_root_moved setting steps ≡ true → IsFound setting steps x → ⊥
  not_hit_otherwise x above has_moved f = by_kind (thing_of (plan_now setting steps) f.what (short_path setting.net (plan_now setting steps) x) f.among)
    where
      by_kind : IsOf (plan_now setting steps) f.what (short_path setting.net (plan_now setting steps) x) → ⊥
      by_kind i =
          elim i.is [
            | inl l ↦ no_link x above i.hop has_moved i.among (subst (λ y. is_among (failed_now steps) y ≡ true) l f.failed)
            | inr d ↦
                no_device x above i.hop has_moved i.among (subst (λ y. same_thing (thing.Device (plan_now setting steps).root) y ≡ false) d f.other)
                (subst (λ y. is_among (failed_now steps) y ≡ true) d f.failed)
          ]

  either_way : (hit_ other acts : Bool) → (hit_ && (other || acts)) ≡ true → acts ≡ false → other ≡ true
  either_way hit_ true acts clause idle = refl
  either_way true false true clause idle = cc
  either_way true false false clause idle = cc
  either_way false false acts clause idle = cc

  pub fallback_stay : (x : ℕ) → fallback_stays setting steps x ≡ true
  fallback_stay x =
      let plan = plan_now setting steps in
      from_absurd (backup_root_moved setting steps && not (backup_root_acts setting steps) && has (fallback_devices setting.net plan) x && is_old steps x)
      (moved steps x)
      (λ all has_moved.
      let one = and_parts (backup_root_moved setting steps && not (backup_root_acts setting steps) && has (fallback_devices setting.net plan) x)
      (is_old steps x) all in
      let two = and_parts (backup_root_moved setting steps && not (backup_root_acts setting steps)) (has (fallback_devices setting.net plan) x) one.0 in
      let three = and_parts (backup_root_moved setting steps) (not (backup_root_acts setting steps)) two.0 in
      let above : IsAbove setting.net plan x = above_when setting.net plan x (backup_of plan plan.backup_root) refl two.1 in
      let ordinary : is_ordinary plan x ≡ true =
      and_from (is_member plan x && not (is_root plan x)) (not (is_backup_root plan x))
      (and_from (is_member plan x) (not (is_root plan x)) (old_is_member setting steps x (outsiders x) one.1) (ap not above.other))
      (ap not (not_backup_root setting.net plan fits guarded x above)) in
      let cause : (hit setting steps x && (hit_otherwise setting steps x || backup_root_acts setting steps)) ≡ true =
      implied (is_old steps x && is_ordinary plan x && moved steps x) _ (caused x)
      (and_from (is_old steps x && is_ordinary plan x) (moved steps x) (and_from (is_old steps x) (is_ordinary plan x) one.1 ordinary) has_moved) in
      not_hit_otherwise x above three.0
      (found_of setting steps x
      (either_way (hit setting steps x) (hit_otherwise setting steps x) (backup_root_acts setting steps) cause
      (not-true (backup_root_acts setting steps) three.1))))
