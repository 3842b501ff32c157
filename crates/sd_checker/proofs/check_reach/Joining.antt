-- What is joined to the acting end for sure, and what a search finds out.
use Rattle.std.specs.Prelude.{◌≡◌, ℕ, zero, suc, ◌+◌, ◌<◌, ◌≤◌, Bool, true, false, ◌&&◌, not, List, [], ◌∷◌, ◌++◌, length, nat_eq, slice_get, filter_map, Option, Some, None, if◌then◌else◌, ◌⊎◌}
use Rattle.std.proofs.Common.{refl, sym, ap, ◌∙◌, subst, arith, inl, inr, get_or}
use Rattle.std.proofs.lemmas.Bool.{and_parts, and_from, or_left, or_right, or_cases, cases_lt, eqb-true, eq-eqb, both_ways, not-true, false_from_ne_true}
use Rattle.std.proofs.lemmas.Option.{slice_get-get_or, slice_get_within, same_Some, cond_some}
use Rattle.std.specs.List.{cons_option}
use Rattle.sd_plan.specs.domain.NumberSets.{with_number}
use Rattle.sd_num.specs.Lists.{has}
use Rattle.sd_plan.specs.topo.Network.{Network, joins, link_of, link_numbers}
use Rattle.sd_plan.specs.topo.Limits.{IsNetwork, IsLink}
use Rattle.sd_plan.specs.topo.Places.{is_end_of}
use Rattle.sd_plan.specs.topo.Joined.{Joined, here, over}
use Rattle.sd_plan.proofs.topo.Laws.{link_law, joined_end}
use Rattle.sd_plan.specs.domain.Domains.{holds_device, holds_link}
use Rattle.sd_plan.specs.declared.domain.DomainId.{DomainId}
use Rattle.sd_plan.specs.declared.Plan.{Plan}
use Rattle.sd_plan.specs.declared.End.{End}
use Rattle.sd_plan.specs.IndexedPlan.{usable_end, usable_ends, other_end}
use Rattle.sd_plan.specs.Plans.{Fits, is_member, is_present, is_root, is_backup_root}
use Rattle.sd_plan.specs.Structure.{structure_breach}
use Rattle.sd_plan.specs.Walks.{is_hit}
use Rattle.sd_plan.proofs.Rules.{KeepsRules}
use Rattle.sd_checker.specs.check_reach.Reach.{acting_end, is_sound, is_sound_link}
use Rattle.sd_checker.specs.check_reach.Reached.{Reaches, BackupReaches, Grows, LeadsInto, IsDry, IsStep, IsPassed, is_left}
use Rattle.sd_checker.proofs.check_reach.Closed.{joined_within_set}
use Rattle.sd_num.proofs.Places.{has_at, at_has, has_last, has_before, has_cases, at_before, has_below, below_has}
use Rattle.sd_checker.proofs.check_reach.Walked.{Ends, unhit_ends}
use Rattle.sd_checker.proofs.check_reach.Shared.{joined_on}

module _ (net : Network) (plan : Plan) (domain : DomainId) where
  -- a sound root acts
  root_acts : (d : ℕ) → is_root plan d ≡ true → is_sound net plan domain d ≡ true → acting_end net plan domain ≡ d
  root_acts d root sound =
      let same : plan.root ≡ d = eqb-true plan.root d root in
      let out : holds_device net domain plan.root ≡ false =
      subst (λ x. holds_device net domain x ≡ false) (sym same)
      (not-true (holds_device net domain d) (and_parts (is_member plan d) (not (holds_device net domain d)) sound).1) in
      ap (λ (b : Bool). if b then plan.backup_root else plan.root) out ∙ same

  -- a sound device that is not hit is joined to the acting end where the backup root is, if that is sound
  pub sure_reaches : (d : ℕ) → Fits net plan → structure_breach net plan ≡ None → KeepsRules net plan → d < length net.devices
      → is_sound net plan domain d ≡ true → is_hit net plan domain d ≡ false
      → BackupReaches net plan domain → Reaches net plan domain d
  sure_reaches d fits structured rules within sound spared trust =
      let ends : Ends net plan domain d =
      unhit_ends net plan domain d fits structured rules within (and_parts (is_member plan d) (not (holds_device net domain d)) sound).0 spared in
      let sound_end : is_sound net plan domain ends.at ≡ true = ends.arrives.sound sound in
      elim (or_cases (is_root plan ends.at) (is_backup_root plan ends.at) ends.is_end) [
        | inl root ↦ subst (λ x. Joined net (is_sound net plan domain) (is_sound_link net plan domain) d x)
            (sym (root_acts ends.at root sound_end)) ends.arrives.way
        | inr backup ↦
            (let same : plan.backup_root ≡ ends.at = eqb-true plan.backup_root ends.at backup in
            let on : Reaches net plan domain plan.backup_root = trust.reaches (subst (λ x. is_sound net plan domain x ≡ true) (sym same) sound_end) in
            joined_on ends.arrives.way (subst (λ x. Reaches net plan domain x) same on))
      ]

  -- a backup root that the domain has is not sound
  pub held_backup : holds_device net domain plan.backup_root ≡ true → BackupReaches net plan domain
  held_backup held = record {
    reaches = λ sound. absurd
        (both_ways (holds_device net domain plan.backup_root)
        (not-true (holds_device net domain plan.backup_root)
        (and_parts (is_member plan plan.backup_root) (not (holds_device net domain plan.backup_root)) sound).1) held);
  }

  -- a backup root that is not hit is joined to the acting end
  pub unhit_backup : Fits net plan → structure_breach net plan ≡ None → KeepsRules net plan → is_hit net plan domain plan.backup_root ≡ false
      → BackupReaches net plan domain
  unhit_backup fits structured rules spared = record { reaches = by_root (is_root plan plan.backup_root) refl }
    where
      by_root : (b : Bool) → is_root plan plan.backup_root ≡ b → is_sound net plan domain plan.backup_root ≡ true → Reaches net plan domain plan.backup_root
      by_root true root sound =
          subst (λ x. Joined net (is_sound net plan domain) (is_sound_link net plan domain) plan.backup_root x)
          (sym (root_acts plan.backup_root root sound)) here
      by_root false other sound =
          let ends : Ends net plan domain plan.backup_root =
          unhit_ends net plan domain plan.backup_root fits structured rules fits.backup_root
          (and_parts (is_member plan plan.backup_root) (not (holds_device net domain plan.backup_root)) sound).0 spared in
          elim (or_cases (is_root plan ends.at) (is_backup_root plan ends.at) ends.is_end) [
            | inl root ↦ subst (λ x. Joined net (is_sound net plan domain) (is_sound_link net plan domain) plan.backup_root x)
                (sym (root_acts ends.at root (ends.arrives.sound sound))) ends.arrives.way
            | inr backup ↦ absurd (ends.apart refl other (sym (eqb-true plan.backup_root ends.at backup)))
          ]

  -- nobody that a dry search has visited is joined to the acting end
  pub dry_cut : (visited : List ℕ) (d : ℕ) → IsDry net plan domain visited → has visited d ≡ true → ¬ Reaches net plan domain d
  dry_cut visited d dry there reaches =
      both_ways (has visited (acting_end net plan domain)) dry.lacks
      (joined_within_set (λ x. has visited x ≡ true)
      (λ x e l in_range crosses joined passes inside. (dry.closed x inside).into e l in_range crosses joined passes) reaches there)

  -- more visited
  pub leads_into_more : (old new : List ℕ) (d : ℕ) → ((x : ℕ) → has old x ≡ true → has new x ≡ true) → LeadsInto net plan domain old d
      → LeadsInto net plan domain new d
  leads_into_more old new d more leads = record { into = λ e l in_range crosses joined passes. more e (leads.into e l in_range crosses joined passes) }

-- a list grows into itself
pub grows_same : (xs : List ℕ) (P : ℕ → Type 0) → Grows xs xs P
grows_same xs P = record { kept = λ i x at. at; had = λ x there. there; added = λ x there. inl there }

pub grows_on : (xs ys zs : List ℕ) (P Q R : ℕ → Type 0) → Grows xs ys P → Grows ys zs Q → ((x : ℕ) → P x → R x) → ((x : ℕ) → Q x → R x) → Grows xs zs R
grows_on xs ys zs P Q R first second by_first by_second =
    record {
      kept = λ i x at. second.kept i x (first.kept i x at);
      had = λ x there. second.had x (first.had x there);
      added = λ x there. elim (second.added x there) [
        | inl before ↦ elim (first.added x before) [ inl a ↦ inl a | inr b ↦ inr (by_first x b) ]
        | inr new ↦ inr (by_second x new)
      ];
    }

-- a list grows by a number
pub grows_insert : (xs : List ℕ) (y : ℕ) (P : ℕ → Type 0) → P y → Grows xs (with_number xs y) P
grows_insert xs y P allowed = by (has xs y)
  where
    by : (b : Bool) → Grows xs (if b then xs else xs ++ y ∷ []) P
    by true = grows_same xs P
    by false = record {
      kept = λ i x at. at_before xs y i x at;
      had = λ x there. has_before xs y x there;
      added = λ x there. elim (has_cases xs y x there) [ inl a ↦ inl a | inr same ↦ inr (subst P (sym same) allowed) ];
    }

pub has_insert : (xs : List ℕ) (y : ℕ) → has (with_number xs y) y ≡ true
has_insert xs y = by (has xs y) refl
  where
    by : (b : Bool) → has xs y ≡ b → has (if b then xs else xs ++ y ∷ []) y ≡ true
    by true there = there
    by false out = has_last xs y

-- what a filter_map has of a number
pub mapped_at : {X : Type 0} (h : ℕ → Option X) (xs : List ℕ) (x : ℕ) (y : X) → has xs x ≡ true → h x ≡ Some y
    → (j : ℕ) × (slice_get (filter_map h xs) j ≡ Some y)
mapped_at h [] x y there is = cc
mapped_at {X} h (z ∷ zs) x y there is = by (h z) refl (or_cases (nat_eq x z) (has zs x) there) (λ later. mapped_at h zs x y later is)
  where
    by : (o : Option X) → h z ≡ o → (nat_eq x z ≡ true) ⊎ (has zs x ≡ true) → (has zs x ≡ true → (j : ℕ) × (slice_get (filter_map h zs) j ≡ Some y))
        → (j : ℕ) × (slice_get (cons_option o (filter_map h zs)) j ≡ Some y)
    by None it (inl same) rest = let lost : ◌≡◌ {A = Option X} None (Some y) = sym it ∙ ap h (sym (eqb-true x z same)) ∙ is in cc
    by None it (inr later) rest = rest later
    by (Some v) it (inl same) rest = (0, sym it ∙ ap h (sym (eqb-true x z same)) ∙ is)
    by (Some v) it (inr later) rest = let more : (j : ℕ) × (slice_get (filter_map h zs) j ≡ Some y) = rest later in (suc more.0, more.1)

pub mapped_from : {X : Type 0} (h : ℕ → Option X) (xs : List ℕ) (j : ℕ) (y : X) → slice_get (filter_map h xs) j ≡ Some y
    → (x : ℕ) × (has xs x ≡ true) × (h x ≡ Some y)
mapped_from h [] j y at = cc
mapped_from {X} h (z ∷ zs) j y at = by (h z) refl j at (mapped_from h zs)
  where
    by : (o : Option X) → h z ≡ o → (j : ℕ) → slice_get (cons_option o (filter_map h zs)) j ≡ Some y
        → ((j : ℕ) (y : X) → slice_get (filter_map h zs) j ≡ Some y → (x : ℕ) × (has zs x ≡ true) × (h x ≡ Some y))
        → (x : ℕ) × (has (z ∷ zs) x ≡ true) × (h x ≡ Some y)
    by None it j at rest = let more : (x : ℕ) × (has zs x ≡ true) × (h x ≡ Some y) = rest j y at in
        (more.0, or_right (nat_eq more.0 z) (has zs more.0) more.1, more.2)
    by (Some v) it zero at rest = (z, or_left (nat_eq z z) (has zs z) (eq-eqb z z refl), it ∙ at)
    by (Some v) it (suc j) at rest = let more : (x : ℕ) × (has zs x ≡ true) × (h x ≡ Some y) = rest j y at in
        (more.0, or_right (nat_eq more.0 z) (has zs more.0) more.1, more.2)

-- a usable link of a device, with its other end
pub record IsUsable (net : Network) (plan : Plan) (d : ℕ) (end : End) : Type 0 where
  pub link : end.link < length net.links
  pub present : is_present plan end.link ≡ true
  pub joined : joins net end.link d end.device ≡ true
  pub member : is_member plan end.device ≡ true
  pub device : end.device < length net.devices

module _ (net : Network) (plan : Plan) (d : ℕ) where
  -- the link joins the device to its other end
  other_joined : (l : ℕ) → is_end_of (link_of net l) d ≡ true → joins net l d (other_end (link_of net l) d) ≡ true
  other_joined l ends = by (nat_eq d (link_of net l).end_a) refl
    where
      by : (b : Bool) → nat_eq d (link_of net l).end_a ≡ b → joins net l d (if b then (link_of net l).end_b else (link_of net l).end_a) ≡ true
      by true first =
          or_left (nat_eq (link_of net l).end_a d && nat_eq (link_of net l).end_b (link_of net l).end_b)
          (nat_eq (link_of net l).end_a (link_of net l).end_b && nat_eq (link_of net l).end_b d)
          (and_from (nat_eq (link_of net l).end_a d) (nat_eq (link_of net l).end_b (link_of net l).end_b)
          (eq-eqb (link_of net l).end_a d (sym (eqb-true d (link_of net l).end_a first))) (eq-eqb (link_of net l).end_b (link_of net l).end_b refl))
      by false other = elim (or_cases (nat_eq d (link_of net l).end_a) (nat_eq d (link_of net l).end_b) ends) [
        | inl first ↦ absurd (both_ways (nat_eq d (link_of net l).end_a) other first)
        | inr second ↦
            or_right (nat_eq (link_of net l).end_a d && nat_eq (link_of net l).end_b (link_of net l).end_a)
            (nat_eq (link_of net l).end_a (link_of net l).end_a && nat_eq (link_of net l).end_b d)
            (and_from (nat_eq (link_of net l).end_a (link_of net l).end_a) (nat_eq (link_of net l).end_b d)
            (eq-eqb (link_of net l).end_a (link_of net l).end_a refl) (eq-eqb (link_of net l).end_b d (sym (eqb-true d (link_of net l).end_b second))))
      ]

  -- the other end is the device that the link joins it to
  joined_other : (l e : ℕ) → joins net l d e ≡ true → other_end (link_of net l) d ≡ e
  joined_other l e joined =
      by (nat_eq d (link_of net l).end_a) refl
      (or_cases (nat_eq (link_of net l).end_a d && nat_eq (link_of net l).end_b e) (nat_eq (link_of net l).end_a e && nat_eq (link_of net l).end_b d) joined)
    where
      by : (b : Bool) → nat_eq d (link_of net l).end_a ≡ b
          → ((nat_eq (link_of net l).end_a d && nat_eq (link_of net l).end_b e) ≡ true)
          ⊎ ((nat_eq (link_of net l).end_a e && nat_eq (link_of net l).end_b d) ≡ true)
          → (if b then (link_of net l).end_b else (link_of net l).end_a) ≡ e
      by true first (inl forth) = let p : (nat_eq (link_of net l).end_a d ≡ true) × (nat_eq (link_of net l).end_b e ≡ true) =
          and_parts (nat_eq (link_of net l).end_a d) (nat_eq (link_of net l).end_b e) forth in eqb-true (link_of net l).end_b e p.1
      by true first (inr back) =
          let p : (nat_eq (link_of net l).end_a e ≡ true) × (nat_eq (link_of net l).end_b d ≡ true) =
          and_parts (nat_eq (link_of net l).end_a e) (nat_eq (link_of net l).end_b d) back in
          eqb-true (link_of net l).end_b d p.1 ∙ eqb-true d (link_of net l).end_a first ∙ eqb-true (link_of net l).end_a e p.0
      by false other (inl forth) =
          let p : (nat_eq (link_of net l).end_a d ≡ true) × (nat_eq (link_of net l).end_b e ≡ true) =
          and_parts (nat_eq (link_of net l).end_a d) (nat_eq (link_of net l).end_b e) forth in
          absurd (both_ways (nat_eq d (link_of net l).end_a) other (eq-eqb d (link_of net l).end_a (sym (eqb-true (link_of net l).end_a d p.0))))
      by false other (inr back) = let p : (nat_eq (link_of net l).end_a e ≡ true) × (nat_eq (link_of net l).end_b d ≡ true) =
          and_parts (nat_eq (link_of net l).end_a e) (nat_eq (link_of net l).end_b d) back in eqb-true (link_of net l).end_a e p.0

  other_within : (l : ℕ) → IsLink (length net.devices) (link_of net l) → other_end (link_of net l) d < length net.devices
  other_within l law = by (nat_eq d (link_of net l).end_a)
    where
      by : (b : Bool) → (if b then (link_of net l).end_b else (link_of net l).end_a) < length net.devices
      by true = law.second
      by false = law.first

  -- each usable link of the list is one
  pub usable_from : IsNetwork net → (j : ℕ) (end : End) → slice_get (usable_ends net plan d) j ≡ Some end → IsUsable net plan d end
  usable_from law j end at =
      let found : (l : ℕ) × (has (link_numbers net) l ≡ true) × (usable_end net plan d l ≡ Some end) =
      mapped_from (usable_end net plan d) (link_numbers net) j end at in
      let l : ℕ = found.0 in
      let within : l < length net.links = below_has (length net.links) l found.1 in
      let tested =
      cond_some (is_end_of (link_of net l) d && is_present plan l && is_member plan (other_end (link_of net l) d))
      (record { link = l; device = other_end (link_of net l) d }) end found.2 in
      let first : ((is_end_of (link_of net l) d && is_present plan l) ≡ true) × (is_member plan (other_end (link_of net l) d) ≡ true) =
      and_parts (is_end_of (link_of net l) d && is_present plan l) (is_member plan (other_end (link_of net l) d)) tested.0 in
      let second : (is_end_of (link_of net l) d ≡ true) × (is_present plan l ≡ true) = and_parts (is_end_of (link_of net l) d) (is_present plan l) first.0 in
      subst (λ (e : End). IsUsable net plan d e) tested.1 (record {
        link = within;
        present = second.1;
        joined = other_joined l second.0;
        member = first.1;
        device = other_within l (link_law net l law within);
      })

  -- each usable link is in the list
  pub usable_to : (l e : ℕ) → l < length net.links → is_present plan l ≡ true → is_member plan e ≡ true → joins net l d e ≡ true
      → (j : ℕ) × (slice_get (usable_ends net plan d) j ≡ Some (record { link = l; device = e }))
  usable_to l e within present member joined =
      let other : other_end (link_of net l) d ≡ e = joined_other l e joined in
      let tests : (is_end_of (link_of net l) d && is_present plan l && is_member plan (other_end (link_of net l) d)) ≡ true =
      and_from (is_end_of (link_of net l) d && is_present plan l) (is_member plan (other_end (link_of net l) d))
      (and_from (is_end_of (link_of net l) d) (is_present plan l) (joined_end net l d e joined) present)
      (subst (λ x. is_member plan x ≡ true) (sym other) member) in
      let is : usable_end net plan d l ≡ Some (record { link = l; device = e }) =
      ap (λ (b : Bool). if b then Some (record { link = l; device = other_end (link_of net l) d }) else None) tests
      ∙ ap (λ (x : ℕ). Some (record { link = l; device = x })) other in
      mapped_at (usable_end net plan d) (link_numbers net) l (record { link = l; device = e }) (has_below (length net.links) l within) is

-- the acting end is joined to itself
pub itself : (net : Network) (plan : Plan) (domain : DomainId) (d : ℕ) → d ≡ acting_end net plan domain → Reaches net plan domain d
itself net plan domain d same = subst (λ x. Joined net (is_sound net plan domain) (is_sound_link net plan domain) d x) same here

module _ (net : Network) (plan : Plan) (domain : DomainId) where
  -- a hop that is left leads from a device to one that is joined
  pub over_left : (d : ℕ) (end : End) → IsUsable net plan d end → is_left net domain end.link end.device ≡ true → Reaches net plan domain end.device
      → Reaches net plan domain d
  over_left d end usable left reaches =
      let parts : (not (holds_link net domain end.link) ≡ true) × (not (holds_device net domain end.device) ≡ true) =
      and_parts (not (holds_link net domain end.link)) (not (holds_device net domain end.device)) left in
      over end.link usable.link (and_from (is_present plan end.link) (not (holds_link net domain end.link)) usable.present parts.0) usable.joined
      (and_from (is_member plan end.device) (not (holds_device net domain end.device)) usable.member parts.1) reaches

  -- the end of a usable link that is left is a step
  pub passed_step : (d : ℕ) (end : End) (x : ℕ) → IsUsable net plan d end → IsPassed net plan domain end.link end.device x → IsStep net plan domain d x
  passed_step d end x usable passed =
      subst (λ y. IsStep net plan domain d y) (sym passed.same)
      (record { within = usable.device; other = passed.other; back = over_left d end usable passed.left })

  -- one end more was looked at
  pub looked_more : (d k : ℕ) (items : List End) (end : End) (old visited new : List ℕ) → slice_get items k ≡ Some end → IsUsable net plan d end
      → Grows old visited (IsStep net plan domain d) → Grows visited new (IsPassed net plan domain end.link end.device)
      → Grows old new (IsStep net plan domain d)
  looked_more d k items end old visited new at usable before after =
      grows_on old visited new (IsStep net plan domain d) (IsPassed net plan domain end.link end.device) (IsStep net plan domain d) before after
      (λ x step. step) (λ x passed. passed_step d end x usable passed)

  pub passed_more : (k : ℕ) (items : List End) (end : End) (visited new : List ℕ) → slice_get items k ≡ Some end
      → ((x : ℕ) → has visited x ≡ true → has new x ≡ true)
      → (is_left net domain end.link end.device ≡ true → has new end.device ≡ true)
      → ((j : ℕ) (e : End) → j < k → slice_get items j ≡ Some e → is_left net domain e.link e.device ≡ true → has visited e.device ≡ true)
      → (j : ℕ) (e : End) → j < k + 1 → slice_get items j ≡ Some e → is_left net domain e.link e.device ≡ true → has new e.device ≡ true
  passed_more k items end visited new at had now before j e within there left =
      elim (cases_lt j k) [
        | inl less ↦ had e.device (before j e less there left)
        | inr most ↦
            (let same : j ≡ k = omega arith in
            let equal : end ≡ e = same_Some end e (sym at ∙ subst (λ i. slice_get items i ≡ Some e) same there) in
            subst (λ (x : End). has new x.device ≡ true) equal (now (subst (λ (x : End). is_left net domain x.link x.device ≡ true) (sym equal) left)))
      ]

  -- all ends were looked at
  pub all_around : (d : ℕ) (items : List End) (visited : List ℕ) → items ≡ usable_ends net plan d
      → ((j : ℕ) (e : End) → j < length items → slice_get items j ≡ Some e → is_left net domain e.link e.device ≡ true → has visited e.device ≡ true)
      → LeadsInto net plan domain visited d
  all_around d items visited are each = record { into = λ e l within crosses joined passes. by e l within crosses joined passes }
    where
      by : (e l : ℕ) → l < length net.links → is_sound_link net plan domain l ≡ true → joins net l d e ≡ true → is_sound net plan domain e ≡ true
          → has visited e ≡ true
      by e l within crosses joined passes =
          let link : (is_present plan l ≡ true) × (not (holds_link net domain l) ≡ true) =
          and_parts (is_present plan l) (not (holds_link net domain l)) crosses in
          let device : (is_member plan e ≡ true) × (not (holds_device net domain e) ≡ true) =
          and_parts (is_member plan e) (not (holds_device net domain e)) passes in
          let end : End = record { link = l; device = e } in
          let place : (j : ℕ) × (slice_get (usable_ends net plan d) j ≡ Some end) = usable_to net plan d l e within link.0 device.0 joined in
          let there : slice_get items place.0 ≡ Some end = subst (λ (xs : List End). slice_get xs place.0 ≡ Some end) (sym are) place.1 in
          each place.0 end (slice_get_within items place.0 end there) there
          (and_from (not (holds_link net domain l)) (not (holds_device net domain e)) link.1 device.1)

-- a search from a device, of which the first places are done
pub record IsSearching (net : Network) (plan : Plan) (domain : DomainId) (from done : ℕ) (visited : List ℕ) : Type 0 where
  pub within : (x : ℕ) → has visited x ≡ true → x < length net.devices
  pub lacks : has visited (acting_end net plan domain) ≡ false
  pub back : (x : ℕ) → has visited x ≡ true → Reaches net plan domain x → Reaches net plan domain from
  pub closed : (i x : ℕ) → i < done → slice_get visited i ≡ Some x → LeadsInto net plan domain visited x
  pub begun : has visited from ≡ true

module _ (net : Network) (plan : Plan) (domain : DomainId) (from : ℕ) where
  -- it begins with what earlier searches visited
  pub search_begins : (old : List ℕ) → IsDry net plan domain old → from < length net.devices → (from ≡ acting_end net plan domain → ⊥)
      → IsSearching net plan domain from (length old) (with_number old from)
  search_begins old dry inside other =
      let grown : Grows old (with_number old from) (λ x. x ≡ from) = grows_insert old from (λ x. x ≡ from) refl in
      record {
        within = λ x there. elim (grown.added x there) [ inl a ↦ dry.within x a | inr same ↦ subst (λ y. y < length net.devices) (sym same) inside ];
        lacks = false_from_ne_true (has (with_number old from) (acting_end net plan domain)) (λ there. elim (grown.added (acting_end net plan domain) there) [
          | inl a ↦ both_ways (has old (acting_end net plan domain)) dry.lacks a
          | inr same ↦ other (sym same)
        ]);
        back = λ x there reaches. elim (grown.added x there) [
          | inl a ↦ absurd (dry_cut net plan domain old x dry a reaches)
          | inr same ↦ subst (λ y. Reaches net plan domain y) same reaches
        ];
        closed = λ i x within at.
            let was : slice_get old i ≡ Some (get_or old i x) = slice_get-get_or old i x within in
            let same : get_or old i x ≡ x = same_Some (get_or old i x) x (sym (grown.kept i (get_or old i x) was) ∙ at) in
            leads_into_more net plan domain old (with_number old from) x grown.had (dry.closed x (has_at old i x (was ∙ ap Some same)));
        begun = has_insert old from;
      }

  -- one place more is done
  pub search_more : (done d : ℕ) (visited new : List ℕ) → IsSearching net plan domain from done visited → done < length visited
      → slice_get visited done ≡ Some d → Grows visited new (IsStep net plan domain d) → LeadsInto net plan domain new d
      → IsSearching net plan domain from (done + 1) new
  search_more done d visited new known inside at grown around =
      record {
        within = λ x there. elim (grown.added x there) [ inl a ↦ known.within x a | inr step ↦ step.within ];
        lacks = false_from_ne_true (has new (acting_end net plan domain)) (λ there. elim (grown.added (acting_end net plan domain) there) [
          | inl a ↦ both_ways (has visited (acting_end net plan domain)) known.lacks a
          | inr step ↦ step.other refl
        ]);
        back = λ x there reaches. elim (grown.added x there) [
          | inl a ↦ known.back x a reaches
          | inr step ↦ known.back d (has_at visited done d at) (step.back reaches)
        ];
        closed = λ i x within there. elim (cases_lt i done) [
          | inl less ↦
              (let was : slice_get visited i ≡ Some (get_or visited i x) = slice_get-get_or visited i x (omega arith) in
              let same : get_or visited i x ≡ x = same_Some (get_or visited i x) x (sym (grown.kept i (get_or visited i x) was) ∙ there) in
              leads_into_more net plan domain visited new x grown.had (known.closed i x less (was ∙ ap Some same)))
          | inr most ↦
              (let equal : i ≡ done = omega arith in
              let same : d ≡ x = same_Some d x (sym (grown.kept done d at) ∙ subst (λ j. slice_get new j ≡ Some x) equal there) in
              subst (λ y. LeadsInto net plan domain new y) same around)
        ];
        begun = grown.had from known.begun;
      }

  -- all places are done
  pub search_ends : (done : ℕ) (visited : List ℕ) → IsSearching net plan domain from done visited → length visited ≤ done → IsDry net plan domain visited
  search_ends done visited known all =
      record {
        within = known.within;
        lacks = known.lacks;
        closed = λ d there.
            let place : (i : ℕ) × (slice_get visited i ≡ Some d) = at_has visited d there in
            let inside = slice_get_within visited place.0 d place.1 in
            known.closed place.0 d (omega arith) place.1;
      }

-- a number that is there, and one that is new
pub insert_old : (xs : List ℕ) (y : ℕ) → has xs y ≡ true → with_number xs y ≡ xs
insert_old xs y there = ap (λ (b : Bool). if b then xs else xs ++ y ∷ []) there

pub insert_new : (xs : List ℕ) (y : ℕ) → has xs y ≡ false → with_number xs y ≡ xs ++ y ∷ []
insert_new xs y out = ap (λ (b : Bool). if b then xs else xs ++ y ∷ []) out
