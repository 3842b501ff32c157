-- What lies below a device, by number, is what the history says: those that are no members of a plan have nobody below them in it, since
-- each parent is a member.
use Rattle.std.specs.Prelude.{◌≡◌, ℕ, ◌<◌, ◌≤◌, Bool, true, false, ◌&&◌, ◌||◌, ◌-◌, List, [], ◌∷◌, length, filter_map, find, nat_eq, slice_get, get_or, Option, Some, None, is_some, option_map, IfSome, refl, if◌then◌else◌}
use Rattle.std.specs.List.{cons_option}
use Rattle.std.proofs.Common.{arith, sym, ◌∙◌, ap, subst, inl, inr}
use Rattle.std.proofs.lemmas.Bool.{and_parts, or_cases, eqb-true, false_from_ne_true}
use Rattle.std.proofs.lemmas.Option.{slice_get-get_or}
use Rattle.sd_num.specs.Lists.{map_or}
use Rattle.sd_num.proofs.Firsts.{find_below_none}
use Rattle.sd_plan.specs.topo.Network.{Network, device_numbers, link_numbers, joins}
use Rattle.sd_plan.specs.declared.Hop.{Hop}
use Rattle.sd_plan.specs.declared.Plan.{Plan}
use Rattle.sd_plan.specs.declared.End.{End}
use Rattle.sd_plan.specs.Plans.{Fits, IsHop, is_member, is_present, primary_of, backup_of}
use Rattle.sd_plan.specs.Structure.{hop_is_right}
use Rattle.sd_plan.specs.Duties.{duty_of, ends_of, leads_to, follows_over}
use Rattle.sd_plan.specs.Tables.{TableRow, table_row}
use Rattle.sd_plan.proofs.Rules.{KeepsRules, keeps_rules, hops_within}
use Rattle.sd_history.specs.World.{Setting, Seen, window, window_is_open, epoch_in_force, staged_epoch, in_force, staged, plan_numbered, no_plan}
use Rattle.sd_history.specs.Steps.{Step, seen_of, ends_at}
use Rattle.sd_world.specs.world.Registers.{is_open}
use Rattle.sd_world.specs.membership.Plans.{IsNumber, IsFollowable, AreSound, row_numbered}
use Rattle.sd_world.specs.membership.Memberships.{Registers, staged_number, ends_below}
use Rattle.sd_world.specs.membership.Standing.{Stands}
use Rattle.sd_world.proofs.membership.Queries.{plan_count, staged_number_is, row_numbered_is}

-- Nobody follows one that is no member

-- a right hop leads to a member
leads_to_member : (net : Network) (plan : Plan) (d l c : ℕ) (hop : Option Hop) → hop_is_right net plan c hop ≡ true → leads_to d l hop ≡ true
    → is_member plan d ≡ true
leads_to_member net plan d l c None right leads = cc
leads_to_member net plan d l c (Some h) right leads =
    let front = (and_parts (is_member plan h.parent && is_present plan h.link) (joins net h.link c h.parent) right).0 in
    subst (λ (x : ℕ). is_member plan x ≡ true) (eqb-true h.parent d (and_parts (nat_eq h.parent d) (nat_eq h.link l) leads).0)
    (and_parts (is_member plan h.parent) (is_present plan h.link) front).0

follows_member : (net : Network) (plan : Plan) (d l c : ℕ) → KeepsRules net plan → c < length net.devices → follows_over plan d l c ≡ true
    → is_member plan d ≡ true
follows_member net plan d l c rules within follows =
    let both = and_parts (hop_is_right net plan c (primary_of plan c)) (hop_is_right net plan c (backup_of plan c)) (rules.hops c within) in
    elim (or_cases (leads_to d l (primary_of plan c)) (leads_to d l (backup_of plan c)) follows) [
      | inl first ↦ leads_to_member net plan d l c (primary_of plan c) both.0 first
      | inr second ↦ leads_to_member net plan d l c (backup_of plan c) both.1 second
    ]

none_mapped : (f : ℕ → Option End) (ls : List ℕ) → ((l : ℕ) → f l ≡ None) → filter_map f ls ≡ []
none_mapped f [] none = refl
none_mapped f (l ∷ ls) none = ap (λ o. cons_option o (filter_map f ls)) (none l) ∙ none_mapped f ls none

-- so nothing lies below it
pub none_below : (net : Network) (plan : Plan) (d : ℕ) → KeepsRules net plan → is_member plan d ≡ false → ends_of net plan d ≡ []
none_below net plan d rules out =
    none_mapped (λ l. option_map (λ c. record { link = l; device = c }) (find (follows_over plan d l) (device_numbers net))) (link_numbers net)
    (λ l. ap (option_map (λ c. record { link = l; device = c }))
    (find_below_none (follows_over plan d l) (length net.devices)
    (λ c within. false_from_ne_true (follows_over plan d l c) (λ follows.
    let member : is_member plan d ≡ true = follows_member net plan d l c rules within follows in cc))))

-- nor does anything lie below a number that is no device's
leads_to_device : (net : Network) (d l : ℕ) (hop : Option Hop) → IfSome hop (IsHop net) → leads_to d l hop ≡ true → d < length net.devices
leads_to_device net d l None fits leads = cc
leads_to_device net d l (Some h) fits leads =
    let same : h.parent ≡ d = eqb-true h.parent d (and_parts (nat_eq h.parent d) (nat_eq h.link l) leads).0 in
    subst (λ (x : ℕ). x < length net.devices) same fits.0

follows_device : (net : Network) (plan : Plan) (d l c : ℕ) → Fits net plan → follows_over plan d l c ≡ true → d < length net.devices
follows_device net plan d l c fits follows =
    let both = hops_within net plan c fits in
    elim (or_cases (leads_to d l (primary_of plan c)) (leads_to d l (backup_of plan c)) follows) [
      | inl first ↦ leads_to_device net d l (primary_of plan c) both.0 first
      | inr second ↦ leads_to_device net d l (backup_of plan c) both.1 second
    ]

pub none_below_unknown : (net : Network) (plan : Plan) (d : ℕ) → Fits net plan → length net.devices ≤ d → ends_of net plan d ≡ []
none_below_unknown net plan d fits out =
    none_mapped (λ l. option_map (λ c. record { link = l; device = c }) (find (follows_over plan d l) (device_numbers net))) (link_numbers net)
    (λ l. ap (option_map (λ c. record { link = l; device = c }))
    (find_below_none (follows_over plan d l) (length net.devices)
    (λ c within. false_from_ne_true (follows_over plan d l c) (λ follows.
    let known : d < length net.devices = follows_device net plan d l c fits follows in omega (arith, known, out)))))

-- what the table has below a device
downstream_is : (net : Network) (plan : Plan) (epoch d : ℕ) → KeepsRules net plan
    → map_or (table_row net plan epoch d) [] (λ (row : TableRow). row.downstream) ≡ ends_of net plan d
downstream_is net plan epoch d rules = go (is_member plan d) refl
  where
    go : (b : Bool) → is_member plan d ≡ b
        → map_or (option_map (λ duty. record { duty = duty; downstream = ends_of net plan d }) (if b then Some (duty_of net plan epoch d) else None)) []
        (λ (row : TableRow). row.downstream) ≡ ends_of net plan d
    go true member = refl
    go false out = sym (none_below net plan d rules out)

module _ (r : Registers) (setting : Setting) (steps : List Step) (stands : Stands r setting steps) (plans : AreSound setting.net setting.plans) where
  abbrev seen : List Seen
  seen = seen_of steps

  -- a plan that there is can be followed
  pub followable : (epoch : ℕ) → IsNumber r.plans epoch → IsFollowable setting.net (plan_numbered setting epoch)
  followable epoch there =
      let within : epoch - 1 < length setting.plans = omega (arith, plan_count r setting steps stands, there.first, there.last) in
      let it : slice_get setting.plans (epoch - 1) ≡ Some (get_or setting.plans (epoch - 1) no_plan) =
      slice_get-get_or setting.plans (epoch - 1) no_plan within in
      subst (λ o. IsFollowable setting.net (map_or o no_plan (λ plan. plan))) (sym it) (plans (epoch - 1) (get_or setting.plans (epoch - 1) no_plan) it)

  -- and keeps the rules
  keeps : (epoch : ℕ) → IsNumber r.plans epoch → KeepsRules setting.net (plan_numbered setting epoch)
  keeps epoch there = keeps_rules setting.net (plan_numbered setting epoch) (followable epoch there).structured

  -- below a device in a plan that there is
  below_in : (epoch d : ℕ) → IsNumber r.plans epoch → d < length setting.net.devices
      → map_or (row_numbered r.plans epoch d) [] (λ (row : TableRow). row.downstream) ≡ ends_of setting.net (plan_numbered setting epoch) d
  below_in epoch d there within =
      ap (λ o. map_or o [] (λ (row : TableRow). row.downstream)) (row_numbered_is r setting steps stands epoch d there within)
      ∙ downstream_is setting.net (plan_numbered setting epoch) epoch d (keeps epoch there)

  -- what lies below a device in a plan, where this is in force or staged
  pub ends_below_is : (epoch d : ℕ) → d < length setting.net.devices → ends_below r epoch d ≡ ends_at setting steps epoch d
  ends_below_is epoch d within =
      ap (λ n. if nat_eq epoch n || (nat_eq epoch (staged_number r) && is_open r.world.window) then row else []) stands.world.epoch
      ∙ ap (λ n. if nat_eq epoch (epoch_in_force seen) || (nat_eq epoch n && is_open r.world.window) then row else []) (staged_number_is r setting steps stands)
      ∙ ap (λ b. if nat_eq epoch (epoch_in_force seen) || (nat_eq epoch (staged_epoch seen) && b) then row else []) stands.world.open_window
      ∙ by (nat_eq epoch (epoch_in_force seen)) refl
    where
      row : List End
      row = map_or (row_numbered r.plans epoch d) [] (λ (x : TableRow). x.downstream)

      by_window : epoch ≡ staged_epoch seen → (w : Option (List Seen)) → window seen ≡ w
          → (if is_some w then row else []) ≡ map_or (option_map (λ x. plan_numbered setting (staged_epoch seen)) w) [] (λ plan. ends_of setting.net plan d)
      by_window here None none = refl
      by_window here (Some x) some =
          let open_ : is_open r.world.window ≡ true = stands.world.open_window ∙ ap is_some some in
          let number : epoch ≡ staged_number r = here ∙ sym (staged_number_is r setting steps stands) in
          below_in epoch d (subst (IsNumber r.plans) (sym number) (stands.sound.staged open_)) within
          ∙ ap (λ n. ends_of setting.net (plan_numbered setting n) d) here

      second : (b : Bool) → nat_eq epoch (staged_epoch seen) ≡ b
          → (if b && window_is_open seen then row else []) ≡ map_or (if b then staged setting seen else None) [] (λ plan. ends_of setting.net plan d)
      second true here = by_window (eqb-true epoch (staged_epoch seen) here) (window seen) refl
      second false other = refl

      by : (b : Bool) → nat_eq epoch (epoch_in_force seen) ≡ b
          → (if b || (nat_eq epoch (staged_epoch seen) && window_is_open seen) then row else [])
          ≡ map_or (if b then Some (in_force setting seen) else if nat_eq epoch (staged_epoch seen) then staged setting seen else None) []
          (λ plan. ends_of setting.net plan d)
      by true here =
          let same : epoch ≡ epoch_in_force seen = eqb-true epoch (epoch_in_force seen) here in
          let number : epoch ≡ r.world.epoch = same ∙ sym stands.world.epoch in
          below_in epoch d (subst (IsNumber r.plans) (sym number) stands.sound.in_force) within
          ∙ ap (λ n. ends_of setting.net (plan_numbered setting n) d) same
      by false other = second (nat_eq epoch (staged_epoch seen)) refl
