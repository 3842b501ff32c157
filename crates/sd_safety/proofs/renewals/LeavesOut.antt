-- A commit leaves out rightly (C9 g): a member that is up and left out by the staged plan is hit, and neither root nor backup root; or some member of the first
-- plan is untouched
-- and has still time to start. For where nothing of its cut path failed, that joins it to the root or the backup root; the backup root is joined to a root that
-- lives, by its path
-- or where that is hit by its fallback; and renewal asks that nobody is left out who is joined to the staged root.
use Rattle.std.specs.Prelude.{◌≡◌, ℕ, zero, suc, ◌<◌, Bool, true, false, ◌&&◌, not, List, [], ◌∷◌, length, nat_eq, nat_lt, Option, Some, None, option_map, refl, ◌⊎◌, if◌then◌else◌}
use Rattle.std.specs.List.{list_any, list_all}
use Rattle.std.proofs.Common.{IfSome, ◌∙◌, ap, sym, subst, inl, inr}
use Rattle.std.proofs.lemmas.Bool.{and_parts, and_from, or_left, or_right, or_parts, or_from, eqb-true, eq-eqb, false_from_ne_true, lt-ltb, ltb-true, not-true, not-false, or_cases}
use Rattle.sd_num.specs.Lists.{map_or, same_number, has}
use Rattle.sd_plan.specs.topo.Network.{Network, joins, device_numbers}
use Rattle.sd_plan.specs.topo.Joined.{Joined, here, over, joined_within}
use Rattle.sd_plan.specs.declared.topo.Thing.{Thing}
use Rattle.sd_plan.specs.declared.topo.Thing.TheVariants as thing
use Rattle.sd_plan.specs.domain.Domains.{holds_device, holds_link}
use Rattle.sd_plan.specs.declared.Hop.{Hop}
use Rattle.sd_plan.specs.declared.Plan.{Plan}
use Rattle.sd_plan.specs.Plans.{is_member, is_present, is_root, is_backup_root, primary_of, backup_of, IsHop}
use Rattle.sd_plan.specs.Walks.{hops, walk, path, things_of, devices_of, end_of, ends_walks}
use Rattle.sd_plan.specs.Structure.{hop_is_right}
use Rattle.sd_plan.proofs.Rules.{keeps_rules, hops_within}
use Rattle.sd_checker.specs.check_root.Roots.{fallback_devices, fallback_links}
use Rattle.sd_safety.specs.invariant.Guarded.{IsGuarded}
use Rattle.sd_checker.proofs.check_reach.Shared.{joined_on, end_ends}
use Rattle.sd_sched.specs.declared.Event.{Event}
use Rattle.sd_sched.specs.declared.Event.TheVariants as event
use Rattle.sd_sched.specs.Events.{joined, is_stage}
use Rattle.sd_history.specs.World.{Setting, Seen, is_up, was_made, has_ever_failed, is_untouched, link_has_failed, has_commit, window, is_staged_member, joined_in_window, plan_numbered}
use Rattle.sd_history.specs.Steps.{Step, seen_of}
use Rattle.sd_history.specs.Chronicle.{chronicle, next_step}
use Rattle.sd_history.specs.Admitted.{IsAdmitted}
use Rattle.sd_history.proofs.Among.{all_pass, passes, any_passing}
use Rattle.sd_history.proofs.Clear.{clear}
use Rattle.sd_history.proofs.Known.{admitted_up_is_known}
use Rattle.sd_history.proofs.Shared.{among_below}
use Rattle.sd_safety.specs.invariant.Eras.{era, plan_now, failed_now, device_failed_now, link_failed_now, is_among, touches, belongs, is_ordinary, hit, path_hit, root_failed}
use Rattle.sd_safety.specs.invariant.Clauses.{is_beginning, begins_with, left_out_is_hit}
use Rattle.sd_safety.specs.invariant.Invariant.{Core, leaves_out_rightly}
use Rattle.sd_safety.specs.invariant.Coming.{IsNextEvent}
use Rattle.sd_safety.proofs.invariant.Sides.{implied, not_both}
use Rattle.sd_safety.proofs.invariant.Opening.{gives}
use Rattle.sd_safety.proofs.invariant.Domains.{Holding, held, touched_is_hit}
use Rattle.sd_safety.proofs.invariant.Fallback.{IsOff, off_fallback, known as known_thing, failed_are_known}
use Rattle.sd_safety.proofs.invariant.Following.{held_now}
use Rattle.sd_safety.proofs.invariant.Facts.{IsSound, sound_now}
use Rattle.sd_safety.proofs.invariant.Empty.{core_before}
use Rattle.sd_safety.proofs.silences.FallbackWay.{falls, the_hop, things_fine, on_fallback, link_of_fallback}
use Rattle.sd_safety.proofs.silences.WalkWays.{Walks, over as at_end, walks}
use Rattle.sd_safety.specs.windows.Standing.{HasStanding}
use Rattle.sd_safety.proofs.windows.Acting.{ActsOld, who_acts}
use Rattle.sd_safety.proofs.windows.Committing.{AtCommit, commit_asks, staged_plan, staged_some, staged_too, open_}
use Rattle.sd_safety.proofs.frame.PlainSteps.{era_kept, failed_kept, staged_kept}
use Rattle.sd_safety.proofs.frame.Words as words
use Rattle.sd_safety.proofs.frame.Timely.{failed_ever, first_era, up_if_made, member_up_now}
use Rattle.sd_safety.proofs.renewals.Ways.{joined_so}

-- Who joined in the open window is of the staged plan

joined_before : (s : Seen) (x : ℕ) (w : Option (List Seen)) → map_or (option_map (λ v. s ∷ v) w) false (list_any (λ y. same_number (joined y.event) x)) ≡ true
    → (same_number (joined s.event) x ≡ true) ⊎ (map_or w false (list_any (λ y. same_number (joined y.event) x)) ≡ true)
joined_before s x None is = cc
joined_before s x (Some v) is = or_cases (same_number (joined s.event) x) (list_any (λ y. same_number (joined y.event) x) v) is

joined_member : (o : Option ℕ) (x : ℕ) (member : ℕ → Bool) → same_number o x ≡ true → map_or o false (λ d. not (member d)) ≡ false → member x ≡ true
joined_member None x member is refused = cc
joined_member (Some d) x member is refused = subst (λ z. member z ≡ true) (eqb-true d x is) (not-false (member d) refused)

pub joined_is_staged : (setting : Setting) (history : List Event) → IsAdmitted setting history → (x : ℕ)
    → joined_in_window (seen_of (chronicle setting history)) x ≡ true → is_staged_member setting (seen_of (chronicle setting history)) x ≡ true
joined_is_staged setting [] is x joined_ = cc
joined_is_staged setting (e ∷ history) is x joined_ = by s.seen.closed refl (is_stage e) refl joined_ (joined_is_staged setting history is.0 x)
  where
    s : Step
    s = next_step setting (chronicle setting history) e

    refused : map_or (joined e) false (λ d. not (is_staged_member setting (seen_of (chronicle setting history)) d)) ≡ false
    refused =
        (or_parts _ (map_or (joined e) false (λ d. not (is_staged_member setting (seen_of (chronicle setting history)) d)))
        (clear setting (chronicle setting history) e is.1).is_member).1

    by : (c : Bool) → (next_step setting (chronicle setting history) e).seen.closed ≡ c → (st : Bool) → is_stage e ≡ st
        → map_or (if c then None else if st then Some [] else option_map (λ w. (next_step setting (chronicle setting history) e).seen ∷ w)
        (window (seen_of (chronicle setting history)))) false (list_any (λ y. same_number (joined y.event) x)) ≡ true
        → (joined_in_window (seen_of (chronicle setting history)) x ≡ true → is_staged_member setting (seen_of (chronicle setting history)) x ≡ true)
        → is_staged_member setting (seen_of (chronicle setting (e ∷ history))) x ≡ true
    by true closed st stage is' rest = cc
    by false shut true stage is' rest = cc
    by false shut false unstaged is' rest =
        ap (λ (o : Option Plan). map_or o false (λ p. is_member p x)) (staged_kept setting (chronicle setting history) s shut unstaged)
        ∙ (elim (joined_before s.seen x (window (seen_of (chronicle setting history))) is') [
          | inl now ↦ joined_member (joined e) x (is_staged_member setting (seen_of (chronicle setting history))) now refused
          | inr before ↦ rest before
        ])

-- Where a walk ends

-- each hop of it is the primary one of its device
hops_primary : (ends : ℕ → Bool) (plan : Plan) (n y : ℕ) → Walks plan (λ z hop. primary_of plan z ≡ Some hop) y (hops ends plan n y)
hops_primary ends plan zero y = at_end
hops_primary ends plan (suc n) y = by (primary_of plan y) refl (hops_primary ends plan n)
  where
    on : (hop : Hop) (b : Bool) → Walks plan (λ z h. primary_of plan z ≡ Some h) hop.parent (hops ends plan n hop.parent)
        → Walks plan (λ z h. primary_of plan z ≡ Some h) hop.parent (elim b [ true ↦ [] | false ↦ hops ends plan n hop.parent ])
    on hop true rest = at_end
    on hop false rest = rest

    by : (o : Option Hop) → primary_of plan y ≡ o → ((z : ℕ) → Walks plan (λ v h. primary_of plan v ≡ Some h) z (hops ends plan n z))
        → Walks plan (λ z h. primary_of plan z ≡ Some h) y
        (elim o [ None ↦ [] | Some hop ↦ hop ∷ (elim (ends hop.parent) [ true ↦ [] | false ↦ hops ends plan n hop.parent ]) ])
    by None is rest = at_end
    by (Some hop) is rest = walks is (on hop (ends hop.parent) (rest hop.parent))

-- where hops lead on, their end is one of their things
end_is_among : (hop : Hop) (hs : List Hop) (failed : List Thing) → touches failed (things_of (hop ∷ hs)) ≡ false
    → is_among failed (thing.Device (end_of hop.parent hs)) ≡ false
end_is_among hop [] failed sound = (or_parts (is_among failed (thing.Device hop.parent)) false (or_parts (is_among failed (thing.Link hop.link)) _ sound).1).0
end_is_among hop (next ∷ hs) failed sound =
    end_is_among next hs failed
    (or_parts (is_among failed (thing.Device hop.parent)) (touches failed (things_of (next ∷ hs)))
    (or_parts (is_among failed (thing.Link hop.link)) _ sound).1).1

module _ {setting : Setting} (r d c : ℕ) (history : List Event) (comes : IsNextEvent setting history (event.Commit r d c)) where
  abbrev e : Event
  e = event.Commit r d c

  abbrev one : List Step
  one = chronicle setting history

  abbrev two : List Step
  two = chronicle setting (event.Commit r d c ∷ history)

  abbrev net : Network
  net = setting.net

  abbrev plan : Plan
  plan = plan_now setting (chronicle setting history)

  abbrev failed : List Thing
  failed = failed_now (chronicle setting history)

  core : Core setting (chronicle setting history)
  core = core_before setting history (event.Commit r d c) comes

  asks : AtCommit setting (chronicle setting history) d
  asks = commit_asks setting r d c history comes.fair comes.clean

  shut : (next_step setting (chronicle setting history) (event.Commit r d c)).seen.closed ≡ false
  shut = open_ setting r d c history comes.fair comes.clean

  eras : era (chronicle setting (event.Commit r d c ∷ history)) ≡ era (chronicle setting history)
  eras = era_kept setting one (next_step setting (chronicle setting history) (event.Commit r d c)) shut

  failures : failed_now (chronicle setting (event.Commit r d c ∷ history)) ≡ failed_now (chronicle setting history)
  failures = failed_kept setting one (next_step setting (chronicle setting history) (event.Commit r d c)) shut refl

  sound : IsSound setting.net (plan_now setting (chronicle setting history))
  sound = sound_now setting history comes.fair comes.clean.is.0

  pub standing : HasStanding setting (chronicle setting history)
  standing =
      record {
        outsiders = λ x up. core.census.outsiders x;
        current = λ x up. core.census.current x;
        blanks = λ x up. core.census.blanks x;
        ordinary = λ x up. core.roles.ordinary x;
        failed_root = core.roles.failed_root;
        takeover = core.causes.takeover;
      }

  actor : ActsOld setting (chronicle setting history) d
  actor = who_acts setting history comes.clean.is.0 asks.first_one standing d asks.counted asks.acts

  -- the staged root is a member of its plan
  staged_root_stays : is_member (staged_plan setting (chronicle setting history)) d ≡ true
  staged_root_stays =
      let guarded : IsGuarded net (staged_plan setting one) = staged_too (IsGuarded net) setting history comes.fair.guarded comes.clean.is.0 asks.opened in
      sym (ap (is_member (staged_plan setting one)) asks.root) ∙ (keeps_rules net (staged_plan setting one) guarded.structure).root

  -- a thing joins, as renewal counts it
  abbrev Way : ℕ → ℕ → Type 0
  Way y x = Joined setting.net (is_up (seen_of (chronicle setting history))) (λ l. not (link_has_failed (seen_of (chronicle setting history)) l)) y x

  -- nobody who is up and left out is joined to the staged root
  not_joined : (x : ℕ) → is_up (seen_of (chronicle setting history)) x ≡ true → is_member (staged_plan setting (chronicle setting history)) x ≡ false → Way x d
      → ⊥
  not_joined x up out way =
      let known : x < length net.devices = admitted_up_is_known setting history comes.clean.is.0 x up in
      let near : joined_within net (is_up (seen_of one)) (λ l. not (link_has_failed (seen_of one) l)) (length net.devices) x (staged_plan setting one).root
      ≡ true =
      ap (joined_within net (is_up (seen_of one)) (λ l. not (link_has_failed (seen_of one) l)) (length net.devices) x) asks.root
      ∙ joined_so net (is_up (seen_of one)) (λ l. not (link_has_failed (seen_of one) l)) (admitted_up_is_known setting history comes.clean.is.0) x d known way in
      let clear = passes
      (λ y. not (is_up (seen_of one) y && not (is_member (staged_plan setting one) y)
      && joined_within net (is_up (seen_of one)) (λ l. not (link_has_failed (seen_of one) l)) (length net.devices) y (staged_plan setting one).root))
      (among_below (length net.devices) x known) asks.cleanly in
      not_both (is_up (seen_of one) x && not (is_member (staged_plan setting one) x)
      && joined_within net (is_up (seen_of one)) (λ l. not (link_has_failed (seen_of one) l)) (length net.devices) x (staged_plan setting one).root)
      (and_from (is_up (seen_of one) x && not (is_member (staged_plan setting one) x)) _
      (and_from (is_up (seen_of one) x) (not (is_member (staged_plan setting one) x)) up (ap not out)) near)
      (not-true _ clear)

  module _ (none_waits : (x : ℕ) → x < length setting.net.devices → begins_with setting (chronicle setting (event.Commit r d c ∷ history)) x ≡ false) where
    -- a member that did not fail is up
    sound_up : (x : ℕ) → x < length setting.net.devices → is_member (plan_now setting (chronicle setting history)) x ≡ true
        → device_failed_now (chronicle setting history) x ≡ false → is_up (seen_of (chronicle setting history)) x ≡ true
    sound_up x known member unfailed = by (is_beginning setting two) refl
      where
        member_now : is_member (plan_now setting (chronicle setting (event.Commit r d c ∷ history))) x ≡ true
        member_now = ap (λ p. is_member p x) (words.plan_same setting one two eras) ∙ member

        unfailed_now : device_failed_now (chronicle setting (event.Commit r d c ∷ history)) x ≡ false
        unfailed_now = words.failed_device_same setting one two eras failures x ∙ unfailed

        made_up : (m f u : Bool) → (m ≡ true → f ≡ false → u ≡ true) → f ≡ false → (not m && not f) ≡ false → u ≡ true
        made_up true false u up none touched = up refl refl
        made_up m true u up none touched = cc
        made_up false false u up none touched = cc

        no_member_waits : (m u b : Bool) → ((m && u) && b) ≡ false → m ≡ true → b ≡ true → u ≡ false
        no_member_waits true true true none m b = cc
        no_member_waits true false b' none m b = refl
        no_member_waits true true false none m b = cc
        no_member_waits false u b' none m b = cc

        by : (b : Bool) → is_beginning setting (chronicle setting (event.Commit r d c ∷ history)) ≡ b → is_up (seen_of (chronicle setting history)) x ≡ true
        by true begins =
            let first_ : era two ≡ 1 = first_era setting two begins in
            let touched =
            no_member_waits (is_member (plan_numbered setting 1) x) (is_untouched (seen_of two) x) (is_beginning setting two) (none_waits x known)
            (sym (ap (λ k. is_member (plan_numbered setting k) x) first_) ∙ member_now) begins in
            made_up (was_made (seen_of two) x) (has_ever_failed (seen_of two) x) (is_up (seen_of two) x) (up_if_made (seen_of two) x)
            (failed_ever (seen_of two) first_ x ∙ unfailed_now) touched
        by false over_now =
            implied (not (is_beginning setting two) && belongs net (plan_now setting two) x && not (device_failed_now two x)) (is_up (seen_of two) x)
            (member_up_now setting e history comes.fair comes.clean core eras x (words.failed_device_same setting one two eras failures x) (inr refl))
            (and_from (not (is_beginning setting two) && belongs net (plan_now setting two) x) (not (device_failed_now two x))
            (and_from (not (is_beginning setting two)) (belongs net (plan_now setting two) x) (ap not over_now)
            (and_from (nat_lt x (length net.devices)) (is_member (plan_now setting two) x) (lt-ltb x (length net.devices) known) member_now))
            (ap not unfailed_now))

    sound_link : (l : ℕ) → is_present (plan_now setting (chronicle setting history)) l ≡ true → link_failed_now (chronicle setting history) l ≡ false
        → not (link_has_failed (seen_of (chronicle setting history)) l) ≡ true
    sound_link l present unfailed =
        implied (is_present plan l && not (link_failed_now one l)) (not (link_has_failed (seen_of one) l)) (core.census.links l)
        (and_from (is_present plan l) (not (link_failed_now one l)) present (ap not unfailed))

    -- a hop on which nothing failed
    hop_joins : (y x : ℕ) (hop : Hop) → hop_is_right setting.net (plan_now setting (chronicle setting history)) y (Some hop) ≡ true → IsHop setting.net hop
        → link_failed_now (chronicle setting history) hop.link ≡ false
        → device_failed_now (chronicle setting history) hop.parent ≡ false → Way hop.parent x → Way y x
    hop_joins y x hop right within link_sound parent_sound rest =
        let all = and_parts (is_member plan hop.parent && is_present plan hop.link) (joins net hop.link y hop.parent) right in
        let both = and_parts (is_member plan hop.parent) (is_present plan hop.link) all.0 in
        over hop.link within.1 (sound_link hop.link both.1 link_sound) all.1 (sound_up hop.parent within.0 both.0 parent_sound) rest

    right_of : (y : ℕ) (hop : Hop) → y < length setting.net.devices → primary_of (plan_now setting (chronicle setting history)) y ≡ Some hop
        → hop_is_right setting.net (plan_now setting (chronicle setting history)) y (Some hop) ≡ true
    right_of y hop known is =
        subst (λ o. hop_is_right net plan y o ≡ true) is
        (and_parts (hop_is_right net plan y (primary_of plan y)) (hop_is_right net plan y (backup_of plan y)) (sound.rules.hops y known)).0

    walk_joins : (hs : List Hop) (y : ℕ)
        → Walks (plan_now setting (chronicle setting history)) (λ z hop. primary_of (plan_now setting (chronicle setting history)) z ≡ Some hop) y hs
        → y < length setting.net.devices
        → touches (failed_now (chronicle setting history)) (things_of hs) ≡ false → Way y (end_of y hs)
    walk_joins [] y on known clear = here
    walk_joins (hop ∷ hs) y (walks is more) known clear =
        let first_ = or_parts (is_among failed (thing.Link hop.link)) _ clear in
        let second = or_parts (is_among failed (thing.Device hop.parent)) (touches failed (things_of hs)) first_.1 in
        let within : IsHop net hop = subst (λ o. IfSome o (IsHop net)) is (hops_within net plan y sound.fits).0 in
        hop_joins y (end_of hop.parent hs) hop (right_of y hop known is) within first_.0 second.0 (walk_joins hs hop.parent more within.0 second.1)

    -- a member is joined to the root where nothing of its path failed
    walk_to_root : (y : ℕ) → y < length setting.net.devices → is_member (plan_now setting (chronicle setting history)) y ≡ true
        → touches (failed_now (chronicle setting history)) (path setting.net (plan_now setting (chronicle setting history)) y) ≡ false
        → Way y (plan_now setting (chronicle setting history)).root
    walk_to_root y known member clear = by (is_root plan y) refl (implied (is_member plan y) _ (sound.rules.reaches y known) member) clear
      where
        by : (b : Bool) → is_root (plan_now setting (chronicle setting history)) y ≡ b
            → is_root (plan_now setting (chronicle setting history))
            (end_of y (if b then [] else hops (is_root (plan_now setting (chronicle setting history)))
            (plan_now setting (chronicle setting history)) setting.net.params.depth y)) ≡ true
            → touches (failed_now (chronicle setting history))
            (things_of (if b then [] else hops (is_root (plan_now setting (chronicle setting history)))
            (plan_now setting (chronicle setting history)) setting.net.params.depth y)) ≡ false
            → Way y (plan_now setting (chronicle setting history)).root
        by true root ends clear' = subst (Way y) (sym (eqb-true plan.root y root)) here
        by false other ends clear' =
            subst (Way y) (sym (eqb-true plan.root (end_of y (hops (is_root plan) plan net.params.depth y)) ends))
            (walk_joins (hops (is_root plan) plan net.params.depth y) y (hops_primary (is_root plan) plan net.params.depth y) known clear')

    -- one that is not hit is joined to the root or the backup root
    record Reached (x : ℕ) : Type 0 where
      to : ℕ
      ends : ends_walks (plan_now setting (chronicle setting history)) to ≡ true
      unfailed : device_failed_now (chronicle setting history) to ≡ false
      way : Way x to

    unhit_reaches : (x : ℕ) → x < length setting.net.devices → is_member (plan_now setting (chronicle setting history)) x ≡ true
        → is_root (plan_now setting (chronicle setting history)) x ≡ false
        → is_backup_root (plan_now setting (chronicle setting history)) x ≡ false → hit setting (chronicle setting history) x ≡ false → Reached x
    unhit_reaches x known member other apart unhit =
        by (hops (ends_walks plan) plan net.params.depth x) (hops_primary (ends_walks plan) plan net.params.depth x)
        (end_ends plan net.params.depth x (sym (ap (λ b. is_root plan (end_of x (if b then [] else hops (is_root plan) plan net.params.depth x))) other)
        ∙ implied (is_member plan x) _ (sound.rules.reaches x known) member))
        (sym (ap (λ b. touches failed (things_of (if b then [] else hops (ends_walks plan) plan net.params.depth x))) other) ∙ unhit)
      where
        by : (hs : List Hop)
            → Walks (plan_now setting (chronicle setting history)) (λ z hop. primary_of (plan_now setting (chronicle setting history)) z ≡ Some hop) x hs
            → ends_walks (plan_now setting (chronicle setting history)) (end_of x hs) ≡ true
            → touches (failed_now (chronicle setting history)) (things_of hs) ≡ false → Reached x
        by [] on ends clear = absurd (not_both (ends_walks plan x) ends (or_from (is_root plan x) (is_backup_root plan x) other apart))
        by (hop ∷ hs) on ends clear =
            record { to = end_of hop.parent hs; ends = ends; unfailed = end_is_among hop hs failed clear; way = walk_joins (hop ∷ hs) x on known clear }

    -- The backup root is joined to a root that did not fail

    module _ (root_sound : root_failed setting (chronicle setting history) ≡ false) where
      abbrev B : ℕ
      B = (plan_now setting (chronicle setting history)).backup_root

      module _ (path_broken : path_hit setting (chronicle setting history) (plan_now setting (chronicle setting history)).backup_root ≡ true) where
        holding : Holding setting (chronicle setting (event.Commit r d c ∷ history))
        holding = held_now setting e history comes.clean

        off : IsOff setting.net (plan_now setting (chronicle setting history)) (holds_device setting.net holding.domain) (holds_link setting.net holding.domain)
        off =
            off_fallback setting plan two holding sound.guarded
            (touched_is_hit net holding.domain (failed_now two) (path net plan plan.backup_root) holding.all
            (ap (λ xs. touches xs (path net plan plan.backup_root)) failures ∙ path_broken))

        device_clear : (y : ℕ) → has (fallback_devices setting.net (plan_now setting (chronicle setting history))) y ≡ true
            → device_failed_now (chronicle setting history) y ≡ false
        device_clear y on =
            false_from_ne_true (device_failed_now one y)
            (λ is.
            not_both (holds_device net holding.domain y && has (fallback_devices net plan) y)
            (and_from (holds_device net holding.domain y) (has (fallback_devices net plan) y)
            (held net holding.domain (failed_now two) (thing.Device y) holding.all (ap (λ xs. is_among xs (thing.Device y)) failures ∙ is)) on)
            (off.device y (ltb-true y (length net.devices) (known_thing net failed (thing.Device y) (failed_are_known setting history comes.clean.is.0) is))))

        link_clear : (l : ℕ) → has (fallback_links setting.net (plan_now setting (chronicle setting history))) l ≡ true
            → link_failed_now (chronicle setting history) l ≡ false
        link_clear l on =
            false_from_ne_true (link_failed_now one l)
            (λ is.
            not_both (holds_link net holding.domain l && has (fallback_links net plan) l)
            (and_from (holds_link net holding.domain l) (has (fallback_links net plan) l)
            (held net holding.domain (failed_now two) (thing.Link l) holding.all (ap (λ xs. is_among xs (thing.Link l)) failures ∙ is)) on)
            (off.link l (ltb-true l (length net.links) (known_thing net failed (thing.Link l) (failed_are_known setting history comes.clean.is.0) is))))

        with_hop : (hop : Hop) → backup_of (plan_now setting (chronicle setting history)) (plan_now setting (chronicle setting history)).backup_root ≡ Some hop
            → Way (plan_now setting (chronicle setting history)).backup_root (plan_now setting (chronicle setting history)).root
        with_hop hop is =
            let right : hop_is_right net plan B (Some hop) ≡ true =
            subst (λ o. hop_is_right net plan B o ≡ true) is
            (and_parts (hop_is_right net plan B (primary_of plan B)) (hop_is_right net plan B (backup_of plan B))
            (sound.rules.hops B sound.fits.backup_root)).1 in
            let within : IsHop net hop = subst (λ o. IfSome o (IsHop net)) is (hops_within net plan B sound.fits).1 in
            let member : is_member plan hop.parent ≡ true =
            (and_parts (is_member plan hop.parent) (is_present plan hop.link)
            (and_parts (is_member plan hop.parent && is_present plan hop.link) _ right).0).0 in
            hop_joins B plan.root hop right within
            (link_clear hop.link (link_of_fallback net plan hop hop.link is (or_left (nat_eq hop.link hop.link) _ (eq-eqb hop.link hop.link refl))))
            (clear_at hop.parent (or_left (nat_eq hop.parent hop.parent) _ (eq-eqb hop.parent hop.parent refl)))
            (walk_to_root hop.parent within.0 member
            (things_fine failed (walk net plan hop.parent) (λ y on. clear_at y (or_right (nat_eq y hop.parent) _ on))
            (λ l on. link_clear l (link_of_fallback net plan hop l is (or_right (nat_eq l hop.link) _ on)))))
          where
            clear_at : (y : ℕ) → has (devices_of hop.parent (walk setting.net (plan_now setting (chronicle setting history)) hop.parent)) y ≡ true
                → device_failed_now (chronicle setting history) y ≡ false
            clear_at y on = by (is_root plan y) refl
              where
                by : (b : Bool) → is_root (plan_now setting (chronicle setting history)) y ≡ b → device_failed_now (chronicle setting history) y ≡ false
                by true root = ap (device_failed_now one) (sym (eqb-true plan.root y root)) ∙ root_sound
                by false other = device_clear y (on_fallback net plan hop y is on other)

        by_fallback : Way (plan_now setting (chronicle setting history)).backup_root (plan_now setting (chronicle setting history)).root
        by_fallback = let hop = the_hop (backup_of plan B) (falls net plan sound.guarded.structure sound.fits.backup_root) in with_hop hop.0 hop.1

      backup_reaches : Way (plan_now setting (chronicle setting history)).backup_root (plan_now setting (chronicle setting history)).root
      backup_reaches = by (path_hit setting one B) refl
        where
          by : (b : Bool) → path_hit setting (chronicle setting history) (plan_now setting (chronicle setting history)).backup_root ≡ b
              → Way (plan_now setting (chronicle setting history)).backup_root (plan_now setting (chronicle setting history)).root
          by true broken = by_fallback broken
          by false clear = walk_to_root B sound.fits.backup_root sound.backup_member clear

    -- Who is left out

    module _ (x : ℕ) (up : is_up (seen_of (chronicle setting history)) x ≡ true) (member : is_member (plan_now setting (chronicle setting history)) x ≡ true)
        (out : is_member (staged_plan setting (chronicle setting history)) x ≡ false) where
      known : x < length setting.net.devices
      known = admitted_up_is_known setting history comes.clean.is.0 x up

      -- it is not the one that commits
      not_committer : d ≡ x → ⊥
      not_committer is = not_both (is_member (staged_plan setting one) x) (subst (λ y. is_member (staged_plan setting one) y ≡ true) is staged_root_stays) out

      committer : (b : Bool) → root_failed setting (chronicle setting history) ≡ b
          → d ≡ (if b then (plan_now setting (chronicle setting history)).backup_root else (plan_now setting (chronicle setting history)).root)
      committer b is = actor.is ∙ ap (λ f. if f then plan.backup_root else plan.root) is

      not_returned : root_failed setting (chronicle setting history) ≡ true → (plan_now setting (chronicle setting history)).root ≡ x → ⊥
      not_returned failed_ is =
          let was : device_failed_now one x ≡ true = ap (device_failed_now one) (sym is) ∙ failed_ in
          let back = implied (is_member plan x && device_failed_now one x && is_up (seen_of one) x) _ (core.census.returned x)
          (and_from (is_member plan x && device_failed_now one x) (is_up (seen_of one) x)
          (and_from (is_member plan x) (device_failed_now one x) member was) up) in
          let joined_ : joined_in_window (seen_of one) x ≡ true = (and_parts (joined_in_window (seen_of one) x) _ back).0 in
          not_both (is_member (staged_plan setting one) x)
          (sym (ap (λ (o : Option Plan). map_or o false (λ p. is_member p x)) (staged_some setting one asks.opened))
          ∙ joined_is_staged setting history comes.clean.is.0 x joined_) out

      not_root : is_root (plan_now setting (chronicle setting history)) x ≡ false
      not_root = false_from_ne_true (is_root plan x) (λ is. by (root_failed setting one) refl (eqb-true plan.root x is))
        where
          by : (b : Bool) → root_failed setting (chronicle setting history) ≡ b → (plan_now setting (chronicle setting history)).root ≡ x → ⊥
          by true failed_ is = not_returned failed_ is
          by false sound_ is = not_committer (committer false sound_ ∙ is)

      not_backup : is_backup_root (plan_now setting (chronicle setting history)) x ≡ false
      not_backup = false_from_ne_true (is_backup_root plan x) (λ is. by (root_failed setting one) refl (eqb-true plan.backup_root x is))
        where
          by : (b : Bool) → root_failed setting (chronicle setting history) ≡ b → (plan_now setting (chronicle setting history)).backup_root ≡ x → ⊥
          by true failed_ is = not_committer (committer true failed_ ∙ is)
          by false sound_ is =
              not_joined x up out (subst (λ y. Way y d) is (subst (Way plan.backup_root) (sym (committer false sound_)) (backup_reaches sound_)))

      is_hit_now : hit setting (chronicle setting history) x ≡ true
      is_hit_now = by (hit setting one x) refl
        where
          reached_none : Reached x → ⊥
          reached_none reached = elim (or_cases (is_root plan reached.to) (is_backup_root plan reached.to) reached.ends) [
            | inl root ↦ at_root (eqb-true plan.root reached.to root)
            | inr backup ↦ at_backup (root_failed setting one) refl (eqb-true plan.backup_root reached.to backup)
          ]
            where
              at_root : (plan_now setting (chronicle setting history)).root ≡ reached.to → ⊥
              at_root is = not_joined x up out (subst (Way x) (sym is ∙ sym (committer false (ap (device_failed_now one) is ∙ reached.unfailed))) reached.way)

              at_backup : (b : Bool) → root_failed setting (chronicle setting history) ≡ b
                  → (plan_now setting (chronicle setting history)).backup_root ≡ reached.to → ⊥
              at_backup true failed_ is = not_joined x up out (subst (Way x) (sym is ∙ sym (committer true failed_)) reached.way)
              at_backup false sound_ is =
                  not_joined x up out
                  (joined_on (subst (Way x) (sym is) reached.way) (subst (Way plan.backup_root) (sym (committer false sound_)) (backup_reaches sound_)))

          by : (b : Bool) → hit setting (chronicle setting history) x ≡ b → hit setting (chronicle setting history) x ≡ true
          by true is = is
          by false unhit = absurd (reached_none (unhit_reaches x known member not_root not_backup unhit))

      left_out_so : (hit setting (chronicle setting history) x && is_ordinary (plan_now setting (chronicle setting history)) x) ≡ true
      left_out_so =
          and_from (hit setting one x) (is_ordinary plan x) is_hit_now
          (and_from (is_member plan x && not (is_root plan x)) (not (is_backup_root plan x))
          (and_from (is_member plan x) (not (is_root plan x)) member (ap not not_root)) (ap not not_backup))

    left_out_hit : (x : ℕ) → left_out_is_hit setting (chronicle setting (event.Commit r d c ∷ history)) x ≡ true
    left_out_hit x =
        gives (has_commit (seen_of two) && is_up (seen_of two) x && is_member (plan_now setting two) x && not (is_staged_member setting (seen_of two) x))
        (hit setting two x && is_ordinary (plan_now setting two) x)
        (λ all.
        let same = words.plan_same setting one two eras in
        let first_ =
        and_parts (has_commit (seen_of two) && is_up (seen_of two) x && is_member (plan_now setting two) x)
        (not (is_staged_member setting (seen_of two) x)) all in
        let second = and_parts (has_commit (seen_of two) && is_up (seen_of two) x) (is_member (plan_now setting two) x) first_.0 in
        let up : is_up (seen_of one) x ≡ true = (and_parts (has_commit (seen_of two)) (is_up (seen_of two) x) second.0).1 in
        let out : is_member (staged_plan setting one) x ≡ false =
        sym (ap (λ (o : Option Plan). map_or o false (λ p. is_member p x))
        (staged_kept setting one (next_step setting one e) shut refl ∙ staged_some setting one asks.opened))
        ∙ not-true (is_staged_member setting (seen_of two) x) first_.1 in
        ap (λ b. b && is_ordinary (plan_now setting two) x) (words.hit_same setting one two eras failures x)
        ∙ ap (λ p. hit setting one x && is_ordinary p x) same ∙ left_out_so x up (sym (ap (λ p. is_member p x) same) ∙ second.1) out)

  pub commit_leaves_out : leaves_out_rightly setting (chronicle setting (event.Commit r d c ∷ history)) ≡ true
  commit_leaves_out = by (list_any (begins_with setting two) (device_numbers net)) refl
    where
      by : (b : Bool) → list_any (begins_with setting (chronicle setting (event.Commit r d c ∷ history))) (device_numbers setting.net) ≡ b
          → leaves_out_rightly setting (chronicle setting (event.Commit r d c ∷ history)) ≡ true
      by true some = or_right (list_all (left_out_is_hit setting two) (device_numbers net)) (list_any (begins_with setting two) (device_numbers net)) some
      by false none =
          or_left (list_all (left_out_is_hit setting two) (device_numbers net)) (list_any (begins_with setting two) (device_numbers net))
          (all_pass (left_out_is_hit setting two) (device_numbers net)
          (λ x a.
          left_out_hit
          (λ y within.
          false_from_ne_true (begins_with setting two y)
          (λ is. not_both (list_any (begins_with setting two) (device_numbers net))
          (any_passing (begins_with setting two) y (device_numbers net) (among_below (length net.devices) y within) is) none)) x))
