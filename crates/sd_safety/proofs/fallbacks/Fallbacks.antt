-- While an old backup root has moved and does not act, no device of its fallback but the root had moved or acted in the plan in force, at any event so far.
use Rattle.std.specs.Prelude.{◌≡◌, ℕ, ◌<◌, ◌≤◌, Bool, true, false, ◌&&◌, ◌||◌, not, List, [], ◌∷◌, filter, length, nat_eq, Option, Some, IfSome, refl, ◌⊎◌, if◌then◌else◌}
use Rattle.std.proofs.Common.{arith, ◌∙◌, ap, sym, subst, inl, inr}
use Rattle.std.proofs.lemmas.Bool.{and_parts, and_from, or_cases, or_left, or_right, or_from, cases_lt, eqb-true, eq-eqb, not-true, not-false, false_from_ne_true}
use Rattle.std.proofs.Math.Nat.{le_antisymm}
use Rattle.sd_num.specs.Lists.{map_or, has, same_number}
use Rattle.sd_plan.specs.declared.topo.Thing.{Thing}
use Rattle.sd_plan.specs.declared.topo.Thing.TheVariants as thing
use Rattle.sd_plan.specs.domain.Things.{same_thing}
use Rattle.sd_plan.specs.declared.Hop.{Hop}
use Rattle.sd_plan.specs.declared.Plan.{Plan}
use Rattle.sd_plan.specs.Plans.{IsHop, is_member, is_present, is_root, is_backup_root, backup_of}
use Rattle.sd_plan.specs.Walks.{walk, epath, end_of, devices_of, links_of, on_walk, short_walk}
use Rattle.sd_plan.specs.Structure.{is_no_ancestor}
use Rattle.sd_plan.proofs.Numbered.{none_found}
use Rattle.sd_plan.proofs.Rules.{hops_within}
use Rattle.sd_checker.specs.check_root.Roots.{fallback_devices, fallback_links}
use Rattle.sd_device.specs.Calls.{Past}
use Rattle.sd_device.specs.Words.{epoch_now, has_moved, is_acting}
use Rattle.sd_sched.specs.declared.Event.{Event}
use Rattle.sd_history.specs.World.{Setting, is_up, plan_numbered}
use Rattle.sd_history.specs.Steps.{Step, seen_of, acts_in, epoch_in}
use Rattle.sd_history.specs.Chronicle.{past_in, chronicle}
use Rattle.sd_safety.specs.invariant.Eras.{era, plan_now, is_among, touches, failed_now, device_failed_now, link_failed_now, failed_besides_root, is_old, is_new, is_ordinary, moved, hit, hit_otherwise}
use Rattle.sd_safety.specs.invariant.Clauses.{backup_root_acts}
use Rattle.sd_safety.specs.invariant.Invariant.{Core, Invariant, HasFallback, AtEach}
use Rattle.sd_safety.specs.invariant.Guarded.{AreGuarded, IsSteady}
use Rattle.sd_safety.proofs.invariant.Facts.{IsSound, sound_now}
use Rattle.sd_safety.proofs.invariant.Sides.{implied, not_both}
use Rattle.sd_safety.proofs.invariant.Staying.{old_is_member}
use Rattle.sd_safety.specs.messages.Moments.{Tail}
use Rattle.sd_safety.proofs.silences.States.{not_old_and_new}
use Rattle.sd_safety.proofs.silences.Phases.{era_grows, failed_on}
use Rattle.sd_safety.proofs.silences.WalkWays.{Walks, over, walks}
use Rattle.sd_safety.proofs.silences.Paths.{IsClear, clear_walk, path_misses_cut}
use Rattle.sd_safety.proofs.silences.FallbackWay.{things_fine, on_fallback, link_of_fallback, fallback_hop}
use Rattle.sd_safety.proofs.windows.Committing.{ActingPast, acting_past, up_and_past}
use Rattle.sd_safety.proofs.behind.Beside.{missed_path}
use Rattle.sd_safety.proofs.receipts.Alive.{WasAlive, was_alive, IsOf, events_of_tail}
use Rattle.sd_safety.proofs.receipts.Stood.{core_of, clean_of, each_of, history_of, next_stood, moved_is, acts_is, epoch_is}
use Rattle.sd_safety.proofs.messages.Tails.{tail_trans}
use Rattle.sd_safety.proofs.terms.Actors.{IsActor, actor_is_current}
use Rattle.sd_safety.proofs.fallbacks.Onward.{Onward, onward}
use Rattle.sd_safety.proofs.behind.Failing.{chronicle_tail}

-- what is among the filtered is among all
pub among_all : (p : Thing → Bool) (xs : List Thing) (x : Thing) → is_among (filter p xs) x ≡ true → is_among xs x ≡ true
among_all p [] x is = is
among_all p (y ∷ ys) x is = by (p y) is (among_all p ys x)
  where
    by : (b : Bool) → is_among (if b then y ∷ filter p ys else filter p ys) x ≡ true → (is_among (filter p ys) x ≡ true → is_among ys x ≡ true)
        → (same_thing x y || is_among ys x) ≡ true
    by false is' rest = or_right (same_thing x y) (is_among ys x) (rest is')
    by true is' rest = elim (or_cases (same_thing x y) (is_among (filter p ys) x) is') [
      | inl here ↦ or_left (same_thing x y) (is_among ys x) here
      | inr there ↦ or_right (same_thing x y) (is_among ys x) (rest there)
    ]

pub not_besides : (r : Thing) (xs : List Thing) → is_among (filter (λ y. not (same_thing r y)) xs) r ≡ false
not_besides r [] = refl
not_besides r (y ∷ ys) = by (same_thing r y) refl (not_besides r ys)
  where
    by : (b : Bool) → same_thing r y ≡ b → is_among (filter (λ z. not (same_thing r z)) ys) r ≡ false
        → is_among (if not b then y ∷ filter (λ z. not (same_thing r z)) ys else filter (λ z. not (same_thing r z)) ys) r ≡ false
    by true same rest = rest
    by false other rest = or_from (same_thing r y) (is_among (filter (λ z. not (same_thing r z)) ys) r) other rest

-- a device of a walk has its hop
walks_at : (plan : Plan) (P : ℕ → Hop → Type 0) (hs : List Hop) (d : ℕ) → Walks plan P d hs → (y : ℕ) → has (devices_of d hs) y ≡ true → is_root plan y ≡ false
    → is_root plan (end_of d hs) ≡ true → (hop : Hop) × P y hop
walks_at plan P [] d over y on low reach =
    absurd (not_both (is_root plan y) (subst (λ z. is_root plan z ≡ true) (sym (eqb-true y d (only (nat_eq y d) on))) reach) low)
  where
    only : (b : Bool) → (b || false) ≡ true → b ≡ true
    only true is = refl
    only false is = cc
walks_at plan P (hop ∷ hs) d (walks one rest) y on low reach =
    elim (or_cases (nat_eq y d) (has (devices_of hop.parent hs) y) on) [
      | inl here ↦ (hop, subst (λ z. P z hop) (sym (eqb-true y d here)) one)
      | inr there ↦ walks_at plan P hs hop.parent rest y there low reach
    ]

module _ (setting : Setting) (history : List Event) (fair : AreGuarded setting) (clean : IsSteady setting history)
    (each : AtEach (Invariant setting) (chronicle setting history)) (fallback : HasFallback setting (chronicle setting history))
    (old : is_old (chronicle setting history) (plan_now setting (chronicle setting history)).backup_root ≡ true)
    (put : moved (chronicle setting history) (plan_now setting (chronicle setting history)).backup_root ≡ true)
    (idle : acts_in (chronicle setting history) (plan_now setting (chronicle setting history)).backup_root ≡ false)
    (self : device_failed_now (chronicle setting history) (plan_now setting (chronicle setting history)).backup_root ≡ false) (hop : Hop)
    (is_hop : backup_of (plan_now setting (chronicle setting history)) (plan_now setting (chronicle setting history)).backup_root ≡ Some hop) where
  abbrev steps : List Step
  steps = chronicle setting history

  abbrev plan : Plan
  plan = plan_now setting (chronicle setting history)

  abbrev b : ℕ
  b = (plan_now setting (chronicle setting history)).backup_root

  abbrev besides : List Thing
  besides = failed_besides_root setting (chronicle setting history)

  fine : IsSound setting.net (plan_now setting (chronicle setting history))
  fine = sound_now setting history fair clean.is

  none_among : (x : Thing) → is_among (failed_now (chronicle setting history)) x ≡ false
      → is_among (failed_besides_root setting (chronicle setting history)) x ≡ false
  none_among x none =
      false_from_ne_true (is_among besides x)
      (λ is. not_both (is_among (failed_now steps) x) (among_all (λ y. not (same_thing (thing.Device plan.root) y)) (failed_now steps) x is) none)

  has_moved_ : (is_old (chronicle setting history) b && moved (chronicle setting history) b) ≡ true
  has_moved_ = and_from (is_old steps b) (moved steps b) old put

  on_way : (d : ℕ) → has (devices_of hop.parent (walk setting.net plan hop.parent)) d ≡ true
      → is_among (failed_besides_root setting (chronicle setting history)) (thing.Device d) ≡ false
  on_way d is = go (is_root plan d) refl
    where
      go : (r : Bool) → is_root plan d ≡ r → is_among besides (thing.Device d) ≡ false
      go true root =
          subst (λ z. is_among besides (thing.Device z) ≡ false) (eqb-true plan.root d root) (not_besides (thing.Device plan.root) (failed_now steps))
      go false other =
          none_among (thing.Device d)
          (not-true (device_failed_now steps d)
          (implied (is_old steps b && moved steps b && has (fallback_devices setting.net plan) d) (not (device_failed_now steps d)) (fallback.devices d)
          (and_from (is_old steps b && moved steps b) (has (fallback_devices setting.net plan) d) has_moved_
          (on_fallback setting.net plan hop d is_hop is other))))

  on_links : (l : ℕ) → has (hop.link ∷ links_of (walk setting.net plan hop.parent)) l ≡ true
      → is_among (failed_besides_root setting (chronicle setting history)) (thing.Link l) ≡ false
  on_links l is =
      none_among (thing.Link l)
      (not-true (link_failed_now steps l)
      (implied (is_old steps b && moved steps b && has (fallback_links setting.net plan) l) (not (link_failed_now steps l)) (fallback.links l)
      (and_from (is_old steps b && moved steps b) (has (fallback_links setting.net plan) l) has_moved_ (link_of_fallback setting.net plan hop l is_hop is))))

  pub within : IsHop setting.net hop
  within = subst (λ o. IfSome o (IsHop setting.net)) is_hop (hops_within setting.net plan b fine.fits).1

  pub right : (is_member (plan_now setting (chronicle setting history)) hop.parent ≡ true)
      × (is_present (plan_now setting (chronicle setting history)) hop.link ≡ true)
  right = fallback_hop setting.net plan b hop (fine.rules.hops b fine.fits.backup_root) is_hop

  pub reach : is_root (plan_now setting (chronicle setting history))
      (end_of hop.parent (walk setting.net (plan_now setting (chronicle setting history)) hop.parent)) ≡ true
  reach = implied (is_member plan hop.parent) _ (fine.rules.reaches hop.parent within.0) right.0

  clear : Walks plan (IsClear setting.net plan besides) hop.parent (walk setting.net plan hop.parent)
  clear =
      clear_walk plan setting.net besides fine.fits fine.rules (walk setting.net plan hop.parent) hop.parent refl within.0 right.0
      (on_way hop.parent (or_left (nat_eq hop.parent hop.parent) _ (eq-eqb hop.parent hop.parent refl)))
      (things_fine besides (walk setting.net plan hop.parent) (λ d is. on_way d (or_right (nat_eq d hop.parent) _ is))
      (λ l is. on_links l (or_right (nat_eq l hop.link) _ is)))

  off_walk : on_walk setting.net (plan_now setting (chronicle setting history)) hop.parent b ≡ false
  off_walk =
      let none : is_no_ancestor setting.net plan b ≡ true =
      not-false (is_no_ancestor setting.net plan b)
      (none_found (λ d. not (is_no_ancestor setting.net plan d)) (length setting.net.devices) b fine.guarded.ancestor fine.fits.backup_root) in
      not-true (on_walk setting.net plan hop.parent b)
      (sym (ap (λ (o : Option Hop). map_or o true
      (λ k. if is_backup_root plan b then not (on_walk setting.net plan k.parent b) else not
      (has (devices_of k.parent (short_walk setting.net plan k.parent)) b))) is_hop
      ∙ ap (λ c. if c then not (on_walk setting.net plan hop.parent b) else not (has (devices_of hop.parent (short_walk setting.net plan hop.parent)) b))
      (eq-eqb b b refl)) ∙ none)

  -- a device of the fallback, when it was up and of the plan
  module _ (y : ℕ) (on_ : has (devices_of hop.parent (walk setting.net (plan_now setting (chronicle setting history)) hop.parent)) y ≡ true)
      (low : is_root (plan_now setting (chronicle setting history)) y ≡ false) where
    cut_fine : touches (failed_besides_root setting (chronicle setting history)) (epath setting.net (plan_now setting (chronicle setting history)) y) ≡ false
    cut_fine = let at = walks_at plan (IsClear setting.net plan besides) (walk setting.net plan hop.parent) hop.parent clear y on_ low reach in
        path_misses_cut plan setting.net besides y at.1.path_

    not_backup : is_backup_root (plan_now setting (chronicle setting history)) y ≡ false
    not_backup =
        false_from_ne_true (nat_eq b y)
        (λ is. not_both (on_walk setting.net plan hop.parent b)
        (subst (λ z. has (devices_of hop.parent (walk setting.net plan hop.parent)) z ≡ true) (sym (eqb-true b y is)) on_) off_walk)

    module _ (then_ : List Event) (tail : Tail then_ history) (past : Past) (up : is_up (seen_of (chronicle setting then_)) y ≡ true)
        (there : past_in (chronicle setting then_) y ≡ Some past) (own : epoch_now past ≡ era (chronicle setting history)) where
      abbrev older : List Step
      older = chronicle setting then_

      clean_then : IsSteady setting then_
      clean_then = clean_of setting then_ history tail clean

      each_then : AtEach (Invariant setting) (chronicle setting then_)
      each_then = each_of setting then_ history tail each

      core : Core setting (chronicle setting then_)
      core = core_of setting then_ each_then

      below_now : Tail (chronicle setting then_) (chronicle setting history)
      below_now = chronicle_tail setting then_ history tail

      module _ (same : era (chronicle setting then_) ≡ era (chronicle setting history)) where
        same_plan : plan_now setting (chronicle setting then_) ≡ plan_now setting (chronicle setting history)
        same_plan = ap (plan_numbered setting) same

        y_old : is_old (chronicle setting then_) y ≡ true
        y_old = ap (λ o. same_number o (era older)) (epoch_is setting then_ y past up there) ∙ eq-eqb (epoch_now past) (era older) (own ∙ sym same)

        ordinary : is_ordinary (plan_now setting (chronicle setting then_)) y ≡ true
        ordinary =
            let p : Plan = plan_now setting older in
            and_from (is_member p y && not (is_root p y)) (not (is_backup_root p y))
            (and_from (is_member p y) (not (is_root p y)) (old_is_member setting older y (core.census.outsiders y) y_old)
            (ap not (subst (λ q. is_root q y ≡ false) (sym same_plan) low)))
            (ap not (subst (λ q. is_backup_root q y ≡ false) (sym same_plan) not_backup))

        still : acts_in (chronicle setting then_) y ≡ false
        still = not-true (acts_in older y)
            (implied (is_old older y && is_ordinary (plan_now setting older) y) (not (acts_in older y)) (core.roles.ordinary y)
            (and_from (is_old older y) (is_ordinary (plan_now setting older) y) y_old ordinary))

        -- nothing but the root of its cut path had failed
        spared_then : hit_otherwise setting (chronicle setting then_) y ≡ true → ⊥
        spared_then is =
            not_both (hit_otherwise setting older y) is
            (subst (λ p. touches (failed_besides_root setting older) (epath setting.net p y) ≡ false) (sym same_plan)
            (missed_path setting steps (epath setting.net plan y) (failed_besides_root setting older)
            (λ z among. failed_on z older steps below_now (least (era steps) (era older) same)
            (among_all (λ w. not (same_thing (thing.Device (plan_now setting older).root) w)) (failed_now older) z among))
            (subst (λ (p : Plan). is_among (filter (λ w. not (same_thing (thing.Device p.root) w)) (failed_now older)) (thing.Device plan.root) ≡ false)
            (sym same_plan) (not_besides (thing.Device plan.root) (failed_now older)))
            cut_fine))
          where
            least : (a c : ℕ) → c ≡ a → a ≤ c
            least a c is' = omega (arith, is')

        -- and the backup root did not act
        idle_then : backup_root_acts setting (chronicle setting then_) ≡ true → ⊥
        idle_then acts = by (onward setting fair b (era steps) fine.backup_member older history clean each below_now same refl start)
          where
            acts_b : acts_in (chronicle setting then_) b ≡ true
            acts_b = subst (λ (p : Plan). acts_in older p.backup_root ≡ true) same_plan acts

            start : Onward setting (chronicle setting then_) b (era (chronicle setting history))
            start = current (actor_is_current setting then_ fair clean_then each_then b actor)
              where
                own_ : ActingPast (chronicle setting then_) b
                own_ = acting_past setting then_ b acts_b

                at : (is_up (seen_of (chronicle setting then_)) b ≡ true) × (past_in (chronicle setting then_) b ≡ Some own_.past)
                at = up_and_past (is_up (seen_of older) b) (past_in older b) own_.past own_.live

                actor : IsActor setting (chronicle setting then_) b
                actor = record { past = own_.past; up = at.0; there = at.1; acts = own_.acts }

                number : (o : Option ℕ) (n k : ℕ) → o ≡ Some n → same_number o k ≡ true → n ≡ k
                number o n k is same_ = eqb-true n k (sym (ap (λ z. same_number z k) is) ∙ same_)

                current : (is_old (chronicle setting then_) b ≡ true) ⊎ (is_new (chronicle setting then_) b ≡ true)
                    → Onward setting (chronicle setting then_) b (era (chronicle setting history))
                current (inl is) =
                    inl (record {
                      past = own_.past;
                      up = at.0;
                      there = at.1;
                      acts = own_.acts;
                      own = number (epoch_in older b) (epoch_now own_.past) (era older) (epoch_is setting then_ b own_.past at.0 at.1) is ∙ same;
                    })
                current (inr new) = inr (inl new)

            by : Onward setting (chronicle setting history) b (era (chronicle setting history)) → ⊥
            by (inl a) = not_both (acts_in steps b) (acts_is setting history b a.past a.up a.there ∙ a.acts) idle
            by (inr (inl new)) = not_old_and_new steps b old new
            by (inr (inr failed)) = not_both (device_failed_now steps b) failed self

        unmoved : moved (chronicle setting then_) y ≡ false
        unmoved =
            false_from_ne_true (moved older y)
            (λ put_.
            let p : Plan = plan_now setting older in
            let cause = implied (is_old older y && is_ordinary p y && moved older y)
            (hit setting older y && (hit_otherwise setting older y || backup_root_acts setting older)) (core.causes.backups y)
            (and_from (is_old older y && is_ordinary p y) (moved older y) (and_from (is_old older y) (is_ordinary p y) y_old ordinary) put_) in
            elim (or_cases (hit_otherwise setting older y) (backup_root_acts setting older)
            (and_parts (hit setting older y) (hit_otherwise setting older y || backup_root_acts setting older) cause).1) [
              | inl is ↦ spared_then is
              | inr acts ↦ idle_then acts
            ])

      stood_alive : (has_moved past ≡ false) × (is_acting past ≡ false)
      stood_alive = by (cases_lt (era (chronicle setting then_)) (era (chronicle setting history)))
        where
          by : (era (chronicle setting then_) < era (chronicle setting history)) ⊎ (era (chronicle setting history) ≤ era (chronicle setting then_))
              → (has_moved past ≡ false) × (is_acting past ≡ false)
          by (inl less) = next_stood setting then_ fair clean_then core y past up there (era steps) own less low
          by (inr more) =
              let same = le_antisymm (era_grows older steps below_now) more in
              (sym (moved_is setting then_ y past up there) ∙ unmoved same, sym (acts_is setting then_ y past up there) ∙ still same)

    pub stood_on_fallback : (older : List Step) → Tail older (chronicle setting history) → (past : Past) → past_in older y ≡ Some past
        → epoch_now past ≡ era (chronicle setting history) → (has_moved past ≡ false) × (is_acting past ≡ false)
    stood_on_fallback older tail past there own =
        let of : IsOf setting history older = events_of_tail setting history older tail in
        let there_ : past_in (chronicle setting of.events) y ≡ Some past = subst (λ l. past_in l y ≡ Some past) of.is there in
        let was : WasAlive setting of.events y past = was_alive setting of.events (history_of setting of.events history of.tail clean.is) y past there_ in
        stood_alive was.then_ (tail_trans was.tail of.tail) past was.up was.there own
