-- A commit in a steady history (C9 c): it comes of the one device that acts, the root, or where that failed the backup root; after it this device is
-- new and acts, and no other that counts does. Beside it, what renewal asks of a commit.
use Rattle.std.specs.Prelude.{◌≡◌, ℕ, ◌+◌, ◌-◌, ◌<◌, Bool, true, false, ◌&&◌, ◌||◌, not, List, ◌∷◌, length, nat_eq, Option, Some, None, is_some, option_map, option_and_then, refl, if◌then◌else◌}
use Rattle.std.specs.List.{list_any, list_all}
use Rattle.std.proofs.Common.{arith, ◌∙◌, ap, sym, subst}
use Rattle.std.proofs.lemmas.Bool.{and_parts, and_from, eqb-true, eq-eqb, or_right, false_from_ne_true}
use Rattle.sd_num.specs.Lists.{map_or, same_number}
use Rattle.sd_plan.specs.topo.Network.{Each}
use Rattle.sd_plan.specs.declared.topo.Thing.TheVariants as thing
use Rattle.sd_plan.specs.domain.Things.{same_thing}
use Rattle.sd_plan.specs.declared.Duty.{Duty}
use Rattle.sd_plan.specs.declared.Plan.{Plan}
use Rattle.sd_plan.specs.Plans.{is_member, members}
use Rattle.sd_plan.proofs.Rules.{KeepsRules, keeps_rules}
use Rattle.sd_safety.specs.invariant.Guarded.{IsGuarded, AreGuarded, IsSteady}
use Rattle.sd_device.specs.Calls as calls
use Rattle.sd_device.specs.Calls.{Past}
use Rattle.sd_device.specs.Words.{after, transition_of, given_now, epoch_now, is_acting, committed_by}
use Rattle.sd_sched.specs.declared.Event.{Event}
use Rattle.sd_sched.specs.declared.Event.TheVariants as event
use Rattle.sd_sched.specs.Events.{joined}
use Rattle.sd_history.specs.World.{Setting, Seen, is_up, window, window_is_open, has_commit, epoch_in_force, staged, staged_epoch, plan_numbered, is_counted, joined_in_window}
use Rattle.sd_history.specs.Steps.{Step, seen_of, live_answers, acts_in}
use Rattle.sd_history.specs.Chronicle.{answers_by, past_in, next_step, chronicle}
use Rattle.sd_history.specs.Admitted.{IsAdmitted}
use Rattle.sd_history.specs.Premises.{is_prepared, was_given, leaves_out_failed, leaves_out_cleanly}
use Rattle.sd_history.proofs.Among.{passes}
use Rattle.sd_history.proofs.Filters.{filter_in}
use Rattle.sd_safety.specs.invariant.Eras.{plan_now, failed_now, is_new, live_past, root_failed}
use Rattle.sd_safety.specs.invariant.Clauses.{staged_root, committer_is_root, committer_acts}
use Rattle.sd_safety.proofs.invariant.Parents.{live_is}
use Rattle.sd_safety.proofs.invariant.Orders.{renews}
use Rattle.sd_safety.proofs.invariant.Sides.{not_both}
use Rattle.sd_history.proofs.Known.{admitted_named_is_known}
use Rattle.sd_history.proofs.Shared.{among_below}
use Rattle.sd_safety.proofs.timers.Turns.{after_recommit}
use Rattle.sd_safety.proofs.waits.LeastWaits.{staged_within}
use Rattle.sd_safety.specs.windows.Standing.{HasStanding}
use Rattle.sd_safety.proofs.windows.Eras.{IsCommitting, committing, plan_kept}
use Rattle.sd_safety.proofs.windows.NoClosing.{commit_closes_none}
use Rattle.sd_safety.proofs.windows.Frames.{IsLeft, staged_on, failed_on, in_window_on, staged_epoch_on, acts_on}
use Rattle.sd_safety.proofs.windows.Acting.{ActsOld, who_acts}
use Rattle.sd_safety.proofs.invariant.InForce.{of_each}

-- The staged plan is one of the plans.

abbrev pub staged_plan : Setting → List Step → Plan
staged_plan setting steps = plan_numbered setting (staged_epoch (seen_of steps))

-- what is true of each plan is true of one that is staged
pub staged_too : (P : Plan → Type 0) (setting : Setting) (history : List Event) → Each P setting.plans → IsAdmitted setting history
    → window_is_open (seen_of (chronicle setting history)) ≡ true → P (staged_plan setting (chronicle setting history))
staged_too P setting history each is opened =
    of_each P setting.plans (staged_epoch (seen_of (chronicle setting history)) - 1) each (lower (staged_within setting history is opened))
  where
    lower : epoch_in_force (seen_of (chronicle setting history)) < length setting.plans
        → epoch_in_force (seen_of (chronicle setting history)) + 1 - 1 < length setting.plans
    lower lt = omega (arith, lt)

pub staged_some : (setting : Setting) (steps : List Step) → window_is_open (seen_of steps) ≡ true
    → staged setting (seen_of steps) ≡ Some (staged_plan setting steps)
staged_some setting steps opened = go (window (seen_of steps)) opened
  where
    go : (w : Option (List Seen)) → is_some w ≡ true
        → option_map (λ v. plan_numbered setting (staged_epoch (seen_of steps))) w ≡ Some (plan_numbered setting (staged_epoch (seen_of steps)))
    go None is = cc
    go (Some v) is = refl

-- who acts has a past by which it acts
pub record ActingPast (steps : List Step) (d : ℕ) : Type 0 where
  pub past : Past
  pub live : live_past steps d ≡ Some past
  pub acts : is_acting past ≡ true

pub acting_past : (setting : Setting) (history : List Event) (d : ℕ) → acts_in (chronicle setting history) d ≡ true → ActingPast (chronicle setting history) d
acting_past setting history d acts =
    go (live_past (chronicle setting history) d) refl (sym (ap (λ o. map_or o false (λ a. a.acts)) (live_is setting history d)) ∙ acts)
  where
    go : (p : Option Past) → live_past (chronicle setting history) d ≡ p → map_or (option_map answers_by p) false (λ a. a.acts) ≡ true
        → ActingPast (chronicle setting history) d
    go None is acts' = cc
    go (Some past) is acts' = record { past = past; live = is; acts = acts' }

pub up_and_past : (b : Bool) (p : Option Past) (past : Past) → (if b then p else None) ≡ Some past → (b ≡ true) × (p ≡ Some past)
up_and_past true p past is = (refl, is)
up_and_past false p past is = cc

-- the duty that was given to a device of this past
given_is : (g : Option Duty) (n : ℕ) → same_number (option_map (λ duty. duty.epoch) g) n ≡ true → (u : Duty) × (g ≡ Some u) × (u.epoch ≡ n)
given_is None n is = cc
given_is (Some u) n is = (u, refl, eqb-true u.epoch n is)

-- what renewal and the order of windows say of a commit
pub record AtCommit (setting : Setting) (steps : List Step) (d : ℕ) : Type 0 where
  pub opened : window_is_open (seen_of steps) ≡ true
  pub first_one : has_commit (seen_of steps) ≡ false
  pub root : (staged_plan setting steps).root ≡ d
  pub acts : acts_in steps d ≡ true
  pub prepared : (x : ℕ) → x < length setting.net.devices → is_member (staged_plan setting steps) x ≡ true → is_prepared setting (seen_of steps) x ≡ true
  pub absent : leaves_out_failed setting (seen_of steps) (staged_plan setting steps) ≡ true
  pub cleanly : leaves_out_cleanly setting (seen_of steps) (staged_plan setting steps) ≡ true
  pub counted : is_counted setting (seen_of steps) d ≡ true

counts : (up given member joined_ : Bool) → (up && given && (member || joined_)) ≡ true → (up && (member || joined_)) ≡ true
counts true true member joined_ is = is
counts true false member joined_ is = cc
counts false given member joined_ is = cc

pub commit_asks : (setting : Setting) (r d c : ℕ) (history : List Event) → AreGuarded setting → IsSteady setting (event.Commit r d c ∷ history)
    → AtCommit setting (chronicle setting history) d
commit_asks setting r d c history fair clean =
    let steps : List Step = chronicle setting history in
    let asks : IsCommitting setting steps d = committing setting r d c history clean.is in
    let some : staged setting (seen_of steps) ≡ Some (staged_plan setting steps) = staged_some setting steps asks.opened in
    let parts = and_parts (acts_in steps d) _ (renews setting (event.Commit r d c) history clean).commits in
    let rest = subst (λ o. map_or o true (λ plan. list_all (is_prepared setting (seen_of steps)) (members setting.net plan)
    && leaves_out_failed setting (seen_of steps) plan && leaves_out_cleanly setting (seen_of steps) plan) ≡ true) some parts.1 in
    let one = and_parts (list_all (is_prepared setting (seen_of steps)) (members setting.net (staged_plan setting steps))
    && leaves_out_failed setting (seen_of steps) (staged_plan setting steps)) _ rest in
    let two = and_parts (list_all (is_prepared setting (seen_of steps)) (members setting.net (staged_plan setting steps))) _ one.0 in
    let root : (staged_plan setting steps).root ≡ d =
    eqb-true (staged_plan setting steps).root d (sym (ap (λ o. map_or o false (λ plan. nat_eq plan.root d)) some) ∙ asks.root) in
    let prepared : (x : ℕ) → x < length setting.net.devices → is_member (staged_plan setting steps) x ≡ true → is_prepared setting (seen_of steps) x ≡ true =
    (λ x known member. passes (is_prepared setting (seen_of steps))
    (filter_in (is_member (staged_plan setting steps)) x _ (among_below (length setting.net.devices) x known) member) two.0) in
    let guarded : IsGuarded setting.net (staged_plan setting steps) =
    staged_too (IsGuarded setting.net) setting history fair.guarded clean.is.0 asks.opened in
    let rules : KeepsRules setting.net (staged_plan setting steps) = keeps_rules setting.net (staged_plan setting steps) guarded.structure in
    record {
      opened = asks.opened;
      first_one = asks.first_one;
      root = root;
      acts = parts.0;
      prepared = prepared;
      absent = two.1;
      cleanly = one.1;
      counted =
          counts (is_up (seen_of steps) d) (was_given (seen_of steps) d) (is_member (plan_now setting steps) d) (joined_in_window (seen_of steps) d)
          (prepared d (admitted_named_is_known setting steps (event.Commit r d c) d clean.is.1 refl)
          (ap (is_member (staged_plan setting steps)) (sym root) ∙ rules.root));
    }

-- The state after it

module _ (setting : Setting) (r d c : ℕ) (history : List Event) (fair : AreGuarded setting) (clean : IsSteady setting (event.Commit r d c ∷ history)) where
  abbrev steps : List Step
  steps = chronicle setting history

  abbrev s : Step
  s = next_step setting (chronicle setting history) (event.Commit r d c)

  pub open_ : (next_step setting (chronicle setting history) (event.Commit r d c)).seen.closed ≡ false
  open_ = commit_closes_none setting history r d c clean.is

  pub others : (x : ℕ) → nat_eq d x ≡ false → IsLeft (next_step setting (chronicle setting history) (event.Commit r d c)) x
  others x apart = record { stands = refl; uncalled = apart }

  -- the device that commits
  pub record Committed : Type 0 where
    pub past : Past
    pub before : live_past (chronicle setting history) d ≡ Some past
    pub duty : Duty
    pub epoch : duty.epoch ≡ staged_epoch (seen_of (chronicle setting history))
    pub transition : transition_of past (calls.Commit c) ≡ calls.Recommitted duty
    pub live : live_past (chronicle setting (event.Commit r d c ∷ history)) d ≡ Some (after past (calls.Commit c))

  pub committed : Committed
  committed =
      let asks : AtCommit setting (chronicle setting history) d = commit_asks setting r d c history fair clean in
      let own : ActingPast (chronicle setting history) d = acting_past setting history d asks.acts in
      let at = up_and_past (is_up (seen_of (chronicle setting history)) d) (past_in (chronicle setting history) d) own.past own.live in
      let answers : live_answers (chronicle setting history) d ≡ Some (answers_by own.past) = live_is setting history d ∙ ap (option_map answers_by) own.live in
      let u = given_is (given_now own.past) (staged_epoch (seen_of (chronicle setting history)))
      (sym (ap (λ o. same_number (option_and_then (λ a. option_map (λ duty. duty.epoch) a.given) o) (staged_epoch (seen_of (chronicle setting history))))
      answers) ∙ (committing setting r d c history clean.is).given) in
      record {
        past = own.past;
        before = own.live;
        duty = u.0;
        epoch = u.2;
        transition = ap (λ g. map_or g calls.Nothing (committed_by own.past)) u.1
            ∙ ap (λ b. if b then calls.Recommitted u.0 else calls.Committed u.0) own.acts;
        live =
            ap (λ b. if b then (if nat_eq d d then option_map (λ past. after past (calls.Commit c)) (past_in (chronicle setting history) d) else past_in
            (chronicle setting history) d) else None) at.0
            ∙ ap (λ b. if b then option_map (λ past. after past (calls.Commit c)) (past_in (chronicle setting history) d) else past_in
            (chronicle setting history) d) (eq-eqb d d refl)
            ∙ ap (option_map (λ past. after past (calls.Commit c))) at.1;
      }

  answers_now : (of : Committed) → live_answers (chronicle setting (event.Commit r d c ∷ history)) d ≡ Some (answers_by (after of.past (calls.Commit c)))
  answers_now of = live_is setting (event.Commit r d c ∷ history) d ∙ ap (option_map answers_by) of.live

  -- it is new
  pub committer_new : is_new (chronicle setting (event.Commit r d c ∷ history)) d ≡ true
  committer_new =
      let of : Committed = committed in
      let epoch : epoch_now (after of.past (calls.Commit c)) ≡ of.duty.epoch =
      ap (λ transition. epoch_now (record { making = of.past.making; did = record { call = calls.Commit c; transition = transition } ∷ of.past.did }))
      of.transition in
      ap (λ o. same_number (option_map (λ a. a.epoch) o) (staged_epoch (seen_of (chronicle setting (event.Commit r d c ∷ history))))) (answers_now of)
      ∙ eq-eqb (epoch_now (after of.past (calls.Commit c))) (staged_epoch (seen_of (chronicle setting (event.Commit r d c ∷ history))))
      (epoch ∙ of.epoch ∙ sym (staged_epoch_on setting s steps open_))

  -- and acts
  pub committer_still_acts : acts_in (chronicle setting (event.Commit r d c ∷ history)) d ≡ true
  committer_still_acts =
      let of : Committed = committed in
      ap (λ o. map_or o false (λ a. a.acts)) (answers_now of) ∙ (after_recommit of.past (calls.Commit c) of.duty of.transition).acts

  pub root_is : staged_root setting (chronicle setting (event.Commit r d c ∷ history)) ≡ d
  root_is =
      let asks : AtCommit setting (chronicle setting history) d = commit_asks setting r d c history fair clean in
      ap (λ o. map_or o 0 (λ plan. plan.root)) (staged_on setting s steps open_ refl ∙ staged_some setting steps asks.opened) ∙ asks.root

  failed_same : root_failed setting (chronicle setting (event.Commit r d c ∷ history)) ≡ root_failed setting (chronicle setting history)
  failed_same =
      ap (λ failed. list_any (same_thing (thing.Device (plan_now setting (chronicle setting (event.Commit r d c ∷ history))).root)) failed)
      (failed_on setting s steps open_ refl)
      ∙ ap (λ (plan : Plan). list_any (same_thing (thing.Device plan.root)) (failed_now (chronicle setting history))) (plan_kept setting s steps open_)

  counted_same : (x : ℕ)
      → is_counted setting (seen_of (chronicle setting (event.Commit r d c ∷ history))) x ≡ is_counted setting (seen_of (chronicle setting history)) x
  counted_same x =
      ap (λ (plan : Plan). is_up (seen_of (chronicle setting history)) x
      && (is_member plan x || joined_in_window (seen_of (chronicle setting (event.Commit r d c ∷ history))) x)) (plan_kept setting s steps open_)
      ∙ ap (λ b. is_up (seen_of (chronicle setting history)) x && (is_member (plan_now setting (chronicle setting history)) x || b))
      (in_window_on setting s steps open_ (λ y. same_number (joined y.event) x) refl refl)

  module _ (has : HasStanding setting (chronicle setting history)) where
    actor : ActsOld setting (chronicle setting history) d
    actor =
        let asks : AtCommit setting (chronicle setting history) d = commit_asks setting r d c history fair clean in
        who_acts setting history clean.is.0 asks.first_one has d asks.counted asks.acts

    -- C9 c: the staged root is the root, or where that failed the backup root
    pub committer_is_right : committer_is_root setting (chronicle setting (event.Commit r d c ∷ history)) ≡ true
    committer_is_right =
        or_right (not (has_commit (seen_of (chronicle setting (event.Commit r d c ∷ history))))) _
        (and_from _ _
        (eq-eqb _ _
        (root_is ∙ actor.is
        ∙ sym (ap (λ b. if b then (plan_now setting (chronicle setting (event.Commit r d c ∷ history))).backup_root else (plan_now setting
        (chronicle setting (event.Commit r d c ∷ history))).root) failed_same
        ∙ ap (λ (plan : Plan). if root_failed setting (chronicle setting history) then plan.backup_root else plan.root) (plan_kept setting s steps open_))))
        (ap (is_new (chronicle setting (event.Commit r d c ∷ history))) root_is ∙ committer_new))

    -- C9 c: it acts, and no other device that counts does
    pub committer_acts_alone : (x : ℕ) → committer_acts setting (chronicle setting (event.Commit r d c ∷ history)) x ≡ true
    committer_acts_alone x =
        go (has_commit (seen_of (chronicle setting (event.Commit r d c ∷ history))))
        (is_counted setting (seen_of (chronicle setting (event.Commit r d c ∷ history))) x) refl
        (nat_eq x (staged_root setting (chronicle setting (event.Commit r d c ∷ history)))) refl
      where
        go : (hc cn : Bool) → is_counted setting (seen_of (chronicle setting (event.Commit r d c ∷ history))) x ≡ cn → (b : Bool)
            → nat_eq x (staged_root setting (chronicle setting (event.Commit r d c ∷ history))) ≡ b
            → (not (hc && cn)
            || (if b then acts_in (chronicle setting (event.Commit r d c ∷ history)) x else not
            (acts_in (chronicle setting (event.Commit r d c ∷ history)) x))) ≡ true
        go hc false counted b same = absent hc
          where
            absent : (h : Bool)
                → (not (h && false)
                || (if b then acts_in (chronicle setting (event.Commit r d c ∷ history)) x else not
                (acts_in (chronicle setting (event.Commit r d c ∷ history)) x))) ≡ true
            absent true = refl
            absent false = refl
        go hc true counted true same =
            or_right (not (hc && true)) _ (ap (acts_in (chronicle setting (event.Commit r d c ∷ history))) (eqb-true x _ same ∙ root_is) ∙ committer_still_acts)
        go hc true counted false same = or_right (not (hc && true)) _ (other (acts_in (chronicle setting (event.Commit r d c ∷ history)) x) refl)
          where
            apart : nat_eq d x ≡ false
            apart = false_from_ne_true (nat_eq d x)
                (λ here. not_both (nat_eq x (staged_root setting (chronicle setting (event.Commit r d c ∷ history))))
                (eq-eqb x _ (sym (eqb-true d x here) ∙ sym root_is)) same)

            other : (a : Bool) → acts_in (chronicle setting (event.Commit r d c ∷ history)) x ≡ a → not a ≡ true
            other false acts = refl
            other true acts =
                let asks : AtCommit setting (chronicle setting history) d = commit_asks setting r d c history fair clean in
                let was : acts_in (chronicle setting history) x ≡ true = sym (acts_on s steps x (others x apart)) ∙ acts in
                let it : ActsOld setting (chronicle setting history) x =
                who_acts setting history clean.is.0 asks.first_one has x (sym (counted_same x) ∙ counted) was in
                absurd (not_both (nat_eq d x) (eq-eqb d x (actor.is ∙ sym it.is)) apart)
