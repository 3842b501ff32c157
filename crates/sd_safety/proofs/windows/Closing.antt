-- The closing (C10): from C9 and the silence of new devices each member of the new plan is up, of it and sealed, and on its primary with a short
-- silence, or is the root and acts; the root sent at most P ago; and no link of the new plan is failed.
use Rattle.std.specs.Prelude.{◌≡◌, ℕ, ◌+◌, ◌-◌, ◌*◌, ◌<◌, ◌≤◌, Bool, true, false, ◌&&◌, ◌||◌, not, List, ◌∷◌, filter, length, nat_eq, nat_le, nat_lt, Option, Some, None, is_some, option_map, refl, if◌then◌else◌}
use Rattle.std.specs.List.{list_any, list_all}
use Rattle.std.proofs.Common.{arith, ◌∙◌, ap, sym, subst}
use Rattle.std.proofs.lemmas.Bool.{and_parts, and_from, or_left, or_right, eqb-true, eq-eqb, le-leb, lt-ltb, ltb-true, false_from_ne_true}
use Rattle.sd_num.specs.Lists.{map_or, same_number}
use Rattle.sd_plan.specs.declared.Plan.{Plan}
use Rattle.sd_plan.specs.Plans.{is_member, is_root, is_present, members}
use Rattle.sd_plan.proofs.Rules.{KeepsRules, keeps_rules}
use Rattle.sd_checker.specs.check_root.Timing.{round_gap, silence}
use Rattle.sd_safety.proofs.windows.Roots.{backup_root_member}
use Rattle.sd_safety.specs.invariant.Guarded.{IsGuarded, AreGuarded, IsSteady}
use Rattle.sd_device.specs.Calls as calls
use Rattle.sd_device.specs.Calls.{Past}
use Rattle.sd_sched.specs.declared.Event.{Event}
use Rattle.sd_sched.specs.declared.Event.TheVariants as event
use Rattle.sd_sched.specs.Events.{is_commit}
use Rattle.sd_history.specs.World.{Setting, Seen, is_up, window, window_is_open, has_commit, staged, staged_epoch, plan_numbered, is_counted, is_staged_member, joined_in_window, latest_reference, link_has_failed}
use Rattle.sd_history.specs.Steps.{Answers, Step, seen_of, answers_in, live_answers, acts_in, epoch_in, parent_in, given_in, has_settled}
use Rattle.sd_history.specs.Chronicle.{past_in, next_step, chronicle}
use Rattle.sd_history.proofs.Among.{Among, passes}
use Rattle.sd_history.proofs.Filters.{filter_in}
use Rattle.sd_history.proofs.Shared.{among_below}
use Rattle.sd_safety.specs.invariant.Bounds.{depth, delay, rounds_gap}
use Rattle.sd_safety.specs.invariant.Eras.{era, plan_now, belongs, will_belong, is_old, is_new, is_blank, on_primary, heard_at, sent_at, sends, silent_for, root_failed}
use Rattle.sd_safety.specs.invariant.Clauses.{just_closed, member_enters, member_begins, root_begins, link_begins, staged_root, leads_to_root}
use Rattle.sd_safety.proofs.invariant.InForce.{in_force_too}
use Rattle.sd_safety.proofs.invariant.Prefix.{clean_before}
use Rattle.sd_safety.proofs.invariant.Sides.{implied, not_both}
use Rattle.sd_safety.proofs.timers.Histories.{Timely, timely, timed, before, sends_soon}
use Rattle.sd_safety.proofs.waits.SameReferences.{sent_is}
use Rattle.sd_safety.specs.windows.Standing.{HasEntered}
use Rattle.sd_safety.proofs.windows.Eras.{era_grows}
use Rattle.sd_safety.proofs.windows.NoClosing.{closing, begun}
use Rattle.sd_safety.proofs.windows.Committing.{staged_plan, staged_some, ActingPast, acting_past, up_and_past}
use Rattle.sd_safety.proofs.windows.Sealing.{epoch_sealed, acts_sealed, primary_sealed, heard_sealed}
use Rattle.sd_safety.proofs.windows.Links.{staged_links}

-- who is of some epoch is up
pub epoch_up : (steps : List Step) (x n : ℕ) → same_number (epoch_in steps x) n ≡ true → is_up (seen_of steps) x ≡ true
epoch_up steps x n is = go (is_up (seen_of steps) x) is
  where
    go : (b : Bool) → same_number (option_map (λ a. a.epoch) (if b then answers_in steps x else None)) n ≡ true → b ≡ true
    go true is' = refl
    go false is' = cc

pub settled_epoch : (o : Option Answers) (n : ℕ) → map_or o false (λ a. nat_eq a.epoch n && a.sealed) ≡ true
    → same_number (option_map (λ a. a.epoch) o) n ≡ true
settled_epoch None n is = cc
settled_epoch (Some a) n is = (and_parts (nat_eq a.epoch n) a.sealed is).0

pub commit_is_open : (seen : List Seen) → has_commit seen ≡ true → window_is_open seen ≡ true
commit_is_open seen commit = go (window seen) commit
  where
    go : (w : Option (List Seen)) → map_or w false (list_any (λ x. is_commit x.event)) ≡ true → is_some w ≡ true
    go None is = cc
    go (Some v) is = refl

-- what a window that closes tells
closing_tells : (setting : Setting) (s : Seen) (n : ℕ) (up settled : ℕ → Bool) (w : Option (List Seen)) → is_commit s.event ≡ false
    → closing setting n up settled (option_map (λ v. s ∷ v) w) ≡ true
    → (map_or w false (list_any (λ x. is_commit x.event)) ≡ true)
    × ((x : ℕ) → Among x (filter up (members setting.net (plan_numbered setting n))) → settled x ≡ true)
closing_tells setting s n up settled None none is = cc
closing_tells setting s n up settled (Some v) none is =
    let parts = and_parts (is_commit s.event || list_any (λ x. is_commit x.event) v) _ is in
    let rest = and_parts (nat_le 1 (length (filter up (members setting.net (plan_numbered setting n)))))
    (list_all settled (filter up (members setting.net (plan_numbered setting n)))) parts.1 in
    (sym (ap (λ b. b || list_any (λ x. is_commit x.event) v) none) ∙ parts.0, λ x among. passes settled among rest.1)

enters_by : (hc sm new old blank given : Bool) → (not (hc && sm) || (new || ((old || blank) && given))) ≡ true → hc ≡ true → sm ≡ true → (P : Type 0)
    → (new ≡ true → P) → (old ≡ true → P) → (blank ≡ true → P) → P
enters_by true true true old blank given is c m P n o b = n refl
enters_by true true false true blank given is c m P n o b = o refl
enters_by true true false false true given is c m P n o b = b refl
enters_by true true false false false given is c m P n o b = cc
enters_by true false new old blank given is c m P n o b = cc
enters_by false sm new old blank given is c m P n o b = cc

enters_up : (setting : Setting) (steps : List Step) (x : ℕ) → member_enters setting steps x ≡ true → has_commit (seen_of steps) ≡ true
    → will_belong setting steps x ≡ true → is_up (seen_of steps) x ≡ true
enters_up setting steps x enters commit member =
    enters_by (has_commit (seen_of steps)) (will_belong setting steps x) (is_new steps x) (is_old steps x) (is_blank steps x)
    (same_number (given_in steps x) (staged_epoch (seen_of steps))) enters commit member
    (is_up (seen_of steps) x ≡ true)
    (λ is. epoch_up steps x (staged_epoch (seen_of steps)) is) (λ is. epoch_up steps x (era steps) is) (λ is. epoch_up steps x 0 is)

-- a seal sends nothing
sent_by : (b : Bool) (p : Option Past) (r h : ℕ)
    → (if map_or (if b then option_map (λ (past : Past). record { call = calls.Seal; transition = calls.Nothing }) p else None) false sends then r else h) ≡ h
sent_by false p r h = refl
sent_by true None r h = refl
sent_by true (Some past) r h = refl

short : (k h d p r heard : ℕ) → r - heard ≤ (k + 1) * p + h * d → r ≤ heard + ((k + 2) * p + 4 * (h + 1) * d)
short k h d p r heard le = omega (arith, le)

begins_by : (jc m st rt a o : Bool) → (m ≡ true → st ≡ true) → (m ≡ true → (if rt then a else o) ≡ true)
    → (not (jc && m) || (st && (if rt then a else o))) ≡ true
begins_by true true st rt a o settled stood = and_from st (if rt then a else o) (settled refl) (stood refl)
begins_by true false st rt a o settled stood = refl
begins_by false m st rt a o settled stood = refl

begins_of : (setting : Setting) (steps : List Step) (x : ℕ) → (belongs setting.net (plan_now setting steps) x ≡ true → has_settled steps (era steps) x ≡ true)
    → (belongs setting.net (plan_now setting steps) x ≡ true
    → (if is_root (plan_now setting steps) x then acts_in steps
    x else (on_primary steps x && nat_le (latest_reference (seen_of steps)) (heard_at steps x + silence setting.net))) ≡ true)
    → member_begins setting steps x ≡ true
begins_of setting steps x settled stood =
    begins_by (just_closed steps) (belongs setting.net (plan_now setting steps) x) (has_settled steps (era steps) x) (is_root (plan_now setting steps) x)
    (acts_in steps x)
    (on_primary steps x && nat_le (latest_reference (seen_of steps)) (heard_at steps x + silence setting.net)) settled stood

module _ (setting : Setting) (r d : ℕ) (history : List Event) (fair : AreGuarded setting) (clean : IsSteady setting (event.Seal r d ∷ history))
    (closed : just_closed (chronicle setting (event.Seal r d ∷ history)) ≡ true)
    (has : HasEntered setting (chronicle setting history) r) where
  abbrev steps : List Step
  steps = chronicle setting history

  tells : (has_commit (seen_of (chronicle setting history)) ≡ true)
      × ((x : ℕ) → Among x
      (filter (is_up (seen_of (chronicle setting history)))
      (members setting.net (plan_numbered setting (staged_epoch (seen_of (chronicle setting history))))))
      → has_settled (chronicle setting (event.Seal r d ∷ history)) (staged_epoch (seen_of (chronicle setting history))) x ≡ true)
  tells =
      closing_tells setting (begun setting history (event.Seal r d)).seen (staged_epoch (seen_of (chronicle setting history)))
      (is_up (seen_of (chronicle setting history)))
      (has_settled (chronicle setting (event.Seal r d ∷ history)) (staged_epoch (seen_of (chronicle setting history))))
      (window (seen_of (chronicle setting history))) refl closed

  pub committed : has_commit (seen_of (chronicle setting history)) ≡ true
  committed = tells.0

  opened : window_is_open (seen_of (chronicle setting history)) ≡ true
  opened = commit_is_open (seen_of (chronicle setting history)) committed

  some : staged setting (seen_of (chronicle setting history)) ≡ Some (staged_plan setting (chronicle setting history))
  some = staged_some setting (chronicle setting history) opened

  staged_member : (x : ℕ) → is_member (staged_plan setting (chronicle setting history)) x ≡ true
      → is_staged_member setting (seen_of (chronicle setting history)) x ≡ true
  staged_member x member = ap (λ o. map_or o false (λ (plan : Plan). is_member plan x)) some ∙ member

  pub root_is : staged_root setting (chronicle setting history) ≡ (staged_plan setting (chronicle setting history)).root
  root_is = ap (λ o. map_or o 0 (λ (plan : Plan). plan.root)) some

  pub era_is : era (chronicle setting (event.Seal r d ∷ history)) ≡ staged_epoch (seen_of (chronicle setting history))
  era_is = era_grows (next_step setting (chronicle setting history) (event.Seal r d)) (chronicle setting history) closed

  -- each member of the new plan is up, settled, and was new
  pub member_up : (x : ℕ) → x < length setting.net.devices → is_member (staged_plan setting (chronicle setting history)) x ≡ true
      → is_up (seen_of (chronicle setting history)) x ≡ true
  member_up x known member =
      enters_up setting (chronicle setting history) x (has.entering x) committed
      (and_from (nat_lt x (length setting.net.devices)) _ (lt-ltb x (length setting.net.devices) known) (staged_member x member))

  pub member_settled : (x : ℕ) → x < length setting.net.devices → is_member (staged_plan setting (chronicle setting history)) x ≡ true
      → has_settled (chronicle setting (event.Seal r d ∷ history)) (staged_epoch (seen_of (chronicle setting history))) x ≡ true
  member_settled x known member =
      tells.1 x (filter_in (is_up (seen_of (chronicle setting history))) x _
      (filter_in (is_member (staged_plan setting (chronicle setting history))) x _ (among_below (length setting.net.devices) x known) member)
      (member_up x known member))

  pub member_new : (x : ℕ) → x < length setting.net.devices → is_member (staged_plan setting (chronicle setting history)) x ≡ true
      → is_new (chronicle setting history) x ≡ true
  member_new x known member =
      sym (ap (λ o. same_number o (staged_epoch (seen_of (chronicle setting history)))) (epoch_sealed setting history r d x))
      ∙ settled_epoch (live_answers (chronicle setting (event.Seal r d ∷ history)) x) (staged_epoch (seen_of (chronicle setting history)))
      (member_settled x known member)

  -- the new root is a member of the plan in force, and acts
  guarded : IsGuarded setting.net (plan_now setting (chronicle setting history))
  guarded = in_force_too (IsGuarded setting.net) setting history fair.guarded fair.some_plan clean.is.0

  rules : KeepsRules setting.net (plan_now setting (chronicle setting history))
  rules = keeps_rules setting.net (plan_now setting (chronicle setting history)) guarded.structure

  root_was_member : is_member (plan_now setting (chronicle setting history)) (staged_root setting (chronicle setting history)) ≡ true
  root_was_member =
      let parts = and_parts (nat_eq (staged_root setting (chronicle setting history)) _) _
      (implied (has_commit (seen_of (chronicle setting history))) _ has.committer committed) in
      go (root_failed setting (chronicle setting history)) (eqb-true (staged_root setting (chronicle setting history)) _ parts.0)
    where
      go : (b : Bool)
          → staged_root setting (chronicle setting history)
          ≡ (if b then (plan_now setting (chronicle setting history)).backup_root else (plan_now setting (chronicle setting history)).root)
          → is_member (plan_now setting (chronicle setting history)) (staged_root setting (chronicle setting history)) ≡ true
      go true is =
          ap (is_member (plan_now setting (chronicle setting history))) is
          ∙ (backup_root_member setting.net (plan_now setting (chronicle setting history)) guarded.structure).0
      go false is = ap (is_member (plan_now setting (chronicle setting history))) is ∙ rules.root

  root_new : is_new (chronicle setting history) (staged_root setting (chronicle setting history)) ≡ true
  root_new = (and_parts (nat_eq (staged_root setting (chronicle setting history)) _) _
      (implied (has_commit (seen_of (chronicle setting history))) _ has.committer committed)).1

  pub root_acts : acts_in (chronicle setting history) (staged_root setting (chronicle setting history)) ≡ true
  root_acts =
      let root : ℕ = staged_root setting (chronicle setting history) in
      let up : is_up (seen_of (chronicle setting history)) root ≡ true =
      epoch_up (chronicle setting history) root (staged_epoch (seen_of (chronicle setting history))) root_new in
      let counted : is_counted setting (seen_of (chronicle setting history)) root ≡ true =
      and_from (is_up (seen_of (chronicle setting history)) root) _ up
      (or_left (is_member (plan_now setting (chronicle setting history)) root)
      (joined_in_window (seen_of (chronicle setting history)) root) root_was_member) in
      sym (ap (λ b. if b then acts_in (chronicle setting history) root else not (acts_in (chronicle setting history) root)) (eq-eqb root root refl))
      ∙ implied (has_commit (seen_of (chronicle setting history)) && is_counted setting (seen_of (chronicle setting history)) root) _ (has.acting root up)
      (and_from (has_commit (seen_of (chronicle setting history))) _ committed counted)

  -- C10: members
  stands : (x : ℕ) → x < length setting.net.devices → is_member (staged_plan setting (chronicle setting history)) x ≡ true → (b : Bool)
      → is_root (staged_plan setting (chronicle setting history)) x ≡ b
      → (if b then acts_in (chronicle setting (event.Seal r d ∷ history))
      x else (on_primary (chronicle setting (event.Seal r d ∷ history)) x
      && nat_le r (heard_at (chronicle setting (event.Seal r d ∷ history)) x + silence setting.net))) ≡ true
  stands x known member true root =
      acts_sealed setting history r d x
      ∙ ap (acts_in (chronicle setting history)) (sym (root_is ∙ eqb-true (staged_plan setting (chronicle setting history)).root x root)) ∙ root_acts
  stands x known member false root =
      let new = member_new x known member in
      let apart : nat_eq x (staged_root setting (chronicle setting history)) ≡ false = other in
      let linked =
      and_parts (on_primary (chronicle setting history) x && map_or (parent_in (chronicle setting history) x) false (is_new (chronicle setting history)))
      (leads_to_root setting (chronicle setting history) x)
      (implied (is_new (chronicle setting history) x && not (nat_eq x (staged_root setting (chronicle setting history)))) _
      (has.linked x (member_up x known member)) (and_from (is_new (chronicle setting history) x) _ new (ap not apart))) in
      let on = and_parts (on_primary (chronicle setting history) x)
      (map_or (parent_in (chronicle setting history) x) false (is_new (chronicle setting history))) linked.0 in
      let hears : silent_for (chronicle setting history) x r ≤ rounds_gap setting.net + depth setting.net * delay setting.net = has.hears x new apart in
      let le : r ≤ heard_at (chronicle setting history) x + silence setting.net =
      short setting.net.params.loss setting.net.params.depth (delay setting.net) (round_gap setting.net) r (heard_at (chronicle setting history) x) hears in
      and_from (on_primary (chronicle setting (event.Seal r d ∷ history)) x) _ (primary_sealed setting history r d x ∙ on.0)
      (le-leb r (heard_at (chronicle setting (event.Seal r d ∷ history)) x + silence setting.net)
      (subst (λ h. r ≤ h + silence setting.net) (sym (heard_sealed setting history r d x)) le))
    where
      other : nat_eq x (staged_root setting (chronicle setting history)) ≡ false
      other =
          false_from_ne_true _
          (λ same. not_both (is_root (staged_plan setting (chronicle setting history)) x) (eq-eqb _ _ (sym (eqb-true x _ same ∙ root_is))) root)

  pub members_begin : (x : ℕ) → member_begins setting (chronicle setting (event.Seal r d ∷ history)) x ≡ true
  members_begin x =
      begins_of setting (chronicle setting (event.Seal r d ∷ history)) x
      (λ b. ap (λ n. has_settled (chronicle setting (event.Seal r d ∷ history)) n x) era_is ∙ member_settled x (known b) (as_staged b))
      (λ b. stands x (known b) (as_staged b) (is_root (plan_now setting (chronicle setting (event.Seal r d ∷ history))) x)
      (ap (λ n. is_root (plan_numbered setting n) x) (sym era_is)))
    where
      known : belongs setting.net (plan_now setting (chronicle setting (event.Seal r d ∷ history))) x ≡ true → x < length setting.net.devices
      known b = ltb-true x (length setting.net.devices)
          (and_parts (nat_lt x (length setting.net.devices)) (is_member (plan_now setting (chronicle setting (event.Seal r d ∷ history))) x) b).0

      as_staged : belongs setting.net (plan_now setting (chronicle setting (event.Seal r d ∷ history))) x ≡ true
          → is_member (staged_plan setting (chronicle setting history)) x ≡ true
      as_staged b = sym (ap (λ n. is_member (plan_numbered setting n) x) era_is)
          ∙ (and_parts (nat_lt x (length setting.net.devices)) (is_member (plan_now setting (chronicle setting (event.Seal r d ∷ history))) x) b).1

  -- C10: the root sent at most P ago
  pub root_begins_ : root_begins setting (chronicle setting (event.Seal r d ∷ history)) ≡ true
  root_begins_ =
      let root : ℕ = staged_root setting (chronicle setting history) in
      let t : Timely setting (event.Seal r d ∷ history) = timely setting (event.Seal r d ∷ history) fair.network clean.is clean.premises in
      let own : ActingPast (chronicle setting history) root = acting_past setting history root root_acts in
      let at = up_and_past (is_up (seen_of (chronicle setting history)) root) (past_in (chronicle setting history) root) own.past own.live in
      let line = sends_soon setting (event.Seal r d) history root own.past t at.0
      (or_left (is_member (plan_now setting (chronicle setting history)) root)
      (is_staged_member setting (seen_of (chronicle setting history)) root) root_was_member) at.1 own.acts in
      let same : sent_at (chronicle setting (event.Seal r d ∷ history)) root ≡ sent_at (chronicle setting history) root =
      sent_by (nat_eq d root) (past_in (chronicle setting history) root) r (sent_at (chronicle setting history) root) in
      let le : r ≤ sent_at (chronicle setting (event.Seal r d ∷ history)) root + round_gap setting.net =
      subst (λ n. r ≤ n + round_gap setting.net)
      (sym (same ∙ sent_is setting (chronicle setting history) (timed setting history (before setting (event.Seal r d) history t)) root)) line in
      or_right (not (just_closed (chronicle setting (event.Seal r d ∷ history)))) _
      (le-leb r (sent_at (chronicle setting (event.Seal r d ∷ history))
      (plan_now setting (chronicle setting (event.Seal r d ∷ history))).root + round_gap setting.net)
      (subst (λ x. r ≤ sent_at (chronicle setting (event.Seal r d ∷ history)) x + round_gap setting.net)
      (root_is ∙ ap (λ n. (plan_numbered setting n).root) (sym era_is)) le))

  -- C10: no link of the new plan is failed
  pub links_begin : (l : ℕ) → link_begins setting (chronicle setting (event.Seal r d ∷ history)) l ≡ true
  links_begin l =
      subst (λ n. (not (just_closed (chronicle setting (event.Seal r d ∷ history)) && is_present (plan_numbered setting n) l)
      || not (link_has_failed (seen_of (chronicle setting history)) l)) ≡ true) (sym era_is)
      (go (is_present (staged_plan setting (chronicle setting history)) l) refl)
    where
      go : (b : Bool) → is_present (staged_plan setting (chronicle setting history)) l ≡ b
          → (not (just_closed (chronicle setting (event.Seal r d ∷ history)) && b) || not (link_has_failed (seen_of (chronicle setting history)) l)) ≡ true
      go true present =
          or_right (not (just_closed (chronicle setting (event.Seal r d ∷ history)) && true)) _
          (ap not (staged_links setting fair history (clean_before setting (event.Seal r d) history clean) committed l present))
      go false present = off (just_closed (chronicle setting (event.Seal r d ∷ history)))
        where
          off : (j : Bool) → (not (j && false) || not (link_has_failed (seen_of (chronicle setting history)) l)) ≡ true
          off true = refl
          off false = refl
