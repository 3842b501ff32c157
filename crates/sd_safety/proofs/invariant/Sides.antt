-- The invariant gives the graph what it asks for: a device from which parents lead on without end is old, a member and no root; an ordinary one
-- follows a hop of the loop condition's graph; and from the backup root parents lead along primary hops to the root.
use Rattle.std.specs.Prelude.{◌≡◌, ℕ, zero, suc, ◌+◌, ◌<◌, Bool, true, false, ◌&&◌, ◌||◌, not, List, [], ◌∷◌, ◌++◌, length, filter, nat_eq, Option, Some, None, is_some, option_to_list, refl, IfSome, ◌⊎◌, if◌then◌else◌}
use Rattle.std.specs.List.{list_any}
use Rattle.std.proofs.Common.{◌∙◌, ap, sym, subst, inl, inr}
use Rattle.std.proofs.lemmas.Bool.{and_parts, and_from, or_left, or_right, eqb-true, eq-eqb, false_from_ne_true, false≢true}
use Rattle.std.proofs.lemmas.List.Folds.{list_any-append}
use Rattle.sd_num.specs.Lists.{has, below, map_or, same_number, follow}
use Rattle.sd_plan.specs.topo.Network.{Network}
use Rattle.sd_plan.specs.declared.Hop.{Hop}
use Rattle.sd_plan.specs.declared.Plan.{Plan}
use Rattle.sd_plan.specs.Plans.{Fits, IsHop, is_member, is_present, is_root, is_backup_root, primary_of, backup_of}
use Rattle.sd_plan.specs.Walks.{walk, devices_of, end_of, ends_walks, is_hit}
use Rattle.sd_plan.specs.Structure.{hop_is_right}
use Rattle.sd_plan.proofs.Rules.{KeepsRules, hops_within}
use Rattle.sd_checker.specs.check_root.Roots.{fallback_devices}
use Rattle.sd_checker.specs.check_loop.Loops.{same_hop}
use Rattle.sd_num.proofs.Shared.{same_number-some}
use Rattle.sd_sched.specs.declared.Event.{Event}
use Rattle.sd_history.specs.World.{Setting, is_up, has_commit, is_counted, joined_in_window}
use Rattle.sd_history.specs.Steps.{Step, seen_of, parent_in, acts_in}
use Rattle.sd_history.specs.Chronicle.{chronicle}
use Rattle.sd_history.specs.Lines.{counted_parent}
use Rattle.sd_history.proofs.Among.{Among, first, later, any_passing}
use Rattle.sd_history.proofs.Given.{some_is}
use Rattle.sd_safety.specs.invariant.Bounds.{depth}
use Rattle.sd_safety.specs.invariant.Eras.{plan_now, is_old, is_new, is_blank, live_past, moved, on_primary, is_ordinary, hit, root_failed, root_lives}
use Rattle.sd_safety.specs.invariant.Clauses.{above_backup_root, backup_root_stays, backup_root_moved, backup_root_acts, staged_root, leads_to_root}
use Rattle.sd_safety.specs.invariant.Invariant.{Invariant}
use Rattle.sd_safety.proofs.invariant.Prefix.{Passing, some_passing}
use Rattle.sd_safety.proofs.invariant.Cycles.{Over, IsEdge, Endless, Primaries, goes_on, walk_stops, follow_front}
use Rattle.sd_safety.proofs.invariant.Parents.{old_is, Follows, follows_of, acting_follows_nobody}
use Rattle.sd_safety.proofs.invariant.Domains.{Holding, hit_is_hit}

-- where a clause's condition holds, so does what it says
pub implied : (a b : Bool) → (not a || b) ≡ true → a ≡ true → b ≡ true
implied true b holds is = holds
implied false b holds is = cc

pub not_both : (a : Bool) → a ≡ true → a ≡ false → ⊥
not_both a is isnt = false≢true (sym isnt ∙ is)

counted_when : (b : Bool) (o : Option ℕ) (z : ℕ) → (if b then o else None) ≡ Some z → (b ≡ true) × (o ≡ Some z)
counted_when true o z is = (refl, is)
counted_when false o z is = cc

-- a device that counts as live, and is neither new nor blank, is an old member
pub stands : (up member joined old new blank : Bool) → (up && (member || joined)) ≡ true
    → (not (up && (member || joined)) || not (up && not (old || new || blank))) ≡ true → new ≡ false → blank ≡ false
    → (not (up && not member) || ((up && not (old || new || blank)) || (joined && (blank || new)))) ≡ true → (old ≡ true) × (member ≡ true)
stands false member joined old new blank counted current not_new not_blank outsider = cc
stands true member joined old true blank counted current not_new not_blank outsider = cc
stands true member joined old false true counted current not_new not_blank outsider = cc
stands true true joined true false false counted current not_new not_blank outsider = (refl, refl)
stands true true joined false false false counted current not_new not_blank outsider = cc
stands true false true true false false counted current not_new not_blank outsider = cc
stands true false true false false false counted current not_new not_blank outsider = cc
stands true false false old false false counted current not_new not_blank outsider = cc

blank_alone : (blank some acts : Bool) → (not blank || (not some && not acts)) ≡ true → some ≡ true → blank ≡ false
blank_alone true true acts idle is = cc
blank_alone true false acts idle is = cc
blank_alone false some acts idle is = refl

module _ (setting : Setting) (history : List Event) (inv : Invariant setting (chronicle setting history)) where
  abbrev steps : List Step
  steps = chronicle setting history

  abbrev net : Network
  net = setting.net

  abbrev plan : Plan
  plan = plan_now setting (chronicle setting history)

  abbrev parent : ℕ → Option ℕ
  parent = counted_parent setting (chronicle setting history)

  counted_of : (x z : ℕ) → parent x ≡ Some z → (is_counted setting (seen_of steps) x ≡ true) × (parent_in steps x ≡ Some z)
  counted_of x z is = counted_when (is_counted setting (seen_of steps) x) (parent_in steps x) z is

  -- New devices

  acting_stops : (x : ℕ) → has_commit (seen_of steps) ≡ true → nat_eq x (staged_root setting steps) ≡ true → Endless parent x → ⊥
  acting_stops x commit is endless =
      let on = endless (suc zero) in
      let counted = counted_of x on.0 on.1 in
      let acting =
      implied (has_commit (seen_of steps) && is_counted setting (seen_of steps) x) _ (inv.core.committed.acting x)
      (and_from (has_commit (seen_of steps)) (is_counted setting (seen_of steps) x) commit counted.0) in
      let acts : acts_in steps x ≡ true = sym (ap (λ b. if b then acts_in steps x else not (acts_in steps x)) is) ∙ acting in
      let none : parent_in steps x ≡ None = acting_follows_nobody setting history x acts in
      let some : parent_in steps x ≡ Some on.0 = counted.1 in
      cc

  reaches : (n x y : ℕ) → follow (parent_in steps) n x ≡ Some y → Endless parent x → Endless parent y
  reaches zero x y same endless = subst (λ z. Endless parent z) (some_is same) endless
  reaches (suc n) x y same endless =
      let on = endless (suc zero) in
      let up_ : parent_in steps x ≡ Some on.0 = (counted_of x on.0 on.1).1 in
      reaches n on.0 y (sym (follow_front (parent_in steps) n x (Some on.0) up_) ∙ same) (goes_on parent x on.0 on.1 endless)

  linked_stops : (x : ℕ) → has_commit (seen_of steps) ≡ true → leads_to_root setting steps x ≡ true → Endless parent x → ⊥
  linked_stops x commit leads endless =
      let found : Passing (λ n. same_number (follow (parent_in steps) n x) (staged_root setting steps)) (below (depth net + 1)) =
      some_passing _ (below (depth net + 1)) leads in
      let root = staged_root setting steps in
      acting_stops root commit (eq-eqb root root refl)
      (reaches found.one x root (same_number-some (follow (parent_in steps) found.one x) root found.passed) endless)

  new_when : (x : ℕ) (b : Bool) → nat_eq x (staged_root setting steps) ≡ b → has_commit (seen_of steps) ≡ true → is_new steps x ≡ true → Endless parent x → ⊥
  new_when x true is commit new endless = acting_stops x commit is endless
  new_when x false is commit new endless =
      let linked =
      implied (is_new steps x && not (nat_eq x (staged_root setting steps))) _ (inv.core.committed.linked x)
      (and_from (is_new steps x) (not (nat_eq x (staged_root setting steps))) new (ap not is)) in
      linked_stops x commit (and_parts _ (leads_to_root setting steps x) linked).1 endless

  new_stops : (x : ℕ) → is_new steps x ≡ true → Endless parent x → ⊥
  new_stops x new endless =
      by_commit (has_commit (seen_of steps)) refl (inv.core.uncommitted.devices x)
      (λ commit. new_when x (nat_eq x (staged_root setting steps)) refl commit new endless)
    where
      by_commit : (c : Bool) → has_commit (seen_of steps) ≡ c → (not (not c) || not (is_new steps x)) ≡ true → (has_commit (seen_of steps) ≡ true → ⊥) → ⊥
      by_commit true is clause rest = rest is
      by_commit false is clause rest = not_both (not (is_new steps x)) clause (ap not new)

  -- Old devices

  -- who goes on without end is an old member, and follows a hop of the plan
  pub record Stands (x z : ℕ) : Type 0 where
    pub old : is_old steps x ≡ true
    pub member : is_member plan x ≡ true
    pub counted : is_counted setting (seen_of steps) x ≡ true
    pub follows : Follows setting steps x z

  pub standing : (x z : ℕ) → Endless parent x → parent x ≡ Some z → Stands x z
  standing x z endless is =
      let counted = counted_of x z is in
      let not_new : is_new steps x ≡ false = false_from_ne_true (is_new steps x) (λ new. new_stops x new endless) in
      let not_blank : is_blank steps x ≡ false =
      blank_alone (is_blank steps x) (is_some (parent_in steps x)) (acts_in steps x) (inv.core.census.blanks x) (ap (λ o. is_some o) counted.1) in
      let both =
      stands (is_up (seen_of steps) x) (is_member plan x) (joined_in_window (seen_of steps) x) (is_old steps x) (is_new steps x) (is_blank steps x)
      counted.0 (inv.core.census.current x) not_new not_blank (inv.core.census.outsiders x) in
      record { old = both.0; member = both.1; counted = counted.0; follows = follows_of setting history x z (old_is setting history x both.0) counted.1 }

  -- nobody goes on for long from the root
  pub root_stops : (x : ℕ) → is_root plan x ≡ true → Endless parent x → ⊥
  root_stops x root endless =
      let on = endless (suc zero) in
      let here : Stands x on.0 = standing x on.0 endless on.1 in
      let same : x ≡ plan.root = sym (eqb-true plan.root x root) in
      let old : is_old steps plan.root ≡ true = subst (λ y. is_old steps y ≡ true) same here.old in
      let up_ : is_up (seen_of steps) plan.root ≡ true =
      subst (λ y. is_up (seen_of steps) y ≡ true) same (and_parts (is_up (seen_of steps) x) _ here.counted).0 in
      let idle : acts_in steps plan.root ≡ false = subst (λ y. acts_in steps y ≡ false) same here.follows.idle in
      let sound : root_failed setting steps ≡ false =
      false_from_ne_true (root_failed setting steps)
      (λ failed. not_both (not (is_old steps plan.root))
      (implied (root_failed setting steps) (not (is_old steps plan.root)) inv.core.roles.failed_root failed) (ap not old)) in
      not_both (acts_in steps plan.root)
      (implied (root_lives setting steps) (acts_in steps plan.root) inv.core.roles.root
      (and_from (is_up (seen_of steps) plan.root) (not (root_failed setting steps)) up_ (ap not sound))) idle

  -- Edges

  -- an ordinary device follows a hop of the loop condition's graph
  allowed : (member is_last h : Bool) (p b : Option Hop) (hop : Hop) → member ≡ true → is_last ≡ false → (p ≡ Some hop) ⊎ ((h ≡ true) × (b ≡ Some hop))
      → list_any (same_hop hop) (if member && not is_last then option_to_list p ++ (if h then option_to_list b else []) else []) ≡ true
  allowed true false h p b hop m l (inl is) =
      list_any-append (same_hop hop) (option_to_list p) (if h then option_to_list b else [])
      ∙ or_left (list_any (same_hop hop) (option_to_list p)) (list_any (same_hop hop) (if h then option_to_list b else []))
      (ap (λ o. list_any (same_hop hop) (option_to_list o)) is
      ∙ or_left (same_hop hop hop) false
      (and_from (nat_eq hop.parent hop.parent) (nat_eq hop.link hop.link) (eq-eqb hop.parent hop.parent refl) (eq-eqb hop.link hop.link refl)))
  allowed true false h p b hop m l (inr is) =
      list_any-append (same_hop hop) (option_to_list p) (if h then option_to_list b else [])
      ∙ or_right (list_any (same_hop hop) (option_to_list p)) (list_any (same_hop hop) (if h then option_to_list b else []))
      (ap (λ k. list_any (same_hop hop) (if k then option_to_list b else [])) is.0
      ∙ ap (λ o. list_any (same_hop hop) (option_to_list o)) is.1
      ∙ or_left (same_hop hop hop) false
      (and_from (nat_eq hop.parent hop.parent) (nat_eq hop.link hop.link) (eq-eqb hop.parent hop.parent refl) (eq-eqb hop.link hop.link refl)))
  allowed true true h p b hop m l way = cc
  allowed false is_last h p b hop m l way = cc

  module _ (held : Holding setting (chronicle setting history)) where
    edge_when : (x y : ℕ) (m : Bool) → moved steps x ≡ m → is_member plan x ≡ true → ends_walks plan x ≡ false → (m ≡ true → hit setting steps x ≡ true)
        → Over (if m then backup_of plan x else primary_of plan x) y → IsEdge net plan held.domain x y
    edge_when x y true is member end_ hits over =
        record {
          hop = over.hop;
          leads = over.leads;
          allowed =
              allowed (is_member plan x) (ends_walks plan x) (is_hit net plan held.domain x) (primary_of plan x) (backup_of plan x) over.hop member end_
              (inr (hit_is_hit setting steps held x (hits refl), over.is));
        }
    edge_when x y false is member end_ hits over =
        record {
          hop = over.hop;
          leads = over.leads;
          allowed = allowed (is_member plan x) (ends_walks plan x) (is_hit net plan held.domain x) (primary_of plan x) (backup_of plan x) over.hop member end_
              (inl over.is);
        }

    pub edge : (x y : ℕ) → Endless parent x → is_backup_root plan x ≡ false → parent x ≡ Some y → IsEdge net plan held.domain x y
    edge x y endless other is =
        let here : Stands x y = standing x y endless is in
        let no_root : is_root plan x ≡ false = false_from_ne_true (is_root plan x) (λ root. root_stops x root endless) in
        let ordinary : is_ordinary plan x ≡ true =
        and_from (is_member plan x && not (is_root plan x)) (not (is_backup_root plan x))
        (and_from (is_member plan x) (not (is_root plan x)) here.member (ap not no_root)) (ap not other) in
        edge_when x y (moved steps x) refl here.member (ap (λ r. r || is_backup_root plan x) no_root ∙ other)
        (λ has_moved.
        (and_parts (hit setting steps x) _
        (implied (is_old steps x && is_ordinary plan x && moved steps x) _ (inv.core.causes.backups x)
        (and_from (is_old steps x && is_ordinary plan x) (moved steps x) (and_from (is_old steps x) (is_ordinary plan x) here.old ordinary) has_moved))).0)
        here.follows.hop

  -- The backup root

  module _ (fits : Fits (setting.net) (plan_now setting (chronicle setting history)))
      (rules : KeepsRules (setting.net) (plan_now setting (chronicle setting history))) where
    abbrev b : ℕ
    b = (plan_now setting (chronicle setting history)).backup_root

    reaches_from : (x : ℕ) → x < length net.devices → is_member plan x ≡ true → is_root plan (end_of x (walk net plan x)) ≡ true
    reaches_from x within member = implied (is_member plan x) (is_root plan (end_of x (walk net plan x))) (rules.reaches x within) member

    -- who stays on its primary and goes on without end follows its primary hop
    primary_when : (y z : ℕ) (m : Bool) → m ≡ false → Over (if m then backup_of plan y else primary_of plan y) z → Over (primary_of plan y) z
    primary_when y z true is over = cc
    primary_when y z false is over = over

    stays_primary : (y z : ℕ) → Stands y z → not (moved steps y) ≡ true → Over (primary_of plan y) z
    stays_primary y z here stays =
        primary_when y z (moved steps y) (false_from_ne_true (moved steps y) (λ is. not_both (not (moved steps y)) stays (ap not is))) here.follows.hop

    -- on its primary: its path
    path_primaries : (z : ℕ) → Stands b z → moved steps b ≡ false → backup_root_stays setting steps ≡ true → Primaries parent plan b (walk net plan b)
    path_primaries z here stays on y v first endless is = stays_primary b v (standing b v endless is) (ap not stays)
    path_primaries z here stays on y v (later a) endless is =
        let there : Stands y v = standing y v endless is in
        let other : is_root plan y ≡ false = false_from_ne_true (is_root plan y) (λ root. root_stops y root endless) in
        stays_primary y v there
        (implied (backup_root_stays setting steps && has (above_backup_root setting steps) y && not (is_root plan y) && is_old steps y) (not (moved steps y))
        (inv.core.causes.path y)
        (and_from (backup_root_stays setting steps && has (above_backup_root setting steps) y && not (is_root plan y)) (is_old steps y)
        (and_from (backup_root_stays setting steps && has (above_backup_root setting steps) y) (not (is_root plan y))
        (and_from (backup_root_stays setting steps) (has (above_backup_root setting steps) y) on
        (any_passing (nat_eq y) y (above_backup_root setting steps) a (eq-eqb y y refl))) (ap not other)) there.old))

    -- on its backup: its fallback
    filtered : (p : ℕ → Bool) (x : ℕ) (xs : List ℕ) → Among x xs → p x ≡ true → Among x (filter p xs)
    filtered p x [] a passed = elim a [ ]
    filtered p x (y ∷ xs) first passed = subst (λ c. Among x (if c then x ∷ filter p xs else filter p xs)) (sym passed) first
    filtered p x (y ∷ xs) (later a) passed = past (p y) (filtered p x xs a passed)
      where
        past : (c : Bool) → Among x (filter p xs) → Among x (if c then y ∷ filter p xs else filter p xs)
        past true found = later found
        past false found = found

    in_fallback : (hop : Hop) (y : ℕ) → backup_of plan b ≡ Some hop → is_root plan y ≡ false → Among y (devices_of hop.parent (walk net plan hop.parent))
        → has (fallback_devices net plan) y ≡ true
    in_fallback hop y is other a =
        ap (λ o. has (map_or o [] (λ h. filter (λ d. not (is_root plan d)) (devices_of h.parent (walk net plan h.parent)))) y) is
        ∙ any_passing (nat_eq y) y (filter (λ d. not (is_root plan d)) (devices_of hop.parent (walk net plan hop.parent)))
        (filtered (λ d. not (is_root plan d)) y (devices_of hop.parent (walk net plan hop.parent)) a (ap not other)) (eq-eqb y y refl)

    fallback_primaries : (hop : Hop) → backup_of plan b ≡ Some hop → backup_root_moved setting steps ≡ true → acts_in steps b ≡ false
        → Primaries parent plan hop.parent (walk net plan hop.parent)
    fallback_primaries hop is has_moved idle y v a endless leads =
        let there : Stands y v = standing y v endless leads in
        let other : is_root plan y ≡ false = false_from_ne_true (is_root plan y) (λ root. root_stops y root endless) in
        stays_primary y v there
        (implied (backup_root_moved setting steps && not (backup_root_acts setting steps) && has (fallback_devices net plan) y && is_old steps y)
        (not (moved steps y)) (inv.fallback.stay y)
        (and_from (backup_root_moved setting steps && not (backup_root_acts setting steps) && has (fallback_devices net plan) y) (is_old steps y)
        (and_from (backup_root_moved setting steps && not (backup_root_acts setting steps)) (has (fallback_devices net plan) y)
        (and_from (backup_root_moved setting steps) (not (backup_root_acts setting steps)) has_moved (ap not idle)) (in_fallback hop y is other a)) there.old))

    within_of : (o : Option Hop) (hop : Hop) → IfSome o (IsHop net) → o ≡ Some hop → hop.parent < length net.devices
    within_of None hop each is = cc
    within_of (Some h) hop each is = subst (λ (g : Hop). g.parent < length net.devices) (some_is is) each.0

    member_of : (o : Option Hop) (hop : Hop) → hop_is_right net plan b o ≡ true → o ≡ Some hop → is_member plan hop.parent ≡ true
    member_of None hop right is = cc
    member_of (Some h) hop right is =
        subst (λ (g : Hop). is_member plan g.parent ≡ true) (some_is is)
        (and_parts (is_member plan h.parent) (is_present plan h.link) (and_parts (is_member plan h.parent && is_present plan h.link) _ right).0).0

    backup_when : (z : ℕ) (m : Bool) → moved steps b ≡ m → Stands b z → Over (if m then backup_of plan b else primary_of plan b) z → parent b ≡ Some z
        → Endless parent b → ⊥
    backup_when z true is here over leads endless =
        let up_ : Endless parent over.hop.parent = subst (λ y. Endless parent y) (sym over.leads) (goes_on parent b z leads endless) in
        let within : over.hop.parent < length net.devices = within_of (backup_of plan b) over.hop (hops_within net plan b fits).1 over.is in
        let member : is_member plan over.hop.parent ≡ true =
        member_of (backup_of plan b) over.hop
        (and_parts (hop_is_right net plan b (primary_of plan b)) (hop_is_right net plan b (backup_of plan b)) (rules.hops b fits.backup_root)).1 over.is in
        walk_stops parent plan root_stops net over.hop.parent (reaches_from over.hop.parent within member)
        (fallback_primaries over.hop over.is (and_from (is_old steps b) (moved steps b) here.old is) here.follows.idle) up_
    backup_when z false is here over leads endless =
        let live : is_some (live_past steps b) ≡ true = ap (λ o. is_some o) (old_is setting history b here.old).live in
        let on : backup_root_stays setting steps ≡ true =
        and_from (is_old steps b) (on_primary steps b) here.old
        (and_from (is_some (live_past steps b) && not (moved steps b)) (not (acts_in steps b))
        (and_from (is_some (live_past steps b)) (not (moved steps b)) live (ap not is)) (ap not here.follows.idle)) in
        walk_stops parent plan root_stops net b (reaches_from b fits.backup_root here.member) (path_primaries z here is on) endless

    -- nobody goes on without end from the backup root
    pub backup_root_stops : Endless parent b → ⊥
    backup_root_stops endless =
        let on = endless (suc zero) in
        let here : Stands b on.0 = standing b on.0 endless on.1 in
        backup_when on.0 (moved steps b) refl here here.follows.hop on.1 endless
