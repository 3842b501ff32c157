-- What of the core every tick keeps that takes up nothing, of a device that is neither new nor blank, once the time to start is over: C0 and C1, that
-- a failed root is not old, C6, C8's devices, and C9 but for who acts. From Ticks, clause by clause.
use Rattle.std.specs.Prelude.{◌≡◌, ℕ, zero, suc, ◌+◌, Bool, true, false, ◌&&◌, ◌||◌, not, List, [], ◌∷◌, nat_eq, Option, Some, None, option_and_then, IsTrue, refl, if◌then◌else◌}
use Rattle.std.specs.List.{list_any, list_all}
use Rattle.std.proofs.Common.{◌∙◌, ap, sym, subst}
use Rattle.std.proofs.lemmas.Bool.{and_parts, and_from, or_left, eqb-true, eq-eqb, false_from_ne_true, both_ways, not-true}
use Rattle.sd_num.specs.Lists.{map_or, same_number, below, has, follow}
use Rattle.sd_plan.specs.topo.Network.{device_numbers}
use Rattle.sd_plan.specs.Plans.{is_member, is_root}
use Rattle.sd_num.proofs.Shared.{same_number-some}
use Rattle.sd_device.specs.declared.msg.Flight.{Flight}
use Rattle.sd_device.specs.Calls as calls
use Rattle.sd_device.specs.Calls.{Transition, Past}
use Rattle.sd_device.specs.Words.{transition_of, taken_up, accepted_over}
use Rattle.sd_device.proofs.Reached.{added}
use Rattle.sd_sched.specs.declared.Event.{Event}
use Rattle.sd_history.specs.World.{Setting, is_up, has_commit, is_counted, is_staged_member, joined_in_window, staged_epoch}
use Rattle.sd_history.specs.Steps.{Told, Answers, Step, seen_of, answers_in, epoch_in, parent_in, acts_in}
use Rattle.sd_history.specs.Chronicle.{answers_by, past_in, chronicle}
use Rattle.sd_history.proofs.Given.{some_is}
use Rattle.sd_history.proofs.Among.{any_passing}
use Rattle.sd_safety.specs.invariant.Bounds.{depth}
use Rattle.sd_safety.specs.invariant.Eras.{plan_now, is_old, is_new, is_blank, is_past, on_primary, heard_at, root_failed}
use Rattle.sd_safety.specs.invariant.Clauses.{is_beginning, was_touched, member_is_up, member_follows, returned_is_joined, outsider_is_past, counted_is_current, blank_is_idle, link_is_sound, failed_root_is_not_old, shadow_is_short, above_backup_root, backup_root_stays, none_is_new, member_enters, member_entered, committer_is_root, new_is_linked, left_out_is_hit, someone_untouched, leads_to_root, staged_root, nothing_emitted, stays, root_acts, ordinary_follows, backup_is_caused, move_is_caused, takeover_is_caused, path_stays, none_sent_ahead, committer_acts}
use Rattle.sd_safety.specs.invariant.Invariant.{Core, IsCounted, IsClosed, leaves_out_rightly}
use Rattle.sd_safety.proofs.invariant.Sides.{implied}
use Rattle.sd_safety.proofs.invariant.Prefix.{Passing, some_passing}
use Rattle.sd_safety.proofs.invariant.Parents.{acting_follows_nobody}
use Rattle.sd_safety.specs.invariant.Silences.{EntersSoon}
use Rattle.sd_safety.proofs.moves.Ticks as ticks
use Rattle.sd_safety.proofs.moves.Movers.{counted_when, not_past}
use Rattle.sd_safety.proofs.invariant.Known.{up_when_numbered}
use Rattle.sd_safety.proofs.invariant.Opening.{gives}
use Rattle.sd_safety.proofs.invariant.Empty.{asks_nothing}

once : (b m u : Bool) → (not (not false && m) || u) ≡ true → (not (not b && m) || u) ≡ true
once true m u clause = refl
once false m u clause = clause

once_more : (b m f u : Bool) → (not (not false && m && f) || u) ≡ true → (not (not b && m && f) || u) ≡ true
once_more true m f u clause = refl
once_more false m f u clause = clause

pub stays_on : (now was a b c n : Bool) → (now ≡ true → was ≡ true) → (not (was && a && b && c) || n) ≡ true → (not (now && a && b && c) || n) ≡ true
stays_on false was a b c n on clause = refl
stays_on true true a b c n on clause = clause
stays_on true false a b c n on clause = let is = on refl in cc

none_begin : (f : ℕ → Bool) (xs : List ℕ) → list_any (λ x. f x && false) xs ≡ false
none_begin f [] = refl
none_begin f (x ∷ xs) = by (f x) (none_begin f xs)
  where
    by : (b : Bool) → list_any (λ x. f x && false) xs ≡ false → (b && false || list_any (λ x. f x && false) xs) ≡ false
    by true rest = rest
    by false rest = rest

pub first_only : (a b : Bool) → (a || b) ≡ true → b ≡ false → a ≡ true
first_only true b is none = refl
first_only false true is none = cc
first_only false false is none = cc

map_or_same : (f g : ℕ → Bool) → ((y : ℕ) → f y ≡ g y) → (o : Option ℕ) → map_or o false f ≡ map_or o false g
map_or_same f g same None = refl
map_or_same f g same (Some y) = same y

module _ (setting : Setting) (history : List Event) (r d c : ℕ) (reaching : List Flight) (activated : Option ℕ) (acted : Bool) (told : Told)
    (sent : List Flight) (p : Past) (transition : Transition)
    (none : taken_up transition ≡ None) (deaf : accepted_over transition ≡ None) (live : is_up (seen_of (chronicle setting history)) d ≡ true)
    (there : past_in (chronicle setting history) d ≡ Some p)
    (answers : answers_in (chronicle setting history) d ≡ Some (answers_by p)) (transition_is : transition_of p (calls.Tick c) ≡ transition)
    (told_is : told.answers ≡ Some (answers_by (added p (calls.Tick c) transition)))
    (core : Core setting (chronicle setting history)) (not_new : is_new (chronicle setting history) d ≡ false)
    (not_blank : is_blank (chronicle setting history) d ≡ false)
    (begun : is_beginning setting (chronicle setting history) ≡ false) where
  abbrev steps : List Step
  steps = chronicle setting history

  abbrev now : List Step
  now = ticks.now setting (chronicle setting history) r d c reaching activated acted told sent p transition

  epochs : (x : ℕ) → epoch_in now x ≡ epoch_in steps x
  epochs = ticks.epoch_kept setting (chronicle setting history) r d c reaching activated acted told sent p transition none live there answers transition_is
      told_is

  joins : (x : ℕ) → joined_in_window (seen_of now) x ≡ joined_in_window (seen_of steps) x
  joins = ticks.joined_kept setting (chronicle setting history) r d c reaching activated acted told sent p transition

  commits : has_commit (seen_of now) ≡ has_commit (seen_of steps)
  commits = ticks.commit_kept setting (chronicle setting history) r d c reaching activated acted told sent p transition

  stageds : (x : ℕ) → is_staged_member setting (seen_of now) x ≡ is_staged_member setting (seen_of steps) x
  stageds = ticks.staged_member_kept setting (chronicle setting history) r d c reaching activated acted told sent p transition

  staged_roots : staged_root setting now ≡ staged_root setting steps
  staged_roots = ticks.staged_root_kept setting (chronicle setting history) r d c reaching activated acted told sent p transition

  olds : (x : ℕ) → is_old now x ≡ is_old steps x
  olds = ticks.old_kept setting (chronicle setting history) r d c reaching activated acted told sent p transition none live there answers transition_is told_is

  news : (x : ℕ) → is_new now x ≡ is_new steps x
  news = ticks.new_kept setting (chronicle setting history) r d c reaching activated acted told sent p transition none live there answers transition_is told_is

  blanks : (x : ℕ) → is_blank now x ≡ is_blank steps x
  blanks = ticks.blank_kept setting (chronicle setting history) r d c reaching activated acted told sent p transition none live there answers transition_is
      told_is

  heards : (x : ℕ) → heard_at now x ≡ heard_at steps x
  heards = ticks.heard_kept setting (chronicle setting history) r d c reaching activated acted told sent p transition none live there answers transition_is
      told_is deaf

  -- a property of the device and of each other holds of all
  pub by_device : (P : ℕ → Type 0) → P d → ((x : ℕ) → nat_eq d x ≡ false → P x) → (x : ℕ) → P x
  by_device P here others x = go (nat_eq d x) refl
    where
      go : (b : Bool) → nat_eq d x ≡ b → P x
      go true is = subst P (eqb-true d x is) here
      go false is = others x is

  -- C0

  pub touched : (x : ℕ) → IsTrue (was_touched setting now x)
  touched x = once (is_beginning setting now) _ _ (rw begun at (core.calm.touched x))

  -- C1

  pub members_up : (x : ℕ) → IsTrue (member_is_up setting now x)
  members_up x = once_more (is_beginning setting now) _ _ _ (rw begun at (core.census.members_up x))

  pub follow_all : (x : ℕ) → IsTrue (member_follows setting now x)
  follow_all x = rw (epochs x) (core.census.members_follow x)

  pub returned : (x : ℕ) → IsTrue (returned_is_joined setting now x)
  returned x = rw (epochs x, joins x) (core.census.returned x)

  pub outsiders : (x : ℕ) → IsTrue (outsider_is_past setting now x)
  outsiders x = rw (epochs x, joins x) (core.census.outsiders x)

  pub current : (x : ℕ) → IsTrue (counted_is_current setting now x)
  current x = rw (epochs x, joins x) (core.census.current x)

  pub idle : (x : ℕ) → IsTrue (blank_is_idle now x)
  idle =
      by_device (λ x. IsTrue (blank_is_idle now x)) (asks_nothing (is_blank now d) _ (blanks d ∙ not_blank))
      (λ x other. rw (ticks.others_kept setting (chronicle setting history) r d c reaching activated acted told sent p transition x other)
      (core.census.blanks x))

  pub links : (l : ℕ) → IsTrue (link_is_sound setting now l)
  links l = core.census.links l

  pub counts : IsCounted setting now
  counts = record {
    members_up = members_up;
    members_follow = follow_all;
    returned = returned;
    outsiders = outsiders;
    current = current;
    blanks = idle;
    links = links;
  }

  -- C2, C6, C8

  pub failed_root : IsTrue (failed_root_is_not_old setting now)
  failed_root = rw (epochs (plan_now setting steps).root) core.roles.failed_root

  pub shadow : (backup_root_stays setting now ≡ true → backup_root_stays setting steps ≡ true) → (x : ℕ) → IsTrue (shadow_is_short setting now x)
  shadow stays x =
      let plan = plan_now setting steps in
      rw (heards plan.backup_root, heards x, olds x)
      (stays_on (backup_root_stays setting now) (backup_root_stays setting steps) (has (above_backup_root setting steps) x) (not (is_root plan x))
      (is_old steps x) _ stays (core.causes.shadow x))

  pub none_new : (x : ℕ) → IsTrue (none_is_new now x)
  none_new x = rw (commits, epochs x) (core.uncommitted.devices x)

  -- C9

  pub entering : (x : ℕ) → IsTrue (member_enters setting now x)
  entering x =
      rw (
        commits,
        stageds x,
        epochs x,
        ticks.given_kept setting
            (chronicle setting history) r d c reaching activated acted told sent p transition none live there answers transition_is told_is x,
      )
      (core.committed.entering x)

  pub entered : EntersSoon setting (chronicle setting history) r → (x : ℕ) → IsTrue (member_entered setting now x)
  entered soon x =
      rw (commits, stageds x, ticks.commit_at_kept setting (chronicle setting history) r d c reaching activated acted told sent p transition, epochs x) (soon x)

  pub committer : IsTrue (committer_is_root setting now)
  committer =
      subst (λ z. (not (has_commit (seen_of now))
      || (nat_eq z (if root_failed setting steps then (plan_now setting steps).backup_root else (plan_now setting steps).root) && is_new now z)) ≡ true)
      (sym staged_roots)
      (rw (commits, epochs (staged_root setting steps)) core.committed.committer)

  pub left_out : IsTrue (leaves_out_rightly setting now)
  left_out =
      or_left (list_all (left_out_is_hit setting now) (device_numbers setting.net)) _
      (ticks.all_same (left_out_is_hit setting now) (left_out_is_hit setting steps) (λ x. rw (commits, stageds x) refl) (device_numbers setting.net)
      ∙ first_only (list_all (left_out_is_hit setting steps) (device_numbers setting.net)) _ core.committed.left_out
      (ap (λ b. list_any (λ x. someone_untouched setting steps x && b) (device_numbers setting.net)) begun
      ∙ none_begin (someone_untouched setting steps) (device_numbers setting.net)))

  pub closed : IsClosed setting now
  closed = record { members = λ x. refl; root = refl; links = λ l. refl }

  -- new devices follow as they did

  is_other : (x : ℕ) → is_new steps x ≡ true → nat_eq d x ≡ false
  is_other x new = false_from_ne_true (nat_eq d x) (λ is. both_ways (is_new steps d) not_new (subst (λ y. is_new steps y ≡ true) (sym (eqb-true d x is)) new))

  new_commit : (x : ℕ) → is_new steps x ≡ true → has_commit (seen_of steps) ≡ true
  new_commit x new = by (has_commit (seen_of steps)) (is_new steps x) (core.uncommitted.devices x) new
    where
      by : (a b : Bool) → (not (not a) || not b) ≡ true → b ≡ true → a ≡ true
      by true b clause is = refl
      by false true clause is = cc
      by false false clause is = cc

  new_counted : (x : ℕ) → is_new steps x ≡ true → is_counted setting (seen_of steps) x ≡ true
  new_counted x new =
      counted_when (is_up (seen_of steps) x) (is_member (plan_now setting steps) x) (is_past steps x) (joined_in_window (seen_of steps) x) (is_blank steps x)
      (is_new steps x)
      (up_when_numbered (is_up (seen_of steps) x) (answers_in steps x) (staged_epoch (seen_of steps)) new) new
      (not_past (is_up (seen_of steps) x) (is_old steps x) (is_new steps x) (is_blank steps x) new) (core.census.outsiders x)

  -- a new device with a parent is no staged root
  follower : (x y : ℕ) → is_new steps x ≡ true → parent_in steps x ≡ Some y → nat_eq x (staged_root setting steps) ≡ false
  follower x y new parent =
      false_from_ne_true (nat_eq x (staged_root setting steps))
      (λ root.
      let acts : acts_in steps x ≡ true =
      sym (ap (λ b. if b then acts_in steps x else not (acts_in steps x)) root)
      ∙ implied (has_commit (seen_of steps) && is_counted setting (seen_of steps) x)
      (if nat_eq x (staged_root setting steps) then acts_in steps x else not (acts_in steps x)) (core.committed.acting x)
      (and_from (has_commit (seen_of steps)) (is_counted setting (seen_of steps) x) (new_commit x new) (new_counted x new)) in
      let alone : parent_in steps x ≡ None = acting_follows_nobody setting history x acts in
      let same : None ≡ Some y = sym alone ∙ parent in
      cc)

  linked_then : (x : ℕ) → is_new steps x ≡ true → nat_eq x (staged_root setting steps) ≡ false
      → (on_primary steps x && map_or (parent_in steps x) false (is_new steps) && leads_to_root setting steps x) ≡ true
  linked_then x new other =
      implied (is_new steps x && not (nat_eq x (staged_root setting steps)))
      (on_primary steps x && map_or (parent_in steps x) false (is_new steps) && leads_to_root setting steps x) (core.committed.linked x)
      (and_from (is_new steps x) (not (nat_eq x (staged_root setting steps))) new (ap not other))

  parents : (x : ℕ) → nat_eq d x ≡ false → parent_in now x ≡ parent_in steps x
  parents x other =
      ap (λ (o : Option Answers). option_and_then (λ a. a.parent) o)
      (ticks.others_kept setting (chronicle setting history) r d c reaching activated acted told sent p transition x other)

  three : (a b c' : Bool) → (a && b && c') ≡ true → (a ≡ true) × (b ≡ true) × (c' ≡ true)
  three true true true h = (refl, refl, refl)
  three true true false h = cc
  three true false c' h = cc
  three false b c' h = cc

  three_from : (a b c' : Bool) → a ≡ true → b ≡ true → c' ≡ true → (a && b && c') ≡ true
  three_from true true true x y z = refl
  three_from true true false x y z = cc
  three_from true false c' x y z = cc
  three_from false b c' x y z = cc

  parent_new : (o : Option ℕ) (y : ℕ) → o ≡ Some y → map_or o false (is_new steps) ≡ true → is_new steps y ≡ true
  parent_new None y same new = cc
  parent_new (Some z) y same new = subst (λ v. is_new steps v ≡ true) (some_is same) new

  -- going along parents from a new device one meets new devices alone
  chain : (n x y : ℕ) → is_new steps x ≡ true → follow (parent_in steps) n x ≡ Some y → (is_new steps y ≡ true) × (follow (parent_in now) n x ≡ Some y)
  chain zero x y new same = (subst (λ z. is_new steps z ≡ true) (some_is same) new, same)
  chain (suc n) x y new same = go (follow (parent_in steps) n x) refl same (chain n x)
    where
      go : (o : Option ℕ) → follow (parent_in steps) n x ≡ o → option_and_then (parent_in steps) o ≡ Some y
          → ((z : ℕ) → is_new steps x ≡ true → follow (parent_in steps) n x ≡ Some z → (is_new steps z ≡ true) × (follow (parent_in now) n x ≡ Some z))
          → (is_new steps y ≡ true) × (option_and_then (parent_in now) (follow (parent_in now) n x) ≡ Some y)
      go None is to before = cc
      go (Some z) is to before =
          let at = before z new is in
          let linked =
          three (on_primary steps z) (map_or (parent_in steps z) false (is_new steps)) (leads_to_root setting steps z)
          (linked_then z at.0 (follower z y at.0 to)) in
          (parent_new (parent_in steps z) y to linked.1, ap (λ (o : Option ℕ). option_and_then (parent_in now) o) at.1 ∙ parents z (is_other z at.0) ∙ to)

  leads : (x : ℕ) → is_new steps x ≡ true → leads_to_root setting steps x ≡ true → leads_to_root setting now x ≡ true
  leads x new is =
      let found : Passing (λ n. same_number (follow (parent_in steps) n x) (staged_root setting steps)) (below (depth setting.net + 1)) =
      some_passing _ (below (depth setting.net + 1)) is in
      let root : ℕ = staged_root setting steps in
      let to = chain found.one x root new (same_number-some (follow (parent_in steps) found.one x) root found.passed) in
      subst (λ z. list_any (λ n. same_number (follow (parent_in now) n x) z) (below (depth setting.net + 1)) ≡ true) (sym staged_roots)
      (any_passing (λ n. same_number (follow (parent_in now) n x) root) found.one (below (depth setting.net + 1)) found.there
      (ap (λ o. same_number o root) to.1 ∙ eq-eqb root root refl))

  pub linked : (x : ℕ) → IsTrue (new_is_linked setting now x)
  linked x =
      gives (is_new now x && not (nat_eq x (staged_root setting now)))
      (on_primary now x && map_or (parent_in now x) false (is_new now) && leads_to_root setting now x)
      (λ is.
      let both = and_parts (is_new now x) (not (nat_eq x (staged_root setting now))) is in
      let new : is_new steps x ≡ true = sym (news x) ∙ both.0 in
      let other : nat_eq x (staged_root setting steps) ≡ false =
      ap (λ z. nat_eq x z) (sym staged_roots) ∙ not-true (nat_eq x (staged_root setting now)) both.1 in
      let was = three (on_primary steps x) (map_or (parent_in steps x) false (is_new steps)) (leads_to_root setting steps x) (linked_then x new other) in
      three_from (on_primary now x) (map_or (parent_in now x) false (is_new now)) (leads_to_root setting now x)
      (ticks.other_on_primary setting (chronicle setting history) r d c reaching activated acted told sent p transition x (is_other x new) ∙ was.0)
      (ap (λ (o : Option ℕ). map_or o false (is_new now)) (parents x (is_other x new)) ∙ map_or_same (is_new now) (is_new steps) news (parent_in steps x)
      ∙ was.1)
      (leads x new was.2))

  -- What its own turn shows, and the core with that

  pub record HasTurned : Type 0 where
    pub quiet : IsTrue (nothing_emitted setting now)
    pub still : (x : ℕ) → IsTrue (stays setting now x)
    pub root : IsTrue (root_acts setting now)
    pub ordinary : (x : ℕ) → IsTrue (ordinary_follows setting now x)
    pub backups : (x : ℕ) → IsTrue (backup_is_caused setting now x)
    pub move : IsTrue (move_is_caused setting now)
    pub takeover : IsTrue (takeover_is_caused setting now)
    pub path : (x : ℕ) → IsTrue (path_stays setting now x)
    pub stayed : backup_root_stays setting now ≡ true → backup_root_stays setting steps ≡ true
    pub messages : IsTrue (none_sent_ahead now)
    pub enters : EntersSoon setting (chronicle setting history) r
    pub acting : (x : ℕ) → IsTrue (committer_acts setting now x)

  pub core_turned : HasTurned → Core setting now
  core_turned t =
      record {
        calm = record { quiet = t.quiet; still = t.still; touched = touched };
        census = counts;
        roles = record { root = t.root; failed_root = failed_root; ordinary = t.ordinary };
        causes = record { backups = t.backups; move = t.move; takeover = t.takeover; path = t.path; shadow = shadow t.stayed };
        uncommitted = record { devices = none_new; messages = t.messages };
        committed = record { entering = entering; entered = entered t.enters; committer = committer; acting = t.acting; linked = linked; left_out = left_out };
        closed = closed;
      }
