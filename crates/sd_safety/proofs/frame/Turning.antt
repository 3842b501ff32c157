-- The core is kept by an event after the commit, with which one device takes up the staged plan: a commit, or a receipt that enters. That device was old or
-- blank, is new
-- afterwards, and acts as it did; all else is alike. So what is asked of old devices is asked of fewer; what is asked of new ones (C9) is a hypothesis.
use Rattle.std.specs.Prelude.{◌≡◌, ℕ, ◌+◌, ◌*◌, Bool, true, false, ◌&&◌, ◌||◌, not, List, ◌∷◌, max, nat_le, is_some, refl, ◌⊎◌}
use Rattle.std.specs.List.{list_all}
use Rattle.std.proofs.Common.{◌∙◌, ap, inl, inr}
use Rattle.std.proofs.lemmas.Bool.{and_right, or_right}
use Rattle.sd_num.specs.Lists.{has}
use Rattle.sd_plan.specs.declared.Plan.{Plan}
use Rattle.sd_plan.specs.Plans.{is_member, is_root}
use Rattle.sd_sched.specs.declared.Event.{Event}
use Rattle.sd_history.specs.World.{Setting, is_up, is_untouched, link_has_failed, has_commit, joined_in_window, is_counted}
use Rattle.sd_history.specs.Steps.{Step, seen_of, acts_in, parent_in, flights}
use Rattle.sd_history.specs.Chronicle.{chronicle}
use Rattle.sd_safety.specs.invariant.Bounds.{depth, delay, tick_gap}
use Rattle.sd_safety.specs.invariant.Eras.{era, plan_now, failed_now, device_failed_now, is_old, is_new, is_blank, is_past, moved, on_primary, is_ordinary, hit, hit_otherwise, path_hit, root_failed, root_lives, heard_at}
use Rattle.sd_safety.specs.invariant.Clauses.{just_closed, member_is_up, member_follows, returned_is_joined, outsider_is_past, counted_is_current, blank_is_idle, link_is_sound, root_acts, failed_root_is_not_old, ordinary_follows, backup_root_acts, backup_is_caused, move_is_caused, takeover_is_caused, above_backup_root, backup_root_stays, path_stays, shadow_is_short}
use Rattle.sd_safety.specs.invariant.Invariant.{ForEach, Core, BeganQuietly, IsCommitted}
use Rattle.sd_safety.specs.invariant.Guarded.{AreGuarded, IsSteady}
use Rattle.sd_safety.proofs.invariant.Empty.{asks_nothing}
use Rattle.sd_safety.proofs.waits.Beginning.{quiet, still}
use Rattle.sd_safety.specs.frame.Frames.{IsAlikeAt}
use Rattle.sd_safety.proofs.frame.Words as words
use Rattle.sd_safety.proofs.frame.Timely.{touched_now, member_up_now}
use Rattle.sd_safety.proofs.frame.Core.{closed_of}

-- the device goes on
pub record GoesOn (one two : List Step) (x : ℕ) : Type 0 where
  pub alike : IsAlikeAt one two x
  pub heard_is : heard_at two x ≡ heard_at one x

-- or it turns
pub record Turns (one two : List Step) (x : ℕ) : Type 0 where
  pub up_is : is_up (seen_of two) x ≡ is_up (seen_of one) x
  pub untouched_is : is_untouched (seen_of two) x ≡ is_untouched (seen_of one) x
  pub was : (is_old one x || is_blank one x) ≡ true
  pub old : is_old two x ≡ false
  pub new : is_new two x ≡ true
  pub blank : is_blank two x ≡ false
  pub acts_is : acts_in two x ≡ acts_in one x

returned_by : (m f u j b n c : Bool) → (not (m && f && u) || (j && (b || n))) ≡ true → (not (m && f && u) || (j && (c || true))) ≡ true
returned_by false f u j b n c holds = refl
returned_by true false u j b n c holds = refl
returned_by true true false j b n c holds = refl
returned_by true true true true b n true holds = refl
returned_by true true true true b n false holds = refl
returned_by true true true false b n c holds = cc

outsider_by : (u m j o n b p c : Bool) → (o || b) ≡ true → (not (u && not m) || ((u && not (o || n || b)) || (j && (b || n)))) ≡ true
    → (not (u && not m) || (p || (j && (c || true)))) ≡ true
outsider_by false m j o n b p c was holds = refl
outsider_by true true j o n b p c was holds = refl
outsider_by true false true o n b true c was holds = refl
outsider_by true false true o n b false true was holds = refl
outsider_by true false true o n b false false was holds = refl
outsider_by true false false true n b p c was holds = cc
outsider_by true false false false true true p c was holds = cc
outsider_by true false false false false true p c was holds = cc
outsider_by true false false false n false p c was holds = cc

current_by : (c u o b : Bool) → (not c || not (u && not (o || true || b))) ≡ true
current_by false u o b = refl
current_by true false o b = refl
current_by true true true b = refl
current_by true true false b = refl

module _ (setting : Setting) (one two : List Step) (core : Core setting one) (eras : era two ≡ era one) (failures : failed_now two ≡ failed_now one)
    (committed : has_commit (seen_of two) ≡ true) (joins : (d : ℕ) → joined_in_window (seen_of two) d ≡ joined_in_window (seen_of one) d)
    (links : (l : ℕ) → link_has_failed (seen_of two) l ≡ link_has_failed (seen_of one) l) (each : (x : ℕ) → GoesOn one two x ⊎ Turns one two x) where
  abbrev R : ℕ
  R = (plan_now setting one).root

  abbrev B : ℕ
  B = (plan_now setting one).backup_root

  plan : plan_now setting two ≡ plan_now setting one
  plan = words.plan_same setting one two eras

  above : above_backup_root setting two ≡ above_backup_root setting one
  above = rw plan refl

  failed_device : (x : ℕ) → device_failed_now two x ≡ device_failed_now one x
  failed_device x = words.failed_device_same setting one two eras failures x

  root_fails : root_failed setting two ≡ root_failed setting one
  root_fails = words.root_failed_same setting one two eras failures

  -- of each device
  up : (x : ℕ) → is_up (seen_of two) x ≡ is_up (seen_of one) x
  up x = elim (each x) [ inl s ↦ s.alike.up_is | inr t ↦ t.up_is ]

  untouched : (x : ℕ) → is_untouched (seen_of two) x ≡ is_untouched (seen_of one) x
  untouched x = elim (each x) [ inl s ↦ s.alike.untouched_is | inr t ↦ t.untouched_is ]

  acts : (x : ℕ) → acts_in two x ≡ acts_in one x
  acts x = elim (each x) [ inl s ↦ s.alike.acts_is | inr t ↦ t.acts_is ]

  counted : (x : ℕ) → is_counted setting (seen_of two) x ≡ is_counted setting (seen_of one) x
  counted x = rw (plan, up x, joins x) refl

  lives : root_lives setting two ≡ root_lives setting one
  lives = rw (root_fails, plan, up R) refl

  backup_acts : backup_root_acts setting two ≡ backup_root_acts setting one
  backup_acts = rw (plan, acts B) refl

  -- of one that goes on
  module _ (x : ℕ) (s : GoesOn one two x) where
    old : is_old two x ≡ is_old one x
    old = words.old_same one two x s.alike.epoch_is eras

    new : is_new two x ≡ is_new one x
    new = words.new_same one two x s.alike.epoch_is eras

    blank : is_blank two x ≡ is_blank one x
    blank = words.blank_same one two x s.alike.epoch_is

    past : is_past two x ≡ is_past one x
    past = rw (old, new, blank, s.alike.up_is) refl

    primary : on_primary two x ≡ on_primary one x
    primary = rw (s.alike.there_is, s.alike.moved_is, s.alike.acts_is) refl

  -- C1
  follows_on : (x : ℕ) → member_follows setting two x ≡ true
  follows_on x = elim (each x) [
    | inl s ↦ rw (plan, failed_device x, old x s, new x s, s.alike.up_is) (core.census.members_follow x)
    | inr t ↦ or_right (not (is_member (plan_now setting two) x && not (device_failed_now two x) && is_up (seen_of two) x)) (is_old two x || is_new two x)
        (or_right (is_old two x) (is_new two x) t.new)
  ]

  returned_on : (x : ℕ) → returned_is_joined setting two x ≡ true
  returned_on x = elim (each x) [
    | inl s ↦ rw (plan, failed_device x, joins x, blank x s, new x s, s.alike.up_is) (core.census.returned x)
    | inr t ↦
        ap (λ (p : Plan). not (is_member p x && device_failed_now two x && is_up (seen_of two) x)
        || (joined_in_window (seen_of two) x && (is_blank two x || is_new two x))) plan
        ∙ ap (λ f. not (is_member (plan_now setting one) x && f && is_up (seen_of two) x)
        || (joined_in_window (seen_of two) x && (is_blank two x || is_new two x))) (failed_device x)
        ∙ ap (λ u. not (is_member (plan_now setting one) x && device_failed_now one x && u)
        || (joined_in_window (seen_of two) x && (is_blank two x || is_new two x))) t.up_is
        ∙ ap (λ j. not (is_member (plan_now setting one) x && device_failed_now one x && is_up (seen_of one) x) || (j && (is_blank two x || is_new two x)))
        (joins x)
        ∙ ap (λ n. not (is_member (plan_now setting one) x && device_failed_now one x && is_up (seen_of one) x)
        || (joined_in_window (seen_of one) x && (is_blank two x || n))) t.new
        ∙ returned_by (is_member (plan_now setting one) x) (device_failed_now one x) (is_up (seen_of one) x) (joined_in_window (seen_of one) x) (is_blank one x)
        (is_new one x) (is_blank two x) (core.census.returned x)
  ]

  outsider_on : (x : ℕ) → outsider_is_past setting two x ≡ true
  outsider_on x = elim (each x) [
    | inl s ↦ rw (plan, past x s, joins x, blank x s, new x s, s.alike.up_is) (core.census.outsiders x)
    | inr t ↦
        ap (λ (p : Plan). not (is_up (seen_of two) x && not (is_member p x))
        || (is_past two x || (joined_in_window (seen_of two) x && (is_blank two x || is_new two x)))) plan
        ∙ ap (λ u. not (u && not (is_member (plan_now setting one) x))
        || (is_past two x || (joined_in_window (seen_of two) x && (is_blank two x || is_new two x)))) t.up_is
        ∙ ap (λ j. not (is_up (seen_of one) x && not (is_member (plan_now setting one) x)) || (is_past two x || (j && (is_blank two x || is_new two x))))
        (joins x)
        ∙ ap (λ n. not (is_up (seen_of one) x && not (is_member (plan_now setting one) x))
        || (is_past two x || (joined_in_window (seen_of one) x && (is_blank two x || n)))) t.new
        ∙ outsider_by (is_up (seen_of one) x) (is_member (plan_now setting one) x) (joined_in_window (seen_of one) x) (is_old one x) (is_new one x)
        (is_blank one x) (is_past two x) (is_blank two x) t.was (core.census.outsiders x)
  ]

  current_on : (x : ℕ) → counted_is_current setting two x ≡ true
  current_on x = elim (each x) [
    | inl s ↦ rw (counted x, past x s) (core.census.current x)
    | inr t ↦
        ap (λ n. not (is_counted setting (seen_of two) x) || not (is_up (seen_of two) x && not (is_old two x || n || is_blank two x))) t.new
        ∙ current_by (is_counted setting (seen_of two) x) (is_up (seen_of two) x) (is_old two x) (is_blank two x)
  ]

  blank_on : (x : ℕ) → blank_is_idle two x ≡ true
  blank_on x = elim (each x) [
    | inl s ↦ rw (blank x s, s.alike.parent_is, s.alike.acts_is) (core.census.blanks x)
    | inr t ↦ ap (λ b. not b || (not (is_some (parent_in two x)) && not (acts_in two x))) t.blank
  ]

  link_on : (l : ℕ) → link_is_sound setting two l ≡ true
  link_on l = rw (plan, words.failed_link_same setting one two eras failures l, links l) (core.census.links l)

  -- C2
  root_acts_on : root_acts setting two ≡ true
  root_acts_on = rw (lives, plan, acts R) core.roles.root

  failed_root_on : failed_root_is_not_old setting two ≡ true
  failed_root_on = elim (each R) [
    | inl s ↦ rw (root_fails, plan, old R s) core.roles.failed_root
    | inr t ↦ or_right (not (root_failed setting two)) (not (is_old two (plan_now setting two).root))
        (ap not (ap (λ (p : Plan). is_old two p.root) plan ∙ t.old))
  ]

  ordinary_on : (x : ℕ) → ordinary_follows setting two x ≡ true
  ordinary_on x = elim (each x) [
    | inl s ↦ rw (old x s, plan, s.alike.acts_is) (core.roles.ordinary x)
    | inr t ↦ ap (λ b. not (b && is_ordinary (plan_now setting two) x) || not (acts_in two x)) t.old
  ]

  -- C3
  backup_on : (x : ℕ) → backup_is_caused setting two x ≡ true
  backup_on x = elim (each x) [
    | inl s ↦ rw (
      old x s,
      words.hit_same setting one two eras failures x,
      words.hit_otherwise_same setting one two eras failures
          x,
      backup_acts,
      plan,
      s.alike.moved_is,
    ) (core.causes.backups x)
    | inr t ↦ ap (λ b. not (b && is_ordinary (plan_now setting two) x && moved two x)
        || (hit setting two x && (hit_otherwise setting two x || backup_root_acts setting two))) t.old
  ]

  -- C4
  move_on : move_is_caused setting two ≡ true
  move_on = elim (each B) [
    | inl s ↦ rw (words.path_hit_same setting one two eras failures (plan_now setting two).backup_root, plan, old B s, s.alike.moved_is) core.causes.move
    | inr t ↦
        ap (λ (p : Plan). not (is_old two p.backup_root && moved two p.backup_root) || path_hit setting two p.backup_root) plan
        ∙ ap (λ b. not (b && moved two B) || path_hit setting two B) t.old
  ]

  takeover_on : takeover_is_caused setting two ≡ true
  takeover_on = rw (backup_acts, root_fails) core.causes.takeover

  -- C5 and C6
  stays_none : Turns one two B → backup_root_stays setting two ≡ false
  stays_none t = ap (λ (p : Plan). is_old two p.backup_root && on_primary two p.backup_root) plan ∙ ap (λ b. b && on_primary two B) t.old

  stays_same : GoesOn one two B → backup_root_stays setting two ≡ backup_root_stays setting one
  stays_same s =
      ap (λ (p : Plan). is_old two p.backup_root && on_primary two p.backup_root) plan ∙ ap (λ b. b && on_primary two B) (old B s)
      ∙ ap (λ b. is_old one B && b) (primary B s)

  -- what C5 and C6 ask of a device that is not old
  none_asked : (x : ℕ) (told : Bool) → is_old two x ≡ false
      → (not (backup_root_stays setting two && has (above_backup_root setting two) x && not (is_root (plan_now setting two) x) && is_old two x) || told) ≡ true
  none_asked x told none =
      asks_nothing (backup_root_stays setting two && has (above_backup_root setting two) x && not (is_root (plan_now setting two) x) && is_old two x) told
      (and_right (backup_root_stays setting two && has (above_backup_root setting two) x && not (is_root (plan_now setting two) x)) (is_old two x) none)

  path_on : (x : ℕ) → path_stays setting two x ≡ true
  path_on x = by_both (each B) (each x)
    where
      by_both : GoesOn one two B ⊎ Turns one two B
          → GoesOn one two x ⊎ Turns one two x → path_stays setting two x ≡ true
      by_both (inr t) other =
          ap (λ b. not (b && has (above_backup_root setting two) x && not (is_root (plan_now setting two) x) && is_old two x) || not (moved two x))
          (stays_none t)
      by_both (inl s) (inr u) = none_asked x (not (moved two x)) u.old
      by_both (inl s) (inl u) = rw (stays_same s, above, plan, old x u, u.alike.moved_is) (core.causes.path x)

  abbrev near : ℕ → ℕ → Bool
  near b x = nat_le b (x + max (depth setting.net * delay setting.net) (tick_gap setting.net))

  shadow_on : (x : ℕ) → shadow_is_short setting two x ≡ true
  shadow_on x = by_both (each B) (each x)
    where
      by_both : GoesOn one two B ⊎ Turns one two B
          → GoesOn one two x ⊎ Turns one two x → shadow_is_short setting two x ≡ true
      by_both (inr t) other =
          ap (λ b. not (b && has (above_backup_root setting two) x && not (is_root (plan_now setting two) x) && is_old two x)
          || near (heard_at two (plan_now setting two).backup_root) (heard_at two x)) (stays_none t)
      by_both (inl s) (inr u) = none_asked x (near (heard_at two (plan_now setting two).backup_root) (heard_at two x)) u.old
      by_both (inl s) (inl u) = rw (stays_same s, above, plan, old x u, u.heard_is, s.heard_is) (core.causes.shadow x)

  pub turned_core : BeganQuietly setting two → ForEach (member_is_up setting two) → IsCommitted setting two → just_closed two ≡ false → Core setting two
  turned_core calm members_up entering unclosed =
      record {
        calm = calm;
        census = record {
          members_up = members_up;
          members_follow = follows_on;
          returned = returned_on;
          outsiders = outsider_on;
          current = current_on;
          blanks = blank_on;
          links = link_on;
        };
        roles = record { root = root_acts_on; failed_root = failed_root_on; ordinary = ordinary_on };
        causes = record { backups = backup_on; move = move_on; takeover = takeover_on; path = path_on; shadow = shadow_on };
        uncommitted =
            record {
              devices = λ x. ap (λ c. not (not c) || not (is_new two x)) committed;
              messages = ap (λ c. not (not c) || list_all (λ f. nat_le f.message.epoch (era two)) (flights two)) committed;
            };
        committed = entering;
        closed = closed_of setting two unclosed;
      }

pub turn_keeps : (setting : Setting) (e : Event) (history : List Event) → AreGuarded setting → IsSteady setting (e ∷ history)
    → Core setting (chronicle setting history) → let one = chronicle setting history in let two = chronicle setting (e ∷ history) in
    era two ≡ era one → failed_now two ≡ failed_now one → has_commit (seen_of two) ≡ true
    → ((d : ℕ) → joined_in_window (seen_of two) d ≡ joined_in_window (seen_of one) d)
    → ((l : ℕ) → link_has_failed (seen_of two) l ≡ link_has_failed (seen_of one) l) → ((x : ℕ) → GoesOn one two x ⊎ Turns one two x) → IsCommitted setting two
    → just_closed two ≡ false → Core setting two
turn_keeps setting e history fair clean core eras failures committed joins links each entering unclosed =
    let one : List Step = chronicle setting history in
    let two : List Step = chronicle setting (e ∷ history) in
    turned_core setting one two core eras failures committed joins links each
    (record {
      quiet = quiet setting (e ∷ history) fair clean;
      still = still setting (e ∷ history) fair clean;
      touched = λ x. touched_now setting e history fair clean core eras x (inr (untouched setting one two core eras failures committed joins links each x));
    })
    (λ x. member_up_now setting e history fair clean core eras x (failed_device setting one two core eras failures committed joins links each x)
    (inr (up setting one two core eras failures committed joins links each x))) entering unclosed
