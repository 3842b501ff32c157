-- The core is kept before a commit by an event with which what failed only grows, and after which each device either is alike or stands outside: it is
-- neither old nor new and does not act, as one that fails or joins. What failed grows, and so do hits. There is no commit, so nobody is new.
use Rattle.std.specs.Prelude.{◌≡◌, ℕ, ◌+◌, ◌*◌, Bool, true, false, ◌&&◌, ◌||◌, not, List, ◌∷◌, filter, max, nat_le, Option, Some, None, refl, ◌⊎◌, if◌then◌else◌}
use Rattle.std.specs.List.{list_any, list_all, cons_option}
use Rattle.std.proofs.Common.{◌∙◌, ap, sym, inl, inr}
use Rattle.std.proofs.lemmas.Bool.{and_parts, and_from, and_right, or_left, or_right, or_cases}
use Rattle.sd_num.specs.Lists.{has}
use Rattle.sd_plan.specs.declared.topo.Thing.{Thing}
use Rattle.sd_plan.specs.declared.topo.Thing.TheVariants as thing
use Rattle.sd_plan.specs.domain.Things.{same_thing}
use Rattle.sd_plan.specs.declared.Plan.{Plan}
use Rattle.sd_plan.specs.Plans.{is_present, is_root}
use Rattle.sd_plan.specs.Walks.{path, epath}
use Rattle.sd_sched.specs.declared.Event.{Event}
use Rattle.sd_history.specs.World.{Setting, is_up, is_untouched, link_has_failed, has_commit, joined_in_window, is_counted}
use Rattle.sd_history.specs.Steps.{Step, seen_of, acts_in, parent_in, flights}
use Rattle.sd_history.specs.Chronicle.{chronicle}
use Rattle.sd_history.proofs.Among.{any_passing}
use Rattle.sd_safety.specs.invariant.Bounds.{depth, delay, tick_gap}
use Rattle.sd_safety.specs.invariant.Eras.{era, plan_now, failed_now, is_among, device_failed_now, link_failed_now, touches, is_old, is_new, is_blank, is_past, moved, on_primary, is_ordinary, hit, hit_otherwise, path_hit, root_failed, root_lives, heard_at}
use Rattle.sd_safety.specs.invariant.Clauses.{just_closed, was_touched, member_is_up, member_follows, returned_is_joined, outsider_is_past, counted_is_current, blank_is_idle, link_is_sound, root_acts, failed_root_is_not_old, ordinary_follows, backup_root_acts, backup_is_caused, move_is_caused, takeover_is_caused, above_backup_root, backup_root_stays, path_stays, shadow_is_short, none_sent_ahead}
use Rattle.sd_safety.specs.invariant.Invariant.{Core}
use Rattle.sd_safety.specs.invariant.Guarded.{AreGuarded, IsSteady}
use Rattle.sd_safety.proofs.invariant.Prefix.{Passing, some_passing}
use Rattle.sd_safety.proofs.invariant.Sides.{implied, not_both}
use Rattle.sd_safety.specs.frame.Frames.{IsAlikeAt}
use Rattle.sd_safety.proofs.frame.Words as words
use Rattle.sd_safety.proofs.waits.Beginning.{quiet, still}
use Rattle.sd_safety.proofs.frame.Timely.{touched_now, member_up_now}
use Rattle.sd_safety.proofs.frame.Core.{closed_of, committed_none}
use Rattle.sd_safety.proofs.invariant.Empty.{asks_nothing}
use Rattle.sd_safety.proofs.invariant.Opening.{gives}

pub none_new : (c n : Bool) → c ≡ false → (not (not c) || not n) ≡ true → n ≡ false
none_new true n none holds = cc
none_new false true none holds = cc
none_new false false none holds = refl

any_more : (p q : Thing → Bool) (xs : List Thing) → ((t : Thing) → p t ≡ true → q t ≡ true) → list_any p xs ≡ true → list_any q xs ≡ true
any_more p q xs more any = let found : Passing p xs = some_passing p xs any in any_passing q found.one xs found.there (more found.one found.passed)

among_more : (o : Option Thing) (u : Thing) (xs : List Thing) → is_among xs u ≡ true → is_among (cons_option o xs) u ≡ true
among_more None u xs among = among
among_more (Some t) u xs among = or_right (same_thing u t) (is_among xs u) among

filtered_more : (p : Thing → Bool) (o : Option Thing) (u : Thing) (xs : List Thing) → is_among (filter p xs) u ≡ true
    → is_among (filter p (cons_option o xs)) u ≡ true
filtered_more p None u xs among = among
filtered_more p (Some t) u xs among = go (p t)
  where
    go : (b : Bool) → is_among (if b then t ∷ filter p xs else filter p xs) u ≡ true
    go true = or_right (same_thing u t) (is_among (filter p xs) u) among
    go false = among

-- the device goes on
pub record Stays (one two : List Step) (x : ℕ) : Type 0 where
  pub alike : IsAlikeAt one two x
  pub failed : device_failed_now two x ≡ device_failed_now one x
  pub joined_is : joined_in_window (seen_of two) x ≡ joined_in_window (seen_of one) x
  pub heard_is : heard_at two x ≡ heard_at one x

-- or it stands outside
pub record IsOutside (setting : Setting) (one two : List Step) (x : ℕ) : Type 0 where
  pub old : is_old two x ≡ false
  pub new : is_new two x ≡ false
  pub acts : acts_in two x ≡ false
  pub moved : moved two x ≡ false
  pub touched : is_untouched (seen_of two) x ≡ false
  -- what C1 asks of it
  pub up : member_is_up setting two x ≡ true
  pub follows : member_follows setting two x ≡ true
  pub returned : returned_is_joined setting two x ≡ true
  pub outsider : outsider_is_past setting two x ≡ true
  pub current : counted_is_current setting two x ≡ true
  pub blank : blank_is_idle two x ≡ true
  -- where it is the root, that does not live; where it is the backup root, that did not act
  pub root : (plan_now setting two).root ≡ x → root_lives setting two ≡ false
  pub backup_root : (plan_now setting one).backup_root ≡ x → backup_root_acts setting one ≡ false

module _ (setting : Setting) (e : Event) (history : List Event) (fair : AreGuarded setting) (clean : IsSteady setting (e ∷ history))
    (core : Core setting (chronicle setting history)) (t : Option Thing)
    (eras : era (chronicle setting (e ∷ history)) ≡ era (chronicle setting history))
    (committed_before : has_commit (seen_of (chronicle setting history)) ≡ false) (committed : has_commit (seen_of (chronicle setting (e ∷ history))) ≡ false)
    (more : failed_now (chronicle setting (e ∷ history)) ≡ cons_option t (failed_now (chronicle setting history)))
    (each : (x : ℕ) → Stays (chronicle setting history) (chronicle setting (e ∷ history)) x
    ⊎ IsOutside setting (chronicle setting history) (chronicle setting (e ∷ history)) x)
    (links : (l : ℕ) → (link_failed_now (chronicle setting (e ∷ history)) l ≡ true)
    ⊎ ((link_failed_now (chronicle setting (e ∷ history)) l ≡ link_failed_now (chronicle setting history) l)
    × (link_has_failed (seen_of (chronicle setting (e ∷ history))) l ≡ link_has_failed (seen_of (chronicle setting history)) l)))
    (sent : flights (chronicle setting (e ∷ history)) ≡ flights (chronicle setting history))
    (unclosed : just_closed (chronicle setting (e ∷ history)) ≡ false) where
  abbrev one : List Step
  one = chronicle setting history

  abbrev two : List Step
  two = chronicle setting (e ∷ history)

  abbrev R : ℕ
  R = (plan_now setting (chronicle setting history)).root

  abbrev B : ℕ
  B = (plan_now setting (chronicle setting history)).backup_root

  plan : plan_now setting two ≡ plan_now setting one
  plan = words.plan_same setting one two eras

  above : above_backup_root setting two ≡ above_backup_root setting one
  above = rw plan refl

  -- failures and hits grow
  grows : (u : Thing) → is_among (failed_now (chronicle setting history)) u ≡ true → is_among (failed_now (chronicle setting (e ∷ history))) u ≡ true
  grows u among = ap (λ xs. is_among xs u) more ∙ among_more t u (failed_now one) among

  hit_grows : (d : ℕ) → hit setting (chronicle setting history) d ≡ true → hit setting (chronicle setting (e ∷ history)) d ≡ true
  hit_grows d was =
      ap (λ (p : Plan). touches (failed_now two) (epath setting.net p d)) plan
      ∙ any_more (is_among (failed_now one)) (is_among (failed_now two)) (epath setting.net (plan_now setting one) d) grows was

  path_hit_grows : (d : ℕ) → path_hit setting (chronicle setting history) d ≡ true → path_hit setting (chronicle setting (e ∷ history)) d ≡ true
  path_hit_grows d was =
      ap (λ (p : Plan). touches (failed_now two) (path setting.net p d)) plan
      ∙ any_more (is_among (failed_now one)) (is_among (failed_now two)) (path setting.net (plan_now setting one) d) grows was

  abbrev besides : Thing → Bool
  besides x = not (same_thing (thing.Device (plan_now setting (chronicle setting history)).root) x)

  hit_otherwise_grows : (d : ℕ) → hit_otherwise setting (chronicle setting history) d ≡ true → hit_otherwise setting (chronicle setting (e ∷ history)) d ≡ true
  hit_otherwise_grows d was =
      ap (λ (p : Plan). touches (filter (λ x. not (same_thing (thing.Device p.root) x)) (failed_now two)) (epath setting.net p d)) plan
      ∙ ap (λ xs. touches (filter besides xs) (epath setting.net (plan_now setting one) d)) more
      ∙ any_more (is_among (filter besides (failed_now one))) (is_among (filter besides (cons_option t (failed_now one))))
      (epath setting.net (plan_now setting one) d) (λ u among. filtered_more besides t u (failed_now one) among) was

  pub root_failed_grows : root_failed setting (chronicle setting history) ≡ true → root_failed setting (chronicle setting (e ∷ history)) ≡ true
  root_failed_grows was = ap (λ (p : Plan). device_failed_now two p.root) plan ∙ grows (thing.Device R) was

  -- of a device that goes on
  module _ (x : ℕ) (s : Stays (chronicle setting history) (chronicle setting (e ∷ history)) x) where
    old : is_old (chronicle setting (e ∷ history)) x ≡ is_old (chronicle setting history) x
    old = words.old_same one two x s.alike.epoch_is eras

    new : is_new (chronicle setting (e ∷ history)) x ≡ is_new (chronicle setting history) x
    new = words.new_same one two x s.alike.epoch_is eras

    blank : is_blank (chronicle setting (e ∷ history)) x ≡ is_blank (chronicle setting history) x
    blank = words.blank_same one two x s.alike.epoch_is

    acts : acts_in (chronicle setting (e ∷ history)) x ≡ acts_in (chronicle setting history) x
    acts = s.alike.acts_is

    parent : parent_in (chronicle setting (e ∷ history)) x ≡ parent_in (chronicle setting history) x
    parent = s.alike.parent_is

    past : is_past (chronicle setting (e ∷ history)) x ≡ is_past (chronicle setting history) x
    past = rw (old, new, blank, s.alike.up_is) refl

    primary : on_primary (chronicle setting (e ∷ history)) x ≡ on_primary (chronicle setting history) x
    primary = rw (s.alike.there_is, s.alike.moved_is, acts) refl

    counted : is_counted setting (seen_of (chronicle setting (e ∷ history))) x ≡ is_counted setting (seen_of (chronicle setting history)) x
    counted = rw (plan, s.alike.up_is, s.joined_is) refl

  -- C1
  follows_on : (x : ℕ) → member_follows setting (chronicle setting (e ∷ history)) x ≡ true
  follows_on x = elim (each x) [
    | inl s ↦ rw (plan, s.failed, old x s, new x s, s.alike.up_is) (core.census.members_follow x)
    | inr f ↦ f.follows
  ]

  returned_on : (x : ℕ) → returned_is_joined setting (chronicle setting (e ∷ history)) x ≡ true
  returned_on x = elim (each x) [
    | inl s ↦ rw (plan, s.failed, s.joined_is, blank x s, new x s, s.alike.up_is) (core.census.returned x)
    | inr f ↦ f.returned
  ]

  outsider_on : (x : ℕ) → outsider_is_past setting (chronicle setting (e ∷ history)) x ≡ true
  outsider_on x = elim (each x) [
    | inl s ↦ rw (plan, past x s, s.joined_is, blank x s, new x s, s.alike.up_is) (core.census.outsiders x)
    | inr f ↦ f.outsider
  ]

  current_on : (x : ℕ) → counted_is_current setting (chronicle setting (e ∷ history)) x ≡ true
  current_on x = elim (each x) [
    | inl s ↦ rw (counted x s, past x s) (core.census.current x)
    | inr f ↦ f.current
  ]

  blank_on : (x : ℕ) → blank_is_idle (chronicle setting (e ∷ history)) x ≡ true
  blank_on x = elim (each x) [
    | inl s ↦ rw (blank x s, parent x s, acts x s) (core.census.blanks x)
    | inr f ↦ f.blank
  ]

  link_on : (l : ℕ) → link_is_sound setting (chronicle setting (e ∷ history)) l ≡ true
  link_on l = elim (links l) [
    | inl failed ↦
        asks_nothing (is_present (plan_now setting two) l && not (link_failed_now two l)) (not (link_has_failed (seen_of two) l))
        (and_right (is_present (plan_now setting two) l) (not (link_failed_now two l)) (ap not failed))
    | inr same ↦ rw (plan, same.0, same.1) (core.census.links l)
  ]

  up_on : (x : ℕ) → member_is_up setting (chronicle setting (e ∷ history)) x ≡ true
  up_on x = elim (each x) [
    | inl s ↦ member_up_now setting e history fair clean core eras x s.failed (inr s.alike.up_is)
    | inr f ↦ f.up
  ]

  touched_on : (x : ℕ) → was_touched setting (chronicle setting (e ∷ history)) x ≡ true
  touched_on x = elim (each x) [
    | inl s ↦ touched_now setting e history fair clean core eras x (inr s.alike.untouched_is)
    | inr f ↦ touched_now setting e history fair clean core eras x (inl f.touched)
  ]

  -- C2
  root_acts_on : root_acts setting (chronicle setting (e ∷ history)) ≡ true
  root_acts_on = elim (each R) [
    | inl s ↦
        ap (λ (p : Plan). not (is_up (seen_of two) p.root && not (device_failed_now two p.root)) || acts_in two p.root) plan
        ∙ ap (λ b. not (b && not (device_failed_now two R)) || acts_in two R) s.alike.up_is
        ∙ ap (λ b. not (is_up (seen_of one) R && not b) || acts_in two R) s.failed ∙ ap (λ b. not (root_lives setting one) || b) (acts R s) ∙ core.roles.root
    | inr f ↦ ap (λ b. not b || acts_in two (plan_now setting two).root) (f.root (ap (λ (p : Plan). p.root) plan))
  ]

  failed_root_on : failed_root_is_not_old setting (chronicle setting (e ∷ history)) ≡ true
  failed_root_on = elim (each R) [
    | inl s ↦
        ap (λ (p : Plan). not (device_failed_now two p.root) || not (is_old two p.root)) plan
        ∙ ap (λ b. not b || not (is_old two R)) s.failed ∙ ap (λ b. not (device_failed_now one R) || not b) (old R s) ∙ core.roles.failed_root
    | inr f ↦
        or_right (not (root_failed setting two)) (not (is_old two (plan_now setting two).root)) (ap not (ap (λ (p : Plan). is_old two p.root) plan ∙ f.old))
  ]

  ordinary_on : (x : ℕ) → ordinary_follows setting (chronicle setting (e ∷ history)) x ≡ true
  ordinary_on x = elim (each x) [
    | inl s ↦ rw (old x s, plan, acts x s) (core.roles.ordinary x)
    | inr f ↦ ap (λ b. not (b && is_ordinary (plan_now setting two) x) || not (acts_in two x)) f.old
  ]

  -- C3: who is hit stays hit, and who acts goes on, or failed together with the root
  backup_acts_on : backup_root_acts setting (chronicle setting history) ≡ true → backup_root_acts setting (chronicle setting (e ∷ history)) ≡ true
  backup_acts_on was = elim (each B) [
    | inl s ↦ ap (λ (p : Plan). acts_in two p.backup_root) plan ∙ acts B s ∙ was
    | inr f ↦ absurd (not_both (backup_root_acts setting one) was (f.backup_root refl))
  ]

  caused_on : (x : ℕ)
      → (hit setting (chronicle setting history) x
      && (hit_otherwise setting (chronicle setting history) x || backup_root_acts setting (chronicle setting history))) ≡ true
      → (hit setting (chronicle setting (e ∷ history)) x
      && (hit_otherwise setting (chronicle setting (e ∷ history)) x || backup_root_acts setting (chronicle setting (e ∷ history)))) ≡ true
  caused_on x was =
      let parts = and_parts (hit setting one x) (hit_otherwise setting one x || backup_root_acts setting one) was in
      and_from (hit setting two x) (hit_otherwise setting two x || backup_root_acts setting two) (hit_grows x parts.0)
      (elim (or_cases (hit_otherwise setting one x) (backup_root_acts setting one) parts.1) [
        | inl other ↦ or_left (hit_otherwise setting two x) (backup_root_acts setting two) (hit_otherwise_grows x other)
        | inr acting ↦ or_right (hit_otherwise setting two x) (backup_root_acts setting two) (backup_acts_on acting)
      ])

  backup_on : (x : ℕ) → backup_is_caused setting (chronicle setting (e ∷ history)) x ≡ true
  backup_on x = elim (each x) [
    | inl s ↦
        gives (is_old two x && is_ordinary (plan_now setting two) x && moved two x) _
        (λ all.
        caused_on x
        (implied (is_old one x && is_ordinary (plan_now setting one) x && moved one x) _ (core.causes.backups x)
        (sym
        (ap (λ b. b && is_ordinary (plan_now setting two) x && moved two x) (old x s)
        ∙ ap (λ (p : Plan). is_old one x && is_ordinary p x && moved two x) plan
        ∙ ap (λ b. is_old one x && is_ordinary (plan_now setting one) x && b) s.alike.moved_is) ∙ all)))
    | inr f ↦ ap (λ b. not (b && is_ordinary (plan_now setting two) x && moved two x)
        || (hit setting two x && (hit_otherwise setting two x || backup_root_acts setting two))) f.old
  ]

  -- C4
  move_on : move_is_caused setting (chronicle setting (e ∷ history)) ≡ true
  move_on = elim (each B) [
    | inl s ↦
        ap (λ (p : Plan). not (is_old two p.backup_root && moved two p.backup_root) || path_hit setting two p.backup_root) plan
        ∙ gives (is_old two B && moved two B) (path_hit setting two B)
        (λ all.
        path_hit_grows B
        (implied (is_old one B && moved one B) (path_hit setting one B) core.causes.move
        (sym (ap (λ b. b && moved two B) (old B s) ∙ ap (λ b. is_old one B && b) s.alike.moved_is) ∙ all)))
    | inr f ↦
        ap (λ (p : Plan). not (is_old two p.backup_root && moved two p.backup_root) || path_hit setting two p.backup_root) plan
        ∙ ap (λ b. not (b && moved two B) || path_hit setting two B) f.old
  ]

  takeover_on : takeover_is_caused setting (chronicle setting (e ∷ history)) ≡ true
  takeover_on = elim (each B) [
    | inl s ↦
        ap (λ (p : Plan). not (acts_in two p.backup_root) || root_failed setting two) plan
        ∙ gives (acts_in two B) (root_failed setting two)
        (λ acting. root_failed_grows (implied (backup_root_acts setting one) (root_failed setting one) core.causes.takeover (sym (acts B s) ∙ acting)))
    | inr f ↦ ap (λ (p : Plan). not (acts_in two p.backup_root) || root_failed setting two) plan ∙ ap (λ b. not b || root_failed setting two) f.acts
  ]

  -- C5 and C6
  stays_none : IsOutside setting (chronicle setting history) (chronicle setting (e ∷ history)) B
      → backup_root_stays setting (chronicle setting (e ∷ history)) ≡ false
  stays_none f = ap (λ (p : Plan). is_old two p.backup_root && on_primary two p.backup_root) plan ∙ ap (λ b. b && on_primary two B) f.old

  stays_same : Stays (chronicle setting history) (chronicle setting (e ∷ history)) B
      → backup_root_stays setting (chronicle setting (e ∷ history)) ≡ backup_root_stays setting (chronicle setting history)
  stays_same s =
      ap (λ (p : Plan). is_old two p.backup_root && on_primary two p.backup_root) plan ∙ ap (λ b. b && on_primary two B) (old B s)
      ∙ ap (λ b. is_old one B && b) (primary B s)

  path_on : (x : ℕ) → path_stays setting (chronicle setting (e ∷ history)) x ≡ true
  path_on x = by_both (each B) (each x)
    where
      by_both : Stays (chronicle setting history) (chronicle setting (e ∷ history)) B
          ⊎ IsOutside setting (chronicle setting history) (chronicle setting (e ∷ history)) B
          → Stays (chronicle setting history) (chronicle setting (e ∷ history)) x
          ⊎ IsOutside setting (chronicle setting history) (chronicle setting (e ∷ history)) x
          → path_stays setting (chronicle setting (e ∷ history)) x ≡ true
      by_both (inr f) other =
          ap (λ b. not (b && has (above_backup_root setting two) x && not (is_root (plan_now setting two) x) && is_old two x) || not (moved two x))
          (stays_none f)
      by_both (inl s) (inr g) =
          or_right (not (backup_root_stays setting two && has (above_backup_root setting two) x && not (is_root (plan_now setting two) x) && is_old two x))
          (not (moved two x)) (ap not g.moved)
      by_both (inl s) (inl u) =
          ap (λ b. not (b && has (above_backup_root setting two) x && not (is_root (plan_now setting two) x) && is_old two x) || not (moved two x))
          (stays_same s)
          ∙ ap (λ xs. not (backup_root_stays setting one && has xs x && not (is_root (plan_now setting two) x) && is_old two x) || not (moved two x)) above
          ∙ ap (λ p. not (backup_root_stays setting one && has (above_backup_root setting one) x && not (is_root p x) && is_old two x) || not (moved two x))
          plan
          ∙ ap (λ b. not (backup_root_stays setting one && has (above_backup_root setting one) x && not (is_root (plan_now setting one) x) && b)
          || not (moved two x)) (old x u)
          ∙ ap (λ b. not (backup_root_stays setting one && has (above_backup_root setting one) x && not (is_root (plan_now setting one) x) && is_old one x)
          || not b) u.alike.moved_is ∙ core.causes.path x

  abbrev near : ℕ → ℕ → Bool
  near b x = nat_le b (x + max (depth setting.net * delay setting.net) (tick_gap setting.net))

  shadow_on : (x : ℕ) → shadow_is_short setting (chronicle setting (e ∷ history)) x ≡ true
  shadow_on x = by_both (each B) (each x)
    where
      by_both : Stays (chronicle setting history) (chronicle setting (e ∷ history)) B
          ⊎ IsOutside setting (chronicle setting history) (chronicle setting (e ∷ history)) B
          → Stays (chronicle setting history) (chronicle setting (e ∷ history)) x
          ⊎ IsOutside setting (chronicle setting history) (chronicle setting (e ∷ history)) x
          → shadow_is_short setting (chronicle setting (e ∷ history)) x ≡ true
      by_both (inr f) other =
          ap (λ b. not (b && has (above_backup_root setting two) x && not (is_root (plan_now setting two) x) && is_old two x)
          || near (heard_at two (plan_now setting two).backup_root) (heard_at two x)) (stays_none f)
      by_both (inl s) (inr g) =
          asks_nothing (backup_root_stays setting two && has (above_backup_root setting two) x && not (is_root (plan_now setting two) x) && is_old two x) _
          (and_right (backup_root_stays setting two && has (above_backup_root setting two) x && not (is_root (plan_now setting two) x)) (is_old two x) g.old)
      by_both (inl s) (inl u) =
          ap (λ b. not (b && has (above_backup_root setting two) x && not (is_root (plan_now setting two) x) && is_old two x)
          || near (heard_at two (plan_now setting two).backup_root) (heard_at two x)) (stays_same s)
          ∙ ap (λ xs. not (backup_root_stays setting one && has xs x && not (is_root (plan_now setting two) x) && is_old two x)
          || near (heard_at two (plan_now setting two).backup_root) (heard_at two x)) above
          ∙ ap (λ (p : Plan). not (backup_root_stays setting one && has (above_backup_root setting one) x && not (is_root p x) && is_old two x)
          || near (heard_at two p.backup_root) (heard_at two x)) plan
          ∙ ap (λ b. not (backup_root_stays setting one && has (above_backup_root setting one) x && not (is_root (plan_now setting one) x) && b)
          || near (heard_at two B) (heard_at two x)) (old x u)
          ∙ ap (λ h. not (backup_root_stays setting one && has (above_backup_root setting one) x && not (is_root (plan_now setting one) x) && is_old one x)
          || near h (heard_at two x)) s.heard_is
          ∙ ap (λ h. not (backup_root_stays setting one && has (above_backup_root setting one) x && not (is_root (plan_now setting one) x) && is_old one x)
          || near (heard_at one B) h) u.heard_is
          ∙ core.causes.shadow x

  -- C8 and C9: nobody is new
  new_on : (x : ℕ) → is_new (chronicle setting (e ∷ history)) x ≡ false
  new_on x = elim (each x) [
    | inl s ↦ new x s ∙ none_new (has_commit (seen_of one)) (is_new one x) committed_before (core.uncommitted.devices x)
    | inr f ↦ f.new
  ]

  messages_on : none_sent_ahead (chronicle setting (e ∷ history)) ≡ true
  messages_on =
      ap (λ c. not (not c) || list_all (λ f. nat_le f.message.epoch (era two)) (flights two)) (committed ∙ sym committed_before)
      ∙ ap (λ n. not (not (has_commit (seen_of one))) || list_all (λ f. nat_le f.message.epoch n) (flights two)) eras
      ∙ ap (λ fs. not (not (has_commit (seen_of one))) || list_all (λ f. nat_le f.message.epoch (era one)) fs) sent ∙ core.uncommitted.messages

  pub change_keeps : Core setting (chronicle setting (e ∷ history))
  change_keeps =
      record {
        calm = record { quiet = quiet setting (e ∷ history) fair clean; still = still setting (e ∷ history) fair clean; touched = touched_on };
        census = record {
          members_up = up_on;
          members_follow = follows_on;
          returned = returned_on;
          outsiders = outsider_on;
          current = current_on;
          blanks = blank_on;
          links = link_on;
        };
        roles = record { root = root_acts_on; failed_root = failed_root_on; ordinary = ordinary_on };
        causes = record { backups = backup_on; move = move_on; takeover = takeover_on; path = path_on; shadow = shadow_on };
        uncommitted =
            record { devices = λ d. or_right (not (not (has_commit (seen_of two)))) (not (is_new two d)) (ap not (new_on d)); messages = messages_on };
        committed = committed_none setting two committed new_on;
        closed = closed_of setting two unclosed;
      }
