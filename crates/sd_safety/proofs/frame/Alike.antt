-- The clauses of the invariant in two states that are alike, in the world and at each device: those that ask neither for references nor for messages
-- say the same. Each by rewriting the words.
use Rattle.std.specs.Prelude.{◌≡◌, ℕ, ◌+◌, Bool, true, false, ◌&&◌, ◌||◌, not, List, Option, refl}
use Rattle.std.specs.List.{list_any}
use Rattle.std.proofs.Common.{◌∙◌, ap, subst}
use Rattle.sd_num.specs.Lists.{map_or, same_number, below, follow}
use Rattle.sd_plan.specs.declared.Plan.{Plan}
use Rattle.sd_plan.specs.Plans.{is_member, is_present}
use Rattle.sd_history.specs.World.{Setting, is_up, link_has_failed, staged_epoch, staged, is_staged_member, is_counted}
use Rattle.sd_history.specs.Steps.{Step, seen_of, parent_in, acts_in, given_in}
use Rattle.sd_safety.specs.invariant.Bounds.{depth}
use Rattle.sd_safety.specs.invariant.Eras.{plan_now, device_failed_now, link_failed_now, is_old, is_new, is_blank, is_past, on_primary, hit, hit_otherwise, path_hit, root_failed, root_lives}
use Rattle.sd_safety.specs.invariant.Clauses.{member_follows, returned_is_joined, outsider_is_past, counted_is_current, blank_is_idle, link_is_sound, root_acts, failed_root_is_not_old, ordinary_follows, backup_root_acts, backup_is_caused, move_is_caused, takeover_is_caused, above_backup_root, backup_root_stays, path_stays, none_is_new, member_enters, staged_root, committer_is_root, committer_acts, leads_to_root, new_is_linked}
use Rattle.sd_safety.specs.frame.Frames.{IsAlike, IsAlikeAt}
use Rattle.sd_safety.proofs.frame.Words as words

module _ (setting : Setting) (one two : List Step) (alike : IsAlike setting one two) (each : (d : ℕ) → IsAlikeAt one two d) where
  -- the words
  pub plan : plan_now setting two ≡ plan_now setting one
  plan = words.plan_same setting one two alike.era_is

  pub failed_device : (d : ℕ) → device_failed_now two d ≡ device_failed_now one d
  failed_device d = words.failed_device_same setting one two alike.era_is alike.failed_is d

  failed_link : (l : ℕ) → link_failed_now two l ≡ link_failed_now one l
  failed_link l = words.failed_link_same setting one two alike.era_is alike.failed_is l

  pub root_fails : root_failed setting two ≡ root_failed setting one
  root_fails = words.root_failed_same setting one two alike.era_is alike.failed_is

  pub old : (d : ℕ) → is_old two d ≡ is_old one d
  old d = words.old_same one two d (each d).epoch_is alike.era_is

  pub new : (d : ℕ) → is_new two d ≡ is_new one d
  new d = words.new_same one two d (each d).epoch_is alike.era_is

  pub blank : (d : ℕ) → is_blank two d ≡ is_blank one d
  blank d = words.blank_same one two d (each d).epoch_is

  pub acts : (d : ℕ) → acts_in two d ≡ acts_in one d
  acts d = (each d).acts_is

  pub parent : (d : ℕ) → parent_in two d ≡ parent_in one d
  parent d = (each d).parent_is

  up : (d : ℕ) → is_up (seen_of two) d ≡ is_up (seen_of one) d
  up d = (each d).up_is

  staged_number : staged_epoch (seen_of two) ≡ staged_epoch (seen_of one)
  staged_number = ap (λ n. n + 1) alike.era_is

  pub past : (d : ℕ) → is_past two d ≡ is_past one d
  past d = rw (old d, new d, blank d, up d) refl

  pub primary_same : (d : ℕ) → on_primary two d ≡ on_primary one d
  primary_same d = rw ((each d).there_is, (each d).moved_is, acts d) refl

  pub counted : (d : ℕ) → is_counted setting (seen_of two) d ≡ is_counted setting (seen_of one) d
  counted d = rw (plan, up d, alike.joined_is d) refl

  pub hits : (d : ℕ) → hit setting two d ≡ hit setting one d
  hits d = words.hit_same setting one two alike.era_is alike.failed_is d

  pub hits_otherwise : (d : ℕ) → hit_otherwise setting two d ≡ hit_otherwise setting one d
  hits_otherwise d = words.hit_otherwise_same setting one two alike.era_is alike.failed_is d

  pub hits_path : (d : ℕ) → path_hit setting two d ≡ path_hit setting one d
  hits_path d = words.path_hit_same setting one two alike.era_is alike.failed_is d

  pub above : above_backup_root setting two ≡ above_backup_root setting one
  above = rw plan refl

  pub lives_same : root_lives setting two ≡ root_lives setting one
  lives_same = rw (root_fails, plan, up (plan_now setting one).root) refl

  pub stays_same : backup_root_stays setting two ≡ backup_root_stays setting one
  stays_same = rw (plan, old (plan_now setting one).backup_root, primary_same (plan_now setting one).backup_root) refl

  pub backup_root_acts_same : backup_root_acts setting two ≡ backup_root_acts setting one
  backup_root_acts_same = rw (plan, acts (plan_now setting one).backup_root) refl

  follows : (n d : ℕ) → follow (parent_in two) n d ≡ follow (parent_in one) n d
  follows n d = ap (λ f. follow f n d) (λ i x. parent x i)

  -- C1
  pub member_follows_same : (d : ℕ) → member_follows setting two d ≡ member_follows setting one d
  member_follows_same d = rw (plan, failed_device d, old d, new d, up d) refl

  pub returned_same : (d : ℕ) → returned_is_joined setting two d ≡ returned_is_joined setting one d
  returned_same d = rw (plan, failed_device d, alike.joined_is d, blank d, new d, up d) refl

  pub outsider_same : (d : ℕ) → outsider_is_past setting two d ≡ outsider_is_past setting one d
  outsider_same d = rw (plan, past d, alike.joined_is d, blank d, new d, up d) refl

  pub current_same : (d : ℕ) → counted_is_current setting two d ≡ counted_is_current setting one d
  current_same d = rw (counted d, past d) refl

  pub blank_is_same : (d : ℕ) → blank_is_idle two d ≡ blank_is_idle one d
  blank_is_same d = rw (blank d, parent d, acts d) refl

  pub link_on : (l : ℕ) → link_is_sound setting one l ≡ true → link_is_sound setting two l ≡ true
  link_on l sound =
      rw (plan, failed_link l)
      (no_worse (is_present (plan_now setting one) l && not (link_failed_now one l)) (link_has_failed (seen_of two) l) (link_has_failed (seen_of one) l)
      (alike.links_no_worse l) sound)
    where
      no_worse : (asked now was : Bool) → (now ≡ true → was ≡ true) → (not asked || not was) ≡ true → (not asked || not now) ≡ true
      no_worse false now was less holds = refl
      no_worse true false was less holds = refl
      no_worse true true was less holds = let failed : was ≡ true = less refl in subst (λ b. (false || not b) ≡ true) failed holds

  -- C2
  pub root_acts_same : root_acts setting two ≡ root_acts setting one
  root_acts_same = rw (lives_same, plan, acts (plan_now setting one).root) refl

  pub failed_root_same : failed_root_is_not_old setting two ≡ failed_root_is_not_old setting one
  failed_root_same = rw (root_fails, plan, old (plan_now setting one).root) refl

  pub ordinary_same : (d : ℕ) → ordinary_follows setting two d ≡ ordinary_follows setting one d
  ordinary_same d = rw (old d, plan, acts d) refl

  -- C3 to C5
  pub backup_same : (d : ℕ) → backup_is_caused setting two d ≡ backup_is_caused setting one d
  backup_same d = rw (old d, hits d, hits_otherwise d, backup_root_acts_same, plan, (each d).moved_is) refl

  pub move_same : move_is_caused setting two ≡ move_is_caused setting one
  move_same =
      rw (hits_path (plan_now setting two).backup_root, plan, old (plan_now setting one).backup_root, (each (plan_now setting one).backup_root).moved_is) refl

  pub takeover_same : takeover_is_caused setting two ≡ takeover_is_caused setting one
  takeover_same = rw (backup_root_acts_same, root_fails) refl

  pub path_same : (x : ℕ) → path_stays setting two x ≡ path_stays setting one x
  path_same x = rw (stays_same, above, plan, old x, (each x).moved_is) refl

  -- C8 and C9
  pub none_new_same : (d : ℕ) → none_is_new two d ≡ none_is_new one d
  none_new_same d = rw (alike.commit_is, new d) refl

  -- C9, where the same plan is staged
  module _ (staged_is : staged setting (seen_of two) ≡ staged setting (seen_of one)) where
    pub staged_member : (d : ℕ) → is_staged_member setting (seen_of two) d ≡ is_staged_member setting (seen_of one) d
    staged_member d = ap (λ (o : Option Plan). map_or o false (λ p. is_member p d)) staged_is

    pub root_of_staged : staged_root setting two ≡ staged_root setting one
    root_of_staged = ap (λ (o : Option Plan). map_or o 0 (λ p. p.root)) staged_is

    pub enters_same : (d : ℕ) → given_in two d ≡ given_in one d → member_enters setting two d ≡ member_enters setting one d
    enters_same d given = rw (alike.commit_is, staged_member d, new d, old d, blank d, given, staged_number) refl

    pub committer_same : committer_is_root setting two ≡ committer_is_root setting one
    committer_same = rw (alike.commit_is, root_of_staged, root_fails, plan, new (staged_root setting one)) refl

    pub acting_same : (d : ℕ) → committer_acts setting two d ≡ committer_acts setting one d
    acting_same d = rw (alike.commit_is, counted d, root_of_staged, acts d) refl

    leads_same : (d : ℕ) → leads_to_root setting two d ≡ leads_to_root setting one d
    leads_same d = ap (λ (f : ℕ → Option ℕ). list_any (λ n. same_number (f n) (staged_root setting two)) (below (depth setting.net + 1))) (λ i n. follows n d i)
        ∙ ap (λ r. list_any (λ n. same_number (follow (parent_in one) n d) r) (below (depth setting.net + 1))) root_of_staged

    parent_is_new : (d : ℕ) → map_or (parent_in two d) false (is_new two) ≡ map_or (parent_in one d) false (is_new one)
    parent_is_new d = ap (λ o. map_or o false (is_new two)) (parent d) ∙ ap (map_or (parent_in one d) false) (λ i x. new x i)

    pub linked_same : (d : ℕ) → new_is_linked setting two d ≡ new_is_linked setting one d
    linked_same d = rw (new d, leads_same d, root_of_staged, primary_same d, parent_is_new d) refl
