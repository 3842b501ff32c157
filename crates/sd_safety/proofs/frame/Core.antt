-- The core of the invariant in a state that is alike to one in which it holds: what is left to show is what asks for references and messages.
use Rattle.std.specs.Prelude.{◌≡◌, ℕ, ◌+◌, ◌*◌, false, ◌&&◌, ◌||◌, not, List, nat_eq, nat_le, nat_lt, IsTrue, if◌then◌else◌}
use Rattle.std.specs.List.{list_any, list_all}
use Rattle.std.proofs.Common.{◌∙◌, ap}
use Rattle.std.proofs.lemmas.Bool.{or_left}
use Rattle.sd_num.specs.Lists.{map_or, same_number}
use Rattle.sd_plan.specs.topo.Network.{device_numbers}
use Rattle.sd_plan.specs.Plans.{is_member, is_present, is_root}
use Rattle.sd_checker.specs.check_root.Timing.{round_gap, silence}
use Rattle.sd_history.specs.World.{Setting, is_up, has_commit, staged_epoch, is_staged_member, is_counted, latest_reference, link_has_failed}
use Rattle.sd_history.specs.Steps.{Step, seen_of, acts_in, given_in, parent_in, has_settled}
use Rattle.sd_history.proofs.Among.{all_pass}
use Rattle.sd_safety.specs.invariant.Bounds.{depth, delay, rounds_gap}
use Rattle.sd_safety.specs.invariant.Eras.{era, plan_now, is_old, is_new, is_blank, is_ordinary, hit, root_failed, on_primary, belongs, will_belong, heard_at, sent_at}
use Rattle.sd_safety.specs.invariant.Clauses.{just_closed, member_is_up, shadow_is_short, none_sent_ahead, commit_at, staged_root, leads_to_root, left_out_is_hit, begins_with}
use Rattle.sd_safety.specs.invariant.Invariant.{ForEach, Core, BeganQuietly, IsClosed, IsCommitted}
use Rattle.sd_safety.specs.frame.Frames.{IsAlike, IsAlikeAt}
use Rattle.sd_safety.proofs.frame.Alike.{member_follows_same, returned_same, outsider_same, current_same, blank_is_same, link_on, root_acts_same, failed_root_same, ordinary_same, backup_same, move_same, takeover_same, path_same, none_new_same}

-- no closing, no claim on it
pub closed_of : (setting : Setting) (steps : List Step) → just_closed steps ≡ false → IsClosed setting steps
closed_of setting steps none =
    record {
      members = λ d. ap (λ b.
          not (b && belongs setting.net (plan_now setting steps) d)
          || (has_settled steps (era steps) d
          && (if is_root (plan_now setting steps) d then acts_in steps d
          else on_primary steps d && nat_le (latest_reference (seen_of steps)) (heard_at steps d + silence setting.net)))) none;
      root = ap (λ b. not b || nat_le (latest_reference (seen_of steps)) (sent_at steps (plan_now setting steps).root + round_gap setting.net)) none;
      links = λ l. ap (λ b. not (b && is_present (plan_now setting steps) l) || not (link_has_failed (seen_of steps) l)) none;
    }

-- what being alike does not give
pub record IsTimely (setting : Setting) (steps : List Step) : Type 0 where
  pub calm : BeganQuietly setting steps
  pub members_up : ForEach (member_is_up setting steps)
  pub shadow : ForEach (shadow_is_short setting steps)
  pub messages : IsTrue (none_sent_ahead steps)
  pub committed : IsCommitted setting steps
  pub unclosed : just_closed steps ≡ false

pub core_alike : (setting : Setting) (one two : List Step) → IsAlike setting one two → ((d : ℕ) → IsAlikeAt one two d) → IsTimely setting two → Core setting one
    → Core setting two
core_alike setting one two alike each timely core =
    record {
      calm = timely.calm;
      census =
          record {
            members_up = timely.members_up;
            members_follow = λ d. member_follows_same setting one two alike each d ∙ core.census.members_follow d;
            returned = λ d. returned_same setting one two alike each d ∙ core.census.returned d;
            outsiders = λ d. outsider_same setting one two alike each d ∙ core.census.outsiders d;
            current = λ d. current_same setting one two alike each d ∙ core.census.current d;
            blanks = λ d. blank_is_same setting one two alike each d ∙ core.census.blanks d;
            links = λ l. link_on setting one two alike each l (core.census.links l);
          };
      roles =
          record {
            root = root_acts_same setting one two alike each ∙ core.roles.root;
            failed_root = failed_root_same setting one two alike each ∙ core.roles.failed_root;
            ordinary = λ d. ordinary_same setting one two alike each d ∙ core.roles.ordinary d;
          };
      causes =
          record {
            backups = λ d. backup_same setting one two alike each d ∙ core.causes.backups d;
            move = move_same setting one two alike each ∙ core.causes.move;
            takeover = takeover_same setting one two alike each ∙ core.causes.takeover;
            path = λ x. path_same setting one two alike each x ∙ core.causes.path x;
            shadow = timely.shadow;
          };
      uncommitted = record { devices = λ d. none_new_same setting one two alike each d ∙ core.uncommitted.devices d; messages = timely.messages };
      committed = timely.committed;
      closed = closed_of setting two timely.unclosed;
    }

-- without a commit C9 asks nothing, where nobody is new
pub committed_none : (setting : Setting) (steps : List Step) → has_commit (seen_of steps) ≡ false → ((d : ℕ) → is_new steps d ≡ false)
    → IsCommitted setting steps
committed_none setting steps none old =
    record {
      entering = λ d.
          ap (λ b. not (b && will_belong setting steps d)
          || (is_new steps d || ((is_old steps d || is_blank steps d) && same_number (given_in steps d) (staged_epoch (seen_of steps))))) none;
      entered = λ d.
          ap (λ b. not
          (b && will_belong setting steps d && nat_lt (commit_at steps + rounds_gap setting.net + depth setting.net * delay setting.net)
          (latest_reference (seen_of steps))) || is_new steps d) none;
      committer =
          ap (λ b. not b
          || (nat_eq (staged_root setting steps) (if root_failed setting steps then (plan_now setting steps).backup_root else (plan_now setting steps).root)
          && is_new steps (staged_root setting steps))) none;
      acting = λ d.
          ap (λ b. not (b && is_counted setting (seen_of steps) d) || (if nat_eq d (staged_root setting steps) then acts_in steps d else not (acts_in steps d)))
          none;
      linked = λ d.
          ap (λ b. not (b && not (nat_eq d (staged_root setting steps)))
          || (on_primary steps d && map_or (parent_in steps d) false (is_new steps) && leads_to_root setting steps d)) (old d);
      left_out =
          or_left (list_all (left_out_is_hit setting steps) (device_numbers setting.net)) (list_any (begins_with setting steps) (device_numbers setting.net))
          (all_pass (left_out_is_hit setting steps) (device_numbers setting.net)
          (λ d a.
          ap (λ b. not (b && is_up (seen_of steps) d && is_member (plan_now setting steps) d && not (is_staged_member setting (seen_of steps) d))
          || (hit setting steps d && is_ordinary (plan_now setting steps) d)) none));
    }
