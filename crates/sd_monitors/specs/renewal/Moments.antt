-- For which settings and lists a moment is that at which the next event is judged, and what is asked at a commit.
use Rattle.std.specs.Prelude.{◌≡◌, ℕ, ◌<◌, Bool, true, ◌&&◌, ◌||◌, not, List, length}
use Rattle.sd_plan.specs.topo.Network.{link_of}
use Rattle.sd_plan.specs.topo.Topologies.{network}
use Rattle.sd_plan.specs.Plans.{is_member, is_present}
use Rattle.sd_plan.specs.declared.Plan.{Plan}
use Rattle.sd_history.specs.World.{Setting, Seen, is_up, link_has_failed, epoch_in_force, staged_epoch, plan_numbered}
use Rattle.sd_history.specs.Premises.{leaves_out_failed}
use Rattle.sd_world.specs.membership.Plans.{AreSound}
use Rattle.sd_world.specs.world.Standing.{Stands}
use Rattle.sd_monitors.specs.clocks.Memberships.{AreMembers, ArePresent}
use Rattle.sd_monitors.specs.declared.renewal.moment.Moment.{Moment}

-- network, members, links and world are those of the setting and of what was seen
pub record IsMomentOf (moment : Moment) (setting : Setting) (seen : List Seen) : Type 0 where
  pub net : setting.net ≡ network moment.topo.now
  pub sound : AreSound setting.net setting.plans
  pub members : AreMembers setting moment.members.now
  pub links : ArePresent setting moment.links.now
  pub world : Stands moment.world.now setting seen

-- the plan that an open window brings in
abbrev pub staged_plan : Setting → List Seen → Plan
staged_plan setting seen = plan_numbered setting (staged_epoch seen)

-- the link is failed, and that plan may use it
abbrev pub uses_failed : Setting → List Seen → ℕ → Bool
uses_failed setting seen l = link_has_failed seen l && is_present (staged_plan setting seen) l

-- of the two devices the first is a member of that plan, and the other is up and none
abbrev pub parts : Setting → List Seen → ℕ → ℕ → Bool
parts setting seen member other = is_member (staged_plan setting seen) member && not (is_member (staged_plan setting seen) other) && is_up seen other

-- a link that is not failed has two such ends
abbrev pub leads_out : Setting → List Seen → ℕ → Bool
leads_out setting seen l =
    not (link_has_failed seen l)
    && (parts setting seen (link_of setting.net l).end_a (link_of setting.net l).end_b
    || parts setting seen (link_of setting.net l).end_b (link_of setting.net l).end_a)

-- there is such a plan, each member of it is up, and it leaves out each failed link
pub record IsReady (setting : Setting) (seen : List Seen) : Type 0 where
  pub planned : epoch_in_force seen < length setting.plans
  pub up : (d : ℕ) → d < length setting.net.devices → is_member (staged_plan setting seen) d ≡ true → is_up seen d ≡ true
  pub links : leaves_out_failed setting seen (staged_plan setting seen) ≡ true
