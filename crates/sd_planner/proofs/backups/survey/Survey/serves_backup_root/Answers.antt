use Rattle.std.proofs.Common.{◌≡◌, ℕ, ◌&&◌, not, nat_eq, Some, ap, sym, ◌∙◌}
use Rattle.std.proofs.lemmas.Bool.{eq-eqb, ne_eqb}
use Rattle.sd_planner.specs.Spreading.{is_placed, placed_at}
use Rattle.sd_planner.specs.Placing.{backup_root_of}
use Rattle.sd_planner.specs.Flags.{is_set}
use Rattle.sd_planner.specs.Serving.{are_walks_joined, on_walk_up}
use Rattle.sd_planner.specs.Surveys.{net_in, absent_in, order_of}
use Rattle.sd_planner.proofs.Serving.{placed_found, placed_none}
use Rattle.sd_planner.proofs.ByBackupRoot.{same_link, none_placed, is_joined, meets_all, link_joins, parent_joins}
use Rattle.sd_planner.proofs.FoundDevices.{survey_grows}
use Rattle.sd_planner.proofs.backups.survey.Survey.serves_backup_root.Goals as goal
use Rattle.sd_planner.proofs.backups.survey.Survey.serves_backup_root.Goals.{then-hop-primary-via-then-hop-primary, then-hop-primary-via-else-hop-primary+then-is_set}

pub returns-then-hop-primary : goal.returns-then-hop-primary
returns-then-hop-primary c =
    let s = c.args.self.now in
    let net = net_in s in
    let hop = c.args.hop in
    let b = c.args.own.device in
    elim c.then-hop-primary.branch [
      | then-hop-primary-via-then-hop-primary w ↦
          same_link (nat_eq hop.link c.args.primary.link) (is_placed (order_of s) hop.parent) (not (on_walk_up net s.root (absent_in s) hop.parent b))
          (not (are_walks_joined net s.root (absent_in s) b hop))
          (eq-eqb hop.link c.args.primary.link w.if-hop-primary.true)
      | then-hop-primary-via-else-hop-primary+then-is_set w ↦
          is_joined (not (nat_eq hop.link c.args.primary.link) && is_placed (order_of s) hop.parent && not (on_walk_up net s.root (absent_in s) hop.parent b))
          (are_walks_joined net s.root (absent_in s) b hop)
          (link_joins net s.root (absent_in s) (survey_grows c.args.self.now) b hop c.args.unfit.now c.requires.unfit
          (ap (λ flags. is_set flags hop.link) (sym w.as_slice.ensures.value) ∙ sym w.is_set.ensures ∙ w.if-is_set.true))
    ]

pub returns-then-not-is_behind : goal.returns-then-not-is_behind
returns-then-not-is_behind c =
    let s = c.args.self.now in
    let net = net_in s in
    let hop = c.args.hop in
    let b = c.args.own.device in
    let found : placed_at (order_of s) hop.parent ≡ Some c.in-Some.parent = sym c.placed.ensures.is ∙ c.in-Some.is in
    let same : c.in-Some.parent.device ≡ hop.parent = c.in-Some.ensures.same in
    let own : b ≡ backup_root_of net s.root (absent_in s) = c.requires.own ∙ c.args.self.now.backup_root_is in
    let joined = parent_joins net s.root (absent_in s) (survey_grows c.args.self.now) b hop c.in-Some.parent c.args.unfit.now c.requires.unfit found
    (ap (λ flags. is_set flags hop.link) (sym c.as_slice.ensures.value) ∙ sym c.is_set.ensures ∙ c.if-is_set.false)
    in
    ap not (c.is_set-then-not-is_behind.ensures ∙ ap (λ flags. is_set flags c.in-Some.parent.device) c.as_slice-then-not-is_behind.ensures.value
    ∙ ap (is_set c.args.unfit.now.devices.items) same ∙ sym joined)
    ∙ meets_all (nat_eq hop.link c.args.primary.link) (is_placed (order_of s) hop.parent) (on_walk_up net s.root (absent_in s) hop.parent b)
    (are_walks_joined net s.root (absent_in s) b hop)
    (ne_eqb hop.link c.args.primary.link c.if-hop-primary.false) (placed_found (order_of s) hop.parent c.in-Some.parent found)
    (ap (on_walk_up net s.root (absent_in s) hop.parent) own
    ∙ ap (λ (y : ℕ). on_walk_up net s.root (absent_in s) y (backup_root_of net s.root (absent_in s))) (sym same) ∙ sym c.is_behind.ensures
    ∙ c.if-not-is_behind.true)

pub returns-in-None : goal.returns-in-None
returns-in-None c =
    let s = c.args.self.now in
    let net = net_in s in
    let hop = c.args.hop in
    let b = c.args.own.device in
    none_placed (nat_eq hop.link c.args.primary.link) (is_placed (order_of s) hop.parent) (not (on_walk_up net s.root (absent_in s) hop.parent b))
    (not (are_walks_joined net s.root (absent_in s) b hop))
    (placed_none (order_of s) hop.parent (sym c.placed.ensures.is ∙ c.in-None.is))
