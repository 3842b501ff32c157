use Rattle.std.proofs.Common.{◌≡◌, ℕ, ◌||◌, not, nat_eq, Some, ap, sym, ◌∙◌}
use Rattle.sd_planner.specs.Spreading.{is_placed, placed_at}
use Rattle.sd_planner.specs.Serving.{are_joined, differ, is_behind_backup_root, comes_before}
use Rattle.sd_planner.specs.Surveys.{net_in, absent_in, order_of}
use Rattle.sd_planner.proofs.Serving.{all_tests, not_placed, placed_found, placed_none}
use Rattle.sd_planner.proofs.backups.survey.Survey.serves.Goals as goal

pub returns-then-may_follow : goal.returns-then-may_follow
returns-then-may_follow c =
    let s = c.args.self.now in
    let net = net_in s in
    let hop = c.args.hop in
    let d = c.args.own.device in
    let found : placed_at (order_of s) hop.parent ≡ Some c.in-Some.parent = sym c.placed.ensures.is ∙ c.in-Some.is in
    let same : c.in-Some.parent.device ≡ hop.parent = c.in-Some.ensures.same in
    let follows = λ (y : ℕ). differ (is_behind_backup_root net s.root (absent_in s) y) (is_behind_backup_root net s.root (absent_in s) d)
    || comes_before net s.root (absent_in s) y d in
    ap not (c.is_joined.ensures d c.args.primary c.requires.joining)
    ∙ all_tests hop.link c.args.primary.link hop.parent c.args.primary.parent (is_placed (order_of s) hop.parent) (follows hop.parent)
    (are_joined net d c.args.primary hop)
    c.if-hop-primary.false c.if-hop-primary-2.false (placed_found (order_of s) hop.parent c.in-Some.parent found)
    (ap follows (sym same) ∙ sym c.may_follow.ensures ∙ c.if-may_follow.true)

pub returns-in-None : goal.returns-in-None
returns-in-None c =
    let s = c.args.self.now in
    let net = net_in s in
    let hop = c.args.hop in
    let d = c.args.own.device in
    not_placed (nat_eq hop.link c.args.primary.link) (is_placed (order_of s) hop.parent) (not (nat_eq hop.parent c.args.primary.parent))
    (differ (is_behind_backup_root net s.root (absent_in s) hop.parent) (is_behind_backup_root net s.root (absent_in s) d)
    || comes_before net s.root (absent_in s) hop.parent d)
    (not (are_joined net d c.args.primary hop)) (placed_none (order_of s) hop.parent (sym c.placed.ensures.is ∙ c.in-None.is))
