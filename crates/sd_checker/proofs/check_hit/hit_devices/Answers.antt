use Rattle.std.proofs.Common.{rules, ◌≡◌, ◌≤◌, ℕ, List, length, All, IfOk, Result, Ok, Err, sym, ap, ◌∙◌, subst}
use Rattle.std.specs.List.Sorted.{IsPermutation, IsNonDecreasing, IsNonDecreasingBy}
use Rattle.std.proofs.lemmas.List.Elements.{All-same}
use Rattle.std.proofs.lemmas.List.Sorted.{All-permutation, IsNonDecreasingBy-from_sort_by_key}
use Rattle.sd_plan.specs.topo.Topologies.{network}
use Rattle.sd_plan.specs.declared.index.Span.{Span}
use Rattle.sd_checker.specs.check_hit.Spans.{below_domain, is_covered, picked}
use Rattle.sd_checker.specs.check_hit.Hit.{hit_by}
use Rattle.sd_checker.proofs.check_hit.Bounds.{domain_within}
use Rattle.sd_checker.proofs.check_hit.Law.{hit_law}
use Rattle.sd_checker.proofs.check_hit.hit_devices.Goals as goal

pub devices_in-requires-clause-sorted : goal.devices_in-requires-clause-sorted
devices_in-requires-clause-sorted c =
    subst (λ (spans : List Span). IsNonDecreasingBy (λ (s : Span). s.from) spans) (sym c.deref.ensures.value)
    (IsNonDecreasingBy-from_sort_by_key (λ (s : Span). s.from) c.sort_unstable_by_key.new.self.items c.sort_unstable_by_key.ensures.sorted
    (λ a r q k. search rules))

pub devices_in-requires-clause-range : goal.devices_in-requires-clause-range
devices_in-requires-clause-range c =
    let m = length c.args.index.now.order in
    let inside : All (λ (s : Span). s.to ≤ m) c.in_ok-spans.spans.items =
    All-same (λ (s : Span). s.to ≤ m) c.in_ok-spans.spans.items
    (below_domain (network c.args.topo.now) c.args.index.now c.args.plan.now.backup_root c.args.domain) c.in_ok-spans.ensures
    (domain_within (network c.args.topo.now) c.args.plan.now c.args.index.now c.args.domain c.args.topo.now.is_network c.requires.indexed c.requires.domain)
    in
    let sorted : All (λ (s : Span). s.to ≤ m) c.sort_unstable_by_key.new.self.items =
    All-permutation (λ (s : Span). s.to ≤ m) c.in_ok-spans.spans.items c.sort_unstable_by_key.new.self.items c.sort_unstable_by_key.ensures.permutation inside
    in
    subst (λ (order : List ℕ). All (λ (s : Span). s.to ≤ length order) c.deref.result.now) (sym c.order.ensures)
    (All-same (λ (s : Span). s.to ≤ m) c.deref.result.now c.sort_unstable_by_key.new.self.items c.deref.ensures.value sorted)

if_ok : {T E : Type 0} (r : Result T E) (P Q : T → Type 0) → ((x : T) → P x → Q x) → IfOk r P → IfOk r Q
if_ok (Ok x) P Q f p = f x p
if_ok (Err e) P Q f p = tt

pub returns : goal.returns
returns c =
    let net = network c.args.topo.now in
    let index = c.args.index.now in
    let all = below_domain net index c.args.plan.now.backup_root c.args.domain in
    let spans = c.sort_unstable_by_key.new.self.items in
    let moved : IsPermutation all spans = subst (λ (xs : List Span). IsPermutation xs spans) c.in_ok-spans.ensures c.sort_unstable_by_key.ensures.permutation in
    let devices : c.in_ok-devices.devices.items ≡ picked index.order (is_covered spans) (length index.order) =
    c.in_ok-devices.ensures
    ∙ ap (λ (xs : List Span). picked c.order.result.now (is_covered xs) (length c.order.result.now)) c.deref.ensures.value
    ∙ ap (λ (order : List ℕ). picked order (is_covered spans) (length order)) c.order.ensures
    in
    if_ok c.ascending.result (λ (list : List ℕ). IsPermutation c.in_ok-devices.devices.items list × IsNonDecreasing list)
    (λ (list : List ℕ). list ≡ hit_by net c.args.plan.now c.args.domain)
    (λ list facts.
    hit_law net c.args.plan.now index c.args.domain spans list c.args.topo.now.is_network c.requires.indexed c.requires.domain moved
    (subst (λ (xs : List ℕ). IsPermutation xs list) devices facts.0) facts.1)
    c.ascending.ensures
