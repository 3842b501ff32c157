use Rattle.std.proofs.Common.{◌≡◌, ℕ, sym, ap, ◌∙◌}
use Rattle.std.specs.Ordering.{nat_cmp}
use Rattle.std.specs.FinSet as set
use Rattle.std.specs.FinSet.{FinSet}
use Rattle.sd_plan.specs.declared.topo.Thing.TheVariants as thing
use Rattle.sd_plan.specs.domain.Failures.{FailedThings, with_thing}
use Rattle.sd_plan.specs.domain.NumberSets.{Numbers, with_number}
use Rattle.sd_plan.proofs.domain.Marks.{made_with}
use Rattle.sd_plan.proofs.domain.failure.Failure.add.Goals as goal

-- what is seen of two sets
abbrev of_sets : Numbers → Numbers → FailedThings
of_sets devices links =
    record {
      devices = set.from_list {R = nat_cmp} devices.numbers;
      links = set.from_list {R = nat_cmp} links.numbers;
      device_room = devices.bound;
      link_room = links.bound;
    }

device_added : (old new links : Numbers) (n : ℕ) → new ≡ record old { numbers = with_number old.numbers n }
    → of_sets new links ≡ with_thing (of_sets old links) (thing.Device n)
device_added old new links n added =
    ap (λ s. of_sets s links) added
    ∙ ap (λ (s : FinSet nat_cmp). record (of_sets old links) { devices = s }) (made_with old.numbers n)

link_added : (devices old new : Numbers) (n : ℕ) → new ≡ record old { numbers = with_number old.numbers n }
    → of_sets devices new ≡ with_thing (of_sets devices old) (thing.Link n)
link_added devices old new n added =
    ap (λ s. of_sets devices s) added
    ∙ ap (λ (s : FinSet nat_cmp). record (of_sets devices old) { links = s }) (made_with old.numbers n)

pub returns-in-Device : goal.returns-in-Device
returns-in-Device c =
    let s = c.self.inside in
    device_added s.devices c.insert.new.self s.links c.in-Device.d c.insert.ensures.added
    ∙ ap (λ f. with_thing f (thing.Device c.in-Device.d)) c.self.view_is
    ∙ ap (with_thing c.args.self.now) (sym c.in-Device.is)

pub returns-in-Link : goal.returns-in-Link
returns-in-Link c =
    let s = c.self.inside in
    link_added s.devices s.links c.insert-in-Link.new.self c.in-Link.l c.insert-in-Link.ensures.added
    ∙ ap (λ f. with_thing f (thing.Link c.in-Link.l)) c.self.view_is
    ∙ ap (with_thing c.args.self.now) (sym c.in-Link.is)
