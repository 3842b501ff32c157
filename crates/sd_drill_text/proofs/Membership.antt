-- The members, a device at a time.
use Rattle.std.specs.Prelude.{◌≡◌, ℕ, ◌+◌, ◌<◌, Bool, [], ◌∷◌, ◌++◌, length, filter, cond, All}
use Rattle.std.proofs.Common.{arith, ap, ◌∙◌, add-one}
use Rattle.std.proofs.lemmas.List.Elements.{filter-append, All-filter}
use Rattle.sd_num.specs.Lists.{below}
use Rattle.sd_plan.specs.topo.Network.{Network, device_numbers}
use Rattle.sd_plan.specs.Plans.{is_member, members}
use Rattle.sd_plan.specs.declared.Plan.{Plan}
use Rattle.sd_plan.proofs.Numbered.{length-below, get_or-below}

pub one_more : (p : ℕ → Bool) (n : ℕ) → filter p (below (n + 1)) ≡ filter p (below n) ++ cond (p n) (n ∷ []) []
one_more p n = ap (λ (m : ℕ). filter p (below m)) (add-one n) ∙ filter-append p (below n) (n ∷ [])

-- they are devices of the network
pub members_within : (net : Network) (plan : Plan) → All (λ d. d < length net.devices) (members net plan)
members_within net plan = All-filter (is_member plan) (λ d. d < length net.devices) (device_numbers net) each
  where
    each : All (λ d. d < length net.devices) (device_numbers net)
    each k d within = let less : k < length net.devices = omega (arith, within, length-below (length net.devices)) in
        rw (get_or-below (length net.devices) k d less) less
