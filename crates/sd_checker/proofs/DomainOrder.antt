-- The domains in their order.
use Rattle.std.proofs.Common.{◌≡◌, ℕ, ◌+◌, ◌-◌, ◌<◌, ◌≤◌, List, ◌++◌, length, map, get_or, Some, append_assoc, sym, ap, ◌∙◌, arith}
use Rattle.std.specs.List.{slice_get}
use Rattle.std.proofs.lemmas.List.{length-append, get_or_append_left, get_or-append_right}
use Rattle.std.proofs.lemmas.Option.{slice_get-get_or}
use Rattle.sd_num.specs.Lists.{below}
use Rattle.sd_plan.specs.topo.Network.{Network}
use Rattle.sd_plan.specs.domain.Domains.{domains}
use Rattle.sd_plan.specs.declared.domain.DomainId.{DomainId}
use Rattle.sd_plan.specs.declared.domain.DomainId.TheVariants as domain
use Rattle.sd_plan.proofs.Numbered.{length-numbered, get_or-numbered}

abbrev lone : Network → List DomainId
lone net = map domain.Device (below (length net.devices)) ++ map domain.Link (below (length net.links))

-- the listed ones, and then those of one thing
parts : (net : Network) → domains net ≡ map domain.Listed (below (length net.domains)) ++ lone net
parts net = append_assoc (map domain.Listed (below (length net.domains))) (map domain.Device (below (length net.devices)))
    (map domain.Link (below (length net.links)))

-- how many domains there are
pub length-domains : (net : Network) → length (domains net) ≡ length net.domains + length net.devices + length net.links
length-domains net =
    let listed = map domain.Listed (below (length net.domains)) in
    let devices = map domain.Device (below (length net.devices)) in
    let links = map domain.Link (below (length net.links)) in
    let whole : length (domains net) ≡ length listed + length (devices ++ links) = ap length (parts net) ∙ length-append listed (devices ++ links) in
    let rest : length (devices ++ links) ≡ length devices + length links = length-append devices links in
    omega (
      arith,
      whole,
      rest,
      length-numbered domain.Listed (length net.domains),
      length-numbered domain.Device (length net.devices),
      length-numbered domain.Link
          (length net.links),
    )

-- the element of a list at a place within it
at_place : (xs : List DomainId) (k : ℕ) (f : DomainId) → k < length xs → get_or xs k f ≡ f → slice_get xs k ≡ Some f
at_place xs k f within is = slice_get-get_or xs k f within ∙ ap (λ (g : DomainId). Some g) is

pub listed_at : (net : Network) (k : ℕ) → k < length net.domains → slice_get (domains net) k ≡ Some (domain.Listed k)
listed_at net k within =
    let listed = map domain.Listed (below (length net.domains)) in
    let rest = map domain.Device (below (length net.devices)) ++ map domain.Link (below (length net.links)) in
    let count = length-numbered domain.Listed (length net.domains) in
    at_place (domains net) k (domain.Listed k) (omega (arith, length-domains net))
    (ap (λ (xs : List DomainId). get_or xs k (domain.Listed k)) (parts net) ∙ get_or_append_left listed rest (domain.Listed k) k (omega (arith, count))
    ∙ get_or-numbered domain.Listed (length net.domains) k (domain.Listed k) within)

pub device_at : (net : Network) (n k : ℕ) → n ≡ length net.domains → n ≤ k → k - n < length net.devices
    → slice_get (domains net) k ≡ Some (domain.Device (k - n))
device_at net n k is behind within =
    let listed = map domain.Listed (below (length net.domains)) in
    let devices = map domain.Device (below (length net.devices)) in
    let links = map domain.Link (below (length net.links)) in
    let count : length listed ≡ n = length-numbered domain.Listed (length net.domains) ∙ sym is in
    let size = length-numbered domain.Device (length net.devices) in
    at_place (domains net) k (domain.Device (k - n)) (omega (arith, length-domains net))
    (ap (λ (xs : List DomainId). get_or xs k (domain.Device (k - n))) (parts net)
    ∙ get_or-append_right listed (devices ++ links) n k (domain.Device (k - n)) count behind
    ∙ get_or_append_left devices links (domain.Device (k - n)) (k - n) (omega (arith, size))
    ∙ get_or-numbered domain.Device (length net.devices) (k - n) (domain.Device (k - n)) within)

pub link_at : (net : Network) (n m k : ℕ) → n ≡ length net.domains → m ≡ length net.devices → n ≤ k → m ≤ k - n → k < length (domains net)
    → slice_get (domains net) k ≡ Some (domain.Link (k - n - m))
link_at net n m k is size behind beyond within =
    let listed = map domain.Listed (below (length net.domains)) in
    let devices = map domain.Device (below (length net.devices)) in
    let links = map domain.Link (below (length net.links)) in
    let count : length listed ≡ n = length-numbered domain.Listed (length net.domains) ∙ sym is in
    let second : length devices ≡ m = length-numbered domain.Device (length net.devices) ∙ sym size in
    at_place (domains net) k (domain.Link (k - n - m)) within
    (ap (λ (xs : List DomainId). get_or xs k (domain.Link (k - n - m))) (parts net)
    ∙ get_or-append_right listed (devices ++ links) n k (domain.Link (k - n - m)) count behind
    ∙ get_or-append_right devices links m (k - n) (domain.Link (k - n - m)) second beyond
    ∙ get_or-numbered domain.Link (length net.links) (k - n - m) (domain.Link (k - n - m)) (omega (arith, length-domains net)))
