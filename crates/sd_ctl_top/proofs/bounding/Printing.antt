-- A line is that of its device.
use Rattle.std.proofs.Common.{◌≡◌, ◌∙◌, ℕ, List, Option, ap, sym}
use Rattle.std.specs.Prelude.{flat_map, slice_index_or}
use Rattle.sd_plan.specs.topo.Network.{Network, device_name}
use Rattle.sd_plan.specs.declared.domain.DomainId.{DomainId}
use Rattle.sd_drill.specs.Bounds.{bound_at}
use Rattle.sd_checker.specs.Text.{domain_words}
use Rattle.sd_ctl_top.specs.bounding.Printed.{bounds_line, line_of}

-- by the words of the domain and the numbers of the device
pub line_is : (net : Network) (f : DomainId) (worst tight : List (Option ℕ)) (calm : List ℕ) (d : ℕ)
    → (words : List (List ℕ)) (drill other : Option ℕ) (least : ℕ)
    → domain_words net f ≡ words → drill ≡ bound_at worst d → other ≡ bound_at tight d → least ≡ slice_index_or calm d 0
    → line_of words (device_name net d) drill other least ≡ bounds_line net f worst tight calm d
line_is net f worst tight calm d words drill other least named first second third =
    ap (λ (ws : List (List ℕ)). line_of ws (device_name net d) drill other least) (sym named)
    ∙ ap (λ (b : Option ℕ). line_of (domain_words net f) (device_name net d) b other least) first
    ∙ ap (λ (b : Option ℕ). line_of (domain_words net f) (device_name net d) (bound_at worst d) b least) second
    ∙ ap (λ (n : ℕ). line_of (domain_words net f) (device_name net d) (bound_at worst d) (bound_at tight d) n) third

-- the lines of devices, by equal lists
pub lines_are : (net : Network) (f g : DomainId) (worst bounds tight numbers : List (Option ℕ)) (calm calms ds es : List ℕ)
    → f ≡ g → worst ≡ bounds → tight ≡ numbers → calm ≡ calms → ds ≡ es
    → flat_map (bounds_line net f worst tight calm) ds ≡ flat_map (bounds_line net g bounds numbers calms) es
lines_are net f g worst bounds tight numbers calm calms ds es first second third fourth fifth =
    ap (λ (h : DomainId). flat_map (bounds_line net h worst tight calm) ds) first
    ∙ ap (λ (xs : List (Option ℕ)). flat_map (bounds_line net g xs tight calm) ds) second
    ∙ ap (λ (xs : List (Option ℕ)). flat_map (bounds_line net g bounds xs calm) ds) third
    ∙ ap (λ (xs : List ℕ). flat_map (bounds_line net g bounds numbers xs) ds) fourth
    ∙ ap (λ (xs : List ℕ). flat_map (bounds_line net g bounds numbers calms) xs) fifth
