-- The lines of a device that is farther than the depth, and of links that are too few, by their words.
use Rattle.std.proofs.Common.{◌≡◌, ℕ, List, [], ◌∷◌, ◌++◌, length, append_assoc, ap, ◌∙◌}
use Rattle.std.specs.Prelude.{codes, decimal}
use Rattle.sd_plan.specs.topo.Network.{Network, device_name}
use Rattle.sd_why.specs.Bridges.{needed_besides}
use Rattle.sd_why.specs.Text.{deep_text, few_text, impossible_text}
use Rattle.sd_why.specs.declared.Far.{Far}

flat_deep : (candidate device : List ℕ) (hops depth : ℕ)
    → codes "impossible deep " ++ (candidate ++ (codes " " ++ (device ++ (codes " " ++ (decimal hops ++ (codes " " ++ (decimal depth ++ codes "\n")))))))
    ≡ impossible_text (codes "deep" ∷ candidate ∷ device ∷ decimal hops ∷ decimal depth ∷ [])
flat_deep candidate device hops depth = simp append_assoc

flat_few : (a b c d : List ℕ) → codes "impossible few " ++ (a ++ (codes " " ++ (b ++ (codes " " ++ (c ++ (codes " " ++ (d ++ codes "\n")))))))
    ≡ impossible_text (codes "few" ∷ a ∷ b ∷ c ∷ d ∷ [])
flat_few a b c d = simp append_assoc

pub deep_words : (net : Network) (far : Far) (candidate device : List ℕ) (depth : ℕ) → candidate ≡ device_name net far.candidate
    → device ≡ device_name net far.device → depth ≡ net.params.depth
    → codes "impossible deep " ++ (candidate ++ (codes " " ++ (device ++ (codes " " ++ (decimal far.hops ++ (codes " " ++ (decimal depth ++ codes "\n")))))))
    ≡ deep_text net far
deep_words net far candidate device depth first second third =
    flat_deep candidate device far.hops depth
    ∙ ap (λ (a : List ℕ). impossible_text (codes "deep" ∷ a ∷ device ∷ decimal far.hops ∷ decimal depth ∷ [])) first
    ∙ ap (λ (b : List ℕ). impossible_text (codes "deep" ∷ device_name net far.candidate ∷ b ∷ decimal far.hops ∷ decimal depth ∷ [])) second
    ∙ ap
    (λ (n : ℕ). impossible_text (codes "deep" ∷ device_name net far.candidate ∷ device_name net far.device ∷ decimal far.hops ∷ decimal n ∷ []))
    third

pub few_words : (net : Network) (bridges links devices needed : ℕ) → links ≡ length net.links → devices ≡ length net.devices
    → needed ≡ needed_besides net bridges
    → codes "impossible few " ++ (decimal links ++ (codes " " ++ (decimal bridges ++ (codes " " ++ (decimal devices ++ (codes " " ++ (decimal needed ++ codes "\n")))))))
    ≡ few_text net bridges
few_words net bridges links devices needed first second third =
    flat_few (decimal links) (decimal bridges) (decimal devices) (decimal needed)
    ∙ ap (λ (n : ℕ). impossible_text (codes "few" ∷ decimal n ∷ decimal bridges ∷ decimal devices ∷ decimal needed ∷ [])) first
    ∙ ap (λ (n : ℕ). impossible_text (codes "few" ∷ decimal (length net.links) ∷ decimal bridges ∷ decimal n ∷ decimal needed ∷ [])) second
    ∙ ap (λ (n : ℕ). impossible_text (codes "few" ∷ decimal (length net.links) ∷ decimal bridges ∷ decimal (length net.devices) ∷ decimal n ∷ [])) third
