-- The line of a refused plan, put together from its parts.
use Rattle.std.proofs.Common.{◌≡◌, ℕ, List, [], ◌∷◌, ◌++◌, map, append_assoc, append-nil, String, string_bytes, Result, Ok, Err, sym, ap, ◌∙◌}
use Rattle.std.specs.declared.alloc.Global.{Global}
use Rattle.std.specs.Prelude.{codes, decimal, flat_map, IfOk}
use Rattle.std.specs.List.{join_with_byte}
use Rattle.sd_plan.specs.topo.Network.{Network}
use Rattle.sd_plan.specs.declared.topo.Thing.{Thing}
use Rattle.sd_plan.specs.declared.domain.DomainId.{DomainId}
use Rattle.sd_checker.specs.declared.check_root.TimingBreach.{TimingBreach}
use Rattle.sd_checker.specs.Text.{domain_words, thing_words, refused_line}
use Rattle.sd_plan.specs.topo.Network.{device_name}
use Rattle.sd_checker.specs.Named.{named}
use Rattle.sd_checker.specs.declared.Breach.TheVariants as breach

pub structure_line : (net : Network) (place rule device : ℕ) (name : List ℕ) → name ≡ device_name net device
    → codes "refused plan " ++ (decimal place ++ (codes " structure " ++ (decimal rule ++ (codes " device " ++ (name ++ codes "\n")))))
    ≡ refused_line net place (breach.Structure rule device)
structure_line net place rule device name is = rw is (simp append_assoc)

pub ancestor_line : (net : Network) (place device : ℕ) (name : List ℕ) → name ≡ device_name net device
    → codes "refused plan " ++ (decimal place ++ (codes " ancestor device " ++ (name ++ codes "\n"))) ≡ refused_line net place (breach.Ancestor device)
ancestor_line net place device name is = rw is (simp append_assoc)

pub timing_line : (net : Network) (place : ℕ) (t : TimingBreach)
    → codes "refused plan "
    ++ (decimal place ++ (codes " timing " ++ (decimal t.rule ++ (codes " " ++ (decimal t.left ++ (codes " " ++ (decimal t.right ++ codes "\n")))))))
    ≡ refused_line net place (breach.Timing t)
timing_line net place t = simp append_assoc

-- the line of these words of a breach
abbrev line_of : ℕ → List (List ℕ) → List ℕ
line_of place words = join_with_byte 32 (codes "refused" ∷ codes "plan" ∷ decimal place ∷ words) ++ 10 ∷ []

flat_root : (place : ℕ) (kind name what at_name : List ℕ)
    → codes "refused plan "
    ++ (decimal place ++ (codes " root " ++ (kind ++ (codes " " ++ (name ++ (codes " at " ++ (what ++ (codes " " ++ (at_name ++ codes "\n")))))))))
    ≡ line_of place (codes "root" ∷ kind ∷ name ∷ codes "at" ∷ what ∷ at_name ∷ [])
flat_root place kind name what at_name = simp append_assoc

pub root_line : (net : Network) (place : ℕ) (domain : DomainId) (at : Thing) (kind name what at_name : List ℕ) → domain_words net domain ≡ kind ∷ name ∷ []
    → thing_words net at ≡ what ∷ at_name ∷ []
    → codes "refused plan "
    ++ (decimal place ++ (codes " root " ++ (kind ++ (codes " " ++ (name ++ (codes " at " ++ (what ++ (codes " " ++ (at_name ++ codes "\n")))))))))
    ≡ refused_line net place (breach.Root domain at)
root_line net place domain at kind name what at_name is of =
    flat_root place kind name what at_name
    ∙ sym (ap (λ (ws : List (List ℕ)). line_of place (codes "root" ∷ ws ++ codes "at" ∷ thing_words net at)) is
    ∙ ap (λ (vs : List (List ℕ)). line_of place (codes "root" ∷ kind ∷ name ∷ codes "at" ∷ vs)) of)

flat_domain : (place : ℕ) (kind name at : List ℕ)
    → codes "refused plan " ++ (decimal place ++ (codes " domain " ++ (kind ++ (codes " " ++ (name ++ (codes " device " ++ (at ++ codes "\n")))))))
    ≡ line_of place (codes "domain" ∷ kind ∷ name ∷ codes "device" ∷ at ∷ [])
flat_domain place kind name at = simp append_assoc

pub domain_line : (net : Network) (place : ℕ) (domain : DomainId) (device : ℕ) (kind name at : List ℕ) → domain_words net domain ≡ kind ∷ name ∷ []
    → at ≡ device_name net device
    → codes "refused plan " ++ (decimal place ++ (codes " domain " ++ (kind ++ (codes " " ++ (name ++ (codes " device " ++ (at ++ codes "\n")))))))
    ≡ refused_line net place (breach.Domain domain device)
domain_line net place domain device kind name at is of =
    flat_domain place kind name at
    ∙ ap (λ (word : List ℕ). line_of place (codes "domain" ∷ kind ∷ name ∷ codes "device" ∷ word ∷ [])) of
    ∙ sym (ap (λ (ws : List (List ℕ)). line_of place (codes "domain" ∷ ws ++ codes "device" ∷ device_name net device ∷ [])) is)

-- words after a word, each after a space
joined : (word : List ℕ) (f : ℕ → List ℕ) (xs : List ℕ) → join_with_byte 32 (word ∷ map f xs) ≡ word ++ flat_map (λ d. 32 ∷ f d) xs
joined word f [] = sym (append-nil word)
joined word f (x ∷ xs) = ap (λ (rest : List ℕ). word ++ (32 ∷ rest)) (joined (f x) f xs)

-- a line that ends with names
flat_names : (place : ℕ) (head kind name last : List ℕ) (f : ℕ → List ℕ) (xs : List ℕ)
    → (codes "refused plan " ++ (decimal place ++ (32 ∷ (head ++ (32 ∷ (kind ++ (32 ∷ (name ++ (32 ∷ last))))))))) ++ (flat_map (λ d. 32 ∷ f d) xs ++ 10 ∷ [])
    ≡ line_of place (head ∷ kind ∷ name ∷ last ∷ map f xs)
flat_names place head kind name last f xs =
    whole (flat_map (λ d. 32 ∷ f d) xs)
    ∙ sym (ap (λ (rest : List ℕ). (codes "refused plan " ++ (decimal place ++ (32 ∷ (head ++ (32 ∷ (kind ++ (32 ∷ (name ++ (32 ∷ rest))))))))) ++ 10 ∷ [])
    (joined last f xs))
  where
    whole : (names : List ℕ)
        → (codes "refused plan " ++ (decimal place ++ (32 ∷ (head ++ (32 ∷ (kind ++ (32 ∷ (name ++ (32 ∷ last))))))))) ++ (names ++ 10 ∷ [])
        ≡ (codes "refused plan " ++ (decimal place ++ (32 ∷ (head ++ (32 ∷ (kind ++ (32 ∷ (name ++ (32 ∷ (last ++ names)))))))))) ++ 10 ∷ []
    whole names = simp append_assoc

pub loop_line : (net : Network) (place : ℕ) (domain : DomainId) (cycle : List ℕ) (kind name : List ℕ) → domain_words net domain ≡ kind ∷ name ∷ []
    → (codes "refused plan " ++ (decimal place ++ (codes " loop " ++ (kind ++ (codes " " ++ (name ++ codes " cycle")))))) ++ (named net cycle ++ 10 ∷ [])
    ≡ refused_line net place (breach.Loop domain cycle)
loop_line net place domain cycle kind name is =
    flat_names place (codes "loop") kind name (codes "cycle") (device_name net) cycle
    ∙ sym (ap (λ (ws : List (List ℕ)). line_of place (codes "loop" ∷ ws ++ codes "cycle" ∷ map (device_name net) cycle)) is)

pub reach_line : (net : Network) (place : ℕ) (domain : DomainId) (chain : List ℕ) (kind name : List ℕ) → domain_words net domain ≡ kind ∷ name ∷ []
    → (codes "refused plan " ++ (decimal place ++ (codes " reach " ++ (kind ++ (codes " " ++ (name ++ codes " chain")))))) ++ (named net chain ++ 10 ∷ [])
    ≡ refused_line net place (breach.Reach domain chain)
reach_line net place domain chain kind name is =
    flat_names place (codes "reach") kind name (codes "chain") (device_name net) chain
    ∙ sym (ap (λ (ws : List (List ℕ)). line_of place (codes "reach" ∷ ws ++ codes "chain" ∷ map (device_name net) chain)) is)

-- a text that was made is the same as another that is equal
pub if_ok : {E : Type 0} (made : Result (String Global) E) (bytes other : List ℕ) → IfOk made (λ s. string_bytes s ≡ bytes) → bytes ≡ other
    → IfOk made (λ s. string_bytes s ≡ other)
if_ok (Ok s) bytes other is same = is ∙ same
if_ok (Err e) bytes other is same = tt
