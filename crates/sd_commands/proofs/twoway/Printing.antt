-- The printed line of a link.
use Rattle.std.proofs.Common.{◌≡◌, ◌∙◌, ℕ, ◌<◌, ◌≤◌, true, ◌&&◌, List, [], ◌∷◌, ◌++◌, length, get_or, ap, sym, subst, append_assoc}
use Rattle.std.specs.Prelude.{codes, nat_le}
use Rattle.std.specs.List.{list_all}
use Rattle.std.proofs.lemmas.Bool.{and_parts, leb-true}
use Rattle.std.proofs.lemmas.List.{length-map}
use Rattle.std.proofs.lemmas.Option.{slice_get-get_or}
use Rattle.sd_num.specs.Texts.{text_of}
use Rattle.sd_plan.specs.topo.Network.{Network, is_name, is_name_byte, link_names, name_at}
use Rattle.sd_plan.specs.topo.Limits.{IsNetwork}
use Rattle.sd_plan.proofs.topo.Laws.{found_at}

-- the name of a link is short
pub name_short : (net : Network) (l : ℕ) → IsNetwork net → l < length net.links → length (name_at (link_names net) l) ≤ 64
name_short net l law inside =
    let within : l < length (link_names net) = subst (λ (n : ℕ). l < n) (sym (length-map net.links (λ link. link.name))) inside in
    let name = get_or (link_names net) l [] in
    let is : name_at (link_names net) l ≡ name = found_at (link_names net) l [] [] (λ n. n) within in
    let named : is_name name ≡ true = law.names.1 l name (slice_get-get_or (link_names net) l [] within) in
    let both = and_parts (nat_le 1 (length name) && nat_le (length name) 64) (list_all is_name_byte name) named in
    let few = and_parts (nat_le 1 (length name)) (nat_le (length name) 64) both.0 in
    subst (λ (n : List ℕ). length n ≤ 64) (sym is) (leb-true (length name) 64 few.1)

-- five lists grouped to the left, and with a sixth after them
to_the_right : (n a b c d : List ℕ) → (((n ++ a) ++ b) ++ c) ++ d ≡ n ++ (a ++ (b ++ (c ++ d)))
to_the_right n a b c d = simp append_assoc

with_last : (n a b c d e : List ℕ) → (n ++ (a ++ (b ++ (c ++ d)))) ++ e ≡ n ++ (a ++ (b ++ (c ++ (d ++ e))))
with_last n a b c d e = simp append_assoc

-- its pieces, printed one after the other
pub pieces : (p1 p2 p3 p4 p5 p6 bytes tail name low high count word : List ℕ) → p1 ≡ codes "link " → p2 ≡ p1 ++ bytes → bytes ≡ name → p3 ≡ p2 ++ 32 ∷ low
    → p4 ≡ p3 ++ 32 ∷ high → p5 ≡ p4 ++ 32 ∷ count → p6 ≡ p5 ++ tail
    → tail ≡ 32 ∷ (word ++ 10 ∷ []) → p6 ≡ text_of (codes "link" ∷ name ∷ low ∷ high ∷ count ∷ word ∷ [])
pieces p1 p2 p3 p4 p5 p6 bytes tail name low high count word h1 h2 is h3 h4 h5 h6 ends =
    rw (h6, h5, h4, h3, h2, h1, is, ends)
    (ap (λ (text : List ℕ). codes "link " ++ text) (to_the_right name (32 ∷ low) (32 ∷ high) (32 ∷ count) (32 ∷ (word ++ 10 ∷ [])))
    ∙ sym (ap (λ (text : List ℕ). codes "link " ++ text) (with_last name (32 ∷ low) (32 ∷ high) (32 ∷ count) (32 ∷ word) (10 ∷ []))))
