-- Names fit into a line, and a line is that of its bound.
use Rattle.std.specs.Prelude.{◌≡◌, ℕ, ◌<◌, ◌≤◌, true, ◌&&◌, List, [], ◌∷◌, ◌++◌, length, nat_le, IsTrue, Option, Some, None, codes, decimal}
use Rattle.std.specs.List.{list_all}
use Rattle.std.proofs.Common.{append_assoc, get_or, sym, ap, ◌∙◌, subst}
use Rattle.std.proofs.lemmas.Bool.{and_parts, leb-true}
use Rattle.std.proofs.lemmas.Option.{slice_get-get_or}
use Rattle.sd_num.specs.Texts.{text_of}
use Rattle.sd_plan.specs.topo.Network.{Network, Each, name_at, is_name, is_name_byte}
use Rattle.sd_plan.proofs.topo.Laws.{found_at}
use Rattle.sd_plan.specs.declared.domain.DomainId.{DomainId}
use Rattle.sd_checker.specs.Text.{domain_words}
use Rattle.sd_plan.specs.topo.Network.{device_name}
use Rattle.sd_drill.specs.Bounds.{bound_at}
use Rattle.sd_drill.specs.Printed.{bound_line, bound_words}
use Rattle.sd_drill_text.specs.Printing.{front_of, line_behind, line_of}

pub name_short : (names : List (List ℕ)) (i : ℕ) → i < length names → Each (λ name. IsTrue (is_name name)) names → length (name_at names i) ≤ 64
name_short names i within each =
    let name = get_or names i [] in
    let is : is_name name ≡ true = each i name (slice_get-get_or names i [] within) in
    let limits = (and_parts (nat_le 1 (length name) && nat_le (length name) 64) (list_all is_name_byte name) is).0 in
    let most : length name ≤ 64 = leb-true (length name) 64 (and_parts (nat_le 1 (length name)) (nat_le (length name) 64) limits).1 in
    subst (λ (x : List ℕ). length x ≤ 64) (sym (found_at names i [] [] (λ n. n) within)) most

pub line_is : (net : Network) (f : DomainId) (bounds : List (Option ℕ)) (d : ℕ) (kind name : List ℕ) (o : Option ℕ) → domain_words net f ≡ kind ∷ name ∷ []
    → bound_at bounds d ≡ o → line_of kind name (device_name net d) o ≡ bound_line net f bounds d
line_is net f bounds d kind name None words is =
    sym (ap (λ (b : Option ℕ). text_of (bound_words net f d b)) is
    ∙ ap (λ (ws : List (List ℕ)). text_of (codes "nobound" ∷ ws ++ device_name net d ∷ [])) words)
line_is net f bounds d kind name (Some w) words is =
    sym (ap (λ (b : Option ℕ). text_of (bound_words net f d b)) is
    ∙ ap (λ (ws : List (List ℕ)). text_of (codes "bound" ∷ ws ++ device_name net d ∷ decimal w ∷ [])) words)

-- the line of a domain after its fronts
pub behind_fronts : (kind name device : List ℕ) (o : Option ℕ)
    → line_behind (front_of (codes "bound") kind name) (front_of (codes "nobound") kind name) device o ≡ line_of kind name device o
behind_fronts kind name device None = simp append_assoc
behind_fronts kind name device (Some w) = simp append_assoc
