-- What a table's entry at a place says of the network that the table stands for.
use Rattle.std.proofs.Common.{◌≡◌, ℕ, zero, suc, Bool, not, List, [], ◌∷◌, map, Some, position, refl, ap, ◌∙◌, String, Global, string_bytes}
use Rattle.std.specs.Str.{bytes_eq}
use Rattle.std.specs.List.{slice_get, prefix_len}
use Rattle.std.specs.Map.{keys_of}
use Rattle.std.proofs.lemmas.Option.{slice_get-map}
use Rattle.sd_num.specs.Lists.{at_place}
use Rattle.sd_plan.specs.topo.Network.{name_at, number_in}
use Rattle.sd_plan.specs.topo.Places.{no_domain}
use Rattle.sd_plan.specs.topo.Seen.{domain_seen}
use Rattle.sd_plan.specs.declared.topo.parts.Group.{Group}
use Rattle.sd_plan.proofs.topo.Lists.{length-map}

-- how far a test fails, seen through a function
prefix_len-map : {A B : Type 0} (see : A → B) (test : B → Bool) (xs : List A) → prefix_len test (map see xs) ≡ prefix_len (λ x. test (see x)) xs
prefix_len-map see test [] = refl
prefix_len-map see test (x ∷ xs) = rw (prefix_len-map see test xs) refl

-- the place at which a test passes first, seen through a function
pub position-map : {A B : Type 0} (see : A → B) (test : B → Bool) (xs : List A) → position test (map see xs) ≡ position (λ x. test (see x)) xs
position-map see test xs = rw (prefix_len-map see (λ y. not (test y)) xs, length-map see xs) refl

-- the name at a place, from the entry there
pub at_name : {E B : Type 0} (see : E → B) (name : B → List ℕ) (es : List E) (i : ℕ) (e : E) → slice_get es i ≡ Some e
    → name_at (map name (map see es)) i ≡ name (see e)
at_name see name es i e at = rw (slice_get-map name (map see es) i, slice_get-map see es i, at) refl

-- what a place tells, from the value of the entry there
pub at_value : {K V B C : Type 0} (see : K × V → B) (f : B → C) (g : V → C) → ((e : K × V) → f (see e) ≡ g e.1) → (d : C) (es : List (K × V)) (i : ℕ) (v : V)
    → slice_get (map (λ e. e.1) es) i ≡ Some v → at_place (map see es) i d f ≡ g v
at_value see f g same d [] i v at = cc
at_value see f g same d (e ∷ es) zero v at = same e ∙ ap g (some_inside e.1 v at)
  where
    some_inside : {V : Type 0} (x y : V) → Some x ≡ Some y → x ≡ y
    some_inside x y h = cc
at_value see f g same d (e ∷ es) (suc i) v at = at_value see f g same d es i v at

-- the lists of a domain, from the entry's value
pub at_domain : (es : List (String Global × Group)) (i : ℕ) (v : Group) → slice_get (map (λ e. e.1) es) i ≡ Some v
    → (at_place (map domain_seen es) i no_domain (λ domain. domain)).devices ≡ v.devices.items
    × (at_place (map domain_seen es) i no_domain (λ domain. domain)).links ≡ v.links.items
at_domain [] i v at = cc
at_domain (e ∷ es) zero v at = (ap (λ (g : Group). g.devices.items) (inside e.1 v at), ap (λ (g : Group). g.links.items) (inside e.1 v at))
  where
    inside : (x y : Group) → Some x ≡ Some y → x ≡ y
    inside x y h = cc
at_domain (e ∷ es) (suc i) v at = at_domain es i v at

-- the number of a name, from the keys
pub numbered : {V B : Type 0} (see : String Global × V → B) (name : B → List ℕ) → ((e : String Global × V) → name (see e) ≡ string_bytes e.0)
    → (word : List ℕ) (es : List (String Global × V))
    → number_in (map name (map see es)) word ≡ position (λ k. bytes_eq word (string_bytes k)) (keys_of es)
numbered {V} see name same word es =
    ap (position (bytes_eq word)) (all es) ∙ position-map string_bytes (bytes_eq word) (keys_of es)
  where
    all : (es : List (String Global × V)) → map name (map see es) ≡ map string_bytes (keys_of es)
    all [] = refl
    all (e ∷ es) = rw (same e, all es) refl
