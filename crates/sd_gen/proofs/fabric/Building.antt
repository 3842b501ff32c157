-- The tree that is built is the fabric's.
use Rattle.std.specs.Prelude.{◌≡◌, ℕ, ◌+◌, ◌-◌, ◌*◌, ◌/◌, ◌%◌, ◌<◌, ◌≤◌, List, [], ◌∷◌, ◌++◌, map, flat_map, refl}
use Rattle.std.proofs.Common.{arith, ap, sym, ◌∙◌, add-one, subst}
use Rattle.std.proofs.lemmas.Bool.{lt-ltb, le-ltb}
use Rattle.toml.specs.Data.{Data, Members, push_item, string, array, table, depth, items_depth, members_depth}
use Rattle.toml.specs.View.{view, items_of, items_view}
use Rattle.toml.specs.declared.value.Value.{Value}
use Rattle.toml.proofs.Views.{items_view-push}
use Rattle.sd_num.specs.Lists.{below}
use Rattle.sd_topotext.proofs.Printing.{items_of-push}
use Rattle.sd_gen.specs.fabric.Fabrics.{spine_name, leaf_name, link_name}
use Rattle.sd_gen.specs.fabric.Numbered.{numbered_device_name}
use Rattle.sd_gen.specs.fabric.Trees.{tables, strings, device_tree, link_tree, rack_tree, fabric_tree}
use Rattle.sd_gen.proofs.fabric.Numbering.{numbered, one_more, alike, numbered_append, grid}

-- one item more
pub items_more : (tree : ℕ → Data) (n : ℕ) (new vs : List Value) (v : Value) → items_view vs ≡ items_of (numbered tree n) → view v ≡ tree n → new ≡ vs ++ v ∷ []
    → items_view new ≡ items_of (numbered tree (n + 1))
items_more tree n new vs v before one is =
    ap items_view is
    ∙ items_view-push vs v
    ∙ ap (λ ds. push_item ds (view v)) before
    ∙ ap (push_item (items_of (numbered tree n))) one
    ∙ sym (items_of-push (numbered tree n) (tree n))
    ∙ ap items_of (sym (one_more tree n))
    ∙ ap (λ k. items_of (numbered tree k)) (sym (add-one n))

pub map_twice : {A B C : Type 0} (g : B → C) (f : A → B) (xs : List A) → map g (map f xs) ≡ map (λ x. g (f x)) xs
map_twice g f [] = refl
map_twice g f (x ∷ xs) = ap (λ ys. g (f x) ∷ ys) (map_twice g f xs)

-- the arrays by numbers

pub devices_numbered : (leaves spines : ℕ)
    → tables (map device_tree (map spine_name (below spines) ++ map leaf_name (below leaves)))
    ≡ array (items_of (numbered (λ d. table (device_tree (numbered_device_name spines d))) (spines + leaves)))
devices_numbered leaves spines =
    ap (λ names. tables (map device_tree names)) (numbered_append spine_name leaf_name spines leaves)
    ∙ ap tables (map_twice device_tree (numbered_device_name spines) (below (spines + leaves)))
    ∙ ap (λ ds. array (items_of ds)) (map_twice table (λ d. device_tree (numbered_device_name spines d)) (below (spines + leaves)))

pub links_numbered : (leaves spines : ℕ)
    → tables (flat_map (λ i. map (link_tree i) (below spines)) (below leaves))
    ≡ array (items_of (numbered (λ l. table (link_tree (l / spines) (l % spines))) (leaves * spines)))
links_numbered leaves spines =
    ap tables (grid link_tree leaves spines)
    ∙ ap (λ ds. array (items_of ds)) (map_twice table (λ l. link_tree (l / spines) (l % spines)) (below (leaves * spines)))

pub tables_numbered : (tree : ℕ → Members) (n : ℕ) → tables (map tree (below n)) ≡ array (items_of (numbered (λ k. table (tree k)) n))
tables_numbered tree n = ap (λ ds. array (items_of ds)) (map_twice table tree (below n))

pub strings_numbered : (name : ℕ → List ℕ) (n : ℕ) → strings (map name (below n)) ≡ array (items_of (numbered (λ k. string (name k)) n))
strings_numbered name n = ap (λ ds. array (items_of ds)) (map_twice string name (below n))

-- a spine is named as a device
pub spine_named : (spines j : ℕ) → j < spines → numbered_device_name spines j ≡ spine_name j
spine_named spines j is = rw (lt-ltb j spines is) refl

-- so is a leaf
pub leaf_named : (spines i : ℕ) → numbered_device_name spines (spines + i) ≡ leaf_name i
leaf_named spines i = let back : spines + i - spines ≡ i = omega arith in rw (le-ltb (spines + i) spines (omega arith), back) refl

pub roots_numbered : (spines : ℕ) → strings (map spine_name (below spines)) ≡ array (items_of (numbered (λ k. string (numbered_device_name spines k)) spines))
roots_numbered spines =
    strings_numbered spine_name spines
    ∙ ap (λ ds. array (items_of ds))
    (alike (λ k. string (spine_name k)) (λ k. string (numbered_device_name spines k)) spines (λ k less. ap string (sym (spine_named spines k less))))

-- The tree is shallow.

items_depth_le : (tree : ℕ → Data) (most n : ℕ) → ((k : ℕ) → depth (tree k) ≤ most) → items_depth (items_of (numbered tree n)) ≤ most
items_depth_le tree most n each = by (below n)
  where
    by : (ks : List ℕ) → items_depth (items_of (map tree ks)) ≤ most
    by [] = omega arith
    by (k ∷ ks) = let first = each k in let rest = by ks in omega (arith, first, rest)

strings_depth : (name : ℕ → List ℕ) (n : ℕ) → depth (array (items_of (numbered (λ k. string (name k)) n))) ≤ 1
strings_depth name n = let inner = items_depth_le (λ k. string (name k)) 0 n (λ k. omega arith) in omega (arith, inner)

rack_depth : (spines i : ℕ) → depth (table (rack_tree spines i)) ≤ 3
rack_depth spines i =
    let links : depth (strings (map (link_name i) (below spines))) ≤ 1 =
    subst (λ d. depth d ≤ 1) (sym (strings_numbered (link_name i) spines)) (strings_depth (link_name i) spines) in
    omega (arith, links)

pub fabric_depth : (leaves spines : ℕ) → members_depth (fabric_tree leaves spines) ≤ 80
unfolding fabric_tree
fabric_depth leaves spines =
    let devices : depth (tables (map device_tree (map spine_name (below spines) ++ map leaf_name (below leaves)))) ≤ 5 =
    subst (λ d. depth d ≤ 5) (sym (devices_numbered leaves spines))
    (let inner = items_depth_le (λ d. table (device_tree (numbered_device_name spines d))) 3 (spines + leaves) (λ k. omega arith) in omega (arith, inner)) in
    let links : depth (tables (flat_map (λ i. map (link_tree i) (below spines)) (below leaves))) ≤ 5 =
    subst (λ d. depth d ≤ 5) (sym (links_numbered leaves spines))
    (let inner = items_depth_le (λ l. table (link_tree (l / spines) (l % spines))) 3 (leaves * spines) (λ k. omega arith) in omega (arith, inner)) in
    let racks : depth (tables (map (rack_tree spines) (below leaves))) ≤ 5 =
    subst (λ d. depth d ≤ 5) (sym (tables_numbered (rack_tree spines) leaves))
    (let inner = items_depth_le (λ i. table (rack_tree spines i)) 3 leaves (rack_depth spines) in omega (arith, inner)) in
    let roots : depth (strings (map spine_name (below spines))) ≤ 1 =
    subst (λ d. depth d ≤ 1) (sym (strings_numbered spine_name spines)) (strings_depth spine_name spines) in
    omega (arith, devices, links, racks, roots)

-- a whole array
pub array_whole : (tree : ℕ → Data) (n k : ℕ) (vs : List Value) (v : Value) → k ≤ n → n ≤ k → items_view vs ≡ items_of (numbered tree k)
    → view v ≡ array (items_view vs) → view v ≡ array (items_of (numbered tree n))
array_whole tree n k vs v low high items is =
    let same : k ≡ n = omega (arith, low, high) in
    is ∙ ap (λ ds. array ds) items ∙ ap (λ m. array (items_of (numbered tree m))) same
