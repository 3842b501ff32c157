-- The tree that the network of leaves and spines is printed as: the keys that are named in it, and no others.
use Rattle.std.specs.Prelude.{ℕ, List, [], ◌∷◌, ◌++◌, map, flat_map, codes, decimal}
use Rattle.toml.specs.Data.{Data, string, array, table, Members, no_members}
use Rattle.toml.specs.View.{items_of}
use Rattle.sd_num.specs.Lists.{below}
use Rattle.sd_topotext.specs.Printed.{put, whole}
use Rattle.sd_topotext.specs.declared.fault.Key.TheVariants as keys
use Rattle.sd_gen.specs.fabric.Fabrics.{spine_name, leaf_name, link_name}

-- an array of tables
abbrev pub tables : List Members → Data
tables trees = array (items_of (map table trees))

-- an array of names
abbrev pub strings : List (List ℕ) → Data
strings names = array (items_of (map string names))

-- the table of a device
abbrev pub device_tree : List ℕ → Members
device_tree name = put keys.DeviceName (string name) no_members

-- the table of the link between leaf i and spine j
abbrev pub link_tree : (i j : ℕ) → Members
link_tree i j =
    put keys.LinkName (string (link_name i j)) (put keys.LinkEnds (strings (spine_name j ∷ leaf_name i ∷ []))
    (put keys.LinkMin (whole 400000) (put keys.LinkMax (whole 1000000) no_members)))

-- the table of the domain of leaf i: the leaf with its links
abbrev pub rack_tree : (spines i : ℕ) → Members
rack_tree spines i =
    put keys.DomainName (string (codes "rack" ++ decimal i)) (put keys.DomainDevices (strings (leaf_name i ∷ []))
    (put keys.DomainLinks (strings (map (link_name i) (below spines))) no_members))

-- the numbers at the top
abbrev pub numbers_tree : Members
numbers_tree =
    put keys.Version (whole 1) (put keys.Ppm (whole 200) (put keys.Grain (whole 1000) (put keys.Period (whole 100000000)
    (put keys.Tick (whole 60000000) (put keys.Loss (whole 1) (put keys.Depth (whole 3) no_members))))))

-- the whole tree
unfoldable pub fabric_tree : (leaves spines : ℕ) → Members
fabric_tree leaves spines =
    put keys.Device (tables (map device_tree (map spine_name (below spines) ++ map leaf_name (below leaves))))
    (put keys.Link (tables (flat_map (λ i. map (link_tree i) (below spines)) (below leaves)))
    (put keys.Domain (tables (map (rack_tree spines) (below leaves)))
    (put keys.Roots (strings (map spine_name (below spines))) numbers_tree)))
