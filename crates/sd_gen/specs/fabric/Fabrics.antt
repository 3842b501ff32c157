-- The network of leaves and spines of `case`.
use Rattle.std.specs.Prelude.{ℕ, ◌+◌, ◌*◌, List, ◌∷◌, ◌++◌, map, flat_map, codes, decimal, []}
use Rattle.sd_num.specs.Lists.{below}
use Rattle.sd_plan.specs.topo.Network.{Network, Device, Link, Domain}
use Rattle.sd_plan.specs.declared.topo.Params.{Params}
use Rattle.sd_plan.specs.declared.topo.Side.TheVariants as side
use Rattle.sd_plan.specs.declared.Absent.{Absent}

-- the parameters of the network
abbrev pub params : Params
params = record { ppm = 200; grain = 1000; period = 100000000; tick = 60000000; loss = 1; depth = 3 }

-- the names of spine j, leaf i, and the link between them
abbrev pub spine_name : ℕ → List ℕ
spine_name j = codes "s" ++ decimal j

-- the name of leaf i
abbrev pub leaf_name : ℕ → List ℕ
leaf_name i = codes "l" ++ decimal i

-- the name of the link between leaf i and spine j
abbrev pub link_name : ℕ → ℕ → List ℕ
link_name i j = codes "k" ++ decimal i ++ codes "-" ++ decimal j

-- the device with a name
abbrev pub device_named : List ℕ → Device
device_named name = record { name = name; side = side.Root; rates = record { ppm = 200; grain = 1000 } }

-- leaf i has a link to spine j, with the same bounds in both directions
abbrev pub link_between : (spines i j : ℕ) → Link
link_between spines i j =
    record {
      name = link_name i j;
      entry = record { end_a = j; end_b = spines + i; min = 400000; max = 1000000; back_min = 400000; back_max = 1000000 };
    }

-- leaf i and its links may fail together
abbrev pub rack : (spines i : ℕ) → Domain
rack spines i =
    record { name = codes "rack" ++ decimal i; devices = (spines + i) ∷ []; links = map (λ j. spines * i + j) (below spines) }

-- the spines come first, then the leaves; the links are those of the first leaf, then those of the second, and so on
abbrev pub fabric : (leaves spines : ℕ) → Network
fabric leaves spines =
    record {
      version = 1;
      params = params;
      devices = map (λ j. device_named (spine_name j)) (below spines) ++ map (λ i. device_named (leaf_name i)) (below leaves);
      links = flat_map (λ i. map (link_between spines i) (below spines)) (below leaves);
      domains = map (rack spines) (below leaves);
      roots = below spines;
    }

-- what the second plan leaves out: the first spine
abbrev pub second_absent : Absent
second_absent = record { devices = 0 ∷ []; links = [] }
