-- The texts of the third witness, line by line: those of examples/needed/straggler but for the schedule.
use Rattle.std.specs.Prelude.{ℕ, List, [], ◌∷◌, ◌++◌, codes}

-- the topology
unfoldable pub topology_lines : List (List ℕ)
topology_lines =
    codes "version = 1"
    ∷ codes "ppm = 0"
    ∷ codes "grain = 0"
    ∷ codes "period = 21"
    ∷ codes "tick = 20"
    ∷ codes "loss = 1"
    ∷ codes "depth = 3"
    ∷ codes "roots = [\"r\", \"b\"]"
    ∷ codes ""
    ∷ codes "[[device]]"
    ∷ codes "name = \"r\""
    ∷ codes ""
    ∷ codes "[[device]]"
    ∷ codes "name = \"x\""
    ∷ codes ""
    ∷ codes "[[device]]"
    ∷ codes "name = \"b\""
    ∷ codes ""
    ∷ codes "[[device]]"
    ∷ codes "name = \"d\""
    ∷ codes ""
    ∷ codes "[[device]]"
    ∷ codes "name = \"y\""
    ∷ codes ""
    ∷ codes "[[link]]"
    ∷ codes "name = \"rx\""
    ∷ codes "ends = [\"r\", \"x\"]"
    ∷ codes "min = 0"
    ∷ codes "max = 0"
    ∷ codes ""
    ∷ codes "[[link]]"
    ∷ codes "name = \"xb\""
    ∷ codes "ends = [\"x\", \"b\"]"
    ∷ codes "min = 0"
    ∷ codes "max = 0"
    ∷ codes ""
    ∷ codes "[[link]]"
    ∷ codes "name = \"rb\""
    ∷ codes "ends = [\"r\", \"b\"]"
    ∷ codes "min = 0"
    ∷ codes "max = 0"
    ∷ codes ""
    ∷ codes "[[link]]"
    ∷ codes "name = \"bd\""
    ∷ codes "ends = [\"b\", \"d\"]"
    ∷ codes "min = 0"
    ∷ codes "max = 0"
    ∷ codes ""
    ∷ codes "[[link]]"
    ∷ codes "name = \"dy\""
    ∷ codes "ends = [\"d\", \"y\"]"
    ∷ codes "min = 0"
    ∷ codes "max = 0"
    ∷ codes ""
    ∷ codes "[[link]]"
    ∷ codes "name = \"ry\""
    ∷ codes "ends = [\"r\", \"y\"]"
    ∷ codes "min = 0"
    ∷ codes "max = 0"
    ∷ codes ""
    ∷ codes "[[link]]"
    ∷ codes "name = \"xd\""
    ∷ codes "ends = [\"x\", \"d\"]"
    ∷ codes "min = 0"
    ∷ codes "max = 0"
    ∷ codes ""
    ∷ codes "[[domain]]"
    ∷ codes "name = \"feed\""
    ∷ codes "devices = [\"r\"]"
    ∷ codes "links = [\"xb\", \"ry\"]"
    ∷ []

-- the plan that breaks the fifth rule of timing
unfoldable pub plan_lines : List (List ℕ)
plan_lines =
    (
    codes "{\"absent_devices\":[],\"absent_links\":[],\"backup_root\":\"b\",\"root\":\"r\",\"rows\":[{\"ba"
    ++ codes "ckup\":\"d\",\"backup_link\":\"xd\",\"device\":\"x\",\"link\":\"rx\",\"parent\":\"r\"},{\"backup\":\"r"
    ++ codes "\",\"backup_link\":\"rb\",\"device\":\"b\",\"link\":\"xb\",\"parent\":\"x\"},{\"backup\":\"y\",\"backu"
    ++ codes "p_link\":\"dy\",\"device\":\"d\",\"link\":\"bd\",\"parent\":\"b\"},{\"backup\":\"d\",\"backup_link\":"
    ++ codes "\"dy\",\"device\":\"y\",\"link\":\"ry\",\"parent\":\"r\"}],\"version\":1,\"wait\":1980,\"wait_first"
    ++ codes "\":836,\"wait_second\":286}")
    ∷ []

-- the same with a longer wait
unfoldable pub longer_lines : List (List ℕ)
longer_lines =
    (
    codes "{\"absent_devices\":[],\"absent_links\":[],\"backup_root\":\"b\",\"root\":\"r\",\"rows\":[{\"ba"
    ++ codes "ckup\":\"d\",\"backup_link\":\"xd\",\"device\":\"x\",\"link\":\"rx\",\"parent\":\"r\"},{\"backup\":\"r"
    ++ codes "\",\"backup_link\":\"rb\",\"device\":\"b\",\"link\":\"xb\",\"parent\":\"x\"},{\"backup\":\"y\",\"backu"
    ++ codes "p_link\":\"dy\",\"device\":\"d\",\"link\":\"bd\",\"parent\":\"b\"},{\"backup\":\"d\",\"backup_link\":"
    ++ codes "\"dy\",\"device\":\"y\",\"link\":\"ry\",\"parent\":\"r\"}],\"version\":1,\"wait\":2244,\"wait_first"
    ++ codes "\":836,\"wait_second\":286}")
    ∷ []
