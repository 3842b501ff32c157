-- How the names of a text are hashed.
use Rattle.std.specs.Prelude.{◌≡◌, ℕ, List}
use Rattle.std.specs.Hash.DefaultHasher.{initial, write}
use Rattle.indexmap.specs.IndexMap.{hasher_of}
use Rattle.sha2.specs.Sha512.{sha512}
use Rattle.sd_plan.specs.declared.topo.parts.Parts.{Parts}
use Rattle.sd_plan.specs.declared.topo.seed.TextSeed.{TextSeed}

-- the hasher of names that has taken in the digest of the text
abbrev pub seed_of : List ℕ → TextSeed
seed_of text = record { after_digest = write initial (sha512 text) }

-- all names are hashed by the seed
pub record AreHashed (seed : TextSeed) (p : Parts) : Type 0 where
  pub devices : hasher_of p.devices ≡ seed
  pub links : hasher_of p.links ≡ seed
  pub domains : hasher_of p.domains ≡ seed
