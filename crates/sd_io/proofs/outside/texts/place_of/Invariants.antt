use Rattle.std.proofs.Common.{◌≡◌, drop}
use Rattle.sd_io.specs.outside.Texts.{files_seen, text_in}
use Rattle.sd_io.proofs.outside.texts.place_of.Given as goal

-- the files so far have other names
abbrev pub invariant-loop-place : goal.invariant-loop-place
invariant-loop-place l = text_in (files_seen l.files) l.name ≡ text_in (files_seen (drop l.place l.files)) l.name
