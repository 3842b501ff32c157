-- How named texts are seen.
use Rattle.std.specs.Prelude.{◌≤◌, length, drop}
use Rattle.sd_io.specs.outside.Texts.{Held, files_seen, text_at}
use Rattle.sd_io.specs.declared.outside.texts.Texts.TheInside.{Inside}

-- all texts, and the text at the place from the byte that is next
abbrev pub held_of : Inside → Held
held_of s = record {
  files = files_seen s.files.items;
  rest = drop s.at (text_at (files_seen s.files.items) s.place);
}

-- the next byte lies within the text or at its end
abbrev pub IsTexts : Inside → Type 0
IsTexts s = s.at ≤ length (text_at (files_seen s.files.items) s.place)
