-- Which lines of an event name a premise that reported intervals hang on.
use Rattle.std.specs.Prelude.{Bool, true, false}
use Rattle.sd_history.specs.Lines.{Premise, Start, Drift, Delay, Line, Broken}

-- honest clocks, oscillators and links
abbrev pub is_of_honesty : Premise → Bool
is_of_honesty Start = true
is_of_honesty Drift = true
is_of_honesty Delay = true
is_of_honesty _ = false

-- the line names such a premise as broken
abbrev pub names_dishonesty : Line → Bool
names_dishonesty (Broken premise) = is_of_honesty premise
names_dishonesty _ = false
