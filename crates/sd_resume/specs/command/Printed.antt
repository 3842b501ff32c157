-- What is printed of a comparison. As schedules do, it gives devices, links and messages their numbers.
use Rattle.std.specs.Prelude.{ℕ, List, [], ◌∷◌, Option, None, Some, codes, decimal}
use Rattle.sd_num.specs.Texts.{text_of}
use Rattle.sd_plan.specs.declared.topo.Thing.{Thing}
use Rattle.sd_plan.specs.declared.topo.Thing.TheVariants.{Device, Link}
use Rattle.sd_resume.specs.declared.differences.Difference.{Difference}
use Rattle.sd_resume.specs.declared.differences.Difference.TheVariants as difference
use Rattle.sd_resume.specs.declared.differences.Dishonesty.{Dishonesty}
use Rattle.sd_resume.specs.declared.differences.Dishonesty.TheVariants as dishonesty
use Rattle.sd_resume.specs.declared.differences.Register.{Register}
use Rattle.sd_resume.specs.declared.differences.Register.TheVariants as register

-- the opening stands for the schedule and is honest, and this many events they have
abbrev pub agree_line : ℕ → ℕ → List ℕ
agree_line one other = text_of (codes "agree" ∷ decimal one ∷ decimal other ∷ [])

-- a register
abbrev pub register_word : Register → List ℕ
register_word register.Duty = codes "duty"
register_word register.Given = codes "given"
register_word register.Mode = codes "mode"
register_word register.Sealed = codes "sealed"
register_word register.Rates = codes "rates"
register_word register.Stamp = codes "stamp"
register_word register.Last = codes "last"
register_word register.Sent = codes "sent"
register_word register.Estimate = codes "estimate"

-- what is failed
abbrev pub thing_word : Thing → List ℕ
thing_word (Device d) = codes "device"
thing_word (Link l) = codes "link"

-- in what they differ
abbrev pub word_of : Difference → List ℕ
word_of difference.Network = codes "network"
word_of difference.Window = codes "window"
word_of difference.Time = codes "time"
word_of difference.Plan = codes "plan"
word_of difference.End = codes "end"
word_of difference.Messages = codes "messages"
word_of difference.Sent = codes "opening-sends"
word_of (difference.OnItsWay number) = codes "message"
word_of (difference.Up d) = codes "up"
word_of (difference.Failed thing) = thing_word thing
word_of (difference.Reading d) = codes "counter"
word_of (difference.Register d x) = register_word x

-- the number of the device or the link
abbrev pub thing_number : Thing → ℕ
thing_number (Device d) = d
thing_number (Link l) = l

-- the number after the word, if there is one
abbrev pub number_of : Difference → Option ℕ
number_of (difference.OnItsWay number) = Some number
number_of (difference.Up d) = Some d
number_of (difference.Failed thing) = Some (thing_number thing)
number_of (difference.Reading d) = Some d
number_of (difference.Register d x) = Some d
number_of _ = None

-- what failed since the latest closing
abbrev pub failed_word : Thing → List ℕ
failed_word (Device d) = codes "failed-device"
failed_word (Link l) = codes "failed-link"

-- in what the opening is not honest
abbrev pub dishonesty_word : Dishonesty → List ℕ
dishonesty_word dishonesty.Broken = codes "broken"
dishonesty_word (dishonesty.Drift d) = codes "drift"
dishonesty_word (dishonesty.Tick d) = codes "tick"
dishonesty_word (dishonesty.Awaited d) = codes "awaited"
dishonesty_word (dishonesty.Untouched d) = codes "untouched"
dishonesty_word (dishonesty.FailedSince thing) = failed_word thing

-- the number after that word, if there is one
abbrev pub dishonesty_number : Dishonesty → Option ℕ
dishonesty_number dishonesty.Broken = None
dishonesty_number (dishonesty.Drift d) = Some d
dishonesty_number (dishonesty.Tick d) = Some d
dishonesty_number (dishonesty.Awaited d) = Some d
dishonesty_number (dishonesty.Untouched d) = Some d
dishonesty_number (dishonesty.FailedSince thing) = Some (thing_number thing)

-- a word, and a number if there is one
abbrev pub line_with : List ℕ → Option ℕ → List ℕ
line_with word None = text_of (codes "differ" ∷ word ∷ [])
line_with word (Some n) = text_of (codes "differ" ∷ word ∷ decimal n ∷ [])

-- the line of a difference
abbrev pub differ_line : Difference → List ℕ
differ_line what = line_with (word_of what) (number_of what)

-- the line of a dishonesty
abbrev pub dishonest_line : Dishonesty → List ℕ
dishonest_line what = line_with (dishonesty_word what) (dishonesty_number what)
