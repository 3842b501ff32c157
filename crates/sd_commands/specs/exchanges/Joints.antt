-- What is kept of the spans of links, and for which spans it stands.
use Rattle.std.specs.Prelude.{◌≡◌, ℕ, ◌+◌, ◌<◌, ◌≤◌, List, length, filter_map, min, max, slice_get, slice_index_or, nat_eq, Option, Some, None, IfSome, Ok, if◌then◌else◌}
use Rattle.sd_num.specs.Lists.{map_or}
use Rattle.sd_num.specs.declared.Rates.{Rates}
use Rattle.sd_commands.specs.exchanges.Spans.{span_of, joint_span, Covers}
use Rattle.sd_commands.specs.declared.exchanges.Exchange.{Exchange}
use Rattle.sd_commands.specs.declared.exchanges.Span.{Span}

-- of each link the joint span and the number of the spans that were added to it, nothing where none was
abbrev pub Joints : Type 0
Joints = List (Option (Span × ℕ))

-- what there is of the link with this number
abbrev pub joint_at : Joints → ℕ → Option (Span × ℕ)
joint_at joints l = slice_index_or joints l None

-- how many spans were added
abbrev pub count_of : Option (Span × ℕ) → ℕ
count_of joint = map_or joint 0 (λ j. j.1)

-- a joint span and its number with one span more
abbrev pub joined : Option (Span × ℕ) → Span → Span × ℕ
joined None span = (span, 1)
joined (Some (joint, count)) span = (record { min = min span.min joint.min; max = max span.max joint.max }, count + 1)

-- the span, where it was added to the link
abbrev pub if_on : ℕ → ℕ × Span → Option Span
if_on l a = if nat_eq a.0 l then Some a.1 else None

-- of spans that were added, each with its link, those of one link
abbrev pub spans_on : ℕ → List (ℕ × Span) → List Span
spans_on l added = filter_map (if_on l) added

-- what is kept is the joint span of those that were added, the newest first, each to one of the links
abbrev pub StandsFor : Joints → List (ℕ × Span) → Type 0
StandsFor joints added = (l : ℕ) → l < length joints → joint_at joints l ≡ joint_span (spans_on l added)

-- no link has more spans than this many
abbrev pub AreFew : Joints → ℕ → Type 0
AreFew joints most = (l : ℕ) → count_of (joint_at joints l) ≤ most

-- in each honest run of an exchange whose span is one of these, both delays lie in the span that is answered for them
abbrev pub CoversAll : List Span → Option (Span × ℕ) → Type 0
CoversAll spans answer =
    IfSome answer (λ joint. (first second : Rates) (x : Exchange) (span : Span) (i : ℕ) → span_of first second x ≡ Ok span → slice_get spans i ≡ Some span
    → Covers first second x joint.0)
