-- What the spans of exchanges are worth in honest runs.
use Rattle.std.specs.Prelude.{◌≡◌, ℕ, ◌-◌, List, slice_get, Some, Ok, IsTrue}
use Rattle.sd_num.specs.declared.Rates.{Rates}
use Rattle.sd_plan.specs.declared.topo.LinkEntry.{LinkEntry}
use Rattle.sd_commands.specs.declared.exchanges.Exchange.{Exchange}
use Rattle.sd_commands.specs.declared.exchanges.Span.{Span}
use Rattle.sd_commands.specs.exchanges.Spans.{span_of, Covers, IsHonestRun, joint_span, is_inside, IsWithinBounds}

-- in each honest run of an exchange that has a span both delays lie in it
abbrev pub SpanCovers : Type 0
SpanCovers = (first second : Rates) (x : Exchange) (span : Span) → span_of first second x ≡ Ok span → Covers first second x span

-- in each honest run of an exchange both delays lie in the joint span of any spans of which the exchange's own is one, as those of a link
abbrev pub JointCovers : Type 0
JointCovers =
    (first second : Rates) (x : Exchange) (span joint : Span) (spans : List Span) (i n : ℕ)
    → span_of first second x ≡ Ok span → slice_get spans i ≡ Some span → joint_span spans ≡ Some (joint, n) → Covers first second x joint

-- where the joint span lies inside the topology's bounds, both delays meet them in each honest run
abbrev pub InsideMeets : Type 0
InsideMeets =
    (first second : Rates) (x : Exchange) (span joint : Span) (spans : List Span) (i n : ℕ) (link : LinkEntry)
    → span_of first second x ≡ Ok span → slice_get spans i ≡ Some span → joint_span spans ≡ Some (joint, n) → IsTrue (is_inside link joint)
    → (r1 r2 r3 r4 : ℕ) → IsHonestRun first second x r1 r2 r3 r4 → IsWithinBounds link (r2 - r1) × IsWithinBounds link (r4 - r3)
