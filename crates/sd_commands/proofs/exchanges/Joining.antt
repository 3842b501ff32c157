-- A joint span goes on span by span.
use Rattle.std.proofs.Common.{◌≡◌, ◌≢◌, ◌∙◌, ℕ, suc, ◌+◌, ◌<◌, ◌≤◌, Bool, true, false, List, [], ◌∷◌, length, map, get_or, set, nat_eq, Option, Some, None, refl, sym, ap, subst, arith}
use Rattle.std.proofs.lemmas.Bool.{eq-eqb, eqb-true}
use Rattle.std.proofs.lemmas.List.{get_or-set_same, get_or-set_other, length-set}
use Rattle.std.specs.Prelude.{if◌then◌else◌}
use Rattle.std.specs.List.{cons_option}
use Rattle.sd_num.specs.Lists.{greatest, least}
use Rattle.sd_commands.specs.exchanges.Spans.{joint_span}
use Rattle.sd_commands.specs.exchanges.Joints.{Joints, AreFew, CoversAll, StandsFor, count_of, joint_at, joined, spans_on}
use Rattle.sd_commands.specs.declared.exchanges.Span.{Span}
use Rattle.sd_commands.proofs.exchanges.Joint.{joint_covers}

-- what is answered of some spans covers what each of them covers
pub covers_all : (spans : List Span) (answer : Option (Span × ℕ)) → answer ≡ joint_span spans → CoversAll spans answer
covers_all spans None same = tt
covers_all spans (Some (joint, n)) same = λ first second x span i is at. joint_covers first second x span joint spans i n is at (sym same)
