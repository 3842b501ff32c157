-- Tests of a history that compute, and what they tell.
use Rattle.std.specs.Prelude.{◌≡◌, zero, suc, Bool, true, ◌&&◌, List, [], ◌∷◌, is_none}
use Rattle.std.proofs.Common.{subst}
use Rattle.std.proofs.lemmas.Bool.{and_parts}
use Rattle.std.proofs.lemmas.Option.{same_Some}
use Rattle.sd_plan.specs.topo.Network.{Each}
use Rattle.sd_sched.specs.declared.Event.{Event}
use Rattle.sd_history.specs.World.{Setting}
use Rattle.sd_history.specs.Chronicle.{chronicle, IsHistory}
use Rattle.sd_history.specs.Refusals.{refusal}
use Rattle.sd_beside.proofs.witness.Accepting.{is_none-None}

-- each event is accepted after those before it
abbrev pub are_accepted : Setting → List Event → Bool
are_accepted setting [] = true
are_accepted setting (e ∷ earlier) = are_accepted setting earlier && is_none (refusal setting (chronicle setting earlier) e)

pub is_history : (setting : Setting) (history : List Event) → are_accepted setting history ≡ true → IsHistory setting history
is_history setting [] accepted = tt
is_history setting (e ∷ earlier) accepted =
    let (before, now) = and_parts (are_accepted setting earlier) (is_none (refusal setting (chronicle setting earlier) e)) accepted in
    (is_history setting earlier before, is_none-None (refusal setting (chronicle setting earlier) e) now)

-- what holds of two holds of each of them
pub each_of_two : {A : Type 0} (P : A → Type 0) (a b : A) → P a → P b → Each P (a ∷ b ∷ [])
each_of_two P a b p q zero x at = subst P (same_Some a x at) p
each_of_two P a b p q (suc zero) x at = subst P (same_Some b x at) q
each_of_two P a b p q (suc (suc i)) x at = cc
