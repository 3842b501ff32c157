-- One more event that a line can say.
use Rattle.std.specs.Prelude.{◌≡◌, zero, suc, List, [], ◌∷◌, ◌++◌, IsTrue}
use Rattle.std.proofs.Common.{sym, subst, arith}
use Rattle.std.proofs.lemmas.List.Elements.{All-append}
use Rattle.sd_sched.specs.declared.Event.{Event}
use Rattle.sd_sched.specs.Spelled.{is_within}
use Rattle.sd_gen.specs.Listed.{AreWithin}

alone : (e : Event) → IsTrue (is_within e) → AreWithin (e ∷ [])
alone e is zero d first = is
alone e is (suc k) d first = absurd (omega (arith, first))

pub one_more : (events more : List Event) (e : Event) → more ≡ events ++ e ∷ [] → AreWithin events → IsTrue (is_within e) → AreWithin more
one_more events more e same all is = subst AreWithin (sym same) (All-append (λ x. IsTrue (is_within x)) events (e ∷ []) all (alone e is))
