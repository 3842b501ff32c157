-- What waits stays of the log at its place.
use Rattle.std.specs.Prelude.{◌≡◌, ◌<◌, ℕ, ◌+◌, All, Bool, true, false, List, get_or, length, nat_eq, refl}
use Rattle.std.proofs.Common.{arith, sym, subst, set}
use Rattle.std.proofs.lemmas.Bool.{eqb-false, eqb-true}
use Rattle.std.proofs.lemmas.Grind.{get_or-set_at}
use Rattle.std.proofs.lemmas.List.{get_or-set_other, length-set}
use Rattle.sd_record.specs.merge.Queues.{AreKept, IsReached, Queue, new_queue}

-- what waits of a log is of this number
abbrev pub IsKept : ℕ → Queue → Type 0
IsKept number q = All (IsReached number q.from) q.waiting

-- one of the logs is another now
pub kept_set : (queues : List Queue) (p : ℕ) (q : Queue) → AreKept queues → IsKept (p + 1) q → AreKept (set queues p q)
kept_set queues p q kept own k within = go (nat_eq k p) refl
  where
    more : k < length queues
    more = let same = length-set queues p q in omega (arith, within, same)

    go : (b : Bool) → nat_eq k p ≡ b → IsKept (k + 1) (get_or (set queues p q) k new_queue)
    go true is =
        let here : k ≡ p = eqb-true k p is in
        subst (IsKept (k + 1)) (sym (get_or-set_at queues p k q new_queue here (omega (arith, here, more))))
        (subst (λ (m : ℕ). IsKept (m + 1) q) (sym here) own)
    go false is = subst (IsKept (k + 1)) (sym (get_or-set_other queues p k q new_queue (eqb-false k p is))) (kept k more)
