use Rattle.std.proofs.Common.{◌≡◌, ℕ, ◌||◌, nat_eq, OnOk, Result, sym, ap, ◌∙◌, subst}
use Rattle.sd_num.specs.declared.NoMemory.{NoMemory}
use Rattle.sd_num.specs.Lists.{has}
use Rattle.sd_planner.proofs.Sets.{has_inserted}
use Rattle.sd_planner.proofs.waiting.Waiting.add.Goals as goal
use Rattle.sd_planner.proofs.waiting.Waiting.add.Goals.{in-Ok, in-Err}

pub returns : goal.returns
returns c =
    elim c.match-insert.branch [
      | in-Ok w ↦
          subst (λ (r : Result (Unit {0}) NoMemory). OnOk r ((x : ℕ) → has c.insert.new.self.keys x ≡ (nat_eq x c.args.d || has c.args.self.now x)))
          (sym w.result-is) (λ x.
          ap (λ ks. has ks x) w.in-Ok.ensures.keys ∙ has_inserted c.self.inside.numbers.keys c.args.d x
          ∙ ap (λ ks. nat_eq x c.args.d || has ks x) c.self.view_is)
      | in-Err w ↦ subst (λ (r : Result (Unit {0}) NoMemory). OnOk r ((x : ℕ) → has c.insert.new.self.keys x ≡ (nat_eq x c.args.d || has c.args.self.now x)))
          (sym w.result-is) tt
    ]
