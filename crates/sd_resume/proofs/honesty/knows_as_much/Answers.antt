use Rattle.std.proofs.Common.{◌≡◌, Bool, true, false, not, ◌||◌, refl, sym, ◌∙◌}
use Rattle.sd_resume.specs.law.Law.{whole}
use Rattle.sd_history.specs.World.{setting_over}
use Rattle.sd_resume.proofs.honesty.knows_as_much.Goals as goal

where_first : (a b : Bool) → b ≡ true → b ≡ (not a || b)
where_first true b is = refl
where_first false b is = is

where_not : (found a b : Bool) → found ≡ a → b ≡ false → not found ≡ (not a || b)
where_not true true false same is = refl
where_not false false false same is = refl
where_not true true true same is = cc
where_not false false true same is = cc
where_not true false b same is = cc
where_not false true b same is = cc

pub returns-then-one : goal.returns-then-one
returns-then-one c shift net front plans one other of_first of_second alike =
    let first = c.is_untouched-one.ensures (whole net front plans) one of_first in
    first ∙ where_first _ _ (sym first ∙ c.if-one.true)

pub returns-else-one : goal.returns-else-one
returns-else-one c shift net front plans one other of_first of_second alike =
    where_not _ _ _ (c.is_untouched-other.ensures (setting_over net plans) other of_second)
    (sym (c.is_untouched-one.ensures (whole net front plans) one of_first) ∙ c.if-one.false)
