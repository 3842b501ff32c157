-- Tests of all numbers below a count, of some, and of the members of a plan.
use Rattle.std.proofs.Common.{◌≡◌, ℕ, ◌<◌, Bool, true, false, not, ◌||◌, length, refl, sym, ap, ◌∙◌, subst}
use Rattle.std.specs.List.{list_all}
use Rattle.std.proofs.lemmas.List.Folds.{list_all_at}
use Rattle.sd_num.specs.Lists.{below}
use Rattle.sd_num.proofs.Shared.{all_below}
use Rattle.sd_plan.specs.topo.Network.{Network}
use Rattle.sd_plan.specs.declared.Plan.{Plan}
use Rattle.sd_plan.specs.Plans.{is_member, members}
use Rattle.sd_plan.proofs.Numbered.{length-below, get_or-below}
use Rattle.sd_monitors.proofs.clocks.Judging.{each_below, all_filter}

inside : (n x : ℕ) → x < n → x < length (below n)
inside n x within = subst (λ (m : ℕ). x < m) (sym (length-below n)) within

pub all_below_fails : (p : ℕ → Bool) (n x : ℕ) → x < n → p x ≡ false → list_all p (below n) ≡ false
all_below_fails p n x within fails = list_all_at p (below n) x 0 (inside n x within) (ap p (get_or-below n x 0 within) ∙ fails)

module _ (net : Network) (plan : Plan) (test : ℕ → Bool) where
  pub members_pass : ((d : ℕ) → d < length net.devices → is_member plan d ≡ true → test d ≡ true) → list_all test (members net plan) ≡ true
  members_pass each = all_filter test (is_member plan) (below (length net.devices))
      ∙ all_below (λ d. not (is_member plan d) || test d) (length net.devices) (λ d within. by d within (is_member plan d) refl)
    where
      by : (d : ℕ) → d < length net.devices → (b : Bool) → is_member plan d ≡ b → (not b || test d) ≡ true
      by d within true member = each d within member
      by d within false other = refl

  pub member_passes : list_all test (members net plan) ≡ true → (d : ℕ) → d < length net.devices → is_member plan d ≡ true → test d ≡ true
  member_passes all d within member =
      ap (λ b. not b || test d) (sym member)
      ∙ each_below (λ d. not (is_member plan d) || test d) (length net.devices)
      (sym (all_filter test (is_member plan) (below (length net.devices))) ∙ all) d within

  pub member_fails : (d : ℕ) → d < length net.devices → is_member plan d ≡ true → test d ≡ false → list_all test (members net plan) ≡ false
  member_fails d within member fails =
      all_filter test (is_member plan) (below (length net.devices))
      ∙ all_below_fails (λ d. not (is_member plan d) || test d) (length net.devices) d within (ap (λ b. not b || test d) member ∙ fails)
