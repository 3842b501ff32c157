-- A membership before any event.
use Rattle.std.specs.Prelude.{◌≡◌, ℕ, zero, suc, ◌<◌, ◌≤◌, ◌^◌, List, [], length, replicate, Option, None, refl}
use Rattle.std.proofs.Common.{ap, ◌∙◌, sym, subst, arith}
use Rattle.std.proofs.lemmas.List.{length-replicate}
use Rattle.sd_num.specs.Lists.{at_place}
use Rattle.sd_plan.specs.topo.Network.{Network}
use Rattle.sd_plan.specs.topo.Limits.{IsNetwork}
use Rattle.sd_plan.specs.declared.Plan.{Plan}
use Rattle.sd_history.specs.World.{Setting}
use Rattle.sd_world.specs.world.Registers.{first_registers}
use Rattle.sd_world.specs.world.Registers as world
use Rattle.sd_world.specs.world.Standing as standing
use Rattle.sd_world.specs.declared.membership.AnswerSummary.{AnswerSummary}
use Rattle.sd_world.specs.declared.membership.settled_count.SettledCount.{SettledCount}
use Rattle.sd_world.specs.declared.membership.plans.NumberedPlan.{NumberedPlan}
use Rattle.sd_world.specs.membership.Plans.{AreSound, numbered}
use Rattle.sd_world.specs.membership.Memberships.{Registers, IsSound}
use Rattle.sd_world.specs.membership.Counts.{none_counted, settled_count_of}
use Rattle.sd_world.specs.membership.Standing.{Stands}
use Rattle.sd_world.proofs.membership.ByNumber.{length-plans}
use Rattle.sd_world.proofs.membership.Tables.{tables_fit}
use Rattle.sd_world.proofs.membership.Observing.{settled_count_shut}

-- what is kept before any event
pub record IsFirst (r : Registers) (net : Network) (plans : List Plan) (devices links : ℕ) : Type 0 where
  pub numbers : r.plans ≡ numbered net plans
  pub begun : r.world ≡ first_registers devices links
  pub nothing : r.answers ≡ replicate devices None
  pub device_count : devices ≡ length net.devices
  pub link_count : links ≡ length net.links

pub same_nothing : (answers : List (Option AnswerSummary)) (n m k : ℕ) → answers ≡ replicate n None → n ≡ k → m ≡ k → answers ≡ replicate m None
same_nothing answers n m k nothing one other = nothing ∙ ap (λ (x : ℕ). replicate x None) (one ∙ sym other)

abbrev made : List NumberedPlan → world.Registers → List (Option AnswerSummary) → Registers
made plans world answers = record { plans = plans; world = world; answers = answers }

is_first : (r : Registers) (net : Network) (plans : List Plan) (devices links : ℕ) → IsFirst r net plans devices links
    → r ≡ made (numbered net plans) (first_registers (length net.devices) (length net.links)) (replicate (length net.devices) None)
is_first r net plans devices links first =
    ap (λ (ps : List NumberedPlan). made ps r.world r.answers) first.numbers
    ∙ ap (λ (w : world.Registers). made (numbered net plans) w r.answers)
    (first.begun ∙ ap (λ (n : ℕ). first_registers n links) first.device_count ∙ ap (λ (n : ℕ). first_registers (length net.devices) n) first.link_count)
    ∙ ap (λ (xs : List (Option AnswerSummary)). made (numbered net plans) (first_registers (length net.devices) (length net.links)) xs)
    (first.nothing ∙ ap (λ (n : ℕ). replicate n None) first.device_count)

sound_first : (net : Network) (plans : List Plan) → IsNetwork net → AreSound net plans → 1 ≤ length plans → length plans < 2 ^ 32
    → IsSound (made (numbered net plans) (first_registers (length net.devices) (length net.links)) (replicate (length net.devices) None))
sound_first net plans law sound some count =
    let size = length-plans net plans in
    let answers : length (replicate (length net.devices) None) ≡ length net.devices = length-replicate (length net.devices) None in
    record {
      numbers = subst (λ (n : ℕ). n < 2 ^ 32) (sym size) count;
      few = subst (λ (n : ℕ). n ≤ 4096) (sym answers) law.devices.1;
      devices = length-replicate (length net.devices) world.untouched ∙ sym answers;
      places = λ epoch number. (tables_fit (record { net = net; plans = plans }) law sound).places epoch number ∙ sym answers;
      in_force = record { first = omega arith; last = subst (λ (n : ℕ). 1 ≤ n) (sym size) some };
      staged = λ open_. cc;
    }

pub sound_beginning : (r : Registers) (net : Network) (plans : List Plan) (devices links : ℕ) → IsFirst r net plans devices links → IsNetwork net
    → AreSound net plans → 1 ≤ length plans → length plans < 2 ^ 32 → IsSound r
sound_beginning r net plans devices links first law sound some count =
    subst IsSound (sym (is_first r net plans devices links first)) (sound_first net plans law sound some count)

pub counted_beginning : (r : Registers) (net : Network) (plans : List Plan) (devices links : ℕ) (settled_count : SettledCount)
    → IsFirst r net plans devices links → settled_count ≡ none_counted → settled_count ≡ settled_count_of r
counted_beginning r net plans devices links settled_count first none =
    none ∙ sym (settled_count_shut r (ap (λ (w : world.Registers). world.is_open w.window) first.begun))

nothing_at : (n d : ℕ) → at_place (replicate n None) d None (λ (a : Option AnswerSummary). a) ≡ None
nothing_at zero d = refl
nothing_at (suc n) zero = refl
nothing_at (suc n) (suc d) = nothing_at n d

pub stands_beginning : (r : Registers) (net : Network) (plans : List Plan) (devices links : ℕ) → IsFirst r net plans devices links → IsSound r
    → AreSound net plans
    → ((setting : Setting) → length setting.net.devices ≡ devices → length setting.net.links ≡ links → standing.Stands r.world setting [])
    → (setting : Setting) → setting.net ≡ net → setting.plans ≡ plans → Stands r setting []
stands_beginning r net plans devices links first sound follows stands setting same_net same_plans =
    let device_count : length setting.net.devices ≡ devices = ap (λ (n : Network). length n.devices) same_net ∙ sym first.device_count in
    let link_count : length setting.net.links ≡ links = ap (λ (n : Network). length n.links) same_net ∙ sym first.link_count in
    record {
      sound = sound;
      sound_plans = subst (λ (n : Network). AreSound n setting.plans) (sym same_net) (subst (λ (ps : List Plan). AreSound net ps) (sym same_plans) follows);
      device_count = ap (λ (xs : List (Option AnswerSummary)). length xs) first.nothing ∙ length-replicate devices None ∙ sym device_count;
      plans = first.numbers ∙ ap (λ (n : Network). numbered n plans) (sym same_net) ∙ ap (λ (ps : List Plan). numbered setting.net ps) (sym same_plans);
      world = stands setting device_count link_count;
      answers = λ d within. ap (λ (xs : List (Option AnswerSummary)). at_place xs d None (λ a. a)) first.nothing ∙ nothing_at devices d;
    }
