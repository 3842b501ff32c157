-- Registers are structs that hold themselves: the rules make of them, and tell of them, what the calls of the library do.
use Rattle.std.specs.Prelude.{◌≡◌, ℕ, ◌+◌, ◌≤◌, Bool, true, false, ◌||◌, None, refl, option_map, if◌then◌else◌}
use Rattle.std.proofs.Common.{sym, ◌∙◌, ap, subst}
use Rattle.sd_device.specs.declared.registers.Registers.{Registers}
use Rattle.sd_device.specs.declared.registers.Mode.{Mode}
use Rattle.sd_device.specs.declared.registers.Mode.TheVariants.{Primary, Backup, Acting, Idle}
use Rattle.sd_device.specs.Calls.{Making, Call}
use Rattle.sd_device.specs.Living.{Life}
use Rattle.sd_device.specs.Words.{counter_of, report_at, parent_now, is_acting, epoch_now}
use Rattle.sd_device.specs.Lives.{past_of}
use Rattle.sd_device.specs.Rules.{called, made, floor_in, report_in, parent_in, acts_in, epoch_in, edge_in, follows_a_plan, is_acting_mode}
use Rattle.sd_device.specs.Standing.{StandsFor}
use Rattle.sd_device.specs.Rebases.{rebased, lowering, AnswersAlike, StandsLowered}
use Rattle.sd_device.proofs.Receiving.{edges}
use Rattle.sd_device.proofs.Stands.{IsDue, Stood, stands_after, acting_is}
use Rattle.sd_device.proofs.Exactness.{device_is_exact}
use Rattle.sd_device.proofs.Rebasing.{rebase_alike}
use Rattle.sd_device.proofs.Summing.{lowered_more}
use Rattle.sd_exports.specs.Exports.{StandsIn, IsCalled, IsMade, IsRebased, IsToldOf, Themselves}

-- registers that are a struct stand in it for the lives for which they stand
own_life : (r : Registers) (life : Life) → StandsIn Themselves r life → StandsFor r life
own_life r life stands = subst (λ x. StandsFor x life) (sym stands.1) stands.2

pub making_is_made : (making : Making) → IsMade Themselves making (made making)
making_is_made making =
    record { registers = refl; told = (made making, refl, device_is_exact.made making (made making) refl) }

-- a call at no counter before that of the latest making, receipt or move
pub call_is_called : (r : Registers) (call : Call) → IsDue r.last (counter_of call) → IsCalled Themselves r call (called r call).0 (called r call).1
call_is_called r call due =
    record {
      registers = λ x same. ap (λ y. (called y call).0) same;
      sent = λ x same. ap (λ y. (called y call).1) same;
      told = λ life stands. ((called r call).0, refl, (stood life stands).stands);
      sent_told = λ life stands. (stood life stands).sends;
    }
  where
    stood : (life : Life) → StandsIn Themselves r life → Stood life call (called r call)
    stood life stands = stands_after r life call (own_life r life stands) due

-- a rebase at no counter before one that is kept
pub rebase_is_rebased : (r : Registers) (now : ℕ) → floor_in r ≤ now → IsRebased Themselves r now (rebased r now) (lowering r now)
rebase_is_rebased r now due =
    record {
      registers = λ x same. ap (λ y. rebased y now) same;
      lowered = λ x same. ap (λ y. lowering y now) same;
      later = λ x same later. subst (λ y. AnswersAlike (lowering r now) now later y (rebased y now)) same (rebase_alike r now due later);
      told = λ x same before at life stands later.
          subst (λ y. StandsLowered (before + lowering r now) (now + before) (rebased y now) life) same
          (lowered_more before at r life now (subst (λ y. StandsLowered before at y life) (sym same) stands) later due);
    }

pub report_is_told : (r : Registers) (counter : ℕ)
    → IsToldOf Themselves r (λ x. report_in x counter) (λ past. report_at past counter) (report_in r counter)
report_is_told r counter =
    record {
      registers = λ x same. ap (λ y. report_in y counter) same;
      life = λ life stands. device_is_exact.reported r counter (report_in r counter) life refl (own_life r life stands);
    }

-- What a device answers that follows a plan, or has joined and follows none yet

abbrev is_idle : Mode → Bool
is_idle Idle = true
is_idle _ = false

abbrev pub is_plain : Registers → Bool
is_plain r = follows_a_plan r || is_idle r.mode

idle_is : (mode : Mode) → is_idle mode ≡ true → mode ≡ Idle
idle_is Idle is = refl
idle_is Primary is = cc
idle_is Backup is = cc
idle_is Acting is = cc

-- an idle device has no parent
no_parent : (r : Registers) → r.mode ≡ Idle → option_map (λ edge. edge.parent) (edge_in r) ≡ None
no_parent r idle = rw idle refl

-- what a device without a plan answers is so of an idle one too
plainly : {T : Type 0} (r : Registers) (x none : T) → is_plain r ≡ true → (r.mode ≡ Idle → x ≡ none) → (if follows_a_plan r then x else none) ≡ x
plainly r x none plain idle = on (follows_a_plan r) plain
  where
    on : (b : Bool) → (b || is_idle r.mode) ≡ true → (if b then x else none) ≡ x
    on true is = refl
    on false is = sym (idle (idle_is r.mode is))

pub record AreAnswered (r : Registers) : Type 0 where
  pub parent : IsToldOf Themselves r parent_in parent_now (parent_in r)
  pub acts : IsToldOf Themselves r acts_in is_acting (acts_in r)
  pub epoch : IsToldOf Themselves r epoch_in epoch_now (epoch_in r)

pub are_answered : (r : Registers) → is_plain r ≡ true → AreAnswered r
are_answered r plain =
    record {
      parent = record { registers = λ x same. ap parent_in same; life = λ life stands. parent_is life (own_life r life stands) };
      acts = record { registers = λ x same. ap acts_in same; life = λ life stands. acts_is life (own_life r life stands) };
      epoch = record { registers = λ x same. ap epoch_in same; life = λ life stands. ap epoch_in (own_life r life stands).are };
    }
  where
    parent_is : (life : Life) → StandsFor r life → parent_in r ≡ parent_now (past_of life)
    parent_is life stands =
        plainly r (option_map (λ edge. edge.parent) (edge_in r)) None plain (no_parent r)
        ∙ ap (λ x. option_map (λ edge. edge.parent) (edge_in x)) stands.are
        ∙ ap (option_map (λ edge. edge.parent)) (sym (edges (past_of life)))

    acts_is : (life : Life) → StandsFor r life → acts_in r ≡ is_acting (past_of life)
    acts_is life stands =
        plainly r (is_acting_mode r.mode) false plain (ap is_acting_mode)
        ∙ ap (λ x. is_acting_mode x.mode) stands.are
        ∙ acting_is (past_of life)
