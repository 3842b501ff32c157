-- Rebases add up: after any number of them a device answers for its whole life, at counters that are lowered by their sum.
use Rattle.std.proofs.Common.{◌≡◌, ℕ, ◌+◌, ◌-◌, ◌≤◌, Bool, List, [], ◌∷◌, Option, Some, refl, sym, ◌∙◌, ap, subst, arith}
use Rattle.std.specs.Prelude.{max, map, IfSome}
use Rattle.sd_num.specs.declared.Rates.{Rates}
use Rattle.sd_plan.specs.declared.Duty.{Duty}
use Rattle.sd_device.specs.declared.registers.Registers.{Registers}
use Rattle.sd_device.specs.Calls.{Call, Tick, Receive, Fix, Give, Commit, Seal}
use Rattle.sd_device.specs.Living.{Life}
use Rattle.sd_device.specs.Words.{counter_of, effect_of}
use Rattle.sd_device.specs.Lives.{past_of, longer}
use Rattle.sd_device.specs.Rules.{called, floor_in, report_in, is_acting_mode}
use Rattle.sd_device.specs.Standing.{StandsFor}
use Rattle.sd_device.specs.Rebases.{waits_in, lowering, rebased, call_lowered, IsSteady, TellsAlike, AnswersAlike, StandsLowered}
use Rattle.sd_device.proofs.Stands.{IsDue, Stood, stands_after}
use Rattle.sd_device.proofs.Rebasing.{IsMovedOn, IsLowered, recounted, answers_alike, rebase_small, rebase_alike}

-- the call lowered twice
twice : (by more counter : ℕ) → counter - by - more ≡ counter - (by + more)
twice by more counter = omega arith

lowered_twice : (by more : ℕ) (call : Call) → call_lowered more (call_lowered by call) ≡ call_lowered (by + more) call
lowered_twice by more (Tick counter) = ap Tick (twice by more counter)
lowered_twice by more (Receive link message counter) = ap (Receive link message) (twice by more counter)
lowered_twice by more (Fix counter clock eps) = ap (λ c. Fix c clock eps) (twice by more counter)
lowered_twice by more (Give duty) = refl
lowered_twice by more (Commit counter) = ap Commit (twice by more counter)
lowered_twice by more Seal = refl

due_lowered : (by now : ℕ) (call : Call) → IfSome (counter_of call) (λ counter. now ≤ counter)
    → IfSome (counter_of (call_lowered by call)) (λ counter. now - by ≤ counter)
due_lowered by now (Tick counter) due = omega (arith, due)
due_lowered by now (Receive link message counter) due = omega (arith, due)
due_lowered by now (Fix counter clock eps) due = omega (arith, due)
due_lowered by now (Give duty) due = tt
due_lowered by now (Commit counter) due = omega (arith, due)
due_lowered by now Seal due = tt

-- what is told through two rebases

floor_through : (by more now one two three : ℕ) → by ≤ now → two + by ≤ max now one → three + more ≤ max (now - by) two → three + (by + more) ≤ max now one
floor_through by more now one two three small a b = omega (arith, small, a, b)

at_through : (by more one two three : ℕ) → one ≤ two + by → two ≤ three + more → one ≤ three + (by + more)
at_through by more one two three a b = omega (arith, a, b)

tells_through : (by more now : ℕ) (r s t : Registers) → by ≤ now → TellsAlike by now r s → TellsAlike more (now - by) s t → TellsAlike (by + more) now r t
tells_through by more now r s t small a b =
    record {
      kept = subst (λ (x : Registers). t ≡ recounted x t.last t.sent t.estimate) a.kept b.kept;
      report = λ counter later. ap (λ (c : ℕ). report_in t c) (sym (twice by more counter)) ∙ b.report (counter - by) (omega (arith, later)) ∙ a.report counter later;
      floor = floor_through by more now (floor_in r) (floor_in s) (floor_in t) small a.floor b.floor;
      at = at_through by more r.estimate.at s.estimate.at t.estimate.at a.at b.at;
    }

-- the estimate was set since both, or the second found what the first left

set_first : (by more one two three : ℕ) → one ≤ two + by → two ≤ three + more → one ≡ three + (by + more) → one ≡ two + by
set_first by more one two three a b same = omega (arith, a, b, same)

set_second : (by more one two three : ℕ) → one ≤ two + by → two ≤ three + more → one ≡ three + (by + more) → two ≡ three + more
set_second by more one two three a b same = omega (arith, a, b, same)

abbrev KeepsPpm : Option Duty → Rates → Type 0
KeepsPpm given rates = IfSome given (λ duty. duty.rates.ppm ≡ rates.ppm)

steady_first : (by more now : ℕ) (r s t : Registers) (call : Call) → TellsAlike by now r s → TellsAlike more (now - by) s t
    → IsSteady (by + more) r t call → IsSteady by r s call
steady_first by more now r s t (Tick counter) a b steady = tt
steady_first by more now r s t (Receive link message counter) a b steady = tt
steady_first by more now r s t (Fix counter clock eps) a b steady = tt
steady_first by more now r s t (Give duty) a b steady = tt
steady_first by more now r s t (Commit counter) a b steady =
    λ moved. steady (λ same. moved (set_first by more r.estimate.at s.estimate.at t.estimate.at a.at b.at same))
steady_first by more now r s t Seal a b steady = tt

steady_second : (by more now : ℕ) (r s t : Registers) (call : Call) → TellsAlike by now r s → TellsAlike more (now - by) s t
    → IsSteady (by + more) r t call → IsSteady more s t (call_lowered by call)
steady_second by more now r s t (Tick counter) a b steady = tt
steady_second by more now r s t (Receive link message counter) a b steady = tt
steady_second by more now r s t (Fix counter clock eps) a b steady = tt
steady_second by more now r s t (Give duty) a b steady = tt
steady_second by more now r s t (Commit counter) a b steady =
    λ moved.
    let keeps : KeepsPpm r.given r.rates =
    steady (λ same. moved (set_second by more r.estimate.at s.estimate.at t.estimate.at a.at b.at same)) in
    subst (λ (x : Registers). KeepsPpm x.given x.rates) (sym a.kept) keeps
steady_second by more now r s t Seal a b steady = tt

pub alike_through : (by more now : ℕ) (calls : List Call) (r s t : Registers) → by ≤ now → AnswersAlike by now calls r s
    → AnswersAlike more (now - by) (map (call_lowered by) calls) s t → AnswersAlike (by + more) now calls r t
alike_through by more now [] r s t small a b = tells_through by more now r s t small a b
alike_through by more now (call ∷ later) r s t small a b = (
  tells_through by more now r s t small a.0 b.0,
  λ due steady.
      let first = a.1 due (steady_first by more now r s t call a.0 b.0 steady) in
      let second = b.1 (due_lowered by now call due) (steady_second by more now r s t call a.0 b.0 steady) in
      subst (λ (x : Call). ((called t x).1 ≡ (called r call).1) × AnswersAlike (by + more) now later (called r call).0 (called t x).0)
      (lowered_twice by more call) (
        second.0 ∙ first.0,
        alike_through by more now later (called r call).0 (called s (call_lowered by call)).0 (called t (call_lowered more (call_lowered by call))).0
            small first.1 second.1,
      ),
)

-- what is alike from a counter on is alike from a later one on

tells_later : (by now at : ℕ) (r s : Registers) → now ≤ at → TellsAlike by now r s → TellsAlike by at r s
tells_later by now at r s later h =
    record { kept = h.kept; report = λ counter due. h.report counter (omega (arith, later, due)); floor = bound now at (floor_in r) (floor_in s + by) later h.floor; at = h.at }
  where
    bound : (now at one two : ℕ) → now ≤ at → two ≤ max now one → two ≤ max at one
    bound now at one two later least = omega (arith, later, least)

due_before : (now at : ℕ) (counter : Option ℕ) → now ≤ at → IfSome counter (λ c. at ≤ c) → IfSome counter (λ c. now ≤ c)
due_before now at (Some c) later due = omega (arith, later, due)
due_before now at _ later due = tt

alike_later : (by now at : ℕ) (calls : List Call) (r s : Registers) → now ≤ at → AnswersAlike by now calls r s → AnswersAlike by at calls r s
alike_later by now at [] r s later h = tells_later by now at r s later h
alike_later by now at (call ∷ calls) r s later h = (
  tells_later by now at r s later h.0,
  λ due steady.
      let after = h.1 (due_before now at (counter_of call) later due) steady in
      (after.0, alike_later by now at calls (called r call).0 (called s (call_lowered by call)).0 later after.1),
)

-- A whole life

-- a call of a device that was rebased: it sends what its life says
pub lowered_after : (by now : ℕ) (lower : Registers) (life : Life) (call : Call) → (h : StandsLowered by now lower life)
    → IfSome (counter_of call) (λ counter. now ≤ counter) → IsSteady by h.one lower call → IsDue h.one.last (counter_of call)
    → StandsLowered by now (called lower (call_lowered by call)).0 (longer life call)
    × ((called lower (call_lowered by call)).1 ≡ effect_of (past_of life) call)
lowered_after by now lower life call h later steady due =
    let stood : Stood life call (called h.one call) = stands_after h.one life call h.stands due in (
      record {
        one = (called h.one call).0;
        stands = stood.stands;
        small = h.small;
        alike = λ calls. ((h.alike (call ∷ calls)).1 later steady).1;
      },
      ((h.alike (call ∷ [])).1 later steady).0 ∙ stood.sends,
    )

-- a rebase of a device that was rebased
pub lowered_more : (by now : ℕ) (lower : Registers) (life : Life) (at : ℕ) → StandsLowered by now lower life → now ≤ at + by → floor_in lower ≤ at
    → StandsLowered (by + lowering lower at) (at + by) (rebased lower at) life
lowered_more by now lower life at h later due =
    record {
      one = h.one;
      stands = h.stands;
      small = sum by at (lowering lower at) (rebase_small lower at due);
      alike = λ calls. alike_through by (lowering lower at) (at + by) calls h.one lower (rebased lower at) (omega arith)
          (alike_later by now (at + by) calls h.one lower later (h.alike calls))
          (subst (λ (x : ℕ). AnswersAlike (lowering lower at) x (map (call_lowered by) calls) lower (rebased lower at)) (back by at)
          (rebase_alike lower at due (map (call_lowered by) calls)));
    }
  where
    sum : (by at more : ℕ) → more ≤ at → by + more ≤ at + by
    sum by at more small = omega (arith, small)

    back : (by at : ℕ) → at ≡ at + by - by
    back by at = omega arith

-- a device that was never rebased
pub not_lowered : (r : Registers) (life : Life) → StandsFor r life → StandsLowered 0 0 r life
not_lowered r life h =
    record {
      one = r;
      stands = h;
      small = omega arith;
      alike = λ calls. answers_alike 0 0 calls r r r.last r.sent r.estimate (omega arith) refl
          (record { waited = as_it_is r.last (waits_in r); emitted = as_it_is r.sent (is_acting_mode r.mode); moves = stays });
    }
  where
    as_it_is : (counter : ℕ) (needed : Bool) → IsLowered 0 0 counter counter needed
    as_it_is counter needed = record { same = λ h. omega arith; due = omega arith }

    stays : IsMovedOn 0 0 r.rates.ppm r.estimate r.estimate
    stays = record { micros = 0; clock = omega arith; base = grind arith; at = omega arith; due = omega arith }

-- the same where the registers were opened, and closed again
pub rebase_stands : (old r new : Registers) (now more by at : ℕ) (life : Life) → r ≡ old → new ≡ rebased r now → more ≡ lowering r now → floor_in old ≤ now
    → StandsLowered by at old life → at ≤ now + by → StandsLowered (by + more) (now + by) new life
rebase_stands old r new now more by at life same after lowers due h later =
    subst (λ (m : ℕ). StandsLowered (by + m) (now + by) new life) (sym (lowers ∙ ap (λ (x : Registers). lowering x now) same))
    (subst (λ (x : Registers). StandsLowered (by + lowering old now) (now + by) x life) (sym (after ∙ ap (λ (x : Registers). rebased x now) same))
    (lowered_more by at old life now h later due))
