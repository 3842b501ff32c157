-- The shift that devices tell: it is the same of fleets and of their runs, and where any shift raises all stamps, this one does.
use Rattle.std.specs.Prelude.{◌≡◌, ℕ, zero, suc, ◌+◌, ◌-◌, ◌<◌, min, Bool, true, false, List, length, nat_eq, Option, Some, None, refl, if◌then◌else◌}
use Rattle.std.proofs.Common.{arith, sym, ◌∙◌, ap, subst, inl, inr, add-one}
use Rattle.std.proofs.lemmas.Bool.{cases_lt, eqb-true}
use Rattle.sd_plan.specs.topo.Network.{Network}
use Rattle.sd_device.specs.declared.msg.Stamp.{Stamp}
use Rattle.sd_device.specs.msg.Stamps.{stamp}
use Rattle.sd_device.specs.declared.registers.Registers.{Registers}
use Rattle.sd_device.specs.contracts.device.DeviceNode.TheImpl.{ghosts as device}
use Rattle.sd_history.specs.World.{Setting, setting_over, is_up}
use Rattle.sd_history.specs.Steps.{seen_of, flight_count}
use Rattle.sd_history.specs.Nodes.{NodeStep, steps_of}
use Rattle.sd_fleet.specs.Nodes.{node_at}
use Rattle.sd_fleet.specs.Standing.{StandsFor}
use Rattle.sd_resume.specs.law.Shifts.{Shift, raised_round, raised_stamp}
use Rattle.sd_resume.specs.law.Law.{whole}
use Rattle.sd_resume.proofs.Raising.{first_round, stamp_parts}
use Rattle.sd_resume.specs.Fleets.{DeviceFleet, devices_of}
use Rattle.sd_resume.specs.Told.{stamp_told, with_told, shift_told, stamp_in, stamp_at, IsTold}

-- one device more
pub one_more : (plans messages : ℕ) (one other : ℕ → Option Stamp) (d : ℕ)
    → shift_told plans messages one other (d + 1) ≡ with_told (shift_told plans messages one other d) (one d) (other d)
one_more plans messages one other d = ap (shift_told plans messages one other) (add-one d)

-- What stays as devices tell

with_plans : (shift : Shift) (one other : Option Stamp) → (with_told shift one other).plans ≡ shift.plans
with_plans shift (Some one) (Some other) = refl
with_plans shift (Some one) None = refl
with_plans shift None other = refl

with_messages : (shift : Shift) (one other : Option Stamp) → (with_told shift one other).messages ≡ shift.messages
with_messages shift (Some one) (Some other) = refl
with_messages shift (Some one) None = refl
with_messages shift None other = refl

pub told_plans : (plans messages : ℕ) (one other : ℕ → Option Stamp) (n : ℕ) → (shift_told plans messages one other n).plans ≡ plans
told_plans plans messages one other zero = refl
told_plans plans messages one other (suc d) =
    with_plans (shift_told plans messages one other d) (one d) (other d) ∙ told_plans plans messages one other d

pub told_messages : (plans messages : ℕ) (one other : ℕ → Option Stamp) (n : ℕ) → (shift_told plans messages one other n).messages ≡ messages
told_messages plans messages one other zero = refl
told_messages plans messages one other (suc d) =
    with_messages (shift_told plans messages one other d) (one d) (other d) ∙ told_messages plans messages one other d

-- Where all devices tell the same

same_told : (plans messages : ℕ) (one one' other other' : ℕ → Option Stamp) (n : ℕ) → ((d : ℕ) → d < n → one d ≡ one' d) → ((d : ℕ) → d < n → other d ≡ other' d)
    → shift_told plans messages one other n ≡ shift_told plans messages one' other' n
same_told plans messages one one' other other' zero first second = refl
same_told plans messages one one' other other' (suc n) first second =
    ap (λ s. with_told s (one n) (other n))
    (same_told plans messages one one' other other' n (λ d within. first d (omega (arith, within))) (λ d within. second d (omega (arith, within))))
    ∙ ap (λ o. with_told (shift_told plans messages one' other' n) o (other n)) (first n (omega arith))
    ∙ ap (with_told (shift_told plans messages one' other' n) (one' n)) (second n (omega arith))

-- Fleets and their runs

module _ (fleet : DeviceFleet) (setting : Setting) (run : List (NodeStep Registers)) (stands : StandsFor device fleet setting run) where
  tells_same : (d : ℕ) → d < length setting.net.devices → stamp_at fleet d ≡ stamp_in run d
  tells_same d within =
      ap (λ (up : Bool). stamp_told up (node_at fleet.nodes.items d))
      (stands.fabric.membership.world.devices d (subst (λ (n : ℕ). d < n) (sym stands.fabric.membership.world.device_count) within)).up
      ∙ ap (stamp_told (is_up (seen_of (steps_of run)) d)) (stands.nodes d within)

pub told_is_between : (first second : DeviceFleet) (left messages : ℕ) (shift : Shift) (n : ℕ)
    → ((setting : Setting) (run : List (NodeStep Registers)) → StandsFor device first setting run → messages ≡ flight_count (steps_of run))
    → n ≡ min (devices_of first) (devices_of second) → shift ≡ shift_told left messages (stamp_at first) (stamp_at second) n → IsTold first second left shift
told_is_between first second left messages shift n sent both is net front plans one other behind of_first of_second =
    is
    ∙ ap (shift_told left messages (stamp_at first) (stamp_at second))
    (both ∙ ap (λ (k : ℕ). min k (devices_of second)) (devices_are first (whole net front plans) one of_first)
    ∙ ap (λ (k : ℕ). min (length net.devices) k) (devices_are second (setting_over net plans) other of_second) ∙ least (length net.devices))
    ∙ same_told left messages (stamp_at first) (stamp_in one) (stamp_at second) (stamp_in other) (length net.devices)
    (tells_same first (whole net front plans) one of_first) (tells_same second (setting_over net plans) other of_second)
    ∙ ap (λ (k : ℕ). shift_told k messages (stamp_in one) (stamp_in other) (length net.devices)) (sym behind)
    ∙ ap (λ (k : ℕ). shift_told (length front) k (stamp_in one) (stamp_in other) (length net.devices)) (sent (whole net front plans) one of_first)
  where
    devices_are : (fleet : DeviceFleet) (setting : Setting) (run : List (NodeStep Registers)) → StandsFor device fleet setting run
        → devices_of fleet ≡ length setting.net.devices
    devices_are fleet setting run stands = ap (λ (n : Network). length n.devices) stands.fabric.net

    least : (k : ℕ) → min k k ≡ k
    least k = omega arith

-- Where a shift raises the stamps of all devices

-- the stamps of each device that tells in both are raised by the shift
abbrev pub RaisesAll : Shift → (one other : ℕ → Option Stamp) → Type 0
RaisesAll shift one other = (d : ℕ) (x y : Stamp) → one d ≡ Some x → other d ≡ Some y → x ≡ raised_stamp shift y

-- the other shift raises this stamp alike
record RaisesAlike (shift other : Shift) (x : Stamp) : Type 0 where
  term : other.term ≡ shift.term
  round : x.term ≡ 0 → other.round ≡ shift.round

alike : (shift other : Shift) (x : Stamp) → RaisesAlike shift other x → raised_stamp shift x ≡ raised_stamp other x
alike shift other x h = by x.term x.round h.term h.round
  where
    by : (term round : ℕ) → other.term ≡ shift.term → (term ≡ 0 → other.round ≡ shift.round) → raised_round shift term round ≡ raised_round other term round
    by zero round same rounds = ap (λ t. stamp t (round + shift.round)) (sym same) ∙ ap (λ r. stamp other.term (round + r)) (sym (rounds refl))
    by (suc term) round same rounds = ap (λ t. stamp (suc term + t) round) (sym same)

module _ (plans messages : ℕ) (one other : ℕ → Option Stamp) (shift : Shift) (raises : RaisesAll shift one other) where
  -- the device that tells last
  told_here : (before : Shift) (x y : Stamp) → x ≡ raised_stamp shift y → RaisesAlike shift (with_told before (Some x) (Some y)) y
  told_here before x y same =
      record {
        term = ap (λ (s : Stamp). s.term - y.term) same ∙ less (raised_stamp shift y).term y.term shift.term (stamp_parts shift (raised_stamp shift y) y refl).0;
        round = λ first.
            if_first (nat_eq y.term 0) (eqb y.term first) (x.round - y.round) before.round
            ∙ ap (λ (s : Stamp). s.round - y.round) same
            ∙ less (raised_stamp shift y).round y.round shift.round (first_round shift y.term y.round first);
      }
    where
      less : (a b c : ℕ) → a ≡ b + c → a - b ≡ c
      less a b c is = omega (arith, is)

      eqb : (n : ℕ) → n ≡ 0 → nat_eq n 0 ≡ true
      eqb n is = ap (λ k. nat_eq k 0) is

      if_first : (b : Bool) → b ≡ true → (x y : ℕ) → (if b then x else y) ≡ x
      if_first true is x y = refl
      if_first false is x y = cc

  -- those before it
  told_before : (before : Shift) (x y z : Stamp) → x ≡ raised_stamp shift y → RaisesAlike shift before z → RaisesAlike shift (with_told before (Some x) (Some y)) z
  told_before before x y z same h =
      let here : RaisesAlike shift (with_told before (Some x) (Some y)) y = told_here before x y same in
      record { term = here.term; round = λ first. by (nat_eq y.term 0) refl (h.round first) (here.round) }
    where
      by : (b : Bool) → nat_eq y.term 0 ≡ b → before.round ≡ shift.round → (y.term ≡ 0 → (with_told before (Some x) (Some y)).round ≡ shift.round)
          → (with_told before (Some x) (Some y)).round ≡ shift.round
      by true is kept now = now (eqb-true y.term 0 is)
      by false is kept now = ap (λ b. if b then x.round - y.round else before.round) is ∙ kept

  told_raises : (n d : ℕ) (x y : Stamp) → d < n → one d ≡ Some x → other d ≡ Some y → RaisesAlike shift (shift_told plans messages one other n) y
  told_raises zero d x y within first second = absurd (omega (arith, within))
  told_raises (suc n) d x y within first second =
      elim (cases_lt d n) [
        | inl before ↦ go (one n) (other n) refl refl (told_raises n d x y before first second)
        | inr past ↦ (let same : d ≡ n = omega (arith, within, past) in
            latest (ap one (sym same) ∙ first) (ap other (sym same) ∙ second))
      ]
    where
      so_far : Shift
      so_far = shift_told plans messages one other n

      go : (o p : Option Stamp) → one n ≡ o → other n ≡ p → RaisesAlike shift so_far y → RaisesAlike shift (with_told so_far (one n) (other n)) y
      go (Some u) (Some v) is is' h =
          subst (λ (o : Option Stamp). RaisesAlike shift (with_told so_far o (other n)) y) (sym is)
          (subst (λ (p : Option Stamp). RaisesAlike shift (with_told so_far (Some u) p) y) (sym is') (told_before so_far u v y (raises n u v is is') h))
      go (Some u) None is is' h =
          subst (λ (o : Option Stamp). RaisesAlike shift (with_told so_far o (other n)) y) (sym is)
          (subst (λ (p : Option Stamp). RaisesAlike shift (with_told so_far (Some u) p) y) (sym is') h)
      go None p is is' h = subst (λ (o : Option Stamp). RaisesAlike shift (with_told so_far o (other n)) y) (sym is) h

      latest : one n ≡ Some x → other n ≡ Some y → RaisesAlike shift (with_told so_far (one n) (other n)) y
      latest is is' =
          subst (λ (o : Option Stamp). RaisesAlike shift (with_told so_far o (other n)) y) (sym is)
          (subst (λ (p : Option Stamp). RaisesAlike shift (with_told so_far (Some x) p) y) (sym is') (told_here so_far x y (raises n x y is is')))

  -- so the shift that they tell raises their stamps too
  pub told_too : (n d : ℕ) (x y : Stamp) → d < n → one d ≡ Some x → other d ≡ Some y → x ≡ raised_stamp (shift_told plans messages one other n) y
  told_too n d x y within first second =
      raises d x y first second ∙ alike shift (shift_told plans messages one other n) y (told_raises n d x y within first second)
