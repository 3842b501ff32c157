-- What a call makes of a struct, and what is told of it, over any kind of struct. `Holds` says which registers a struct holds.
use Rattle.std.specs.Prelude.{◌≡◌, ◌≤◌, ◌+◌, ℕ, List}
use Rattle.sd_device.specs.declared.Effect.{Effect}
use Rattle.sd_device.specs.declared.registers.Registers.{Registers}
use Rattle.sd_device.specs.Calls.{Making, Call, Past}
use Rattle.sd_device.specs.Living.{Life}
use Rattle.sd_device.specs.Words.{effect_of}
use Rattle.sd_device.specs.Rules.{called, made}
use Rattle.sd_device.specs.Lives.{past_of, longer}
use Rattle.sd_device.specs.Standing.{StandsFor, alone}
use Rattle.sd_device.specs.Rebases.{rebased, lowering, AnswersAlike, StandsLowered}

-- the struct is that of a device with this life, which was never rebased
abbrev pub StandsIn : {S : Type 0} → (S → Registers → Type 0) → S → Life → Type 0
StandsIn Holds struct life = (r : Registers) × Holds struct r × StandsFor r life

-- the call was made of the device: its registers and what it sent are those of the rules, and those of its life
pub record IsCalled {S : Type 0} (Holds : S → Registers → Type 0) (old : S) (call : Call) (new : S) (effect : Effect) : Type 0 where
  pub registers : (r : Registers) → Holds old r → Holds new (called r call).0
  pub sent : (r : Registers) → Holds old r → effect ≡ (called r call).1
  pub told : (life : Life) → StandsIn Holds old life → StandsIn Holds new (longer life call)
  pub sent_told : (life : Life) → StandsIn Holds old life → effect ≡ effect_of (past_of life) call

-- a device was made: its registers are those of the rules, and those of its life
pub record IsMade {S : Type 0} (Holds : S → Registers → Type 0) (making : Making) (new : S) : Type 0 where
  pub registers : Holds new (made making)
  pub told : StandsIn Holds new (alone making)

-- the device was rebased at this counter by this much: it answers as before to all later calls, and for its whole life
pub record IsRebased {S : Type 0} (Holds : S → Registers → Type 0) (old : S) (now : ℕ) (new : S) (by : ℕ) : Type 0 where
  pub registers : (r : Registers) → Holds old r → Holds new (rebased r now)
  pub lowered : (r : Registers) → Holds old r → by ≡ lowering r now
  pub later : (r : Registers) → Holds old r → (later : List Call) → AnswersAlike by now later r (rebased r now)
  pub told : (r : Registers) → Holds old r → (before at : ℕ) (life : Life) → StandsLowered before at r life → at ≤ now + before
      → StandsLowered (before + by) (now + before) (rebased r now) life

-- what is told of the device: by its registers, and by its life
pub record IsToldOf {S T : Type 0} (Holds : S → Registers → Type 0) (struct : S) (by_rules : Registers → T) (by_words : Past → T) (told : T) : Type 0 where
  pub registers : (r : Registers) → Holds struct r → told ≡ by_rules r
  pub life : (life : Life) → StandsIn Holds struct life → told ≡ by_words (past_of life)

-- registers are structs that hold themselves
abbrev pub Themselves : Registers → Registers → Type 0
Themselves struct r = struct ≡ r
