-- Histories of a fleet of nodes of any kind: each node is one that the steps of its kind allow. The newest comes first.
--
-- A fleet stands for a run where each of its nodes is node_in, and an accepted call makes it stand for the run with one NodeStep more. What a
-- fleet owes its nodes besides (floors, ceilings and heights of their numbers) is no part of a run: refusals and the limits of fields give it.
-- A node does not say of which plan a given duty is, so a fleet has to know it: it is the plan of the latest give.
use Rattle.std.specs.Prelude.{◌≡◌, ℕ, List, [], ◌∷◌, map, Option, Some, None, option_and_then, if◌then◌else◌}
use Rattle.sd_num.specs.Lists.{same_number, find_map_or}
use Rattle.sd_num.specs.declared.clock.Report.{Report}
use Rattle.sd_device.specs.declared.Effect.{Effect}
use Rattle.sd_device.specs.declared.node.Node.{Ghosts}
use Rattle.sd_device.specs.Calls.{Making, Call}
use Rattle.sd_history.specs.World.{Setting}
use Rattle.sd_history.specs.Steps.{Act, Makes, Calls, Asks, Passes, Answers, Told, tells_nothing, tells_made, tells_called, Step, changed, step_of}
use Rattle.sd_history.specs.Lives.{tells_report}
use Rattle.sd_history.specs.Chronicle.{told_by}
use Rattle.sd_history.specs.Refusals.{refusal}

-- what a node answers
abbrev pub answers_of : {N : Type 0} (g : Ghosts N) → N → Answers
answers_of g n = record { parent = g.parent n; acts = g.acts n; epoch = g.epoch n; given = g.given n; sealed = g.sealed n }

-- a step of such a fleet: with the node that it made, or that its call left
pub record NodeStep (N : Type 0) : Type 0 where
  pub step : Step
  pub node : Option N

-- the steps alone
abbrev pub steps_of : {N : Type 0} → List (NodeStep N) → List Step
steps_of run = map (λ x. x.step) run

-- the node of a device, since it was last made or called
abbrev pub node_in : {N : Type 0} → List (NodeStep N) → ℕ → Option N
node_in run d = find_map_or (λ x. if same_number (changed x.step.act) d then Some x.node else None) run None

-- the device that an act calls or asks
abbrev pub addressed : Act → Option ℕ
addressed (Makes d making) = None
addressed (Calls d call) = Some d
addressed (Asks d counter) = Some d
addressed Passes = None

-- its node
abbrev pub node_before : {N : Type 0} → List (NodeStep N) → Act → Option N
node_before run act = option_and_then (node_in run) (addressed act)

-- what the kind of node allows where a node is made, called, and asked
pub record IsMade {N : Type 0} (g : Ghosts N) (making : Making) (told : Told) (after : Option N) : Type 0 where
  pub node : N
  pub made : g.makes making node
  pub tells : told ≡ tells_made (answers_of g node)
  pub left : after ≡ Some node

-- a node was there, was called and tells what its kind allows
pub record IsCalled {N : Type 0} (g : Ghosts N) (before : Option N) (call : Call) (told : Told) (after : Option N) : Type 0 where
  pub old : N
  pub node : N
  pub effect : Effect
  pub there : before ≡ Some old
  pub stepped : g.steps old call effect node
  pub tells : told ≡ tells_called effect (answers_of g node)
  pub left : after ≡ Some node

-- a node was there, was asked and tells what its kind allows
pub record IsAsked {N : Type 0} (g : Ghosts N) (before : Option N) (counter : ℕ) (told : Told) (after : Option N) : Type 0 where
  pub node : N
  pub report : Report
  pub there : before ≡ Some node
  pub reported : g.reports node counter report
  pub tells : told ≡ tells_report report
  pub left : after ≡ None

-- from this node, where there is one, the kind of node allows the act to make it tell this and to leave this node
abbrev pub Allows : {N : Type 0} (g : Ghosts N) → Option N → Act → Told → Option N → Type 0
Allows g before (Makes d making) told after = IsMade g making told after
Allows g before (Calls d call) told after = IsCalled g before call told after
Allows g before (Asks d counter) told after = IsAsked g before counter told after
Allows g before Passes told after = (told ≡ tells_nothing) × (after ≡ None)

-- the step may come after this run: its node is allowed, and the rest follows from what it told
pub record Follows {N : Type 0} (g : Ghosts N) (setting : Setting) (earlier : List (NodeStep N)) (x : NodeStep N) : Type 0 where
  pub is : x.step ≡ step_of setting (steps_of earlier) x.step.seen.event x.step.told
  pub allowed : Allows g (node_before earlier x.step.act) x.step.act x.step.told x.node

-- a history of such a fleet: each event is accepted after those before it, and follows
abbrev pub IsRun : {N : Type 0} (g : Ghosts N) → Setting → List (NodeStep N) → Type 0
IsRun g setting [] = Unit {0}
IsRun g setting (x ∷ earlier) = IsRun g setting earlier × (refusal setting (steps_of earlier) x.step.seen.event ≡ None) × Follows g setting earlier x

-- at each step the device tells what the words on devices say of its life
abbrev pub TellsByWords : {N : Type 0} → List (NodeStep N) → Type 0
TellsByWords [] = Unit {0}
TellsByWords (x ∷ earlier) = TellsByWords earlier × (x.step.told ≡ told_by (steps_of earlier) x.step.act)
