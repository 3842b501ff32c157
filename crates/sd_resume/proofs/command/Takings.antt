-- What a line does to a replay that has played those before it.
use Rattle.std.specs.Prelude.{◌≡◌, ◌≢◌, ℕ, suc, ◌+◌, Bool, true, false, List, [], ◌∷◌, length, Option, Some, None, IfOk, IfErr, IfSome, OnOk, Result, Ok, Err, codes, decimal}
use Rattle.std.proofs.Common.{refl, sym, ap, ◌∙◌, subst, arith}
use Rattle.std.proofs.lemmas.List.{length-map}
use Rattle.sd_num.specs.Texts.{text_of}
use Rattle.sd_num.specs.declared.NoMemory.{NoMemory}
use Rattle.sd_plan.specs.topo.Network.{Network}
use Rattle.sd_plan.specs.declared.Plan.{Plan}
use Rattle.sd_device.specs.declared.registers.Registers.{Registers}
use Rattle.sd_device.specs.contracts.device.DeviceNode.TheImpl.{ghosts as device}
use Rattle.sd_device.specs.contracts.msg.observer.NoObserverObserver.TheImpl.{ghosts as nobody}
use Rattle.sd_sched.specs.declared.Event.{Event}
use Rattle.sd_sched.specs.declared.LineFault.{LineFault}
use Rattle.sd_sched.specs.Lines.{event_of_line}
use Rattle.sd_history.specs.World.{Setting, setting_over}
use Rattle.sd_history.specs.Steps as steps
use Rattle.sd_history.specs.Nodes.{NodeStep, steps_of}
use Rattle.sd_history.specs.Chronicle.{chronicle}
use Rattle.sd_history.specs.Refusals.{refusal}
use Rattle.sd_history.specs.declared.ApplyFault.{ApplyFault}
use Rattle.sd_replay.specs.Replaying.{StandsFor, IsLineFault, IsStepped}
use Rattle.sd_replay.specs.declared.faults.ReplayFault.{ReplayFault}
use Rattle.sd_replay.specs.declared.faults.ReplayFault.TheVariants as fault
use Rattle.sd_replay.proofs.Kept.{devices_keep_chronicle, not_refused, replayed_next, went_on}
use Rattle.sd_files.specs.declared.command_error.CommandError.TheVariants as ended
use Rattle.sd_files.specs.declared.planfiles.setup_error.SetupError.{SetupError}
use Rattle.sd_files.specs.declared.planfiles.setup_error.SetupError.TheVariants.{Answered, Stopped}
use Rattle.sd_files.specs.work.Steps.{Step, end_step, refused_step, step_for}
use Rattle.sd_files.specs.work.Works.{Work}
use Rattle.sd_resume.specs.command.Parts.{accepted, part_work, unless_refused}
use Rattle.sd_replay.specs.Devices.{QuietReplay}
use Rattle.sd_resume.specs.command.Played.{ComesTo, EndsWithLine, HasPlayed, IsTaken, StepsOn}

-- the steps of a replay that has played events are their chronicle
chronicled : (replay : QuietReplay) (setting : Setting) (events : List Event) (played : HasPlayed replay setting events)
    → steps_of played.run ≡ chronicle setting events
chronicled replay setting events played = (devices_keep_chronicle nobody replay setting events played).chronicle

-- it has counted them
pub counted : (replay : QuietReplay) (setting : Setting) (events : List Event) → HasPlayed replay setting events
    → replay.fleet.fabric.membership.world.events ≡ length events
counted replay setting events played =
    let run : List (NodeStep Registers) = played.run in
    played.stands.made.fabric.membership.world.events ∙ length-map (steps_of run) (λ (s : steps.Step). s.seen)
    ∙ sym (length-map (steps_of run) (λ (s : steps.Step). s.seen.event))
    ∙ ap (λ (es : List Event). length es) played.happened

-- before the first line, over a copy of the network
pub begins : (net copy : Network) (plans : List Plan) (result : Result QuietReplay NoMemory) → copy ≡ net
    → IfOk result (λ replay. (setting : Setting) → setting.net ≡ copy → setting.plans ≡ plans → StandsFor device nobody replay setting [])
    → IfOk result (λ replay. HasPlayed replay (setting_over net plans) [])
begins net copy plans (Ok replay) is stands =
    record { run = []; stands = stands (setting_over net plans) (sym is) refl; happened = refl }
begins net copy plans (Err why) is stands = tt

-- A line that is tried

-- what is said of a line by whatever run the replay stood for
abbrev OfRuns : QuietReplay → ((setting : Setting) (run : List (NodeStep Registers)) → Type 0) → Type 0
OfRuns replay P = (setting : Setting) (run : List (NodeStep Registers)) → StandsFor device nobody replay setting run → P setting run

-- what holds of an answer that is none
on_ok : {P : Type 0} (result : Result (Unit {0}) ReplayFault) (done : Unit {0}) → result ≡ Ok done → OnOk result P → P
on_ok {P = P} result done is holds = subst (λ (r : Result (Unit {0}) ReplayFault). OnOk r P) is holds

module _ (old new : QuietReplay) (setting : Setting) (events : List Event) (line : List ℕ) (played : HasPlayed old setting events) where
  -- what the history says of an event is what the run says
  in_history : (e : Event) (r : Option ApplyFault) → refusal setting (steps_of played.run) e ≡ r → event_of_line line ≡ Ok e
      → accepted setting events (event_of_line line) ≡ unless_refused r e
  in_history e r is read =
      ap (accepted setting events) read
      ∙ ap (λ (o : Option ApplyFault). unless_refused o e)
      (ap (λ (run : List steps.Step). refusal setting run e) (sym (chronicled old setting events played)) ∙ is)

  taken : (e : Event) → event_of_line line ≡ Ok e → refusal setting (steps_of played.run) e ≡ None → IsStepped device nobody new setting played.run e
      → IsTaken new setting events line true
  taken e read none stepped = (e, in_history e None none read, replayed_next nobody old new setting events e played stepped)

  stays : StandsFor device nobody new setting played.run → HasPlayed new setting events
  stays stands = record { run = played.run; stands = stands; happened = played.happened }

  -- its event is accepted
  pub is_taken : (result : Result (Unit {0}) ReplayFault) (done : Unit {0}) → result ≡ Ok done
      → IfErr (event_of_line line) (λ why. result ≡ Err (fault.Line why))
      → IfOk (event_of_line line) (λ e. OfRuns old (λ s run. IfSome (refusal s (steps_of run) e) (λ why. result ≡ Err (fault.Apply why))))
      → OnOk result (IfOk (event_of_line line) (λ e. OfRuns old (λ s run. IsStepped device nobody new s run e)))
      → IsTaken new setting events line true
  is_taken result done is wrong refused goes = by (event_of_line line) refl wrong refused (on_ok result done is goes)
    where
      by : (said : Result Event LineFault) → event_of_line line ≡ said → IfErr said (λ why. result ≡ Err (fault.Line why))
          → IfOk said (λ e. OfRuns old (λ s run. IfSome (refusal s (steps_of run) e) (λ why. result ≡ Err (fault.Apply why))))
          → IfOk said (λ e. OfRuns old (λ s run. IsStepped device nobody new s run e)) → IsTaken new setting events line true
      by (Err why) read said none steps = absurd (went_on result done (fault.Line why) is said)
      by (Ok e) read said none steps =
          taken e read (not_refused (refusal setting (steps_of played.run) e) result done is (none setting played.run played.stands))
          (steps setting played.run played.stands)

  -- or refused
  pub is_refused : (found : ReplayFault) (why : ApplyFault) → found ≡ fault.Apply why
      → OfRuns old (λ s run. StandsFor device nobody new s run × IsLineFault found s (steps_of run) line)
      → IsTaken new setting events line false
  is_refused found why is says =
      let said : StandsFor device nobody new setting played.run × IsLineFault (fault.Apply why) setting (steps_of played.run) line =
      subst (λ (f : ReplayFault). StandsFor device nobody new setting played.run × IsLineFault f setting (steps_of played.run) line) is
      (says setting played.run played.stands) in
      (in_history said.1.0 (Some why) said.1.2 said.1.1, stays said.0)

-- What comes next, of whatever work over a text of this name.

module _ (word : List ℕ) (old new : QuietReplay) (result : Result Bool SetupError) where
  -- a line
  pub on_line : (line : List ℕ)
      → ((setting : Setting) (events : List Event) → HasPlayed old setting events
      → ComesTo (part_work word setting) setting new events (step_for (part_work word setting) events ((part_work word setting).says events line)) result)
      → (work : Work Event) (events : List Event) → StepsOn word old new result work events (step_for work events (work.says events line))
  on_line line comes work events =
      λ setting is played. subst (λ (w : Work Event). ComesTo w setting new events (step_for w events (w.says events line)) result) (sym is)
      (comes setting events played)

  -- the end
  pub on_end : ((setting : Setting) (events : List Event) → HasPlayed old setting events
      → ComesTo (part_work word setting) setting new events (end_step (part_work word setting) events) result)
      → (work : Work Event) (events : List Event) → StepsOn word old new result work events (end_step work events)
  on_end comes work events =
      λ setting is played. subst (λ (w : Work Event). ComesTo w setting new events (end_step w events) result) (sym is) (comes setting events played)

  -- a line that is refused before it is read
  pub on_refused : (why : List ℕ)
      → ((setting : Setting) (events : List Event) → HasPlayed old setting events
      → ComesTo (part_work word setting) setting new events (refused_step (part_work word setting) events why) result)
      → (work : Work Event) (events : List Event) → StepsOn word old new result work events (refused_step work events why)
  on_refused why comes work events =
      λ setting is played. subst (λ (w : Work Event). ComesTo w setting new events (refused_step w events why) result) (sym is) (comes setting events played)

-- a refusal at the next line
pub refuses : (word why : List ℕ) (replay : QuietReplay) (setting : Setting) (events : List Event) (n : ℕ) (early : SetupError)
    → HasPlayed replay setting events → n ≡ length events → EndsWithLine (text_of (codes "input" ∷ word ∷ decimal (n + 1) ∷ why ∷ [])) early
    → ComesTo (part_work word setting) setting replay events (refused_step (part_work word setting) events why) (Err early)
refuses word why replay setting events n (Answered answer) played is ends = (
  why,
  refl,
  ends.0 ∙ ap (λ (k : ℕ). text_of (codes "input" ∷ word ∷ decimal (k + 1) ∷ why ∷ [])) is,
  ends.1,
)
refuses word why replay setting events n (Stopped (ended.Refused r)) played is ends = absurd ends
refuses word why replay setting events n (Stopped ended.Shelf) played is ends = absurd ends
refuses word why replay setting events n (Stopped ended.Memory) played is ends = tt

-- a line that was taken
pub takes_accepted : (word : List ℕ) (old new : QuietReplay) (setting : Setting) (events : List Event) (line : List ℕ) → IsTaken new setting events line true
    → ComesTo (part_work word setting) setting new events
    (step_for (part_work word setting) events ((part_work word setting).says events line)) (Ok true)
takes_accepted word old new setting events line (e, says, played) = (e, ap (step_for (part_work word setting) events) says, played)

-- or refused, as comes of a refusal
pub takes_refused : (word : List ℕ) (new : QuietReplay) (setting : Setting) (events : List Event) (line : List ℕ) (result : Result Bool SetupError)
    → IsTaken new setting events line false
    → (HasPlayed new setting events → ComesTo (part_work word setting) setting new events (refused_step (part_work word setting) events (codes "Refused")) result)
    → ComesTo (part_work word setting) setting new events (step_for (part_work word setting) events ((part_work word setting).says events line)) result
takes_refused word new setting events line result (says, played) comes =
    subst (λ (s : Step Event). ComesTo (part_work word setting) setting new events s result)
    (sym (ap (step_for (part_work word setting) events) says)) (comes played)

-- the end of a text with a line, and of one without
pub ends_some : (word : List ℕ) (replay : QuietReplay) (setting : Setting) (events : List Event) (n : ℕ) → HasPlayed replay setting events → n ≡ length events
    → n ≢ 0 → ComesTo (part_work word setting) setting replay events (end_step (part_work word setting) events) (Ok false)
ends_some word replay setting [] n played is some = absurd (some is)
ends_some word replay setting (e ∷ events) n played is some = (refl, played)

pub ends_none : (word : List ℕ) (replay : QuietReplay) (setting : Setting) (events : List Event) (n : ℕ) (result : Result Bool SetupError)
    → n ≡ length events → n ≡ 0
    → ComesTo (part_work word setting) setting replay events (refused_step (part_work word setting) events (codes "NoEnd")) result
    → ComesTo (part_work word setting) setting replay events (end_step (part_work word setting) events) result
ends_none word replay setting [] n result is none comes = comes
ends_none word replay setting (e ∷ events) n result is none comes = absurd (never (length events) (sym is ∙ none))
  where
    never : (k : ℕ) → suc k ≡ 0 → ⊥
    never k same = omega (arith, same)
