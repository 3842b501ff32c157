-- What is written before a schedule is begun, and that files which were read and accepted lead to the schedule.
use Rattle.std.proofs.Common.{◌≡◌, ℕ, ◌+◌, true, List, [], ◌∷◌, ◌++◌, Option, Some, None, Result, Ok, Err, refl, sym, ap, ◌∙◌, subst, map, append-nil}
use Rattle.std.specs.Prelude.{IfOk, IfSome, IsTrue, option_map}
use Rattle.std.specs.List.{concat}
use Rattle.sd_io.specs.outside.Pieces.{Pieces}
use Rattle.sd_io.specs.stream.Reader.{IsNear}
use Rattle.sd_plan.specs.topo.Network.{Network, Each}
use Rattle.sd_plan.specs.declared.Plan.{Plan}
use Rattle.sd_checker.specs.Conditions.{IsAccepted}
use Rattle.sd_checker.specs.declared.Verdict.{Verdict}
use Rattle.sd_checker.specs.declared.Verdict.TheVariants.{Accepted, Refused}
use Rattle.sd_device.specs.declared.registers.Registers.{Registers}
use Rattle.sd_device.specs.contracts.device.DeviceNode.TheImpl.{ghosts}
use Rattle.sd_device.specs.declared.msg.observer.Observer as observers
use Rattle.sd_sched.specs.declared.Event.{Event}
use Rattle.sd_history.specs.World.{Setting, setting_over}
use Rattle.sd_files.specs.Answering.{AtOnce, InWrites, Allowed, MayWrite, After}
use Rattle.sd_files.specs.Inputs.{topology_of, plan_in_file}
use Rattle.sd_files.specs.Loads.{Loads}
use Rattle.sd_files.specs.Reasons.{refusal_line}
use Rattle.sd_files.specs.Statuses.{is_among}
use Rattle.sd_files.specs.Texts.{texts_of}
use Rattle.sd_files.specs.Writes.{IsAllowed, HasOutput, WritesOnce}
use Rattle.sd_files.specs.declared.Status.{Status}
use Rattle.sd_files.specs.declared.Status.TheVariants.{Done, PlanRefused, Usage, InputRefused, ShelfFault, SinkFault, Memory, Broken}
use Rattle.sd_files.specs.declared.command_error.CommandError.{CommandError}
use Rattle.sd_files.specs.declared.command_error.CommandError.TheVariants as ended
use Rattle.sd_files.specs.declared.command_error.Refusal.{Refusal}
use Rattle.sd_files.specs.declared.command_error.IoError.{IoError}
use Rattle.sd_files.specs.planfiles.SetupError.{IsPlanRefused, made_of}
use Rattle.sd_files.specs.declared.planfiles.setup_error.SetupError.{SetupError}
use Rattle.sd_files.specs.declared.planfiles.setup_error.SetupError.TheVariants.{Answered, Stopped}
use Rattle.sd_files.specs.planfiles.PlanFiles.{AfterAllPlans, AfterJudged, AfterPlans, AfterVerdict, AreRead, in_front, plans_of, with_plan}
use Rattle.sd_files.specs.planfiles.Refusing.{Nothing}
use Rattle.sd_files.proofs.planfiles.Reading.{through}
use Rattle.sd_replay.specs.declared.replay.Replay.{Replay}
use Rattle.sd_replay.specs.Devices.{HasReplayed}
use Rattle.sd_replay.specs.Replaying.{StandsFor}
use Rattle.sd_files.specs.work.Ending.{LeavesAt}
use Rattle.sd_files.proofs.work.Leaving.{leaves_more, leaves_once, once_in_steps, told}
use Rattle.sd_files.specs.work.Works.{Work, InSteps, IsOutcome, refused_part}
use Rattle.sd_commands.specs.replay.Replays.{IsRun, refused_over, replay_work}
use Rattle.sd_files.proofs.Shared.{makes_more, verdict_more}
use Rattle.sd_commands.specs.replay.Loaded.{AreLoaded}
use Rattle.sd_commands.specs.replay.Writes.{RunsIn}
use Rattle.sd_commands.specs.replay.Early.{EndsBefore}
use Rattle.sd_commands.proofs.replay.Cuts.{cut_before, cut_loaded}
use Rattle.sd_commands.specs.replay.Starting.{HasStarted}

-- the texts of a shelf, where they are told
abbrev pub Held : Type 0
Held = Option (List ℕ → Option (List ℕ))

-- what a work makes of a text, each step by one write
abbrev StepsOf : Work Event → (text : List ℕ) → MayWrite
StepsOf work text = InWrites (InSteps work text) (IsOutcome work text)

-- the texts of the plans
abbrev plans_at : (names : List (List ℕ)) → (List ℕ → Option (List ℕ)) → List (List ℕ)
plans_at names h = map (λ name. texts_of h name) names

-- What may be written

-- after a file that says the same, more may be written
pub after_more : {X : Type 0} (says : Result X Refusal) (Then More : X → Allowed) (bytes : List ℕ) (status : Status)
    → ((x : X) → Then x bytes status → More x bytes status) → After says Then bytes status → After says More bytes status
after_more (Ok x) Then More bytes status more written = more x written
after_more (Err why) Then More bytes status more written = written

-- more may be written after plans
pub plans_more : (net : Network) (place : ℕ) (front : List Plan) (texts : List (List ℕ)) (Then More : List Plan → Allowed) (bytes : List ℕ) (status : Status)
    → ((plans : List Plan) → Then plans bytes status → More plans bytes status)
    → AfterPlans net place front texts Then bytes status → AfterPlans net place front texts More bytes status
plans_more net place front [] Then More bytes status more written = more front written
plans_more net place front (text ∷ texts) Then More bytes status more written =
    after_more (plan_in_file net place text) (λ plan. AfterJudged net place plan (AfterPlans net (place + 1) (front ++ plan ∷ []) texts Then))
    (λ plan. AfterJudged net place plan (AfterPlans net (place + 1) (front ++ plan ∷ []) texts More))
    bytes status
    (λ plan judged. (
      judged.0,
      judged.1,
      verdict_more net place judged.0 (AfterPlans net (place + 1) (front ++ plan ∷ []) texts Then)
          (AfterPlans net (place + 1) (front ++ plan ∷ []) texts More) bytes status
          (plans_more net (place + 1) (front ++ plan ∷ []) texts Then More bytes status more) judged.2,
    ))
    written

-- what ends a command before its schedule may be written by one that would go on
before_run : (work : Setting → Work Event) (topology : List ℕ) (plans : List (List ℕ)) (schedule : List ℕ) (bytes : List ℕ) (status : Status)
    → EndsBefore topology plans bytes status → IsRun work topology plans schedule bytes status
before_run work topology plans schedule bytes status written =
    after_more (topology_of topology) (λ net. AfterAllPlans net plans Nothing)
    (λ net. AfterAllPlans net plans (λ accepted. IsOutcome (work (setting_over net accepted)) schedule)) bytes status
    (λ net. plans_more net 1 [] plans Nothing (λ accepted. IsOutcome (work (setting_over net accepted)) schedule) bytes status (λ read never. absurd never)) written

-- files that were read and accepted lead to the schedule
loaded_run : (work : Setting → Work Event) (topology : List ℕ) (plans : List (List ℕ)) (schedule : List ℕ) (setting : Setting) (bytes : List ℕ)
    (status : Status) → AreLoaded topology plans setting
    → IsOutcome (work setting) schedule bytes status → IsRun work topology plans schedule bytes status
loaded_run work topology plans schedule setting bytes status loaded written =
    let Then : Network → List Plan → Allowed = λ net accepted. IsOutcome (work (setting_over net accepted)) schedule in
    subst (λ (s : Result Network Refusal). After s (λ net. AfterAllPlans net plans (Then net)) bytes status) (sym loaded.topology_is)
    (subst (λ (texts : List (List ℕ)). AfterPlans setting.net 1 [] texts (Then setting.net) bytes status) (append-nil plans)
    (through setting.net 1 [] setting.plans plans [] (Then setting.net) bytes status loaded.plans_are loaded.accepted written))

-- the plans that were read are those that the texts say
pub plans_said : (net : Network) (place : ℕ) (texts : List (List ℕ)) (plans : List Plan) → AreRead net place texts plans → plans_of net place texts ≡ Some plans
plans_said net place [] [] read = refl
plans_said net place [] (plan ∷ plans) read = absurd read
plans_said net place (text ∷ texts) [] read = absurd read
plans_said net place (text ∷ texts) (plan ∷ plans) read =
    ap (λ (s : Result Plan Refusal). with_plan s (plans_of net (place + 1) texts)) read.0 ∙ ap (in_front plan) (plans_said net (place + 1) texts plans read.1)

-- where the plans' texts end a command with a file that is refused, they do not say plans
plans_unsaid : (net : Network) (place : ℕ) (front : List Plan) (texts : List (List ℕ)) (bytes : List ℕ)
    → AfterPlans net place front texts Nothing bytes InputRefused → plans_of net place texts ≡ None
plans_unsaid net place front [] bytes written = absurd written
plans_unsaid net place front (text ∷ texts) bytes written =
    by (plan_in_file net place text) (λ plan. plans_unsaid net (place + 1) (front ++ plan ∷ []) texts bytes) written
  where
    judged : (plan : Plan) (verdict : Verdict)
        → (AfterPlans net (place + 1) (front ++ plan ∷ []) texts Nothing bytes InputRefused → plans_of net (place + 1) texts ≡ None)
        → AfterVerdict net place verdict (AfterPlans net (place + 1) (front ++ plan ∷ []) texts Nothing) bytes InputRefused
        → plans_of net (place + 1) texts ≡ None
    judged plan Accepted others told = others told
    judged plan (Refused breach) others told = cc

    by : (says : Result Plan Refusal)
        → ((plan : Plan) → AfterPlans net (place + 1) (front ++ plan ∷ []) texts Nothing bytes InputRefused → plans_of net (place + 1) texts ≡ None)
        → After says (λ plan. AfterJudged net place plan (AfterPlans net (place + 1) (front ++ plan ∷ []) texts Nothing)) bytes InputRefused
        → with_plan says (plans_of net (place + 1) texts) ≡ None
    by (Err why) others told = refl
    by (Ok plan) others told = ap (in_front plan) (judged plan told.0 (others plan) told.2)

-- so nothing of the schedule is refused then
unsaid : (topology : List ℕ) (plans : List (List ℕ)) (schedule : List ℕ) (bytes : List ℕ) → EndsBefore topology plans bytes InputRefused
    → refused_over (topology_of topology) plans schedule ≡ None
unsaid topology plans schedule bytes written = by (topology_of topology) written
  where
    by : (says : Result Network Refusal) → After says (λ net. AfterAllPlans net plans Nothing) bytes InputRefused → refused_over says plans schedule ≡ None
    by (Err why) told = refl
    by (Ok net) told = ap (option_map (λ read. refused_part (replay_work (setting_over net read)) schedule)) (plans_unsaid net 1 [] plans bytes told)

-- What a run leaves

module _ (topology : List ℕ) (names : List (List ℕ)) (schedule : List ℕ) where
  -- a command that ended before its schedule
  pub early_leaves : (work : Setting → Work Event) (held : Held) (early : SetupError) (old new : Option Pieces) (result : Result Status IoError)
      → IfSome held (λ h. IsAllowed (EndsBefore (texts_of h topology) (plans_at names h)) (made_of early))
      → WritesOnce (HasOutput (made_of early)) old new result
      → IfSome held (λ h. LeavesAt true (RunsIn work (texts_of h topology) (plans_at names h) (texts_of h schedule)) old new result)
  early_leaves work None early old new result makes writes = tt
  early_leaves work (Some h) early old new result makes writes =
      leaves_more (InWrites AtOnce (EndsBefore (texts_of h topology) (plans_at names h)))
      (RunsIn work (texts_of h topology) (plans_at names h) (texts_of h schedule)) old new result
      (λ pieces status ends. (
        before_run work (texts_of h topology) (plans_at names h) (texts_of h schedule) (concat pieces) status ends.0,
        cut_before work (texts_of h topology) (plans_at names h) (texts_of h schedule) pieces status ends,
      ))
      (once_in_steps (InWrites AtOnce (EndsBefore (texts_of h topology) (plans_at names h))) old new result
      (leaves_once (EndsBefore (texts_of h topology) (plans_at names h)) (made_of early) old new result makes writes))

  pub early_near : (held : Held) (early : SetupError) (old new : Option Pieces) (rest : Option (List ℕ)) (result : Result Status IoError)
      → IfSome held (λ h. IsAllowed (EndsBefore (texts_of h topology) (plans_at names h)) (made_of early))
      → WritesOnce (HasOutput (made_of early)) old new result
      → result ≡ Ok InputRefused
      → IfSome held
      (λ h. IfSome (refused_over (topology_of (texts_of h topology)) (plans_at names h) (texts_of h schedule)) (λ part. IsNear (Some part) rest))
  early_near None early old new rest result makes writes refused = tt
  early_near (Some h) early old new rest result makes writes refused =
      let (bytes, tells, added) = subst (WritesOnce (HasOutput (made_of early)) old new) refused writes in
      subst (λ (part : Option (List ℕ)). IfSome part (λ p. IsNear (Some p) rest))
      (sym (unsaid (texts_of h topology) (plans_at names h) (texts_of h schedule) bytes
      (told (EndsBefore (texts_of h topology) (plans_at names h)) (made_of early) bytes InputRefused makes tells)))
      tt

  module _ {V : Type 0} (o : observers.Ghosts V) (work : Setting
      → Work Event) (replay : Replay Registers V ghosts o) (held later : Held) (same : later ≡ held) (old new : Option Pieces)
      (result : Result Status IoError) where
    -- a schedule that was gone through
    pub run_leaves : IfSome held (λ h. HasStarted o (texts_of h topology) (plans_at names h) replay)
        → ((setting : Setting) → HasReplayed o replay setting []
        → IfSome later (λ h. LeavesAt true (StepsOf (work setting) (texts_of h schedule)) old new result))
        → IfSome held (λ h. LeavesAt true (RunsIn work (texts_of h topology) (plans_at names h) (texts_of h schedule)) old new result)
    run_leaves started leaves =
        by held started
        (λ setting replayed. subst (λ (h : Held). IfSome h (λ g. LeavesAt true (StepsOf (work setting) (texts_of g schedule)) old new result)) same
        (leaves setting replayed))
      where
        by : (h : Held) → IfSome h (λ g. HasStarted o (texts_of g topology) (plans_at names g) replay)
            → ((setting : Setting) → HasReplayed o replay setting []
            → IfSome h (λ g. LeavesAt true (StepsOf (work setting) (texts_of g schedule)) old new result))
            → IfSome h (λ g. LeavesAt true (RunsIn work (texts_of g topology) (plans_at names g) (texts_of g schedule)) old new result)
        by None begun left = tt
        by (Some g) begun left =
            leaves_more (StepsOf (work begun.setting) (texts_of g schedule))
            (RunsIn work (texts_of g topology) (plans_at names g) (texts_of g schedule)) old new result
            (λ pieces status steps. (
              loaded_run work (texts_of g topology) (plans_at names g) (texts_of g schedule) begun.setting (concat pieces) status begun.loaded steps.0,
              cut_loaded work (texts_of g topology) (plans_at names g) (texts_of g schedule) pieces begun.setting begun.loaded steps.1,
            ))
            (left begun.setting begun.replayed)

    pub run_near : (rest : Option (List ℕ)) → ((setting : Setting) (text : List ℕ) → refused_part (work setting) text ≡ refused_part (replay_work setting) text)
        → IfSome held (λ h. HasStarted o (texts_of h topology) (plans_at names h) replay)
        → ((setting : Setting) → HasReplayed o replay setting [] → IfSome later (λ h. IsNear (Some (refused_part (work setting) (texts_of h schedule))) rest))
        → IfSome held
        (λ h. IfSome (refused_over (topology_of (texts_of h topology)) (plans_at names h) (texts_of h schedule)) (λ part. IsNear (Some part) rest))
    run_near rest alike started near =
        by held started
        (λ setting replayed. subst (λ (h : Held). IfSome h (λ g. IsNear (Some (refused_part (work setting) (texts_of g schedule))) rest)) same
        (near setting replayed))
      where
        by : (h : Held) → IfSome h (λ g. HasStarted o (texts_of g topology) (plans_at names g) replay)
            → ((setting : Setting) → HasReplayed o replay setting [] → IfSome h (λ g. IsNear (Some (refused_part (work setting) (texts_of g schedule))) rest))
            → IfSome h (λ g. IfSome (refused_over (topology_of (texts_of g topology)) (plans_at names g) (texts_of g schedule))
            (λ part. IsNear (Some part) rest))
        by None begun close = tt
        by (Some g) begun close =
            let setting = begun.setting in
            let said : refused_over (topology_of (texts_of g topology)) (plans_at names g) (texts_of g schedule)
            ≡ Some (refused_part (replay_work setting) (texts_of g schedule)) =
            ap (λ (s : Result Network Refusal). refused_over s (plans_at names g) (texts_of g schedule)) begun.loaded.topology_is
            ∙ ap (option_map (λ read. refused_part (replay_work (setting_over setting.net read)) (texts_of g schedule)))
            (plans_said setting.net 1 (plans_at names g) setting.plans begun.loaded.plans_are) in
            subst (λ (part : Option (List ℕ)). IfSome part (λ p. IsNear (Some p) rest)) (sym said)
            (subst (λ (part : List ℕ). IsNear (Some part) rest) (alike setting (texts_of g schedule)) (close setting begun.replayed))

-- What is made before the schedule

module _ (topology : List ℕ) (names : List (List ℕ)) where
  -- the line of a topology that is refused
  unloaded : {T : Type 0} (view : T → Network) (h : List ℕ → Option (List ℕ)) (why : CommandError) → Loads view (topology_of (texts_of h topology)) (Err why)
      → IsAllowed (EndsBefore (texts_of h topology) (plans_at names h)) (Err why)
  unloaded view h (ended.Refused why) says =
      subst (λ (s : Result Network Refusal). After s (λ net. AfterAllPlans net (plans_at names h) Nothing) (refusal_line why) InputRefused) (sym says)
      (refl, refl)
  unloaded view h ended.Shelf says = tt
  unloaded view h ended.Memory says = tt

  pub makes_unloaded : {T : Type 0} (view : T → Network) (held : Held) (why : CommandError) (early : SetupError) → early ≡ Stopped why
      → IfSome held (λ h. Loads view (topology_of (texts_of h topology)) (Err why))
      → IfSome held (λ h. IsAllowed (EndsBefore (texts_of h topology) (plans_at names h)) (made_of early))
  makes_unloaded view None why early is says = tt
  makes_unloaded view (Some h) why early is says =
      subst (λ (e : SetupError). IsAllowed (EndsBefore (texts_of h topology) (plans_at names h)) (made_of e)) (sym is) (unloaded view h why says)

  -- what a plan that is refused makes
  pub makes_unplanned : {T : Type 0} (view : T → Network) (held later : Held) (topo : T) (early : SetupError) → later ≡ held
      → IfSome held (λ h. Loads view (topology_of (texts_of h topology)) (Ok topo))
      → IfSome later (λ h. IsAllowed (AfterAllPlans (view topo) (plans_at names h) Nothing) (made_of early))
      → IfSome held (λ h. IsAllowed (EndsBefore (texts_of h topology) (plans_at names h)) (made_of early))
  makes_unplanned view held later topo early same says makes =
      by held says (subst (λ (h : Held). IfSome h (λ g. IsAllowed (AfterAllPlans (view topo) (plans_at names g) Nothing) (made_of early))) same makes)
    where
      by : (h : Held) → IfSome h (λ g. Loads view (topology_of (texts_of g topology)) (Ok topo))
          → IfSome h (λ g. IsAllowed (AfterAllPlans (view topo) (plans_at names g) Nothing) (made_of early))
          → IfSome h (λ g. IsAllowed (EndsBefore (texts_of g topology) (plans_at names g)) (made_of early))
      by None read made = tt
      by (Some g) read made =
          makes_more (AfterAllPlans (view topo) (plans_at names g) Nothing) (EndsBefore (texts_of g topology) (plans_at names g)) (made_of early)
          (λ bytes status written. subst (λ (s : Result Network Refusal). After s (λ net. AfterAllPlans net (plans_at names g) Nothing) bytes status)
          (sym read) written) made

  -- a replay over what was read
  pub started_over : {T V : Type 0} (view : T → Network) (o : observers.Ghosts V) (held later : Held) (topo : T) (plans : List Plan)
      (replay : Replay Registers V ghosts o) → later ≡ held
      → IfSome held (λ h. Loads view (topology_of (texts_of h topology)) (Ok topo)) → IfSome later (λ h. AreRead (view topo) 1 (plans_at names h) plans)
      → Each (IsAccepted (view topo)) plans
      → ((setting : Setting) → setting.net ≡ view topo → setting.plans ≡ plans → StandsFor ghosts o replay setting [])
      → IfSome held (λ h. HasStarted o (texts_of h topology) (plans_at names h) replay)
  started_over view o held later topo plans replay same says read accepted stands =
      by held says (subst (λ (h : Held). IfSome h (λ g. AreRead (view topo) 1 (plans_at names g) plans)) same read)
    where
      by : (h : Held) → IfSome h (λ g. Loads view (topology_of (texts_of g topology)) (Ok topo))
          → IfSome h (λ g. AreRead (view topo) 1 (plans_at names g) plans) → IfSome h (λ g. HasStarted o (texts_of g topology) (plans_at names g) replay)
      by None is are = tt
      by (Some g) is are =
          let setting : Setting = setting_over (view topo) plans in
          record {
            setting = setting;
            loaded = record { topology_is = is; plans_are = are; accepted = accepted };
            replayed = record { run = []; stands = stands setting refl refl; happened = refl };
          }

-- The statuses
