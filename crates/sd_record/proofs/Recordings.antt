-- What a recording of files leaves at its sink, and what it answers.
use Rattle.std.specs.Prelude.{◌≡◌, ℕ, true, List, map, IfSome, Option, Some, None, Result, Ok, Err, refl}
use Rattle.std.proofs.Common.{inl, inr, subst, sym}
use Rattle.sd_io.specs.outside.Pieces.{Pieces}
use Rattle.sd_plan.specs.topo.Network.{Each, Network}
use Rattle.sd_plan.specs.declared.Plan.{Plan}
use Rattle.sd_files.specs.Answering.{AtOnce, InWrites}
use Rattle.sd_checker.specs.Conditions.{IsAccepted}
use Rattle.sd_files.specs.Inputs.{topology_of}
use Rattle.sd_files.specs.Loads.{Loads}
use Rattle.sd_files.specs.Reasons.{refusal_line}
use Rattle.sd_files.specs.Texts.{texts_of}
use Rattle.sd_files.specs.Writes.{HasOutput, IsAllowed, WritesOnce}
use Rattle.sd_files.specs.declared.Status.{Status}
use Rattle.sd_files.specs.declared.Status.TheVariants.{InputRefused}
use Rattle.sd_files.specs.declared.command_error.Answer.{Answer}
use Rattle.sd_files.specs.declared.command_error.CommandError.{CommandError}
use Rattle.sd_files.specs.declared.command_error.CommandError.TheVariants as ended
use Rattle.sd_files.specs.declared.command_error.IoError.{IoError}
use Rattle.sd_files.specs.declared.command_error.Refusal.{Refusal}
use Rattle.sd_files.specs.declared.planfiles.setup_error.SetupError.{SetupError}
use Rattle.sd_files.specs.planfiles.PlanFiles.{AfterAllPlans, AreRead}
use Rattle.sd_files.specs.planfiles.Refusing.{Nothing}
use Rattle.sd_files.specs.planfiles.SetupError.{made_of}
use Rattle.sd_files.specs.work.Ending.{LeavesAt}
use Rattle.sd_files.proofs.work.Leaving.{leaves_more, leaves_once, once_in_steps}
use Rattle.sd_record.specs.Recordings.{IsRecording, MayRecord, RecordsAfter, RecordsOver}

module _ (names : List (List ℕ)) (log : List ℕ) (old new : Option Pieces) (result : Result Status IoError) where
  -- the texts of the plans
  abbrev texts_at : (List ℕ → Option (List ℕ)) → List (List ℕ)
  texts_at h = map (λ name. texts_of h name) names

  module _ (net : Network) (held : Option (List ℕ → Option (List ℕ))) where
    -- a plan ends the command
    pub ends_early : (early : SetupError) (made : Result Answer CommandError) → made ≡ made_of early
        → IfSome held (λ h. IsAllowed (AfterAllPlans net (texts_at h) Nothing) (made_of early)) → WritesOnce (HasOutput made) old new result
        → IfSome held (λ h. LeavesAt true (MayRecord net (texts_at h) (texts_of h log)) old new result)
    ends_early early made is makes writes = by held makes
      where
        by : (o : Option (List ℕ → Option (List ℕ))) → IfSome o (λ h. IsAllowed (AfterAllPlans net (texts_at h) Nothing) (made_of early))
            → IfSome o (λ h. LeavesAt true (MayRecord net (texts_at h) (texts_of h log)) old new result)
        by None allowed = tt
        by (Some h) allowed =
            leaves_more (InWrites AtOnce (AfterAllPlans net (texts_at h) Nothing)) (MayRecord net (texts_at h) (texts_of h log)) old new result
            (λ pieces status written. inl written)
            (once_in_steps (InWrites AtOnce (AfterAllPlans net (texts_at h) Nothing)) old new result
            (leaves_once (AfterAllPlans net (texts_at h) Nothing) made old new result
            (subst (λ (m : Result Answer CommandError). IsAllowed (AfterAllPlans net (texts_at h) Nothing) m) (sym is) allowed) writes))

    -- all plans are accepted, and the log is recorded
    pub records_behind : (later : Option (List ℕ → Option (List ℕ))) (plans given : List Plan) → later ≡ held → given ≡ plans
        → IfSome held (λ h. AreRead net 1 (texts_at h) plans) → Each (IsAccepted net) plans
        → IfSome later (λ h. LeavesAt true (RecordsOver net given (texts_of h log)) old new result)
        → IfSome held (λ h. LeavesAt true (MayRecord net (texts_at h) (texts_of h log)) old new result)
    records_behind later plans given same are read accepted leaves =
        by held read
        (subst (λ (ps : List Plan). IfSome held (λ h. LeavesAt true (RecordsOver net ps (texts_of h log)) old new result)) are
        (subst (λ (o : Option (List ℕ → Option (List ℕ))). IfSome o (λ h. LeavesAt true (RecordsOver net given (texts_of h log)) old new result)) same leaves))
      where
        by : (o : Option (List ℕ → Option (List ℕ))) → IfSome o (λ h. AreRead net 1 (texts_at h) plans)
            → IfSome o (λ h. LeavesAt true (RecordsOver net plans (texts_of h log)) old new result)
            → IfSome o (λ h. LeavesAt true (MayRecord net (texts_at h) (texts_of h log)) old new result)
        by None texts left = tt
        by (Some h) texts left =
            leaves_more (RecordsOver net plans (texts_of h log)) (MayRecord net (texts_at h) (texts_of h log)) old new result
            (λ pieces status written. inr (record { read = plans; are = texts; accepted = accepted; records = written })) left

  module _ {T : Type 0} (view : T → Network) (topology : List ℕ) (held : Option (List ℕ → Option (List ℕ))) where
    -- the topology was read
    pub behind_topology : (later : Option (List ℕ → Option (List ℕ))) (topo : T) → later ≡ held → IfSome held (λ h. Loads view (topology_of (texts_of h topology)) (Ok topo))
        → IfSome later (λ h. LeavesAt true (MayRecord (view topo) (texts_at h) (texts_of h log)) old new result)
        → IfSome held (λ h. LeavesAt true (IsRecording (texts_of h topology) (texts_at h) (texts_of h log)) old new result)
    behind_topology later topo same says leaves =
        by held says
        (subst (λ (o : Option (List ℕ → Option (List ℕ))). IfSome o (λ h. LeavesAt true (MayRecord (view topo) (texts_at h) (texts_of h log)) old new result)) same leaves)
      where
        by : (o : Option (List ℕ → Option (List ℕ))) → IfSome o (λ h. Loads view (topology_of (texts_of h topology)) (Ok topo))
            → IfSome o (λ h. LeavesAt true (MayRecord (view topo) (texts_at h) (texts_of h log)) old new result)
            → IfSome o (λ h. LeavesAt true (IsRecording (texts_of h topology) (texts_at h) (texts_of h log)) old new result)
        by None is left = tt
        by (Some h) is left =
            subst (λ (s : Result Network Refusal). LeavesAt true (RecordsAfter s (texts_at h) (texts_of h log)) old new result) (sym is) left

    -- a run that was stopped before it wrote
    stopped : (h : List ℕ → Option (List ℕ)) (why : CommandError) → IsAllowed (λ bytes status. ⊥) (Err why) → WritesOnce (HasOutput (Err why)) old new result
        → LeavesAt true (IsRecording (texts_of h topology) (texts_at h) (texts_of h log)) old new result
    stopped h why none writes =
        leaves_more (InWrites AtOnce (λ bytes status. ⊥)) (IsRecording (texts_of h topology) (texts_at h) (texts_of h log)) old new result
        (λ pieces status written. absurd written.0)
        (once_in_steps (InWrites AtOnce (λ bytes status. ⊥)) old new result
        (leaves_once (λ bytes status. ⊥) (Err why) old new result none writes))

    refused : (h : List ℕ → Option (List ℕ)) (why : CommandError) → Loads view (topology_of (texts_of h topology)) (Err why)
        → WritesOnce (HasOutput (Err why)) old new result
        → LeavesAt true (IsRecording (texts_of h topology) (texts_at h) (texts_of h log)) old new result
    refused h (ended.Refused why) says writes =
        subst (λ (s : Result Network Refusal). LeavesAt true (RecordsAfter s (texts_at h) (texts_of h log)) old new result) (sym says)
        (once_in_steps (InWrites AtOnce (λ bytes answer. (bytes ≡ refusal_line why) × (answer ≡ InputRefused))) old new result
        (leaves_once (λ bytes answer. (bytes ≡ refusal_line why) × (answer ≡ InputRefused)) (Err (ended.Refused why)) old new result (refl, refl) writes))
    refused h ended.Shelf says writes = stopped h ended.Shelf tt writes
    refused h ended.Memory says writes = stopped h ended.Memory tt writes

    -- it was not
    pub without_topology : (why : CommandError) → IfSome held (λ h. Loads view (topology_of (texts_of h topology)) (Err why))
        → WritesOnce (HasOutput (Err why)) old new result
        → IfSome held (λ h. LeavesAt true (IsRecording (texts_of h topology) (texts_at h) (texts_of h log)) old new result)
    without_topology why says writes = by held says
      where
        by : (o : Option (List ℕ → Option (List ℕ))) → IfSome o (λ h. Loads view (topology_of (texts_of h topology)) (Err why))
            → IfSome o (λ h. LeavesAt true (IsRecording (texts_of h topology) (texts_at h) (texts_of h log)) old new result)
        by None says = tt
        by (Some h) says = refused h why says writes
