-- What is loaded of a file is what it says, and what follows for the command that loads it.
use Rattle.std.proofs.Common.{◌≡◌, ℕ, ◌^◌, ◌<◌, ◌≤◌, List, Option, Some, None, Result, Ok, Err, refl, sym, ap, ◌∙◌, subst, length}
use Rattle.std.specs.Prelude.{IfSome}
use Rattle.std.proofs.lemmas.Bool.{lt-ltb, le-ltb}
use Rattle.sd_io.specs.declared.stream.faults.WholeFault.{WholeFault}
use Rattle.sd_io.specs.declared.stream.faults.WholeFault.TheVariants as whole
use Rattle.sd_topotext.specs.Gives.{Fails as TopologyFails}
use Rattle.sd_topotext.specs.declared.fault.TopoFault.{TopoFault}
use Rattle.sd_topotext.specs.declared.fault.TopoFault.TheVariants as topo
use Rattle.sd_plantext.specs.Gives.{Fails as PlanFails}
use Rattle.sd_plantext.specs.declared.fault.PlanFault.{PlanFault}
use Rattle.sd_plantext.specs.declared.fault.PlanFault.TheVariants as plan
use Rattle.sd_files.specs.Answering.{Allowed, After}
use Rattle.sd_files.specs.Inputs.{in_file, refused_for}
use Rattle.sd_files.specs.Loads.{Loads, ended_unread, ended_by_topology, ended_by_plan}
use Rattle.sd_files.specs.Texts.{Texts, texts_of}
use Rattle.sd_files.specs.Writes.{IsAllowed}
use Rattle.sd_files.specs.declared.command_error.Answer.{Answer}
use Rattle.sd_files.specs.declared.command_error.CommandError.{CommandError}
use Rattle.sd_files.specs.declared.command_error.FileFault.{FileFault}
use Rattle.sd_files.specs.declared.command_error.FileFault.TheVariants as fault
use Rattle.sd_files.specs.declared.command_error.Input.{Input}
use Rattle.sd_files.specs.declared.command_error.Input.TheVariants as input
use Rattle.sd_files.specs.declared.command_error.Refusal.{Refusal}

module _ {T X F : Type 0} (view : T → X) (file : Input) (Fault : F → FileFault) (meaning : List ℕ → Result X F) where
  unread : (text : List ℕ) (why : WholeFault) → (why ≡ whole.TooLong → 2 ^ 26 < length text)
      → Loads view (in_file file Fault meaning text) (Err (ended_unread file why))
  unfolding in_file
  unread text whole.ReadFault long = tt
  unread text whole.TooLong long = rw (lt-ltb (2 ^ 26) (length text) (long refl)) refl
  unread text whole.Memory long = tt

  within : (text : List ℕ) (result : Result T CommandError) → length text ≤ 2 ^ 26 → Loads view (refused_for file Fault (meaning text)) result
      → Loads view (in_file file Fault meaning text) result
  unfolding in_file
  within text result short says = rw (le-ltb (2 ^ 26) (length text) short) says

  -- a file that could not be read whole
  pub unread_says : (held : Option (List ℕ → Option (List ℕ))) (name : List ℕ) (why : WholeFault) (e : CommandError) → e ≡ ended_unread file why
      → (why ≡ whole.TooLong → IfSome held (λ h. 2 ^ 26 < length (texts_of h name)))
      → IfSome held (λ h. Loads view (in_file file Fault meaning (texts_of h name)) (Err e))
  unread_says None name why e is long = tt
  unread_says (Some h) name why e is long =
      subst (λ (x : CommandError). Loads view (in_file file Fault meaning (texts_of h name)) (Err x)) (sym is) (unread (texts_of h name) why long)

  -- a file within the limit says what its text means
  pub text_says : (held : Option (List ℕ → Option (List ℕ))) (name bytes slice : List ℕ) (count : ℕ) (result : Result T CommandError) → slice ≡ bytes
      → length slice ≡ count → IfSome held (λ h. bytes ≡ texts_of h name) → count ≤ 2 ^ 26
      → Loads view (refused_for file Fault (meaning slice)) result → IfSome held (λ h. Loads view (in_file file Fault meaning (texts_of h name)) result)
  text_says None name bytes slice count result same counted whole short says = tt
  text_says (Some h) name bytes slice count result same counted whole short says =
      subst (λ (t : List ℕ). Loads view (in_file file Fault meaning t) result) (same ∙ whole)
      (within slice result (subst (λ (n : ℕ). n ≤ 2 ^ 26) (sym counted) short) says)

-- a text with a fault ends the command, for the fault or for out of memory
by_topology : {T X : Type 0} (view : T → X) (why : TopoFault) (read : Result X TopoFault) → TopologyFails why read
    → Loads view (refused_for input.Topology fault.Topology read) (Err (ended_by_topology why))
by_topology view topo.Memory read fails = tt
by_topology view why read fails = ap (refused_for input.Topology fault.Topology) fails

pub topology_fails : {T X : Type 0} (view : T → X) (why : TopoFault) (read : Result X TopoFault) (e : CommandError) → e ≡ ended_by_topology why
    → TopologyFails why read → Loads view (refused_for input.Topology fault.Topology read) (Err e)
topology_fails view why read e is fails =
    subst (λ (x : CommandError). Loads view (refused_for input.Topology fault.Topology read) (Err x)) (sym is) (by_topology view why read fails)

by_plan : {T X : Type 0} (view : T → X) (file : Input) (why : PlanFault) (read : Result X PlanFault) → PlanFails why read
    → Loads view (refused_for file fault.Plan read) (Err (ended_by_plan file why))
by_plan view file plan.Memory read fails = tt
by_plan view file why read fails = ap (refused_for file fault.Plan) fails

pub plan_fails : {T X : Type 0} (view : T → X) (file : Input) (why : PlanFault) (read : Result X PlanFault) (e : CommandError) → e ≡ ended_by_plan file why
    → PlanFails why read → Loads view (refused_for file fault.Plan read) (Err e)
plan_fails view file why read e is fails =
    subst (λ (x : CommandError). Loads view (refused_for file fault.Plan read) (Err x)) (sym is) (by_plan view file why read fails)

-- a command whose file is not refused goes on with what it says
goes_on : {T X : Type 0} (view : T → X) (says : Result X Refusal) (Then : X → Allowed) (x : T) (made : Result Answer CommandError) → says ≡ Ok (view x)
    → IsAllowed (Then (view x)) made → IsAllowed (After says Then) made
goes_on {X = X} view says Then x made is makes = subst (λ (s : Result X Refusal). IsAllowed (After s Then) made) (sym is) makes

-- what holds whatever the texts are holds where they are told
pub told_always : {P : Type 0} (held : Option (List ℕ → Option (List ℕ))) → P → IfSome held (λ h. P)
told_always None p = tt
told_always (Some h) p = p

-- the same over texts that are told or not
module _ {T X : Type 0} (view : T → X) (says : Texts → Result X Refusal) (Then : Texts → X → Allowed) (held : Option (List ℕ → Option (List ℕ))) where
  pub told_goes_on : (x : T) (made : Result Answer CommandError) → IfSome held (λ h. Loads view (says (texts_of h)) (Ok x))
      → IfSome held (λ h. IsAllowed (Then (texts_of h) (view x)) made) → IfSome held (λ h. IsAllowed (After (says (texts_of h)) (Then (texts_of h))) made)
  told_goes_on x made loads makes = told held loads makes
    where
      told : (h : Option (List ℕ → Option (List ℕ))) → IfSome h (λ t. Loads view (says (texts_of t)) (Ok x))
          → IfSome h (λ t. IsAllowed (Then (texts_of t) (view x)) made) → IfSome h (λ t. IsAllowed (After (says (texts_of t)) (Then (texts_of t))) made)
      told None l m = tt
      told (Some t) l m = goes_on view (says (texts_of t)) (Then (texts_of t)) x made l m
