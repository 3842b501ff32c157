-- A topology that is written again with another version changes no answer of `replay` and `order`.
use Rattle.std.proofs.Common.{cond, ◌≡◌, ℕ, ◌+◌, Bool, List, [], ◌∷◌, ◌++◌, Option, Some, None, Result, Ok, Err, refl, sym, ap, ◌∙◌, subst, length}
use Rattle.std.specs.Prelude.{◌||◌, nat_lt, count_by, codes, decimal}
use Rattle.std.specs.List.{list_any}
use Rattle.serde_json.specs.Data.{Data}
use Rattle.sd_num.specs.Texts.{text_of}
use Rattle.sd_io.specs.stream.Lines.{lines}
use Rattle.sd_plan.specs.topo.Network.{Network}
use Rattle.sd_plan.proofs.topo.Versions.{with_version}
use Rattle.sd_plan.specs.declared.Plan.{Plan}
use Rattle.sd_plantext.specs.Reading.{tree_of}
use Rattle.sd_plantext.specs.declared.fault.PlanFault.{PlanFault}
use Rattle.sd_plantext.proofs.Versions.{plan_of-with_version}
use Rattle.sd_checker.specs.declared.Verdict.{Verdict}
use Rattle.sd_checker.specs.declared.Verdict.TheVariants.{Accepted, Refused}
use Rattle.sd_checker.proofs.Versions.{refused_line-with_version, IsVerdict-with_version}
use Rattle.sd_sched.specs.declared.Event.{Event}
use Rattle.sd_sched.specs.declared.LineFault.{LineFault}
use Rattle.sd_sched.specs.Lines.{event_of_line}
use Rattle.sd_history.specs.declared.ApplyFault.{ApplyFault}
use Rattle.sd_history.specs.World.{Setting, setting_over}
use Rattle.sd_history.specs.Steps.{Step}
use Rattle.sd_history.specs.Chronicle.{chronicle}
use Rattle.sd_history.specs.Refusals.{refusal}
use Rattle.sd_history.specs.Lines.{Line, lines_of, reports}
use Rattle.sd_history.specs.Text.{bytes_of, done_bytes}
use Rattle.sd_replay.specs.Tallies.{is_alarm, is_broken, lines_that, shows_trouble, tally_of}
use Rattle.sd_replay.specs.wait.Printed.{waits_line}
use Rattle.sd_replay.specs.wait.Waits.{tally_of as waits_of}
use Rattle.sd_files.specs.Answering.{Allowed, After}
use Rattle.sd_files.specs.Inputs.{in_file, plan_in_file, topology_of}
use Rattle.sd_files.specs.declared.Status.{Status}
use Rattle.sd_files.specs.declared.command_error.FileFault.TheVariants as fault
use Rattle.sd_files.specs.declared.command_error.Input.TheVariants as input
use Rattle.sd_files.specs.declared.command_error.Refusal.{Refusal}
use Rattle.sd_files.specs.planfiles.PlanFiles.{AfterAllPlans, AfterJudged, AfterPlans, AfterVerdict}
use Rattle.sd_files.specs.work.Works.{Reading, Work, IsOutcome, all_bytes, judged, last_bytes, length_fault, read_on, reading, reading_from, status_for, unless_too_long, written_for}
use Rattle.sd_commands.specs.replay.Replays.{IsOrder, IsReplay, IsRun, accepted, order_work, replay_work, shows_disorder, status_if, unless_refused, waits_after, with_waits}
use Rattle.std.specs.List.{concat}
use Rattle.sd_io.specs.outside.Pieces.{piece_of}
use Rattle.sd_commands.proofs.replay.Versions.{bytes_alike, chronicle_alike, lines_alike, refusal_alike}

-- Works that say the same

pub record AreAlike (one other : Work Event) : Type 0 where
  pub name : one.name ≡ other.name
  pub says : (events : List Event) (line : List ℕ) → one.says events line ≡ other.says events line
  pub ends : one.ends ≡ other.ends
  pub bytes : (events : List Event) (e : Event) → one.bytes events e ≡ other.bytes events e
  pub last_pieces : (events : List Event) → one.last_pieces events ≡ other.last_pieces events
  pub last_status : (events : List Event) → one.last_status events ≡ other.last_status events

module _ (one other : Work Event) (alike : AreAlike one other) where
  read_alike : (said : Result Event (List ℕ)) (events : List Event) (next after : Event → Reading Event) → ((e : Event) → next e ≡ after e)
      → read_on said events next ≡ read_on said events after
  read_alike (Ok e) events next after same = same e
  read_alike (Err why) events next after same = refl

  -- what is read where the lines end
  abbrev closed : List Event → (Event → Bool) → Reading Event
  closed events ends = record { taken = events; refused = cond (list_any ends events) None (Some (codes "NoEnd")) }

  from_alike : (total start : ℕ) (events : List Event) (ls : List (List ℕ)) → reading_from one total start events ls ≡ reading_from other total start events ls
  unfolding reading_from
  from_alike total start events [] = ap (closed events) alike.ends
  from_alike total start events (line ∷ others) =
      ap (λ (said : Result Event (List ℕ)). read_on (unless_too_long (length_fault total start line) said) events
      (λ e. reading_from one total (start + length line + 1) (e ∷ events) others)) (alike.says events line)
      ∙ read_alike (judged other total start events line) events (λ e. reading_from one total (start + length line + 1) (e ∷ events) others)
      (λ e. reading_from other total (start + length line + 1) (e ∷ events) others)
      (λ e. from_alike total (start + length line + 1) (e ∷ events) others)

  reading_alike : (text : List ℕ) → reading one text ≡ reading other text
  unfolding reading
  reading_alike text = from_alike (length text) 0 [] (lines text)

  all_alike : (events : List Event) → all_bytes one events ≡ all_bytes other events
  unfolding all_bytes
  all_alike [] = refl
  all_alike (e ∷ earlier) = ap (λ (b : List ℕ). b ++ one.bytes earlier e) (all_alike earlier)
      ∙ ap (λ (b : List ℕ). all_bytes other earlier ++ b) (alike.bytes earlier e)

  last_alike : (events : List Event) (refused : Option (List ℕ)) → last_bytes one events refused ≡ last_bytes other events refused
  last_alike events None = ap concat (alike.last_pieces events)
  last_alike events (Some why) = ap (λ (name : List ℕ). text_of (codes "input" ∷ name ∷ decimal (length events + 1) ∷ why ∷ [])) alike.name

  status_alike : (events : List Event) (refused : Option (List ℕ)) → status_for one events refused ≡ status_for other events refused
  status_alike events None = alike.last_status events
  status_alike events (Some why) = refl

  written_alike : (r : Reading Event) → written_for one r ≡ written_for other r
  written_alike r = ap (λ (b : List ℕ). b ++ last_bytes one r.taken r.refused) (all_alike r.taken)
      ∙ ap (λ (b : List ℕ). all_bytes other r.taken ++ b) (last_alike r.taken r.refused)

  outcome_alike : (text bytes : List ℕ) (status : Status) → IsOutcome one text bytes status → IsOutcome other text bytes status
  outcome_alike text bytes status (printed, answered) = (
    printed ∙ written_alike (reading one text) ∙ ap (written_for other) (reading_alike text),
    answered ∙ status_alike (reading one text).taken (reading one text).refused
        ∙ ap (λ (r : Reading Event). status_for other r.taken r.refused) (reading_alike text),
  )

module _ (v w : ℕ) (net : Network) where
  abbrev old_net : Network
  old_net = with_version v net

  abbrev new_net : Network
  new_net = with_version w net

  module _ (plans : List Plan) where
    abbrev old : Setting
    old = setting_over old_net plans

    abbrev new : Setting
    new = setting_over new_net plans

    accepted_alike : (events : List Event) (said : Result Event LineFault) → accepted old events said ≡ accepted new events said
    accepted_alike events (Err why) = refl
    accepted_alike events (Ok e) =
        ap (λ (steps : List Step). unless_refused (refusal old steps e) e) (chronicle_alike v w net plans events)
        ∙ ap (λ (r : Option ApplyFault). unless_refused r e) (refusal_alike v w net plans (chronicle new events) e)

    counted_alike : (test : Line → Bool) (steps : List Step) → lines_that test old steps ≡ lines_that test new steps
    counted_alike test [] = refl
    counted_alike test (s ∷ earlier) =
        ap (λ (n : ℕ). n + count_by test (lines_of old (s ∷ earlier))) (counted_alike test earlier)
        ∙ ap (λ (ls : List Line). lines_that test new earlier + count_by test ls) (lines_alike v w net plans (s ∷ earlier))

    trouble_alike : (steps : List Step) → shows_trouble (tally_of old steps) ≡ shows_trouble (tally_of new steps)
    trouble_alike steps = ap (λ (n : ℕ). nat_lt 0 n || nat_lt 0 (lines_that is_alarm old steps)) (counted_alike is_broken steps)
        ∙ ap (λ (n : ℕ). nat_lt 0 (lines_that is_broken new steps) || nat_lt 0 n) (counted_alike is_alarm steps)

    waits_alike : (steps : List Step) → with_waits old steps ≡ with_waits new steps
    waits_alike [] = refl
    waits_alike (s ∷ earlier) = ap (λ (b : List ℕ). b ++ waits_after old earlier s) (bytes_alike v w net plans (s ∷ earlier))

    replays_alike : AreAlike (replay_work old) (replay_work new)
    replays_alike =
        record {
          name = refl;
          says = λ events line. accepted_alike events (event_of_line line);
          ends = refl;
          bytes = λ events e. ap (bytes_of old) (chronicle_alike v w net plans (e ∷ events)) ∙ bytes_alike v w net plans (chronicle new (e ∷ events));
          last_pieces = λ events. ap (λ (steps : List Step). piece_of (done_bytes steps)) (chronicle_alike v w net plans events);
          last_status = λ events. ap (λ (steps : List Step). status_if (shows_trouble (tally_of old steps))) (chronicle_alike v w net plans events)
              ∙ ap status_if (trouble_alike (chronicle new events));
        }

    orders_alike : AreAlike (order_work old) (order_work new)
    orders_alike =
        record {
          name = refl;
          says = λ events line. accepted_alike events (event_of_line line);
          ends = refl;
          bytes = λ events e. ap (with_waits old) (chronicle_alike v w net plans (e ∷ events)) ∙ waits_alike (chronicle new (e ∷ events));
          last_pieces = λ events. ap (λ (steps : List Step). piece_of (done_bytes steps) ++ piece_of (waits_line (waits_of (reports steps))))
              (chronicle_alike v w net plans events);
          last_status = λ events. ap (λ (steps : List Step). status_if (shows_disorder old steps)) (chronicle_alike v w net plans events)
              ∙ ap (λ (trouble : Bool). status_if (trouble || nat_lt 0 (waits_of (reports (chronicle new events))).disorders))
              (trouble_alike (chronicle new events));
        }

  -- Plans

  plan_file : (place : ℕ) (text : List ℕ) → plan_in_file old_net place text ≡ plan_in_file new_net place text
  plan_file place text =
      ap (λ (meaning : Option Data → Result Plan PlanFault). in_file (input.Plan place) fault.Plan (λ t. meaning (tree_of t)) text)
      (plan_of-with_version v w net)

  verdict_carried : (place : ℕ) (verdict : Verdict) (Then Later : Allowed) (bytes : List ℕ) (status : Status) → (Then bytes status → Later bytes status)
      → AfterVerdict old_net place verdict Then bytes status → AfterVerdict new_net place verdict Later bytes status
  verdict_carried place Accepted Then Later bytes status carried written = carried written
  verdict_carried place (Refused breach) Then Later bytes status carried (printed, answered) =
      (printed ∙ refused_line-with_version v w net place breach, answered)

  file_carried : (place : ℕ) (says : Result Plan Refusal) (Then Later : Plan → Allowed) (bytes : List ℕ) (status : Status)
      → ((plan : Plan) → Then plan bytes status → Later plan bytes status)
      → After says (λ plan. AfterJudged old_net place plan (Then plan)) bytes status
      → After says (λ plan. AfterJudged new_net place plan (Later plan)) bytes status
  file_carried place (Err why) Then Later bytes status carried written = written
  file_carried place (Ok plan) Then Later bytes status carried (verdict, says, told) =
      (verdict, IsVerdict-with_version v w net plan verdict says, verdict_carried place verdict (Then plan) (Later plan) bytes status (carried plan) told)

  plans_carried : (place : ℕ) (front : List Plan) (texts : List (List ℕ)) (Then Later : List Plan → Allowed) (bytes : List ℕ) (status : Status)
      → ((plans : List Plan) → Then plans bytes status → Later plans bytes status)
      → AfterPlans old_net place front texts Then bytes status → AfterPlans new_net place front texts Later bytes status
  plans_carried place front [] Then Later bytes status carried written = carried front written
  plans_carried place front (text ∷ texts) Then Later bytes status carried written =
      let Next : Plan → Allowed = λ plan. AfterPlans new_net (place + 1) (front ++ plan ∷ []) texts Later in
      subst (λ (s : Result Plan Refusal). After s (λ plan. AfterJudged new_net place plan (Next plan)) bytes status) (plan_file place text)
      (file_carried place (plan_in_file old_net place text) (λ plan. AfterPlans old_net (place + 1) (front ++ plan ∷ []) texts Then) Next bytes status
      (λ plan. plans_carried (place + 1) (front ++ plan ∷ []) texts Then Later bytes status carried) written)

  module _ (text other : List ℕ) (reads : topology_of text ≡ Ok old_net) (rereads : topology_of other ≡ Ok new_net) (plans : List (List ℕ))
      (schedule bytes : List ℕ) (status : Status) where
    run_carried : (work : Setting → Work Event) → ((read : List Plan) → AreAlike (work (setting_over old_net read)) (work (setting_over new_net read)))
        → IsRun work text plans schedule bytes status → IsRun work other plans schedule bytes status
    run_carried work same written =
        let Then : Network → List Plan → Allowed = λ n accepted. IsOutcome (work (setting_over n accepted)) schedule in
        subst (λ (s : Result Network Refusal). After s (λ n. AfterAllPlans n plans (Then n)) bytes status) (sym rereads)
        (plans_carried 1 [] plans (Then old_net) (Then new_net) bytes status
        (λ read. outcome_alike (work (setting_over old_net read)) (work (setting_over new_net read)) (same read) schedule bytes status)
        (subst (λ (s : Result Network Refusal). After s (λ n. AfterAllPlans n plans (Then n)) bytes status) reads written))

pub replay_with_version : (v w : ℕ) (net : Network) (text other : List ℕ) → topology_of text ≡ Ok (with_version v net)
    → topology_of other ≡ Ok (with_version w net) → (plans : List (List ℕ)) (schedule : List ℕ) (bytes : List ℕ) (status : Status)
    → IsReplay text plans schedule bytes status → IsReplay other plans schedule bytes status
replay_with_version v w net text other reads rereads plans schedule bytes status written =
    run_carried v w net text other reads rereads plans schedule bytes status replay_work (replays_alike v w net) written

pub order_with_version : (v w : ℕ) (net : Network) (text other : List ℕ) → topology_of text ≡ Ok (with_version v net)
    → topology_of other ≡ Ok (with_version w net) → (plans : List (List ℕ)) (schedule : List ℕ) (bytes : List ℕ) (status : Status)
    → IsOrder text plans schedule bytes status → IsOrder other plans schedule bytes status
order_with_version v w net text other reads rereads plans schedule bytes status written =
    run_carried v w net text other reads rereads plans schedule bytes status order_work (orders_alike v w net) written
