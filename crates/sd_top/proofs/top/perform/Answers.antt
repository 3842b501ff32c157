use Rattle.std.proofs.Common.{[], ◌∷◌, None, Some, ap, map, refl, string_bytes, sym, ◌∙◌}
use Rattle.std.specs.Prelude.{IsTrue}
use Rattle.sd_files.proofs.Loading.{told_always}
use Rattle.sd_top.specs.Parsed.{named}
use Rattle.sd_top.specs.Words.{OfTopology, OfPlan, OfAbsent, command_of, files_of}
use Rattle.sd_top.specs.Words.Command.{Solo, Plan, Check, Renew, Replay, Case, Migrate, Order, Twoway, Drill}
use Rattle.sd_top.specs.declared.words.Command.{Command as Parsed}
use Rattle.sd_drill_text.proofs.Commands.{leaves_written}
use Rattle.sd_top.proofs.Performing.{meets_told, meets_once, near_told, near_nothing}
use Rattle.sd_files.proofs.Keeping.{keeps_for}
use Rattle.sd_top.specs.Promise.{IsUsage}
use Rattle.sd_top.proofs.Serving.{serves_first, serves_second, serves_third, serves_topology, serves_plans, serves_schedule}
use Rattle.sd_top.proofs.top.perform.Goals as goal

pub returns-in-Some-Solo-clause-outcome : goal.returns-in-Some-Solo-clause-outcome
returns-in-Some-Solo-clause-outcome g c =
    meets_told _ _ (Some (Solo c.in-Some-Solo.schedule.now)) _ _ _
    (ap (λ (x : Parsed). Some (named x)) (sym c.in-Some-Solo.field-0-is) ∙ c.in-Some-Solo.ensures.is) c.solo.ensures.outcome

pub returns-in-Some-Solo-clause-near : goal.returns-in-Some-Solo-clause-near
returns-in-Some-Solo-clause-near g c =
    λ refused. near_told _ _ (Some (Solo c.in-Some-Solo.schedule.now)) _
    (ap (λ (x : Parsed). Some (named x)) (sym c.in-Some-Solo.field-0-is) ∙ c.in-Some-Solo.ensures.is) (c.solo.ensures.near refused)

pub returns-in-Some-Plan-clause-outcome : goal.returns-in-Some-Plan-clause-outcome
returns-in-Some-Plan-clause-outcome g c =
    meets_once _ _ (Some (Plan c.in-Some-Plan.topology.now)) c.plan-made.result _ _ _
    (ap (λ (x : Parsed). Some (named x)) (sym c.in-Some-Plan.field-0-is)
    ∙ c.in-Some-Plan.ensures.is) refl (λ texts. refl) c.plan-made.ensures.makes c.write_answer.ensures.writes

pub returns-in-Some-Plan-clause-near : goal.returns-in-Some-Plan-clause-near
returns-in-Some-Plan-clause-near g c =
    λ refused. near_nothing _ _ (Some (Plan c.in-Some-Plan.topology.now)) _
    (ap (λ (x : Parsed). Some (named x)) (sym c.in-Some-Plan.field-0-is) ∙ c.in-Some-Plan.ensures.is) (λ texts. refl)

pub returns-in-Some-Check-clause-outcome : goal.returns-in-Some-Check-clause-outcome
returns-in-Some-Check-clause-outcome g c =
    meets_once _ _ (Some (Check c.in-Some-Check.topology.now c.in-Some-Check.plan.now)) c.check-made.result _ _ _
    (ap (λ (x : Parsed). Some (named x)) (sym c.in-Some-Check.field-0-is)
    ∙ c.in-Some-Check.ensures.is) refl (λ texts. refl) c.check-made.ensures.makes c.write_answer-in-Some-Check.ensures.writes

pub returns-in-Some-Check-clause-near : goal.returns-in-Some-Check-clause-near
returns-in-Some-Check-clause-near g c =
    λ refused. near_nothing _ _ (Some (Check c.in-Some-Check.topology.now c.in-Some-Check.plan.now)) _
    (ap (λ (x : Parsed). Some (named x)) (sym c.in-Some-Check.field-0-is) ∙ c.in-Some-Check.ensures.is) (λ texts. refl)

pub renew-made-requires-clause-topology : goal.renew-made-requires-clause-topology
renew-made-requires-clause-topology g c =
    serves_first (λ name. IsTrue (g.S.Shelf.serves c.args.shelf.now name)) (OfTopology c.in-Some-Renew.topology.now) (OfPlan c.in-Some-Renew.plan.now)
    (OfAbsent c.in-Some-Renew.absent.now ∷ []) (files_of (command_of (map string_bytes c.args.words.now)))
    (ap files_of (ap (λ (x : Parsed). Some (named x)) (sym c.in-Some-Renew.field-0-is) ∙ c.in-Some-Renew.ensures.is)) c.requires

pub renew-made-requires-clause-plan : goal.renew-made-requires-clause-plan
renew-made-requires-clause-plan g c =
    serves_second (λ name. IsTrue (g.S.Shelf.serves c.args.shelf.now name)) (OfTopology c.in-Some-Renew.topology.now) (OfPlan c.in-Some-Renew.plan.now)
    (OfAbsent c.in-Some-Renew.absent.now ∷ []) (files_of (command_of (map string_bytes c.args.words.now)))
    (ap files_of (ap (λ (x : Parsed). Some (named x)) (sym c.in-Some-Renew.field-0-is) ∙ c.in-Some-Renew.ensures.is)) c.requires

pub renew-made-requires-clause-absent : goal.renew-made-requires-clause-absent
renew-made-requires-clause-absent g c =
    serves_third (λ name. IsTrue (g.S.Shelf.serves c.args.shelf.now name)) (OfTopology c.in-Some-Renew.topology.now) (OfPlan c.in-Some-Renew.plan.now)
    (OfAbsent c.in-Some-Renew.absent.now) [] (files_of (command_of (map string_bytes c.args.words.now)))
    (ap files_of (ap (λ (x : Parsed). Some (named x)) (sym c.in-Some-Renew.field-0-is) ∙ c.in-Some-Renew.ensures.is)) c.requires

pub returns-in-Some-Renew-clause-outcome : goal.returns-in-Some-Renew-clause-outcome
returns-in-Some-Renew-clause-outcome g c =
    meets_once _ _ (Some (Renew c.in-Some-Renew.topology.now c.in-Some-Renew.plan.now c.in-Some-Renew.absent.now)) c.renew-made.result _ _ _
    (ap (λ (x : Parsed). Some (named x)) (sym c.in-Some-Renew.field-0-is)
    ∙ c.in-Some-Renew.ensures.is) refl (λ texts. refl) c.renew-made.ensures.makes c.write_answer-in-Some-Renew.ensures.writes

pub returns-in-Some-Renew-clause-near : goal.returns-in-Some-Renew-clause-near
returns-in-Some-Renew-clause-near g c =
    λ refused. near_nothing _ _ (Some (Renew c.in-Some-Renew.topology.now c.in-Some-Renew.plan.now c.in-Some-Renew.absent.now)) _
    (ap (λ (x : Parsed). Some (named x)) (sym c.in-Some-Renew.field-0-is) ∙ c.in-Some-Renew.ensures.is) (λ texts. refl)

pub replay-requires-clause-topology : goal.replay-requires-clause-topology
replay-requires-clause-topology g c =
    serves_topology (λ name. IsTrue (g.S.Shelf.serves c.args.shelf.now name)) c.in-Some-Replay.files.schedule.now c.in-Some-Replay.files.topology.now
    (map string_bytes c.in-Some-Replay.files.plans.now) (files_of (command_of (map string_bytes c.args.words.now)))
    (ap files_of (ap (λ (x : Parsed). Some (named x)) (sym c.in-Some-Replay.field-0-is) ∙ c.in-Some-Replay.ensures.is)) c.requires

pub replay-requires-clause-plans : goal.replay-requires-clause-plans
replay-requires-clause-plans g c =
    serves_plans (λ name. IsTrue (g.S.Shelf.serves c.args.shelf.now name)) c.in-Some-Replay.files.schedule.now c.in-Some-Replay.files.topology.now
    (map string_bytes c.in-Some-Replay.files.plans.now) (files_of (command_of (map string_bytes c.args.words.now)))
    (ap files_of (ap (λ (x : Parsed). Some (named x)) (sym c.in-Some-Replay.field-0-is) ∙ c.in-Some-Replay.ensures.is)) c.requires

pub replay-requires-clause-schedule : goal.replay-requires-clause-schedule
replay-requires-clause-schedule g c =
    serves_schedule (λ name. IsTrue (g.S.Shelf.serves c.args.shelf.now name)) c.in-Some-Replay.files.schedule.now c.in-Some-Replay.files.topology.now
    (map string_bytes c.in-Some-Replay.files.plans.now) (files_of (command_of (map string_bytes c.args.words.now)))
    (ap files_of (ap (λ (x : Parsed). Some (named x)) (sym c.in-Some-Replay.field-0-is) ∙ c.in-Some-Replay.ensures.is)) c.requires

pub returns-in-Some-Replay-clause-outcome : goal.returns-in-Some-Replay-clause-outcome
returns-in-Some-Replay-clause-outcome g c =
    meets_told _ _ (Some (Replay c.in-Some-Replay.files.topology.now (map string_bytes c.in-Some-Replay.files.plans.now) c.in-Some-Replay.files.schedule.now)) _
    _ _ (ap (λ (x : Parsed). Some (named x)) (sym c.in-Some-Replay.field-0-is) ∙ c.in-Some-Replay.ensures.is) c.replay.ensures.outcome

pub returns-in-Some-Replay-clause-near : goal.returns-in-Some-Replay-clause-near
returns-in-Some-Replay-clause-near g c =
    λ refused. near_told _ _
    (Some (Replay c.in-Some-Replay.files.topology.now (map string_bytes c.in-Some-Replay.files.plans.now) c.in-Some-Replay.files.schedule.now)) _
    (ap (λ (x : Parsed). Some (named x)) (sym c.in-Some-Replay.field-0-is) ∙ c.in-Some-Replay.ensures.is) (c.replay.ensures.near refused)

pub returns-in-Some-Case-clause-outcome : goal.returns-in-Some-Case-clause-outcome
returns-in-Some-Case-clause-outcome g c =
    meets_once _ _ (Some (Case c.in-Some-Case.number c.in-Some-Case.fabric)) c.case-made.result _ _ _
    (ap (λ (x : Parsed). Some (named x)) (sym c.in-Some-Case.field-0-is) ∙ c.in-Some-Case.ensures.is) refl (λ texts. refl)
    (told_always _ c.case-made.ensures.makes) c.write_answer-in-Some-Case.ensures.writes

pub returns-in-Some-Case-clause-near : goal.returns-in-Some-Case-clause-near
returns-in-Some-Case-clause-near g c =
    λ refused. near_nothing _ _ (Some (Case c.in-Some-Case.number c.in-Some-Case.fabric)) _
    (ap (λ (x : Parsed). Some (named x)) (sym c.in-Some-Case.field-0-is) ∙ c.in-Some-Case.ensures.is) (λ texts. refl)

pub returns-in-Some-Migrate-clause-outcome : goal.returns-in-Some-Migrate-clause-outcome
returns-in-Some-Migrate-clause-outcome g c =
    meets_once _ _ (Some (Migrate c.in-Some-Migrate.topology.now)) c.migrate-made.result _ _ _
    (ap (λ (x : Parsed). Some (named x)) (sym c.in-Some-Migrate.field-0-is)
    ∙ c.in-Some-Migrate.ensures.is) refl (λ texts. refl) c.migrate-made.ensures.makes c.write_answer-in-Some-Migrate.ensures.writes

pub returns-in-Some-Migrate-clause-near : goal.returns-in-Some-Migrate-clause-near
returns-in-Some-Migrate-clause-near g c =
    λ refused. near_nothing _ _ (Some (Migrate c.in-Some-Migrate.topology.now)) _
    (ap (λ (x : Parsed). Some (named x)) (sym c.in-Some-Migrate.field-0-is) ∙ c.in-Some-Migrate.ensures.is) (λ texts. refl)

pub order-requires-clause-topology : goal.order-requires-clause-topology
order-requires-clause-topology g c =
    serves_topology (λ name. IsTrue (g.S.Shelf.serves c.args.shelf.now name)) c.in-Some-Order.files.schedule.now c.in-Some-Order.files.topology.now
    (map string_bytes c.in-Some-Order.files.plans.now) (files_of (command_of (map string_bytes c.args.words.now)))
    (ap files_of (ap (λ (x : Parsed). Some (named x)) (sym c.in-Some-Order.field-0-is) ∙ c.in-Some-Order.ensures.is)) c.requires

pub order-requires-clause-plans : goal.order-requires-clause-plans
order-requires-clause-plans g c =
    serves_plans (λ name. IsTrue (g.S.Shelf.serves c.args.shelf.now name)) c.in-Some-Order.files.schedule.now c.in-Some-Order.files.topology.now
    (map string_bytes c.in-Some-Order.files.plans.now) (files_of (command_of (map string_bytes c.args.words.now)))
    (ap files_of (ap (λ (x : Parsed). Some (named x)) (sym c.in-Some-Order.field-0-is) ∙ c.in-Some-Order.ensures.is)) c.requires

pub order-requires-clause-schedule : goal.order-requires-clause-schedule
order-requires-clause-schedule g c =
    serves_schedule (λ name. IsTrue (g.S.Shelf.serves c.args.shelf.now name)) c.in-Some-Order.files.schedule.now c.in-Some-Order.files.topology.now
    (map string_bytes c.in-Some-Order.files.plans.now) (files_of (command_of (map string_bytes c.args.words.now)))
    (ap files_of (ap (λ (x : Parsed). Some (named x)) (sym c.in-Some-Order.field-0-is) ∙ c.in-Some-Order.ensures.is)) c.requires

pub returns-in-Some-Order-clause-outcome : goal.returns-in-Some-Order-clause-outcome
returns-in-Some-Order-clause-outcome g c =
    meets_told _ _ (Some (Order c.in-Some-Order.files.topology.now (map string_bytes c.in-Some-Order.files.plans.now) c.in-Some-Order.files.schedule.now)) _ _ _
    (ap (λ (x : Parsed). Some (named x)) (sym c.in-Some-Order.field-0-is) ∙ c.in-Some-Order.ensures.is) c.order.ensures.outcome

pub returns-in-Some-Order-clause-near : goal.returns-in-Some-Order-clause-near
returns-in-Some-Order-clause-near g c =
    λ refused. near_told _ _
    (Some (Order c.in-Some-Order.files.topology.now (map string_bytes c.in-Some-Order.files.plans.now) c.in-Some-Order.files.schedule.now)) _
    (ap (λ (x : Parsed). Some (named x)) (sym c.in-Some-Order.field-0-is) ∙ c.in-Some-Order.ensures.is) (c.order.ensures.near refused)

pub returns-in-Some-Twoway-clause-outcome : goal.returns-in-Some-Twoway-clause-outcome
returns-in-Some-Twoway-clause-outcome g c =
    meets_told _ _ (Some (Twoway c.in-Some-Twoway.topology.now c.in-Some-Twoway.exchanges.now)) _ _ _
    (ap (λ (x : Parsed). Some (named x)) (sym c.in-Some-Twoway.field-0-is) ∙ c.in-Some-Twoway.ensures.is) c.twoway.ensures.outcome

pub returns-in-Some-Twoway-clause-near : goal.returns-in-Some-Twoway-clause-near
returns-in-Some-Twoway-clause-near g c =
    λ refused. near_told _ _ (Some (Twoway c.in-Some-Twoway.topology.now c.in-Some-Twoway.exchanges.now)) _
    (ap (λ (x : Parsed). Some (named x)) (sym c.in-Some-Twoway.field-0-is) ∙ c.in-Some-Twoway.ensures.is) (c.twoway.ensures.near refused)

pub print_texts-requires-clause-topology : goal.print_texts-requires-clause-topology
print_texts-requires-clause-topology g c =
    serves_first (λ name. IsTrue (g.S.Shelf.serves c.args.shelf.now name)) (OfTopology c.in-Some-Drill.topology.now) (OfPlan c.in-Some-Drill.plan.now) []
    (files_of (command_of (map string_bytes c.args.words.now)))
    (ap files_of (ap (λ (x : Parsed). Some (named x)) (sym c.in-Some-Drill.field-0-is) ∙ c.in-Some-Drill.ensures.is)) c.requires

pub print_texts-requires-clause-plan : goal.print_texts-requires-clause-plan
print_texts-requires-clause-plan g c =
    serves_second (λ name. IsTrue (g.S.Shelf.serves c.args.shelf.now name)) (OfTopology c.in-Some-Drill.topology.now) (OfPlan c.in-Some-Drill.plan.now) []
    (files_of (command_of (map string_bytes c.args.words.now)))
    (ap files_of (ap (λ (x : Parsed). Some (named x)) (sym c.in-Some-Drill.field-0-is) ∙ c.in-Some-Drill.ensures.is)) c.requires

pub returns-in-Some-Drill-clause-outcome : goal.returns-in-Some-Drill-clause-outcome
returns-in-Some-Drill-clause-outcome g c =
    meets_told _ _ (Some (Drill c.in-Some-Drill.topology.now c.in-Some-Drill.plan.now c.in-Some-Drill.budget)) _ _ _
    (ap (λ (x : Parsed). Some (named x)) (sym c.in-Some-Drill.field-0-is) ∙ c.in-Some-Drill.ensures.is) c.print_texts.ensures.outcome

pub returns-in-Some-Drill-clause-near : goal.returns-in-Some-Drill-clause-near
returns-in-Some-Drill-clause-near g c =
    λ refused. near_nothing _ _ (Some (Drill c.in-Some-Drill.topology.now c.in-Some-Drill.plan.now c.in-Some-Drill.budget)) _
    (ap (λ (x : Parsed). Some (named x)) (sym c.in-Some-Drill.field-0-is) ∙ c.in-Some-Drill.ensures.is) (λ texts. refl)

pub returns-in-None-clause-outcome : goal.returns-in-None-clause-outcome
returns-in-None-clause-outcome g c = meets_told _ _ None _ _ _ c.in-None.ensures.is (told_always _ (leaves_written IsUsage _ _ _ c.usage.ensures.outcome))

pub returns-in-Some-Plan-clause-shelf : goal.returns-in-Some-Plan-clause-shelf
returns-in-Some-Plan-clause-shelf g c =
    keeps_for g.S.Shelf _ _ _ _ c.write_answer.ensures.shelf.1 c.write_answer.ensures.shelf.0 c.plan-made.ensures.shelf

pub returns-in-Some-Check-clause-shelf : goal.returns-in-Some-Check-clause-shelf
returns-in-Some-Check-clause-shelf g c =
    keeps_for g.S.Shelf _ _ _ _ c.write_answer-in-Some-Check.ensures.shelf.1 c.write_answer-in-Some-Check.ensures.shelf.0 c.check-made.ensures.shelf

pub returns-in-Some-Renew-clause-shelf : goal.returns-in-Some-Renew-clause-shelf
returns-in-Some-Renew-clause-shelf g c =
    keeps_for g.S.Shelf _ _ _ _ c.write_answer-in-Some-Renew.ensures.shelf.1 c.write_answer-in-Some-Renew.ensures.shelf.0 c.renew-made.ensures.shelf

pub returns-in-Some-Migrate-clause-shelf : goal.returns-in-Some-Migrate-clause-shelf
returns-in-Some-Migrate-clause-shelf g c =
    keeps_for g.S.Shelf _ _ _ _ c.write_answer-in-Some-Migrate.ensures.shelf.1 c.write_answer-in-Some-Migrate.ensures.shelf.0 c.migrate-made.ensures.shelf
