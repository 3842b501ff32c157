use Rattle.std.proofs.Common.{[], ◌∷◌, ◌++◌, Some, ap, map, string_bytes, sym, ◌∙◌}
use Rattle.std.specs.Prelude.{IsTrue}
use Rattle.sd_files.proofs.Keeping.{keeps_for}
use Rattle.sd_resume.specs.command.Resumes.{IsResuming}
use Rattle.sd_ctl_top.specs.Findings.{IsRenewing, IsSearch}
use Rattle.sd_ctl_top.specs.Parsed.{named}
use Rattle.sd_ctl_top.specs.Reasons.{IsReasoning}
use Rattle.sd_ctl_top.specs.Words.{command_of, names_of}
use Rattle.sd_ctl_top.specs.Words.Command.{Search, Renew, Why, Bounds, Resume, Record, Merge}
use Rattle.sd_ctl_top.specs.declared.words.Command.{Command as Parsed}
use Rattle.sd_ctl_top.proofs.Meeting.{made_once, meets, usage_meets, version_meets}
use Rattle.sd_ctl_top.proofs.Served.{end_served, first_served, inner_served, last_served, middle_served, name_served, second_served, third_served}
use Rattle.sd_ctl_top.proofs.top.perform.Goals as goal

pub whole_answer-made-requires-clause-topology : goal.whole_answer-made-requires-clause-topology
whole_answer-made-requires-clause-topology g c =
    first_served (λ name. IsTrue (g.S.Shelf.serves c.args.shelf.now name)) (names_of (command_of (map string_bytes c.args.words.now)))
    c.in-Some-Search.topology.now []
    (ap names_of (ap (λ (x : Parsed). Some (named x)) (sym c.in-Some-Search.field-0-is) ∙ c.in-Some-Search.ensures.is)) c.requires

pub returns-in-Some-Search-clause-outcome : goal.returns-in-Some-Search-clause-outcome
returns-in-Some-Search-clause-outcome g c =
    meets _ _ (Some (Search c.in-Some-Search.topology.now c.in-Some-Search.settings)) _ _ _
    (ap (λ (x : Parsed). Some (named x)) (sym c.in-Some-Search.field-0-is) ∙ c.in-Some-Search.ensures.is)
    (made_once _ (λ texts. IsSearch c.in-Some-Search.settings.budget (texts c.in-Some-Search.topology.now)) c.whole_answer-made.result _ _ _ c.whole_answer-made.ensures.makes
    c.write_answer.ensures.writes)

pub returns-in-Some-Search-clause-shelf : goal.returns-in-Some-Search-clause-shelf
returns-in-Some-Search-clause-shelf g c =
    keeps_for g.S.Shelf _ _ _ _ c.write_answer.ensures.shelf.1 c.write_answer.ensures.shelf.0 c.whole_answer-made.ensures.shelf

pub renewal_answer-made-requires-clause-topology : goal.renewal_answer-made-requires-clause-topology
renewal_answer-made-requires-clause-topology g c =
    first_served (λ name. IsTrue (g.S.Shelf.serves c.args.shelf.now name)) (names_of (command_of (map string_bytes c.args.words.now)))
    c.in-Some-Renew.topology.now (c.in-Some-Renew.plan.now ∷ c.in-Some-Renew.absent.now ∷ [])
    (ap names_of (ap (λ (x : Parsed). Some (named x)) (sym c.in-Some-Renew.field-0-is) ∙ c.in-Some-Renew.ensures.is)) c.requires

pub renewal_answer-made-requires-clause-plan : goal.renewal_answer-made-requires-clause-plan
renewal_answer-made-requires-clause-plan g c =
    second_served (λ name. IsTrue (g.S.Shelf.serves c.args.shelf.now name)) (names_of (command_of (map string_bytes c.args.words.now)))
    c.in-Some-Renew.topology.now c.in-Some-Renew.plan.now (c.in-Some-Renew.absent.now ∷ [])
    (ap names_of (ap (λ (x : Parsed). Some (named x)) (sym c.in-Some-Renew.field-0-is) ∙ c.in-Some-Renew.ensures.is)) c.requires

pub renewal_answer-made-requires-clause-absent : goal.renewal_answer-made-requires-clause-absent
renewal_answer-made-requires-clause-absent g c =
    third_served (λ name. IsTrue (g.S.Shelf.serves c.args.shelf.now name)) (names_of (command_of (map string_bytes c.args.words.now)))
    c.in-Some-Renew.topology.now c.in-Some-Renew.plan.now c.in-Some-Renew.absent.now []
    (ap names_of (ap (λ (x : Parsed). Some (named x)) (sym c.in-Some-Renew.field-0-is) ∙ c.in-Some-Renew.ensures.is)) c.requires

pub returns-in-Some-Renew-clause-outcome : goal.returns-in-Some-Renew-clause-outcome
returns-in-Some-Renew-clause-outcome g c =
    meets _ _ (Some (Renew c.in-Some-Renew.topology.now c.in-Some-Renew.plan.now c.in-Some-Renew.absent.now c.in-Some-Renew.settings)) _ _ _
    (ap (λ (x : Parsed). Some (named x)) (sym c.in-Some-Renew.field-0-is) ∙ c.in-Some-Renew.ensures.is)
    (made_once _
    (λ texts. IsRenewing c.in-Some-Renew.settings.budget (texts c.in-Some-Renew.topology.now) (texts c.in-Some-Renew.plan.now)
    (texts c.in-Some-Renew.absent.now))
    c.renewal_answer-made.result _ _ _ c.renewal_answer-made.ensures.makes c.write_answer-in-Some-Renew.ensures.writes)

pub returns-in-Some-Renew-clause-shelf : goal.returns-in-Some-Renew-clause-shelf
returns-in-Some-Renew-clause-shelf g c =
    keeps_for g.S.Shelf _ _ _ _ c.write_answer-in-Some-Renew.ensures.shelf.1 c.write_answer-in-Some-Renew.ensures.shelf.0 c.renewal_answer-made.ensures.shelf

pub reason_answer-made-requires : goal.reason_answer-made-requires
reason_answer-made-requires g c =
    record {
      topology =
          first_served (λ name. IsTrue (g.S.Shelf.serves c.args.shelf.now name)) (names_of (command_of (map string_bytes c.args.words.now)))
          c.in-Some-Why.topology.now []
          (ap names_of (ap (λ (x : Parsed). Some (named x)) (sym c.in-Some-Why.field-0-is) ∙ c.in-Some-Why.ensures.is)) c.requires;
    }

pub returns-in-Some-Why-clause-outcome : goal.returns-in-Some-Why-clause-outcome
returns-in-Some-Why-clause-outcome g c =
    meets _ _ (Some (Why c.in-Some-Why.topology.now)) _ _ _
    (ap (λ (x : Parsed). Some (named x)) (sym c.in-Some-Why.field-0-is) ∙ c.in-Some-Why.ensures.is)
    (made_once _ (λ texts. IsReasoning (texts c.in-Some-Why.topology.now)) c.reason_answer-made.result _ _ _ c.reason_answer-made.ensures.makes
    c.write_answer-in-Some-Why.ensures.writes)

pub returns-in-Some-Why-clause-shelf : goal.returns-in-Some-Why-clause-shelf
returns-in-Some-Why-clause-shelf g c =
    keeps_for g.S.Shelf _ _ _ _ c.write_answer-in-Some-Why.ensures.shelf.1 c.write_answer-in-Some-Why.ensures.shelf.0 c.reason_answer-made.ensures.shelf

pub print_texts-requires-clause-topology : goal.print_texts-requires-clause-topology
print_texts-requires-clause-topology g c =
    first_served (λ name. IsTrue (g.S.Shelf.serves c.args.shelf.now name)) (names_of (command_of (map string_bytes c.args.words.now)))
    c.in-Some-Bounds.topology.now (c.in-Some-Bounds.plan.now ∷ [])
    (ap names_of (ap (λ (x : Parsed). Some (named x)) (sym c.in-Some-Bounds.field-0-is) ∙ c.in-Some-Bounds.ensures.is)) c.requires

pub print_texts-requires-clause-plan : goal.print_texts-requires-clause-plan
print_texts-requires-clause-plan g c =
    second_served (λ name. IsTrue (g.S.Shelf.serves c.args.shelf.now name)) (names_of (command_of (map string_bytes c.args.words.now)))
    c.in-Some-Bounds.topology.now c.in-Some-Bounds.plan.now []
    (ap names_of (ap (λ (x : Parsed). Some (named x)) (sym c.in-Some-Bounds.field-0-is) ∙ c.in-Some-Bounds.ensures.is)) c.requires

pub returns-in-Some-Bounds-clause-outcome : goal.returns-in-Some-Bounds-clause-outcome
returns-in-Some-Bounds-clause-outcome g c =
    meets _ _ (Some (Bounds c.in-Some-Bounds.topology.now c.in-Some-Bounds.plan.now c.in-Some-Bounds.budget)) _ _ _
    (ap (λ (x : Parsed). Some (named x)) (sym c.in-Some-Bounds.field-0-is) ∙ c.in-Some-Bounds.ensures.is) c.print_texts.ensures.outcome

pub resume-made-requires-clause-topology : goal.resume-made-requires-clause-topology
resume-made-requires-clause-topology g c =
    first_served (λ name. IsTrue (g.S.Shelf.serves c.args.shelf.now name)) (names_of (command_of (map string_bytes c.args.words.now)))
    c.in-Some-Resume.files.topology.now
    (map string_bytes c.in-Some-Resume.files.plans.now ++ c.in-Some-Resume.files.schedule.now ∷ c.in-Some-Resume.files.opening.now ∷ [])
    (ap names_of (ap (λ (x : Parsed). Some (named x)) (sym c.in-Some-Resume.field-0-is) ∙ c.in-Some-Resume.ensures.is)) c.requires

pub resume-made-requires-clause-plans : goal.resume-made-requires-clause-plans
resume-made-requires-clause-plans g c =
    middle_served (λ name. IsTrue (g.S.Shelf.serves c.args.shelf.now name)) (names_of (command_of (map string_bytes c.args.words.now)))
    c.in-Some-Resume.files.topology.now (map string_bytes c.in-Some-Resume.files.plans.now) c.in-Some-Resume.files.schedule.now
    c.in-Some-Resume.files.opening.now
    (ap names_of (ap (λ (x : Parsed). Some (named x)) (sym c.in-Some-Resume.field-0-is) ∙ c.in-Some-Resume.ensures.is)) c.requires

pub resume-made-requires-clause-schedule : goal.resume-made-requires-clause-schedule
resume-made-requires-clause-schedule g c =
    name_served (λ name. IsTrue (g.S.Shelf.serves c.args.shelf.now name)) (names_of (command_of (map string_bytes c.args.words.now)))
    c.in-Some-Resume.files.topology.now (map string_bytes c.in-Some-Resume.files.plans.now) c.in-Some-Resume.files.schedule.now
    c.in-Some-Resume.files.opening.now
    (ap names_of (ap (λ (x : Parsed). Some (named x)) (sym c.in-Some-Resume.field-0-is) ∙ c.in-Some-Resume.ensures.is)) c.requires

pub resume-made-requires-clause-opening : goal.resume-made-requires-clause-opening
resume-made-requires-clause-opening g c =
    last_served (λ name. IsTrue (g.S.Shelf.serves c.args.shelf.now name)) (names_of (command_of (map string_bytes c.args.words.now)))
    c.in-Some-Resume.files.topology.now (map string_bytes c.in-Some-Resume.files.plans.now) c.in-Some-Resume.files.schedule.now
    c.in-Some-Resume.files.opening.now
    (ap names_of (ap (λ (x : Parsed). Some (named x)) (sym c.in-Some-Resume.field-0-is) ∙ c.in-Some-Resume.ensures.is)) c.requires

pub returns-in-Some-Resume-clause-outcome : goal.returns-in-Some-Resume-clause-outcome
returns-in-Some-Resume-clause-outcome g c =
    let files = c.in-Some-Resume.files in
    meets _ _ (Some (Resume files.topology.now (map string_bytes files.plans.now) files.left files.schedule.now files.opening.now)) _ _ _
    (ap (λ (x : Parsed). Some (named x)) (sym c.in-Some-Resume.field-0-is) ∙ c.in-Some-Resume.ensures.is)
    (made_once _
    (λ texts.
    IsResuming (texts files.topology.now) (map texts (map string_bytes files.plans.now)) files.left (texts files.schedule.now) (texts files.opening.now))
    c.resume-made.result _ _ _ c.resume-made.ensures.makes c.write_answer-in-Some-Resume.ensures.writes)

pub returns-in-Some-Resume-clause-shelf : goal.returns-in-Some-Resume-clause-shelf
returns-in-Some-Resume-clause-shelf g c =
    keeps_for g.S.Shelf _ _ _ _ c.write_answer-in-Some-Resume.ensures.shelf.1 c.write_answer-in-Some-Resume.ensures.shelf.0 c.resume-made.ensures.shelf

pub record_files-requires-clause-topology : goal.record_files-requires-clause-topology
record_files-requires-clause-topology g c =
    first_served (λ name. IsTrue (g.S.Shelf.serves c.args.shelf.now name)) (names_of (command_of (map string_bytes c.args.words.now)))
    c.in-Some-Record.files.topology.now (map string_bytes c.in-Some-Record.files.plans.now ++ c.in-Some-Record.files.log.now ∷ [])
    (ap names_of (ap (λ (x : Parsed). Some (named x)) (sym c.in-Some-Record.field-0-is) ∙ c.in-Some-Record.ensures.is)) c.requires

pub record_files-requires-clause-plans : goal.record_files-requires-clause-plans
record_files-requires-clause-plans g c =
    inner_served (λ name. IsTrue (g.S.Shelf.serves c.args.shelf.now name)) (names_of (command_of (map string_bytes c.args.words.now)))
    c.in-Some-Record.files.topology.now (map string_bytes c.in-Some-Record.files.plans.now) c.in-Some-Record.files.log.now
    (ap names_of (ap (λ (x : Parsed). Some (named x)) (sym c.in-Some-Record.field-0-is) ∙ c.in-Some-Record.ensures.is)) c.requires

pub record_files-requires-clause-log : goal.record_files-requires-clause-log
record_files-requires-clause-log g c =
    end_served (λ name. IsTrue (g.S.Shelf.serves c.args.shelf.now name)) (names_of (command_of (map string_bytes c.args.words.now)))
    c.in-Some-Record.files.topology.now (map string_bytes c.in-Some-Record.files.plans.now) c.in-Some-Record.files.log.now
    (ap names_of (ap (λ (x : Parsed). Some (named x)) (sym c.in-Some-Record.field-0-is) ∙ c.in-Some-Record.ensures.is)) c.requires

pub returns-in-Some-Record-clause-outcome : goal.returns-in-Some-Record-clause-outcome
returns-in-Some-Record-clause-outcome g c =
    let files = c.in-Some-Record.files in
    meets _ _ (Some (Record files.topology.now (map string_bytes files.plans.now) files.log.now)) _ _ _
    (ap (λ (x : Parsed). Some (named x)) (sym c.in-Some-Record.field-0-is) ∙ c.in-Some-Record.ensures.is) c.record_files.ensures.outcome

pub merge_feed-requires : goal.merge_feed-requires
merge_feed-requires g c =
    record {
      feed =
          first_served (λ name. IsTrue (g.S.Shelf.serves c.args.shelf.now name)) (names_of (command_of (map string_bytes c.args.words.now)))
          c.in-Some-Merge.feed.now []
          (ap names_of (ap (λ (x : Parsed). Some (named x)) (sym c.in-Some-Merge.field-0-is) ∙ c.in-Some-Merge.ensures.is)) c.requires;
    }

pub returns-in-Some-Merge-clause-outcome : goal.returns-in-Some-Merge-clause-outcome
returns-in-Some-Merge-clause-outcome g c =
    meets _ _ (Some (Merge c.in-Some-Merge.logs c.in-Some-Merge.feed.now)) _ _ _
    (ap (λ (x : Parsed). Some (named x)) (sym c.in-Some-Merge.field-0-is) ∙ c.in-Some-Merge.ensures.is) c.merge_feed.ensures.outcome

pub returns-in-None-clause-outcome : goal.returns-in-None-clause-outcome
returns-in-None-clause-outcome g c = usage_meets _ _ _ _ _ c.in-None.ensures.is c.usage.ensures.outcome

pub returns-in-Some-Version-clause-outcome : goal.returns-in-Some-Version-clause-outcome
returns-in-Some-Version-clause-outcome g c =
    version_meets _ _ _ _ _ (ap (λ (x : Parsed). Some (named x)) (sym c.in-Some-Version.field-0-is) ∙ c.in-Some-Version.ensures.is) c.version.ensures.outcome
