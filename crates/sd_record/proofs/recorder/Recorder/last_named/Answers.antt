use Rattle.std.proofs.Common.{refl, sym, ◌∙◌, subst, ◌≤◌, ℕ}
use Rattle.sd_history.specs.Chronicle.{chronicle}
use Rattle.sd_history.specs.Steps.{flight_count}
use Rattle.sd_record.proofs.Found.{last_is_named, none_is_named}
use Rattle.sd_record.proofs.Keeping.{keeps_forgot}
use Rattle.sd_record.proofs.Standing.{are_steps, few, keeps_is, stands_on}
use Rattle.sd_record.proofs.recorder.Recorder.last_named.Goals as goal

pub names-smaller : goal.names-smaller
names-smaller c = c.remove.ensures.count c.in-Some.ensures.last.is

pub names-preserved : goal.names-preserved
names-preserved c =
    record {
      stands = λ setting events stood.
          (let stands = c.names.invariant.stands setting events stood in
          stands_on c.names.self setting events stands (record c.names.self { names = c.remove.new.self }) refl
          (keeps_forgot setting (chronicle setting events) (are_steps c.names.self setting events stands) c.names.self
          (keeps_is c.names.self setting events stands) c.args.name.now c.in-Some.number c.remove.new.self c.on_its_way.result c.in-Some.ensures.last.is
          (c.on_its_way.ensures.flight setting events stands) (sym c.is_named.ensures ∙ c.if-is_named.false) c.remove.ensures.kept
          c.remove.ensures.less));
      looked = c.names.invariant.looked;
      text = c.names.invariant.text;
    }

pub returns-then-is_named-clause-number : goal.returns-then-is_named-clause-number
returns-then-is_named-clause-number c =
    λ setting events stood all.
    (let stands = c.names.invariant.stands setting events stood in
    last_is_named c.names.self setting events (are_steps c.names.self setting events stands) (keeps_is c.names.self setting events stands)
    (subst (λ (m : ℕ). flight_count (chronicle setting events) ≤ m) (sym c.names.invariant.looked) all) c.args.name.now c.on_its_way.result
    c.in-Some.number (few c.names.self setting events stands) c.in-Some.ensures.last (c.on_its_way.ensures.flight setting events stands)
    (sym c.is_named.ensures ∙ c.if-is_named.true))

pub returns-clause-number : goal.returns-clause-number
returns-clause-number c =
    λ setting events stood all.
    (let stands = c.names.invariant.stands setting events stood in
    none_is_named c.names.self setting events (are_steps c.names.self setting events stands) (keeps_is c.names.self setting events stands)
    (subst (λ (m : ℕ). flight_count (chronicle setting events) ≤ m) (sym c.names.invariant.looked) all) c.args.name.now
    (few c.names.self setting events stands) c.in_default.ensures.none)
