use Rattle.std.proofs.Common.{refl, sym, ◌∙◌, subst, ◌≤◌, ℕ}
use Rattle.sd_history.specs.Chronicle.{chronicle}
use Rattle.sd_history.specs.Steps.{flight_count}
use Rattle.sd_record.proofs.Found.{none_is_lost, soonest_is_lost}
use Rattle.sd_record.proofs.Keeping.{keeps_current, keeps_dropped}
use Rattle.sd_record.proofs.Listing.{first_listed}
use Rattle.sd_record.proofs.Standing.{are_steps, keeps_is, stands_on}
use Rattle.sd_record.proofs.recorder.Recorder.soonest_before.Goals as goal

pub returns-then-has_ending-clause-lost : goal.returns-then-has_ending-clause-lost
returns-then-has_ending-clause-lost c =
    λ setting events stood all.
    (let stands = c.endings.invariant.stands setting events stood in
    soonest_is_lost c.endings.self setting events (are_steps c.endings.self setting events stands) (keeps_is c.endings.self setting events stands)
    (subst (λ (m : ℕ). flight_count (chronicle setting events) ≤ m) (sym c.endings.invariant.looked) all) c.args.reference c.in-Some.first
    c.on_its_way.result c.in-Some.ensures.soonest c.in-Some.ensures.past (c.on_its_way.ensures.flight setting events stands)
    (sym c.has_ending.ensures ∙ c.if-has_ending.true))

pub endings-preserved : goal.endings-preserved
endings-preserved c =
    record {
      stands = λ setting events stood.
          (let stands = c.endings.invariant.stands setting events stood in
          stands_on c.endings.self setting events stands (record c.endings.self { endings = c.drop_first.new.self; names = c.remove.new.self }) refl
          (keeps_dropped setting (chronicle setting events) (are_steps c.endings.self setting events stands) c.endings.self
          (keeps_is c.endings.self setting events stands) c.in-Some.first c.drop_first.new.self c.remove.new.self c.on_its_way.result
          c.in-Some.ensures.soonest.is (first_listed c.endings.self.endings c.in-Some.first c.in-Some.ensures.soonest)
          (c.on_its_way.ensures.flight setting events stands) (sym c.has_ending.ensures ∙ c.if-has_ending.false) c.drop_first.ensures.kept
          c.drop_first.ensures.less c.remove.ensures.gone c.remove.ensures.kept c.remove.ensures.less));
      looked = c.endings.invariant.looked;
      text = c.endings.invariant.text;
    }

pub returns-clause-lost : goal.returns-clause-lost
returns-clause-lost c =
    λ setting events stood all.
    (let stands = c.endings.invariant.stands setting events stood in
    none_is_lost c.endings.self setting events (are_steps c.endings.self setting events stands) (keeps_is c.endings.self setting events stands)
    (subst (λ (m : ℕ). flight_count (chronicle setting events) ≤ m) (sym c.endings.invariant.looked) all) c.args.reference c.in_default.ensures.none)

pub returns-clause-current : goal.returns-clause-current
returns-clause-current c =
    λ setting events stood.
    (let stands = c.endings.invariant.stands setting events stood in
    keeps_current setting (chronicle setting events) (are_steps c.endings.self setting events stands) c.endings.self
    (keeps_is c.endings.self setting events stands) c.args.reference c.in_default.ensures.none)
