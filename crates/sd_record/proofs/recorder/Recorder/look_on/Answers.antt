use Rattle.std.proofs.Common.{arith, sym, ◌∙◌}
use Rattle.sd_history.specs.Chronicle.{chronicle}
use Rattle.sd_record.proofs.Keeping.{keeps_noted}
use Rattle.sd_record.proofs.Members.{unknown_last}
use Rattle.sd_record.proofs.Standing.{are_steps, few, keeps_is, stands_on}
use Rattle.sd_record.proofs.recorder.Recorder.look_on.Goals as goal

pub returns-then-is_unknown-clause-all : goal.returns-then-is_unknown-clause-all
returns-then-is_unknown-clause-all c =
    λ setting events stood.
    (let stands = c.loop-looked.invariant.stands setting events stood in
    let last =
    unknown_last setting (chronicle setting events) c.loop-looked.looked (are_steps c.loop-looked.self setting events stands) c.on_its_way-found.result
    (c.on_its_way-found.ensures.flight setting events stands) (sym c.is_unknown.ensures ∙ c.if-is_unknown.true) in
    omega (arith, last, c.loop-looked.invariant.looked))

pub loop-looked-preserved : goal.loop-looked-preserved
loop-looked-preserved c =
    record {
      stands = λ setting events stood.
          (let stands = c.loop-looked.invariant.stands setting events stood in
          stands_on c.loop-looked.self setting events stands c.look_at.new.self c.in_ok-look_at.ensures.noted.fleet
          (keeps_noted setting (chronicle setting events) (are_steps c.loop-looked.self setting events stands) c.loop-looked.self
          (keeps_is c.loop-looked.self setting events stands) c.look_at.new.self c.loop-looked.looked c.on_its_way-found.result
          c.loop-looked.invariant.looked (c.on_its_way-found.ensures.flight setting events stands) (sym c.is_unknown.ensures ∙ c.if-is_unknown.false)
          c.in_ok-look_at.ensures.noted));
      looked = c.in_ok-look_at.ensures.noted.looked;
      text = c.in_ok-look_at.ensures.text ∙ c.loop-looked.invariant.text;
    }

pub returns-clause-all : goal.returns-clause-all
returns-clause-all c =
    λ setting events stood.
    (let most = few c.loop-looked.self setting events (c.loop-looked.invariant.stands setting events stood) in
    omega (arith, most, c.loop-looked-test.false, c.loop-looked.invariant.looked))
