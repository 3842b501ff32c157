use Rattle.sd_record.proofs.merge.Turning.{not_later}
use Rattle.sd_record.proofs.merge.turns.Turns.first.Goals as goal

pub returns-in-Some-clause-first : goal.returns-in-Some-clause-first
returns-in-Some-clause-first c =
    record {
      is = c.in-Some.ensures.member;
      least = λ bound place has.
          (not_later c.in-Some.turn.now (record { bound = bound; place = place }) (c.in-Some.ensures.least (record { bound = bound; place = place }) has)).0;
      tied = λ bound place has.
          (not_later c.in-Some.turn.now (record { bound = bound; place = place }) (c.in-Some.ensures.least (record { bound = bound; place = place }) has)).1;
    }
