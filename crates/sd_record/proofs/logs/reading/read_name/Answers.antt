use Rattle.std.proofs.Common.{◌≡◌, ◌≢◌, ◌∙◌, sym, ap, length, [], true, false}
use Rattle.sd_record.proofs.logs.Ends.{more_left}
use Rattle.sd_record.proofs.logs.reading.read_name.Goals as goal

pub returns-then-not-is_empty-clause-fault : goal.returns-then-not-is_empty-clause-fault
returns-then-not-is_empty-clause-fault c =
    let more : c.in_ok-round.round.left.now ≢ [] =
    λ none. let empty : length c.in_ok-round.round.left.now ≡ 0 = ap length none in
    let told : true ≡ false = sym (rw empty at c.is_empty.ensures) ∙ c.if-not-is_empty.true in cc in
    rw (c.in_ok-link.ensures.number, c.in_ok-epoch.ensures.number, c.in_ok-term.ensures.number, c.in_ok-round.ensures.number) (more_left _ _ more)
