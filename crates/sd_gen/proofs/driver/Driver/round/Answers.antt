use Rattle.std.proofs.lemmas.Result.{on_ok_weaker}
use Rattle.sd_gen.proofs.driver.Driver.round.Goals as goal

pub returns : goal.returns
returns g c =
    on_ok_weaker c.end.result
    (λ last setting x stands.
    last setting _
    (c.in_ok-ask.ensures setting _
    (c.in_ok-seals.ensures setting _
    (c.in_ok-renewal.ensures setting _
    (c.in_ok-each_up.ensures.stands setting _ (c.in_ok-receive_until.ensures setting _ (c.in_ok-failure.ensures setting x stands)))))))
    c.end.ensures
