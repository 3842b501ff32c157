use Rattle.sd_test_fleet_kit.proofs.kinds.wrapped.WrappedExactNode.exact.Goals as goal

pub returns : goal.returns
returns g c =
    record {
      made = λ making s. c.exact.ensures.made making s.node;
      called = λ old new. c.exact.ensures.called old.node new.node;
      sent = λ old new. c.exact.ensures.sent old.node new.node;
      reported = λ s. c.exact.ensures.reported s.node;
      parent = λ s. c.exact.ensures.parent s.node;
      acts = λ s. c.exact.ensures.acts s.node;
      epoch = λ s. c.exact.ensures.epoch s.node;
      given = λ s. c.exact.ensures.given s.node;
      sealed = λ s. c.exact.ensures.sealed s.node;
    }
