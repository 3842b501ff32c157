use Rattle.std.proofs.Common.{arith, true, false, ◌+◌, ◌-◌, ◌^◌}
use Rattle.sd_gen.specs.arrivals.Waiting.{next_by}
use Rattle.sd_gen.specs.Drafts.{receive_until}
use Rattle.sd_gen.proofs.Receiving.{receives_one_more, stops, ends, counted, told}
use Rattle.sd_gen.proofs.driver.Driver.receive_until.Goals as goal

pub returns-then-not-branch : goal.returns-then-not-branch
returns-then-not-branch g c setting x stands =
    stops g.D.Driven c.receipts.self c.receive_next.new.self setting c.args.moment (2 ^ 64 - 1 - (c.receipts.counter + 1))
    (receive_until setting c.args.moment x)
    (counted g.D.Driven c.receipts.self setting c.args.moment _ _ _ (omega (arith, c.receipts-test.true)) (c.receipts.invariant setting x stands))
    (λ y here. told g.D.Driven c.receive_next.new.self setting y (next_by c.args.moment y.waiting) c.in_ok-receive_next.field-0 false c.if-not-branch.true
    (c.in_ok-receive_next.ensures setting y here))

pub receipts-preserved : goal.receipts-preserved
receipts-preserved g c setting x stands =
    receives_one_more g.D.Driven c.receipts.self c.receive_next.new.self setting c.args.moment (2 ^ 64 - 1 - (c.receipts.counter + 1))
    (receive_until setting c.args.moment x)
    (counted g.D.Driven c.receipts.self setting c.args.moment _ _ _ (omega (arith, c.receipts-test.true)) (c.receipts.invariant setting x stands))
    (λ y here. told g.D.Driven c.receive_next.new.self setting y (next_by c.args.moment y.waiting) c.in_ok-receive_next.field-0 true c.if-not-branch.false
    (c.in_ok-receive_next.ensures setting y here))

pub returns : goal.returns
returns g c setting x stands =
    ends g.D.Driven c.receipts.self setting c.args.moment (receive_until setting c.args.moment x)
    (counted g.D.Driven c.receipts.self setting c.args.moment (2 ^ 64 - 1 - c.receipts.counter) 0 _ (omega (arith, c.receipts-test.false))
    (c.receipts.invariant setting x stands))
