use Rattle.std.proofs.lemmas.Result.{on_ok_weaker}
use Rattle.sd_gen.proofs.Turning.{asked, some_asked}
use Rattle.sd_gen.proofs.driver.Driver.ask_one.Goals as goal

pub returns-in-Some : goal.returns-in-Some
returns-in-Some g c =
    on_ok_weaker c.try_if_up.result
    (λ one. asked g.D.Driven c.args.self.now c.try_if_up.new.self c.next_word-word.new.self c.next_word-word.result c.in-Some.device c.devices.result
    c.args.reference c.next_word-word.ensures c.devices.ensures c.in-Some.ensures one)
    c.try_if_up.ensures.stands

pub returns-in-None : goal.returns-in-None
returns-in-None g c =
    some_asked g.D.Driven c.args.self.now c.next_word-word.new.self c.next_word-word.result c.devices.result c.args.reference
    c.next_word-word.ensures c.devices.ensures c.in-None.ensures
