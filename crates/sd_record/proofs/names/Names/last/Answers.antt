use Rattle.std.proofs.Common.{subst, ◌≡◌, true, ◌-◌, ◌^◌}
use Rattle.sd_record.specs.Names.{has_message}
use Rattle.sd_record.specs.declared.logs.MessageName.{MessageName}
use Rattle.sd_record.proofs.Naming.{above_first, below_end, has_the_name, not_after}
use Rattle.sd_record.proofs.names.Names.last.Goals as goal

pub range-requires : goal.range-requires
range-requires c = above_first c.args.name.now (2 ^ 64 - 1)

pub returns-clause-last : goal.returns-clause-last
returns-clause-last c =
    let within = c.range.ensures.in_range tt in
    let last = c.in-Some.last.now in
    let among = within.3 last c.next_back.new.self c.in-Some.ensures.steps in
    let is = has_the_name c.args.name.now last (2 ^ 64 - 1) among.0.0 among.0.1 in
    record {
      is = subst (λ (n : MessageName). has_message c.args.self.now n last.number ≡ true) is among.1;
      last = λ other few there.
          not_after c.args.name.now last other is
          (within.4 last c.next_back.new.self c.in-Some.ensures.steps (record { name = c.args.name.now; number = other })
          (above_first c.args.name.now other, below_end c.args.name.now other (2 ^ 64 - 1) few) there);
    }

pub returns-in_default-clause-none : goal.returns-in_default-clause-none
returns-in_default-clause-none c =
    λ number few.
    (c.range.ensures.in_range tt).5 c.in_default.ensures.steps.0 (record { name = c.args.name.now; number = number })
    (above_first c.args.name.now number, below_end c.args.name.now number (2 ^ 64 - 1) few)
