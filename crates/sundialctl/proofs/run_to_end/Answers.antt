use Rattle.std.proofs.Common.{◌∙◌, ap, map, string_bytes}
use Rattle.sundialctl.specs.Naming.{naming}
use Rattle.sundialctl.proofs.run_to_end.Goals as goal

pub returns : goal.returns
returns g c =
    record {
      named = map string_bytes c.naming.result.now;
      ends = record { status = c.run-status.result; fault = _; reason = _; exit = c.exit_of.ensures; says = c.say_why.ensures };
      names = c.naming.ensures ∙ ap (naming (map string_bytes c.args.words.now)) c.last_fault.ensures;
    }
