use Rattle.std.proofs.Common.{◌≡◌, ◌≢◌, ◌∙◌, sym, ap, length, [], true, false}
use Rattle.sd_commands.proofs.exchanges.Fieldwise.{end_more}
use Rattle.sd_commands.proofs.exchanges.reading.read_end.Goals as goal

pub returns-else-is_empty-clause-line : goal.returns-else-is_empty-clause-line
returns-else-is_empty-clause-line c =
    let more : c.args.behind.now ≢ [] =
    λ none. let empty : length c.args.behind.now ≡ 0 = ap length none in let told : true ≡ false = sym (rw empty at c.is_empty.ensures) ∙ c.if-is_empty.false in
    cc in
    sym (end_more c.args.behind.now more)
