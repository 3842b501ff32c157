use Rattle.std.proofs.Common.{◌≡◌, ◌∙◌, ◌<◌, false, refl, sym, length, arith}
use Rattle.std.specs.Prelude.{nat_le}
use Rattle.std.proofs.lemmas.Bool.{lt-leb}
use Rattle.sd_plan.specs.topo.Topologies.{network}
use Rattle.sd_commands.specs.declared.exchanges.ExchangeLine.TheVariants.{Exchange as Exchanged}
use Rattle.sd_commands.specs.twoway.Tallies.{added}
use Rattle.sd_commands.proofs.twoway.Standing.{stands_longer}
use Rattle.sd_commands.proofs.twoway.tally.Tally.take_exchange.Goals as goal

pub returns-in-Ok-clause-fits : goal.returns-in-Ok-clause-fits
returns-in-Ok-clause-fits c = record { links = c.add.ensures.links ∙ c.requires.fits.links; few = c.add.ensures.few c.args.self.now.lines c.requires.fits.few }

pub returns-in-Ok-clause-takes : goal.returns-in-Ok-clause-takes
returns-in-Ok-clause-takes c =
    λ taken stands.
    let inside : c.args.link < length (network c.args.topo.now).links = omega (arith, c.if-link-links.false, c.links.ensures) in
    let known : nat_le (length (network c.args.topo.now).links) c.args.link ≡ false = lt-leb (length (network c.args.topo.now).links) c.args.link inside in (
      Exchanged c.args.link c.args.side c.args.exchange,
      rw (known, sym c.in-Ok.ensures) refl,
      stands_longer (network c.args.topo.now) c.args.self.now _ taken c.args.link c.args.side c.args.exchange c.in-Ok.span (sym c.in-Ok.ensures)
          (c.add.ensures.stands (added (network c.args.topo.now) taken) stands.spans) refl refl stands,
    )
