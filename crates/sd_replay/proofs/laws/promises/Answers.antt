use Rattle.sd_replay.proofs.Kept.{nodes_keep_chronicle, nodes_contain}
use Rattle.sd_replay.proofs.Calm.{nodes_stay_calm}
use Rattle.sd_replay.proofs.laws.promises.Goals as goal

pub returns-clause-chronicle : goal.returns-clause-chronicle
returns-clause-chronicle g c = nodes_keep_chronicle c.exact.ensures g.V.Observer

pub returns-clause-contains : goal.returns-clause-contains
returns-clause-contains g c = nodes_contain c.exact.ensures g.V.Observer

pub returns-clause-calm : goal.returns-clause-calm
returns-clause-calm g c = nodes_stay_calm c.exact.ensures g.V.Observer
