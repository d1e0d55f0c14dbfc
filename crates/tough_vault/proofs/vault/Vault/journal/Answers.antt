use Rattle.tough_vault.proofs.Rising.{legal, nothing_goes_back, roots_rise}
use Rattle.tough_vault.proofs.vault.Vault.journal.Goals as goal

pub returns-clause-legal : goal.returns-clause-legal
returns-clause-legal g c = legal _ _ c.args.self.now.replays c.args.self.now.rises

pub returns-clause-rising : goal.returns-clause-rising
returns-clause-rising g c = nothing_goes_back _ c.args.self.now.rises

pub returns-clause-roots : goal.returns-clause-roots
returns-clause-roots g c = roots_rise _ c.args.self.now.rises
