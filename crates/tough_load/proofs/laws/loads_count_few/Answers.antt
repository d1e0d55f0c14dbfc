use Rattle.tough_update.specs.View.{counts_of}
use Rattle.tough_load.specs.Loader.{settings_of, verifier_of}
use Rattle.tough_load.specs.Words as part
use Rattle.tough_load.proofs.Few.{few}
use Rattle.tough_load.proofs.laws.loads_count_few.Goals as goal

pub returns : goal.returns
returns g c = λ from l new r begun h.
    few c.counts_few.ensures.fetches c.counts_few.ensures.keeps c.counts_few.ensures.loaded g.V.Verify.verifies (verifier_of from) (settings_of from) (part.verifier_of l) (part.core_of l) r (counts_of (part.core_of new))
    begun.verifier begun.core begun.counts h.counted
