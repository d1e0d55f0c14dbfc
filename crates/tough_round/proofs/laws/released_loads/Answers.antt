use Rattle.std.proofs.Common.{refl}
use Rattle.tough_load.specs.Loader.{first_core, settings_of, verifier_of}
use Rattle.tough_round.specs.Files.{files_of, loaded_of}
use Rattle.tough_round.proofs.laws.released_loads.Goals as goal

pub returns : goal.returns
returns g c = λ from l new signers e r outcome begun tells untouched well released finishes fine.
    let s = (first_core (settings_of from)).setting in
    let began = c.honest_loads.ensures from l new (files_of r) outcome begun tells untouched finishes fine in
    let now = began.0 in (
      now,
      began.1,
      λ may served. began.2 (loaded_of s now r) (record {
        start = refl;
        loadable = c.released_is_loadable.ensures (g.V.Verify.verifies (verifier_of from)) s now signers e r well released may;
        served = served;
      }),
    )
