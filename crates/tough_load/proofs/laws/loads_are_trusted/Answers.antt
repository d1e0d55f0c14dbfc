use Rattle.std.proofs.Common.{refl}
use Rattle.std.specs.Prelude.{Ok}
use Rattle.tough_update.specs.View.{core_doc}
use Rattle.tough_load.specs.Loader.{first_core, settings_of, transport_of, verifier_of, held_of}
use Rattle.tough_load.specs.Words as part
use Rattle.tough_load.proofs.lemmas.Begun.{begun-held}
use Rattle.tough_load.proofs.Trusts.{vouched}
use Rattle.tough_load.proofs.laws.loads_are_trusted.Goals as goal

pub returns : goal.returns
returns g c = λ from l d left kept begun h.
    vouched g.T.Transport.refuses g.T.Transport.serves g.K.Keeper.keeps g.K.Keeper.reads g.C.Clock.may_give g.T.Stream.Stream.yields g.met.K.Keeper.checks g.met.K.Keeper.vouches
    g.V.Verify.verifies (part.base_of l) (part.verifier_of l) (verifier_of from) (part.transport_of l) (transport_of from)
    (core_doc (part.core_of l)) (first_core (settings_of from)) (part.held_of l) (held_of from) (part.fetch_of l) (Ok d) left kept
    begun.verifier begun.transport begun.core (begun-held from l begun) begun.fetch refl h
