use Rattle.std.proofs.Common.{refl}
use Rattle.tough_vault.specs.Vault.{parts_of}
use Rattle.tough_trust.specs.Vaults.{vault_keeps, vault_reads}
use Rattle.tough_update.specs.View.{core_doc}
use Rattle.tough_load.specs.Loader.{first_core, settings_of, transport_of, verifier_of, held_of}
use Rattle.tough_load.specs.Words as part
use Rattle.tough_load.proofs.lemmas.Begun.{begun-held}
use Rattle.tough_honest.proofs.Ending.{begun-honest}
use Rattle.tough_honest.proofs.laws.honest_loads.Goals as goal

pub returns : goal.returns
returns g c = λ from l new files outcome begun tells untouched h fine.
    begun-honest g.T.Transport.refuses g.T.Transport.serves g.S.Store.tells g.S.Store.files g.S.Store.count tells
    (vault_keeps g.S.Store.tells g.S.Store.files g.S.Store.count) (vault_reads g.S.Store.tells g.S.Store.files g.S.Store.count) g.C.Clock.may_give g.T.Stream.Stream.yields (λ k. parts_of k.now) (λ v old act r next held. held.0)
    (λ v old first r next held. held.0)
    c.loads.ensures (part.base_of l) files
    g.V.Verify.verifies (part.verifier_of l) (verifier_of from) (part.transport_of l) (transport_of from) (core_doc (part.core_of l)) (first_core (settings_of from))
    (part.held_of l) (held_of from) (part.fetch_of l) outcome (core_doc (part.core_of new)) (part.held_of new)
    begun.verifier begun.transport begun.core (begun-held from l begun) begun.fetch refl untouched h.ends fine
