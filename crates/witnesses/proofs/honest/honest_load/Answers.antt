use Rattle.std.proofs.Common.{◌∙◌, refl, sym, ap, subst}
use Rattle.tough_keys.specs.Demo.{demo_verifies}
use Rattle.tough_net.specs.Urls.{with_slash}
use Rattle.tough_vault.specs.Memory.{memory_files}
use Rattle.tough_vault.specs.Vault.{parts_of}
use Rattle.tough_update.specs.View.{outcome_doc}
use Rattle.tough_honest.specs.Fresh.{Untouched, IsFineOutcome}
use Rattle.witnesses.specs.Served.{Repository, HasLoadable}
use Rattle.witnesses.specs.Devices.{ServesFour}
use Rattle.witnesses.proofs.HonestLoads.{has-honest-load, untouched-of}
use Rattle.witnesses.proofs.honest.honest_load.Goals as goal

pub returns-in-Ok-Ok : goal.returns-in-Ok-Ok
returns-in-Ok-Ok g c =
    let f : Repository = record { trusted = c.args.trusted.now; timestamp = c.args.timestamp.now; snapshot = c.args.snapshot.now; targets = c.args.targets.now } in
    let start = c.args.start.nanosecond in
    let base = c.in-Ok.base in
    let loader = c.keeper-loader.result in
    let sets = c.keeper-loader.ensures.settings ∙ (c.clock.ensures.settings ∙ (c.verifier.ensures.settings ∙ (c.transport-2.ensures.settings ∙ c.new-2.ensures))) in
    let given = c.keeper-loader.ensures.others.0 ∙ (c.clock.ensures.others.0 ∙ (c.verifier.ensures.others.0 ∙ c.transport-2.ensures.given)) in
    let h = has-honest-load f start base loader c.in-Ok-load.load c.drive.new.load (outcome_doc c.in-Ok-Ok.field-0)
    (subst (λ l. HasLoadable demo_verifies start l f) c.default.ensures c.in_ok-loadable.ensures)
    (subst (λ t. ServesFour t base f) (sym given) (c.in_ok-transport.ensures c.args.trusted.now))
    (ap (λ s. with_slash s.metadata_base) sets ∙ (ap with_slash (c.in_ok-clone-2.ensures.cases ∙ sym c.in_ok-clone.ensures.cases) ∙ c.in-Ok.ensures.given))
    (ap (λ s. s.root) sets) (ap (λ s. s.limits) sets) (ap (λ s. s.enforced) sets) (ap (λ s. s.whole) sets)
    (sym (ap (λ k. k.0.nanosecond) (c.keeper-loader.ensures.others.2 ∙ c.clock.ensures.given)))
    (subst (λ k. Untouched memory_files 0 (parts_of k.now)) (sym c.keeper-loader.ensures.given) (untouched-of c.new-vault.result c.new.result c.new-vault.ensures.store c.new-vault.ensures.tip c.new.ensures))
    c.in-Ok-load.ensures.begun c.in-Ok-Ok.ensures.done (subst (λ r. IsFineOutcome (outcome_doc r)) (sym c.in-Ok-Ok.field-0-is) tt) in
    let began = c.honest_loads.ensures h.loader h.load h.ended h.files h.outcome h.begun refl h.untouched h.finishes h.fine in
    (h, (began.0, began.1, began.2 (h.d began.0) (h.able began.0 began.1)))
