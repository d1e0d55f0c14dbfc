use Rattle.std.proofs.Common.{◌≡◌, ap, sym, ◌∙◌, subst}
use Rattle.tough_vault.specs.Journal.{notes_of}
use Rattle.tough_vault.specs.Vault.{parts_of, store_of, journal_of}
use Rattle.tough_world.specs.Turns.{Runs}
use Rattle.tough_world.specs.View.{world_doc}
use Rattle.tough_world.proofs.Turning.{fresh_parts, lived_by}
use Rattle.tough_world.proofs.lives.live.Goals as goal

pub returns-clause-lived : goal.returns-clause-lived
returns-clause-lived g c =
    let t = g.S.Store.tells in let f = g.S.Store.files in let n = g.S.Store.count in let v = g.V.Verify.verifies c.args.verifier in
    let begun = world_doc c.new-world.result in
    let end = world_doc c.run.new.self in
    let fresh = fresh_parts t f n v (parts_of c.new-vault.result) c.args.store c.new-vault.ensures.store c.new-vault.ensures.journal c.new-vault.ensures.tip in
    lived_by t f n v begun end c.args.life (notes_of c.into_parts-store.result.1.items) c.args.store c.into_parts-store.result.0
    c.new-world.ensures.cores
    (ap parts_of c.new-world.ensures.vault ∙ fresh)
    (subst (λ w. Runs t f n (g.V.Verify.verifies w) begun c.args.life.schedule.items end) c.new-world.ensures.verifier c.run.ensures.runs)
    (ap notes_of (sym (c.into_parts-store.ensures.journal ∙ ap journal_of c.into_parts-cores.ensures.vault)))
    (sym (c.into_parts-store.ensures.store ∙ ap store_of c.into_parts-cores.ensures.vault))
