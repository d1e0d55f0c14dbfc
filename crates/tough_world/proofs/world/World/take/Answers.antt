use Rattle.std.proofs.Common.{◌≡◌, refl, ap}
use Rattle.tough_vault.specs.Vault.{parts_of}
use Rattle.tough_world.specs.View.{world_doc}
use Rattle.tough_world.proofs.Turning.{cores_same, found_at, taken_turn, refused_turn}
use Rattle.tough_world.proofs.world.World.take.Goals as goal

pub returns-in-Ok-clause-turned : goal.returns-in-Ok-clause-turned
returns-in-Ok-clause-turned g c =
    let at = found_at c.args.self.now.cores.items c.args.load c.in-Some.core.now c.in-Some.ensures.item.3.0 c.in-Some.ensures.item.1 in
    taken_turn g.S.Store.tells g.S.Store.files g.S.Store.count (g.V.Verify.verifies c.args.self.now.verifier) c.args.load c.args.answer (world_doc c.args.self.now) _ c.in-Some.core.now c.answer.new.self _ c.in-Ok.reply at c.ask.ensures c.in-Ok.ensures.given
    (record { goes = c.answer.ensures.goes; counted = c.answer.ensures.counted; file = c.answer.ensures.file }) refl

pub returns-in-Err-clause-turned : goal.returns-in-Err-clause-turned
returns-in-Err-clause-turned g c =
    let at = found_at c.args.self.now.cores.items c.args.load c.in-Some.core.now c.in-Some.ensures.item.3.0 c.in-Some.ensures.item.1 in
    refused_turn g.S.Store.tells g.S.Store.files g.S.Store.count (g.V.Verify.verifies c.args.self.now.verifier) (world_doc c.args.self.now) _ _ c.args.load c.args.answer c.in-Some.core.now _ c.in-Err.error
    (cores_same c.args.self.now.cores.items c.args.load c.in-Some.core.now at) (ap parts_of c.in-Err.ensures.same) at c.ask.ensures c.in-Err.ensures.given

pub returns-in-Err-clause-same : goal.returns-in-Err-clause-same
returns-in-Err-clause-same g c =
    let at = found_at c.args.self.now.cores.items c.args.load c.in-Some.core.now c.in-Some.ensures.item.3.0 c.in-Some.ensures.item.1 in
    (cores_same c.args.self.now.cores.items c.args.load c.in-Some.core.now at, c.in-Err.ensures.same)
