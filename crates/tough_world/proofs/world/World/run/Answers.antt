use Rattle.std.proofs.Common.{◌≡◌, ◌∙◌, subst}
use Rattle.tough_world.specs.View.{world_doc}
use Rattle.tough_world.specs.Turns.{Turned}
use Rattle.tough_world.proofs.Turning.{runs_push}
use Rattle.tough_world.proofs.world.World.run.Goals as goal

pub loop-turn-preserved : goal.loop-turn-preserved
loop-turn-preserved g c =
    let t = c.in-Some.turn in
    let now = world_doc c.loop-turn.self in
    let new = world_doc c.take.new.self in
    let turned = subst (λ v. Turned g.S.Store.tells g.S.Store.files g.S.Store.count (g.V.Verify.verifies v) t.load t.answer now new c.take.result) c.loop-turn.invariant.1 c.take.ensures.turned in (
      runs_push g.S.Store.tells g.S.Store.files g.S.Store.count (g.V.Verify.verifies c.args.self.now.verifier) c.loop-turn.yielded t (world_doc c.args.self.now) now new c.take.result c.loop-turn.invariant.0 turned,
      c.take.ensures.verifier ∙ c.loop-turn.invariant.1,
    )
