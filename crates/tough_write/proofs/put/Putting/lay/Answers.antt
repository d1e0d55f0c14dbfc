use Rattle.std.proofs.Common.{inr}
use Rattle.tough_write.specs.Putting.{manner_of}
use Rattle.tough_write.proofs.Choosing.{makes_over, makes_new}
use Rattle.tough_write.proofs.put.Putting.lay.Goals as goal

pub returns-then-there : goal.returns-then-there
returns-then-there g c = λ tells. inr (
  c.in_ok-there.there,
  g.F.Files.calls c.is_there.new.files,
  c.in_ok-there.ensures tells,
  makes_over (manner_of c.args.self.now) c.args.input.now c.args.path.now c.args.chosen.now c.in_ok-there.there _ _ _ c.if-there.true (c.make_over.ensures tells),
)

pub returns-else-there : goal.returns-else-there
returns-else-there g c = λ tells. inr (
  c.in_ok-there.there,
  g.F.Files.calls c.is_there.new.files,
  c.in_ok-there.ensures tells,
  makes_new (manner_of c.args.self.now) c.args.input.now c.args.path.now c.args.chosen.now c.in_ok-there.there _ _ _ c.if-there.false (c.make.ensures tells),
)
