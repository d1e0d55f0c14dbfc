use Rattle.tough_write.proofs.Replaced.{discarded}
use Rattle.tough_write.proofs.replace.discard.Goals as goal

pub returns : goal.returns
returns g c = λ tells before held n.
    discarded c.args.temp.now held before (g.F.Files.contents c.args.files.now) (g.F.Files.contents c.remove.new.self) n c.remove.result (c.remove.ensures.gives tells)
