use Rattle.std.proofs.Common.{subst}
use Rattle.tough_write.specs.Putting.{Manner}
use Rattle.tough_write.specs.Walking.{PutsAll}
use Rattle.tough_write.proofs.target_files.TargetFiles.link_targets.Goals as goal

pub returns : goal.returns
returns g c = λ tells.
    let P : Manner → Type 0 = λ m. PutsAll m c.args.indir.now c.put_all.result (g.F.Files.calls c.args.files.now) (g.F.Files.calls c.put_all.new.files) in
    subst P c.putting.ensures (c.put_all.ensures tells)
