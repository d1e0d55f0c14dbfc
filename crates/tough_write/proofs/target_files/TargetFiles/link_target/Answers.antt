use Rattle.std.proofs.Common.{subst}
use Rattle.tough_write.specs.Putting.{given, Manner, Puts}
use Rattle.tough_write.proofs.target_files.TargetFiles.link_target.Goals as goal

pub returns : goal.returns
returns g c = λ tells.
    let P : Manner → Type 0 = λ m. Puts m c.args.input_path.now (given c.args.target_filename) c.put.result (g.F.Files.calls c.args.files.now) (g.F.Files.calls c.put.new.files) in
    subst P c.putting.ensures (c.put.ensures tells)
