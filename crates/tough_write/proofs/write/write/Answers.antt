use Rattle.std.proofs.Common.{inr}
use Rattle.tough_files.specs.Calls.{done}
use Rattle.tough_files.specs.Changes.{Gives, append_outcome}
use Rattle.tough_write.specs.Filling.{IsPut}
use Rattle.tough_write.proofs.Filled.{weaken, wrote}
use Rattle.tough_write.proofs.write.write.Goals as goal

pub returns-clause-calls : goal.returns-clause-calls
returns-clause-calls g c = λ tells. inr (c.in_ok-create.field-0, g.F.Files.calls c.create.new.files, c.in_ok-create.ensures.calls tells, c.append.ensures.calls tells)

pub returns-clause-contents : goal.returns-clause-contents
returns-clause-contents g c = λ tells.
    let before = g.F.Files.contents c.args.files.now in
    let mid = g.F.Files.contents c.create.new.files in
    let after = g.F.Files.contents c.append.new.files in
    weaken (λ u. Gives (append_outcome c.args.path.now c.args.bytes.now mid) mid done after) (λ u. IsPut c.args.path.now c.args.bytes.now before after) c.append.result
    (λ u h. wrote c.args.path.now c.args.bytes.now before mid after (c.in_ok-create.ensures.contents tells) h) (c.append.ensures.contents tells)
