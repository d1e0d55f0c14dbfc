use Rattle.std.proofs.Common.{◌≡◌, subst}
use Rattle.tough_files.specs.Calls.{done_or}
use Rattle.tough_files.specs.Contents.{followed, node_at}
use Rattle.tough_files.specs.Changes.{Gives, copy_over}
use Rattle.tough_files.specs.Tree.{contents_of}
use Rattle.tough_files.proofs.tree.Tree.copy.Goals as goal

pub returns-in-Ok : goal.returns-in-Ok
returns-in-Ok c =
    let before = contents_of c.args.self.now in
    let at : c.as_str.result.now ≡ followed before c.args.from.now = cc (c.as_str.ensures.value, c.in-Ok.ensures.path) in
    subst (λ path. Gives (copy_over c.args.to.now before (node_at before path)) before (done_or c.copy_at.result) (contents_of c.copy_at.new.self)) at c.copy_at.ensures
