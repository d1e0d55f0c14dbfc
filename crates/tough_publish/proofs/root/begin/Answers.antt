use Rattle.std.proofs.Common.{subst}
use Rattle.tough_release.specs.Roots.{IsRootOf}
use Rattle.tough_schema.specs.FileDigest.{there}
use Rattle.tough_publish.proofs.Beginnings.{root_read, unstable_at}
use Rattle.tough_publish.proofs.root.begin.Goals as goal

pub returns-in-Err-new-clause-refused : goal.returns-in-Err-new-clause-refused
returns-in-Err-new-clause-refused g c = λ tells.
    let path = c.args.path.now in
    let n = there path (g.F.Files.contents c.args.files.now) in
    let root = c.in-Ok-root_of.root in
    let bytes = c.in-Ok.bytes.items in
    let read = root_read bytes root c.signed_root.ensures.read (subst (IsRootOf root) c.as_slice.ensures.value c.in-Ok-root_of.ensures.read) in
    unstable_at path n bytes root c.in-Err-new.error (c.in-Ok.ensures.content tells) read c.in-Err-new.ensures.refused
