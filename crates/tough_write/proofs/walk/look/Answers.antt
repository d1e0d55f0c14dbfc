use Rattle.tough_files.specs.Calls.{found, refused}
use Rattle.tough_write.proofs.Walked.{looked_file, looked_folder, looked_link, looked_other}
use Rattle.tough_write.proofs.walk.look.Goals as goal

pub returns-in-File : goal.returns-in-File
returns-in-File g c = λ tells. (found c.in-Ok.kind, looked_file c.args.root.now c.args.path.now c.in-Ok.kind _ _ c.in-File.is (c.in-Ok.ensures.told tells))

pub returns-in-Folder : goal.returns-in-Folder
returns-in-Folder g c = λ tells. (found c.in-Ok.kind, looked_folder c.args.root.now c.args.path.now c.in-Ok.kind _ _ c.inner.result c.in-Folder.is (rw (c.in-Ok.ensures.told tells) at (c.inner.ensures tells)))

pub returns-in-Link : goal.returns-in-Link
returns-in-Link g c = λ tells. (found c.in-Ok.kind, looked_link c.args.root.now c.args.path.now c.in-Ok.kind _ _ c.in-Link.is (c.in-Ok.ensures.told tells))

pub returns-in-Other : goal.returns-in-Other
returns-in-Other g c = λ tells. (found c.in-Ok.kind, looked_other c.args.root.now c.args.path.now c.in-Ok.kind _ _ c.in-Other.is (c.in-Ok.ensures.told tells))

pub returns-in-Err : goal.returns-in-Err
returns-in-Err g c = λ tells. (refused c.in-Err.error, (c.in-Err.ensures.told tells, c.refusal.ensures))
