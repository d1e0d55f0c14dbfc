use Rattle.std.proofs.Common.{refl, rules, string_bytes}
use Rattle.tough_files.specs.declared.files.FilesError.TheVariants.{Memory}
use Rattle.tough_files.specs.Calls.{named, refused}
use Rattle.tough_files.specs.Tree.{contents_of}
use Rattle.tough_files.specs.Memory.{memory_contents}
use Rattle.tough_files.proofs.Temps.{starved, made}
use Rattle.tough_files.proofs.memory.MemoryFilesFiles.create_temp.Goals as goal

pub returns-in-Err-clause-gives : goal.returns-in-Err-clause-gives
returns-in-Err-clause-gives c = λ tells. starved c.args.folder.now (memory_contents c.args.self.now) c.in-Err.e c.in-Err.ensures.memory

pub returns-then-is_err-clause-gives : goal.returns-then-is_err-clause-gives
returns-then-is_err-clause-gives c = λ tells. starved c.args.folder.now (memory_contents c.args.self.now) Memory refl

pub returns-in-Err-fresh_path-clause-gives : goal.returns-in-Err-fresh_path-clause-gives
returns-in-Err-fresh_path-clause-gives c = λ tells. starved c.args.folder.now (memory_contents c.args.self.now) c.in-Err-fresh_path.e c.in-Err-fresh_path.ensures.memory

pub returns-in-Err-copied-clause-gives : goal.returns-in-Err-copied-clause-gives
returns-in-Err-copied-clause-gives c = λ tells. starved c.args.folder.now (memory_contents c.args.self.now) c.in-Err-copied.e c.in-Err-copied.ensures.memory

pub returns-in-Ok-create_new-clause-gives : goal.returns-in-Ok-create_new-clause-gives
returns-in-Ok-create_new-clause-gives c = λ tells.
    let path = string_bytes c.in-Ok-fresh_path.numbered.1 in
    made c.args.folder.now path c.in-Ok-fresh_path.numbered.0 (memory_contents c.args.self.now) (contents_of c.create_new.new.self) (named path)
    c.in-Ok-fresh_path.ensures.path c.in-Ok-fresh_path.ensures.fresh (search rules)

pub returns-in-Err-create_new-clause-gives : goal.returns-in-Err-create_new-clause-gives
returns-in-Err-create_new-clause-gives c = λ tells.
    let path = string_bytes c.in-Ok-fresh_path.numbered.1 in
    made c.args.folder.now path c.in-Ok-fresh_path.numbered.0 (memory_contents c.args.self.now) (contents_of c.create_new.new.self) (refused c.in-Err-create_new.e)
    c.in-Ok-fresh_path.ensures.path c.in-Ok-fresh_path.ensures.fresh (search rules)
