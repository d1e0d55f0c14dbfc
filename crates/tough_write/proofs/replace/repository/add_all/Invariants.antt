use Rattle.std.proofs.Common.{◌≡◌, ◌++◌, map, take}
use Rattle.tough_write.specs.Replacing.{file_doc}
use Rattle.tough_write.specs.Writing.{file_doc as named_doc}
use Rattle.tough_write.proofs.replace.repository.add_all.Given as goal

abbrev pub invariant-loop-file : goal.invariant-loop-file
invariant-loop-file l = map file_doc l.list.items ≡ map file_doc l.fn.list.items ++ map named_doc (take l.file-index l.named)
