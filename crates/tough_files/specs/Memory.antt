-- What files in memory tell.
use Rattle.std.specs.Prelude.{ℕ, List}
use Rattle.tough_files.specs.declared.memory.MemoryFiles.{MemoryFiles}
use Rattle.tough_files.specs.Calls.{Told}
use Rattle.tough_files.specs.Contents.{Contents}
use Rattle.tough_files.specs.Notes.{log_told}
use Rattle.tough_files.specs.Tree.{contents_of}

abbrev pub memory_contents : MemoryFiles → Contents
memory_contents files = contents_of files.tree

abbrev pub memory_calls : MemoryFiles → List Told
memory_calls files = log_told files.log

abbrev pub memory_failures : MemoryFiles → ℕ
memory_failures files = files.log.failures
