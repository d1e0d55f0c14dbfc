use Rattle.std.proofs.Common.{◌≡◌, [], map, string_bytes}
use Rattle.tough_files.specs.Tree.{entry_names}
use Rattle.tough_files.proofs.tree.Tree.names_in.Given as goal

abbrev pub invariant-loop-path : goal.invariant-loop-path
invariant-loop-path l = entry_names l.fn.folder (map string_bytes l.names.items) l.path-iterator ≡ entry_names l.fn.folder [] l.fn.self.nodes.entries
