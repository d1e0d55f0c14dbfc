use Rattle.std.proofs.Common.{◌≡◌, ◌-◌}
use denote.Text.{Utf8}
use denote.Shadow.{shadow}
use Rattle.tough_files.specs.Contents.{follow, max_links, followed}
use Rattle.tough_files.specs.Tree.{contents_of}
use Rattle.tough_files.proofs.tree.Tree.follow.Given as goal

abbrev pub invariant-loop : goal.invariant-loop
invariant-loop l = shadow (Utf8 l.path) × (follow (max_links - l.counter) (contents_of l.fn.self) l.path ≡ followed (contents_of l.fn.self) l.fn.path)
