use Rattle.std.proofs.Common.{◌≡◌, ◌++◌}
use Rattle.std.specs.Map.{keys_of}
use Rattle.tough_roles.specs.Root.{keys_doc}
use Rattle.tough_edit.proofs.keys.keyids_of.Given as goal

abbrev pub invariant-loop-keyid : goal.invariant-loop-keyid
invariant-loop-keyid l = l.ids.items ++ keys_of (keys_doc l.keyid-iterator) ≡ keys_of (keys_doc l.keys.entries)
