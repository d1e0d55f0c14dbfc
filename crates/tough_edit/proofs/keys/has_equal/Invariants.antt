use Rattle.std.proofs.Common.{◌≡◌}
use Rattle.tough_keys.specs.Key.{key_doc}
use Rattle.tough_roles.specs.Root.{keys_doc}
use Rattle.tough_edit.specs.Keys.{has_equal}
use Rattle.tough_edit.proofs.keys.has_equal.Given as goal

abbrev pub invariant-loop-other : goal.invariant-loop-other
invariant-loop-other l = has_equal (keys_doc l.other-iterator) (key_doc l.key) ≡ has_equal (keys_doc l.known.entries) (key_doc l.key)
