use Rattle.std.proofs.Common.{◌≡◌}
use Rattle.tough_roles.specs.Root.{keys_doc}
use Rattle.tough_edit.specs.Keys.{with_keys}
use Rattle.tough_edit.proofs.keys.with_keys.Given as goal

-- what is added of those that are left makes the whole
abbrev pub invariant-loop-keyid : goal.invariant-loop-keyid
invariant-loop-keyid l = with_keys (keys_doc l.all.entries) (keys_doc l.keyid-iterator) ≡ with_keys (keys_doc l.known.entries) (keys_doc l.new.entries)
