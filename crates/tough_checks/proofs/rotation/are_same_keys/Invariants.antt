use Rattle.std.proofs.Common.{◌≡◌, drop}
use Rattle.tough_roles.specs.Root.{root_doc}
use Rattle.tough_roles.specs.Keyring.{keys_along}
use Rattle.tough_checks.specs.Rotation.{same_keys}
use Rattle.tough_checks.proofs.rotation.are_same_keys.Given as goal

abbrev pub invariant-loop-place : goal.invariant-loop-place
invariant-loop-place l =
    same_keys (keys_along (root_doc l.old).keys (drop l.place l.old_ids)) (keys_along (root_doc l.new).keys (drop l.place l.new_ids))
    ≡ same_keys (keys_along (root_doc l.old).keys l.old_ids) (keys_along (root_doc l.new).keys l.new_ids)
