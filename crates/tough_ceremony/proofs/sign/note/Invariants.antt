use Rattle.std.proofs.Common.{◌≡◌, drop}
use Rattle.tough_keys.specs.Key.{key_doc}
use Rattle.tough_roles.specs.Root.{keys_doc, root_doc}
use Rattle.tough_ceremony.specs.Signing.{noted, root_ids}
use Rattle.tough_ceremony.proofs.sign.note.Given as goal

-- what is noted of those that are left makes the whole
abbrev pub invariant-loop-id : goal.invariant-loop-id
invariant-loop-id l = noted (keys_doc l.root.keys.entries) (key_doc l.key) l.all.items (drop l.id-index l.listed) ≡ noted (keys_doc l.root.keys.entries) (key_doc l.key) l.fn.ids.items (root_ids (root_doc l.root))
