use Rattle.std.proofs.Common.{◌≡◌, List, ◌++◌, Some}
use Rattle.std.specs.Map.{keys_of}
use Rattle.serde_json.specs.View.{members_view}
use Rattle.serde_json.proofs.Views.{Entry}
use Rattle.tough_roles.specs.Timestamp.{metafiles_doc}
use Rattle.tough_json.specs.Reading.{each}
use Rattle.tough_roles.specs.Timestamp.{metafile_at}
use Rattle.tough_roles.proofs.read_timestamp.metafiles_of.Given as goal

abbrev pub invariant-loop-name : goal.invariant-loop-name
invariant-loop-name l =
    (goal.iterator-loop-name).can_next l.name-iterator ×
    (goal.iterator-loop-name).is_finite l.name-iterator ×
    ((done : List Entry) × (l.fn.members.entries ≡ done ++ l.name-iterator) × (keys_of l.metafiles.entries ≡ keys_of done) × (each metafile_at (members_view done) ≡ Some (metafiles_doc l.metafiles.entries)))
