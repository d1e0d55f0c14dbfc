use Rattle.std.proofs.Common.{◌≡◌, List, ◌++◌, Some, String, Global}
use Rattle.serde_json.specs.View.{members_view}
use Rattle.tough_roles.specs.declared.timestamp.Metafile.{Metafile}
use Rattle.tough_roles.specs.Timestamp.{metafiles_doc}
use Rattle.tough_json.specs.Writing.{named}
use Rattle.tough_roles.specs.Timestamp.{metafile_json}
use Rattle.tough_roles.proofs.write_timestamp.metafiles_value.Given as goal

abbrev pub invariant-loop-name : goal.invariant-loop-name
invariant-loop-name l =
    (done : List (String Global × Metafile)) × (l.metafiles.entries ≡ done ++ l.name-iterator) × (named metafile_json (metafiles_doc done) ≡ Some (members_view l.members.entries))
