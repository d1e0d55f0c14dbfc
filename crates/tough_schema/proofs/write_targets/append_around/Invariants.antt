use Rattle.std.proofs.Common.{◌≡◌, ◌++◌, List, Some, codes}
use Rattle.serde_json.specs.Data.{Data, Members, object, no_members}
use Rattle.serde_json.specs.Find.{get_member}
use Rattle.serde_json.specs.View.{members_view}
use Rattle.serde_json.proofs.Views.{Entry}
use Rattle.tough_json.specs.Pieces.{replaced, Stands}
use Rattle.tough_schema.specs.Targets.{listing_json, listing_doc}
use Rattle.tough_schema.proofs.write_targets.append_around.Given as goal

abbrev pub invariant-loop-key : goal.invariant-loop-key
invariant-loop-key l =
    (done : List Entry) × (l.members.entries ≡ done ++ l.key-iterator)
    × ((ms : Members) → listing_json (listing_doc l.targets.entries) no_members ≡ Some ms → Stands l.fn.out.items l.fn.form (replaced (codes "targets") (object ms) (members_view done)) l.object)
    × ((d : Data) → get_member (codes "targets") (members_view done) ≡ Some d → (ms : Members) × (listing_json (listing_doc l.targets.entries) no_members ≡ Some ms))
