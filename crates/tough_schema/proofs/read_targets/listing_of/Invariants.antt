use Rattle.std.proofs.Common.{◌≡◌, Some, length}
use Rattle.json.specs.Value.{members_view as json_members}
use Rattle.serde_json.specs.Data.{Members, no_members}
use Rattle.serde_json.specs.Read.{of_members}
use Rattle.tough_schema.specs.Targets.{listing_doc}
use Rattle.tough_schema.proofs.Lasts.{Stands}
use Rattle.tough_schema.proofs.read_targets.listing_of.Given as goal

abbrev pub invariant-loop-raw : goal.invariant-loop-raw
invariant-loop-raw l = (ms : Members) → of_members (json_members l.fn.members.items) no_members ≡ Some ms
    → Stands ms (of_members (json_members l.left.items) no_members) (listing_doc l.targets.entries)

abbrev pub decreases-loop-raw : goal.decreases-loop-raw
decreases-loop-raw l = length l.left.items
