use Rattle.std.proofs.Common.{◌≡◌, Some, drop}
use Rattle.json.specs.Value.{members_view as json_members}
use Rattle.serde_json.specs.Data.{Members, no_members}
use Rattle.serde_json.specs.Read.{of_members}
use Rattle.serde_json.specs.View.{members_view}
use Rattle.tough_json.specs.Reading.{without}
use Rattle.tough_json.proofs.lemmas.Borrowed.{Rises}
use Rattle.tough_json.proofs.borrowed.others_in.Given as goal

abbrev pub invariant-loop-member : goal.invariant-loop-member
invariant-loop-member l = (ms : Members) → of_members (json_members l.members) no_members ≡ Some ms
    → (found : Members) × Rises found × (of_members (json_members (drop l.member-index l.members)) found ≡ Some ms) × (members_view l.values.entries ≡ without l.name found)
