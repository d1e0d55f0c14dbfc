use Rattle.std.proofs.Common.{◌≡◌}
use Rattle.serde_json.specs.Data.{no_members}
use Rattle.serde_json.specs.View.{members_view}
use Rattle.tough_schema.specs.Targets.{listing_json, listing_doc}
use Rattle.tough_schema.proofs.write_targets.listing_value.Given as goal

abbrev pub invariant-loop-name : goal.invariant-loop-name
invariant-loop-name l = listing_json (listing_doc l.targets.entries) no_members ≡ listing_json (listing_doc l.name-iterator) (members_view l.members.entries)
