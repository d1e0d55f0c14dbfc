use Rattle.std.proofs.Common.{◌≡◌}
use Rattle.serde_json.specs.Data.{Members, no_members}
use Rattle.tough_json.specs.Pieces.{Stands}
use Rattle.tough_schema.specs.Targets.{listing_json, listing_doc}
use Rattle.tough_schema.proofs.write_targets.append_listing.Given as goal

abbrev pub invariant-loop-name : goal.invariant-loop-name
invariant-loop-name l =
    (ms : Members) × Stands l.fn.out.items l.fn.form ms l.object × (listing_json (listing_doc l.targets.entries) no_members ≡ listing_json (listing_doc l.name-iterator) ms)
