use Rattle.std.proofs.Common.{◌≡◌}
use Rattle.tough_schema.specs.Targets.{listing_doc}
use Rattle.tough_schema.specs.Entries.{merged_into}
use Rattle.tough_edit.proofs.build.merged.Given as goal

-- what is put of those that are left makes the whole
abbrev pub invariant-loop-name : goal.invariant-loop-name
invariant-loop-name l = merged_into (listing_doc l.all.entries) (listing_doc l.name-iterator) ≡ merged_into (listing_doc l.old.entries) (listing_doc l.new.entries)
