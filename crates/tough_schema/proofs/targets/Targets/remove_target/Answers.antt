use Rattle.std.proofs.Common.{ap, ◌∙◌}
use Rattle.std.specs.Map.{remove_entry}
use Rattle.std.specs.BTreeMap.{is_at}
use Rattle.tough_names.specs.Named.{by_raw_then_resolved}
use Rattle.tough_schema.specs.declared.targets.Targets.{out-Targets}
use Rattle.tough_schema.specs.Target.{target_doc}
use Rattle.tough_schema.specs.Targets.{listing_doc}
use Rattle.tough_schema.proofs.lemmas.Wholes.{listed-as, remove-listing, lookup-listing}
use Rattle.tough_schema.proofs.targets.Targets.remove_target.Goals as goal
use Rattle.std.proofs.Common.{option_map}

pub returns-clause-removed : goal.returns-clause-removed
returns-clause-removed c =
    let here = is_at (by_raw_then_resolved c.args.name.now) in
    listed-as c.args.self.now c.remove.new.self (remove_entry here) (ap listing_doc c.remove.ensures.entries ∙ remove-listing here (out-Targets c.args.self.now).targets.entries)

pub returns-clause-target : goal.returns-clause-target
returns-clause-target c =
    ap (option_map target_doc) c.remove.ensures.value ∙ lookup-listing (is_at (by_raw_then_resolved c.args.name.now)) (out-Targets c.args.self.now).targets.entries
