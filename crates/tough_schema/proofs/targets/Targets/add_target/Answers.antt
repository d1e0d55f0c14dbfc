use Rattle.std.proofs.Common.{ap, ◌∙◌}
use Rattle.std.specs.BTreeMap.{insert_entry}
use Rattle.tough_names.specs.Named.{by_raw_then_resolved}
use Rattle.tough_schema.specs.declared.targets.Targets.{out-Targets}
use Rattle.tough_schema.specs.Target.{target_doc}
use Rattle.tough_schema.specs.Targets.{listing_doc}
use Rattle.tough_schema.specs.Tree.{Listing}
use Rattle.tough_schema.proofs.lemmas.Wholes.{listed-as, insert-listing}
use Rattle.tough_schema.proofs.targets.Targets.add_target.Goals as goal

pub returns-clause-added : goal.returns-clause-added
returns-clause-added c =
    let put : Listing → Listing = λ l. insert_entry by_raw_then_resolved l c.args.name (target_doc c.args.target) in
    listed-as c.args.self.now c.insert.new.self put (ap listing_doc c.in_ok-insert.ensures.entries ∙ insert-listing (out-Targets c.args.self.now).targets.entries c.args.name c.args.target)
