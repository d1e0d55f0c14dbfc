use Rattle.std.proofs.Common.{◌≡◌, sym, ap, ◌∙◌, rules}
use Rattle.std.specs.BTreeMap.{insert_entry}
use Rattle.tough_names.specs.Named.{by_raw_then_resolved}
use Rattle.tough_schema.specs.Target.{target_doc}
use Rattle.tough_schema.specs.Gather.{map_docs}
use Rattle.tough_write.proofs.Listings.{insert-map_docs, merged-more}
use Rattle.tough_write.proofs.target_files.add_listed.Goals as goal

pub loop-entry-preserved : goal.loop-entry-preserved
loop-entry-preserved c =
    let es = c.deref-entry-items.result.now in
    let e = c.entry-item.result in
    let found = c.loop-entry.targets.entries in
    let same : c.in_ok-clone.field-0 ≡ e.0.now = search rules in
    ap map_docs c.in_ok-insert.ensures.entries ∙ insert-map_docs found c.in_ok-clone.field-0 e.1 ∙ ap (λ k. insert_entry by_raw_then_resolved (map_docs found) k (target_doc e.1.now)) same
    ∙ ap (λ l. insert_entry by_raw_then_resolved l e.0.now (target_doc e.1.now)) c.loop-entry.invariant ∙ sym (merged-more (map_docs c.args.targets.now.entries) es c.loop-entry.entry-index e c.loop-entry-test.true c.entry-item.is)
