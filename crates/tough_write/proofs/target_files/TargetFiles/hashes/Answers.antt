use Rattle.std.proofs.Common.{◌≡◌, Some, None, option_map, Bor, sym, ap, ◌∙◌}
use Rattle.tough_schema.specs.Search.{listed}
use Rattle.tough_schema.specs.Target.{target_doc}
use Rattle.tough_schema.specs.declared.target.Target.{Target}
use Rattle.tough_write.specs.Listed.{listing_in, hashes_of}
use Rattle.tough_write.proofs.Listings.{get-map_docs}
use Rattle.tough_write.proofs.target_files.TargetFiles.hashes.Goals as goal

pub returns-in-Some : goal.returns-in-Some
returns-in-Some c =
    let found : listed c.args.name.now (listing_in c.args.self.now) ≡ Some (target_doc c.in-Some.target.now.now) = get-map_docs c.args.name.now c.args.self.now.targets.entries ∙ ap (option_map (λ (t : Bor Target). target_doc t.now)) (sym c.in-Some.ensures.value) in
    sym (ap (option_map hashes_of) found)

pub returns-in-None : goal.returns-in-None
returns-in-None c =
    let found : listed c.args.name.now (listing_in c.args.self.now) ≡ None = get-map_docs c.args.name.now c.args.self.now.targets.entries ∙ ap (option_map (λ (t : Bor Target). target_doc t.now)) (sym c.in-None.ensures.value) in
    sym (ap (option_map hashes_of) found)
