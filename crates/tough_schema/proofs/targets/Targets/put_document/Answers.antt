use Rattle.std.proofs.Common.{◌≡◌, Some, option_map, sym, ap, ◌∙◌}
use Rattle.tough_schema.specs.Whole.{tree_doc, role_tree, held_doc}
use Rattle.tough_schema.specs.Putting.{way_in}
use Rattle.tough_schema.proofs.Ways.{way-open, way-along, some-way, none-mapped}
use Rattle.tough_schema.proofs.targets.Targets.put_document.Goals as goal
use Rattle.tough_schema.proofs.targets.Targets.put_document.Goals.{in-Some, in_default-2}

pub returns-clause-put : goal.returns-clause-put
returns-clause-put c =
    let name = c.args.name.now in
    let t = tree_doc c.args.self.now in
    let h = held_doc c.args.document in
    elim c.match-branch-2.branch [
      | in-Some w ↦
          let ps = w.deref.result.now in
          let has : way_in name t ≡ Some ps = sym c.in_ok-way.ensures ∙ ap (option_map (λ v. v.items)) w.in-Some.is ∙ ap Some (sym w.deref.ensures.value) in
          ap tree_doc w.self-is ∙ w.put_along.ensures (way-open name h t ps has) ∙ way-along name h t ps has
      | in_default-2 w ↦ absurd (some-way name t (role_tree c.in_default.field-0.now) c.in_default.ensures.found (sym c.in_ok-way.ensures ∙ none-mapped (λ v. v.items) c.in_ok-way.field-0 w.in_default-2.not-Some))
    ]
