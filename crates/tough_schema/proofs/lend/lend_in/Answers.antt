use Rattle.std.proofs.Common.{◌≡◌, Some, option_map, sym, ap, ◌∙◌}
use Rattle.tough_schema.specs.Whole.{tree_doc}
use Rattle.tough_schema.specs.Putting.{way_in}
use Rattle.tough_schema.proofs.Ways.{way-lends, no-way}
use Rattle.tough_schema.proofs.lend.lend_in.Goals as goal

pub returns-in-Some : goal.returns-in-Some
returns-in-Some c =
    let name = c.args.name.now in
    let t = tree_doc c.args.document.now in
    let ps = c.deref.result.now in
    let has : way_in name t ≡ Some ps = sym c.in_ok-way.ensures ∙ ap (option_map (λ v. v.items)) c.in-Some.is ∙ ap Some (sym c.deref.ensures.value) in
    c.lend_along.ensures ∙ way-lends name t ps has

pub returns-in-None : goal.returns-in-None
returns-in-None c = sym (no-way c.args.name.now (tree_doc c.args.document.now) (sym c.in_ok-way.ensures ∙ ap (option_map (λ v. v.items)) c.in-None.is))
