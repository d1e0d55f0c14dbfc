use Rattle.std.proofs.Common.{option_map, sym, ap, ◌∙◌}
use Rattle.tough_schema.specs.Whole.{tree_doc}
use Rattle.tough_schema.specs.Nodes.{nodes_doc}
use Rattle.tough_schema.proofs.Looks.{target-some, target-none, copied-target}
use Rattle.tough_schema.proofs.nodes.Nodes.target.Goals as goal

pub returns-in-Some : goal.returns-in-Some
returns-in-Some c =
    let d = nodes_doc c.args.self.now in
    copied-target c.get.result _ c.get.ensures.value ∙ sym (target-some c.args.name.now d c.args.number c.in-Some.document.now (sym c.document.ensures ∙ ap (option_map (λ d. tree_doc d.now)) c.in-Some.is))

pub returns-in-None : goal.returns-in-None
returns-in-None c =
    let d = nodes_doc c.args.self.now in
    sym (target-none c.args.name.now d c.args.number (sym c.document.ensures ∙ ap (option_map (λ d. tree_doc d.now)) c.in-None.is))
