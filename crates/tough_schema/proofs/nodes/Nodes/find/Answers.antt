use Rattle.std.proofs.Common.{List, sym, ap, ◌∙◌}
use Rattle.tough_schema.specs.Whole.{tree_doc}
use Rattle.tough_schema.specs.Numbered.{Span}
use Rattle.tough_schema.specs.Found.{listed_in}
use Rattle.tough_schema.proofs.Finding.{finds-by-number}
use Rattle.tough_schema.proofs.nodes.Nodes.find.Goals as goal

pub returns-in-Some-clause-found : goal.returns-in-Some-clause-found
returns-in-Some-clause-found c =
    let t = tree_doc c.args.self.now.top.now in
    let by = finds-by-number c.args.permissive c.args.name.now t in
    c.target.ensures ∙ ap (λ (l : List Span). listed_in c.in-Some.number c.args.name.now (t, l)) c.requires ∙ sym (by.found c.in-Some.number (sym c.in_ok-found.ensures.node ∙ c.in-Some.is))

pub returns-in-None-clause-found : goal.returns-in-None-clause-found
returns-in-None-clause-found c =
    let by = finds-by-number c.args.permissive c.args.name.now (tree_doc c.args.self.now.top.now) in
    sym (by.missing.0 (sym c.in_ok-found.ensures.node ∙ c.in-None.is))
