use Rattle.std.proofs.Common.{ℕ, sym, ap, ◌∙◌}
use Rattle.tough_schema.specs.Whole.{tree_doc}
use Rattle.tough_schema.specs.Nodes.{nodes_doc}
use Rattle.tough_schema.specs.Found.{document_in}
use Rattle.tough_schema.proofs.Looks.{document-there, document-past}
use Rattle.tough_schema.proofs.nodes.Nodes.document.Goals as goal

pub returns-then-number-eq0 : goal.returns-then-number-eq0
returns-then-number-eq0 c = sym (ap (λ (i : ℕ). document_in i (nodes_doc c.args.self.now)) c.if-number-eq0.true)

pub returns-in-Some : goal.returns-in-Some
returns-in-Some c =
    c.document_of.ensures ∙ document-there c.args.self.now.entries.items c.deref.result.now (tree_doc c.args.self.now.top.now) c.args.number c.in-Some.node.now c.if-number-eq0.false c.deref.ensures.value c.in-Some.ensures.lookup.3.0 c.in-Some.ensures.lookup.1

pub returns-in-None : goal.returns-in-None
returns-in-None c =
    document-past c.args.self.now.entries.items c.deref.result.now (tree_doc c.args.self.now.top.now) c.args.number c.if-number-eq0.false c.deref.ensures.value c.in-None.ensures.lookup.3
