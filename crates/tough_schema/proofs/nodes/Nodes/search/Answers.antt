use Rattle.std.proofs.Common.{sym, ◌∙◌}
use Rattle.tough_schema.specs.Whole.{tree_doc}
use Rattle.tough_schema.proofs.Rests.{top-node, top-tests, whole-node, whole-tests}
use Rattle.tough_schema.proofs.nodes.Nodes.search.Goals as goal

pub returns-then-is_listed-clause-node : goal.returns-then-is_listed-clause-node
returns-then-is_listed-clause-node c = top-node c.args.permissive c.args.name.now (tree_doc c.args.self.now.top.now) (sym c.is_listed.ensures ∙ c.if-is_listed.true)

pub returns-then-is_listed-clause-tests : goal.returns-then-is_listed-clause-tests
returns-then-is_listed-clause-tests c = top-tests c.args.permissive c.args.name.now (tree_doc c.args.self.now.top.now) (sym c.is_listed.ensures ∙ c.if-is_listed.true)

pub returns-clause-node : goal.returns-clause-node
returns-clause-node c = c.in_ok-found.ensures.node ∙ whole-node c.args.permissive c.args.name.now (tree_doc c.args.self.now.top.now) (sym c.is_listed.ensures ∙ c.if-is_listed.false)

pub returns-clause-tests : goal.returns-clause-tests
returns-clause-tests c = c.in_ok-found.ensures.tests ∙ whole-tests c.args.permissive c.args.name.now (tree_doc c.args.self.now.top.now) (sym c.is_listed.ensures ∙ c.if-is_listed.false)
