use Rattle.std.proofs.Common.{List, map, ap, ◌∙◌, arith}
use Rattle.std.proofs.lemmas.List.{take_all}
use Rattle.tough_schema.specs.declared.nodes.Node.{Node}
use Rattle.tough_schema.specs.Whole.{tree_doc}
use Rattle.tough_schema.specs.Numbered.{Span, node_spans}
use Rattle.tough_schema.proofs.Gathers.{nodes-roles}
use Rattle.tough_schema.proofs.Numbers.{from-none}
use Rattle.tough_schema.proofs.nodes.entries_below.Goals as goal

pub returns : goal.returns
returns c =
    let ns = c.deref-node-items.result.now in
    let t = tree_doc c.args.document.now in
    c.loop-node.invariant ∙ ap (λ (l : List Node). map (λ (s : Span). s.0) (node_spans l)) (take_all c.loop-node.node-index ns (omega (arith, c.loop-node-test.false)) ∙ c.deref-node-items.ensures.value)
    ∙ nodes-roles c.add_below.new.found.items t (from-none c.new-nodes.result.items c.add_below.new.found.items t c.new-nodes.ensures.items c.in_ok-add_below.ensures)
