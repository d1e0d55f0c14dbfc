use Rattle.std.proofs.Common.{List, ap}
use Rattle.tough_schema.specs.Whole.{TreeDoc, tree_doc}
use Rattle.tough_schema.specs.Numbered.{Span}
use Rattle.tough_schema.proofs.Numbers.{from-none}
use Rattle.tough_schema.proofs.nodes.Nodes.of.Goals as goal

pub invariant_of-result : goal.invariant_of-result
invariant_of-result c = record { whole = ∣ from-none c.new-entries.result.items c.add_below.new.found.items (tree_doc c.args.targets.now) c.new-entries.ensures.items c.in_ok-add_below.ensures ∣₁ }

pub returns-clause-nodes : goal.returns-clause-nodes
returns-clause-nodes c =
    let t = tree_doc c.args.targets.now in
    ap (λ (l : List Span). let d : TreeDoc × List Span = (t, l) in d) (from-none c.new-entries.result.items c.add_below.new.found.items t c.new-entries.ensures.items c.in_ok-add_below.ensures)
