use Rattle.std.proofs.Common.{rules, ◌≡◌, length, vec_len, sym, ◌∙◌}
use Rattle.tough_schema.specs.declared.nodes.Node.{Node}
use Rattle.tough_schema.specs.Numbered.{node_spans}
use Rattle.tough_schema.proofs.Numbers.{length-node_spans, spans-push, first-stepped, first-fewer}
use Rattle.tough_schema.proofs.nodes.add_first.Goals as goal

pub returns-clause-nodes : goal.returns-clause-nodes
returns-clause-nodes c =
    let found = c.args.found.now in
    let size : vec_len found ≡ length found.items = search rules in
    let node : Node = record { role = c.in-Some.role; end = 0 } in
    first-stepped c.args.steps.now.items c.push.new.self.items c.push-2.new.self.items c.push-3.new.self.items (node_spans found.items) (node_spans c.push-4.new.self.items)
    c.in-Some.role c.in-Some.others c.roles_under.result c.args.roles.now c.len.result
    c.in_ok-push.ensures.items c.in_ok-push-2.ensures.items c.in_ok-push-3.ensures.items (spans-push found.items c.push-4.new.self.items node c.in_ok-push-4.ensures.items)
    (c.len.ensures ∙ size ∙ sym (length-node_spans found.items)) c.in-Some.ensures.cases.0 c.roles_under.ensures.branches

pub returns-clause-fewer : goal.returns-clause-fewer
returns-clause-fewer c =
    first-fewer c.args.steps.now.items c.push.new.self.items c.push-2.new.self.items c.push-3.new.self.items c.in-Some.role c.in-Some.others c.roles_under.result c.args.roles.now c.len.result
    c.in_ok-push.ensures.items c.in_ok-push-2.ensures.items c.in_ok-push-3.ensures.items c.in-Some.ensures.cases.0 c.roles_under.ensures.branches
