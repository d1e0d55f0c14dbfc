use Rattle.std.proofs.Common.{rules, ◌≡◌, ℕ, length, slice_set, vec_len, ap, ◌∙◌}
use Rattle.std.proofs.lemmas.List.{map-set}
use Rattle.tough_schema.specs.declared.nodes.Node.{Node}
use Rattle.tough_schema.specs.Whole.{role_tree}
use Rattle.tough_schema.specs.Numbered.{Span, node_spans}
use Rattle.tough_schema.proofs.nodes.close.Goals as goal

pub returns-then-at-end : goal.returns-then-at-end
returns-then-at-end c =
    let span : Node → Span = λ n. (role_tree n.role.now, n.end) in
    let size : vec_len c.args.found.now ≡ length c.args.found.now.items = search rules in
    map-set span c.args.found.now.items c.args.at (record { role = c.args.role; end = c.len-end.result })
    ∙ ap (λ (k : ℕ). slice_set (node_spans c.args.found.now.items) c.args.at (role_tree c.args.role.now, k)) (c.len-end.ensures ∙ size)
