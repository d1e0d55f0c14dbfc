use Rattle.std.proofs.Common.{rules, [], ◌∷◌, map, ap, ◌∙◌}
use Rattle.tough_client.specs.Plans.{turns_in}
use Rattle.tough_client.proofs.Planned.{named_next, named_end, added_named, all_named}
use Rattle.tough_client.specs.declared.plan.Turn.TheVariants as turn
use Rattle.tough_client.proofs.plan.Plan.add_named.Goals as goal

pub loop-name-preserved : goal.loop-name-preserved
loop-name-preserved g c = (
  search rules,
  λ later h.
      let t = c.in_ok-text.text in
      let text = g.S.AsStr.text in
      added_named (map text c.args.names.now) (turns_in c.args.self.now) (turns_in c.loop-name.self) (turns_in c.push.new.self) later (turn.Named t) (search rules)
      (c.loop-name.invariant.1 (turn.Named t ∷ later)
      (named_next text c.args.names.now c.loop-name.name-index c.name-item.result c.loop-name-test.true t (c.in_ok-text.ensures.ok ∙ c.as_str.ensures ∙ ap text c.name-item.is) later h)),
)

pub returns-clause-turns : goal.returns-clause-turns
returns-clause-turns g c =
    let text = g.S.AsStr.text in
    all_named (map text c.args.names.now) (turns_in c.args.self.now) (turns_in c.loop-name.self) (c.loop-name.invariant.1 [] (named_end text c.args.names.now c.loop-name.name-index c.loop-name-test.false))
