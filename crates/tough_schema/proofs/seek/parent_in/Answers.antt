use Rattle.std.proofs.Common.{Option, option_map, Bor, sym, ap, ◌∙◌, arith}
use Rattle.std.specs.Option.{option_or}
use Rattle.tough_schema.specs.Whole.{delegations_tree}
use Rattle.tough_schema.specs.declared.delegations.Delegations.{Delegations}
use Rattle.tough_schema.specs.Seek.{first_named}
use Rattle.tough_schema.specs.Seeking.{all_standing}
use Rattle.tough_schema.proofs.Seeks.{parent-none, standing-last, level_work-push}
use Rattle.tough_schema.proofs.seek.parent_in.Goals as goal

pub returns-in-Some-2 : goal.returns-in-Some-2
returns-in-Some-2 c =
    let rest = first_named c.args.name.now (all_standing c.parent_first.new.levels.items) in
    ap (λ (o : Option (Bor Delegations)). option_or (option_map (λ g. delegations_tree g.now) o) rest) (sym c.in-Some-2.is) ∙ c.in_ok-found.ensures.parent
    ∙ sym (standing-last c.args.name.now c.pop.new.self.items c.loop-level.levels.items c.in-Some.level c.in-Some.ensures.items) ∙ c.loop-level.invariant

pub loop-level-smaller : goal.loop-level-smaller
loop-level-smaller c =
    omega (arith, c.in_ok-found.ensures.fewer, level_work-push c.pop.new.self.items c.loop-level.levels.items c.in-Some.level c.in-Some.ensures.items)

pub loop-level-preserved : goal.loop-level-preserved
loop-level-preserved c =
    let rest = first_named c.args.name.now (all_standing c.parent_first.new.levels.items) in
    sym (parent-none _ rest c.in_default-2.not-Some) ∙ c.in_ok-found.ensures.parent
    ∙ sym (standing-last c.args.name.now c.pop.new.self.items c.loop-level.levels.items c.in-Some.level c.in-Some.ensures.items) ∙ c.loop-level.invariant
