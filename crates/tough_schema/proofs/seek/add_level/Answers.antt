use Rattle.std.proofs.Common.{List, Option, sym, ap, ◌∙◌, arith}
use Rattle.std.specs.Option.{option_or}
use Rattle.tough_schema.specs.declared.delegations.DelegatedRole.{DelegatedRole}
use Rattle.tough_schema.specs.Below.{count}
use Rattle.tough_schema.specs.Whole.{DelegationsTree, delegations_tree, role_branches}
use Rattle.tough_schema.specs.Seek.{standing, first_named}
use Rattle.tough_schema.specs.Seeking.{all_standing}
use Rattle.tough_schema.proofs.Seeks.{standing-last, standing-inner, level_work-push, branches-inner}
use Rattle.tough_schema.proofs.seek.add_level.Goals as goal

pub returns-in_ok-push-clause-standing : goal.returns-in_ok-push-clause-standing
returns-in_ok-push-clause-standing c = λ name.
    let levels = c.args.levels.now.items in
    standing-last name levels c.push.new.self.items _ c.in_ok-push.ensures.items
    ∙ ap (λ (o : Option DelegationsTree). option_or o (first_named name (all_standing levels)))
    (ap (λ (rs : List DelegatedRole). first_named name (standing (delegations_tree c.in-Some.all) (role_branches rs))) c.deref.ensures.value ∙ sym (standing-inner name c.args.document.now c.in-Some.all c.in-Some.is))

pub returns-in_ok-push-clause-few : goal.returns-in_ok-push-clause-few
returns-in_ok-push-clause-few c =
    omega (
      arith,
      level_work-push c.args.levels.now.items c.push.new.self.items _ c.in_ok-push.ensures.items,
      ap (λ (rs : List DelegatedRole). count (role_branches rs)) c.deref.ensures.value,
      ap count (branches-inner c.args.document.now c.in-Some.all c.in-Some.is),
    )
