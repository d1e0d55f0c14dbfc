use Rattle.std.proofs.Common.{option_map, ap, ◌∙◌}
use Rattle.tough_schema.specs.Target.{target_doc}
use Rattle.tough_schema.specs.Whole.{tree_doc}
use Rattle.tough_lazy.proofs.Courses.{listed-is, inside-lists, inside-roles}
use Rattle.tough_lazy.proofs.walk.see_document.Goals as goal

pub returns-in-Some-clause-course : goal.returns-in-Some-clause-course
returns-in-Some-clause-course c = λ seen.
    let name = c.args.name.now in
    inside-lists name seen (tree_doc c.args.document.now) (target_doc c.in-Some.target.now) (listed-is name c.args.document.now c.get.result c.get.ensures.value ∙ ap (option_map (λ t. target_doc t.now)) c.in-Some.is)

pub returns-in-None-clause-course : goal.returns-in-None-clause-course
returns-in-None-clause-course c = λ seen.
    let name = c.args.name.now in
    inside-roles name seen (tree_doc c.args.document.now) c.roles_of.result (listed-is name c.args.document.now c.get.result c.get.ensures.value ∙ ap (option_map (λ t. target_doc t.now)) c.in-None.is) c.roles_of.ensures.delegations c.roles_of.ensures.branches
