use Rattle.std.proofs.Common.{rules, ◌≡◌, false, not, option_map, string_bytes, sym, ap, ◌∙◌}
use Rattle.tough_schema.specs.declared.delegations.DelegatedRole.{out-DelegatedRole}
use Rattle.tough_schema.specs.Search.{is_new}
use Rattle.tough_schema.specs.Visited.{names_in}
use Rattle.tough_schema.specs.Whole.{TreeDoc, role_tree, held_doc}
use Rattle.tough_schema.proofs.Straying.{added}
use Rattle.tough_schema.proofs.lemmas.Wholes.{role-held, held-below}
use Rattle.tough_lazy.specs.Course.{course_in}
use Rattle.tough_lazy.proofs.Courses.{sees-into}
use Rattle.tough_lazy.proofs.walk.see.Goals as goal

pub returns-in-Some-clause-course : goal.returns-in-Some-clause-course
returns-in-Some-clause-course c = λ g bs.
    let name = c.args.name.now.name.now in
    let r = role_tree c.args.role.now in
    let new : not (is_new name (names_in c.args.reached.now) r.0) ≡ false = search rules in
    let same : string_bytes c.in_ok-clone.field-0 ≡ string_bytes (out-DelegatedRole c.args.role.now).name = search rules in
    sees-into name (names_in c.args.reached.now) (names_in c.insert.new.self) g r (held_doc c.in-Some.signed) c.see_document.result bs new (role-held c.args.role.now ∙ ap (option_map held_doc) c.in-Some.is)
    (added c.args.reached.now c.insert.new.self c.args.role.now c.in_ok-clone.field-0 same c.in_ok-insert.ensures.updates)
    (c.see_document.ensures.course (names_in c.insert.new.self) ∙ ap (λ (t : TreeDoc). course_in name (names_in c.insert.new.self) t) (sym (held-below c.in-Some.signed)))
