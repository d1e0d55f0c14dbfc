use Rattle.std.proofs.Common.{◌≡◌, ◌∷◌, [], List, ℕ, suc, Option, refl, sym, ap, ◌∙◌, arith}
use Rattle.tough_schema.specs.Below.{branches_under}
use Rattle.tough_schema.specs.Putting.{wide}
use Rattle.tough_schema.specs.Search.{no_names}
use Rattle.tough_schema.specs.Target.{target_doc}
use Rattle.tough_schema.specs.Visited.{names_in}
use Rattle.tough_schema.specs.Whole.{role_tree, role_branches}
use Rattle.tough_lazy.specs.Course.{needed, sought_by}
use Rattle.tough_lazy.specs.Walking.{course_on, course_maybe, branches_in_list, delegations_of, through, steps_on}
use Rattle.tough_lazy.specs.declared.walk.Entered.{Entered}
use Rattle.tough_lazy.specs.declared.walk.Inside.TheVariants as inside
use Rattle.tough_lazy.specs.declared.walk.RoleList.{RoleList}
use Rattle.tough_lazy.specs.declared.walk.Sight.TheVariants as sight
use Rattle.tough_lazy.proofs.Courses.{sighted, shown, way-is, step-found, step-needs, step-passed, step-into, into-steps}
use Rattle.tough_lazy.proofs.walk.look_on.Goals as goal

pub loop-here-preserved-in-Passed : goal.loop-here-preserved-in-Passed
loop-here-preserved-in-Passed c =
    let name = c.args.name.now in
    let es = c.loop-here.above.items in
    let seen = names_in c.loop-here.reached in
    let l = c.in-Some.list in
    let r = c.in-Some-split_first.role.now in
    let rest : RoleList = record { delegations = l.delegations; roles = c.in-Some-split_first.others } in
    let so = ap (λ (o : Option RoleList). sought_by (through name es (course_maybe name seen o))) (sym c.in-Some.is) ∙ c.loop-here.invariant.course in
    record {
      course = step-passed name es seen l (sought_by (course_on name no_names c.args.list)) so (names_in c.see.new.reached) rest
          (sighted name c.new-hashed.result.name.now seen (names_in c.see.new.reached) l rest r c.in-Some-split_first.others.now c.in_ok-see.field-0 sight.Passed c.new-hashed.ensures c.in-Passed.is c.in-Some-split_first.ensures.cases.0 refl refl c.in_ok-see.ensures.course);
      ended = λ h. cc;
    }

pub returns-in-Bare : goal.returns-in-Bare
returns-in-Bare c =
    let name = c.args.name.now in
    let es = c.loop-here.above.items in
    let seen = names_in c.loop-here.reached in
    let l = c.in-Some.list in
    let r = c.in-Some-split_first.role.now in
    let others = c.in-Some-split_first.others.now in
    let rest : RoleList = record { delegations = l.delegations; roles = c.in-Some-split_first.others } in
    let so = ap (λ (o : Option RoleList). sought_by (through name es (course_maybe name seen o))) (sym c.in-Some.is) ∙ c.loop-here.invariant.course in
    ap (λ (w : List ℕ). needed (record { way = w; delegations = delegations_of l; entry = (role_tree r).0 })) (way-is es c.deref.result.now l r others c.in_ok-way_to-in-Bare.field-0.items c.in_ok-way_to-in-Bare.ensures c.deref.ensures.value c.in-Some-split_first.ensures.cases.0)
    ∙ step-needs name es seen l (sought_by (course_on name no_names c.args.list)) so (record { way = suc (wide (role_branches others)) ∷ []; delegations = delegations_of l; entry = (role_tree r).0 })
    (sighted name c.new-hashed.result.name.now seen (names_in c.see.new.reached) l rest r others c.in_ok-see.field-0 sight.Bare c.new-hashed.ensures c.in-Bare.is c.in-Some-split_first.ensures.cases.0 refl refl c.in_ok-see.ensures.course)

pub returns-in-Lists : goal.returns-in-Lists
returns-in-Lists c =
    let name = c.args.name.now in
    let es = c.loop-here.above.items in
    let seen = names_in c.loop-here.reached in
    let l = c.in-Some.list in
    let r = c.in-Some-split_first.role.now in
    let rest : RoleList = record { delegations = l.delegations; roles = c.in-Some-split_first.others } in
    let so = ap (λ (o : Option RoleList). sought_by (through name es (course_maybe name seen o))) (sym c.in-Some.is) ∙ c.loop-here.invariant.course in
    step-found name es seen l (sought_by (course_on name no_names c.args.list)) so (target_doc c.in-Lists.target.now)
    (sighted name c.new-hashed.result.name.now seen (names_in c.see.new.reached) l rest r c.in-Some-split_first.others.now c.in_ok-see.field-0 (sight.Into (inside.Lists c.in-Lists.target)) c.new-hashed.ensures (c.in-Into.is ∙ ap sight.Into c.in-Lists.is) c.in-Some-split_first.ensures.cases.0 refl refl c.in_ok-see.ensures.course)

pub loop-here-preserved : goal.loop-here-preserved
loop-here-preserved c =
    let name = c.args.name.now in
    let es = c.loop-here.above.items in
    let seen = names_in c.loop-here.reached in
    let l = c.in-Some.list in
    let r = c.in-Some-split_first.role.now in
    let rest : RoleList = record { delegations = l.delegations; roles = c.in-Some-split_first.others } in
    let e : Entered = record { role = c.in-Some-split_first.role; rest = rest } in
    let so = ap (λ (o : Option RoleList). sought_by (through name es (course_maybe name seen o))) (sym c.in-Some.is) ∙ c.loop-here.invariant.course in
    record {
      course = step-into name es seen l (sought_by (course_on name no_names c.args.list)) so c.push.new.self.items e (names_in c.see.new.reached) c.in-Roles.below c.in_ok-push-in-Roles.ensures.items
          (sighted name c.new-hashed.result.name.now seen (names_in c.see.new.reached) l rest r c.in-Some-split_first.others.now c.in_ok-see.field-0 (sight.Into (inside.Roles c.in-Roles.below)) c.new-hashed.ensures (c.in-Into.is ∙ ap sight.Into c.in-Roles.is) c.in-Some-split_first.ensures.cases.0 refl refl c.in_ok-see.ensures.course);
      ended = λ h. cc;
    }

pub loop-here-smaller : goal.loop-here-smaller
loop-here-smaller c =
    let r = c.in-Some-split_first.role.now in
    let l = c.in-Some.list in
    let rest : RoleList = record { delegations = l.delegations; roles = c.in-Some-split_first.others } in
    let e : Entered = record { role = c.in-Some-split_first.role; rest = rest } in
    let below : branches_in_list c.in-Roles.below ≡ branches_under (role_tree r).1 = shown (branches_under (role_tree r).1) c.in_ok-see.field-0 c.in-Roles.below c.in-Into.inside c.in-Into.is c.in-Roles.is c.in_ok-see.ensures.roles in
    omega (
      arith,
      ap steps_on c.in-Some.is,
      into-steps c.loop-here.above.items c.push.new.self.items e l c.in-Roles.below r c.in-Some-split_first.others.now c.in_ok-push-in-Roles.ensures.items c.in-Some-split_first.ensures.cases.0 refl below,
    )
