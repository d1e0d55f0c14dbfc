use Rattle.std.proofs.Common.{◌≡◌, ℕ, ◌<◌, length, sym, ap, subst, ◌∙◌, arith}
use Rattle.std.proofs.Math.Logic.{∥∥₁_elim}
use Rattle.std.proofs.Props.{props}
use Rattle.tough_schema.specs.declared.nodes.Course.{Course}
use Rattle.tough_schema.specs.Rest.{sight}
use Rattle.tough_schema.specs.Visited.{names_in}
use Rattle.tough_schema.specs.Whole.{tree_doc, role_tree}
use Rattle.tough_schema.proofs.Rests.{IsCourse, course-prop, course-start, course-on, course-further, course-found, course-ended, ends-behind}
use Rattle.tough_schema.proofs.nodes.Nodes.search_roles.Goals as goal

pub loop-course-init : goal.loop-course-init
loop-course-init c =
    let ns = c.args.self.now.entries in
    let t = tree_doc c.args.self.now.top.now in
    let from : ℕ → Course = λ k. record { at = 0; end = k; tests = 0 } in
    ∥∥₁_elim c.args.self.now.whole (course-prop c.args.permissive c.args.name.now (from c.len.result) (names_in c.new-reached.result) t (length ns.items))
    (λ h. course-start c.args.permissive c.args.name.now (from c.len.result) c.new-reached.result t ns.items h c.new-reached.ensures.empty (ap from (c.len.ensures ∙ ns.ok.0)))

pub then-course-requires : goal.then-course-requires
then-course-requires c =
    let ns = c.args.self.now.entries.items in
    ∥∥₁_elim c.args.self.now.whole (Prim.hlevel props)
    (λ h. (ends-behind ns (tree_doc c.args.self.now.top.now) c.loop-course.course.at c.index-node.result.now h (omega (arith, c.loop-course.invariant.within, c.loop-course-test.true)) c.index-node.ensures, c.loop-course.invariant.few))

pub loop-course-preserved : goal.loop-course-preserved
loop-course-preserved c =
    let ns = c.args.self.now.entries.items in
    let t = tree_doc c.args.self.now.top.now in
    let before = names_in c.loop-course.reached in
    let now = names_in c.see.new.reached in
    ∥∥₁_elim c.args.self.now.whole (course-prop c.args.permissive c.args.name.now c.then-course.result now t (length ns))
    (λ h. subst (λ (x : Course). IsCourse c.args.permissive c.args.name.now x now t (length ns)) (sym c.then-course.ensures)
    (course-on c.args.permissive c.args.name.now c.loop-course.course before now t ns c.index-node.result.now c.in_ok-sight.sight h c.loop-course.invariant c.loop-course-test.true c.index-node.ensures (subst (λ n. c.in_ok-sight.sight ≡ sight n (names_in c.loop-course.reached) (role_tree c.index-node.result.now.role.now)) c.new-hashed.ensures c.in_ok-sight.ensures.sight) c.in_ok-sight.ensures.names c.in_default.not-Lists))

pub loop-course-smaller : goal.loop-course-smaller
loop-course-smaller c =
    let n = c.index-node.result.now in
    let at = c.loop-course.course.at in
    let behind : at < n.end =
    ∥∥₁_elim c.args.self.now.whole (Prim.hlevel props)
    (λ h. ends-behind c.args.self.now.entries.items (tree_doc c.args.self.now.top.now) at n h (omega (arith, c.loop-course.invariant.within, c.loop-course-test.true)) c.index-node.ensures) in
    let further : at < c.then-course.result.at =
    subst (λ (x : Course). at < x.at) (sym c.then-course.ensures) (course-further c.args.permissive c.in_ok-sight.sight (role_tree n.role.now).0 n.end c.loop-course.course behind) in
    omega (arith, further, c.loop-course.invariant.within, c.loop-course-test.true)

pub returns-in-Lists-clause-node : goal.returns-in-Lists-clause-node
returns-in-Lists-clause-node c =
    ∥∥₁_elim c.args.self.now.whole (Prim.hlevel props)
    (λ h. (course-found c.args.permissive c.args.name.now c.loop-course.course (names_in c.loop-course.reached) (tree_doc c.args.self.now.top.now) c.args.self.now.entries.items c.index-node.result.now c.in_ok-sight.sight h c.loop-course.invariant c.loop-course-test.true c.index-node.ensures (subst (λ n. c.in_ok-sight.sight ≡ sight n (names_in c.loop-course.reached) (role_tree c.index-node.result.now.role.now)) c.new-hashed.ensures c.in_ok-sight.ensures.sight) c.in-Lists.is).0)

pub returns-in-Lists-clause-tests : goal.returns-in-Lists-clause-tests
returns-in-Lists-clause-tests c =
    ∥∥₁_elim c.args.self.now.whole (Prim.hlevel props)
    (λ h. (course-found c.args.permissive c.args.name.now c.loop-course.course (names_in c.loop-course.reached) (tree_doc c.args.self.now.top.now) c.args.self.now.entries.items c.index-node.result.now c.in_ok-sight.sight h c.loop-course.invariant c.loop-course-test.true c.index-node.ensures (subst (λ n. c.in_ok-sight.sight ≡ sight n (names_in c.loop-course.reached) (role_tree c.index-node.result.now.role.now)) c.new-hashed.ensures c.in_ok-sight.ensures.sight) c.in-Lists.is).1)

pub returns-clause-node : goal.returns-clause-node
returns-clause-node c =
    (course-ended c.args.permissive c.args.name.now c.loop-course.course (names_in c.loop-course.reached) (tree_doc c.args.self.now.top.now) (length c.args.self.now.entries.items) c.loop-course.invariant c.loop-course-test.false).0

pub returns-clause-tests : goal.returns-clause-tests
returns-clause-tests c =
    (course-ended c.args.permissive c.args.name.now c.loop-course.course (names_in c.loop-course.reached) (tree_doc c.args.self.now.top.now) (length c.args.self.now.entries.items) c.loop-course.invariant c.loop-course-test.false).1
