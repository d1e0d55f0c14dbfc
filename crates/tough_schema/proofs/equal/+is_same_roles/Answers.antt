use Rattle.std.proofs.Common.{◌≡◌, ◌&&◌, ◌+◌, ◌<◌, sym, ap, ◌∙◌, arith}
use Rattle.tough_schema.specs.Below.{roles_beneath, work}
use Rattle.tough_schema.specs.Equal.{same_roles}
use Rattle.tough_schema.specs.Comparing.{all_same, works}
use Rattle.tough_schema.proofs.Seeks.{count-roles}
use Rattle.tough_schema.proofs.Comparisons.{descends, at-once, others-differ, next-pair, work-cons, works-last}
use Rattle.tough_schema.proofs.equal.+is_same_roles.Goals as goal
use Rattle.tough_schema.proofs.equal.+is_same_roles.Goals.{else-not-keeps-via-then-not-keeps+else-not-is_same_roles, else-not-keeps-via-else-not-keeps}

pub is_same_roles-requires : goal.is_same_roles-requires
is_same_roles-requires t c =
    let xs = c.in-Some-Some.xs.now in
    let here = count-roles c.loop-x.here.one.now xs c.in-Some-Some.x.now c.in-Some-Some.ensures.cases.0 in
    let fewer : work xs < t = omega (arith, here, c.loop-x.invariant.1, c.decreases) in
    (fewer, tt)

pub returns-then-not-is_same_roles : goal.returns-then-not-is_same_roles
returns-then-not-is_same_roles t c =
    others-differ _ (same_roles c.in-Some-Some.xs.now c.in-Some-Some.ys.now) (all_same c.loop-x.left.items) (same_roles c.args.one.now c.args.other.now)
    (descends c.loop-x.here.one.now c.loop-x.here.other.now c.in-Some-Some.xs.now c.in-Some-Some.ys.now c.in-Some-Some.x.now c.in-Some-Some.y.now (same_roles c.args.one.now c.args.other.now) c.loop-x.left.items
    c.in-Some-Some.ensures.cases.0 c.in-Some-Some.ensures'.cases.0 (sym c.is_same_but_below.ensures ∙ c.if-not-is_same_but_below.false) c.loop-x.invariant.0)
    (sym c.if-not-is_same_roles.true ∙ c.is_same_roles.ensures)

pub loop-x-smaller-in-Some-split_first-2 : goal.loop-x-smaller-in-Some-split_first-2
loop-x-smaller-in-Some-split_first-2 t c =
    let xs = c.in-Some-Some.xs.now in
    let here = work-cons c.loop-x.here.one.now xs c.roles_under.result.now c.in-Some-Some.x.now c.in-Some-Some.ensures.cases.0 c.roles_under.ensures.branches in
    omega (arith, here, c.keeps.ensures.more)

pub loop-x-preserved-in-Some-split_first-2 : goal.loop-x-preserved-in-Some-split_first-2
loop-x-preserved-in-Some-split_first-2 t c =
    let xs = c.in-Some-Some.xs.now in
    let ys = c.in-Some-Some.ys.now in
    let old = c.loop-x.left.items in
    let new = c.keeps.new.left.items in
    let kept : all_same new ≡ (same_roles xs ys && all_same old) = elim c.else-not-keeps.branch [
      | else-not-keeps-via-then-not-keeps+else-not-is_same_roles w ↦ at-once new old xs ys w.if-not-keeps.ensures.same (sym w.if-not-is_same_roles.false ∙ w.is_same_roles.ensures)
      | else-not-keeps-via-else-not-keeps w ↦ w.if-not-keeps.ensures.same
    ] in
    let here = work-cons c.loop-x.here.one.now xs c.roles_under.result.now c.in-Some-Some.x.now c.in-Some-Some.ensures.cases.0 c.roles_under.ensures.branches in
    let below = same_roles (roles_beneath c.in-Some-Some.x.now) (roles_beneath c.in-Some-Some.y.now) in (
      descends c.loop-x.here.one.now c.loop-x.here.other.now xs ys c.in-Some-Some.x.now c.in-Some-Some.y.now (same_roles c.args.one.now c.args.other.now) old
          c.in-Some-Some.ensures.cases.0 c.in-Some-Some.ensures'.cases.0 (sym c.is_same_but_below.ensures ∙ c.if-not-is_same_but_below.false) c.loop-x.invariant.0
          ∙ ap (λ b. below && b) (sym kept)
          ∙ ap (λ l. same_roles l (roles_beneath c.in-Some-Some.y.now) && all_same new) (sym c.roles_under.ensures.same)
          ∙ ap (λ l. same_roles c.roles_under.result.now l && all_same new) (sym c.roles_under-in-Some-Some.ensures.same),
      omega (arith, here, c.keeps.ensures.more, c.loop-x.invariant.1),
    )

pub loop-x-smaller : goal.loop-x-smaller
loop-x-smaller t c = omega (arith, ap works c.in-Some.ensures.items, works-last c.pop.new.self.items c.in-Some.next)

pub loop-x-preserved : goal.loop-x-preserved
loop-x-preserved t c = (
  next-pair c.loop-x.here.one.now c.loop-x.here.other.now c.loop-x.left.items c.pop.new.self.items c.in-Some.next (same_roles c.args.one.now c.args.other.now) (sym c.if-is_empty.true ∙ c.is_empty.ensures) (sym c.if-is_empty-2.true ∙ c.is_empty-then-is_empty.ensures) c.in-Some.ensures.items c.loop-x.invariant.0,
  omega (arith, ap works c.in-Some.ensures.items, works-last c.pop.new.self.items c.in-Some.next, c.loop-x.invariant.1),
)
