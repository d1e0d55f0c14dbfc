use Rattle.std.proofs.Common.{◌≡◌, true, false, ap, ◌∙◌, arith}
use Rattle.tough_schema.specs.Whole.{role_tree}
use Rattle.tough_lazy.specs.Course.{sought_by}
use Rattle.tough_lazy.proofs.Courses.{behind-ended, behind-on, terminating-is, steps-push}
use Rattle.tough_lazy.proofs.walk.behind.Goals as goal

pub returns-then-entered-clause-course : goal.returns-then-entered-clause-course
returns-then-entered-clause-course c = λ name seen.
    let last : (role_tree c.in_ok-entered.entered.role.now).0.terminating ≡ true = terminating-is c.in_ok-entered.entered.role.now ∙ c.if-entered.true in
    behind-ended name c.pop.new.self.items c.clear.new.self.items c.args.above.now.items c.in_ok-entered.entered seen c.clear.ensures.items c.in_ok-entered.ensures.items last

pub returns-clause-course : goal.returns-clause-course
returns-clause-course c = λ name seen.
    let other : (role_tree c.in_ok-entered.entered.role.now).0.terminating ≡ false = terminating-is c.in_ok-entered.entered.role.now ∙ c.if-entered.false in
    ap sought_by (behind-on name c.pop.new.self.items c.args.above.now.items c.in_ok-entered.entered seen c.in_ok-entered.ensures.items other)

pub returns-clause-fewer : goal.returns-clause-fewer
returns-clause-fewer c = omega (arith, steps-push c.pop.new.self.items c.args.above.now.items c.in_ok-entered.entered c.in_ok-entered.ensures.items)
