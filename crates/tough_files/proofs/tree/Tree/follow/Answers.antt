use Rattle.std.proofs.Common.{◌≡◌, ◌<◌, ◌-◌, ◌+◌, Some, arith, sym, subst, ◌∙◌}
use Rattle.std.proofs.lemmas.Grind.{common_steps}
use Rattle.tough_files.specs.Contents.{follow, followed, max_links, link, node_at}
use Rattle.tough_files.specs.Tree.{contents_of}
use Rattle.tough_files.proofs.Following.{past, ends}
use Rattle.tough_files.proofs.tree.Tree.follow.Goals as goal

pub loop-preserved : goal.loop-preserved
loop-preserved c =
    let contents = contents_of c.args.self.now in
    let at : node_at contents c.loop.path.now ≡ Some (link c.as_str-path.result.now) = grind (arith, common_steps) in
    let low : 0 < max_links - c.loop.counter = omega (arith, c.loop-test.true) in
    let back : max_links - (c.loop.counter + 1) ≡ max_links - c.loop.counter - 1 = omega arith in
    (c.as_str-path.utf8, rw back (sym (past (max_links - c.loop.counter) contents c.loop.path.now c.as_str-path.result.now low at) ∙ c.loop.invariant.1))

pub returns : goal.returns
returns c =
    let contents = contents_of c.args.self.now in
    let none_left : max_links - c.loop.counter ≡ 0 = omega (arith, c.loop-test.false) in
    sym (ends contents c.loop.path.now) ∙ subst (λ n. follow n contents c.loop.path.now ≡ followed contents c.args.path.now) none_left c.loop.invariant.1
