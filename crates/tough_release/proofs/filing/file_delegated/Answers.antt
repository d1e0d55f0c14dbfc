use Rattle.std.proofs.Common.{[], sym, subst, ap, ◌∙◌}
use Rattle.tough_schema.specs.Entries.{entries}
use Rattle.tough_schema.specs.Gather.{shown}
use Rattle.tough_schema.specs.Whole.{tree_doc}
use Rattle.tough_signed.specs.Standing.{AreStanding}
use Rattle.tough_release.proofs.Standings.{put_step, all_put, unfiled_at}
use Rattle.tough_release.proofs.filing.file_delegated.Goals as goal

pub loop-role-init : goal.loop-role-init
loop-role-init c = subst (λ l. AreStanding [] l) (sym c.new-all.ensures.items) tt

pub loop-role-preserved : goal.loop-role-preserved
loop-role-preserved c = put_step c.deref-role-items.result.now c.loop-role.role-index _ c.loop-role.all.items _ c.loop-role-test.true c.role-item.is c.loop-role.invariant c.in-Ok.ensures.put

pub returns-in-Err-clause-refused : goal.returns-in-Err-clause-refused
returns-in-Err-clause-refused c =
    unfiled_at c.deref-role-items.result.now c.loop-role.role-index c.role-item.result (entries (tree_doc c.args.targets.now)) c.in-Err.error c.loop-role-test.true c.role-item.is (ap shown c.deref-role-items.ensures.value ∙ c.in_ok-entries.ensures) c.in-Err.ensures.refused

pub returns-clause-standing : goal.returns-clause-standing
returns-clause-standing c =
    all_put c.deref-role-items.result.now c.loop-role.role-index (entries (tree_doc c.args.targets.now)) c.loop-role.all.items c.loop-role-test.false (ap shown c.deref-role-items.ensures.value ∙ c.in_ok-entries.ensures) c.loop-role.invariant
