use Rattle.std.proofs.Common.{rules, ◌≡◌, Bool, true, false, not, Some, Result, Err}
use Rattle.tough_roles.specs.declared.role_type.RoleType.TheVariants as role
use Rattle.tough_checks.specs.Checks.{Reason, enforces, is_expired, refuse, reason_of, ExpiredMetadata}
use Rattle.tough_checks.specs.declared.checks.Refusal.{Refusal}
use Rattle.tough_trust.specs.Failure as failure
use Rattle.tough_trust.specs.Failure.{Failure}
use Rattle.tough_trust.specs.Outcomes.{unless}
use Rattle.tough_update.specs.View.{walk_doc}
use Rattle.tough_update.proofs.turns.end_walk.Goals as goal

-- a check that refuses ends it
refused-so : {A : Type 0} (b : Bool) (r : Reason) (next : Result A Failure) (c : Refusal) → refuse b r ≡ Some (reason_of c) → unless (failure.Checked r) (not b) next ≡ Err (failure.Checked (reason_of c))
refused-so true r next c h = cc
refused-so false r next c h = cc

pub returns-in-Err : goal.returns-in-Err
returns-in-Err c =
    let walk = walk_doc c.args.walk in
    let expires = walk.last.role.head.expires in
    refused-so (is_expired (enforces c.args.enforcement) walk.start expires) (ExpiredMetadata role.Root expires walk.start) _ c.in-Err.refusal (search rules)
