-- A step that succeeded has made its checks.
use Rattle.std.proofs.Common.{◌≡◌, ℕ, Option, None, Some, Bool, Result, Ok, Err, refl, inl, inr}
use Rattle.tough_keys.specs.Same.{Verifies}
use Rattle.tough_vault.specs.declared.entry.Receipt.{Receipt}
use Rattle.tough_checks.specs.declared.checks.StepError.{StepError}
use Rattle.tough_roles.specs.Verdict.{Refused}
use Rattle.tough_roles.specs.declared.role_type.RoleType.{RoleType}
use Rattle.tough_roles.specs.declared.role_type.RoleType.TheVariants as role
use Rattle.tough_checks.specs.Checks.{Reason, or_else, verified}
use Rattle.tough_checks.specs.Documents.{root_verdict}
use Rattle.tough_vault.specs.Stored.{Files}
use Rattle.tough_vault.specs.Step.{Parts}
use Rattle.tough_vault.specs.Act.{Act, NoteTime, PutRoot, ClearRotated, AdvanceTimestamp, AdvanceSnapshot, PutDocument, CheckedIfOk, Acts}

none_behind : (a b : Option Reason) → or_else a b ≡ None → b ≡ None
none_behind None b h = h
none_behind (Some r) b h = absurd (cc (h))

-- nothing was refused by verification
pub verdict_of : (type : RoleType) (v : Result Unit Refused) → verified type v ≡ None → v ≡ Ok (tt {0})
verdict_of type (Ok u) h = refl
verdict_of type (Err r) h = absurd (cc (h))

third_passes : (a b c : Option Reason) → or_else a (or_else b (or_else c None)) ≡ None → c ≡ None
third_passes a b None h = refl
third_passes a b (Some r) h = none_behind b (Some r) (none_behind a (or_else b (Some r)) h)

module _ {S : Type 0} (tells : Bool) (files : S → Files) (count : S → ℕ) where
  pub checked : (verifies : Verifies) (act : Act) (old new : Parts S) (result : Result Receipt StepError) → Acts tells files count verifies act old new result → CheckedIfOk verifies act result
  checked verifies act old new (Err e) h = tt
  checked verifies (NoteTime now) old new (Ok r) h = tt
  checked verifies (PutRoot root) old new (Ok r) (inl h) = verdict_of role.Root (root_verdict verifies root.role root) h.takes.done.1.passes.before
  checked verifies (PutRoot root) old new (Ok r) (inr h) = verdict_of role.Root (root_verdict verifies root.role root) h.passes.before
  checked verifies ClearRotated old new (Ok r) h = tt
  checked verifies (AdvanceTimestamp root t start enforced) old new (Ok r) h = (h.done.1.passes.before, third_passes _ _ _ h.done.1.passes.after)
  checked verifies (AdvanceSnapshot root listed s start enforced) old new (Ok r) h = (h.done.1.passes.before, third_passes _ _ _ h.done.1.passes.after)
  checked verifies (PutDocument name text) old new (Ok r) h = tt
