-- Until when what was loaded serves (TUF specification 1.0, section 5.7): the moment is noted, and is before the earliest expiry.
use Rattle.std.specs.Prelude.{◌≡◌, ◌⊎◌, ℤ, List, true, false, Result, Ok, Err, int_lt, if◌then◌else◌}
use Rattle.tough_keys.specs.Same.{Verifies}
use Rattle.tough_roles.specs.declared.role_type.RoleType.{RoleType}
use Rattle.tough_roles.specs.declared.role_type.RoleType.TheVariants as role
use Rattle.tough_vault.specs.Act.{Act, NoteTime}
use Rattle.tough_checks.specs.Checks.{ExpiredMetadata}
use Rattle.tough_checks.specs.declared.checks.StepError.{StepError}
use Rattle.tough_client.specs.declared.timely.Expiry.{Expiry}
use Rattle.tough_trust.specs.Failure.{Failure, Checked}
use Rattle.tough_trust.specs.Steps.{Keeping, TakesStep}

-- no signature verifies: to note a moment asks for none
abbrev pub nothing_verifies : Verifies
nothing_verifies key message signature = false

-- a role, and when its document expires
pub record ExpiryDoc : Type 0 where
  pub role : RoleType
  pub time : ℤ

abbrev pub expiry_doc : Expiry → ExpiryDoc
expiry_doc e = record { role = e.role; time = e.expires.nanosecond }

-- the one that comes first; of two at once the first of them
abbrev pub sooner : ExpiryDoc → ExpiryDoc → ExpiryDoc
sooner first second = if int_lt second.time first.time then second else first

-- the first of the four roles, in this order, whose document expires before no other's
abbrev pub earliest : ℤ → ℤ → ℤ → ℤ → ExpiryDoc
earliest root timestamp snapshot targets = sooner (sooner (sooner
    (record { role = role.Root; time = root })
    (record { role = role.Timestamp; time = timestamp }))
    (record { role = role.Snapshot; time = snapshot }))
    (record { role = role.Targets; time = targets })

module _ {K R : Type 0} (keeps : Verifies → K → Act → Result R StepError → K → Type 0) where
  -- the keeper noted this moment, and the receipt stands after those before it
  abbrev pub HasNoted : ℤ → Keeping K R → Keeping K R → Type 0
  HasNoted now k next = TakesStep keeps nothing_verifies (NoteTime now) k (Ok (tt {0})) next

  -- it noted the moment, which isn't before the expiry, and the failure tells whose that is
  pub record HasExpired (first : ExpiryDoc) (now : ℤ) (k : Keeping K R) (f : Failure) (next : Keeping K R) : Type 0 where
    pub noted : HasNoted now k next
    pub after : int_lt now first.time ≡ false
    pub told : f ≡ Checked (ExpiredMetadata first.role first.time now)

  -- it didn't note the moment, and gave no receipt
  abbrev pub IsUnnoted : ℤ → Keeping K R → Failure → Keeping K R → Type 0
  IsUnnoted now k f next = TakesStep keeps nothing_verifies (NoteTime now) k (Err f) next

  -- What noting the moment answers: it was noted, and is before the expiry; else it isn't, or the keeper didn't note it.
  abbrev pub NotesTimely : ExpiryDoc → ℤ → Keeping K R → Result Unit Failure → Keeping K R → Type 0
  NotesTimely first now k (Ok u) next = HasNoted now k next × (int_lt now first.time ≡ true)
  NotesTimely first now k (Err f) next = HasExpired first now k f next ⊎ IsUnnoted now k f next
