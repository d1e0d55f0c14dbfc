-- What a load vouches for, by what its machine says of it.
use Rattle.std.specs.Prelude.{◌≡◌, List, Result, Ok, IfOk, true}
use Rattle.std.proofs.Common.{subst}
use Rattle.tough_keys.specs.Demo.{demo_verifies}
use Rattle.tough_update.specs.Answered.{AnswerDoc}
use Rattle.tough_update.specs.Runs as runs
use Rattle.tough_update.specs.Stages.{LoadedDoc}
use Rattle.tough_load.specs.Loader.{SettingsDoc, first_core}
use Rattle.tough.specs.Program.{IsVouchedFor}

-- what is said of an outcome is so of what came of it
pub come : {A E : Type 0} {P Q : A → Type 0} {o : Result A E} {a : A} → o ≡ Ok a → IfOk o P → ((x : A) → P x → Q x) → Q a
come {P = P} {a = a} is h law = law a (subst (λ x. IfOk x P) is h)

-- documents that an update ends with are vouched for, where what has expired is refused
pub vouched : (s : SettingsDoc) (d : LoadedDoc) (answers : List AnswerDoc) → s.enforced ≡ true → runs.Loaded demo_verifies (first_core s) answers d → IsVouchedFor d
vouched s d answers on loaded = record { update = first_core s; answers = answers; trusted = loaded.trusted; unexpired = loaded.unexpired on }
