-- What an event loop gives of a load that it ran.
use Rattle.std.specs.Prelude.{◌≡◌, Option, Some, None, Result, Ok, Err, IfOk, IsSomeAnd}
use Rattle.std.proofs.Common.{subst}

-- it ran the load that it was given
pub ran : {A B E : Type 0} (P : A → B → Type 0) (o : Option A) (a : A) (r : Result B E) → IsSomeAnd o (λ x. x ≡ a) → IfOk r (λ b. IsSomeAnd o (λ x. P x b)) → IfOk r (P a)
ran P (Some x) a (Ok b) is h = subst (λ y. P y b) is h
ran P (Some x) a (Err e) is h = tt
ran P None a (Ok b) is h = absurd is
ran P None a (Err e) is h = tt

-- what ended with documents is vouched for
pub ended : {L F : Type 0} (V : L → Type 0) (E : Result L F → Type 0) (o : Result L F) → E o → ((d : L) → E (Ok d) → V d) → IfOk o V
ended V E (Ok d) ends law = law d ends
ended V E (Err e) ends law = tt

-- the same for each outcome
pub each : {B E : Type 0} (P Q : B → Type 0) (r : Result B E) → IfOk r P → ((b : B) → P b → Q b) → IfOk r Q
each P Q (Ok b) h law = law b h
each P Q (Err e) h law = tt
