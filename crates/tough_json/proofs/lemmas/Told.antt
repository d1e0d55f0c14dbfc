-- A refusal that is told under a name refuses the same.
use Rattle.std.proofs.Common.{◌≡◌, ℕ, List, Option, None, sym, subst}
use Rattle.tough_json.specs.declared.error.ReadError.{ReadError}
use Rattle.tough_json.specs.declared.error.ReadError.TheVariants as errors
use Rattle.tough_json.specs.Results.{Refuses}
use Rattle.tough_json.specs.Told.{TellsUnder}

pub refuses-under : {Y : Type 0} (name : List ℕ) (e f : ReadError) (answer : Option Y) → TellsUnder name e f → Refuses e answer → Refuses f answer
refuses-under name (errors.Json place) f answer t r = absurd r
refuses-under name (errors.Shape told) (errors.Json place) answer t r = t
refuses-under name (errors.Shape told) (errors.Shape text) answer t r = r
refuses-under name (errors.Shape told) errors.Memory answer t r = tt
refuses-under name errors.Memory f answer t r = subst (λ z. Refuses z answer) (sym t) tt
