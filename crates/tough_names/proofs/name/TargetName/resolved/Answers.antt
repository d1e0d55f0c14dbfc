use Rattle.std.proofs.Common.{◌≡◌, ℕ, List, string_bytes, sym, subst, rules}
use Rattle.tough_names.specs.Clean.{resolve, IsSafe}
use Rattle.tough_names.specs.Named.{unless_empty}
use Rattle.tough_names.proofs.Cleaned.{cleaned, IsCleaned}
use Rattle.tough_names.proofs.name.TargetName.resolved.Goals as goal

pub returns-clause-parts : goal.returns-clause-parts
returns-clause-parts c =
    let raw = string_bytes c.self.inside.raw in
    let told : c.unless_empty.result.now ≡ unless_empty raw (string_bytes c.self.inside.other) = search rules in
    let k : IsCleaned raw (unless_empty raw (string_bytes c.self.inside.other)) = cleaned raw (unless_empty raw (string_bytes c.self.inside.other)) c.self.invariant in
    let P : List ℕ → Type 0 = λ r. IsSafe r in subst P (sym told) k.safe

pub returns-clause-again : goal.returns-clause-again
returns-clause-again c =
    let raw = string_bytes c.self.inside.raw in
    let told : c.unless_empty.result.now ≡ unless_empty raw (string_bytes c.self.inside.other) = search rules in
    let k : IsCleaned raw (unless_empty raw (string_bytes c.self.inside.other)) = cleaned raw (unless_empty raw (string_bytes c.self.inside.other)) c.self.invariant in
    let P : List ℕ → Type 0 = λ r. resolve r ≡ r in subst P (sym told) k.again
