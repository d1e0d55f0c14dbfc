use Rattle.std.proofs.Common.{◌≡◌, ◌&&◌, string_bytes, bytes_eq, ap₂, ◌∙◌, rules}
use Rattle.tough_names.specs.Named.{Named, unless_empty}
use Rattle.tough_names.proofs.Alone.{equal}
use Rattle.tough_names.proofs.name.TargetNamePartialEq.eq.Goals as goal

pub returns : goal.returns
returns c =
    let a : Named = record { raw = string_bytes c.self.inside.raw; resolved = unless_empty (string_bytes c.self.inside.raw) (string_bytes c.self.inside.other) } in
    let b : Named = record { raw = string_bytes c.other.inside.raw; resolved = unless_empty (string_bytes c.other.inside.raw) (string_bytes c.other.inside.other) } in
    let told : c.eq.result ≡ bytes_eq a.raw b.raw = search rules in
    told ∙ equal a b c.self.invariant c.other.invariant
    ∙ ap₂ (λ (x y : Named). bytes_eq x.raw y.raw && bytes_eq x.resolved y.resolved) c.self.view_is c.other.view_is
