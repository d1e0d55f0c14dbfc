use Rattle.std.proofs.Common.{◌≡◌, string_bytes, nat_cmp, ap₂, ◌∙◌, rules}
use Rattle.std.specs.Cmp.Lexicographic.{slice_cmp}
use Rattle.tough_names.specs.Named.{Named, unless_empty, by_raw_then_resolved}
use Rattle.tough_names.proofs.Alone.{ordered}
use Rattle.tough_names.proofs.name.TargetNameOrd.cmp.Goals as goal

pub returns : goal.returns
returns c =
    let a : Named = record { raw = string_bytes c.self.inside.raw; resolved = unless_empty (string_bytes c.self.inside.raw) (string_bytes c.self.inside.other) } in
    let b : Named = record { raw = string_bytes c.other.inside.raw; resolved = unless_empty (string_bytes c.other.inside.raw) (string_bytes c.other.inside.other) } in
    let told : c.cmp.result ≡ slice_cmp nat_cmp a.raw b.raw = search rules in
    told ∙ ordered a b c.self.invariant c.other.invariant ∙ ap₂ by_raw_then_resolved c.self.view_is c.other.view_is
