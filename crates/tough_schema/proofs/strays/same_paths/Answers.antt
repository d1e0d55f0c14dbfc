use Rattle.std.proofs.Common.{ap, sym, ◌∙◌}
use Rattle.std.proofs.lemmas.Slice.Eq.{slice_eq-Decides, bytes_eq-Decides}
use Rattle.tough_schema.specs.Paths.{paths_doc, patterns, prefixes}
use Rattle.tough_schema.proofs.strays.same_paths.Goals as goal

pub returns-in-Paths-Paths : goal.returns-in-Paths-Paths
returns-in-Paths-Paths c h =
    let a = c.in-Paths-Paths in
    ap paths_doc a.is-0 ∙ ap patterns ((slice_eq-Decides bytes_eq-Decides a.some.items a.others.items c.eq.result c.eq.ensures).0 h) ∙ sym (ap paths_doc a.is-1)

pub returns-in-PathHashPrefixes-PathHashPrefixes : goal.returns-in-PathHashPrefixes-PathHashPrefixes
returns-in-PathHashPrefixes-PathHashPrefixes c h =
    let a = c.in-PathHashPrefixes-PathHashPrefixes in
    let b = c.eq-in-PathHashPrefixes-PathHashPrefixes in
    ap paths_doc a.is-0 ∙ ap prefixes ((slice_eq-Decides bytes_eq-Decides a.some.items a.others.items b.result b.ensures).0 h) ∙ sym (ap paths_doc a.is-1)
