use Rattle.std.proofs.Common.{rules, ◌≡◌, ◌++◌, codes, ap, ◌∙◌}
use Rattle.std.specs.Map.{lookup}
use Rattle.std.specs.Str.{bytes_eq}
use Rattle.tough_roles.specs.Timestamp.{metafile_doc}
use Rattle.tough_update.specs.delegations.View.{metas_of}
use Rattle.tough_update.proofs.tree.Listing.{copied-map}
use Rattle.tough_update.proofs.delegations.look.entry_of.Goals as goal

pub returns : goal.returns
returns c =
    let file : c.as_str.result.now ≡ c.args.name.now ++ codes ".json" = search rules in
    copied-map metafile_doc c.metafile.result ∙ c.metafile.ensures ∙ ap (λ t. lookup (bytes_eq t) (metas_of c.args.snapshot.now)) file
