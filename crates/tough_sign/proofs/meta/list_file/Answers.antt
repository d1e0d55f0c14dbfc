use Rattle.std.proofs.Common.{◌++◌, codes, ap, ap₂, ◌∙◌}
use Rattle.tough_roles.specs.Timestamp.{metafiles_doc}
use Rattle.tough_sign.specs.Listing.{with_meta}
use Rattle.tough_sign.proofs.Inserts.{metas_insert}
use Rattle.tough_sign.proofs.meta.list_file.Goals as goal

pub returns-clause-listed : goal.returns-clause-listed
returns-clause-listed c =
    ap metafiles_doc c.in_ok-insert.ensures.entries ∙ (metas_insert c.args.metas.now.entries c.push_str.new.self c.in_ok-meta.meta
    ∙ ap₂ (with_meta (metafiles_doc c.args.metas.now.entries)) (c.in_ok-push_str.ensures.bytes ∙ ap (λ s. s ++ codes ".json") c.in_ok-name.ensures.ok) c.in_ok-meta.ensures)
