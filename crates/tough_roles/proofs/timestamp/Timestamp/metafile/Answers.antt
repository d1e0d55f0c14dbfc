use Rattle.std.proofs.Common.{option_map, sym, ap, ◌∙◌}
use Rattle.tough_roles.specs.Timestamp.{metafile_doc}
use Rattle.tough_roles.proofs.lemmas.Metafiles.{looked}
use Rattle.tough_roles.proofs.timestamp.Timestamp.metafile.Goals as goal

pub returns : goal.returns
returns c = ap (option_map metafile_doc) c.get.ensures.value ∙ sym (looked c.args.self.now.meta.entries c.args.file.now)
