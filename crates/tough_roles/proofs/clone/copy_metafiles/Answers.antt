use Rattle.std.proofs.Common.{string_bytes}
use Rattle.tough_roles.specs.Timestamp.{metafile_doc}
use Rattle.tough_roles.proofs.lemmas.Copies.{same_entries}
use Rattle.tough_roles.proofs.clone.copy_metafiles.Goals as goal

pub returns : goal.returns
returns c = same_entries string_bytes metafile_doc c.args.metafiles.now.entries c.in_ok-copies.copies.entries c.in_ok-copies.ensures.cases
