use Rattle.tough_signed.specs.Roles.{signed_of, buffer_of}
use Rattle.tough_release.proofs.Sets.{root_read}
use Rattle.tough_release.proofs.edits.RepositoryEdits.root.Goals as goal

pub returns-clause-read : goal.returns-clause-read
returns-clause-read c = let r = c.args.self.now.root in root_read (signed_of r) (buffer_of r) c.args.self.now.rooted
