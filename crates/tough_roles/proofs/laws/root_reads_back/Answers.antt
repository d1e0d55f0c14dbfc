use Rattle.tough_roles.specs.Root.{root_at, root_json}
use Rattle.tough_roles.specs.Signature.{signed_at}
use Rattle.tough_roles.proofs.lemmas.Rereading.{document-back, read-back}
use Rattle.tough_roles.proofs.lemmas.Root.{root-back}
use Rattle.tough_roles.proofs.laws.root_reads_back.Goals as goal

pub returns : goal.returns
returns c = λ s d text range own ordered written readable shown.
    read-back (signed_at root_at) d s text readable shown (document-back root_at root_json s d (λ e w. root-back s.role e range own ordered w) written)
