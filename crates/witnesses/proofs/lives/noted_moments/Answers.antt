use Rattle.std.proofs.Common.{subst}
use Rattle.tough_checks.specs.Files.{root_file}
use Rattle.tough_world.specs.Lives.{joined, journals_of}
use Rattle.witnesses.specs.Lives.{IsBorn, Notes}
use Rattle.witnesses.proofs.Noting.{has-policies}
use Rattle.witnesses.proofs.lives.noted_moments.Goals as goal

pub returns : goal.returns
returns c =
    let trusted = c.args.trusted.now in
    let one = c.in_ok-one.one in
    let two = c.in_ok-two.two in
    has-policies trusted c.in_ok-lives.lives.items (journals_of c.in-Ok.journals.items) c.new.result c.in-Ok.store one two c.args.first c.args.second c.in_ok-lives.ensures
    (subst (λ ts. IsBorn trusted ts one) c.in_ok-noting.ensures c.in_ok-one.ensures) (subst (λ ts. IsBorn trusted ts two) c.in_ok-noting-2.ensures c.in_ok-two.ensures)
    c.in-Ok.ensures.lives (c.new.ensures root_file) (subst (λ js. Notes (joined (journals_of js))) c.deref.ensures.value c.in_ok-tells_notes.ensures)
