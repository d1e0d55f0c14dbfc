use Rattle.std.proofs.Common.{subst}
use Rattle.tough_checks.specs.Files.{root_file}
use Rattle.tough_world.specs.Lives.{joined, journals_of}
use Rattle.witnesses.specs.Lives.{Stores}
use Rattle.witnesses.proofs.Noting.{has-stored}
use Rattle.witnesses.proofs.lives.root_is_stored.Goals as goal

pub returns : goal.returns
returns c =
    let held = c.in_ok-holds_root.ensures in
    has-stored c.args.trusted.now c.in_ok-lives.lives.items (journals_of c.in-Ok.journals.items) c.new.result c.in-Ok.store c.in_ok-one.one c.in_ok-two.two c.in_ok-storing.field-0.items c.in_ok-noting.field-0.items
    c.in_ok-lives.ensures c.in_ok-one.ensures c.in_ok-two.ensures c.in-Ok.ensures.lives (c.new.ensures root_file) (subst (λ js. Stores (joined (journals_of js))) c.deref.ensures.value c.in_ok-tells_stores.ensures) held.0 held.1
