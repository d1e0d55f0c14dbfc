use Rattle.std.proofs.Common.{◌≡◌, List, sym, subst, ◌∙◌}
use Rattle.std.specs.Path.{path_join}
use Rattle.tough_honest.specs.Serves.{ServesName}
use Rattle.tough_mirror.proofs.Replaced.{still}
use Rattle.tough_mirror.proofs.replacing_laws.stopped_serves.Goals as goal

pub returns : goal.returns
returns g c = λ verifies t base core files now folder others last e before after stops stands served answers q honest asked.
    let apart = stands answers q honest asked in
    let path = path_join folder q.name in
    let same = c.stopped_keeps.ensures folder others last e before after stops path apart.none apart.no_temporary in
    subst (ServesName g.T.Transport.refuses g.T.Transport.serves t base q.name) (still before after path apart.plain same ∙ sym apart.stands) (served q.name)
