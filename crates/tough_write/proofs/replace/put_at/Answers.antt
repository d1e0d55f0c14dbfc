use Rattle.std.proofs.Common.{subst, sym, ap, ◌∙◌}
use Rattle.std.specs.Prelude.{string_bytes, []}
use Rattle.tough_write.specs.Replacing.{IsNew, IsLeftAt}
use Rattle.tough_write.proofs.Replaced.{made, unmade, left}
use Rattle.tough_write.proofs.replace.put_at.Goals as goal

pub returns-clause-err : goal.returns-clause-err
returns-clause-err g c = λ tells.
    let contents = g.F.Files.contents in
    let before = contents c.args.files.now in
    let temp = string_bytes c.in-Ok.temp in
    let m = made c.args.folder.now before (contents c.create_temp.new.self) temp (c.in-Ok.ensures.gives tells) in
    let filled = c.in-Err-fill.ensures.err tells before (subst (λ p. IsNew p [] before (contents c.create_temp.new.self)) (sym c.as_str.ensures.value) m.2) in
    let same = c.as_str.ensures.value ∙ sym c.as_str-in-Err-fill.ensures.value in
    let gone = c.discard.ensures tells before filled.0 (subst (λ p. IsNew p filled.0 before (contents c.fill.new.files)) same filled.1) in
    left c.args.folder.now temp m.0 before (contents c.discard.new.files) m.1 (subst (λ p. IsLeftAt p before (contents c.discard.new.files)) c.as_str-in-Err-fill.ensures.value gone)
