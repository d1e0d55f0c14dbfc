use Rattle.std.proofs.Common.{◌≡◌, ◌∙◌, inr, arith, subst, Ok}
use Rattle.tough_schema.specs.FileDigest.{there}
use Rattle.tough_publish.specs.Files.{ReadsOn}
use Rattle.tough_publish.proofs.Pieces.{reads_more, reads_endless, there_kept}
use Rattle.tough_publish.proofs.file.read_file.Goals as goal

pub loop-preserved : goal.loop-preserved
loop-preserved g c = (
  λ tells path. c.in_ok-read_on.ensures.kept tells path ∙ c.loop.invariant.0 tells path,
  λ tells.
      let n = there c.args.path.now (g.F.Files.contents c.args.files.now) in
      let old = c.loop.bytes.items in
      let new = c.read_on.new.bytes.items in
      let same = there_kept c.args.path.now (g.F.Files.contents c.args.files.now) (g.F.Files.contents c.loop.files) (c.loop.invariant.0 tells) in
      reads_more n old new c.loop.counter c.in_ok-read_on.field-0 (c.loop.invariant.1 tells) (subst (λ x. ReadsOn x old (Ok c.in_ok-read_on.field-0) new) same (c.in_ok-read_on.ensures.more tells)) (λ none. let some = c.if-branch-eq0.false in omega (arith, none, some)),
)

pub returns-clause-content : goal.returns-clause-content
returns-clause-content g c = λ tells.
    let n = there c.args.path.now (g.F.Files.contents c.args.files.now) in
    let past = c.loop-test.false in
    inr (inr (reads_endless n c.loop.bytes.items c.loop.counter (c.loop.invariant.1 tells) (omega (arith, past))))
