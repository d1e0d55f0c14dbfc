use Rattle.std.proofs.Common.{◌≡◌, [], inr, append-nil, length, subst, refl, ap, sym, ◌∙◌, arith, take, List, ℕ, Err, Result}
use Rattle.std.proofs.lemmas.List.{take_all}
use Rattle.std.proofs.lemmas.Result.{err_from_is_err_and}
use Rattle.tough_files.specs.declared.files.FilesError.{FilesError}
use Rattle.tough_files.specs.declared.files.FilesError.TheVariants as fault
use Rattle.tough_schema.specs.FileDigest.{Feeds, HoldsBoth, MeasuresFile}
use Rattle.tough_schema.specs.declared.file_digest.Digests.{Digests}
use Rattle.tough_schema.specs.declared.file_digest.Reading.{Reading}
use Rattle.tough_schema.specs.declared.file_digest.Measured.{Measured}
use Rattle.std.specs.List.{concat}
use Rattle.tough_schema.specs.Measuring.{ReadsAll}
use Rattle.tough_schema.proofs.Measures.{read_more, read_all, read_refused}
use Rattle.tough_schema.proofs.Pieces.{there-kept}
use Rattle.tough_schema.proofs.file_digest.read_all.Goals as goal

-- a reading that was refused refuses the whole
refused : (digests : Digests) (bytes : List ℕ) (old new : Reading) (e : FilesError) (r : Result ℕ FilesError) (s : Result Measured FilesError) → r ≡ Err e → s ≡ Err e → Feeds digests bytes old r new → MeasuresFile digests bytes s
refused digests bytes old new fault.Memory r s is was h = subst (MeasuresFile digests bytes) (sym was) tt
refused digests bytes old new fault.NotFound r s is was h = subst (MeasuresFile digests bytes) (sym was) (subst (λ x. Feeds digests bytes old x new) is h)
refused digests bytes old new fault.Failed r s is was h = subst (MeasuresFile digests bytes) (sym was) (subst (λ x. Feeds digests bytes old x new) is h)

pub loop-init : goal.loop-init
loop-init g c =
    let holds = c.new-reading.ensures.0 in
    let none = c.new-reading.ensures.1 in (
      λ tells path. refl,
      λ bytes tells is. (record { within = omega (arith, none); holds = subst (λ k. HoldsBoth c.args.digests c.new-reading.result (take k bytes)) (sym none) holds }, omega (arith, none)),
      λ tells. record { pieces = []; calls = sym (append-nil _); size = none; holds = holds; many = omega (arith, none) },
    )

pub returns-in_err-feed-clause-measured : goal.returns-in_err-feed-clause-measured
returns-in_err-feed-clause-measured g c = λ bytes tells is.
    let same = c.loop.invariant.0 tells in
    let read = c.loop.invariant.1 bytes tells is in
    let p = err_from_is_err_and c.from_residual.result c.from_residual.ensures.1 in
    refused c.args.digests bytes c.loop.reading c.feed.new.reading c.in_err-feed.field-0.0 c.feed.result c.from_residual.result c.in_err-feed.was (p.1 ∙ ap Err p.2)
    (c.feed.ensures.feeds c.args.digests bytes tells (there-kept c.args.path.now (g.F.Files.contents c.args.files.now) (g.F.Files.contents c.loop.files) same ∙ is) read.0)

pub returns-in_err-feed-clause-kept : goal.returns-in_err-feed-clause-kept
returns-in_err-feed-clause-kept g c = λ tells path. c.feed.ensures.kept tells path ∙ c.loop.invariant.0 tells path

pub returns-then-branch-eq0-clause-measured : goal.returns-then-branch-eq0-clause-measured
returns-then-branch-eq0-clause-measured g c = λ bytes tells is.
    let same = c.loop.invariant.0 tells in
    let read = c.loop.invariant.1 bytes tells is in
    let fed = c.in_ok-feed.ensures.feeds c.args.digests bytes tells (there-kept c.args.path.now (g.F.Files.contents c.args.files.now) (g.F.Files.contents c.loop.files) same ∙ is) read.0 in
    let all : c.feed.new.reading.length ≡ length bytes = fed.2 c.if-branch-eq0.true in
    let held : HoldsBoth c.args.digests c.feed.new.reading bytes = subst (λ m. HoldsBoth c.args.digests c.feed.new.reading m) (take_all c.feed.new.reading.length bytes (omega (arith, all))) fed.0.holds in
    (all, c.finalize.ensures bytes held.0, c.finish.ensures c.args.digests bytes held.1)

pub returns-then-branch-eq0-clause-kept : goal.returns-then-branch-eq0-clause-kept
returns-then-branch-eq0-clause-kept g c = λ tells path. c.in_ok-feed.ensures.kept tells path ∙ c.loop.invariant.0 tells path

pub loop-preserved : goal.loop-preserved
loop-preserved g c = (
  λ tells path. c.in_ok-feed.ensures.kept tells path ∙ c.loop.invariant.0 tells path,
  λ bytes tells is.
      let same = c.loop.invariant.0 tells in
      let read = c.loop.invariant.1 bytes tells is in
      let fed = c.in_ok-feed.ensures.feeds c.args.digests bytes tells (there-kept c.args.path.now (g.F.Files.contents c.args.files.now) (g.F.Files.contents c.loop.files) same ∙ is) read.0 in
      let more = fed.1 in
      let before = read.1 in
      let some = c.if-branch-eq0.false in
      (fed.0, omega (arith, more, before, some)),
  λ tells. read_more c.args.digests c.args.path.now (g.F.Files.calls c.args.files.now) (g.F.Files.calls c.loop.files) (g.F.Files.calls c.feed.new.files) c.loop.counter c.loop.reading c.feed.new.reading (c.loop.invariant.2 tells) c.in_ok-feed.field-0 (c.in_ok-feed.ensures.calls tells) (λ none. let some = c.if-branch-eq0.false in omega (arith, none, some)),
)

pub returns-clause-measured : goal.returns-clause-measured
returns-clause-measured g c = λ bytes tells is.
    let read = c.loop.invariant.1 bytes tells is in
    let within = read.0.within in
    let many = read.1 in
    omega (arith, within, many)

pub returns-clause-kept : goal.returns-clause-kept
returns-clause-kept g c = λ tells path. c.loop.invariant.0 tells path

pub returns-in_err-feed-clause-calls : goal.returns-in_err-feed-clause-calls
returns-in_err-feed-clause-calls g c = λ tells.
    let old = g.F.Files.calls c.args.files.now in
    let new = g.F.Files.calls c.feed.new.files in
    let p = err_from_is_err_and c.from_residual.result c.from_residual.ensures.1 in
    subst (λ r. ReadsAll c.args.digests c.args.path.now r old new) (sym (p.1 ∙ ap Err p.2)) (read_refused c.args.digests c.args.path.now old (g.F.Files.calls c.loop.files) new c.loop.counter c.loop.reading c.feed.new.reading (c.loop.invariant.2 tells) c.in_err-feed.field-0.0 (c.in_err-feed.ensures.calls tells))

pub returns-then-branch-eq0-clause-calls : goal.returns-then-branch-eq0-clause-calls
returns-then-branch-eq0-clause-calls g c = λ tells.
    let h = c.loop.invariant.2 tells in
    let p = read_all c.args.digests c.args.path.now (g.F.Files.calls c.args.files.now) (g.F.Files.calls c.loop.files) (g.F.Files.calls c.feed.new.files) c.loop.counter c.loop.reading c.feed.new.reading h c.in_ok-feed.field-0 (c.in_ok-feed.ensures.calls tells) c.if-branch-eq0.true in
    (h.pieces, p.0, p.1, c.finalize.ensures (concat h.pieces) p.2.0, c.finish.ensures c.args.digests (concat h.pieces) p.2.1)

pub returns-clause-calls : goal.returns-clause-calls
returns-clause-calls g c = λ tells.
    let h = c.loop.invariant.2 tells in
    let many = h.many in
    let size = h.size in
    (h.pieces, inr (refl, h.calls, omega (arith, many, size)))
