use Rattle.std.proofs.Common.{◌≡◌, Ok, Err, subst}
use Rattle.std.specs.Prelude.{ℕ, List, Result, IfOk, IfErr, []}
use Rattle.tough_files.specs.Calls.{done_or}
use Rattle.tough_files.specs.Changes.{Gives, append_outcome, rename_outcome}
use Rattle.tough_files.specs.Contents.{Contents}
use Rattle.tough_files.specs.declared.files.FilesError.{FilesError}
use Rattle.tough_write.specs.Replacing.{IsNew, IsPut}
use Rattle.tough_write.proofs.Replaced.{appended, renamed, unrenamed, unappended}
use Rattle.tough_write.proofs.replace.fill.Goals as goal

ends : (temp path bytes : List ℕ) (before mid after : Contents) (r : Result (Unit {0}) FilesError) → IsNew temp bytes before mid → Gives (rename_outcome temp path mid) mid (done_or r) after
    → IfOk r (λ u. IsPut path bytes before after)
ends temp path bytes before mid after (Ok u) n g = renamed temp path bytes before mid after n g
ends temp path bytes before mid after (Err e) n g = tt

stops : (temp path bytes : List ℕ) (before mid after : Contents) (r : Result (Unit {0}) FilesError) → IsNew temp bytes before mid → Gives (rename_outcome temp path mid) mid (done_or r) after
    → IfErr r (λ e. (held : List ℕ) × IsNew temp held before after)
stops temp path bytes before mid after (Ok u) n g = tt
stops temp path bytes before mid after (Err e) n g = (bytes, unrenamed temp path bytes before mid after n e g)

pub returns-in-Ok-clause-ok : goal.returns-in-Ok-clause-ok
returns-in-Ok-clause-ok g c = λ tells before n.
    let contents = g.F.Files.contents in
    ends c.args.temp.now c.args.path.now c.args.bytes.now before (contents c.append.new.self) (contents c.rename.new.self) c.rename.result
    (appended c.args.temp.now c.args.bytes.now before (contents c.args.files.now) (contents c.append.new.self) n (c.in-Ok.ensures.gives tells))
    (c.rename.ensures.gives tells)

pub returns-in-Ok-clause-err : goal.returns-in-Ok-clause-err
returns-in-Ok-clause-err g c = λ tells before n.
    let contents = g.F.Files.contents in
    stops c.args.temp.now c.args.path.now c.args.bytes.now before (contents c.append.new.self) (contents c.rename.new.self) c.rename.result
    (appended c.args.temp.now c.args.bytes.now before (contents c.args.files.now) (contents c.append.new.self) n (c.in-Ok.ensures.gives tells))
    (c.rename.ensures.gives tells)

pub returns-in-Err-clause-err : goal.returns-in-Err-clause-err
returns-in-Err-clause-err g c = λ tells before n.
    let contents = g.F.Files.contents in
    ([], unappended c.args.temp.now c.args.bytes.now before (contents c.args.files.now) (contents c.append.new.self) n _ (c.in-Err.ensures.gives tells))
