use Rattle.std.proofs.Common.{ℕ, List, rules, inl, inr, subst}
use Rattle.tough_write.specs.Putting.{manner_of}
use Rattle.tough_write.specs.Walking.{max_depth, Walks}
use Rattle.tough_write.proofs.put.Putting.put_all.Goals as goal

pub returns-in_err-folder : goal.returns-in_err-folder
returns-in_err-folder g c = λ tells. inr (
  c.in_ok-make_folders.field-0,
  g.F.Files.calls c.make_folders.new.files,
  c.in_ok-make_folders.ensures.calls tells,
  inl (c.in_err-folder.field-0.0, c.in_err-folder.ensures.calls tells, search rules),
)

pub returns : goal.returns
returns g c = λ tells.
    let mid = g.F.Files.calls c.resolve.new.files in
    let P : List ℕ → Type 0 = λ root. Walks (manner_of c.args.self.now) root max_depth root c.walk.result mid (g.F.Files.calls c.walk.new.files) in
    inr (
      c.in_ok-make_folders.field-0,
      g.F.Files.calls c.make_folders.new.files,
      c.in_ok-make_folders.ensures.calls tells,
      inr (c.in_ok-folder.folder, mid, c.in_ok-folder.ensures.calls tells, subst P c.as_str-root.ensures.value (c.walk.ensures tells)),
    )
