use Rattle.std.proofs.Common.{◌≡◌, ℕ, List, rules, inl, inr, refl, subst, string_bytes}
use Rattle.std.specs.Path.{path_join}
use Rattle.tough_write.specs.Filling.{IsPut, IsPutIn}
use Rattle.tough_write.specs.Writing.{Writes}
use Rattle.tough_write.proofs.Filled.{put_file, weaken}
use Rattle.tough_write.proofs.write.write_role.Goals as goal

pub returns-in_err-folder-clause-calls : goal.returns-in_err-folder-clause-calls
returns-in_err-folder-clause-calls g c = λ tells. inr (
  c.in_ok-make_folders.field-0,
  g.F.Files.calls c.make_folders.new.files,
  c.in_ok-make_folders.ensures.calls tells,
  inl (c.in_err-folder.field-0.0, c.in_err-folder.ensures.calls tells, search rules),
)

pub returns-in_err-join-clause-calls : goal.returns-in_err-join-clause-calls
returns-in_err-join-clause-calls g c = λ tells. inr (
  c.in_ok-make_folders.field-0,
  g.F.Files.calls c.make_folders.new.files,
  c.in_ok-make_folders.ensures.calls tells,
  inr (c.in_ok-folder.folder, g.F.Files.calls c.resolve.new.files, c.in_ok-folder.ensures.calls tells, inl (refl, search rules)),
)

pub returns-clause-calls : goal.returns-clause-calls
returns-clause-calls g c = λ tells.
    let P : List ℕ → Type 0 = λ path. Writes path c.args.buffer.now c.write.result (g.F.Files.calls c.resolve.new.files) (g.F.Files.calls c.write.new.files) in
    let at : c.as_str-2.result.now ≡ path_join (string_bytes c.in_ok-folder.folder) c.args.name.now = search rules in
    inr (
      c.in_ok-make_folders.field-0,
      g.F.Files.calls c.make_folders.new.files,
      c.in_ok-make_folders.ensures.calls tells,
      inr (c.in_ok-folder.folder, g.F.Files.calls c.resolve.new.files, c.in_ok-folder.ensures.calls tells, inr (subst P at (c.write.ensures.calls tells))),
    )

pub returns-clause-contents : goal.returns-clause-contents
returns-clause-contents g c = λ tells.
    let outdir = c.args.outdir.now in
    let name = c.args.name.now in
    let bytes = c.args.buffer.now in
    let real = string_bytes c.in_ok-folder.folder in
    let before = g.F.Files.contents c.args.files.now in
    let made = g.F.Files.contents c.make_folders.new.files in
    let seen = g.F.Files.contents c.resolve.new.files in
    let after = g.F.Files.contents c.write.new.files in
    let at : c.as_str-2.result.now ≡ path_join real name = search rules in
    weaken (λ u. IsPut c.as_str-2.result.now bytes seen after) (λ u. IsPutIn outdir (name, bytes) before after) c.write.result
    (λ u h. put_file outdir name bytes real before made seen after (c.in_ok-make_folders.ensures.contents tells) (c.in_ok-folder.ensures.contents tells)
    (subst (λ path. IsPut path bytes seen after) at h))
    (c.write.ensures.contents tells)
