use Rattle.std.proofs.Common.{rules, inl, inr, refl, ap, subst, ◌∙◌, Ok, Err}
use Rattle.tough_write.specs.Putting.{Measures, listed_digests}
use Rattle.tough_write.proofs.put.Putting.choose.Goals as goal

pub returns-in_err-name : goal.returns-in_err-name
returns-in_err-name g c = λ tells. inr (
  c.in_ok-find_file.field-0,
  g.F.Files.calls c.find_file.new.files,
  c.in_ok-find_file.ensures tells,
  inl (c.in_err-name.field-0.0, (refl, c.in_err-name.ensures), search rules),
)

pub returns-in_err-measured : goal.returns-in_err-measured
returns-in_err-measured g c = λ tells. inr (
  c.in_ok-find_file.field-0,
  g.F.Files.calls c.find_file.new.files,
  c.in_ok-find_file.ensures tells,
  inr (
    c.in_ok-name.name,
    g.F.Files.calls c.find_file.new.files,
    (refl, c.in_ok-name.ensures),
    inl (
      c.in_err-measured.field-0.0,
      subst (λ d. Measures d c.args.input.now (Err c.in_err-measured.field-0.0) (g.F.Files.calls c.find_file.new.files) (g.F.Files.calls c.measured.new.files))
          (c.listed_digests-digests.ensures ∙ ap listed_digests c.hashes-listed.ensures) (c.in_err-measured.ensures tells),
      search rules,
    ),
  ),
)

pub returns-in_err-check_listed : goal.returns-in_err-check_listed
returns-in_err-check_listed g c = λ tells. inr (
  c.in_ok-find_file.field-0,
  g.F.Files.calls c.find_file.new.files,
  c.in_ok-find_file.ensures tells,
  inr (
    c.in_ok-name.name,
    g.F.Files.calls c.find_file.new.files,
    (refl, c.in_ok-name.ensures),
    inr (
      c.in_ok-measured.measured,
      g.F.Files.calls c.measured.new.files,
      subst (λ d. Measures d c.args.input.now (Ok c.in_ok-measured.measured) (g.F.Files.calls c.find_file.new.files) (g.F.Files.calls c.measured.new.files))
          (c.listed_digests-digests.ensures ∙ ap listed_digests c.hashes-listed.ensures) (c.in_ok-measured.ensures tells),
      inl (c.in_err-check_listed.field-0.0, (refl, rw c.hashes-listed.ensures at c.in_err-check_listed.ensures), search rules),
    ),
  ),
)

pub returns : goal.returns
returns g c = λ tells. inr (
  c.in_ok-find_file.field-0,
  g.F.Files.calls c.find_file.new.files,
  c.in_ok-find_file.ensures tells,
  inr (
    c.in_ok-name.name,
    g.F.Files.calls c.find_file.new.files,
    (refl, c.in_ok-name.ensures),
    inr (
      c.in_ok-measured.measured,
      g.F.Files.calls c.measured.new.files,
      subst (λ d. Measures d c.args.input.now (Ok c.in_ok-measured.measured) (g.F.Files.calls c.find_file.new.files) (g.F.Files.calls c.measured.new.files))
          (c.listed_digests-digests.ensures ∙ ap listed_digests c.hashes-listed.ensures) (c.in_ok-measured.ensures tells),
      inr (c.in_ok-check_listed.field-0, g.F.Files.calls c.measured.new.files, (refl, rw c.hashes-listed.ensures at c.in_ok-check_listed.ensures), (refl, search rules)),
    ),
  ),
)
