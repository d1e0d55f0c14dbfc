use Rattle.std.proofs.Common.{◌≡◌, true, drop, map}
use Rattle.tough_write.specs.Filling.{Fills}
use Rattle.tough_write.specs.Steps.{EachOf}
use Rattle.tough_write.specs.Writing.{file_doc}
use Rattle.tough_write.proofs.Wrote.{WritesNamed}
use Rattle.tough_write.proofs.write.write_roles.Given as goal

-- what writes the rest completes the whole
abbrev pub invariant-loop-role : goal.invariant-loop-role
invariant-loop-role g l = record {
  calls : g.F.Files.tells ≡ true → (r : _) (calls : _)
      → EachOf (WritesNamed l.outdir) (drop l.role-index l.roles) r (g.F.Files.calls l.files) calls
      → EachOf (WritesNamed l.outdir) l.roles r (g.F.Files.calls l.fn.files) calls;
  contents : g.F.Files.tells ≡ true → (after : _)
      → Fills l.outdir (map file_doc (drop l.role-index l.roles)) (g.F.Files.contents l.files) after
      → Fills l.outdir (map file_doc l.roles) (g.F.Files.contents l.fn.files) after;
}
