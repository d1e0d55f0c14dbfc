use Rattle.std.proofs.Common.{rules}
use Rattle.tough_save.proofs.Misplaced.{misplaced}
use Rattle.tough_save.proofs.place.Place.new.Goals as goal

pub returns-then-not-starts_with-clause-misplaced : goal.returns-then-not-starts_with-clause-misplaced
returns-then-not-starts_with-clause-misplaced c = misplaced c.args.folder.now c.args.name.now c.in-Some.parent.text.now _ _ (search rules) (search rules) (search rules) c.outside.ensures
