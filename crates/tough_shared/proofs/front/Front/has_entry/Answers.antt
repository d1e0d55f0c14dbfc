use Rattle.std.proofs.Common.{List, ap, subst}
use mathlib.Core.List.{IsPrefix}
use Rattle.tough_shared.specs.declared.line.Mark.{Mark}
use Rattle.tough_shared.specs.Lines.{begun_in, told}
use Rattle.tough_vault.specs.Journal.{note_of, entry_of}
use Rattle.tough_shared.proofs.Adding.{told-prefix}
use Rattle.tough_shared.proofs.Lined.{final}
use Rattle.tough_shared.proofs.front.Front.has_entry.Goals as goal

pub returns : goal.returns
returns g c es is =
    let both = c.learn.new.self.log in
    let ours : IsPrefix c.args.self.now.seen.log both = subst (λ (l : List Mark). IsPrefix l both) (ap (λ s. s.log) c.again-both.ensures) c.learn.ensures.2 in
    final (begun_in (told c.args.self.now.seen.log)) es c.args.number (note_of (entry_of c.args.receipt.now)) (told c.args.self.now.seen.log) (told c.args.other.now.seen.log) (told both) c.learn.ensures.4.1.ends is
    (told-prefix c.args.self.now.seen.log both ours) (told-prefix c.args.other.now.seen.log both c.learn.ensures.3) c.requires
