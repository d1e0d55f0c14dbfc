use Rattle.std.proofs.Common.{ap, sym, ◌∙◌, refl}
use Rattle.tough_trust.specs.View.{act_of}
use Rattle.tough_vault.specs.Vault.{parts_of, journal_of, notes_in}
use Rattle.tough_shared.specs.Lines.{is_open, begun_in, told}
use Rattle.tough_shared.proofs.Adding.{told-none}
use Rattle.tough_shared.proofs.Beginning.{stepped}
use Rattle.tough_shared.proofs.Going.{goes_on}
use Rattle.tough_shared.proofs.Lined.{lines-open, numbered, fits, follows, counts, counts-all, begun-there, again, alone-by}
use Rattle.tough_shared.proofs.locked.Locked.take.Goals as goal

pub note-requires-clause-open : goal.note-requires-clause-open
note-requires-clause-open g c = ap is_open (ap told c.show.ensures.whole ∙ c.args.self.now.same) ∙ lines-open (notes_in c.args.self.now.vault)

pub note-requires-clause-number : goal.note-requires-clause-number
note-requires-clause-number g c =
    let old = c.args.self.now.vault in
    let new = c.act_on-answer.new.vault in
    let first = told c.args.self.now.tail.front.seen.log in
    let log = told c.show.new.self.front.seen.log in
    let is = ap told c.show.ensures.whole ∙ c.args.self.now.same in
    let n = goes_on g.S.Store.tells g.S.Store.files g.S.Store.count (g.V.Verify.verifies c.args.verifier.now) (act_of c.args.act.now) (parts_of old) (parts_of new) c.act_on-answer.result c.act_on-answer.ensures.acts in
    numbered (begun_in first) log (notes_in old) (notes_in new) c.act_on-answer.result is n

pub note-requires-clause-fits : goal.note-requires-clause-fits
note-requires-clause-fits g c =
    let old = c.args.self.now.vault in
    let new = c.act_on-answer.new.vault in
    let n = goes_on g.S.Store.tells g.S.Store.files g.S.Store.count (g.V.Verify.verifies c.args.verifier.now) (act_of c.args.act.now) (parts_of old) (parts_of new) c.act_on-answer.result c.act_on-answer.ensures.acts in
    fits (notes_in old) (notes_in new) (journal_of new) c.entries_of-after.result c.act_on-answer.result n refl c.entries_of-after.ensures

pub invariant_of-self : goal.invariant_of-self
invariant_of-self g c =
    let old = c.args.self.now.vault in
    let new = c.act_on-answer.new.vault in
    let first = told c.args.self.now.tail.front.seen.log in
    let log = told c.show.new.self.front.seen.log in
    let is = ap told c.show.ensures.whole ∙ c.args.self.now.same in
    let n = goes_on g.S.Store.tells g.S.Store.files g.S.Store.count (g.V.Verify.verifies c.args.verifier.now) (act_of c.args.act.now) (parts_of old) (parts_of new) c.act_on-answer.result c.act_on-answer.ensures.acts in
    let grown = told c.note.new.tail.front.seen.log in
    let are = follows (begun_in first) log grown (notes_in old) (notes_in new) (journal_of old) (journal_of new) c.entries_of-before.result c.entries_of-after.result c.act_on-answer.result is n refl refl c.entries_of-before.ensures c.entries_of-after.ensures c.note.ensures.grows in
    record {
      same = again (begun_in first) grown (notes_in new) are;
      counted = counts-all (begun_in first) log grown (notes_in old) (notes_in new) c.args.self.now.book.total c.note.new.book.total is are c.args.self.now.counted c.note.ensures.total;
      begins = stepped g.S.Store.tells g.S.Store.files g.S.Store.count g.S.Store.changes (begun_in first) (begun_in grown) (parts_of old) (parts_of new) (g.V.Verify.verifies c.args.verifier.now) (act_of c.args.act.now) c.act_on-answer.result (ap begun_in are) c.act_on-answer.ensures.acts c.args.self.now.begins;
    }

pub returns-clause-begins : goal.returns-clause-begins
returns-clause-begins g c =
    let first = told c.args.self.now.tail.front.seen.log in
    sym (begun-there (begun_in first) (told c.args.me.now.seen.log) first (notes_in c.args.self.now.vault) (told-none c.args.me.now.seen.log c.requires.seen) c.show.ensures.begins c.args.self.now.same)

pub returns-clause-begun : goal.returns-clause-begun
returns-clause-begun g c =
    let old = c.args.self.now.vault in
    let new = c.act_on-answer.new.vault in
    let first = told c.args.self.now.tail.front.seen.log in
    let log = told c.show.new.self.front.seen.log in
    let is = ap told c.show.ensures.whole ∙ c.args.self.now.same in
    let n = goes_on g.S.Store.tells g.S.Store.files g.S.Store.count (g.V.Verify.verifies c.args.verifier.now) (act_of c.args.act.now) (parts_of old) (parts_of new) c.act_on-answer.result c.act_on-answer.ensures.acts in
    let grown = told c.note.new.tail.front.seen.log in
    let are = follows (begun_in first) log grown (notes_in old) (notes_in new) (journal_of old) (journal_of new) c.entries_of-before.result c.entries_of-after.result c.act_on-answer.result is n refl refl c.entries_of-before.ensures c.entries_of-after.ensures c.note.ensures.grows in
    ap begun_in are ∙ returns-clause-begins g c

pub returns-clause-alone : goal.returns-clause-alone
returns-clause-alone g c =
    let old = c.args.self.now.vault in
    let new = c.act_on-answer.new.vault in
    let first = told c.args.self.now.tail.front.seen.log in
    let log = told c.show.new.self.front.seen.log in
    let is = ap told c.show.ensures.whole ∙ c.args.self.now.same in
    let n = goes_on g.S.Store.tells g.S.Store.files g.S.Store.count (g.V.Verify.verifies c.args.verifier.now) (act_of c.args.act.now) (parts_of old) (parts_of new) c.act_on-answer.result c.act_on-answer.ensures.acts in
    let grown = told c.note.new.tail.front.seen.log in
    let are = follows (begun_in first) log grown (notes_in old) (notes_in new) (journal_of old) (journal_of new) c.entries_of-before.result c.entries_of-after.result c.act_on-answer.result is n refl refl c.entries_of-before.ensures c.entries_of-after.ensures c.note.ensures.grows in
    alone-by (told c.args.me.now.seen.log) (told c.note.new.me.seen.log) first grown (notes_in old) (notes_in new) c.args.own.now.amount c.note.new.own.amount (told-none c.args.me.now.seen.log c.requires.seen) c.show.ensures.begins c.args.self.now.same
    (ap told c.note.ensures.seen) are (counts (begun_in first) log grown (notes_in old) (notes_in new) c.args.own.now.amount c.note.new.own.amount is are c.note.ensures.own)
