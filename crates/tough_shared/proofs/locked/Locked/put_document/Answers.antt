use Rattle.std.proofs.Common.{ap, sym, ◌∙◌, refl}
use Rattle.tough_checks.specs.DocumentName.{name_of}
use Rattle.tough_roles.specs.Written.{compact_by}
use Rattle.tough_vault.specs.Act.{PutDocument}
use Rattle.tough_shared.specs.Shares.{no_signature}
use Rattle.tough_vault.specs.Vault.{parts_of, journal_of, notes_in}
use Rattle.tough_shared.specs.Lines.{is_open, begun_in, told}
use Rattle.tough_shared.proofs.Adding.{told-none}
use Rattle.tough_shared.proofs.Beginning.{stepped}
use Rattle.tough_shared.proofs.Going.{goes_on}
use Rattle.tough_shared.proofs.Lined.{lines-open, numbered, fits, follows, counts-all, begun-there, again}
use Rattle.tough_shared.proofs.locked.Locked.put_document.Goals as goal

pub note-requires-clause-open : goal.note-requires-clause-open
note-requires-clause-open g c = ap is_open (ap told c.show.ensures.whole ∙ c.args.self.now.same) ∙ lines-open (notes_in c.args.self.now.vault)

pub note-requires-clause-number : goal.note-requires-clause-number
note-requires-clause-number g c =
    let old = c.args.self.now.vault in
    let new = c.put_document-answer.new.self in
    let first = told c.args.self.now.tail.front.seen.log in
    let log = told c.show.new.self.front.seen.log in
    let is = ap told c.show.ensures.whole ∙ c.args.self.now.same in
    let n = goes_on g.S.Store.tells g.S.Store.files g.S.Store.count no_signature (PutDocument (name_of c.args.name.now) (compact_by g.T.Role.json c.args.role.now)) (parts_of old) (parts_of new) c.put_document-answer.result c.put_document-answer.ensures.takes in
    numbered (begun_in first) log (notes_in old) (notes_in new) c.put_document-answer.result is n

pub note-requires-clause-fits : goal.note-requires-clause-fits
note-requires-clause-fits g c =
    let old = c.args.self.now.vault in
    let new = c.put_document-answer.new.self in
    let n = goes_on g.S.Store.tells g.S.Store.files g.S.Store.count no_signature (PutDocument (name_of c.args.name.now) (compact_by g.T.Role.json c.args.role.now)) (parts_of old) (parts_of new) c.put_document-answer.result c.put_document-answer.ensures.takes in
    fits (notes_in old) (notes_in new) (journal_of new) c.entries_of-after.result c.put_document-answer.result n refl c.entries_of-after.ensures

pub invariant_of-self : goal.invariant_of-self
invariant_of-self g c =
    let old = c.args.self.now.vault in
    let new = c.put_document-answer.new.self in
    let first = told c.args.self.now.tail.front.seen.log in
    let log = told c.show.new.self.front.seen.log in
    let is = ap told c.show.ensures.whole ∙ c.args.self.now.same in
    let n = goes_on g.S.Store.tells g.S.Store.files g.S.Store.count no_signature (PutDocument (name_of c.args.name.now) (compact_by g.T.Role.json c.args.role.now)) (parts_of old) (parts_of new) c.put_document-answer.result c.put_document-answer.ensures.takes in
    let grown = told c.note.new.tail.front.seen.log in
    let are = follows (begun_in first) log grown (notes_in old) (notes_in new) (journal_of old) (journal_of new) c.entries_of-before.result c.entries_of-after.result c.put_document-answer.result is n refl refl c.entries_of-before.ensures c.entries_of-after.ensures c.note.ensures.grows in
    record {
      same = again (begun_in first) grown (notes_in new) are;
      counted = counts-all (begun_in first) log grown (notes_in old) (notes_in new) c.args.self.now.book.total c.note.new.book.total is are c.args.self.now.counted c.note.ensures.total;
      begins = stepped g.S.Store.tells g.S.Store.files g.S.Store.count g.S.Store.changes (begun_in first) (begun_in grown) (parts_of old) (parts_of new) no_signature (PutDocument (name_of c.args.name.now) (compact_by g.T.Role.json c.args.role.now)) c.put_document-answer.result (ap begun_in are) c.put_document-answer.ensures.takes c.args.self.now.begins;
    }

pub returns-clause-begins : goal.returns-clause-begins
returns-clause-begins g c =
    let first = told c.args.self.now.tail.front.seen.log in
    sym (begun-there (begun_in first) (told c.args.me.now.seen.log) first (notes_in c.args.self.now.vault) (told-none c.args.me.now.seen.log c.requires.seen) c.show.ensures.begins c.args.self.now.same)

pub returns-clause-begun : goal.returns-clause-begun
returns-clause-begun g c =
    let old = c.args.self.now.vault in
    let new = c.put_document-answer.new.self in
    let first = told c.args.self.now.tail.front.seen.log in
    let log = told c.show.new.self.front.seen.log in
    let is = ap told c.show.ensures.whole ∙ c.args.self.now.same in
    let n = goes_on g.S.Store.tells g.S.Store.files g.S.Store.count no_signature (PutDocument (name_of c.args.name.now) (compact_by g.T.Role.json c.args.role.now)) (parts_of old) (parts_of new) c.put_document-answer.result c.put_document-answer.ensures.takes in
    let grown = told c.note.new.tail.front.seen.log in
    let are = follows (begun_in first) log grown (notes_in old) (notes_in new) (journal_of old) (journal_of new) c.entries_of-before.result c.entries_of-after.result c.put_document-answer.result is n refl refl c.entries_of-before.ensures c.entries_of-after.ensures c.note.ensures.grows in
    ap begun_in are ∙ returns-clause-begins g c
