use Rattle.std.proofs.Common.{Some, Ok, refl, ap, ◌∙◌}
use Rattle.tough_checks.specs.DocumentName.{name_of}
use Rattle.tough_vault.specs.Journal.{Document}
use Rattle.tough_vault.specs.Parts.{parts}
use Rattle.tough_vault.specs.Steps.{document_step}
use Rattle.tough_vault.specs.declared.entry.Entry.TheVariants as entry
use Rattle.tough_vault.specs.declared.parts.Prepared.{Prepared}
use Rattle.tough_vault.proofs.Preparing.{prepared}
use Rattle.tough_vault.proofs.Taking.{takes}
use Rattle.tough_vault.proofs.prepare.put_text.Goals as goal

pub returns-clause-takes : goal.returns-clause-takes
returns-clause-takes g c =
    let tells = g.S.Store.tells in
    let files = g.S.Store.files in
    let count = g.S.Store.count in
    let name = name_of c.args.name.now in
    let step = document_step name (Some c.args.text.now.items) in
    let old = parts c.args.store.now c.args.journal.now.items c.args.tip.now in
    let new = parts c.write_noted.new.store c.write_noted.new.journal.items c.write_noted.new.tip in
    let made : Prepared = record { bytes = c.args.text.now; entry = entry.Document c.in-Ok.noted } in
    let ready = prepared tells files count step c.args.store.now c.args.store.now (files c.args.store.now name) made (λ t. refl) refl refl
    (record { entry = ap Document (c.in-Ok.ensures.ok ∙ c.as_str.ensures); bytes = refl }) refl (λ t n. refl) in
    takes tells files count step old new c.args.store.now (Ok made) c.write_noted.result ready (record { refused = tt; written = rw (c.as_str-2.ensures, c.as_slice.ensures.value) at c.write_noted.ensures.writes })
