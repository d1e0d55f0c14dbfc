use Rattle.std.specs.Prelude.{◌≡◌, string_bytes}
use Rattle.tough_update.specs.Stages.{LoadedDoc}
use Rattle.tough.specs.Program.{IsVouchedFor, IsReport, report_text}
use Rattle.tough.proofs.Driven.{each}
use Rattle.tough.proofs.program.get.Goals as goal

pub returns : goal.returns
returns g c =
    each (λ text. (l : LoadedDoc) × IsVouchedFor l × (string_bytes text ≡ report_text l c.in_ok-name.name.resolved c.args.outdir.now))
    (λ text. IsReport c.args.name.now c.args.outdir.now (string_bytes text)) c.get_by.result c.get_by.ensures
    (λ text h. record {
      documents = h.0;
      vouched = h.1;
      resolved = c.in_ok-name.name.resolved;
      named = c.in_ok-name.ensures;
      told = h.2;
    })
