use Rattle.std.proofs.Common.{refl}
use Rattle.tough_vault.specs.Vault.{parts_of}
use Rattle.witnesses.proofs.steps.accept_four.Goals as goal

pub returns : goal.returns
returns c =
    let noted = parts_of c.note_time.new.vault in
    let put = parts_of c.put_root.new.vault in
    let advanced = parts_of c.advance_timestamp.new.vault in
    let last = parts_of c.advance_snapshot.new.vault in (
      parts_of c.new-vault.result,
      last,
      (noted, c.in_ok-note_time.ensures, (put, c.in_ok-put_root.ensures, (advanced, c.in_ok-advance_timestamp.ensures, (last, c.in_ok-advance_snapshot.ensures, refl)))),
    )
