use Rattle.std.proofs.Common.{sym, arith}
use Rattle.tough_ed25519.proofs.LittleEndian.{all_bytes}
use Rattle.tough_ed25519.proofs.field.words.Words.to_bytes.Goals as goal

pub returns : goal.returns
returns c =
    let w = c.args.self in
    rw (c.to_le_bytes-first.ensures, c.to_le_bytes-second.ensures, c.to_le_bytes-third.ensures, c.to_le_bytes-fourth.ensures)
    (sym (all_bytes w.first w.second w.third w.fourth (omega arith) (omega arith) (omega arith) (omega arith)))
