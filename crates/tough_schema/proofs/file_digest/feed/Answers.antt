use Rattle.std.proofs.Common.{◌≡◌, ◌≤◌, ◌+◌, length, subst, sym, ◌∙◌, arith, take, lit<}
use Rattle.sha2.specs.Hashers.{Holds256}
use Rattle.tough_schema.specs.FileDigest.{there, HoldsSecond}
use Rattle.tough_schema.proofs.Pieces.{Piece, piece-from}
use Rattle.tough_schema.proofs.file_digest.feed.Goals as goal

pub returns-in_default-clause-feeds : goal.returns-in_default-clause-feeds
returns-in_default-clause-feeds g c = λ digests bytes tells is read.
    let piece : Piece bytes c.read.new.buf c.args.reading.now.length c.in_ok-n.n =
    piece-from (there c.args.path.now (g.F.Files.contents c.args.files.now)) bytes c.read.new.buf c.args.reading.now.length 4096 c.in_ok-n.n is (c.in_ok-n.ensures.gives tells).0 c.in_ok-n.ensures.len (lit< tt) read.within in
    let far = c.in_default.ensures in
    let within = piece.within in
    omega (arith, far, within)

pub returns-clause-feeds : goal.returns-clause-feeds
returns-clause-feeds g c = λ digests bytes tells is read.
    let start = c.args.reading.now.length in
    let n = c.in_ok-n.n in
    let piece : Piece bytes c.read.new.buf start n =
    piece-from (there c.args.path.now (g.F.Files.contents c.args.files.now)) bytes c.read.new.buf start 4096 n is (c.in_ok-n.ensures.gives tells).0 c.in_ok-n.ensures.len (lit< tt) read.within in
    let now : c.in-Some.length ≡ start + n = c.in-Some.ensures.1 in
    let holds : Holds256 c.update.new.self (take (start + n) bytes) = subst (λ m. Holds256 c.update.new.self m) piece.more (c.update.ensures (take start bytes) read.holds.0) in
    let second : HoldsSecond c.take_in.new.hasher digests (take (start + n) bytes) = subst (λ m. HoldsSecond c.take_in.new.hasher digests m) piece.more (c.take_in.ensures digests (take start bytes) read.holds.1) in (
      record {
        within = subst (λ k. k ≤ length bytes) (sym now) piece.within;
        holds = (subst (λ k. Holds256 c.update.new.self (take k bytes)) (sym now) holds, subst (λ k. HoldsSecond c.take_in.new.hasher digests (take k bytes)) (sym now) second);
      },
      now,
      λ none. now ∙ piece.ended none,
    )
