use Rattle.std.proofs.Common.{◌≡◌, ◌++◌, ◌∷◌, [], refl, arith, rules, get_or}
use Rattle.std.specs.List.{slice_range}
use Rattle.tough_cjson.specs.Canon.{escaped, escaped_byte}
use Rattle.tough_cjson.proofs.Escaping.{plain_more, backslash_more, quote-byte, slash-byte, plain-byte}
use Rattle.tough_cjson.proofs.text.append_escaped.Goals as goal
use Rattle.tough_cjson.proofs.text.append_escaped.Goals.{then-byte-eq34+in_ok-extend_from_slice+in_ok-extend_from_slice-2, then-byte-eq34-via-then-byte-eq34, then-byte-eq34-via-else-byte-eq34+then-byte-eq92, else-byte-eq34+else-byte-eq92}

pub loop-index-init : goal.loop-index-init
unfolding escaped
loop-index-init c = (omega arith, refl)

pub loop-index-preserved : goal.loop-index-preserved
loop-index-preserved c =
    let bytes = c.args.bytes.now in
    let l = c.loop-index in
    let old = c.args.out.now.items in
    let low = l.invariant.0 in
    elim c.if-byte-eq34.branch [
      | then-byte-eq34+in_ok-extend_from_slice+in_ok-extend_from_slice-2 w ↦
          let special : escaped_byte (get_or bytes l.index 0) ≡ 92 ∷ get_or bytes l.index 0 ∷ [] = elim w.then-byte-eq34.branch [
            | then-byte-eq34-via-then-byte-eq34 v ↦ quote-byte _ v.if-byte-eq34.true
            | then-byte-eq34-via-else-byte-eq34+then-byte-eq92 v ↦ slash-byte _ v.if-byte-eq34.false v.if-byte-eq92.true
          ] in
          let run : w.extend_from_slice.new.self.items ≡ l.out.items ++ slice_range bytes l.start l.index = search rules in
          let slash : w.extend_from_slice-then-byte-eq34.new.self.items ≡ w.extend_from_slice.new.self.items ++ 92 ∷ [] = search rules in
          rw (w.start-is, w.out-is, slash, run) (omega arith, backslash_more old l.out.items bytes l.start l.index low (omega arith) special l.invariant.1)
      | else-byte-eq34+else-byte-eq92 w ↦
          rw (w.start-is, w.out-is) (omega arith, plain_more old l.out.items bytes l.start l.index low (omega arith) (plain-byte _ w.if-byte-eq34.false w.if-byte-eq92.false) l.invariant.1)
    ]
