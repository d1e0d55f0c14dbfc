use Rattle.std.proofs.Common.{rules, ◌+◌, ◌≡◌}
use Rattle.tough_write.proofs.Replaced.{all_end, all_goes, first, stops_goes, stops_here}
use Rattle.tough_write.proofs.replace.replace_files.Goals as goal

pub loop-file-init : goal.loop-file-init
loop-file-init g c = record { all = λ tells after h. h; stops = λ tells e after h. h }

pub returns-in-Err-Memory-clause-err : goal.returns-in-Err-Memory-clause-err
returns-in-Err-Memory-clause-err g c = λ tells.
    let contents = g.F.Files.contents in
    c.loop-file.invariant.stops tells _ (contents c.replace_file.new.files)
    (stops_here c.args.folder.now c.args.list.now c.loop-file.file-index (first c.args.list.now c.loop-file.file-index c.loop-file-test.true) _ (contents c.loop-file.files) (contents c.replace_file.new.files) c.loop-file-test.true tt (c.in-Err-Memory.ensures.err tells))

pub returns-in-Err : goal.returns-in-Err
returns-in-Err g c = record {
  ok = λ tells. tt;
  err = λ tells.
      let contents = g.F.Files.contents in
      c.loop-file.invariant.stops tells _ (contents c.replace_file.new.files)
      (stops_here c.args.folder.now c.args.list.now c.loop-file.file-index _ _ (contents c.loop-file.files) (contents c.replace_file.new.files) c.loop-file-test.true (c.in_ok-name-in-Err.ensures.ok) (c.in-Err.ensures.err tells));
}

pub loop-file-preserved : goal.loop-file-preserved
loop-file-preserved g c =
    let contents = g.F.Files.contents in
    record {
      all = λ tells after h. c.loop-file.invariant.all tells after (all_goes c.args.folder.now c.args.list.now c.loop-file.file-index _ (contents c.loop-file.files) (contents c.replace_file.new.files) c.loop-file-test.true after (c.in-Ok.ensures.ok tells) h);
      stops = λ tells e after h. c.loop-file.invariant.stops tells e after (stops_goes c.args.folder.now c.args.list.now c.loop-file.file-index _ (contents c.loop-file.files) (contents c.replace_file.new.files) c.loop-file-test.true e after (c.in-Ok.ensures.ok tells) h);
    }

pub returns-clause-ok : goal.returns-clause-ok
returns-clause-ok g c = λ tells.
    let contents = g.F.Files.contents c.loop-file.files in
    c.loop-file.invariant.all tells contents (all_end c.args.folder.now c.args.list.now c.loop-file.file-index contents c.loop-file-test.false)
