use Rattle.std.proofs.Common.{◌≡◌, ◌≤◌, ◌++◌, take}
use Rattle.std.specs.List.{slice_range}
use Rattle.tough_cjson.specs.Canon.{escaped}
use Rattle.tough_cjson.proofs.text.append_escaped.Given as goal

abbrev pub invariant-loop-index : goal.invariant-loop-index
invariant-loop-index l =
    (l.start ≤ l.index) × (l.out.items ++ slice_range l.bytes l.start l.index ≡ l.fn.out.items ++ escaped (take l.index l.bytes))
