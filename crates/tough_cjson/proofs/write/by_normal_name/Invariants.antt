use Rattle.std.proofs.Common.{◌≡◌, ◌++◌, List, string_cmp}
use Rattle.std.specs.List.Sorted.{IsPermutation, IsStrictlySortedBy}
use Rattle.std.specs.Map.{keys_of}
use Rattle.serde_json.proofs.Views.{Entry}
use Rattle.tough_cjson.specs.ByName.{named, kept}
use Rattle.tough_cjson.proofs.write.by_normal_name.Given as goal

abbrev pub invariant-loop-key : goal.invariant-loop-key
invariant-loop-key l =
    (done : List Entry) × (l.members.entries ≡ done ++ l.key-iterator)
    × IsPermutation (named done) (kept l.sorted.entries) × IsStrictlySortedBy string_cmp (keys_of l.sorted.entries)
