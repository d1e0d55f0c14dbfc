-- What a load has counted (TUF specification 1.0, sections 5.3 and 5.6): how many files its update fetched, and how much of them its tree keeps.
use Rattle.std.specs.Prelude.{◌≡◌, Result, IfOk}
use Rattle.tough_keys.specs.Same.{Verifies}
use Rattle.tough_update.specs.declared.counts.Counts.{Counts}
use Rattle.tough_net.specs.declared.limits.Limits.{Limits}
use Rattle.tough_update.specs.declared.machine.Core.{Core}
use Rattle.tough_update.specs.Counted.{Counted, FetchesFew, KeepsFew, KeepsAll}
use Rattle.tough_trust.specs.Failure.{Failure}
use Rattle.tough_update.specs.Stages.{LoadedDoc, CoreDoc, SettingDoc, Done}
use Rattle.tough_update.specs.View.{core_doc, counts_of}

-- what the machine has counted by now, from its first answer on
abbrev pub HasCounted : Verifies → Core → Type 0
HasCounted verifies m = Counted verifies (core_doc m) (counts_of m)

-- an update of this setting that ended so has counted this, from its first answer on
pub record EndsCounting (verifies : Verifies) (setting : SettingDoc) (outcome : Result LoadedDoc Failure) (n : Counts) : Type 0 where
  pub last : CoreDoc
  pub counted : Counted verifies last n
  pub setting_is : last.setting ≡ setting
  pub ended : last.stage ≡ Done outcome

-- At most as many roots were fetched as the limit allows, and at most as many delegated documents as the targets and the documents that are
-- kept list roles; at most as many are kept as the snapshot lists names. Where the update succeeded, what is kept is its tree.
pub record CountsFew (verifies : Verifies) (limits : Limits) (outcome : Result LoadedDoc Failure) (n : Counts) : Type 0 where
  pub last : CoreDoc
  pub update : Counted verifies last n
  pub ended : last.stage ≡ Done outcome
  pub fetched : FetchesFew limits n
  pub kept : KeepsFew update
  pub whole : IfOk outcome (λ l. KeepsAll l n)
