-- What a load counts stays within its bounds.
use Rattle.std.specs.Prelude.{◌≡◌, Result, Ok, Err, IfOk}
use Rattle.std.proofs.Common.{refl, sym, ap, ◌∙◌, subst}
use Rattle.tough_keys.specs.Same.{Verifies}
use Rattle.tough_update.specs.declared.counts.Counts.{Counts}
use Rattle.tough_update.specs.declared.machine.Core.{Core}
use Rattle.tough_update.specs.Counts.{none_yet}
use Rattle.tough_update.specs.Counted.{Counted, begun, FetchesFew, KeepsFew, KeepsAll}
use Rattle.tough_trust.specs.Failure.{Failure}
use Rattle.tough_update.specs.Stages.{LoadedDoc, CoreDoc, SettingDoc, Done}
use Rattle.tough_update.specs.View.{core_doc, counts_of}
use Rattle.tough_load.specs.Loader.{SettingsDoc, first_core}
use Rattle.tough_load.specs.Counting.{HasCounted, EndsCounting, CountsFew}

-- an update that was just made has counted nothing
fresh : (v : Verifies) (s : SettingsDoc) (m : Core) → core_doc m ≡ first_core s → counts_of m ≡ none_yet → HasCounted v m
fresh v s m core counts = subst (λ c. Counted v c (counts_of m)) (sym core) (subst (λ n. Counted v (first_core s) n) (sym counts) (begun (first_core s) refl))

module _ (fetches : (v : Verifies) (c : CoreDoc) (n : Counts) → Counted v c n → FetchesFew c.setting.limits n)
    (keeps : (v : Verifies) (c : CoreDoc) (n : Counts) (update : Counted v c n) → KeepsFew update)
    (loaded : (v : Verifies) (c : CoreDoc) (n : Counts) (l : LoadedDoc) → Counted v c n → c.stage ≡ Done (Ok l) → KeepsAll l n) where
  keeps-all : (v : Verifies) (c : CoreDoc) (n : Counts) (r : Result LoadedDoc Failure) → Counted v c n → c.stage ≡ Done r → IfOk r (λ l. KeepsAll l n)
  keeps-all v c n (Ok l) h is = loaded v c n l h is
  keeps-all v c n (Err e) h is = tt

  ends-few : (v : Verifies) (s : SettingsDoc) (setting : SettingDoc) (r : Result LoadedDoc Failure) (n : Counts) → setting ≡ (first_core s).setting → EndsCounting v setting r n → CountsFew v s.limits r n
  ends-few v s setting r n is h =
      record {
        last = h.last;
        update = h.counted;
        ended = h.ended;
        fetched = subst (λ (x : SettingDoc). FetchesFew x.limits n) (h.setting_is ∙ is) (fetches v h.last n h.counted);
        kept = keeps v h.last n h.counted;
        whole = keeps-all v h.last n r h.counted h.ended;
      }

  pub few : {V : Type 0} (w : V → Verifies) (v' : V) (s : SettingsDoc) (v : V) (m : Core) (r : Result LoadedDoc Failure) (n : Counts) → v ≡ v' → core_doc m ≡ first_core s → counts_of m ≡ none_yet
      → (HasCounted (w v) m → EndsCounting (w v) (core_doc m).setting r n) → CountsFew (w v') s.limits r n
  few w v' s v m r n same core counts h =
      subst (λ x. CountsFew (w x) s.limits r n) same (ends-few (w v) s (core_doc m).setting r n (ap (λ (d : CoreDoc). d.setting) core) (h (fresh (w v) s m core counts)))
