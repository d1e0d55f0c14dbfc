-- Updates by their numbers, and runs and lives one turn and one life longer.
use Rattle.std.proofs.Common.{◌≡◌, ℕ, zero, suc, List, [], ◌∷◌, ◌++◌, Option, Some, None, Bool, Result, Ok, Err, slice_get, ◌<◌, length, arith, refl, sym, ap, ◌∙◌, subst, append_assoc}
use Rattle.std.specs.Prelude.{slice_set, slice_index_or, Vec, ⊤}
use Rattle.std.specs.declared.alloc.Global.{Global}
use Rattle.tough_keys.specs.Same.{Verifies}
use Rattle.tough_vault.specs.declared.entry.Entry.{Entry}
use Rattle.tough_vault.specs.Journal.{Note, Last, no_tip, notes_of}
use Rattle.tough_vault.specs.Step.{Parts}
use Rattle.tough_vault.specs.Stored.{Files}
use Rattle.tough_update.specs.declared.machine.Core.{Core}
use Rattle.tough_update.specs.Machine.{question}
use Rattle.tough_update.specs.declared.ask.Answer.{Answer as Reply}
use Rattle.tough_update.specs.Questions.{Question}
use Rattle.tough_update.specs.View.{core_doc, answer_doc}
use Rattle.tough_world.specs.declared.lives.Life.{Life}
use Rattle.tough_world.specs.declared.turns.Answer.{Answer}
use Rattle.tough_world.specs.declared.turns.Turn.{Turn}
use Rattle.tough_world.specs.declared.turns.TurnError.{TurnError}
use Rattle.tough_world.specs.declared.turns.TurnError.TheVariants.{NotAsked, Misfit}
use Rattle.tough_world.specs.Lives.{Lives, Lived, begun, journals_of}
use Rattle.tough_world.specs.Turns.{WorldDoc, RepliesOr, IsUnasked, IsMisfit, IsAnswered, TurnsTo, Turned, Runs}

pub cores_same : (cs : List Core) (k : ℕ) (c : Core) → slice_get cs k ≡ Some c → slice_set cs k c ≡ cs
cores_same [] k c h = refl
cores_same (x ∷ cs) zero c h = cc (h)
cores_same (x ∷ cs) (suc k) c h = ap (λ ds. x ∷ ds) (cores_same cs k c h)

pub found_at : (cs : List Core) (k : ℕ) (c : Core) → k < length cs → c ≡ slice_index_or cs k c → slice_get cs k ≡ Some c
found_at [] k c h e = absurd (omega (arith, h))
found_at (x ∷ cs) zero c h e = ap Some (sym e)
found_at (x ∷ cs) (suc k) c h e = let r : k < length cs = omega (arith, h) in found_at cs k c r e

module _ {S : Type 0} (tells : Bool) (files : S → Files) (count : S → ℕ) (verifies : Verifies) where
  pub runs_push : (ts : List Turn) (t : Turn) (old mid new : WorldDoc S) (r : Result ⊤ TurnError) → Runs tells files count verifies old ts mid → Turned tells files count verifies t.load t.answer mid new r
      → Runs tells files count verifies old (ts ++ t ∷ []) new
  runs_push [] t old mid new r h k = (new, (r, subst (λ (w : WorldDoc S). Turned tells files count verifies t.load t.answer w new r) h k), refl)
  runs_push (x ∷ ts) t old mid new r h k = (h.0, h.1, runs_push ts t h.0 mid new r h.2 k)

  world : List Core → Parts S → WorldDoc S
  world cores parts = record { cores = cores; parts = parts }

  same_world : (old : WorldDoc S) (cores : List Core) (parts : Parts S) → cores ≡ old.cores → parts ≡ old.parts → record { cores = cores; parts = parts } ≡ old
  unfolding world
  same_world old cores parts e h = ap (λ (c : List Core). world c parts) e ∙ ap (λ (p : Parts S). world old.cores p) h

  pub refused : (old : WorldDoc S) (cores : List Core) (parts : Parts S) (load : ℕ) (answer : Answer) (c : Core) (e : TurnError) → cores ≡ old.cores → parts ≡ old.parts → slice_get old.cores load ≡ Some c
      → RepliesOr tells files count verifies (question (core_doc c)) answer old.parts parts (Err e) → Turned tells files count verifies load answer old (record { cores = cores; parts = parts }) (Err e)
  refused old cores parts load answer c NotAsked same kept there r = (same_world old cores parts same kept, subst (λ (o : Option Core). IsUnasked tells files count verifies o answer) (sym there) r)
  refused old cores parts load answer c Misfit same kept there r = (same_world old cores parts same kept, subst (λ (o : Option Core). IsMisfit tells files count verifies o answer) (sym there) r)

  pub taken_turn : (load : ℕ) (answer : Answer) (old new : WorldDoc S) (c next : Core) (q : Question) (reply : Reply) → slice_get old.cores load ≡ Some c → q ≡ question (core_doc c)
      → RepliesOr tells files count verifies q answer old.parts new.parts (Ok reply) → IsAnswered verifies c (answer_doc reply) next → new.cores ≡ slice_set old.cores load next → TurnsTo tells files count verifies load answer old new
  taken_turn load answer old new c next q reply there e r a cores =
      let given = subst (λ (x : Question). RepliesOr tells files count verifies x answer old.parts new.parts (Ok reply)) e r in
      record { core = c; there = there; fits = given.1; reply = answer_doc reply; replies = given.0; next = next; answered = a; cores = cores }

  pub refused_turn : (old : WorldDoc S) (cores : List Core) (parts : Parts S) (load : ℕ) (answer : Answer) (c : Core) (q : Question) (e : TurnError) → cores ≡ old.cores → parts ≡ old.parts → slice_get old.cores load ≡ Some c → q ≡ question (core_doc c)
      → RepliesOr tells files count verifies q answer old.parts parts (Err e) → Turned tells files count verifies load answer old (record { cores = cores; parts = parts }) (Err e)
  refused_turn old cores parts load answer c q e same kept there is r = refused old cores parts load answer c e same kept there (subst (λ (x : Question). RepliesOr tells files count verifies x answer old.parts parts (Err e)) is r)

  made : S → List Note → Last → Parts S
  made store notes tip = record { store = store; notes = notes; tip = tip }

  -- the parts of a new vault
  pub fresh_parts : (p : Parts S) (store : S) → p.store ≡ store → p.notes ≡ [] → p.tip ≡ no_tip → p ≡ record { store = store; notes = []; tip = no_tip }
  unfolding made
  fresh_parts p store a b c = ap (λ (s : S). made s p.notes p.tip) a ∙ (ap (λ (ns : List Note). made store ns p.tip) b ∙ ap (λ (t : Last). made store [] t) c)

  pub lived_by : (w end : WorldDoc S) (l : Life) (j : List Note) (old new : S) → w.cores ≡ l.cores.items → w.parts ≡ record { store = old; notes = []; tip = no_tip } → Runs tells files count verifies w l.schedule.items end → end.parts.notes ≡ j → end.parts.store ≡ new → Lived tells files count verifies old l j new
  lived_by w end l j old new cores parts run notes store =
      (end, subst (λ (x : WorldDoc S). Runs tells files count verifies x l.schedule.items end) (same_world (begun l old) w.cores w.parts cores parts) run, notes, store)

  pub lives_push : (ls : List Life) (l : Life) (js : List (List Note)) (j : List Note) (old mid new : S) → Lives tells files count verifies old ls js mid → Lived tells files count verifies mid l j new
      → Lives tells files count verifies old (ls ++ l ∷ []) (js ++ j ∷ []) new
  lives_push [] l [] j old mid new h k =
      let here = subst (λ (s : S). Lived tells files count verifies s l j new) h k in
      (here.0, here.1, here.2, sym here.3)
  lives_push (x ∷ ls) l (y ∷ js) j old mid new h k = (h.0, h.1, h.2, lives_push ls l js j h.0.parts.store mid new h.3 k)
  lives_push [] l (y ∷ js) j old mid new h k = absurd h
  lives_push (x ∷ ls) l [] j old mid new h k = absurd h

pub journals_push : (js : List (Vec Entry Global)) (j : Vec Entry Global) → journals_of (js ++ j ∷ []) ≡ journals_of js ++ notes_of j.items ∷ []
journals_push [] j = refl
journals_push (x ∷ js) j = ap (λ (ys : List (List Note)). notes_of x.items ∷ ys) (journals_push js j)

-- the lives that were, and those that are left, after one more
pub life_more : (all seen left rest : List Life) (l : Life) → all ≡ seen ++ left → left ≡ l ∷ rest → all ≡ (seen ++ l ∷ []) ++ rest
life_more all seen left rest l h e = h ∙ (ap (λ (ls : List Life). seen ++ ls) e ∙ sym (append_assoc seen (l ∷ []) rest))
