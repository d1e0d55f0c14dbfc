-- Lives on a store in memory, of one update each.
use Rattle.std.specs.Prelude.{◌≡◌, ℕ, ℤ, List, [], ◌∷◌, Option, None, Some, Bool, true, false, Result, Ok, Err}
use Rattle.jiff.specs.declared.timestamp.Timestamp.{Timestamp as Instant}
use Rattle.tough_keys.specs.Demo.{demo_verifies}
use Rattle.tough_roles.specs.Policy.{Policy, policy}
use Rattle.tough_roles.specs.Root.{RootDoc}
use Rattle.tough_roles.specs.Signature.{SignedDoc}
use Rattle.tough_roles.specs.declared.role_type.RoleType.{RoleType}
use Rattle.tough_checks.specs.Files.{root_file}
use Rattle.tough_checks.specs.StoredDocuments.{stored_root}
use Rattle.tough_vault.specs.Journal.{Note, Noted, Root, has_broken}
use Rattle.tough_vault.specs.Memory.{memory_files}
use Rattle.tough_vault.specs.declared.memory.MemoryStore.{MemoryStore}
use Rattle.tough_trust.specs.Failure.{Failure}
use Rattle.tough_update.specs.Runs.{IsFresh}
use Rattle.tough_update.specs.View.{core_doc}
use Rattle.tough_update.specs.declared.machine.Core.{Core}
use Rattle.tough_world.specs.Lives.{Lives, BeginFresh, OnePolicy, joined}
use Rattle.tough_world.specs.declared.lives.Life.{Life}
use Rattle.tough_world.specs.declared.turns.Answer.TheVariants as by
use Rattle.tough_world.specs.declared.turns.Turn.{Turn}
use Rattle.witnesses.specs.Steps.{no_failure}

-- ---- a life

-- the update is told a moment, and the step that it then asks for is taken
abbrev pub noting : Instant → List Turn
noting now = record { load = 0; answer = by.Moment now } ∷ record { load = 0; answer = by.Step } ∷ []

-- a life of one update, which was begun with these bytes of a root, and of these turns
pub record IsBorn (trusted : List ℕ) (schedule : List Turn) (l : Life) : Type 0 where
  pub core : Core
  pub cores : l.cores.items ≡ core ∷ []
  pub trusts : (core_doc core).setting.trusted ≡ trusted
  pub fresh : IsFresh (core_doc core)
  pub turns : l.schedule.items ≡ schedule

-- what a root that was read asks of a role's signatures
abbrev pub asked_of : RoleType → Result (SignedDoc RootDoc) Failure → Option Policy
asked_of type (Ok root) = policy root.role type
asked_of type (Err f) = None

-- ---- two lives

-- All that `lives_take_steps` and `lives_raise_roots` ask; and what the lives did, so that they are not idle.
pub record HasLives (Tells : List Note → Type 0) : Type 0 where
  pub lives : List Life
  pub journals : List (List Note)
  pub old : MemoryStore
  pub new : MemoryStore
  pub lived : Lives true memory_files no_failure demo_verifies old lives journals new
  pub fresh : BeginFresh lives
  pub unbroken : has_broken (joined journals) ≡ false
  pub empty : memory_files old root_file ≡ None
  pub told : Tells (joined journals)

-- a moment was noted, a root was stored, and a moment was noted
abbrev pub Stores : List Note → Type 0
Stores notes = (t : ℤ) × (version : ℕ) × (cleared : Bool) × (u : ℤ) × (notes ≡ Noted t ∷ Root version cleared ∷ Noted u ∷ [])

-- two moments were noted
abbrev pub Notes : List Note → Type 0
Notes notes = (t : ℤ) × (u : ℤ) × (notes ≡ Noted t ∷ Noted u ∷ [])

-- All that `stored_is_chained` asks: such lives leave a root stored (TUF specification 5.3).
abbrev pub HasStored : Type 0
HasStored = (h : HasLives Stores) × (root : SignedDoc RootDoc) × (stored_root demo_verifies (memory_files h.new root_file) ≡ Some root)

-- All that `lives_go_on` asks: the roots of such lives ask one policy of each.
abbrev pub HasPolicies : Type 0
HasPolicies = (h : HasLives Notes) × (P : Option Policy) × (Q : Option Policy) × OnePolicy true memory_files no_failure demo_verifies P Q h.lives h.journals h.old h.new h.lived
