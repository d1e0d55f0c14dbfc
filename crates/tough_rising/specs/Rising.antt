-- Receipts whose numbers rise.
use Rattle.std.specs.Prelude.{◌<◌, ℕ, List, [], ◌∷◌, length, ⊤}
use Rattle.std.specs.Borrow.{MutBor}
use Rattle.tough_vault.specs.declared.store.Store.{Ghosts as StoreGhosts}
use Rattle.tough_vault.specs.declared.vault.Vault.{Vault}
use Rattle.tough_vault.specs.Journal.{number_of}
use Rattle.tough_vault.specs.Vault.{notes_in}
use Rattle.tough_shared.specs.declared.front.Naming.{Ghosts}
use Rattle.tough_shared.specs.declared.receipt.Receipt.{Receipt}
use Rattle.tough_shared.specs.Receipts.{plain_of}

module _ {R : Type 0} (number : R → ℕ) where
  -- each receipt's number is greater than the one before it
  abbrev pub Rise : List R → Type 0
  Rise [] = ⊤
  Rise (r ∷ []) = ⊤
  Rise (r ∷ s ∷ rs) = (number r < number s) × Rise (s ∷ rs)

  abbrev pub AllBelow : ℕ → List R → Type 0
  AllBelow next [] = ⊤
  AllBelow next (r ∷ rs) = (number r < next) × AllBelow next rs

  -- so it is, and each is below this, which the number of a later step is not
  abbrev pub RiseBelow : ℕ → List R → Type 0
  RiseBelow next rs = Rise rs × AllBelow next rs

-- how many entries the journal of a lent vault has
abbrev pub entries_in : {S : Type 0} {g : StoreGhosts S} → MutBor (Vault S g) → ℕ
entries_in k = length (notes_in k.now)

-- the number of a receipt that is tied to its store
abbrev pub tied_number : {J : Type 0} {g : Ghosts J} → Receipt J g → ℕ
tied_number r = number_of (plain_of r)
