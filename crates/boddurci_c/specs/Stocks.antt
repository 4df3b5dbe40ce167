-- Stock programs submitted by name (own).
use Rattle.std.specs.Prelude.{◌≡◌, ◌⊎◌, ℕ, List, Option, Some, None, IsSome, Err}
use Rattle.bpf_insn.specs.Code.{IsImage}
use Rattle.prog_registry.specs.declared.fault.RegFault.{RegFault}
use Rattle.stock_names.specs.Names.{stock_named, code_of_stock}
use Rattle.stock_names.specs.declared.Stock.{Stock}
use Rattle.boddurci_handles.specs.declared.opened.Db.{Db}
use Rattle.boddurci_handles.specs.declared.status.Status.{Status}
use Rattle.boddurci_handles.specs.declared.status.Status.TheVariants.{NoMemory, NoStock}
use Rattle.boddurci_handles.specs.Statuses.{status_code}
use Rattle.boddurci_c.specs.Calls.{At, CallDenies, NumbersProgram, Submits, status_of_fault}

-- the program image of the stock program with a name
pub record IsStockImage (name image : List ℕ) : Type 0 where
  pub stock : Stock
  pub named : stock_named name ≡ Some stock
  pub is : IsImage (code_of_stock stock) image

-- the reason why there is no image: no stock program has the name, or memory ran out
abbrev pub DeniesStock : List ℕ → Status → Type 0
DeniesStock name status = ((status ≡ NoStock) × (stock_named name ≡ None)) ⊎ ((status ≡ NoMemory) × IsSome (stock_named name))

-- the stock program gets a number
pub record NumbersStock (name : List ℕ) (old : Option Db) (code : ℕ) (new : Option Db) (id : ℕ) : Type 0 where
  pub image : List ℕ
  pub stock : IsStockImage name image
  pub numbers : NumbersProgram image old code new id

-- the stock program is refused as `boddurci_submit` would refuse its image
pub record RejectsStock (name : List ℕ) (old : Option Db) (code : ℕ) (new : Option Db) : Type 0 where
  pub image : List ℕ
  pub stock : IsStockImage name image
  pub fault : RegFault
  pub code_is : code ≡ status_code (status_of_fault fault)
  pub submits : At old new (Submits image (Err fault))

abbrev pub Stocks : List ℕ → Option Db → ℕ → Option Db → ℕ → ℕ → Type 0
Stocks name old code new id_old id =
    NumbersStock name old code new id ⊎ ((RejectsStock name old code new × (id ≡ id_old)) ⊎ (CallDenies (λ _. DeniesStock name) old code new × (id ≡ id_old)))
