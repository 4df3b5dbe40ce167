-- The representation of a code: the slot of each unit, and the number of instructions.
use Rattle.std.specs.Prelude.{ℕ, ◌≡◌, List, length, Option}
use Rattle.std.specs.Option.{option_to_list}
use Rattle.std.specs.List.{flat_map}
use Rattle.bpf_insn.specs.declared.insn.Insn.{Insn}
use Rattle.bpf_insn.specs.Code.{IsCode, slots}

-- the instructions at the units
abbrev pub insns_of : List (Option Insn) → List Insn
insns_of units = flat_map option_to_list units

pub record IsStored (units : List (Option Insn)) (count : ℕ) : Type 0 where
  pub whole : slots (insns_of units) ≡ units
  pub is_code : IsCode (insns_of units)
  pub counted : length (insns_of units) ≡ count
