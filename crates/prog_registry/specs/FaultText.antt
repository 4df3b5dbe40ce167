-- The text of a fault: its name, and its details in brackets (own).
use Rattle.std.specs.Prelude.{ℕ, List, ◌++◌, codes}
use Rattle.bpf_insn.specs.Decoding.{fault_text as decode_text}
use Rattle.bpf_verify.specs.Fault.{fault_text as verify_text}
use Rattle.prog_registry.specs.declared.fault.RegFault.{RegFault}
use Rattle.prog_registry.specs.declared.fault.RegFault.TheVariants.{NoMemory, Decode, Verify, Full}

abbrev pub with_fault : List ℕ → List ℕ → List ℕ
with_fault name fault = name ++ (codes "(" ++ (fault ++ codes ")"))

abbrev pub fault_text : RegFault → List ℕ
fault_text NoMemory = codes "NoMemory"
fault_text (Decode fault) = with_fault (codes "Decode") (decode_text fault)
fault_text (Verify fault) = with_fault (codes "Verify") (verify_text fault)
fault_text Full = codes "Full"
