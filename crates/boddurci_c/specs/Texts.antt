-- Programs from their texts (own).
use Rattle.std.specs.Prelude.{◌≡◌, ◌⊎◌, ℕ, List, codes}
use Rattle.std.specs.Str.{IsUtf8}
use Rattle.bpf_insn.specs.declared.insn.Insn.{Insn}
use Rattle.bpf_insn.specs.Code.{IsImage}
use Rattle.bpf_asm.specs.Denotes.{Denotes, DenotesNone, IsOnlyCode}
use Rattle.bpf_asm.specs.Fault.{IsLineOf, fault_text}
use Rattle.bpf_asm.specs.declared.fault.FaultKind.{FaultKind}
use Rattle.bpf_asm.specs.declared.fault.FaultKind.TheVariants as kinds
use Rattle.boddurci_c.specs.declared.texts.TextFault.{TextFault}
use Rattle.boddurci_c.specs.declared.texts.TextFault.TheVariants.{NotText, Line}
use Rattle.boddurci_c.specs.Calls.{IsCopied, IsToldAs}
use Rattle.boddurci_handles.specs.Statuses.{status_code}
use Rattle.boddurci_handles.specs.declared.status.Status.{Status}
use Rattle.boddurci_handles.specs.declared.status.Status.TheVariants.{BadText, NoMemory}

-- the program image of the unique code that the text denotes
pub record IsTextAssembled (text image : List ℕ) : Type 0 where
  pub code : List Insn
  pub denotes : Denotes text code
  pub only : IsOnlyCode text code
  pub is_image : IsImage code image

-- the reason why a text has no program image
abbrev pub IsTextFault : List ℕ → TextFault → Type 0
IsTextFault text NotText = ¬ (IsUtf8 text)
IsTextFault text (Line fault) = IsUtf8 text × (IsLineOf fault.kind fault.line × ((fault.kind ≡ kinds.NoMemory) ⊎ DenotesNone text))

abbrev pub status_of_kind : FaultKind → Status
status_of_kind kinds.NoMemory = NoMemory
status_of_kind kinds.Mnemonic = BadText
status_of_kind kinds.Operand = BadText
status_of_kind kinds.Number = BadText
status_of_kind kinds.Label = BadText
status_of_kind kinds.Backward = BadText
status_of_kind kinds.TooLong = BadText

abbrev pub status_of_text : TextFault → Status
status_of_text NotText = BadText
status_of_text (Line fault) = status_of_kind fault.kind

abbrev pub line_of : TextFault → ℕ
line_of NotText = 0
line_of (Line fault) = fault.line

abbrev pub text_of_fault : TextFault → List ℕ
text_of_fault NotText = codes "NotText"
text_of_fault (Line fault) = fault_text fault

-- the text has no program image; the line and the text of the fault are reported
pub record Garbles (text : List ℕ) (code : ℕ) (line : ℕ) (room_old room_new : List ℕ) (len : ℕ) : Type 0 where
  pub fault : TextFault
  pub is : IsTextFault text fault
  pub status : Status
  pub code_is : code ≡ status_code status
  pub line_is : line ≡ line_of fault
  pub told : IsToldAs (status_of_text fault) (text_of_fault fault) room_old room_new len status

-- the program image of a text is written to a buffer, or the buffer is too short
pub record Assembles (text : List ℕ) (code : ℕ) (room_old room_new : List ℕ) (len : ℕ) : Type 0 where
  pub image : List ℕ
  pub is : IsTextAssembled text image
  pub status : Status
  pub code_is : code ≡ status_code status
  pub copied : IsCopied image room_old room_new len status
