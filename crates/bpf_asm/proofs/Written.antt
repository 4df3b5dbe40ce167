-- The text that is written, unit by unit.
use Rattle.std.proofs.Common.{◌≡◌, ℕ, ◌+◌, ◌≤◌, ◌<◌, ◌++◌, List, Option, Some, None, take, sym, ◌∙◌, ap}
use Rattle.std.specs.Option.{option_to_list}
use Rattle.std.proofs.lemmas.List.{append-nil, take_all}
use Rattle.std.proofs.lemmas.List.Concat.{flat_map-append}
use Rattle.bpf_insn.specs.declared.insn.Insn.{Insn}
use Rattle.bpf_insn.specs.Code.{slots, unit_count, fetch}
use Rattle.bpf_insn.specs.Stored.{insns_of}
use Rattle.bpf_insn.proofs.Codes.{next_insns, all_insns}
use Rattle.bpf_asm.specs.Printed.{line_text, text_of}

-- the text of the instructions that begin at the first units
abbrev pub text_below : List Insn → ℕ → List ℕ
text_below code unit = text_of (insns_of (take unit (slots code)))

more : (code : List Insn) (unit : ℕ) (o : Option Insn) → unit < unit_count code → o ≡ fetch code unit → text_below code (unit + 1) ≡ text_below code unit ++ text_of (option_to_list o)
more code unit o h e =
    ap text_of (next_insns (slots code) unit h)
    ∙ flat_map-append line_text (insns_of (take unit (slots code))) (option_to_list (fetch code unit))
    ∙ ap (λ (p : Option Insn). text_below code unit ++ text_of (option_to_list p)) (sym e)

pub writes_some : (code : List Insn) (unit : ℕ) (before after : List ℕ) (i : Insn) → unit < unit_count code → Some i ≡ fetch code unit → before ≡ text_below code unit → after ≡ before ++ line_text i → after ≡ text_below code (unit + 1)
writes_some code unit before after i h e b a =
    a ∙ ap (λ (xs : List ℕ). xs ++ line_text i) b ∙ ap (λ (xs : List ℕ). text_below code unit ++ xs) (sym (append-nil (line_text i))) ∙ sym (more code unit (Some i) h e)

pub writes_none : (code : List Insn) (unit : ℕ) (before : List ℕ) → unit < unit_count code → None ≡ fetch code unit → before ≡ text_below code unit → before ≡ text_below code (unit + 1)
writes_none code unit before h e b = b ∙ sym (append-nil (text_below code unit)) ∙ sym (more code unit None h e)

pub writes_all : (code : List Insn) (unit : ℕ) (text : List ℕ) → unit_count code ≤ unit → text ≡ text_below code unit → text ≡ text_of code
writes_all code unit text h e = e ∙ ap (λ (xs : List (Option Insn)). text_of (insns_of xs)) (take_all unit (slots code) h) ∙ ap text_of (all_insns code)
