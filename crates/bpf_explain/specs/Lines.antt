-- The instructions of a program, each with the verifier's state before it.
use Rattle.std.specs.Prelude.{ℕ, zero, suc, List, [], ◌++◌, Option, Some, None}
use Rattle.std.specs.Option.{option_map, option_to_list}
use Rattle.bpf_insn.specs.declared.insn.Insn.{Insn}
use Rattle.bpf_insn.specs.Code.{fetch, unit_count}
use Rattle.bpf_verify.specs.States.{States, state_at}
use Rattle.bpf_explain.specs.declared.lines.Line.{Line}

-- the instruction that begins at a unit, with the state before it
abbrev pub line_at : List Insn → States → ℕ → Option Line
line_at code states at = option_map (λ insn. record { at = at; insn = insn; state = state_at states at }) (fetch code at)

-- the instructions that begin before a unit, in order
abbrev pub lines_below : List Insn → States → ℕ → List Line
lines_below code states zero = []
lines_below code states (suc at) = lines_below code states at ++ option_to_list (line_at code states at)

-- all instructions, or those that begin at or before the unit `last`
abbrev pub lines_up_to : List Insn → States → Option ℕ → List Line
lines_up_to code states None = lines_below code states (unit_count code)
lines_up_to code states (Some last) = lines_below code states (suc last)
