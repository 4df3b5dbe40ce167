-- The state before an instruction, and the configurations that fit it.
use Rattle.std.specs.Prelude.{ℕ, ◌≡◌, ◌<◌, ◌^◌, length, slice_index_or}
use Rattle.bpf_range.specs.declared.kinds.Kind.{Kind}
use Rattle.bpf_range.specs.declared.kinds.Kind.TheVariants.{Unset}
use Rattle.bpf_range.specs.Sets.{In}
use Rattle.bpf_helpers.specs.Machine.{Config, register, stack_size}
use Rattle.bpf_helpers.specs.Runs.{AreBytes}
use Rattle.bpf_flow.specs.declared.state.State.{State}
use Rattle.bpf_flow.specs.Kinds.{HoldsKind}

-- The properties of each configuration of a run.
pub record IsConfig (c : Config) : Type 0 where
  pub eleven : length c.registers ≡ 11
  pub stack_fits : length c.stack ≡ stack_size
  pub are_bytes : AreBytes c.bytes
  pub are_argument : AreBytes c.argument
  pub are_stack : AreBytes c.stack
  pub now_fits : c.env.now < 2 ^ 64
  pub who_fits : c.env.who < 2 ^ 64

-- the kind of a register in a state
abbrev pub kind_in : State → ℕ → Kind
kind_in s r = slice_index_or s.kinds r Unset

-- A configuration fits a state: each register holds a value of its kind, and the lengths are in their ranges.
pub record Fits (s : State) (c : Config) : Type 0 where
  pub kinds : (r : ℕ) → r < 11 → HoldsKind (kind_in s r) (length c.bytes) (length c.argument) (register c r)
  pub bytes : In s.bytes (length c.bytes)
  pub argument : In s.argument (length c.argument)
