use Rattle.std.proofs.Common.{◌≡◌, ◌<◌, ℕ, get_or, not, true}
use Rattle.bpf_asm.specs.Text.{is_margin}
use Rattle.bpf_asm.proofs.line.head_len.Given as goal

abbrev pub invariant-loop-i : goal.invariant-loop-i
invariant-loop-i l = (k : ℕ) → k < l.i → not (is_margin (get_or l.bytes k 0)) ≡ true
