use Rattle.std.proofs.Common.{◌≡◌, ◌<◌, ℕ, get_or, not, true}
use Rattle.bpf_asm.specs.Lines.{is_sign}
use Rattle.bpf_asm.proofs.operands.sign_place.Given as goal

abbrev pub invariant-loop-i : goal.invariant-loop-i
invariant-loop-i l = (k : ℕ) → k < l.i → not (is_sign (get_or l.bytes k 0)) ≡ true
