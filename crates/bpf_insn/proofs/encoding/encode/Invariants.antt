use Rattle.std.proofs.Common.{◌≡◌, take}
use Rattle.bpf_insn.specs.Code.{image_of, slots}
use Rattle.bpf_insn.specs.Stored.{insns_of}
use Rattle.bpf_insn.proofs.encoding.encode.Given as goal

abbrev pub invariant-loop-unit : goal.invariant-loop-unit
invariant-loop-unit g l = l.image.items ≡ image_of (insns_of (take l.unit (slots l.code)))
