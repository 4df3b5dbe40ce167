use Rattle.std.proofs.Common.{arith}
use Rattle.bpf_insn.proofs.Images.{image_is_whole}
use Rattle.bpf_insn.proofs.decoding.decode.Goals as goal

pub returns-then-image-ne0-clause-only : goal.returns-then-image-ne0-clause-only
returns-then-image-ne0-clause-only g c = λ code h. absurd (omega (arith, (image_is_whole code c.args.image.now h).0))

pub returns-then-image-gt-UNIT_LIMIT-clause-only : goal.returns-then-image-gt-UNIT_LIMIT-clause-only
returns-then-image-gt-UNIT_LIMIT-clause-only g c = λ code h. absurd (omega (arith, (image_is_whole code c.args.image.now h).1))
