use Rattle.std.proofs.Common.{rules, sym}
use Rattle.bpf_asm.proofs.Numbers.{numeral_ok, numeral_large, numeral_utf8, no_plus}
use Rattle.bpf_asm.proofs.words.numeral.Goals as goal

pub returns-in_default : goal.returns-in_default
returns-in_default c = numeral_utf8 c.args.radix c.args.bytes.now c.requires.high (c.in_default.ensures.cases.0)

pub returns-in-Ok-from_str_radix : goal.returns-in-Ok-from_str_radix
returns-in-Ok-from_str_radix c =
    let e = c.in-Ok.ensures.cases.0 in
    let v = rw e at c.in-Ok-from_str_radix.ensures.value in
    numeral_ok c.args.radix c.args.bytes.now c.in-Ok-from_str_radix.number (no_plus c.args.radix c.args.bytes.now c.requires.high (search rules)) v.0.0 (sym v.1)

pub returns-in-Err : goal.returns-in-Err
returns-in-Err c =
    let e = c.in-Ok.ensures.cases.0 in
    let v = rw e at c.in-Err.ensures.value in
    numeral_large c.args.radix c.args.bytes.now (no_plus c.args.radix c.args.bytes.now c.requires.high (search rules)) v
