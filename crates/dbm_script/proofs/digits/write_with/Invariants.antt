use Rattle.std.proofs.Common.{◌≡◌, ◌+◌, ◌*◌, ◌≤◌, ◌++◌, length, take, vec_len, vec_capacity}
use Rattle.hex.specs.Hex.{encode_with}
use Rattle.dbm_script.proofs.digits.write_with.Given as goal

abbrev pub invariant-loop-byte : goal.invariant-loop-byte
invariant-loop-byte g l =
    record { room : vec_len l.text + 2 * length l.bytes ≤ vec_capacity l.text + 2 * l.byte-index; written : l.text.items ≡ l.initial.text.items ++ encode_with l.table (take l.byte-index l.bytes) }
