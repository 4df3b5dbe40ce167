use Rattle.std.proofs.Common.{◌<◌, length, refl, rules}
use Rattle.dbm_dump.proofs.Ends.{head_bytes}
use Rattle.dbm_dump.proofs.key_head.KeyHead.of.Goals as goal

pub returns-then-key-lt-HEAD_LEN : goal.returns-then-key-lt-HEAD_LEN
returns-then-key-lt-HEAD_LEN c =
    let short : length c.args.key.now < 32 = search rules in
    record { len_is = refl; bytes_are = head_bytes c.args.key.now c.copy_from_slice.new.self _ c.copy_from_slice.ensures.after short }
