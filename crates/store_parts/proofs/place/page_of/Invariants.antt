use Rattle.std.proofs.Common.{◌≡◌, ◌<◌, ℕ, true}
use Rattle.sdbm_addr.specs.Directory.{word_number, hash_prefix}
use Rattle.sdbm_addr.specs.DirectoryFile.{bit_of}
use Rattle.store_parts.proofs.place.page_of.Given as goal

abbrev pub invariant-loop-depth : goal.invariant-loop-depth
invariant-loop-depth l = record {
  number : l.bit ≡ word_number (hash_prefix l.depth l.hash);
  above : (k : ℕ) → k < l.depth → bit_of l.directory (word_number (hash_prefix k l.hash)) ≡ true;
}
